-- Facts that bear one label still do after moves that bear it.
use Rattle.std.proofs.Common.{◌≡◌, ◌∷◌, [], List, Bool, true, false, refl, sym, ◌∙◌, map}
use Rattle.std.specs.Prelude.{not, ◌||◌}
use Rattle.std.specs.List.{list_any}
use Rattle.ss_text.specs.Texts.{Text, text_eq}
use Rattle.ss_text.proofs.KeyLemmas.{text_order, equal_itself, equal_is}
use Rattle.flow_law.specs.Facts.{Fact}
use Rattle.flow_law.specs.Labelled.{AllBear}
use Rattle.counts.specs.declared.moves.Move.{Move}
use Rattle.unfold_op.specs.Moves.{MovesFacts}
use Rattle.unfold_op.proofs.CountLemmas.{beyond_moves}

module _ (label : Text) where
  abbrev bears_other : Fact → Bool
  bears_other f = not (text_eq label f.label)

  no_other : (fs : List Fact) → AllBear label fs → list_any bears_other fs ≡ false
  no_other [] h = refl
  no_other (f ∷ fs) h = rw (h.0, equal_itself text_order label) (no_other fs h.1)

  all_bear : (fs : List Fact) → list_any bears_other fs ≡ false → AllBear label fs
  all_bear [] h = tt
  all_bear (f ∷ fs) h = by_test (text_eq label f.label) refl h (λ rest. all_bear fs rest)
    where
      by_test : (b : Bool) → text_eq label f.label ≡ b → (not b || list_any bears_other fs) ≡ false → (list_any bears_other fs ≡ false → AllBear label fs) → AllBear label (f ∷ fs)
      by_test true e h more = (sym (equal_is text_order label f.label e), more h)
      by_test false e h more = absurd (cc)

  pub bear_after : (old : List Fact) (ms : List (Move Fact)) (new : List Fact) → MovesFacts old ms new → AllBear label old → AllBear label (map (λ (m : Move Fact). m.key) ms) → AllBear label new
  bear_after old ms new h all moved =
      all_bear new (sym ((beyond_moves old ms new h).same bears_other (no_other (map (λ (m : Move Fact). m.key) ms) moved)) ∙ no_other old all)
