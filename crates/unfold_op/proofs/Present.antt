-- The entries that are there after a change, at the places that it names.
use Rattle.std.proofs.Common.{◌≡◌, ◌∷◌, ◌++◌, [], Bool, true, false, List, Option, Some, None, refl, sym, ◌∙◌, ap, map}
use Rattle.std.specs.Prelude.{◌&&◌, ◌||◌, filter, unwrap_or, option_to_list, slice_get}
use Rattle.std.specs.List.{list_any, filter_map, cons_option, AllByRecursion}
use Rattle.std.specs.List.Sorted.{IsStrictlySortedBy}
use Rattle.std.specs.Map.{lookup}
use Rattle.std.specs.declared.cmp.Ordering.{Ordering}
use Rattle.std.proofs.lemmas.Bool.{false≢true}
use Rattle.std.proofs.lemmas.List.Folds.{list_any-append}
use Rattle.ss_text.specs.Texts.{Text, text_eq, text_cmp}
use Rattle.ss_text.specs.Ascending.{ascending, least}
use Rattle.ss_text.proofs.KeyLemmas.{IsKeyOrder, text_order, equal_is, equal_itself, lacks_after}
use Rattle.ss_text.proofs.PairLemmas.{any_ascending, ascending_ascends, any_filtered, same_keys}
use Rattle.ss_text.proofs.SetLemmas.{least_first}
use Rattle.flow_law.specs.Facts.{Fact, values_at}
use Rattle.flow_law.specs.FactTables.{value_for}
use Rattle.unfold_op.specs.Touched.{Place, Entry, place_cmp, place_eq, entry_cmp, entry_eq, bears_entry, SameBeyond}
use Rattle.unfold_op.specs.Kept.{places_of, value_among}
use Rattle.unfold_op.proofs.TouchedLines.{place_order, any_value}
use Rattle.counts.specs.Pairs.{pair_same}
use Rattle.std.specs.Cmp.{on_total, then_total}
use Rattle.std.specs.Cmp.Lexicographic.{nat_list_cmp_total}
use Rattle.std.specs.Ordering.{ordering_then, is_eq}
use Rattle.std.specs.declared.cmp.Ordering.TheVariants as order

-- entries and their order
both_ties : (r s : Ordering) → is_eq r && is_eq s ≡ is_eq (ordering_then r s)
both_ties order.Less s = refl
both_ties order.Equal s = refl
both_ties order.Greater s = refl

pub entry_order : IsKeyOrder entry_cmp entry_eq
entry_order = record {
  total = then_total (on_total (λ (e : Entry). e.0) place_order.total) (on_total (λ (e : Entry). e.1) nat_list_cmp_total);
  same = pair_same place_order.same text_order.same;
  ties = λ a b. rw (place_order.ties a.0 b.0, text_order.ties a.1 b.1) (both_ties (place_cmp a.0 b.0) (text_cmp a.1 b.1));
}

abbrev pub has_entry : List Fact → Entry → Bool
has_entry fs e = list_any (bears_entry e) fs

-- the least of values is the only one
only_one : (vs : List Text) (o : Option Text) → ((v : Text) → list_any (text_eq v) vs ≡ list_any (text_eq v) (option_to_list o)) → least text_cmp vs ≡ o
only_one vs o h =
    least_first text_order.total text_order.same vs
    ∙ ap (λ (ws : List Text). slice_get ws 0) (same_keys text_order (ascending text_cmp vs) (ascending text_cmp (option_to_list o)) (ascending_ascends text_order vs) (ascending_ascends text_order (option_to_list o))
    (λ v. any_ascending text_order v vs ∙ h v ∙ sym (any_ascending text_order v (option_to_list o))))
    ∙ first o
  where
    first : (o : Option Text) → slice_get (ascending text_cmp (option_to_list o)) 0 ≡ o
    first None = refl
    first (Some v) = refl

-- the value of a place that has at most this one
pub value_is : (fs : List Fact) (p : Place) (o : Option Text) → ((v : Text) → has_entry fs (p, v) ≡ list_any (text_eq v) (option_to_list o)) → value_for fs p.0 p.1 ≡ unwrap_or o []
value_is fs p o h = ap (λ (v : Option Text). unwrap_or v []) (only_one (values_at fs p.0 p.1) o (λ v. any_value (text_eq v) p fs ∙ h v))

-- a value among entries of one value for each place
lacks_entry : (p : Place) (v : Text) (es : List Entry) → AllByRecursion (λ (e : Entry). place_eq p e.0 ≡ false) es → list_any (entry_eq (p, v)) es ≡ false
lacks_entry p v [] h = refl
lacks_entry p v (e ∷ es) h = rw h.0 (lacks_entry p v es h.1)

pub found_among : (p : Place) (v : Text) (es : List Entry) → IsStrictlySortedBy place_cmp (map (λ (e : Entry). e.0) es) → list_any (text_eq v) (option_to_list (lookup (place_eq p) es)) ≡ list_any (entry_eq (p, v)) es
unfolding IsStrictlySortedBy
found_among p v [] s = refl
found_among p v (e ∷ es) s = by_test (place_eq p e.0) refl (found_among p v es s.1)
  where
    by_test : (b : Bool) → place_eq p e.0 ≡ b → list_any (text_eq v) (option_to_list (lookup (place_eq p) es)) ≡ list_any (entry_eq (p, v)) es
        → list_any (text_eq v) (option_to_list (lookup (place_eq p) (e ∷ es))) ≡ list_any (entry_eq (p, v)) (e ∷ es)
    by_test true t rest =
        let gone = lacks_entry p v es (lacks_after place_order (λ (d : Entry). d.0) p e es (sym (equal_is place_order p e.0 t)) s.0) in
        rw (t, gone) refl
    by_test false t rest = rw t rest

-- the entries at the named places
module _ (named old new : List Fact) (beyond : SameBeyond named old new) (held_at : Place → Option Entry)
    (own : (p : Place) (e : Entry) → held_at p ≡ Some e → e.0 ≡ p) (one : (e : Entry) → has_entry old e ≡ true → held_at e.0 ≡ Some e) (es : List Entry)
    (are_named : (e : Entry) → list_any (entry_eq e) es ≡ has_entry named e) where
  abbrev touched : List Entry
  touched = ascending entry_cmp (es ++ filter_map held_at (places_of es))

  abbrev pub left : List Entry
  left = filter (has_entry new) touched

  -- a place of an entry
  pub any_place_of : (e : Entry) (ds : List Entry) → list_any (entry_eq e) ds ≡ true → list_any (place_eq e.0) (map (λ (d : Entry). d.0) ds) ≡ true
  any_place_of e [] h = absurd (false≢true h)
  any_place_of e (d ∷ ds) h = by_test (entry_eq e d) refl (λ rest. any_place_of e ds rest)
    where
      first : (a b : Bool) → (a && b) ≡ true → a ≡ true
      first true b h = refl
      first false b h = absurd (false≢true h)

      later : (a : Bool) → (a || true) ≡ true
      later true = refl
      later false = refl

      by_test : (b : Bool) → entry_eq e d ≡ b → (list_any (entry_eq e) ds ≡ true → list_any (place_eq e.0) (map (λ (c : Entry). c.0) ds) ≡ true) → list_any (place_eq e.0) (map (λ (c : Entry). c.0) (d ∷ ds)) ≡ true
      by_test true t rest = ap (λ b. b || list_any (place_eq e.0) (map (λ (c : Entry). c.0) ds)) (first (place_eq e.0 d.0) (text_eq e.1 d.1) t)
      by_test false t rest = ap (λ b. place_eq e.0 d.0 || b) (rest (rw t at h)) ∙ later (place_eq e.0 d.0)

  -- a kept entry stands at its place
  any_held : (e : Entry) (ps : List Place) → list_any (entry_eq e) (filter_map held_at ps) ≡ true → list_any (place_eq e.0) ps ≡ true
  any_held e [] h = absurd (false≢true h)
  any_held e (p ∷ ps) h = by_answer (held_at p) refl (λ rest. any_held e ps rest)
    where
      later : (a : Bool) → (a || true) ≡ true
      later true = refl
      later false = refl

      by_answer : (o : Option Entry) → held_at p ≡ o → (list_any (entry_eq e) (filter_map held_at ps) ≡ true → list_any (place_eq e.0) ps ≡ true) → list_any (place_eq e.0) (p ∷ ps) ≡ true
      by_answer None t rest = ap (λ b. place_eq e.0 p || b) (rest (rw t at h)) ∙ later (place_eq e.0 p)
      by_answer (Some d) t rest = by_test (entry_eq e d) refl
        where
          by_test : (b : Bool) → entry_eq e d ≡ b → list_any (place_eq e.0) (p ∷ ps) ≡ true
          by_test true u =
              let same : e.0 ≡ p = ap (λ (c : Entry). c.0) (equal_is entry_order e d u) ∙ own p d t in
              ap (λ b. b || list_any (place_eq e.0) ps) (ap (place_eq e.0) (sym same) ∙ equal_itself place_order e.0)
          by_test false u = ap (λ b. place_eq e.0 p || b) (rest (rw u at (rw t at h))) ∙ later (place_eq e.0 p)

  held_there : (e : Entry) (ps : List Place) → held_at e.0 ≡ Some e → list_any (place_eq e.0) ps ≡ true → list_any (entry_eq e) (filter_map held_at ps) ≡ true
  held_there e [] k h = absurd (false≢true h)
  held_there e (p ∷ ps) k h = by_test (place_eq e.0 p) refl (λ rest. held_there e ps k rest)
    where
      by_answer : (o : Option Entry) → list_any (entry_eq e) (filter_map held_at ps) ≡ true → list_any (entry_eq e) (cons_option o (filter_map held_at ps)) ≡ true
      by_answer None rest = rest
      by_answer (Some d) rest = ap (λ b. entry_eq e d || b) rest ∙ later (entry_eq e d)
        where
          later : (a : Bool) → (a || true) ≡ true
          later true = refl
          later false = refl

      by_test : (b : Bool) → place_eq e.0 p ≡ b → (list_any (place_eq e.0) ps ≡ true → list_any (entry_eq e) (filter_map held_at ps) ≡ true) → list_any (entry_eq e) (filter_map held_at (p ∷ ps)) ≡ true
      by_test true t rest =
          let at : held_at p ≡ Some e = ap held_at (sym (equal_is place_order e.0 p t)) ∙ k in
          rw (at, equal_itself entry_order e) refl
      by_test false t rest = by_answer (held_at p) (rest (rw t at h))

  any_touched : (e : Entry) → list_any (entry_eq e) touched ≡ (list_any (entry_eq e) es || list_any (entry_eq e) (filter_map held_at (places_of es)))
  any_touched e = any_ascending entry_order e (es ++ filter_map held_at (places_of es)) ∙ list_any-append (entry_eq e) es (filter_map held_at (places_of es))

  pub any_places : (p : Place) → list_any (place_eq p) (places_of es) ≡ list_any (place_eq p) (map (λ (d : Entry). d.0) es)
  any_places p = any_ascending place_order p (map (λ (d : Entry). d.0) es)

  -- what is left has just the entries of the new facts at the named places
  pub any_left : (e : Entry) → list_any (entry_eq e) left ≡ (list_any (place_eq e.0) (places_of es) && has_entry new e)
  any_left e = any_filtered entry_order (has_entry new) e touched ∙ ap (λ b. b && has_entry new e) (any_touched e) ∙ by_case (list_any (entry_eq e) es) (list_any (entry_eq e) (filter_map held_at (places_of es))) (list_any (place_eq e.0) (places_of es)) (has_entry new e) refl refl refl refl
    where
      by_case : (a b c d : Bool) → list_any (entry_eq e) es ≡ a → list_any (entry_eq e) (filter_map held_at (places_of es)) ≡ b → list_any (place_eq e.0) (places_of es) ≡ c → has_entry new e ≡ d
          → ((a || b) && d) ≡ (c && d)
      by_case true b true d s t u v = refl
      by_case true b false d s t u v = absurd (false≢true (sym u ∙ any_places e.0 ∙ any_place_of e es s))
      by_case false true true d s t u v = refl
      by_case false true false d s t u v = absurd (false≢true (sym u ∙ any_held e (places_of es) t))
      by_case false false false d s t u v = refl
      by_case false false true false s t u v = refl
      by_case false false true true s t u v =
          let stays : has_entry old e ≡ true = beyond.same (bears_entry e) (sym (are_named e) ∙ s) ∙ v in
          absurd (false≢true (sym t ∙ held_there e (places_of es) (one e stays) u))

  -- where no two have one place, they give the values
  pub value_left : (p : Place) → IsStrictlySortedBy place_cmp (map (λ (e : Entry). e.0) left) → list_any (place_eq p) (places_of es) ≡ true → value_for new p.0 p.1 ≡ value_among left p
  value_left p s there = value_is new p (lookup (place_eq p) left) (λ v. ap (λ b. b && has_entry new (p, v)) (sym there) ∙ sym (any_left (p, v)) ∙ sym (found_among p v left s))
