-- The least label that is not legal, where all facts bear one.
use Rattle.std.proofs.Common.{◌≡◌, ◌∙◌, List, [], ◌∷◌, map, true, false, Option, Some, None, refl, ap}
use Rattle.std.specs.Prelude.{Bool, not, filter, if◌then◌else◌, option_map, unwrap_or, slice_get}
use Rattle.std.proofs.lemmas.Cmp.{tied_itself}
use Rattle.ss_text.specs.Texts.{Text, text_cmp}
use Rattle.ss_text.specs.Label.{is_table_label}
use Rattle.ss_text.specs.Ascending.{least, lesser}
use Rattle.ss_text.proofs.KeyLemmas.{text_order}
use Rattle.flow_law.specs.Facts.{Fact}
use Rattle.flow_law.specs.Labelled.{AllBear}

module _ (l : Text) where
  abbrev bad : List Fact → List Text
  bad fs = filter (λ (t : Text). not (is_table_label t)) (map (λ (f : Fact). f.label) fs)

  none_bad : is_table_label l ≡ true → (fs : List Fact) → AllBear l fs → bad fs ≡ []
  none_bad e [] h = refl
  none_bad e (f ∷ fs) h = rw (h.0, e) (none_bad e fs h.1)

  first_bad : is_table_label l ≡ false → (f : Fact) (fs : List Fact) → AllBear l (f ∷ fs) → least text_cmp (bad (f ∷ fs)) ≡ lesser text_cmp l (least text_cmp (bad fs))
  first_bad e f fs h = rw (h.0, e) refl

  all_bad : is_table_label l ≡ false → (f : Fact) (fs : List Fact) → AllBear l (f ∷ fs) → least text_cmp (bad (f ∷ fs)) ≡ Some l
  all_bad e f [] h = first_bad e f [] h
  all_bad e f (g ∷ gs) h = first_bad e f (g ∷ gs) h ∙ ap (lesser text_cmp l) (all_bad e g gs h.1) ∙ rw (tied_itself text_order.total l) refl

-- the first of them tells
pub first_tells : (l : Text) (f : Fact) (fs : List Fact) → AllBear l fs → Some f ≡ slice_get fs 0
    → (if is_table_label f.label then None else Some f.label) ≡ least text_cmp (filter (λ (t : Text). not (is_table_label t)) (map (λ (g : Fact). g.label) fs))
first_tells l f [] h is = absurd (cc)
first_tells l f (g ∷ fs) h is = same ∙ by_label (is_table_label l) refl
  where
    same : (if is_table_label f.label then None else Some f.label) ≡ (if is_table_label l then None else Some l)
    same = ap (λ (t : Text). if is_table_label t then None else Some t) (ap (λ (e : Option Fact). unwrap_or (option_map (λ (x : Fact). x.label) e) []) is ∙ h.0)

    by_label : (b : Bool) → is_table_label l ≡ b → (if is_table_label l then None else Some l) ≡ least text_cmp (bad l (g ∷ fs))
    by_label true e = rw (none_bad l e (g ∷ fs) h, e) refl
    by_label false e = rw (all_bad l e g fs h, e) refl
