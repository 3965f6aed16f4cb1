-- What is known of levels over one another.
use Rattle.std.proofs.Common.{◌≡◌, Bool, true, false, ◌||◌, List, [], ◌∷◌, ◌++◌, Option, None, Some, map, refl, sym, ap, ◌∙◌, cond}
use Rattle.std.specs.Prelude.{option_map, codes}
use Rattle.std.specs.Option.{option_or}
use Rattle.std.specs.List.{AllByRecursion}
use Rattle.std.proofs.lemmas.Bool.{false_from_ne_true, true≢false, or_right, or_parts}
use Rattle.std.proofs.lemmas.List.{append_cancel_left}
use Rattle.std.proofs.lemmas.List.Folds.{list_any-append}
use Rattle.ss_text.specs.Texts.{Text, Row, text_eq, is_in}
use Rattle.ss_text.proofs.KeyLemmas.{text_order, equal_itself}
use Rattle.schema_model.specs.Catalogue.{CatalogueValue}
use Rattle.csv_catalog.specs.FileFaults.{repeated_after, first_repeated}
use Rattle.view_def.specs.Query.{Query}
use Rattle.view_def.specs.Profile.{IsViewOfProfile}
use Rattle.flow_law.specs.declared.line.TableLine.{TableLine}
use Rattle.change_script.proofs.AppliedLaw.{script_applies}
use Rattle.view_meaning.specs.Meaning.{meaning, shape_of}
use Rattle.view_folder.specs.Files.{view_folder, Apart}
use Rattle.view_session.proofs.UpkeepLemmas.{meaning_in_order}
use Rattle.source_law.proofs.NamedLemmas.{same_text}
use Rattle.view_stages.specs.Stages.{refusal_of}
use Rattle.upkeep_law.proofs.TakeLemmas.{meaning_fits_form}
use Rattle.stack_levels.specs.declared.refusal.LevelRefusal.{LevelRefusal}
use Rattle.view_stack.specs.Stands.{given_by}
use Rattle.stack_levels.specs.Levels.{refused_at, one_up, opening_refusal, changing_refusal}
use Rattle.stack_levels.specs.Values.{LevelValue, with_lines, synced_over}
use Rattle.stack_law.specs.Promises.{AllTake}

-- ---- the folders of distinct view databases are distinct
abbrev pub folder_names : List Query → List Text
folder_names qs = map (λ (q : Query). view_folder q.view_db) qs

-- where no text stands among those seen or twice, each stands once, and none that was seen is among them
once_after : (seen names : Row) → repeated_after seen names ≡ None → Apart names × ((x : Text) → is_in x seen ≡ true → is_in x names ≡ false)
unfolding repeated_after
once_after seen [] h = (tt, λ x there. refl)
once_after seen (n ∷ ns) h = by_test (is_in n seen) refl h (λ rest. once_after (seen ++ n ∷ []) ns rest)
  where
    with_last : (x : Text) → is_in x (seen ++ n ∷ []) ≡ (is_in x seen || (text_eq x n || false))
    with_last x = list_any-append (text_eq x) seen (n ∷ [])

    last_is : is_in n (seen ++ n ∷ []) ≡ true
    last_is = with_last n ∙ or_right (is_in n seen) (text_eq n n || false) (ap (λ b. b || false) (equal_itself text_order n))

    by_test : (b : Bool) → is_in n seen ≡ b → cond b (Some n) (repeated_after (seen ++ n ∷ []) ns) ≡ None
        → (repeated_after (seen ++ n ∷ []) ns ≡ None → Apart ns × ((x : Text) → is_in x (seen ++ n ∷ []) ≡ true → is_in x ns ≡ false))
        → Apart (n ∷ ns) × ((x : Text) → is_in x seen ≡ true → is_in x (n ∷ ns) ≡ false)
    by_test true e h more = absurd (cc h)
    by_test false e h more =
        let rest = more h in (
          (rest.1 n last_is, rest.0),
          λ x there. ap (λ b. b || is_in x ns) (other x there) ∙ rest.1 x (with_last x ∙ ap (λ b. b || (text_eq x n || false)) there),
        )
      where
        other : (x : Text) → is_in x seen ≡ true → text_eq x n ≡ false
        other x there = false_from_ne_true _ (λ same. true≢false (sym there ∙ ap (λ (y : Text). is_in y seen) (same_text x n same) ∙ e))

same_folder : (a b : Text) → text_eq (view_folder a) (view_folder b) ≡ true → text_eq a b ≡ true
same_folder a b h = ap (λ (x : Text). text_eq x b) (append_cancel_left (codes "views/") a b (same_text (view_folder a) (view_folder b) h)) ∙ equal_itself text_order b

folder_among : (a : Text) (qs : List Query) → is_in a (map (λ (q : Query). q.view_db) qs) ≡ false → is_in (view_folder a) (folder_names qs) ≡ false
folder_among a [] h = refl
folder_among a (q ∷ qs) h =
    let parts = or_parts (text_eq a q.view_db) (is_in a (map (λ (p : Query). p.view_db) qs)) h in
    ap (λ b. b || is_in (view_folder a) (folder_names qs)) (false_from_ne_true _ (λ same. true≢false (sym (same_folder a q.view_db same) ∙ parts.0))) ∙ folder_among a qs parts.1

folders_once : (qs : List Query) → Apart (map (λ (q : Query). q.view_db) qs) → Apart (folder_names qs)
folders_once [] h = tt
folders_once (q ∷ qs) h = (folder_among q.view_db qs h.0, folders_once qs h.1)

pub folders_apart : (qs : List Query) → first_repeated (map (λ (q : Query). q.view_db) qs) ≡ None → Apart (folder_names qs)
folders_apart qs h = folders_once qs (once_after [] (map (λ (q : Query). q.view_db) qs) h).0

-- ---- texts among others
pub head_among : (d : Text) (ks : List Text) → is_in d (d ∷ ks) ≡ true
head_among d ks = ap (λ b. b || is_in d ks) (equal_itself text_order d)

pub tail_among : (d : Text) (ks : List Text) (x : Text) → is_in x ks ≡ true → is_in x (d ∷ ks) ≡ true
tail_among d ks x h = or_right (text_eq x d) (is_in x ks) h

pub one_among : (d : Text) (ks : List Text) (x : Text) → is_in x (d ∷ []) ≡ true → is_in x (d ∷ ks) ≡ true
one_among d ks x = either (text_eq x d)
  where
    either : (b : Bool) → (b || false) ≡ true → (b || is_in x ks) ≡ true
    either true h = refl
    either false h = absurd (cc h)

-- those among others are not this one, where it is none of them
pub apart_from : (d : Text) (ks : List Text) → is_in d ks ≡ false → (x : Text) → is_in x ks ≡ true → is_in x (d ∷ []) ≡ false
apart_from d ks none x among = by_test (text_eq x d) refl
  where
    by_test : (b : Bool) → text_eq x d ≡ b → (b || false) ≡ false
    by_test true e = absurd (true≢false (sym among ∙ ap (λ (y : Text). is_in y ks) (same_text x d e) ∙ none))
    by_test false e = refl

-- and this one is none of them
pub none_among : (d : Text) (ks : List Text) → is_in d ks ≡ false → (x : Text) → is_in x (d ∷ []) ≡ true → is_in x ks ≡ false
none_among d ks none x one = ap (λ (y : Text). is_in y ks) (same_text x d (either (text_eq x d) one)) ∙ none
  where
    either : (b : Bool) → (b || false) ≡ true → b ≡ true
    either true h = refl
    either false h = absurd (cc h)

-- ---- no level refuses
-- no view over what the one below gives is refused
abbrev pub Unrefused : CatalogueValue → List Query → Type 0
Unrefused c [] = Unit {0}
Unrefused c (q ∷ qs) = (refusal_of c q ≡ None) × Unrefused (given_by c q) qs

none_refused : (o : Option Row) (a b : Option LevelRefusal) → option_or (option_map (refused_at 1) o) (option_or a (option_map one_up b)) ≡ None → (o ≡ None) × (b ≡ None)
none_refused (Some fields) a b h = absurd (cc h)
none_refused None (Some r) b h = absurd (cc h)
none_refused None None (Some r) h = absurd (cc h)
none_refused None None None h = (refl, refl)

pub opening_unrefused : (c : CatalogueValue) (qs : List Query) → opening_refusal c qs ≡ None → Unrefused c qs
opening_unrefused c [] h = tt
opening_unrefused c (q ∷ qs) h =
    let parts = none_refused (refusal_of c q) _ (opening_refusal (given_by c q) qs) h in
    (parts.0, opening_unrefused (given_by c q) qs parts.1)

pub changing_unrefused : (c d : CatalogueValue) (qs : List Query) → changing_refusal c d qs ≡ None → Unrefused d qs
changing_unrefused c d [] h = tt
changing_unrefused c d (q ∷ qs) h =
    let parts = none_refused (refusal_of d q) _ (changing_refusal (given_by c q) (given_by d q) qs) h in
    (parts.0, changing_unrefused (given_by c q) (given_by d q) qs parts.1)

-- so the script of each takes its tables along
pub all_take : (c d : CatalogueValue) (qs : List Query) → AllByRecursion IsViewOfProfile qs → Unrefused c qs → Unrefused d qs → AllTake c d qs
all_take c d [] p h k = tt
all_take c d (q ∷ qs) p h k = (
  script_applies (shape_of q) (meaning c q) (meaning d q) (meaning_in_order c q) (meaning_in_order d q) (meaning_fits_form q p.0 c h.0) (meaning_fits_form q p.0 d k.0),
  all_take (given_by c q) (given_by d q) qs p.1 h.1 k.1,
)

-- ---- the views stay
abbrev pub views_in : List LevelValue → List Query
views_in ls = map (λ (l : LevelValue). l.query) ls

pub views_with_lines : (ls : List LevelValue) (all : List (List TableLine)) → views_in (with_lines ls all) ≡ views_in ls
views_with_lines [] all = refl
views_with_lines (l ∷ ls) [] = refl
views_with_lines (l ∷ ls) (lines ∷ all) = ap (λ (qs : List Query). l.query ∷ qs) (views_with_lines ls all)

pub views_synced : (c : CatalogueValue) (qs : List Query) → views_in (synced_over c qs) ≡ qs
views_synced c [] = refl
views_synced c (q ∷ qs) = ap (λ (ps : List Query). q ∷ ps) (views_synced (given_by c q) qs)
