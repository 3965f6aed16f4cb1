-- The place of a name among the others.
use Rattle.std.proofs.Common.{◌≡◌, ◌<◌, ◌≤◌, ◌-◌, ◌∷◌, ◌∙◌, [], ℕ, zero, suc, true, false, cond, List, Some, refl, sym, ap, subst, take, drop, length, slice_index_or, arith}
use Rattle.std.specs.Prelude.{nat_lt, insert, remove}
use Rattle.std.specs.List.{AllByRecursion}
use Rattle.std.specs.Option.{option_map_or}
use Rattle.std.specs.declared.cmp.Ordering.TheVariants.{Less, Greater}
use Rattle.std.proofs.lemmas.Bool.Decides.{nat_tests}
use Rattle.std.proofs.lemmas.List.{length-map}
use Rattle.std.proofs.lemmas.List.Edits.{length-remove}
use Rattle.ss_text.specs.Texts.{Text, text_cmp}
use Rattle.ss_text.specs.Keys.{IsPlaceOf, IsPlaceFor}
use Rattle.ss_text.proofs.KeyLemmas.{text_order, placed_for, removed_at, found_at}
use Rattle.schema_model.specs.Catalogue.{RelationValue, DatabaseValue, relation_value, database_value, relation_name, database_name, database_at, database_of}
use Rattle.schema_model.specs.Changes.{with_relations, placed, without, renamed, placed_database, without_database, renamed_database}
use Rattle.schema_model.specs.Sound.{IsSound}
use Rattle.schema_model.specs.declared.change.Change.TheVariants.{RenameRelation, RenameDatabase}
use Rattle.schema_model.proofs.ChangeLemmas.{all_removed}
use Rattle.schema_model.specs.States.{DatabaseState, plain_relation, plain_database, plain_databases}
use Rattle.schema_model.specs.Edits.{Makes, database_edited}
use Rattle.schema_model.specs.declared.edit.CatalogueEdit.TheVariants as outer
use Rattle.schema_model.specs.declared.edit.DatabaseEdit.TheVariants as inner
use Rattle.schema_model.proofs.ReadyLemmas.{within_seen, the_database, shown_at, changed_database}

module _ {A : Type 0} (P : A → Type 0) where
  before_kept : (xs : List A) (t p : ℕ) → t ≤ p → AllByRecursion P (take t xs) → AllByRecursion P (take t (remove xs p))
  before_kept xs zero p le h = tt
  before_kept [] (suc t) zero le h = tt
  before_kept [] (suc t) (suc p) le h = tt
  before_kept (x ∷ xs) (suc t) zero le h = absurd (omega arith)
  before_kept (x ∷ xs) (suc t) (suc p) le h = (h.0, before_kept xs t p (omega arith) h.1)

  after_kept : (xs : List A) (t p : ℕ) → t ≤ p → AllByRecursion P (drop t xs) → AllByRecursion P (drop t (remove xs p))
  after_kept xs zero p le h = all_removed P xs p h
  after_kept [] (suc t) zero le h = tt
  after_kept [] (suc t) (suc p) le h = tt
  after_kept (x ∷ xs) (suc t) zero le h = absurd (omega arith)
  after_kept (x ∷ xs) (suc t) (suc p) le h = after_kept xs t p (omega arith) h

  before_less : (xs : List A) (t p : ℕ) → p ≤ t → AllByRecursion P (take (suc t) xs) → AllByRecursion P (take t (remove xs p))
  before_less xs zero p le h = tt
  before_less [] (suc t) zero le h = tt
  before_less [] (suc t) (suc p) le h = tt
  before_less (x ∷ xs) (suc t) zero le h = h.1
  before_less (x ∷ xs) (suc t) (suc p) le h = (h.0, before_less xs t p (omega arith) h.1)

  after_less : (xs : List A) (t p : ℕ) → p ≤ t → AllByRecursion P (drop (suc t) xs) → AllByRecursion P (drop t (remove xs p))
  after_less [] zero zero le h = tt
  after_less [] zero (suc p) le h = tt
  after_less [] (suc t) zero le h = tt
  after_less [] (suc t) (suc p) le h = tt
  after_less (x ∷ xs) zero zero le h = h
  after_less (x ∷ xs) zero (suc p) le h = absurd (omega arith)
  after_less (x ∷ xs) (suc t) zero le h = h
  after_less (x ∷ xs) (suc t) (suc p) le h = after_less xs t p (omega arith) h

abbrev pub among_others : ℕ → ℕ → ℕ
among_others place gap = cond (nat_lt place gap) (gap - 1) gap

-- where a name would stand once the one at a place is out
pub gap_among_others : {A : Type 0} (key : A → Text) (c : List A) (to : Text) (place gap : ℕ) → place < length c → IsPlaceFor text_cmp key to c gap → IsPlaceFor text_cmp key to (remove c place) (among_others place gap)
gap_among_others key c to place gap within for_gap =
    elim (nat_lt place gap) as (λ b. nat_lt place gap ≡ b → IsPlaceFor text_cmp key to (remove c place) (cond b (gap - 1) gap)) [
      | true ↦ λ e. later gap (greater gap e) for_gap
      | false ↦ λ e. let le = not_greater gap e in let less = length-remove c place within in record {
        within = omega (arith, le, less, within);
        before = before_kept (λ d. text_cmp (key d) to ≡ Less) c gap place le for_gap.before;
        after = after_kept (λ d. text_cmp (key d) to ≡ Greater) c gap place le for_gap.after;
      }
    ] refl
  where
    greater : (g : ℕ) → nat_lt place g ≡ true → place < g
    greater g e = grind (arith, nat_tests)

    not_greater : (g : ℕ) → nat_lt place g ≡ false → g ≤ place
    not_greater g e = grind (arith, nat_tests)

    one_back : (t : ℕ) → suc t - 1 ≡ t
    one_back t = omega arith

    later : (g : ℕ) → place < g → IsPlaceFor text_cmp key to c g → IsPlaceFor text_cmp key to (remove c place) (g - 1)
    later zero lt h = absurd (omega (arith, lt))
    later (suc t) lt h =
        let less = length-remove c place within in
        subst (λ (n : ℕ). IsPlaceFor text_cmp key to (remove c place) n) (sym (one_back t)) (record {
          within = omega (arith, less, h.within);
          before = before_less (λ d. text_cmp (key d) to ≡ Less) c t place (omega (arith, lt)) h.before;
          after = after_less (λ d. text_cmp (key d) to ≡ Greater) c t place (omega (arith, lt)) h.after;
        })

pub database_moved : (ds : List DatabaseState) (room : ℕ) (db to name : Text) (place gap at_gap : ℕ) → IsSound (plain_databases ds) → IsPlaceOf database_name db (plain_databases ds) place → IsPlaceFor text_cmp database_name to (plain_databases ds) gap
    → at_gap ≡ among_others place gap → name ≡ to → Makes ds room (RenameDatabase db to) (outer.Rename place at_gap name)
database_moved ds room db to name place gap at_gap h at for_gap gap_is name_is =
    let c = plain_databases ds in
    let d = database_at place c in
    let new : DatabaseValue = database_value to d.relations in
    let found : database_of c db ≡ Some d = found_at text_order database_name db c place (database_value [] []) h.names.ascend at in
    let gone : without_database db c ≡ remove c place = removed_at text_order database_name db c place h.names.ascend at in
    let among = gap_among_others database_name c to place gap at.within for_gap in
    let less = length-remove c place at.within in
    let put : placed_database new (remove c place) ≡ insert (remove c place) (among_others place gap) new = placed_for text_order database_name new (remove c place) (among_others place gap) among in
    let is : renamed_database db to c ≡ placed_database new (remove c place)
    = ap (λ o. option_map_or (λ (x : DatabaseValue). placed_database (record x { name = to }) (without_database db c)) o c) found ∙ ap (placed_database new) gone in
    subst (λ (g : ℕ). Makes ds room (RenameDatabase db to) (outer.Rename place g name)) (sym gap_is)
    (subst (λ (t : Text). Makes ds room (RenameDatabase db to) (outer.Rename place (among_others place gap) t)) (sym name_is) (record {
      fits = (within_seen ds place at.within, within_seen ds (among_others place gap) (omega (arith, among.within, less)));
      makes = sym (is ∙ put);
    }))

pub relation_moved : (ds : List DatabaseState) (room : ℕ) (db rel to name : Text) (i place gap at_gap : ℕ) (shown : DatabaseState) → IsSound (plain_databases ds) → IsPlaceOf database_name db (plain_databases ds) i → shown ≡ slice_index_or ds i shown
    → IsPlaceOf relation_name rel (plain_database shown).relations place → IsPlaceFor text_cmp relation_name to (plain_database shown).relations gap
    → at_gap ≡ among_others place gap → name ≡ to → Makes ds room (RenameRelation db rel to) (outer.At i (inner.Rename place at_gap name))
relation_moved ds room db rel to name i place gap at_gap shown h at is rel_at for_gap gap_is name_is =
    let rs = (plain_database shown).relations in
    let sound = the_database ds db rel i place shown shown h at is in
    let r = slice_index_or rs place (relation_value [] [] []) in
    let new : RelationValue = relation_value to r.attributes r.rows in
    let found = found_at text_order relation_name rel rs place (relation_value [] [] []) sound.names.ascend rel_at in
    let gone : without rel rs ≡ remove rs place = removed_at text_order relation_name rel rs place sound.names.ascend rel_at in
    let among = gap_among_others relation_name rs to place gap rel_at.within for_gap in
    let less = length-remove rs place rel_at.within in
    let put : placed new (remove rs place) ≡ insert (remove rs place) (among_others place gap) new = placed_for text_order relation_name new (remove rs place) (among_others place gap) among in
    let renamed_is : renamed rel to rs ≡ placed new (remove rs place)
    = ap (λ o. option_map_or (λ (x : RelationValue). placed (record x { name = to }) (without rel rs)) o rs) found ∙ ap (placed new) gone in
    let inside : (g : ℕ) → g < length rs → g < length shown.relations = λ g lt. rw (length-map shown.relations plain_relation) at lt in
    subst (λ (g : ℕ). Makes ds room (RenameRelation db rel to) (outer.At i (inner.Rename place g name))) (sym gap_is)
    (subst (λ (t : Text). Makes ds room (RenameRelation db rel to) (outer.At i (inner.Rename place (among_others place gap) t))) (sym name_is) (record {
      fits = (
        within_seen ds i at.within,
        subst (λ (d : DatabaseState). (place < length d.relations) × (among_others place gap < length d.relations)) (sym (shown_at ds db rel i place shown shown h at is))
            (inside place rel_at.within, inside (among_others place gap) (omega (arith, among.within, less))),
      );
      makes = changed_database ds db rel i place shown shown h at is (database_edited (inner.Rename place (among_others place gap) to)) (with_relations (renamed rel to)) (ap (database_value (plain_database shown).name) (sym (renamed_is ∙ put)));
    }))
