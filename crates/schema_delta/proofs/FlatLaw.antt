-- Each change of a catalogue moves its flat rows by what moves those of the relation or database that it changes.
use Rattle.std.proofs.Common.{◌≡◌, List, [], ◌∷◌, ◌++◌, Bool, true, false, cond, refl, ap, sym, ◌∙◌, find, Option, Some, None, subst}
use Rattle.std.specs.Prelude.{option_and_then}
use Rattle.std.specs.List.{flat_map, AllByRecursion}
use Rattle.ss_text.specs.Texts.{Text, Row, text_eq}
use Rattle.ss_text.specs.Places.{changed_where}
use Rattle.ss_text.proofs.KeyLemmas.{text_order, equal_is}
use Rattle.operator_law.specs.declared.delta.Signed.{Signed}
use Rattle.operator_law.specs.Bags.{MovesBag, all_signed}
use Rattle.operator_law.proofs.SignedRows.{stays, moves_on}
use Rattle.fold_op.specs.declared.change.SheetChange.{SheetChange}
use Rattle.fold_op.specs.Sheets.{sheet_after}
use Rattle.schema_model.specs.Catalogue.{RelationValue, DatabaseValue, CatalogueValue, relation_value, database_value, relation_name, database_name, database_of, relation_in, relation_of}
use Rattle.schema_model.specs.Changes.{after, at_database, with_relations, at_relation, placed, without, renamed, without_database}
use Rattle.schema_model.specs.declared.change.Change.TheVariants.{CreateRelation, DropRelation, RenameRelation, CreateDatabase, DropDatabase, RenameDatabase}
use Rattle.schema_model.specs.Sound.{IsSound, IsDatabase}
use Rattle.unite_op.specs.NamedThings.{moves_behind}
use Rattle.unite_op.proofs.UniteLemmas.{moves_rows_behind}
use Rattle.schema_delta.specs.Flat.{flat, whole, part, own, inside, goes_over, sheet_of, changed_relation}
use Rattle.schema_delta.specs.declared.spec.FlatSpec.{FlatSpec}
use Rattle.schema_delta.proofs.ListLemmas.{one_changes, one_comes, one_goes, still_none, beside}

-- what holds of all holds of the one that is found
pub found_holds : {X : Type 0} (P : X → Type 0) (p : X → Bool) (xs : List X) (x : X) → AllByRecursion P xs → find p xs ≡ Some x → P x
found_holds P p [] x all found = absurd (cc)
found_holds P p (y ∷ xs) x all found =
    elim (p y) as (λ b. p y ≡ b → cond b (Some y) (find p xs) ≡ Some x → P x) [
      | true ↦ λ e is. let same : y ≡ x = cc in subst P same all.0
      | false ↦ λ e is. found_holds P p xs x all.1 is
    ] refl found

-- what is found through another is found in it
pub found_both : {X Y : Type 0} (o : Option X) (f : X → Option Y) (y : Y) → option_and_then f o ≡ Some y → (x : X) × (o ≡ Some x) × (f x ≡ Some y)
found_both None f y h = absurd (cc)
found_both (Some x) f y h = (x, refl, h)

-- a database that is found bears the name
found_name : (c : CatalogueValue) (db : Text) (d : DatabaseValue) → database_of c db ≡ Some d → d.name ≡ db
found_name [] db d found = absurd (cc)
found_name (e ∷ c) db d found =
    elim (text_eq db e.name) as (λ b. text_eq db e.name ≡ b → cond b (Some e) (database_of c db) ≡ Some d → d.name ≡ db) [
      | true ↦ λ same is. let one : e ≡ d = cc in ap (λ (x : DatabaseValue). x.name) (sym one) ∙ sym (equal_is text_order db e.name same)
      | false ↦ λ _ is. found_name c db d is
    ] refl found

-- what is contributed behind both names moves as what is contributed inside
pub part_moved : (s : FlatSpec) (db : Text) (r : RelationValue) (g : SheetChange) (ms : List Signed) → goes_over s.range db r.name ≡ true → MovesBag (inside s.range s.wanted s.folded (sheet_of r)) ms (inside s.range s.wanted s.folded (sheet_after g (sheet_of r))) → MovesBag (part s db r) (moves_behind (db ∷ r.name ∷ []) ms) (part s db (changed_relation g r))
part_moved s db r g ms over moved = rw over (moves_rows_behind (db ∷ r.name ∷ []) _ _ ms moved)

pub part_stays : (s : FlatSpec) (db : Text) (r : RelationValue) (g : SheetChange) → goes_over s.range db r.name ≡ false → MovesBag (part s db r) [] (part s db (changed_relation g r))
part_stays s db r g over = rw over (stays [] [] refl)

module _ (s : FlatSpec) (c : CatalogueValue) (sound : IsSound c) (db : Text) where
  -- what moves the flat rows of a database's relations moves those of the catalogue
  relations_move : (d : DatabaseValue) (G : List RelationValue → List RelationValue) (ms : List Signed) → database_of c db ≡ Some d → MovesBag (flat_map (part s d.name) d.relations) ms (flat_map (part s d.name) (G d.relations)) → MovesBag (flat c s) ms (flat (at_database db (with_relations G) c) s)
  relations_move d G ms found moved =
      one_changes database_name (whole s) db (with_relations G) c d ms sound.names.ascend found
      (beside (own s.range d.name) (flat_map (part s d.name) d.relations) (flat_map (part s d.name) (G d.relations)) ms moved)

  database_sound : (d : DatabaseValue) → database_of c db ≡ Some d → IsDatabase d
  database_sound d found = found_holds IsDatabase (λ (d : DatabaseValue). text_eq db d.name) c d sound.databases found

  -- a relation is changed
  pub changed_law : (rel : Text) (r : RelationValue) (F : RelationValue → RelationValue) (ms : List Signed) → relation_of c db rel ≡ Some r → MovesBag (part s db r) ms (part s db (F r)) → MovesBag (flat c s) ms (flat (at_relation db rel F c) s)
  changed_law rel r F ms there moved =
      let both = found_both (database_of c db) (relation_in rel) r there in
      let d : DatabaseValue = both.0 in
      relations_move d (changed_where (λ (r : RelationValue). text_eq rel r.name) F) ms both.1
      (one_changes relation_name (part s d.name) rel F d.relations r ms (database_sound d both.1).names.ascend both.2
      (subst (λ n. MovesBag (part s n r) ms (part s n (F r))) (sym (found_name c db d both.1)) moved))

  -- a relation comes
  pub created_law : (rel : Text) (names : Row) (d : DatabaseValue) → database_of c db ≡ Some d → relation_in rel d ≡ None → MovesBag (flat c s) (all_signed true (part s db (relation_value rel names []))) (flat (after c (CreateRelation db rel names)) s)
  created_law rel names d found free =
      let r : RelationValue = relation_value rel names [] in
      relations_move d (placed r) (all_signed true (part s db r)) found
      (subst (λ n. MovesBag (flat_map (part s d.name) d.relations) (all_signed true (part s n r)) (flat_map (part s d.name) (placed r d.relations))) (found_name c db d found)
      (one_comes relation_name (part s d.name) r d.relations free))

  -- a relation goes
  pub dropped_law : (rel : Text) (r : RelationValue) → relation_of c db rel ≡ Some r → MovesBag (flat c s) (all_signed false (part s db r)) (flat (after c (DropRelation db rel)) s)
  dropped_law rel r there =
      let both = found_both (database_of c db) (relation_in rel) r there in
      let d : DatabaseValue = both.0 in
      relations_move d (without rel) (all_signed false (part s db r)) both.1
      (subst (λ n. MovesBag (flat_map (part s d.name) d.relations) (all_signed false (part s n r)) (flat_map (part s d.name) (without rel d.relations))) (found_name c db d both.1)
      (one_goes relation_name (part s d.name) rel d.relations r (database_sound d both.1).names.ascend both.2))

  -- a relation goes and comes under another name
  pub renamed_law : (rel to : Text) (r : RelationValue) (d : DatabaseValue) → database_of c db ≡ Some d → relation_of c db rel ≡ Some r → relation_in to d ≡ None → MovesBag (flat c s) (all_signed false (part s db r) ++ all_signed true (part s db (record r { name = to }))) (flat (after c (RenameRelation db rel to)) s)
  renamed_law rel to r d found there free =
      let new : RelationValue = record r { name = to } in
      let relation : relation_in rel d ≡ Some r = sym (ap (option_and_then (relation_in rel)) found) ∙ there in
      let gone = one_goes relation_name (part s d.name) rel d.relations r (database_sound d found).names.ascend relation in
      let come = one_comes relation_name (part s d.name) new (without rel d.relations) (still_none relation_name (part s d.name) to rel d.relations free) in
      let both : MovesBag (flat_map (part s d.name) d.relations) (all_signed false (part s d.name r) ++ all_signed true (part s d.name new)) (flat_map (part s d.name) (renamed rel to d.relations)) =
      rw relation (moves_on _ _ _ (all_signed false (part s d.name r)) (all_signed true (part s d.name new)) gone come) in
      relations_move d (renamed rel to) (all_signed false (part s db r) ++ all_signed true (part s db new)) found
      (subst (λ n. MovesBag (flat_map (part s d.name) d.relations) (all_signed false (part s n r) ++ all_signed true (part s n new)) (flat_map (part s d.name) (renamed rel to d.relations))) (found_name c db d found) both)

  -- a database comes without relations
  pub database_created_law : database_of c db ≡ None → MovesBag (flat c s) (all_signed true (whole s (database_value db []))) (flat (after c (CreateDatabase db)) s)
  database_created_law free = one_comes database_name (whole s) (database_value db []) c free

  -- a database goes with its relations
  pub database_dropped_law : (d : DatabaseValue) → database_of c db ≡ Some d → MovesBag (flat c s) (all_signed false (whole s d)) (flat (after c (DropDatabase db)) s)
  database_dropped_law d there = one_goes database_name (whole s) db c d sound.names.ascend there

  -- a database goes and comes under another name, with its relations
  pub database_renamed_law : (to : Text) (d : DatabaseValue) → database_of c db ≡ Some d → database_of c to ≡ None → MovesBag (flat c s) (all_signed false (whole s d) ++ all_signed true (whole s (database_value to d.relations))) (flat (after c (RenameDatabase db to)) s)
  database_renamed_law to d there free =
      let new : DatabaseValue = database_value to d.relations in
      let gone = one_goes database_name (whole s) db c d sound.names.ascend there in
      let come = one_comes database_name (whole s) new (without_database db c) (still_none database_name (whole s) to db c free) in
      rw there (moves_on _ _ _ (all_signed false (whole s d)) (all_signed true (whole s new)) gone come)
