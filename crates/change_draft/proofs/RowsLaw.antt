-- What changes of rows leave, and how often a row is there after them.
use Rattle.std.proofs.Common.{Decides, ◌⊎◌, inl, inr, ◌≡◌, ◌∷◌, ◌++◌, ◌∙◌, ◌+◌, ◌-◌, ◌≤◌, ◌<◌, [], ℕ, zero, suc, List, Option, Some, None, Bool, true, false, cond, not, refl, sym, ap, subst, find, map, length, arith, get_or}
use Rattle.std.specs.Prelude.{◌&&◌, ◌||◌, nat_le, nat_lt, IsTrue, is_none, is_some, option_map, option_and_then, count_by, remove}
use Rattle.std.specs.List.{AllByRecursion, list_any, position_or_len}
use Rattle.std.specs.Option.{option_map_or, option_or}
use Rattle.std.proofs.lemmas.List.{length-map}
use Rattle.std.proofs.lemmas.List.Sums.{sum_by-cons, sum_by_push, sum_by-remove, passes_at_first}
use Rattle.std.proofs.lemmas.Bool.Decides.{same_from_decides, leb_tells, Decides-ltb}
use Rattle.std.proofs.lemmas.Bool.{false≢true}
use Rattle.std.proofs.lemmas.Iterator.Adapters.{option_map_id}
use Rattle.ss_text.specs.Texts.{Text, Row, text_eq, row_eq}
use Rattle.ss_text.specs.Places.{changed_where}
use Rattle.ss_text.proofs.KeyLemmas.{text_order, row_order, equal_is}
use Rattle.ss_text.proofs.PairLemmas.{turned}
use Rattle.schema_model.specs.Catalogue.{RelationValue, DatabaseValue, CatalogueValue, database_value, database_of, relation_in, relation_of, relations_of, attributes_of, rows_of, row_count, with_row}
use Rattle.schema_model.specs.Changes.{after, after_all, at_relation, at_relation_in, with_relations, less_row, is_well_formed}
use Rattle.schema_model.specs.Refusals.{fault, group_fault, row_fault, first_of, where_true, no_database, no_relation, arity_differs, full, no_row}
use Rattle.schema_model.specs.Sound.{IsSound}
use Rattle.schema_model.specs.declared.change.Change.{Change}
use Rattle.schema_model.specs.declared.change.Change.TheVariants.{Insert, Delete, AddAttribute, DropAttribute, RenameAttribute, CreateRelation, DropRelation, RenameRelation, CreateDatabase, DropDatabase, RenameDatabase}
use Rattle.schema_model.specs.declared.refusal.Refusal.{Refusal}
use Rattle.schema_model.specs.declared.refusal.Refusal.TheVariants.{NoRow, Limit}
use Rattle.schema_model.specs.declared.refusal.Which.TheVariants.{Rows}
use Rattle.counts.specs.Counted.{counted}
use Rattle.schema_model.proofs.Asks.{Standing, insert_has, delete_has}
use Rattle.schema_model.proofs.ChangeLemmas.{place_within}
use Rattle.schema_model.proofs.SoundAfter.{sound_after}
use Rattle.schema_model.proofs.CountAfter.{count_after, row_within}
use Rattle.schema_model.proofs.GroupLemmas.{first_none}
use Rattle.change_draft.specs.Drafts.{bare, without_rows}
use Rattle.change_draft.specs.Named.{NamedRow, named, named_eq}
use Rattle.change_draft.specs.Counted.{AreCounted, inserts, deletes, brings, takes, is_of_rows}
use Rattle.change_draft.specs.declared.counted.RowCounts.{RowCounts}
use Rattle.change_draft.proofs.DraftLemmas.{all_more}
use Rattle.schema_model.specs.Limits.{most_rows}

abbrev pub AreOfRows : List Change → Type 0
AreOfRows gs = AllByRecursion (λ g. IsTrue (is_of_rows g)) gs

-- sums
one_then : (first next last out into outs ins all_outs all_ins : ℕ) → next + out ≡ first + into → last + outs ≡ next + ins → all_outs ≡ out + outs → all_ins ≡ into + ins → last + all_outs ≡ first + all_ins
one_then first next last out into outs ins all_outs all_ins h k e f = omega (arith, h, k, e, f)

plus_none : (a b : ℕ) → a ≡ b → a + 0 ≡ b
plus_none a b e = omega (arith, e)

less_one : (a b : ℕ) → 1 ≤ b → a ≡ b - 1 → a + 1 ≡ b + 0
less_one a b h e = omega (arith, h, e)

-- what is found by its name among things that are changed under their names
module _ {A : Type 0} (key : A → Text) (f : A → A) (keeps : (x : A) → key (f x) ≡ key x) where
  find_mapped : (k : Text) (xs : List A) → find (λ x. text_eq k (key x)) (map f xs) ≡ option_map f (find (λ x. text_eq k (key x)) xs)
  find_mapped k [] = refl
  find_mapped k (x ∷ xs) =
      rw (keeps x) (elim (text_eq k (key x)) as (λ b. cond b (Some (f x)) (find (λ x. text_eq k (key x)) (map f xs)) ≡ option_map f (cond b (Some x) (find (λ x. text_eq k (key x)) xs))) [
        | true ↦ refl
        | false ↦ find_mapped k xs
      ])

  find_changed : (j k : Text) (xs : List A) → find (λ x. text_eq k (key x)) (changed_where (λ x. text_eq j (key x)) f xs) ≡ option_map (λ x. cond (text_eq j k) (f x) x) (find (λ x. text_eq k (key x)) xs)
  find_changed j k [] = refl
  find_changed j k (x ∷ xs) = here (find_changed j k xs) (text_eq k (key x)) refl (text_eq j (key x)) refl
    where
      rest : List A
      rest = changed_where (λ x. text_eq j (key x)) f xs

      here : find (λ x. text_eq k (key x)) rest ≡ option_map (λ x. cond (text_eq j k) (f x) x) (find (λ x. text_eq k (key x)) xs)
          → (b : Bool) → text_eq k (key x) ≡ b → (a : Bool) → text_eq j (key x) ≡ a
          → find (λ x. text_eq k (key x)) (cond (text_eq j (key x)) (f x) x ∷ rest) ≡ option_map (λ x. cond (text_eq j k) (f x) x) (cond (text_eq k (key x)) (Some x) (find (λ x. text_eq k (key x)) xs))
      here others true e true d = rw (d, keeps x, e, equal_is text_order k (key x) e, d) refl
      here others true e false d = rw (d, e, equal_is text_order k (key x) e, d) refl
      here others false e true d = rw (d, keeps x, e) others
      here others false e false d = rw (d, e) others

-- a catalogue has the names and the attributes that it has without rows
bare_database : (c : CatalogueValue) (db : Text) → database_of (without_rows c) db ≡ option_map (with_relations (map bare)) (database_of c db)
bare_database c db = find_mapped (λ (d : DatabaseValue). d.name) (with_relations (map bare)) (λ d. refl) db c

bare_relation : (c : CatalogueValue) (db rel : Text) → relation_of (without_rows c) db rel ≡ option_map bare (relation_of c db rel)
bare_relation c db rel = rw (bare_database c db) (elim (database_of c db) as (λ o. option_and_then (relation_in rel) (option_map (with_relations (map bare)) o) ≡ option_map bare (option_and_then (relation_in rel) o)) [
  | None ↦ refl
  | Some d ↦ find_mapped (λ (r : RelationValue). r.name) bare (λ r. refl) rel d.relations
])

no_database_bare : (c : CatalogueValue) (db : Text) → is_none (database_of (without_rows c) db) ≡ is_none (database_of c db)
no_database_bare c db = rw (bare_database c db) (elim (database_of c db) as (λ o. is_none (option_map (with_relations (map bare)) o) ≡ is_none o) [ None ↦ refl | Some d ↦ refl ])

some_database_bare : (c : CatalogueValue) (db : Text) → is_some (database_of (without_rows c) db) ≡ is_some (database_of c db)
some_database_bare c db = rw (bare_database c db) (elim (database_of c db) as (λ o. is_some (option_map (with_relations (map bare)) o) ≡ is_some o) [ None ↦ refl | Some d ↦ refl ])

no_relation_bare : (c : CatalogueValue) (db rel : Text) → is_none (relation_of (without_rows c) db rel) ≡ is_none (relation_of c db rel)
no_relation_bare c db rel = rw (bare_relation c db rel) (elim (relation_of c db rel) as (λ o. is_none (option_map bare o) ≡ is_none o) [ None ↦ refl | Some r ↦ refl ])

some_relation_bare : (c : CatalogueValue) (db rel : Text) → is_some (relation_of (without_rows c) db rel) ≡ is_some (relation_of c db rel)
some_relation_bare c db rel = rw (bare_relation c db rel) (elim (relation_of c db rel) as (λ o. is_some (option_map bare o) ≡ is_some o) [ None ↦ refl | Some r ↦ refl ])

attributes_bare : (c : CatalogueValue) (db rel : Text) → attributes_of (without_rows c) db rel ≡ attributes_of c db rel
attributes_bare c db rel = rw (bare_relation c db rel) (elim (relation_of c db rel) as (λ o. option_map_or (λ (r : RelationValue). r.attributes) (option_map bare o) [] ≡ option_map_or (λ (r : RelationValue). r.attributes) o []) [ None ↦ refl | Some r ↦ refl ])

relations_bare : (c : CatalogueValue) (db : Text) → length (relations_of (without_rows c) db) ≡ length (relations_of c db)
relations_bare c db = rw (bare_database c db) (elim (database_of c db) as (λ o. length (option_map_or (λ (d : DatabaseValue). d.relations) (option_map (with_relations (map bare)) o) []) ≡ length (option_map_or (λ (d : DatabaseValue). d.relations) o [])) [
  | None ↦ refl
  | Some d ↦ length-map d.relations bare
])

-- so a change of another kind is refused alike, and a change of rows by names and width
schema_bare : (c : CatalogueValue) (g : Change) → is_of_rows g ≡ false → fault (without_rows c) g ≡ fault c g
schema_bare c (Insert db rel row) h = absurd (cc)
schema_bare c (Delete db rel row) h = absurd (cc)
schema_bare c (AddAttribute db rel name fill) h = rw (no_database_bare c db, no_relation_bare c db rel, attributes_bare c db rel) refl
schema_bare c (DropAttribute db rel name) h = rw (no_database_bare c db, no_relation_bare c db rel, attributes_bare c db rel) refl
schema_bare c (RenameAttribute db rel name to) h = rw (no_database_bare c db, no_relation_bare c db rel, attributes_bare c db rel) refl
schema_bare c (CreateRelation db rel attributes) h = rw (no_database_bare c db, some_relation_bare c db rel, relations_bare c db) refl
schema_bare c (DropRelation db rel) h = rw (no_database_bare c db, no_relation_bare c db rel) refl
schema_bare c (RenameRelation db rel to) h = rw (no_database_bare c db, no_relation_bare c db rel, some_relation_bare c db to) refl
schema_bare c (CreateDatabase db) h = rw (some_database_bare c db, length-map c (with_relations (map bare))) refl
schema_bare c (DropDatabase db) h = rw (no_database_bare c db) refl
schema_bare c (RenameDatabase db to) h = rw (no_database_bare c db, some_database_bare c to) refl

rows_bare : (c : CatalogueValue) (db rel : Text) (row : Row) → row_fault (without_rows c) db rel row ≡ row_fault c db rel row
rows_bare c db rel row = rw (no_database_bare c db, no_relation_bare c db rel, attributes_bare c db rel) refl

pub schema_alike : (c e : CatalogueValue) (g : Change) → is_of_rows g ≡ false → without_rows c ≡ without_rows e → fault c g ≡ fault e g
schema_alike c e g h same = sym (schema_bare c g h) ∙ ap (λ k. fault k g) same ∙ schema_bare e g h

pub rows_alike : (c e : CatalogueValue) (db rel : Text) (row : Row) → without_rows c ≡ without_rows e → row_fault c db rel row ≡ row_fault e db rel row
rows_alike c e db rel row same = sym (rows_bare c db rel row) ∙ ap (λ k. row_fault k db rel row) same ∙ rows_bare e db rel row

-- a change of rows leaves all else
module _ (f : RelationValue → RelationValue) (keeps : (r : RelationValue) → bare (f r) ≡ bare r) where
  relations_left : (rel : Text) (rs : List RelationValue) → map bare (changed_where (λ r. text_eq rel r.name) f rs) ≡ map bare rs
  relations_left rel [] = refl
  relations_left rel (r ∷ rs) =
      rw (relations_left rel rs) (elim (text_eq rel r.name) as (λ b. bare (cond b (f r) r) ∷ map bare rs ≡ bare r ∷ map bare rs) [
        | true ↦ ap (λ x. x ∷ map bare rs) (keeps r)
        | false ↦ refl
      ])

  catalogue_left : (db rel : Text) (c : CatalogueValue) → without_rows (at_relation db rel f c) ≡ without_rows c
  catalogue_left db rel [] = refl
  catalogue_left db rel (d ∷ c) =
      rw (catalogue_left db rel c) (elim (text_eq db d.name) as (λ b. with_relations (map bare) (cond b (at_relation_in rel f d) d) ∷ without_rows c ≡ with_relations (map bare) d ∷ without_rows c) [
        | true ↦ ap (λ rs. database_value d.name rs ∷ without_rows c) (relations_left rel d.relations)
        | false ↦ refl
      ])

left_by : (c : CatalogueValue) (g : Change) → IsTrue (is_of_rows g) → without_rows (after c g) ≡ without_rows c
left_by c (Insert db rel row) h = catalogue_left (with_row row) (λ r. refl) db rel c
left_by c (Delete db rel row) h = catalogue_left (less_row row) (λ r. refl) db rel c
left_by c (AddAttribute db rel name fill) h = absurd (cc)
left_by c (DropAttribute db rel name) h = absurd (cc)
left_by c (RenameAttribute db rel name to) h = absurd (cc)
left_by c (CreateRelation db rel attributes) h = absurd (cc)
left_by c (DropRelation db rel) h = absurd (cc)
left_by c (RenameRelation db rel to) h = absurd (cc)
left_by c (CreateDatabase db) h = absurd (cc)
left_by c (DropDatabase db) h = absurd (cc)
left_by c (RenameDatabase db to) h = absurd (cc)

pub left_by_all : (c : CatalogueValue) (gs : List Change) → AreOfRows gs → without_rows (after_all c gs) ≡ without_rows c
left_by_all c [] h = refl
left_by_all c (g ∷ gs) h = left_by_all (after c g) gs h.1 ∙ left_by c g h.0

-- the relation of some names after a change of one relation
relation_changed : (c : CatalogueValue) (db rel : Text) (f : RelationValue → RelationValue) → ((r : RelationValue) → (f r).name ≡ r.name) → (d r : Text) → relation_of (at_relation db rel f c) d r ≡ option_map (λ x. cond (text_eq db d && text_eq rel r) (f x) x) (relation_of c d r)
relation_changed c db rel f keeps d r =
    rw (find_changed (λ (x : DatabaseValue). x.name) (at_relation_in rel f) (λ x. refl) db d c) (elim (database_of c d) as (λ o. option_and_then (relation_in r) (option_map (λ x. cond (text_eq db d) (at_relation_in rel f x) x) o) ≡ option_map (λ x. cond (text_eq db d && text_eq rel r) (f x) x) (option_and_then (relation_in r) o)) [
      | None ↦ refl
      | Some x ↦ elim (text_eq db d) as (λ b. relation_in r (cond b (at_relation_in rel f x) x) ≡ option_map (λ y. cond (b && text_eq rel r) (f y) y) (relation_in r x)) [
        | true ↦ find_changed (λ (y : RelationValue). y.name) f keeps rel r x.relations
        | false ↦ sym (option_map_id (relation_in r x))
      ]
    ])

-- how often a row is there with one more behind, and without the first that equals one
copies_with : (w row : Row) (rows : List Row) → count_by (row_eq w) (rows ++ row ∷ []) ≡ count_by (row_eq w) rows + cond (row_eq row w) 1 0
copies_with w row rows = sum_by_push (λ x. cond (row_eq w x) 1 0) rows row ∙ ap (λ b. count_by (row_eq w) rows + cond b 1 0) (turned row_order w row)

copies_less : (w row : Row) (rows : List Row) → list_any (row_eq row) rows ≡ true → count_by (row_eq w) (remove rows (position_or_len (row_eq row) rows)) + cond (row_eq row w) 1 0 ≡ count_by (row_eq w) rows
copies_less w row rows there =
    let i = position_or_len (row_eq row) rows in
    let lt : i < length rows = place_within (row_eq row) rows there in
    let same : row ≡ get_or rows i row = equal_is row_order row (get_or rows i row) (passes_at_first (row_eq row) rows row lt) in
    let less = sum_by-remove (λ x. cond (row_eq w x) 1 0) rows i row lt in
    ap (λ b. count_by (row_eq w) (remove rows i) + cond b 1 0) (turned row_order row w ∙ ap (row_eq w) same) ∙ less

-- two names that are equal are the same
both_same : (a b d r : Text) → (text_eq a d && text_eq b r) ≡ true → (a ≡ d) × (b ≡ r)
both_same a b d r h = here (text_eq a d) refl (text_eq b r) refl
  where
    here : (x : Bool) → text_eq a d ≡ x → (y : Bool) → text_eq b r ≡ y → (a ≡ d) × (b ≡ r)
    here true e true f = (equal_is text_order a d e, equal_is text_order b r f)
    here true e false f = absurd (cc)
    here false e y f = absurd (cc)

found_at : (c : CatalogueValue) (db rel : Text) (at : Standing c db rel) → relation_of c db rel ≡ Some at.r
found_at c db rel at = ap (option_and_then (relation_in rel)) at.database ∙ at.relation

found_there : (c : CatalogueValue) (db rel d r : Text) (at : Standing c db rel) (o : Option RelationValue) → relation_of c d r ≡ o → (text_eq db d && text_eq rel r) ≡ true → o ≡ Some at.r
found_there c db rel d r at o is h =
    let same = both_same db rel d r h in
    sym is ∙ ap (λ x. relation_of c x r) (sym same.0) ∙ ap (relation_of c db) (sym same.1) ∙ found_at c db rel at

abbrev rows_in : Option RelationValue → List Row
rows_in o = option_map_or (λ (r : RelationValue). r.rows) o []

-- how often a row is there after one change of rows
brought : (n : NamedRow) (c : CatalogueValue) (db rel : Text) (row : Row) → fault c (Insert db rel row) ≡ None
    → count_by (row_eq n.row) (rows_of (after c (Insert db rel row)) n.db n.rel) ≡ count_by (row_eq n.row) (rows_of c n.db n.rel) + cond (named_eq (named db rel row) n) 1 0
brought n c db rel row none = rw (relation_changed c db rel (with_row row) (λ r. refl) n.db n.rel) (here (relation_of c n.db n.rel) refl (text_eq db n.db && text_eq rel n.rel) refl)
  where
    here : (o : Option RelationValue) → relation_of c n.db n.rel ≡ o → (b : Bool) → (text_eq db n.db && text_eq rel n.rel) ≡ b
        → count_by (row_eq n.row) (rows_in (option_map (λ x. cond b (with_row row x) x) o)) ≡ count_by (row_eq n.row) (rows_in o) + cond (b && row_eq row n.row) 1 0
    here None is true h = let there = found_there c db rel n.db n.rel (insert_has c db rel row none).at None is h in absurd (cc)
    here None is false h = refl
    here (Some x) is true h = copies_with n.row row x.rows
    here (Some x) is false h = sym (plus_none _ _ refl)

taken : (n : NamedRow) (c : CatalogueValue) (db rel : Text) (row : Row) → fault c (Delete db rel row) ≡ None
    → count_by (row_eq n.row) (rows_of (after c (Delete db rel row)) n.db n.rel) + cond (named_eq (named db rel row) n) 1 0 ≡ count_by (row_eq n.row) (rows_of c n.db n.rel)
taken n c db rel row none = rw (relation_changed c db rel (less_row row) (λ r. refl) n.db n.rel) (here (relation_of c n.db n.rel) refl (text_eq db n.db && text_eq rel n.rel) refl)
  where
    here : (o : Option RelationValue) → relation_of c n.db n.rel ≡ o → (b : Bool) → (text_eq db n.db && text_eq rel n.rel) ≡ b
        → count_by (row_eq n.row) (rows_in (option_map (λ x. cond b (less_row row x) x) o)) + cond (b && row_eq row n.row) 1 0 ≡ count_by (row_eq n.row) (rows_in o)
    here None is true h = let there = found_there c db rel n.db n.rel (delete_has c db rel row none).at None is h in absurd (cc)
    here None is false h = refl
    here (Some x) is true h =
        let has = delete_has c db rel row none in
        let same : Some x ≡ Some has.at.r = found_there c db rel n.db n.rel has.at (Some x) is h in
        let one : has.at.r ≡ x = cc in
        copies_less n.row row x.rows (subst (λ (r : RelationValue). list_any (row_eq row) r.rows ≡ true) one has.row_there)
    here (Some x) is false h = plus_none _ _ refl

copies_moved : (n : NamedRow) (c : CatalogueValue) (g : Change) → IsTrue (is_of_rows g) → fault c g ≡ None
    → count_by (row_eq n.row) (rows_of (after c g) n.db n.rel) + cond (takes n g) 1 0 ≡ count_by (row_eq n.row) (rows_of c n.db n.rel) + cond (brings n g) 1 0
copies_moved n c (Insert db rel row) h none = plus_none _ _ (brought n c db rel row none)
copies_moved n c (Delete db rel row) h none = taken n c db rel row none ∙ sym (plus_none _ _ refl)
copies_moved n c (AddAttribute db rel name fill) h none = absurd (cc)
copies_moved n c (DropAttribute db rel name) h none = absurd (cc)
copies_moved n c (RenameAttribute db rel name to) h none = absurd (cc)
copies_moved n c (CreateRelation db rel attributes) h none = absurd (cc)
copies_moved n c (DropRelation db rel) h none = absurd (cc)
copies_moved n c (RenameRelation db rel to) h none = absurd (cc)
copies_moved n c (CreateDatabase db) h none = absurd (cc)
copies_moved n c (DropDatabase db) h none = absurd (cc)
copies_moved n c (RenameDatabase db to) h none = absurd (cc)

-- how many rows there are after one
count_moved : (c : CatalogueValue) (g : Change) → IsSound c → IsTrue (is_of_rows g) → fault c g ≡ None → row_count (after c g) + cond (deletes g) 1 0 ≡ row_count c + cond (inserts g) 1 0
count_moved c (Insert db rel row) sound h none = plus_none _ _ (count_after c (Insert db rel row) sound none)
count_moved c (Delete db rel row) sound h none = less_one _ _ (row_within c sound db rel row none) (count_after c (Delete db rel row) sound none)
count_moved c (AddAttribute db rel name fill) sound h none = absurd (cc)
count_moved c (DropAttribute db rel name) sound h none = absurd (cc)
count_moved c (RenameAttribute db rel name to) sound h none = absurd (cc)
count_moved c (CreateRelation db rel attributes) sound h none = absurd (cc)
count_moved c (DropRelation db rel) sound h none = absurd (cc)
count_moved c (RenameRelation db rel to) sound h none = absurd (cc)
count_moved c (CreateDatabase db) sound h none = absurd (cc)
count_moved c (DropDatabase db) sound h none = absurd (cc)
count_moved c (RenameDatabase db to) sound h none = absurd (cc)

formed_of_rows : (g : Change) → IsTrue (is_of_rows g) → IsTrue (is_well_formed g)
formed_of_rows (Insert db rel row) h = refl
formed_of_rows (Delete db rel row) h = refl
formed_of_rows (AddAttribute db rel name fill) h = absurd (cc)
formed_of_rows (DropAttribute db rel name) h = absurd (cc)
formed_of_rows (RenameAttribute db rel name to) h = absurd (cc)
formed_of_rows (CreateRelation db rel attributes) h = absurd (cc)
formed_of_rows (DropRelation db rel) h = absurd (cc)
formed_of_rows (RenameRelation db rel to) h = absurd (cc)
formed_of_rows (CreateDatabase db) h = absurd (cc)
formed_of_rows (DropDatabase db) h = absurd (cc)
formed_of_rows (RenameDatabase db to) h = absurd (cc)

-- and after all of them
copies_after : (n : NamedRow) (c : CatalogueValue) (gs : List Change) → AreOfRows gs → group_fault c gs ≡ None
    → count_by (row_eq n.row) (rows_of (after_all c gs) n.db n.rel) + count_by (takes n) gs ≡ count_by (row_eq n.row) (rows_of c n.db n.rel) + count_by (brings n) gs
copies_after n c [] h none = refl
copies_after n c (g ∷ gs) h none =
    let parts = first_none (fault c g) (group_fault (after c g) gs) none in
    one_then (count_by (row_eq n.row) (rows_of c n.db n.rel)) (count_by (row_eq n.row) (rows_of (after c g) n.db n.rel)) (count_by (row_eq n.row) (rows_of (after_all (after c g) gs) n.db n.rel)) (cond (takes n g) 1 0) (cond (brings n g) 1 0) _ _ _ _
    (copies_moved n c g h.0 parts.0) (copies_after n (after c g) gs h.1 parts.1) (sum_by-cons (λ g. cond (takes n g) 1 0) g gs) (sum_by-cons (λ g. cond (brings n g) 1 0) g gs)

count_after_all : (c : CatalogueValue) (gs : List Change) → IsSound c → AreOfRows gs → group_fault c gs ≡ None → row_count (after_all c gs) + count_by deletes gs ≡ row_count c + count_by inserts gs
count_after_all c [] sound h none = refl
count_after_all c (g ∷ gs) sound h none =
    let parts = first_none (fault c g) (group_fault (after c g) gs) none in
    one_then (row_count c) (row_count (after c g)) (row_count (after_all (after c g) gs)) (cond (deletes g) 1 0) (cond (inserts g) 1 0) _ _ _ _
    (count_moved c g sound h.0 parts.0) (count_after_all (after c g) gs (sound_after c g sound (formed_of_rows g h.0) parts.0) h.1 parts.1) (sum_by-cons (λ g. cond (deletes g) 1 0) g gs) (sum_by-cons (λ g. cond (inserts g) 1 0) g gs)

none_plus : (n : ℕ) → n ≡ 0 + n
none_plus n = omega arith

-- some element passes where one is counted
any_counted : {A : Type 0} (p : A → Bool) (xs : List A) → list_any p xs ≡ nat_lt 0 (count_by p xs)
any_counted p [] = refl
any_counted p (x ∷ xs) =
    rw (sum_by-cons (λ x. cond (p x) 1 0) x xs) (elim (p x) as (λ b. (b || list_any p xs) ≡ nat_lt 0 (cond b 1 0 + count_by p xs)) [
      | true ↦ sym ((Decides-ltb 0 (1 + count_by p xs)).1 (omega arith))
      | false ↦ any_counted p xs ∙ ap (nat_lt 0) (none_plus (count_by p xs))
    ])

-- the last refusal behind the others
last_behind : (a b x y : Option Refusal) → first_of (a ∷ b ∷ x ∷ y ∷ []) ≡ option_or (first_of (a ∷ b ∷ x ∷ [])) y
last_behind (Some r) b x y = refl
last_behind None (Some r) x y = refl
last_behind None None (Some r) y = refl
last_behind None None None (Some r) = refl
last_behind None None None None = refl

module _ (c : CatalogueValue) (gs : List Change) (of_rows : AreOfRows gs) (db rel : Text) (row : Row) where
  pub insert_judged : fault (after_all c gs) (Insert db rel row) ≡ option_or (row_fault c db rel row) (full most_rows (row_count (after_all c gs)) Rows)
  insert_judged =
      let k = after_all c gs in
      last_behind (no_database k db) (no_relation k db rel) (arity_differs k db rel row) (full most_rows (row_count k) Rows)
      ∙ ap (λ o. option_or o (full most_rows (row_count k) Rows)) (rows_alike k c db rel row (left_by_all c gs of_rows))

  pub delete_judged : fault (after_all c gs) (Delete db rel row) ≡ option_or (row_fault c db rel row) (no_row (after_all c gs) db rel row)
  delete_judged =
      let k = after_all c gs in
      last_behind (no_database k db) (no_relation k db rel) (arity_differs k db rel row) (no_row k db rel row)
      ∙ ap (λ o. option_or o (no_row k db rel row)) (rows_alike k c db rel row (left_by_all c gs of_rows))

  module _ (fits : row_fault c db rel row ≡ None) where
    pub insert_full : nat_le most_rows (row_count (after_all c gs)) ≡ true → Some (Limit Rows) ≡ fault (after_all c gs) (Insert db rel row)
    insert_full most = sym (insert_judged ∙ ap (λ o. option_or o (full most_rows (row_count (after_all c gs)) Rows)) fits ∙ ap (λ b. where_true b (Limit Rows)) most)

    pub insert_free : nat_le most_rows (row_count (after_all c gs)) ≡ false → None ≡ fault (after_all c gs) (Insert db rel row)
    insert_free most = sym (insert_judged ∙ ap (λ o. option_or o (full most_rows (row_count (after_all c gs)) Rows)) fits ∙ ap (λ b. where_true b (Limit Rows)) most)

    pub delete_missing : not (list_any (row_eq row) (rows_of (after_all c gs) db rel)) ≡ true → Some NoRow ≡ fault (after_all c gs) (Delete db rel row)
    delete_missing missing = sym (delete_judged ∙ ap (λ o. option_or o (no_row (after_all c gs) db rel row)) fits ∙ ap (λ b. where_true b NoRow) missing)

    pub delete_free : not (list_any (row_eq row) (rows_of (after_all c gs) db rel)) ≡ false → None ≡ fault (after_all c gs) (Delete db rel row)
    delete_free missing = sym (delete_judged ∙ ap (λ o. option_or o (no_row (after_all c gs) db rel row)) fits ∙ ap (λ b. where_true b NoRow) missing)

  pub insert_refused : (e : Refusal) → row_fault c db rel row ≡ Some e → Some e ≡ fault (after_all c gs) (Insert db rel row)
  insert_refused e refused = sym (insert_judged ∙ ap (λ o. option_or o (full most_rows (row_count (after_all c gs)) Rows)) refused)

  pub delete_refused : (e : Refusal) → row_fault c db rel row ≡ Some e → Some e ≡ fault (after_all c gs) (Delete db rel row)
  delete_refused e refused = sym (delete_judged ∙ ap (λ o. option_or o (no_row (after_all c gs) db rel row)) refused)

-- a change of another kind is judged by the base
pub schema_judged : (c : CatalogueValue) (gs : List Change) (g : Change) → AreOfRows gs → is_of_rows g ≡ false → fault c g ≡ fault (after_all c gs) g
schema_judged c gs g of_rows h = schema_alike c (after_all c gs) g h (sym (left_by_all c gs of_rows))

-- two orders that hold alike are told alike
told : (a b : ℕ) → Decides (nat_le a b) (a ≤ b)
told a b = by (leb_tells a b)
  where
    by : ((nat_le a b ≡ true) × (a ≤ b)) ⊎ ((nat_le a b ≡ false) × (b < a)) → Decides (nat_le a b) (a ≤ b)
    by (inl h) = (λ e. h.1, λ p. h.0)
    by (inr h) = (λ e. absurd (false≢true (sym h.0 ∙ e)), λ p. absurd (omega (arith, p, h.1)))

pub told_alike : (a b x y : ℕ) → (a ≤ b → x ≤ y) → (x ≤ y → a ≤ b) → nat_le a b ≡ nat_le x y
told_alike a b x y there back = same_from_decides (nat_le a b) (nat_le x y) (λ e. there ((told a b).0 e), λ h. (told a b).1 (back h)) (told x y)

pub untold : (a b : ℕ) → b < a → nat_le a b ≡ false
untold a b lt = by (leb_tells a b)
  where
    by : ((nat_le a b ≡ true) × (a ≤ b)) ⊎ ((nat_le a b ≡ false) × (b < a)) → nat_le a b ≡ false
    by (inl h) = absurd (omega (arith, h.1, lt))
    by (inr h) = h.0

none_told : (n : ℕ) → nat_le n 0 ≡ not (nat_lt 0 n)
none_told zero = refl
none_told (suc n) = untold (suc n) 0 (omega arith) ∙ sym (ap not ((Decides-ltb 0 (suc n)).1 (omega arith)))

filled : (gone come before now out into : ℕ) → now + out ≡ before + into → before ≤ most_rows → come ≡ into → gone ≡ out → gone + (most_rows - before) ≤ come → most_rows ≤ now
filled gone come before now out into all most c g h = omega (arith, all, most, c, g, h)

fills : (gone come before now out into : ℕ) → now + out ≡ before + into → before ≤ most_rows → come ≡ into → gone ≡ out → most_rows ≤ now → gone + (most_rows - before) ≤ come
fills gone come before now out into all most c g h = omega (arith, all, most, c, g, h)

lost : (here came went now out into : ℕ) → now + out ≡ here + into → came ≡ into → went ≡ out → here + came ≤ went → now ≤ 0
lost here came went now out into all c g h = omega (arith, all, c, g, h)

loses : (here came went now out into : ℕ) → now + out ≡ here + into → came ≡ into → went ≡ out → now ≤ 0 → here + came ≤ went
loses here came went now out into all c g h = omega (arith, all, c, g, h)

-- there is no room for a row where the changes fill what there was
pub full_behind : (t : RowCounts) (c : CatalogueValue) (gs : List Change) → IsSound c → AreCounted t gs → group_fault c gs ≡ None → nat_le (t.gone + (most_rows - row_count c)) t.come ≡ nat_le most_rows (row_count (after_all c gs))
full_behind t c gs sound all_counted none =
    let all = count_after_all c gs sound all_counted.of_rows none in
    let most : row_count c ≤ most_rows = sound.rows in
    let come = all_counted.come in
    let gone = all_counted.gone in
    told_alike (t.gone + (most_rows - row_count c)) t.come most_rows (row_count (after_all c gs)) (filled t.gone t.come (row_count c) (row_count (after_all c gs)) (count_by deletes gs) (count_by inserts gs) all most come gone)
    (fills t.gone t.come (row_count c) (row_count (after_all c gs)) (count_by deletes gs) (count_by inserts gs) all most come gone)

-- a row is missing where the changes take as many as there were and as they bring
pub missing_behind : (t : RowCounts) (c : CatalogueValue) (gs : List Change) (n : NamedRow) (r : RelationValue) → AreCounted t gs → group_fault c gs ≡ None → relation_of c n.db n.rel ≡ Some r
    → nat_le (count_by (row_eq n.row) r.rows + counted named_eq t.came n) (counted named_eq t.went n) ≡ not (list_any (row_eq n.row) (rows_of (after_all c gs) n.db n.rel))
missing_behind t c gs n r all_counted none found =
    let all : count_by (row_eq n.row) (rows_of (after_all c gs) n.db n.rel) + count_by (takes n) gs ≡ count_by (row_eq n.row) r.rows + count_by (brings n) gs =
    subst (λ (o : Option RelationValue). count_by (row_eq n.row) (rows_of (after_all c gs) n.db n.rel) + count_by (takes n) gs ≡ count_by (row_eq n.row) (rows_in o) + count_by (brings n) gs) found (copies_after n c gs all_counted.of_rows none) in
    let here = count_by (row_eq n.row) r.rows in
    let now = count_by (row_eq n.row) (rows_of (after_all c gs) n.db n.rel) in
    let came = counted named_eq t.came n in
    let went = counted named_eq t.went n in
    told_alike (here + came) went now 0 (lost here came went now (count_by (takes n) gs) (count_by (brings n) gs) all (all_counted.came n) (all_counted.went n)) (loses here came went now (count_by (takes n) gs) (count_by (brings n) gs) all (all_counted.came n) (all_counted.went n))
    ∙ none_told now
    ∙ ap not (sym (any_counted (row_eq n.row) (rows_of (after_all c gs) n.db n.rel)))

-- the counts of one change more
module _ (t u : RowCounts) (gs : List Change) (g : Change) where
  pub one_counted : IsTrue (is_of_rows g) → ((n : NamedRow) → counted named_eq u.came n ≡ counted named_eq t.came n + cond (brings n g) 1 0) → ((n : NamedRow) → counted named_eq u.went n ≡ counted named_eq t.went n + cond (takes n g) 1 0)
      → u.come ≡ t.come + cond (inserts g) 1 0 → u.gone ≡ t.gone + cond (deletes g) 1 0 → AreCounted t gs → AreCounted u (gs ++ g ∷ [])
  one_counted of_rows came went come gone all = record {
    of_rows = all_more (λ g. IsTrue (is_of_rows g)) gs g all.of_rows of_rows;
    came = λ n. came n ∙ ap (λ k. k + cond (brings n g) 1 0) (all.came n) ∙ sym (sum_by_push (λ g. cond (brings n g) 1 0) gs g);
    went = λ n. went n ∙ ap (λ k. k + cond (takes n g) 1 0) (all.went n) ∙ sym (sum_by_push (λ g. cond (takes n g) 1 0) gs g);
    come = come ∙ ap (λ k. k + cond (inserts g) 1 0) all.come ∙ sym (sum_by_push (λ g. cond (inserts g) 1 0) gs g);
    gone = gone ∙ ap (λ k. k + cond (deletes g) 1 0) all.gone ∙ sym (sum_by_push (λ g. cond (deletes g) 1 0) gs g);
  }

-- the same counts
pub still_counted : (t u : RowCounts) (gs : List Change) → ((n : NamedRow) → counted named_eq u.came n ≡ counted named_eq t.came n) → ((n : NamedRow) → counted named_eq u.went n ≡ counted named_eq t.went n) → u.come ≡ t.come → u.gone ≡ t.gone → AreCounted t gs → AreCounted u gs
still_counted t u gs came went come gone all = record {
  of_rows = all.of_rows;
  came = λ n. came n ∙ all.came n;
  went = λ n. went n ∙ all.went n;
  come = come ∙ all.come;
  gone = gone ∙ all.gone;
}

-- no count is more than there are changes

pub of_others : (g : Change) → ((db rel : Text) (row : Row) → g ≡ Insert db rel row → ⊥) → ((db rel : Text) (row : Row) → g ≡ Delete db rel row → ⊥) → is_of_rows g ≡ false
of_others (Insert db rel row) no_insert no_delete = absurd (no_insert db rel row refl)
of_others (Delete db rel row) no_insert no_delete = absurd (no_delete db rel row refl)
of_others (AddAttribute db rel name fill) no_insert no_delete = refl
of_others (DropAttribute db rel name) no_insert no_delete = refl
of_others (RenameAttribute db rel name to) no_insert no_delete = refl
of_others (CreateRelation db rel attributes) no_insert no_delete = refl
of_others (DropRelation db rel) no_insert no_delete = refl
of_others (RenameRelation db rel to) no_insert no_delete = refl
of_others (CreateDatabase db) no_insert no_delete = refl
of_others (DropDatabase db) no_insert no_delete = refl
of_others (RenameDatabase db to) no_insert no_delete = refl
