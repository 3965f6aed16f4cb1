-- Rows and relations, put one after the other.
use Rattle.std.proofs.Common.{◌≡◌, ◌<◌, ◌≤◌, ◌+◌, ◌∷◌, ◌++◌, ◌∙◌, [], ℕ, List, true, refl, sym, ap, subst, zero, suc, length, map, slice_index_or, arith, append_assoc}
use Rattle.std.specs.List.{AllByRecursion, list_all}
use Rattle.std.specs.List.Sorted.{IsStrictlySortedBy}
use Rattle.std.specs.declared.cmp.Ordering.TheVariants.{Less}
use Rattle.std.proofs.lemmas.Bool.{and_parts}
use Rattle.std.proofs.lemmas.List.{append-nil, length-map}
use Rattle.std.proofs.lemmas.List.Sums.{sum_by-cons, sum_by_push}
use Rattle.ss_text.specs.Label.{is_table_label}
use Rattle.ss_text.specs.Texts.{Text, Row, text_cmp}
use Rattle.ss_text.specs.Places.{at_place}
use Rattle.ss_text.proofs.PlaceLemmas.{length_at_place, length_last, map_last}
use Rattle.schema_model.specs.Catalogue.{RelationValue, DatabaseValue, CatalogueValue, relation_value, database_value, relation_names, rows_in, row_count, database_at, relation_at, with_row, with_relation, with_relation_at, with_rows}
use Rattle.schema_model.specs.States.{CatalogueState, DatabaseState, RelationState, plain_database, plain_relation, settled}
use Rattle.schema_model.specs.Sound.{AreNames, IsRelation}
use Rattle.schema_model.proofs.Kept.{row_counted, relation_counted}
use Rattle.csv_catalog.specs.Put.{with_relations, CanTakeRows, CanTakeRelations, CanTakeDatabase}
use Rattle.csv_catalog.specs.Reading.{names_of, rows_counted}
use Rattle.schema_model.specs.Limits.{most_rows, most_relations}

-- a catalogue that is settled over some list is so over its own
pub settled_as : (c : CatalogueState) (d : CatalogueValue) → c ≡ settled d → c ≡ settled c.databases
settled_as c d e = e ∙ ap settled (sym (ap (λ (x : CatalogueState). x.databases) e))

pub counted_databases : (ds : List DatabaseState) (c : CatalogueValue) → map plain_database ds ≡ c → length ds ≡ length c
counted_databases ds c are = sym (length-map ds plain_database) ∙ ap length are

-- the databases of a catalogue stand where those of its plain list do
mapped_at : (ds : List DatabaseState) (i : ℕ) (d : DatabaseState) → i < length (map plain_database ds) → database_at i (map plain_database ds) ≡ plain_database (slice_index_or ds i d)
mapped_at [] i d lt = absurd (omega arith)
mapped_at (x ∷ xs) zero d lt = refl
mapped_at (x ∷ xs) (suc i) d lt = mapped_at xs i d (omega arith)

pub counted_relations : (ds : List DatabaseState) (c : CatalogueValue) (i : ℕ) (d : DatabaseState) (rs : List RelationState) → map plain_database ds ≡ c → i < length c → d ≡ slice_index_or ds i d → rs ≡ d.relations → length rs ≡ length (database_at i c).relations
counted_relations ds c i d rs are lt is same =
    ap length same ∙ sym (length-map d.relations plain_relation)
    ∙ ap (λ (x : DatabaseState). length (map plain_relation x.relations)) is
    ∙ sym (ap (λ (x : DatabaseValue). length x.relations) (mapped_at ds i d (subst (λ (x : CatalogueValue). i < length x) (sym are) lt)))
    ∙ ap (λ (x : CatalogueValue). length (database_at i x).relations) are

module _ {A : Type 0} where
  at_twice : (i : ℕ) (f g : A → A) (xs : List A) → at_place i f (at_place i g xs) ≡ at_place i (λ x. f (g x)) xs
  at_twice i f g [] = refl
  at_twice zero f g (x ∷ xs) = refl
  at_twice (suc i) f g (x ∷ xs) = ap (λ t. x ∷ t) (at_twice i f g xs)

  at_same : (i : ℕ) (f g : A → A) → ((x : A) → f x ≡ g x) → (xs : List A) → at_place i f xs ≡ at_place i g xs
  at_same i f g h [] = refl
  at_same zero f g h (x ∷ xs) = ap (λ t. t ∷ xs) (h x)
  at_same (suc i) f g h (x ∷ xs) = ap (λ t. x ∷ t) (at_same i f g h xs)

  at_none : (i : ℕ) (f : A → A) → ((x : A) → f x ≡ x) → (xs : List A) → at_place i f xs ≡ xs
  at_none i f h [] = refl
  at_none zero f h (x ∷ xs) = ap (λ t. t ∷ xs) (h x)
  at_none (suc i) f h (x ∷ xs) = ap (λ t. x ∷ t) (at_none i f h xs)

  at_last : (f : A → A) (xs : List A) (x : A) → at_place (length xs) f (xs ++ x ∷ []) ≡ xs ++ f x ∷ []
  at_last f [] x = refl
  at_last f (y ∷ ys) x = ap (λ t. y ∷ t) (at_last f ys x)

  item_at : (i : ℕ) (f : A → A) (xs : List A) (d : A) → i < length xs → slice_index_or (at_place i f xs) i d ≡ f (slice_index_or xs i d)
  item_at i f [] d lt = absurd (omega arith)
  item_at zero f (x ∷ xs) d lt = refl
  item_at (suc i) f (x ∷ xs) d lt = item_at i f xs d (omega arith)

  item_last : (xs : List A) (x d : A) → slice_index_or (xs ++ x ∷ []) (length xs) d ≡ x
  item_last [] x d = refl
  item_last (y ∷ ys) x d = item_last ys x d

-- a row, and then the rest
module _ (c : CatalogueValue) (db rel : ℕ) (row : Row) (rows : List Row) where
  abbrev One : CatalogueValue
  One = at_place db (with_relation_at rel (with_row row)) c

  pub row_then : at_place db (with_relation_at rel (with_rows rows)) One ≡ at_place db (with_relation_at rel (with_rows (row ∷ rows))) c
  row_then =
      at_twice db (with_relation_at rel (with_rows rows)) (with_relation_at rel (with_row row)) c
      ∙ at_same db (λ d. with_relation_at rel (with_rows rows) (with_relation_at rel (with_row row) d)) (with_relation_at rel (with_rows (row ∷ rows)))
      (λ d. ap (database_value d.name) (at_twice rel (with_rows rows) (with_row row) d.relations
      ∙ at_same rel (λ r. with_rows rows (with_row row r)) (with_rows (row ∷ rows)) (λ r. ap (relation_value r.name r.attributes) (append_assoc r.rows (row ∷ []) rows)) d.relations)) c

  pub takes_rest : CanTakeRows c db rel (row ∷ rows) → CanTakeRows One db rel rows
  takes_rest h =
      let here = item_at db (with_relation_at rel (with_row row)) c (database_value [] []) h.there in
      let attributes = ap (λ (d : DatabaseValue). (relation_at rel d).attributes) here ∙ ap (λ (r : RelationValue). r.attributes) (item_at rel (with_row row) (database_at db c).relations (relation_value [] [] []) h.relation_there) in
      record {
        there = rw (length_at_place c db (with_relation_at rel (with_row row))) h.there;
        relation_there = rw (here, length_at_place (database_at db c).relations rel (with_row row)) h.relation_there;
        fits = subst (λ (names : Row). AllByRecursion (λ (r : Row). length r ≡ length names) rows) (sym attributes) h.fits.1;
        room = rw (row_counted c db rel row h.there h.relation_there) (moved (row_count c) (length rows) h.room);
      }
    where
      moved : (n m : ℕ) → n + suc m ≤ most_rows → n + 1 + m ≤ most_rows
      moved n m h = omega arith

pub no_rows : (c : CatalogueValue) (db rel : ℕ) (rows : List Row) → rows ≡ [] → at_place db (with_relation_at rel (with_rows rows)) c ≡ c
no_rows c db rel rows e = rw e (at_none db (with_relation_at rel (with_rows [])) (λ d. ap (database_value d.name) (at_none rel (with_rows []) (λ r. ap (relation_value r.name r.attributes) (append-nil r.rows)) d.relations)) c)

-- a relation without rows, and then its rows
module _ (c : CatalogueValue) (db : ℕ) (r : RelationValue) where
  abbrev Empty : CatalogueValue
  Empty = at_place db (with_relation (relation_value r.name r.attributes [])) c

  pub rows_then : (rel : ℕ) → db < length c → rel ≡ length (database_at db c).relations → at_place db (with_relation_at rel (with_rows r.rows)) Empty ≡ at_place db (with_relation r) c
  rows_then rel lt is = rw is (at_twice db (with_relation_at (length (database_at db c).relations) (with_rows r.rows)) (with_relation (relation_value r.name r.attributes [])) c ∙ only_there db c lt)
    where
      only_there : (i : ℕ) (xs : CatalogueValue) → i < length xs
          → at_place i (λ d. with_relation_at (length (database_at i xs).relations) (with_rows r.rows) (with_relation (relation_value r.name r.attributes []) d)) xs ≡ at_place i (with_relation r) xs
      only_there i [] lt = absurd (omega arith)
      only_there zero (x ∷ xs) lt = ap (λ (rs : List RelationValue). database_value x.name rs ∷ xs) (at_last (with_rows r.rows) x.relations (relation_value r.name r.attributes []))
      only_there (suc i) (x ∷ xs) lt = ap (λ (t : CatalogueValue). x ∷ t) (only_there i xs (omega arith))

  pub takes_rows : (rel : ℕ) → rel ≡ length (database_at db c).relations → IsRelation r → CanTakeRelations c db (r ∷ []) → CanTakeRows Empty db rel r.rows
  takes_rows rel is sound h =
      let here = item_at db (with_relation (relation_value r.name r.attributes [])) c (database_value [] []) h.there in
      let last = item_last (database_at db c).relations (relation_value r.name r.attributes []) (relation_value [] [] []) in
      rw is (record {
        there = rw (length_at_place c db (with_relation (relation_value r.name r.attributes []))) h.there;
        relation_there = rw (here, length_last (database_at db c).relations (relation_value r.name r.attributes [])) (more (length (database_at db c).relations));
        fits = rw (here, last) sound.fits;
        room = rw (relation_counted c db r.name r.attributes) (counted (row_count c) (length r.rows) _ (sum_by-cons (λ (x : RelationValue). length x.rows) r []) h.room);
      })
    where
      more : (n : ℕ) → n < suc n
      more n = omega arith

      counted : (n m k : ℕ) → k ≡ m + 0 → n + k ≤ most_rows → n + m ≤ most_rows
      counted n m k e h = omega arith

-- the names before the rest are in order
above_front : (n : Text) (xs ys : List Text) → AllByRecursion (λ m. text_cmp n m ≡ Less) (xs ++ ys) → AllByRecursion (λ m. text_cmp n m ≡ Less) xs
above_front n [] ys h = tt
above_front n (x ∷ xs) ys h = (h.0, above_front n xs ys h.1)

ascend_front : (xs ys : List Text) → IsStrictlySortedBy text_cmp (xs ++ ys) → IsStrictlySortedBy text_cmp xs
unfolding IsStrictlySortedBy
ascend_front [] ys h = tt
ascend_front (x ∷ xs) ys h = (above_front x xs ys h.0, ascend_front xs ys h.1)

legal_front : (xs ys : List Text) → list_all is_table_label (xs ++ ys) ≡ true → list_all is_table_label xs ≡ true
legal_front [] ys h = refl
legal_front (x ∷ xs) ys h = let b = and_parts (is_table_label x) _ h in rw (b.0, legal_front xs ys b.1) refl

pub names_front : (xs ys : List Text) (x : Text) → AreNames (xs ++ x ∷ ys) → AreNames (xs ++ x ∷ [])
names_front xs ys x h =
    let r = rw (← append_assoc xs (x ∷ []) ys) at h in
    record { ascend = ascend_front (xs ++ x ∷ []) ys r.ascend; legal = legal_front (xs ++ x ∷ []) ys r.legal }

-- a relation, and then the rest
module _ (c : CatalogueValue) (db : ℕ) (r : RelationValue) (rs : List RelationValue) where
  pub relation_then : at_place db (with_relations rs) (at_place db (with_relation r) c) ≡ at_place db (with_relations (r ∷ rs)) c
  relation_then =
      at_twice db (with_relations rs) (with_relation r) c
      ∙ at_same db (λ d. with_relations rs (with_relation r d)) (with_relations (r ∷ rs)) (λ d. ap (database_value d.name) (append_assoc d.relations (r ∷ []) rs)) c

  pub takes_first : CanTakeRelations c db (r ∷ rs) → CanTakeRelations c db (r ∷ [])
  takes_first h = record {
    there = h.there;
    names = names_front (relation_names (database_at db c)) (names_of rs) r.name h.names;
    few = fewer (length (database_at db c).relations) (length rs) h.few;
    room = less (row_count c) (length r.rows) (rows_counted rs) _ _ (sum_by-cons (λ (x : RelationValue). length x.rows) r rs) (sum_by-cons (λ (x : RelationValue). length x.rows) r []) h.room;
  }
    where
      fewer : (n m : ℕ) → n + suc m ≤ most_relations → n + 1 ≤ most_relations
      fewer n m h = omega arith

      less : (n a b k l : ℕ) → k ≡ a + b → l ≡ a + 0 → n + k ≤ most_rows → n + l ≤ most_rows
      less n a b k l e f h = omega arith

  pub takes_others : CanTakeRelations c db (r ∷ rs) → CanTakeRelations (at_place db (with_relation r) c) db rs
  takes_others h =
      let here = item_at db (with_relation r) c (database_value [] []) h.there in
      record {
        there = rw (length_at_place c db (with_relation r)) h.there;
        names = rw (here, map_last (λ (x : RelationValue). x.name) (database_at db c).relations r, append_assoc (relation_names (database_at db c)) (r.name ∷ []) (names_of rs)) h.names;
        few = rw (here, length_last (database_at db c).relations r) (fewer (length (database_at db c).relations) (length rs) h.few);
        room = less (row_count c) (length r.rows) (rows_counted rs) _ _ (sum_by-cons (λ (x : RelationValue). length x.rows) r rs) (more_rows db c h.there) h.room;
      }
    where
      fewer : (n m : ℕ) → n + suc m ≤ most_relations → suc n + m ≤ most_relations
      fewer n m h = omega arith

      less : (n a b k l : ℕ) → k ≡ a + b → l ≡ n + a → n + k ≤ most_rows → l + b ≤ most_rows
      less n a b k l e f h = omega arith

      here_more : (a b k : ℕ) (n : ℕ) → k ≡ a + b → k + n ≡ a + n + b
      here_more a b k n e = omega arith

      later : (a b k l : ℕ) → k ≡ b + l → a + k ≡ a + b + l
      later a b k l e = omega arith

      more_rows : (i : ℕ) (xs : CatalogueValue) → i < length xs → row_count (at_place i (with_relation r) xs) ≡ row_count xs + length r.rows
      more_rows i [] lt = absurd (omega arith)
      more_rows zero (x ∷ xs) lt = rw (sum_by-cons rows_in (with_relation r x) xs, sum_by-cons rows_in x xs) (here_more (rows_in x) (length r.rows) _ (row_count xs) (sum_by_push (λ (y : RelationValue). length y.rows) x.relations r))
      more_rows (suc i) (x ∷ xs) lt = rw (sum_by-cons rows_in x (at_place i (with_relation r) xs), sum_by-cons rows_in x xs) (later (rows_in x) (row_count xs) _ (length r.rows) (more_rows i xs (omega arith)))

pub no_relations : (c : CatalogueValue) (db : ℕ) (rs : List RelationValue) → rs ≡ [] → at_place db (with_relations rs) c ≡ c
no_relations c db rs e = rw e (at_none db (with_relations []) (λ d. ap (database_value d.name) (append-nil d.relations)) c)

-- a database without relations, and then its relations
module _ (c : CatalogueValue) (name : Text) (rs : List RelationValue) where
  pub relations_then : at_place (length c) (with_relations rs) (c ++ database_value name [] ∷ []) ≡ c ++ database_value name rs ∷ []
  relations_then = at_last (with_relations rs) c (database_value name [])

  pub takes_relations : CanTakeDatabase c name rs → CanTakeRelations (c ++ database_value name [] ∷ []) (length c) rs
  takes_relations h =
      let here = item_last c (database_value name []) (database_value [] []) in
      record {
        there = rw (length_last c (database_value name [])) (more (length c));
        names = rw here h.names;
        few = rw here (no_more (length rs) h.few);
        room = rw (sum_by_push rows_in c (database_value name [])) (same (row_count c) (rows_counted rs) h.room);
      }
    where
      more : (n : ℕ) → n < suc n
      more n = omega arith

      no_more : (n : ℕ) → n ≤ most_relations → 0 + n ≤ most_relations
      no_more n h = omega arith

      same : (n m : ℕ) → n + m ≤ most_rows → n + 0 + m ≤ most_rows
      same n m h = omega arith
