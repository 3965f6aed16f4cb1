-- A change leaves each relation and each database that it does not name.
use Rattle.std.proofs.Common.{◌≡◌, ◌∷◌, ◌++◌, ◌∙◌, [], Bool, true, false, cond, not, ◌||◌, List, Option, Some, None, is_some, refl, sym, ap, subst, map}
use Rattle.std.specs.Prelude.{option_map, option_and_then, filter}
use Rattle.std.specs.List.{list_all}
use Rattle.std.specs.Option.{option_map_or}
use Rattle.std.specs.Ordering.{eq_by_cmp, is_eq}
use Rattle.std.proofs.lemmas.Bool.{false_from_ne_true, or_parts, true≢false}
use Rattle.std.proofs.lemmas.Cmp.{tied_itself}
use Rattle.ss_text.specs.Texts.{Text, Row, text_eq, is_in}
use Rattle.ss_text.specs.Label.{is_table_label}
use Rattle.ss_text.specs.Places.{changed_where}
use Rattle.ss_text.proofs.KeyLemmas.{text_order, equal_itself, Lacks}
use Rattle.outside.specs.Tree.{place_cmp}
use Rattle.outside.proofs.PlaceLemmas.{place_total}
use Rattle.schema_model.specs.Catalogue.{RelationValue, DatabaseValue, CatalogueValue, relation_value, database_value, relation_name, database_name, relation_in, database_of, relation_of, with_row}
use Rattle.schema_model.specs.Changes.{after, at_database, at_relation, at_relation_in, with_relations, less_row, with_attribute, less_attribute, renamed_attribute, placed, without, renamed, placed_database, without_database, renamed_database}
use Rattle.schema_model.specs.Pairs.{pair}
use Rattle.schema_model.specs.Refusals.{fault}
use Rattle.schema_model.specs.Sound.{IsSound}
use Rattle.schema_model.specs.declared.change.Change.{Change}
use Rattle.schema_model.specs.declared.change.Change.TheVariants.{Insert, Delete, AddAttribute, DropAttribute, RenameAttribute, CreateRelation, DropRelation, RenameRelation, CreateDatabase, DropDatabase, RenameDatabase}
use Rattle.schema_model.specs.declared.pair.Pair.{Pair}
use Rattle.schema_model.proofs.Asks.{create_has, rename_relation_has, create_database_has, drop_database_has, rename_database_has}
use Rattle.schema_model.proofs.ReadyLemmas.{same_some}
use Rattle.csv_catalog.specs.Saved.{is_there}
use Rattle.csv_catalog.specs.SavedTree.{place_of, is_place_among}
use Rattle.view_session.specs.Named.{named_relations, named_databases, relations_as}
use Rattle.source_law.proofs.NamedLemmas.{same_text, differs_back, named, named_with, found_in, each_legal}

-- lists of named things, changed
module _ {A : Type 0} (key : A → Text) where
  pub lacks_missing : (k : Text) (xs : List A) → named key k xs ≡ None → Lacks text_order key k xs
  lacks_missing k [] h = tt
  lacks_missing k (x ∷ xs) h =
      elim (text_eq k (key x)) as (λ b. text_eq k (key x) ≡ b → cond b (Some x) (named key k xs) ≡ None → (text_eq k (key x) ≡ false) × Lacks text_order key k xs) [
        | true ↦ λ _ h. absurd (cc h)
        | false ↦ λ e h. (e, lacks_missing k xs h)
      ] refl h

  named_changed : (j k : Text) (f : A → A) (xs : List A) → ((x : A) → key (f x) ≡ key x) → named key k (changed_where (λ x. text_eq j (key x)) f xs) ≡ cond (text_eq j k) (option_map f (named key k xs)) (named key k xs)
  named_changed j k f [] keeps = none (text_eq j k)
    where
      none : (b : Bool) → None ≡ cond b (option_map f None) None
      none true = refl
      none false = refl
  named_changed j k f (x ∷ xs) keeps = by_both (text_eq j (key x)) (text_eq k (key x)) refl refl (named_changed j k f xs keeps)
    where
      rest : List A
      rest = changed_where (λ y. text_eq j (key y)) f xs

      mapped : (b : Bool) (y : A) → cond b (Some y) (named key k rest) ≡ cond b (Some y) (named key k rest)
      mapped b y = refl

      by_both : (a b : Bool) → text_eq j (key x) ≡ a → text_eq k (key x) ≡ b → named key k rest ≡ cond (text_eq j k) (option_map f (named key k xs)) (named key k xs)
          → named key k (cond a (f x) x ∷ rest) ≡ cond (text_eq j k) (option_map f (cond b (Some x) (named key k xs))) (cond b (Some x) (named key k xs))
      by_both true true e h r =
          let same : text_eq j k ≡ true = ap (text_eq j) (same_text k (key x) h) ∙ e in
          ap (λ (t : Text). cond (text_eq k t) (Some (f x)) (named key k rest)) (keeps x) ∙ rw (h, same) refl
      by_both true false e h r = ap (λ (t : Text). cond (text_eq k t) (Some (f x)) (named key k rest)) (keeps x) ∙ rw h r
      by_both false true e h r =
          let other : text_eq j k ≡ false = ap (text_eq j) (same_text k (key x) h) ∙ e in
          rw (h, other) refl
      by_both false false e h r = rw h r

  pub named_without : (j k : Text) (xs : List A) → named key k (filter (λ x. not (text_eq j (key x))) xs) ≡ cond (text_eq j k) None (named key k xs)
  named_without j k [] = none (text_eq j k)
    where
      none : (b : Bool) → named key k [] ≡ cond b None (named key k [])
      none true = refl
      none false = refl
  named_without j k (x ∷ xs) = by_both (text_eq j (key x)) (text_eq k (key x)) refl refl (named_without j k xs)
    where
      rest : List A
      rest = filter (λ y. not (text_eq j (key y))) xs

      by_both : (a b : Bool) → text_eq j (key x) ≡ a → text_eq k (key x) ≡ b → named key k rest ≡ cond (text_eq j k) None (named key k xs)
          → named key k (cond (not a) (x ∷ rest) rest) ≡ cond (text_eq j k) None (cond b (Some x) (named key k xs))
      by_both true true e h r =
          let same : text_eq j k ≡ true = ap (text_eq j) (same_text k (key x) h) ∙ e in
          r ∙ rw same refl
      by_both true false e h r = r
      by_both false true e h r =
          let other : text_eq j k ≡ false = ap (text_eq j) (same_text k (key x) h) ∙ e in
          rw (h, other) refl
      by_both false false e h r = rw h r

-- a pair that is not among others is none of them

among_itself : (p q : Pair) → p.db ≡ q.db → p.rel ≡ q.rel → eq_by_cmp place_cmp (place_of p) (place_of q) ≡ true
among_itself p q db rel = ap (λ (x : Text). eq_by_cmp place_cmp (place_of p) (place_of (pair x q.rel))) (sym db) ∙ ap (λ (x : Text). eq_by_cmp place_cmp (place_of p) (place_of (pair p.db x))) (sym rel) ∙ ap is_eq (tied_itself place_total (place_of p))

is_another : (p q : Pair) (qs : List Pair) → is_place_among (q ∷ qs) (place_of p) ≡ false → text_eq q.db p.db ≡ true → text_eq p.rel q.rel ≡ false
is_another p q qs h db = false_from_ne_true _ (λ rel.
    true≢false (sym (among_itself p q (sym (same_text q.db p.db db)) (same_text p.rel q.rel rel)) ∙ (or_parts (eq_by_cmp place_cmp (place_of p) (place_of q)) (is_place_among qs (place_of p)) h).0))

others_too : (p q : Pair) (qs : List Pair) → is_place_among (q ∷ qs) (place_of p) ≡ false → is_place_among qs (place_of p) ≡ false
others_too p q qs h = (or_parts (eq_by_cmp place_cmp (place_of p) (place_of q)) (is_place_among qs (place_of p)) h).1

-- a relation that is not among those of a list is not in it
not_listed : (name : Text) (p : Pair) (rs : List RelationValue) → p.db ≡ name → is_place_among (map (λ (r : RelationValue). pair name r.name) rs) (place_of p) ≡ false → named relation_name p.rel rs ≡ None
not_listed name p [] is h = refl
not_listed name p (r ∷ rs) is h =
    let apart : text_eq p.rel r.name ≡ false = is_another p (pair name r.name) (map (λ (s : RelationValue). pair name s.name) rs) h (ap (text_eq name) is ∙ equal_itself text_order name) in
    rw apart (not_listed name p rs is (others_too p (pair name r.name) (map (λ (s : RelationValue). pair name s.name) rs) h))

none_first : (p : Pair) (qs rs : List Pair) → is_place_among (qs ++ rs) (place_of p) ≡ false → (is_place_among qs (place_of p) ≡ false) × (is_place_among rs (place_of p) ≡ false)
none_first p [] rs h = (refl, h)
none_first p (q ∷ qs) rs h =
    let parts = or_parts (eq_by_cmp place_cmp (place_of p) (place_of q)) (is_place_among (qs ++ rs) (place_of p)) h in
    let rest = none_first p qs rs parts.1 in
    (rw (parts.0, rest.0) refl, rest.1)

-- a database changed
module _ (c : CatalogueValue) (db : Text) (f : DatabaseValue → DatabaseValue) (keeps : (x : DatabaseValue) → database_name (f x) ≡ database_name x) where
  there_still : (k : Text) → is_there (at_database db f c) k ≡ is_there c k
  there_still k = ap is_some (named_changed database_name db k f c keeps) ∙ either (text_eq db k) (database_of c k)
    where
      either : (b : Bool) (o : Option DatabaseValue) → is_some (cond b (option_map f o) o) ≡ is_some o
      either true None = refl
      either true (Some d) = refl
      either false o = refl

  relation_still : (k rel : Text) → (text_eq db k ≡ true → (d : DatabaseValue) → database_of c k ≡ Some d → relation_in rel (f d) ≡ relation_in rel d) → relation_of (at_database db f c) k rel ≡ relation_of c k rel
  relation_still k rel same = ap (option_and_then (relation_in rel)) (named_changed database_name db k f c keeps) ∙ either (text_eq db k) refl (database_of c k) refl
    where
      either : (b : Bool) → text_eq db k ≡ b → (o : Option DatabaseValue) → database_of c k ≡ o → option_and_then (relation_in rel) (cond b (option_map f o) o) ≡ option_and_then (relation_in rel) o
      either true e None found = refl
      either true e (Some d) found = same e d found
      either false e o found = refl

-- a relation changed
one_changed : (c : CatalogueValue) (db rel : Text) (f : RelationValue → RelationValue) (p : Pair) → ((x : RelationValue) → relation_name (f x) ≡ relation_name x) → is_place_among (pair db rel ∷ []) (place_of p) ≡ false
    → relation_of (at_relation db rel f c) p.db p.rel ≡ relation_of c p.db p.rel
one_changed c db rel f p keeps h =
    relation_still c db (at_relation_in rel f) (λ x. refl) p.db p.rel (λ e d found.
    let other : text_eq rel p.rel ≡ false = differs_back p.rel rel (is_another p (pair db rel) [] h e) in
    named_changed relation_name rel p.rel f d.relations keeps ∙ rw other refl)

-- a database found by the name of another
found_as : (c : CatalogueValue) (db k : Text) (d e : DatabaseValue) → text_eq db k ≡ true → database_of c db ≡ Some d → database_of c k ≡ Some e → e ≡ d
found_as c db k d e same there found = same_some e d (sym found ∙ ap (database_of c) (sym (same_text db k same)) ∙ there)

module _ (c : CatalogueValue) (p : Pair) where
  abbrev Stays : CatalogueValue → Type 0
  Stays new = relation_of new p.db p.rel ≡ relation_of c p.db p.rel

  created : (db rel : Text) (attributes : Row) → fault c (CreateRelation db rel attributes) ≡ None → is_place_among (pair db rel ∷ []) (place_of p) ≡ false → Stays (at_database db (with_relations (placed (relation_value rel attributes []))) c)
  created db rel attributes none h =
      let has = create_has c db rel attributes none in
      relation_still c db (with_relations (placed (relation_value rel attributes []))) (λ x. refl) p.db p.rel (λ e d found.
      let one : d ≡ has.d = found_as c db p.db has.d d e has.database found in
      let free : Lacks text_order relation_name rel d.relations = subst (λ (x : DatabaseValue). Lacks text_order relation_name rel x.relations) (sym one) (lacks_missing relation_name rel has.d.relations has.free) in
      let other : text_eq p.rel rel ≡ false = is_another p (pair db rel) [] h e in
      named_with relation_name p.rel (relation_value rel attributes []) d.relations free ∙ rw other refl)

  dropped : (db rel : Text) → is_place_among (pair db rel ∷ []) (place_of p) ≡ false → Stays (at_database db (with_relations (without rel)) c)
  dropped db rel h =
      relation_still c db (with_relations (without rel)) (λ x. refl) p.db p.rel (λ e d found.
      let other : text_eq rel p.rel ≡ false = differs_back p.rel rel (is_another p (pair db rel) [] h e) in
      named_without relation_name rel p.rel d.relations ∙ rw other refl)

  moved : (db rel to : Text) → fault c (RenameRelation db rel to) ≡ None → is_place_among (pair db rel ∷ pair db to ∷ []) (place_of p) ≡ false → Stays (at_database db (with_relations (renamed rel to)) c)
  moved db rel to none h =
      let has = rename_relation_has c db rel to none in
      relation_still c db (with_relations (renamed rel to)) (λ x. refl) p.db p.rel (λ e d found.
      let one : d ≡ has.at.d = found_as c db p.db has.at.d d e has.at.database found in
      let there : relation_in rel d ≡ Some has.at.r = ap (relation_in rel) one ∙ has.at.relation in
      let free : relation_in to d ≡ None = ap (relation_in to) one ∙ has.free in
      let new : RelationValue = relation_value to has.at.r.attributes has.at.r.rows in
      let is : renamed rel to d.relations ≡ placed new (without rel d.relations) = ap (λ o. option_map_or (λ (r : RelationValue). placed (record r { name = to }) (without rel d.relations)) o d.relations) there in
      let not_old : text_eq rel p.rel ≡ false = differs_back p.rel rel (is_another p (pair db rel) (pair db to ∷ []) h e) in
      let not_new : text_eq p.rel to ≡ false = is_another p (pair db to) [] (others_too p (pair db rel) (pair db to ∷ []) h) e in
      let gone : named relation_name to (without rel d.relations) ≡ None = named_without relation_name rel to d.relations ∙ either (text_eq rel to) (relation_in to d) free in
      ap (named relation_name p.rel) is
      ∙ named_with relation_name p.rel new (without rel d.relations) (lacks_missing relation_name to (without rel d.relations) gone)
      ∙ rw not_new (named_without relation_name rel p.rel d.relations ∙ rw not_old refl))
    where
      either : (b : Bool) (o : Option RelationValue) → o ≡ None → cond b None o ≡ None
      either true o e = refl
      either false o e = e

  -- databases
  came : (d : DatabaseValue) (ds : CatalogueValue) → database_of ds d.name ≡ None → (text_eq p.db d.name ≡ true → relation_in p.rel d ≡ None) → (text_eq p.db d.name ≡ true → relation_of c p.db p.rel ≡ None) → (text_eq p.db d.name ≡ false → relation_of ds p.db p.rel ≡ relation_of c p.db p.rel) → Stays (placed_database d ds)
  came d ds free empty none others =
      ap (option_and_then (relation_in p.rel)) (named_with database_name p.db d ds (lacks_missing database_name d.name ds free)) ∙ by_name (text_eq p.db d.name) refl
    where
      by_name : (b : Bool) → text_eq p.db d.name ≡ b → option_and_then (relation_in p.rel) (cond b (Some d) (database_of ds p.db)) ≡ relation_of c p.db p.rel
      by_name true e = empty e ∙ sym (none e)
      by_name false e = others e

  no_database : (db : Text) → text_eq p.db db ≡ true → database_of c db ≡ None → relation_of c p.db p.rel ≡ None
  no_database db e none = ap (option_and_then (relation_in p.rel)) (ap (database_of c) (same_text p.db db e) ∙ none)

  not_in : (name db : Text) → p.db ≡ name → is_place_among (relations_as name c db) (place_of p) ≡ false → (d : DatabaseValue) → database_of c db ≡ Some d → relation_in p.rel d ≡ None
  not_in name db is h d there =
      not_listed name p d.relations is (sym (ap (λ o. is_place_among (map (λ (r : RelationValue). pair name r.name) (option_map_or (λ (x : DatabaseValue). x.relations) o [])) (place_of p)) there) ∙ h)

  went : (db : Text) (d : DatabaseValue) → database_of c db ≡ Some d → is_place_among (relations_as db c db) (place_of p) ≡ false → relation_of (without_database db c) p.db p.rel ≡ relation_of c p.db p.rel
  went db d there h = ap (option_and_then (relation_in p.rel)) (named_without database_name db p.db c) ∙ by_name (text_eq db p.db) refl
    where
      by_name : (b : Bool) → text_eq db p.db ≡ b → option_and_then (relation_in p.rel) (cond b None (database_of c p.db)) ≡ relation_of c p.db p.rel
      by_name true e =
          let is : p.db ≡ db = sym (same_text db p.db e) in
          sym (ap (option_and_then (relation_in p.rel)) (ap (database_of c) is ∙ there) ∙ not_in db db is h d there)
      by_name false e = refl

  database_moved : (db to : Text) → fault c (RenameDatabase db to) ≡ None → is_place_among (relations_as db c db ++ relations_as to c db) (place_of p) ≡ false → Stays (renamed_database db to c)
  database_moved db to none h =
      let has = rename_database_has c db to none in
      let parts = none_first p (relations_as db c db) (relations_as to c db) h in
      let new : DatabaseValue = database_value to has.d.relations in
      let is : renamed_database db to c ≡ placed_database new (without_database db c) = ap (λ o. option_map_or (λ (d : DatabaseValue). placed_database (record d { name = to }) (without_database db c)) o c) has.database in
      let gone : database_of (without_database db c) to ≡ None = named_without database_name db to c ∙ either (text_eq db to) (database_of c to) has.free in
      ap (λ (x : CatalogueValue). relation_of x p.db p.rel) is
      ∙ came new (without_database db c) gone
      (λ e. not_in to db (same_text p.db to e) parts.1 has.d has.database)
      (λ e. no_database to e has.free)
      (λ _. went db has.d has.database parts.0)
    where
      either : (b : Bool) (o : Option DatabaseValue) → o ≡ None → cond b None o ≡ None
      either true o e = refl
      either false o e = e

  database_created : (db : Text) → fault c (CreateDatabase db) ≡ None → Stays (placed_database (database_value db []) c)
  database_created db none =
      let has = create_database_has c db none in
      came (database_value db []) c has.free (λ _. refl) (λ e. no_database db e has.free) (λ _. refl)

  -- all eleven
  pub relation_stays : (g : Change) → fault c g ≡ None → is_place_among (named_relations c g) (place_of p) ≡ false → Stays (after c g)
  relation_stays (Insert db rel row) none h = one_changed c db rel (with_row row) p (λ x. refl) h
  relation_stays (Delete db rel row) none h = one_changed c db rel (less_row row) p (λ x. refl) h
  relation_stays (AddAttribute db rel name fill) none h = one_changed c db rel (with_attribute name fill) p (λ x. refl) h
  relation_stays (DropAttribute db rel name) none h = one_changed c db rel (less_attribute name) p (λ x. refl) h
  relation_stays (RenameAttribute db rel name to) none h = one_changed c db rel (renamed_attribute name to) p (λ x. refl) h
  relation_stays (CreateRelation db rel attributes) none h = created db rel attributes none h
  relation_stays (DropRelation db rel) none h = dropped db rel h
  relation_stays (RenameRelation db rel to) none h = moved db rel to none h
  relation_stays (CreateDatabase db) none h = database_created db none
  relation_stays (DropDatabase db) none h = let has = drop_database_has c db none in went db has.0 has.1 h
  relation_stays (RenameDatabase db to) none h = database_moved db to none h

-- and databases
module _ (c : CatalogueValue) (k : Text) where
  one_of : (db : Text) → is_in k (db ∷ []) ≡ false → text_eq k db ≡ false
  one_of db h = (or_parts (text_eq k db) false h).0

  pub database_stays : (g : Change) → fault c g ≡ None → is_in k (named_databases g) ≡ false → is_there (after c g) k ≡ is_there c k
  database_stays (Insert db rel row) none h = there_still c db (at_relation_in rel (with_row row)) (λ x. refl) k
  database_stays (Delete db rel row) none h = there_still c db (at_relation_in rel (less_row row)) (λ x. refl) k
  database_stays (AddAttribute db rel name fill) none h = there_still c db (at_relation_in rel (with_attribute name fill)) (λ x. refl) k
  database_stays (DropAttribute db rel name) none h = there_still c db (at_relation_in rel (less_attribute name)) (λ x. refl) k
  database_stays (RenameAttribute db rel name to) none h = there_still c db (at_relation_in rel (renamed_attribute name to)) (λ x. refl) k
  database_stays (CreateRelation db rel attributes) none h = there_still c db (with_relations (placed (relation_value rel attributes []))) (λ x. refl) k
  database_stays (DropRelation db rel) none h = there_still c db (with_relations (without rel)) (λ x. refl) k
  database_stays (RenameRelation db rel to) none h = there_still c db (with_relations (renamed rel to)) (λ x. refl) k
  database_stays (CreateDatabase db) none h =
      let has = create_database_has c db none in
      ap is_some (named_with database_name k (database_value db []) c (lacks_missing database_name db c has.free) ∙ rw (one_of db h) refl)
  database_stays (DropDatabase db) none h = ap is_some (named_without database_name db k c ∙ rw (differs_back k db (one_of db h)) refl)
  database_stays (RenameDatabase db to) none h =
      let has = rename_database_has c db to none in
      let parts = or_parts (text_eq k db) (text_eq k to || false) h in
      let new : DatabaseValue = database_value to has.d.relations in
      let is : renamed_database db to c ≡ placed_database new (without_database db c) = ap (λ o. option_map_or (λ (d : DatabaseValue). placed_database (record d { name = to }) (without_database db c)) o c) has.database in
      let gone : database_of (without_database db c) to ≡ None = named_without database_name db to c ∙ either (text_eq db to) (database_of c to) has.free in
      ap is_some (ap (λ (x : CatalogueValue). database_of x k) is ∙ named_with database_name k new (without_database db c) (lacks_missing database_name to (without_database db c) gone)
      ∙ rw (or_parts (text_eq k to) false parts.1).0 (named_without database_name db k c ∙ rw (differs_back k db parts.0) refl))
    where
      either : (b : Bool) (o : Option DatabaseValue) → o ≡ None → cond b None o ≡ None
      either true o e = refl
      either false o e = e

-- names of a sound catalogue are labels

pub legal_there : (c : CatalogueValue) (db : Text) → IsSound c → is_there c db ≡ true → is_table_label db ≡ true
legal_there c db s h = by_found (database_of c db) refl h
  where
    by_found : (o : Option DatabaseValue) → database_of c db ≡ o → is_some o ≡ true → is_table_label db ≡ true
    by_found None e h = absurd (cc h)
    by_found (Some d) e h =
        let own = found_in database_name (λ (x : DatabaseValue). is_table_label x.name ≡ true) db c d (each_legal database_name c s.names.legal) e in
        ap is_table_label (sym own.1) ∙ own.0

-- the databases that a change names have legal names
pub named_legal : (c : CatalogueValue) (g : Change) → IsSound c → fault c g ≡ None → list_all is_table_label (named_databases g) ≡ true
named_legal c (Insert db rel row) s none = refl
named_legal c (Delete db rel row) s none = refl
named_legal c (AddAttribute db rel name fill) s none = refl
named_legal c (DropAttribute db rel name) s none = refl
named_legal c (RenameAttribute db rel name to) s none = refl
named_legal c (CreateRelation db rel attributes) s none = refl
named_legal c (DropRelation db rel) s none = refl
named_legal c (RenameRelation db rel to) s none = refl
named_legal c (CreateDatabase db) s none = rw (create_database_has c db none).legal refl
named_legal c (DropDatabase db) s none = rw (legal_there c db s (ap is_some (drop_database_has c db none).1)) refl
named_legal c (RenameDatabase db to) s none =
    let has = rename_database_has c db to none in
    rw (legal_there c db s (ap is_some has.database), has.legal) refl
