-- Rows and relations, put one after the other into a catalogue of one database.
use Rattle.std.proofs.Common.{◌≡◌, ◌<◌, ◌≤◌, ◌+◌, ◌∷◌, ◌++◌, ◌∙◌, [], ℕ, List, refl, sym, ap, subst, zero, suc, Option, length, take, drop, get_or, slice_index_or, arith, append_assoc, append-nil, length-append}
use Rattle.std.specs.Prelude.{Vec, sum_by}
use Rattle.std.specs.List.{AllByRecursion}
use Rattle.std.proofs.Common.{Global}
use Rattle.std.proofs.lemmas.List.{take_more, map-append}
use Rattle.std.proofs.lemmas.List.Sums.{sum_by-cons, sum_by_push}
use Rattle.ss_text.specs.Texts.{Row}
use Rattle.ss_text.specs.Places.{at_place}
use Rattle.ss_text.proofs.PlaceLemmas.{length_at_place, length_last}
use Rattle.row_shelves.specs.Stocks.{Stock, row_of, rows_of}
use Rattle.row_shelves.specs.Shelves.{all_rows}
use Rattle.schema_model.specs.Catalogue.{RelationValue, DatabaseValue, CatalogueValue, relation_value, database_value, rows_in, row_count, database_at, relation_at, with_row, with_relation_at, with_rows}
use Rattle.schema_model.specs.Limits.{most_rows}
use Rattle.schema_model.specs.States.{CatalogueState, settled}
use Rattle.view_stack.specs.Putting.{rows_put, relations_put, CanTakeRows, CanTake}
use Rattle.flow_law.specs.Records.{spliced, row_records}

module _ {A : Type 0} where
  item_at : (i : ℕ) (f : A → A) (xs : List A) (d : A) → i < length xs → slice_index_or (at_place i f xs) i d ≡ f (slice_index_or xs i d)
  item_at i f [] d lt = absurd (omega arith)
  item_at zero f (x ∷ xs) d lt = refl
  item_at (suc i) f (x ∷ xs) d lt = item_at i f xs d (omega arith)

  item_last : (xs : List A) (x d : A) → slice_index_or (xs ++ x ∷ []) (length xs) d ≡ x
  item_last [] x d = refl
  item_last (y ∷ ys) x d = item_last ys x d

  at_last : (f : A → A) (xs : List A) (x : A) → at_place (length xs) f (xs ++ x ∷ []) ≡ xs ++ f x ∷ []
  at_last f [] x = refl
  at_last f (y ∷ ys) x = ap (λ t. y ∷ t) (at_last f ys x)

  -- a list is what is before a place, the element there, and what is behind it
  pub split_at : (xs : List A) (i : ℕ) (x : A) → i < length xs → x ≡ get_or xs i x → xs ≡ take i xs ++ x ∷ drop (i + 1) xs
  split_at [] i x lt is = absurd (omega arith)
  split_at (y ∷ ys) zero x lt is = ap (λ (z : A). z ∷ ys) (sym is)
  split_at (y ∷ ys) (suc i) x lt is = rw (next i) (ap (λ (zs : List A). y ∷ zs) (split_at ys i x (omega arith) is))
    where
      next : (n : ℕ) → suc n + 1 ≡ suc (n + 1)
      next n = omega arith

  -- a sum where one element weighs more
  sum_at : (g : A → ℕ) (f : A → A) (n : ℕ) (i : ℕ) (xs : List A) (d : A) → i < length xs → g (f (slice_index_or xs i d)) ≡ g (slice_index_or xs i d) + n → sum_by g (at_place i f xs) ≡ sum_by g xs + n
  sum_at g f n i [] d lt h = absurd (omega arith)
  sum_at g f n zero (x ∷ xs) d lt h = let a = sum_by-cons g (f x) xs in let b = sum_by-cons g x xs in omega (arith, a, b, h)
  sum_at g f n (suc i) (x ∷ xs) d lt h = let rest = sum_at g f n i xs d (omega arith) h in let a = sum_by-cons g x (at_place i f xs) in let b = sum_by-cons g x xs in omega (arith, a, b, rest)

-- ---- rows
places_twice : (rel : ℕ) (front back : List Row) (rs : List RelationValue) → at_place rel (with_rows back) (at_place rel (with_rows front) rs) ≡ at_place rel (with_rows (front ++ back)) rs
places_twice rel front back [] = refl
places_twice zero front back (r ∷ rs) = ap (λ (rows : List Row). relation_value r.name r.attributes rows ∷ rs) (append_assoc r.rows front back)
places_twice (suc rel) front back (r ∷ rs) = ap (λ (more : List RelationValue). r ∷ more) (places_twice rel front back rs)

rows_twice : (rel : ℕ) (front back : List Row) (c : CatalogueValue) → rows_put rel back (rows_put rel front c) ≡ rows_put rel (front ++ back) c
rows_twice rel front back [] = refl
rows_twice rel front back (d ∷ ds) = ap (λ (rs : List RelationValue). database_value d.name rs ∷ ds) (places_twice rel front back d.relations)

places_none : (rel : ℕ) (rs : List RelationValue) → at_place rel (with_rows []) rs ≡ rs
places_none rel [] = refl
places_none zero (r ∷ rs) = ap (λ (rows : List Row). relation_value r.name r.attributes rows ∷ rs) (append-nil r.rows)
places_none (suc rel) (r ∷ rs) = ap (λ (more : List RelationValue). r ∷ more) (places_none rel rs)

rows_none : (rel : ℕ) (c : CatalogueValue) → rows_put rel [] c ≡ c
rows_none rel [] = refl
rows_none rel (d ∷ ds) = ap (λ (rs : List RelationValue). database_value d.name rs ∷ ds) (places_none rel d.relations)

rows_counted : (rel : ℕ) (rows : List Row) (c : CatalogueValue) → 0 < length c → rel < length (database_at 0 c).relations → row_count (rows_put rel rows c) ≡ row_count c + length rows
rows_counted rel rows c there relation_there =
    sum_at rows_in (with_relation_at rel (with_rows rows)) (length rows) 0 c (database_value [] []) there
    (sum_at (λ (r : RelationValue). length r.rows) (with_rows rows) (length rows) rel (database_at 0 c).relations (relation_value [] [] []) relation_there (length-append (relation_at rel (database_at 0 c)).rows rows))

-- behind some of the rows there is room for the others
takes_rest : (c : CatalogueValue) (rel : ℕ) (front back : List Row) → CanTakeRows c rel (front ++ back) → CanTakeRows (rows_put rel front c) rel back
takes_rest c rel front back h =
    let here = item_at 0 (with_relation_at rel (with_rows front)) c (database_value [] []) h.database in
    let attributes = ap (λ (d : DatabaseValue). (relation_at rel d).attributes) here ∙ ap (λ (r : RelationValue). r.attributes) (item_at rel (with_rows front) (database_at 0 c).relations (relation_value [] [] []) h.relation) in
    record {
      database = rw (length_at_place c 0 (with_relation_at rel (with_rows front))) h.database;
      relation = rw (here, length_at_place (database_at 0 c).relations rel (with_rows front)) h.relation;
      fits = subst (λ (names : Row). AllByRecursion (λ (r : Row). length r ≡ length names) back) (sym attributes) (behind front back h.fits);
      room = rw (rows_counted rel front c h.database h.relation) (moved (row_count c) (length front) (length back) (length (front ++ back)) (length-append front back) h.room);
    }
  where
    behind : (xs ys : List Row) → AllByRecursion (λ (r : Row). length r ≡ length (relation_at rel (database_at 0 c)).attributes) (xs ++ ys) → AllByRecursion (λ (r : Row). length r ≡ length (relation_at rel (database_at 0 c)).attributes) ys
    behind [] ys h = h
    behind (x ∷ xs) ys h = behind xs ys h.1

    moved : (n f b k : ℕ) → k ≡ f + b → n + k ≤ most_rows → n + f + b ≤ most_rows
    moved n f b k e h = omega arith

-- ---- rows on shelves
pub shelves_joined : (ss ts : List (Vec Stock Global)) → all_rows (ss ++ ts) ≡ all_rows ss ++ all_rows ts
shelves_joined [] ts = refl
shelves_joined (s ∷ ss) ts = ap (λ (rs : List Stock). s.items ++ rs) (shelves_joined ss ts) ∙ sym (append_assoc s.items (all_rows ss) (all_rows ts))

module _ (spot : Option ℕ) (rel : ℕ) (c : CatalogueValue) where
  abbrev pub put : List Stock → CatalogueValue
  put rows = rows_put rel (row_records spot (rows_of rows)) c

  pub none_put : c ≡ put []
  none_put = sym (rows_none rel c)

  records_joined : (front back : List Stock) → row_records spot (rows_of (front ++ back)) ≡ row_records spot (rows_of front) ++ row_records spot (rows_of back)
  records_joined front back =
      ap (row_records spot) (map-append row_of front back) ∙ map-append (λ (r : Row × Row). spliced spot r.0 r.1) (rows_of front) (rows_of back)

  put_joined : (front back : List Stock) → rows_put rel (row_records spot (rows_of back)) (put front) ≡ put (front ++ back)
  put_joined front back =
      rows_twice rel (row_records spot (rows_of front)) (row_records spot (rows_of back)) c ∙ ap (λ rows. rows_put rel rows c) (sym (records_joined front back))

  -- what is left of the rows can be put behind those before
  left_fits : (front back : List Stock) → CanTakeRows c rel (row_records spot (rows_of (front ++ back))) → CanTakeRows (put front) rel (row_records spot (rows_of back))
  left_fits front back h = takes_rest c rel (row_records spot (rows_of front)) (row_records spot (rows_of back)) (subst (CanTakeRows c rel) (records_joined front back) h)

  front_fits : (d : CatalogueValue) (front back : List Row) → CanTakeRows d rel (front ++ back) → CanTakeRows d rel front
  front_fits d front back h = record {
    database = h.database;
    relation = h.relation;
    fits = ahead front back h.fits;
    room = fewer (row_count d) (length front) (length back) (length (front ++ back)) (length-append front back) h.room;
  }
    where
      ahead : (xs ys : List Row) → AllByRecursion (λ (r : Row). length r ≡ length (relation_at rel (database_at 0 d)).attributes) (xs ++ ys) → AllByRecursion (λ (r : Row). length r ≡ length (relation_at rel (database_at 0 d)).attributes) xs
      ahead [] ys h = tt
      ahead (x ∷ xs) ys h = (h.0, ahead xs ys h.1)

      fewer : (n f b k : ℕ) → k ≡ f + b → n + k ≤ most_rows → n + f ≤ most_rows
      fewer n f b k e h = omega arith

  next_fits : (front one back all : List Stock) → all ≡ front ++ (one ++ back) → CanTakeRows c rel (row_records spot (rows_of all)) → CanTakeRows (put front) rel (row_records spot (rows_of one))
  next_fits front one back all are h =
      front_fits (put front) (row_records spot (rows_of one)) (row_records spot (rows_of back))
      (subst (CanTakeRows (put front) rel) (records_joined one back) (left_fits front (one ++ back) (subst (λ (rows : List Stock). CanTakeRows c rel (row_records spot (rows_of rows))) are h)))

  -- a row of a shelf
  pub row_fits : (rows : List Stock) (i : ℕ) (r : Stock) (key cells text : Row) (d : CatalogueState) → i < length rows → r ≡ get_or rows i r → key ≡ r.key → cells ≡ r.cells → text ≡ spliced spot key cells
      → d ≡ settled (put (take i rows)) → CanTakeRows c rel (row_records spot (rows_of rows)) → CanTakeRows d.databases rel (text ∷ [])
  row_fits rows i r key cells text d lt is k l made so_far h =
      let one : spliced spot r.key r.cells ≡ text = (λ j. spliced spot (sym k j) (sym l j)) ∙ sym made in
      subst (λ (x : CatalogueValue). CanTakeRows x rel (text ∷ [])) (sym (ap (λ (x : CatalogueState). x.databases) so_far))
      (subst (λ (x : Row). CanTakeRows (put (take i rows)) rel (x ∷ [])) one (next_fits (take i rows) (r ∷ []) (drop (i + 1) rows) rows (split_at rows i r lt is) h))

  pub row_put : (rows : List Stock) (i : ℕ) (r : Stock) (key cells text : Row) (d e : CatalogueState) → i < length rows → r ≡ get_or rows i r → key ≡ r.key → cells ≡ r.cells → text ≡ spliced spot key cells
      → d ≡ settled (put (take i rows)) → e ≡ settled (at_place 0 (with_relation_at rel (with_row text)) d.databases) → e ≡ settled (put (take (i + 1) rows))
  row_put rows i r key cells text d e lt is k l made so_far added =
      let one : text ≡ spliced spot r.key r.cells = made ∙ (λ j. spliced spot (k j) (l j)) in
      added
      ∙ (λ j. settled (rows_put rel (one j ∷ []) ((ap (λ (x : CatalogueState). x.databases) so_far) j)))
      ∙ ap settled (put_joined (take i rows) (r ∷ []))
      ∙ ap (λ (xs : List Stock). settled (put xs)) (ap (λ (x : Stock). take i rows ++ x ∷ []) is ∙ sym (take_more rows i r lt))

  -- a shelf of the rows
  pub shelf_fits : (shelves : List (Vec Stock Global)) (i : ℕ) (s : Vec Stock Global) (rows : List Stock) (d : CatalogueState) → i < length shelves → s ≡ get_or shelves i s → rows ≡ s.items
      → d ≡ settled (put (all_rows (take i shelves))) → CanTakeRows c rel (row_records spot (rows_of (all_rows shelves))) → CanTakeRows d.databases rel (row_records spot (rows_of rows))
  shelf_fits shelves i s rows d lt is own so_far h =
      subst (λ (x : CatalogueValue). CanTakeRows x rel (row_records spot (rows_of rows))) (sym (ap (λ (x : CatalogueState). x.databases) so_far))
      (subst (λ (rs : List Stock). CanTakeRows (put (all_rows (take i shelves))) rel (row_records spot (rows_of rs))) (sym own)
      (next_fits (all_rows (take i shelves)) s.items (all_rows (drop (i + 1) shelves)) (all_rows shelves)
      (ap all_rows (split_at shelves i s lt is) ∙ shelves_joined (take i shelves) (s ∷ drop (i + 1) shelves)) h))

  pub shelf_put : (shelves : List (Vec Stock Global)) (i : ℕ) (s : Vec Stock Global) (rows : List Stock) (d e : CatalogueState) → i < length shelves → s ≡ get_or shelves i s → rows ≡ s.items
      → d ≡ settled (put (all_rows (take i shelves))) → e ≡ settled (rows_put rel (row_records spot (rows_of rows)) d.databases) → e ≡ settled (put (all_rows (take (i + 1) shelves)))
  shelf_put shelves i s rows d e lt is own so_far added =
      added
      ∙ (λ j. settled (rows_put rel (row_records spot (rows_of (own j))) (ap (λ (x : CatalogueState). x.databases) so_far j)))
      ∙ ap settled (put_joined (all_rows (take i shelves)) s.items)
      ∙ ap (λ (rs : List Stock). settled (put rs))
      (ap (λ (rs : List Stock). all_rows (take i shelves) ++ rs) (sym (append-nil s.items)) ∙ sym (shelves_joined (take i shelves) (s ∷ []))
      ∙ ap all_rows (ap (λ (x : Vec Stock Global). take i shelves ++ x ∷ []) is ∙ sym (take_more shelves i s lt)))

-- ---- relations
-- a relation without rows, and then its rows
module _ (c : CatalogueValue) (rel : ℕ) (r : RelationValue) (h : CanTake c rel r) where
  abbrev empty : CatalogueValue
  empty = relations_put (relation_value r.name r.attributes [] ∷ []) c

  pub relation_filled : rows_put rel r.rows empty ≡ relations_put (r ∷ []) c
  relation_filled = filled c h.database h.place
    where
      filled : (d : CatalogueValue) → 0 < length d → rel ≡ length (database_at 0 d).relations → rows_put rel r.rows (relations_put (relation_value r.name r.attributes [] ∷ []) d) ≡ relations_put (r ∷ []) d
      filled [] there place = absurd (omega arith)
      filled (d ∷ ds) there place = rw place (ap (λ (rs : List RelationValue). database_value d.name rs ∷ ds) (at_last (with_rows r.rows) d.relations (relation_value r.name r.attributes [])))

  pub relation_takes : CanTakeRows empty rel r.rows
  relation_takes =
      let f = λ (d : DatabaseValue). database_value d.name (d.relations ++ relation_value r.name r.attributes [] ∷ []) in
      let here = item_at 0 f c (database_value [] []) h.database in
      let last = item_last (database_at 0 c).relations (relation_value r.name r.attributes []) (relation_value [] [] []) in
      record {
        database = rw (length_at_place c 0 f) h.database;
        relation = rw (here, length_last (database_at 0 c).relations (relation_value r.name r.attributes []), h.place) (more (length (database_at 0 c).relations));
        fits = rw (here, h.place, last) h.sound.fits;
        room = rw (same_rows c) h.room;
      }
    where
      more : (n : ℕ) → n < suc n
      more n = omega arith

      none : (n : ℕ) → n + 0 ≡ n
      none n = omega arith

      same_rows : (d : CatalogueValue) → row_count (relations_put (relation_value r.name r.attributes [] ∷ []) d) ≡ row_count d
      same_rows [] = refl
      same_rows (d ∷ ds) =
          sum_by-cons rows_in (database_value d.name (d.relations ++ relation_value r.name r.attributes [] ∷ [])) ds
          ∙ ap (λ (n : ℕ). n + sum_by rows_in ds) (sum_by_push (λ (x : RelationValue). length x.rows) d.relations (relation_value r.name r.attributes []) ∙ none (rows_in d))
          ∙ sym (sum_by-cons rows_in d ds)

pub no_relations : (c : CatalogueValue) → c ≡ relations_put [] c
no_relations [] = refl
no_relations (d ∷ ds) = ap (λ (rs : List RelationValue). database_value d.name rs ∷ ds) (sym (append-nil d.relations))
