-- Which terms stand over combinations.
use Rattle.std.proofs.Common.{◌≡◌, inl, inr, subst, ℕ, ◌+◌, suc, zero, List, [], ◌∷◌, ◌++◌, length, map, Bool, true, false, ◌&&◌, cond, refl, arith, ap, sym, ◌∙◌, Option, Some, None, is_some, append_assoc, append-nil}
use Rattle.std.specs.Prelude.{flat_map, zip, slice_index_or}
use Rattle.std.specs.List.{slice_get, AllByRecursion}
use Rattle.std.proofs.lemmas.List.{length-append, length-map, map-append}
use Rattle.std.proofs.lemmas.Slice.Zip.{firsts-zip}
use Rattle.std.proofs.Math.Nat.{add-zero}
use Rattle.ss_text.specs.Texts.{Text, Row}
use Rattle.schema_model.specs.Catalogue.{RelationValue, DatabaseValue, CatalogueValue}
use Rattle.plan_law.specs.Kinds.{Place, Term, Range}
use Rattle.plan_law.specs.Kinds.place
use Rattle.plan_law.specs.Kinds.term
use Rattle.plan_law.specs.Kinds.range
use Rattle.view_def.specs.Query.{Query}
use Rattle.view_def.specs.Profile.{lists_tuples}
use Rattle.operator_law.specs.Rows.{cells_at}
use Rattle.fold_op.specs.Sheets.{SheetValue}
use Rattle.unite_op.specs.NamedThings.{rows_behind}
use Rattle.fold_op.specs.Cells.{has_all, place_of, places_of, picked}
use Rattle.fold_op.specs.Flat.{pick_value, entry, entries, fold_value}
use Rattle.schema_delta.specs.Flat.{keeps, values_of, names_of, sheet_of, flat}
use Rattle.plan_law.specs.Columns.{Column, Combo, tested_terms, wanted, fold_of, spec_of, fold_header, header, columns, bases_from, text_under, found, read, headers_from, terms_over}
use Rattle.plan_law.proofs.Columns.{Has, has_left, has_right, has_under}
use Rattle.plan_law.proofs.Held.{IsColumn, Fits, is_wanted, is_fold}
use Rattle.plan_law.proofs.Known.{text_declared, tuple_declared, alias_tested}
use Rattle.plan_law.proofs.Steps.{combined}
use Rattle.plan_law.proofs.Tuples.{cell_term}
use Rattle.view_meaning.specs.Operands.{variable_of}

all_append : {X : Type 0} (P : X → Type 0) (xs ys : List X) → AllByRecursion P xs → AllByRecursion P ys → AllByRecursion P (xs ++ ys)
all_append P [] ys h g = g
all_append P (x ∷ xs) ys h g = (h.0, all_append P xs ys h.1 g)

all_map : {X Y : Type 0} (P : Y → Type 0) (f : X → Y) (xs : List X) → ((x : X) → P (f x)) → AllByRecursion P (map f xs)
all_map P f [] h = tt
all_map P f (x ∷ xs) h = (h x, all_map P f xs h)

pub all_map_of : {X Y : Type 0} (Q : X → Type 0) (P : Y → Type 0) (f : X → Y) (xs : List X) → AllByRecursion Q xs → ((x : X) → Q x → P (f x)) → AllByRecursion P (map f xs)
all_map_of Q P f [] q h = tt
all_map_of Q P f (x ∷ xs) q h = (h x q.0, all_map_of Q P f xs q.1 h)

all_flat_map : {X Y : Type 0} (P : Y → Type 0) (f : X → List Y) (xs : List X) → ((x : X) → AllByRecursion P (f x)) → AllByRecursion P (flat_map f xs)
all_flat_map P f [] h = tt
all_flat_map P f (x ∷ xs) h = all_append P (f x) (flat_map f xs) (h x) (all_flat_map P f xs h)

pub all_flat_map_of : {X Y : Type 0} (Q : X → Type 0) (P : Y → Type 0) (f : X → List Y) (xs : List X) → AllByRecursion Q xs → ((x : X) → Q x → AllByRecursion P (f x)) → AllByRecursion P (flat_map f xs)
all_flat_map_of Q P f [] q h = tt
all_flat_map_of Q P f (x ∷ xs) q h = all_append P (f x) (flat_map f xs) (h x q.0) (all_flat_map_of Q P f xs q.1 h)

-- rows of a width
abbrev pub HasWidth : ℕ → Row → Type 0
HasWidth n row = length row ≡ n

-- what a relation gives behind two names
behind_width : (n : ℕ) (db rel : Text) (b : Bool) (rows : List Row) → AllByRecursion (HasWidth n) rows → AllByRecursion (HasWidth (suc (suc n))) (cond b (rows_behind (db ∷ rel ∷ []) rows) [])
behind_width n db rel true rows h = all_map_of (HasWidth n) (HasWidth (suc (suc n))) (λ row. (db ∷ rel ∷ []) ++ row) rows h (λ row e. omega arith)
behind_width n db rel false rows h = tt

-- and all of them
relations_width : (n : ℕ) (c : CatalogueValue) (test : DatabaseValue → RelationValue → Bool) (rows_of : RelationValue → List Row) → ((rel : RelationValue) → AllByRecursion (HasWidth n) (rows_of rel))
    → AllByRecursion (HasWidth (suc (suc n))) (flat_map (λ (d : DatabaseValue). flat_map (λ (r : RelationValue). cond (test d r) (rows_behind (d.name ∷ r.name ∷ []) (rows_of r)) []) d.relations) c)
relations_width n c test rows_of h =
    all_flat_map (HasWidth (suc (suc n))) _ c (λ (d : DatabaseValue).
    all_flat_map (HasWidth (suc (suc n))) _ d.relations (λ (r : RelationValue).
    behind_width n d.name r.name (test d r) (rows_of r) (h r)))

picked_width : (wanted attributes row : Row) → length (picked wanted attributes row) ≡ length wanted
picked_width wanted attributes row = length-map (places_of wanted attributes) (λ k. slice_index_or row k []) ∙ length-map wanted (place_of attributes)

tested_rows : (P : Row → Type 0) (b : Bool) (rows : List Row) → AllByRecursion P rows → AllByRecursion P (cond b rows [])
tested_rows P true rows h = h
tested_rows P false rows h = tt

pick_width : (wanted : Row) (x : SheetValue) → AllByRecursion (HasWidth (length wanted)) (pick_value wanted x)
pick_width wanted x = tested_rows (HasWidth (length wanted)) (has_all wanted x.0) (map (picked wanted x.0) x.1) (all_map (HasWidth (length wanted)) (picked wanted x.0) x.1 (picked_width wanted x.0))

fold_width : (wanted : Row) (x : SheetValue) → AllByRecursion (HasWidth (length wanted + 2)) (fold_value wanted x)
unfolding fold_value
fold_width wanted x =
    tested_rows (HasWidth (length wanted + 2)) (has_all wanted x.0) (flat_map (entries (places_of wanted x.0) x.0) x.1) (all_flat_map (HasWidth (length wanted + 2)) (entries (places_of wanted x.0) x.0) x.1 (λ row.
    all_map (HasWidth (length wanted + 2)) (λ (e : Text × Text). entry (cells_at (places_of wanted x.0) row) e.0 e.1) (zip x.0 row) (λ (e : Text × Text).
    let n = length-append (picked wanted x.0 row) (e.0 ∷ e.1 ∷ []) in
    omega (arith, n, picked_width wanted x.0 row))))

tuple_width : (q : Query) (k : ℕ) (x : SheetValue) → AllByRecursion (HasWidth (length (map (cell_term k) (wanted q k) ++ fold_header k (fold_of q k)))) (cond (is_some (fold_of q k)) (fold_value (wanted q k) x) (pick_value (wanted q k) x))
tuple_width q k x = one (fold_of q k)
  where
    size : (o : Option ℕ) → length (map (cell_term k) (wanted q k) ++ fold_header k o) ≡ length (wanted q k) + length (fold_header k o)
    size o = length-append (map (cell_term k) (wanted q k)) (fold_header k o) ∙ ap (λ n. n + length (fold_header k o)) (length-map (wanted q k) (cell_term k))

    one : (o : Option ℕ) → AllByRecursion (HasWidth (length (map (cell_term k) (wanted q k) ++ fold_header k o))) (cond (is_some o) (fold_value (wanted q k) x) (pick_value (wanted q k) x))
    one None = subst (λ n. AllByRecursion (HasWidth n) (pick_value (wanted q k) x)) (sym (size None ∙ add-zero (length (wanted q k)))) (pick_width (wanted q k) x)
    one (Some u) = subst (λ n. AllByRecursion (HasWidth n) (fold_value (wanted q k) x)) (sym (size (Some u))) (fold_width (wanted q k) x)

values_width : (a : Place) (x : SheetValue) → AllByRecursion (HasWidth 2) (values_of a x)
values_width (place.Fixed a) x = all_map_of (HasWidth 1) (HasWidth 2) (λ row. (a ∷ []) ++ row) (pick_value (a ∷ []) x) (pick_width (a ∷ []) x) (λ row e. omega arith)
values_width (place.Var k) x = fold_width [] x

nothing_width : (n : ℕ) (rs : List RelationValue) → AllByRecursion (HasWidth n) (flat_map (λ (r : RelationValue). []) rs)
nothing_width n [] = tt
nothing_width n (r ∷ rs) = nothing_width n rs

pub flat_width : (c : CatalogueValue) (q : Query) (k : ℕ) (d : Range) → AllByRecursion (HasWidth (length (header q k d))) (flat c (spec_of q k d))
flat_width c q k range.Databases =
    all_flat_map (HasWidth 1) (λ (d : DatabaseValue). ((d.name ∷ []) ∷ []) ++ flat_map (λ (r : RelationValue). []) d.relations) c (λ (d : DatabaseValue).
    all_append (HasWidth 1) ((d.name ∷ []) ∷ []) (flat_map (λ (r : RelationValue). []) d.relations) (refl, tt) (nothing_width 1 d.relations))
flat_width c q k (range.Relations p) = relations_width 0 c (λ d r. keeps p d.name) (λ r. [] ∷ []) (λ r. (refl, tt))
flat_width c q k (range.Attributes p r) = relations_width 1 c (λ d rel. keeps p d.name && keeps r rel.name) (λ rel. names_of rel.attributes) (λ rel. all_map (HasWidth 1) (λ (a : Text). a ∷ []) rel.attributes (λ a. refl))
flat_width c q k (range.Tuples p r) = relations_width _ c (λ d rel. keeps p d.name && keeps r rel.name) (λ rel. cond (is_some (fold_of q k)) (fold_value (wanted q k) (sheet_of rel)) (pick_value (wanted q k) (sheet_of rel))) (λ rel. tuple_width q k (sheet_of rel))
flat_width c q k (range.Values p r a) = relations_width 2 c (λ d rel. keeps p d.name && keeps r rel.name) (λ rel. values_of a (sheet_of rel)) (λ rel. values_width a (sheet_of rel))
flat_width c q k (range.Alias j a) = all_flat_map (HasWidth 0) (λ (d : DatabaseValue). flat_map (λ (r : RelationValue). []) d.relations) c (λ (d : DatabaseValue). nothing_width 0 d.relations)

-- the terms over flat rows
pub columns_over : (c : CatalogueValue) (q : Query) (k : ℕ) (d : Range) → AllByRecursion (λ o. terms_over o ≡ header q k d) (columns c q k d)
columns_over c q k d = all_map_of (HasWidth (length (header q k d))) _ (zip (header q k d)) (flat c (spec_of q k d)) (flat_width c q k d) (λ row e. firsts-zip (header q k d) row e)

-- and over what begins with a combination
pub combined_over : (c : CatalogueValue) (q : Query) (ds : List Range) (k : ℕ) (x : Combo) → AllByRecursion (λ y. terms_over y ≡ terms_over x ++ headers_from q k ds) (combined x (bases_from c q k ds))
combined_over c q [] k x = (sym (append-nil (terms_over x)), tt)
combined_over c q (range.Alias j a ∷ ds) k x = combined_over c q ds (suc k) x
combined_over c q (d ∷ ds) k x =
    all_flat_map_of (λ o. terms_over o ≡ header q k d) (λ y. terms_over y ≡ terms_over x ++ (header q k d ++ headers_from q (suc k) ds)) (λ o. combined (x ++ o) (bases_from c q (suc k) ds)) (columns c q k d) (columns_over c q k d) (λ o e.
    let terms : terms_over (x ++ o) ++ headers_from q (suc k) ds ≡ terms_over x ++ (header q k d ++ headers_from q (suc k) ds) =
    ap (λ ts. ts ++ headers_from q (suc k) ds) (map-append (λ (c : Column). c.0) x o ∙ ap (λ ts. terms_over x ++ ts) e) ∙ append_assoc (terms_over x) (header q k d) (headers_from q (suc k) ds) in
    subst (λ ts. AllByRecursion (λ y. terms_over y ≡ ts) (combined (x ++ o) (bases_from c q (suc k) ds))) terms (combined_over c q ds (suc k) (x ++ o)))

-- which terms stand there
over_has : (x : Combo) (t : Term) → Has (terms_over x) t → (s : Text) × (Has x (t, s))
over_has [] t m = absurd m
over_has (c ∷ x) t (inl e) = (c.1, inl (ap (λ (t : Term). (t, c.1)) e))
over_has (c ∷ x) t (inr m) = let r = over_has x t m in (r.0, inr r.1)

header_has : (q : Query) (ds : List Range) (k i : ℕ) (d : Range) (t : Term) → slice_get ds i ≡ Some d → Has (header q (i + k) d) t → Has (headers_from q k ds) t
header_has q [] k i d t e m = cc
header_has q (range.Alias j a ∷ ds) k zero d t e m = let same : range.Alias j a ≡ d = cc in absurd (subst (λ (d : Range). Has (header q (0 + k) d) t) (sym same) m)
header_has q (range.Alias j a ∷ ds) k (suc i) d t e m = header_has q ds (suc k) i d t e (subst (λ (n : ℕ). Has (header q n d) t) (shift i k) m)
  where
    shift : (i k : ℕ) → suc i + k ≡ i + suc k
    shift i k = omega arith
header_has q (b ∷ ds) k zero d t e m =
    let same : d ≡ b = cc in
    has_left (header q k b) (headers_from q (suc k) ds) t (subst (λ (n : ℕ). Has (header q n b) t) (plus k) (subst (λ (d : Range). Has (header q (0 + k) d) t) same m))
  where
    plus : (k : ℕ) → 0 + k ≡ k
    plus k = omega arith
header_has q (b ∷ ds) k (suc i) d t e m = has_right (header q k b) (headers_from q (suc k) ds) t (header_has q ds (suc k) i d t e (subst (λ (n : ℕ). Has (header q n d) t) (shift i k) m))
  where
    shift : (i k : ℕ) → suc i + k ≡ i + suc k
    shift i k = omega arith

module _ (q : Query) (fits : Fits q) where
  abbrev pub whole_header : List Term
  whole_header = headers_from q 0 q.decls

  from_start : (i : ℕ) (d : Range) (t : Term) → slice_get q.decls i ≡ Some d → Has (header q i d) t → Has whole_header t
  from_start i d t e m = header_has q q.decls 0 i d t e (subst (λ (n : ℕ). Has (header q n d) t) (plus i) m)
    where
      plus : (i : ℕ) → i ≡ i + 0
      plus i = omega arith

  has_cell : (names : Row) (k : ℕ) (a : Text) → Has names a → Has (map (cell_term k) names) (cell_term k a)
  has_cell [] k a m = absurd m
  has_cell (b ∷ names) k a (inl e) = inl (ap (cell_term k) e)
  has_cell (b ∷ names) k a (inr m) = inr (has_cell names k a m)

  cell_over : (k : ℕ) (a : Place) → Has (tested_terms q) (term.Cell k a) → Has whole_header (term.Cell k a)
  cell_over k a h =
      let t = tuple_declared q.decls k (fits.cells k a h).0 in
      from_start k (range.Tuples t.0 t.1) (term.Cell k a) t.2 (inr (inr (one a h)))
    where
      one : (a : Place) → Has (tested_terms q) (term.Cell k a) → Has (map (cell_term k) (wanted q k) ++ fold_header k (fold_of q k)) (term.Cell k a)
      one (place.Fixed n) h = has_left (map (cell_term k) (wanted q k)) (fold_header k (fold_of q k)) (term.Cell k (place.Fixed n)) (has_cell (wanted q k) k n (is_wanted q k n h))
      one (place.Var u) h = has_right (map (cell_term k) (wanted q k)) (fold_header k (fold_of q k)) (term.Cell k (place.Var u)) (subst (λ (o : Option ℕ). Has (fold_header k o) (term.Cell k (place.Var u))) (sym (is_fold q fits k u h)) (inr (inl refl)))

  -- a full combination says something of each term
  abbrev Said : Combo → Term → Type 0
  Said y t = (s : Text) × (read q y t ≡ Some s)

  says : (y : Combo) → terms_over y ≡ whole_header → (t : Term) → Has whole_header t → (s : Text) × (text_under y t ≡ Some s)
  says y e t m = let r = over_has y t (subst (λ ts. Has ts t) (sym e) m) in has_under y t r.0 r.1

  pub said : (y : Combo) → terms_over y ≡ whole_header → (t : Term) → IsColumn q t → Said y t
  said y e (term.Literal s) h = (s, refl)
  said y e (term.Cell k a) h = says y e (term.Cell k a) (cell_over k a h)
  said y e (term.Var i) h = let d = text_declared q.decls i h in kind d.0 d.1 d.2
    where
      at : (d : Range) → slice_get q.decls i ≡ Some d → (t : Term) → variable_of i (Some d) ≡ t → ((s : Text) × (found y t ≡ Some s)) → Said y (term.Var i)
      at d is t same r = (r.0, ap (λ (o : Option Range). found y (variable_of i o)) is ∙ ap (found y) same ∙ r.1)

      kind : (d : Range) → slice_get q.decls i ≡ Some d → lists_tuples d ≡ false → Said y (term.Var i)
      kind range.Databases is t = at range.Databases is (term.Var i) refl (says y e (term.Var i) (from_start i range.Databases (term.Var i) is (inl refl)))
      kind (range.Relations p) is t = at (range.Relations p) is (term.Var i) refl (says y e (term.Var i) (from_start i (range.Relations p) (term.Var i) is (inr (inl refl))))
      kind (range.Attributes p r) is t = at (range.Attributes p r) is (term.Var i) refl (says y e (term.Var i) (from_start i (range.Attributes p r) (term.Var i) is (inr (inr (inl refl)))))
      kind (range.Values p r a) is t = at (range.Values p r a) is (term.Var i) refl (says y e (term.Var i) (from_start i (range.Values p r a) (term.Var i) is (inr (inr (inr (inl refl))))))
      kind (range.Tuples p r) is t = cc
      kind (range.Alias j a) is t = at (range.Alias j a) is (term.Cell j a) refl (says y e (term.Cell j a) (cell_over j a (alias_tested q i j a is)))
