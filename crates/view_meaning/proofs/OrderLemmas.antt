-- Catalogues that differ in order alone give the same facts.
use Rattle.std.proofs.Common.{◌≡◌, ◌+◌, ◌∙◌, ◌⊎◌, inl, inr, ℕ, zero, suc, Bool, true, false, cond, ◌&&◌, ◌||◌, ◌<◌, List, [], ◌∷◌, ◌++◌, Option, Some, None, length, map, refl, sym, ap, subst, arith}
use Rattle.std.specs.Prelude.{flat_map, filter, find, slice_get, slice_index_or, option_and_then, option_map, option_to_list, unwrap_or, nat_lt, sum_by}
use Rattle.std.specs.Option.{option_or}
use Rattle.std.specs.List.{filter_map, cons_option, range_with_len, list_any, position_or_len, AllByRecursion}
use Rattle.std.proofs.lemmas.Bool.{lt-ltb, ltb-true}
use Rattle.std.proofs.lemmas.List.Sums.{sum_by-cons}
use Rattle.std.proofs.lemmas.Slice.Eq.{bytes_eq-Decides}
use Rattle.ss_text.specs.Texts.{Text, Row, text_eq, row_eq, is_in}
use Rattle.ss_text.proofs.SetLemmas.{SameElements, same_filter, same_map, same_filter_map, least_of_same}
use Rattle.ss_text.proofs.KeyLemmas.{text_order}
use Rattle.schema_model.specs.Catalogue.{RelationValue, DatabaseValue, CatalogueValue, database_of}
use Rattle.schema_model.specs.Sound.{IsRelation, IsDatabase, IsSound}
use Rattle.view_def.specs.declared.typed.Place.{Place}
use Rattle.view_def.specs.declared.typed.Place.TheVariants as place
use Rattle.view_def.specs.declared.typed.Range.{Range}
use Rattle.view_def.specs.declared.typed.Range.TheVariants as range
use Rattle.view_def.specs.declared.typed.Term.{Term}
use Rattle.view_def.specs.declared.typed.Term.TheVariants as term
use Rattle.view_def.specs.Query.{Query}
use Rattle.flow_law.specs.declared.shape.Shape.{Shape}
use Rattle.flow_law.specs.declared.refused.IllegalLabel.{IllegalLabel}
use Rattle.flow_law.specs.declared.refused.Clash.{Clash}
use Rattle.flow_law.specs.Facts.{Fact, Pair, illegal_table, illegal_column, illegal, first_refusal, refusal_by}
use Rattle.flow_law.proofs.RefusedLemmas.{pair_total, pair_same}
use Rattle.flow_law.proofs.SameFacts.{tables_same, conflict_same}
use Rattle.view_meaning.specs.Elements.{Element, A_text, A_row, Valuation, text_of, text_at, place_text, cell_under, cell_of_element, cell_at, database_at, relation_at, all_rows, ◌>>=◌, elements}
use Rattle.view_meaning.specs.Terms.{value_of}
use Rattle.view_meaning.specs.Valuations.{assignments, counts, valuations}
use Rattle.view_meaning.specs.Meaning.{given, fact_of, facts, shape_of, meaning}
use Rattle.view_meaning.specs.Refusal.{refusal}
use Rattle.flow_law.specs.declared.refused.EvalFault.TheVariants as eval
use Rattle.view_meaning.specs.Orders.{text_under, row_under, rows_under, SameRelation, SameRelations, DifferInOrder}

-- ---- elements of lists
abbrev pub In : {A : Type 0} → A → List A → Type 0
In x [] = ⊥
In x (y ∷ ys) = (x ≡ y) ⊎ In x ys

any_or : (b c : Bool) → (b || c) ≡ true → (b ≡ true) ⊎ (c ≡ true)
any_or true c h = inl refl
any_or false c h = inr h

or_right : (b : Bool) → (b || true) ≡ true
or_right true = refl
or_right false = refl

pub in_any : {A : Type 0} (p : A → Bool) (x : A) (xs : List A) → In x xs → p x ≡ true → list_any p xs ≡ true
in_any p x [] i h = absurd i
in_any p x (y ∷ ys) (inl e) h = ap (λ (b : Bool). b || list_any p ys) (ap p (sym e) ∙ h)
in_any p x (y ∷ ys) (inr i) h = ap (λ (b : Bool). p y || b) (in_any p x ys i h) ∙ or_right (p y)

pub any_in : {A : Type 0} (p : A → Bool) (xs : List A) → list_any p xs ≡ true → (x : A) × In x xs × (p x ≡ true)
any_in p [] h = absurd (cc)
any_in {A} p (y ∷ ys) h = by_first (any_or (p y) (list_any p ys) h) (any_in p ys)
  where
    by_first : (p y ≡ true) ⊎ (list_any p ys ≡ true) → (list_any p ys ≡ true → (x : A) × In x ys × (p x ≡ true)) → (x : A) × In x (y ∷ ys) × (p x ≡ true)
    by_first (inl e) rest = (y, inl refl, e)
    by_first (inr e) rest = let r = rest e in (r.0, inr r.1, r.2)

pub in_map : {A B : Type 0} (f : A → B) (x : A) (xs : List A) → In x xs → In (f x) (map f xs)
in_map f x [] i = absurd i
in_map f x (y ∷ ys) (inl e) = inl (ap f e)
in_map f x (y ∷ ys) (inr i) = inr (in_map f x ys i)

pub map_in : {A B : Type 0} (f : A → B) (y : B) (xs : List A) → In y (map f xs) → (x : A) × In x xs × (y ≡ f x)
map_in f y [] i = absurd i
map_in f y (x ∷ xs) (inl e) = (x, inl refl, e)
map_in f y (x ∷ xs) (inr i) = let r = map_in f y xs i in (r.0, inr r.1, r.2)

pub in_all : {A : Type 0} (P : A → Type 0) (x : A) (xs : List A) → In x xs → AllByRecursion P xs → P x
in_all P x [] i h = absurd i
in_all P x (y ∷ ys) (inl e) h = subst P (sym e) h.0
in_all P x (y ∷ ys) (inr i) h = in_all P x ys i h.1

-- ---- bags have the same elements
abbrev EachAsOften : {A : Type 0} → List A → List A → Type 0
EachAsOften {A} xs ys = (f : A → ℕ) → sum_by f xs ≡ sum_by f ys

abbrev mark : Bool → ℕ
mark true = 1
mark false = 0

marked : {A : Type 0} (p : A → Bool) (x : A) (xs : List A) → In x xs → p x ≡ true → sum_by (λ y. mark (p y)) xs ≡ 0 → ⊥
marked p x [] i h none = absurd i
marked p x (y ∷ ys) (inl e) h none =
    let one : mark (p y) ≡ mark true = ap mark (ap p (sym e) ∙ h) in
    let step = sum_by-cons (λ z. mark (p z)) y ys in
    absurd (omega (arith, none, one, step))
marked p x (y ∷ ys) (inr i) h none =
    let step = sum_by-cons (λ z. mark (p z)) y ys in
    let rest : sum_by (λ z. mark (p z)) ys ≡ 0 = omega (arith, none, step) in
    marked p x ys i h rest

unmarked : {A : Type 0} (p : A → Bool) (xs : List A) → list_any p xs ≡ false → sum_by (λ y. mark (p y)) xs ≡ 0
unmarked p [] h = refl
unmarked p (y ∷ ys) h = sum_by-cons (λ z. mark (p z)) y ys ∙ by_first (p y) refl (unmarked p ys)
  where
    by_first : (b : Bool) → p y ≡ b → (list_any p ys ≡ false → sum_by (λ y. mark (p y)) ys ≡ 0) → mark (p y) + sum_by (λ y. mark (p y)) ys ≡ 0
    by_first true e rest = let bad : true ≡ false = sym (ap (λ (b : Bool). b || list_any p ys) e) ∙ h in absurd (cc)
    by_first false e rest =
        let none : list_any p ys ≡ false = sym (ap (λ (b : Bool). b || list_any p ys) e) ∙ h in
        let here : mark (p y) ≡ mark false = ap mark e in
        omega (arith, here, rest none)

bag_any : {A : Type 0} (p : A → Bool) (xs ys : List A) → EachAsOften xs ys → list_any p xs ≡ true → list_any p ys ≡ true
bag_any p xs ys same h = by_case (list_any p ys) refl
  where
    by_case : (b : Bool) → list_any p ys ≡ b → list_any p ys ≡ true
    by_case true e = e
    by_case false e =
        let found = any_in p xs h in
        absurd (marked p found.0 xs found.1 found.2 (same (λ y. mark (p y)) ∙ unmarked p ys e))

bag_back : {A : Type 0} (xs ys : List A) → EachAsOften xs ys → EachAsOften ys xs
bag_back xs ys same = λ f. sym (same f)

pub both_true : (a b : Bool) → (a ≡ true → b ≡ true) → (b ≡ true → a ≡ true) → a ≡ b
both_true true true f g = refl
both_true true false f g = sym (f refl)
both_true false true f g = g refl
both_true false false f g = refl

bag_same_any : {A : Type 0} (p : A → Bool) (xs ys : List A) → EachAsOften xs ys → list_any p xs ≡ list_any p ys
bag_same_any p xs ys same = both_true (list_any p xs) (list_any p ys) (bag_any p xs ys same) (bag_any p ys xs (bag_back xs ys same))

-- ---- cells under names
-- the cell of a row that fits its attributes
abbrev cell_or : Bool → Text → Option Text
cell_or true t = Some t
cell_or false t = None

pub one_more : (n : ℕ) → 1 + n ≡ suc n
one_more n = omega arith

pub first_there : (n : ℕ) → nat_lt 0 (suc n) ≡ true
first_there n = lt-ltb 0 (suc n) (omega arith)

pub one_later : (p n : ℕ) → nat_lt (suc p) (suc n) ≡ nat_lt p n
one_later p n = both_true (nat_lt (suc p) (suc n)) (nat_lt p n)
    (λ h. let l : suc p < suc n = ltb-true (suc p) (suc n) h in lt-ltb p n (omega (arith, l)))
    (λ h. let l : p < n = ltb-true p n h in lt-ltb (suc p) (suc n) (omega (arith, l)))

next_place : (b : Bool) (p : ℕ) (cell : Text) (row : Row) → option_and_then (slice_get (cell ∷ row)) (cond b (Some (suc p)) None) ≡ option_and_then (slice_get row) (cond b (Some p) None)
next_place true p cell row = refl
next_place false p cell row = refl

pub cell_here : (x : Text) (ns : Row) (cell : Text) (row : Row) (a : Text) → text_eq a x ≡ true → cell_under (x ∷ ns) a (cell ∷ row) ≡ Some cell
cell_here x ns cell row a e = rw (e, first_there (length ns)) refl

pub cell_later : (x : Text) (ns : Row) (cell : Text) (row : Row) (a : Text) → text_eq a x ≡ false → cell_under (x ∷ ns) a (cell ∷ row) ≡ cell_under ns a row
cell_later x ns cell row a e = rw (e, one_more, one_later (position_or_len (text_eq a) ns) (length ns)) (next_place (nat_lt (position_or_len (text_eq a) ns) (length ns)) (position_or_len (text_eq a) ns) cell row)

pub text_here : (x : Text) (ns : Row) (cell : Text) (row : Row) (a : Text) → text_eq a x ≡ true → text_under (x ∷ ns) (cell ∷ row) a ≡ cell
text_here x ns cell row a e = ap given (cell_here x ns cell row a e)

pub text_later : (x : Text) (ns : Row) (cell : Text) (row : Row) (a : Text) → text_eq a x ≡ false → text_under (x ∷ ns) (cell ∷ row) a ≡ text_under ns row a
text_later x ns cell row a e = ap given (cell_later x ns cell row a e)

cell_is : (ns row : Row) (a : Text) → length row ≡ length ns → cell_under ns a row ≡ cell_or (is_in a ns) (text_under ns row a)
cell_is [] row a l = refl
cell_is (x ∷ ns) [] a l = absurd (omega (arith, l))
cell_is (x ∷ ns) (cell ∷ row) a l = by_first (text_eq a x) refl (cell_is ns row a (omega (arith, l)))
  where
    by_first : (b : Bool) → text_eq a x ≡ b → cell_under ns a row ≡ cell_or (is_in a ns) (text_under ns row a)
        → cell_under (x ∷ ns) a (cell ∷ row) ≡ cell_or (is_in a (x ∷ ns)) (text_under (x ∷ ns) (cell ∷ row) a)
    by_first true e rest =
        let there : is_in a (x ∷ ns) ≡ true = ap (λ (b : Bool). b || is_in a ns) e in
        cell_here x ns cell row a e ∙ sym (λ i. cell_or (there i) (text_here x ns cell row a e i))
    by_first false e rest =
        let there : is_in a (x ∷ ns) ≡ is_in a ns = ap (λ (b : Bool). b || is_in a ns) e in
        cell_later x ns cell row a e ∙ rest ∙ sym (λ i. cell_or (there i) (text_later x ns cell row a e i))

-- ---- a row of one relation has a row of the other that says the same
pub bytes_same : (a b : Text) → text_eq a b ≡ true → a ≡ b
bytes_same a b e = (bytes_eq-Decides a b).0 e

pub same_bytes : (a : Text) → text_eq a a ≡ true
same_bytes a = (bytes_eq-Decides a a).1 refl

pub rows_same : (a b : Row) → row_eq a b ≡ true → a ≡ b
rows_same [] [] e = refl
rows_same [] (y ∷ ys) e = absurd (cc)
rows_same (x ∷ xs) [] e = absurd (cc)
rows_same (x ∷ xs) (y ∷ ys) e = by_first (text_eq x y) refl (rows_same xs ys)
  where
    by_first : (b : Bool) → text_eq x y ≡ b → (row_eq xs ys ≡ true → xs ≡ ys) → x ∷ xs ≡ y ∷ ys
    by_first true is rest = λ i. bytes_same x y is i ∷ rest (sym (ap (λ (b : Bool). b && row_eq xs ys) is) ∙ e) i
    by_first false is rest = let bad : false ≡ true = sym (ap (λ (b : Bool). b && row_eq xs ys) is) ∙ e in absurd (cc)

pub same_rows : (a : Row) → row_eq a a ≡ true
same_rows [] = refl
same_rows (x ∷ xs) = rw (same_bytes x) (same_rows xs)

tail : Row → Row
tail [] = []
tail (x ∷ xs) = xs

-- equal rows under names say the same under each of them
under_each : (f g : Text → Text) (names : Row) (a : Text) → map f names ≡ map g names → is_in a names ≡ true → f a ≡ g a
unfolding tail
under_each f g [] a e h = absurd (cc)
under_each f g (x ∷ xs) a e h = by_first (text_eq a x) refl (under_each f g xs a)
  where
    here : f x ≡ g x
    here = ap (λ (r : Row). slice_index_or r 0 []) e

    rest : map f xs ≡ map g xs
    rest = ap tail e

    by_first : (b : Bool) → text_eq a x ≡ b → (map f xs ≡ map g xs → is_in a xs ≡ true → f a ≡ g a) → f a ≡ g a
    by_first true is later = let same : a ≡ x = bytes_same a x is in rw same here
    by_first false is later = later rest (sym (ap (λ (b : Bool). b || is_in a xs) is) ∙ h)

SaySame : (r s : RelationValue) → Row → Row → Type 0
SaySame r s x y = (name : Text) → cell_under r.attributes name x ≡ cell_under s.attributes name y

row_found : (r s : RelationValue) → IsRelation r → IsRelation s → SameRelation r s → (x : Row) → In x r.rows → (y : Row) × In y s.rows × SaySame r s x y
unfolding SaySame
row_found r s fits also same x i = (y.0, y.1, says)
  where
    there : In (row_under r.attributes r.attributes x) (rows_under r.attributes r)
    there = in_map (row_under r.attributes r.attributes) x r.rows i

    any_there : list_any (row_eq (row_under r.attributes r.attributes x)) (rows_under r.attributes s) ≡ true
    any_there = bag_any _ (rows_under r.attributes r) (rows_under r.attributes s) (same.rows r.attributes) (in_any _ _ (rows_under r.attributes r) there (same_rows (row_under r.attributes r.attributes x)))

    found : (z : Row) × In z (rows_under r.attributes s) × (row_eq (row_under r.attributes r.attributes x) z ≡ true)
    found = any_in (row_eq (row_under r.attributes r.attributes x)) (rows_under r.attributes s) any_there

    y : (y : Row) × In y s.rows × (found.0 ≡ row_under r.attributes s.attributes y)
    y = map_in (row_under r.attributes s.attributes) found.0 s.rows found.1

    equal : row_under r.attributes r.attributes x ≡ row_under r.attributes s.attributes y.0
    equal = rows_same _ _ found.2 ∙ y.2

    says : (name : Text) → cell_under r.attributes name x ≡ cell_under s.attributes name y.0
    says name =
        cell_is r.attributes x name (in_all (λ (row : Row). length row ≡ length r.attributes) x r.rows i fits.fits)
        ∙ by_name (is_in name r.attributes) refl
        ∙ ap (λ (b : Bool). cell_or b (text_under s.attributes y.0 name)) (bag_same_any (text_eq name) r.attributes s.attributes same.attributes)
        ∙ sym (cell_is s.attributes y.0 name (in_all (λ (row : Row). length row ≡ length s.attributes) y.0 s.rows y.1 also.fits))
      where
        by_name : (b : Bool) → is_in name r.attributes ≡ b → cell_or (is_in name r.attributes) (text_under r.attributes x name) ≡ cell_or (is_in name r.attributes) (text_under s.attributes y.0 name)
        by_name true e = ap (cell_or (is_in name r.attributes)) (under_each (text_under r.attributes x) (text_under s.attributes y.0) r.attributes name equal e)
        by_name false e = rw e refl

-- ---- elements that say the same
record Alike (e f : Element) : Type 0 where
  text : text_of e ≡ text_of f
  cell : (name : Text) → cell_of_element e name ≡ cell_of_element f name

alike_itself : (e : Element) → Alike e e
alike_itself e = record { text = refl; cell = λ name. refl }

abbrev Found : List Element → List Element → Type 0
Found es fs = (e : Element) → In e es → (f : Element) × In f fs × Alike e f

found_same : (es fs : List Element) → es ≡ fs → Found es fs
found_same es fs same = λ e i. (e, subst (λ (l : List Element). In e l) same i, alike_itself e)

abbrev Related : {A : Type 0} → (A → A → Type 0) → Option A → Option A → Type 0
Related R None None = Unit {0}
Related R None (Some b) = ⊥
Related R (Some a) None = ⊥
Related R (Some a) (Some b) = R a b

bind_found : {A : Type 0} (R : A → A → Type 0) (o p : Option A) (f g : A → List Element) → Related R o p → ((a b : A) → R a b → Found (f a) (g b)) → Found (o >>= f) (p >>= g)
bind_found R None None f g h each = λ e i. absurd i
bind_found R None (Some b) f g h each = absurd h
bind_found R (Some a) None f g h each = absurd h
bind_found R (Some a) (Some b) f g h each = each a b h

-- ---- rows by their places
place_row : {A : Type 0} (xs : List A) (n k : ℕ) → In k (range_with_len n (length xs)) → (j : ℕ) × (x : A) × (k ≡ n + j) × (slice_get xs j ≡ Some x) × In x xs
place_row [] n k i = absurd i
place_row (x ∷ xs) n k (inl e) = (0, x, e ∙ sym (add_none n), refl, inl refl)
  where
    add_none : (n : ℕ) → n + 0 ≡ n
    add_none n = omega arith
place_row (x ∷ xs) n k (inr i) =
    let r = place_row xs (n + 1) k i in
    (suc r.0, r.1, r.2 ∙ move n r.0, r.3, inr r.4)
  where
    move : (n j : ℕ) → n + 1 + j ≡ n + suc j
    move n j = omega arith

row_place : {A : Type 0} (xs : List A) (n : ℕ) (x : A) → In x xs → (j : ℕ) × In (n + j) (range_with_len n (length xs)) × (slice_get xs j ≡ Some x)
row_place [] n x i = absurd i
row_place (y ∷ ys) n x (inl e) = (0, inl (omega arith), ap Some (sym e))
row_place (y ∷ ys) n x (inr i) =
    let r = row_place ys (n + 1) x i in
    (suc r.0, inr (subst (λ (k : ℕ). In k (range_with_len (n + 1) (length ys))) (move n r.0) r.1), r.2)
  where
    move : (n j : ℕ) → n + 1 + j ≡ n + suc j
    move n j = omega arith

-- ---- what passes a filter with a value
cons_in : {B : Type 0} (t : B) (o : Option B) (ts : List B) → In t (cons_option o ts) → (o ≡ Some t) ⊎ In t ts
cons_in t None ts i = inr i
cons_in t (Some u) ts (inl e) = inl (ap Some (sym e))
cons_in t (Some u) ts (inr i) = inr i

in_cons : {B : Type 0} (t : B) (o : Option B) (ts : List B) → (o ≡ Some t) ⊎ In t ts → In t (cons_option o ts)
in_cons t None ts (inl e) = absurd (cc)
in_cons t None ts (inr i) = i
in_cons t (Some u) ts (inl e) = inl (sym (ap (λ o. unwrap_or o u) e))
in_cons t (Some u) ts (inr i) = inr i

filter_in : {A B : Type 0} (h : A → Option B) (xs : List A) (t : B) → In t (filter_map h xs) → (x : A) × In x xs × (h x ≡ Some t)
filter_in h [] t i = absurd i
filter_in {A} h (x ∷ xs) t i = by_first (cons_in t (h x) (filter_map h xs) i) (filter_in h xs t)
  where
    by_first : (h x ≡ Some t) ⊎ In t (filter_map h xs) → (In t (filter_map h xs) → (y : A) × In y xs × (h y ≡ Some t)) → (y : A) × In y (x ∷ xs) × (h y ≡ Some t)
    by_first (inl e) rest = (x, inl refl, e)
    by_first (inr j) rest = let r = rest j in (r.0, inr r.1, r.2)

in_filter : {A B : Type 0} (h : A → Option B) (xs : List A) (t : B) (x : A) → In x xs → h x ≡ Some t → In t (filter_map h xs)
in_filter h [] t x i e = absurd i
in_filter h (y ∷ ys) t x (inl s) e = in_cons t (h y) (filter_map h ys) (inl (ap h (sym s) ∙ e))
in_filter h (y ∷ ys) t x (inr i) e = in_cons t (h y) (filter_map h ys) (inr (in_filter h ys t x i e))

-- ---- relations that differ in order, whose rows fit
record SameRows (r s : RelationValue) : Type 0 where
  same : SameRelation r s
  fits : IsRelation r
  also : IsRelation s

rows_found : (r s : RelationValue) → SameRows r s → Found (all_rows r) (all_rows s)
unfolding SaySame
rows_found r s h e i = (A_row s there.0, in_map (A_row s) there.0 (range_with_len 0 (length s.rows)) place, record { text = text; cell = cell })
  where
    from : (k : ℕ) × In k (range_with_len 0 (length r.rows)) × (e ≡ A_row r k)
    from = map_in (A_row r) e (range_with_len 0 (length r.rows)) i

    here : (j : ℕ) × (x : Row) × (from.0 ≡ 0 + j) × (slice_get r.rows j ≡ Some x) × In x r.rows
    here = place_row r.rows 0 from.0 from.1

    y : (y : Row) × In y s.rows × SaySame r s here.1 y
    y = row_found r s h.fits h.also h.same here.1 here.4

    there : (j : ℕ) × In (0 + j) (range_with_len 0 (length s.rows)) × (slice_get s.rows j ≡ Some y.0)
    there = row_place s.rows 0 y.0 y.1

    none_more : (n : ℕ) → 0 + n ≡ n
    none_more n = omega arith

    place : In there.0 (range_with_len 0 (length s.rows))
    place = subst (λ (k : ℕ). In k (range_with_len 0 (length s.rows))) (none_more there.0) there.1

    text : text_of e ≡ text_of (A_row s there.0)
    text = ap text_of from.2

    at : slice_get r.rows from.0 ≡ Some here.1
    at = ap (slice_get r.rows) (here.2 ∙ none_more here.0) ∙ here.3

    cell : (name : Text) → cell_of_element e name ≡ cell_of_element (A_row s there.0) name
    cell name =
        ap (λ (f : Element). cell_of_element f name) from.2
        ∙ ap (option_and_then (cell_under r.attributes name)) at
        ∙ y.2 name
        ∙ sym (ap (option_and_then (cell_under s.attributes name)) there.2)

cells_found : (r s : RelationValue) → SameRows r s → (name : Text) → Found (map A_text (filter_map (cell_under r.attributes name) r.rows)) (map A_text (filter_map (cell_under s.attributes name) s.rows))
unfolding SaySame
cells_found r s h name e i = (e, subst (λ (f : Element). In f (map A_text (filter_map (cell_under s.attributes name) s.rows))) (sym from.2) (in_map A_text from.0 _ there), alike_itself e)
  where
    from : (t : Text) × In t (filter_map (cell_under r.attributes name) r.rows) × (e ≡ A_text t)
    from = map_in A_text e (filter_map (cell_under r.attributes name) r.rows) i

    x : (x : Row) × In x r.rows × (cell_under r.attributes name x ≡ Some from.0)
    x = filter_in (cell_under r.attributes name) r.rows from.0 from.1

    y : (y : Row) × In y s.rows × SaySame r s x.0 y
    y = row_found r s h.fits h.also h.same x.0 x.1

    there : In from.0 (filter_map (cell_under s.attributes name) s.rows)
    there = in_filter (cell_under s.attributes name) s.rows from.0 y.0 y.1 (sym (y.2 name) ∙ x.2)

attributes_found : (r s : RelationValue) → SameRows r s → Found (map A_text r.attributes) (map A_text s.attributes)
attributes_found r s h e i = (e, subst (λ (f : Element). In f (map A_text s.attributes)) (sym from.2) (in_map A_text from.0 s.attributes there), alike_itself e)
  where
    from : (t : Text) × In t r.attributes × (e ≡ A_text t)
    from = map_in A_text e r.attributes i

    found : (u : Text) × In u s.attributes × (text_eq from.0 u ≡ true)
    found = any_in (text_eq from.0) s.attributes (bag_any (text_eq from.0) r.attributes s.attributes h.same.attributes (in_any (text_eq from.0) from.0 r.attributes from.1 (same_bytes from.0)))

    there : In from.0 s.attributes
    there = subst (λ (t : Text). In t s.attributes) (sym (bytes_same from.0 found.0 found.2)) found.1

-- ---- databases
record SameIn (d e : DatabaseValue) : Type 0 where
  name : d.name ≡ e.name
  relations : SameRelations d.relations e.relations
  fits : AllByRecursion IsRelation d.relations
  also : AllByRecursion IsRelation e.relations

by_test : {A : Type 0} (R : A → A → Type 0) (b : Bool) (x y : A) (o p : Option A) → R x y → Related R o p → Related R (cond b (Some x) o) (cond b (Some y) p)
by_test R true x y o p h k = h
by_test R false x y o p h k = k

relation_related : (t : Text) (rs ss : List RelationValue) → SameRelations rs ss → AllByRecursion IsRelation rs → AllByRecursion IsRelation ss
    → Related SameRows (find (λ (r : RelationValue). text_eq t r.name) rs) (find (λ (r : RelationValue). text_eq t r.name) ss)
relation_related t [] [] h f g = tt
relation_related t [] (s ∷ ss) h f g = absurd h
relation_related t (r ∷ rs) [] h f g = absurd h
relation_related t (r ∷ rs) (s ∷ ss) h f g =
    let rest = relation_related t rs ss h.1 f.1 g.1 in
    let here : SameRows r s = record { same = h.0; fits = f.0; also = g.0 } in
    subst (λ (n : Text). Related SameRows (cond (text_eq t r.name) (Some r) (find (λ (x : RelationValue). text_eq t x.name) rs)) (cond (text_eq t n) (Some s) (find (λ (x : RelationValue). text_eq t x.name) ss))) h.0.name
    (by_test SameRows (text_eq t r.name) r s _ _ here rest)

database_related : (t : Text) (c d : CatalogueValue) → DifferInOrder c d → AllByRecursion IsDatabase c → AllByRecursion IsDatabase d → Related SameIn (database_of c t) (database_of d t)
database_related t [] [] h f g = tt
database_related t [] (e ∷ es) h f g = absurd h
database_related t (d ∷ ds) [] h f g = absurd h
database_related t (d ∷ ds) (e ∷ es) h f g =
    let rest = database_related t ds es h.1 f.1 g.1 in
    let here : SameIn d e = record { name = h.0.name; relations = h.0.relations; fits = f.0.relations; also = g.0.relations } in
    subst (λ (n : Text). Related SameIn (cond (text_eq t d.name) (Some d) (database_of ds t)) (cond (text_eq t n) (Some e) (database_of es t))) h.0.name
    (by_test SameIn (text_eq t d.name) d e _ _ here rest)

database_names : (c d : CatalogueValue) → DifferInOrder c d → map (λ (x : DatabaseValue). A_text x.name) c ≡ map (λ (x : DatabaseValue). A_text x.name) d
database_names [] [] h = refl
database_names [] (e ∷ es) h = absurd h
database_names (d ∷ ds) [] h = absurd h
database_names (d ∷ ds) (e ∷ es) h = λ i. A_text (h.0.name i) ∷ database_names ds es h.1 i

relation_names : (rs ss : List RelationValue) → SameRelations rs ss → map (λ (x : RelationValue). A_text x.name) rs ≡ map (λ (x : RelationValue). A_text x.name) ss
relation_names [] [] h = refl
relation_names [] (s ∷ ss) h = absurd h
relation_names (r ∷ rs) [] h = absurd h
relation_names (r ∷ rs) (s ∷ ss) h = λ i. A_text (h.0.name i) ∷ relation_names rs ss h.1 i

-- ---- valuations that say the same
abbrev AlikeAll : Valuation → Valuation → Type 0
AlikeAll [] [] = Unit {0}
AlikeAll [] (f ∷ w) = ⊥
AlikeAll (e ∷ v) [] = ⊥
AlikeAll (e ∷ v) (f ∷ w) = Alike e f × AlikeAll v w

alike_more : (v w : Valuation) (e f : Element) → AlikeAll v w → Alike e f → AlikeAll (v ++ e ∷ []) (w ++ f ∷ [])
alike_more [] [] e f h k = (k, tt)
alike_more [] (g ∷ w) e f h k = absurd h
alike_more (g ∷ v) [] e f h k = absurd h
alike_more (g ∷ v) (i ∷ w) e f h k = (h.0, alike_more v w e f h.1 k)

get_related : (v w : Valuation) (k : ℕ) → AlikeAll v w → Related Alike (slice_get v k) (slice_get w k)
get_related [] [] k h = tt
get_related [] (f ∷ w) k h = absurd h
get_related (e ∷ v) [] k h = absurd h
get_related (e ∷ v) (f ∷ w) zero h = h.0
get_related (e ∷ v) (f ∷ w) (suc k) h = get_related v w k h.1

text_related : (o p : Option Element) → Related Alike o p → option_and_then text_of o ≡ option_and_then text_of p
text_related None None h = refl
text_related None (Some f) h = absurd h
text_related (Some e) None h = absurd h
text_related (Some e) (Some f) h = h.text

cell_related : (o p : Option Element) (name : Text) → Related Alike o p → option_and_then (λ e. cell_of_element e name) o ≡ option_and_then (λ e. cell_of_element e name) p
cell_related None None name h = refl
cell_related None (Some f) name h = absurd h
cell_related (Some e) None name h = absurd h
cell_related (Some e) (Some f) name h = h.cell name

module _ (v w : Valuation) (h : AlikeAll v w) where
  text_at_same : (k : ℕ) → text_at v k ≡ text_at w k
  text_at_same k = text_related (slice_get v k) (slice_get w k) (get_related v w k h)

  place_same : (p : Place) → place_text v p ≡ place_text w p
  place_same (place.Fixed t) = refl
  place_same (place.Var k) = text_at_same k

  cell_at_same : (k : ℕ) (a : Place) → cell_at v k a ≡ cell_at w k a
  cell_at_same k a =
      ap (option_and_then (λ name. option_and_then (λ e. cell_of_element e name) (slice_get v k))) (place_same a)
      ∙ ap (λ (f : Text → Option Text). option_and_then f (place_text w a)) (λ i name. cell_related (slice_get v k) (slice_get w k) name (get_related v w k h) i)

  value_same : (t : Term) → value_of v t ≡ value_of w t
  value_same (term.Literal t) = refl
  value_same (term.Var k) = text_at_same k
  value_same (term.Cell k a) = cell_at_same k a

-- ---- elements and assignments
then_related : {A B : Type 0} (R : B → B → Type 0) (o p : Option A) (f g : A → Option B) → o ≡ p → ((a : A) → Related R (f a) (g a)) → Related R (option_and_then f o) (option_and_then g p)
then_related R None p f g e each = subst (λ q. Related R (option_and_then f None) (option_and_then g q)) e tt
then_related R (Some a) p f g e each = subst (λ q. Related R (f a) (option_and_then g q)) e (each a)

both_related : {A B : Type 0} (Q : A → A → Type 0) (R : B → B → Type 0) (o p : Option A) (f g : A → Option B) → Related Q o p → ((a b : A) → Q a b → Related R (f a) (g b)) → Related R (option_and_then f o) (option_and_then g p)
both_related Q R None None f g h each = tt
both_related Q R None (Some b) f g h each = absurd h
both_related Q R (Some a) None f g h each = absurd h
both_related Q R (Some a) (Some b) f g h each = each a b h

module _ (c d : CatalogueValue) (order : DifferInOrder c d) (fits : AllByRecursion IsDatabase c) (also : AllByRecursion IsDatabase d) where
  module _ (v w : Valuation) (h : AlikeAll v w) where
    database_at_related : (p : Place) → Related SameIn (database_at c v p) (database_at d w p)
    database_at_related p = then_related SameIn (place_text v p) (place_text w p) (database_of c) (database_of d) (place_same v w h p) (λ t. database_related t c d order fits also)

    relation_at_related : (p q : Place) → Related SameRows (relation_at c v p q) (relation_at d w p q)
    relation_at_related p q =
        both_related SameIn SameRows (database_at c v p) (database_at d w p) _ _ (database_at_related p)
        (λ a b k. then_related SameRows (place_text v q) (place_text w q) _ _ (place_same v w h q) (λ t. relation_related t a.relations b.relations k.relations k.fits k.also))

    same_name : (p : Place) (f g : Text → List Element) → ((t : Text) → Found (f t) (g t)) → Found (place_text v p >>= f) (place_text w p >>= g)
    same_name p f g each = by_name (place_text v p) (place_text w p) (place_same v w h p)
      where
        by_name : (o q : Option Text) → o ≡ q → Found (o >>= f) (q >>= g)
        by_name None q e = λ x i. absurd i
        by_name (Some t) q e = subst (λ (r : Option Text). Found (f t) (r >>= g)) e (each t)

    elements_found : (among : Range) → Found (elements c v among) (elements d w among)
    elements_found range.Databases = found_same _ _ (database_names c d order)
    elements_found (range.Relations p) = bind_found SameIn (database_at c v p) (database_at d w p) _ _ (database_at_related p) (λ a b k. found_same _ _ (relation_names a.relations b.relations k.relations))
    elements_found (range.Attributes p q) = bind_found SameRows (relation_at c v p q) (relation_at d w p q) _ _ (relation_at_related p q) (λ r s k. attributes_found r s k)
    elements_found (range.Tuples p q) = bind_found SameRows (relation_at c v p q) (relation_at d w p q) _ _ (relation_at_related p q) (λ r s k. rows_found r s k)
    elements_found (range.Values p q a) = bind_found SameRows (relation_at c v p q) (relation_at d w p q) _ _ (relation_at_related p q) (λ r s k. same_name a _ _ (λ t. cells_found r s k t))
    elements_found (range.Alias k a) = found_same _ _ (ap (λ (o : Option Text). map A_text (option_to_list o)) (cell_at_same v w h k a))

-- ---- the order turned round
relation_back : (r s : RelationValue) → SameRelation r s → SameRelation s r
relation_back r s h = record { name = sym h.name; attributes = bag_back r.attributes s.attributes h.attributes; rows = λ names. bag_back (rows_under names r) (rows_under names s) (h.rows names) }

relations_back : (rs ss : List RelationValue) → SameRelations rs ss → SameRelations ss rs
relations_back [] [] h = tt
relations_back [] (s ∷ ss) h = absurd h
relations_back (r ∷ rs) [] h = absurd h
relations_back (r ∷ rs) (s ∷ ss) h = (relation_back r s h.0, relations_back rs ss h.1)

order_back : (c d : CatalogueValue) → DifferInOrder c d → DifferInOrder d c
order_back [] [] h = tt
order_back [] (e ∷ es) h = absurd h
order_back (d ∷ ds) [] h = absurd h
order_back (d ∷ ds) (e ∷ es) h = (record { name = sym h.0.name; relations = relations_back d.relations e.relations h.0.relations }, order_back ds es h.1)

-- ---- labels that are not legal
module _ (fs gs : List Fact) (same : SameElements fs gs) where
  table_same : illegal_table fs ≡ illegal_table gs
  table_same = ap (option_map (λ t. record { table = t; column = None })) (least_of_same text_order.total text_order.same _ _ (same_filter _ _ _ (same_map (λ (f : Fact). f.label) fs gs same)))

  column_same : (constants : Row) → illegal_column constants fs ≡ illegal_column constants gs
  column_same constants = ap (option_map (λ (p : Pair). record { table = p.0; column = Some p.1 })) (least_of_same pair_total pair_same _ _ (same_filter _ _ _ (same_filter_map _ fs gs same)))

  illegal_same : (shape : Shape) → illegal shape fs ≡ illegal shape gs
  unfolding illegal
  illegal_same shape = λ i. option_or (table_same i) (column_same shape.constants i)

-- ---- facts
pub in_append : {A : Type 0} (x : A) (xs ys : List A) → In x xs ⊎ In x ys → In x (xs ++ ys)
in_append x [] ys (inl i) = absurd i
in_append x [] ys (inr i) = i
in_append x (y ∷ xs) ys (inl (inl e)) = inl e
in_append x (y ∷ xs) ys (inl (inr i)) = inr (in_append x xs ys (inl i))
in_append x (y ∷ xs) ys (inr i) = inr (in_append x xs ys (inr i))

pub append_in : {A : Type 0} (x : A) (xs ys : List A) → In x (xs ++ ys) → In x xs ⊎ In x ys
append_in x [] ys i = inr i
append_in x (y ∷ xs) ys (inl e) = inl (inl e)
append_in x (y ∷ xs) ys (inr i) = elim (append_in x xs ys i) [ inl j ↦ inl (inr j) | inr j ↦ inr j ]

pub flat_in : {A B : Type 0} (f : A → List B) (xs : List A) (y : B) → In y (flat_map f xs) → (x : A) × In x xs × In y (f x)
flat_in f [] y i = absurd i
flat_in {A} f (x ∷ xs) y i = by_part (append_in y (f x) (flat_map f xs) i) (flat_in f xs y)
  where
    by_part : In y (f x) ⊎ In y (flat_map f xs) → (In y (flat_map f xs) → (z : A) × In z xs × In y (f z)) → (z : A) × In z (x ∷ xs) × In y (f z)
    by_part (inl j) rest = (x, inl refl, j)
    by_part (inr j) rest = let r = rest j in (r.0, inr r.1, r.2)

pub in_flat : {A B : Type 0} (f : A → List B) (xs : List A) (x : A) (y : B) → In x xs → In y (f x) → In y (flat_map f xs)
in_flat f [] x y i j = absurd i
in_flat f (z ∷ xs) x y (inl e) j = in_append y (f z) (flat_map f xs) (inl (subst (λ a. In y (f a)) e j))
in_flat f (z ∷ xs) x y (inr i) j = in_append y (f z) (flat_map f xs) (inr (in_flat f xs x y i j))

pub in_kept : {A : Type 0} (p : A → Bool) (xs : List A) (x : A) → In x xs → p x ≡ true → In x (filter p xs)
in_kept p [] x i h = absurd i
in_kept p (y ∷ ys) x i h = by_first (p y) refl i (λ j. in_kept p ys x j h)
  where
    by_first : (b : Bool) → p y ≡ b → (x ≡ y) ⊎ In x ys → (In x ys → In x (filter p ys)) → In x (cond b (y ∷ filter p ys) (filter p ys))
    by_first true e (inl s) rest = inl s
    by_first true e (inr j) rest = inr (rest j)
    by_first false e (inl s) rest = let bad : true ≡ false = sym h ∙ ap p s ∙ e in absurd (cc)
    by_first false e (inr j) rest = rest j

pub kept_in : {A : Type 0} (p : A → Bool) (xs : List A) (x : A) → In x (filter p xs) → In x xs × (p x ≡ true)
kept_in p [] x i = absurd i
kept_in p (y ∷ ys) x i = by_first (p y) refl i (kept_in p ys x)
  where
    by_first : (b : Bool) → p y ≡ b → In x (cond b (y ∷ filter p ys) (filter p ys)) → (In x (filter p ys) → In x ys × (p x ≡ true)) → ((x ≡ y) ⊎ In x ys) × (p x ≡ true)
    by_first true e (inl s) rest = (inl s, ap p s ∙ e)
    by_first true e (inr j) rest = let r = rest j in (inr r.0, r.1)
    by_first false e j rest = let r = rest j in (inr r.0, r.1)

module _ (c d : CatalogueValue) (order : DifferInOrder c d) (fits : AllByRecursion IsDatabase c) (also : AllByRecursion IsDatabase d) where
  assigned : (ds : List Range) (v w : Valuation) → AlikeAll v w → (x : Valuation) → In x (assignments c v ds) → (y : Valuation) × In y (assignments d w ds) × AlikeAll x y
  assigned [] v w h x (inl e) = (w, inl refl, subst (λ (u : Valuation). AlikeAll u w) (sym e) h)
  assigned [] v w h x (inr i) = absurd i
  assigned (among ∷ ds) v w h x i = by_element (assigned ds)
    where
      from : (e : Element) × In e (elements c v among) × In x (assignments c (v ++ e ∷ []) ds)
      from = flat_in (λ e. assignments c (v ++ e ∷ []) ds) (elements c v among) x i

      to : (f : Element) × In f (elements d w among) × Alike from.0 f
      to = elements_found c d order fits also v w h among from.0 from.1

      by_element : ((v w : Valuation) → AlikeAll v w → (x : Valuation) → In x (assignments c v ds) → (y : Valuation) × In y (assignments d w ds) × AlikeAll x y)
          → (y : Valuation) × In y (flat_map (λ e. assignments d (w ++ e ∷ []) ds) (elements d w among)) × AlikeAll x y
      by_element rest =
          let y = rest (v ++ from.0 ∷ []) (w ++ to.0 ∷ []) (alike_more v w from.0 to.0 h to.2) x from.2 in
          (y.0, in_flat (λ e. assignments d (w ++ e ∷ []) ds) (elements d w among) to.0 y.0 to.1 y.1, y.2)

  fact_found : (q : Query) (f : Fact) → In f (facts c q) → In f (facts d q)
  unfolding facts valuations
  fact_found q f i =
      subst (λ (g : Fact). In g (facts d q)) (sym (from.2 ∙ ap (fact_of q) reading))
      (in_map (λ v. fact_of q (value_of v)) to.0 _ (in_kept (λ v. counts q (value_of v)) (assignments d [] q.decls) to.0 to.1 (sym (ap (counts q) reading) ∙ kept.1)))
    where
      from : (v : Valuation) × In v (filter (λ v. counts q (value_of v)) (assignments c [] q.decls)) × (f ≡ fact_of q (value_of v))
      from = map_in (λ v. fact_of q (value_of v)) f _ i

      kept : In from.0 (assignments c [] q.decls) × (counts q (value_of from.0) ≡ true)
      kept = kept_in (λ v. counts q (value_of v)) (assignments c [] q.decls) from.0 from.1

      to : (w : Valuation) × In w (assignments d [] q.decls) × AlikeAll from.0 w
      to = assigned q.decls [] [] tt from.0 kept.0

      reading : value_of from.0 ≡ value_of to.0
      reading = λ k t. value_same from.0 to.0 to.2 t k

-- no test tells the facts apart
pub facts_same : (c d : CatalogueValue) (q : Query) → IsSound c → IsSound d → DifferInOrder c d → SameElements (facts c q) (facts d q)
facts_same c d q sound also order = record { same = λ p. both_true _ _ (half c d p sound also order) (half d c p also sound (order_back c d order)) }
  where
    half : (c d : CatalogueValue) (p : Fact → Bool) → IsSound c → IsSound d → DifferInOrder c d → list_any p (facts c q) ≡ true → list_any p (facts d q) ≡ true
    half c d p sound also order h =
        let found = any_in p (facts c q) h in
        in_any p found.0 (facts d q) (fact_found c d order sound.databases also.databases q found.0 found.1) found.2

module _ (c d : CatalogueValue) (q : Query) (sound : IsSound c) (also : IsSound d) (order : DifferInOrder c d) where
  pub meaning_same : meaning c q ≡ meaning d q
  unfolding meaning
  meaning_same = tables_same (facts c q) (facts d q) (facts_same c d q sound also order) (shape_of q)

  pub refused_same : {A : Type 0} (label : IllegalLabel → A) (clash : Clash → A) → refusal_by label clash (shape_of q) (facts c q) ≡ refusal_by label clash (shape_of q) (facts d q)
  unfolding refusal_by
  refused_same label clash =
      let same = facts_same c d q sound also order in
      λ i. first_refusal label clash (illegal_same (facts c q) (facts d q) same (shape_of q) i) (conflict_same (facts c q) (facts d q) same i)

  pub refusal_same : refusal c q ≡ refusal d q
  unfolding refusal
  refusal_same = refused_same eval.Illegal eval.Conflict
