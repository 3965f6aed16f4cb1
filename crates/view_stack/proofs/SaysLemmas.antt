-- A relation that says what a table says, says it after each line.
use Rattle.std.proofs.Common.{◌≡◌, ◌+◌, ◌∙◌, ◌≤◌, ◌<◌, ℕ, zero, suc, Bool, true, false, cond, ◌&&◌, ◌||◌, not, List, [], ◌∷◌, ◌++◌, length, map, take, drop, refl, sym, ap, arith}
use Rattle.std.specs.Prelude.{filter, replicate, insert, remove, slice_index_or}
use Rattle.std.specs.List.{list_any, position_or_len, AllByRecursion}
use Rattle.ss_text.specs.Texts.{Text, Row, text_eq, row_eq, row_cmp, is_in}
use Rattle.ss_text.specs.Ascending.{with_element}
use Rattle.ss_text.proofs.KeyLemmas.{text_order, row_order, place_there}
use Rattle.flow_law.specs.Tables.{TableValue, cell_in, cell_of, row_keys}
use Rattle.flow_law.specs.InOrder.{IsTable}
use Rattle.flow_law.specs.Lines.{without_row, with_row, without_column, with_column, column_place, has_row, has_column}
use Rattle.flow_law.proofs.StepLemmas.{key_is_there, row_minus_cells, column_minus_columns, column_minus_keys, column_minus_cells, column_plus_columns, column_plus_keys, column_plus_cells, cell_no_column}
use Rattle.flow_law.proofs.TableLemmas.{place_of_column, row_removed, all_removed, line_in_order}
use Rattle.flow_law.specs.declared.line.TableLine.TheVariants.{RowMinus, ColumnMinus, ColumnPlus}
use Rattle.flow_law.specs.Lines.{by_key}
use Rattle.flow_law.specs.Tables.{key_of}
use Rattle.view_meaning.proofs.OrderLemmas.{one_more, bytes_same, same_bytes, rows_same, same_rows}
use Rattle.std.specs.Map.{keys_of}
use Rattle.ss_text.specs.Ascending.{by_order}
use Rattle.ss_text.proofs.PairLemmas.{turned}
use Rattle.std.specs.declared.cmp.Ordering.{Ordering}
use Rattle.std.specs.Ordering.{is_eq}
use Rattle.std.specs.declared.cmp.Ordering.TheVariants.{Less, Equal, Greater}
use Rattle.schema_model.specs.Catalogue.{RelationValue}
use Rattle.schema_model.specs.Changes.{less_row, with_attribute, less_attribute}
use Rattle.schema_model.specs.Catalogue.{with_row as put_row}
use Rattle.operator_law.specs.Bags.{weigh}
use Rattle.operator_law.proofs.Weights.{weigh-append}
use Rattle.view_stack.specs.Records.{text_of, record_of}

-- ---- tests
pub and_first : (a b : Bool) → (a && b) ≡ true → a ≡ true
and_first true b h = refl
and_first false b h = absurd (cc)

pub and_second : (a b : Bool) → (a && b) ≡ true → b ≡ true
and_second true b h = h
and_second false b h = absurd (cc)

pub not_true : (b : Bool) → not b ≡ true → b ≡ false
not_true true h = absurd (cc)
not_true false h = refl

pub or_false_left : (b c : Bool) → (b || c) ≡ false → b ≡ false
or_false_left true c h = h
or_false_left false c h = refl

pub or_false_right : (b c : Bool) → (b || c) ≡ false → c ≡ false
or_false_right true c h = absurd (cc)
or_false_right false c h = h

pub or_right : (b : Bool) → (b || true) ≡ true
or_right true = refl
or_right false = refl

-- ---- sums over lists
pub weigh_mapped : {X Y : Type 0} (g : X → Y) (f : Y → ℕ) (xs : List X) → weigh f (map g xs) ≡ weigh (λ x. f (g x)) xs
weigh_mapped g f [] = refl
weigh_mapped g f (x ∷ xs) = ap (λ n. f (g x) + n) (weigh_mapped g f xs)

pub weigh_agree : {X : Type 0} (f g : X → ℕ) (xs : List X) → AllByRecursion (λ x. f x ≡ g x) xs → weigh f xs ≡ weigh g xs
weigh_agree f g [] h = refl
weigh_agree f g (x ∷ xs) h = let a = h.0 in let rest = weigh_agree f g xs h.1 in omega (arith, a, rest)

abbrev pub mark : Bool → ℕ
mark true = 1
mark false = 0

some_marked : {X : Type 0} (p : X → Bool) (xs : List X) → list_any p xs ≡ true → 1 ≤ weigh (λ x. mark (p x)) xs
some_marked p [] h = absurd (cc)
some_marked p (x ∷ xs) h = by_first (p x) refl (some_marked p xs)
  where
    by_first : (b : Bool) → p x ≡ b → (list_any p xs ≡ true → 1 ≤ weigh (λ x. mark (p x)) xs) → 1 ≤ mark (p x) + weigh (λ x. mark (p x)) xs
    by_first true e rest = rw e (omega arith)
    by_first false e rest = let here : mark (p x) ≡ 0 = ap mark e in let behind = rest (sym (ap (λ (b : Bool). b || list_any p xs) e) ∙ h) in omega (arith, here, behind)

pub none_marked : {X : Type 0} (p : X → Bool) (xs : List X) → list_any p xs ≡ false → weigh (λ x. mark (p x)) xs ≡ 0
none_marked p [] h = refl
none_marked p (x ∷ xs) h = by_first (p x) refl (none_marked p xs)
  where
    by_first : (b : Bool) → p x ≡ b → (list_any p xs ≡ false → weigh (λ x. mark (p x)) xs ≡ 0) → mark (p x) + weigh (λ x. mark (p x)) xs ≡ 0
    by_first true e rest = let bad : true ≡ false = sym (ap (λ (b : Bool). b || list_any p xs) e) ∙ h in absurd (cc)
    by_first false e rest = let here : mark (p x) ≡ 0 = ap mark e in let behind = rest (sym (ap (λ (b : Bool). b || list_any p xs) e) ∙ h) in omega (arith, here, behind)

-- lists of the same weight have an element that passes, or both have none
pub any_by_weight : {X Y : Type 0} (p : X → Bool) (q : Y → Bool) (xs : List X) (ys : List Y) → weigh (λ x. mark (p x)) xs ≡ weigh (λ y. mark (q y)) ys → list_any p xs ≡ list_any q ys
any_by_weight p q xs ys h = by_both (list_any p xs) (list_any q ys) refl refl
  where
    by_both : (a b : Bool) → list_any p xs ≡ a → list_any q ys ≡ b → a ≡ b
    by_both true true d e = refl
    by_both false false d e = refl
    by_both true false d e = let m = some_marked p xs d in let n = none_marked q ys e in absurd (omega (arith, m, n, h))
    by_both false true d e = let m = none_marked p xs d in let n = some_marked q ys e in absurd (omega (arith, m, n, h))

-- ---- texts and rows
pub in_append : (a : Text) (ns ms : Row) → is_in a (ns ++ ms) ≡ (is_in a ns || is_in a ms)
in_append a [] ms = refl
in_append a (x ∷ ns) ms = ap (λ (b : Bool). text_eq a x || b) (in_append a ns ms) ∙ or_same (text_eq a x) (is_in a ns) (is_in a ms)
  where
    or_same : (b c d : Bool) → (b || (c || d)) ≡ ((b || c) || d)
    or_same true c d = refl
    or_same false c d = refl

-- names that are all different
abbrev pub Distinct : Row → Type 0
Distinct [] = Unit {0}
Distinct (n ∷ ns) = (is_in n ns ≡ false) × Distinct ns

-- ---- cells by their names
pub cell_here : (n : Text) (ns : Row) (c : Text) (cs : Row) (name : Text) → text_eq name n ≡ true → cell_in (n ∷ ns) (c ∷ cs) name ≡ c
cell_here n ns c cs name e = rw e refl

pub cell_later : (n : Text) (ns : Row) (c : Text) (cs : Row) (name : Text) → text_eq name n ≡ false → cell_in (n ∷ ns) (c ∷ cs) name ≡ cell_in ns cs name
cell_later n ns c cs name e = rw e refl

pub cell_missing : (ns row : Row) (a : Text) → length row ≡ length ns → is_in a ns ≡ false → cell_in ns row a ≡ []
cell_missing [] row a l h = refl
cell_missing (x ∷ ns) [] a l h = absurd (omega (arith, l))
cell_missing (x ∷ ns) (cell ∷ row) a l h =
    cell_later x ns cell row a (or_false_left (text_eq a x) (is_in a ns) h) ∙ cell_missing ns row a (omega (arith, l)) (or_false_right (text_eq a x) (is_in a ns) h)

-- a name behind the others with an empty text changes none
one_empty : (ns row : Row) (a name : Text) → length row ≡ length ns → cell_in (ns ++ a ∷ []) (row ++ [] ∷ []) name ≡ cell_in ns row name
one_empty [] [] a name l = by_last (text_eq name a) refl
  where
    by_last : (b : Bool) → text_eq name a ≡ b → cell_in (a ∷ []) ([] ∷ []) name ≡ []
    by_last true e = rw e refl
    by_last false e = rw e refl
one_empty [] (cell ∷ row) a name l = absurd (omega (arith, l))
one_empty (x ∷ ns) [] a name l = absurd (omega (arith, l))
one_empty (x ∷ ns) (cell ∷ row) a name l = by_first (text_eq name x) refl (one_empty ns row a name (omega (arith, l)))
  where
    by_first : (b : Bool) → text_eq name x ≡ b → cell_in (ns ++ a ∷ []) (row ++ [] ∷ []) name ≡ cell_in ns row name
        → cell_in (x ∷ ns ++ a ∷ []) (cell ∷ row ++ [] ∷ []) name ≡ cell_in (x ∷ ns) (cell ∷ row) name
    by_first true e rest = cell_here x (ns ++ a ∷ []) cell (row ++ [] ∷ []) name e ∙ sym (cell_here x ns cell row name e)
    by_first false e rest = cell_later x (ns ++ a ∷ []) cell (row ++ [] ∷ []) name e ∙ rest ∙ sym (cell_later x ns cell row name e)

-- one more
-- a name that is taken out reads as empty
one_less : (ns row : Row) (a name : Text) → Distinct ns → length row ≡ length ns
    → cell_in (remove ns (position_or_len (text_eq a) ns)) (remove row (position_or_len (text_eq a) ns)) name ≡ cond (text_eq name a) [] (cell_in ns row name)
one_less [] [] a name d l = either (text_eq name a)
  where
    either : (b : Bool) → cell_in [] [] name ≡ cond b [] (cell_in [] [] name)
    either true = refl
    either false = refl
one_less [] (t ∷ row) a name d l = absurd (omega (arith, l))
one_less (n ∷ ns) [] a name d l = absurd (omega (arith, l))
one_less (n ∷ ns) (t ∷ row) a name d l = by_first (text_eq a n) refl (one_less ns row a name d.1 (omega (arith, l)))
  where
    by_first : (b : Bool) → text_eq a n ≡ b
        → cell_in (remove ns (position_or_len (text_eq a) ns)) (remove row (position_or_len (text_eq a) ns)) name ≡ cond (text_eq name a) [] (cell_in ns row name)
        → cell_in (remove (n ∷ ns) (position_or_len (text_eq a) (n ∷ ns))) (remove (t ∷ row) (position_or_len (text_eq a) (n ∷ ns))) name ≡ cond (text_eq name a) [] (cell_in (n ∷ ns) (t ∷ row) name)
    by_first true e rest = let same : a ≡ n = bytes_same a n e in rw (e, same) (by_name (text_eq name n) refl)
      where
        by_name : (b : Bool) → text_eq name n ≡ b → cell_in ns row name ≡ cond (text_eq name n) [] (cell_in (n ∷ ns) (t ∷ row) name)
        by_name true k = cell_missing ns row name (omega (arith, l)) (ap (λ (x : Text). is_in x ns) (bytes_same name n k) ∙ d.0) ∙ sym (ap (λ (b : Bool). cond b [] (cell_in (n ∷ ns) (t ∷ row) name)) k)
        by_name false k = sym (cell_later n ns t row name k) ∙ sym (ap (λ (b : Bool). cond b [] (cell_in (n ∷ ns) (t ∷ row) name)) k)
    by_first false e rest = rw (e, one_more) (by_name (text_eq name n) refl rest)
      where
        by_name : (b : Bool) → text_eq name n ≡ b
            → cell_in (remove ns (position_or_len (text_eq a) ns)) (remove row (position_or_len (text_eq a) ns)) name ≡ cond (text_eq name a) [] (cell_in ns row name)
            → cell_in (n ∷ remove ns (position_or_len (text_eq a) ns)) (t ∷ remove row (position_or_len (text_eq a) ns)) name ≡ cond (text_eq name a) [] (cell_in (n ∷ ns) (t ∷ row) name)
        by_name true k behind = cell_here n _ t _ name k ∙ by_a (text_eq name a) refl
          where
            by_a : (b : Bool) → text_eq name a ≡ b → t ≡ cond (text_eq name a) [] (cell_in (n ∷ ns) (t ∷ row) name)
            by_a true j = let bad : true ≡ false = sym k ∙ ap (λ (x : Text). text_eq x n) (bytes_same name a j) ∙ e in absurd (cc)
            by_a false j = sym (cell_here n ns t row name k) ∙ sym (ap (λ (b : Bool). cond b [] (cell_in (n ∷ ns) (t ∷ row) name)) j)
        by_name false k behind = cell_later n _ t _ name k ∙ behind ∙ ap (λ (x : Text). cond (text_eq name a) [] x) (sym (cell_later n ns t row name k))

-- a row under its own attributes
own_cells : (ns row : Row) → Distinct ns → length row ≡ length ns → map (cell_in ns row) ns ≡ row
own_cells [] [] d l = refl
own_cells [] (t ∷ row) d l = absurd (omega (arith, l))
own_cells (c ∷ ns) [] d l = absurd (omega (arith, l))
own_cells (c ∷ ns) (t ∷ row) d l = λ i. cell_here c ns t row c (same_bytes c) i ∷ (behind ns (λ name h. h) ∙ own_cells ns row d.1 (omega (arith, l))) i
  where
    behind : (ms : Row) → ((name : Text) → is_in name ms ≡ true → is_in name ns ≡ true) → map (cell_in (c ∷ ns) (t ∷ row)) ms ≡ map (cell_in ns row) ms
    behind [] h = refl
    behind (n ∷ ms) h = λ i. cell_later c ns t row n other i ∷ behind ms (λ name j. h name (ap (λ (b : Bool). text_eq name n || b) j ∙ or_right (text_eq name n))) i
      where
        there : is_in n ns ≡ true
        there = h n (ap (λ (b : Bool). b || is_in n ms) (same_bytes n))

        other : text_eq n c ≡ false
        other = by_test (text_eq n c) refl
          where
            by_test : (b : Bool) → text_eq n c ≡ b → text_eq n c ≡ false
            by_test true e = let bad : true ≡ false = sym there ∙ ap (λ (x : Text). is_in x ns) (bytes_same n c e) ∙ d.0 in absurd (cc)
            by_test false e = e

-- a row that a function makes of the names
pub mapped_cell : (g : Text → Text) (ns : Row) (name : Text) → cell_in ns (map g ns) name ≡ cond (is_in name ns) (g name) []
mapped_cell g [] name = refl
mapped_cell g (n ∷ ns) name = by_first (text_eq name n) refl (mapped_cell g ns name)
  where
    by_first : (b : Bool) → text_eq name n ≡ b → cell_in ns (map g ns) name ≡ cond (is_in name ns) (g name) [] → cell_in (n ∷ ns) (g n ∷ map g ns) name ≡ cond (text_eq name n || is_in name ns) (g name) []
    by_first true e rest = rw e (ap g (sym (bytes_same name n e)))
    by_first false e rest = rw e rest

-- ---- a relation that says what a table says
abbrev pub rows_by : Row → RelationValue → List Row
rows_by names r = map (λ row. map (cell_in r.attributes row) names) r.rows

abbrev pub says_by : Row → TableValue → Row → Row → Row
says_by constants t names key = map (text_of constants t key) names

pub record Says (constants : Row) (r : RelationValue) (t : TableValue) : Type 0 where
  pub attributes : (f : Text → ℕ) → weigh f r.attributes ≡ weigh f constants + weigh f t.columns
  pub rows : (names : Row) (f : Row → ℕ) → weigh f (rows_by names r) ≡ weigh (λ key. f (says_by constants t names key)) (row_keys t)
  pub distinct : Distinct r.attributes
  pub fits : AllByRecursion (λ (row : Row). length row ≡ length r.attributes) r.rows
  pub apart : (name : Text) → is_in name constants ≡ true → is_in name t.columns ≡ false
  pub table : IsTable t

pub halves : {X : Type 0} (n : ℕ) (xs : List X) → take n xs ++ drop n xs ≡ xs
halves zero xs = refl
halves (suc n) [] = refl
halves (suc n) (x ∷ xs) = ap (λ ys. x ∷ ys) (halves n xs)

pub weigh_inserted : {X : Type 0} (f : X → ℕ) (xs : List X) (p : ℕ) (x : X) → weigh f (insert xs p x) ≡ f x + weigh f xs
weigh_inserted f xs p x =
    let a = weigh-append f (take p xs) (x ∷ drop p xs) in
    let b = weigh-append f (take p xs) (drop p xs) in
    let c : weigh f (take p xs ++ drop p xs) ≡ weigh f xs = ap (weigh f) (halves p xs) in
    omega (arith, a, b, c)

pub weigh_removed : {X : Type 0} (f : X → ℕ) (xs : List X) (i : ℕ) (d : X) → i < length xs → weigh f xs ≡ f (slice_index_or xs i d) + weigh f (remove xs i)
weigh_removed f [] i d l = absurd (omega (arith, l))
weigh_removed f (x ∷ xs) zero d l = refl
weigh_removed f (x ∷ xs) (suc i) d l = let rest = weigh_removed f xs i d (omega (arith, l)) in omega (arith, rest)

-- the first element that is the same, taken out
weigh_less_row : (f : Row → ℕ) (row : Row) (xs : List Row) → list_any (row_eq row) xs ≡ true → weigh f xs ≡ f row + weigh f (remove xs (position_or_len (row_eq row) xs))
weigh_less_row f row [] h = absurd (cc)
weigh_less_row f row (x ∷ xs) h = by_first (row_eq row x) refl (weigh_less_row f row xs)
  where
    by_first : (b : Bool) → row_eq row x ≡ b → (list_any (row_eq row) xs ≡ true → weigh f xs ≡ f row + weigh f (remove xs (position_or_len (row_eq row) xs)))
        → f x + weigh f xs ≡ f row + weigh f (remove (x ∷ xs) (position_or_len (row_eq row) (x ∷ xs)))
    by_first true e rest = let same_row : row ≡ x = rows_same row x e in rw (e, same_row) refl
    by_first false e rest =
        let behind = rest (sym (ap (λ (b : Bool). b || list_any (row_eq row) xs) e) ∙ h) in
        rw (e, one_more) (omega (arith, behind))

weigh_less_name : (f : Text → ℕ) (a : Text) (ns : Row) → is_in a ns ≡ true → weigh f ns ≡ f a + weigh f (remove ns (position_or_len (text_eq a) ns))
weigh_less_name f a [] h = absurd (cc)
weigh_less_name f a (n ∷ ns) h = by_first (text_eq a n) refl (weigh_less_name f a ns)
  where
    by_first : (b : Bool) → text_eq a n ≡ b → (is_in a ns ≡ true → weigh f ns ≡ f a + weigh f (remove ns (position_or_len (text_eq a) ns))) → f n + weigh f ns ≡ f a + weigh f (remove (n ∷ ns) (position_or_len (text_eq a) (n ∷ ns)))
    by_first true e rest = let same : a ≡ n = bytes_same a n e in rw (e, same) refl
    by_first false e rest =
        let behind = rest (sym (ap (λ (b : Bool). b || is_in a ns) e) ∙ h) in
        rw (e, one_more) (omega (arith, behind))

-- ---- the keys of a table
pub keys_weighed : (g : Row → ℕ) (rows : List (Row × Row)) → weigh g (keys_of rows) ≡ weigh (λ (x : Row × Row). g x.0) rows
keys_weighed g [] = refl
keys_weighed g (x ∷ rows) = ap (λ n. g x.0 + n) (keys_weighed g rows)

pub one_key_more : (g : Row → ℕ) (key cells : Row) (rows : List (Row × Row)) → list_any (λ (x : Row × Row). row_eq key x.0) rows ≡ false → weigh g (keys_of (with_element by_key (key, cells) rows)) ≡ g key + weigh g (keys_of rows)
one_key_more g key cells [] h = refl
one_key_more g key cells (y ∷ ys) h = by_cmp (row_cmp key y.0) refl (one_key_more g key cells ys (or_false_right (row_eq key y.0) (list_any (λ (x : Row × Row). row_eq key x.0) ys) h))
  where
    by_cmp : (o : Ordering) → row_cmp key y.0 ≡ o → weigh g (keys_of (with_element by_key (key, cells) ys)) ≡ g key + weigh g (keys_of ys)
        → weigh g (keys_of (by_order (row_cmp key y.0) ((key, cells) ∷ y ∷ ys) (y ∷ ys) (y ∷ with_element by_key (key, cells) ys))) ≡ g key + (g y.0 + weigh g (keys_of ys))
    by_cmp Less e rest = rw e refl
    by_cmp Equal e rest =
        let bad : true ≡ false = sym (row_order.ties key y.0 ∙ ap is_eq e) ∙ or_false_left (row_eq key y.0) (list_any (λ (x : Row × Row). row_eq key x.0) ys) h in
        absurd (cc)
    by_cmp Greater e rest = rw e (omega (arith, rest))

pub one_key_less : (t : TableValue) (key : Row) (g : Row → ℕ) → IsTable t → has_row key t ≡ true → weigh g (row_keys t) ≡ g key + weigh g (row_keys (without_row key t))
one_key_less t key g table there =
    let place = place_there row_order key_of key t.rows there in
    let a = keys_weighed g t.rows in
    let b = weigh_removed (λ (x : Row × Row). g x.0) t.rows place.0 ([], []) place.1.within in
    let c = keys_weighed g (remove t.rows place.0) in
    let d : weigh g (row_keys (without_row key t)) ≡ weigh g (keys_of (remove t.rows place.0)) = ap (λ (u : TableValue). weigh g (row_keys u)) (row_removed t key place.0 table place.1) in
    let e : g (slice_index_or t.rows place.0 ([], [])).0 ≡ g key = ap g (place.1.has_key ([], [])) in
    omega (arith, a, b, c, d, e)

-- the keys that are left are others
others_left : (key : Row) (rows : List (Row × Row)) → AllByRecursion (λ (q : Row). row_eq q key ≡ false) (keys_of (filter (λ (x : Row × Row). not (row_eq key x.0)) rows))
others_left key [] = tt
others_left key (x ∷ rows) = by_first (row_eq key x.0) refl (others_left key rows)
  where
    by_first : (b : Bool) → row_eq key x.0 ≡ b → AllByRecursion (λ (q : Row). row_eq q key ≡ false) (keys_of (filter (λ (y : Row × Row). not (row_eq key y.0)) rows))
        → AllByRecursion (λ (q : Row). row_eq q key ≡ false) (keys_of (filter (λ (y : Row × Row). not (row_eq key y.0)) (x ∷ rows)))
    by_first true e rest = rw e rest
    by_first false e rest = rw e (turned row_order x.0 key ∙ e, rest)

-- and so are all, where the key is not there
others_there : (key : Row) (rows : List (Row × Row)) → list_any (λ (x : Row × Row). row_eq key x.0) rows ≡ false → AllByRecursion (λ (q : Row). row_eq q key ≡ false) (keys_of rows)
others_there key [] h = tt
others_there key (x ∷ rows) h =
    let later : Bool = list_any (λ (y : Row × Row). row_eq key y.0) rows in
    (turned row_order x.0 key ∙ or_false_left (row_eq key x.0) later h, others_there key rows (or_false_right (row_eq key x.0) later h))

-- ---- a relation that says what a table says
module _ (constants : Row) (r : RelationValue) (t : TableValue) (says : Says constants r t) where
  pub in_upper : (name : Text) → is_in name r.attributes ≡ (is_in name constants || is_in name t.columns)
  in_upper name = any_by_weight (text_eq name) (text_eq name) r.attributes (constants ++ t.columns) (says.attributes _ ∙ sym (weigh-append _ constants t.columns)) ∙ in_append name constants t.columns

  abbrev rec : Row → Row
  rec key = record_of constants r.attributes t key

  own_rows : (xs : List Row) → AllByRecursion (λ (row : Row). length row ≡ length r.attributes) xs → map (λ row. map (cell_in r.attributes row) r.attributes) xs ≡ xs
  own_rows [] h = refl
  own_rows (x ∷ xs) h = λ i. own_cells r.attributes x says.distinct h.0 i ∷ own_rows xs h.1 i

  rows_are : (f : Row → ℕ) → weigh f r.rows ≡ weigh (λ key. f (rec key)) (row_keys t)
  rows_are f = sym (ap (weigh f) (own_rows r.rows says.fits)) ∙ says.rows r.attributes f

  any_of : (p : Row → Bool) (key : Row) (keys : List Row) → list_any (row_eq key) keys ≡ true → p key ≡ true → list_any p keys ≡ true
  any_of p key [] h k = absurd (cc)
  any_of p key (x ∷ xs) h k = by_first (row_eq key x) refl (any_of p key xs)
    where
      by_first : (b : Bool) → row_eq key x ≡ b → (list_any (row_eq key) xs ≡ true → p key ≡ true → list_any p xs ≡ true) → (p x || list_any p xs) ≡ true
      by_first true e rest = ap (λ (b : Bool). b || list_any p xs) (ap p (sym (rows_same key x e)) ∙ k)
      by_first false e rest = ap (λ (b : Bool). p x || b) (rest (sym (ap (λ (b : Bool). b || list_any (row_eq key) xs) e) ∙ h) k) ∙ or_right (p x)

  pub record_there : (key : Row) → has_row key t ≡ true → list_any (row_eq (rec key)) r.rows ≡ true
  record_there key there =
      any_by_weight (row_eq (rec key)) (λ k. row_eq (rec key) (rec k)) r.rows (row_keys t) (rows_are (λ row. mark (row_eq (rec key) row)))
      ∙ any_of (λ k. row_eq (rec key) (rec k)) key (row_keys t) (sym (key_is_there key t) ∙ there) (same_rows (rec key))

  text_says : (u : TableValue) (key : Row) (name : Text) → u.columns ≡ t.columns → cell_in r.attributes (record_of constants r.attributes u key) name ≡ text_of constants u key name
  text_says u key name same = mapped_cell (text_of constants u key) r.attributes name ∙ by_in (is_in name r.attributes) refl
    where
      by_in : (b : Bool) → is_in name r.attributes ≡ b → cond (is_in name r.attributes) (text_of constants u key name) [] ≡ text_of constants u key name
      by_in true e = rw e refl
      by_in false e =
          let neither : (is_in name constants || is_in name t.columns) ≡ false = sym (in_upper name) ∙ e in
          let no_constant = or_false_left (is_in name constants) (is_in name t.columns) neither in
          let no_column : is_in name u.columns ≡ false = ap (is_in name) same ∙ or_false_right (is_in name constants) (is_in name t.columns) neither in
          let none = cell_no_column u key name no_column in
          rw (e, no_constant, none) refl

  rows_say : (u : TableValue) (names key : Row) → u.columns ≡ t.columns → map (cell_in r.attributes (record_of constants r.attributes u key)) names ≡ says_by constants u names key
  rows_say u names key same = λ i. map (λ name. text_says u key name same i) names

  -- all rows fit still
  fits_more : (row : Row) (xs : List Row) → length row ≡ length r.attributes → AllByRecursion (λ (x : Row). length x ≡ length r.attributes) xs → AllByRecursion (λ (x : Row). length x ≡ length r.attributes) (xs ++ row ∷ [])
  fits_more row [] l h = (l, tt)
  fits_more row (x ∷ xs) l h = (h.0, fits_more row xs l h.1)

  mapped_long : (g : Text → Text) (ns : Row) → length (map g ns) ≡ length ns
  mapped_long g [] = refl
  mapped_long g (n ∷ ns) = ap suc (mapped_long g ns)

  abbrev under : Row → Row → Row
  under names row = map (cell_in r.attributes row) names

  -- a table says of other keys what it said
  abbrev OthersStay : Row → TableValue → Type 0
  OthersStay key u = (q : Row) (c : Text) → row_eq q key ≡ false → cell_of u q c ≡ cell_of t q c

  others_say : (key : Row) (u : TableValue) → OthersStay key u → (names : Row) (f : Row → ℕ) (ks : List Row) → AllByRecursion (λ (q : Row). row_eq q key ≡ false) ks
      → AllByRecursion (λ k. f (says_by constants u names k) ≡ f (says_by constants t names k)) ks
  others_say key u others names f [] h = tt
  others_say key u others names f (k ∷ ks) h = (ap f (λ i. map (λ name. cond (is_in name constants) (cell_in constants k name) (others k name h.0 i)) names), others_say key u others names f ks h.1)

  -- ---- a row comes, with its cells
  pub row_came : (key : Row) (u : TableValue) → has_row key t ≡ false → IsTable u → u.columns ≡ t.columns → row_keys u ≡ row_keys (with_row key t) → OthersStay key u
      → Says constants (put_row (record_of constants r.attributes u key) r) u
  row_came key u absent table columns keys others = record {
    attributes = λ f. says.attributes f ∙ ap (λ ns. weigh f constants + weigh f ns) (sym columns);
    rows = rows;
    distinct = says.distinct;
    fits = fits_more (record_of constants r.attributes u key) r.rows (mapped_long (text_of constants u key) r.attributes) says.fits;
    apart = λ name h. ap (is_in name) columns ∙ says.apart name h;
    table = table;
  }
    where
      rows : (names : Row) (f : Row → ℕ) → weigh f (rows_by names (put_row (record_of constants r.attributes u key) r)) ≡ weigh (λ k. f (says_by constants u names k)) (row_keys u)
      rows names f =
          let a = weigh_mapped (under names) f (r.rows ++ record_of constants r.attributes u key ∷ []) in
          let b = weigh-append (λ row. f (under names row)) r.rows (record_of constants r.attributes u key ∷ []) in
          let c = weigh_mapped (under names) f r.rows in
          let d = says.rows names f in
          let e : weigh (λ k. f (says_by constants u names k)) (row_keys u) ≡ weigh (λ k. f (says_by constants u names k)) (row_keys (with_row key t)) = ap (weigh (λ k. f (says_by constants u names k))) keys in
          let g = one_key_more (λ k. f (says_by constants u names k)) key (replicate (length t.columns) []) t.rows absent in
          let h = weigh_agree (λ k. f (says_by constants u names k)) (λ k. f (says_by constants t names k)) (row_keys t) (others_say key u others names f (row_keys t) (others_there key t.rows absent)) in
          let k : f (under names (record_of constants r.attributes u key)) ≡ f (says_by constants u names key) = ap f (rows_say u names key columns) in
          omega (arith, a, b, c, d, e, g, h, k)

  -- ---- a row goes
  without_says : (key : Row) (names : Row) (f : Row → ℕ) → has_row key t ≡ true → weigh f (rows_by names (less_row (rec key) r)) ≡ weigh (λ k. f (says_by constants t names k)) (row_keys (without_row key t))
  without_says key names f there =
      let a = weigh_mapped (under names) f (remove r.rows (position_or_len (row_eq (rec key)) r.rows)) in
      let b = weigh_less_row (λ row. f (under names row)) (rec key) r.rows (record_there key there) in
      let c = weigh_mapped (under names) f r.rows in
      let d = says.rows names f in
      let g = one_key_less t key (λ k. f (says_by constants t names k)) says.table there in
      let h : f (under names (rec key)) ≡ f (says_by constants t names key) = ap f (rows_say t names key refl) in
      omega (arith, a, b, c, d, g, h)

  fits_less : (row : Row) → AllByRecursion (λ (x : Row). length x ≡ length r.attributes) (less_row row r).rows
  fits_less row = all_removed (λ (x : Row). length x ≡ length r.attributes) r.rows (position_or_len (row_eq row) r.rows) says.fits

  pub row_went : (label : Text) (key : Row) → has_row key t ≡ true → Says constants (less_row (rec key) r) (without_row key t)
  row_went label key there = record {
    attributes = says.attributes;
    rows = rows;
    distinct = says.distinct;
    fits = fits_less (rec key);
    apart = says.apart;
    table = line_in_order (RowMinus label key) t says.table there;
  }
    where
      rows : (names : Row) (f : Row → ℕ) → weigh f (rows_by names (less_row (rec key) r)) ≡ weigh (λ k. f (says_by constants (without_row key t) names k)) (row_keys (without_row key t))
      rows names f =
          without_says key names f there
          ∙ sym (weigh_agree (λ k. f (says_by constants (without_row key t) names k)) (λ k. f (says_by constants t names k)) (row_keys (without_row key t)) (others_say key (without_row key t) (row_minus_cells t key) names f (row_keys (without_row key t)) (others_left key t.rows)))

  -- ---- the cells of a row change
  pub row_changed : (key : Row) (u : TableValue) → has_row key t ≡ true → IsTable u → u.columns ≡ t.columns → row_keys u ≡ row_keys t → OthersStay key u
      → Says constants (put_row (record_of constants r.attributes u key) (less_row (rec key) r)) u
  row_changed key u there table columns keys others = record {
    attributes = λ f. says.attributes f ∙ ap (λ ns. weigh f constants + weigh f ns) (sym columns);
    rows = rows;
    distinct = says.distinct;
    fits = fits_more (record_of constants r.attributes u key) (less_row (rec key) r).rows (mapped_long (text_of constants u key) r.attributes) (fits_less (rec key));
    apart = λ name h. ap (is_in name) columns ∙ says.apart name h;
    table = table;
  }
    where
      rows : (names : Row) (f : Row → ℕ) → weigh f (rows_by names (put_row (record_of constants r.attributes u key) (less_row (rec key) r))) ≡ weigh (λ k. f (says_by constants u names k)) (row_keys u)
      rows names f =
          let left = remove r.rows (position_or_len (row_eq (rec key)) r.rows) in
          let a = weigh_mapped (under names) f (left ++ record_of constants r.attributes u key ∷ []) in
          let b = weigh-append (λ row. f (under names row)) left (record_of constants r.attributes u key ∷ []) in
          let c = weigh_mapped (under names) f left in
          let d = without_says key names f there in
          let e : weigh (λ k. f (says_by constants u names k)) (row_keys u) ≡ weigh (λ k. f (says_by constants u names k)) (row_keys t) = ap (weigh (λ k. f (says_by constants u names k))) keys in
          let g = one_key_less t key (λ k. f (says_by constants u names k)) says.table there in
          let h = weigh_agree (λ k. f (says_by constants u names k)) (λ k. f (says_by constants t names k)) (row_keys (without_row key t)) (others_say key u others names f (row_keys (without_row key t)) (others_left key t.rows)) in
          let k : f (under names (record_of constants r.attributes u key)) ≡ f (says_by constants u names key) = ap f (rows_say u names key columns) in
          omega (arith, a, b, c, d, e, g, h, k)

  -- ---- a column is added
  appended_distinct : (ns : Row) (a : Text) → Distinct ns → is_in a ns ≡ false → Distinct (ns ++ a ∷ [])
  appended_distinct [] a d h = (refl, tt)
  appended_distinct (n ∷ ns) a d h = (first, appended_distinct ns a d.1 (or_false_right (text_eq a n) (is_in a ns) h))
    where
      first : is_in n (ns ++ a ∷ []) ≡ false
      first = in_append n ns (a ∷ []) ∙ rw (d.0, turned text_order n a, or_false_left (text_eq a n) (is_in a ns) h) refl

  pub column_added : (label a : Text) → has_column a t ≡ false → is_in a constants ≡ false → Says constants (with_attribute a [] r) (with_column a t)
  column_added label a absent dynamic = record {
    attributes = attributes;
    rows = rows;
    distinct = appended_distinct r.attributes a says.distinct fresh;
    fits = fits r.rows says.fits;
    apart = apart;
    table = line_in_order (ColumnPlus label a) t says.table (ap not absent);
  }
    where
      fresh : is_in a r.attributes ≡ false
      fresh = in_upper a ∙ rw (dynamic, absent) refl

      attributes : (f : Text → ℕ) → weigh f (r.attributes ++ a ∷ []) ≡ weigh f constants + weigh f (with_column a t).columns
      attributes f =
          let b = weigh-append f r.attributes (a ∷ []) in
          let c = says.attributes f in
          let d = weigh_inserted f t.columns (column_place a t.columns) a in
          omega (arith, b, c, d)

      longer : (row : Row) (x : Text) (ns : Row) (n : Text) → length row ≡ length ns → length (row ++ x ∷ []) ≡ length (ns ++ n ∷ [])
      longer [] x [] n l = refl
      longer [] x (m ∷ ns) n l = absurd (omega (arith, l))
      longer (c ∷ row) x [] n l = absurd (omega (arith, l))
      longer (c ∷ row) x (m ∷ ns) n l = ap suc (longer row x ns n (omega (arith, l)))

      fits : (xs : List Row) → AllByRecursion (λ (x : Row). length x ≡ length r.attributes) xs → AllByRecursion (λ (x : Row). length x ≡ length (r.attributes ++ a ∷ [])) (map (λ row. row ++ [] ∷ []) xs)
      fits [] h = tt
      fits (x ∷ xs) h = (longer x [] r.attributes a h.0, fits xs h.1)

      apart : (name : Text) → is_in name constants ≡ true → is_in name (with_column a t).columns ≡ false
      apart name h = column_plus_columns t a name ∙ by_name (text_eq name a) refl
        where
          by_name : (b : Bool) → text_eq name a ≡ b → (text_eq name a || is_in name t.columns) ≡ false
          by_name true e = let bad : true ≡ false = sym h ∙ ap (λ (x : Text). is_in x constants) (bytes_same name a e) ∙ dynamic in absurd (cc)
          by_name false e = rw e (says.apart name h)

      upper : (names : Row) (xs : List Row) → AllByRecursion (λ (x : Row). length x ≡ length r.attributes) xs
          → map (λ row. map (cell_in (r.attributes ++ a ∷ []) row) names) (map (λ row. row ++ [] ∷ []) xs) ≡ map (λ row. map (cell_in r.attributes row) names) xs
      upper names [] h = refl
      upper names (x ∷ xs) h = λ i. map (λ name. one_empty r.attributes x a name h.0 i) names ∷ upper names xs h.1 i

      same_says : (names q : Row) → says_by constants (with_column a t) names q ≡ says_by constants t names q
      same_says names q = λ i. map (λ name. cond (is_in name constants) (cell_in constants q name) (column_plus_cells t a q name says.table absent i)) names

      rows : (names : Row) (f : Row → ℕ) → weigh f (rows_by names (with_attribute a [] r)) ≡ weigh (λ k. f (says_by constants (with_column a t) names k)) (row_keys (with_column a t))
      rows names f =
          ap (weigh f) (upper names r.rows says.fits)
          ∙ says.rows names f
          ∙ ap (λ (g : Row → ℕ). weigh g (row_keys t)) (λ i k. f (sym (same_says names k) i))
          ∙ ap (weigh (λ k. f (says_by constants (with_column a t) names k))) (sym (column_plus_keys t a))

  -- ---- a column is dropped
  abbrev blanked : Text → Row → Row → Row
  blanked a [] row = []
  blanked a (n ∷ ns) [] = []
  blanked a (n ∷ ns) (x ∷ row) = cond (text_eq n a) [] x ∷ blanked a ns row

  blanked_mapped : (a : Text) (g : Text → Text) (ns : Row) → blanked a ns (map g ns) ≡ map (λ n. cond (text_eq n a) [] (g n)) ns
  blanked_mapped a g [] = refl
  blanked_mapped a g (n ∷ ns) = ap (λ (x : Row). cond (text_eq n a) [] (g n) ∷ x) (blanked_mapped a g ns)

  removed_in : (ns : Row) (p : ℕ) (name : Text) → is_in name ns ≡ false → is_in name (remove ns p) ≡ false
  removed_in [] zero name h = refl
  removed_in [] (suc p) name h = refl
  removed_in (n ∷ ns) zero name h = or_false_right (text_eq name n) (is_in name ns) h
  removed_in (n ∷ ns) (suc p) name h = rw (or_false_left (text_eq name n) (is_in name ns) h) (removed_in ns p name (or_false_right (text_eq name n) (is_in name ns) h))

  removed_distinct : (ns : Row) (p : ℕ) → Distinct ns → Distinct (remove ns p)
  removed_distinct [] zero d = tt
  removed_distinct [] (suc p) d = tt
  removed_distinct (n ∷ ns) zero d = d.1
  removed_distinct (n ∷ ns) (suc p) d = (removed_in ns p n d.0, removed_distinct ns p d.1)

  removed_long : (xs ys : Row) (p : ℕ) → length xs ≡ length ys → length (remove xs p) ≡ length (remove ys p)
  removed_long [] [] p l = refl
  removed_long [] (y ∷ ys) p l = absurd (omega (arith, l))
  removed_long (x ∷ xs) [] p l = absurd (omega (arith, l))
  removed_long (x ∷ xs) (y ∷ ys) zero l = omega (arith, l)
  removed_long (x ∷ xs) (y ∷ ys) (suc p) l = ap suc (removed_long xs ys p (omega (arith, l)))

  pub column_dropped : (label a : Text) → has_column a t ≡ true → Says constants (less_attribute a r) (without_column a t)
  column_dropped label a there = record {
    attributes = attributes;
    rows = rows;
    distinct = removed_distinct r.attributes place says.distinct;
    fits = fits r.rows says.fits;
    apart = apart;
    table = line_in_order (ColumnMinus label a) t says.table there;
  }
    where
      place : ℕ
      place = position_or_len (text_eq a) r.attributes

      dynamic : is_in a constants ≡ false
      dynamic = by_test (is_in a constants) refl
        where
          by_test : (b : Bool) → is_in a constants ≡ b → is_in a constants ≡ false
          by_test true e = let bad : true ≡ false = sym there ∙ says.apart a e in absurd (cc)
          by_test false e = e

      in_attributes : is_in a r.attributes ≡ true
      in_attributes = in_upper a ∙ rw (dynamic, there) refl

      attributes : (f : Text → ℕ) → weigh f (less_attribute a r).attributes ≡ weigh f constants + weigh f (without_column a t).columns
      attributes f =
          let at = place_there text_order (λ (x : Text). x) a t.columns there in
          let b = weigh_less_name f a r.attributes in_attributes in
          let c = says.attributes f in
          let d = weigh_removed f t.columns at.0 [] at.1.within in
          let e : f (slice_index_or t.columns at.0 []) ≡ f a = ap f (at.1.has_key []) in
          let g : weigh f (remove t.columns (column_place a t.columns)) ≡ weigh f (remove t.columns at.0) = ap (λ k. weigh f (remove t.columns k)) (place_of_column t a at.0 says.table at.1) in
          omega (arith, b, c, d, e, g)

      fits : (xs : List Row) → AllByRecursion (λ (x : Row). length x ≡ length r.attributes) xs → AllByRecursion (λ (x : Row). length x ≡ length (less_attribute a r).attributes) (map (λ row. remove row (position_or_len (text_eq a) r.attributes)) xs)
      fits [] h = tt
      fits (x ∷ xs) h = (removed_long x r.attributes (position_or_len (text_eq a) r.attributes) h.0, fits xs h.1)

      apart : (name : Text) → is_in name constants ≡ true → is_in name (without_column a t).columns ≡ false
      apart name h = removed_in t.columns (column_place a t.columns) name (says.apart name h)

      upper : (names : Row) (xs : List Row) → AllByRecursion (λ (x : Row). length x ≡ length r.attributes) xs
          → map (λ row. map (cell_in (less_attribute a r).attributes row) names) (map (λ row. remove row (position_or_len (text_eq a) r.attributes)) xs) ≡ map (blanked a names) (map (λ row. map (cell_in r.attributes row) names) xs)
      upper names [] h = refl
      upper names (x ∷ xs) h = λ i. ((λ j. map (λ name. one_less r.attributes x a name says.distinct h.0 j) names) ∙ sym (blanked_mapped a (cell_in r.attributes x) names)) i ∷ upper names xs h.1 i

      gone : has_column a (without_column a t) ≡ false
      gone = column_minus_columns t a a says.table there ∙ rw (there, same_bytes a) refl

      text_less : (q : Row) (name : Text) → text_of constants (without_column a t) q name ≡ cond (text_eq name a) [] (text_of constants t q name)
      text_less q name = by_name (text_eq name a) refl
        where
          by_name : (b : Bool) → text_eq name a ≡ b → text_of constants (without_column a t) q name ≡ cond (text_eq name a) [] (text_of constants t q name)
          by_name true e =
              let same = bytes_same name a e in
              let no_constant : is_in name constants ≡ false = ap (λ (x : Text). is_in x constants) same ∙ dynamic in
              let none : cell_of (without_column a t) q name ≡ [] = ap (cell_of (without_column a t) q) same ∙ cell_no_column (without_column a t) q a gone in
              rw (e, no_constant, none) refl
          by_name false e = rw e (ap (λ (x : Text). cond (is_in name constants) (cell_in constants q name) x) (column_minus_cells t a q name says.table there e))

      lower : (names q : Row) → says_by constants (without_column a t) names q ≡ blanked a names (says_by constants t names q)
      lower names q = (λ i. map (λ name. text_less q name i) names) ∙ sym (blanked_mapped a (text_of constants t q) names)

      rows : (names : Row) (f : Row → ℕ) → weigh f (rows_by names (less_attribute a r)) ≡ weigh (λ k. f (says_by constants (without_column a t) names k)) (row_keys (without_column a t))
      rows names f =
          ap (weigh f) (upper names r.rows says.fits)
          ∙ weigh_mapped (blanked a names) f (rows_by names r)
          ∙ says.rows names (λ row. f (blanked a names row))
          ∙ ap (λ (g : Row → ℕ). weigh g (row_keys t)) (λ i k. f (sym (lower names k) i))
          ∙ ap (weigh (λ k. f (says_by constants (without_column a t) names k))) (sym (column_minus_keys t a))
