-- A relation that says what a table says is the table's, up to the order of rows and attributes.
use Rattle.std.proofs.Common.{◌≡◌, ◌+◌, ◌∙◌, ◌≤◌, ℕ, zero, suc, Bool, true, false, cond, ◌||◌, not, List, [], ◌∷◌, ◌++◌, Option, Some, None, length, map, take, drop, refl, sym, ap, arith, length-append}
use Rattle.std.specs.Prelude.{unwrap_or, slice_get, option_and_then, position, is_some, sum_by, bytes_eq}
use Rattle.std.specs.List.{list_any, AllByRecursion, IsDistinct}
use Rattle.std.specs.List.Sorted.{IsStrictlySortedBy}
use Rattle.std.specs.Map.{lookup, keys_of}
use Rattle.std.specs.Ordering.{is_eq}
use Rattle.std.specs.declared.cmp.Ordering.TheVariants.{Less}
use Rattle.std.proofs.lemmas.List.Sums.{sum_by-cons}
use Rattle.ss_text.specs.Texts.{Text, Row, text_eq, row_eq, text_cmp, row_cmp, is_in}
use Rattle.ss_text.specs.Label.{is_column_label}
use Rattle.ss_text.proofs.KeyLemmas.{text_order, row_order}
use Rattle.ss_text.proofs.PairLemmas.{turned}
use Rattle.flow_law.specs.declared.shape.Shape.{Shape}
use Rattle.flow_law.specs.Tables.{TableValue, TablesValue, cell_in, row_keys}
use Rattle.flow_law.specs.InOrder.{IsTable, AreTables}
use Rattle.change_script.specs.Fits.{IsForm, TableFits, TablesFit}
use Rattle.schema_model.specs.Catalogue.{RelationValue, CatalogueValue, database_value}
use Rattle.schema_model.specs.Sound.{IsRelation, IsSound}
use Rattle.view_meaning.specs.Meaning.{given}
use Rattle.view_meaning.specs.Orders.{text_under, row_under, rows_under, SameRelation, SameRelations}
use Rattle.view_meaning.proofs.OrderLemmas.{bytes_same, same_bytes, same_rows, text_here, text_later}
use Rattle.operator_law.specs.Bags.{weigh}
use Rattle.operator_law.proofs.Weights.{weigh-append}
use Rattle.view_stack.specs.Records.{text_of}
use Rattle.view_stack.specs.Stands.{header, relation_for, catalogue_for, stands}
use Rattle.flow_law.specs.Records.{spliced}
use Rattle.view_stack.proofs.SaysLemmas.{mark, none_marked, weigh_mapped, Distinct, Says, rows_by, says_by, cell_here, cell_later, cell_missing, halves, in_append, and_second, not_true}
use Rattle.view_stack.proofs.MovedLemmas.{AreSaid, whole}

-- ---- texts under names are cells
no_text : (o : Option ℕ) → given (option_and_then (slice_get []) o) ≡ []
no_text None = refl
no_text (Some p) = refl

pub text_is : (ns row : Row) (a : Text) → text_under ns row a ≡ cell_in ns row a
text_is [] row a = refl
text_is (x ∷ ns) [] a = no_text (position (text_eq a) (x ∷ ns))
text_is (x ∷ ns) (cell ∷ row) a = by_first (text_eq a x) refl (text_is ns row a)
  where
    by_first : (b : Bool) → text_eq a x ≡ b → text_under ns row a ≡ cell_in ns row a → text_under (x ∷ ns) (cell ∷ row) a ≡ cell_in (x ∷ ns) (cell ∷ row) a
    by_first true e rest = text_here x ns cell row a e ∙ sym (cell_here x ns cell row a e)
    by_first false e rest = text_later x ns cell row a e ∙ rest ∙ sym (cell_later x ns cell row a e)

rows_are : (names : Row) (r : RelationValue) → AllByRecursion (λ (row : Row). length row ≡ length r.attributes) r.rows → rows_under names r ≡ rows_by names r
rows_are names r fits = each r.rows fits
  where
    each : (xs : List Row) → AllByRecursion (λ (row : Row). length row ≡ length r.attributes) xs → map (row_under names r.attributes) xs ≡ map (λ row. map (cell_in r.attributes row) names) xs
    each [] h = refl
    each (x ∷ xs) h = λ i. map (λ name. text_is r.attributes x name i) names ∷ each xs h.1 i

weigh_is : {X : Type 0} (f : X → ℕ) (xs : List X) → sum_by f xs ≡ weigh f xs
weigh_is f [] = refl
weigh_is f (x ∷ xs) = sum_by-cons f x xs ∙ ap (λ n. f x + n) (weigh_is f xs)

-- ---- splices
-- names behind others
appended : (ns ms row more : Row) (a : Text) → length row ≡ length ns → cell_in (ns ++ ms) (row ++ more) a ≡ cond (is_in a ns) (cell_in ns row a) (cell_in ms more a)
appended [] ms [] more a l = refl
appended [] ms (cell ∷ row) more a l = absurd (omega (arith, l))
appended (x ∷ ns) ms [] more a l = absurd (omega (arith, l))
appended (x ∷ ns) ms (cell ∷ row) more a l = by_first (text_eq a x) refl (appended ns ms row more a (omega (arith, l)))
  where
    by_first : (b : Bool) → text_eq a x ≡ b → cell_in (ns ++ ms) (row ++ more) a ≡ cond (is_in a ns) (cell_in ns row a) (cell_in ms more a)
        → cell_in (x ∷ ns ++ ms) (cell ∷ row ++ more) a ≡ cond (text_eq a x || is_in a ns) (cell_in (x ∷ ns) (cell ∷ row) a) (cell_in ms more a)
    by_first true e rest = rw (cell_here x (ns ++ ms) cell (row ++ more) a e, cell_here x ns cell row a e, e) refl
    by_first false e rest = rw (cell_later x (ns ++ ms) cell (row ++ more) a e, cell_later x ns cell row a e, e) rest

-- ---- the record of a key, whatever the spot
abbrev key_text : Row → Row → Row × Row → Text → Text
key_text constants columns r name = cond (is_in name constants) (cell_in constants r.0 name) (cell_in columns r.1 name)

abbrev AreApart : Row → Row → Type 0
AreApart constants columns = (name : Text) → is_in name constants ≡ true → is_in name columns ≡ false

take_long : (n : ℕ) (xs ys : Row) → length xs ≡ length ys → length (take n xs) ≡ length (take n ys)
take_long zero xs ys l = refl
take_long (suc n) [] [] l = refl
take_long (suc n) [] (y ∷ ys) l = absurd (omega (arith, l))
take_long (suc n) (x ∷ xs) [] l = absurd (omega (arith, l))
take_long (suc n) (x ∷ xs) (y ∷ ys) l = ap suc (take_long n xs ys (omega (arith, l)))

drop_long : (n : ℕ) (xs ys : Row) → length xs ≡ length ys → length (drop n xs) ≡ length (drop n ys)
drop_long zero xs ys l = l
drop_long (suc n) [] [] l = refl
drop_long (suc n) [] (y ∷ ys) l = absurd (omega (arith, l))
drop_long (suc n) (x ∷ xs) (y ∷ ys) l = drop_long n xs ys (omega (arith, l))
drop_long (suc n) (x ∷ xs) [] l = absurd (omega (arith, l))

both_long : (xs ys us vs : Row) → length xs ≡ length ys → length us ≡ length vs → length (xs ++ us) ≡ length (ys ++ vs)
both_long [] [] us vs l m = m
both_long [] (y ∷ ys) us vs l m = absurd (omega (arith, l))
both_long (x ∷ xs) [] us vs l m = absurd (omega (arith, l))
both_long (x ∷ xs) (y ∷ ys) us vs l m = ap suc (both_long xs ys us vs (omega (arith, l)) m)

-- the parts of a header
three_parts : (b1 b2 b3 : Bool) (front middle back : Text) → ((b1 || b3) ≡ true → b2 ≡ false) → (b3 ≡ false → back ≡ []) → (b2 ≡ false → middle ≡ [])
    → cond (b1 || b2) (cond b1 front middle) back ≡ cond (b1 || b3) (cond b1 front back) middle
three_parts true b2 b3 front middle back apart no_back no_middle = refl
three_parts false true true front middle back apart no_back no_middle = let bad : true ≡ false = apart refl in absurd (cc)
three_parts false true false front middle back apart no_back no_middle = refl
three_parts false false true front middle back apart no_back no_middle = refl
three_parts false false false front middle back apart no_back no_middle = no_back refl ∙ sym (no_middle refl)

record Fits (spot : Option ℕ) (constants columns : Row) : Type 0 where
  apart : AreApart constants columns
  none : spot ≡ None → columns ≡ []

spliced_text : (spot : Option ℕ) (constants columns : Row) (r : Row × Row) (name : Text) → Fits spot constants columns → length r.0 ≡ length constants → length r.1 ≡ length columns
    → cell_in (spliced spot constants columns) (spliced spot r.0 r.1) name ≡ key_text constants columns r name
spliced_text None constants columns r name fits l m = by_in (is_in name constants) refl
  where
    by_in : (b : Bool) → is_in name constants ≡ b → cell_in constants r.0 name ≡ cond (is_in name constants) (cell_in constants r.0 name) (cell_in columns r.1 name)
    by_in true e = rw e refl
    by_in false e =
        let gone : is_in name columns ≡ false = ap (is_in name) (fits.none refl) in
        rw e (cell_missing constants r.0 name l e ∙ sym (cell_missing columns r.1 name m gone))
spliced_text (Some n) constants columns r name fits l m =
    appended (take n constants ++ columns) (drop n constants) (take n r.0 ++ r.1) (drop n r.0) name (both_long (take n r.0) (take n constants) r.1 columns front_long m)
    ∙ left
    ∙ three_parts (is_in name (take n constants)) (is_in name columns) (is_in name (drop n constants)) _ _ _ apart no_back no_middle
    ∙ sym right
  where
    front_long : length (take n r.0) ≡ length (take n constants)
    front_long = take_long n r.0 constants l

    back_long : length (drop n r.0) ≡ length (drop n constants)
    back_long = drop_long n r.0 constants l

    is_part : is_in name constants ≡ (is_in name (take n constants) || is_in name (drop n constants))
    is_part = ap (is_in name) (sym (halves n constants)) ∙ in_append name (take n constants) (drop n constants)

    text_part : cell_in constants r.0 name ≡ cond (is_in name (take n constants)) (cell_in (take n constants) (take n r.0) name) (cell_in (drop n constants) (drop n r.0) name)
    text_part = (λ i. cell_in (sym (halves n constants) i) (sym (halves n r.0) i) name) ∙ appended (take n constants) (drop n constants) (take n r.0) (drop n r.0) name front_long

    left : cond (is_in name (take n constants ++ columns)) (cell_in (take n constants ++ columns) (take n r.0 ++ r.1) name) (cell_in (drop n constants) (drop n r.0) name)
        ≡ cond (is_in name (take n constants) || is_in name columns) (cond (is_in name (take n constants)) (cell_in (take n constants) (take n r.0) name) (cell_in columns r.1 name)) (cell_in (drop n constants) (drop n r.0) name)
    left = λ i. cond (in_append name (take n constants) columns i) (appended (take n constants) columns (take n r.0) r.1 name front_long i) (cell_in (drop n constants) (drop n r.0) name)

    right : cond (is_in name constants) (cell_in constants r.0 name) (cell_in columns r.1 name)
        ≡ cond (is_in name (take n constants) || is_in name (drop n constants)) (cond (is_in name (take n constants)) (cell_in (take n constants) (take n r.0) name) (cell_in (drop n constants) (drop n r.0) name)) (cell_in columns r.1 name)
    right = λ i. cond (is_part i) (text_part i) (cell_in columns r.1 name)

    apart : (is_in name (take n constants) || is_in name (drop n constants)) ≡ true → is_in name columns ≡ false
    apart e = fits.apart name (is_part ∙ e)

    no_back : is_in name (drop n constants) ≡ false → cell_in (drop n constants) (drop n r.0) name ≡ []
    no_back e = cell_missing (drop n constants) (drop n r.0) name back_long e

    no_middle : is_in name columns ≡ false → cell_in columns r.1 name ≡ []
    no_middle e = cell_missing columns r.1 name m e

-- the attributes of the relation of a table
weigh_spliced : (spot : Option ℕ) (constants columns : Row) (f : Text → ℕ) → (spot ≡ None → columns ≡ []) → weigh f (spliced spot constants columns) ≡ weigh f constants + weigh f columns
weigh_spliced None constants columns f none =
    let gone : weigh f columns ≡ 0 = ap (weigh f) (none refl) in
    omega (arith, gone)
weigh_spliced (Some n) constants columns f none =
    let a = weigh-append f (take n constants ++ columns) (drop n constants) in
    let b = weigh-append f (take n constants) columns in
    let c = weigh-append f (take n constants) (drop n constants) in
    let d : weigh f (take n constants ++ drop n constants) ≡ weigh f constants = ap (weigh f) (halves n constants) in
    omega (arith, a, b, c, d)

-- ---- the relation of a table
own_rows : (rows : List (Row × Row)) → IsStrictlySortedBy row_cmp (keys_of rows) → AllByRecursion (λ (x : Row × Row). lookup (row_eq x.0) rows ≡ Some x.1) rows
unfolding IsStrictlySortedBy
own_rows [] sorted = tt
own_rows (r ∷ rows) sorted = (rw (same_rows r.0) refl, behind rows sorted.0 (own_rows rows sorted.1))
  where
    behind : (xs : List (Row × Row)) → AllByRecursion (λ y. row_cmp r.0 y ≡ Less) (keys_of xs) → AllByRecursion (λ (x : Row × Row). lookup (row_eq x.0) rows ≡ Some x.1) xs → AllByRecursion (λ (x : Row × Row). lookup (row_eq x.0) (r ∷ rows) ≡ Some x.1) xs
    behind [] less h = tt
    behind (x ∷ xs) less h = let other : row_eq x.0 r.0 ≡ false = turned row_order x.0 r.0 ∙ row_order.ties r.0 x.0 ∙ ap is_eq less.0 in (rw other h.0, behind xs less.1 h.1)

no_columns : (shape : Shape) (columns : Row) → AllByRecursion (λ (column : Text). is_some shape.spot ≡ true) columns → shape.spot ≡ None → columns ≡ []
no_columns shape [] h e = refl
no_columns shape (c ∷ cs) h e = let bad : true ≡ false = sym h.0 ∙ ap is_some e in absurd (cc)

legal_dynamic : (constants : Row) (column : Text) → is_column_label column constants ≡ true → is_in column constants ≡ false
unfolding is_column_label
legal_dynamic constants column h = each constants ∙ not_true (list_any (λ c. bytes_eq c column) constants) (and_second _ (not (list_any (λ c. bytes_eq c column) constants)) h)
  where
    each : (xs : Row) → is_in column xs ≡ list_any (λ c. bytes_eq c column) xs
    each [] = refl
    each (x ∷ xs) = λ i. turned text_order column x i || each xs i

pub columns_dynamic : (constants columns : Row) → AllByRecursion (λ column. is_column_label column constants ≡ true) columns → AllByRecursion (λ column. is_in column constants ≡ false) columns
columns_dynamic constants [] h = tt
columns_dynamic constants (c ∷ cs) h = (legal_dynamic constants c h.0, columns_dynamic constants cs h.1)

columns_apart : (constants columns : Row) → AllByRecursion (λ column. is_in column constants ≡ false) columns → (name : Text) → is_in name constants ≡ true → is_in name columns ≡ false
columns_apart constants [] h name there = refl
columns_apart constants (c ∷ cs) h name there = by_name (text_eq name c) refl (columns_apart constants cs h.1 name there)
  where
    by_name : (b : Bool) → text_eq name c ≡ b → is_in name cs ≡ false → (text_eq name c || is_in name cs) ≡ false
    by_name true e rest = let bad : true ≡ false = sym there ∙ ap (λ (x : Text). is_in x constants) (bytes_same name c e) ∙ h.0 in absurd (cc)
    by_name false e rest = rw e rest

module _ (shape : Shape) (label : Text) (t : TableValue) (table : IsTable t) (fits : TableFits shape label t) where
  apart : (name : Text) → is_in name shape.constants ≡ true → is_in name t.columns ≡ false
  apart = columns_apart shape.constants t.columns (columns_dynamic shape.constants t.columns fits.columns)

  all_fit : Fits shape.spot shape.constants t.columns
  all_fit = record { apart = apart; none = no_columns shape t.columns fits.spot }

  -- a record says what its key says
  record_text : (r : Row × Row) (name : Text) → lookup (row_eq r.0) t.rows ≡ Some r.1 → length r.0 ≡ length shape.constants → length r.1 ≡ length t.columns
      → cell_in (header shape t) (spliced shape.spot r.0 r.1) name ≡ text_of shape.constants t r.0 name
  record_text r name e l m =
      spliced_text shape.spot shape.constants t.columns r name all_fit l m
      ∙ ap (λ (cells : Row). cond (is_in name shape.constants) (cell_in shape.constants r.0 name) (cell_in t.columns cells name)) (sym (ap (λ (o : Option Row). unwrap_or o []) e))

  records_say : (names : Row) (rows : List (Row × Row)) → AllByRecursion (λ (x : Row × Row). lookup (row_eq x.0) t.rows ≡ Some x.1) rows → AllByRecursion (λ (x : Row × Row). length x.0 ≡ length shape.constants) rows → AllByRecursion (λ (x : Row × Row). length x.1 ≡ length t.columns) rows
      → map (λ row. map (cell_in (header shape t) row) names) (map (λ (x : Row × Row). spliced shape.spot x.0 x.1) rows) ≡ map (λ key. says_by shape.constants t names key) (keys_of rows)
  records_say names [] h l m = refl
  records_say names (x ∷ rows) h l m = λ i. map (λ name. record_text x name h.0 l.0 m.0 i) names ∷ records_say names rows h.1 l.1 m.1 i

  pub records_fit : (rows : List (Row × Row)) → AllByRecursion (λ (x : Row × Row). length x.0 ≡ length shape.constants) rows → AllByRecursion (λ (x : Row × Row). length x.1 ≡ length t.columns) rows
      → AllByRecursion (λ (row : Row). length row ≡ length (header shape t)) (map (λ (x : Row × Row). spliced shape.spot x.0 x.1) rows)
  records_fit [] l m = tt
  records_fit (x ∷ rows) l m = (spliced_long shape.spot x.0 shape.constants x.1 t.columns l.0 m.0, records_fit rows l.1 m.1)
    where
      spliced_long : (spot : Option ℕ) (a b c d : Row) → length a ≡ length b → length c ≡ length d → length (spliced spot a c) ≡ length (spliced spot b d)
      spliced_long None a b c d l m = l
      spliced_long (Some n) a b c d l m = both_long (take n a ++ c) (take n b ++ d) (drop n a) (drop n b) (both_long (take n a) (take n b) c d (take_long n a b l) m) (drop_long n a b l)

  relation_rows : (names : Row) → rows_under names (relation_for shape (label, t)) ≡ map (λ key. says_by shape.constants t names key) (row_keys t)
  relation_rows names = rows_are names (relation_for shape (label, t)) (records_fit t.rows fits.keys table.cells) ∙ records_say names t.rows (own_rows t.rows table.keys) fits.keys table.cells

  pub said_same : (r : RelationValue) → r.name ≡ label → Says shape.constants r t → SameRelation r (relation_for shape (label, t))
  said_same r name says = record {
    name = name;
    attributes = λ f. weigh_is f r.attributes ∙ says.attributes f ∙ sym (weigh_spliced shape.spot shape.constants t.columns f all_fit.none) ∙ sym (weigh_is f (header shape t));
    rows = λ names f.
        weigh_is f (rows_under names r) ∙ ap (weigh f) (rows_are names r says.fits) ∙ says.rows names f ∙ sym (weigh_mapped (λ key. says_by shape.constants t names key) f (row_keys t))
        ∙ ap (weigh f) (sym (relation_rows names)) ∙ sym (weigh_is f (rows_under names (relation_for shape (label, t))));
  }

  pub same_said : (r : RelationValue) → Distinct r.attributes → AllByRecursion (λ (row : Row). length row ≡ length r.attributes) r.rows → SameRelation r (relation_for shape (label, t)) → Says shape.constants r t
  same_said r distinct rows_fit same = record {
    attributes = λ f. sym (weigh_is f r.attributes) ∙ same.attributes f ∙ weigh_is f (header shape t) ∙ weigh_spliced shape.spot shape.constants t.columns f all_fit.none;
    rows = λ names f.
        ap (weigh f) (sym (rows_are names r rows_fit)) ∙ sym (weigh_is f (rows_under names r)) ∙ same.rows names f ∙ weigh_is f (rows_under names (relation_for shape (label, t)))
        ∙ ap (weigh f) (relation_rows names) ∙ weigh_mapped (λ key. says_by shape.constants t names key) f (row_keys t);
    distinct = distinct;
    fits = rows_fit;
    apart = apart;
    table = table;
  }

-- ---- the header of a table
pub splice_long : (spot : Option ℕ) (constants columns : Row) → (spot ≡ None → columns ≡ []) → length (spliced spot constants columns) ≡ length constants + length columns
splice_long None constants columns none = let gone : length columns ≡ 0 = ap length (none refl) in omega (arith, gone)
splice_long (Some n) constants columns none =
    let a = length-append (take n constants ++ columns) (drop n constants) in
    let b = length-append (take n constants) columns in
    let c = length-append (take n constants) (drop n constants) in
    let d : length (take n constants ++ drop n constants) ≡ length constants = ap length (halves n constants) in
    omega (arith, a, b, c, d)

pub header_long : (shape : Shape) (label : Text) (t : TableValue) → TableFits shape label t → length (header shape t) ≡ length shape.constants + length t.columns
header_long shape label t fits = splice_long shape.spot shape.constants t.columns (no_columns shape t.columns fits.spot)

pub are_distinct : (ns : Row) → IsDistinct bytes_eq ns → Distinct ns
unfolding IsDistinct
are_distinct [] d = tt
are_distinct (n ∷ ns) d = (first ns d.0, are_distinct ns d.1)
  where
    first : (xs : Row) → AllByRecursion (λ y. bytes_eq n y ≡ false) xs → is_in n xs ≡ false
    first [] h = refl
    first (x ∷ xs) h = rw h.0 (first xs h.1)

-- how often a name stands among names
abbrev times : Text → Row → ℕ
times name ns = weigh (λ x. mark (text_eq name x)) ns

never : (name : Text) (ns : Row) → is_in name ns ≡ false → times name ns ≡ 0
never name ns h = none_marked (text_eq name) ns h

once : (ns : Row) → Distinct ns → (name : Text) → times name ns ≤ 1
once [] d name = omega arith
once (n ∷ ns) d name = by_name (text_eq name n) refl (once ns d.1 name)
  where
    by_name : (b : Bool) → text_eq name n ≡ b → times name ns ≤ 1 → mark (text_eq name n) + times name ns ≤ 1
    by_name true e rest = let none = never name ns (ap (λ (x : Text). is_in x ns) (bytes_same name n e) ∙ d.0) in rw e (omega (arith, none))
    by_name false e rest = rw e (omega (arith, rest))

no_other : (name : Text) (ns : Row) → times name ns ≡ 0 → AllByRecursion (λ y. bytes_eq name y ≡ false) ns
no_other name [] h = tt
no_other name (n ∷ ns) h = by_name (text_eq name n) refl (no_other name ns)
  where
    by_name : (b : Bool) → text_eq name n ≡ b → (times name ns ≡ 0 → AllByRecursion (λ y. bytes_eq name y ≡ false) ns) → (bytes_eq name n ≡ false) × AllByRecursion (λ y. bytes_eq name y ≡ false) ns
    by_name true e rest = let here : mark (text_eq name n) ≡ 1 = ap mark e in absurd (omega (arith, h, here))
    by_name false e rest = let here : mark (text_eq name n) ≡ 0 = ap mark e in (e, rest (omega (arith, h, here)))

once_distinct : (ns : Row) → ((name : Text) → times name ns ≤ 1) → IsDistinct bytes_eq ns
unfolding IsDistinct
once_distinct [] h = tt
once_distinct (n ∷ ns) h =
    let here : mark (text_eq n n) ≡ 1 = ap mark (same_bytes n) in
    let own = h n in
    (no_other n ns (omega (arith, here, own)), once_distinct ns (λ name. let both = h name in omega (arith, both)))

ascending_columns : (columns : Row) → IsStrictlySortedBy text_cmp columns → Distinct columns
unfolding IsStrictlySortedBy
ascending_columns [] sorted = tt
ascending_columns (c ∷ cs) sorted = (first cs sorted.0, ascending_columns cs sorted.1)
  where
    first : (xs : Row) → AllByRecursion (λ y. text_cmp c y ≡ Less) xs → is_in c xs ≡ false
    first [] h = refl
    first (x ∷ xs) h = rw (text_order.ties c x ∙ ap is_eq h.0, first xs h.1) refl

pub header_distinct : (shape : Shape) (label : Text) (t : TableValue) → IsTable t → TableFits shape label t → IsForm shape → IsDistinct bytes_eq (header shape t)
header_distinct shape label t table fits form = once_distinct (header shape t) (λ name. by_in name (is_in name shape.constants) refl)
  where
    both : (name : Text) → times name (header shape t) ≡ times name shape.constants + times name t.columns
    both name = weigh_spliced shape.spot shape.constants t.columns (λ x. mark (text_eq name x)) (no_columns shape t.columns fits.spot)

    by_in : (name : Text) (b : Bool) → is_in name shape.constants ≡ b → times name (header shape t) ≤ 1
    by_in name true e =
        let n = both name in
        let a = once shape.constants (are_distinct shape.constants form.distinct) name in
        let c = never name t.columns (columns_apart shape.constants t.columns (columns_dynamic shape.constants t.columns fits.columns) name e) in
        omega (arith, n, a, c)
    by_in name false e =
        let n = both name in
        let a = never name shape.constants e in
        let c = once t.columns (ascending_columns t.columns table.columns) name in
        omega (arith, n, a, c)

-- ---- the catalogue of tables
module _ (shape : Shape) (db : Text) where
  all_said : (rs : List RelationValue) (ts : TablesValue) → AllByRecursion (λ (p : Text × TableValue). IsTable p.1) ts → TablesFit shape ts → AllByRecursion IsRelation rs → SameRelations rs (map (relation_for shape) ts) → AreSaid shape.constants rs ts
  all_said [] [] tables fit sound same = tt
  all_said [] (p ∷ ps) tables fit sound same = absurd same
  all_said (r ∷ rs) [] tables fit sound same = absurd same
  all_said (r ∷ rs) (p ∷ ps) tables fit sound same =
      (same.0.name, same_said shape p.0 p.1 tables.0 fit.0 r (are_distinct r.attributes sound.0.header.distinct) sound.0.fits same.0, all_said rs ps tables.1 fit.1 sound.1 same.1)

  all_same : (rs : List RelationValue) (ts : TablesValue) → AllByRecursion (λ (p : Text × TableValue). IsTable p.1) ts → TablesFit shape ts → AreSaid shape.constants rs ts → SameRelations rs (map (relation_for shape) ts)
  all_same [] [] tables fit said = tt
  all_same [] (p ∷ ps) tables fit said = absurd said
  all_same (r ∷ rs) [] tables fit said = absurd said
  all_same (r ∷ rs) (p ∷ ps) tables fit said = (said_same shape p.0 p.1 tables.0 fit.0 r said.0 said.1, all_same rs ps tables.1 fit.1 said.2)

  pub stands_said : (c : CatalogueValue) (ts : TablesValue) → IsSound c → AreTables ts → TablesFit shape ts → stands db shape ts c → (rs : List RelationValue) × (c ≡ whole db rs) × AreSaid shape.constants rs ts
  stands_said [] ts sound order fit h = absurd h
  stands_said (d ∷ []) ts sound order fit h = (d.relations, (λ i. database_value (h.0.name i) d.relations ∷ []), all_said d.relations ts order.tables fit sound.databases.0.relations h.0.relations)
  stands_said (d ∷ e ∷ c) ts sound order fit h = absurd h.1

  pub said_stands : (rs : List RelationValue) (ts : TablesValue) → AreTables ts → TablesFit shape ts → AreSaid shape.constants rs ts → stands db shape ts (whole db rs)
  said_stands rs ts order fit said = (record { name = refl; relations = all_same rs ts order.tables fit said }, tt)

-- the catalogue of tables stands for them
pub stands_itself : (db : Text) (shape : Shape) (ts : TablesValue) → stands db shape ts (catalogue_for db shape ts)
stands_itself db shape ts = (record { name = refl; relations = each (map (relation_for shape) ts) }, tt)
  where
    each : (rs : List RelationValue) → SameRelations rs rs
    each [] = tt
    each (r ∷ rs) = (record { name = refl; attributes = λ f. refl; rows = λ names f. refl }, each rs)
