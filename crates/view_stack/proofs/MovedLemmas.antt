-- A database that says what tables say, says it after lines that fit them.
use Rattle.std.proofs.Common.{◌≡◌, ◌∙◌, Bool, true, false, List, [], ◌∷◌, not, Option, Some, None, map, refl, sym, ap, subst, arith}
use Rattle.std.specs.Prelude.{find}
use Rattle.std.specs.List.{list_any, AllByRecursion}
use Rattle.std.specs.List.Sorted.{IsStrictlySortedBy}
use Rattle.std.specs.declared.cmp.Ordering.{Ordering}
use Rattle.std.specs.declared.cmp.Ordering.TheVariants.{Less, Equal, Greater}
use Rattle.ss_text.specs.Texts.{Text, Row, text_eq, row_eq, text_cmp, is_in}
use Rattle.ss_text.specs.Places.{changed_where}
use Rattle.ss_text.proofs.KeyLemmas.{text_order, lookup_lacks, lacks_after}
use Rattle.flow_law.specs.Tables.{TableValue, TablesValue, empty_table, table_of, labels_of, row_keys, cell_of}
use Rattle.flow_law.specs.InOrder.{IsTable}
use Rattle.flow_law.specs.Lines.{with_row, with_cell, at_table, without_table, with_table, has_row, has_column, fits_table}
use Rattle.flow_law.specs.declared.line.TableLine.TheVariants.{RowPlus, Cell}
use Rattle.flow_law.proofs.TableLemmas.{empty_in_order, line_in_order}
use Rattle.flow_law.proofs.StepLemmas.{key_is_there, row_plus_keys, row_plus_cells, cell_keys, cell_cells}
use Rattle.schema_model.specs.Catalogue.{RelationValue, CatalogueValue, relation_value, database_value}
use Rattle.schema_model.specs.Catalogue.{with_row as put_row}
use Rattle.schema_model.specs.Changes.{less_row, placed, without}
use Rattle.view_meaning.proofs.OrderLemmas.{bytes_same, same_rows}
use Rattle.view_stack.specs.Records.{text_of, record_of, text_after, record_after}
use Rattle.view_stack.proofs.SaysLemmas.{Distinct, Says, row_came, row_changed}

-- ---- relation by relation
abbrev pub AreSaid : Row → List RelationValue → TablesValue → Type 0
AreSaid constants [] [] = Unit {0}
AreSaid constants [] (p ∷ ps) = ⊥
AreSaid constants (r ∷ rs) [] = ⊥
AreSaid constants (r ∷ rs) (p ∷ ps) = (r.name ≡ p.0) × Says constants r p.1 × AreSaid constants rs ps

-- the one database
abbrev pub whole : Text → List RelationValue → CatalogueValue
whole db rs = database_value db rs ∷ []

abbrev pub relation_at : Text → List RelationValue → Option RelationValue
relation_at label rs = find (λ (r : RelationValue). text_eq label r.name) rs

none_some : {A : Type 0} {B : Type 0} (o : Option A) (a : A) → o ≡ None → o ≡ Some a → B
none_some o a e f = let bad : None ≡ Some a = sym e ∙ f in absurd (cc)

later_labels : (p : Text × TableValue) (ps : TablesValue) (label : Text) → IsStrictlySortedBy text_cmp (labels_of (p ∷ ps)) → text_eq label p.0 ≡ true → table_of ps label ≡ None
unfolding IsStrictlySortedBy
later_labels p ps label sorted e =
    lookup_lacks text_order label ps (lacks_after text_order (λ (x : Text × TableValue). x.0) label p ps (sym (bytes_same label p.0 e)) sorted.0)

module _ (constants : Row) (label : Text) (f : RelationValue → RelationValue) (g : TableValue → TableValue) (named : (r : RelationValue) → (f r).name ≡ r.name) where
  pub said_changed : (rs : List RelationValue) (ts : TablesValue) → IsStrictlySortedBy text_cmp (labels_of ts) → AreSaid constants rs ts
      → ((r : RelationValue) (t : TableValue) → relation_at label rs ≡ Some r → table_of ts label ≡ Some t → Says constants r t → Says constants (f r) (g t))
      → AreSaid constants (changed_where (λ (r : RelationValue). text_eq label r.name) f rs) (at_table label g ts)
  unfolding IsStrictlySortedBy
  said_changed [] [] sorted h law = tt
  said_changed [] (p ∷ ps) sorted h law = absurd h
  said_changed (r ∷ rs) [] sorted h law = absurd h
  said_changed (r ∷ rs) (p ∷ ps) sorted h law = by_name (text_eq label p.0) refl (said_changed rs ps sorted.1 h.2)
    where
      same_test : text_eq label r.name ≡ text_eq label p.0
      same_test = ap (text_eq label) h.0

      by_name : (b : Bool) → text_eq label p.0 ≡ b
          → (((x : RelationValue) (t : TableValue) → relation_at label rs ≡ Some x → table_of ps label ≡ Some t → Says constants x t → Says constants (f x) (g t)) → AreSaid constants (changed_where (λ (x : RelationValue). text_eq label x.name) f rs) (at_table label g ps))
          → AreSaid constants (changed_where (λ (x : RelationValue). text_eq label x.name) f (r ∷ rs)) (at_table label g (p ∷ ps))
      by_name true e rest =
          let behind = rest (λ x t i j k. none_some (table_of ps label) t (later_labels p ps label sorted e) j) in
          let here = law r p.1 (rw (same_test ∙ e) refl) (rw e refl) h.1 in
          rw (same_test ∙ e, e) (named r ∙ h.0, here, behind)
      by_name false e rest =
          let behind = rest (λ x t i j k. law x t (rw (same_test ∙ e) i) (rw e j) k) in
          rw (same_test ∙ e, e) (h.0, h.1, behind)

pub said_without : (constants : Row) (label : Text) (rs : List RelationValue) (ts : TablesValue) → AreSaid constants rs ts → AreSaid constants (without label rs) (without_table label ts)
said_without constants label [] [] h = tt
said_without constants label [] (p ∷ ps) h = absurd h
said_without constants label (r ∷ rs) [] h = absurd h
said_without constants label (r ∷ rs) (p ∷ ps) h = by_name (text_eq label p.0) refl (said_without constants label rs ps h.2)
  where
    same_test : text_eq label r.name ≡ text_eq label p.0
    same_test = ap (text_eq label) h.0

    by_name : (b : Bool) → text_eq label p.0 ≡ b → AreSaid constants (without label rs) (without_table label ps) → AreSaid constants (without label (r ∷ rs)) (without_table label (p ∷ ps))
    by_name true e rest = rw (same_test ∙ e, e) rest
    by_name false e rest = rw (same_test ∙ e, e) (h.0, h.1, rest)

new_said : (constants : Row) (label : Text) → Distinct constants → Says constants (relation_value label constants []) empty_table
new_said constants label distinct = record { attributes = λ f. omega arith; rows = λ names f. refl; distinct = distinct; fits = tt; apart = λ name h. refl; table = empty_in_order }

pub said_placed : (constants : Row) (label : Text) → Distinct constants → (rs : List RelationValue) (ts : TablesValue) → AreSaid constants rs ts → AreSaid constants (placed (relation_value label constants []) rs) (with_table label ts)
said_placed constants label distinct [] [] h = (refl, new_said constants label distinct, tt)
said_placed constants label distinct [] (p ∷ ps) h = absurd h
said_placed constants label distinct (r ∷ rs) [] h = absurd h
said_placed constants label distinct (r ∷ rs) (p ∷ ps) h = by_cmp (text_cmp label p.0) refl (said_placed constants label distinct rs ps h.2)
  where
    same_test : text_cmp label r.name ≡ text_cmp label p.0
    same_test = ap (text_cmp label) h.0

    by_cmp : (o : Ordering) → text_cmp label p.0 ≡ o → AreSaid constants (placed (relation_value label constants []) rs) (with_table label ps)
        → AreSaid constants (placed (relation_value label constants []) (r ∷ rs)) (with_table label (p ∷ ps))
    by_cmp Less e rest = rw (same_test ∙ e, e) (refl, new_said constants label distinct, h)
    by_cmp Equal e rest = rw (same_test ∙ e, e) h
    by_cmp Greater e rest = rw (same_test ∙ e, e) (h.0, h.1, rest)

-- ---- the cells of one row
abbrev pub cells_after : Row → List (Text × Text) → TableValue → TableValue
cells_after key [] t = t
cells_after key (x ∷ cells) t = cells_after key cells (with_cell key x.0 x.1 t)

record IsRowChanged (key : Row) (t u : TableValue) (cells : List (Text × Text)) : Type 0 where
  table : IsTable u
  columns : u.columns ≡ t.columns
  keys : row_keys u ≡ row_keys t
  others : (q : Row) (c : Text) → row_eq q key ≡ false → cell_of u q c ≡ cell_of t q c
  own : (c : Text) → cell_of u key c ≡ text_after c cells (cell_of t key c)

abbrev pub HasColumns : TableValue → List (Text × Text) → Type 0
HasColumns t cells = AllByRecursion (λ (x : Text × Text). has_column x.0 t ≡ true) cells

row_there_still : (key : Row) (t u : TableValue) → row_keys u ≡ row_keys t → has_row key t ≡ true → has_row key u ≡ true
row_there_still key t u same there = key_is_there key u ∙ ap (list_any (row_eq key)) same ∙ sym (key_is_there key t) ∙ there

cells_made : (label : Text) (key : Row) (cells : List (Text × Text)) (t : TableValue) → IsTable t → has_row key t ≡ true → HasColumns t cells → IsRowChanged key t (cells_after key cells t) cells
cells_made label key [] t table there columns = record { table = table; columns = refl; keys = refl; others = λ q c h. refl; own = λ c. refl }
cells_made label key (x ∷ cells) t table there columns =
    let step = with_cell key x.0 x.1 t in
    let keys = cell_keys t key x.0 x.1 in
    let fits : fits_table (Cell label x.0 x.1 key) t ≡ true = rw (there, columns.0) refl in
    let rest = cells_made label key cells step (line_in_order (Cell label x.0 x.1 key) t table fits) (row_there_still key t step keys there) columns.1 in
    record {
      table = rest.table;
      columns = rest.columns;
      keys = rest.keys ∙ keys;
      others = λ q c h. rest.others q c h ∙ cell_cells t key x.0 x.1 q c table there columns.0 ∙ rw h refl;
      own = λ c. rest.own c ∙ ap (text_after c cells) (cell_cells t key x.0 x.1 key c table there columns.0 ∙ rw (same_rows key) refl);
    }

text_stays : (name : Text) (cells : List (Text × Text)) (t : Text) → AllByRecursion (λ (x : Text × Text). text_eq name x.0 ≡ false) cells → text_after name cells t ≡ t
text_stays name [] t h = refl
text_stays name (x ∷ cells) t h = rw h.0 (text_stays name cells t h.1)

module _ (constants : Row) (r : RelationValue) (t : TableValue) (says : Says constants r t) (label : Text) (key : Row) (cells : List (Text × Text)) (columns : HasColumns t cells) where
  not_named : (name : Text) → is_in name constants ≡ true → (xs : List (Text × Text)) → HasColumns t xs → AllByRecursion (λ (x : Text × Text). text_eq name x.0 ≡ false) xs
  not_named name dynamic [] h = tt
  not_named name dynamic (x ∷ xs) h = (by_test (text_eq name x.0) refl, not_named name dynamic xs h.1)
    where
      by_test : (b : Bool) → text_eq name x.0 ≡ b → text_eq name x.0 ≡ false
      by_test true e = let bad : true ≡ false = sym h.0 ∙ ap (λ (n : Text). is_in n t.columns) (sym (bytes_same name x.0 e)) ∙ says.apart name dynamic in absurd (cc)
      by_test false e = e

  -- the record of the key in a table where its cells got values
  record_made : (u : TableValue) → ((c : Text) → cell_of u key c ≡ text_after c cells (cell_of t key c)) → record_of constants r.attributes u key ≡ record_after constants r.attributes t key cells
  record_made u own = λ i. map (λ name. text_made name i) r.attributes
    where
      text_made : (name : Text) → text_of constants u key name ≡ text_after name cells (text_of constants t key name)
      text_made name = by_in (is_in name constants) refl
        where
          by_in : (b : Bool) → is_in name constants ≡ b → text_of constants u key name ≡ text_after name cells (text_of constants t key name)
          by_in true e = rw e (sym (text_stays name cells _ (not_named name e cells columns)))
          by_in false e = rw e (own name)

  pub cells_said : has_row key t ≡ true → Says constants (put_row (record_after constants r.attributes t key cells) (less_row (record_of constants r.attributes t key) r)) (cells_after key cells t)
  cells_said there =
      let u = cells_after key cells t in
      let made = cells_made label key cells t says.table there columns in
      subst (λ (row : Row). Says constants (put_row row (less_row (record_of constants r.attributes t key) r)) u) (record_made u made.own) (row_changed constants r t says key u there made.table made.columns made.keys made.others)

  -- where the row comes with them
  pub row_said : has_row key t ≡ false → Says constants (put_row (record_after constants r.attributes t key cells) r) (cells_after key cells (with_row key t))
  row_said absent =
      let u = cells_after key cells (with_row key t) in
      let made = cells_made label key cells (with_row key t) (line_in_order (RowPlus label key) t says.table (ap not absent)) there columns in
      subst (λ (row : Row). Says constants (put_row row r) u) (record_made u (λ c. made.own c ∙ ap (text_after c cells) (row_plus_cells t key key c says.table absent)))
      (row_came constants r t says key u absent made.table made.columns made.keys (λ q c other. made.others q c other ∙ row_plus_cells t key q c says.table absent))
    where
      there : has_row key (with_row key t) ≡ true
      there = key_is_there key (with_row key t) ∙ row_plus_keys t key key ∙ rw (same_rows key) refl
