-- What a relation with names as columns says: its entries, by its attributes and rows.
use Rattle.std.proofs.Common.{◌≡◌, ◌∙◌, ◌&&◌, Bool, true, false, List, [], Option, map, refl, sym, ap, subst}
use Rattle.std.specs.Prelude.{not, filter, unwrap_or}
use Rattle.std.specs.List.{list_any}
use Rattle.ss_text.specs.Texts.{Text, Row, text_eq, row_eq, is_in}
use Rattle.ss_text.specs.Label.{is_column_label}
use Rattle.ss_text.proofs.KeyLemmas.{text_order, row_order, equal_itself, equal_is}
use Rattle.ss_text.proofs.SetLemmas.{SameElements, ascending_of_same, least_of_same, same_ascending}
use Rattle.schema_model.specs.Catalogue.{RelationValue}
use Rattle.flow_law.specs.FactTables.{value_for}
use Rattle.view_meaning.specs.Orders.{text_under, row_under}
use Rattle.view_stack.proofs.SaysLemmas.{and_first}
use Rattle.round_trip_law.specs.Forms.{Named, Parts}
use Rattle.round_trip_law.specs.Kept.{has_text, says, kept_names, kept_keys, text_for, clash_under, some_clash_under}
use Rattle.round_trip_law.proofs.ColumnsKept.{facts_made, names_made, keys_made}
use Rattle.round_trip_law.proofs.Entries.{Entry}
use Rattle.round_trip_law.proofs.Members.{in_ascending, ascending_in, same_by}
use Rattle.view_meaning.proofs.OrderLemmas.{In, in_any, any_in, in_map, map_in, in_kept, kept_in, flat_in, in_flat, both_true}
use Rattle.round_trip_law.proofs.RefusedColumns.{some_illegal}
use Rattle.round_trip_law.proofs.RefusedLemmas.{any_mapped}
use Rattle.round_trip_law.proofs.SourceLemmas.{column_entry, column_entries}
use Rattle.round_trip_law.proofs.ValuesAt as entries
use Rattle.round_trip_law.proofs.ValuesAt.{values, value_there, value_of_entry, clashes, clash_by}

module _ (p : Parts) (r : RelationValue) where
  abbrev es : List Entry
  es = column_entries p r

  abbrev key_of : Row → Row
  key_of row = row_under p.keys r.attributes row

  abbrev text_at : Text → Row → Text
  text_at a row = text_under r.attributes row a

  -- an entry is that of an attribute and a row
  record IsFrom (e : Entry) : Type 0 where
    attribute : Text
    row : Row
    there : In attribute r.attributes
    among : In row r.rows
    says_so : says p r.attributes attribute row ≡ true
    is : e ≡ column_entry p r.attributes attribute row

  from : (e : Entry) → In e es → IsFrom e
  from e i =
      let a = flat_in (λ a. map (column_entry p r.attributes a) (filter (says p r.attributes a) r.rows)) r.attributes e i in
      let row = map_in (column_entry p r.attributes a.0) e (filter (says p r.attributes a.0) r.rows) a.2 in
      let kept = kept_in (says p r.attributes a.0) r.rows row.0 row.1 in
      record { attribute = a.0; row = row.0; there = a.1; among = kept.0; says_so = kept.1; is = row.2 }

  to_entry : (a : Text) (row : Row) → In a r.attributes → In row r.rows → says p r.attributes a row ≡ true → In (column_entry p r.attributes a row) es
  to_entry a row i j h =
      in_flat (λ a. map (column_entry p r.attributes a) (filter (says p r.attributes a) r.rows)) r.attributes a (column_entry p r.attributes a row) i
      (in_map (column_entry p r.attributes a) row (filter (says p r.attributes a) r.rows) (in_kept (says p r.attributes a) r.rows row j h))

  -- ---- the names and the keys
  pub names_are : (to : Named) → names_made p to es ≡ kept_names p r
  names_are to = ascending_of_same text_order.total text_order.same (map (λ (e : Entry). e.name) es) (filter (λ a. list_any (says p r.attributes a) r.rows) r.attributes) (same_by _ _ out again)
    where
      out : (a : Text) → In a (map (λ (e : Entry). e.name) es) → In a (filter (λ a. list_any (says p r.attributes a) r.rows) r.attributes)
      out a i =
          let e = map_in (λ (e : Entry). e.name) a es i in
          let f = from e.0 e.1 in
          let same : f.attribute ≡ a = ap (λ (x : Entry). x.name) (sym f.is) ∙ sym e.2 in
          subst (λ (b : Text). In b (filter (λ a. list_any (says p r.attributes a) r.rows) r.attributes)) same
          (in_kept (λ a. list_any (says p r.attributes a) r.rows) r.attributes f.attribute f.there (in_any (says p r.attributes f.attribute) f.row r.rows f.among f.says_so))

      again : (a : Text) → In a (filter (λ a. list_any (says p r.attributes a) r.rows) r.attributes) → In a (map (λ (e : Entry). e.name) es)
      again a i =
          let kept = kept_in (λ a. list_any (says p r.attributes a) r.rows) r.attributes a i in
          let row = any_in (says p r.attributes a) r.rows kept.1 in
          in_map (λ (e : Entry). e.name) (column_entry p r.attributes a row.0) es (to_entry a row.0 kept.0 row.1 row.2)

  pub keys_are : (to : Named) → keys_made p to es ≡ kept_keys p r
  keys_are to = ascending_of_same row_order.total row_order.same (map (λ (e : Entry). e.key) es) (map key_of (filter (λ row. list_any (λ a. says p r.attributes a row) r.attributes) r.rows)) (same_by _ _ out again)
    where
      out : (key : Row) → In key (map (λ (e : Entry). e.key) es) → In key (map key_of (filter (λ row. list_any (λ a. says p r.attributes a row) r.attributes) r.rows))
      out key i =
          let e = map_in (λ (e : Entry). e.key) key es i in
          let f = from e.0 e.1 in
          let same : key_of f.row ≡ key = ap (λ (x : Entry). x.key) (sym f.is) ∙ sym e.2 in
          subst (λ (k : Row). In k (map key_of (filter (λ row. list_any (λ a. says p r.attributes a row) r.attributes) r.rows))) same
          (in_map key_of f.row (filter (λ row. list_any (λ a. says p r.attributes a row) r.attributes) r.rows)
          (in_kept (λ row. list_any (λ a. says p r.attributes a row) r.attributes) r.rows f.row f.among (in_any (λ a. says p r.attributes a f.row) f.attribute r.attributes f.there f.says_so)))

      again : (key : Row) → In key (map key_of (filter (λ row. list_any (λ a. says p r.attributes a row) r.attributes) r.rows)) → In key (map (λ (e : Entry). e.key) es)
      again key i =
          let row = map_in key_of key (filter (λ row. list_any (λ a. says p r.attributes a row) r.attributes) r.rows) i in
          let kept = kept_in (λ row. list_any (λ a. says p r.attributes a row) r.attributes) r.rows row.0 row.1 in
          let a = any_in (λ a. says p r.attributes a row.0) r.attributes kept.1 in
          subst (λ (k : Row). In k (map (λ (e : Entry). e.key) es)) (sym row.2) (in_map (λ (e : Entry). e.key) (column_entry p r.attributes a.0 row.0) es (to_entry a.0 row.0 a.1 kept.0 a.2))

  -- ---- a kept name is an attribute and no key
  record IsName (a : Text) : Type 0 where
    attribute : In a r.attributes
    no_key : not (is_in a p.keys) ≡ true

  is_name : (a : Text) → In a (kept_names p r) → IsName a
  is_name a i =
      let kept = kept_in (λ a. list_any (says p r.attributes a) r.rows) r.attributes a (ascending_in text_order a (filter (λ a. list_any (says p r.attributes a) r.rows) r.attributes) i) in
      let row = any_in (says p r.attributes a) r.rows kept.1 in
      record { attribute = kept.0; no_key = and_first (not (is_in a p.keys)) (has_text (text_at a row.0)) row.2 }

  says_by : (a : Text) (row : Row) → not (is_in a p.keys) ≡ true → has_text (text_at a row) ≡ true → says p r.attributes a row ≡ true
  says_by a row h k = rw (h, k) refl

  -- ---- the text of a key under a name
  module _ (to : Named) (key : Row) (a : Text) (i : In a (kept_names p r)) where
    abbrev own : List Row
    own = filter (λ row. row_eq key (key_of row)) r.rows

    abbrev texts : List Text
    texts = filter has_text (map (text_at a) own)

    texts_same : SameElements (values to es key a) texts
    texts_same = same_by (values to es key a) texts out again
      where
        out : (v : Text) → In v (values to es key a) → In v texts
        out v j =
            let o = value_of_entry to es key a v j in
            let f = from o.entry o.there in
            let name : f.attribute ≡ a = ap (λ (x : Entry). x.name) (sym f.is) ∙ o.name_is in
            let key_same : key ≡ key_of f.row = sym o.key_is ∙ ap (λ (x : Entry). x.key) f.is in
            let value : v ≡ text_at a f.row = sym o.value_is ∙ ap (λ (x : Entry). x.value) f.is ∙ ap (λ (b : Text). text_at b f.row) name in
            let mine = in_kept (λ row. row_eq key (key_of row)) r.rows f.row f.among (ap (row_eq key) (sym key_same) ∙ equal_itself row_order key) in
            in_kept has_text (map (text_at a) own) v (subst (λ (t : Text). In t (map (text_at a) own)) (sym value) (in_map (text_at a) f.row own mine)) o.some

        again : (v : Text) → In v texts → In v (values to es key a)
        again v j =
            let kept = kept_in has_text (map (text_at a) own) v j in
            let row = map_in (text_at a) v own kept.0 in
            let mine = kept_in (λ row. row_eq key (key_of row)) r.rows row.0 row.1 in
            let some : has_text (text_at a row.0) ≡ true = ap has_text (sym row.2) ∙ kept.1 in
            let name = is_name a i in
            let entry = to_entry a row.0 name.attribute mine.0 (says_by a row.0 name.no_key some) in
            subst (λ (t : Text). In t (values to es key a)) (sym row.2)
            (value_there to es key a (column_entry p r.attributes a row.0) entry (sym (equal_is row_order key (key_of row.0) mine.1)) refl some)

    pub text_is : value_for (facts_made p to es) key a ≡ text_for p r key a
    text_is = ap (λ (o : Option Text). unwrap_or o []) (least_of_same text_order.total text_order.same (values to es key a) texts texts_same)

  -- ---- when it is refused
  pub illegal_is : (to : Named) → some_illegal p es ≡ list_any (λ a. not (is_column_label a p.keys)) (kept_names p r)
  illegal_is to =
      sym (any_mapped (λ (e : Entry). e.name) (λ (a : Text). not (is_column_label a p.keys)) es)
      ∙ (same_ascending text_order.total text_order.same (map (λ (e : Entry). e.name) es)).same (λ a. not (is_column_label a p.keys))
      ∙ ap (list_any (λ a. not (is_column_label a p.keys))) (names_are to)

  record ClashesUnder (x y : Row) (a : Text) : Type 0 where
    key : key_of x ≡ key_of y
    apart : not (text_eq (text_at a x) (text_at a y)) ≡ true
    first_some : has_text (text_at a x) ≡ true
    second_some : has_text (text_at a y) ≡ true

  four : (a b c d : Bool) → (a && b && c && d) ≡ true → (a ≡ true) × (b ≡ true) × (c ≡ true) × (d ≡ true)
  four true true true true h = (refl, refl, refl, refl)
  four false b c d h = absurd (cc)
  four true false c d h = absurd (cc)
  four true true false d h = absurd (cc)
  four true true true false h = absurd (cc)

  clashes_under : (x y : Row) (a : Text) → clash_under p r.attributes x y a ≡ true → ClashesUnder x y a
  clashes_under x y a h =
      let parts = four (row_eq (key_of x) (key_of y)) (not (text_eq (text_at a x) (text_at a y))) (has_text (text_at a x)) (has_text (text_at a y)) h in
      record { key = equal_is row_order (key_of x) (key_of y) parts.0; apart = parts.1; first_some = parts.2; second_some = parts.3 }

  under_by : (x y : Row) (a : Text) → ClashesUnder x y a → clash_under p r.attributes x y a ≡ true
  under_by x y a h =
      let keys : row_eq (key_of x) (key_of y) ≡ true = ap (row_eq (key_of x)) (sym h.key) ∙ equal_itself row_order (key_of x) in
      rw (keys, h.apart, h.first_some, h.second_some) refl

  pub clash_is : entries.some_clash es ≡ some_clash_under p r
  clash_is = both_true (entries.some_clash es) (some_clash_under p r) out again
    where
      out : entries.some_clash es ≡ true → some_clash_under p r ≡ true
      out h =
          let e = any_in (λ e. list_any (entries.clash e) es) es h in
          let f = any_in (entries.clash e.0) es e.2 in
          let both = clashes e.0 f.0 f.2 in
          let x = from e.0 e.1 in
          let y = from f.0 f.1 in
          let a : y.attribute ≡ x.attribute = ap (λ (z : Entry). z.name) (sym y.is) ∙ sym both.name ∙ ap (λ (z : Entry). z.name) x.is in
          let first_value : (e.0).value ≡ text_at x.attribute x.row = ap (λ (z : Entry). z.value) x.is in
          let second_value : (f.0).value ≡ text_at x.attribute y.row = ap (λ (z : Entry). z.value) y.is ∙ ap (λ (b : Text). text_at b y.row) a in
          let under : ClashesUnder x.row y.row x.attribute = record {
            key = ap (λ (z : Entry). z.key) (sym x.is) ∙ both.key ∙ ap (λ (z : Entry). z.key) y.is;
            apart = (λ i. not (text_eq (sym first_value i) (sym second_value i))) ∙ both.apart;
            first_some = ap has_text (sym first_value) ∙ both.first;
            second_some = ap has_text (sym second_value) ∙ both.second;
          } in
          let name = in_ascending text_order x.attribute (filter (λ a. list_any (says p r.attributes a) r.rows) r.attributes) (in_kept (λ a. list_any (says p r.attributes a) r.rows) r.attributes x.attribute x.there (in_any (says p r.attributes x.attribute) x.row r.rows x.among x.says_so)) in
          in_any (λ x. list_any (λ y. list_any (clash_under p r.attributes x y) (kept_names p r)) r.rows) x.row r.rows x.among
          (in_any (λ z. list_any (clash_under p r.attributes x.row z) (kept_names p r)) y.row r.rows y.among (in_any (clash_under p r.attributes x.row y.row) x.attribute (kept_names p r) name (under_by x.row y.row x.attribute under)))

      again : some_clash_under p r ≡ true → entries.some_clash es ≡ true
      again h =
          let x = any_in (λ x. list_any (λ y. list_any (clash_under p r.attributes x y) (kept_names p r)) r.rows) r.rows h in
          let y = any_in (λ y. list_any (clash_under p r.attributes x.0 y) (kept_names p r)) r.rows x.2 in
          let a = any_in (clash_under p r.attributes x.0 y.0) (kept_names p r) y.2 in
          let both = clashes_under x.0 y.0 a.0 a.2 in
          let name = is_name a.0 a.1 in
          let e = column_entry p r.attributes a.0 x.0 in
          let f = column_entry p r.attributes a.0 y.0 in
          in_any (λ e. list_any (entries.clash e) es) e es (to_entry a.0 x.0 name.attribute x.1 (says_by a.0 x.0 name.no_key both.first_some))
          (in_any (entries.clash e) f es (to_entry a.0 y.0 name.attribute y.1 (says_by a.0 y.0 name.no_key both.second_some)) (clash_by e f both.key refl both.apart both.first_some both.second_some))
