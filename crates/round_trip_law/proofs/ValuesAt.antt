-- The values that entries have for a key and a name: which they are, and when two of them clash.
use Rattle.std.proofs.Common.{◌≡◌, ◌∙◌, ◌||◌, ◌⊎◌, inl, inr, Bool, true, false, ◌&&◌, List, [], ◌∷◌, Option, Some, None, map, length, refl, sym, ap, subst}
use Rattle.std.specs.Prelude.{not, ◌==◌, filter, is_some, unwrap_or, option_map, slice_get, if◌then◌else◌}
use Rattle.std.specs.List.{filter_map, cons_option, list_any}
use Rattle.std.specs.List.Sorted.{IsStrictlySortedBy}
use Rattle.std.specs.declared.cmp.Ordering.{Ordering}
use Rattle.std.specs.declared.cmp.Ordering.TheVariants.{Less, Equal, Greater}
use Rattle.std.specs.Ordering.{is_eq}
use Rattle.ss_text.specs.Texts.{Text, Row, text_eq, text_cmp, row_eq}
use Rattle.ss_text.specs.Ascending.{by_order, lesser, least, ascending}
use Rattle.ss_text.proofs.GroupLemmas.{strict_ascending}
use Rattle.ss_text.proofs.KeyLemmas.{text_order, row_order, equal_itself, equal_is}
use Rattle.ss_text.proofs.SetLemmas.{same_ascending}
use Rattle.flow_law.specs.declared.refused.Clash.{Clash}
use Rattle.flow_law.specs.Facts.{Fact, Spot, value_in, values_at, facts_of, clash_of, conflict, spots_of, column_of}
use Rattle.flow_law.specs.FactTables.{value_for}
use Rattle.flow_law.proofs.Entries.{some_length, spot_order}
use Rattle.round_trip_law.specs.Forms.{Named}
use Rattle.round_trip_law.specs.Kept.{has_text}
use Rattle.round_trip_law.proofs.Entries.{Entry, column_fact}
use Rattle.round_trip_law.proofs.Members.{in_ascending, ascending_in}
use Rattle.view_meaning.proofs.OrderLemmas.{In, in_any, any_in, in_map, map_in, in_kept, kept_in, both_true}

-- ---- texts that are not empty
some_long : (t : Text) → not (length t == 0) ≡ has_text t
some_long [] = refl
some_long (b ∷ t) = some_length (length t)

-- ---- what a filter with values keeps
in_chosen : {A B : Type 0} (f : A → Option B) (xs : List A) (x : A) (y : B) → In x xs → f x ≡ Some y → In y (filter_map f xs)
in_chosen f [] x y i e = absurd i
in_chosen f (z ∷ xs) x y (inl s) e = first (f z) (ap f (sym s) ∙ e)
  where
    first : (o : Option _) → o ≡ Some y → In y (cons_option o (filter_map f xs))
    first None h = absurd (cc)
    first (Some w) h = let same : y ≡ w = cc in inl same
in_chosen f (z ∷ xs) x y (inr i) e = later (f z) (in_chosen f xs x y i e)
  where
    later : (o : Option _) → In y (filter_map f xs) → In y (cons_option o (filter_map f xs))
    later None j = j
    later (Some w) j = inr j

chosen_in : {A B : Type 0} (f : A → Option B) (xs : List A) (y : B) → In y (filter_map f xs) → (x : A) × In x xs × (f x ≡ Some y)
chosen_in f [] y i = absurd i
chosen_in {A} f (z ∷ xs) y i = by_first (f z) refl i (chosen_in f xs y)
  where
    by_first : (o : Option _) → f z ≡ o → In y (cons_option o (filter_map f xs)) → (In y (filter_map f xs) → (x : A) × In x xs × (f x ≡ Some y)) → (x : A) × In x (z ∷ xs) × (f x ≡ Some y)
    by_first None e j rest = let r = rest j in (r.0, inr r.1, r.2)
    by_first (Some w) e (inl s) rest = (z, inl refl, e ∙ ap Some (sym s))
    by_first (Some w) e (inr j) rest = let r = rest j in (r.0, inr r.1, r.2)

-- ---- the values for a key and a name
module _ (to : Named) (es : List Entry) (key : Row) (name : Text) where
  abbrev pub values : List Text
  values = values_at (map (column_fact to) es) key name

  chosen : (e : Entry) (b : Bool) → text_eq name e.name ≡ b → value_in name (column_fact to e) ≡ (if b then Some e.value else None)
  chosen e b h = rw h refl

  -- an entry's value is one of them
  pub value_there : (e : Entry) → In e es → e.key ≡ key → e.name ≡ name → has_text e.value ≡ true → In e.value values
  value_there e i k n some =
      let here = in_map (column_fact to) e es i in
      let kept = in_kept (λ (f : Fact). row_eq key f.key) (map (column_fact to) es) (column_fact to e) here (ap (λ (j : Row). row_eq j e.key) (sym k) ∙ equal_itself row_order e.key) in
      let own = chosen e true (ap (λ (m : Text). text_eq m e.name) (sym n) ∙ equal_itself text_order e.name) in
      in_kept (λ (v : Text). not (length v == 0)) _ e.value (in_chosen (value_in name) (filter (λ (f : Fact). row_eq key f.key) (map (column_fact to) es)) (column_fact to e) e.value kept own) (some_long e.value ∙ some)

  pub record IsOf (v : Text) : Type 0 where
    pub entry : Entry
    pub there : In entry es
    pub key_is : entry.key ≡ key
    pub name_is : entry.name ≡ name
    pub value_is : entry.value ≡ v
    pub some : has_text v ≡ true

  pub value_of_entry : (v : Text) → In v values → IsOf v
  value_of_entry v i =
      let kept = kept_in (λ (v : Text). not (length v == 0)) (filter_map (value_in name) (filter (λ (f : Fact). row_eq key f.key) (map (column_fact to) es))) v i in
      let f = chosen_in (value_in name) (filter (λ (f : Fact). row_eq key f.key) (map (column_fact to) es)) v kept.0 in
      let own = kept_in (λ (f : Fact). row_eq key f.key) (map (column_fact to) es) f.0 f.1 in
      let e = map_in (column_fact to) f.0 es own.0 in
      let read : value_in name (column_fact to e.0) ≡ Some v = ap (value_in name) (sym e.2) ∙ f.2 in
      let same = by_name e.0 v (text_eq name (e.0).name) refl read in
      record {
        entry = e.0;
        there = e.1;
        key_is = sym (equal_is row_order key (e.0).key (ap (λ (g : Fact). row_eq key g.key) (sym e.2) ∙ own.1));
        name_is = same.0;
        value_is = same.1;
        some = sym (some_long v) ∙ kept.1;
      }
    where
      by_name : (e : Entry) (v : Text) (b : Bool) → text_eq name e.name ≡ b → value_in name (column_fact to e) ≡ Some v → (e.name ≡ name) × (e.value ≡ v)
      by_name e v true h read = (sym (equal_is text_order name e.name h), (let both : Some e.value ≡ Some v = sym (chosen e true h) ∙ read in cc))
      by_name e v false h read = let none : None ≡ Some v = sym (chosen e false h) ∙ read in absurd (cc)

-- ---- the least of texts
module _ {A : Type 0} (cmp : A → A → Ordering) where
  pub least_in : (xs : List A) (x : A) → least cmp xs ≡ Some x → In x xs
  least_in [] x e = absurd (cc)
  least_in (y ∷ ys) x e = by_rest (least cmp ys) refl e (λ z. least_in ys z)
    where
      by_case : (r : Ordering) (z : A) → In z ys → by_order r (Some y) (Some y) (Some z) ≡ Some x → (x ≡ y) ⊎ In x ys
      by_case Less z i h = let same : x ≡ y = cc in inl same
      by_case Equal z i h = let same : x ≡ y = cc in inl same
      by_case Greater z i h = let same : z ≡ x = cc in inr (subst (λ w. In w ys) same i)

      by_rest : (o : Option A) → least cmp ys ≡ o → lesser cmp y o ≡ Some x → ((z : A) → least cmp ys ≡ Some z → In z ys) → (x ≡ y) ⊎ In x ys
      by_rest None l h rest = let same : x ≡ y = cc in inl same
      by_rest (Some z) l h rest = by_case (cmp y z) z (rest z l) h

  lesser_some : (x : A) (o : Option A) → (y : A) × (lesser cmp x o ≡ Some y)
  lesser_some x None = (x, refl)
  lesser_some x (Some z) = by_case (cmp x z)
    where
      by_case : (r : Ordering) → (y : A) × (by_order r (Some x) (Some x) (Some z) ≡ Some y)
      by_case Less = (x, refl)
      by_case Equal = (x, refl)
      by_case Greater = (z, refl)

  pub least_there : (xs : List A) (x : A) → In x xs → (y : A) × (least cmp xs ≡ Some y)
  least_there [] x i = absurd i
  least_there (y ∷ ys) x i = lesser_some y (least cmp ys)

-- ---- two that differ
abbrev pub two_differ : List Text → Bool
two_differ vs = list_any (λ v. list_any (λ w. not (text_eq v w)) vs) vs

not_both : (b : Bool) → not b ≡ true → b ≡ true → ⊥
not_both true h e = absurd (cc)
not_both false h e = absurd (cc)

clash_there : (s : Spot) (vs : List Text) → is_some (clash_of s (ascending text_cmp vs)) ≡ two_differ vs
unfolding IsStrictlySortedBy
clash_there s vs = both_true _ _ (some_two (ascending text_cmp vs) refl) (two_some (ascending text_cmp vs) refl)
  where
    out : (us : List Text) → ascending text_cmp vs ≡ us → (x : Text) → In x us → In x vs
    out us e x i = ascending_in text_order x vs (subst (λ (l : List Text). In x l) (sym e) i)

    some_two : (us : List Text) → ascending text_cmp vs ≡ us → is_some (clash_of s us) ≡ true → two_differ vs ≡ true
    some_two [] e h = absurd (cc)
    some_two (a ∷ []) e h = absurd (cc)
    some_two (a ∷ b ∷ us) e h =
        let sorted : IsStrictlySortedBy text_cmp (a ∷ b ∷ us) = subst (IsStrictlySortedBy text_cmp) e (strict_ascending text_order.total vs) in
        let apart : not (text_eq a b) ≡ true = ap not (text_order.ties a b ∙ ap is_eq sorted.0.0) in
        in_any (λ v. list_any (λ w. not (text_eq v w)) vs) a vs (out (a ∷ b ∷ us) e a (inl refl)) (in_any (λ w. not (text_eq a w)) b vs (out (a ∷ b ∷ us) e b (inr (inl refl))) apart)

    two_some : (us : List Text) → ascending text_cmp vs ≡ us → two_differ vs ≡ true → is_some (clash_of s us) ≡ true
    two_some us e h = by_length us (within us e v.0 v.1) (within us e w.0 w.1)
      where
        within : (us : List Text) → ascending text_cmp vs ≡ us → (x : Text) → In x vs → In x us
        within us e x i = subst (λ (l : List Text). In x l) e (in_ascending text_order x vs i)

        v : (v : Text) × In v vs × (list_any (λ w. not (text_eq v w)) vs ≡ true)
        v = any_in (λ v. list_any (λ w. not (text_eq v w)) vs) vs h

        w : (w : Text) × In w vs × (not (text_eq v.0 w) ≡ true)
        w = any_in (λ w. not (text_eq v.0 w)) vs v.2

        by_length : (us : List Text) → In v.0 us → In w.0 us → is_some (clash_of s us) ≡ true
        by_length [] i j = absurd i
        by_length (a ∷ []) (inl i) (inl j) = absurd (not_both (text_eq v.0 w.0) w.2 (ap (text_eq v.0) (j ∙ sym i) ∙ equal_itself text_order v.0))
        by_length (a ∷ []) (inl i) (inr j) = absurd j
        by_length (a ∷ []) (inr i) j = absurd i
        by_length (a ∷ b ∷ us) i j = refl

-- ---- two entries with one key and one name, and two values that are not empty
abbrev pub clash : Entry → Entry → Bool
clash e f = row_eq e.key f.key && text_eq e.name f.name && not (text_eq e.value f.value) && has_text e.value && has_text f.value

abbrev pub some_clash : List Entry → Bool
some_clash es = list_any (λ e. list_any (clash e) es) es

pub record Clashes (e f : Entry) : Type 0 where
  pub key : e.key ≡ f.key
  pub name : e.name ≡ f.name
  pub apart : not (text_eq e.value f.value) ≡ true
  pub first : has_text e.value ≡ true
  pub second : has_text f.value ≡ true

five : (a b c d e : Bool) → (a && b && c && d && e) ≡ true → (a ≡ true) × (b ≡ true) × (c ≡ true) × (d ≡ true) × (e ≡ true)
five true true true true true h = (refl, refl, refl, refl, refl)
five false b c d e h = absurd (cc)
five true false c d e h = absurd (cc)
five true true false d e h = absurd (cc)
five true true true false e h = absurd (cc)
five true true true true false h = absurd (cc)

pub clashes : (e f : Entry) → clash e f ≡ true → Clashes e f
clashes e f h =
    let parts = five (row_eq e.key f.key) (text_eq e.name f.name) (not (text_eq e.value f.value)) (has_text e.value) (has_text f.value) h in
    record { key = equal_is row_order e.key f.key parts.0; name = equal_is text_order e.name f.name parts.1; apart = parts.2; first = parts.3; second = parts.4 }

pub clash_by : (e f : Entry) → e.key ≡ f.key → e.name ≡ f.name → not (text_eq e.value f.value) ≡ true → has_text e.value ≡ true → has_text f.value ≡ true → clash e f ≡ true
clash_by e f k n apart first second =
    let keys : row_eq e.key f.key ≡ true = ap (row_eq e.key) (sym k) ∙ equal_itself row_order e.key in
    let names : text_eq e.name f.name ≡ true = ap (text_eq e.name) (sym n) ∙ equal_itself text_order e.name in
    rw (keys, names, apart, first, second) refl

module _ (to : Named) (es : List Entry) where
  -- some entry has two values for its key and name
  abbrev at_some : Bool
  at_some = list_any (λ (e : Entry). two_differ (values to es e.key e.name)) es

  at_clash : at_some ≡ some_clash es
  at_clash = both_true at_some (some_clash es) out again
    where
      out : at_some ≡ true → some_clash es ≡ true
      out h =
          let e = any_in (λ (e : Entry). two_differ (values to es e.key e.name)) es h in
          let vs = values to es (e.0).key (e.0).name in
          let v = any_in (λ v. list_any (λ w. not (text_eq v w)) vs) vs e.2 in
          let w = any_in (λ w. not (text_eq v.0 w)) vs v.2 in
          let a = value_of_entry to es (e.0).key (e.0).name v.0 v.1 in
          let b = value_of_entry to es (e.0).key (e.0).name w.0 w.1 in
          let apart : not (text_eq a.entry.value b.entry.value) ≡ true = (λ i. not (text_eq (a.value_is i) (b.value_is i))) ∙ w.2 in
          in_any (λ e. list_any (clash e) es) a.entry es a.there
          (in_any (clash a.entry) b.entry es b.there (clash_by a.entry b.entry (a.key_is ∙ sym b.key_is) (a.name_is ∙ sym b.name_is) apart (ap has_text a.value_is ∙ a.some) (ap has_text b.value_is ∙ b.some)))

      again : some_clash es ≡ true → at_some ≡ true
      again h =
          let e = any_in (λ e. list_any (clash e) es) es h in
          let f = any_in (clash e.0) es e.2 in
          let both = clashes e.0 f.0 f.2 in
          let vs = values to es (e.0).key (e.0).name in
          let v = value_there to es (e.0).key (e.0).name e.0 e.1 refl refl both.first in
          let w = value_there to es (e.0).key (e.0).name f.0 f.1 (sym both.key) (sym both.name) both.second in
          in_any (λ (e : Entry). two_differ (values to es e.key e.name)) e.0 es e.1
          (in_any (λ v. list_any (λ w. not (text_eq v w)) vs) (e.0).value vs v (in_any (λ w. not (text_eq (e.0).value w)) (f.0).value vs w both.apart))

  -- ---- the conflict of their facts
  abbrev facts_made : List Fact
  facts_made = map (column_fact to) es

  abbrev spot : Entry → Spot
  spot e = (to.rel, e.key, e.name)

  abbrev clash_at : Spot → Option Clash
  clash_at s = clash_of s (ascending text_cmp (values_at (facts_of s.0 facts_made) s.1 s.2))

  all_of_table : (es : List Entry) → facts_of to.rel (map (column_fact to) es) ≡ map (column_fact to) es
  all_of_table [] = refl
  all_of_table (e ∷ es) = rw (equal_itself text_order to.rel) (ap (λ (fs : List Fact). column_fact to e ∷ fs) (all_of_table es))

  spots_are : (es : List Entry) → filter_map (λ (f : Fact). option_map (λ (column : Text). let s : Spot = (f.label, f.key, column) in s) (column_of f)) (map (column_fact to) es) ≡ map spot es
  spots_are [] = refl
  spots_are (e ∷ es) = ap (λ (ss : List Spot). spot e ∷ ss) (spots_are es)

  first_some : (h : Spot → Option Clash) (ss : List Spot) → is_some (slice_get (filter_map h ss) 0) ≡ list_any (λ s. is_some (h s)) ss
  first_some h [] = refl
  first_some h (s ∷ ss) = by_first (h s) (first_some h ss)
    where
      by_first : (o : Option Clash) → is_some (slice_get (filter_map h ss) 0) ≡ list_any (λ s. is_some (h s)) ss → is_some (slice_get (cons_option o (filter_map h ss)) 0) ≡ (is_some o || list_any (λ s. is_some (h s)) ss)
      by_first None rest = rest
      by_first (Some c) rest = refl

  entry_spots : (ds : List Entry) → list_any (λ s. is_some (clash_at s)) (map spot ds) ≡ list_any (λ (e : Entry). two_differ (values to es e.key e.name)) ds
  entry_spots [] = refl
  entry_spots (e ∷ ds) =
      let own : is_some (clash_at (spot e)) ≡ two_differ (values to es e.key e.name) =
      ap (λ (fs : List Fact). is_some (clash_of (spot e) (ascending text_cmp (values_at fs e.key e.name)))) (all_of_table es) ∙ clash_there (spot e) (values to es e.key e.name) in
      λ i. own i || entry_spots ds i

  pub conflict_is : is_some (conflict facts_made) ≡ some_clash es
  unfolding conflict
  conflict_is =
      first_some clash_at (spots_of facts_made)
      ∙ sym ((same_ascending spot_order.total spot_order.same _).same (λ s. is_some (clash_at s)))
      ∙ ap (list_any (λ s. is_some (clash_at s))) (spots_are es)
      ∙ entry_spots es
      ∙ at_clash

  -- where none clash, the value for an entry's key and name is its own
  pub own_value : some_clash es ≡ false → (e : Entry) → In e es → has_text e.value ≡ true → value_for facts_made e.key e.name ≡ e.value
  own_value none e i some =
      let least_is = least_there text_cmp (values to es e.key e.name) e.value (value_there to es e.key e.name e i refl refl some) in
      let v = value_of_entry to es e.key e.name least_is.0 (least_in text_cmp (values to es e.key e.name) least_is.0 least_is.1) in
      ap (λ (o : Option Text). unwrap_or o []) least_is.1 ∙ sym v.value_is ∙ sym (same_value e v.entry i v.there (sym v.key_is) (sym v.name_is) some (ap has_text v.value_is ∙ v.some))
    where
      by_test : (e f : Entry) (b : Bool) → text_eq e.value f.value ≡ b → In e es → In f es → e.key ≡ f.key → e.name ≡ f.name → has_text e.value ≡ true → has_text f.value ≡ true → e.value ≡ f.value
      by_test e f true t i j k n first second = equal_is text_order e.value f.value t
      by_test e f false t i j k n first second =
          let found : some_clash es ≡ true = in_any (λ e. list_any (clash e) es) e es i (in_any (clash e) f es j (clash_by e f k n (ap not t) first second)) in
          let bad : true ≡ false = sym found ∙ none in
          absurd (cc)

      same_value : (e f : Entry) → In e es → In f es → e.key ≡ f.key → e.name ≡ f.name → has_text e.value ≡ true → has_text f.value ≡ true → e.value ≡ f.value
      same_value e f i j k n first second = by_test e f (text_eq e.value f.value) refl i j k n first second

  -- and each such value that is not empty is an entry's
  pub value_of_some : (key : Row) (name : Text) → has_text (value_for facts_made key name) ≡ true → IsOf to es key name (value_for facts_made key name)
  value_of_some key name some = by_least (least text_cmp (values to es key name)) refl some
    where
      by_least : (o : Option Text) → least text_cmp (values to es key name) ≡ o → has_text (unwrap_or o []) ≡ true → IsOf to es key name (value_for facts_made key name)
      by_least None l h = absurd (cc)
      by_least (Some v) l h = subst (IsOf to es key name) (sym (ap (λ (o : Option Text). unwrap_or o []) l)) (value_of_entry to es key name v (least_in text_cmp (values to es key name) v l))
