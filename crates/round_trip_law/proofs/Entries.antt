-- What a source says of a catalogue: an entry for each valuation that counts, of which each target makes a fact.
use Rattle.std.proofs.Common.{◌≡◌, ◌∙◌, Bool, true, false, cond, List, [], ◌∷◌, ◌++◌, Some, None, map, length, refl, ap}
use Rattle.std.specs.Prelude.{◌&&◌, is_some, filter, flat_map}
use Rattle.std.specs.List.{AllByRecursion}
use Rattle.std.proofs.lemmas.List.{map-append}
use Rattle.std.proofs.lemmas.List.Elements.{filter-append}
use Rattle.std.proofs.lemmas.List.Folds.{list_all-append}
use Rattle.ss_text.specs.Texts.{Text, Row}
use Rattle.schema_model.specs.Catalogue.{CatalogueValue}
use Rattle.view_def.specs.declared.typed.Range.{Range}
use Rattle.view_def.specs.declared.typed.Term.{Term}
use Rattle.view_def.specs.declared.typed.Term.TheVariants as term
use Rattle.view_def.specs.Query.{Query}
use Rattle.view_def.specs.Terms.{terms_of_filter}
use Rattle.flow_law.specs.Facts.{Fact}
use Rattle.view_meaning.specs.Elements.{Valuation, elements}
use Rattle.view_meaning.specs.Meaning.{given, values_of, fact_of, facts}
use Rattle.view_meaning.specs.Terms.{Reading, value_of, are_defined}
use Rattle.view_meaning.specs.Valuations.{assignments, counts, meets, valuations}
use Rattle.view_meaning.proofs.CountLemmas.{counts_parts}
use Rattle.round_trip_law.specs.Forms.{Named, Parts, Source, to_values, to_columns, to_tables}

pub record Entry : Type 0 where
  pub key : Row
  pub name : Text
  pub value : Text

-- an entry where its name is a value, a column, or a table
abbrev pub entry_row : Entry → Row
entry_row e = e.key ++ e.name ∷ e.value ∷ []

abbrev pub value_fact : Named → Entry → Fact
value_fact to e = record { label = to.rel; key = entry_row e; cell = None }

abbrev pub column_fact : Named → Entry → Fact
column_fact to e = record { label = to.rel; key = e.key; cell = Some (e.name, e.value) }

abbrev pub table_fact : Entry → Fact
table_fact e = record { label = e.name; key = e.key ++ e.value ∷ []; cell = None }

-- entries that have a text for each key
abbrev pub AreFull : Parts → List Entry → Type 0
AreFull p es = AllByRecursion (λ (e : Entry). length e.key ≡ length p.keys) es

-- ---- readings of a source
-- whether its condition holds, and whether a key and a value are there too
abbrev pub passes : Source → Reading → Bool
passes s r = are_defined r (terms_of_filter s.condition) && meets r s.condition

abbrev pub counted : Source → Reading → Bool
counted s r = are_defined r s.keys && is_some (r s.value) && passes s r

abbrev pub entry_of : Source → Reading → Entry
entry_of s r = record { key = values_of r s.keys; name = given (r (term.Var s.name)); value = given (r s.value) }

-- what it says
abbrev pub said : CatalogueValue → Source → List Entry
said c s = map (λ v. entry_of s (value_of v)) (filter (λ v. counted s (value_of v)) (assignments c [] s.decls))

-- each valuation has a name
abbrev pub AreNamed : CatalogueValue → Source → Type 0
AreNamed c s = AllByRecursion (λ v. is_some (value_of v (term.Var s.name)) ≡ true) (assignments c [] s.decls)

-- ---- a view over a source makes this fact of each entry
pub record Makes (s : Source) (q : Query) (fact : Entry → Fact) : Type 0 where
  pub decls : q.decls ≡ s.decls
  pub counts_so : (v : Valuation) → is_some (value_of v (term.Var s.name)) ≡ true → counts q (value_of v) ≡ counted s (value_of v)
  pub is : (v : Valuation) → fact_of q (value_of v) ≡ fact (entry_of s (value_of v))

module _ (p : Parts) (s : Source) where
  row_defined : (r : Reading) → are_defined r (s.keys ++ term.Var s.name ∷ s.value ∷ []) ≡ (are_defined r s.keys && (is_some (r (term.Var s.name)) && (is_some (r s.value) && true)))
  row_defined r = list_all-append (λ t. is_some (r t)) s.keys (term.Var s.name ∷ s.value ∷ [])

  rest_defined : (r : Reading) → are_defined r (s.keys ++ s.value ∷ []) ≡ (are_defined r s.keys && (is_some (r s.value) && true))
  rest_defined r = list_all-append (λ t. is_some (r t)) s.keys (s.value ∷ [])

  with_name : (a n b d : Bool) → n ≡ true → (((a && (n && (b && true))) && true) && d) ≡ ((a && b) && d)
  with_name true true true d h = refl
  with_name true true false d h = refl
  with_name false n b d h = refl
  with_name true false b d h = absurd (cc)

  without_name : (a b d : Bool) → (((a && (b && true)) && true) && d) ≡ ((a && b) && d)
  without_name true true d = refl
  without_name true false d = refl
  without_name false b d = refl

  beside_name : (a b d : Bool) → ((a && (b && true)) && d) ≡ ((a && b) && d)
  beside_name true true d = refl
  beside_name true false d = refl
  beside_name false b d = refl

  pub makes_values : (to : Named) → Makes s (to_values p to s) (value_fact to)
  makes_values to = record {
    decls = refl;
    counts_so = λ v h.
        counts_parts (to_values p to s) (value_of v) ∙ ap (λ b. (b && true) && passes s (value_of v)) (row_defined (value_of v))
        ∙ with_name (are_defined (value_of v) s.keys) (is_some (value_of v (term.Var s.name))) (is_some (value_of v s.value)) (passes s (value_of v)) h;
    is = λ v i. record { label = to.rel; key = map-append (λ t. given (value_of v t)) s.keys (term.Var s.name ∷ s.value ∷ []) i; cell = None };
  }

  pub makes_columns : (to : Named) → Makes s (to_columns p to s) (column_fact to)
  makes_columns to = record {
    decls = refl;
    counts_so = λ v h. counts_parts (to_columns p to s) (value_of v) ∙ beside_name (are_defined (value_of v) s.keys) (is_some (value_of v s.value)) (passes s (value_of v));
    is = λ v. refl;
  }

  pub makes_tables : (db : Text) → Makes s (to_tables p db s) table_fact
  makes_tables db = record {
    decls = refl;
    counts_so = λ v h.
        counts_parts (to_tables p db s) (value_of v) ∙ ap (λ b. (b && true) && passes s (value_of v)) (rest_defined (value_of v))
        ∙ without_name (are_defined (value_of v) s.keys) (is_some (value_of v s.value)) (passes s (value_of v));
    is = λ v i. record { label = given (value_of v (term.Var s.name)); key = map-append (λ t. given (value_of v t)) s.keys (s.value ∷ []) i; cell = None };
  }

-- its facts are those of what the source says
pub facts_are : (c : CatalogueValue) (s : Source) (q : Query) (fact : Entry → Fact) → Makes s q fact → AreNamed c s → facts c q ≡ map fact (said c s)
unfolding facts valuations
facts_are c s q fact makes named = ap (λ ds. map (λ v. fact_of q (value_of v)) (filter (λ v. counts q (value_of v)) (assignments c [] ds))) makes.decls ∙ each (assignments c [] s.decls) named
  where
    kept : (v : Valuation) (b : Bool) (vs : List Valuation) (es : List Entry) → map (λ w. fact_of q (value_of w)) vs ≡ map fact es
        → map (λ w. fact_of q (value_of w)) (cond b (v ∷ vs) vs) ≡ map fact (map (λ w. entry_of s (value_of w)) (cond b (v ∷ []) []) ++ es)
    kept v true vs es rest = λ i. makes.is v i ∷ rest i
    kept v false vs es rest = rest

    joined : (v : Valuation) (b : Bool) (vs : List Valuation) → map (λ w. entry_of s (value_of w)) (cond b (v ∷ []) []) ++ map (λ w. entry_of s (value_of w)) vs ≡ map (λ w. entry_of s (value_of w)) (cond b (v ∷ vs) vs)
    joined v true vs = refl
    joined v false vs = refl

    each : (vs : List Valuation) → AllByRecursion (λ v. is_some (value_of v (term.Var s.name)) ≡ true) vs
        → map (λ v. fact_of q (value_of v)) (filter (λ v. counts q (value_of v)) vs) ≡ map fact (map (λ v. entry_of s (value_of v)) (filter (λ v. counted s (value_of v)) vs))
    each [] h = refl
    each (v ∷ vs) h =
        ap (λ b. map (λ w. fact_of q (value_of w)) (cond b (v ∷ filter (λ w. counts q (value_of w)) vs) (filter (λ w. counts q (value_of w)) vs))) (makes.counts_so v h.0)
        ∙ kept v (counted s (value_of v)) (filter (λ w. counts q (value_of w)) vs) (map (λ w. entry_of s (value_of w)) (filter (λ w. counted s (value_of w)) vs)) (each vs h.1)
        ∙ ap (map fact) (joined v (counted s (value_of v)) (filter (λ w. counted s (value_of w)) vs))

-- ---- what is said by two declarations, element by element
abbrev pub entry_at : Source → Valuation → List Entry
entry_at s v = cond (counted s (value_of v)) (entry_of s (value_of v) ∷ []) []

module _ {A : Type 0} (f : Valuation → Entry) (test : Valuation → Bool) where
  spread : (g : A → List Valuation) (xs : List A) → map f (filter test (flat_map g xs)) ≡ flat_map (λ x. map f (filter test (g x))) xs
  spread g [] = refl
  spread g (x ∷ xs) = ap (map f) (filter-append test (g x) (flat_map g xs)) ∙ map-append f (filter test (g x)) (filter test (flat_map g xs)) ∙ ap (λ rest. map f (filter test (g x)) ++ rest) (spread g xs)

one_kept : (f : Valuation → Entry) (test : Valuation → Bool) (v : Valuation) → map f (filter test (v ∷ [])) ≡ cond (test v) (f v ∷ []) []
one_kept f test v = by_test (test v)
  where
    by_test : (b : Bool) → map f (cond b (v ∷ []) []) ≡ cond b (f v ∷ []) []
    by_test true = refl
    by_test false = refl

pub two_declared : (c : CatalogueValue) (s : Source) (d1 d2 : Range) → s.decls ≡ d1 ∷ d2 ∷ [] → said c s ≡ flat_map (λ x. flat_map (λ y. entry_at s (x ∷ y ∷ [])) (elements c (x ∷ []) d2)) (elements c [] d1)
two_declared c s d1 d2 h =
    let f = λ (v : Valuation). entry_of s (value_of v) in
    let test = λ (v : Valuation). counted s (value_of v) in
    ap (λ ds. map f (filter test (assignments c [] ds))) h
    ∙ spread f test (λ x. flat_map (λ y. (x ∷ y ∷ []) ∷ []) (elements c (x ∷ []) d2)) (elements c [] d1)
    ∙ ap (λ g. flat_map g (elements c [] d1)) (λ i x. spread f test (λ y. (x ∷ y ∷ []) ∷ []) (elements c (x ∷ []) d2) i)
    ∙ ap (λ g. flat_map g (elements c [] d1)) (λ i x. flat_map (λ y. one_kept f test (x ∷ y ∷ []) i) (elements c (x ∷ []) d2))

-- ---- a reading that has a key, a name and a value
module _ (r : Reading) where
  abbrev pub AreRead : List Term → Row → Type 0
  AreRead ts texts = map r ts ≡ map Some texts

  read_values : (ts : List Term) (texts : Row) → AreRead ts texts → values_of r ts ≡ texts
  read_values [] [] h = refl
  read_values [] (x ∷ texts) h = absurd (cc)
  read_values (t ∷ ts) [] h = absurd (cc)
  read_values (t ∷ ts) (x ∷ texts) h =
      let first : r t ≡ Some x = cc in
      let rest : map r ts ≡ map Some texts = cc in
      λ i. given (first i) ∷ read_values ts texts rest i

  read_defined : (ts : List Term) (texts : Row) → AreRead ts texts → are_defined r ts ≡ true
  read_defined [] texts h = refl
  read_defined (t ∷ ts) [] h = absurd (cc)
  read_defined (t ∷ ts) (x ∷ texts) h =
      let first : r t ≡ Some x = cc in
      let rest : map r ts ≡ map Some texts = cc in
      rw first (read_defined ts texts rest)

pub record Reads (s : Source) (v : Valuation) (e : Entry) : Type 0 where
  pub keys : AreRead (value_of v) s.keys e.key
  pub name : value_of v (term.Var s.name) ≡ Some e.name
  pub value : value_of v s.value ≡ Some e.value

pub entry_read : (s : Source) (v : Valuation) (e : Entry) → Reads s v e → entry_at s v ≡ cond (passes s (value_of v)) (e ∷ []) []
entry_read s v e h = ap (λ b. cond b (entry_of s (value_of v) ∷ []) []) all_there ∙ by_passing (passes s (value_of v))
  where
    all_there : counted s (value_of v) ≡ passes s (value_of v)
    all_there = rw (read_defined (value_of v) s.keys e.key h.keys, h.value) refl

    same : entry_of s (value_of v) ≡ e
    same = λ i. record { key = read_values (value_of v) s.keys e.key h.keys i; name = given (h.name i); value = given (h.value i) }

    by_passing : (b : Bool) → cond b (entry_of s (value_of v) ∷ []) [] ≡ cond b (e ∷ []) []
    by_passing true = λ i. same i ∷ []
    by_passing false = refl
