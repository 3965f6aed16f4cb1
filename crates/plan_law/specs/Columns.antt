-- Combined rows under the terms that their columns stand for.
use Rattle.std.specs.Prelude.{ℕ, ◌==◌, suc, Bool, true, false, ◌&&◌, cond, List, [], ◌∷◌, ◌++◌, map, filter, flat_map, fold, take, zip, Option, Some, None, is_some, slice_get}
use Rattle.std.specs.List.{list_all, filter_map}
use Rattle.ss_text.specs.Texts.{Text, Row, text_eq}
use Rattle.schema_model.specs.Catalogue.{CatalogueValue}
use Rattle.view_def.specs.declared.written.Op.TheVariants.{Eq}
use Rattle.plan_law.specs.Kinds.{Place, Term, Range}
use Rattle.plan_law.specs.Kinds.place
use Rattle.plan_law.specs.Kinds.term
use Rattle.plan_law.specs.Kinds.range
use Rattle.view_def.specs.Conditions.{Condition, Compares}
use Rattle.view_def.specs.Query.{Query}
use Rattle.flow_law.specs.Facts.{Fact}
use Rattle.view_meaning.specs.Terms.{Reading}
use Rattle.view_def.specs.Terms.{terms_of_view}
use Rattle.view_meaning.specs.Valuations.{counts}
use Rattle.view_meaning.specs.Meaning.{term_of, fact_of}
use Rattle.view_meaning.specs.Early.{members}
use Rattle.view_meaning.specs.Operands.{resolved}
use Rattle.schema_delta.specs.declared.spec.FlatSpec.{FlatSpec}
use Rattle.schema_delta.specs.Flat.{flat}

-- a text, and the term that it is the value of
abbrev pub Column : Type 0
Column = Term × Text

abbrev pub Combo : Type 0
Combo = List Column

-- the cells of a view: those of its aliases, and those among its terms
abbrev pub alias_cell : Range → Option Term
alias_cell (range.Alias k a) = Some (term.Cell k a)
alias_cell d = None

abbrev pub tested_terms : Query → List Term
tested_terms q = filter_map alias_cell q.decls ++ terms_of_view q

-- the attribute under which a term wants a cell of variable k; the variable in its place
abbrev pub wanted_in : ℕ → Term → Option Text
wanted_in k (term.Cell j (place.Fixed a)) = cond (k == j) (Some a) None
wanted_in k t = None

abbrev pub folded_in : ℕ → Term → Option ℕ
folded_in k (term.Cell j (place.Var u)) = cond (k == j) (Some u) None
folded_in k t = None

abbrev pub wanted : Query → ℕ → Row
wanted q k = filter_map (wanted_in k) (tested_terms q)

abbrev pub fold_of : Query → ℕ → Option ℕ
fold_of q k = slice_get (filter_map (folded_in k) (tested_terms q)) 0

abbrev pub spec_of : Query → ℕ → Range → FlatSpec
spec_of q k d = record { range = d; wanted = wanted q k; folded = is_some (fold_of q k) }

-- the terms over a flat row: the names of its places, and then what the variable itself has
abbrev pub fold_header : ℕ → Option ℕ → List Term
fold_header k None = []
fold_header k (Some u) = term.Var u ∷ term.Cell k (place.Var u) ∷ []

abbrev pub header : Query → ℕ → Range → List Term
header q k range.Databases = term.Var k ∷ []
header q k (range.Relations p) = term_of p ∷ term.Var k ∷ []
header q k (range.Attributes p r) = term_of p ∷ term_of r ∷ term.Var k ∷ []
header q k (range.Tuples p r) = term_of p ∷ term_of r ∷ map (λ a. term.Cell k (place.Fixed a)) (wanted q k) ++ fold_header k (fold_of q k)
header q k (range.Values p r a) = term_of p ∷ term_of r ∷ term_of a ∷ term.Var k ∷ []
header q k (range.Alias j a) = []

-- the flat rows of declaration k, under their terms
abbrev pub columns : CatalogueValue → Query → ℕ → Range → List Combo
columns c q k d = map (zip (header q k d)) (flat c (spec_of q k d))

-- those of the base declarations from place k on
abbrev pub bases_from : CatalogueValue → Query → ℕ → List Range → List (List Combo)
bases_from c q k [] = []
bases_from c q k (range.Alias j a ∷ ds) = bases_from c q (suc k) ds
bases_from c q k (d ∷ ds) = columns c q k d ∷ bases_from c q (suc k) ds

abbrev pub bases : CatalogueValue → Query → List (List Combo)
bases c q = bases_from c q 0 q.decls

abbrev pub place_eq : Place → Place → Bool
place_eq (place.Fixed s) (place.Fixed t) = text_eq s t
place_eq (place.Var j) (place.Var k) = j == k
place_eq p q = false

abbrev pub term_eq : Term → Term → Bool
term_eq (term.Literal s) (term.Literal t) = text_eq s t
term_eq (term.Var j) (term.Var k) = j == k
term_eq (term.Cell j p) (term.Cell k q) = (j == k) && place_eq p q
term_eq s t = false

-- the text under a term: that of the first column that bears it
abbrev pub text_under : Combo → Term → Option Text
text_under [] t = None
text_under (c ∷ x) t = cond (term_eq t c.0) (Some c.1) (text_under x t)

-- what a combination says of a term, as far as it goes
abbrev pub found : Combo → Term → Option Text
found x (term.Literal t) = Some t
found x t = text_under x t

abbrev pub read : Query → Combo → Reading
read q x t = found x (resolved q.decls t)

-- a text that is not known yet may be any
abbrev pub may_be : Option Text → Text → Bool
may_be None s = true
may_be (Some t) s = text_eq t s

-- columns that stand for one term have one text
abbrev pub is_consistent : Query → Combo → Bool
is_consistent q x = list_all (λ (c : Column). may_be (read q x c.0) c.1) x

-- the two sides of a comparison by `=`
abbrev pub sides_of : Condition → List (Term × Term)
sides_of (Compares s Eq t) = (s, t) ∷ []
sides_of x = []

-- the equalities that decide: those among the members of the outermost AND
abbrev pub equalities : Option Condition → List (Term × Term)
equalities x = flat_map sides_of (members x)

abbrev pub may_equal : Option Text → Option Text → Bool
may_equal None t = true
may_equal (Some s) None = true
may_equal (Some s) (Some t) = text_eq s t

-- the equalities whose terms are there hold
abbrev pub is_tested : Query → Combo → Bool
is_tested q x = is_consistent q x && list_all (λ (e : Term × Term). may_equal (read q x e.0) (read q x e.1)) (equalities q.condition)

-- each combination followed by each flat row, where the tests hold
abbrev pub stage : Query → List Combo → List Combo → List Combo
stage q xs ys = flat_map (λ x. filter (is_tested q) (map (λ y. x ++ y) ys)) xs

abbrev pub combos : CatalogueValue → Query → ℕ → List Combo
combos c q k = fold (stage q) ([] ∷ []) (take k (bases c q))

-- the facts that full combinations give
abbrev pub combo_facts : Query → List Combo → List Fact
combo_facts q xs = map (λ x. fact_of q (read q x)) (filter (λ x. counts q (read q x)) xs)

-- the terms over full combinations
abbrev pub headers_from : Query → ℕ → List Range → List Term
headers_from q k [] = []
headers_from q k (range.Alias j a ∷ ds) = headers_from q (suc k) ds
headers_from q k (d ∷ ds) = header q k d ++ headers_from q (suc k) ds

abbrev pub terms_over : Combo → List Term
terms_over x = map (λ (c : Column). c.0) x
