-- Conditions over the cells of a row.
use Rattle.std.specs.Prelude.{[], List, slice_get, Some, None}
use Rattle.ss_text.specs.Texts.{Row}
use Rattle.view_def.specs.declared.typed.Place.TheVariants as place
use Rattle.view_def.specs.declared.typed.Term.{Term}
use Rattle.view_def.specs.declared.typed.Term.TheVariants as term
use Rattle.view_def.specs.declared.typed.Range.{Range}
use Rattle.view_def.specs.Conditions.{Condition, Conditions, AnyOf, AllOf, NotOf, Compares, none, more, conditions_of}
use Rattle.view_meaning.specs.Terms.{Reading}
use Rattle.view_meaning.specs.Operands.{resolved}
use Rattle.plan_law.specs.Links.{source_of}
use Rattle.plan_form.specs.declared.cell.Cell.{Cell}
use Rattle.plan_form.specs.declared.cell.Cell.TheVariants as cell
use Rattle.plan_form.specs.declared.test.Test.{Test, fold-Test}
use Rattle.plan_form.specs.declared.test.Test.TheOpen.{Test-F}
use Rattle.plan_form.specs.declared.test.Test.TheOpen as open_test
use Rattle.plan_form.specs.Cells.{term_cell}

-- a cell as a term over the places of a row, and what such terms are worth
abbrev pub cell_term : Cell → Term
cell_term (cell.Given t) = term.Literal t
cell_term (cell.At i) = term.Var i
cell_term cell.Nowhere = term.Cell 0 (place.Fixed [])

abbrev pub at_row : Row → Reading
at_row row (term.Literal t) = Some t
at_row row (term.Var i) = slice_get row i
at_row row (term.Cell k a) = None

-- one layer
abbrev pub layer : Test-F Condition → Condition
layer (open_test.Any v) = AnyOf (conditions_of v.items)
layer (open_test.All v) = AllOf (conditions_of v.items)
layer (open_test.Not b) = NotOf b.value
layer (open_test.Compare s op t) = Compares (cell_term s) op (cell_term t)

abbrev pub condition_in : Test → Condition
condition_in t = fold-Test Condition layer t

-- where a term is found in a row under these terms
abbrev pub cell_for : List Range → List Term → Term → Cell
cell_for ds h t = term_cell (source_of h [] (resolved ds t))

-- a condition over the cells where its terms are found
abbrev mutual
  pub placed : (Term → Cell) → Condition → Condition
  placed f (AnyOf cs) = AnyOf (each_placed f cs)
  placed f (AllOf cs) = AllOf (each_placed f cs)
  placed f (NotOf c) = NotOf (placed f c)
  placed f (Compares s op t) = Compares (cell_term (f s)) op (cell_term (f t))

  pub each_placed : (Term → Cell) → Conditions → Conditions
  each_placed f none = none
  each_placed f (more c cs) = more (placed f c) (each_placed f cs)
