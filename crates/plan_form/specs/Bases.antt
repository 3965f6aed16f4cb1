-- What a plan keeps of each declaration.
use Rattle.std.specs.Prelude.{ℕ, suc, Bool, true, false, List, [], ◌∷◌, ◌++◌, map}
use Rattle.ss_text.specs.Texts.{Row}
use Rattle.view_def.specs.declared.typed.Term.{Term}
use Rattle.view_def.specs.declared.typed.Range.{Range}
use Rattle.view_def.specs.declared.typed.Range.TheVariants as range
use Rattle.view_def.specs.Query.{Query}
use Rattle.schema_delta.specs.declared.spec.FlatSpec.{FlatSpec}
use Rattle.plan_law.specs.Columns.{header, spec_of, may_equal}
use Rattle.plan_law.specs.Links.{Link, own_links, left_key, right_key}
use Rattle.plan_form.specs.declared.base.Equal.{Equal}
use Rattle.plan_form.specs.declared.base.Base.{Base}
use Rattle.plan_form.specs.Cells.{text_in, right_cell}

-- both cells have one text, where both have one
abbrev pub equal_holds : Row → Equal → Bool
equal_holds row e = may_equal (text_in row e.first) (text_in row e.second)

-- a link within the right row, as a test of it
abbrev pub own_cells : Link → Equal
own_cells l = record { first = right_cell l.0; second = right_cell l.1 }

pub record BaseValue : Type 0 where
  pub spec : FlatSpec
  pub own : List Equal
  pub left_key : List ℕ
  pub right_key : List ℕ

abbrev pub base_value : Base → BaseValue
base_value b = record { spec = b.spec; own = b.own.items; left_key = b.left_key.items; right_key = b.right_key.items }

-- by the terms over the rows before and over the flat rows
abbrev pub base_under : Query → List Term → List Term → FlatSpec → BaseValue
base_under q h d spec = record { spec = spec; own = map own_cells (own_links q h d); left_key = left_key q h d; right_key = right_key q h d }

-- of declaration k behind rows under these terms
abbrev pub base_form : Query → List Term → ℕ → Range → BaseValue
base_form q h k d = base_under q h (header q k d) (spec_of q k d)

abbrev pub is_alias : Range → Bool
is_alias (range.Alias j a) = true
is_alias d = false

-- the same, or nothing for an alias
abbrev pub base_here : Query → List Term → ℕ → Range → List BaseValue
base_here q h k (range.Alias j a) = []
base_here q h k d = base_form q h k d ∷ []

-- of the declarations from place k on
abbrev pub bases_from : Query → List Term → ℕ → List Range → List BaseValue
bases_from q h k [] = []
bases_from q h k (range.Alias j a ∷ ds) = bases_from q h (suc k) ds
bases_from q h k (d ∷ ds) = base_form q h k d ∷ bases_from q (h ++ header q k d) (suc k) ds
