-- Plans that read the rows of a relation where they are asked for, and do not keep them.
use Rattle.std.specs.Prelude.{Bool, false, ◌&&◌, cond, List, [], ◌∷◌, map}
use Rattle.ss_text.specs.Texts.{text_eq}
use Rattle.view_def.specs.Query.{Query}
use Rattle.schema_delta.specs.declared.spec.FlatSpec.{FlatSpec}
use Rattle.plan_law.specs.Kinds.{Range}
use Rattle.plan_law.specs.Kinds.place
use Rattle.plan_law.specs.Kinds.range
use Rattle.plan_law.specs.Chain.{Sides, SideMoves}
use Rattle.plan_law.specs.PlanRows.{specs_from}

-- the attributes of a relation, and then its rows
abbrev pub same_relation : Range → Range → Bool
same_relation (range.Attributes (place.Fixed d) (place.Fixed r)) (range.Tuples (place.Fixed e) (place.Fixed s)) = text_eq d e && text_eq r s
same_relation a b = false

-- whether these are all that is asked of a catalogue
abbrev pub reads_rows : List FlatSpec → Bool
reads_rows (a ∷ b ∷ []) = same_relation a.range b.range
reads_rows ss = false

abbrev pub is_read : Query → Bool
is_read q = reads_rows (specs_from q 0 q.decls)

-- the left side of a join alone, and its moves alone
abbrev pub left_side : Sides → Sides
left_side k = record k { right = [] }

abbrev pub left_moves : SideMoves → SideMoves
left_moves p = record p { right = [] }

-- what is kept of the sides of the joins
abbrev pub kept_sides : Query → List Sides → List Sides
kept_sides q ks = cond (is_read q) (map left_side ks) ks

-- and the moves of that
abbrev pub kept_moves : Query → List SideMoves → List SideMoves
kept_moves q ps = cond (is_read q) (map left_moves ps) ps
