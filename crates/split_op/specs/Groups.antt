-- Moves label by label.
use Rattle.std.specs.Prelude.{List, [], ◌∷◌, ◌++◌, map}
use Rattle.ss_text.specs.Texts.{Text}
use Rattle.operator_law.specs.declared.delta.Signed.{Signed}
use Rattle.split_op.specs.declared.groups.Group.{Group}
use Rattle.split_op.specs.Labels.{moves_of}

abbrev pub group_label : Group → Text
group_label g = g.label

-- the moves of each of these labels
abbrev pub grouped : List Signed → List Text → List Group
grouped ms labels = map (λ label. record { label = label; moves = moves_of label ms }) labels

-- the group with one more move
abbrev pub with_move : Signed → Group → Group
with_move m g = record g { moves = g.moves ++ m ∷ [] }
