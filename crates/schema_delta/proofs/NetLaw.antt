-- Moves in net move as much.
use Rattle.std.proofs.Common.{List, [], ◌∷◌, refl, arith}
use Rattle.std.specs.List.{AllZip}
use Rattle.ss_text.specs.Texts.{Row}
use Rattle.operator_law.specs.declared.delta.Signed.{Signed}
use Rattle.operator_law.specs.Bags.{MovesBag}
use Rattle.schema_delta.specs.Net.{SameNet}

pub moves_net : (xs ys : List Row) (ms ns : List Signed) → MovesBag xs ms ys → SameNet ms ns → MovesBag xs ns ys
moves_net xs ys ms ns h same f = omega (arith, h f, same f)

-- moves are the same as themselves
pub each_same : (mss : List (List Signed)) → AllZip SameNet mss mss
each_same [] = tt
each_same (ms ∷ mss) = (λ f. refl, each_same mss)
