use Rattle.std.proofs.Common.{◌≡◌, drop}
use Rattle.unite_op.specs.NamedThings.{bearer}
use Rattle.unite_op.proofs.unite.bearer.Given as goal

abbrev pub invariant-loop-input : goal.invariant-loop-input
invariant-loop-input g l = bearer l.names (drop l.input-index l.inputs) ≡ bearer l.names l.inputs
