use Rattle.std.proofs.Common.{arith}
use Rattle.engine_tests.proofs.UnitedNames.{second_bears}
use Rattle.engine_tests.proofs.operators.united.moved.Goals as goal

pub prepare-requires : goal.prepare-requires
prepare-requires g c = (
  second_bears c.in_ok-change.change.names c.in_ok-inputs.inputs.items c.in_ok-change.ensures.names c.in_ok-inputs.ensures,
  λ n found k d h. let two = c.in_ok-change.ensures.two k d h in (omega (arith, two), omega (arith, two)),
)
