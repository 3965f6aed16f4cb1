use Rattle.std.specs.List.{AllZip, AllByRecursion}
use Rattle.schema_delta.specs.Net.{SameNet, IsNet}
use Rattle.schema_delta.proofs.nets.each_net.Given as goal

abbrev pub invariant-loop-delta : goal.invariant-loop-delta
invariant-loop-delta l = record {
  same : AllZip SameNet l.yielded l.nets.items;
  net : AllByRecursion IsNet l.nets.items;
}
