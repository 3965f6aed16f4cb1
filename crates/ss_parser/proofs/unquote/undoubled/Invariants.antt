use Rattle.std.proofs.Common.{◌≡◌, ◌≤◌, ◌-◌, ◌++◌, length, drop}
use Rattle.ss_lexer.specs.Lexemes.{undoubled}
use Rattle.ss_parser.proofs.unquote.undoubled.Given as goal

abbrev pub invariant-loop-at : goal.invariant-loop-at
invariant-loop-at l = record {
  inside : l.at ≤ length l.inner;
  so_far : l.bytes.items ++ undoubled l.quote (drop l.at l.inner) ≡ undoubled l.quote l.inner;
}

abbrev pub decreases-loop-at : goal.decreases-loop-at
decreases-loop-at l = length l.inner - l.at
