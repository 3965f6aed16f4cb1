use Rattle.std.proofs.Common.{◌≡◌, ◌≤◌, ◌+◌, ◌-◌, length, drop}
use Rattle.std.specs.Option.{option_map}
use Rattle.ss_lexer.specs.Spelling.{quote_len}
use Rattle.ss_lexer.proofs.length.quote_len.Given as goal

abbrev pub invariant-loop-len : goal.invariant-loop-len
invariant-loop-len l = record {
  inside : l.len ≤ length l.bytes;
  so_far : option_map (λ n. l.len + n) (quote_len l.quote (drop l.len l.bytes)) ≡ quote_len l.quote l.bytes;
}

abbrev pub decreases-loop-len : goal.decreases-loop-len
decreases-loop-len l = length l.bytes - l.len
