use Rattle.std.proofs.Common.{◌∙◌, ◌≤◌, ◌%◌, ◌++◌, take, drop, sym, ap, arith}
use Rattle.std.specs.Int.{w64, to_be_bytes}
use Rattle.std.proofs.lemmas.List.{take-append-le, take-append-drop}
use Rattle.std.proofs.Math.Seq.{take-append-add}
use Rattle.fact_tables.proofs.short.ShortFirst.of_both.Goals as goal

pub returns : goal.returns
returns c =
    let first = take 7 (to_be_bytes w64 c.args.front) in
    let rest = to_be_bytes w64 c.args.next in
    let count = c.args.next % 256 in
    let within : count ≤ 7 = omega (arith, c.requires) in
    rw (c.to_be_bytes-bytes.ensures, c.to_be_bytes-rest.ensures)
    (take-append-add first (take 7 rest) count
    ∙ ap (λ xs. first ++ xs) (sym (take-append-le count (take 7 rest) (drop 7 rest) within) ∙ ap (take count) (take-append-drop 7 rest)))
