use Rattle.std.proofs.Common.{◌∙◌, ◌%◌, take, sym, ap}
use Rattle.std.specs.Int.{w64, to_be_bytes}
use Rattle.std.proofs.lemmas.Bool.{ltb-true}
use Rattle.fact_tables.proofs.ShortLemmas.{short_bytes}
use Rattle.fact_tables.proofs.values.short_of.Goals as goal

pub returns-then-is_whole : goal.returns-then-is_whole
returns-then-is_whole c =
    let whole = ltb-true (c.front.result % 256) 8 (sym c.is_whole.ensures ∙ c.if-is_whole.true) in
    c.of.ensures ∙ ap (λ n. take (n % 256) (to_be_bytes w64 n)) c.front-then-is_whole.ensures.front
    ∙ short_bytes c.args.label.now c.front.ensures.digits (rw c.front.ensures.front at whole)
