use Rattle.std.proofs.Common.{◌∙◌, sym, ap, is_eq}
use Rattle.ss_text.proofs.KeyLemmas.{row_order}
use Rattle.fact_tables.proofs.key.KeyPartialEq.eq.Goals as goal

pub returns : goal.returns
returns c = c.is_eq.ensures ∙ ap is_eq c.cmp.ensures ∙ sym (row_order.ties c.args.self.now c.args.other.now)
