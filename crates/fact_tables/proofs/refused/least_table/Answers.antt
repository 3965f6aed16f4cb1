use Rattle.std.proofs.Common.{rules, tests, ap, ◌∙◌}
use Rattle.std.proofs.lemmas.Iterator.{YieldsList-from_slice}
use Rattle.std.proofs.lemmas.Iterator.Consumers.{reduce_from_yields_List, YieldsList-from_filter_map}
use Rattle.ss_text.specs.Texts.{text_cmp}
use Rattle.ss_text.specs.Ascending.{least}
use Rattle.ss_text.proofs.KeyLemmas.{text_order}
use Rattle.ss_text.proofs.LeastLemmas.{min_is_least}
use Rattle.flow_law.proofs.RefusedLemmas.{bad_table, bad_tables}
use Rattle.fact_tables.proofs.refused.least_table.Goals as goal

pub returns : goal.returns
returns t c =
    let fs = c.args.facts.now in
    reduce_from_yields_List _ c.filter_map.result _ c.min.ensures.ran (YieldsList-from_filter_map _ bad_table (YieldsList-from_slice fs cc) c.filter_map.ensures.closure (λ x r q k. search (rules, tests)))
    ∙ min_is_least text_order.total text_order.same _ ∙ ap (least text_cmp) (bad_tables fs)
