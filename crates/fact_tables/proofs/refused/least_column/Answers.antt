use Rattle.std.proofs.Common.{rules, tests, ap, ◌∙◌}
use Rattle.std.proofs.lemmas.Iterator.{YieldsList-from_slice}
use Rattle.std.proofs.lemmas.Iterator.Consumers.{reduce_from_yields_List, YieldsList-from_filter_map}
use Rattle.ss_text.specs.Ascending.{least}
use Rattle.ss_text.proofs.LeastLemmas.{min_is_least}
use Rattle.flow_law.specs.Facts.{pair_cmp}
use Rattle.flow_law.proofs.RefusedLemmas.{bad_column, bad_columns, pair_total, pair_same}
use Rattle.fact_tables.proofs.refused.least_column.Goals as goal

pub returns : goal.returns
returns t c =
    let fs = c.args.facts.now in
    let constants = c.args.constants.now in
    reduce_from_yields_List _ c.filter_map.result _ c.min.ensures.ran (YieldsList-from_filter_map _ (bad_column constants) (YieldsList-from_slice fs cc) c.filter_map.ensures.closure (λ x r q k. search (rules, tests)))
    ∙ min_is_least pair_total pair_same _ ∙ ap (least pair_cmp) (bad_columns constants fs)
