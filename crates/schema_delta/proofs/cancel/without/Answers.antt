use Rattle.std.proofs.Common.{◌≡◌, ◌∙◌, List, arith, ap, sym}
use Rattle.std.proofs.lemmas.List.{map-id}
use Rattle.std.proofs.lemmas.Iterator.Adapters.{YieldsList-from_vec}
use Rattle.std.proofs.lemmas.Iterator.Consumers.{YieldsList-end}
use Rattle.ss_text.specs.Texts.{Row}
use Rattle.operator_law.specs.Bags.{weigh, is}
use Rattle.operator_law.proofs.Weights.{weigh-push}
use Rattle.join_delta.specs.Walks.{rows_of}
use Rattle.schema_delta.proofs.Cancelled.{left_over}
use Rattle.schema_delta.proofs.cancel.without.Goals as goal

pub loop-row-preserved : goal.loop-row-preserved
loop-row-preserved c = record {
  all = λ r. omega (arith, c.loop-row.invariant.all r, c.in_ok-keep.ensures.all (is r), weigh-push (is r) c.loop-row.yielded c.in-Some.row);
  apart = c.in_ok-keep.ensures.apart c.loop-row.invariant.apart;
}

pub returns : goal.returns
returns c =
    let gives = c.into_iter-row-iterator.ensures.into_iter_gives in
    let items = YieldsList-from_vec {s = c.into_iter-row-iterator.result} c.args.rows.items gives.0 (gives.1 ∙ c.args.rows.ok.0) in
    let done = YieldsList-end items c.loop-row.yielded c.loop-row.row-iterator c.loop-row.yielded_by c.next.result c.next.new.self c.in-None.is c.next.ensures.steps in
    let whole : c.loop-row.yielded ≡ c.args.rows.items = sym (map-id c.loop-row.yielded) ∙ done.0 in
    λ r.
    left_over c.loop-row.kept.items c.args.rows.items c.args.others.items (rows_of c.loop-row.found.live) (λ x. omega (arith, c.loop-row.invariant.all x, ap (λ (rs : List Row). weigh (is x) rs) whole)) c.loop-row.invariant.apart r
