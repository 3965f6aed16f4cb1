use Rattle.std.proofs.Common.{◌≡◌, ◌<◌, ◌+◌, ◌-◌, length, sym, subst, ◌∙◌, arith, ℕ}
use Rattle.schema_model.specs.States.{plain_relation}
use Rattle.valuation_meaning.specs.Indexed.{cells_of, IsIndexed}
use Rattle.valuation_meaning.proofs.ElementLemmas.{row_there, rows_long}
use Rattle.valuation_meaning.proofs.IndexLemmas.{no_index, cells_long, row_passed, row_chained}
use Rattle.valuation_meaning.proofs.index.Index.of.Goals as goal

pub loop-position-init : goal.loop-position-init
loop-position-init c =
    let r = plain_relation c.args.relation.now in
    let a = c.args.attribute.now in
    let rows = c.in_ok-rows.rows in
    let count = rows.ok.0 ∙ rows_long rows.items r.rows c.in_ok-rows.ensures ∙ sym (cells_long r a) in
    record {
      within = omega (arith, c.len-position.ensures, rows.ok.0);
      indexed = rw c.with_hasher-heads.ensures.empty (no_index (cells_of (r, a)) c.in_ok-next.next.items c.len-position.result (c.in_ok-next.ensures ∙ c.len.ensures ∙ count) (c.len-position.ensures ∙ count));
    }

pub loop-position-preserved-in-Some : goal.loop-position-preserved-in-Some
loop-position-preserved-in-Some c =
    let r = plain_relation c.args.relation.now in
    let a = c.args.attribute.now in
    let n = c.loop-position.position - 1 in
    let lt : n < length c.in_ok-rows.rows.items = omega (arith, c.loop-position.invariant.within, c.loop-position-test.true) in
    let same : c.loop-position.position ≡ n + 1 = omega (arith, c.loop-position-test.true) in
    let done = subst (λ (k : ℕ). IsIndexed (cells_of (r, a)) c.loop-position.heads.entries c.loop-position.next.items k) same c.loop-position.invariant.indexed in
    let at = row_there c.in_ok-rows.rows.items r.rows n c.index-row.result.now c.in_ok-rows.ensures lt c.index-row.ensures in
    let cell = rw c.attributes.ensures.attributes at c.in-Some.ensures in
    record {
      within = omega (arith, c.loop-position.invariant.within);
      indexed = rw c.in_ok-next-2.ensures.entries (row_chained r a c.loop-position.heads.entries c.loop-position.next.items n c.index-row.result.now.now at done c.in-Some.cell c.in_ok-next-2.field-0 cell c.in_ok-next-2.ensures.old);
    }

pub loop-position-preserved : goal.loop-position-preserved
loop-position-preserved c =
    let r = plain_relation c.args.relation.now in
    let a = c.args.attribute.now in
    let n = c.loop-position.position - 1 in
    let lt : n < length c.in_ok-rows.rows.items = omega (arith, c.loop-position.invariant.within, c.loop-position-test.true) in
    let same : c.loop-position.position ≡ n + 1 = omega (arith, c.loop-position-test.true) in
    let done = subst (λ (k : ℕ). IsIndexed (cells_of (r, a)) c.loop-position.heads.entries c.loop-position.next.items k) same c.loop-position.invariant.indexed in
    let at = row_there c.in_ok-rows.rows.items r.rows n c.index-row.result.now c.in_ok-rows.ensures lt c.index-row.ensures in
    let cell = rw c.attributes.ensures.attributes at c.in_default.ensures in
    record {
      within = omega (arith, c.loop-position.invariant.within);
      indexed = row_passed r a c.loop-position.heads.entries c.loop-position.next.items n c.index-row.result.now.now at done cell;
    }
