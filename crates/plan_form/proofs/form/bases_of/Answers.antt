use Rattle.std.proofs.Common.{◌≡◌, ◌<◌, ◌∙◌, List, [], length, get_or, map, ap, arith}
use Rattle.view_def.specs.declared.typed.Range.{Range}
use Rattle.view_def.specs.Query.{query_of}
use Rattle.plan_law.specs.Columns.{headers_from}
use Rattle.plan_form.specs.Bases.{base_value, bases_from}
use Rattle.plan_form.proofs.Bases.{bases_turn, headers_turn}
use Rattle.plan_form.proofs.form.bases_of.Goals as goal

pub loop-declaration-preserved : goal.loop-declaration-preserved
loop-declaration-preserved c =
    let q = query_of c.args.view.now in
    let ds = c.args.view.now.decls.items in
    let i = c.loop-declaration.declaration in
    let d : Range = c.range-item.result in
    let items = c.deref-range-items.ensures.value in
    let at : c.range-item.result ≡ get_or c.args.view.now.decls.items c.loop-declaration.declaration c.range-item.result = c.range-item.is ∙ ap (λ (rs : List Range). get_or rs c.loop-declaration.declaration c.range-item.result) items in
    let lt : c.loop-declaration.declaration < length c.args.view.now.decls.items = omega (arith, ap length items) in
    record {
      bases = bases_turn q ds i d (map base_value c.loop-declaration.bases.items) (map base_value c.push_base.new.bases.items) (bases_from q [] 0 ds) c.loop-declaration.header.items c.push_base.new.above.items lt at c.loop-declaration.invariant.bases c.in_ok-push_base.ensures.bases c.in_ok-push_base.ensures.above;
      header = headers_turn q ds i d (headers_from q 0 ds) c.loop-declaration.header.items c.push_base.new.above.items lt at c.loop-declaration.invariant.header c.in_ok-push_base.ensures.above;
    }
