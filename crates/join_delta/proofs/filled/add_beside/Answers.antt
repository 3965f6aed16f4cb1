use Rattle.std.proofs.Common.{◌≡◌, ◌++◌, ◌∷◌, [], ◌∙◌, ℕ, Option, Some, length, slice_index_or, is_some, arith, ap, sym, subst}
use Rattle.ss_text.specs.Texts.{Row}
use Rattle.row_links.specs.Live.{following}
use Rattle.join_delta.specs.Joined.{matches}
use Rattle.join_delta.specs.Walks.{rest_from}
use Rattle.join_delta.proofs.Walk.{IsWalk, walk_begun, walk_left, walk_more, walk_ended, beside_is}
use Rattle.join_delta.proofs.filled.add_beside.Goals as goal

pub loop-at-init : goal.loop-at-init
loop-at-init c =
    walk_begun (matches c.args.positions.now (slice_index_or c.args.kept.now.keys 0 []) c.args.row.now) c.args.kept.now.live (λ (y : Row). c.args.row.now ++ y) c.args.out.now.items c.chain_like-at.result c.chain_like-at.ensures.once c.chain_like-at.ensures.found

pub row-requires : goal.row-requires
row-requires c =
    let at = c.loop-at.invariant.walks c.in-Some.place c.in-Some.is in
    ap is_some at.there

pub beside-at-requires-clause-place : goal.beside-at-requires-clause-place
beside-at-requires-clause-place c =
    let at = c.loop-at.invariant.walks c.in-Some.place c.in-Some.is in
    ap is_some at.there

pub loop-at-smaller : goal.loop-at-smaller
loop-at-smaller c =
    let key = slice_index_or c.args.kept.now.keys 0 [] in
    let t = matches c.args.positions.now key c.args.row.now in
    let at = c.loop-at.invariant.walks c.in-Some.place c.in-Some.is in
    let next = c.beside-at.ensures at.row at.there ∙ beside_is key c.args.positions.now c.args.row.now at.row (following c.in-Some.place c.args.kept.now.live) at.passes in
    let left = walk_left t c.args.kept.now.live c.in-Some.place at.row c.beside-at.result c.loop-at.invariant.once at.there next in
    let was : rest_from t c.args.kept.now.live c.loop-at.at ≡ (c.in-Some.place, at.row) ∷ rest_from t c.args.kept.now.live c.beside-at.result = ap (rest_from t c.args.kept.now.live) c.in-Some.is ∙ left in
    omega (arith, ap length was)

pub loop-at-preserved : goal.loop-at-preserved
loop-at-preserved c =
    let key = slice_index_or c.args.kept.now.keys 0 [] in
    let t = matches c.args.positions.now key c.args.row.now in
    let f = λ (y : Row). c.args.row.now ++ y in
    let at = c.loop-at.invariant.walks c.in-Some.place c.in-Some.is in
    let next = c.beside-at.ensures at.row at.there ∙ beside_is key c.args.positions.now c.args.row.now at.row (following c.in-Some.place c.args.kept.now.live) at.passes in
    let here = subst (λ (o : Option ℕ). IsWalk t c.args.kept.now.live f c.args.out.now.items c.loop-at.out.items o) c.in-Some.is c.loop-at.invariant in
    let row_is : at.row ≡ c.row.result.now = (let e : Some at.row ≡ Some c.row.result.now = sym at.there ∙ c.row.ensures in cc) in
    let out_is : c.loop-at.out.items ++ f at.row ∷ [] ≡ c.push.new.self.items = ap (λ (r : Row). c.loop-at.out.items ++ f r ∷ []) row_is ∙ ap (λ (r : Row). c.loop-at.out.items ++ r ∷ []) (sym c.in_ok-joined_row.ensures) ∙ sym c.in_ok-push.ensures.items in
    walk_more t c.args.kept.now.live f c.args.out.now.items c.loop-at.out.items c.push.new.self.items c.in-Some.place at.row c.beside-at.result here at.there next out_is

pub returns : goal.returns
returns c =
    let t = matches c.args.positions.now (slice_index_or c.args.kept.now.keys 0 []) c.args.row.now in
    let f = λ (y : Row). c.args.row.now ++ y in
    walk_ended t c.args.kept.now.live f c.args.out.now.items c.loop-at.out.items
    (subst (λ (o : Option ℕ). IsWalk t c.args.kept.now.live f c.args.out.now.items c.loop-at.out.items o) c.in_default.is c.loop-at.invariant)
