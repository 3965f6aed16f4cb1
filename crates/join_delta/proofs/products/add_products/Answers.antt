use Rattle.std.proofs.Common.{◌+◌, true, ap, ◌∙◌}
use Rattle.std.specs.List.{flat_map}
use Rattle.std.proofs.lemmas.Result.{on_ok_weaker}
use Rattle.operator_law.specs.Bags.{weigh}
use Rattle.operator_law.proofs.Weights.{weigh-append}
use Rattle.join_delta.specs.Joined.{matches, with_moves}
use Rattle.join_delta.specs.Partners.{crossed_with}
use Rattle.join_delta.proofs.Crossed.{other_order}
use Rattle.join_delta.proofs.products.add_products.Goals as goal

pub returns-then-second-first : goal.returns-then-second-first
returns-then-second-first c =
    let both = flat_map (with_moves (matches c.args.first.key.now c.args.second.key.now) c.args.second.moves.now) c.args.first.moves.now in
    on_ok_weaker c.add_crossed.result (λ e f. ap (weigh f) e ∙ weigh-append f c.args.out.now.items both) c.add_crossed.ensures

pub returns-else-second-first : goal.returns-else-second-first
returns-else-second-first c =
    let first = c.args.first in
    let second = c.args.second in
    let crossed = flat_map (crossed_with true first.key.now second.key.now first.moves.now) second.moves.now in
    on_ok_weaker c.add_crossed-else-second-first.result (λ e f.
    ap (weigh f) e ∙ weigh-append f c.args.out.now.items crossed ∙ ap (λ n. weigh f c.args.out.now.items + n) (other_order first.key.now second.key.now first.moves.now second.moves.now f)) c.add_crossed-else-second-first.ensures
