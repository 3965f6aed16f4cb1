use Rattle.std.proofs.Common.{ℕ, arith}
use Rattle.plan_form.proofs.Steps.{keys_turn}
use Rattle.plan_form.proofs.links.keys.Goals as goal

pub loop-link-preserved : goal.loop-link-preserved
loop-link-preserved c = record {
  left = keys_turn (λ (k : ℕ × ℕ). k.0) c.loop-link.left.items c.push_key.new.left.items c.args.links.now c.loop-link.link-index c.link-item.result (omega arith) c.link-item.is c.loop-link.invariant.left c.in_ok-push_key.ensures.left;
  right = keys_turn (λ (k : ℕ × ℕ). k.1) c.loop-link.right.items c.push_key.new.right.items c.args.links.now c.loop-link.link-index c.link-item.result (omega arith) c.link-item.is c.loop-link.invariant.right c.in_ok-push_key.ensures.right;
}
