use Rattle.std.proofs.Common.{◌≡◌, ℕ, take, map}
use Rattle.std.specs.List.{filter_map}
use Rattle.plan_law.specs.Links.{key_of}
use Rattle.plan_form.specs.Sources.{seen_link}
use Rattle.plan_form.proofs.links.keys.Given as goal

abbrev pub invariant-loop-link : goal.invariant-loop-link
invariant-loop-link l = record {
  left : l.left.items ≡ map (λ (k : ℕ × ℕ). k.0) (filter_map key_of (map seen_link (take l.link-index l.links)));
  right : l.right.items ≡ map (λ (k : ℕ × ℕ). k.1) (filter_map key_of (map seen_link (take l.link-index l.links)));
}
