use Rattle.std.proofs.Common.{◌≡◌, ◌≤◌, ◌-◌, ◌+◌, ◌^◌, true, if◌then◌else◌}
use Rattle.tab_lines.specs.Taking.{is_ready}
use Rattle.tab_lines.proofs.TakingLemmas.{Going}
use Rattle.tab_lines.proofs.lines.Lines.next.Given as goal

abbrev pub invariant-loop-next : goal.invariant-loop-next
invariant-loop-next g l =
    let rest = g.S.Source.rest in
    record {
      going : Going l.fn.self l.self (rest l.fn.source) (rest l.source) (g.S.Source.last l.fn.source) (g.S.Source.last l.source);
      idle : is_ready l.fn.self ≡ true → (l.source ≡ l.fn.source) × (l.self ≡ l.fn.self);
      steady : g.S.Source.faults l.fn.source ≤ g.S.Source.faults l.source;
    }

abbrev pub decreases-loop-next : goal.decreases-loop-next
decreases-loop-next g l = 2 ^ 32 - l.self.taken + (if l.self.ended then 0 else 1)
