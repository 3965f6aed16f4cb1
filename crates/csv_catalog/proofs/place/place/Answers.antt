use Rattle.std.proofs.Common.{◌≡◌, ◌<◌, ◌+◌, ◌-◌, sym, length, arith}
use Rattle.csv_catalog.specs.Loaded.{by_name}
use Rattle.csv_catalog.proofs.PlaceLemmas.{total_by_name, sorted_by_name, among_less, among_equal, among_greater, among_none}
use Rattle.csv_catalog.proofs.place.place.Goals as goal
use Rattle.csv_catalog.proofs.place.place.Goals.{else-loop-at-test, then-loop-at-test+in-Greater}

pub loop-at-preserved : goal.loop-at-preserved
loop-at-preserved c =
    let at = c.loop-at.at in
    let kept = c.args.kept.now.items in
    let next : at ≡ at - 1 + 1 = omega arith in
    let lt : at - 1 < length kept = omega arith in
    record {
      among = among_less by_name total_by_name c.args.relation c.index.result.now kept (at - 1) at next lt c.index.ensures (sorted_by_name kept c.requires) (sym (rw (c.label.ensures, c.label-in-loop-at.ensures) at c.in-Less.ensures)) c.loop-at.invariant.among;
      at = omega arith;
      same = c.loop-at.invariant.same;
    }

pub returns-in-Equal : goal.returns-in-Equal
returns-in-Equal c =
    let at = c.loop-at.at in
    let kept = c.args.kept.now.items in
    let next : at ≡ at - 1 + 1 = omega arith in
    let lt : at - 1 < length kept = omega arith in
    sym (among_equal by_name total_by_name c.args.relation c.index.result.now kept (at - 1) at next lt c.index.ensures (sorted_by_name kept c.requires) (sym (rw (c.label.ensures, c.label-in-loop-at.ensures) at c.in-Equal.ensures)) c.loop-at.invariant.among)

pub returns : goal.returns
returns c =
    let at = c.loop-at.at in
    let kept = c.args.kept.now.items in
    rw c.in_ok-insert.ensures.items (elim c.loop-at-test.branch [
      | else-loop-at-test w ↦ among_none by_name total_by_name c.args.relation kept at w.loop-at-test.false c.loop-at.invariant.among
      | then-loop-at-test+in-Greater w ↦
          let next : at ≡ at - 1 + 1 = omega arith in
          let lt : at - 1 < length kept = omega arith in
          among_greater by_name total_by_name c.args.relation w.index.result.now kept (at - 1) at next lt w.index.ensures (sorted_by_name kept c.requires) (sym (rw (w.label.ensures, w.label-in-loop-at.ensures) at w.in-Greater.ensures)) c.loop-at.invariant.among
    ])
