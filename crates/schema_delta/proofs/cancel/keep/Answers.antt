use Rattle.std.proofs.Common.{◌∙◌, ap, sym}
use Rattle.row_links.specs.Live.{LinkedRows}
use Rattle.schema_delta.proofs.Cancelled.{taken_all, taken_apart, kept_all, kept_apart}
use Rattle.schema_delta.proofs.cancel.keep.Goals as goal

pub returns-then-take_first-clause-all : goal.returns-then-take_first-clause-all
returns-then-take_first-clause-all c =
    taken_all c.args.row c.args.kept.now.items c.args.others.now.live c.take_first.new.self.live (ap (λ (v : LinkedRows). v.live) c.take_first.ensures.taken) (sym c.take_first.ensures.found ∙ c.if-take_first.true)

pub returns-then-take_first-clause-apart : goal.returns-then-take_first-clause-apart
returns-then-take_first-clause-apart c =
    taken_apart c.args.row c.args.kept.now.items c.args.others.now.live c.take_first.new.self.live (ap (λ (v : LinkedRows). v.live) c.take_first.ensures.taken) (sym c.take_first.ensures.found ∙ c.if-take_first.true)

pub returns-clause-all : goal.returns-clause-all
returns-clause-all c =
    kept_all c.args.row c.args.kept.now.items c.args.others.now.live c.push.new.self.items c.take_first.new.self.live (ap (λ (v : LinkedRows). v.live) c.take_first.ensures.taken) (sym c.take_first.ensures.found ∙ c.if-take_first.false) c.in_ok-push.ensures.items

pub returns-clause-apart : goal.returns-clause-apart
returns-clause-apart c =
    kept_apart c.args.row c.args.kept.now.items c.args.others.now.live c.push.new.self.items c.take_first.new.self.live (ap (λ (v : LinkedRows). v.live) c.take_first.ensures.taken) (sym c.take_first.ensures.found ∙ c.if-take_first.false) c.in_ok-push.ensures.items
