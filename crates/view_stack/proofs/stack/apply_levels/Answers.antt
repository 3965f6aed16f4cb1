use Rattle.std.proofs.Common.{◌++◌, ◌∙◌, List, map, sym, ap, subst}
use Rattle.flow_law.specs.declared.line.TableLine.{TableLine}
use Rattle.apply_law.specs.Standing.{Standing}
use Rattle.view_stack.specs.Stacks.{AreProposed}
use Rattle.view_stack.specs.Told.{comes_to}
use Rattle.view_stack.proofs.StackLemmas.{no_memory}
use Rattle.view_stack.proofs.ToldLemmas.{refusal_told, starts_at, only_refused, applied}
use Rattle.view_stack.proofs.stack.apply_levels.Goals as goal

pub returns-in_default-clause-refused : goal.returns-in_default-clause-refused
returns-in_default-clause-refused g c = no_memory (map g.A.Applies.state c.args.levels.now) c.args.names.now c.args.changes.now c.requires.stack.some

pub accept_all-requires : goal.accept_all-requires
accept_all-requires g c =
    let proposed = c.in-Ok-propose_all.ensures.proposed in
    let waiting = map g.A.Applies.waits c.propose_all.new.levels in
    (c.args.names.now, c.args.changes.now, proposed.0, subst (λ (ls : List Standing). AreProposed ls c.args.names.now c.args.changes.now proposed.0 waiting) (sym c.propose_all.ensures.same) proposed.2.proposed)

pub returns-in-Ok-propose_all-clause-taken : goal.returns-in-Ok-propose_all-clause-taken
returns-in-Ok-propose_all-clause-taken g c =
    let names = c.args.names.now in
    let changes = c.args.changes.now in
    let proposed = c.in-Ok-propose_all.ensures.proposed in
    let lines = ◌∙◌ {A = List (List TableLine)} proposed.1 (ap (λ (xs : List (List TableLine)). xs ++ proposed.0) c.in-Ok.ensures.items) in
    (applied g.A.Applies.state g.A.Applies.after_propose g.A.Applies.after_accept c.args.levels.now c.propose_all.new.levels c.accept_all.new.levels names changes proposed.0 _ (map g.A.Applies.waits c.propose_all.new.levels)
    c.requires.stack.stacked proposed.2 c.propose_all.ensures.same (c.accept_all.ensures.made names changes proposed.0) c.accept_all.ensures.accepted lines).taken

pub returns-in-Ok-propose_all-clause-lines : goal.returns-in-Ok-propose_all-clause-lines
returns-in-Ok-propose_all-clause-lines g c =
    let names = c.args.names.now in
    let changes = c.args.changes.now in
    let proposed = c.in-Ok-propose_all.ensures.proposed in
    let lines = ◌∙◌ {A = List (List TableLine)} proposed.1 (ap (λ (xs : List (List TableLine)). xs ++ proposed.0) c.in-Ok.ensures.items) in
    (applied g.A.Applies.state g.A.Applies.after_propose g.A.Applies.after_accept c.args.levels.now c.propose_all.new.levels c.accept_all.new.levels names changes proposed.0 _ (map g.A.Applies.waits c.propose_all.new.levels)
    c.requires.stack.stacked proposed.2 c.propose_all.ensures.same (c.accept_all.ensures.made names changes proposed.0) c.accept_all.ensures.accepted lines).told.lines

pub returns-in-Ok-propose_all-clause-unrefused : goal.returns-in-Ok-propose_all-clause-unrefused
returns-in-Ok-propose_all-clause-unrefused g c =
    let names = c.args.names.now in
    let changes = c.args.changes.now in
    let proposed = c.in-Ok-propose_all.ensures.proposed in
    let lines = ◌∙◌ {A = List (List TableLine)} proposed.1 (ap (λ (xs : List (List TableLine)). xs ++ proposed.0) c.in-Ok.ensures.items) in
    (applied g.A.Applies.state g.A.Applies.after_propose g.A.Applies.after_accept c.args.levels.now c.propose_all.new.levels c.accept_all.new.levels names changes proposed.0 _ (map g.A.Applies.waits c.propose_all.new.levels)
    c.requires.stack.stacked proposed.2 c.propose_all.ensures.same (c.accept_all.ensures.made names changes proposed.0) c.accept_all.ensures.accepted lines).told.unrefused

pub returns-in-Ok-propose_all-clause-over : goal.returns-in-Ok-propose_all-clause-over
returns-in-Ok-propose_all-clause-over g c =
    let names = c.args.names.now in
    let changes = c.args.changes.now in
    let proposed = c.in-Ok-propose_all.ensures.proposed in
    let lines = ◌∙◌ {A = List (List TableLine)} proposed.1 (ap (λ (xs : List (List TableLine)). xs ++ proposed.0) c.in-Ok.ensures.items) in
    (applied g.A.Applies.state g.A.Applies.after_propose g.A.Applies.after_accept c.args.levels.now c.propose_all.new.levels c.accept_all.new.levels names changes proposed.0 _ (map g.A.Applies.waits c.propose_all.new.levels)
    c.requires.stack.stacked proposed.2 c.propose_all.ensures.same (c.accept_all.ensures.made names changes proposed.0) c.accept_all.ensures.accepted lines).over

pub returns-in-Ok-propose_all-clause-made : goal.returns-in-Ok-propose_all-clause-made
returns-in-Ok-propose_all-clause-made g c =
    let names = c.args.names.now in
    let changes = c.args.changes.now in
    let proposed = c.in-Ok-propose_all.ensures.proposed in
    let lines = ◌∙◌ {A = List (List TableLine)} proposed.1 (ap (λ (xs : List (List TableLine)). xs ++ proposed.0) c.in-Ok.ensures.items) in
    (applied g.A.Applies.state g.A.Applies.after_propose g.A.Applies.after_accept c.args.levels.now c.propose_all.new.levels c.accept_all.new.levels names changes proposed.0 _ (map g.A.Applies.waits c.propose_all.new.levels)
    c.requires.stack.stacked proposed.2 c.propose_all.ensures.same (c.accept_all.ensures.made names changes proposed.0) c.accept_all.ensures.accepted lines).made

pub returns-in-Ok-propose_all-clause-levels : goal.returns-in-Ok-propose_all-clause-levels
returns-in-Ok-propose_all-clause-levels g c =
    let names = c.args.names.now in
    let changes = c.args.changes.now in
    let proposed = c.in-Ok-propose_all.ensures.proposed in
    let lines = ◌∙◌ {A = List (List TableLine)} proposed.1 (ap (λ (xs : List (List TableLine)). xs ++ proposed.0) c.in-Ok.ensures.items) in
    (applied g.A.Applies.state g.A.Applies.after_propose g.A.Applies.after_accept c.args.levels.now c.propose_all.new.levels c.accept_all.new.levels names changes proposed.0 _ (map g.A.Applies.waits c.propose_all.new.levels)
    c.requires.stack.stacked proposed.2 c.propose_all.ensures.same (c.accept_all.ensures.made names changes proposed.0) c.accept_all.ensures.accepted lines).levels

pub returns-in-Err-clause-refused : goal.returns-in-Err-clause-refused
returns-in-Err-clause-refused g c = only_refused (map g.A.Applies.state c.args.levels.now) c.args.names.now c.args.changes.now _ _ c.in-Err.ensures.refused

pub returns-in-Err-clause-told : goal.returns-in-Err-clause-told
returns-in-Err-clause-told g c = λ none.
    let levels = map g.A.Applies.state c.args.levels.now in
    let changes = c.args.changes.now in
    refusal_told levels c.args.names.now changes _ _ (comes_to levels changes) c.requires.stack.stacked (starts_at levels changes) none c.in-Err.ensures.refused
