use Rattle.std.proofs.Common.{◌∙◌, ap, sym}
use Rattle.flow_law.specs.Lines.{after_lines}
use Rattle.kept_tables.specs.KeptTables.{KeptTablesValue}
use Rattle.kept_tables.proofs.WaitLemmas.{made_for_change}
use Rattle.kept_tables.proofs.tables.KeptTables.make.Goals as goal

pub make_all-self-inside-requires-clause-memory : goal.make_all-self-inside-requires-clause-memory
make_all-self-inside-requires-clause-memory c = (c.self.invariant.ready c.in-Some.waiting (sym c.take.ensures.value ∙ c.in-Some.is)).memory

pub returns-in-Some-clause-made : goal.returns-in-Some-clause-made
returns-in-Some-clause-made c = λ lines waits.
    let w = c.in-Some.waiting in
    let is = sym c.take.ensures.value ∙ c.in-Some.is in
    let ready = c.self.invariant.ready w is in
    let change = ap (λ (t : KeptTablesValue). t.waiting) c.self.view_is ∙ waits in
    c.make_all-self-inside.ensures.tables
    ∙ made_for_change c.self.inside.slots.items c.self.inside.waiting w lines is ready change
    ∙ ap (λ (t : KeptTablesValue). after_lines t.tables lines.items) c.self.view_is
