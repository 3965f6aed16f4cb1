use Rattle.std.proofs.Common.{◌∙◌, map, sym, ap}
use Rattle.flow_law.specs.Tables.{TablesValue}
use Rattle.schema_model.specs.States.{settled}
use Rattle.kept_tables.proofs.ThereLemmas.{none_there}
use Rattle.view_stack.specs.Putting.{relations_put}
use Rattle.view_stack.specs.Stands.{relation_for}
use Rattle.view_stack.proofs.PutLemmas.{no_relations}
use Rattle.view_stack.proofs.database.put_slot.Goals as goal

pub returns-in-None-clause-put : goal.returns-in-None-clause-put
returns-in-None-clause-put c =
    let old = c.args.catalogue.now.databases in
    c.requires.settled ∙ ap settled (no_relations old ∙ ap (λ (ts : TablesValue). relations_put (map (relation_for c.args.shape.now) ts) old) (sym (none_there c.args.slot.now (sym c.in-None.ensures))))
