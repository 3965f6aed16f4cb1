use Rattle.csv_catalog.proofs.FaultLemmas.{first_taken, rest_taken, sound_relation}
use Rattle.csv_catalog.proofs.relation.ReadRelation.of.Goals as goal

pub invariant_of-result : goal.invariant_of-result
invariant_of-result c =
    let first = first_taken c.args.records.items c.remove-attributes.result c.requires.some c.remove-attributes.ensures.value in
    let rest = rest_taken c.args.records.items c.remove-attributes.new.self.items c.requires.some c.remove-attributes.ensures.items in
    rw (first, rest) (sound_relation c.args.label c.args.count c.args.records.items c.requires.fields c.requires.few c.requires.sound).0

pub returns-clause-room : goal.returns-clause-room
returns-clause-room c =
    let rest = rest_taken c.args.records.items c.remove-attributes.new.self.items c.requires.some c.remove-attributes.ensures.items in
    rw rest (sound_relation c.args.label c.args.count c.args.records.items c.requires.fields c.requires.few c.requires.sound).1
