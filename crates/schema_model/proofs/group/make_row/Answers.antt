use Rattle.ss_text.specs.Places.{at_place}
use Rattle.schema_model.specs.Edits.{waiting_left, waits_in}
use Rattle.schema_model.specs.declared.edit.DatabaseEdit.TheVariants as inner
use Rattle.schema_model.proofs.Seen.{put_seen}
use Rattle.schema_model.proofs.ReadyLemmas.{within_seen}
use Rattle.schema_model.proofs.EditLemmas.{database_sound, database_set}
use Rattle.schema_model.proofs.GroupLemmas.{own_stays}
use Rattle.schema_model.proofs.group.make_row.Goals as goal

pub edit-requires-clause-sound : goal.edit-requires-clause-sound
edit-requires-clause-sound c =
    let e = c.args.edit in
    let ds = c.args.databases.now.items in
    database_sound ds e.db c.index_mut-database.result.now (within_seen ds e.db c.requires.edit.database) c.index_mut-database.ensures.value (inner.At e.rel e.edit) c.requires.edit.counted.sound.databases

pub returns-clause-made : goal.returns-clause-made
returns-clause-made c =
    let e = c.args.edit in
    let ds = c.args.databases.now.items in
    database_set ds e.db c.index_mut-database.result.now (within_seen ds e.db c.requires.edit.database) c.index_mut-database.ensures.value (inner.At e.rel e.edit) c.edit.new.self c.edit.ensures.value

pub returns-clause-left : goal.returns-clause-left
returns-clause-left c =
    let e = c.args.edit in
    let ds = c.args.databases.now.items in
    put_seen waits_in (at_place e.rel (waiting_left e.edit)) ds e.db c.index_mut-database.result.now c.edit.new.self (within_seen ds e.db c.requires.edit.database) c.index_mut-database.ensures.value c.edit.ensures.waiting

pub returns-clause-own : goal.returns-clause-own
returns-clause-own c =
    let e = c.args.edit in
    let ds = c.args.databases.now.items in
    own_stays ds e.db c.index_mut-database.result.now c.edit.new.self (within_seen ds e.db c.requires.edit.database) c.index_mut-database.ensures.value e.rel e.edit c.edit.ensures.own
