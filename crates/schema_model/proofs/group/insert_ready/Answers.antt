use Rattle.std.proofs.Common.{◌∙◌, refl, ap}
use Rattle.ss_text.specs.Texts.{Row}
use Rattle.ss_text.specs.Places.{at_place}
use Rattle.schema_model.specs.Catalogue.{with_row, with_relation_at}
use Rattle.schema_model.specs.States.{plain_database, plain_databases}
use Rattle.schema_model.specs.declared.change.Change.TheVariants.{Insert}
use Rattle.schema_model.specs.declared.edit.RelationEdit.TheVariants.{Add}
use Rattle.schema_model.proofs.Seen.{kept_seen}
use Rattle.schema_model.proofs.ReadyLemmas.{within_seen}
use Rattle.schema_model.proofs.ChangeLemmas.{insert_asks}
use Rattle.schema_model.proofs.GroupLemmas.{not_missing, row_makes, row_counted, waits_put, own_put, within_shown}
use Rattle.schema_model.proofs.group.insert_ready.Goals as goal

pub unreachable-requires : goal.unreachable-requires
unreachable-requires c =
    let later = c.requires.later in
    not_missing c.args.db.now c.args.rel.now (plain_databases c.args.databases.now.items) later.0 later.1 (c.in_default.ensures {u = tt}) (insert_asks later.0 c.args.db.now c.args.rel.now c.args.row.now later.2).there

pub returns-in_err-wait_row-clause-same : goal.returns-in_err-wait_row-clause-same
returns-in_err-wait_row-clause-same c =
    let ds = c.args.databases.now.items in
    kept_seen plain_database ds c.in-Some.db c.index_mut-database.result.now c.wait_row.new.self (within_seen ds c.in-Some.db c.in-Some.ensures.0.within) c.index_mut-database.ensures.value c.wait_row.ensures.value

pub returns-clause-same : goal.returns-clause-same
returns-clause-same c =
    let ds = c.args.databases.now.items in
    kept_seen plain_database ds c.in-Some.db c.index_mut-database.result.now c.wait_row.new.self (within_seen ds c.in-Some.db c.in-Some.ensures.0.within) c.index_mut-database.ensures.value c.wait_row.ensures.value

pub returns-clause-makes : goal.returns-clause-makes
returns-clause-makes c =
    let old = plain_databases c.args.databases.now.items in
    let g = Insert c.args.db.now c.args.rel.now c.args.row.now in
    let i = c.in-Some.db in
    let j = c.in-Some.rel in
    let is = c.of-asked.ensures ∙ c.in_ok-row.ensures in
    record {
      edits = λ later same h none.
          row_counted old c.args.db.now c.args.rel.now i j c.in-Some.ensures.0 c.in-Some.ensures.1 later same h (Add c.of-asked.result) g refl none
          (ap (λ (row : Row). at_place i (with_relation_at j (with_row row)) later) is ∙ row_makes old c.args.db.now c.args.rel.now i j c.in-Some.ensures.0 c.in-Some.ensures.1 later same h (with_row c.args.row.now)) refl;
      makes = λ later same h none.
          ap (λ (row : Row). at_place i (with_relation_at j (with_row row)) later) is ∙ row_makes old c.args.db.now c.args.rel.now i j c.in-Some.ensures.0 c.in-Some.ensures.1 later same h (with_row c.args.row.now);
    }

pub returns-clause-waits : goal.returns-clause-waits
returns-clause-waits c =
    let ds = c.args.databases.now.items in
    let lt = within_seen ds c.in-Some.db c.in-Some.ensures.0.within in
    waits_put ds c.in-Some.db c.index_mut-database.result.now c.wait_row.new.self lt c.index_mut-database.ensures.value c.in-Some.rel c.of-asked.result.value c.in_ok-row.row
    (within_shown ds c.in-Some.db c.index_mut-database.result.now c.wait_row.new.self lt c.index_mut-database.ensures.value c.in-Some.rel c.in-Some.ensures.1.within)
    c.in_ok-wait_row.ensures.ok c.of-asked.ensures

pub returns-clause-own : goal.returns-clause-own
returns-clause-own c =
    let ds = c.args.databases.now.items in
    let lt = within_seen ds c.in-Some.db c.in-Some.ensures.0.within in
    let shown = c.index_mut-database.result.now in
    let is = c.index_mut-database.ensures.value in
    let within = within_shown ds c.in-Some.db shown c.wait_row.new.self lt is c.in-Some.rel c.in-Some.ensures.1.within in
    (tt, (own_put ds c.in-Some.db shown c.wait_row.new.self lt is c.in-Some.rel within c.in_ok-wait_row.ensures.own).1)
