use Rattle.std.proofs.Common.{◌∙◌, refl, ap, List, slice_set}
use Rattle.ss_text.specs.Texts.{Row}
use Rattle.ss_text.specs.Places.{at_place}
use Rattle.schema_model.specs.Catalogue.{with_relation_at}
use Rattle.schema_model.specs.Changes.{less_row}
use Rattle.schema_model.specs.States.{plain_database, plain_databases}
use Rattle.schema_model.specs.Edits.{waits_in}
use Rattle.schema_model.specs.Groups.{all_waits}
use Rattle.schema_model.specs.declared.change.Change.TheVariants.{Delete}
use Rattle.schema_model.specs.declared.edit.RelationEdit.TheVariants.{Take}
use Rattle.schema_model.proofs.ChangeLemmas.{delete_asks}
use Rattle.schema_model.proofs.GroupLemmas.{not_missing, row_makes, row_counted, unchanged, own_put, within_shown}
use Rattle.schema_model.proofs.Seen.{kept_seen}
use Rattle.schema_model.proofs.ReadyLemmas.{within_seen}
use Rattle.schema_model.proofs.group.delete_ready.Goals as goal

pub unreachable-requires : goal.unreachable-requires
unreachable-requires c =
    let later = c.requires.later in
    not_missing c.args.db.now c.args.rel.now (plain_databases c.args.databases.now.items) later.0 later.1 (c.in_default.ensures {u = tt}) (delete_asks later.0 c.args.db.now c.args.rel.now c.args.row.now later.2).there

pub returns-in_err-own_rows-clause-same : goal.returns-in_err-own_rows-clause-same
returns-in_err-own_rows-clause-same c =
    let ds = c.args.databases.now.items in
    kept_seen plain_database ds c.in-Some.db c.index_mut-database.result.now c.own_rows.new.self (within_seen ds c.in-Some.db c.in-Some.ensures.0.within) c.index_mut-database.ensures.value c.own_rows.ensures.value

pub returns-clause-same : goal.returns-clause-same
returns-clause-same c =
    let ds = c.args.databases.now.items in
    kept_seen plain_database ds c.in-Some.db c.index_mut-database.result.now c.own_rows.new.self (within_seen ds c.in-Some.db c.in-Some.ensures.0.within) c.index_mut-database.ensures.value c.own_rows.ensures.value

pub returns-clause-makes : goal.returns-clause-makes
returns-clause-makes c =
    let old = plain_databases c.args.databases.now.items in
    let g = Delete c.args.db.now c.args.rel.now c.args.row.now in
    let i = c.in-Some.db in
    let j = c.in-Some.rel in
    record {
      edits = λ later same h none.
          row_counted old c.args.db.now c.args.rel.now i j c.in-Some.ensures.0 c.in-Some.ensures.1 later same h (Take c.in_ok-row.row) g refl none
          (ap (λ (row : Row). at_place i (with_relation_at j (less_row row)) later) c.in_ok-row.ensures ∙ row_makes old c.args.db.now c.args.rel.now i j c.in-Some.ensures.0 c.in-Some.ensures.1 later same h (less_row c.args.row.now)) refl;
      makes = λ later same h none.
          ap (λ (row : Row). at_place i (with_relation_at j (less_row row)) later) c.in_ok-row.ensures ∙ row_makes old c.args.db.now c.args.rel.now i j c.in-Some.ensures.0 c.in-Some.ensures.1 later same h (less_row c.args.row.now);
    }

pub returns-clause-waits : goal.returns-clause-waits
returns-clause-waits c =
    let ds = c.args.databases.now.items in
    let i = c.in-Some.db in
    let j = c.in-Some.rel in
    let waits = all_waits (slice_set ds i c.own_rows.new.self) in (
      tt,
      unchanged (at_place j (λ (ws : List Row). ws)) (λ x. unchanged (λ (ws : List Row). ws) (λ ws. refl) x j) waits i
          ∙ kept_seen waits_in ds i c.index_mut-database.result.now c.own_rows.new.self (within_seen ds i c.in-Some.ensures.0.within) c.index_mut-database.ensures.value c.own_rows.ensures.waiting,
    )

pub returns-clause-own : goal.returns-clause-own
returns-clause-own c =
    let ds = c.args.databases.now.items in
    let lt = within_seen ds c.in-Some.db c.in-Some.ensures.0.within in
    let shown = c.index_mut-database.result.now in
    let is = c.index_mut-database.ensures.value in
    let within = within_shown ds c.in-Some.db shown c.own_rows.new.self lt is c.in-Some.rel c.in-Some.ensures.1.within in
    own_put ds c.in-Some.db shown c.own_rows.new.self lt is c.in-Some.rel within c.in_ok-own_rows.ensures.ok
