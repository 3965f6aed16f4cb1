use Rattle.std.proofs.Common.{◌∙◌, ap, arith, [], ◌<◌, ◌-◌}
use Rattle.std.specs.Prelude.{vec_capacity, vec_len}
use Rattle.ss_text.specs.Texts.{Text, text_eq}
use Rattle.schema_model.specs.Catalogue.{DatabaseValue, database_value}
use Rattle.schema_model.proofs.Asks.{create_database_has}
use Rattle.schema_model.specs.States.{plain_databases}
use Rattle.schema_model.proofs.ReadyLemmas.{not_found, created}
use Rattle.schema_model.proofs.ready.create_database_ready.Goals as goal

pub unreachable-requires : goal.unreachable-requires
unreachable-requires c =
    let has = create_database_has (plain_databases c.args.databases.now.items) c.args.db.now c.requires.accepted in
    not_found (λ (d : DatabaseValue). text_eq c.args.db.now d.name) (plain_databases c.args.databases.now.items) has.free c.in_default.ensures.there

pub returns-clause-makes : goal.returns-clause-makes
returns-clause-makes c =
    let is = c.new.ensures ∙ ap (λ (name : Text). database_value name []) c.in_ok-name.ensures in
    let some : 0 < vec_capacity c.reserve.new.self - vec_len c.reserve.new.self = omega (arith, c.in_ok-reserve.ensures.ok) in
    created c.args.databases.now.items c.reserve.new.self.items c.reserve.ensures.items (vec_capacity c.reserve.new.self - vec_len c.reserve.new.self) c.args.db.now c.in-Err.place c.new.result c.in-Err.ensures.absent is some
