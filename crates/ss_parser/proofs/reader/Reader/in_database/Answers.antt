use Rattle.std.specs.Prelude.{codes}
use Rattle.view_def.specs.declared.written.RawDecl.{RawDecl}
use Rattle.ss_parser.specs.Phrases.{◌>>=◌}
use Rattle.ss_parser.specs.Terms.{sign, name}
use Rattle.ss_parser.specs.Declarations.{in_relation}
use Rattle.ss_parser.proofs.Exits.{then_goes}
use Rattle.ss_parser.proofs.reader.Reader.in_database.Goals as goal

pub returns : goal.returns
returns c =
    let f = in_relation c.args.database in
    let view = λ (d : RawDecl). d in
    then_goes view (sign (codes "::")) (λ _. name >>= f) c.args.self.now c.sign.new.self c.in_relation.new.self tt c.in_ok-sign.ensures c.in_relation.result
    (then_goes view name f c.sign.new.self c.name.new.self c.in_relation.new.self c.in_ok-relation.relation c.in_ok-relation.ensures c.in_relation.result c.in_relation.ensures)
