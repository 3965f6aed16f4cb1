use Rattle.std.specs.Prelude.{codes}
use Rattle.view_def.specs.declared.written.Name.{Name}
use Rattle.view_def.specs.declared.written.RawDecl.{RawDecl}
use Rattle.view_def.specs.declared.written.RawRange.TheVariants as range
use Rattle.ss_parser.specs.Phrases.{◌>>=◌}
use Rattle.ss_parser.specs.Terms.{sign, name}
use Rattle.ss_parser.specs.Declarations.{var}
use Rattle.ss_parser.proofs.Exits.{then_goes}
use Rattle.ss_parser.proofs.reader.Reader.cell_var.Goals as goal

pub returns : goal.returns
returns c =
    let f = λ (a : Name). var (range.Alias c.args.tuple a) in
    let view = λ (d : RawDecl). d in
    then_goes view (sign (codes ".")) (λ _. name >>= f) c.args.self.now c.sign.new.self c.var.new.self tt c.in_ok-sign.ensures c.var.result
    (then_goes view name f c.sign.new.self c.name.new.self c.var.new.self c.in_ok-attribute.attribute c.in_ok-attribute.ensures c.var.result c.var.ensures)
