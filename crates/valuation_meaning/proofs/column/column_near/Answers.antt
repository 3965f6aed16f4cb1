use Rattle.std.proofs.Common.{◌∙◌, sym, ap, refl, length, Some}
use Rattle.std.specs.Prelude.{slice_get}
use Rattle.std.proofs.lemmas.Bool.{ltb-true}
use Rattle.std.proofs.lemmas.Option.{slice_get_read}
use Rattle.ss_text.specs.Texts.{Row}
use Rattle.ss_text.proofs.KeyLemmas.{text_order, equal_is}
use Rattle.valuation_meaning.proofs.ColumnLemmas.{stands_at}
use Rattle.valuation_meaning.proofs.column.column_near.Goals as goal

pub returns-in-Some : goal.returns-in-Some
returns-in-Some c =
    let names = c.args.attributes.now in
    let name = c.args.attribute.now in
    let near = c.args.near in
    let cells = c.cells.result.now in
    let read = slice_get_read cells (length cells) near c.in-Some.name.now refl (ltb-true near (length cells) (sym c.in-Some.ensures.lookup.0)) c.in-Some.ensures.lookup.1 in
    let there = ap (λ (row : Row). slice_get row near) (sym c.cells.ensures) ∙ read in
    let same = equal_is text_order name c.in-Some.name.now (sym c.eq.ensures ∙ c.if-eq.true) in
    sym (stands_at names name near c.requires (there ∙ ap Some (sym same)))
