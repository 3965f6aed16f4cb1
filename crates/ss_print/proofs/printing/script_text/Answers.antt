use Rattle.std.proofs.Common.{◌≡◌, ◌∷◌, [], ◌++◌, map, length, sym, ◌∙◌, rules}
use Rattle.std.specs.Prelude.{codes, decimal}
use Rattle.tab_lines.specs.Spelling.{spell}
use Rattle.change_script.specs.Printed.{printed}
use Rattle.ss_print.specs.Printing.{lines_text}
use Rattle.ss_print.proofs.PrintingLemmas.{lines_have_fields, one_line_more}
use Rattle.ss_print.proofs.printing.script_text.Goals as goal

pub lines_text-requires : goal.lines_text-requires
lines_text-requires c = lines_have_fields c.args.script.now c.deref.result.now (search rules)

pub returns : goal.returns
returns c =
    let lines : c.in_ok-text.text.items ≡ lines_text (map printed c.args.script.now) = search rules in
    let last : c.in_ok-last.last ≡ codes "done" ∷ decimal (length c.args.script.now) ∷ [] = search rules in
    let put : c.push_row.new.text.items ≡ c.in_ok-text.text.items ++ spell c.in_ok-last.last ++ 10 ∷ [] = search rules in
    put ∙ rw (lines, last) (sym (one_line_more (map printed c.args.script.now) (codes "done" ∷ decimal (length c.args.script.now) ∷ [])))
