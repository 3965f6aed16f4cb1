-- Printed rows have fields.
use Rattle.std.proofs.Common.{◌≡◌, ◌≢◌, ℕ, List, [], ◌∷◌, ◌++◌, map, subst, sym, ◌∙◌, ap, append_assoc, append-nil}
use Rattle.std.specs.List.{All, AllByRecursion}
use Rattle.std.proofs.lemmas.List.Elements.{All-from_recursion}
use Rattle.ss_text.specs.Texts.{Row}
use Rattle.flow_law.specs.declared.line.TableLine.{TableLine}
use Rattle.flow_law.specs.declared.line.TableLine.TheVariants.{TableMinus, TablePlus, RowMinus, ColumnMinus, ColumnPlus, RowPlus, Cell}
use Rattle.change_script.specs.Printed.{printed}
use Rattle.tab_lines.specs.Spelling.{spell}
use Rattle.ss_print.specs.Printing.{lines_text}

abbrev HasFields : Row → Type 0
HasFields row = row ≢ []

has_fields : (line : TableLine) → HasFields (printed line)
has_fields (TableMinus label) e = absurd (cc)
has_fields (TablePlus label) e = absurd (cc)
has_fields (RowMinus label key) e = absurd (cc)
has_fields (ColumnMinus label column) e = absurd (cc)
has_fields (ColumnPlus label column) e = absurd (cc)
has_fields (RowPlus label key) e = absurd (cc)
has_fields (Cell label column value key) e = absurd (cc)

each_has : (lines : List TableLine) → AllByRecursion HasFields (map printed lines)
each_has [] = tt
each_has (line ∷ lines) = (has_fields line, each_has lines)

-- the lines of a script
pub lines_have_fields : (lines : List TableLine) (rows : List Row) → rows ≡ map printed lines → All (λ (row : Row). row ≢ []) rows
lines_have_fields lines rows e = subst (All HasFields) (sym e) (All-from_recursion HasFields (map printed lines) (each_has lines))

-- one row more, as a line
pub one_line_more : (rows : List Row) (last : Row) → lines_text (rows ++ last ∷ []) ≡ lines_text rows ++ spell last ++ 10 ∷ []
one_line_more [] last = append-nil (spell last ++ 10 ∷ [])
one_line_more (row ∷ rows) last =
    ap (λ (t : List ℕ). (spell row ++ 10 ∷ []) ++ t) (one_line_more rows last)
    ∙ sym (ap (λ (t : List ℕ). t ++ 10 ∷ []) (append_assoc (spell row ++ 10 ∷ []) (lines_text rows) (spell last)) ∙ append_assoc (spell row ++ 10 ∷ []) (lines_text rows ++ spell last) (10 ∷ []))

-- two rows of fields
pub two_have_fields : (rows : List Row) (first second : Row) → rows ≡ ([] ++ first ∷ []) ++ second ∷ [] → HasFields first → HasFields second → All (λ (row : Row). row ≢ []) rows
two_have_fields rows first second e f g = subst (All HasFields) (sym e) (All-from_recursion HasFields (first ∷ second ∷ []) (f, (g, tt)))
