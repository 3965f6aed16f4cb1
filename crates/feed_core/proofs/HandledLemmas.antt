-- What is kept of an arrival is what was handled.
use Rattle.std.proofs.Common.{◌≡◌, ◌∷◌, ◌∙◌, [], List, Some, None, Result, Ok, Err, refl, sym, ap, map}
use Rattle.std.specs.Prelude.{IsTrue, IfOk}
use Rattle.std.specs.Global.{Box}
use Rattle.ss_text.specs.Texts.{Row, row_eq}
use Rattle.feed_core.specs.Packed.{is_first}
use Rattle.schema_model.specs.Changes.{is_well_formed}
use Rattle.schema_model.specs.Reading.{change_of, line_of}
use Rattle.schema_model.specs.declared.change.Change.{Change}
use Rattle.schema_model.proofs.LineLemmas.{line_is, read_back}
use Rattle.flow_law.specs.declared.line.TableLine.{TableLine}
use Rattle.flow_law.specs.declared.line.TableLine.TheVariants.{TableMinus, TablePlus, RowMinus, ColumnMinus, ColumnPlus, RowPlus, Cell}
use Rattle.change_script.specs.Printed.{printed}
use Rattle.apply_law.specs.declared.refused.GroupRefused.{GroupRefused}
use Rattle.feed_core.specs.declared.arrival.Arrival.{Arrival}
use Rattle.feed_core.specs.declared.refusal.KeptRefusal.{KeptRefusal}
use Rattle.feed_core.specs.Arrivals.{same_change}
use Rattle.feed_core.specs.Handled.{Handled, line_in, first_row, change_by, change_in, refusal_in, handled_by, HasChange}

-- each line of a script is given back by its printed row
line_back : (line : TableLine) → line_in (printed line) ≡ line
line_back (TableMinus label) = refl
line_back (TablePlus label) = refl
line_back (RowMinus label key) = refl
line_back (ColumnMinus label column) = refl
line_back (ColumnPlus label column) = refl
line_back (RowPlus label key) = refl
line_back (Cell label column value key) = refl

lines_back : (lines : List TableLine) → map line_in (map printed lines) ≡ lines
lines_back [] = refl
lines_back (line ∷ lines) = ap (λ (l : TableLine). l ∷ map line_in (map printed lines)) (line_back line) ∙ ap (λ (ls : List TableLine). line ∷ ls) (lines_back lines)

-- a change is given back by its line
line_first : (g : Change) (rows : List Row) → IsTrue (is_well_formed g) → first_row rows ≡ line_of g → change_of (first_row rows) ≡ Ok g
line_first g rows formed is = ap change_of is ∙ read_back g formed

change_back : (g : Change) (rows : List Row) → IsTrue (is_well_formed g) → first_row rows ≡ line_of g → change_in rows ≡ g
change_back g rows formed is = ap change_by (line_first g rows formed is)

pub has_change : (g : Change) (rows : List Row) → IsTrue (is_well_formed g) → first_row rows ≡ line_of g → HasChange rows
has_change g rows formed is = line_first g rows formed is ∙ ap Ok (sym (change_back g rows formed is))

-- what is kept of a change that was made, and of one that was refused
pub made_is : (a : Arrival) (lines : List TableLine) → IsTrue (is_well_formed a.change)
    → handled_by a.source a.number (line_of a.change ∷ map printed lines) None ≡ record { arrival = a; reply = Ok lines }
made_is a lines formed =
    ap (λ (g : Change). record { arrival = record { source = a.source; number = a.number; change = g }; reply = Ok (map line_in (map printed lines)) })
    (change_back a.change (line_of a.change ∷ map printed lines) formed refl)
    ∙ ap (λ (ls : List TableLine). record { arrival = a; reply = Ok ls }) (lines_back lines)

pub refused_is : (a : Arrival) (b : Box KeptRefusal) (e : GroupRefused) → IsTrue (is_well_formed a.change) → refusal_in b.value ≡ e
    → handled_by a.source a.number (line_of a.change ∷ []) (Some b) ≡ record { arrival = a; reply = Err e }
refused_is a b e formed is =
    ap (λ (g : Change). record { arrival = record { source = a.source; number = a.number; change = g }; reply = Err (refusal_in b.value) })
    (change_back a.change (line_of a.change ∷ []) formed refl)
    ∙ ap (λ (r : GroupRefused). record { arrival = a; reply = Err r }) is

-- what is answered, said otherwise
pub told_as : {E : Type 0} {x y : Handled} (r : Result Handled E) → x ≡ y → IfOk r (λ h. h ≡ x) → IfOk r (λ h. h ≡ y)
told_as (Ok h) e is = is ∙ e
told_as (Err f) e is = tt

-- a change is the one that is kept where the first row is its line
pub same_line : (g : Change) (rows : List Row) → HasChange rows → is_first (line_of g) rows ≡ same_change g (change_in rows)
same_line g [] has = absurd (cc)
same_line g (row ∷ rows) has = ap (λ (r : Row). row_eq (line_of g) r) (sym (line_is row (change_in (row ∷ rows)) has).0)
