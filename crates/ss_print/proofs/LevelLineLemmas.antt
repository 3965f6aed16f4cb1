-- Printed rows of levels have fields, and whose number is printed.
use Rattle.std.proofs.Common.{◌≡◌, ◌≢◌, ◌<◌, ℕ, suc, zero, List, [], ◌∷◌, ◌++◌, map, subst, sym, ◌∙◌, ap, refl, arith}
use Rattle.std.specs.Prelude.{Result}
use Rattle.std.specs.List.{All, AllByRecursion}
use Rattle.std.proofs.lemmas.List.Elements.{All-from_recursion}
use Rattle.ss_text.specs.Texts.{Row}
use Rattle.outside.specs.Effects.{Effect, World, Does}
use Rattle.outside.specs.declared.stop.Stop.{Stop}
use Rattle.flow_law.specs.declared.line.TableLine.{TableLine}
use Rattle.flow_law.specs.declared.line.TableLine.TheVariants.{TableMinus, TablePlus, RowMinus, ColumnMinus, ColumnPlus, RowPlus, Cell}
use Rattle.change_script.specs.Printed.{printed}
use Rattle.ss_print.specs.Printing.{says}
use Rattle.ss_print.specs.LevelLines.{level_row, names_level, rows_from}

abbrev HasFields : Row → Type 0
HasFields row = row ≢ []

has_fields : (line : TableLine) → HasFields (printed line)
has_fields (TableMinus label) e = absurd (cc)
has_fields (TablePlus label) e = absurd (cc)
has_fields (RowMinus label key) e = absurd (cc)
has_fields (ColumnMinus label column) e = absurd (cc)
has_fields (ColumnPlus label column) e = absurd (cc)
has_fields (RowPlus label key) e = absurd (cc)
has_fields (Cell label column value key) e = absurd (cc)

each_has : (lines : List TableLine) (rows : List Row) → AllByRecursion HasFields rows → AllByRecursion HasFields (map printed lines ++ rows)
each_has [] rows h = h
each_has (line ∷ lines) rows h = (has_fields line, each_has lines rows h)

levels_have : (level : ℕ) (all : List (List TableLine)) (rows : List Row) → AllByRecursion HasFields rows → AllByRecursion HasFields (rows_from level all ++ rows)
levels_have level [] rows h = h
levels_have level (lines ∷ all) rows h = (λ e. absurd (cc), joined (map printed lines) (rows_from (suc level) all) rows (each_has lines (rows_from (suc level) all ++ rows) (levels_have (suc level) all rows h)))
  where
    joined : (xs ys zs : List Row) → AllByRecursion HasFields (xs ++ (ys ++ zs)) → AllByRecursion HasFields ((xs ++ ys) ++ zs)
    joined [] ys zs h = h
    joined (x ∷ xs) ys zs h = (h.0, joined xs ys zs h.1)

-- the rows of levels, and a row of fields behind them
pub rows_have_fields : (all : List (List TableLine)) (front rows : List Row) (last : Row) → front ≡ [] ++ rows_from 1 all → rows ≡ front ++ last ∷ [] → HasFields last → All (λ (row : Row). row ≢ []) rows
rows_have_fields all front rows last e f h = subst (All HasFields) (ap (λ (rs : List Row). rs ++ last ∷ []) (sym e) ∙ sym f) (All-from_recursion HasFields (rows_from 1 all ++ last ∷ []) (levels_have 1 all (last ∷ []) (h, tt)))

-- a level above the lowest is named
named_is : (level : ℕ) → 1 < level → names_level level ≡ says (level_row level) ∷ []
named_is zero h = absurd (omega (arith, h))
named_is (suc zero) h = absurd (omega (arith, h))
named_is (suc (suc n)) h = refl

pub named_does : {A : Type 0} (level : ℕ) (old new : World) (r : Result A Stop) → 1 < level → Does (says (level_row level) ∷ []) old new r → Does (names_level level) old new r
named_does level old new r above d = subst (λ (es : List Effect). Does es old new r) (sym (named_is level above)) d
