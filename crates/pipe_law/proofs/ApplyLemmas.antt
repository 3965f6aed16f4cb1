-- Lines that were applied to tables.
use Rattle.std.proofs.Common.{◌≡◌, ◌≢◌, ◌∷◌, ◌++◌, ◌∙◌, [], List, Option, Some, None, refl, sym, ap, suc, length}
use Rattle.std.specs.Prelude.{Result, Ok, Err, if◌then◌else◌}
use Rattle.std.specs.List.{AllByRecursion}
use Rattle.std.specs.Option.{option_or}
use Rattle.std.proofs.lemmas.Bool.{ne_eqb}
use Rattle.ss_text.specs.Texts.{Row}
use Rattle.flow_law.specs.declared.shape.Shape.{Shape}
use Rattle.flow_law.specs.declared.line.TableLine.{TableLine}
use Rattle.flow_law.specs.declared.line.TableLine.TheVariants.{TableMinus, TablePlus, RowMinus, ColumnMinus, ColumnPlus, RowPlus, Cell}
use Rattle.flow_law.specs.Lines.{after_line, after_lines}
use Rattle.flow_law.specs.Tables.{TablesValue}
use Rattle.change_script.specs.declared.applying.ApplyFault.{ApplyFault}
use Rattle.change_script.specs.declared.applying.ApplyFault.TheVariants.{KeyLength}
use Rattle.change_script.specs.Applied.{wrong_key, key_fault, line_fault, unless, applied_line, applied_behind, applied}
use Rattle.change_script.specs.Reading.{HasKeyText}
use Rattle.opened_view.specs.Answers.{Said, Tells, Scripts, Syncs}
use Rattle.upkeep_law.specs.Promises.{TakesBy}
use Rattle.pipe_law.proofs.TellingLemmas.{lines_in}

-- a key of as many texts as there are constant columns has a text
not_empty : (constants key : Row) → constants ≢ [] → wrong_key constants key ≡ None → key ≢ []
not_empty [] key some fits = absurd (some refl)
not_empty (c ∷ cs) (k ∷ ks) some fits = λ e. cc e
not_empty (c ∷ cs) [] some fits = absurd (none_some (sym (ap (λ b. if b then None else Some (KeyLength (suc (length cs)) 0)) (ne_eqb 0 (suc (length cs)) (λ z. cc z))) ∙ fits))
  where
    none_some : Some (KeyLength (suc (length cs)) 0) ≡ None → ⊥
    none_some e = cc e

has_key : (constants : Row) (line : TableLine) → constants ≢ [] → key_fault constants line ≡ None → HasKeyText line
has_key constants (TableMinus label) some fits = tt
has_key constants (TablePlus label) some fits = tt
has_key constants (RowMinus label key) some fits = not_empty constants key some fits
has_key constants (ColumnMinus label column) some fits = tt
has_key constants (ColumnPlus label column) some fits = tt
has_key constants (RowPlus label key) some fits = not_empty constants key some fits
has_key constants (Cell label column value key) some fits = not_empty constants key some fits

module _ (shape : Shape) where
  pub stays_refused : (e : ApplyFault) (lines : List TableLine) → applied_behind shape (Err e) lines ≡ Err e
  stays_refused e [] = refl
  stays_refused e (line ∷ lines) = refl

  -- the first line was not refused, and the others were applied behind it
  record AppliesFirst (old : TablesValue) (line : TableLine) (lines : List TableLine) (new : TablesValue) : Type 0 where
    sound : line_fault shape old line ≡ None
    rest : applied shape (after_line old line) lines ≡ Ok new

  applies_first : (old : TablesValue) (line : TableLine) (lines : List TableLine) (new : TablesValue) → applied shape old (line ∷ lines) ≡ Ok new → AppliesFirst old line lines new
  applies_first old line lines new e = by_fault (line_fault shape old line) refl e
    where
      by_fault : (o : Option ApplyFault) → line_fault shape old line ≡ o → applied_behind shape (unless o (after_line old line)) lines ≡ Ok new → AppliesFirst old line lines new
      by_fault None is e = record { sound = is; rest = e }
      by_fault (Some f) is e = absurd (error_ok (sym (stays_refused f lines) ∙ e))
        where
          error_ok : Err f ≡ Ok new → ⊥
          error_ok e = cc e

  none_first : (a b : Option ApplyFault) → option_or a b ≡ None → a ≡ None
  none_first None b e = refl
  none_first (Some f) b e = absurd (cc)

  pub keys_applied : (old new : TablesValue) (lines : List TableLine) → shape.constants ≢ [] → applied shape old lines ≡ Ok new → AllByRecursion HasKeyText lines
  keys_applied old new [] some e = tt
  keys_applied old new (line ∷ lines) some e =
      let first = applies_first old line lines new e in
      (has_key shape.constants line some (none_first (key_fault shape.constants line) _ first.sound), keys_applied (after_line old line) new lines some first.rest)

  same_tables : (old new : TablesValue) → ◌≡◌ {A = Result TablesValue ApplyFault} (Ok old) (Ok new) → old ≡ new
  same_tables old new e = cc e

  pub tables_applied : (old new : TablesValue) (lines : List TableLine) → applied shape old lines ≡ Ok new → after_lines old lines ≡ new
  tables_applied old new [] e = same_tables old new e
  tables_applied old new (line ∷ lines) e = tables_applied (after_line old line) new lines (applies_first old line lines new e).rest

  behind_both : (r : Result TablesValue ApplyFault) (xs ys : List TableLine) → applied_behind shape r (xs ++ ys) ≡ applied_behind shape (applied_behind shape r xs) ys
  behind_both r [] ys = refl
  behind_both (Err e) (x ∷ xs) ys = sym (stays_refused e ys)
  behind_both (Ok ts) (x ∷ xs) ys = behind_both (applied_line shape ts x) xs ys

  pub applied_both : (old mid new : TablesValue) (xs ys : List TableLine) → applied shape old xs ≡ Ok mid → applied shape mid ys ≡ Ok new → applied shape old (xs ++ ys) ≡ Ok new
  applied_both old mid new xs ys e f = behind_both (Ok old) xs ys ∙ ap (λ r. applied_behind shape r ys) e ∙ f

  -- what is said of the tables takes them along
  pub takes_along : (old new : TablesValue) (said : Said) → TakesBy shape old new said → applied shape old (lines_in said) ≡ Ok new
  takes_along old new Tells e = ap Ok (sym e)
  takes_along old new (Scripts lines) e = e
  takes_along old new Syncs e = ap Ok (sym e)
