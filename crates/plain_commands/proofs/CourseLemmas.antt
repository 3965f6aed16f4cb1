-- Lines that were all taken, one after the other: the script that they say was applied.
use Rattle.std.proofs.Common.{◌≡◌, ◌+◌, ◌∷◌, ◌++◌, ◌∙◌, [], ℕ, suc, List, Bool, true, false, Option, Some, refl, sym, ap, subst, length, map, arith}
use Rattle.std.specs.Prelude.{◌||◌, Result, Ok, Err}
use Rattle.std.specs.List.{list_any}
use Rattle.std.proofs.lemmas.List.Folds.{list_any-append}
use Rattle.ss_text.specs.Texts.{Text, Row, text_cmp}
use Rattle.ss_text.specs.Ascending.{with_element, ascending}
use Rattle.ss_text.proofs.KeyLemmas.{text_order}
use Rattle.ss_text.proofs.SetLemmas.{ascending_of_same}
use Rattle.tab_lines.specs.Spelling.{unspell}
use Rattle.outside.specs.Effects.{Effect}
use Rattle.course.specs.declared.status.Verdict.{Verdict}
use Rattle.course.specs.declared.status.Verdict.TheVariants as verdict
use Rattle.course.specs.Answering.{Reply, Continues, Finishes, prefixed, follow, ending, course}
use Rattle.flow_law.specs.declared.line.TableLine.{TableLine}
use Rattle.flow_law.specs.Lines.{label_of}
use Rattle.flow_law.specs.Tables.{TablesValue}
use Rattle.change_script.specs.declared.applying.ApplyFault.{ApplyFault}
use Rattle.change_script.specs.declared.reading.ScriptLine.{ScriptLine}
use Rattle.change_script.specs.declared.reading.ScriptLine.TheVariants.{Change, Passed}
use Rattle.change_script.specs.declared.reading.ScriptFault.{ScriptFault}
use Rattle.change_script.specs.Reading.{script_line_of}
use Rattle.change_script.specs.Applied.{applied, applied_behind, applied_line}
use Rattle.plain_commands.specs.Applying.{ApplyState, with_line, by_applying, by_reading, by_spelling, taken, reply, step, finish}
use Rattle.ss_print.specs.Printing.{refuses}
use Rattle.plain_commands.specs.Scripts.{said_by, said_as, both, script_said}

-- from a state these lines of a script led to another
pub record Applies (s : ApplyState) (script : List TableLine) (u : ApplyState) : Type 0 where
  pub tables : applied s.shape s.tables script ≡ Ok u.tables
  pub named : (labels : List Text) → s.named ≡ ascending text_cmp labels → u.named ≡ ascending text_cmp (map label_of script ++ labels)
  pub lines : u.lines ≡ s.lines + length script
  pub view_db : u.view_db ≡ s.view_db
  pub shape : u.shape ≡ s.shape
  pub before : u.before ≡ s.before

applies_none : (s : ApplyState) → Applies s [] s
applies_none s = record { tables = refl; named = λ labels h. h; lines = omega arith; view_db = refl; shape = refl; before = refl }

one_more : (a b c : ℕ) → c ≡ a + 1 + b → c ≡ a + suc b
one_more a b c e = omega arith

or_moved : (a b c : Bool) → (b || (a || c)) ≡ (a || (b || c))
or_moved true true c = refl
or_moved true false c = refl
or_moved false b c = refl

-- a label that stands elsewhere is named all the same
named_moved : (label : Text) (xs ys : List Text) → ascending text_cmp (xs ++ label ∷ ys) ≡ ascending text_cmp (label ∷ (xs ++ ys))
named_moved label xs ys =
    ascending_of_same text_order.total text_order.same (xs ++ label ∷ ys) (label ∷ (xs ++ ys))
    (record { same = λ p. list_any-append p xs (label ∷ ys) ∙ or_moved (p label) (list_any p xs) (list_any p ys) ∙ ap (λ (b : Bool). p label || b) (sym (list_any-append p xs ys)) })

-- one line of a script, and then more
applies_more : (s : ApplyState) (line : TableLine) (ts : TablesValue) (script : List TableLine) (u : ApplyState) → applied_line s.shape s.tables line ≡ Ok ts → Applies (with_line s line ts) script u → Applies s (line ∷ script) u
applies_more s line ts script u one h = record {
  tables = ap (λ (r : Result TablesValue ApplyFault). applied_behind s.shape r script) one ∙ h.tables;
  named = λ labels e. h.named (label_of line ∷ labels) (ap (with_element text_cmp (label_of line)) e) ∙ named_moved (label_of line) (map label_of script) labels;
  lines = one_more s.lines (length script) u.lines h.lines;
  view_db = h.view_db;
  shape = h.shape;
  before = h.before;
}

-- a line of the input that was taken
pub record Took (s : ApplyState) (line : List ℕ) (u : ApplyState) : Type 0 where
  pub script : List TableLine
  pub said : said_as (unspell line) ≡ Some script
  pub applies : (rest : List TableLine) (v : ApplyState) → Applies u rest v → Applies s (script ++ rest) v

took_by_applying : (s u : ApplyState) (line : TableLine) (r : Result TablesValue ApplyFault) → applied_line s.shape s.tables line ≡ r → by_applying s line r ≡ Ok u
    → (rest : List TableLine) (v : ApplyState) → Applies u rest v → Applies s (line ∷ rest) v
took_by_applying s u line (Ok ts) e is rest v h = let same : with_line s line ts ≡ u = cc is in applies_more s line ts rest v e (subst (λ (x : ApplyState). Applies x rest v) (sym same) h)
took_by_applying s u line (Err f) e is rest v h = absurd (cc)

took_by_reading : (s u : ApplyState) (bytes : List ℕ) (row : Row) (r : Result ScriptLine ScriptFault) → script_line_of row ≡ r → by_reading s row r ≡ Ok u → said_as (unspell bytes) ≡ said_by r → Took s bytes u
took_by_reading s u bytes row (Ok Passed) e is said = let same : s ≡ u = cc is in record { script = []; said = said; applies = λ rest v h. subst (λ (x : ApplyState). Applies x rest v) (sym same) h }
took_by_reading s u bytes row (Ok (Change line)) e is said = record { script = line ∷ []; said = said; applies = took_by_applying s u line (applied_line s.shape s.tables line) refl is }
took_by_reading s u bytes row (Err f) e is said = absurd (cc)

took_by_spelling : (s u : ApplyState) (bytes : List ℕ) (r : Result Row ℕ) → unspell bytes ≡ r → by_spelling s r ≡ Ok u → Took s bytes u
took_by_spelling s u bytes (Ok row) e is = took_by_reading s u bytes row (script_line_of row) refl is (ap said_as e)
took_by_spelling s u bytes (Err at) e is = absurd (cc)

line_took : (s u : ApplyState) (bytes : List ℕ) → taken s bytes ≡ Ok u → Took s bytes u
line_took s u bytes is = took_by_spelling s u bytes (unspell bytes) refl is

-- all lines were taken, or the run was refused
pub record AllTook (s : ApplyState) (lines : List (List ℕ)) (u : ApplyState) : Type 0 where
  pub script : List TableLine
  pub said : script_said lines ≡ Some script
  pub applies : Applies s script u

both_some : (a b : Option (List TableLine)) (x y : List TableLine) → a ≡ Some x → b ≡ Some y → both a b ≡ Some (x ++ y)
both_some a b x y e f = rw (e, f) refl

halted : (lines : List (List ℕ)) (es : List Effect) (v : Verdict) → follow step lines (Finishes es v) ≡ Finishes es v
halted [] es v = refl
halted (line ∷ lines) es v = halted lines es v

no_halt_at : (s : ApplyState) (fs : List Effect) (v : Verdict) → Continues [] s ≡ Finishes fs v → ⊥
no_halt_at s fs v e = cc

not_done : (v : Verdict) → v ≡ verdict.BadCatalogue → v ≡ verdict.Done → ⊥
not_done v e f = cc (e, f)

no_halt : (es : List Effect) (v : Verdict) (fs : List Effect) (u : ApplyState) → Finishes es v ≡ Continues fs u → ⊥
no_halt es v fs u e = cc

-- what a run over lines comes to: it goes on with nothing done, or it was refused
pub went_on : (lines : List (List ℕ)) (s : ApplyState) (fs : List Effect) (u : ApplyState) → follow step lines (Continues [] s) ≡ Continues fs u → (fs ≡ []) × AllTook s lines u
went_on [] s fs u e =
    let same : s ≡ u = cc e in
    let none : fs ≡ [] = cc e in
    (none, record { script = []; said = refl; applies = subst (λ (x : ApplyState). Applies s [] x) same (applies_none s) })
went_on (line ∷ lines) s fs u e = by_taken (taken s line) refl e (λ v f. went_on lines v fs u f)
  where
    by_taken : (r : Result ApplyState Row) → taken s line ≡ r → follow step lines (prefixed [] (reply r)) ≡ Continues fs u
        → ((v : ApplyState) → follow step lines (Continues [] v) ≡ Continues fs u → (fs ≡ []) × AllTook v lines u) → (fs ≡ []) × AllTook s (line ∷ lines) u
    by_taken (Ok v) is f rest =
        let all = rest v f in
        let one = line_took s v line is in (
          all.0,
          record {
            script = one.script ++ all.1.script;
            said = both_some (said_as (unspell line)) (script_said lines) one.script all.1.script one.said all.1.said;
            applies = one.applies all.1.script u all.1.applies;
          },
        )
    by_taken (Err fields) is f rest = absurd (no_halt (refuses fields ∷ []) verdict.BadCatalogue fs u (sym (halted lines (refuses fields ∷ []) verdict.BadCatalogue) ∙ f))

-- one run that halts halts once
halt_is : (fs gs : List Effect) (v w : Verdict) (r : Reply ApplyState) → r ≡ Finishes fs v → r ≡ Finishes gs w → (v ≡ w) × (fs ≡ gs)
halt_is fs gs v w r e f = (cc (e, f), cc (e, f))

-- a run that halts was refused
pub halts_so : (lines : List (List ℕ)) (s : ApplyState) (fs : List Effect) (v : Verdict) → follow step lines (Continues [] s) ≡ Finishes fs v → (v ≡ verdict.BadCatalogue) × ((fields : Row) × (fs ≡ refuses fields ∷ []))
halts_so [] s fs v e = absurd (no_halt_at s fs v e)
halts_so (line ∷ lines) s fs v e = by_taken (taken s line) e (λ u f. halts_so lines u fs v f)
  where
    by_taken : (r : Result ApplyState Row) → follow step lines (prefixed [] (reply r)) ≡ Finishes fs v
        → ((u : ApplyState) → follow step lines (Continues [] u) ≡ Finishes fs v → (v ≡ verdict.BadCatalogue) × ((fields : Row) × (fs ≡ refuses fields ∷ []))) → (v ≡ verdict.BadCatalogue) × ((fields : Row) × (fs ≡ refuses fields ∷ []))
    by_taken (Ok u) f rest = rest u f
    by_taken (Err fields) f rest =
        let same = halt_is fs (refuses fields ∷ []) v verdict.BadCatalogue (follow step lines (Finishes (refuses fields ∷ []) verdict.BadCatalogue)) f (halted lines (refuses fields ∷ []) verdict.BadCatalogue) in
        (same.0, (fields, same.1))

-- a run that was done took all lines, and did what its end does
pub done_took : (s : ApplyState) (lines : List (List ℕ)) → (course step finish s lines).status ≡ verdict.Done → (u : ApplyState) × AllTook s lines u × ((course step finish s lines).effects ≡ (finish u).effects)
done_took s lines done = by_reply (follow step lines (Continues [] s)) refl done
  where
    by_reply : (r : Reply ApplyState) → follow step lines (Continues [] s) ≡ r → (ending finish r).status ≡ verdict.Done → (u : ApplyState) × AllTook s lines u × ((ending finish r).effects ≡ (finish u).effects)
    by_reply (Continues fs u) e done = let went = went_on lines s fs u e in (u, went.1, ap (λ (es : List Effect). es ++ (finish u).effects) went.0)
    by_reply (Finishes fs v) e done = absurd (not_done v (halts_so lines s fs v e).0 done)
