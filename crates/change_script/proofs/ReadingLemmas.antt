-- A printed line is read as itself, and what is read is printed as it was.
use Rattle.std.proofs.Common.{◌≡◌, ◌≢◌, ◌↔◌, Bool, true, false, cond, map, List, [], ◌∷◌, Option, Some, None, refl, sym, subst, ◌||◌}
use Rattle.std.specs.Prelude.{Ok, Err, find}
use Rattle.std.specs.List.{AllByRecursion}
use Rattle.std.specs.Option.{option_map_or}
use Rattle.ss_text.specs.Texts.{Text, Row, text_eq, is_in}
use Rattle.ss_text.proofs.KeyLemmas.{text_order, equal_is}
use Rattle.flow_law.specs.declared.line.TableLine.{TableLine}
use Rattle.flow_law.specs.declared.line.TableLine.TheVariants.{TableMinus, TablePlus, RowMinus, ColumnMinus, ColumnPlus, RowPlus, Cell}
use Rattle.change_script.specs.declared.verb.Verb.{Verb}
use Rattle.change_script.specs.declared.verb.Verb.TheVariants as verb
use Rattle.change_script.specs.declared.reading.ScriptLine.TheVariants.{Change, Passed}
use Rattle.change_script.specs.declared.reading.ScriptFault.TheVariants.{UnknownVerb}
use Rattle.change_script.specs.Printed.{verb_name, printed}
use Rattle.change_script.specs.Reading.{HasKeyText, Read, all_verbs, verb_of, table_said, column_said, row_said, cell_said, said_by, script_line_of, passed_names}

pub line_read : (line : TableLine) → HasKeyText line → script_line_of (printed line) ≡ Ok (Change line)
line_read (TableMinus label) h = refl
line_read (TablePlus label) h = refl
line_read (RowMinus label []) h = absurd (h refl)
line_read (RowMinus label (first ∷ rest)) h = refl
line_read (ColumnMinus label column) h = refl
line_read (ColumnPlus label column) h = refl
line_read (RowPlus label []) h = absurd (h refl)
line_read (RowPlus label (first ∷ rest)) h = refl
line_read (Cell label column value []) h = absurd (h refl)
line_read (Cell label column value (first ∷ rest)) h = refl

find_passes : {A : Type 0} (p : A → Bool) (xs : List A) (x : A) → find p xs ≡ Some x → p x ≡ true
find_passes p [] x e = absurd (cc)
find_passes p (y ∷ ys) x e = by_test (p y) refl (find_passes p ys x) e
  where
    by_test : (b : Bool) → p y ≡ b → (find p ys ≡ Some x → p x ≡ true) → cond b (Some y) (find p ys) ≡ Some x → p x ≡ true
    by_test true h rest e = let same : y ≡ x = cc in subst (λ z. p z ≡ true) same h
    by_test false h rest e = rest e

same_text : (a b : Text) → text_eq a b ≡ true → a ≡ b
same_text a b e = equal_is text_order a b e

verb_spelled : (t : Text) (v : Verb) → verb_of t ≡ Some v → t ≡ verb_name v
verb_spelled t v e = same_text t (verb_name v) (find_passes (λ w. text_eq t (verb_name w)) all_verbs v e)

-- the fields of a line that is printed so
abbrev Back : Text → Row → TableLine → Type 0
Back name fields line = (printed line ≡ name ∷ fields) × HasKeyText line

table_back : (f : Text → TableLine) (name : Text) → ((label : Text) → Back name (label ∷ []) (f label)) → (fields : Row) (line : TableLine) → table_said f fields ≡ Ok (Change line) → Back name fields line
table_back f name is [] line e = absurd (cc)
table_back f name is (label ∷ []) line e = let same : f label ≡ line = cc in subst (Back name (label ∷ [])) same (is label)
table_back f name is (label ∷ more ∷ rest) line e = absurd (cc)

column_back : (f : Text → Text → TableLine) (name : Text) → ((label column : Text) → Back name (label ∷ column ∷ []) (f label column)) → (fields : Row) (line : TableLine) → column_said f fields ≡ Ok (Change line) → Back name fields line
column_back f name is [] line e = absurd (cc)
column_back f name is (label ∷ []) line e = absurd (cc)
column_back f name is (label ∷ column ∷ []) line e = let same : f label column ≡ line = cc in subst (Back name (label ∷ column ∷ [])) same (is label column)
column_back f name is (label ∷ column ∷ more ∷ rest) line e = absurd (cc)

row_back : (f : Text → Row → TableLine) (name : Text) → ((label first : Text) (rest : Row) → Back name (label ∷ first ∷ rest) (f label (first ∷ rest))) → (fields : Row) (line : TableLine) → row_said f fields ≡ Ok (Change line) → Back name fields line
row_back f name is [] line e = absurd (cc)
row_back f name is (label ∷ []) line e = absurd (cc)
row_back f name is (label ∷ first ∷ rest) line e = let same : f label (first ∷ rest) ≡ line = cc in subst (Back name (label ∷ first ∷ rest)) same (is label first rest)

some : {A : Type 0} (x : A) (xs : List A) → x ∷ xs ≢ []
some x xs e = absurd (cc)

cell_back : (fields : Row) (line : TableLine) → cell_said fields ≡ Ok (Change line) → Back (verb_name verb.Cell) fields line
cell_back [] line e = absurd (cc)
cell_back (label ∷ []) line e = absurd (cc)
cell_back (label ∷ column ∷ []) line e = absurd (cc)
cell_back (label ∷ column ∷ value ∷ []) line e = absurd (cc)
cell_back (label ∷ column ∷ value ∷ first ∷ rest) line e =
    let same : Cell label column value (first ∷ rest) ≡ line = cc in
    subst (Back (verb_name verb.Cell) (label ∷ column ∷ value ∷ first ∷ rest)) same (refl, some first rest)

said_back : (v : Verb) (fields : Row) (line : TableLine) → said_by v fields ≡ Ok (Change line) → Back (verb_name v) fields line
said_back verb.TableMinus fields line e = table_back TableMinus (verb_name verb.TableMinus) (λ label. (refl, tt)) fields line e
said_back verb.TablePlus fields line e = table_back TablePlus (verb_name verb.TablePlus) (λ label. (refl, tt)) fields line e
said_back verb.RowMinus fields line e = row_back RowMinus (verb_name verb.RowMinus) (λ label first rest. (refl, some first rest)) fields line e
said_back verb.ColumnMinus fields line e = column_back ColumnMinus (verb_name verb.ColumnMinus) (λ label column. (refl, tt)) fields line e
said_back verb.ColumnPlus fields line e = column_back ColumnPlus (verb_name verb.ColumnPlus) (λ label column. (refl, tt)) fields line e
said_back verb.RowPlus fields line e = row_back RowPlus (verb_name verb.RowPlus) (λ label first rest. (refl, some first rest)) fields line e
said_back verb.Cell fields line e = cell_back fields line e
said_back verb.Done fields line e = absurd (cc)
said_back verb.Refused fields line e = absurd (cc)
said_back verb.Synced fields line e = absurd (cc)
said_back verb.Begun fields line e = absurd (cc)
said_back verb.Held fields line e = absurd (cc)
said_back verb.Aborted fields line e = absurd (cc)

-- by the verb that the first field spells
by_verb : (name : Text) (fields : Row) {P : Type 0} (r : Read) → r ≢ Err UnknownVerb
    → ((v : Verb) → name ≡ verb_name v → said_by v fields ≡ r → P) → script_line_of (name ∷ fields) ≡ r → P
by_verb name fields {P} r known f e = spelled (verb_of name) refl e
  where
    spelled : (o : Option Verb) → verb_of name ≡ o → option_map_or (λ v. said_by v fields) o (Err UnknownVerb) ≡ r → P
    spelled None is e = absurd (known (sym e))
    spelled (Some v) is e = f v (verb_spelled name v is) e

pub line_printed : (row : Row) (line : TableLine) → script_line_of row ≡ Ok (Change line) → (printed line ≡ row) × HasKeyText line
line_printed [] line e = absurd (cc)
line_printed (name ∷ fields) line e =
    by_verb name fields {P = Back name fields line} (Ok (Change line)) (λ h. absurd (cc))
    (λ v is said. subst (λ n. Back n fields line) (sym is) (said_back v fields line said)) e

-- which verbs say nothing
no_table : (f : Text → TableLine) (fields : Row) → table_said f fields ≡ Ok Passed → ⊥
no_table f [] e = cc
no_table f (label ∷ []) e = cc
no_table f (label ∷ more ∷ rest) e = cc

no_column : (f : Text → Text → TableLine) (fields : Row) → column_said f fields ≡ Ok Passed → ⊥
no_column f [] e = cc
no_column f (label ∷ []) e = cc
no_column f (label ∷ column ∷ []) e = cc
no_column f (label ∷ column ∷ more ∷ rest) e = cc

no_row : (f : Text → Row → TableLine) (fields : Row) → row_said f fields ≡ Ok Passed → ⊥
no_row f [] e = cc
no_row f (label ∷ []) e = cc
no_row f (label ∷ first ∷ rest) e = cc

no_cell : (fields : Row) → cell_said fields ≡ Ok Passed → ⊥
no_cell [] e = cc
no_cell (label ∷ []) e = cc
no_cell (label ∷ column ∷ []) e = cc
no_cell (label ∷ column ∷ value ∷ []) e = cc
no_cell (label ∷ column ∷ value ∷ first ∷ rest) e = cc

said_passed : (v : Verb) (fields : Row) → said_by v fields ≡ Ok Passed → is_in (verb_name v) passed_names ≡ true
said_passed verb.TableMinus fields e = absurd (no_table TableMinus fields e)
said_passed verb.TablePlus fields e = absurd (no_table TablePlus fields e)
said_passed verb.RowMinus fields e = absurd (no_row RowMinus fields e)
said_passed verb.ColumnMinus fields e = absurd (no_column ColumnMinus fields e)
said_passed verb.ColumnPlus fields e = absurd (no_column ColumnPlus fields e)
said_passed verb.RowPlus fields e = absurd (no_row RowPlus fields e)
said_passed verb.Cell fields e = absurd (no_cell fields e)
said_passed verb.Done fields e = refl
said_passed verb.Refused fields e = refl
said_passed verb.Synced fields e = refl
said_passed verb.Begun fields e = refl
said_passed verb.Held fields e = refl
said_passed verb.Aborted fields e = refl

abbrev Passes : Row → Text → Type 0
Passes fields name = script_line_of (name ∷ fields) ≡ Ok Passed

passes_among : (name : Text) (fields : Row) (vs : List Verb) → AllByRecursion (λ v. Passes fields (verb_name v)) vs → is_in name (map verb_name vs) ≡ true → Passes fields name
passes_among name fields [] each h = absurd (cc)
passes_among name fields (v ∷ vs) each h = by_test (text_eq name (verb_name v)) refl (passes_among name fields vs each.1) h
  where
    by_test : (b : Bool) → text_eq name (verb_name v) ≡ b → (is_in name (map verb_name vs) ≡ true → Passes fields name) → (b || is_in name (map verb_name vs)) ≡ true → Passes fields name
    by_test true e rest h = subst (Passes fields) (sym (same_text name (verb_name v) e)) each.0
    by_test false e rest h = rest h

passes : (name : Text) (fields : Row) → is_in name passed_names ≡ true → Passes fields name
passes name fields h =
    passes_among name fields (verb.Done ∷ verb.Refused ∷ verb.Synced ∷ verb.Begun ∷ verb.Held ∷ verb.Aborted ∷ []) (refl, (refl, (refl, (refl, (refl, (refl, tt)))))) h

pub line_passed : (name : Text) (fields : Row) → (script_line_of (name ∷ fields) ≡ Ok Passed) ↔ (is_in name passed_names ≡ true)
line_passed name fields = (
  λ e. by_verb name fields {P = is_in name passed_names ≡ true} (Ok Passed) (λ h. absurd (cc)) (λ v is said. subst (λ n. is_in n passed_names ≡ true) (sym is) (said_passed v fields said)) e,
  λ h. passes name fields h,
)
