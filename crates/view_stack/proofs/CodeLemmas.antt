-- What the code of lifted lines finds and makes.
use Rattle.std.proofs.Common.{Bor, ◌≡◌, ◌<◌, ◌≤◌, ◌+◌, ◌∙◌, ◌∷◌, ◌++◌, [], ℕ, Bool, true, false, cond, List, Option, Some, None, refl, sym, ap, subst, zero, suc, length, map, take, drop, get_or, slice_index_or, arith, append-nil}
use Rattle.std.specs.Prelude.{nat_lt, position, slice_get, unwrap_or, is_some, option_and_then, IsTrue}
use Rattle.std.specs.List.{AllByRecursion, position_or_len}
use Rattle.std.specs.Option.{option_copied}
use Rattle.std.proofs.lemmas.Bool.{le-leb}
use Rattle.std.proofs.lemmas.List.{take_more, map-append}
use Rattle.std.proofs.lemmas.Option.{unwrap_or-slice_get}
use Rattle.ss_text.specs.Texts.{Text, Row, text_eq, is_in}
use Rattle.flow_law.specs.Tables.{TableValue, TablesValue, cell_in}
use Rattle.flow_law.specs.Lines.{label_of}
use Rattle.flow_law.specs.declared.line.TableLine.{TableLine}
use Rattle.flow_law.specs.declared.line.TableLine.TheVariants.{TableMinus, TablePlus, RowMinus, ColumnMinus, ColumnPlus, RowPlus, Cell}
use Rattle.schema_model.specs.Catalogue.{CatalogueValue}
use Rattle.schema_model.specs.Changes.{is_well_formed}
use Rattle.schema_model.specs.declared.change.Change.{Change}
use Rattle.view_meaning.specs.Meaning.{given}
use Rattle.view_meaning.proofs.OrderLemmas.{one_more, first_there, one_later}
use Rattle.view_stack.specs.Lifted.{lifted_line, lifted_behind, lifted, goes_on, row_of, names_of, names_after, table_at}
use Rattle.view_stack.specs.Records.{text_in, text_after}
use Rattle.view_stack.proofs.StandsLemmas.{text_is}

-- ---- places of names
place_there : (name : Text) (ns : Row) → is_in name ns ≡ is_some (position (text_eq name) ns)
place_there name [] = refl
place_there name (x ∷ ns) = by_first (text_eq name x) refl (place_there name ns)
  where
    later : (b : Bool) (p : ℕ) → is_some (cond b (Some p) None) ≡ is_some (cond b (Some (suc p)) None)
    later true p = refl
    later false p = refl

    by_first : (b : Bool) → text_eq name x ≡ b → is_in name ns ≡ is_some (position (text_eq name) ns) → is_in name (x ∷ ns) ≡ is_some (position (text_eq name) (x ∷ ns))
    by_first true e rest = rw (e, first_there (length ns)) refl
    by_first false e rest =
        rw (e, one_more, one_later (position_or_len (text_eq name) ns) (length ns)) (rest ∙ later (nat_lt (position_or_len (text_eq name) ns) (length ns)) (position_or_len (text_eq name) ns))

-- the text under a constant column, and under another
pub text_there : (constants columns key cells : Row) (name : Text) (p : ℕ) (o : Option Text) → Some p ≡ position (text_eq name) constants → o ≡ slice_get key p → unwrap_or o [] ≡ text_in constants columns key cells name
text_there constants columns key cells name p o place found =
    let there : is_in name constants ≡ true = place_there name constants ∙ ap is_some (sym place) in
    ap given found ∙ ap (λ (q : Option ℕ). given (option_and_then (slice_get key) q)) place ∙ text_is constants key name
    ∙ sym (ap (λ (b : Bool). cond b (cell_in constants key name) (cell_in columns cells name)) there)

pub text_elsewhere : (constants columns key cells : Row) (name t : Text) → None ≡ position (text_eq name) constants → t ≡ cell_in columns cells name → t ≡ text_in constants columns key cells name
text_elsewhere constants columns key cells name t place found =
    let missing : is_in name constants ≡ false = place_there name constants ∙ ap is_some (sym place) in
    found ∙ sym (ap (λ (b : Bool). cond b (cell_in constants key name) (cell_in columns cells name)) missing)

pub cell_found : (cells : Row) (k : ℕ) (o : Option Text) → o ≡ slice_get cells k → unwrap_or o [] ≡ slice_index_or cells k []
cell_found cells k o found = ap (λ (q : Option Text). unwrap_or q []) found ∙ unwrap_or-slice_get cells k []

-- ---- cells of one row
abbrev pub seen : List (Bor Text × Bor Text) → List (Text × Text)
seen cells = map (λ c. (c.0.now, c.1.now)) cells

last_more : (name : Text) (cells : List (Text × Text)) (x : Text × Text) (text : Text) → text_after name (cells ++ x ∷ []) text ≡ cond (text_eq name x.0) x.1 (text_after name cells text)
last_more name [] x text = refl
last_more name (y ∷ cells) x text = last_more name cells x (cond (text_eq name y.0) y.1 text)

-- the last value of a column, with one cell more
pub value_more : (name : Text) (cells : List (Bor Text × Bor Text)) (i : ℕ) (x : Bor Text × Bor Text) (last next : Option (Bor Text)) (b : Bool) → i < length cells → x ≡ get_or cells i x
    → ((text : Text) → unwrap_or (option_copied last) text ≡ text_after name (seen (take i cells)) text) → text_eq name x.0.now ≡ b → next ≡ cond b (Some x.1) last
    → (text : Text) → unwrap_or (option_copied next) text ≡ text_after name (seen (take (i + 1) cells)) text
value_more name cells i x last next b lt is so_far same made text =
    ap (λ (o : Option (Bor Text)). unwrap_or (option_copied o) text) made
    ∙ by_test b ∙ sym (ap (λ (t : Bool). cond t x.1.now (text_after name (seen (take i cells)) text)) same)
    ∙ sym (last_more name (seen (take i cells)) (x.0.now, x.1.now) text)
    ∙ ap (λ (cs : List (Text × Text)). text_after name cs text)
    (sym (map-append (λ (c : Bor Text × Bor Text). (c.0.now, c.1.now)) (take i cells) (x ∷ [])) ∙ ap seen (ap (λ (y : Bor Text × Bor Text). take i cells ++ y ∷ []) is ∙ sym (take_more cells i x lt)))
  where
    by_test : (t : Bool) → unwrap_or (option_copied (cond t (Some x.1) last)) text ≡ cond t x.1.now (text_after name (seen (take i cells)) text)
    by_test true = refl
    by_test false = so_far text

-- ---- the changes of lines
module _ (db : Text) (constants : Row) where
  module _ (ts : TablesValue) (c : CatalogueValue) where
    -- no line is left
    pub all_lifted : (lines : List TableLine) (left row : Option (Text × Row)) (changes : List Change) (i : ℕ) → length lines ≤ i → changes ++ lifted_behind db constants ts c left row (drop i lines) ≡ lifted db constants ts c lines
        → changes ≡ lifted db constants ts c lines
    all_lifted lines left row changes i done so_far =
        sym (append-nil changes) ∙ ap (λ (ls : List TableLine). changes ++ lifted_behind db constants ts c left row ls) (sym (none lines i done)) ∙ so_far
      where
        none : (xs : List TableLine) (n : ℕ) → length xs ≤ n → drop n xs ≡ []
        none [] zero h = refl
        none [] (suc n) h = refl
        none (x ∷ xs) zero h = absurd (omega arith)
        none (x ∷ xs) (suc n) h = none xs n (omega arith)

    -- a relation that is created has an attribute
    line_well_formed : 1 ≤ length constants → (t : TableValue) (names : Row) (line : TableLine) (later : List TableLine) → AllByRecursion (λ (g : Change). IsTrue (is_well_formed g)) (lifted_line db constants t names line later)
    line_well_formed some t names (TableMinus l) later = (refl, tt)
    line_well_formed some t names (TablePlus l) later = (le-leb 1 (length constants) some, tt)
    line_well_formed some t names (RowMinus l k) later = (refl, tt)
    line_well_formed some t names (ColumnMinus l column) later = (refl, tt)
    line_well_formed some t names (ColumnPlus l column) later = (refl, tt)
    line_well_formed some t names (RowPlus l k) later = (refl, tt)
    line_well_formed some t names (Cell l column value k) later = (refl, (refl, tt))

    behind_well_formed : 1 ≤ length constants → (lines : List TableLine) (left row : Option (Text × Row)) → AllByRecursion (λ (g : Change). IsTrue (is_well_formed g)) (lifted_behind db constants ts c left row lines)
    behind_well_formed some [] left row = tt
    behind_well_formed some (line ∷ lines) left row =
        all_append (cond (goes_on row line) [] (lifted_line db constants (table_at ts (label_of line)) names line lines)) (lifted_behind db constants ts c (Some (label_of line, names_after constants line names)) (row_of line) lines)
        (unless (goes_on row line)) (behind_well_formed some lines (Some (label_of line, names_after constants line names)) (row_of line))
      where
        names : Row
        names = names_of c db left (label_of line)

        unless : (b : Bool) → AllByRecursion (λ (g : Change). IsTrue (is_well_formed g)) (cond b [] (lifted_line db constants (table_at ts (label_of line)) names line lines))
        unless true = tt
        unless false = line_well_formed some (table_at ts (label_of line)) names line lines

        all_append : (xs ys : List Change) → AllByRecursion (λ (g : Change). IsTrue (is_well_formed g)) xs → AllByRecursion (λ (g : Change). IsTrue (is_well_formed g)) ys → AllByRecursion (λ (g : Change). IsTrue (is_well_formed g)) (xs ++ ys)
        all_append [] ys h k = k
        all_append (x ∷ xs) ys h k = (h.0, all_append xs ys h.1 k)

    pub lifted_well_formed : 1 ≤ length constants → (lines : List TableLine) (changes : List Change) → changes ≡ lifted db constants ts c lines → AllByRecursion (λ (g : Change). IsTrue (is_well_formed g)) changes
    lifted_well_formed some lines changes are = subst (AllByRecursion (λ (g : Change). IsTrue (is_well_formed g))) (sym are) (behind_well_formed some lines None None)
