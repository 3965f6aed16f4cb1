-- Groups and their texts are one to one.
use Rattle.std.proofs.lemmas.List.{take_rest}
use Rattle.std.proofs.Common.{append-nil, take, drop, get_or, ◌-◌, ◌≡◌, ℕ, ◌+◌, ◌<◌, ◌≤◌, ◌==◌, Bool, true, false, cond, ◌&&◌, nat_le, List, [], ◌∷◌, ◌++◌, length, map, Option, None, Some, Result, Ok, Err, refl, sym, ap, ◌∙◌, subst, arith}
use Rattle.std.specs.Prelude.{option_map, flat_map, IsTrue}
use Rattle.std.specs.Result.{result_ok}
use Rattle.std.specs.List.{join_with_byte, list_all, AllByRecursion, onto_first}
use Rattle.std.proofs.lemmas.Bool.{and_parts, or_parts}
use Rattle.std.proofs.lemmas.Bool.Decides.{nat_tests}
use Rattle.std.proofs.lemmas.List.Splits.{join_with_byte-slice_split}
use Rattle.ss_text.specs.Texts.{Text, Row}
use Rattle.tab_lines.specs.Parts.{has, parts_at}
use Rattle.tab_lines.specs.Spelling.{escaped, spell, unspell}
use Rattle.tab_lines.proofs.PartLemmas.{parts_first, one_part}
use Rattle.tab_lines.proofs.SpellingLemmas.{unspell-spell, spell-unspell}
use Rattle.schema_model.specs.declared.change.Change.{Change}
use Rattle.schema_model.specs.declared.change.Change.TheVariants.{Insert, Delete, AddAttribute, DropAttribute, RenameAttribute, CreateRelation, DropRelation, RenameRelation, CreateDatabase, DropDatabase, RenameDatabase}
use Rattle.schema_model.specs.Changes.{is_well_formed}
use Rattle.schema_model.specs.Reading.{Read, change_of, line_of}
use Rattle.schema_model.proofs.LineLemmas.{line_is, read_back}
use Rattle.change_journal.specs.Spelled.{Group, spelled, group_text, said_by_row, said_by_line, put_first, said_by_lines, group_of, IsSpellable}

-- a change's line has a field
pub some_field : (change : Change) → 0 < length (line_of change)
some_field (Insert db rel row) = omega arith
some_field (Delete db rel row) = omega arith
some_field (AddAttribute db rel name fill) = omega arith
some_field (DropAttribute db rel name) = omega arith
some_field (RenameAttribute db rel name to) = omega arith
some_field (CreateRelation db rel attributes) = omega arith
some_field (DropRelation db rel) = omega arith
some_field (RenameRelation db rel to) = omega arith
some_field (CreateDatabase db) = omega arith
some_field (DropDatabase db) = omega arith
some_field (RenameDatabase db to) = omega arith

-- a line that spells a change is its spelling
pub line_spelled : (line : List ℕ) (change : Change) → has 10 line ≡ false → said_by_line line ≡ Some change → (line ≡ spelled change) × IsTrue (is_well_formed change)
line_spelled line change clear e = by_row (unspell line) refl e
  where
    by_read : (row : Row) → unspell line ≡ Ok row → (r : Read) → change_of row ≡ r → result_ok r ≡ Some change → (line ≡ spelled change) × IsTrue (is_well_formed change)
    by_read row is (Err fault) h e = absurd (cc)
    by_read row is (Ok read) h e =
        let same : read ≡ change = cc in
        let back = line_is row change (h ∙ ap Ok same) in
        (spell-unspell line row clear is ∙ ap spell (sym back.0), back.1)

    by_row : (r : Result Row ℕ) → unspell line ≡ r → said_by_row r ≡ Some change → (line ≡ spelled change) × IsTrue (is_well_formed change)
    by_row (Err at) is e = absurd (cc)
    by_row (Ok row) is e = by_read row is (change_of row) refl e

-- the parts between LFs have none
pub parts_clear : (bytes : List ℕ) → AllByRecursion (λ (line : List ℕ). has 10 line ≡ false) (parts_at 10 bytes)
parts_clear [] = (refl, tt)
parts_clear (b ∷ bytes) = by_byte (b == 10) refl (parts_at 10 bytes) (parts_clear bytes)
  where
    by_byte : (t : Bool) → (b == 10) ≡ t → (parts : List (List ℕ)) → AllByRecursion (λ (line : List ℕ). has 10 line ≡ false) parts
        → AllByRecursion (λ (line : List ℕ). has 10 line ≡ false) (cond t ([] ∷ parts) (onto_first b parts))
    by_byte true is parts clear = (refl, clear)
    by_byte false is [] clear = (rw is refl, tt)
    by_byte false is (part ∷ parts) clear = (rw (is, clear.0) refl, clear.1)

pub lines_spelled : (lines : List (List ℕ)) (group : Group) → AllByRecursion (λ (line : List ℕ). has 10 line ≡ false) lines → said_by_lines lines ≡ Some group
    → (lines ≡ map spelled group) × IsTrue (list_all is_well_formed group)
lines_spelled [] [] clear e = (refl, refl)
lines_spelled [] (change ∷ group) clear e = absurd (cc)
lines_spelled (line ∷ lines) group clear e = by_first (λ changes h. lines_spelled lines changes clear.1 h) (said_by_line line) refl e
  where
    by_rest : ((changes : Group) → said_by_lines lines ≡ Some changes → (lines ≡ map spelled changes) × IsTrue (list_all is_well_formed changes)) → (change : Change) → said_by_line line ≡ Some change → (o : Option Group) → said_by_lines lines ≡ o → option_map (λ changes. change ∷ changes) o ≡ Some group
        → (line ∷ lines ≡ map spelled group) × IsTrue (list_all is_well_formed group)
    by_rest below change is None more e = absurd (cc)
    by_rest below change is (Some changes) more e =
        let same : change ∷ changes ≡ group = cc in
        let first = line_spelled line change clear.0 is in
        let rest = below changes more in
        subst (λ (g : Group). (line ∷ lines ≡ map spelled g) × IsTrue (list_all is_well_formed g)) same
        (ap (λ (l : List ℕ). l ∷ lines) first.0 ∙ ap (λ (ls : List (List ℕ)). spelled change ∷ ls) rest.0, both (is_well_formed change) (list_all is_well_formed changes) first.1 rest.1)
      where
        both : (a b : Bool) → IsTrue a → IsTrue b → IsTrue (a && b)
        both true b h k = k
        both false b h k = absurd (cc)

    by_first : ((changes : Group) → said_by_lines lines ≡ Some changes → (lines ≡ map spelled changes) × IsTrue (list_all is_well_formed changes)) → (o : Option Change) → said_by_line line ≡ o → put_first o (said_by_lines lines) ≡ Some group → (line ∷ lines ≡ map spelled group) × IsTrue (list_all is_well_formed group)
    by_first below None is e = absurd (cc)
    by_first below (Some change) is e = by_rest below change is (said_by_lines lines) refl e

-- Bytes that are the text of a group are no other text of it.
pub text_is : (text : List ℕ) (group : Group) → group_of text ≡ Some group → text ≡ group_text group
text_is text group e =
    let lines = lines_spelled (parts_at 10 text) group (parts_clear text) e in
    sym (join_with_byte-slice_split 10 text) ∙ ap (join_with_byte 10) lines.0

-- no LF is in what is spelled
has_append : (xs ys : List ℕ) → has 10 xs ≡ false → has 10 ys ≡ false → has 10 (xs ++ ys) ≡ false
has_append [] ys h k = k
has_append (x ∷ xs) ys h k = let p = or_parts (x == 10) (has 10 xs) h in rw (p.0, has_append xs ys p.1 k) refl

escaped_clear : (b : ℕ) → has 10 (escaped b) ≡ false
escaped_clear b = grind (arith, nat_tests)

field_clear : (t : Text) → has 10 (flat_map escaped t) ≡ false
field_clear [] = refl
field_clear (b ∷ bs) = has_append (escaped b) (flat_map escaped bs) (escaped_clear b) (field_clear bs)

spell_clear : (row : Row) → has 10 (spell row) ≡ false
spell_clear [] = refl
spell_clear (t ∷ []) = field_clear t
spell_clear (t ∷ u ∷ us) = has_append (flat_map escaped t) (9 ∷ spell (u ∷ us)) (field_clear t) (spell_clear (u ∷ us))

said_spelled : (change : Change) → IsTrue (is_well_formed change) → said_by_line (spelled change) ≡ Some change
said_spelled change h = rw (unspell-spell (line_of change) (some_field change), read_back change h) refl

parts_spelled : (change : Change) (group : Group) → parts_at 10 (group_text (change ∷ group)) ≡ map spelled (change ∷ group)
parts_spelled change [] = one_part 10 (spelled change) (spell_clear (line_of change))
parts_spelled change (next ∷ group) =
    parts_first 10 (spelled change) (group_text (next ∷ group)) (spell_clear (line_of change)) ∙ ap (λ (ls : List (List ℕ)). spelled change ∷ ls) (parts_spelled next group)

said_all : (group : Group) → IsTrue (list_all is_well_formed group) → said_by_lines (map spelled group) ≡ Some group
said_all [] h = refl
said_all (change ∷ group) h =
    let p = parts (is_well_formed change) (list_all is_well_formed group) h in
    rw (said_spelled change p.0, said_all group p.1) refl
  where
    parts : (a b : Bool) → IsTrue (a && b) → IsTrue a × IsTrue b
    parts true b h = (refl, h)
    parts false b h = absurd (cc)

-- The text of a group is read as the group.
pub group_read : (group : Group) → IsSpellable group → group_of (group_text group) ≡ Some group
group_read [] h = absurd (cc)
group_read (change ∷ group) h = rw (parts_spelled change group) (said_all (change ∷ group) (and_parts (nat_le 1 (length (change ∷ group))) (list_all is_well_formed (change ∷ group)) h).1)

-- the lines of a group behind its first, each with an LF before it
abbrev pub fed : Group → List ℕ
fed [] = []
fed (change ∷ group) = 10 ∷ (spelled change ++ fed group)

text_fed : (change : Change) (group : Group) → group_text (change ∷ group) ≡ spelled change ++ fed group
text_fed change [] = sym (append-nil (spelled change))
text_fed change (next ∷ group) = ap (λ (rest : List ℕ). spelled change ++ 10 ∷ rest) (text_fed next group)

-- a text begins with the line of the first change
pub group_begins : (group : Group) (first : Change) → 1 ≤ length group → first ≡ get_or group 0 first → spelled first ++ fed (take (length group - 1) (drop 1 group)) ≡ group_text group
group_begins [] first some is = absurd (omega arith)
group_begins (change ∷ group) first some is = rw (take_rest (change ∷ group) 1, is) (sym (text_fed change group))
