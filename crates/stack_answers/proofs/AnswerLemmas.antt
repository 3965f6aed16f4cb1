-- From what each step of an answer did to what the line asks for.
use Rattle.std.proofs.Common.{◌≡◌, ◌≢◌, ℕ, suc, zero, ◌==◌, Bool, true, length, List, [], ◌∷◌, Option, None, Some, refl, sym, ap, ◌∙◌, subst}
use Rattle.std.specs.Prelude.{Result, Ok, Err, is_some, unwrap_or, option_map, if◌then◌else◌}
use Rattle.std.specs.Option.{option_map_or, option_or}
use Rattle.std.proofs.lemmas.Bool.{eqb-true, false_from_ne_true}
use Rattle.ss_text.specs.Texts.{Row}
use Rattle.tab_lines.specs.Spelling.{unspell, IsUnspelled}
use Rattle.tab_lines.specs.declared.spelling.LineFault.{LineFault}
use Rattle.tab_lines.specs.declared.spelling.LineFault.TheVariants.{BadEscape}
use Rattle.outside.specs.Effects.{Effect, World, contents, performed, Does}
use Rattle.outside.specs.declared.stop.Stop.{Stop}
use Rattle.schema_model.specs.Catalogue.{CatalogueValue}
use Rattle.schema_model.specs.Changes.{after_all}
use Rattle.schema_model.specs.Refusals.{fault, group_fault}
use Rattle.schema_model.specs.Reading.{IsAnswer, change_of}
use Rattle.schema_model.specs.declared.change.Change.{Change}
use Rattle.schema_model.specs.declared.change.ChangeFault.{ChangeFault}
use Rattle.schema_model.specs.declared.change.ChangeFault.TheVariants as change
use Rattle.schema_model.specs.declared.refusal.Refusal.{Refusal}
use Rattle.flow_law.specs.declared.line.TableLine.{TableLine}
use Rattle.change_draft.specs.Drafts.{DraftState}
use Rattle.view_session.specs.Session.{IsNotHeld}
use Rattle.view_session.specs.declared.fault.HoldRefused.{HoldRefused}
use Rattle.view_session.specs.declared.fault.HoldRefused.TheVariants as hold
use Rattle.ss_print.specs.Fields.{escape_fields, first_field, line_fields, group_broken_fields, open_group_fields}
use Rattle.ss_print.specs.Printing.{refuses, prints_held}
use Rattle.ss_print.specs.LevelLines.{refuses_at, prints_scripts}
use Rattle.opened_view.specs.declared.word.Word.{Word}
use Rattle.opened_view.specs.Answers.{word_in}
use Rattle.opened_view.specs.Steps.{IsHoldFieldsOf}
use Rattle.opened_view.proofs.AnswerLemmas.{unread, behind}
use Rattle.stack_levels.specs.Levels.{lines_over, changing_refusal}
use Rattle.stack_levels.specs.Taking.{AreRefused}
use Rattle.stack_levels.specs.declared.refusal.LevelRefusal.{LevelRefusal}
use Rattle.stack_levels.specs.declared.refusal.LevelsRefused.{LevelsRefused}
use Rattle.stack_levels.specs.declared.refusal.LevelsRefused.TheVariants as refused
use Rattle.stack_answers.specs.Stack.{StackState, queries_of, working}
use Rattle.stack_answers.specs.Held.{held_in}
use Rattle.stack_answers.specs.Steps.{IsRefusalOf, IsRefusedBy}
use Rattle.stack_answers.specs.Answers.{Answer, answer, by_spelling, by_row, by_first, by_fields, by_word, by_broken, by_levels, by_open, by_change, by_fault, judged, refusing, plainly, giving_up, keeping, making, end_effects, end_stack, sync_effects, finish}

-- a group is open where there is a draft
pub held_open : (d : Option DraftState) → is_some d ≡ is_some (held_in d)
held_open None = refl
held_open (Some x) = refl

-- the stack where its group is closed
abbrev pub closed : StackState → StackState
closed s = record s { held = None }

-- ---- a change where no group is open
own_catalogue : (s : StackState) (g : Change) → s.held ≡ None → fault (working s) g ≡ fault s.catalogue g
own_catalogue s g none = ap (λ (h : Option (List Change)). fault (after_all s.catalogue (unwrap_or h [])) g) none

alone : (s : StackState) (g : Change) → s.held ≡ None → by_fault s g None ≡ judged refusing s (g ∷ [])
alone s g none = ap (λ (h : Option (List Change)). if is_some h then keeping s g else judged refusing s (g ∷ [])) none

one_fault : (c : CatalogueValue) (g : Change) → group_fault c (g ∷ []) ≡ fault c g
one_fault c g = or_none (fault c g)
  where
    or_none : (o : Option Refusal) → option_or o None ≡ o
    or_none None = refl
    or_none (Some r) = refl

own_fault : (s : StackState) (g : Change) → s.held ≡ None → fault (working s) g ≡ group_fault s.catalogue (g ∷ [])
own_fault s g none = own_catalogue s g none ∙ sym (one_fault s.catalogue g)

taken_is : (s : StackState) (g : Change) → s.held ≡ None → group_fault s.catalogue (g ∷ []) ≡ None → changing_refusal s.catalogue (after_all s.catalogue (g ∷ [])) (queries_of s) ≡ None
    → by_fault s g (fault (working s) g) ≡ making s (g ∷ [])
taken_is s g none fits takes = ap (by_fault s g) (own_fault s g none ∙ fits) ∙ alone s g none ∙ ap (by_levels refusing s (g ∷ [])) takes

refused_is : (s : StackState) (g : Change) (e : LevelsRefused) (r : LevelRefusal) → s.held ≡ None → AreRefused s.catalogue (queries_of s) (g ∷ []) e → IsRefusalOf g e r → by_fault s g (fault (working s) g) ≡ refusing s r
refused_is s g (refused.Change place f) r none h is = ap (by_fault s g) (own_fault s g none ∙ h.1) ∙ ap (refusing s) (sym is)
refused_is s g (refused.Level q) r none h is = ap (by_fault s g) (own_fault s g none ∙ h.0) ∙ alone s g none ∙ ap (by_levels refusing s (g ∷ [])) h.1 ∙ ap (refusing s) (sym is)
refused_is s g refused.NoMemory r none h is = absurd is

-- ---- a change in a group
held_is : (s : StackState) (g : Change) → is_some s.held ≡ true → fault (working s) g ≡ None → by_fault s g (fault (working s) g) ≡ keeping s g
held_is s g inside fits = ap (by_fault s g) fits ∙ ap (λ (b : Bool). if b then keeping s g else judged refusing s (g ∷ [])) inside

unheld_is : (s : StackState) (g : Change) (e : HoldRefused) (row : Row) → IsNotHeld (working s) g e → IsHoldFieldsOf g e row → by_fault s g (fault (working s) g) ≡ plainly refusing s row
unheld_is s g (hold.Change r) row h f = ap (by_fault s g) h ∙ ap (plainly refusing s) (sym f)
unheld_is s g hold.NoMemory row h f = absurd f

-- ---- a group that is made, and one that is refused
made_is : (s : StackState) (gs : List Change) → changing_refusal s.catalogue (after_all s.catalogue gs) (queries_of s) ≡ None → judged giving_up s gs ≡ making s gs
made_is s gs takes = ap (by_levels giving_up s gs) takes

stopped_is : (s : StackState) (gs : List Change) (e : LevelsRefused) (r : LevelRefusal) → AreRefused s.catalogue (queries_of s) gs e → IsRefusedBy e r → judged giving_up s gs ≡ giving_up s r
stopped_is s gs (refused.Change place f) r h is = absurd is
stopped_is s gs (refused.Level q) r h is = ap (by_levels giving_up s gs) h.1 ∙ ap (giving_up s) (sym is)
stopped_is s gs refused.NoMemory r h is = absurd is

-- ---- a word alone, and with further fields
one_word : (s : StackState) (row : Row) (w : Word) → length row ≡ 1 → by_fields s row w ≡ by_word s row w
one_word s row w one = ap (λ (n : ℕ). if n == 1 then by_word s row w else plainly refusing s (line_fields row (change.FieldCount (length row)))) one

more_words : (s : StackState) (row : Row) (w : Word) → length row ≢ 1 → by_fields s row w ≡ plainly refusing s (line_fields row (change.FieldCount (length row)))
more_words s row w more = ap (λ (b : Bool). if b then by_word s row w else plainly refusing s (line_fields row (change.FieldCount (length row)))) (false_from_ne_true _ (λ e. more (eqb-true (length row) 1 e)))

-- the end of the input in a group
end_is : (s : StackState) (count : ℕ) (h : Option (List Change)) → option_map length h ≡ Some count → option_map_or (λ (a : Answer). a.effects) (by_open s h) [] ≡ refuses (open_group_fields count) ∷ []
end_is s count None e = absurd (cc e)
end_is s count (Some gs) e = let same : length gs ≡ count = cc e in ap (λ (n : ℕ). refuses (open_group_fields n) ∷ []) same

-- ---- the stack then
abbrev StackOf : StackState → Answer → Type 0
StackOf n a = n ≡ a.stack

pub taken_stack : (s n : StackState) (g : Change) → s.held ≡ None → group_fault s.catalogue (g ∷ []) ≡ None → changing_refusal s.catalogue (after_all s.catalogue (g ∷ [])) (queries_of s) ≡ None
    → n ≡ (making s (g ∷ [])).stack → n ≡ (by_fault s g (fault (working s) g)).stack
taken_stack s n g none fits takes e = subst (StackOf n) (sym (taken_is s g none fits takes)) e

pub refused_stack : (s t n : StackState) (g : Change) (e : LevelsRefused) (r : LevelRefusal) → t ≡ s → s.held ≡ None → AreRefused s.catalogue (queries_of s) (g ∷ []) e → IsRefusalOf g e r
    → n ≡ (refusing t r).stack → n ≡ (by_fault s g (fault (working s) g)).stack
refused_stack s t n g e r same none h is m = subst (StackOf n) (sym (refused_is s g e r none h is)) (subst (λ (x : StackState). n ≡ (refusing x r).stack) same m)

pub held_stack : (s n : StackState) (g : Change) → is_some s.held ≡ true → fault (working s) g ≡ None → n ≡ (keeping s g).stack → n ≡ (by_fault s g (fault (working s) g)).stack
held_stack s n g inside fits e = subst (StackOf n) (sym (held_is s g inside fits)) e

pub unheld_stack : (s n : StackState) (g : Change) (e : HoldRefused) (row : Row) → IsNotHeld (working s) g e → IsHoldFieldsOf g e row → n ≡ (plainly refusing s row).stack → n ≡ (by_fault s g (fault (working s) g)).stack
unheld_stack s n g e row h f is = subst (StackOf n) (sym (unheld_is s g e row h f)) is

pub made_stack : (s t n : StackState) (gs : List Change) → t ≡ closed s → changing_refusal t.catalogue (after_all t.catalogue gs) (queries_of t) ≡ None → n ≡ (making t gs).stack → n ≡ (judged giving_up s gs).stack
made_stack s t n gs shut takes e =
    subst (StackOf n) (sym (made_is s gs (subst (λ (x : StackState). changing_refusal x.catalogue (after_all x.catalogue gs) (queries_of x) ≡ None) shut takes)))
    (subst (λ (x : StackState). n ≡ (making x gs).stack) shut e)

pub stopped_stack : (s t u n : StackState) (gs : List Change) (e : LevelsRefused) (r : LevelRefusal) → t ≡ closed s → u ≡ t → AreRefused t.catalogue (queries_of t) gs e → IsRefusedBy e r
    → n ≡ (giving_up u r).stack → n ≡ (judged giving_up s gs).stack
stopped_stack s t u n gs e r shut same h is m =
    subst (StackOf n) (sym (stopped_is s gs e r (subst (λ (x : StackState). AreRefused x.catalogue (queries_of x) gs e) shut h) is))
    (subst (λ (x : StackState). n ≡ (giving_up x r).stack) (same ∙ shut) m)

pub unbroken_stack : (s n : StackState) (count : ℕ) → count ≡ 0 → n ≡ (judged giving_up s (unwrap_or s.held [])).stack → n ≡ (by_broken s count).stack
unbroken_stack s n count none e = rw none e

pub broken_stack : (s n : StackState) (count : ℕ) (fields : Row) → count ≢ 0 → n ≡ (plainly giving_up s fields).stack → n ≡ (by_broken s count).stack
broken_stack s n zero fields some e = absurd (some refl)
broken_stack s n (suc count) fields some e = e

pub one_word_stack : (s n : StackState) (row : Row) (w : Word) → length row ≡ 1 → n ≡ (by_word s row w).stack → n ≡ (by_fields s row w).stack
one_word_stack s n row w one e = subst (StackOf n) (sym (one_word s row w one)) e

pub more_words_stack : (s n : StackState) (row fields : Row) (w : Word) → length row ≢ 1 → n ≡ (plainly refusing s fields).stack → n ≡ (by_fields s row w).stack
more_words_stack s n row fields w more e = subst (StackOf n) (sym (more_words s row w more)) e

pub unread_stack : (s n : StackState) (row fields : Row) (f : ChangeFault) → IsAnswer (change_of row) (Err f) → f ≢ change.NoMemory → fields ≡ line_fields row f → n ≡ (plainly refusing s fields).stack → n ≡ (by_change s row (change_of row)).stack
unread_stack s n row fields f h some g is = subst (λ x. n ≡ (by_change s row x).stack) (unread (change_of row) f h some) is

-- ---- what was done

module _ {A : Type 0} (before v : World) (r : Result A Stop) where
  abbrev DoesBy : Answer → Type 0
  DoesBy a = Does a.effects before v r

  abbrev Refuses : Row → Type 0
  Refuses fields = Does (refuses fields ∷ []) before v r

  pub taken_does : (s : StackState) (g : Change) (all : List (List TableLine)) → s.held ≡ None → group_fault s.catalogue (g ∷ []) ≡ None → changing_refusal s.catalogue (after_all s.catalogue (g ∷ [])) (queries_of s) ≡ None
      → all ≡ lines_over s.catalogue (after_all s.catalogue (g ∷ [])) (queries_of s) → Does (prints_scripts all ∷ []) before v r → DoesBy (by_fault s g (fault (working s) g))
  taken_does s g all none fits takes e d = subst DoesBy (sym (taken_is s g none fits takes)) (subst (λ (ls : List (List TableLine)). Does (prints_scripts ls ∷ []) before v r) e d)

  pub refused_does : (s t : StackState) (g : Change) (e : LevelsRefused) (q : LevelRefusal) → t ≡ s → s.held ≡ None → AreRefused s.catalogue (queries_of s) (g ∷ []) e → IsRefusalOf g e q → DoesBy (refusing t q) → DoesBy (by_fault s g (fault (working s) g))
  refused_does s t g e q same none h is d = subst DoesBy (sym (refused_is s g e q none h is)) (subst (λ (x : StackState). DoesBy (refusing x q)) same d)

  pub held_does : (s : StackState) (g : Change) → is_some s.held ≡ true → fault (working s) g ≡ None → Does (prints_held ∷ []) before v r → DoesBy (by_fault s g (fault (working s) g))
  held_does s g inside fits d = subst DoesBy (sym (held_is s g inside fits)) d

  pub unheld_does : (s : StackState) (g : Change) (e : HoldRefused) (row : Row) → IsNotHeld (working s) g e → IsHoldFieldsOf g e row → Refuses row → DoesBy (by_fault s g (fault (working s) g))
  unheld_does s g e row h f d = subst DoesBy (sym (unheld_is s g e row h f)) d

  pub made_does : (s t : StackState) (gs : List Change) (all : List (List TableLine)) → t ≡ closed s → changing_refusal t.catalogue (after_all t.catalogue gs) (queries_of t) ≡ None → all ≡ lines_over t.catalogue (after_all t.catalogue gs) (queries_of t)
      → Does (prints_scripts all ∷ []) before v r → DoesBy (judged giving_up s gs)
  made_does s t gs all shut takes e d =
      let d' : Does (prints_scripts (lines_over t.catalogue (after_all t.catalogue gs) (queries_of t)) ∷ []) before v r = subst (λ (ls : List (List TableLine)). Does (prints_scripts ls ∷ []) before v r) e d in
      subst DoesBy (sym (made_is s gs (subst (λ (x : StackState). changing_refusal x.catalogue (after_all x.catalogue gs) (queries_of x) ≡ None) shut takes)))
      (subst (λ (x : StackState). DoesBy (making x gs)) shut d')

  pub stopped_does : (s t : StackState) (gs : List Change) (e : LevelsRefused) (q : LevelRefusal) → t ≡ closed s → AreRefused t.catalogue (queries_of t) gs e → IsRefusedBy e q → Does (refuses_at q.level q.fields) before v r → DoesBy (judged giving_up s gs)
  stopped_does s t gs e q shut h is d = subst DoesBy (sym (stopped_is s gs e q (subst (λ (x : StackState). AreRefused x.catalogue (queries_of x) gs e) shut h) is)) d

  pub read_does : (s : StackState) (row : Row) (g : Change) → Ok g ≡ change_of row → DoesBy (by_fault s g (fault (working s) g)) → DoesBy (by_change s row (change_of row))
  read_does s row g e d = subst (λ x. DoesBy (by_change s row x)) e d

  pub unread_does : (s : StackState) (row fields : Row) (f : ChangeFault) → IsAnswer (change_of row) (Err f) → f ≢ change.NoMemory → fields ≡ line_fields row f → Refuses fields → DoesBy (by_change s row (change_of row))
  unread_does s row fields f h some g d = subst (λ x. DoesBy (by_change s row x)) (unread (change_of row) f h some) (subst Refuses g d)

  pub refusing_does : (s : StackState) (row fields : Row) → fields ≡ row → Refuses fields → DoesBy (plainly refusing s row)
  refusing_does s row fields e d = subst Refuses e d

  pub unbroken_does : (s : StackState) (count : ℕ) → count ≡ 0 → DoesBy (judged giving_up s (unwrap_or s.held [])) → DoesBy (by_broken s count)
  unbroken_does s count none d = rw none d

  pub broken_does : (s : StackState) (count : ℕ) (fields : Row) → count ≢ 0 → fields ≡ group_broken_fields count → Refuses fields → DoesBy (by_broken s count)
  broken_does s zero fields some e d = absurd (some refl)
  broken_does s (suc count) fields some e d = subst Refuses e d

  pub ends_does : (s : StackState) (x : Option ℕ) (count : ℕ) (fields : Row) → x ≡ option_map length s.held → x ≡ Some count → fields ≡ open_group_fields count → Refuses fields → Does (end_effects s) before v r
  ends_does s x count fields e is f d = subst (λ (es : List Effect). Does es before v r) (sym (end_is s count s.held (sym e ∙ is))) (subst Refuses f d)

  pub ended_does : (s t : StackState) (mid : World) → contents mid ≡ performed (end_effects s) (contents before) → t ≡ end_stack s → Does (sync_effects t) mid v r → Does (finish s).effects before v r
  ended_does s t mid h is d = behind (end_effects s) (sync_effects (end_stack s)) before mid v r h (subst (λ (x : StackState). Does (sync_effects x) mid v r) is d)

  pub one_word_does : (s : StackState) (row : Row) (w : Word) → length row ≡ 1 → DoesBy (by_word s row w) → DoesBy (by_fields s row w)
  one_word_does s row w one d = subst DoesBy (sym (one_word s row w one)) d

  pub more_words_does : (s : StackState) (row fields : Row) (w : Word) → length row ≢ 1 → fields ≡ line_fields row (change.FieldCount (length row)) → Refuses fields → DoesBy (by_fields s row w)
  more_words_does s row fields w more e d = subst DoesBy (sym (more_words s row w more)) (subst Refuses e d)

  pub words_does : (s : StackState) (row : Row) (x : Option Word) (w : Word) → x ≡ word_in (first_field row) → x ≡ Some w → DoesBy (by_fields s row w) → DoesBy (by_row s row)
  words_does s row x w e is d = subst (λ (y : Option Word). DoesBy (by_first s row y)) (sym is ∙ e) d

  pub changes_does : (s : StackState) (row : Row) (x : Option Word) → x ≡ word_in (first_field row) → x ≡ None → DoesBy (by_change s row (change_of row)) → DoesBy (by_row s row)
  changes_does s row x e is d = subst (λ (y : Option Word). DoesBy (by_first s row y)) (sym is ∙ e) d

  pub spelled_does : (s : StackState) (line : List ℕ) (row : Row) → unspell line ≡ Ok row → DoesBy (by_row s row) → DoesBy (answer s line)
  spelled_does s line row e d = subst (λ x. DoesBy (by_spelling s x)) (sym e) d

  pub unspelled_does : (s : StackState) (line : List ℕ) (f : LineFault) (at : ℕ) (fields : Row) → IsUnspelled line (Err f) → f ≡ BadEscape at → fields ≡ escape_fields at → Refuses fields → DoesBy (answer s line)
  unspelled_does s line f at fields h is e d = subst (λ x. DoesBy (by_spelling s x)) (sym (subst (λ (x : LineFault). IsUnspelled line (Err x)) is h)) (subst Refuses e d)
