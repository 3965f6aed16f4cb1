-- Each answer of a stack is a refusal, or a group that opens, holds a change or is given up, or changes that are made, or a sync.
use Rattle.std.proofs.Common.{◌≡◌, ℕ, suc, zero, Bool, true, false, ◌==◌, length, List, [], ◌∷◌, Option, None, Some, refl, sym, ap, ◌∙◌}
use Rattle.std.specs.Prelude.{Result, Ok, Err, IsTrue, is_some, unwrap_or, if◌then◌else◌}
use Rattle.std.specs.List.{AllByRecursion}
use Rattle.std.specs.Option.{option_or}
use Rattle.ss_text.specs.Texts.{Row}
use Rattle.tab_lines.specs.Spelling.{unspell}
use Rattle.schema_model.specs.Changes.{after_all, is_well_formed}
use Rattle.schema_model.specs.Refusals.{fault, group_fault}
use Rattle.schema_model.specs.Reading.{change_of}
use Rattle.schema_model.specs.declared.change.Change.{Change}
use Rattle.schema_model.specs.declared.change.ChangeFault.{ChangeFault}
use Rattle.schema_model.specs.declared.change.ChangeFault.TheVariants.{FieldCount}
use Rattle.schema_model.specs.declared.refusal.Refusal.{Refusal}
use Rattle.source_law.proofs.FormedLemmas.{formed}
use Rattle.ss_print.specs.Fields.{escape_fields, first_field, line_fields, refusal_fields, group_broken_fields, in_group_fields, no_group_fields}
use Rattle.opened_view.specs.declared.word.Word.{Word}
use Rattle.opened_view.specs.declared.word.Word.TheVariants as word
use Rattle.opened_view.specs.Answers.{word_in}
use Rattle.stack_levels.specs.declared.refusal.LevelRefusal.{LevelRefusal}
use Rattle.stack_levels.specs.Levels.{refused_at, changing_refusal}
use Rattle.stack_answers.specs.Stack.{StackState, queries_of, working}
use Rattle.stack_answers.specs.Answers.{Answer, answer, by_spelling, by_first, by_word, by_broken, by_change, by_fault, by_levels, judged, refusing, giving_up, beginning, keeping, aborting, making, syncing, in_group}

-- the changes that an open group holds are well formed, and each is accepted after those before it
pub record HoldsGroup (s : StackState) : Type 0 where
  pub formed : AllByRecursion (λ g. IsTrue (is_well_formed g)) (unwrap_or s.held [])
  pub accepted : group_fault s.catalogue (unwrap_or s.held []) ≡ None

-- what holds of each kind of answer, by what is known there
pub record Cases (s : StackState) (P : Answer → Type 0) : Type 0 where
  pub refused : (r : LevelRefusal) → P (refusing s r)
  pub gave_up : (r : LevelRefusal) → P (giving_up s r)
  pub began : P (beginning s)
  pub kept : (g : Change) → IsTrue (is_well_formed g) → fault (working s) g ≡ None → P (keeping s g)
  pub aborted : P (aborting s)
  pub made : (gs : List Change) → AllByRecursion (λ g. IsTrue (is_well_formed g)) gs → group_fault s.catalogue gs ≡ None → changing_refusal s.catalogue (after_all s.catalogue gs) (queries_of s) ≡ None → P (making s gs)
  pub synced : P (syncing s)

module _ (s : StackState) (group : HoldsGroup s) (P : Answer → Type 0) (c : Cases s P) where
  either : (b : Bool) (x y : Answer) → P x → P y → P (if b then x else y)
  either true x y p q = p
  either false x y p q = q

  by_first_refusal : (refuse : StackState → LevelRefusal → Answer) → ((r : LevelRefusal) → P (refuse s r)) → (gs : List Change) → AllByRecursion (λ g. IsTrue (is_well_formed g)) gs → group_fault s.catalogue gs ≡ None
      → (o : Option LevelRefusal) → changing_refusal s.catalogue (after_all s.catalogue gs) (queries_of s) ≡ o → P (by_levels refuse s gs o)
  by_first_refusal refuse bad gs well accepted (Some r) is = bad r
  by_first_refusal refuse bad gs well accepted None is = c.made gs well accepted is

  judge : (refuse : StackState → LevelRefusal → Answer) → ((r : LevelRefusal) → P (refuse s r)) → (gs : List Change) → AllByRecursion (λ g. IsTrue (is_well_formed g)) gs → group_fault s.catalogue gs ≡ None → P (judged refuse s gs)
  judge refuse bad gs well accepted = by_first_refusal refuse bad gs well accepted (changing_refusal s.catalogue (after_all s.catalogue gs) (queries_of s)) refl

  faulty : (g : Change) (r : Option Refusal) → IsTrue (is_well_formed g) → fault (working s) g ≡ r → P (by_fault s g r)
  faulty g (Some r) well is = c.refused (refused_at 1 (refusal_fields g r))
  faulty g None well is = by_held s.held refl
    where
      by_held : (h : Option (List Change)) → s.held ≡ h → P (if is_some h then keeping s g else judged refusing s (g ∷ []))
      by_held None e =
          let fits : fault s.catalogue g ≡ None = sym (ap (λ (h : Option (List Change)). fault (after_all s.catalogue (unwrap_or h [])) g) e) ∙ is in
          judge refusing c.refused (g ∷ []) (well, tt) (ap (λ (r : Option Refusal). option_or r None) fits)
      by_held (Some gs) e = c.kept g well is

  read : (row : Row) (r : Result Change ChangeFault) → change_of row ≡ r → P (by_change s row r)
  read row (Err f) is = c.refused (refused_at 1 (line_fields row f))
  read row (Ok g) is = faulty g (fault (working s) g) (formed row g is) refl

  ended : (n : ℕ) → P (by_broken s n)
  ended zero = judge giving_up c.gave_up (unwrap_or s.held []) group.formed group.accepted
  ended (suc n) = c.gave_up (refused_at 1 (group_broken_fields (suc n)))

  abbrev plain : Row → Answer
  plain fields = refusing s (refused_at 1 fields)

  plainly_refused : (fields : Row) → P (plain fields)
  plainly_refused fields = c.refused (refused_at 1 fields)

  alone : (row : Row) (w : Word) → P (by_word s row w)
  alone row word.Begin = either (in_group s) (plain (in_group_fields row)) (beginning s) (plainly_refused (in_group_fields row)) c.began
  alone row word.Commit = either (in_group s) (by_broken s s.broken) (plain (no_group_fields row)) (ended s.broken) (plainly_refused (no_group_fields row))
  alone row word.Abort = either (in_group s) (aborting s) (plain (no_group_fields row)) c.aborted (plainly_refused (no_group_fields row))
  alone row word.Sync = either (in_group s) (plain (in_group_fields row)) (syncing s) (plainly_refused (in_group_fields row)) c.synced

  began_with : (row : Row) (w : Option Word) → P (by_first s row w)
  began_with row (Some w) = either (length row == 1) (by_word s row w) (plain (line_fields row (FieldCount (length row)))) (alone row w) (plainly_refused (line_fields row (FieldCount (length row))))
  began_with row None = read row (change_of row) refl

  spelled : (r : Result Row ℕ) → P (by_spelling s r)
  spelled (Err at) = plainly_refused (escape_fields at)
  spelled (Ok row) = began_with row (word_in (first_field row))

  pub answer_case : (line : List ℕ) → P (answer s line)
  answer_case line = spelled (unspell line)
