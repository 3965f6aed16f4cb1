-- Each answer is a refusal, or a group that opens, holds a change, is given up or is committed, or a change that is made, or a sync.
use Rattle.std.proofs.Common.{◌≡◌, ℕ, suc, zero, Bool, true, false, ◌==◌, length, List, [], ◌∷◌, Option, None, Some, refl, sym, ap, ◌∙◌}
use Rattle.std.specs.Prelude.{Result, Ok, Err, IsTrue, is_some, unwrap_or, if◌then◌else◌}
use Rattle.std.specs.Option.{option_map_or}
use Rattle.ss_text.specs.Texts.{Row}
use Rattle.outside.specs.Effects.{Effect}
use Rattle.tab_lines.specs.Spelling.{unspell}
use Rattle.schema_model.specs.Changes.{after, after_all, is_well_formed}
use Rattle.schema_model.specs.Refusals.{fault}
use Rattle.schema_model.specs.Reading.{change_of}
use Rattle.schema_model.specs.declared.change.Change.{Change}
use Rattle.schema_model.specs.declared.change.ChangeFault.{ChangeFault}
use Rattle.schema_model.specs.declared.change.ChangeFault.TheVariants.{FieldCount}
use Rattle.schema_model.specs.declared.refusal.Refusal.{Refusal}
use Rattle.source_law.proofs.FormedLemmas.{formed}
use Rattle.ss_print.specs.Printing.{refuses}
use Rattle.view_session.specs.Session.{working}
use Rattle.ss_print.specs.Fields.{escape_fields, first_field, line_fields, refusal_fields, group_broken_fields, open_group_fields, in_group_fields, no_group_fields}
use Rattle.view_stages.specs.Open.{OpenValue}
use Rattle.view_stages.specs.Stages.{refusal_of}
use Rattle.opened_view.specs.declared.word.Word.{Word}
use Rattle.opened_view.specs.declared.word.Word.TheVariants as word
use Rattle.opened_view.specs.Answers.{Answer, answer, answer_by, by_spelling, by_first, by_word, by_broken, by_group, by_change, by_fault, by_view, by_open, refusing, giving_up, beginning, keeping, aborting, changing, committing, syncing, in_group, word_in, end_effects, end_view}

-- what holds of each kind of answer, by what is known there, where a sync is answered so
pub record Cases (sync : OpenValue → Answer) (o : OpenValue) (P : Answer → Type 0) : Type 0 where
  pub refused : (fields : Row) → P (refusing o fields)
  pub gave_up : (fields : Row) → P (giving_up o fields)
  pub began : P (beginning o)
  pub kept : (g : Change) → IsTrue (is_well_formed g) → fault (working o.session) g ≡ None → P (keeping o g)
  pub aborted : P (aborting o)
  pub changed : (g : Change) → o.session.held ≡ None → IsTrue (is_well_formed g) → fault o.session.catalogue g ≡ None → refusal_of (after o.session.catalogue g) o.session.query ≡ None → P (changing o g)
  pub committed : refusal_of (working o.session) o.session.query ≡ None → P (committing o)
  pub synced : P (sync o)

module _ (sync : OpenValue → Answer) (o : OpenValue) (P : Answer → Type 0) (c : Cases sync o P) where
  either : (b : Bool) (x y : Answer) → P x → P y → P (if b then x else y)
  either true x y p q = p
  either false x y p q = q

  viewed : (g : Change) (r : Option Row) → o.session.held ≡ None → IsTrue (is_well_formed g) → fault o.session.catalogue g ≡ None → refusal_of (after o.session.catalogue g) o.session.query ≡ r → P (by_view o g r)
  viewed g (Some fields) none well fits is = c.refused fields
  viewed g None none well fits is = c.changed g none well fits is

  judged : (g : Change) (r : Option Refusal) → IsTrue (is_well_formed g) → fault (working o.session) g ≡ r → P (by_fault o g r)
  judged g (Some r) well is = c.refused (refusal_fields g r)
  judged g None well is = by_held o.session.held refl
    where
      by_held : (h : Option (List Change)) → o.session.held ≡ h → P (if is_some h then keeping o g else by_view o g (refusal_of (after o.session.catalogue g) o.session.query))
      by_held None e = viewed g (refusal_of (after o.session.catalogue g) o.session.query) e well (sym (ap (λ (h : Option (List Change)). fault (after_all o.session.catalogue (unwrap_or h [])) g) e) ∙ is) refl
      by_held (Some gs) e = c.kept g well is

  read : (row : Row) (r : Result Change ChangeFault) → change_of row ≡ r → P (by_change o row r)
  read row (Err f) is = c.refused (line_fields row f)
  read row (Ok g) is = judged g (fault (working o.session) g) (formed row g is) refl

  grouped : (r : Option Row) → refusal_of (working o.session) o.session.query ≡ r → P (by_group o r)
  grouped (Some fields) is = c.gave_up fields
  grouped None is = c.committed is

  ended : (n : ℕ) → P (by_broken o n)
  ended zero = grouped (refusal_of (working o.session) o.session.query) refl
  ended (suc n) = c.gave_up (group_broken_fields (suc n))

  alone : (row : Row) (w : Word) → P (by_word sync o row w)
  alone row word.Begin = either (in_group o) (refusing o (in_group_fields row)) (beginning o) (c.refused (in_group_fields row)) c.began
  alone row word.Commit = either (in_group o) (by_broken o o.broken) (refusing o (no_group_fields row)) (ended o.broken) (c.refused (no_group_fields row))
  alone row word.Abort = either (in_group o) (aborting o) (refusing o (no_group_fields row)) c.aborted (c.refused (no_group_fields row))
  alone row word.Sync = either (in_group o) (refusing o (in_group_fields row)) (sync o) (c.refused (in_group_fields row)) c.synced

  began_with : (row : Row) (w : Option Word) → P (by_first sync o row w)
  began_with row (Some w) = either (length row == 1) (by_word sync o row w) (refusing o (line_fields row (FieldCount (length row)))) (alone row w) (c.refused (line_fields row (FieldCount (length row))))
  began_with row None = read row (change_of row) refl

  spelled : (r : Result Row ℕ) → P (by_spelling sync o r)
  spelled (Err at) = c.refused (escape_fields at)
  spelled (Ok row) = began_with row (word_in (first_field row))

  pub answer_case : (line : List ℕ) → P (answer_by sync o line)
  answer_case line = spelled (unspell line)

-- the view stays the same
pub answer_query : (o : OpenValue) (line : List ℕ) → (answer o line).view.session.query ≡ o.session.query
answer_query o = answer_case syncing o (λ a. a.view.session.query ≡ o.session.query) (record {
  refused = λ fields. refl;
  gave_up = λ fields. refl;
  began = refl;
  kept = λ g well fits. refl;
  aborted = refl;
  changed = λ g none well fits unrefused. refl;
  committed = λ unrefused. refl;
  synced = refl;
})

-- the end of the input refuses an open group, or does nothing
pub end_case : (o : OpenValue) (P : List Effect → OpenValue → Type 0) → P [] o → ((fields : Row) → P (refuses fields ∷ []) (giving_up o fields).view) → P (end_effects o) (end_view o)
end_case o P same gave_up =
    elim o.session.held as (λ h. P (option_map_or (λ (a : Answer). a.effects) (by_open o h) []) (option_map_or (λ (a : Answer). a.view) (by_open o h) o))
    [ None ↦ same | Some gs ↦ gave_up (open_group_fields (length gs)) ]
