-- The changes that a line makes take the catalogue to the one behind it.
use Rattle.std.proofs.Common.{◌≡◌, ℕ, suc, zero, ◌==◌, Bool, true, false, length, List, [], Option, None, Some, refl, sym, ap, ◌∙◌}
use Rattle.std.specs.Prelude.{Result, Ok, Err, is_some, unwrap_or, option_to_list, if◌then◌else◌}
use Rattle.std.specs.Result.{result_ok}
use Rattle.ss_text.specs.Texts.{Row}
use Rattle.tab_lines.specs.Spelling.{unspell}
use Rattle.schema_model.specs.Changes.{after, after_all}
use Rattle.schema_model.specs.Refusals.{fault}
use Rattle.schema_model.specs.Reading.{Read, change_of}
use Rattle.schema_model.specs.declared.change.Change.{Change}
use Rattle.schema_model.specs.declared.change.ChangeFault.TheVariants.{FieldCount}
use Rattle.schema_model.specs.declared.refusal.Refusal.{Refusal}
use Rattle.change_journal.specs.Spelled.{said_by_row}
use Rattle.view_session.specs.Session.{working}
use Rattle.ss_print.specs.Fields.{first_field, line_fields, in_group_fields, no_group_fields}
use Rattle.view_stages.specs.Open.{OpenValue}
use Rattle.view_stages.specs.Stages.{refusal_of}
use Rattle.opened_view.specs.declared.word.Word.{Word}
use Rattle.opened_view.specs.declared.word.Word.TheVariants as word
use Rattle.opened_view.specs.Answers.{Answer, by_spelling, by_first, by_word, by_broken, by_group, by_change, by_fault, by_view, refusing, beginning, keeping, aborting, syncing_view, in_group, word_in}
use Rattle.journal_answers.specs.Answers.{answer, asked_of, made, made_by}

module _ (o : OpenValue) (r : Result Row ℕ) where
  abbrev Grows : Answer → Type 0
  Grows a = a.view.session.catalogue ≡ after_all o.session.catalogue (made_by a.said (asked_of o r))

  either : (b : Bool) (x y : Answer) → Grows x → Grows y → Grows (if b then x else y)
  either true x y p q = p
  either false x y p q = q

  -- the end of the open group
  grouped : (gs : List Change) (x : Option Row) → o.session.held ≡ Some gs → Grows (by_group o x)
  grouped gs (Some fields) is = refl
  grouped gs None is =
      ap (λ (h : Option (List Change)). after_all o.session.catalogue (unwrap_or h [])) is
      ∙ sym (ap (λ (h : Option (List Change)). after_all o.session.catalogue (unwrap_or h (option_to_list (said_by_row r)))) is)

  broken : (gs : List Change) (n : ℕ) → o.session.held ≡ Some gs → Grows (by_broken o n)
  broken gs zero is = grouped gs (refusal_of (working o.session) o.session.query) is
  broken gs (suc n) is = refl

  ended : (row : Row) → Grows (by_word syncing_view o row word.Commit)
  ended row = by_held o.session.held refl
    where
      by_held : (h : Option (List Change)) → o.session.held ≡ h → Grows (if is_some h then by_broken o o.broken else refusing o (no_group_fields row))
      by_held None is = refl
      by_held (Some gs) is = broken gs o.broken is

  alone : (row : Row) (w : Word) → Grows (by_word syncing_view o row w)
  alone row word.Begin = either (in_group o) (refusing o (in_group_fields row)) (beginning o) refl refl
  alone row word.Commit = ended row
  alone row word.Abort = either (in_group o) (aborting o) (refusing o (no_group_fields row)) refl refl
  alone row word.Sync = either (in_group o) (refusing o (in_group_fields row)) (syncing_view o) refl refl

  -- a change
  module _ (g : Change) (says : said_by_row r ≡ Some g) where
    viewed : (x : Option Row) → o.session.held ≡ None → Grows (by_view o g x)
    viewed (Some fields) is = refl
    viewed None is =
        sym (ap (λ (h : Option (List Change)). after_all o.session.catalogue (unwrap_or h (option_to_list (said_by_row r)))) is
        ∙ ap (λ (s : Option Change). after_all o.session.catalogue (option_to_list s)) says)

    judged : (x : Option Refusal) → Grows (by_fault o g x)
    judged (Some f) = refl
    judged None = by_held o.session.held refl
      where
        by_held : (h : Option (List Change)) → o.session.held ≡ h → Grows (if is_some h then keeping o g else by_view o g (refusal_of (after o.session.catalogue g) o.session.query))
        by_held None is = viewed (refusal_of (after o.session.catalogue g) o.session.query) is
        by_held (Some gs) is = refl

  read : (row : Row) (x : Read) → said_by_row r ≡ result_ok x → Grows (by_change o row x)
  read row (Err f) is = refl
  read row (Ok g) is = judged g is (fault (working o.session) g)

  began : (row : Row) (w : Option Word) → said_by_row r ≡ result_ok (change_of row) → Grows (by_first syncing_view o row w)
  began row (Some w) is = either (length row == 1) (by_word syncing_view o row w) (refusing o (line_fields row (FieldCount (length row)))) (alone row w) refl
  began row None is = read row (change_of row) is

spelled : (o : OpenValue) (r : Result Row ℕ) → (by_spelling syncing_view o r).view.session.catalogue ≡ after_all o.session.catalogue (made_by (by_spelling syncing_view o r).said (asked_of o r))
spelled o (Err at) = refl
spelled o (Ok row) = began o (Ok row) row (word_in (first_field row)) refl

pub line_grows : (o : OpenValue) (line : List ℕ) → (answer o line).view.session.catalogue ≡ after_all o.session.catalogue (made o line)
line_grows o line = spelled o (unspell line)
