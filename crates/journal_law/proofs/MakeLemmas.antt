-- The changes that a line makes are such that lines say, and none of them is refused.
use Rattle.std.proofs.Common.{◌≡◌, ℕ, suc, zero, ◌==◌, Bool, true, false, length, List, [], ◌∷◌, Option, None, Some, refl, sym, ap, ◌∙◌, subst}
use Rattle.std.specs.Prelude.{Result, Ok, Err, IsTrue, is_some, unwrap_or, option_to_list, if◌then◌else◌}
use Rattle.std.specs.Option.{option_or}
use Rattle.std.specs.Result.{result_ok}
use Rattle.std.specs.List.{AllByRecursion}
use Rattle.ss_text.specs.Texts.{Row}
use Rattle.tab_lines.specs.Spelling.{unspell}
use Rattle.schema_model.specs.Changes.{after, after_all, is_well_formed}
use Rattle.schema_model.specs.Refusals.{fault, group_fault}
use Rattle.schema_model.specs.Reading.{Read, change_of}
use Rattle.schema_model.specs.declared.change.Change.{Change}
use Rattle.schema_model.specs.declared.change.ChangeFault.TheVariants.{FieldCount}
use Rattle.schema_model.specs.declared.refusal.Refusal.{Refusal}
use Rattle.source_law.proofs.FormedLemmas.{formed}
use Rattle.change_journal.specs.Spelled.{said_by_row}
use Rattle.view_session.specs.Session.{working}
use Rattle.ss_print.specs.Fields.{escape_fields, first_field, line_fields, refusal_fields, group_broken_fields, in_group_fields, no_group_fields}
use Rattle.view_stages.specs.Open.{OpenValue}
use Rattle.view_stages.specs.Stages.{refusal_of}
use Rattle.opened_view.specs.declared.word.Word.{Word}
use Rattle.opened_view.specs.declared.word.Word.TheVariants as word
use Rattle.opened_view.specs.Answers.{Answer, by_spelling, by_first, by_word, by_broken, by_group, by_change, by_fault, by_view, refusing, beginning, keeping, aborting, giving_up, syncing_view, in_group, word_in}
use Rattle.upkeep_law.proofs.GroupLemmas.{IsGroup, no_group, one_more}
use Rattle.journal_answers.specs.Answers.{answer, asked_of, made_by}

-- an answer to what a line asks for makes changes that lines say, none of which is refused; and behind it a group stands over the catalogue
pub record IsMaking (o : OpenValue) (r : Result Row ℕ) (a : Answer) : Type 0 where
  pub formed : AllByRecursion (λ g. IsTrue (is_well_formed g)) (made_by a.said (asked_of o r))
  pub accepted : group_fault o.session.catalogue (made_by a.said (asked_of o r)) ≡ None
  pub group : IsGroup a.view.session

module _ (o : OpenValue) (h : IsGroup o.session) (r : Result Row ℕ) where
  abbrev Making : Answer → Type 0
  Making a = IsMaking o r a

  either : (b : Bool) (x y : Answer) → Making x → Making y → Making (if b then x else y)
  either true x y p q = p
  either false x y p q = q

  refused : (fields : Row) → Making (refusing o fields)
  refused fields = record { formed = tt; accepted = refl; group = h }

  gave_up : (fields : Row) → Making (giving_up o fields)
  gave_up fields = record { formed = tt; accepted = refl; group = no_group _ refl }

  -- the end of the open group
  held_asked : (gs : List Change) → o.session.held ≡ Some gs → unwrap_or o.session.held [] ≡ asked_of o r
  held_asked gs is = ap (λ (x : Option (List Change)). unwrap_or x []) is ∙ sym (ap (λ (x : Option (List Change)). unwrap_or x (option_to_list (said_by_row r))) is)

  grouped : (gs : List Change) (x : Option Row) → o.session.held ≡ Some gs → Making (by_group o x)
  grouped gs (Some fields) is = gave_up fields
  grouped gs None is = record {
    formed = subst (AllByRecursion (λ g. IsTrue (is_well_formed g))) (held_asked gs is) h.formed;
    accepted = ap (group_fault o.session.catalogue) (sym (held_asked gs is)) ∙ h.accepted;
    group = no_group _ refl;
  }

  broken : (gs : List Change) (n : ℕ) → o.session.held ≡ Some gs → Making (by_broken o n)
  broken gs zero is = grouped gs (refusal_of (working o.session) o.session.query) is
  broken gs (suc n) is = gave_up (group_broken_fields (suc n))

  ended : (row : Row) → Making (by_word syncing_view o row word.Commit)
  ended row = by_held o.session.held refl
    where
      by_held : (x : Option (List Change)) → o.session.held ≡ x → Making (if is_some x then by_broken o o.broken else refusing o (no_group_fields row))
      by_held None is = refused (no_group_fields row)
      by_held (Some gs) is = broken gs o.broken is

  alone : (row : Row) (w : Word) → Making (by_word syncing_view o row w)
  alone row word.Begin = either (in_group o) (refusing o (in_group_fields row)) (beginning o) (refused (in_group_fields row)) (record { formed = tt; accepted = refl; group = no_group _ refl })
  alone row word.Commit = ended row
  alone row word.Abort = either (in_group o) (aborting o) (refusing o (no_group_fields row)) (record { formed = tt; accepted = refl; group = no_group _ refl }) (refused (no_group_fields row))
  alone row word.Sync =
      either (in_group o) (refusing o (in_group_fields row)) (syncing_view o) (refused (in_group_fields row)) (record { formed = tt; accepted = refl; group = record { formed = h.formed; accepted = h.accepted } })

  -- a change
  module _ (g : Change) (well : IsTrue (is_well_formed g)) (says : said_by_row r ≡ Some g) where
    one_asked : o.session.held ≡ None → g ∷ [] ≡ asked_of o r
    one_asked none = sym (ap (λ (x : Option (List Change)). unwrap_or x (option_to_list (said_by_row r))) none ∙ ap (λ (s : Option Change). option_to_list s) says)

    viewed : (x : Option Row) → o.session.held ≡ None → fault (working o.session) g ≡ None → Making (by_view o g x)
    viewed (Some fields) none fits = refused fields
    viewed None none fits =
        let alone_fits : fault o.session.catalogue g ≡ None = sym (ap (λ (x : Option (List Change)). fault (after_all o.session.catalogue (unwrap_or x [])) g) none) ∙ fits in
        record {
          formed = subst (AllByRecursion (λ g. IsTrue (is_well_formed g))) (one_asked none) (well, tt);
          accepted = ap (group_fault o.session.catalogue) (sym (one_asked none)) ∙ ap (λ (x : Option Refusal). option_or x None) alone_fits;
          group = no_group _ (ap (λ (x : Option (List Change)). unwrap_or x []) none);
        }

    judged : (x : Option Refusal) → fault (working o.session) g ≡ x → Making (by_fault o g x)
    judged (Some f) is = refused (refusal_fields g f)
    judged None is = by_held o.session.held refl
      where
        by_held : (x : Option (List Change)) → o.session.held ≡ x → Making (if is_some x then keeping o g else by_view o g (refusal_of (after o.session.catalogue g) o.session.query))
        by_held None none = viewed (refusal_of (after o.session.catalogue g) o.session.query) none is
        by_held (Some gs) some = record { formed = tt; accepted = refl; group = one_more o.session g well is h }

  read : (row : Row) (x : Read) → change_of row ≡ x → said_by_row r ≡ result_ok x → Making (by_change o row x)
  read row (Err f) is says = refused (line_fields row f)
  read row (Ok g) is says = judged g (formed row g is) says (fault (working o.session) g) refl

  began : (row : Row) (w : Option Word) → said_by_row r ≡ result_ok (change_of row) → Making (by_first syncing_view o row w)
  began row (Some w) says = either (length row == 1) (by_word syncing_view o row w) (refusing o (line_fields row (FieldCount (length row)))) (alone row w) (refused (line_fields row (FieldCount (length row))))
  began row None says = read row (change_of row) refl says

spelled : (o : OpenValue) → IsGroup o.session → (r : Result Row ℕ) → IsMaking o r (by_spelling syncing_view o r)
spelled o h (Err at) = refused o h (Err at) (escape_fields at)
spelled o h (Ok row) = began o h (Ok row) row (word_in (first_field row)) refl

pub line_makes : (o : OpenValue) → IsGroup o.session → (line : List ℕ) → IsMaking o (unspell line) (answer o line)
line_makes o h line = spelled o h (unspell line)
