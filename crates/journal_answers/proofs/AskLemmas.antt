-- What a row asks for, by its words and by the group that is open.
use Rattle.std.proofs.Common.{◌≡◌, ◌≢◌, ℕ, suc, zero, ◌==◌, Bool, true, false, length, List, Option, None, Some, refl, sym, ap, ◌∙◌, subst}
use Rattle.std.specs.Prelude.{Ok, Err, IsTrue, unwrap_or, option_to_list, if◌then◌else◌}
use Rattle.std.specs.Result.{result_ok}
use Rattle.std.proofs.lemmas.Bool.{eqb-true, false_from_ne_true}
use Rattle.ss_text.specs.Texts.{Row}
use Rattle.schema_model.specs.Changes.{after, is_well_formed}
use Rattle.schema_model.specs.Refusals.{fault}
use Rattle.schema_model.specs.Reading.{Read, IsAnswer, change_of}
use Rattle.schema_model.specs.declared.change.Change.{Change}
use Rattle.schema_model.specs.declared.change.ChangeFault.{ChangeFault}
use Rattle.schema_model.specs.declared.change.ChangeFault.TheVariants as change
use Rattle.schema_model.specs.declared.refusal.Refusal.{Refusal}
use Rattle.change_journal.specs.Spelled.{said_by_row}
use Rattle.view_session.specs.Session.{working}
use Rattle.view_session.specs.Limits as session
use Rattle.ss_print.specs.Fields.{line_fields, in_group_fields, no_group_fields}
use Rattle.view_stages.specs.Open.{OpenValue}
use Rattle.view_stages.specs.Stages.{refusal_of}
use Rattle.opened_view.specs.declared.word.Word.{Word}
use Rattle.opened_view.specs.declared.word.Word.TheVariants as word
use Rattle.opened_view.specs.Answers.{Answer, by_fields, by_word, by_broken, by_change, by_fault, by_view, refusing, beginning, keeping, aborting, syncing, syncing_view, in_group}
use Rattle.opened_view.specs.Limits as limits
use Rattle.opened_view.proofs.AnswerLemmas.{unread}
use Rattle.opened_view.proofs.ViewLemmas.{none_open}
use Rattle.journal_answers.specs.declared.asking.Asked.{Asked}
use Rattle.journal_answers.specs.Steps.{Asks, AsksChange, AsksGroup, AsksOther, is_script}

-- neither of two answers is a script
quiet_if : (b : Bool) (x y : Answer) → is_script x.said ≡ false → is_script y.said ≡ false → is_script (if b then x else y).said ≡ false
quiet_if true x y p q = p
quiet_if false x y p q = q

module _ (o : OpenValue) (row : Row) where
  -- a word alone, and with further fields
  one_field : (sync : OpenValue → Answer) (w : Word) → length row ≡ 1 → by_fields sync o row w ≡ by_word sync o row w
  one_field sync w one = ap (λ (n : ℕ). if n == 1 then by_word sync o row w else refusing o (line_fields row (change.FieldCount (length row)))) one

  one_limit : (w : Word) → length row ≡ 1 → limits.by_fields o row w ≡ limits.by_word o w
  one_limit w one = ap (λ (n : ℕ). if n == 1 then limits.by_word o w else Some 0) one

  more_fields : (sync : OpenValue → Answer) (w : Word) → length row ≢ 1 → by_fields sync o row w ≡ refusing o (line_fields row (change.FieldCount (length row)))
  more_fields sync w more = ap (λ (b : Bool). if b then by_word sync o row w else refusing o (line_fields row (change.FieldCount (length row)))) (false_from_ne_true _ (λ e. more (eqb-true (length row) 1 e)))

  pub asks_alone : (w : Word) (x : Asked) → length row ≡ 1 → Asks o row (by_word syncing_view o row w) (by_word syncing o row w) (limits.by_word o w) x → Asks o row (by_fields syncing_view o row w) (by_fields syncing o row w) (limits.by_fields o row w) x
  asks_alone w x one h =
      subst (λ (m : Option ℕ). Asks o row (by_fields syncing_view o row w) (by_fields syncing o row w) m x) (sym (one_limit w one))
      (subst (λ (a : Answer). Asks o row (by_fields syncing_view o row w) a (limits.by_word o w) x) (sym (one_field syncing w one))
      (subst (λ (a : Answer). Asks o row a (by_word syncing o row w) (limits.by_word o w) x) (sym (one_field syncing_view w one)) h))

  pub asks_more : (w : Word) → length row ≢ 1 → AsksOther (by_fields syncing_view o row w) (by_fields syncing o row w)
  asks_more w more = record { alike = more_fields syncing_view w more ∙ sym (more_fields syncing w more); quiet = ap (λ (a : Answer). is_script a.said) (more_fields syncing_view w more) }

  -- the words
  pub asks_begin : AsksOther (by_word syncing_view o row word.Begin) (by_word syncing o row word.Begin)
  asks_begin = record { alike = refl; quiet = quiet_if (in_group o) (refusing o (in_group_fields row)) (beginning o) refl refl }

  pub asks_abort : AsksOther (by_word syncing_view o row word.Abort) (by_word syncing o row word.Abort)
  asks_abort = record { alike = refl; quiet = quiet_if (in_group o) (aborting o) (refusing o (no_group_fields row)) refl refl }

  sync_inside : (sync : OpenValue → Answer) → in_group o ≡ true → by_word sync o row word.Sync ≡ refusing o (in_group_fields row)
  sync_inside sync inside = ap (λ (b : Bool). if b then refusing o (in_group_fields row) else sync o) inside

  pub asks_no_sync : in_group o ≡ true → AsksOther (by_word syncing_view o row word.Sync) (by_word syncing o row word.Sync)
  asks_no_sync inside = record { alike = sync_inside syncing_view inside ∙ sym (sync_inside syncing inside); quiet = ap (λ (a : Answer). is_script a.said) (sync_inside syncing_view inside) }

  pub asks_sync : in_group o ≡ false → by_word syncing_view o row word.Sync ≡ syncing_view o
  asks_sync outside = ap (λ (b : Bool). if b then refusing o (in_group_fields row) else syncing_view o) outside

  broken_quiet : (n : ℕ) → n ≢ 0 → is_script (by_broken o n).said ≡ false
  broken_quiet zero some = absurd (some refl)
  broken_quiet (suc n) some = refl

  pub asks_broken : o.broken ≢ 0 → AsksOther (by_word syncing_view o row word.Commit) (by_word syncing o row word.Commit)
  asks_broken some = record { alike = refl; quiet = quiet_if (in_group o) (by_broken o o.broken) (refusing o (no_group_fields row)) (broken_quiet o.broken some) refl }

  pub asks_no_group : in_group o ≡ false → AsksOther (by_word syncing_view o row word.Commit) (by_word syncing o row word.Commit)
  asks_no_group outside = record { alike = refl; quiet = ap (λ (b : Bool). is_script (if b then by_broken o o.broken else refusing o (no_group_fields row)).said) outside }

  pub asks_group : in_group o ≡ true → o.broken ≡ 0 → AsksGroup o row (by_word syncing_view o row word.Commit) (limits.by_word o word.Commit)
  asks_group inside none = record {
    open_group = inside;
    ends = ap (λ (b : Bool). if b then by_broken o o.broken else refusing o (no_group_fields row)) inside ∙ ap (by_broken o) none;
    bound = ap (λ (b : Bool). if b then None else Some 0) inside;
  }

  -- a change
  by_fault_quiet : (x : Option Refusal) (g : Change) → in_group o ≡ true → is_script (by_fault o g x).said ≡ false
  by_fault_quiet (Some r) g inside = refl
  by_fault_quiet None g inside = ap (λ (b : Bool). is_script (if b then keeping o g else by_view o g (refusal_of (after o.session.catalogue g) o.session.query)).said) inside

  read_quiet : (x : Read) → in_group o ≡ true → is_script (by_change o row x).said ≡ false
  read_quiet (Err f) inside = refl
  read_quiet (Ok g) inside = by_fault_quiet (fault (working o.session) g) g inside

  pub asks_held : in_group o ≡ true → AsksOther (by_change o row (change_of row)) (by_change o row (change_of row))
  asks_held inside = record { alike = refl; quiet = read_quiet (change_of row) inside }

  pub asks_unread : (f : ChangeFault) → IsAnswer (change_of row) (Err f) → f ≢ change.NoMemory → AsksOther (by_change o row (change_of row)) (by_change o row (change_of row))
  asks_unread f h some = record { alike = refl; quiet = ap (λ (x : Read). is_script (by_change o row x).said) (sym (unread (change_of row) f h some)) }

  pub asks_change : (g : Change) → in_group o ≡ false → IsTrue (is_well_formed g) → Ok g ≡ change_of row → AsksChange o row (by_change o row (change_of row)) (limits.by_change o (change_of row)) g
  asks_change g outside formed is =
      let none = none_open o.session.held outside in
      record {
        alone = none;
        formed = formed;
        asks = ap (λ (h : Option (List Change)). unwrap_or h (option_to_list (said_by_row (Ok row)))) none ∙ ap (λ (x : Read). option_to_list (result_ok x)) (sym is);
        judged = ap (by_change o row) (sym is);
        bound = ap (limits.by_change o) (sym is) ∙ ap (λ (b : Bool). if b then Some 0 else session.limit_of o.session g) outside;
      }
