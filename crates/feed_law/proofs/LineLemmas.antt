-- The answers to the lines of feeds are such that a view may give.
use Rattle.std.proofs.Common.{◌≡◌, ℕ, Bool, true, false, List, [], ◌∷◌, ◌++◌, Option, None, Some, refl, sym, ap, ◌∙◌, append_assoc, append-nil}
use Rattle.std.specs.Prelude.{Result, Ok, Err, IsTrue, is_some, unwrap_or, if◌then◌else◌, codes}
use Rattle.std.specs.Option.{option_or}
use Rattle.ss_text.specs.Texts.{Text, Row, text_eq}
use Rattle.tab_lines.specs.Spelling.{unspell}
use Rattle.outside.specs.Effects.{Effect}
use Rattle.schema_model.specs.Catalogue.{CatalogueValue}
use Rattle.schema_model.specs.Changes.{after, after_all, is_well_formed}
use Rattle.schema_model.specs.Reading.{Read, change_of}
use Rattle.schema_model.specs.Refusals.{fault}
use Rattle.schema_model.specs.declared.change.Change.{Change}
use Rattle.schema_model.specs.declared.change.ChangeFault.TheVariants as changes
use Rattle.schema_model.specs.declared.refusal.Refusal.{Refusal}
use Rattle.source_law.specs.Synced.{unsaved}
use Rattle.source_law.proofs.FormedLemmas.{formed}
use Rattle.view_session.specs.Session.{working}
use Rattle.course.specs.Answering.{Continues, Ending, ending, follow, course}
use Rattle.ss_print.specs.Fields.{refusal_fields, early_fields, other_change_fields}
use Rattle.view_stages.specs.Open.{OpenValue}
use Rattle.view_stages.specs.Stages.{refusal_of}
use Rattle.view_stages.specs.Syncs.{sync_effects}
use Rattle.opened_view.specs.Answers.{Answer, by_fault, by_view, keeping, refusing, syncing}
use Rattle.upkeep_law.specs.Given.{MayGive, AreGiven}
use Rattle.upkeep_law.specs.Lists.{effects_by, last_shown, last_synced}
use Rattle.upkeep_law.proofs.ListLemmas.{effects_append, shown_append, synced_append, given_append}
use Rattle.feed_core.specs.Arrivals.{handled_at, answer_to}
use Rattle.feed_core.specs.Replies.{ReplyValue}
use Rattle.feed_core.specs.declared.arrival.Arrival.{Arrival}
use Rattle.feed_core.specs.Handled.{Handled}
use Rattle.feed_core.specs.declared.outcome.Outcome.{Outcome}
use Rattle.feed_core.specs.declared.outcome.Outcome.TheVariants.{Fresh, Kept, Early, OtherChange}
use Rattle.feed_answers.specs.Lines.{Said, sync_of, feed_of, by_number, by_read, said_by_row, by_spelling, said_by_line}
use Rattle.feed_answers.specs.declared.fault.FeedFault.TheVariants as line
use Rattle.feed_answers.specs.declared.line.FeedLine.TheVariants.{Sync, Arrives}
use Rattle.feed_answers.specs.declared.view.FeedView.{FeedView}
use Rattle.feed_answers.specs.Answers.{replying, telling, repeating, by_turn, by_line, answer, fed, answers_to, step, finish}
use Rattle.feed_answers.specs.Fields.{line_fault_fields, reply_refused_fields}
use Rattle.feed_law.specs.Promises.{view_behind, all_answers, saved_at_end}

-- the change of an arrival that a line says is well formed
abbrev pub Formed : Said → Type 0
Formed (Ok (Arrives a)) = IsTrue (is_well_formed a.change)
Formed (Ok Sync) = Unit {0}
Formed (Err e) = Unit {0}

either_formed : (b : Bool) (x y : Said) → Formed x → Formed y → Formed (if b then x else y)
either_formed true x y p q = p
either_formed false x y p q = q

numbered_formed : (source text verb : Text) (number : Option ℕ) (row : Row) (r : Read) → change_of row ≡ r → Formed (by_number source text number (by_read verb r))
numbered_formed source text verb None row r is = tt
numbered_formed source text verb (Some n) row (Ok g) is = formed row g is
numbered_formed source text verb (Some n) row (Err changes.UnknownVerb) is = tt
numbered_formed source text verb (Some n) row (Err (changes.FieldCount got)) is = tt
numbered_formed source text verb (Some n) row (Err changes.NoMemory) is = tt

feed_formed : (word : Text) (fields : Row) → Formed (feed_of word fields)
feed_formed word [] = tt
feed_formed word (source ∷ []) = tt
feed_formed word (source ∷ number ∷ []) = tt
feed_formed word (source ∷ number ∷ verb ∷ fields) = numbered_formed source number verb _ (verb ∷ fields) (change_of (verb ∷ fields)) refl

sync_formed : (word : Text) (fields : Row) → Formed (sync_of word fields)
sync_formed word [] = tt
sync_formed word (field ∷ fields) = tt

row_formed : (row : Row) → Formed (said_by_row row)
row_formed [] = tt
row_formed (word ∷ fields) =
    either_formed (text_eq word (codes "sync")) _ _ (sync_formed word fields)
    (either_formed (text_eq word (codes "feed")) (feed_of word fields) (Err (line.UnknownVerb word)) (feed_formed word fields) tt)

spelled_formed : (r : Result Row ℕ) → Formed (by_spelling r)
spelled_formed (Ok row) = row_formed row
spelled_formed (Err at) = tt

pub said_formed : (line : List ℕ) → Formed (said_by_line line)
said_formed line = spelled_formed (unspell line)

-- an answer that a view may give, behind which no group is open
pub record IsGiven (o : OpenValue) (a : Answer) : Type 0 where
  pub may : MayGive true o a a.said
  pub alone : a.view.session.held ≡ None

module _ (o : OpenValue) (alone : o.session.held ≡ None) where
  refused_given : (fields : Row) → IsGiven o (refusing o fields)
  refused_given fields = record { may = record { prints = (tt, tt); alike = record { query = refl; catalogue = refl; changed = refl; synced = refl }; writes = λ t. refl }; alone = alone }

  refused_behind : (a : Arrival) (fields : Row) → IsGiven o (replying a (refusing o fields))
  refused_behind a fields = record { may = record { prints = (tt, (tt, tt)); alike = record { query = refl; catalogue = refl; changed = refl; synced = refl }; writes = λ t. refl }; alone = alone }

  sync_given : IsGiven o (syncing o)
  sync_given = record { may = record { effects = refl; alike = record { query = refl; catalogue = refl; changed = refl; synced = refl }; writes = λ t. refl }; alone = alone }

  -- a fresh change
  module _ (a : Arrival) (well : IsTrue (is_well_formed a.change)) where
    viewed : fault (working o.session) a.change ≡ None → (r : Option Row) → refusal_of (after o.session.catalogue a.change) o.session.query ≡ r → IsGiven o (replying a (by_view o a.change r))
    viewed fits (Some fields) is = refused_behind a fields
    viewed fits None is = record {
      may = record {
        changes = a.change ∷ [];
        formed = (well, tt);
        accepted = ap (λ (r : Option Refusal). option_or r None) (sym (ap (λ (h : Option (List Change)). fault (after_all o.session.catalogue (unwrap_or h [])) a.change) alone) ∙ fits);
        unrefused = is;
        script = refl;
        prints = record { prints = (tt, (tt, tt)); alike = record { query = refl; catalogue = refl; changed = refl; synced = refl }; writes = λ t. refl };
      };
      alone = alone;
    }

    judged : (r : Option Refusal) → fault (working o.session) a.change ≡ r → IsGiven o (replying a (by_fault o a.change r))
    judged (Some r) is = refused_behind a (refusal_fields a.change r)
    judged None is = by_held o.session.held alone
      where
        by_held : (h : Option (List Change)) → h ≡ None → IsGiven o (replying a (if is_some h then keeping o a.change else by_view o a.change (refusal_of (after o.session.catalogue a.change) o.session.query)))
        by_held None e = viewed is (refusal_of (after o.session.catalogue a.change) o.session.query) refl
        by_held (Some gs) e = absurd (cc e)

  -- a reply that is told again
  told_given : (a : Arrival) (g : Change) (r : ReplyValue) → IsGiven o (replying a (telling o g r))
  told_given a g (Ok lines) = record { may = record { prints = (tt, (tt, tt)); alike = record { query = refl; catalogue = refl; changed = refl; synced = refl }; writes = λ t. refl }; alone = alone }
  told_given a g (Err e) = refused_behind a (reply_refused_fields g e)

  repeat_given : (h : Option Handled) → IsGiven o (repeating o h)
  repeat_given (Some h) = told_given h.arrival h.arrival.change h.reply
  repeat_given None = record { may = record { prints = tt; alike = record { query = refl; catalogue = refl; changed = refl; synced = refl }; writes = λ t. refl }; alone = alone }

-- a line
module _ (f : FeedView) (alone : f.view.session.held ≡ None) where
  turn_given : (a : Arrival) → IsTrue (is_well_formed a.change) → (x : Outcome) → IsGiven f.view (by_turn f a x)
  turn_given a well Fresh = judged f.view alone a well (fault (working f.view.session) a.change) refl
  turn_given a well Kept = repeat_given f.view alone (handled_at a.source a.number f.feeds)
  turn_given a well (Early want) = refused_given f.view alone (early_fields a.source want)
  turn_given a well OtherChange = refused_given f.view alone (other_change_fields a.source a.number)

  said_given : (said : Said) → Formed said → IsGiven f.view (by_line f said)
  said_given (Err e) h = refused_given f.view alone (line_fault_fields e)
  said_given (Ok Sync) h = sync_given f.view alone
  said_given (Ok (Arrives a)) h = turn_given a h (answer_to f.feeds a)

  pub line_given : (line : List ℕ) → IsGiven f.view (answer f line)
  line_given line = said_given (said_by_line line) (said_formed line)

pub lines_given : (lines : List (List ℕ)) (f : FeedView) → f.view.session.held ≡ None → AreGiven true f.view (answers_to f lines)
lines_given [] f alone = tt
lines_given (line ∷ lines) f alone =
    let this = line_given f alone line in
    (this.may, lines_given lines (fed f line) this.alone)

-- the view and its feeds behind lines
abbrev pub fed_behind : FeedView → List (List ℕ) → FeedView
fed_behind f [] = f
fed_behind f (line ∷ lines) = fed_behind (fed f line) lines

pub view_is : (lines : List (List ℕ)) (f : FeedView) → (fed_behind f lines).view ≡ view_behind f lines
view_is [] f = refl
view_is (line ∷ lines) f = view_is lines (fed f line)

-- the course over lines is their answers
goes : (lines : List (List ℕ)) (es : List Effect) (f : FeedView) → follow step lines (Continues es f) ≡ Continues (es ++ effects_by (answers_to f lines)) (fed_behind f lines)
goes [] es f = ap (λ (fs : List Effect). Continues fs f) (sym (append-nil es))
goes (line ∷ lines) es f =
    goes lines (es ++ (answer f line).effects) (fed f line)
    ∙ ap (λ (fs : List Effect). Continues fs (fed_behind (fed f line) lines)) (append_assoc es (answer f line).effects (effects_by (answers_to (fed f line) lines)))

pub lines_followed : (lines : List (List ℕ)) (f : FeedView) → follow step lines (Continues [] f) ≡ Continues (effects_by (answers_to f lines)) (fed_behind f lines)
lines_followed lines f = goes lines [] f

pub course_is : (lines : List (List ℕ)) (f : FeedView) → course step finish f lines ≡ record { effects = effects_by (answers_to f lines) ++ sync_effects (view_behind f lines); status = (finish (fed_behind f lines)).status }
course_is lines f =
    ap (ending finish) (lines_followed lines f)
    ∙ ap (λ (o : OpenValue). record { effects = effects_by (answers_to f lines) ++ sync_effects o; status = (finish (fed_behind f lines)).status }) (view_is lines f)

pub all_done : (lines : List (List ℕ)) (f : FeedView) → effects_by (all_answers f lines) ≡ (course step finish f lines).effects
all_done lines f =
    effects_append (answers_to f lines) (syncing (view_behind f lines) ∷ []) ∙ ap (λ (es : List Effect). effects_by (answers_to f lines) ++ es) (append-nil (sync_effects (view_behind f lines)))
    ∙ sym (ap (λ (e : Ending). e.effects) (course_is lines f))

-- a run over lines is given, and what it leaves is synced
behind_alone : (lines : List (List ℕ)) (f : FeedView) → f.view.session.held ≡ None → (view_behind f lines).session.held ≡ None
behind_alone [] f alone = alone
behind_alone (line ∷ lines) f alone = behind_alone lines (fed f line) (line_given f alone line).alone

pub all_given : (lines : List (List ℕ)) (f : FeedView) → f.view.session.held ≡ None → AreGiven true f.view (all_answers f lines)
all_given lines f alone =
    given_append true f.view (answers_to f lines) (syncing (view_behind f lines) ∷ []) (lines_given lines f alone)
    ((sync_given (view_behind f lines) (behind_alone lines f alone)).may, tt)

pub all_shown : (lines : List (List ℕ)) (f : FeedView) (before : CatalogueValue) → last_shown f.view before (all_answers f lines) ≡ (view_behind f lines).session.catalogue
all_shown lines f before = shown_append f.view before (answers_to f lines) (syncing (view_behind f lines) ∷ [])

pub all_synced : (lines : List (List ℕ)) (f : FeedView) → last_synced true f.view (unsaved f.view.session.catalogue) (all_answers f lines) ≡ saved_at_end f lines
all_synced lines f = synced_append true f.view (unsaved f.view.session.catalogue) (answers_to f lines) (syncing (view_behind f lines) ∷ [])
