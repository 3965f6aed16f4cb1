-- From what each step of an answer did to what the line asks for.
use Rattle.std.proofs.Common.{◌≡◌, ◌≢◌, ◌∷◌, ◌∙◌, ℕ, [], List, Option, None, Some, refl, sym, ap, subst}
use Rattle.std.specs.Prelude.{Result, Ok, Err, OnOk, is_some, if◌then◌else◌}
use Rattle.ss_text.specs.Texts.{Text, Row}
use Rattle.outside.specs.Effects.{World, contents, performed, Does}
use Rattle.outside.specs.declared.stop.Stop.{Stop}
use Rattle.schema_model.specs.Changes.{after}
use Rattle.schema_model.specs.Refusals.{fault}
use Rattle.schema_model.specs.declared.change.Change.{Change}
use Rattle.schema_model.specs.declared.refusal.Refusal.{Refusal}
use Rattle.flow_law.specs.declared.line.TableLine.{TableLine}
use Rattle.apply_law.specs.declared.refused.GroupRefused.{GroupRefused}
use Rattle.view_session.specs.Session.{working}
use Rattle.ss_print.specs.Fields.{early_fields, other_change_fields}
use Rattle.ss_print.specs.Printing.{refuses, prints_reply, prints_script}
use Rattle.view_stages.specs.Open.{OpenValue}
use Rattle.view_stages.specs.Stages.{refusal_of}
use Rattle.opened_view.specs.Answers.{by_fault, by_view, keeping}
use Rattle.opened_view.proofs.AnswerLemmas.{behind}
use Rattle.feed_core.specs.Arrivals.{handled_at, answer_to}
use Rattle.feed_core.specs.Replies.{ReplyValue}
use Rattle.feed_core.specs.declared.arrival.Arrival.{Arrival}
use Rattle.feed_core.specs.Handled.{Handled}
use Rattle.feed_core.specs.declared.outcome.Outcome.{Outcome}
use Rattle.feed_core.specs.declared.outcome.Outcome.TheVariants.{Fresh, Kept, Early, OtherChange}
use Rattle.feed_answers.specs.Lines.{Said, IsAnswer}
use Rattle.feed_answers.specs.declared.fault.FeedFault.{FeedFault}
use Rattle.feed_answers.specs.declared.fault.FeedFault.TheVariants as line
use Rattle.feed_answers.specs.declared.line.FeedLine.{FeedLine}
use Rattle.feed_answers.specs.declared.line.FeedLine.TheVariants.{Arrives}
use Rattle.feed_answers.specs.declared.view.FeedView.{FeedView}
use Rattle.feed_answers.specs.Answers.{telling, repeating, by_turn, by_line, fed_by, told_by}
use Rattle.feed_answers.specs.Fields.{line_fault_fields, reply_refused_fields}

-- a reply is told behind its source and number
module _ {A : Type 0} (before mid v : World) (r : Result A Stop) (o : OpenValue) (h : Handled) (head : contents mid ≡ performed (prints_reply h.arrival.source h.arrival.number ∷ []) (contents before)) where
  pub script_does : (lines : List TableLine) → h.reply ≡ Ok lines → Does (prints_script lines ∷ []) mid v r → Does (repeating o (Some h)).effects before v r
  script_does lines is d =
      subst (λ (x : ReplyValue). Does (prints_reply h.arrival.source h.arrival.number ∷ (telling o h.arrival.change x).effects) before v r) (sym is)
      (behind (prints_reply h.arrival.source h.arrival.number ∷ []) (prints_script lines ∷ []) before mid v r head d)

  pub refusal_does : (e : GroupRefused) (row : Row) → h.reply ≡ Err e → row ≡ reply_refused_fields h.arrival.change e → Does (refuses row ∷ []) mid v r → Does (repeating o (Some h)).effects before v r
  refusal_does e row is fields d =
      subst (λ (x : ReplyValue). Does (prints_reply h.arrival.source h.arrival.number ∷ (telling o h.arrival.change x).effects) before v r) (sym is)
      (behind (prints_reply h.arrival.source h.arrival.number ∷ []) (refuses (reply_refused_fields h.arrival.change e) ∷ []) before mid v r head (subst (λ (x : Row). Does (refuses x ∷ []) mid v r) fields d))

module _ {A : Type 0} (before v : World) (r : Result A Stop) where
  pub kept_does : (o : OpenValue) (x : Option Handled) (h : Handled) → x ≡ Some h → Does (repeating o (Some h)).effects before v r → Does (repeating o x).effects before v r
  kept_does o x h is d = subst (λ (y : Option Handled). Does (repeating o y).effects before v r) (sym is) d

  -- an answer is told
  pub fresh_does : (f : FeedView) (source : Text) (number : ℕ) (x : Outcome) → x ≡ Fresh → Does (repeating f.view (handled_at source number f.feeds)).effects before v r → Does (told_by f source number x).effects before v r
  fresh_does f source number x is d = subst (λ (y : Outcome). Does (told_by f source number y).effects before v r) (sym is) d

  pub again_does : (f : FeedView) (source : Text) (number : ℕ) (x : Outcome) → x ≡ Kept → Does (repeating f.view (handled_at source number f.feeds)).effects before v r → Does (told_by f source number x).effects before v r
  again_does f source number x is d = subst (λ (y : Outcome). Does (told_by f source number y).effects before v r) (sym is) d

  pub early_does : (f : FeedView) (source : Text) (number want : ℕ) (x : Outcome) (row : Row) → x ≡ Early want → row ≡ early_fields source want → Does (refuses row ∷ []) before v r → Does (told_by f source number x).effects before v r
  early_does f source number want x row is fields d =
      subst (λ (y : Outcome). Does (told_by f source number y).effects before v r) (sym is) (subst (λ (y : Row). Does (refuses y ∷ []) before v r) fields d)

  pub other_does : (f : FeedView) (source : Text) (number : ℕ) (x : Outcome) (row : Row) → x ≡ OtherChange → row ≡ other_change_fields source number → Does (refuses row ∷ []) before v r → Does (told_by f source number x).effects before v r
  other_does f source number x row is fields d =
      subst (λ (y : Outcome). Does (told_by f source number y).effects before v r) (sym is) (subst (λ (y : Row). Does (refuses y ∷ []) before v r) fields d)

  -- a line is answered by what it says
  pub arrival_does : (f : FeedView) (said : Said) (y : FeedLine) (a : Arrival) → Ok y ≡ said → y ≡ Arrives a → Does (by_line f (Ok (Arrives a))).effects before v r → Does (by_line f said).effects before v r
  arrival_does f said y a is arrives d = subst (λ (x : Said). Does (by_line f x).effects before v r) (ap Ok (sym arrives) ∙ is) d

  pub unsaid_does : (f : FeedView) (said : Said) (e : FeedFault) (row : Row) → IsAnswer said (Err e) → e ≢ line.NoMemory → row ≡ line_fault_fields e → Does (refuses row ∷ []) before v r → Does (by_line f said).effects before v r
  unsaid_does f said e row h some fields d =
      subst (λ (x : Said). Does (by_line f x).effects before v r) (unsaid e h some) (subst (λ (y : Row). Does (refuses y ∷ []) before v r) fields d)
    where
      unsaid : (e : FeedFault) → IsAnswer said (Err e) → e ≢ line.NoMemory → Err e ≡ said
      unsaid (line.BadEscape at) h some = h
      unsaid (line.UnknownVerb verb) h some = h
      unsaid (line.FieldCount verb got) h some = h
      unsaid (line.BadNumber number) h some = h
      unsaid line.NoMemory h some = absurd (some refl)

-- no group opens where an arrival is answered
fault_alone : (o : OpenValue) (g : Change) (r : Option Refusal) → o.session.held ≡ None → (by_fault o g r).view.session.held ≡ None
fault_alone o g (Some r) alone = alone
fault_alone o g None alone = by_held o.session.held alone
  where
    by_refusal : (r : Option Row) → (by_view o g r).view.session.held ≡ None
    by_refusal (Some fields) = alone
    by_refusal None = alone

    by_held : (h : Option (List Change)) → h ≡ None → (if is_some h then keeping o g else by_view o g (refusal_of (after o.session.catalogue g) o.session.query)).view.session.held ≡ None
    by_held None e = by_refusal (refusal_of (after o.session.catalogue g) o.session.query)
    by_held (Some gs) e = absurd (cc e)

repeat_alone : (o : OpenValue) (x : Option Handled) → o.session.held ≡ None → (repeating o x).view.session.held ≡ None
repeat_alone o None alone = alone
repeat_alone o (Some h) alone = by_reply h.reply
  where
    by_reply : (r : ReplyValue) → (telling o h.arrival.change r).view.session.held ≡ None
    by_reply (Ok lines) = alone
    by_reply (Err e) = alone

turn_alone : (f : FeedView) (a : Arrival) (x : Outcome) → f.view.session.held ≡ None → (by_turn f a x).view.session.held ≡ None
turn_alone f a Fresh alone = fault_alone f.view a.change (fault (working f.view.session) a.change) alone
turn_alone f a Kept alone = repeat_alone f.view (handled_at a.source a.number f.feeds) alone
turn_alone f a (Early want) alone = alone
turn_alone f a OtherChange alone = alone

pub arrival_alone : {A E : Type 0} (f m : FeedView) (a : Arrival) (r : Result A E) → f.view.session.held ≡ None → OnOk r (m ≡ fed_by f (Ok (Arrives a))) → OnOk r (m.view.session.held ≡ None)
arrival_alone f m a (Ok x) alone is = ap (λ (n : FeedView). n.view.session.held) is ∙ turn_alone f a (answer_to f.feeds a) alone
arrival_alone f m a (Err e) alone is = tt
