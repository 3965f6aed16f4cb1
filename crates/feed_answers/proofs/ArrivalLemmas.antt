-- From what was taken of an arrival, and told, to the answer to it.
use Rattle.std.proofs.Common.{◌≡◌, ◌∷◌, ◌++◌, ◌∙◌, suc, Bool, true, false, cond, [], List, Option, None, Some, Ok, Err, refl, sym, ap, subst}
use Rattle.std.specs.Prelude.{Result, OnOk}
use Rattle.ss_text.specs.Texts.{Text}
use Rattle.outside.specs.Effects.{Effect, World, Does}
use Rattle.outside.specs.declared.stop.Stop.{Stop}
use Rattle.schema_model.specs.declared.change.Change.{Change}
use Rattle.view_session.specs.Session.{SessionState, proposing, accepted}
use Rattle.view_session.specs.Verdicts.{standing_of}
use Rattle.ss_print.specs.Printing.{prints_reply}
use Rattle.view_stages.specs.Open.{OpenValue}
use Rattle.opened_view.specs.Answers.{Answer}
use Rattle.opened_view.proofs.AnswerLemmas.{made_moved}
use Rattle.feed_core.specs.Arrivals.{arrivals_of, count_of, is_fresh, handled_at, same_change, by_handled}
use Rattle.feed_core.specs.Replies.{ReplyValue, reply_to, taken_by}
use Rattle.feed_core.specs.declared.arrival.Arrival.{Arrival}
use Rattle.feed_core.specs.Handled.{Handled}
use Rattle.feed_core.specs.declared.outcome.Outcome.{Outcome}
use Rattle.feed_core.specs.declared.outcome.Outcome.TheVariants.{Fresh, Kept, OtherChange}
use Rattle.feed_answers.specs.declared.line.FeedLine.TheVariants.{Arrives}
use Rattle.feed_answers.specs.declared.view.FeedView.{FeedView}
use Rattle.feed_answers.specs.Answers.{handling, telling, repeating, by_turn, by_line, fed_by, told_by}
use Rattle.feed_answers.specs.Steps.{TakesArrival}
use Rattle.feed_answers.proofs.ReplyLemmas.{replied, fresh_is}

-- two answers do the same, and leave the same view
record AreSame (x y : Answer) : Type 0 where
  effects : x.effects ≡ y.effects
  view : x.view ≡ y.view

-- a reply that is told where its change was made
made_same : (o : OpenValue) (g : Change) (r : ReplyValue) → o.session.held ≡ None → o.session.proposed ≡ None → AreSame (telling (record o { session = taken_by proposing accepted r o.session g }) g r) (replied o g r)
made_same o g (Ok lines) alone idle = record { effects = refl; view = ap (λ (s : SessionState). record o { session = s }) (made_moved o.session g alone idle) }
made_same o g (Err e) alone idle = record { effects = refl; view = refl }

module _ (f : FeedView) (a : Arrival) (n : FeedView) (x : Outcome) (took : TakesArrival f a n x) (alone : f.view.session.held ≡ None) where
  abbrev s : SessionState
  s = f.view.session

  abbrev r : ReplyValue
  r = reply_to (standing_of s) a.change

  abbrev one : Handled
  one = record { arrival = a; reply = r }

  abbrev fresh : Bool
  fresh = is_fresh (arrivals_of f.feeds) a

  abbrev again : Outcome
  again = by_handled a.change (suc (count_of a.source (arrivals_of f.feeds))) (handled_at a.source a.number f.feeds)

  abbrev taken : Bool → OpenValue
  taken b = record f.view { session = cond b (taken_by proposing accepted r s a.change) s }

  -- a fresh change
  told_made : AreSame (repeating (taken true) (Some one)) (handling f.view a)
  told_made =
      let same = made_same f.view a.change r alone took.idle in
      let is = fresh_is f.view a.change alone took.stands in
      record {
        effects = ap (λ (es : List Effect). prints_reply a.source a.number ∷ es) (same.effects ∙ ap (λ (y : Answer). y.effects) (sym is));
        view = same.view ∙ ap (λ (y : Answer). y.view) (sym is);
      }

  told_fresh : fresh ≡ true → x ≡ Fresh → AreSame (told_by n a.source a.number Fresh) (handling f.view a)
  told_fresh e is =
      subst (λ (v : OpenValue). AreSame (repeating v (handled_at a.source a.number n.feeds)) (handling f.view a)) (sym (took.view ∙ ap taken e))
      (subst (λ (o : Option Handled). AreSame (repeating (taken true) o) (handling f.view a)) (sym (took.found is)) told_made)

  -- another one leaves all as it was
  stays : fresh ≡ false → n ≡ f
  stays e =
      ap (λ (v : OpenValue). record { view = v; feeds = n.feeds }) (took.view ∙ ap taken e)
      ∙ ap (λ (hs : List Handled). record { view = f.view; feeds = hs }) (took.feeds ∙ ap (λ (b : Bool). cond b (f.feeds ++ one ∷ []) f.feeds) e)

  same_again : (o : Option Handled) → (let y : Outcome = by_handled a.change (suc (count_of a.source (arrivals_of f.feeds))) o in AreSame (told_by f a.source a.number y) (by_turn f a y))
  same_again None = record { effects = refl; view = refl }
  same_again (Some h) = by_same (same_change a.change h.arrival.change)
    where
      by_same : (b : Bool) → (let y : Outcome = cond b Kept OtherChange in AreSame (told_by f a.source a.number y) (by_turn f a y))
      by_same true = record { effects = refl; view = refl }
      by_same false = record { effects = refl; view = refl }

  told_by_turn : (b : Bool) → fresh ≡ b → x ≡ cond b Fresh again → AreSame (told_by n a.source a.number x) (by_turn f a (cond b Fresh again))
  told_by_turn true e is = subst (λ (y : Outcome). AreSame (told_by n a.source a.number y) (handling f.view a)) (sym is) (told_fresh e is)
  told_by_turn false e is =
      subst (λ (y : Outcome). AreSame (told_by n a.source a.number y) (by_turn f a again)) (sym is)
      (subst (λ (m : FeedView). AreSame (told_by m a.source a.number again) (by_turn f a again)) (sym (stays e)) (same_again (handled_at a.source a.number f.feeds)))

  told_same : AreSame (told_by n a.source a.number x) (by_line f (Ok (Arrives a)))
  told_same = told_by_turn fresh refl took.answer

  pub told_does : {A : Type 0} (source : Text) (before v : World) (result : Result A Stop) → source ≡ a.source → Does (told_by n source a.number x).effects before v result → Does (by_line f (Ok (Arrives a))).effects before v result
  told_does source before v result is d =
      subst (λ (es : List Effect). Does es before v result) told_same.effects (subst (λ (q : Text). Does (told_by n q a.number x).effects before v result) is d)

  pub told_fed : {A E : Type 0} (result : Result A E) (source : Text) (m : FeedView) → source ≡ a.source → OnOk result (m.view ≡ (told_by n source a.number x).view) → m.feeds ≡ n.feeds → OnOk result (m ≡ fed_by f (Ok (Arrives a)))
  told_fed (Err e) source m is view handled = tt
  told_fed (Ok y) source m is view handled =
      ap (λ (v : OpenValue). record { view = v; feeds = m.feeds }) (view ∙ ap (λ (q : Text). (told_by n q a.number x).view) is ∙ told_same.view)
      ∙ ap (λ (hs : List Handled). record { view = (by_line f (Ok (Arrives a))).view; feeds = hs }) (handled ∙ took.feeds)
