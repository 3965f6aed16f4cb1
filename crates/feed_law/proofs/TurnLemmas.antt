-- What the feeds of a view come to over lines.
use Rattle.std.proofs.Common.{◌≡◌, ℕ, suc, Bool, true, false, cond, List, [], ◌∷◌, ◌++◌, Option, None, Some, Ok, Err, refl, sym, ap, ◌∙◌, subst}
use Rattle.std.specs.Prelude.{map, unwrap_or}
use Rattle.std.proofs.lemmas.Bool.{eqb-true}
use Rattle.std.proofs.lemmas.List.{map-append}
use Rattle.ss_text.specs.Texts.{Text}
use Rattle.ss_text.proofs.KeyLemmas.{row_order, equal_itself}
use Rattle.outside.specs.Effects.{Effect}
use Rattle.schema_model.specs.Catalogue.{CatalogueValue}
use Rattle.schema_model.specs.Changes.{after_all}
use Rattle.schema_model.specs.Refusals.{fault}
use Rattle.schema_model.specs.Reading.{line_of}
use Rattle.schema_model.specs.declared.change.Change.{Change}
use Rattle.flow_law.specs.Facts.{illegal, conflict, first_refusal, refusal_by}
use Rattle.flow_law.specs.Tables.{TablesValue}
use Rattle.flow_law.specs.declared.refused.IllegalLabel.{IllegalLabel}
use Rattle.flow_law.specs.declared.refused.Clash.{Clash}
use Rattle.view_meaning.specs.Meaning.{facts, meaning, shape_of}
use Rattle.view_def.specs.Query.{Query}
use Rattle.apply_law.specs.Standing.{Standing}
use Rattle.apply_law.specs.Verdicts.{Verdict, Makes, IsIllegal, Clashes, tables_in}
use Rattle.view_session.specs.Session.{working}
use Rattle.view_session.specs.Verdicts.{standing_of, verdict_of}
use Rattle.ss_print.specs.Fields.{illegal_fields, clash_fields}
use Rattle.ss_print.specs.Printing.{prints_reply}
use Rattle.view_stages.specs.Open.{OpenValue}
use Rattle.view_stages.specs.Stages.{refusal_of}
use Rattle.opened_view.specs.Answers.{Answer, by_fault}
use Rattle.upkeep_law.proofs.GivenLemmas.{first_unrefused}
use Rattle.feed_core.specs.Arrivals.{arrivals_of, count_of, is_fresh, handled_at, same_change, by_handled, answer_to}
use Rattle.feed_core.specs.Numbered.{AreNumbered}
use Rattle.feed_core.specs.Replies.{ReplyValue, reply_to, standing_by}
use Rattle.feed_core.specs.Turns.{FeedState, unfed, arrived, fed as all_fed, in_turn, changes_of, replies_to, accepted_in, AreHandled}
use Rattle.feed_core.specs.declared.arrival.Arrival.{Arrival}
use Rattle.feed_core.specs.Handled.{Handled}
use Rattle.feed_core.specs.declared.outcome.Outcome.{Outcome}
use Rattle.feed_core.specs.declared.outcome.Outcome.TheVariants.{Fresh, Kept, OtherChange}
use Rattle.feed_core.proofs.KeptLemmas.{numbered_more, handled_more, handled_last}
use Rattle.feed_core.proofs.TurnLemmas.{all_handled}
use Rattle.feed_answers.specs.Lines.{Said, said_by_line}
use Rattle.feed_answers.specs.declared.line.FeedLine.TheVariants.{Sync, Arrives}
use Rattle.feed_answers.specs.declared.view.FeedView.{FeedView}
use Rattle.feed_answers.specs.Answers.{handling, telling, repeating, by_turn, by_line, answer, fed_by, fed}
use Rattle.feed_answers.proofs.ReplyLemmas.{replied, fresh_is}
use Rattle.feed_law.specs.Promises.{arrivals_by, arrivals_in, prints_of, reply_effects, GetsReply, IsTold, IsToldBy, EachIsTold, AreFed}
use Rattle.feed_law.proofs.LineLemmas.{line_given, fed_behind}

-- no group is open, and the view is not refused over the catalogue
pub record Stands (o : OpenValue) : Type 0 where
  pub alone : o.session.held ≡ None
  pub unrefused : refusal_of o.session.catalogue o.session.query ≡ None

-- so it has tables
makes : (ts : TablesValue) (i : Option IllegalLabel) (k : Option Clash) → first_refusal illegal_fields clash_fields i k ≡ None
    → (let v : Verdict = unwrap_or (first_refusal IsIllegal Clashes i k) (Makes ts) in v ≡ Makes (tables_in v))
makes ts None None e = refl
makes ts (Some label) k e = absurd (cc e)
makes ts None (Some clash) e = absurd (cc e)

has_tables : (c : CatalogueValue) (q : Query) → refusal_of c q ≡ None → verdict_of q c ≡ Makes (tables_in (verdict_of q c))
unfolding refusal_of refusal_by
has_tables c q e = makes (meaning c q) (illegal (shape_of q) (facts c q)) (conflict (facts c q)) e

-- what a fresh change comes to
fresh : (o : OpenValue) (g : Change) → Stands o → by_fault o g (fault (working o.session) g) ≡ replied o g (reply_to (standing_of o.session) g)
fresh o g h = fresh_is o g h.alone (has_tables o.session.catalogue o.session.query h.unrefused)

-- the state of feeds over a view
abbrev pub state_of : FeedView → FeedState
state_of f = record { standing = standing_of f.view.session; handled = f.feeds }

replied_stands : (o : OpenValue) (g : Change) (r : ReplyValue) → standing_of (replied o g r).view.session ≡ standing_by r (standing_of o.session) g
replied_stands o g (Ok lines) = refl
replied_stands o g (Err e) = refl

repeat_stays : (o : OpenValue) (h : Option Handled) → (repeating o h).view.session ≡ o.session
repeat_stays o None = refl
repeat_stays o (Some h) = by_reply h.reply
  where
    by_reply : (r : ReplyValue) → (telling o h.arrival.change r).view.session ≡ o.session
    by_reply (Ok lines) = refl
    by_reply (Err e) = refl

module _ (f : FeedView) (a : Arrival) where
  abbrev want : ℕ
  want = suc (count_of a.source (arrivals_of f.feeds))

  -- an arrival that is not fresh leaves the session
  again_stays : (o : Option Handled) → (by_turn f a (by_handled a.change want o)).view.session ≡ f.view.session
  again_stays None = refl
  again_stays (Some h) = by_same (same_change a.change h.arrival.change)
    where
      by_same : (b : Bool) → (by_turn f a (cond b Kept OtherChange)).view.session ≡ f.view.session
      by_same true = repeat_stays f.view (handled_at a.source a.number f.feeds)
      by_same false = refl

  turn_stands : Stands f.view → standing_of (by_turn f a (answer_to f.feeds a)).view.session ≡ (arrived (state_of f) a).standing
  turn_stands h = by_test (is_fresh (arrivals_of f.feeds) a)
    where
      by_test : (b : Bool) → standing_of (by_turn f a (cond b Fresh (by_handled a.change want (handled_at a.source a.number f.feeds)))).view.session
          ≡ cond b (standing_by (reply_to (standing_of f.view.session) a.change) (standing_of f.view.session) a.change) (standing_of f.view.session)
      by_test true =
          ap (λ (x : Answer). standing_of x.view.session) (fresh f.view a.change h)
          ∙ replied_stands f.view a.change (reply_to (standing_of f.view.session) a.change)
      by_test false = ap standing_of (again_stays (handled_at a.source a.number f.feeds))

said_state : (f : FeedView) → Stands f.view → (said : Said) → state_of (fed_by f said) ≡ all_fed (state_of f) (arrivals_by said)
said_state f h (Err e) = refl
said_state f h (Ok Sync) = refl
said_state f h (Ok (Arrives a)) = ap (λ (s : Standing). record { standing = s; handled = (arrived (state_of f) a).handled }) (turn_stands f a h)

stands_after : (f : FeedView) (line : List ℕ) → Stands f.view → Stands (fed f line).view
stands_after f line h =
    let this = line_given f h.alone line in
    record { alone = this.alone; unrefused = first_unrefused true f.view (answer f line) this.may h.unrefused }

-- arrivals and more behind them
fed_more : (s : FeedState) (xs ys : List Arrival) → all_fed s (xs ++ ys) ≡ all_fed (all_fed s xs) ys
fed_more s [] ys = refl
fed_more s (a ∷ xs) ys = fed_more (arrived s a) xs ys

pub state_behind : (lines : List (List ℕ)) (f : FeedView) → Stands f.view → state_of (fed_behind f lines) ≡ all_fed (state_of f) (arrivals_in lines)
state_behind [] f h = refl
state_behind (line ∷ lines) f h =
    state_behind lines (fed f line) (stands_after f line h)
    ∙ ap (λ (s : FeedState). all_fed s (arrivals_in lines)) (said_state f h (said_by_line line))
    ∙ sym (fed_more (state_of f) (arrivals_by (said_by_line line)) (arrivals_in lines))

-- what is handled where an arrival is fresh
abbrev one_of : FeedView → Arrival → Handled
one_of f a = record { arrival = a; reply = reply_to (standing_of f.view.session) a.change }

abbrev grown : FeedView → Arrival → Bool → List Handled
grown f a b = cond b (f.feeds ++ one_of f a ∷ []) f.feeds

-- of each source those that are handled are numbered
said_numbered : (f : FeedView) → AreNumbered (arrivals_of f.feeds) → (said : Said) → AreNumbered (arrivals_of (fed_by f said).feeds)
said_numbered f h (Err e) = h
said_numbered f h (Ok Sync) = h
said_numbered f h (Ok (Arrives a)) = by_test (is_fresh (arrivals_of f.feeds) a) refl
  where
    by_test : (b : Bool) → is_fresh (arrivals_of f.feeds) a ≡ b → AreNumbered (arrivals_of (grown f a b))
    by_test true e =
        subst AreNumbered (sym (map-append (λ (k : Handled). k.arrival) f.feeds (one_of f a ∷ [])))
        (numbered_more (arrivals_of f.feeds) a h (eqb-true a.number (suc (count_of a.source (arrivals_of f.feeds))) e))
    by_test false e = h

-- what is kept for a number stays
said_stays : (f : FeedView) (said : Said) (source : Text) (number : ℕ) (k : Handled) → handled_at source number f.feeds ≡ Some k → handled_at source number (fed_by f said).feeds ≡ Some k
said_stays f (Err e) source number k is = is
said_stays f (Ok Sync) source number k is = is
said_stays f (Ok (Arrives a)) source number k is = by_test (is_fresh (arrivals_of f.feeds) a)
  where
    by_test : (b : Bool) → handled_at source number (grown f a b) ≡ Some k
    by_test true = handled_more source number f.feeds (one_of f a) k is
    by_test false = is

stays_behind : (lines : List (List ℕ)) (f : FeedView) (source : Text) (number : ℕ) (k : Handled) → handled_at source number f.feeds ≡ Some k → handled_at source number (fed_behind f lines).feeds ≡ Some k
stays_behind [] f source number k is = is
stays_behind (line ∷ lines) f source number k is = stays_behind lines (fed f line) source number k (said_stays f (said_by_line line) source number k is)

-- what is printed of a reply
reply_printed : (o : OpenValue) (g : Change) (r : ReplyValue) → (replied o g r).effects ≡ prints_of g r ∷ []
reply_printed o g (Ok lines) = refl
reply_printed o g (Err e) = refl

told_printed : (o : OpenValue) (g : Change) (r : ReplyValue) → (telling o g r).effects ≡ prints_of g r ∷ []
told_printed o g (Ok lines) = refl
told_printed o g (Err e) = refl

repeat_printed : (o : OpenValue) (h : Handled) → (repeating o (Some h)).effects ≡ reply_effects h
repeat_printed o h = ap (λ (es : List Effect). prints_reply h.arrival.source h.arrival.number ∷ es) (told_printed o h.arrival.change h.reply)

-- each arrival is told what is kept in the end
module _ (f : FeedView) (h : Stands f.view) (numbered : AreNumbered (arrivals_of f.feeds)) (last : List Handled) (a : Arrival) (stays : (k : Handled) → handled_at a.source a.number (fed_by f (Ok (Arrives a))).feeds ≡ Some k → handled_at a.source a.number last ≡ Some k) where
  abbrev hs : List Handled
  hs = f.feeds

  abbrev one : Handled
  one = one_of f a

  told_fresh : is_fresh (arrivals_of hs) a ≡ true → GetsReply last a (handling f.view a).effects
  told_fresh e = record {
    kept = one;
    there = stays one (ap (λ (b : Bool). handled_at a.source a.number (grown f a b)) e ∙ handled_last hs one numbered (eqb-true a.number (suc (count_of a.source (arrivals_of hs))) e));
    change = equal_itself row_order (line_of a.change);
    printed = ap (λ (es : List Effect). prints_reply a.source a.number ∷ es) (ap (λ (x : Answer). x.effects) (fresh f.view a.change h) ∙ reply_printed f.view a.change one.reply);
  }

  there_still : (k : Handled) → is_fresh (arrivals_of hs) a ≡ false → handled_at a.source a.number hs ≡ Some k → handled_at a.source a.number last ≡ Some k
  there_still k e is = stays k (ap (λ (b : Bool). handled_at a.source a.number (grown f a b)) e ∙ is)

  told_again : is_fresh (arrivals_of hs) a ≡ false → (o : Option Handled) → handled_at a.source a.number hs ≡ o
      → (let x : Outcome = by_handled a.change (suc (count_of a.source (arrivals_of hs))) o in IsTold x last a (by_turn f a x).effects)
  told_again e None is = refl
  told_again e (Some k) is = by_same (same_change a.change k.arrival.change) refl
    where
      by_same : (b : Bool) → same_change a.change k.arrival.change ≡ b → (let x : Outcome = cond b Kept OtherChange in IsTold x last a (by_turn f a x).effects)
      by_same true same = record { kept = k; there = there_still k e is; change = same; printed = ap (λ (o : Option Handled). (repeating f.view o).effects) is ∙ repeat_printed f.view k }
      by_same false same = (record { kept = k; there = there_still k e is; change = same }, refl)

  told_turn : IsTold (answer_to hs a) last a (by_turn f a (answer_to hs a)).effects
  told_turn = by_test (is_fresh (arrivals_of hs) a) refl
    where
      by_test : (b : Bool) → is_fresh (arrivals_of hs) a ≡ b
          → (let x : Outcome = cond b Fresh (by_handled a.change (suc (count_of a.source (arrivals_of hs))) (handled_at a.source a.number hs)) in IsTold x last a (by_turn f a x).effects)
      by_test true e = told_fresh e
      by_test false e = told_again e (handled_at a.source a.number hs) refl

said_told : (f : FeedView) → Stands f.view → AreNumbered (arrivals_of f.feeds) → (last : List Handled) (said : Said)
    → ((source : Text) (number : ℕ) (k : Handled) → handled_at source number (fed_by f said).feeds ≡ Some k → handled_at source number last ≡ Some k) → IsToldBy said f last (by_line f said).effects
said_told f h numbered last (Err e) stays = tt
said_told f h numbered last (Ok Sync) stays = tt
said_told f h numbered last (Ok (Arrives a)) stays = told_turn f h numbered last a (λ k. stays a.source a.number k)

lines_told : (lines : List (List ℕ)) (f : FeedView) → Stands f.view → AreNumbered (arrivals_of f.feeds) → EachIsTold (fed_behind f lines).feeds f lines
lines_told [] f h numbered = tt
lines_told (line ∷ lines) f h numbered = (
  said_told f h numbered (fed_behind (fed f line) lines).feeds (said_by_line line) (stays_behind lines (fed f line)),
  lines_told lines (fed f line) (stands_after f line h) (said_numbered f numbered (said_by_line line)),
)

-- all that the lines come to
pub lines_fed : (lines : List (List ℕ)) (f : FeedView) → Stands f.view → f.feeds ≡ [] → AreFed f lines (fed_behind f lines)
lines_fed lines f h none =
    let s : Standing = standing_of f.view.session in
    let sent : List Arrival = arrivals_in lines in
    let last : FeedView = fed_behind f lines in
    let all : AreHandled s sent = all_handled s sent in
    let state : state_of last ≡ all_fed (unfed s) sent = state_behind lines f h ∙ ap (λ (hs : List Handled). all_fed (record { standing = s; handled = hs }) sent) none in
    let turn : arrivals_of last.feeds ≡ in_turn [] sent = ap (λ (x : FeedState). arrivals_of x.handled) state ∙ all.turn in
    record {
      turn = turn;
      numbered = subst AreNumbered (sym turn) all.numbered;
      replies = ap (λ (x : FeedState). map (λ (k : Handled). k.reply) x.handled) state ∙ all.replies ∙ ap (λ (bs : List Arrival). replies_to s (changes_of bs)) (sym turn);
      catalogue = ap (λ (x : FeedState). x.standing.catalogue) state ∙ ap (λ (x : Standing). x.catalogue) all.stands ∙ ap (λ (x : FeedState). after_all s.catalogue (accepted_in x.handled)) (sym state);
      told = lines_told lines f h (subst (λ (hs : List Handled). AreNumbered (arrivals_of hs)) (sym none) (λ source. refl));
    }
