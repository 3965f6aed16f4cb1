-- What many arrivals come to.
use Rattle.std.proofs.Common.{◌≡◌, ◌∷◌, ◌++◌, ◌∙◌, ℕ, suc, [], Bool, true, false, cond, List, Option, Some, None, Ok, Err, refl, sym, ap, subst}
use Rattle.std.proofs.lemmas.List.{map-append, append-nil}
use Rattle.std.proofs.Common.{append_assoc}
use Rattle.std.proofs.lemmas.Bool.{eqb-true}
use Rattle.std.specs.Prelude.{map, option_map}
use Rattle.ss_text.specs.Texts.{Text}
use Rattle.ss_text.proofs.KeyLemmas.{row_order, equal_itself}
use Rattle.schema_model.specs.Catalogue.{CatalogueValue}
use Rattle.schema_model.specs.Reading.{line_of}
use Rattle.schema_model.specs.declared.change.Change.{Change}
use Rattle.schema_model.proofs.GroupLemmas.{after_last}
use Rattle.apply_law.specs.Standing.{Standing, made}
use Rattle.feed_core.specs.declared.arrival.Arrival.{Arrival}
use Rattle.feed_core.specs.Handled.{Handled}
use Rattle.feed_core.specs.declared.outcome.Outcome.TheVariants as outcome
use Rattle.feed_core.specs.Replies.{ReplyValue, reply_to, standing_by}
use Rattle.feed_core.specs.Arrivals.{count_of, is_fresh, arrivals_of, handled_at, reply_at, same_change, by_handled, answer_to}
use Rattle.feed_core.specs.Numbered.{AreNumbered}
use Rattle.feed_core.specs.Turns.{FeedState, unfed, arrived, fed, all_told, in_turn, changes_of, replies_to, if_accepted, accepted_in, IsKeptReply, AgreesBy, EachAgrees, AreHandled}
use Rattle.feed_core.proofs.KeptLemmas.{numbered_more, handled_more, handled_last}

-- what is handled where an arrival is fresh
abbrev one_of : FeedState → Arrival → Handled
one_of f a = record { arrival = a; reply = reply_to f.standing a.change }

-- those that are handled come in turn
turns : (f : FeedState) (sent : List Arrival) → arrivals_of (fed f sent).handled ≡ in_turn (arrivals_of f.handled) sent
turns f [] = refl
turns f (a ∷ sent) = turns (arrived f a) sent ∙ ap (λ before. in_turn before sent) (by_test (is_fresh (arrivals_of f.handled) a))
  where
    by_test : (b : Bool) → arrivals_of (cond b (f.handled ++ one_of f a ∷ []) f.handled) ≡ cond b (arrivals_of f.handled ++ a ∷ []) (arrivals_of f.handled)
    by_test true = map-append (λ (h : Handled). h.arrival) f.handled (one_of f a ∷ [])
    by_test false = refl

-- of each source they are numbered
numbers : (before sent : List Arrival) → AreNumbered before → AreNumbered (in_turn before sent)
numbers before [] h = h
numbers before (a ∷ sent) h = numbers (cond (is_fresh before a) (before ++ a ∷ []) before) sent (by_test (is_fresh before a) refl)
  where
    by_test : (b : Bool) → is_fresh before a ≡ b → AreNumbered (cond b (before ++ a ∷ []) before)
    by_test true e = numbered_more before a h (eqb-true a.number (suc (count_of a.source before)) e)
    by_test false e = h

-- what stands behind changes that are made or refused one after another
abbrev standing_behind : Standing → List Change → Standing
standing_behind s [] = s
standing_behind s (g ∷ gs) = standing_behind (standing_by (reply_to s g) s g) gs

-- replies and what stands behind some changes and one more
replies_more : (s : Standing) (gs : List Change) (g : Change) → replies_to s (gs ++ g ∷ []) ≡ replies_to s gs ++ reply_to (standing_behind s gs) g ∷ []
replies_more s [] g = refl
replies_more s (x ∷ gs) g = ap (λ rs. reply_to s x ∷ rs) (replies_more (standing_by (reply_to s x) s x) gs g)

stands_more : (s : Standing) (gs : List Change) (g : Change) → standing_behind s (gs ++ g ∷ []) ≡ standing_by (reply_to (standing_behind s gs) g) (standing_behind s gs) g
stands_more s [] g = refl
stands_more s (x ∷ gs) g = stands_more (standing_by (reply_to s x) s x) gs g

-- changes that are accepted, and one more behind them
accepted_more : (hs : List Handled) (h : Handled) → accepted_in (hs ++ h ∷ []) ≡ accepted_in hs ++ if_accepted h.reply h.arrival.change
accepted_more [] h = append-nil (if_accepted h.reply h.arrival.change)
accepted_more (k ∷ hs) h =
    ap (λ gs. if_accepted k.reply k.arrival.change ++ gs) (accepted_more hs h) ∙ sym (append_assoc (if_accepted k.reply k.arrival.change) (accepted_in hs) (if_accepted h.reply h.arrival.change))

-- what one reply makes
makes_one : (s : Standing) (gs : List Change) (r : ReplyValue) (g : Change) → standing_by r (made s gs) g ≡ made s (gs ++ if_accepted r g)
makes_one s gs (Ok lines) g = ap (λ (c : CatalogueValue). record s { catalogue = c }) (sym (after_last s.catalogue gs g))
makes_one s gs (Err e) g = ap (λ hs. made s hs) (sym (append-nil gs))

-- a state is what its changes give one after another
record Gives (s : Standing) (f : FeedState) : Type 0 where
  replies : map (λ (h : Handled). h.reply) f.handled ≡ replies_to s (changes_of (arrivals_of f.handled))
  stands : f.standing ≡ standing_behind s (changes_of (arrivals_of f.handled))
  makes : f.standing ≡ made s (accepted_in f.handled)

gives_more : (s : Standing) (f : FeedState) (a : Arrival) → Gives s f
    → Gives s (record { standing = standing_by (reply_to f.standing a.change) f.standing a.change; handled = f.handled ++ one_of f a ∷ [] })
gives_more s f a h =
    let one : Handled = one_of f a in
    let before : List Change = changes_of (arrivals_of f.handled) in
    let more : changes_of (arrivals_of (f.handled ++ one ∷ [])) ≡ before ++ a.change ∷ [] =
    ap (λ sent. changes_of sent) (map-append (λ (h : Handled). h.arrival) f.handled (one ∷ [])) ∙ map-append (λ (a : Arrival). a.change) (arrivals_of f.handled) (a ∷ []) in
    record {
      replies = map-append (λ (h : Handled). h.reply) f.handled (one ∷ [])
          ∙ ap (λ rs. rs ++ reply_to f.standing a.change ∷ []) h.replies
          ∙ ap (λ t. replies_to s before ++ reply_to t a.change ∷ []) h.stands
          ∙ sym (replies_more s before a.change) ∙ ap (λ gs. replies_to s gs) (sym more);
      stands = ap (λ t. standing_by (reply_to t a.change) t a.change) h.stands ∙ sym (stands_more s before a.change) ∙ ap (λ gs. standing_behind s gs) (sym more);
      makes = ap (λ t. standing_by (reply_to f.standing a.change) t a.change) h.makes
          ∙ makes_one s (accepted_in f.handled) (reply_to f.standing a.change) a.change ∙ ap (λ gs. made s gs) (sym (accepted_more f.handled one));
    }

gives_all : (s : Standing) (f : FeedState) (sent : List Arrival) → Gives s f → Gives s (fed f sent)
gives_all s f [] h = h
gives_all s f (a ∷ sent) h = gives_all s (arrived f a) sent (by_test (is_fresh (arrivals_of f.handled) a))
  where
    by_test : (b : Bool) → Gives s (record { standing = cond b (standing_by (reply_to f.standing a.change) f.standing a.change) f.standing; handled = cond b (f.handled ++ one_of f a ∷ []) f.handled })
    by_test true = gives_more s f a h
    by_test false = h

-- what is kept for a number stays
stays : (f : FeedState) (a : Arrival) (source : Text) (number : ℕ) (h : Handled) → handled_at source number f.handled ≡ Some h → handled_at source number (arrived f a).handled ≡ Some h
stays f a source number h e = by_test (is_fresh (arrivals_of f.handled) a)
  where
    by_test : (b : Bool) → handled_at source number (cond b (f.handled ++ one_of f a ∷ []) f.handled) ≡ Some h
    by_test true = handled_more source number f.handled (one_of f a) h e
    by_test false = e

stays_all : (f : FeedState) (sent : List Arrival) (source : Text) (number : ℕ) (h : Handled) → handled_at source number f.handled ≡ Some h → handled_at source number (fed f sent).handled ≡ Some h
stays_all f [] source number h e = e
stays_all f (a ∷ sent) source number h e = stays_all (arrived f a) sent source number h (stays f a source number h e)

-- what is told agrees with what is handled in the end
agrees : (f : FeedState) (a : Arrival) (sent : List Arrival) → AreNumbered (arrivals_of f.handled)
    → AgreesBy (answer_to f.handled a) (reply_at a.source a.number (arrived f a).handled) (fed (arrived f a) sent).handled a
agrees f a sent numbered = by_test (is_fresh (arrivals_of f.handled) a) refl
  where
    kept : (h : Handled) → handled_at a.source a.number (arrived f a).handled ≡ Some h → handled_at a.source a.number (fed (arrived f a) sent).handled ≡ Some h
    kept h e = stays_all (arrived f a) sent a.source a.number h e

    found : (h : Handled) → handled_at a.source a.number (arrived f a).handled ≡ Some h → same_change a.change h.arrival.change ≡ true
        → IsKeptReply (fed (arrived f a) sent).handled a (reply_at a.source a.number (arrived f a).handled)
    found h e same = record { kept = h; there = kept h e; change = same; reply = ap (λ (o : Option Handled). option_map (λ (h : Handled). h.reply) o) e }

    by_same : (h : Handled) → handled_at a.source a.number (arrived f a).handled ≡ Some h → (b : Bool) → same_change a.change h.arrival.change ≡ b
        → AgreesBy (cond b outcome.Kept outcome.OtherChange) (reply_at a.source a.number (arrived f a).handled) (fed (arrived f a) sent).handled a
    by_same h e true same = found h e same
    by_same h e false same = record { kept = h; there = kept h e; change = same }

    by_found : (arrived f a).handled ≡ f.handled → (o : Option Handled) → handled_at a.source a.number f.handled ≡ o
        → AgreesBy (by_handled a.change (suc (count_of a.source (arrivals_of f.handled))) o) (reply_at a.source a.number (arrived f a).handled) (fed (arrived f a) sent).handled a
    by_found same (Some h) e = by_same h (ap (λ hs. handled_at a.source a.number hs) same ∙ e) (same_change a.change h.arrival.change) refl
    by_found same None e = ap (λ hs. reply_at a.source a.number hs) same ∙ ap (λ (o : Option Handled). option_map (λ (h : Handled). h.reply) o) e

    by_test : (b : Bool) → is_fresh (arrivals_of f.handled) a ≡ b
        → AgreesBy (cond b outcome.Fresh (by_handled a.change (suc (count_of a.source (arrivals_of f.handled))) (handled_at a.source a.number f.handled)))
        (reply_at a.source a.number (arrived f a).handled) (fed (arrived f a) sent).handled a
    by_test true e =
        let next : handled_at a.source a.number (f.handled ++ one_of f a ∷ []) ≡ Some (one_of f a) = handled_last f.handled (one_of f a) numbered (eqb-true a.number (suc (count_of a.source (arrivals_of f.handled))) e) in
        let grown : (arrived f a).handled ≡ f.handled ++ one_of f a ∷ [] = ap (λ (b : Bool). cond b (f.handled ++ one_of f a ∷ []) f.handled) e in
        found (one_of f a) (ap (λ hs. handled_at a.source a.number hs) grown ∙ next) (equal_itself row_order (line_of a.change))
    by_test false e = by_found (ap (λ (b : Bool). cond b (f.handled ++ one_of f a ∷ []) f.handled) e) (handled_at a.source a.number f.handled) refl

numbered_after : (f : FeedState) (a : Arrival) → AreNumbered (arrivals_of f.handled) → AreNumbered (arrivals_of (arrived f a).handled)
numbered_after f a h = subst AreNumbered (sym (turns f (a ∷ []))) (numbers (arrivals_of f.handled) (a ∷ []) h)

all_agree : (f : FeedState) (sent : List Arrival) → AreNumbered (arrivals_of f.handled) → EachAgrees (fed f sent).handled sent (all_told f sent)
all_agree f [] h = tt
all_agree f (a ∷ sent) h = (agrees f a sent h, all_agree (arrived f a) sent (numbered_after f a h))

pub all_handled : (s : Standing) (sent : List Arrival) → AreHandled s sent
all_handled s sent =
    let all : Gives s (fed (unfed s) sent) = gives_all s (unfed s) sent (record { replies = refl; stands = refl; makes = refl }) in
    let turn : arrivals_of (fed (unfed s) sent).handled ≡ in_turn [] sent = turns (unfed s) sent in
    record {
      turn = turn;
      numbered = numbers [] sent (λ source. refl);
      replies = all.replies ∙ ap (λ bs. replies_to s (changes_of bs)) turn;
      stands = all.makes;
      told = all_agree (unfed s) sent (λ source. refl);
    }
