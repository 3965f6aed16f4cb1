use Rattle.std.proofs.Common.{◌≡◌, Some, ◌∙◌, ◌++◌, ◌∷◌, [], ℕ, suc, List, Bool, true, cond, length, sym, ap, subst, arith}
use Rattle.ss_text.specs.Texts.{Text, text_eq}
use Rattle.feed_core.specs.declared.arrival.Arrival.{Arrival}
use Rattle.feed_core.specs.Handled.{Handled}
use Rattle.std.proofs.lemmas.Bool.{eq-eqb}
use Rattle.feed_core.specs.Replies.{ReplyValue, reply_to}
use Rattle.feed_core.specs.Arrivals.{count_of, arrivals_of, is_fresh, handled_at, handled_after}
use Rattle.feed_core.specs.Kept.{places_in}
use Rattle.feed_core.proofs.KeptLemmas.{kept_same, kept_more, handled_last}
use Rattle.feed_core.proofs.feeds.Feeds.handle.Goals as goal

pub invariant_of-self-in_err-make_room : goal.invariant_of-self-in_err-make_room
invariant_of-self-in_err-make_room g c = rw c.reserve.ensures.items (kept_same c.self.inside.handled.items c.self.inside.places c.make_room.new.places c.self.invariant c.make_room.ensures.same)

pub invariant_of-self-2 : goal.invariant_of-self-2
invariant_of-self-2 g c =
    let hs = c.self.inside.handled.items in
    let room = c.make_room.new.places in
    let a : Arrival = c.args.arrival in
    let k : Handled = c.in_ok-handled.handled in
    let place : c.len-place.result ≡ length hs = omega (arith, c.len-place.ensures, c.reserve.ensures.len, c.self.inside.handled.ok.0) in
    let wanted : a.number ≡ suc (count_of a.source (arrivals_of hs)) = c.requires.next ∙ ap (λ (hs : List Handled). suc (count_of a.source (arrivals_of hs))) (sym c.self.view_is) in
    let next : k.arrival.number ≡ suc (count_of k.arrival.source (arrivals_of hs)) =
    subst (λ (h : Handled). h.arrival.number ≡ suc (count_of h.arrival.source (arrivals_of hs))) (sym c.in_ok-handled.ensures.handled) wanted in
    rw (c.push_reserved.ensures.items, c.reserve.ensures.items)
    (kept_more hs k room c.add_place.new.places (kept_same hs c.self.inside.places room c.self.invariant c.make_room.ensures.same) next
    (λ q. c.add_place.ensures q ∙ ap (λ (t : Text). places_in room q ++ cond (text_eq t q) (c.len-place.result ∷ []) []) c.source.ensures
    ∙ ap (λ (p : ℕ). places_in room q ++ cond (text_eq k.arrival.source q) (p ∷ []) []) place))

pub returns-clause-found : goal.returns-clause-found
returns-clause-found g c =
    let hs = c.self.inside.handled.items in
    let a : Arrival = c.args.arrival in
    let k : Handled = c.in_ok-handled.handled in
    let wanted : a.number ≡ suc (count_of a.source (arrivals_of hs)) = c.requires.next ∙ ap (λ (hs : List Handled). suc (count_of a.source (arrivals_of hs))) (sym c.self.view_is) in
    let next : k.arrival.number ≡ suc (count_of k.arrival.source (arrivals_of hs)) =
    subst (λ (h : Handled). h.arrival.number ≡ suc (count_of h.arrival.source (arrivals_of hs))) (sym c.in_ok-handled.ensures.handled) wanted in
    rw (c.push_reserved.ensures.items, c.reserve.ensures.items)
    (subst (λ (h : Handled). handled_at h.arrival.source h.arrival.number (hs ++ k ∷ []) ≡ Some h) c.in_ok-handled.ensures.handled (handled_last hs k c.self.invariant.numbered next))

pub returns-clause-handled : goal.returns-clause-handled
returns-clause-handled g c =
    let hs = c.self.inside.handled.items in
    let a : Arrival = c.args.arrival in
    let reply : ReplyValue = reply_to (g.A.Applies.state c.args.to.now) c.args.arrival.change in
    let one : Handled = record { arrival = a; reply = reply } in
    let wanted : a.number ≡ suc (count_of a.source (arrivals_of hs)) = c.requires.next ∙ ap (λ (hs : List Handled). suc (count_of a.source (arrivals_of hs))) (sym c.self.view_is) in
    let fresh : is_fresh (arrivals_of hs) a ≡ true = eq-eqb a.number (suc (count_of a.source (arrivals_of hs))) wanted in
    let more : handled_after reply hs a ≡ hs ++ one ∷ [] = ap (λ (b : Bool). cond b (hs ++ one ∷ []) hs) fresh in
    rw (c.push_reserved.ensures.items, c.reserve.ensures.items)
    (ap (λ (h : Handled). hs ++ h ∷ []) c.in_ok-handled.ensures.handled ∙ sym more ∙ ap (λ (xs : List Handled). handled_after reply xs a) c.self.view_is)
