use Rattle.std.specs.Prelude.{Vec, vec_len}
use Rattle.std.specs.Global.{Global}
use Rattle.std.proofs.Common.{◌≡◌, ◌≤◌, ◌<◌, ℕ, length, reverse, sym, ap, ◌∙◌, subst, arith}
use Rattle.std.proofs.lemmas.List.{reverse-reverse}
use Rattle.ss_text.specs.Texts.{Row}
use Rattle.slab.specs.Slab.{Slab, HasRoomFor}
use Rattle.row_links.specs.AllChains.{AllHaveRoom, key_lists}
use Rattle.row_links.specs.Live.{LinkedRows}
use Rattle.row_links.specs.LinkedFields.{IsLinked, live_of}
use Rattle.row_links.proofs.Halfway.{length-key_lists}
use Rattle.row_links.proofs.Seen.{live_is}
use Rattle.row_links.proofs.Changed.{seen_is, linked_as_seen, linked_reserved, enough_keys, no_rows_below, always_on_err}
use Rattle.row_links.proofs.linked.Linked.reserve_moved.Goals as goal
use Rattle.row_links.proofs.linked.Linked.reserve_moved.Goals.{After-from_residual-in_err-reserve-2, After-drop-self-inside}

pub invariant_of-self : goal.invariant_of-self
invariant_of-self c =
    let f = c.self.inside in
    let keys = key_lists f.keys.items in
    let h = c.self.invariant in
    linked_as_seen _ _ _ _ _ (linked_reserved keys f.rows c.reserve.new.self f.chains f.chains f.waiting.items c.clear.new.self.items (live_of f.rows f.chains) h (ap (λ (s : Slab Row). s.slots) c.reserve.ensures.rest_kept) h.chained (omega arith) (enough_keys keys f.rows f.chains _ f.waiting.items h) (λ some. absurd (omega (arith, some, ap length c.clear.ensures.items))))

pub reserve-requires-2 : goal.reserve-requires-2
reserve-requires-2 c =
    let f = c.self.inside in
    omega (arith, enough_keys (key_lists f.keys.items) f.rows f.chains _ f.waiting.items c.self.invariant, length-key_lists f.keys.items, f.keys.ok.0, c.len.ensures)

linked_err : (c : After-from_residual-in_err-reserve-2) → IsLinked (key_lists c.self.inside.keys.items) c.reserve.new.self c.reserve-2.new.self c.clear.new.self.items (live_of c.self.inside.rows c.self.inside.chains)
linked_err c =
    let f = c.self.inside in
    let keys = key_lists f.keys.items in
    let live = live_of f.rows f.chains in
    let h = c.self.invariant in
    let count : c.len.result ≡ length keys = c.len.ensures ∙ f.keys.ok.0 ∙ sym (length-key_lists f.keys.items) in
    linked_reserved keys f.rows c.reserve.new.self f.chains c.reserve-2.new.self f.waiting.items c.clear.new.self.items live h (ap (λ (s : Slab Row). s.slots) c.reserve.ensures.rest_kept)
    (c.reserve-2.ensures.chained keys live (λ lt. no_rows_below keys f.rows f.chains f.waiting.items live h (subst (λ (n : ℕ). length f.chains.keyed.items < n) count lt)) h.chained)
    c.reserve-2.ensures.kept (subst (λ (n : ℕ). length c.reserve-2.new.self.keyed.items ≤ n) count c.reserve-2.ensures.count)
    (λ some. absurd (omega (arith, some, ap length c.clear.ensures.items)))

pub invariant_of-self-in_err-reserve-2 : goal.invariant_of-self-in_err-reserve-2
invariant_of-self-in_err-reserve-2 c = linked_as_seen _ _ _ _ _ (linked_err c)

pub returns-in_err-reserve-2-clause-err : goal.returns-in_err-reserve-2-clause-err
returns-in_err-reserve-2-clause-err c =
    let f = c.self.inside in
    let h = linked_err c in
    always_on_err c.from_residual-in_err-reserve-2.result _
    (seen_is f.keys.items c.reserve.new.self c.reserve-2.new.self c.clear.new.self.items _ _ _ (ap (λ (x : LinkedRows). x.keys) c.self.view_is)
    (live_is c.reserve.new.self c.reserve-2.new.self (key_lists f.keys.items) _ h.stored h.count h.chained ∙ ap (λ (x : LinkedRows). x.live) c.self.view_is)
    (ap reverse c.clear.ensures.items))

linked_ok : (c : After-drop-self-inside) → IsLinked (key_lists c.self.inside.keys.items) c.reserve.new.self c.reserve-2.new.self c.reverse.new.self.items (live_of c.self.inside.rows c.self.inside.chains)
linked_ok c =
    let f = c.self.inside in
    let keys = key_lists f.keys.items in
    let live = live_of f.rows f.chains in
    let h = c.self.invariant in
    let count : c.len.result ≡ length keys = c.len.ensures ∙ f.keys.ok.0 ∙ sym (length-key_lists f.keys.items) in
    let taken : vec_len c.replace-waiting.result ≡ vec_len c.args.rows.now = ap vec_len c.replace-waiting.ensures.value in
    let more : length c.reverse.new.self.items ≡ c.len-more.result = omega (arith, c.reverse.new.self.ok.0, c.reverse.ensures.len, c.len-more.ensures, taken) in
    linked_reserved keys f.rows c.reserve.new.self f.chains c.reserve-2.new.self f.waiting.items c.reverse.new.self.items live h (ap (λ (s : Slab Row). s.slots) c.reserve.ensures.rest_kept)
    (c.reserve-2.ensures.chained keys live (λ lt. no_rows_below keys f.rows f.chains f.waiting.items live h (subst (λ (n : ℕ). length f.chains.keyed.items < n) count lt)) h.chained)
    c.reserve-2.ensures.kept (subst (λ (n : ℕ). length c.reserve-2.new.self.keyed.items ≤ n) count c.reserve-2.ensures.count)
    (λ some. record {
      slots = subst (HasRoomFor c.reserve.new.self) (sym more) c.in_ok-reserve.ensures.room;
      chains = subst (λ (n : ℕ). AllHaveRoom c.reserve-2.new.self n (length c.reverse.new.self.items)) c.capacity-below.ensures.value (subst (AllHaveRoom c.reserve-2.new.self c.capacity-below.result) (sym more) c.in_ok-reserve-2.ensures.room);
      keyed = c.in_ok-reserve-2.ensures.full ∙ count;
    })

pub invariant_of-self-2 : goal.invariant_of-self-2
invariant_of-self-2 c = linked_as_seen _ _ _ _ _ (linked_ok c)

pub returns-clause-ok : goal.returns-clause-ok
returns-clause-ok c =
    let f = c.self.inside in
    let h = linked_ok c in
    seen_is f.keys.items c.reserve.new.self c.reserve-2.new.self c.reverse.new.self.items _ _ _ (ap (λ (x : LinkedRows). x.keys) c.self.view_is)
    (live_is c.reserve.new.self c.reserve-2.new.self (key_lists f.keys.items) _ h.stored h.count h.chained ∙ ap (λ (x : LinkedRows). x.live) c.self.view_is)
    (ap reverse c.reverse.ensures.items ∙ reverse-reverse c.replace-waiting.result.items ∙ ap (λ (rows : Vec Row Global). rows.items) c.replace-waiting.ensures.value)
