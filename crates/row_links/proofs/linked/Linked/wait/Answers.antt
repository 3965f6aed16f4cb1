use Rattle.std.specs.Prelude.{Vec}
use Rattle.std.specs.Global.{Global}
use Rattle.std.proofs.Common.{◌≡◌, ◌≤◌, ◌<◌, ◌∷◌, [], ℕ, List, length, reverse, sym, ap, ◌∙◌, subst, arith}
use Rattle.ss_text.specs.Texts.{Row}
use Rattle.slab.specs.Slab.{Slab, HasRoomFor}
use Rattle.row_links.specs.AllChains.{AllHaveRoom, key_lists}
use Rattle.row_links.specs.Live.{LinkedRows}
use Rattle.row_links.specs.LinkedFields.{IsLinked, live_of}
use Rattle.row_links.proofs.Halfway.{length-key_lists}
use Rattle.row_links.proofs.Seen.{live_is}
use Rattle.row_links.proofs.Changed.{seen_is, linked_as_seen, linked_reserved, enough_keys, no_rows_below, always_on_err, reverse_end}
use Rattle.row_links.proofs.linked.Linked.wait.Goals as goal
use Rattle.row_links.proofs.linked.Linked.wait.Goals.{After-drop-waiting-in_err-reserve-2, After-drop-self-inside}

pub invariant_of-self-in_err-reserve : goal.invariant_of-self-in_err-reserve
invariant_of-self-in_err-reserve c =
    let f = c.self.inside in
    let keys = key_lists f.keys.items in
    let h = c.self.invariant in
    let none : c.replace-waiting.new.dest.items ≡ [] = ap (λ (v : Vec Row Global). v.items) c.replace-waiting.ensures.after ∙ c.new.ensures.items in
    linked_as_seen _ _ _ _ _ (linked_reserved keys f.rows c.reserve.new.self f.chains f.chains f.waiting.items c.replace-waiting.new.dest.items (live_of f.rows f.chains) h (ap (λ (s : Slab Row). s.slots) c.reserve.ensures.rest_kept) h.chained (omega arith) (enough_keys keys f.rows f.chains _ f.waiting.items h) (λ some. absurd (omega (arith, some, ap length none))))

pub reserve-requires-2 : goal.reserve-requires-2
reserve-requires-2 c =
    let f = c.self.inside in
    omega (arith, enough_keys (key_lists f.keys.items) f.rows f.chains _ f.waiting.items c.self.invariant, length-key_lists f.keys.items, f.keys.ok.0, c.len.ensures)

linked_err : (c : After-drop-waiting-in_err-reserve-2) → IsLinked (key_lists c.self.inside.keys.items) c.reserve.new.self c.reserve-2.new.self c.replace-waiting.new.dest.items (live_of c.self.inside.rows c.self.inside.chains)
linked_err c =
    let f = c.self.inside in
    let keys = key_lists f.keys.items in
    let live = live_of f.rows f.chains in
    let h = c.self.invariant in
    let none : c.replace-waiting.new.dest.items ≡ [] = ap (λ (v : Vec Row Global). v.items) c.replace-waiting.ensures.after ∙ c.new.ensures.items in
    let count : c.len.result ≡ length keys = c.len.ensures ∙ f.keys.ok.0 ∙ sym (length-key_lists f.keys.items) in
    linked_reserved keys f.rows c.reserve.new.self f.chains c.reserve-2.new.self f.waiting.items c.replace-waiting.new.dest.items live h (ap (λ (s : Slab Row). s.slots) c.reserve.ensures.rest_kept)
    (c.reserve-2.ensures.chained keys live (λ lt. no_rows_below keys f.rows f.chains f.waiting.items live h (subst (λ (n : ℕ). length f.chains.keyed.items < n) count lt)) h.chained)
    c.reserve-2.ensures.kept (subst (λ (n : ℕ). length c.reserve-2.new.self.keyed.items ≤ n) count c.reserve-2.ensures.count)
    (λ some. absurd (omega (arith, some, ap length none)))

pub invariant_of-self-in_err-reserve-2 : goal.invariant_of-self-in_err-reserve-2
invariant_of-self-in_err-reserve-2 c = linked_as_seen _ _ _ _ _ (linked_err c)

pub returns-in_err-reserve-2-clause-err : goal.returns-in_err-reserve-2-clause-err
returns-in_err-reserve-2-clause-err c =
    let f = c.self.inside in
    let h = linked_err c in
    let none : c.replace-waiting.new.dest.items ≡ [] = ap (λ (v : Vec Row Global). v.items) c.replace-waiting.ensures.after ∙ c.new.ensures.items in
    always_on_err c.from_residual-in_err-reserve-2.result _
    (seen_is f.keys.items c.reserve.new.self c.reserve-2.new.self c.replace-waiting.new.dest.items _ _ _ (ap (λ (x : LinkedRows). x.keys) c.self.view_is)
    (live_is c.reserve.new.self c.reserve-2.new.self (key_lists f.keys.items) _ h.stored h.count h.chained ∙ ap (λ (x : LinkedRows). x.live) c.self.view_is)
    (ap reverse none))

linked_ok : (c : After-drop-self-inside) → IsLinked (key_lists c.self.inside.keys.items) c.reserve.new.self c.reserve-2.new.self c.push.new.self.items (live_of c.self.inside.rows c.self.inside.chains)
linked_ok c =
    let f = c.self.inside in
    let keys = key_lists f.keys.items in
    let live = live_of f.rows f.chains in
    let h = c.self.invariant in
    let count : c.len.result ≡ length keys = c.len.ensures ∙ f.keys.ok.0 ∙ sym (length-key_lists f.keys.items) in
    let more : length c.push.new.self.items ≡ c.len-more.result = omega (arith, c.push.new.self.ok.0, c.len-more.ensures) in
    linked_reserved keys f.rows c.reserve.new.self f.chains c.reserve-2.new.self f.waiting.items c.push.new.self.items live h (ap (λ (s : Slab Row). s.slots) c.reserve.ensures.rest_kept)
    (c.reserve-2.ensures.chained keys live (λ lt. no_rows_below keys f.rows f.chains f.waiting.items live h (subst (λ (n : ℕ). length f.chains.keyed.items < n) count lt)) h.chained)
    c.reserve-2.ensures.kept (subst (λ (n : ℕ). length c.reserve-2.new.self.keyed.items ≤ n) count c.reserve-2.ensures.count)
    (λ some. record {
      slots = subst (HasRoomFor c.reserve.new.self) (sym more) c.in_ok-reserve.ensures.room;
      chains = subst (λ (n : ℕ). AllHaveRoom c.reserve-2.new.self n (length c.push.new.self.items)) c.capacity-below.ensures.value (subst (AllHaveRoom c.reserve-2.new.self c.capacity-below.result) (sym more) c.in_ok-reserve-2.ensures.room);
      keyed = c.in_ok-reserve-2.ensures.full ∙ count;
    })

pub invariant_of-self-2 : goal.invariant_of-self-2
invariant_of-self-2 c = linked_as_seen _ _ _ _ _ (linked_ok c)

pub returns-clause-ok : goal.returns-clause-ok
returns-clause-ok c =
    let f = c.self.inside in
    let h = linked_ok c in
    let waited : reverse c.replace-waiting.result.items ≡ c.args.self.now.waiting = ap (λ (rows : Vec Row Global). reverse rows.items) c.replace-waiting.ensures.value ∙ ap (λ (x : LinkedRows). x.waiting) c.self.view_is in
    seen_is f.keys.items c.reserve.new.self c.reserve-2.new.self c.push.new.self.items _ _ _ (ap (λ (x : LinkedRows). x.keys) c.self.view_is)
    (live_is c.reserve.new.self c.reserve-2.new.self (key_lists f.keys.items) _ h.stored h.count h.chained ∙ ap (λ (x : LinkedRows). x.live) c.self.view_is)
    (ap reverse c.in_ok-push.ensures.items ∙ reverse_end c.replace-waiting.result.items c.args.row ∙ ap (λ (ws : List Row). c.args.row ∷ ws) waited)
