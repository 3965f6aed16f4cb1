use Rattle.std.proofs.Common.{◌≡◌, List, [], ◌∷◌, ◌++◌, Some, None, reverse, refl, sym, ap, ◌∙◌, subst, arith}
use Rattle.ss_text.specs.Texts.{Row}
use Rattle.row_links.specs.AllChains.{AllChained, key_lists}
use Rattle.row_links.specs.Live.{LinkedRows, at_place}
use Rattle.row_links.specs.LinkedFields.{IsLinked, live_of}
use Rattle.row_links.proofs.Halfway.{length-key_lists}
use Rattle.row_links.proofs.Seen.{live_is}
use Rattle.row_links.proofs.Changed.{seen_is, linked_as_seen, linked_added, new_place, enough_keys, reverse_end}
use Rattle.row_links.proofs.linked.Linked.add.Goals as goal
use Rattle.row_links.proofs.linked.Linked.add.Goals.{After-add}
use Rattle.row_links.specs.Chained.{Placed}

pub add-requires-clause-count : goal.add-requires-clause-count
add-requires-clause-count c =
    let f = c.self.inside in
    omega (arith, enough_keys _ f.rows f.chains _ f.waiting.items c.self.invariant, length-key_lists f.keys.items)

linked : (c : After-add) → IsLinked (key_lists c.self.inside.keys.items) c.insert_reserved-place.new.self c.add.new.self c.pop.new.self.items (live_of c.self.inside.rows c.self.inside.chains ++ (c.insert_reserved-place.result, c.in-Some.row) ∷ [])
linked c =
    let f = c.self.inside in
    let keys = key_lists f.keys.items in
    let live = live_of f.rows f.chains in
    let place = c.insert_reserved-place.result in
    let h : IsLinked keys f.rows f.chains (c.pop.new.self.items ++ c.in-Some.row ∷ []) live = subst (λ (ws : List Row). IsLinked keys f.rows f.chains ws live) c.in-Some.ensures.items c.self.invariant in
    let row_is : c.index.result.now ≡ c.in-Some.row = (let e : Some c.index.result.now ≡ Some c.in-Some.row = sym c.index.ensures ∙ c.insert_reserved-place.ensures.updates.changed in cc) in
    linked_added keys f.rows f.chains live c.insert_reserved-place.new.self c.add.new.self place c.in-Some.row c.pop.new.self.items h c.insert_reserved-place.ensures.was_vacant c.insert_reserved-place.ensures.updates c.insert_reserved-place.ensures.len c.insert_reserved-place.ensures.capacity
    (λ es was away once. subst (λ (r : Row). AllChained c.add.new.self keys (es ++ (place, r) ∷ [])) row_is (c.add.ensures.chained es was away once))
    c.add.ensures.room c.add.ensures.count

pub invariant_of-self : goal.invariant_of-self
invariant_of-self c = linked_as_seen _ _ _ _ _ (linked c)

pub returns-in-Some : goal.returns-in-Some
returns-in-Some c =
    let f = c.self.inside in
    let v = c.args.self.now in
    let h = linked c in
    let lives : live_of f.rows f.chains ≡ v.live = ap (λ (x : LinkedRows). x.live) c.self.view_is in
    let waits : reverse f.waiting.items ≡ v.waiting = ap (λ (x : LinkedRows). x.waiting) c.self.view_is in
    record {
      place = c.insert_reserved-place.result;
      is_new = subst (λ (es : Placed). at_place c.insert_reserved-place.result es ≡ None) lives (new_place (key_lists f.keys.items) f.rows f.chains (live_of f.rows f.chains) f.rows f.chains c.insert_reserved-place.result c.in-Some.row f.waiting.items c.insert_reserved-place.ensures.was_vacant c.self.invariant);
      row = c.in-Some.row;
      others = reverse c.pop.new.self.items;
      waited = sym waits ∙ ap reverse c.in-Some.ensures.items ∙ reverse_end c.pop.new.self.items c.in-Some.row;
      added =
          seen_is f.keys.items c.insert_reserved-place.new.self c.add.new.self c.pop.new.self.items _ _ _ (ap (λ (x : LinkedRows). x.keys) c.self.view_is)
          (live_is c.insert_reserved-place.new.self c.add.new.self (key_lists f.keys.items) _ h.stored h.count h.chained ∙ (λ i. lives i ++ (c.insert_reserved-place.result, c.in-Some.row) ∷ [])) refl;
    }
