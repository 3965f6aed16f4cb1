use Rattle.std.proofs.Common.{◌≡◌, ◌∷◌, ◌++◌, IsSome, sym, ap, ◌∙◌, subst}
use Rattle.row_links.specs.AllChains.{AllChained, key_lists}
use Rattle.row_links.specs.Live.{LinkedRows, at_place, without_place}
use Rattle.row_links.specs.LinkedFields.{IsLinked, live_of}
use Rattle.row_links.proofs.Seen.{live_is, row_is_stored, some_row, split_at}
use Rattle.row_links.proofs.Changed.{seen_is, linked_as_seen, linked_taken, without_split, enough_keys}
use Rattle.row_links.proofs.linked.Linked.take.Goals as goal
use Rattle.row_links.proofs.linked.Linked.take.Goals.{After-drop-remove}
use Rattle.row_links.specs.Chained.{Placed}

pub remove-requires : goal.remove-requires
remove-requires c =
    let f = c.self.inside in
    let keys = key_lists f.keys.items in
    let live = live_of f.rows f.chains in
    let lives : live ≡ c.args.self.now.live = ap (λ (x : LinkedRows). x.live) c.self.view_is in
    let r = some_row (at_place c.args.place live) (subst (λ (es : Placed). IsSome (at_place c.args.place es)) (sym lives) c.requires) in
    let s = split_at live c.args.place r.0 r.1 in
    (keys, s.earlier, r.0, s.later, subst (AllChained f.chains keys) s.is_split c.self.invariant.chained, enough_keys keys f.rows f.chains live f.waiting.items c.self.invariant)

pub remove-requires-2 : goal.remove-requires-2
remove-requires-2 c =
    let f = c.self.inside in
    let live = live_of f.rows f.chains in
    let lives : live ≡ c.args.self.now.live = ap (λ (x : LinkedRows). x.live) c.self.view_is in
    let some = subst (λ (es : Placed). IsSome (at_place c.args.place es)) (sym lives) c.requires in
    subst IsSome (sym (row_is_stored (key_lists f.keys.items) f.rows f.chains f.waiting.items live c.args.place c.self.invariant some)) some

linked : (c : After-drop-remove) → IsLinked (key_lists c.self.inside.keys.items) c.remove-2.new.self c.remove.new.self c.self.inside.waiting.items (without_place c.args.place (live_of c.self.inside.rows c.self.inside.chains))
linked c =
    let f = c.self.inside in
    let keys = key_lists f.keys.items in
    let live = live_of f.rows f.chains in
    let lives : live ≡ c.args.self.now.live = ap (λ (x : LinkedRows). x.live) c.self.view_is in
    let r = some_row (at_place c.args.place live) (subst (λ (es : Placed). IsSome (at_place c.args.place es)) (sym lives) c.requires) in
    let s = split_at live c.args.place r.0 r.1 in
    let h : IsLinked keys f.rows f.chains f.waiting.items (s.earlier ++ (c.args.place, r.0) ∷ s.later) = subst (IsLinked keys f.rows f.chains f.waiting.items) s.is_split c.self.invariant in
    let left = linked_taken keys f.rows c.remove-2.new.self f.chains c.remove.new.self f.waiting.items c.args.place r.0 s.earlier s.later h c.remove-2.ensures.updates c.remove-2.ensures.len c.remove-2.ensures.capacity
    (c.remove.ensures.chained keys s.earlier r.0 s.later h.chained h.once) c.remove.ensures.room c.remove.ensures.count in
    subst (IsLinked keys c.remove-2.new.self c.remove.new.self f.waiting.items) (sym (ap (without_place c.args.place) s.is_split ∙ without_split c.args.place r.0 s.earlier s.later h.once)) left

pub invariant_of-self : goal.invariant_of-self
invariant_of-self c = linked_as_seen _ _ _ _ _ (linked c)

pub returns : goal.returns
returns c =
    let f = c.self.inside in
    let h = linked c in
    let lives : live_of f.rows f.chains ≡ c.args.self.now.live = ap (λ (x : LinkedRows). x.live) c.self.view_is in
    seen_is f.keys.items c.remove-2.new.self c.remove.new.self f.waiting.items _ _ _ (ap (λ (x : LinkedRows). x.keys) c.self.view_is)
    (live_is c.remove-2.new.self c.remove.new.self (key_lists f.keys.items) _ h.stored h.count h.chained ∙ ap (without_place c.args.place) lives) (ap (λ (x : LinkedRows). x.waiting) c.self.view_is)
