use Rattle.std.proofs.Common.{◌≡◌, ℕ, List, [], Some, IsSome, filter, slice_get, sym, ap, ◌∙◌, subst, arith}
use Rattle.std.proofs.lemmas.Option.{get_or_from_slice_get}
use Rattle.ss_text.specs.Texts.{Row}
use Rattle.slab.specs.Slab.{get}
use Rattle.row_links.specs.Chained.{Placed, IsChained}
use Rattle.row_links.specs.AllChains.{key_lists, marked, by_cells}
use Rattle.row_links.specs.Parts.{cells_at, same_cells}
use Rattle.row_links.specs.Live.{LinkedRows, first_place, following, rows_beside}
use Rattle.row_links.specs.LinkedFields.{IsLinked}
use Rattle.row_links.proofs.Seen.{row_is_stored}
use Rattle.row_links.proofs.Finding.{found_beside, same_mark, key_is, key_in_range, got_at}
use Rattle.row_links.proofs.linked.Linked.beside.Goals as goal

pub index-requires : goal.index-requires
index-requires c =
    let f = c.self.inside in
    let keys : key_lists f.keys.items ≡ c.args.self.now.keys = ap (λ (v : LinkedRows). v.keys) c.self.view_is in
    omega (arith, key_in_range f.keys.items c.args.self.now.keys c.args.key keys c.requires.key, f.keys.ok.0)

pub index-requires-in-Some : goal.index-requires-in-Some
index-requires-in-Some c =
    let f = c.self.inside in
    let keys : key_lists f.keys.items ≡ c.args.self.now.keys = ap (λ (v : LinkedRows). v.keys) c.self.view_is in
    omega (arith, key_in_range f.keys.items c.args.self.now.keys c.args.key keys c.requires.key, f.keys.ok.0)

pub index-requires-in-Some-2 : goal.index-requires-in-Some-2
index-requires-in-Some-2 c =
    let f = c.self.inside in
    let h : IsLinked (key_lists f.keys.items) f.rows f.chains f.waiting.items c.args.self.now.live = subst (λ (es : Placed). IsLinked (key_lists f.keys.items) f.rows f.chains f.waiting.items es) (ap (λ (v : LinkedRows). v.live) c.self.view_is) c.self.invariant in
    subst IsSome (sym (row_is_stored _ _ _ _ _ c.args.place h c.requires.place)) c.requires.place

pub returns-in-Some : goal.returns-in-Some
returns-in-Some c = λ row at.
    let f = c.self.inside in
    let live = c.args.self.now.live in
    let key = c.index.result.now.items in
    let h : IsLinked (key_lists f.keys.items) f.rows f.chains f.waiting.items c.args.self.now.live = subst (λ (es : Placed). IsLinked (key_lists f.keys.items) f.rows f.chains f.waiting.items es) (ap (λ (v : LinkedRows). v.live) c.self.view_is) c.self.invariant in
    let keys : key_lists f.keys.items ≡ c.args.self.now.keys = ap (λ (v : LinkedRows). v.keys) c.self.view_is in
    let key_at : slice_get c.args.self.now.keys c.args.key ≡ Some key = key_is f.keys.items c.args.self.now.keys c.args.key c.index.result.now keys c.requires.key c.index.ensures in
    let key2_at : slice_get c.args.self.now.keys c.args.key ≡ Some c.index-in-Some.result.now.items = key_is f.keys.items c.args.self.now.keys c.args.key c.index-in-Some.result.now keys c.requires.key c.index-in-Some.ensures in
    let same_key : c.index-in-Some.result.now.items ≡ key = cc in
    let chain_at : slice_get f.chains.keyed.items c.args.key ≡ Some c.in-Some.chain.now = got_at f.chains.keyed.items c.deref.result.now c.args.key c.in-Some.chain.now c.deref.ensures.value c.in-Some.ensures.lookup.0 c.in-Some.ensures.lookup.1 in
    let chained : IsChained c.in-Some.chain.now (marked (by_cells f.chains.seed key) live) = h.chained.keyed c.args.key c.in-Some.chain.now key chain_at (subst (λ (ks : List (List ℕ)). slice_get ks c.args.key ≡ Some key) (sym keys) key_at) in
    let stored : get f.rows c.args.place ≡ Some row = row_is_stored _ _ _ _ _ c.args.place h c.requires.place ∙ at in
    let own : c.index-in-Some-2.result.now ≡ row = (let e : Some c.index-in-Some-2.result.now ≡ Some row = sym c.index-in-Some-2.ensures ∙ stored in cc) in
    let found = found_beside f.rows c.in-Some.chain.now (by_cells f.chains.seed key) (λ r. same_cells (cells_at key r) (cells_at key row)) live c.args.place row c.after.result c.seek.result at h.once h.stored h.count chained c.after.ensures
    (λ r e. same_mark f.chains.seed (cells_at key r) (cells_at key row) e)
    (λ m b fs p a s l. c.seek.ensures m b fs p a s l
    ∙ ap (λ (k : List ℕ). first_place (filter (λ (e : ℕ × Row). same_cells (cells_at k e.1) (cells_at c.deref-in-Some-2.result.now c.index-in-Some-2.result.now)) fs)) c.deref-in-Some.ensures.value
    ∙ ap (λ (k : List ℕ). first_place (filter (λ (e : ℕ × Row). same_cells (cells_at key e.1) (cells_at k c.index-in-Some-2.result.now)) fs)) (c.deref-in-Some-2.ensures.value ∙ same_key)
    ∙ ap (λ (r : Row). first_place (rows_beside key r fs)) own) in
    found ∙ ap (λ (k : List ℕ). first_place (rows_beside k row (following c.args.place live))) (sym (get_or_from_slice_get c.args.self.now.keys c.args.key key [] key_at))
