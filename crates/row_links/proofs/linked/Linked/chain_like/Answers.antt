use Rattle.std.proofs.Common.{◌≡◌, ℕ, List, [], None, Some, slice_get, sym, ap, ◌∙◌, subst, arith}
use Rattle.std.proofs.lemmas.Option.{get_or_from_slice_get}
use Rattle.row_links.specs.Links.{IsOnce}
use Rattle.row_links.specs.Chained.{Placed, IsChained, places}
use Rattle.row_links.specs.AllChains.{key_lists, marked, by_cells}
use Rattle.row_links.specs.Parts.{cells_at, same_cells}
use Rattle.row_links.specs.Live.{LinkedRows, first_place, rows_like_at}
use Rattle.row_links.specs.LinkedFields.{IsLinked}
use Rattle.row_links.proofs.Finding.{found_in, same_mark, key_is, key_in_range, got_at}
use Rattle.row_links.proofs.linked.Linked.chain_like.Goals as goal

pub index-requires : goal.index-requires
index-requires c =
    let f = c.self.inside in
    let keys : key_lists f.keys.items ≡ c.args.self.now.keys = ap (λ (v : LinkedRows). v.keys) c.self.view_is in
    omega (arith, key_in_range f.keys.items c.args.self.now.keys c.args.key keys c.requires, f.keys.ok.0)

pub returns-in-Some-clause-found : goal.returns-in-Some-clause-found
returns-in-Some-clause-found c =
    let f = c.self.inside in
    let live = c.args.self.now.live in
    let sought = cells_at c.args.positions.now c.args.row.now in
    let key = c.index.result.now.items in
    let h : IsLinked (key_lists f.keys.items) f.rows f.chains f.waiting.items c.args.self.now.live = subst (λ (es : Placed). IsLinked (key_lists f.keys.items) f.rows f.chains f.waiting.items es) (ap (λ (v : LinkedRows). v.live) c.self.view_is) c.self.invariant in
    let keys : key_lists f.keys.items ≡ c.args.self.now.keys = ap (λ (v : LinkedRows). v.keys) c.self.view_is in
    let key_at : slice_get c.args.self.now.keys c.args.key ≡ Some key = key_is f.keys.items c.args.self.now.keys c.args.key c.index.result.now keys c.requires c.index.ensures in
    let chain_at : slice_get f.chains.keyed.items c.args.key ≡ Some c.in-Some.chain.now = got_at f.chains.keyed.items c.deref.result.now c.args.key c.in-Some.chain.now c.deref.ensures.value c.in-Some.ensures.lookup.0 c.in-Some.ensures.lookup.1 in
    let chained : IsChained c.in-Some.chain.now (marked (by_cells f.chains.seed key) live) = h.chained.keyed c.args.key c.in-Some.chain.now key chain_at (subst (λ (ks : List (List ℕ)). slice_get ks c.args.key ≡ Some key) (sym keys) key_at) in
    let found = found_in (by_cells f.chains.seed key) c.mark.result first_place f.rows c.in-Some.chain.now.links.items (λ r. same_cells (cells_at key r) sought) None c.first.result c.seek.result live
    (λ m b fs p a s l. c.seek.ensures m b fs p a s l ∙ ap (λ (k : List ℕ). first_place (rows_like_at k c.args.positions.now c.args.row.now fs)) c.deref-in-Some.ensures.value)
    (λ r e. same_mark f.chains.seed (cells_at key r) sought e ∙ sym c.mark.ensures)
    (chained c.mark.result).path (c.first.ensures (marked (by_cells f.chains.seed key) live) chained) h.stored (omega (arith, h.count)) in
    found ∙ ap (λ (k : List ℕ). first_place (rows_like_at k c.args.positions.now c.args.row.now live)) (sym (get_or_from_slice_get c.args.self.now.keys c.args.key key [] key_at))

pub returns-in-Some-clause-once : goal.returns-in-Some-clause-once
returns-in-Some-clause-once c =
    subst (λ (es : Placed). IsOnce (places es)) (ap (λ (v : LinkedRows). v.live) c.self.view_is) c.self.invariant.once

pub returns-in-None-clause-once : goal.returns-in-None-clause-once
returns-in-None-clause-once c =
    subst (λ (es : Placed). IsOnce (places es)) (ap (λ (v : LinkedRows). v.live) c.self.view_is) c.self.invariant.once
