use Rattle.std.proofs.Common.{◌≡◌, ℕ, List, [], None, Some, slice_get, sym, ap, ◌∙◌, subst, arith}
use Rattle.std.proofs.lemmas.Option.{get_or_from_slice_get}
use Rattle.row_links.specs.Chained.{Placed, IsChained}
use Rattle.row_links.specs.AllChains.{key_lists, marked, by_cells}
use Rattle.row_links.specs.Parts.{whole, cells_at, same_cells}
use Rattle.row_links.specs.Live.{LinkedRows, first_place, rows_with}
use Rattle.row_links.specs.LinkedFields.{IsLinked}
use Rattle.row_links.proofs.Finding.{found_in, same_mark, key_is, key_in_range, got_at}
use Rattle.row_links.proofs.linked.Linked.chain.Goals as goal

pub index-requires : goal.index-requires
index-requires c =
    let f = c.self.inside in
    let keys : key_lists f.keys.items ≡ c.args.self.now.keys = ap (λ (v : LinkedRows). v.keys) c.self.view_is in
    omega (arith, key_in_range f.keys.items c.args.self.now.keys c.args.key keys c.requires, f.keys.ok.0)

pub returns-in-Some : goal.returns-in-Some
returns-in-Some c =
    let f = c.self.inside in
    let live = c.args.self.now.live in
    let value = c.args.value.now in
    let key = c.index.result.now.items in
    let h : IsLinked (key_lists f.keys.items) f.rows f.chains f.waiting.items c.args.self.now.live = subst (λ (es : Placed). IsLinked (key_lists f.keys.items) f.rows f.chains f.waiting.items es) (ap (λ (v : LinkedRows). v.live) c.self.view_is) c.self.invariant in
    let keys : key_lists f.keys.items ≡ c.args.self.now.keys = ap (λ (v : LinkedRows). v.keys) c.self.view_is in
    let key_at : slice_get c.args.self.now.keys c.args.key ≡ Some key = key_is f.keys.items c.args.self.now.keys c.args.key c.index.result.now keys c.requires c.index.ensures in
    let chain_at : slice_get f.chains.keyed.items c.args.key ≡ Some c.in-Some.chain.now = got_at f.chains.keyed.items c.deref.result.now c.args.key c.in-Some.chain.now c.deref.ensures.value c.in-Some.ensures.lookup.0 c.in-Some.ensures.lookup.1 in
    let chained : IsChained c.in-Some.chain.now (marked (by_cells f.chains.seed key) live) = h.chained.keyed c.args.key c.in-Some.chain.now key chain_at (subst (λ (ks : List (List ℕ)). slice_get ks c.args.key ≡ Some key) (sym keys) key_at) in
    let found = found_in (by_cells f.chains.seed key) c.mark.result first_place f.rows c.in-Some.chain.now.links.items (λ r. same_cells (cells_at key r) (whole value)) None c.first.result c.seek.result live
    (λ m b fs p a s l. c.seek.ensures m b fs p a s l ∙ ap (λ (k : List ℕ). first_place (rows_with k value fs)) c.deref-in-Some.ensures.value)
    (λ r e. same_mark f.chains.seed (cells_at key r) (whole value) e ∙ sym c.mark.ensures)
    (chained c.mark.result).path (c.first.ensures (marked (by_cells f.chains.seed key) live) chained) h.stored (omega (arith, h.count)) in
    found ∙ ap (λ (k : List ℕ). first_place (rows_with k value live)) (sym (get_or_from_slice_get c.args.self.now.keys c.args.key key [] key_at))
