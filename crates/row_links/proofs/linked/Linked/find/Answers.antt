use Rattle.std.proofs.Common.{ℕ, None, sym, ap, ◌∙◌, subst, arith}
use Rattle.ss_text.specs.Texts.{Row, row_eq}
use Rattle.row_links.specs.AllChains.{key_lists, marked, by_row}
use Rattle.row_links.specs.Parts.{whole, same_cells}
use Rattle.row_links.specs.Live.{LinkedRows, first_place}
use Rattle.row_links.specs.LinkedFields.{IsLinked}
use Rattle.row_links.specs.Links.{IsOnce}
use Rattle.row_links.specs.Chained.{Placed, places}
use Rattle.row_links.proofs.Finding.{found_in, same_mark, whole_same, filter_same}
use Rattle.row_links.proofs.linked.Linked.find.Goals as goal

pub returns-clause-found : goal.returns-clause-found
returns-clause-found c =
    let f = c.self.inside in
    let live = c.args.self.now.live in
    let row = c.args.row.now in
    let h : IsLinked (key_lists f.keys.items) f.rows f.chains f.waiting.items c.args.self.now.live = subst (λ (es : Placed). IsLinked (key_lists f.keys.items) f.rows f.chains f.waiting.items es) (ap (λ (v : LinkedRows). v.live) c.self.view_is) c.self.invariant in
    found_in (by_row f.chains.seed) c.mark.result first_place f.rows f.chains.same.links.items (λ r. same_cells (whole r) (whole row)) None c.first-from.result c.seek.result live
    c.seek.ensures
    (λ r e. same_mark f.chains.seed (whole r) (whole row) e ∙ sym c.mark.ensures)
    (h.chained.same c.mark.result).path
    (c.first-from.ensures (marked (by_row f.chains.seed) live) h.chained.same)
    h.stored (omega (arith, h.count))
    ∙ ap first_place (filter_same (λ (e : ℕ × Row). same_cells (whole e.1) (whole row)) (λ (e : ℕ × Row). row_eq e.1 row) live (λ e. whole_same e.1 row))

pub returns-clause-once : goal.returns-clause-once
returns-clause-once c =
    let f = c.self.inside in
    subst (λ (es : Placed). IsOnce (places es)) (ap (λ (v : LinkedRows). v.live) c.self.view_is) c.self.invariant.once
