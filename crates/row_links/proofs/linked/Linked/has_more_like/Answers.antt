use Rattle.std.proofs.Common.{ℕ, Bool, None, length, nat_lt, ap, sym, ◌∙◌, subst, arith}
use Rattle.ss_text.specs.Texts.{row_eq, Row}
use Rattle.row_links.specs.AllChains.{key_lists, marked, by_row}
use Rattle.row_links.specs.Parts.{whole, same_cells}
use Rattle.row_links.specs.Live.{LinkedRows}
use Rattle.row_links.specs.LinkedFields.{IsLinked}
use Rattle.row_links.specs.Chained.{Placed}
use Rattle.row_links.proofs.Finding.{found_in, same_mark, whole_same, filter_same}
use Rattle.row_links.proofs.linked.Linked.has_more_like.Goals as goal

pub returns : goal.returns
returns c =
    let f = c.self.inside in
    let live = c.args.self.now.live in
    let row = c.args.row.now in
    let tell : Placed → Bool = λ es. nat_lt c.args.count (length es) in
    let h : IsLinked (key_lists f.keys.items) f.rows f.chains f.waiting.items live = subst (λ (es : Placed). IsLinked (key_lists f.keys.items) f.rows f.chains f.waiting.items es) (ap (λ (v : LinkedRows). v.live) c.self.view_is) c.self.invariant in
    found_in (by_row f.chains.seed) c.mark.result tell f.rows f.chains.same.links.items (λ r. same_cells (whole r) (whole row)) None c.first-from.result c.has_more.result live
    c.has_more.ensures
    (λ r e. same_mark f.chains.seed (whole r) (whole row) e ∙ sym c.mark.ensures)
    (h.chained.same c.mark.result).path
    (c.first-from.ensures (marked (by_row f.chains.seed) live) h.chained.same)
    h.stored (omega (arith, h.count))
    ∙ ap tell (filter_same (λ (e : ℕ × Row). same_cells (whole e.1) (whole row)) (λ (e : ℕ × Row). row_eq e.1 row) live (λ e. whole_same e.1 row))
