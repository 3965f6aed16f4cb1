use Rattle.std.proofs.Common.{IsSome, sym, ap, ◌∙◌, subst}
use Rattle.row_links.specs.AllChains.{key_lists}
use Rattle.row_links.specs.Live.{LinkedRows}
use Rattle.row_links.specs.LinkedFields.{IsLinked}
use Rattle.row_links.proofs.Seen.{row_is_stored}
use Rattle.row_links.proofs.linked.Linked.row.Goals as goal
use Rattle.row_links.specs.Chained.{Placed}

pub index-requires : goal.index-requires
index-requires c =
    let f = c.self.inside in
    let h : IsLinked (key_lists f.keys.items) f.rows f.chains f.waiting.items c.args.self.now.live = subst (λ (es : Placed). IsLinked (key_lists f.keys.items) f.rows f.chains f.waiting.items es) (ap (λ (v : LinkedRows). v.live) c.self.view_is) c.self.invariant in
    subst IsSome (sym (row_is_stored _ _ _ _ _ c.args.place h c.requires)) c.requires

pub returns : goal.returns
returns c =
    let f = c.self.inside in
    let h : IsLinked (key_lists f.keys.items) f.rows f.chains f.waiting.items c.args.self.now.live = subst (λ (es : Placed). IsLinked (key_lists f.keys.items) f.rows f.chains f.waiting.items es) (ap (λ (v : LinkedRows). v.live) c.self.view_is) c.self.invariant in
    sym (row_is_stored _ _ _ _ _ c.args.place h c.requires) ∙ c.index.ensures
