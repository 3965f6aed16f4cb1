use Rattle.std.proofs.Common.{◌≡◌, ◌<◌, ◌++◌, ◌+◌, Some, length, map, drop, sym, ap, subst, ◌∙◌, append-nil, arith, ℕ, Option}
use Rattle.valuation_meaning.specs.Found.{found_at}
use Rattle.valuation_meaning.specs.Indexed.{Indexed, cells_of, places_of, rest_of, IsIndexed, HasText}
use Rattle.valuation_meaning.proofs.IndexLemmas.{cells_long, walked_first, walked_next, has_row, walked}
use Rattle.valuation_meaning.proofs.index.Index.found.Goals as goal

pub loop-next-init : goal.loop-next-init
loop-next-init c =
    let i = c.args.self.now in
    let all = subst (λ (i : Indexed). IsIndexed (cells_of i) c.self.inside.heads.entries c.self.inside.next.items 0) c.self.view_is c.self.invariant.indexed in
    let first = walked_first (cells_of i) c.self.inside.heads.entries c.self.inside.next.items all c.args.text.now c.copied-next.result (c.copied-next.ensures ∙ c.get.ensures.value) in
    record { has = first.0; found = rw c.new-found.ensures.items (ap (map (found_at c.args.lists i.0 c.args.text.now)) first.1) }

pub element-requires : goal.element-requires
element-requires c =
    let i = c.args.self.now in
    let p = c.in-Some.position in
    let all = subst (λ (i : Indexed). IsIndexed (cells_of i) c.self.inside.heads.entries c.self.inside.next.items 0) c.self.view_is c.self.invariant.indexed in
    let has = subst (λ (o : Option ℕ). HasText (cells_of i) c.args.text.now o) c.in-Some.is c.loop-next.invariant.has in
    let within = has_row (cells_of i) c.self.inside.heads.entries c.self.inside.next.items all c.args.text.now p has in
    omega (arith, within, cells_long i.0 i.1)

pub loop-next-smaller : goal.loop-next-smaller
loop-next-smaller c =
    let i = c.args.self.now in
    let t = c.args.text.now in
    let p = c.in-Some.position in
    let all = subst (λ (i : Indexed). IsIndexed (cells_of i) c.self.inside.heads.entries c.self.inside.next.items 0) c.self.view_is c.self.invariant.indexed in
    let has = subst (λ (o : Option ℕ). HasText (cells_of i) t o) c.in-Some.is c.loop-next.invariant.has in
    let on = walked_next (cells_of i) c.self.inside.heads.entries c.self.inside.next.items all t p c.index-next.result.now has c.index-next.ensures in
    let less : length (rest_of (cells_of i) t c.index-next.result.now) < length (rest_of (cells_of i) t (Some p)) = rw on.1 (omega arith) in
    subst (λ (o : Option ℕ). length (rest_of (cells_of i) t c.index-next.result.now) < length (rest_of (cells_of i) t o)) (sym c.in-Some.is) less

pub loop-next-preserved : goal.loop-next-preserved
loop-next-preserved c =
    let i = c.args.self.now in
    let t = c.args.text.now in
    let p = c.in-Some.position in
    let f = found_at c.args.lists i.0 t in
    let all = subst (λ (i : Indexed). IsIndexed (cells_of i) c.self.inside.heads.entries c.self.inside.next.items 0) c.self.view_is c.self.invariant.indexed in
    let has = subst (λ (o : Option ℕ). HasText (cells_of i) t o) c.in-Some.is c.loop-next.invariant.has in
    let on = walked_next (cells_of i) c.self.inside.heads.entries c.self.inside.next.items all t p c.index-next.result.now has c.index-next.ensures in
    let left = subst (λ (o : Option ℕ). c.loop-next.found.items ++ map f (rest_of (cells_of i) t o) ≡ map f (places_of t 0 (cells_of i))) c.in-Some.is c.loop-next.invariant.found in
    record {
      has = on.0;
      found = walked f c.loop-next.found.items c.push.new.self.items (map f (places_of t 0 (cells_of i))) c.element.result p
          (places_of t (p + 1) (drop (p + 1) (cells_of i))) (rest_of (cells_of i) t c.index-next.result.now) c.in_ok-push.ensures.items c.element.ensures on.1 left;
    }

pub returns : goal.returns
returns c =
    let i = c.args.self.now in
    let t = c.args.text.now in
    let f = found_at c.args.lists i.0 t in
    let left = subst (λ (o : Option ℕ). c.loop-next.found.items ++ map f (rest_of (cells_of i) t o) ≡ map f (places_of t 0 (cells_of i))) c.in_default.is c.loop-next.invariant.found in
    sym (append-nil c.loop-next.found.items) ∙ left
