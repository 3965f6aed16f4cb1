-- A chain of joins moves by the walk of a change, and keeps its sides.
use Rattle.std.proofs.Common.{List, [], ◌∷◌, arith, subst}
use Rattle.ss_text.specs.Texts.{Row}
use Rattle.plan_law.specs.Chain.{Joint, Sides, SideMoves, joint_rows, joint_moves, chain, Keeps, EachMoved, Walks, Commits}
use Rattle.schema_delta.specs.Net.{SameNet}
use Rattle.operator_law.specs.Bags.{SameBag, MovesBag}
use Rattle.operator_law.specs.declared.delta.Signed.{Signed}
use Rattle.schema_delta.proofs.NetLaw.{moves_net}
use Rattle.join_delta.specs.Joined.{joined, joined_moves}
use Rattle.operator_law.proofs.SignedRows.{moves_filtered}
use Rattle.join_delta.proofs.Bilinear.{moves_joined_kept}

-- one stage
pub joint_moved : (j : Joint) (k : Sides) (xs ys xs' ys' : List Row) (ms ns next : List Signed) → SameBag xs k.left → SameBag ys k.right → MovesBag xs ms xs' → MovesBag ys ns ys' → SameNet (joint_moves j k ms ns) next → MovesBag (joint_rows j xs ys) next (joint_rows j xs' ys')
joint_moved j k xs ys xs' ys' ms ns next l r mx my net =
    moves_net (joint_rows j xs ys) (joint_rows j xs' ys') (joint_moves j k ms ns) next
    (moves_filtered j.passes (joined_moves j.keys k.left k.right ms ns) (joined j.keys xs ys) (joined j.keys xs' ys') (moves_joined_kept j.keys xs ys k.left k.right xs' ys' ms ns l r mx my)) net

-- the whole chain
pub chain_moved : (js : List Joint) (ks : List Sides) (xs xs' : List Row) (yss yss' : List (List Row)) (ms out : List Signed) (nss : List (List Signed)) (ps : List SideMoves)
    → Keeps js xs yss ks → MovesBag xs ms xs' → EachMoved yss nss yss' → Walks js ks ms nss ps out → MovesBag (chain js xs yss) out (chain js xs' yss')
chain_moved [] ks xs xs' yss yss' ms out nss ps keeps mx each walk = subst (λ (ms : List Signed). MovesBag xs ms xs') walk mx
chain_moved (j ∷ js) (k ∷ ks) xs xs' (ys ∷ yss) (ys' ∷ yss') ms out (ns ∷ nss) (p ∷ ps) keeps mx each walk =
    chain_moved js ks (joint_rows j xs ys) (joint_rows j xs' ys') yss yss' walk.1.0 out nss ps keeps.2
    (joint_moved j k xs ys xs' ys' ms ns walk.1.0 keeps.0 keeps.1 mx each.0 walk.1.1) each.1 walk.1.2
chain_moved (j ∷ js) ks xs xs' [] yss' ms out nss ps keeps mx each walk = absurd keeps
chain_moved (j ∷ js) [] xs xs' (ys ∷ yss) yss' ms out nss ps keeps mx each walk = absurd keeps
chain_moved (j ∷ js) (k ∷ ks) xs xs' (ys ∷ yss) yss' ms out [] ps keeps mx each walk = absurd each
chain_moved (j ∷ js) (k ∷ ks) xs xs' (ys ∷ yss) [] ms out (ns ∷ nss) ps keeps mx each walk = absurd each
chain_moved (j ∷ js) (k ∷ ks) xs xs' (ys ∷ yss) (ys' ∷ yss') ms out (ns ∷ nss) [] keeps mx each walk = absurd walk

-- bags that the same moves lead on from one bag are one
same_moved : (xs ls xs' ls' : List Row) (ms : List Signed) → SameBag xs ls → MovesBag xs ms xs' → MovesBag ls ms ls' → SameBag xs' ls'
same_moved xs ls xs' ls' ms same mx ml f = omega (arith, same f, mx f, ml f)

-- after the commit each stage keeps the rows after the change
pub chain_kept : (js : List Joint) (ks ls : List Sides) (xs xs' : List Row) (yss yss' : List (List Row)) (ms out : List Signed) (nss : List (List Signed)) (ps : List SideMoves)
    → Keeps js xs yss ks → MovesBag xs ms xs' → EachMoved yss nss yss' → Walks js ks ms nss ps out → Commits ks ps ls → Keeps js xs' yss' ls
chain_kept [] ks ls xs xs' yss yss' ms out nss ps keeps mx each walk commit = tt
chain_kept (j ∷ js) (k ∷ ks) (l ∷ ls) xs xs' (ys ∷ yss) (ys' ∷ yss') ms out (ns ∷ nss) (p ∷ ps) keeps mx each walk commit =
    let left : MovesBag k.left ms l.left = subst (λ (p : SideMoves). MovesBag k.left p.left l.left) walk.0 commit.0 in
    let right : MovesBag k.right ns l.right = subst (λ (p : SideMoves). MovesBag k.right p.right l.right) walk.0 commit.1 in (
      same_moved xs k.left xs' l.left ms keeps.0 mx left,
      same_moved ys k.right ys' l.right ns keeps.1 each.0 right,
      chain_kept js ks ls (joint_rows j xs ys) (joint_rows j xs' ys') yss yss' walk.1.0 out nss ps keeps.2
          (joint_moved j k xs ys xs' ys' ms ns walk.1.0 keeps.0 keeps.1 mx each.0 walk.1.1) each.1 walk.1.2 commit.2,
    )
chain_kept (j ∷ js) ks ls xs xs' [] yss' ms out nss ps keeps mx each walk commit = absurd keeps
chain_kept (j ∷ js) [] ls xs xs' (ys ∷ yss) yss' ms out nss ps keeps mx each walk commit = absurd keeps
chain_kept (j ∷ js) (k ∷ ks) ls xs xs' (ys ∷ yss) yss' ms out [] ps keeps mx each walk commit = absurd each
chain_kept (j ∷ js) (k ∷ ks) ls xs xs' (ys ∷ yss) [] ms out (ns ∷ nss) ps keeps mx each walk commit = absurd each
chain_kept (j ∷ js) (k ∷ ks) ls xs xs' (ys ∷ yss) (ys' ∷ yss') ms out (ns ∷ nss) [] keeps mx each walk commit = absurd walk
chain_kept (j ∷ js) (k ∷ ks) [] xs xs' (ys ∷ yss) (ys' ∷ yss') ms out (ns ∷ nss) (p ∷ ps) keeps mx each walk commit = absurd commit
