-- A walk by a loop, and rows read by places.
use Rattle.std.proofs.Common.{◌≡◌, ◌<◌, ℕ, suc, List, [], ◌∷◌, ◌++◌, length, drop, get_or, refl, ap, sym, ◌∙◌, append-nil, append_assoc, drop-cons}
use Rattle.std.specs.Prelude.{zip}
use Rattle.std.specs.Option.{option_and_then}
use Rattle.ss_text.specs.Texts.{Row}
use Rattle.plan_law.specs.Kinds.{Term}
use Rattle.view_def.specs.Query.{Query}
use Rattle.plan_law.specs.Chain.{Joint, Sides, SideMoves, joint_moves, Walks}
use Rattle.plan_law.specs.Columns.{read}
use Rattle.plan_law.specs.Links.{source_of, source_text}
use Rattle.plan_law.proofs.LinkLaws.{read_source}
use Rattle.view_meaning.specs.Operands.{resolved}
use Rattle.schema_delta.specs.Net.{SameNet}
use Rattle.operator_law.specs.declared.delta.Signed.{Signed}

-- what the stages from place i on walk, the whole walks
abbrev pub WalksSoFar : List Joint → List Sides → List Signed → List (List Signed) → ℕ → List Signed → List SideMoves → Type 0
WalksSoFar js ks first nss i ms done = (rest : List SideMoves) (out : List Signed) → Walks (drop i js) (drop i ks) ms (drop i nss) rest out → Walks js ks first nss (done ++ rest) out

-- one more stage
pub walk_more : (js : List Joint) (ks : List Sides) (first : List Signed) (nss : List (List Signed)) (i : ℕ) (ms next : List Signed) (done : List SideMoves) (j : Joint) (k : Sides)
    → WalksSoFar js ks first nss i ms done → i < length js → i < length ks → i < length nss → SameNet (joint_moves (get_or js i j) (get_or ks i k) ms (get_or nss i [])) next
    → WalksSoFar js ks first nss (suc i) next (done ++ record { left = ms; right = get_or nss i [] } ∷ [])
walk_more js ks first nss i ms next done j k so_far a b c net rest out h =
    let p : SideMoves = record { left = ms; right = get_or nss i [] } in
    let w : Walks (drop i js) (drop i ks) ms (drop i nss) (p ∷ rest) out = rw (drop-cons js i j, drop-cons ks i k, drop-cons nss i []) (refl, (next, net, h)) in
    rw (append_assoc done (p ∷ []) rest) (so_far (p ∷ rest) out w)

-- after the last stage

-- a row under terms is read at the first place of a term
pub read_at : (q : Query) (h : List Term) (row : Row) → length row ≡ length h → (t : Term) → read q (zip h row) t ≡ option_and_then (source_text row []) (source_of h [] (resolved q.decls t))
read_at q h row wide t = ap (λ x. read q x t) (sym (append-nil (zip h row))) ∙ read_source q h [] row [] wide refl t
