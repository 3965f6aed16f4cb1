-- Effects one behind the other: what is there, what is counted and what is printed.
use Rattle.std.proofs.Common.{◌≡◌, ℕ, ◌+◌, List, [], ◌∷◌, ◌++◌, Option, None, Some, refl, sym, ap, ◌∙◌, append-nil, arith}
use Rattle.std.specs.List.{AllByRecursion}
use Rattle.outside.specs.Counts.{risen}
use Rattle.outside.specs.Streams.{with_bytes}
use Rattle.outside.specs.Tree.{Tree}
use Rattle.outside.specs.Effects.{Effect, Write, Remove, Replace, Print, Contents, after, performed}
use Rattle.outside.proofs.EffectLemmas.{with_more}
use Rattle.source_law.specs.Counted.{tree_by, tree_after, counted}
use Rattle.upkeep_law.specs.Given.{IsPrint}
use Rattle.upkeep_law.specs.Promises.{printed_by}

counted_append : (es fs : List Effect) (t : Tree) → counted (es ++ fs) t ≡ counted es t + counted fs (tree_after es t)
counted_append [] fs t = omega arith
counted_append (e ∷ es) fs t = let rest = counted_append es fs (tree_by e t) in omega (arith, rest)

-- effects write, make or remove so many files and folders of a tree
abbrev pub CountsAs : List Effect → Tree → ℕ → Type 0
CountsAs es t n = (w : ℕ) → risen w (counted es t) ≡ risen w n

twice_risen : (w a b : ℕ) → risen w (a + b) ≡ risen (risen w a) b
twice_risen w a b = omega arith

pub counts_then : (es fs : List Effect) (t : Tree) (m n : ℕ) → CountsAs es t m → CountsAs fs (tree_after es t) n → CountsAs (es ++ fs) t (m + n)
counts_then es fs t m n f g w =
    ap (risen w) (counted_append es fs t)
    ∙ twice_risen w (counted es t) (counted fs (tree_after es t))
    ∙ ap (λ (v : ℕ). risen v (counted fs (tree_after es t))) (f w)
    ∙ g (risen w m)
    ∙ sym (twice_risen w m n)

-- what is printed
with_none : (held : Option (List ℕ)) → held ≡ with_bytes [] held
with_none None = refl
with_none (Some h) = ap Some (sym (append-nil h))

pub printed_held : (es : List Effect) (c : Contents) → (performed es c).held ≡ with_bytes (printed_by es) c.held
printed_held [] c = with_none c.held
printed_held (Write folder file bytes ∷ es) c = printed_held es (after (Write folder file bytes) c)
printed_held (Remove folder file ∷ es) c = printed_held es (after (Remove folder file) c)
printed_held (Replace edits ∷ es) c = printed_held es (after (Replace edits) c)
printed_held (Print bytes ∷ es) c = printed_held es (after (Print bytes) c) ∙ with_more bytes (printed_by es) c.held

-- prints leave the tree
pub prints_tree : (es : List Effect) (t : Tree) → AllByRecursion IsPrint es → tree_after es t ≡ t
prints_tree [] t h = refl
prints_tree (Print bytes ∷ es) t h = prints_tree es t h.1
prints_tree (Write folder file bytes ∷ es) t h = absurd h.0
prints_tree (Remove folder file ∷ es) t h = absurd h.0
prints_tree (Replace edits ∷ es) t h = absurd h.0

pub prints_counted : (es : List Effect) (t : Tree) → AllByRecursion IsPrint es → counted es t ≡ 0
prints_counted [] t h = refl
prints_counted (Print bytes ∷ es) t h = let rest = prints_counted es t h.1 in omega (arith, rest)
prints_counted (Write folder file bytes ∷ es) t h = absurd h.0
prints_counted (Remove folder file ∷ es) t h = absurd h.0
prints_counted (Replace edits ∷ es) t h = absurd h.0
