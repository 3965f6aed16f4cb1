-- Moves that pass a plan's tests are those of the law, and walk as it says.
use Rattle.std.proofs.Common.{◌≡◌, ◌<◌, ◌≤◌, take, get_or, ℕ, suc, List, [], ◌∷◌, ◌++◌, cond, filter, map, Bool, refl, ap, sym, ◌∙◌, subst, arith, length, true, false}
use Rattle.std.specs.List.{list_all, AllByRecursion}
use Rattle.std.specs.Prelude.{Vec}
use Rattle.std.specs.Global.{Global}
use Rattle.std.proofs.lemmas.List.{length_push, length-map, length-take-le, map-append, take_all}
use Rattle.ss_text.specs.Texts.{Row}
use Rattle.plan_law.specs.Kinds.{Term, Range}
use Rattle.plan_law.specs.Kinds.range
use Rattle.view_def.specs.Query.{Query}
use Rattle.operator_law.specs.declared.delta.Signed.{Signed}
use Rattle.schema_delta.specs.Net.{IsNet}
use Rattle.plan_law.specs.Columns.{header}
use Rattle.plan_law.specs.Links.{own_links, own_holds}
use Rattle.plan_law.specs.PlanMoves.{own_moves, moves_from, first_moves, further_moves}
use Rattle.plan_form.specs.declared.base.Equal.{Equal}
use Rattle.plan_form.specs.Bases.{BaseValue, own_cells, equal_holds, base_form, bases_from}
use Rattle.plan_form.proofs.Columns.{own_tested}
use Rattle.plan_translate.specs.Parts.{bases_of, passing, each_passing, own_tests}
use Rattle.plan_translate.proofs.Bases.{FirstBase}
use Rattle.plan_translate.proofs.Each.{one_more}

passing_own : (q : Query) (h d : List Term) (ms : List Signed) → passing (map own_cells (own_links q h d)) ms ≡ own_moves q h d ms
passing_own q h d [] = refl
passing_own q h d (m ∷ ms) =
    let ts = map own_cells (own_links q h d) in
    ap (λ (b : Bool). cond b (m ∷ passing ts ms) (passing ts ms)) (own_tested m.row (own_links q h d))
    ∙ ap (λ (l : List Signed). cond (own_holds q h d m.row) (m ∷ l) l) (passing_own q h d ms)

abbrev pub own_in : BaseValue → List Equal
own_in b = b.own

each_own : (q : Query) (ds : List Range) (h : List Term) (k : ℕ) (mss : List (List Signed)) → each_passing (map own_in (bases_from q h k ds)) mss ≡ moves_from q h k ds mss
each_own q [] h k mss = refl
each_own q (range.Alias j a ∷ ds) h k mss = each_own q ds h (suc k) mss
each_own q (d ∷ ds) h k [] = refl
each_own q (d ∷ ds) h k (ms ∷ mss) =
    ap (λ (l : List Signed). l ∷ each_passing (map own_in (bases_from q (h ++ header q k d) (suc k) ds)) mss) (passing_own q h (header q k d) ms)
    ∙ ap (λ (ls : List (List Signed)). own_moves q h (header q k d) ms ∷ ls) (each_own q ds (h ++ header q k d) (suc k) mss)

-- the moves of the first declaration, and those of the others
abbrev AreOwn : Query → List Range → List (List Signed) → List (List Signed) → Type 0
AreOwn q ds nets all = all ≡ first_moves q ds nets ∷ further_moves q ds nets

module _ (q : Query) (b : FirstBase q) where
  own_first : (nets : List (List Signed)) → 1 ≤ length nets → AreOwn q (b.first ∷ b.rest) nets (each_passing (map own_in (base_form q [] 0 b.first ∷ bases_from q (header q 0 b.first) 1 b.rest)) nets)
  own_first [] some = absurd (omega (arith, some))
  own_first (ms ∷ mss) some =
      let h = header q 0 b.first in
      ap (λ (l : List Signed). l ∷ each_passing (map own_in (bases_from q h 1 b.rest)) mss) (passing_own q [] h ms)
      ∙ ap (λ (ls : List (List Signed)). own_moves q [] h ms ∷ ls) (each_own q b.rest h 1 mss)

  pub own_split : (tests : List (List Equal)) → tests ≡ map own_in (bases_of q) → (nets : List (List Signed)) → 1 ≤ length nets → AreOwn q q.decls nets (each_passing tests nets)
  own_split tests are nets some =
      ap (λ (ts : List (List Equal)). each_passing ts nets) (are ∙ ap (map own_in) b.bases)
      ∙ subst (λ (ds : List Range). AreOwn q ds nets (each_passing (map own_in (base_form q [] 0 b.first ∷ bases_from q (header q 0 b.first) 1 b.rest)) nets)) (sym b.all) (own_first nets some)

-- and those that pass stay so
filter_net : (comes p : Row → Bool) (ms : List Signed) → AllByRecursion (λ (m : Signed). comes m.row ≡ m.up) ms → AllByRecursion (λ (m : Signed). comes m.row ≡ m.up) (filter (λ (m : Signed). p m.row) ms)
filter_net comes p [] h = tt
filter_net comes p (m ∷ ms) h = one (p m.row) (filter_net comes p ms h.1)
  where
    one : (b : Bool) → AllByRecursion (λ (m : Signed). comes m.row ≡ m.up) (filter (λ (m : Signed). p m.row) ms)
        → AllByRecursion (λ (m : Signed). comes m.row ≡ m.up) (cond b (m ∷ filter (λ (m : Signed). p m.row) ms) (filter (λ (m : Signed). p m.row) ms))
    one true rest = (h.0, rest)
    one false rest = rest

passing_net : (ts : List Equal) (ms : List Signed) → IsNet ms → IsNet (passing ts ms)
passing_net ts ms net = record { comes = net.comes; tells = filter_net net.comes (λ row. list_all (equal_holds row) ts) ms net.tells }

pub each_net : (tss : List (List Equal)) (mss : List (List Signed)) → AllByRecursion IsNet mss → AllByRecursion IsNet (each_passing tss mss)
each_net [] mss h = tt
each_net (ts ∷ tss) [] h = tt
each_net (ts ∷ tss) (ms ∷ mss) h = (passing_net ts ms h.0, each_net tss mss h.1)

-- one for each
pub each_long : (tss : List (List Equal)) (mss : List (List Signed)) → length mss ≡ length tss → length (each_passing tss mss) ≡ length tss
each_long [] mss e = refl
each_long (ts ∷ tss) [] e = absurd (omega (arith, e))
each_long (ts ∷ tss) (ms ∷ mss) e = ap suc (each_long tss mss (omega (arith, e)))

each_push : (tss : List (List Equal)) (mss : List (List Signed)) (ts : List Equal) (ms : List Signed) → length mss ≡ length tss
    → each_passing (tss ++ ts ∷ []) (mss ++ ms ∷ []) ≡ each_passing tss mss ++ passing ts ms ∷ []
each_push [] [] ts ms e = refl
each_push [] (m ∷ mss) ts ms e = absurd (omega (arith, e))
each_push (t ∷ tss) [] ts ms e = absurd (omega (arith, e))
each_push (t ∷ tss) (m ∷ mss) ts ms e = ap (λ (l : List (List Signed)). passing t m ∷ l) (each_push tss mss ts ms (omega (arith, e)))

pub each_more : (tests : List (Vec Equal Global)) (mss : List (List Signed)) (t : Vec Equal Global) (ms : List Signed) → length mss < length tests → t ≡ get_or tests (length mss) t
    → each_passing (own_tests (take (length (mss ++ ms ∷ [])) tests)) (mss ++ ms ∷ []) ≡ each_passing (own_tests (take (length mss) tests)) mss ++ passing t.items ms ∷ []
each_more tests mss t ms lt is =
    let n = length mss in
    let front = own_tests (take n tests) in
    let long : length mss ≡ length front = omega (arith, length-map (take n tests) (λ (v : Vec Equal Global). v.items), length-take-le n tests (omega (arith, lt))) in
    ap (λ (k : ℕ). each_passing (own_tests (take k tests)) (mss ++ ms ∷ [])) (length_push mss ms)
    ∙ ap (λ (l : List (Vec Equal Global)). each_passing (own_tests l) (mss ++ ms ∷ [])) (one_more tests n t lt is)
    ∙ ap (λ (l : List (List Equal)). each_passing l (mss ++ ms ∷ [])) (map-append (λ (v : Vec Equal Global). v.items) (take n tests) (t ∷ []))
    ∙ each_push front mss t.items ms long

pub each_done : (tests : List (Vec Equal Global)) (mss all : List (List Signed)) → mss ≡ all → length all ≡ length tests → each_passing (own_tests (take (length mss) tests)) mss ≡ each_passing (own_tests tests) all
each_done tests mss all e long =
    ap (λ (l : List (Vec Equal Global)). each_passing (own_tests l) mss) (take_all (length mss) tests (omega (arith, ap length e, long)))
    ∙ ap (each_passing (own_tests tests)) e
