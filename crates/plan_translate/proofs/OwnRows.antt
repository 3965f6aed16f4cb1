-- The rows that are listed for a plan are those that the law of plans names.
use Rattle.std.proofs.Common.{◌≡◌, ◌<◌, ◌+◌, ℕ, suc, List, [], ◌∷◌, ◌++◌, Bool, true, cond, Vec, length, map, filter, take, get_or, refl, ap, sym, ◌∙◌, subst, arith}
use Rattle.std.specs.List.{slice_get}
use Rattle.std.specs.Global.{Global}
use Rattle.std.proofs.lemmas.List.{length-map, length-take-le, map-append}
use Rattle.ss_text.specs.Texts.{Row}
use Rattle.schema_model.specs.Catalogue.{CatalogueValue}
use Rattle.view_def.specs.Query.{Query}
use Rattle.view_def.specs.Profile.{is_range_over, IsViewOfProfile}
use Rattle.schema_delta.specs.declared.spec.FlatSpec.{FlatSpec}
use Rattle.schema_delta.specs.Flat.{flat}
use Rattle.plan_law.specs.Kinds.{Term, Range}
use Rattle.plan_law.specs.Kinds.range
use Rattle.plan_law.specs.Columns.{header, spec_of}
use Rattle.plan_law.specs.Links.{own_links, own_holds}
use Rattle.plan_law.specs.PlanRows.{specs_from, own_rows, rows_from, first_rows, further_rows}
use Rattle.plan_law.proofs.First.{first_of}
use Rattle.plan_law.proofs.Profile.{ranges}
use Rattle.plan_form.specs.declared.base.Equal.{Equal}
use Rattle.plan_form.specs.Bases.{own_cells, bases_from}
use Rattle.plan_form.proofs.Columns.{own_tested}
use Rattle.plan_translate.specs.Parts.{bases_of, own_tests}
use Rattle.plan_translate.specs.Listed.{rows_passing, own_listed}
use Rattle.plan_translate.proofs.OwnMoves.{own_in}
use Rattle.plan_translate.proofs.Each.{one_more}

rows_own : (q : Query) (h d : List Term) (rows : List Row) → rows_passing (map own_cells (own_links q h d)) rows ≡ filter (own_holds q h d) rows
rows_own q h d [] = refl
rows_own q h d (x ∷ xs) =
    let ts = map own_cells (own_links q h d) in
    ap (λ (b : Bool). cond b (x ∷ rows_passing ts xs) (rows_passing ts xs)) (own_tested x (own_links q h d))
    ∙ ap (λ (l : List Row). cond (own_holds q h d x) (x ∷ l) l) (rows_own q h d xs)

module _ (c : CatalogueValue) where
  listed_from : (q : Query) (ds : List Range) (h : List Term) (k : ℕ) → own_listed c (specs_from q k ds) (map own_in (bases_from q h k ds)) ≡ rows_from c q h k ds
  listed_from q [] h k = refl
  listed_from q (range.Alias j a ∷ ds) h k = listed_from q ds h (suc k)
  listed_from q (d ∷ ds) h k =
      ap (λ (l : List Row). l ∷ own_listed c (specs_from q (suc k) ds) (map own_in (bases_from q (h ++ header q k d) (suc k) ds))) (rows_own q h (header q k d) (flat c (spec_of q k d)))
      ∙ ap (λ (ls : List (List Row)). own_rows c q h k d ∷ ls) (listed_from q ds (h ++ header q k d) (suc k))

  from_first : (q : Query) (d : Range) (ds : List Range) → is_range_over [] d ≡ true → rows_from c q [] 0 (d ∷ ds) ≡ first_rows c q (d ∷ ds) ∷ further_rows c q (d ∷ ds)
  from_first q (range.Alias j a) ds over = cc
  from_first q range.Databases ds over = refl
  from_first q (range.Relations p) ds over = refl
  from_first q (range.Attributes p r) ds over = refl
  from_first q (range.Tuples p r) ds over = refl
  from_first q (range.Values p r a) ds over = refl

  pub listed_first : (q : Query) → IsViewOfProfile q → own_listed c (specs_from q 0 q.decls) (map own_in (bases_of q)) ≡ first_rows c q q.decls ∷ further_rows c q q.decls
  listed_first q profile =
      let b = first_of q profile in
      let over : is_range_over [] b.first ≡ true = ranges q profile 0 b.first (ap (λ (ds : List Range). slice_get ds 0) b.all) in
      listed_from q q.decls [] 0
      ∙ subst (λ (ds : List Range). rows_from c q [] 0 ds ≡ first_rows c q ds ∷ further_rows c q ds) (sym b.all) (from_first q b.first b.rest over)

  -- one list for each
  pub listed_long : (ss : List FlatSpec) (ts : List (List Equal)) → length ss ≡ length ts → length (own_listed c ss ts) ≡ length ts
  listed_long [] [] e = refl
  listed_long [] (t ∷ ts) e = absurd (omega (arith, e))
  listed_long (s ∷ ss) [] e = refl
  listed_long (s ∷ ss) (t ∷ ts) e = ap suc (listed_long ss ts (omega (arith, e)))

  -- one more declaration
  listed_push : (ss : List FlatSpec) (ts : List (List Equal)) (s : FlatSpec) (t : List Equal) → length ss ≡ length ts → own_listed c (ss ++ s ∷ []) (ts ++ t ∷ []) ≡ own_listed c ss ts ++ rows_passing t (flat c s) ∷ []
  listed_push [] [] s t e = refl
  listed_push [] (u ∷ ts) s t e = absurd (omega (arith, e))
  listed_push (r ∷ ss) [] s t e = absurd (omega (arith, e))
  listed_push (r ∷ ss) (u ∷ ts) s t e = ap (λ (l : List (List Row)). rows_passing u (flat c r) ∷ l) (listed_push ss ts s t (omega (arith, e)))

  pub listed_more : (specs : List FlatSpec) (tests : List (Vec Equal Global)) (n : ℕ) (s : FlatSpec) (t : Vec Equal Global) → n < length specs → n < length tests → s ≡ get_or specs n s → t ≡ get_or tests n t
      → own_listed c (take (n + 1) specs) (own_tests (take (n + 1) tests)) ≡ own_listed c (take n specs) (own_tests (take n tests)) ++ rows_passing t.items (flat c s) ∷ []
  listed_more specs tests n s t few lt at is =
      let front = own_tests (take n tests) in
      let one : length (take n specs) ≡ n = length-take-le n specs (omega (arith, few)) in
      let other : length front ≡ n = length-map (take n tests) (λ (v : Vec Equal Global). v.items) ∙ length-take-le n tests (omega (arith, lt)) in
      ap (λ (ss : List FlatSpec). own_listed c ss (own_tests (take (n + 1) tests))) (one_more specs n s few at)
      ∙ ap (λ (l : List (Vec Equal Global)). own_listed c (take n specs ++ s ∷ []) (own_tests l)) (one_more tests n t lt is)
      ∙ ap (λ (l : List (List Equal)). own_listed c (take n specs ++ s ∷ []) l) (map-append (λ (v : Vec Equal Global). v.items) (take n tests) (t ∷ []))
      ∙ listed_push (take n specs) front s t.items (one ∙ sym other)
