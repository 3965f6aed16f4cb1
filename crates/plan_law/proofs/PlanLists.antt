-- The plan's rows give the facts of the view.
use Rattle.std.proofs.Common.{◌≡◌, ◌⊎◌, inl, inr, subst, ℕ, suc, List, [], ◌∷◌, ◌++◌, length, map, filter, Bool, true, false, not, cond, refl, arith, ap, sym, ◌∙◌, Option, Some, None, append-nil, append_assoc}
use Rattle.std.specs.Prelude.{zip, position, fold}
use Rattle.std.specs.List.{list_all, filter_map, AllByRecursion}
use Rattle.std.proofs.lemmas.Bool.{and_from}
use Rattle.ss_text.specs.Texts.{Row}
use Rattle.schema_model.specs.Catalogue.{CatalogueValue}
use Rattle.schema_model.specs.Sound.{IsSound}
use Rattle.plan_law.specs.Kinds.{Term, Range}
use Rattle.plan_law.specs.Kinds.term
use Rattle.plan_law.specs.Kinds.range
use Rattle.view_def.specs.Query.{Query}
use Rattle.view_def.specs.Profile.{IsViewOfProfile}
use Rattle.view_meaning.specs.Valuations.{counts}
use Rattle.view_meaning.specs.Meaning.{fact_of, facts}
use Rattle.schema_delta.specs.Flat.{flat}
use Rattle.plan_law.specs.Columns.{Combo, term_eq, header, headers_from, spec_of, columns, bases_from, is_tested, stage, read, equalities, combo_facts}
use Rattle.plan_law.specs.Links.{Source, Given, Right, in_either, source_of, Link, places_from, column_link, equality_link, links, link_holds, is_left, is_own, own_links, own_holds}
use Rattle.plan_law.specs.Chain.{chain}
use Rattle.plan_law.specs.PlanRows.{texts, own_rows, joints_from, rows_from, plan_rows, plan_header, row_facts}
use Rattle.plan_law.proofs.Columns.{Has, has_either, has_from, all_has, all_from}
use Rattle.plan_law.proofs.Agree.{same_test}
use Rattle.plan_law.proofs.LinkLaws.{tested_links}
use Rattle.plan_law.proofs.KeyLaws.{has_unfiltered, has_filtered}
use Rattle.plan_law.proofs.KeyPlaces.{link_parts}
use Rattle.plan_law.proofs.Widths.{HasWidth, flat_width}
use Rattle.plan_law.proofs.PlainRows.{zipped, IsUnder, stage_under, all_terms, plain_stages}
use Rattle.plan_law.proofs.First.{first_of}
use Rattle.plan_law.proofs.Theorem.{plan_lists}
use Rattle.view_meaning.specs.Operands.{resolved}
use Rattle.operator_law.specs.Bags.{weigh, SameBag}

-- with nothing on the left every link is of the right row alone
module _ (q : Query) (d : List Term) where
  abbrev tested_first : List Row → List Combo
  tested_first rows = filter (is_tested q) (map (λ y. [] ++ y) (map (zip d) rows))

  source_start : (t : Term) (a : Source) → source_of [] d t ≡ Some a → not (is_left a) ≡ true
  source_start t a e = by_term t e
    where
      not_left : (a b : Source) → a ≡ b → not (is_left a) ≡ true → not (is_left b) ≡ true
      not_left a b e h = sym (ap (λ s. not (is_left s)) e) ∙ h

      one : (p : Option ℕ) → in_either None p ≡ Some a → not (is_left a) ≡ true
      one None e = cc
      one (Some j) e = let same : Right j ≡ a = cc in not_left (Right j) a same refl

      by_term : (t : Term) → source_of [] d t ≡ Some a → not (is_left a) ≡ true
      by_term (term.Literal s) e = let same : Given s ≡ a = cc in not_left (Given s) a same refl
      by_term (term.Var k) e = one (position (term_eq (term.Var k)) d) e
      by_term (term.Cell k p) e = one (position (term_eq (term.Cell k p)) d) e

  right_start : (n : ℕ) (ts : List Term) (c : Source × Term) → Has (places_from Right n ts) c → not (is_left c.0) ≡ true
  right_start n [] c m = absurd m
  right_start n (t ∷ ts) c (inl e) = sym (ap (λ (c : Source × Term). not (is_left c.0)) e)
  right_start n (t ∷ ts) c (inr m) = right_start (suc n) ts c m

  start_own : (l : Link) → Has (links q [] d) l → is_own l ≡ true
  start_own l m = one (has_either (filter_map (column_link q [] d) (places_from Right 0 d)) (filter_map (equality_link q [] d) (equalities q.condition)) l m)
    where
      carried : (a b : Source) → Some a ≡ Some b → not (is_left a) ≡ true → not (is_left b) ≡ true
      carried a b e h = let same : a ≡ b = cc in sym (ap (λ s. not (is_left s)) same) ∙ h

      one : Has (filter_map (column_link q [] d) (places_from Right 0 d)) l ⊎ Has (filter_map (equality_link q [] d) (equalities q.condition)) l → is_own l ≡ true
      one (inl m) =
          let c = has_from (column_link q [] d) (places_from Right 0 d) l m in
          let p = link_parts (source_of [] d (resolved q.decls c.0.1)) (Some c.0.0) l c.2 in
          and_from (not (is_left l.0)) (not (is_left l.1)) (source_start (resolved q.decls c.0.1) l.0 p.0) (carried c.0.0 l.1 p.1 (right_start 0 d c.0 c.1))
      one (inr m) =
          let e = has_from (equality_link q [] d) (equalities q.condition) l m in
          let p = link_parts (source_of [] d (resolved q.decls e.0.0)) (source_of [] d (resolved q.decls e.0.1)) l e.2 in
          and_from (not (is_left l.0)) (not (is_left l.1)) (source_start (resolved q.decls e.0.0) l.0 p.0) (source_start (resolved q.decls e.0.1) l.1 p.1)

  pub start_tested : (row : Row) → length row ≡ length d → is_tested q (zip d row) ≡ own_holds q [] d row
  start_tested row wide =
      tested_links q [] d [] row refl wide
      ∙ same_test (list_all (link_holds [] row) (links q [] d)) (own_holds q [] d row)
      (λ t. all_from (link_holds [] row) (own_links q [] d) (λ l m. all_has (link_holds [] row) (links q [] d) l t (has_unfiltered is_own (links q [] d) l m).0))
      (λ t. all_from (link_holds [] row) (links q [] d) (λ l m. all_has (link_holds [] row) (own_links q [] d) l t (has_filtered is_own (links q [] d) l m (start_own l m))))

  start_rows : (rows : List Row) → AllByRecursion (HasWidth (length d)) rows → map texts (tested_first rows) ≡ filter (own_holds q [] d) rows
  start_rows [] wide = refl
  start_rows (row ∷ rows) wide = rw (start_tested row wide.0) (one (own_holds q [] d row) (start_rows rows wide.1))
    where
      text : (d : List Term) (row : Row) → length row ≡ length d → texts (zip d row) ≡ row
      text [] [] e = refl
      text [] (s ∷ row) e = absurd (omega arith)
      text (t ∷ d) [] e = absurd (omega arith)
      text (t ∷ d) (s ∷ row) e = ap (λ z. s ∷ z) (text d row (omega arith))

      one : (b : Bool) → map texts (tested_first rows) ≡ filter (own_holds q [] d) rows
          → map texts (cond b (zip d row ∷ tested_first rows) (tested_first rows)) ≡ cond b (row ∷ filter (own_holds q [] d) rows) (filter (own_holds q [] d) rows)
      one true e = ap (λ z. z ∷ map texts (tested_first rows)) (text d row wide.0) ∙ ap (λ zs. row ∷ zs) e
      one false e = e

-- the stages keep their terms
stages_under : (c : CatalogueValue) (q : Query) (ds : List Range) (h : List Term) (k : ℕ) (xs : List Combo) → AllByRecursion (IsUnder q h) xs → AllByRecursion (IsUnder q (h ++ headers_from q k ds)) (fold (stage q) xs (bases_from c q k ds))
stages_under c q [] h k xs under = subst (λ h. AllByRecursion (IsUnder q h) xs) (sym (append-nil h)) under
stages_under c q (range.Alias j a ∷ ds) h k xs under = stages_under c q ds h (suc k) xs under
stages_under c q (d ∷ ds) h k xs under =
    subst (λ h. AllByRecursion (IsUnder q h) (fold (stage q) (stage q xs (columns c q k d)) (bases_from c q (suc k) ds))) (append_assoc h (header q k d) (headers_from q (suc k) ds))
    (stages_under c q ds (h ++ header q k d) (suc k) (stage q xs (columns c q k d)) (stage_under q h (header q k d) xs (all_terms q h xs under) (flat c (spec_of q k d)) (flat_width c q k d)))

-- facts of combinations are facts of their rows
facts_of_rows : (q : Query) (h : List Term) (xs : List Combo) → AllByRecursion (IsUnder q h) xs → combo_facts q xs ≡ row_facts q h (map texts xs)
facts_of_rows q h [] under = refl
facts_of_rows q h (x ∷ xs) under =
    let e = zipped h x under.0.terms in
    rw e (one (counts q (read q x)) (facts_of_rows q h xs under.1) e)
  where
    one : (b : Bool) → combo_facts q xs ≡ row_facts q h (map texts xs) → zip h (texts x) ≡ x
        → map (λ x. fact_of q (read q x)) (cond b (x ∷ filter (λ x. counts q (read q x)) xs) (filter (λ x. counts q (read q x)) xs)) ≡ map (λ row. fact_of q (read q (zip h row))) (cond b (texts x ∷ filter (λ row. counts q (read q (zip h row))) (map texts xs)) (filter (λ row. counts q (read q (zip h row))) (map texts xs)))
    one true rest e = ap (λ f. f ∷ combo_facts q xs) (ap (λ z. fact_of q (read q z)) (sym e)) ∙ ap (λ fs. fact_of q (read q (zip h (texts x))) ∷ fs) rest
    one false rest e = rest

module _ (c : CatalogueValue) (q : Query) where
  first_base : (d : Range) (ds : List Range) → bases_from c q 0 (d ∷ ds) ≡ columns c q 0 d ∷ bases_from c q 1 ds → headers_from q 0 (d ∷ ds) ≡ header q 0 d ++ headers_from q 1 ds
      → combo_facts q (fold (stage q) ([] ∷ []) (bases_from c q 0 (d ∷ ds))) ≡ row_facts q (headers_from q 0 (d ∷ ds)) (plan_rows c q (d ∷ ds))
  first_base d ds bases_are headers_are =
      let first = stage q ([] ∷ []) (columns c q 0 d) in
      let wide = flat_width c q 0 d in
      let under : AllByRecursion (IsUnder q (header q 0 d)) (stage q ([] ∷ []) (columns c q 0 d)) = stage_under q [] (header q 0 d) ([] ∷ []) (refl, tt) (flat c (spec_of q 0 d)) wide in
      let rows : map texts (stage q ([] ∷ []) (columns c q 0 d)) ≡ own_rows c q [] 0 d = ap (map texts) (append-nil (filter (is_tested q) (map (λ y. [] ++ y) (columns c q 0 d)))) ∙ start_rows q (header q 0 d) (flat c (spec_of q 0 d)) wide in
      ap (λ yss. combo_facts q (fold (stage q) ([] ∷ []) yss)) bases_are
      ∙ facts_of_rows q (header q 0 d ++ headers_from q 1 ds) (fold (stage q) (stage q ([] ∷ []) (columns c q 0 d)) (bases_from c q 1 ds)) (stages_under c q ds (header q 0 d) 1 (stage q ([] ∷ []) (columns c q 0 d)) under)
      ∙ ap (row_facts q (header q 0 d ++ headers_from q 1 ds)) (
      plain_stages c q ds (header q 0 d) 1 (stage q ([] ∷ []) (columns c q 0 d)) under
      ∙ ap (λ rows. chain (joints_from q (header q 0 d) 1 ds) rows (rows_from c q (header q 0 d) 1 ds)) rows)
      ∙ ap (λ h. row_facts q h (plan_rows c q (d ∷ ds))) (sym headers_are)

  -- the facts of the view are those of the rows that the plan lists, as bags
  pub rows_list_facts : IsSound c → IsViewOfProfile q → SameBag (facts c q) (row_facts q (plan_header q) (plan_rows c q q.decls))
  rows_list_facts sound profile f =
      let b = first_of q profile in
      plan_lists c sound q profile f
      ∙ ap (weigh f) (
      subst (λ ds. combo_facts q (fold (stage q) ([] ∷ []) (bases_from c q 0 ds)) ≡ row_facts q (headers_from q 0 ds) (plan_rows c q ds)) (sym b.all)
      (first_base b.first b.rest (b.bases c) b.headers))
