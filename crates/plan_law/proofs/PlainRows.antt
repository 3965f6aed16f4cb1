-- The stages by places, over rows without terms.
use Rattle.std.proofs.Common.{◌≡◌, ℕ, suc, List, [], ◌∷◌, ◌++◌, length, map, filter, Bool, true, false, ◌&&◌, cond, refl, ap, sym, ◌∙◌}
use Rattle.std.specs.Prelude.{zip, fold}
use Rattle.std.specs.List.{AllByRecursion}
use Rattle.std.proofs.lemmas.List.{map-append, length-map}
use Rattle.std.proofs.lemmas.Slice.Zip.{seconds-zip, firsts-zip}
use Rattle.ss_text.specs.Texts.{Row}
use Rattle.schema_model.specs.Catalogue.{CatalogueValue}
use Rattle.plan_law.specs.Kinds.{Term, Range}
use Rattle.plan_law.specs.Kinds.range
use Rattle.view_def.specs.Query.{Query}
use Rattle.plan_law.specs.Chain.{chain}
use Rattle.schema_delta.specs.Flat.{flat}
use Rattle.plan_law.specs.Columns.{Column, Combo, header, spec_of, columns, bases_from, is_tested, stage, terms_over}
use Rattle.plan_law.specs.Links.{own_holds, keys_hold}
use Rattle.plan_law.specs.PlanRows.{texts, own_rows, joints_from, rows_from}
use Rattle.plan_law.proofs.KeyLaws.{tested_keys}
use Rattle.plan_law.proofs.Widths.{HasWidth, flat_width}
use Rattle.join_delta.specs.Joined.{joined}

zip_parts : (x : Combo) → zip (terms_over x) (texts x) ≡ x
zip_parts [] = refl
zip_parts (c ∷ x) = ap (λ (y : Combo). c ∷ y) (zip_parts x)

pub zipped : (h : List Term) (x : Combo) → terms_over x ≡ h → zip h (texts x) ≡ x
zipped h x e = ap (λ h. zip h (texts x)) (sym e) ∙ zip_parts x

pub sizes : (h : List Term) (x : Combo) → terms_over x ≡ h → length (texts x) ≡ length h
sizes h x e = length-map x (λ (c : Column). c.1) ∙ sym (length-map x (λ (c : Column). c.0)) ∙ ap length e

-- a tested combination under these terms
pub record IsUnder (q : Query) (h : List Term) (x : Combo) : Type 0 where
  pub terms : terms_over x ≡ h
  pub tested : is_tested q x ≡ true

module _ (q : Query) (h d : List Term) where
  abbrev tested_with : Combo → List Row → List Combo
  tested_with x rows = filter (is_tested q) (map (λ y. x ++ y) (map (zip d) rows))

  abbrev keyed_with : Combo → List Row → List Row
  keyed_with x rows = map (λ row. texts x ++ row) (filter (keys_hold q h d (texts x)) (filter (own_holds q h d) rows))

  -- one combination, and the flat rows
  one_left : (x : Combo) → IsUnder q h x → (rows : List Row) → AllByRecursion (HasWidth (length d)) rows
      → map texts (tested_with x rows) ≡ keyed_with x rows
  one_left x under [] wide = refl
  one_left x under (row ∷ rows) wide = one (is_tested q (x ++ zip d row)) (own_holds q h d row) test (one_left x under rows wide.1)
    where
      test : is_tested q (x ++ zip d row) ≡ (own_holds q h d row && keys_hold q h d (texts x) row)
      test =
          let e = zipped h x under.terms in
          ap (λ (z : Combo). is_tested q (z ++ zip d row)) (sym e) ∙ tested_keys q h d (texts x) row (sizes h x under.terms) wide.0 (ap (is_tested q) e ∙ under.tested)

      text : texts (x ++ zip d row) ≡ texts x ++ row
      text = map-append (λ (c : Column). c.1) x (zip d row) ∙ ap (λ z. texts x ++ z) (seconds-zip d row wide.0)

      by_key : (b : Bool) → map texts (tested_with x rows) ≡ keyed_with x rows
          → map texts (cond b ((x ++ zip d row) ∷ tested_with x rows) (tested_with x rows)) ≡ map (λ row. texts x ++ row) (cond b (row ∷ filter (keys_hold q h d (texts x)) (filter (own_holds q h d) rows)) (filter (keys_hold q h d (texts x)) (filter (own_holds q h d) rows)))
      by_key true rest = ap (λ z. z ∷ map texts (tested_with x rows)) text ∙ ap (λ zs. (texts x ++ row) ∷ zs) rest
      by_key false rest = rest

      one : (t o : Bool) → t ≡ (o && keys_hold q h d (texts x) row) → map texts (tested_with x rows) ≡ keyed_with x rows
          → map texts (cond t ((x ++ zip d row) ∷ tested_with x rows) (tested_with x rows)) ≡ map (λ row. texts x ++ row) (filter (keys_hold q h d (texts x)) (cond o (row ∷ filter (own_holds q h d) rows) (filter (own_holds q h d) rows)))
      one t true e rest = rw e (by_key (keys_hold q h d (texts x) row) rest)
      one t false e rest = rw e rest

  pub plain_stage : (xs : List Combo) → AllByRecursion (IsUnder q h) xs → (rows : List Row) → AllByRecursion (HasWidth (length d)) rows
      → map texts (stage q xs (map (zip d) rows)) ≡ joined (keys_hold q h d) (map texts xs) (filter (own_holds q h d) rows)
  plain_stage [] under rows wide = refl
  plain_stage (x ∷ xs) under rows wide =
      map-append texts (tested_with x rows) (stage q xs (map (zip d) rows))
      ∙ ap (λ zs. zs ++ map texts (stage q xs (map (zip d) rows))) (one_left x under.0 rows wide)
      ∙ ap (λ zs. keyed_with x rows ++ zs) (plain_stage xs under.1 rows wide)

  all_under_append : (xs ys : List Combo) → AllByRecursion (IsUnder q (h ++ d)) xs → AllByRecursion (IsUnder q (h ++ d)) ys → AllByRecursion (IsUnder q (h ++ d)) (xs ++ ys)
  all_under_append [] ys a b = b
  all_under_append (x ∷ xs) ys a b = (a.0, all_under_append xs ys a.1 b)

  under_one : (x : Combo) → terms_over x ≡ h → (rows : List Row) → AllByRecursion (HasWidth (length d)) rows → AllByRecursion (IsUnder q (h ++ d)) (tested_with x rows)
  under_one x e [] wide = tt
  under_one x e (row ∷ rows) wide = one (is_tested q (x ++ zip d row)) refl (under_one x e rows wide.1)
    where
      terms : terms_over (x ++ zip d row) ≡ h ++ d
      terms = map-append (λ (c : Column). c.0) x (zip d row) ∙ ap (λ z. z ++ terms_over (zip d row)) e ∙ ap (λ z. h ++ z) (firsts-zip d row wide.0)

      one : (t : Bool) → is_tested q (x ++ zip d row) ≡ t → AllByRecursion (IsUnder q (h ++ d)) (tested_with x rows)
          → AllByRecursion (IsUnder q (h ++ d)) (cond t ((x ++ zip d row) ∷ tested_with x rows) (tested_with x rows))
      one true is rest = (record { terms = terms; tested = is }, rest)
      one false is rest = rest

  pub stage_under : (xs : List Combo) → AllByRecursion (λ x. terms_over x ≡ h) xs → (rows : List Row) → AllByRecursion (HasWidth (length d)) rows → AllByRecursion (IsUnder q (h ++ d)) (stage q xs (map (zip d) rows))
  stage_under [] under rows wide = tt
  stage_under (x ∷ xs) under rows wide = all_under_append (tested_with x rows) (stage q xs (map (zip d) rows)) (under_one x under.0 rows wide) (stage_under xs under.1 rows wide)

pub all_terms : (q : Query) (h : List Term) (xs : List Combo) → AllByRecursion (IsUnder q h) xs → AllByRecursion (λ x. terms_over x ≡ h) xs
all_terms q h [] u = tt
all_terms q h (x ∷ xs) u = (u.0.terms, all_terms q h xs u.1)

filter_all : (xs : List Row) → filter (λ row. true) xs ≡ xs
filter_all [] = refl
filter_all (x ∷ xs) = ap (λ ys. x ∷ ys) (filter_all xs)

-- the stages from place k on
pub plain_stages : (c : CatalogueValue) (q : Query) (ds : List Range) (h : List Term) (k : ℕ) (xs : List Combo) → AllByRecursion (IsUnder q h) xs
    → map texts (fold (stage q) xs (bases_from c q k ds)) ≡ chain (joints_from q h k ds) (map texts xs) (rows_from c q h k ds)
plain_stages c q [] h k xs under = refl
plain_stages c q (range.Alias j a ∷ ds) h k xs under = plain_stages c q ds h (suc k) xs under
plain_stages c q (d ∷ ds) h k xs under =
    plain_stages c q ds (h ++ header q k d) (suc k) (stage q xs (columns c q k d)) (stage_under q h (header q k d) xs (all_terms q h xs under) (flat c (spec_of q k d)) (flat_width c q k d))
    ∙ ap (λ rows. chain (joints_from q (h ++ header q k d) (suc k) ds) rows (rows_from c q (h ++ header q k d) (suc k) ds))
    (plain_stage q h (header q k d) xs under (flat c (spec_of q k d)) (flat_width c q k d) ∙ sym (filter_all (joined (keys_hold q h (header q k d)) (map texts xs) (own_rows c q h k d))))
