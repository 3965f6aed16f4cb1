-- The test of a combination, by the places of its rows.
use Rattle.std.proofs.Common.{◌≡◌, ◌<◌, ℕ, ◌+◌, suc, List, [], ◌∷◌, ◌++◌, length, Bool, true, false, ◌&&◌, cond, refl, arith, ap, sym, ◌∙◌, Option, Some, None, get_or}
use Rattle.std.specs.Prelude.{zip, position}
use Rattle.std.specs.List.{slice_get, list_all, filter_map, cons_option}
use Rattle.std.specs.Option.{option_and_then, option_map, option_or}
use Rattle.std.proofs.lemmas.List.Folds.{list_all-append}
use Rattle.std.proofs.lemmas.List.Quantifiers.{position-Some}
use Rattle.std.proofs.lemmas.Option.{slice_get-get_or}
use Rattle.std.proofs.Math.Nat.{add-zero}
use Rattle.ss_text.specs.Texts.{Text, Row}
use Rattle.plan_law.specs.Kinds.{Term}
use Rattle.plan_law.specs.Kinds.term
use Rattle.view_def.specs.Query.{Query}
use Rattle.plan_law.specs.Columns.{Column, Combo, term_eq, text_under, found, read, may_be, may_equal, equalities, is_tested}
use Rattle.plan_law.specs.Links.{Source, Left, Right, in_either, source_of, source_text, link, places_from, column_link, equality_link, links, link_holds}
use Rattle.plan_law.proofs.Sums.{position_cons}
use Rattle.view_meaning.specs.Operands.{resolved}

-- the first column of a term, by its place
under_zip : (h : List Term) (x : Row) (t : Term) → length x ≡ length h → text_under (zip h x) t ≡ option_and_then (slice_get x) (position (term_eq t) h)
under_zip [] x t e = refl
under_zip (a ∷ h) [] t e = absurd (omega arith)
under_zip (a ∷ h) (s ∷ x) t e =
    one (term_eq t a) (under_zip h x t (omega arith))
    ∙ ap (option_and_then (slice_get (s ∷ x))) (sym (position_cons (term_eq t) a h))
  where
    later : (o : Option ℕ) → option_and_then (slice_get x) o ≡ option_and_then (slice_get (s ∷ x)) (option_map suc o)
    later None = refl
    later (Some i) = refl

    one : (b : Bool) → text_under (zip h x) t ≡ option_and_then (slice_get x) (position (term_eq t) h) → cond b (Some s) (text_under (zip h x) t) ≡ option_and_then (slice_get (s ∷ x)) (cond b (Some 0) (option_map suc (position (term_eq t) h)))
    one true e = refl
    one false e = e ∙ later (position (term_eq t) h)

under_append : (x y : Combo) (t : Term) → text_under (x ++ y) t ≡ option_or (text_under x t) (text_under y t)
under_append [] y t = refl
under_append (c ∷ x) y t = one (term_eq t c.0) (under_append x y t)
  where
    one : (b : Bool) → text_under (x ++ y) t ≡ option_or (text_under x t) (text_under y t) → cond b (Some c.1) (text_under (x ++ y) t) ≡ option_or (cond b (Some c.1) (text_under x t)) (text_under y t)
    one true e = refl
    one false e = e

module _ (q : Query) (h d : List Term) (x y : Row) (wide : length x ≡ length h) (wide' : length y ≡ length d) where
  abbrev pub both : Combo
  both = zip h x ++ zip d y

  abbrev is_read : Column → Bool
  is_read c = may_be (read q both c.0) c.1

  abbrev is_equal : Term × Term → Bool
  is_equal e = may_equal (read q both e.0) (read q both e.1)

  -- what a combination says of a term, by its source
  pub under_source : (t : Term) → text_under both t ≡ option_and_then (source_text x y) (in_either (position (term_eq t) h) (position (term_eq t) d))
  under_source t =
      under_append (zip h x) (zip d y) t
      ∙ ap (λ (o : Option Text). option_or o (text_under (zip d y) t)) (under_zip h x t wide)
      ∙ ap (option_or (option_and_then (slice_get x) (position (term_eq t) h))) (under_zip d y t wide')
      ∙ one (position (term_eq t) h) (position (term_eq t) d) refl
    where
      right : (p : Option ℕ) → option_and_then (slice_get y) p ≡ option_and_then (source_text x y) (option_map Right p)
      right None = refl
      right (Some j) = refl

      one : (o p : Option ℕ) → position (term_eq t) h ≡ o → option_or (option_and_then (slice_get x) o) (option_and_then (slice_get y) p) ≡ option_and_then (source_text x y) (in_either o p)
      one None p e = right p
      one (Some i) p e =
          let less : i < length h = (position-Some (term_eq t) h i t e).0 in
          let there : slice_get x i ≡ Some (get_or x i []) = slice_get-get_or x i [] (omega arith) in
          ap (λ (o : Option Text). option_or o (option_and_then (slice_get y) p)) there ∙ sym there

  pub read_source : (t : Term) → read q both t ≡ option_and_then (source_text x y) (source_of h d (resolved q.decls t))
  read_source t = one (resolved q.decls t)
    where
      one : (t : Term) → found both t ≡ option_and_then (source_text x y) (source_of h d t)
      one (term.Literal s) = refl
      one (term.Var k) = under_source (term.Var k)
      one (term.Cell k a) = under_source (term.Cell k a)

  -- the tests of columns
  columns_linked : (f : ℕ → Source) (n : ℕ) (ts : List Term) (z : Row) → length z ≡ length ts → ((i : ℕ) → source_text x y (f (n + i)) ≡ slice_get z i)
      → list_all is_read (zip ts z) ≡ list_all (link_holds x y) (filter_map (column_link q h d) (places_from f n ts))
  columns_linked f n [] z e at = refl
  columns_linked f n (t ∷ ts) [] e at = absurd (omega arith)
  columns_linked f n (t ∷ ts) (s ∷ z) e at =
      let here : source_text x y (f n) ≡ Some s = ap (λ k. source_text x y (f k)) (sym (add-zero n)) ∙ at 0 in
      ap (λ (o : Option Text). may_be o s && list_all is_read (zip ts z)) (read_source t)
      ∙ one here (source_of h d (resolved q.decls t)) (columns_linked f (suc n) ts z (omega arith) (λ i. ap (λ k. source_text x y (f k)) (shift n i) ∙ at (suc i)))
    where
      shift : (n i : ℕ) → suc n + i ≡ n + suc i
      shift n i = omega arith

      may_same : (o p : Option Text) → p ≡ Some s → may_be o s ≡ may_equal o p
      may_same None p e = refl
      may_same (Some r) p e = rw e refl

      one : source_text x y (f n) ≡ Some s → (o : Option Source) → list_all is_read (zip ts z) ≡ list_all (link_holds x y) (filter_map (column_link q h d) (places_from f (suc n) ts))
          → (may_be (option_and_then (source_text x y) o) s && list_all is_read (zip ts z)) ≡ list_all (link_holds x y) (cons_option (link o (Some (f n))) (filter_map (column_link q h d) (places_from f (suc n) ts)))
      one here None rest = rest
      one here (Some a) rest = ap (λ b. b && list_all is_read (zip ts z)) (may_same (source_text x y a) (source_text x y (f n)) here) ∙ ap (λ b. link_holds x y (a, f n) && b) rest

  -- and those of equalities
  equalities_linked : (es : List (Term × Term)) → list_all is_equal es ≡ list_all (link_holds x y) (filter_map (equality_link q h d) es)
  equalities_linked [] = refl
  equalities_linked (e ∷ es) =
      ap (λ (o : Option Text). may_equal o (read q both e.1) && list_all is_equal es) (read_source e.0)
      ∙ ap (λ (o : Option Text). may_equal (option_and_then (source_text x y) (source_of h d (resolved q.decls e.0))) o && list_all is_equal es) (read_source e.1)
      ∙ one (source_of h d (resolved q.decls e.0)) (source_of h d (resolved q.decls e.1)) (equalities_linked es)
    where
      none_right : (o : Option Text) → may_equal o None ≡ true
      none_right None = refl
      none_right (Some s) = refl

      one : (o p : Option Source) → list_all is_equal es ≡ list_all (link_holds x y) (filter_map (equality_link q h d) es)
          → (may_equal (option_and_then (source_text x y) o) (option_and_then (source_text x y) p) && list_all is_equal es) ≡ list_all (link_holds x y) (cons_option (link o p) (filter_map (equality_link q h d) es))
      one None p rest = rest
      one (Some a) None rest = ap (λ b. b && list_all is_equal es) (none_right (source_text x y a)) ∙ rest
      one (Some a) (Some b) rest = ap (λ r. link_holds x y (a, b) && r) rest

  -- what is tested of two rows is that all their links hold
  pub tested_links : is_tested q both ≡ list_all (link_holds x y) (links q h d)
  tested_links =
      let P : Column → Bool = λ (c : Column). may_be (read q both c.0) c.1 in
      let A = filter_map (column_link q h d) (places_from Left 0 h) in
      let B = filter_map (column_link q h d) (places_from Right 0 d) in
      let C = filter_map (equality_link q h d) (equalities q.condition) in
      let E : Bool = list_all is_equal (equalities q.condition) in
      ap (λ b. b && E) (list_all-append P (zip h x) (zip d y))
      ∙ ap (λ b. (b && list_all P (zip d y)) && E) (columns_linked Left 0 h x wide (λ i. ap (slice_get x) (zero_plus i)))
      ∙ ap (λ b. (list_all (link_holds x y) A && b) && E) (columns_linked Right 0 d y wide' (λ i. ap (slice_get y) (zero_plus i)))
      ∙ ap (λ b. (list_all (link_holds x y) A && list_all (link_holds x y) B) && b) (equalities_linked (equalities q.condition))
      ∙ sym (list_all-append (link_holds x y) (A ++ B) C ∙ ap (λ b. b && list_all (link_holds x y) C) (list_all-append (link_holds x y) A B))
    where
      zero_plus : (i : ℕ) → 0 + i ≡ i
      zero_plus i = omega arith
