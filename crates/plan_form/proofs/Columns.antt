-- The columns of rows, and where texts are found.
use Rattle.std.proofs.Common.{◌≡◌, ◌<◌, min, ℕ, ◌+◌, suc, List, [], ◌∷◌, ◌++◌, length, take, map, Bool, true, false, ◌&&◌, cond, refl, arith, ap, sym, ◌∙◌, Option, Some, None, get_or, append_assoc}
use Rattle.std.specs.Prelude.{option_to_list, position, zip}
use Rattle.std.specs.List.{slice_get, list_all, filter_map, cons_option}
use Rattle.std.specs.Option.{option_and_then, option_map}
use Rattle.std.proofs.lemmas.List.{take_more, length-take}
use Rattle.std.proofs.lemmas.List.Elements.{filter_map-append}
use Rattle.std.proofs.Math.Nat.{add-zero}
use Rattle.ss_text.specs.Texts.{Text, Row}
use Rattle.view_def.specs.declared.typed.Term.{Term}
use Rattle.view_def.specs.declared.typed.Term.TheVariants as term
use Rattle.view_def.specs.declared.typed.Range.{Range}
use Rattle.view_def.specs.declared.typed.Range.TheVariants as range
use Rattle.view_def.specs.Query.{Query}
use Rattle.view_meaning.specs.Operands.{resolved}
use Rattle.plan_law.specs.Columns.{term_eq, text_under, found, read, wanted, fold_of, header, may_equal}
use Rattle.plan_law.specs.Links.{Source, Link, in_either, source_of, source_text, link_holds, places_from}
use Rattle.plan_law.specs.Links as link
use Rattle.plan_law.proofs.Sums.{position_cons}
use Rattle.plan_form.specs.Cells.{text_in, term_cell, right_cell}
use Rattle.plan_form.specs.Headers.{header_over}
use Rattle.plan_form.specs.Tests.{cell_for}
use Rattle.plan_form.specs.Bases.{equal_holds, own_cells}

-- one more of a list whose elements may give nothing
pub given_more : {A B : Type 0} (g : A → Option B) (before so_far after : List B) (done : List A) (x : A) → so_far ≡ before ++ filter_map g done → after ≡ so_far ++ option_to_list (g x) → after ≡ before ++ filter_map g (done ++ x ∷ [])
given_more {A} {B} g before so_far after done x e h =
    h
    ∙ ap (λ (l : List B). l ++ option_to_list (g x)) e
    ∙ append_assoc before (filter_map g done) (option_to_list (g x))
    ∙ ap (λ (l : List B). before ++ l) (sym (filter_map-append g done (x ∷ []) ∙ ap (λ (l : List B). filter_map g done ++ l) (one (g x))))
  where
    one : (o : Option B) → cons_option o [] ≡ option_to_list o
    one None = refl
    one (Some y) = refl

places_append : (f : ℕ → Source) (n : ℕ) (ts us : List Term) → places_from f n (ts ++ us) ≡ places_from f n ts ++ places_from f (n + length ts) us
places_append f n [] us = ap (λ k. places_from f k us) (sym (add-zero n))
places_append f n (t ∷ ts) us = ap (λ l. (f n, t) ∷ l) (places_append f (suc n) ts us ∙ ap (λ k. places_from f (suc n) ts ++ places_from f k us) (shift n (length ts)))
  where
    shift : (n m : ℕ) → suc n + m ≡ n + suc m
    shift n m = omega arith

-- the places of one more column
pub places_more : (f : ℕ → Source) (ts : List Term) (i : ℕ) (t : Term) → i < length ts → t ≡ get_or ts i t → places_from f 0 (take (i + 1) ts) ≡ places_from f 0 (take i ts) ++ (f i, t) ∷ []
places_more f ts i t lt is =
    ap (places_from f 0) (take_more ts i t lt ∙ ap (λ (s : Term). take i ts ++ s ∷ []) (sym is))
    ∙ places_append f 0 (take i ts) (t ∷ [])
    ∙ ap (λ k. places_from f 0 (take i ts) ++ (f k, t) ∷ []) (at (length-take i ts))
  where
    at : length (take i ts) ≡ min i (length ts) → 0 + length (take i ts) ≡ i
    at e = omega (arith, e)

-- a header by what is wanted
pub header_is : (q : Query) (k : ℕ) (d : Range) → header_over (wanted q k) (fold_of q k) k d ≡ header q k d
header_is q k range.Databases = refl
header_is q k (range.Relations p) = refl
header_is q k (range.Attributes p r) = refl
header_is q k (range.Tuples p r) = refl
header_is q k (range.Values p r a) = refl
header_is q k (range.Alias j a) = refl

abbrev no_text : Option Text
no_text = None

abbrev no_cells : Row
no_cells = []

none_there : (o : Option ℕ) → no_text ≡ option_and_then (slice_get no_cells) o
none_there None = refl
none_there (Some i) = refl

-- the text of a term in a row, by its first place
under_zip : (h : List Term) (row : Row) (t : Term) → text_under (zip h row) t ≡ option_and_then (slice_get row) (position (term_eq t) h)
under_zip [] row t = refl
under_zip (a ∷ h) [] t = none_there (position (term_eq t) (a ∷ h))
under_zip (a ∷ h) (s ∷ row) t =
    one (term_eq t a) (under_zip h row t)
    ∙ ap (option_and_then (slice_get (s ∷ row))) (sym (position_cons (term_eq t) a h))
  where
    later : (o : Option ℕ) → option_and_then (slice_get row) o ≡ option_and_then (slice_get (s ∷ row)) (option_map suc o)
    later None = refl
    later (Some i) = refl

    one : (b : Bool) → text_under (zip h row) t ≡ option_and_then (slice_get row) (position (term_eq t) h) → cond b (Some s) (text_under (zip h row) t) ≡ option_and_then (slice_get (s ∷ row)) (cond b (Some 0) (option_map suc (position (term_eq t) h)))
    one true e = refl
    one false e = e ∙ later (position (term_eq t) h)

cell_under_place : (row : Row) (o : Option ℕ) → option_and_then (slice_get row) o ≡ text_in row (term_cell (in_either o None))
cell_under_place row None = refl
cell_under_place row (Some i) = refl

-- a row under terms says of a term what its cell has
pub cell_read : (q : Query) (h : List Term) (row : Row) (t : Term) → text_in row (cell_for q.decls h t) ≡ read q (zip h row) t
cell_read q h row t = one (resolved q.decls t)
  where
    one : (t : Term) → text_in row (term_cell (source_of h [] t)) ≡ found (zip h row) t
    one (term.Literal s) = refl
    one (term.Var k) = sym (under_zip h row (term.Var k) ∙ cell_under_place row (position (term_eq (term.Var k)) h))
    one (term.Cell k a) = sym (under_zip h row (term.Cell k a) ∙ cell_under_place row (position (term_eq (term.Cell k a)) h))

right_text : (row : Row) (s : Source) → text_in row (right_cell s) ≡ source_text [] row s
right_text row (link.Given t) = refl
right_text row (link.Left i) = refl
right_text row (link.Right j) = refl

-- the tests of a flat row are its own links
pub own_tested : (row : Row) (ls : List Link) → list_all (equal_holds row) (map own_cells ls) ≡ list_all (link_holds [] row) ls
own_tested row [] = refl
own_tested row (l ∷ ls) =
    ap (λ (o : Option Text). may_equal o (text_in row (right_cell l.1)) && list_all (equal_holds row) (map own_cells ls)) (right_text row l.0)
    ∙ ap (λ (o : Option Text). may_equal (source_text [] row l.0) o && list_all (equal_holds row) (map own_cells ls)) (right_text row l.1)
    ∙ ap (λ b. link_holds [] row l && b) (own_tested row ls)
