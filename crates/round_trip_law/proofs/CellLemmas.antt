-- The cells of a row under names.
use Rattle.std.proofs.Common.{◌≡◌, ◌||◌, ◌∙◌, ◌+◌, Bool, true, false, List, [], ◌∷◌, ◌++◌, Some, length, map, refl, sym, ap, arith}
use Rattle.std.specs.Prelude.{◌&&◌, bytes_eq}
use Rattle.std.specs.List.{list_all, AllByRecursion, IsDistinct}
use Rattle.ss_text.specs.Texts.{Text, Row, text_eq, is_in}
use Rattle.ss_text.proofs.KeyLemmas.{text_order, equal_itself}
use Rattle.ss_text.proofs.PairLemmas.{turned}
use Rattle.ss_text.proofs.GroupLemmas.{map_agree}
use Rattle.view_meaning.specs.Elements.{cell_under}
use Rattle.view_meaning.specs.Meaning.{given}
use Rattle.view_meaning.specs.Orders.{text_under, row_under}
use Rattle.view_meaning.proofs.OrderLemmas.{cell_here, cell_later}

-- a row that fits has a cell under each of its names
pub cell_there : (ns row : Row) (a : Text) → length row ≡ length ns → is_in a ns ≡ true → cell_under ns a row ≡ Some (text_under ns row a)
cell_there [] row a l i = absurd (cc)
cell_there (x ∷ ns) [] a l i = absurd (omega (arith, l))
cell_there (x ∷ ns) (cell ∷ row) a l i = by_first (text_eq a x) refl (cell_there ns row a (omega (arith, l)))
  where
    by_first : (b : Bool) → text_eq a x ≡ b → (is_in a ns ≡ true → cell_under ns a row ≡ Some (text_under ns row a)) → cell_under (x ∷ ns) a (cell ∷ row) ≡ Some (text_under (x ∷ ns) (cell ∷ row) a)
    by_first true e rest = let here = cell_here x ns cell row a e in here ∙ ap (λ o. Some (given o)) (sym here)
    by_first false e rest =
        let there : is_in a ns ≡ true = sym (ap (λ (b : Bool). b || is_in a ns) e) ∙ i in
        let later = cell_later x ns cell row a e in
        later ∙ rest there ∙ ap (λ o. Some (given o)) (sym later)

pub cells_there : (ns row names : Row) → length row ≡ length ns → list_all (λ a. is_in a ns) names ≡ true → map (λ a. cell_under ns a row) names ≡ map Some (row_under names ns row)
cells_there ns row [] l h = refl
cells_there ns row (a ∷ names) l h = by_first (is_in a ns) refl (cells_there ns row names l)
  where
    by_first : (b : Bool) → is_in a ns ≡ b → (list_all (λ a. is_in a ns) names ≡ true → map (λ a. cell_under ns a row) names ≡ map Some (row_under names ns row))
        → map (λ a. cell_under ns a row) (a ∷ names) ≡ map Some (row_under (a ∷ names) ns row)
    by_first true e rest = λ i. cell_there ns row a l e i ∷ rest (sym (ap (λ (b : Bool). b && list_all (λ a. is_in a ns) names) e) ∙ h) i
    by_first false e rest = let bad : false ≡ true = sym (ap (λ (b : Bool). b && list_all (λ a. is_in a ns) names) e) ∙ h in absurd (cc)

-- names that stand in front, each once
pub own_cells : (ns back row more : Row) → length row ≡ length ns → IsDistinct bytes_eq ns → map (λ a. cell_under (ns ++ back) a (row ++ more)) ns ≡ map Some row
unfolding IsDistinct
own_cells [] back [] more l d = refl
own_cells [] back (cell ∷ row) more l d = absurd (omega (arith, l))
own_cells (x ∷ ns) back [] more l d = absurd (omega (arith, l))
own_cells (x ∷ ns) back (cell ∷ row) more l d =
    let rest = map_agree _ _ ns (each ns d.0) ∙ own_cells ns back row more (omega (arith, l)) d.1 in
    λ i. cell_here x (ns ++ back) cell (row ++ more) x (equal_itself text_order x) i ∷ rest i
  where
    each : (ms : Row) → AllByRecursion (λ y. bytes_eq x y ≡ false) ms → AllByRecursion (λ a. cell_under (x ∷ (ns ++ back)) a (cell ∷ (row ++ more)) ≡ cell_under (ns ++ back) a (row ++ more)) ms
    each [] h = tt
    each (y ∷ ms) h = (cell_later x (ns ++ back) cell (row ++ more) y (turned text_order y x ∙ h.0), each ms h.1)

-- a name that is none of those in front
pub cell_behind : (ns back row more : Row) (a : Text) → length row ≡ length ns → is_in a ns ≡ false → cell_under (ns ++ back) a (row ++ more) ≡ cell_under back a more
cell_behind [] back [] more a l h = refl
cell_behind [] back (cell ∷ row) more a l h = absurd (omega (arith, l))
cell_behind (x ∷ ns) back [] more a l h = absurd (omega (arith, l))
cell_behind (x ∷ ns) back (cell ∷ row) more a l h = by_first (text_eq a x) refl (cell_behind ns back row more a (omega (arith, l)))
  where
    by_first : (b : Bool) → text_eq a x ≡ b → (is_in a ns ≡ false → cell_under (ns ++ back) a (row ++ more) ≡ cell_under back a more) → cell_under (x ∷ (ns ++ back)) a (cell ∷ (row ++ more)) ≡ cell_under back a more
    by_first true e rest = let bad : true ≡ false = sym (ap (λ (b : Bool). b || is_in a ns) e) ∙ h in absurd (cc)
    by_first false e rest = cell_later x (ns ++ back) cell (row ++ more) a e ∙ rest (sym (ap (λ (b : Bool). b || is_in a ns) e) ∙ h)

-- ---- texts
pub mapped_twice : {A B C : Type 0} (f : B → C) (g : A → B) (xs : List A) → map f (map g xs) ≡ map (λ x. f (g x)) xs
mapped_twice f g [] = refl
mapped_twice f g (x ∷ xs) = ap (λ rest. f (g x) ∷ rest) (mapped_twice f g xs)

given_some : (texts : Row) → map given (map Some texts) ≡ texts
given_some [] = refl
given_some (t ∷ texts) = ap (λ (rest : Row). t ∷ rest) (given_some texts)

pub own_texts : (ns back row more : Row) → length row ≡ length ns → IsDistinct bytes_eq ns → row_under ns (ns ++ back) (row ++ more) ≡ row
own_texts ns back row more l d = sym (mapped_twice given (λ a. cell_under (ns ++ back) a (row ++ more)) ns) ∙ ap (map given) (own_cells ns back row more l d) ∙ given_some row

pub text_next : (ns row : Row) (a text : Text) (back more : Row) → length row ≡ length ns → is_in a ns ≡ false → text_under (ns ++ a ∷ back) (row ++ text ∷ more) a ≡ text
text_next ns row a text back more l h = ap given (cell_behind ns (a ∷ back) row (text ∷ more) a l h ∙ cell_here a back text more a (equal_itself text_order a))

pub text_last : (ns row : Row) (a text b last : Text) → length row ≡ length ns → is_in b ns ≡ false → text_eq b a ≡ false → text_under (ns ++ a ∷ b ∷ []) (row ++ text ∷ last ∷ []) b ≡ last
text_last ns row a text b last l h other =
    ap given (cell_behind ns (a ∷ b ∷ []) row (text ∷ last ∷ []) b l h ∙ cell_later a (b ∷ []) text (last ∷ []) b other ∙ cell_here b [] last [] b (equal_itself text_order b))

-- ---- names that are all different
pub record IsApart (keys : Row) (a b : Text) : Type 0 where
  pub keys_apart : IsDistinct bytes_eq keys
  pub first : is_in a keys ≡ false
  pub second : is_in b keys ≡ false
  pub both : text_eq b a ≡ false

pub apart : (keys : Row) (a b : Text) → IsDistinct bytes_eq (keys ++ a ∷ b ∷ []) → IsApart keys a b
unfolding IsDistinct
apart [] a b d = record { keys_apart = tt; first = refl; second = refl; both = turned text_order b a ∙ d.0.0 }
apart (x ∷ keys) a b d =
    let rest = apart keys a b d.1 in
    let parts = front keys d.0 in
    record {
      keys_apart = (parts.0, rest.keys_apart);
      first = rw (turned text_order a x ∙ parts.1) rest.first;
      second = rw (turned text_order b x ∙ parts.2) rest.second;
      both = rest.both;
    }
  where
    front : (ms : Row) → AllByRecursion (λ y. bytes_eq x y ≡ false) (ms ++ a ∷ b ∷ []) → AllByRecursion (λ y. bytes_eq x y ≡ false) ms × (bytes_eq x a ≡ false) × (bytes_eq x b ≡ false)
    front [] h = (tt, h.0, h.1.0)
    front (y ∷ ms) h = let later = front ms h.1 in ((h.0, later.0), later.1, later.2)
