-- Facts and their rows are one to one.
use Rattle.std.proofs.Common.{◌≡◌, ◌+◌, ◌-◌, ℕ, suc, [], ◌∷◌, ◌++◌, Option, Some, None, length, take, drop, get_or, refl, sym, ap, subst, ◌∙◌, arith, length-append, length-drop}
use Rattle.std.specs.Prelude.{is_some}
use Rattle.std.proofs.Math.Seq.{take-append_seam}
use Rattle.std.proofs.lemmas.List.{append-nil, get_or-append-add, get_or-drop}
use Rattle.ss_text.specs.Texts.{Text, Row}
use Rattle.flow_law.specs.declared.shape.Shape.{Shape}
use Rattle.flow_law.specs.Facts.{Fact}
use Rattle.flow_law.specs.FactRows.{cell_texts, fact_row, row_width, fact_width, cell_behind, fact_in, IsFactOf}

-- the key's texts, behind the label
key_read : (n : ℕ) (key rest : Row) → length key ≡ n → take (n + 1 - 1) (key ++ rest) ≡ key
key_read n key rest e = rw (let k : n + 1 - 1 ≡ length key = omega (arith, e) in k) (take-append_seam key rest)

-- the texts behind the label and the key
at_column : (n : ℕ) (l : Text) (key : Row) (c v : Text) → length key ≡ n → get_or (l ∷ (key ++ c ∷ v ∷ [])) (n + 1) [] ≡ c
at_column n l key c v e = subst (λ i. get_or (l ∷ (key ++ c ∷ v ∷ [])) i [] ≡ c) (omega (arith, e)) (get_or-append-add (l ∷ key) (c ∷ v ∷ []) 0 [])

at_value : (n : ℕ) (l : Text) (key : Row) (c v : Text) → length key ≡ n → get_or (l ∷ (key ++ c ∷ v ∷ [])) (n + 1 + 1) [] ≡ v
at_value n l key c v e = subst (λ i. get_or (l ∷ (key ++ c ∷ v ∷ [])) i [] ≡ v) (omega (arith, e)) (get_or-append-add (l ∷ key) (c ∷ v ∷ []) 1 [])

cell_read : (n : ℕ) (l : Text) (key : Row) (spot : Option ℕ) (cell : Option (Text × Text)) → length key ≡ n → is_some cell ≡ is_some spot → cell_behind (n + 1) (l ∷ (key ++ cell_texts cell)) spot ≡ cell
cell_read n l key None None e s = refl
cell_read n l key None (Some c) e s = absurd (cc)
cell_read n l key (Some spot) None e s = absurd (cc)
cell_read n l key (Some spot) (Some c) e s = λ i. Some (at_column n l key c.0 c.1 e i, at_value n l key c.0 c.1 e i)

-- a fact is read back from its row
pub fact_read_back : (shape : Shape) (f : Fact) → IsFactOf shape f → fact_in shape (fact_row f) ≡ f
fact_read_back shape f h =
    let key = key_read (length shape.constants) f.key (cell_texts f.cell) h.key in
    let cell = cell_read (length shape.constants) f.label f.key shape.spot f.cell h.key h.cell in
    λ i. record { label = f.label; key = key i; cell = cell i }

width_of : (n : ℕ) (key : Row) (spot : Option ℕ) (cell : Option (Text × Text)) → length key ≡ n → is_some cell ≡ is_some spot → suc (length (key ++ cell_texts cell)) ≡ row_width n spot
width_of n key None None e s = rw (append-nil key) (omega (arith, e))
width_of n key None (Some c) e s = absurd (cc)
width_of n key (Some spot) None e s = absurd (cc)
width_of n key (Some spot) (Some c) e s = omega (arith, e, length-append key (c.0 ∷ c.1 ∷ []))

pub width_of_fact : (shape : Shape) (f : Fact) → IsFactOf shape f → length (fact_row f) ≡ fact_width shape
width_of_fact shape f h = width_of (length shape.constants) f.key shape.spot f.cell h.key h.cell

-- and a row from the fact that is in it
two : (ts : Row) → length ts ≡ 2 → get_or ts 0 [] ∷ get_or ts 1 [] ∷ [] ≡ ts
two [] e = absurd (omega (arith, e))
two (c ∷ []) e = absurd (omega (arith, e))
two (c ∷ v ∷ []) e = refl
two (c ∷ v ∷ t ∷ ts) e = absurd (omega (arith, e))

none : (ts : Row) → length ts ≡ 0 → [] ≡ ts
none [] e = refl
none (t ∷ ts) e = absurd (omega (arith, e))

behind : (n : ℕ) (l : Text) (ts : Row) (spot : Option ℕ) → suc (length ts) ≡ row_width n spot → cell_texts (cell_behind (n + 1) (l ∷ ts) spot) ≡ drop n ts
behind n l ts None e = none (drop n ts) (omega (arith, e, length-drop n ts))
behind n l ts (Some spot) e =
    let left : length (drop n ts) ≡ 2 = omega (arith, e, length-drop n ts) in
    let next : n + 1 ≡ suc (n + 0) = omega arith in
    let last : n + 1 + 1 ≡ suc (n + 1) = omega arith in
    let column : get_or (l ∷ ts) (n + 1) [] ≡ get_or (drop n ts) 0 [] = ap (λ i. get_or (l ∷ ts) i []) next ∙ sym (get_or-drop n ts 0 []) in
    let value : get_or (l ∷ ts) (n + 1 + 1) [] ≡ get_or (drop n ts) 1 [] = ap (λ i. get_or (l ∷ ts) i []) last ∙ sym (get_or-drop n ts 1 []) in
    rw (column, value) (two (drop n ts) left)

-- the fact in a row of this width has the view's form
