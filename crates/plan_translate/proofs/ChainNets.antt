-- For any moves there are the same in net.
use Rattle.std.proofs.Common.{◌≡◌, ℕ, ◌+◌, List, [], ◌∷◌, Bool, true, false, cond, not, refl, arith, ap, sym, ◌∙◌}
use Rattle.std.specs.List.{AllByRecursion}
use Rattle.ss_text.specs.Texts.{Row, row_eq}
use Rattle.operator_law.specs.declared.delta.Signed.{Signed}
use Rattle.operator_law.specs.Bags.{come, go}
use Rattle.operator_law.proofs.Counts.{row_eq-Decides}
use Rattle.schema_delta.specs.Net.{SameNet, IsNet}

abbrev Tells : (Row → Bool) → List Signed → Type 0
Tells comes ms = AllByRecursion (λ (m : Signed). comes m.row ≡ m.up) ms

abbrev alike : Bool → Bool → Bool
alike true b = b
alike false b = not b

alike_same : (a b : Bool) → alike a b ≡ true → a ≡ b
alike_same true b e = sym e
alike_same false true e = absurd (cc e)
alike_same false false e = refl

-- one more move, or one less where it goes the other way
abbrev add : Signed → List Signed → List Signed
add m [] = m ∷ []
add m (n ∷ ns) = cond (row_eq m.row n.row) (cond (alike m.up n.up) (m ∷ n ∷ ns) ns) (n ∷ add m ns)

cancel : (a b : Bool) → alike a b ≡ false → (x y up down : ℕ) → x ≡ y → (cond a x 0 + (cond b y 0 + up)) + down ≡ up + (cond a 0 x + (cond b 0 y + down))
cancel true true e x y up down same = absurd (cc e)
cancel true false e x y up down same = omega (arith, same)
cancel false true e x y up down same = omega (arith, same)
cancel false false e x y up down same = absurd (cc e)

module _ (m : Signed) where
  row_same : (r : Row) → row_eq m.row r ≡ true → m.row ≡ r
  row_same r e = (row_eq-Decides m.row r).0 e

  add_same : (ns : List Signed) → SameNet (m ∷ ns) (add m ns)
  add_same [] = λ f. refl
  add_same (n ∷ ns) = one (row_eq m.row n.row) (alike m.up n.up) refl refl (add_same ns)
    where
      one : (b c : Bool) → row_eq m.row n.row ≡ b → alike m.up n.up ≡ c → SameNet (m ∷ ns) (add m ns) → SameNet (m ∷ n ∷ ns) (cond b (cond c (m ∷ n ∷ ns) ns) (n ∷ add m ns))
      one true true row way rest = λ f. refl
      one true false row way rest = λ f. cancel m.up n.up way (f m.row) (f n.row) (come f ns) (go f ns) (ap f (row_same n.row row))
      one false c row way rest = λ f. omega (arith, rest f)

  -- a test that tells them, which is another for this row alone
  abbrev Told : (Row → Bool) → List Signed → Type 0
  Told comes ns = (other : Row → Bool) × Tells other ns × ((r : Row) → row_eq m.row r ≡ false → other r ≡ comes r)

  add_told : (comes : Row → Bool) (ns : List Signed) → Tells comes ns → Told comes (add m ns)
  add_told comes [] tells = (
    λ r. cond (row_eq m.row r) m.up (comes r),
    (ap (λ (b : Bool). cond b m.up (comes m.row)) ((row_eq-Decides m.row m.row).1 refl), tt),
    λ r e. ap (λ (b : Bool). cond b m.up (comes r)) e,
  )
  add_told comes (n ∷ ns) tells = one (row_eq m.row n.row) (alike m.up n.up) refl refl (add_told comes ns tells.1)
    where
      one : (b c : Bool) → row_eq m.row n.row ≡ b → alike m.up n.up ≡ c → Told comes (add m ns) → Told comes (cond b (cond c (m ∷ n ∷ ns) ns) (n ∷ add m ns))
      one true true row way rest = (comes, (ap comes (row_same n.row row) ∙ tells.0 ∙ sym (alike_same m.up n.up way), tells), λ r e. refl)
      one true false row way rest = (comes, tells.1, λ r e. refl)
      one false c row way rest = (rest.0, (rest.2 n.row row ∙ tells.0, rest.1), rest.2)

pub net_there : (ms : List Signed) → (ns : List Signed) × SameNet ms ns × IsNet ns
net_there [] = ([], λ f. refl, record { comes = λ r. true; tells = tt })
net_there (m ∷ ms) =
    let rest = net_there ms in
    let told = add_told m rest.2.comes rest.0 rest.2.tells in
    (add m rest.0, λ f. omega (arith, rest.1 f, add_same m rest.0 f), record { comes = told.0; tells = told.1 })
