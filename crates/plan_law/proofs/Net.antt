-- Moves of which no row moves both ways are the fewest.
use Rattle.std.proofs.Common.{◌≡◌, inl, inr, subst, ℕ, ◌+◌, ◌≤◌, suc, List, [], ◌∷◌, length, Bool, true, false, ◌&&◌, cond, refl, arith}
use Rattle.std.specs.List.{list_any, AllByRecursion}
use Rattle.ss_text.specs.Texts.{Row, row_eq}
use Rattle.schema_delta.specs.Net.{SameNet, IsNet}
use Rattle.operator_law.proofs.SignedRows.{come-up, go-up, come-down, go-down}
use Rattle.plan_law.proofs.Columns.{Has}
use Rattle.operator_law.specs.declared.delta.Signed.{Signed}
use Rattle.operator_law.specs.Bags.{weigh, come, go, all_signed}

-- the test tells those that come from those that go
abbrev pub Tells : (Row → Bool) → List Signed → Type 0
Tells test ms = AllByRecursion (λ (m : Signed). test m.row ≡ m.up) ms

-- rows that the test takes for such as come, and the others
abbrev if_comes : (Row → Bool) → Row → ℕ
if_comes test r = cond (test r) 1 0

abbrev if_goes : (Row → Bool) → Row → ℕ
if_goes test r = cond (test r) 0 1

come_told : (test : Row → Bool) (ms : List Signed) → Tells test ms → (come (if_comes test) ms + go (if_goes test) ms ≡ length ms) × (come (if_goes test) ms ≡ 0) × (go (if_comes test) ms ≡ 0)
come_told test [] h = (refl, refl, refl)
come_told test (m ∷ ms) h = one m.up h.0 (come_told test ms h.1)
  where
    one : (b : Bool) → test m.row ≡ b → (come (if_comes test) ms + go (if_goes test) ms ≡ length ms) × (come (if_goes test) ms ≡ 0) × (go (if_comes test) ms ≡ 0)
        → ((cond b (if_comes test m.row) 0 + come (if_comes test) ms) + (cond b 0 (if_goes test m.row) + go (if_goes test) ms) ≡ suc (length ms))
        × (cond b (if_goes test m.row) 0 + come (if_goes test) ms ≡ 0) × (cond b 0 (if_comes test m.row) + go (if_comes test) ms ≡ 0)
    one true e rest = rw e (omega (arith, rest.0), omega (arith, rest.1), omega (arith, rest.2))
    one false e rest = rw e (omega (arith, rest.0), omega (arith, rest.1), omega (arith, rest.2))

at_most : (test : Row → Bool) (ns : List Signed) → come (if_comes test) ns + go (if_goes test) ns ≤ length ns
at_most test [] = omega arith
at_most test (n ∷ ns) = one n.up (test n.row) (at_most test ns)
  where
    one : (b t : Bool) → come (if_comes test) ns + go (if_goes test) ns ≤ length ns → (cond b (cond t 1 0) 0 + come (if_comes test) ns) + (cond b 0 (cond t 0 1) + go (if_goes test) ns) ≤ suc (length ns)
    one true true e = omega arith
    one true false e = omega arith
    one false true e = omega arith
    one false false e = omega arith

-- there are no fewer moves that are the same in net
pub fewest : (ms ns : List Signed) → IsNet ms → SameNet ms ns → length ms ≤ length ns
fewest ms ns net same =
    let told = come_told net.comes ms net.tells in
    omega (arith, told.0, told.1, told.2, same (if_comes net.comes), same (if_goes net.comes), at_most net.comes ns)

-- what rows that all come weigh, and rows that all go
pub ups_come : (f : Row → ℕ) (rows : List Row) → (come f (all_signed true rows) ≡ weigh f rows) × (go f (all_signed true rows) ≡ 0)
ups_come f rows = (come-up f rows, go-up f rows)

pub downs_go : (f : Row → ℕ) (rows : List Row) → (come f (all_signed false rows) ≡ 0) × (go f (all_signed false rows) ≡ weigh f rows)
downs_go f rows = (come-down f rows, go-down f rows)

none_go : (f : Row → ℕ) (test : Row → Bool) (ms : List Signed) → Tells test ms → go (if_goes test) ms ≡ 0 → go f ms ≡ 0
none_go f test [] h e = refl
none_go f test (m ∷ ms) h e = one m.up h.0 e (none_go f test ms h.1)
  where
    one : (b : Bool) → test m.row ≡ b → cond b 0 (if_goes test m.row) + go (if_goes test) ms ≡ 0 → (go (if_goes test) ms ≡ 0 → go f ms ≡ 0) → cond b 0 (f m.row) + go f ms ≡ 0
    one true t e rest = omega (arith, rest (omega arith))
    one false t e rest =
        let some : 1 + go (if_goes test) ms ≡ 0 = subst (λ (b : Bool). cond b 0 1 + go (if_goes test) ms ≡ 0) t e in
        absurd (omega arith)

-- moves in net that are the same as rows that come are these rows
pub net_ups : (ms : List Signed) (rows : List Row) → IsNet ms → SameNet ms (all_signed true rows) → (f : Row → ℕ) → (go f ms ≡ 0) × (come f ms ≡ weigh f rows)
net_ups ms rows net same f =
    let told = come_told net.comes ms net.tells in
    let ups = ups_come (if_goes net.comes) rows in
    let none : go (if_goes net.comes) ms ≡ 0 = omega (arith, told.1, same (if_goes net.comes), ups.0, ups.1) in
    let gone = none_go f net.comes ms net.tells none in
    (gone, omega (arith, gone, same f, (ups_come f rows).0, (ups_come f rows).1))

none_come : (f : Row → ℕ) (test : Row → Bool) (ms : List Signed) → Tells test ms → come (if_comes test) ms ≡ 0 → come f ms ≡ 0
none_come f test [] h e = refl
none_come f test (m ∷ ms) h e = one m.up h.0 e (none_come f test ms h.1)
  where
    one : (b : Bool) → test m.row ≡ b → cond b (if_comes test m.row) 0 + come (if_comes test) ms ≡ 0 → (come (if_comes test) ms ≡ 0 → come f ms ≡ 0) → cond b (f m.row) 0 + come f ms ≡ 0
    one false t e rest = omega (arith, rest (omega arith))
    one true t e rest =
        let some : 1 + come (if_comes test) ms ≡ 0 = subst (λ (b : Bool). cond b 1 0 + come (if_comes test) ms ≡ 0) t e in
        absurd (omega arith)

-- and those that are the same as rows that go
pub net_downs : (ms : List Signed) (rows : List Row) → IsNet ms → SameNet ms (all_signed false rows) → (f : Row → ℕ) → (come f ms ≡ 0) × (go f ms ≡ weigh f rows)
net_downs ms rows net same f =
    let told = come_told net.comes ms net.tells in
    let downs = downs_go (if_comes net.comes) rows in
    let none : come (if_comes net.comes) ms ≡ 0 = omega (arith, told.2, same (if_comes net.comes), downs.0, downs.1) in
    let gone = none_come f net.comes ms net.tells none in
    (gone, omega (arith, gone, same f, (downs_go f rows).0, (downs_go f rows).1))

-- where no row stands with both signs, whether it comes is such a test
abbrev pub comes_in : List Signed → Row → Bool
comes_in ms r = list_any (λ (m : Signed). m.up && row_eq r m.row) ms

abbrev pub OneWay : List Signed → Type 0
OneWay ms = (m n : Signed) → Has ms m → Has ms n → m.row ≡ n.row → m.up ≡ n.up

none_any : {X : Type 0} (p : X → Bool) (xs : List X) → ((x : X) → Has xs x → p x ≡ false) → list_any p xs ≡ false
none_any p [] h = refl
none_any p (x ∷ xs) h = rw (h x (inl refl)) (none_any p xs (λ y m. h y (inr m)))

all_of : {X : Type 0} (P : X → Type 0) (xs : List X) → ((x : X) → Has xs x → P x) → AllByRecursion P xs
all_of P [] h = tt
all_of P (x ∷ xs) h = (h x (inl refl), all_of P xs (λ y m. h y (inr m)))
