-- Cells of attributes that a change leaves.
use Rattle.std.proofs.Common.{◌≡◌, ℕ, zero, suc, ◌+◌, [], ◌∷◌, ◌++◌, Bool, true, false, refl, arith, sym, ◌∙◌, length, ◌&&◌, ◌||◌, subst}
use Rattle.std.specs.Prelude.{remove, slice_set, bytes_eq}
use Rattle.std.specs.List.{AllByRecursion, IsDistinct}
use Rattle.std.proofs.lemmas.Slice.Eq.{bytes_eq-Decides}
use Rattle.std.proofs.lemmas.Map.Keys.{IsDistinct-head, IsDistinct-tail}
use Rattle.ss_text.specs.Texts.{Text, Row, text_eq, is_in}
use Rattle.fold_op.specs.Cells.{has_all, place_of, cell_at, picked}

-- the cell of an attribute
abbrev pub cell_of : Row → Row → Text → Text
cell_of ns row a = cell_at row (place_of ns a)

one_more : (n : ℕ) → 1 + n ≡ suc n
one_more n = omega arith

-- the first attribute, and the rest
here : (x : Text) (ns : Row) (cell : Text) (row : Row) (a : Text) → text_eq a x ≡ true → cell_of (x ∷ ns) (cell ∷ row) a ≡ cell
here x ns cell row a e = rw e refl

later : (x : Text) (ns : Row) (cell : Text) (row : Row) (a : Text) → text_eq a x ≡ false → cell_of (x ∷ ns) (cell ∷ row) a ≡ cell_of ns row a
later x ns cell row a e = rw (e, one_more) refl

is_later : (a x : Text) (ns : Row) → text_eq a x ≡ false → is_in a (x ∷ ns) ≡ true → is_in a ns ≡ true
is_later a x ns e h = rw e at h

-- an attribute among others is not the one that none of them is
pub other : (a x : Text) (ns : Row) → AllByRecursion (λ y. bytes_eq x y ≡ false) ns → is_in a ns ≡ true → text_eq a x ≡ false
other a x [] fresh h = absurd (cc)
other a x (y ∷ ns) fresh h =
    elim (text_eq a y) as (λ b. text_eq a y ≡ b → text_eq a x ≡ false) [
      | true ↦ λ e. let same : a ≡ y = (bytes_eq-Decides a y).0 e in rw same (flipped y x fresh.0)
      | false ↦ λ e. other a x ns fresh.1 (is_later a y ns e h)
    ] refl
  where
    flipped : (a b : Text) → text_eq b a ≡ false → text_eq a b ≡ false
    flipped a b h = elim (text_eq a b) as (λ t. text_eq a b ≡ t → t ≡ false) [
      | true ↦ λ e. let back : text_eq b a ≡ true = (bytes_eq-Decides b a).1 (sym ((bytes_eq-Decides a b).0 e)) in absurd (cc)
      | false ↦ λ e. refl
    ] refl

-- one more attribute
pub cell_more : (ns row : Row) (name fill a : Text) → is_in a ns ≡ true → length row ≡ length ns → cell_of (ns ++ name ∷ []) (row ++ fill ∷ []) a ≡ cell_of ns row a
cell_more [] row name fill a h l = absurd (cc)
cell_more (x ∷ ns) [] name fill a h l = absurd (omega (arith, l))
cell_more (x ∷ ns) (cell ∷ row) name fill a h l =
    elim (text_eq a x) as (λ b. text_eq a x ≡ b → cell_of (x ∷ ns ++ name ∷ []) (cell ∷ row ++ fill ∷ []) a ≡ cell_of (x ∷ ns) (cell ∷ row) a) [
      | true ↦ λ e. here x (ns ++ name ∷ []) cell (row ++ fill ∷ []) a e ∙ sym (here x ns cell row a e)
      | false ↦ λ e.
          later x (ns ++ name ∷ []) cell (row ++ fill ∷ []) a e
          ∙ cell_more ns row name fill a (is_later a x ns e h) (omega (arith, l))
          ∙ sym (later x ns cell row a e)
    ] refl

-- one fewer
pub cell_less : (ns row : Row) (p : ℕ) (a : Text) → IsDistinct bytes_eq ns → is_in a (remove ns p) ≡ true → length row ≡ length ns → cell_of (remove ns p) (remove row p) a ≡ cell_of ns row a
cell_less [] row zero a d h l = absurd (cc)
cell_less [] row (suc p) a d h l = absurd (cc)
cell_less (x ∷ ns) [] p a d h l = absurd (omega (arith, l))
cell_less (x ∷ ns) (cell ∷ row) zero a d h l =
    sym (later x ns cell row a (other a x ns (IsDistinct-head bytes_eq x ns d) h))
cell_less (x ∷ ns) (cell ∷ row) (suc p) a d h l =
    elim (text_eq a x) as (λ b. text_eq a x ≡ b → cell_of (x ∷ remove ns p) (cell ∷ remove row p) a ≡ cell_of (x ∷ ns) (cell ∷ row) a) [
      | true ↦ λ e. here x (remove ns p) cell (remove row p) a e ∙ sym (here x ns cell row a e)
      | false ↦ λ e.
          later x (remove ns p) cell (remove row p) a e
          ∙ cell_less ns row p a (IsDistinct-tail bytes_eq x ns d) (is_later a x (remove ns p) e h) (omega (arith, l))
          ∙ sym (later x ns cell row a e)
    ] refl

-- another name
pub cell_renamed : (ns row : Row) (p : ℕ) (to a : Text) → IsDistinct bytes_eq ns → is_in to ns ≡ false → is_in a ns ≡ true → is_in a (slice_set ns p to) ≡ true → length row ≡ length ns → cell_of (slice_set ns p to) row a ≡ cell_of ns row a
cell_renamed [] row zero to a d new h k l = refl
cell_renamed [] row (suc p) to a d new h k l = refl
cell_renamed (x ∷ ns) [] p to a d new h k l = absurd (omega (arith, l))
cell_renamed (x ∷ ns) (cell ∷ row) zero to a d new h k l =
    elim (text_eq a to) as (λ b. text_eq a to ≡ b → cell_of (to ∷ ns) (cell ∷ row) a ≡ cell_of (x ∷ ns) (cell ∷ row) a) [
      | true ↦ λ e.
          let same : a ≡ to = (bytes_eq-Decides a to).0 e in
          let there : is_in to (x ∷ ns) ≡ true = subst (λ (b : Text). is_in b (x ∷ ns) ≡ true) same h in
          absurd (cc)
      | false ↦ λ e.
          let k : is_in a ns ≡ true = is_later a to ns e k in
          later to ns cell row a e ∙ sym (later x ns cell row a (other a x ns (IsDistinct-head bytes_eq x ns d) k))
    ] refl
cell_renamed (x ∷ ns) (cell ∷ row) (suc p) to a d new h k l =
    elim (text_eq a x) as (λ b. text_eq a x ≡ b → cell_of (x ∷ slice_set ns p to) (cell ∷ row) a ≡ cell_of (x ∷ ns) (cell ∷ row) a) [
      | true ↦ λ e. here x (slice_set ns p to) cell row a e ∙ sym (here x ns cell row a e)
      | false ↦ λ e.
          later x (slice_set ns p to) cell row a e
          ∙ cell_renamed ns row p to a (IsDistinct-tail bytes_eq x ns d) (new_later to x ns new) (is_later a x ns e h) (is_later a x (slice_set ns p to) e k) (omega (arith, l))
          ∙ sym (later x ns cell row a e)
    ] refl
  where
    new_later : (to x : Text) (ns : Row) → is_in to (x ∷ ns) ≡ false → is_in to ns ≡ false
    new_later to x ns = elim (text_eq to x) as (λ b. (b || is_in to ns) ≡ false → is_in to ns ≡ false) [
      | true ↦ λ e. absurd (cc)
      | false ↦ λ e. e
    ]

-- both of two tests
pub and_both : (a b : Bool) → (a && b) ≡ true → (a ≡ true) × (b ≡ true)
and_both true b h = (refl, h)
and_both false b h = absurd (cc)

-- the wanted cells of a row are the same where each wanted cell is
pub same_cells : (w ns ns' row row' : Row) → ((a : Text) → is_in a ns ≡ true → is_in a ns' ≡ true → cell_of ns' row' a ≡ cell_of ns row a) → has_all w ns ≡ true → has_all w ns' ≡ true → picked w ns' row' ≡ picked w ns row
same_cells [] ns ns' row row' same h k = refl
same_cells (a ∷ w) ns ns' row row' same h k =
    let h2 = and_both (is_in a ns) (has_all w ns) h in
    let k2 = and_both (is_in a ns') (has_all w ns') k in
    let first : cell_of ns' row' a ≡ cell_of ns row a = same a h2.0 k2.0 in
    let rest : picked w ns' row' ≡ picked w ns row = same_cells w ns ns' row row' same h2.1 k2.1 in
    rw (first, rest) refl

-- more attributes have all that the fewer have
in_more : (a : Text) (ns : Row) (name : Text) → is_in a ns ≡ true → is_in a (ns ++ name ∷ []) ≡ true
in_more a [] name h = absurd (cc)
in_more a (x ∷ ns) name h = elim (text_eq a x) as (λ b. text_eq a x ≡ b → (b || is_in a (ns ++ name ∷ [])) ≡ true) [
  | true ↦ λ e. refl
  | false ↦ λ e. in_more a ns name (is_later a x ns e h)
] refl

in_less : (a : Text) (ns : Row) (p : ℕ) → is_in a (remove ns p) ≡ true → is_in a ns ≡ true
in_less a [] zero h = h
in_less a [] (suc p) h = h
in_less a (x ∷ ns) zero h = elim (text_eq a x) as (λ b. (b || is_in a ns) ≡ true) [ true ↦ refl | false ↦ h ]
in_less a (x ∷ ns) (suc p) h = elim (text_eq a x) as (λ b. text_eq a x ≡ b → (b || is_in a ns) ≡ true) [
  | true ↦ λ e. refl
  | false ↦ λ e. in_less a ns p (is_later a x (remove ns p) e h)
] refl

has_wider : (w ns ns' : Row) → ((a : Text) → is_in a ns ≡ true → is_in a ns' ≡ true) → has_all w ns ≡ true → has_all w ns' ≡ true
has_wider [] ns ns' wider h = refl
has_wider (a ∷ w) ns ns' wider h =
    let h2 = and_both (is_in a ns) (has_all w ns) h in
    rw (wider a h2.0, has_wider w ns ns' wider h2.1) refl

pub has_more : (w ns : Row) (name : Text) → has_all w ns ≡ true → has_all w (ns ++ name ∷ []) ≡ true
has_more w ns name h = has_wider w ns (ns ++ name ∷ []) (λ a h. in_more a ns name h) h

pub has_less : (w ns : Row) (p : ℕ) → has_all w (remove ns p) ≡ true → has_all w ns ≡ true
has_less w ns p h = has_wider w (remove ns p) ns (λ a h. in_less a ns p h) h
