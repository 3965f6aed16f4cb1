-- The row at a spot, and the cells of a key.
use Rattle.std.proofs.Common.{◌≡◌, ◌<◌, ◌+◌, ◌∷◌, ◌++◌, [], ℕ, List, Some, sym, ◌∙◌, ap, subst, zero, suc, length, map, take, get_or, arith, length-append, add-zero}
use Rattle.std.specs.List.Sorted.{IsStrictlySortedBy}
use Rattle.std.specs.Map.{lookup}
use Rattle.std.proofs.lemmas.List.{get_or-map, get_or_append_left, get_or-append-add}
use Rattle.ss_text.specs.Texts.{Row, row_eq, row_cmp}
use Rattle.ss_text.specs.Keys.{IsPlaceOf}
use Rattle.ss_text.proofs.KeyLemmas.{row_order, lookup_at, place_of_seen}
use Rattle.flow_law.specs.Tables.{key_of}
use Rattle.row_shelves.specs.Stocks.{Stock, stock_key, row_of, rows_of}
use Rattle.row_shelves.specs.Shelves.{joined}
use Rattle.row_shelves.proofs.SeenLemmas.{keys_of_rows}

-- an element of a part is one of the whole
pub on_part : {S A : Type 0} (rows : S → List A) (ss : List S) (i j : ℕ) (d : S) (r : A) → i < length ss → j < length (rows (get_or ss i d))
    → get_or (joined rows ss) (j + length (joined rows (take i ss))) r ≡ get_or (rows (get_or ss i d)) j r
on_part rows [] i j d r lt on = absurd (omega arith)
on_part rows (s ∷ ss) zero j d r lt on = ap (λ n. get_or (rows s ++ joined rows ss) n r) (add-zero j) ∙ get_or_append_left (rows s) (joined rows ss) r j on
on_part rows (s ∷ ss) (suc i) j d r lt on =
    ap (λ n. get_or (rows s ++ joined rows ss) n r) behind
    ∙ get_or-append-add (rows s) (joined rows ss) (j + length (joined rows (take i ss))) r
    ∙ on_part rows ss i j d r (omega arith) on
  where
    behind : j + length (rows s ++ joined rows (take i ss)) ≡ length (rows s) + (j + length (joined rows (take i ss)))
    behind = omega (arith, length-append (rows s) (joined rows (take i ss)))

-- the cells at the place of a key are those of the key
pub cells_found : (key : Row) (rs : List Stock) (i : ℕ) (r : Stock) → IsStrictlySortedBy row_cmp (map stock_key rs) → IsPlaceOf stock_key key rs i → get_or rs i r ≡ r → Some r.cells ≡ lookup (row_eq key) (rows_of rs)
cells_found key rs i r s at is =
    ap (λ (x : Stock). Some x.cells) (sym is)
    ∙ ap (λ (x : Row × Row). Some x.1) (sym (get_or-map row_of rs i r (row_of r) at.within))
    ∙ sym (lookup_at row_order key (rows_of rs) i (row_of r) (subst (IsStrictlySortedBy row_cmp) (keys_of_rows rs) s) (place_of_seen row_order key_of row_of key rs i at))
