-- Lists of pieces, and what is left of them.
use Rattle.outside.specs.Streams.{before}
use Rattle.std.proofs.Common.{Some, unwrap_or, append-nil, append_assoc, ◌≡◌, ◌<◌, ◌≤◌, ◌+◌, ◌-◌, ℕ, suc, min, List, [], ◌∷◌, ◌++◌, length, take, drop, get_or, refl, sym, ap, ◌∙◌, arith, add-one}
use Rattle.std.proofs.Math.Seq.{drop-cons, take-nil}
use Rattle.std.proofs.lemmas.List.{take-append-drop, drop_all}
use Rattle.outside.specs.MemStreams.{joined, current_piece, pieces_after, begun, between}

pub none_begun : (pieces : List (List ℕ)) → begun 0 pieces ≡ pieces
none_begun [] = refl
none_begun (piece ∷ pieces) = refl

-- past a piece that is used up
pub used_up : (pieces : List (List ℕ)) (i at : ℕ) → i < length pieces → length (get_or pieces i []) ≤ at → begun at (drop i pieces) ≡ [] ∷ begun 0 (drop (i + 1) pieces)
used_up pieces i at lt used = rw (add-one, drop-cons pieces i [], drop_all at (get_or pieces i []) used) (ap (λ (ps : List (List ℕ)). [] ∷ ps) (sym (none_begun (drop (suc i) pieces))))

-- what is read of the current piece, and then what is left
read_and_rest : (pieces : List (List ℕ)) (n : ℕ) → joined pieces ≡ take n (current_piece pieces) ++ joined (pieces_after n pieces)
read_and_rest [] n = sym (append-nil (take n []) ∙ take-nil n)
read_and_rest ([] ∷ pieces) n = read_and_rest pieces n
read_and_rest ((b ∷ bs) ∷ pieces) n = ap (λ (t : List ℕ). t ++ joined pieces) (sym (take-append-drop n (b ∷ bs))) ∙ append_assoc (take n (b ∷ bs)) (drop n (b ∷ bs)) (joined pieces)

pub read_moves : (old new : List (List ℕ)) (n : ℕ) (into : List ℕ) → take n into ≡ take n (current_piece old) → new ≡ pieces_after n old → Some (joined old) ≡ before (take n into) (Some (joined new))
read_moves old new n into bytes left = rw (bytes, left) (ap Some (read_and_rest old n))

none_left : (pieces : List (List ℕ)) → length (current_piece pieces) ≤ 0 → joined pieces ≡ []
none_left [] h = refl
none_left ([] ∷ pieces) h = none_left pieces h
none_left ((b ∷ bs) ∷ pieces) h = absurd (omega arith)

-- a read of nothing is the end
pub read_ends : (pieces : List (List ℕ)) (n m : ℕ) (bytes : List ℕ) → n ≡ min (length (current_piece pieces)) m → Some (joined pieces) ≡ Some bytes → 0 < m → n ≡ 0 → bytes ≡ []
read_ends pieces n m bytes most is some zero = sym (ap (λ o. unwrap_or o []) is) ∙ none_left pieces (omega arith)

pub none_between : (at : ℕ) (piece into : List ℕ) → between at at piece ≡ take 0 into
none_between at piece into = let none : at - at ≡ 0 = omega arith in rw none refl

-- what was moved of a piece from a place on
pub moved_between : (at n : ℕ) (piece into : List ℕ) → take n into ≡ take n (drop at piece) → between at (at + n) piece ≡ take n into
moved_between at n piece into moved = let all : (at + n) - at ≡ n = omega arith in rw all (sym moved)
