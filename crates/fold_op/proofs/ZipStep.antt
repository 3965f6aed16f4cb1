-- One more pair of two lists.
use Rattle.std.proofs.Common.{◌≡◌, ℕ, ◌+◌, ◌<◌, List, [], ◌∷◌, ◌++◌, map, take, get_or, length, min, arith, ap, sym, ◌∙◌, append_assoc}
use Rattle.std.specs.List.{zip}
use Rattle.std.proofs.lemmas.List.{take_more, take_all, map_push}
use Rattle.std.proofs.lemmas.Slice.Zip.{length-zip, get_or-zip}
use Rattle.ss_text.specs.Texts.{Text, Row}

pub zip_step : {A B C : Type 0} (e : A × B → C) (ks : List A) (vs : List B) (i : ℕ) (x : A) (y : B) → i < length ks → i < length vs → x ≡ get_or ks i x → y ≡ get_or vs i y → map e (take (i + 1) (zip ks vs)) ≡ map e (take i (zip ks vs)) ++ e (x, y) ∷ []
zip_step e ks vs i x y h k at_x at_y =
    let lt : i < length (zip ks vs) = omega (arith, length-zip ks vs) in
    ap (map e) (take_more (zip ks vs) i (x, y) lt) ∙ map_push e (take i (zip ks vs)) (get_or (zip ks vs) i (x, y))
    ∙ ap (λ p. map e (take i (zip ks vs)) ++ e p ∷ []) (get_or-zip ks vs i (x, y) h k)
    ∙ ap (λ z. map e (take i (zip ks vs)) ++ e (z, get_or vs i y) ∷ []) (sym at_x)
    ∙ ap (λ z. map e (take i (zip ks vs)) ++ e (x, z) ∷ []) (sym at_y)

pub zip_all : {A B C : Type 0} (e : A × B → C) (ks : List A) (vs : List B) (i : ℕ) → i ≡ min (length ks) (length vs) → map e (take i (zip ks vs)) ≡ map e (zip ks vs)
zip_all e ks vs i h = ap (map e) (take_all i (zip ks vs) (omega (arith, length-zip ks vs)))

-- one more flat row of a row
pub entries_step : (old flat : List Row) (e : Text × Text → Row) (ns row : Row) (k : ℕ) (x y : Text) → k < length ns → k < length row → x ≡ get_or ns k x → y ≡ get_or row k y → flat ≡ old ++ map e (take k (zip ns row)) → flat ++ e (x, y) ∷ [] ≡ old ++ map e (take (k + 1) (zip ns row))
entries_step old flat e ns row k x y h i at_x at_y is =
    ap (λ rows. rows ++ e (x, y) ∷ []) is
    ∙ append_assoc old (map e (take k (zip ns row))) (e (x, y) ∷ [])
    ∙ ap (λ zs. old ++ zs) (sym (zip_step e ns row k x y h i at_x at_y))
