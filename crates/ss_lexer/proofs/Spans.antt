-- Where a token stands: it begins at its place, is not empty, and ends inside the text.
use Rattle.std.proofs.Common.{◌≡◌, ℕ, zero, suc, zero-add, ◌+◌, ◌<◌, ◌≤◌, Bool, true, false, ◌==◌, ◌&&◌, ◌||◌, List, [], ◌∷◌, length, take, Option, Some, None, Ok, Err, inl, inr, refl, subst, ap, arith}
use Rattle.std.specs.Prelude.{IfSome, nat_le, if◌then◌else◌}
use Rattle.std.specs.Char.{is_ascii_digit}
use Rattle.std.specs.Option.{option_map}
use Rattle.std.specs.Str.{bytes_eq}
use Rattle.std.proofs.lemmas.List.{length-take}
use Rattle.std.proofs.lemmas.List.Sums.{prefix_len-le-length}
use Rattle.std.proofs.lemmas.Slice.Eq.{bytes_eq-Decides}
use Rattle.std.proofs.lemmas.Bool.Decides.{eqb_tells, leb_tells}
use Rattle.ss_text.specs.Texts.{Text}
use Rattle.ss_lexer.specs.declared.token.Kind.{Kind}
use Rattle.ss_lexer.specs.declared.token.Kind.TheVariants as kind
use Rattle.ss_lexer.specs.declared.token.Token.{Token}
use Rattle.ss_lexer.specs.declared.token.TokenFault.TheVariants as fault
use Rattle.ss_lexer.specs.Spelling.{is_blank, is_letter, in_word, goes_on, first_passes, word_len, quote_len, digits_len, signs, first_len, sign_len}
use Rattle.ss_lexer.specs.Sound.{is_finish, is_last, is_inside, are_sound}
use Rattle.ss_lexer.specs.Tokens.{Answer, token, quotation, sign, answer, is_number, further, followed, tokens_from, tokens}

-- a token begins at this place, is not empty, ends inside these bytes, which stand there, and is not the end
abbrev pub Stands : ℕ → ℕ → Answer → Type 0
Stands at len (Ok t) = (t.from ≡ at) × (at < t.to) × (t.to ≤ at + len) × (is_finish t.kind ≡ false)
Stands at len (Err e) = Unit {0}

either : (c : Bool) (at len : ℕ) (a b : Answer) → (c ≡ true → Stands at len a) → (c ≡ false → Stands at len b) → Stands at len (if c then a else b)
either true at len a b f g = f refl
either false at len a b f g = g refl

-- a word is not empty, since its first byte goes on it
in_word_letter : (b : ℕ) → is_letter b ≡ true → in_word b ≡ true
in_word_letter b h = ap (λ x. x || is_ascii_digit b) h

pub word_some : (b : ℕ) (bs : List ℕ) → is_letter b ≡ true → 0 < word_len (b ∷ bs)
word_some b bs h = rw (in_word_letter b h) (omega arith)

pub word_inside : (bs : List ℕ) → word_len bs ≤ length bs
word_inside [] = omega arith
word_inside (b ∷ bs) = elim (goes_on (b ∷ bs)) as (λ x. (if x then suc (word_len bs) else 0) ≤ suc (length bs)) [ true ↦ omega (arith, word_inside bs) | false ↦ omega arith ]

moved : (k m n : ℕ) (o : Option ℕ) → IfSome o (λ x. x ≤ m) → k + m ≤ n → IfSome (option_map (λ x. k + x) o) (λ x. x ≤ n)
moved k m n None h e = tt
moved k m n (Some x) h e = omega arith

quote_inside : (q : ℕ) (bs : List ℕ) → IfSome (quote_len q bs) (λ n. n ≤ length bs)
quote_inside q [] = tt
quote_inside q (b ∷ []) = elim (b == q) as (λ x. IfSome (if x then Some 1 else None) (λ n. n ≤ 1)) [ true ↦ omega arith | false ↦ tt ]
quote_inside q (b ∷ c ∷ bs) =
    let after = moved 2 (length bs) (suc (suc (length bs))) (quote_len q bs) (quote_inside q bs) (omega arith) in
    let next = moved 1 (suc (length bs)) (suc (suc (length bs))) (quote_len q (c ∷ bs)) (quote_inside q (c ∷ bs)) (omega arith) in
    elim (b == q) as (λ x. IfSome (if x then (if c == q then option_map (λ n. 2 + n) (quote_len q bs) else Some 1) else option_map (λ n. 1 + n) (quote_len q (c ∷ bs))) (λ n. n ≤ suc (suc (length bs))))
    [ true ↦ elim (c == q) as (λ x. IfSome (if x then option_map (λ n. 2 + n) (quote_len q bs) else Some 1) (λ n. n ≤ suc (suc (length bs)))) [ true ↦ after | false ↦ omega arith ] | false ↦ next ]

one_inside : (s bs : List ℕ) (n : ℕ) → n ≤ length bs → (b : Bool) → bytes_eq (take (length s) bs) s ≡ b → (if b then length s else n) ≤ length bs
one_inside s bs n h true e = omega (arith, length-take (length s) bs, ap length ((bytes_eq-Decides (take (length s) bs) s).0 e))
one_inside s bs n h false e = h

first_inside : (ss : List Text) (bs : List ℕ) → first_len ss bs ≤ length bs
first_inside [] bs = omega arith
first_inside (s ∷ ss) bs = one_inside s bs (first_len ss bs) (first_inside ss bs) (bytes_eq (take (length s) bs) s) refl

digits_some : (b : ℕ) (bs : List ℕ) → is_ascii_digit b ≡ true → 0 < digits_len (b ∷ bs)
digits_some b bs h = rw h (omega arith)

quotation_stands : (at : ℕ) (k : Kind) (o : Option ℕ) (n : ℕ) → is_finish k ≡ false → IfSome o (λ x. x ≤ n) → Stands at (suc n) (quotation at k o)
quotation_stands at k None n e h = tt
quotation_stands at k (Some x) n e h = (refl, omega arith, omega arith, e)

sign_stands : (at len n : ℕ) → len ≤ n → Stands at n (sign at len)
sign_stands at len n h = either (len == 0) at n (Err (fault.BadByte at)) (token at kind.Sign len) (λ e. tt) (λ e.
    let some : 0 < len = elim (eqb_tells len 0) [ inl p ↦ absurd (cc) | inr p ↦ omega arith ] in
    (refl, omega arith, omega arith, refl))

pub stands : (behind : Bool) (at b : ℕ) (bs : List ℕ) → Stands at (suc (length bs)) (answer behind at (b ∷ bs))
unfolding answer
stands behind at b bs =
    either (is_letter b) at (suc (length bs)) _ _ (λ h. (refl, omega (arith, word_some b bs h), omega (arith, word_inside (b ∷ bs)), refl)) (λ _.
    either (b == 34) at (suc (length bs)) _ _ (λ _. quotation_stands at kind.Quoted (quote_len 34 bs) (length bs) refl (quote_inside 34 bs)) (λ _.
    either (b == 39) at (suc (length bs)) _ _ (λ _. quotation_stands at kind.Str (quote_len 39 bs) (length bs) refl (quote_inside 39 bs)) (λ _.
    either (is_ascii_digit b) at (suc (length bs)) _ _ (λ h.
    either behind at (suc (length bs)) (Err (fault.BadByte at)) (token at kind.Num (digits_len (b ∷ bs))) (λ _. tt) (λ _.
    (refl, omega (arith, digits_some b bs h), omega (arith, prefix_len-le-length is_ascii_digit (b ∷ bs)), refl))) (λ _.
    either ((b == 45) && first_passes is_ascii_digit bs) at (suc (length bs)) _ _ (λ _. (refl, omega arith, omega (arith, prefix_len-le-length is_ascii_digit bs), refl)) (λ _.
    sign_stands at (sign_len (b ∷ bs)) (suc (length bs)) (first_inside signs (b ∷ bs)))))))

le : (a b : ℕ) → a ≤ b → nat_le a b ≡ true
le a b h = elim (leb_tells a b) [ inl p ↦ p.0 | inr p ↦ absurd (omega arith) ]

inside_at : (at len : ℕ) (t : Token) → Stands at len (Ok t) → is_inside (at + len) (Ok t) ≡ true
inside_at at len t h = rw (le t.from t.to (omega arith), le t.to (at + len) (omega arith)) refl

one_more_sound : (len : ℕ) (a : Answer) (rest : List Answer) → is_last a ≡ false → is_inside len a ≡ true → are_sound len rest ≡ true → are_sound len (a ∷ rest) ≡ true
one_more_sound len a [] last inside h = absurd (cc)
one_more_sound len a (b ∷ bs) last inside h = rw (last, inside) h

followed_sound : (at len : ℕ) (a : Answer) (rest : List Answer) → Stands at len a → are_sound (at + len) rest ≡ true → are_sound (at + len) (followed a rest) ≡ true
followed_sound at len (Err e) rest s h = refl
followed_sound at len (Ok t) rest s h = one_more_sound (at + len) (Ok t) rest s.3 (inside_at at len t s) h

pub further_inside : (at len : ℕ) (a : Answer) → Stands at (suc len) a → further a ≤ len
further_inside at len (Ok t) s = omega arith
further_inside at len (Err e) s = omega arith

sound_at : (at x : ℕ) (xs : List ℕ) (behind : Bool) → are_sound (suc at + length xs) (tokens_from false 0 (suc at) xs) ≡ true
    → ((b : Bool) (n : ℕ) → n ≤ length xs → are_sound (suc at + length xs) (tokens_from b n (suc at) xs) ≡ true)
    → (b : Bool) → is_blank x ≡ b → are_sound (at + suc (length xs)) (tokens_from behind 0 at (x ∷ xs)) ≡ true
sound_at at x xs behind h hs true e =
    let len : suc at + length xs ≡ at + suc (length xs) = omega arith in
    rw e (subst (λ n. are_sound n (tokens_from false 0 (suc at) xs) ≡ true) len h)
sound_at at x xs behind h hs false e =
    let len : suc at + length xs ≡ at + suc (length xs) = omega arith in
    let a = answer behind at (x ∷ xs) in
    let s = stands behind at x xs in
    rw e (followed_sound at (suc (length xs)) a (tokens_from (is_number a) (further a) (suc at) xs) s
    (subst (λ n. are_sound n (tokens_from (is_number a) (further a) (suc at) xs) ≡ true) len (hs (is_number a) (further a) (further_inside at (length xs) a s))))

sound_end : (at : ℕ) (behind : Bool) → are_sound (at + 0) (answer behind at [] ∷ []) ≡ true
unfolding answer
sound_end at behind = rw (le at (at + 0) (omega arith), le (at + 0) (at + 0) (omega arith)) refl

sound_from : (xs : List ℕ) (behind : Bool) (n at : ℕ) → n ≤ length xs → are_sound (at + length xs) (tokens_from behind n at xs) ≡ true
sound_from [] behind n at h = sound_end at behind
sound_from (x ∷ xs) behind (suc n) at h =
    let len : suc at + length xs ≡ at + suc (length xs) = omega arith in
    subst (λ m. are_sound m (tokens_from behind n (suc at) xs) ≡ true) len (sound_from xs behind n (suc at) (omega arith))
sound_from (x ∷ xs) behind zero at h = sound_at at x xs behind (sound_from xs false 0 (suc at) (omega arith)) (λ b n k. sound_from xs b n (suc at) k) (is_blank x) refl

-- the tokens of every text are sound
pub sound_tokens : (bytes : List ℕ) → are_sound (length bytes) (tokens bytes) ≡ true
unfolding tokens
sound_tokens bytes = subst (λ n. are_sound n (tokens_from false 0 0 bytes) ≡ true) (zero-add (length bytes)) (sound_from bytes false 0 0 (omega arith))
