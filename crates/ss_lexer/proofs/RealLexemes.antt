-- What the identifiers of a text are.
use Rattle.std.proofs.Common.{◌≡◌, ℕ, zero, suc, ◌+◌, ◌<◌, ◌≤◌, Bool, true, false, ◌==◌, ◌&&◌, List, [], ◌∷◌, ◌++◌, length, take, drop, map, Option, Some, None, Ok, Err, refl, sym, ap, ◌∙◌, subst, arith, append_assoc, length-append}
use Rattle.std.specs.Prelude.{if◌then◌else◌, slice_range}
use Rattle.std.specs.Char.{is_ascii_digit}
use Rattle.std.specs.Str.{str_to_ascii_lowercase}
use Rattle.std.proofs.lemmas.List.{length-take-le, take-append-drop}
use Rattle.std.proofs.lemmas.Bool.{and_parts}
use Rattle.ss_text.specs.Texts.{Text, is_in}
use Rattle.ss_lexer.specs.declared.token.Kind.{Kind}
use Rattle.ss_lexer.specs.declared.token.Kind.TheVariants as kind
use Rattle.ss_lexer.specs.declared.token.TokenFault.TheVariants as fault
use Rattle.ss_lexer.specs.Spelling.{is_blank, is_letter, in_word, goes_on, first_passes, word_len, quote_len, digits_len, sign_len}
use Rattle.ss_lexer.specs.Tokens.{Answer, token, quotation, sign, answer, is_number, further, followed, tokens_from, tokens}
use Rattle.ss_lexer.specs.Lexemes.{Lexeme, Ident, Key, Piece, keywords, word, lexeme_of, lexeme_in, piece_in, pieces}
use Rattle.ss_lexer.proofs.Spans.{stands, word_some, word_inside, further_inside}
use Rattle.ss_lexer.proofs.Chunks.{IsWord, slice_middle}

-- an identifier is a word that spells no keyword
abbrev pub IsReal : Lexeme → Type 0
IsReal (Ident w) = IsWord w × (is_in (str_to_ascii_lowercase w) keywords ≡ false)
IsReal l = Unit {0}

abbrev pub AllReal : List Piece → Type 0
AllReal [] = Unit {0}
AllReal (p ∷ ps) = IsReal p.says × AllReal ps

-- the bytes that go on a word are one
first_taken : (c : ℕ) (bs : List ℕ) → in_word c ≡ true → first_passes in_word (take (word_len (c ∷ bs)) (c ∷ bs)) ≡ true
first_taken c bs e = rw e e

goes_on_taken : (b : ℕ) (bs : List ℕ) → goes_on (b ∷ bs) ≡ true → goes_on (b ∷ take (word_len bs) bs) ≡ true
goes_on_taken b [] h = h
goes_on_taken b (c ∷ bs) h = by (in_word b) refl
  where
    by : (x : Bool) → in_word b ≡ x → goes_on (b ∷ take (word_len (c ∷ bs)) (c ∷ bs)) ≡ true
    by true e = rw e refl
    by false e =
        let k : ((b == 45) && in_word c) ≡ true = rw e at h in
        let p = and_parts (b == 45) (in_word c) k in
        rw (e, p.0) (first_taken c bs p.1)

word_taken : (xs : List ℕ) → word_len (take (word_len xs) xs) ≡ word_len xs
word_taken [] = refl
word_taken (b ∷ bs) = by (goes_on (b ∷ bs)) refl (word_taken bs)
  where
    by : (x : Bool) → goes_on (b ∷ bs) ≡ x → word_len (take (word_len bs) bs) ≡ word_len bs → word_len (take (word_len (b ∷ bs)) (b ∷ bs)) ≡ word_len (b ∷ bs)
    by true e h =
        let n : word_len (b ∷ bs) ≡ suc (word_len bs) = rw e refl in
        ap (λ m. word_len (take m (b ∷ bs))) n ∙ rw (goes_on_taken b bs e) (ap suc h) ∙ sym n
    by false e h =
        let n : word_len (b ∷ bs) ≡ 0 = rw e refl in
        ap (λ m. word_len (take m (b ∷ bs))) n ∙ sym n

taken_is_word : (b : ℕ) (bs : List ℕ) → is_letter b ≡ true → IsWord (take (word_len (b ∷ bs)) (b ∷ bs))
taken_is_word b bs h = record {
  letter = letter_taken (word_len (b ∷ bs)) (word_some b bs h);
  whole = word_taken (b ∷ bs) ∙ sym (length-take-le (word_len (b ∷ bs)) (b ∷ bs) (word_inside (b ∷ bs)));
}
  where
    letter_taken : (n : ℕ) → 0 < n → first_passes is_letter (take n (b ∷ bs)) ≡ true
    letter_taken zero lt = absurd (omega arith)
    letter_taken (suc n) lt = h

real_word : (w : Text) → IsWord w → IsReal (word w)
real_word w h = by (is_in (str_to_ascii_lowercase w) keywords) refl
  where
    by : (x : Bool) → is_in (str_to_ascii_lowercase w) keywords ≡ x → IsReal (if x then Key (str_to_ascii_lowercase w) else Ident w)
    by true e = tt
    by false e = (h, e)

-- what no letter begins is no identifier
abbrev NoWord : Answer → Type 0
NoWord (Ok t) = (bytes : List ℕ) → IsReal (lexeme_of t.kind bytes)
NoWord (Err e) = Unit {0}

no_word_else : (a b : Answer) (c : Bool) → NoWord a → NoWord b → NoWord (if c then a else b)
no_word_else a b true ha hb = ha
no_word_else a b false ha hb = hb

quotation_no_word : (at : ℕ) (k : Kind) (o : Option ℕ) → ((bytes : List ℕ) → IsReal (lexeme_of k bytes)) → NoWord (quotation at k o)
quotation_no_word at k None h = tt
quotation_no_word at k (Some n) h = h

sign_no_word : (at n : ℕ) → NoWord (sign at n)
sign_no_word at n = no_word_else (Err (fault.BadByte at)) (token at kind.Sign n) (n == 0) tt (λ _. tt)

abbrev other : Bool → ℕ → ℕ → List ℕ → Answer
other behind at x xs =
    if x == 34 then quotation at kind.Quoted (quote_len 34 xs) else
    if x == 39 then quotation at kind.Str (quote_len 39 xs) else
    if is_ascii_digit x then (if behind then Err (fault.BadByte at) else token at kind.Num (digits_len (x ∷ xs))) else
    if (x == 45) && first_passes is_ascii_digit xs then token at kind.Num (1 + digits_len xs) else
    sign at (sign_len (x ∷ xs))

other_no_word : (behind : Bool) (at x : ℕ) (xs : List ℕ) → NoWord (other behind at x xs)
other_no_word behind at x xs =
    let num : NoWord (token at kind.Num (1 + digits_len xs)) = λ _. tt in
    let digits : NoWord (token at kind.Num (digits_len (x ∷ xs))) = λ _. tt in
    no_word_else _ _ (x == 34) (quotation_no_word at kind.Quoted (quote_len 34 xs) (λ _. tt))
    (no_word_else _ _ (x == 39) (quotation_no_word at kind.Str (quote_len 39 xs) (λ _. tt))
    (no_word_else _ _ (is_ascii_digit x) (no_word_else (Err (fault.BadByte at)) (token at kind.Num (digits_len (x ∷ xs))) behind tt digits)
    (no_word_else _ _ ((x == 45) && first_passes is_ascii_digit xs) num (sign_no_word at (sign_len (x ∷ xs))))))

answer_by : (behind : Bool) (at x : ℕ) (xs : List ℕ) (c : Bool) → is_letter x ≡ c → answer behind at (x ∷ xs) ≡ (if c then token at kind.Word (word_len (x ∷ xs)) else other behind at x xs)
unfolding answer
answer_by behind at x xs c e = ap (λ d. if d then token at kind.Word (word_len (x ∷ xs)) else other behind at x xs) e

-- what an answer says is real
no_word_real : (bytes : List ℕ) (a : Answer) → NoWord a → IsReal (lexeme_in bytes a)
no_word_real bytes (Ok t) h = h (slice_range bytes t.from t.to)
no_word_real bytes (Err (fault.BadByte at)) h = tt
no_word_real bytes (Err (fault.OpenQuote at)) h = tt

answer_real : (behind : Bool) (pre : List ℕ) (x : ℕ) (xs : List ℕ) → IsReal (lexeme_in (pre ++ (x ∷ xs)) (answer behind (length pre) (x ∷ xs)))
answer_real behind pre x xs = by (is_letter x) refl
  where
    by : (c : Bool) → is_letter x ≡ c → IsReal (lexeme_in (pre ++ (x ∷ xs)) (answer behind (length pre) (x ∷ xs)))
    by true e =
        let n = word_len (x ∷ xs) in
        let w = take n (x ∷ xs) in
        let len : length w ≡ n = length-take-le n (x ∷ xs) (word_inside (x ∷ xs)) in
        let text : w ++ drop n (x ∷ xs) ≡ x ∷ xs = take-append-drop n (x ∷ xs) in
        let slice : slice_range (pre ++ (x ∷ xs)) (length pre) (length pre + n) ≡ w =
        ap (λ m. slice_range (pre ++ m) (length pre) (length pre + n)) (sym text) ∙ ap (λ m. slice_range (pre ++ (w ++ drop n (x ∷ xs))) (length pre) (length pre + m)) (sym len) ∙ slice_middle pre w (drop n (x ∷ xs)) in
        subst (λ a. IsReal (lexeme_in (pre ++ (x ∷ xs)) a)) (sym (answer_by behind (length pre) x xs true e))
        (subst (λ m. IsReal (word m)) (sym slice) (real_word w (taken_is_word x xs e)))
    by false e =
        subst (λ a. IsReal (lexeme_in (pre ++ (x ∷ xs)) a)) (sym (answer_by behind (length pre) x xs false e))
        (no_word_real (pre ++ (x ∷ xs)) (other behind (length pre) x xs) (other_no_word behind (length pre) x xs))

-- what each of these answers says is real
abbrev AllSay : List ℕ → List Answer → Type 0
AllSay bytes answers = AllReal (map (piece_in bytes) answers)

followed_real : (bytes : List ℕ) (a : Answer) (rest : List Answer) → IsReal (lexeme_in bytes a) → AllSay bytes rest → AllSay bytes (followed a rest)
followed_real bytes (Ok t) rest h k = (h, k)
followed_real bytes (Err e) rest h k = (h, tt)

real_at : (pre : List ℕ) (x : ℕ) (xs : List ℕ) (behind : Bool) → ((b : Bool) (n : ℕ) → n ≤ length xs → AllSay (pre ++ (x ∷ xs)) (tokens_from b n (suc (length pre)) xs))
    → (b : Bool) → is_blank x ≡ b → AllSay (pre ++ (x ∷ xs)) (tokens_from behind 0 (length pre) (x ∷ xs))
real_at pre x xs behind h true e = rw e (h false 0 (omega arith))
real_at pre x xs behind h false e =
    let a = answer behind (length pre) (x ∷ xs) in
    rw e (followed_real (pre ++ (x ∷ xs)) a (tokens_from (is_number a) (further a) (suc (length pre)) xs) (answer_real behind pre x xs)
    (h (is_number a) (further a) (further_inside (length pre) (length xs) a (stands behind (length pre) x xs))))

real_end : (pre : List ℕ) (behind : Bool) → AllSay (pre ++ []) (answer behind (length pre) [] ∷ [])
unfolding answer
real_end pre behind = (tt, tt)

later : (pre : List ℕ) (x : ℕ) (xs : List ℕ) (b : Bool) (m : ℕ) → AllSay ((pre ++ x ∷ []) ++ xs) (tokens_from b m (length (pre ++ x ∷ [])) xs) → AllSay (pre ++ (x ∷ xs)) (tokens_from b m (suc (length pre)) xs)
later pre x xs b m k =
    let at : length (pre ++ x ∷ []) ≡ suc (length pre) = omega (arith, length-append pre (x ∷ [])) in
    subst (λ t. AllSay t (tokens_from b m (suc (length pre)) xs)) (append_assoc pre (x ∷ []) xs)
    (subst (λ i. AllSay ((pre ++ x ∷ []) ++ xs) (tokens_from b m i xs)) at k)

real_from : (xs pre : List ℕ) (behind : Bool) (n : ℕ) → n ≤ length xs → AllSay (pre ++ xs) (tokens_from behind n (length pre) xs)
real_from [] pre behind n h = real_end pre behind
real_from (x ∷ xs) pre behind (suc n) h = later pre x xs behind n (real_from xs (pre ++ x ∷ []) behind n (omega arith))
real_from (x ∷ xs) pre behind zero h = real_at pre x xs behind (λ b m k. later pre x xs b m (real_from xs (pre ++ x ∷ []) b m k)) (is_blank x) refl

-- what the tokens of every text say is real
pub all_real : (bytes : List ℕ) → AllReal (pieces bytes)
unfolding tokens
all_real bytes = real_from bytes [] false 0 (omega arith)
