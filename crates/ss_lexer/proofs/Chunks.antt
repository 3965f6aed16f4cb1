-- What the tokens of a text say, where it is put together from parts.
use Rattle.std.proofs.Common.{◌≡◌, ℕ, suc, ◌+◌, ◌-◌, ◌<◌, ◌≤◌, Bool, true, false, ◌==◌, ◌&&◌, ◌||◌, List, [], ◌∷◌, ◌++◌, length, take, drop, map, Some, inl, inr, refl, sym, ap, ◌∙◌, subst, arith, append_assoc, length-append, true≢false}
use Rattle.std.specs.Prelude.{slice_range, flat_map, if◌then◌else◌}
use Rattle.std.specs.Option.{option_map}
use Rattle.std.proofs.Math.Seq.{take-append_seam}
use Rattle.std.proofs.lemmas.Bool.Decides.{eqb_tells, nat_tests}
use Rattle.ss_text.specs.Texts.{Text}
use Rattle.ss_lexer.specs.declared.token.Kind.{Kind}
use Rattle.ss_lexer.specs.declared.token.Kind.TheVariants as kind
use Rattle.ss_lexer.specs.Spelling.{is_blank, is_letter, in_word, goes_on, first_passes, word_len, quote_len}
use Rattle.ss_lexer.specs.Tokens.{token, quotation, is_num, answer, tokens_from, tokens}
use Rattle.ss_lexer.specs.Lexemes.{Lexeme, Quoted, Literal, Finish, word, undoubled, inner, lexeme_of, lexeme_in, lexemes}
use Rattle.ss_lexer.proofs.LengthLemmas.{other_first, double_first, same}
use Rattle.ss_lexer.proofs.TokenLemmas.{front_token}

-- what the tokens of a text say that stands behind another, in both together
unfoldable pub says : List ℕ → List ℕ → List Lexeme
says pre text = map (lexeme_in (pre ++ text)) (tokens_from false 0 (length pre) text)

pub says_all : (bytes : List ℕ) → says [] bytes ≡ lexemes bytes
unfolding says tokens
says_all bytes = refl

-- a byte that ends every token before it: a space, LF, `.`, `:`, `,` or a parenthesis
abbrev pub is_break : ℕ → Bool
is_break b = (b == 32) || (b == 10) || (b == 46) || (b == 58) || (b == 44) || (b == 40) || (b == 41)

abbrev pub breaks : List ℕ → Bool
breaks r = first_passes is_break r

-- these bytes say these lexemes, whatever stands before, and where they need it a break behind them
pub record Lexes (needs : Bool) (w : List ℕ) (ls : List Lexeme) : Type 0 where
  pub at : (pre r : List ℕ) → (needs ≡ true → breaks r ≡ true) → says pre (w ++ r) ≡ ls ++ says (pre ++ w) r

pub append_none : {A : Type 0} (xs : List A) → xs ++ [] ≡ xs
append_none [] = refl
append_none (x ∷ xs) = ap (λ ys. x ∷ ys) (append_none xs)

pub nothing : Lexes false [] []
nothing = record { at = λ pre r _. ap (λ p. says p r) (sym (append_none pre)) }

-- a blank says nothing
blank_at : (b : ℕ) → is_blank b ≡ true → (pre r : List ℕ) → says pre (b ∷ r) ≡ says (pre ++ b ∷ []) r
unfolding says
blank_at b e pre r =
    let l : tokens_from false 0 (length pre) (b ∷ r) ≡ tokens_from false 0 (suc (length pre)) r = rw e refl in
    let n : suc (length pre) ≡ length (pre ++ b ∷ []) = omega (arith, length-append pre (b ∷ [])) in
    ap (map (lexeme_in (pre ++ b ∷ r))) (l ∙ ap (λ m. tokens_from false 0 m r) n)
    ∙ ap (λ t. map (lexeme_in t) (tokens_from false 0 (length (pre ++ b ∷ [])) r)) (sym (append_assoc pre (b ∷ []) r))

pub blank : (b : ℕ) → is_blank b ≡ true → Lexes false (b ∷ []) []
blank b e = record { at = λ pre r _. blank_at b e pre r }

pub breaks_append : (v r : List ℕ) → breaks v ≡ true → breaks (v ++ r) ≡ true
breaks_append [] r e = absurd (cc)
breaks_append (b ∷ v) r e = e

-- one part, and then another
pub both : (n m : Bool) (w v : List ℕ) (ls ms : List Lexeme) → Lexes n w ls → Lexes m v ms → (n ≡ true → breaks v ≡ true) → Lexes m (w ++ v) (ls ++ ms)
both n m w v ls ms a b h = record {
  at = λ pre r k.
      ap (says pre) (append_assoc w v r)
      ∙ a.at pre (v ++ r) (λ e. breaks_append v r (h e))
      ∙ ap (λ x. ls ++ x) (b.at (pre ++ w) r k)
      ∙ sym (append_assoc ls ms (says ((pre ++ w) ++ v) r))
      ∙ ap (λ p. (ls ++ ms) ++ says p r) (append_assoc pre w v);
}

-- the bytes of a part stand where it stands
pub drop_pre : (pre xs : List ℕ) → drop (length pre) (pre ++ xs) ≡ xs
drop_pre [] xs = refl
drop_pre (x ∷ pre) xs = drop_pre pre xs

pub slice_middle : (pre w r : List ℕ) → slice_range (pre ++ (w ++ r)) (length pre) (length pre + length w) ≡ w
slice_middle pre w r =
    let n : length pre + length w - length pre ≡ length w = omega arith in
    ap (take (length pre + length w - length pre)) (drop_pre pre (w ++ r)) ∙ ap (λ m. take m (w ++ r)) n ∙ take-append_seam w r

-- a token, where it is the first of its bytes and what follows
token_at : (needs : Bool) (x : ℕ) (w : List ℕ) (k : Kind) → is_blank x ≡ false → is_num k ≡ false → (pre r : List ℕ) → answer false (length pre) (x ∷ (w ++ r)) ≡ token (length pre) k (suc (length w)) → says pre (x ∷ (w ++ r)) ≡ lexeme_of k (x ∷ w) ∷ says (pre ++ x ∷ w) r
unfolding says
token_at needs x w k e no_num pre r is =
    let text = pre ++ (x ∷ (w ++ r)) in
    let inside : length w ≤ length (w ++ r) = omega (arith, length-append w r) in
    let to : length pre + suc (length w) ≡ length (pre ++ x ∷ w) = omega (arith, length-append pre (x ∷ w)) in
    let rest = tokens_from (is_num k) 0 (length pre + suc (length w)) (drop (length w) (w ++ r)) in
    let rest_is : rest ≡ tokens_from false 0 (length (pre ++ x ∷ w)) r =
    ap (λ b. tokens_from b 0 (length pre + suc (length w)) (drop (length w) (w ++ r))) no_num
    ∙ ap (λ m. tokens_from false 0 m (drop (length w) (w ++ r))) to
    ∙ ap (tokens_from false 0 (length (pre ++ x ∷ w))) (drop_pre w r) in
    ap (map (lexeme_in text)) (front_token (length pre) x (w ++ r) k (length w) e is inside)
    ∙ ap (λ b. lexeme_of k b ∷ map (lexeme_in text) rest) (slice_middle pre (x ∷ w) r)
    ∙ ap (λ m. lexeme_of k (x ∷ w) ∷ map (lexeme_in text) m) rest_is
    ∙ ap (λ t. lexeme_of k (x ∷ w) ∷ map (lexeme_in t) (tokens_from false 0 (length (pre ++ x ∷ w)) r)) (sym (append_assoc pre (x ∷ w) r))

pub one_token : (needs : Bool) (x : ℕ) (w : List ℕ) (k : Kind) → is_blank x ≡ false → is_num k ≡ false → ((at : ℕ) (r : List ℕ) → (needs ≡ true → breaks r ≡ true) → answer false at (x ∷ (w ++ r)) ≡ token at k (suc (length w))) → Lexes needs (x ∷ w) (lexeme_of k (x ∷ w) ∷ [])
one_token needs x w k e no_num is = record { at = λ pre r h. token_at needs x w k e no_num pre r (is (length pre) r h) }

equal : (a b : ℕ) → (a == b) ≡ true → a ≡ b
equal a b e = elim (eqb_tells a b) [ inl p ↦ p.1 | inr p ↦ absurd (true≢false (sym e ∙ p.0)) ]

-- words

-- a word is all of these bytes
pub record IsWord (w : List ℕ) : Type 0 where
  pub letter : first_passes is_letter w ≡ true
  pub whole : word_len w ≡ length w

no_break : (b : ℕ) → is_break b ≡ true → (in_word b ≡ false) × ((b == 45) ≡ false)
no_break b h = (grind (arith, nat_tests), grind (arith, nat_tests))

no_word : (r : List ℕ) → breaks r ≡ true → word_len r ≡ 0
no_word [] h = refl
no_word (b ∷ bs) h = let p = no_break b h in rw (p.0, p.1) refl

whole_first : (b : ℕ) (w : List ℕ) → word_len (b ∷ w) ≡ suc (length w) → (goes_on (b ∷ w) ≡ true) × (word_len w ≡ length w)
whole_first b w h = by (goes_on (b ∷ w)) refl
  where
    by : (c : Bool) → goes_on (b ∷ w) ≡ c → (goes_on (b ∷ w) ≡ true) × (word_len w ≡ length w)
    by true e = (e, let k : suc (word_len w) ≡ suc (length w) = rw e at h in omega arith)
    by false e = let k : 0 ≡ suc (length w) = rw e at h in absurd (omega arith)

or_first : (x y z : Bool) → (x || (y && false)) ≡ true → (x || (y && z)) ≡ true
or_first true y z h = refl
or_first false true z h = absurd (cc)
or_first false false z h = absurd (cc)

goes_on_before : (b : ℕ) (w r : List ℕ) → goes_on (b ∷ w) ≡ true → goes_on (b ∷ (w ++ r)) ≡ true
goes_on_before b [] r h = or_first (in_word b) (b == 45) (first_passes in_word r) h
goes_on_before b (c ∷ w) r h = h

word_len_before : (w r : List ℕ) → word_len w ≡ length w → breaks r ≡ true → word_len (w ++ r) ≡ length w
word_len_before [] r h k = no_word r k
word_len_before (b ∷ w) r h k =
    let p = whole_first b w h in
    rw (goes_on_before b w r p.0) (ap suc (word_len_before w r p.1 k))

letter_no_blank : (b : ℕ) → is_letter b ≡ true → is_blank b ≡ false
letter_no_blank b h = grind (arith, nat_tests)

if_true : {A : Type 0} (c : Bool) (x y : A) → c ≡ true → (if c then x else y) ≡ x
if_true true x y e = refl
if_true false x y e = absurd (cc)

word_answer : (b : ℕ) (w r : List ℕ) (at : ℕ) → is_letter b ≡ true → word_len (b ∷ w) ≡ suc (length w) → breaks r ≡ true → answer false at (b ∷ (w ++ r)) ≡ token at kind.Word (suc (length w))
unfolding answer
word_answer b w r at letter whole k =
    let is : answer false at (b ∷ (w ++ r)) ≡ token at kind.Word (word_len (b ∷ (w ++ r))) = if_true (is_letter b) (token at kind.Word (word_len (b ∷ (w ++ r)))) _ letter in
    is ∙ ap (token at kind.Word) (word_len_before (b ∷ w) r whole k)

pub word_says : (w : List ℕ) → IsWord w → Lexes true w (word w ∷ [])
word_says [] h = absurd (cc)
word_says (b ∷ w) h = one_token true b w kind.Word (letter_no_blank b h.letter) refl (λ at r k. word_answer b w r at h.letter h.whole (k refl))

-- quotations
abbrev pub doubled : ℕ → List ℕ → List ℕ
doubled q t = flat_map (λ b. if b == q then b ∷ b ∷ [] else b ∷ []) t

module _ (q : ℕ) where
  abbrev once : ℕ → List ℕ
  once b = if b == q then b ∷ b ∷ [] else b ∷ []

  quote_at : (b : ℕ) (rest : List ℕ) (n : ℕ) → 0 < length rest → quote_len q rest ≡ Some n → (c : Bool) → (b == q) ≡ c → quote_len q ((if c then b ∷ b ∷ [] else b ∷ []) ++ rest) ≡ Some (length (if c then b ∷ b ∷ [] else b ∷ []) + n)
  quote_at b rest n some h true e =
      let is : b ≡ q = equal b q e in
      double_first q (b ∷ b ∷ rest) (omega arith) is is ∙ ap (option_map (λ x. 2 + x)) h
  quote_at b rest n some h false e = other_first q (b ∷ rest) (omega arith) (λ is. true≢false (sym (same b q is) ∙ e)) ∙ ap (option_map (λ x. 1 + x)) h

  closes : (r : List ℕ) → first_passes (λ b. b == q) r ≡ false → quote_len q (q ∷ r) ≡ Some 1
  closes [] h = rw (same q q refl) refl
  closes (c ∷ r) h = rw (same q q refl, h) refl

  -- a doubled text and its closing quote
  quote_len_of : (t r : List ℕ) → first_passes (λ b. b == q) r ≡ false → quote_len q (doubled q t ++ (q ∷ r)) ≡ Some (length (doubled q t) + 1)
  quote_len_of [] r h = closes r h
  quote_len_of (b ∷ t) r h =
      let rest = doubled q t ++ (q ∷ r) in
      let some : 0 < length rest = omega (arith, length-append (doubled q t) (q ∷ r)) in
      let n : length (once b) + (length (doubled q t) + 1) ≡ length (once b ++ doubled q t) + 1 = omega (arith, length-append (once b) (doubled q t)) in
      ap (quote_len q) (append_assoc (once b) (doubled q t) (q ∷ r)) ∙ quote_at b rest (length (doubled q t) + 1) some (quote_len_of t r h) (b == q) refl ∙ ap Some n

  undoubled_at : (b : ℕ) (rest : List ℕ) (c : Bool) → (b == q) ≡ c → undoubled q ((if c then b ∷ b ∷ [] else b ∷ []) ++ rest) ≡ b ∷ undoubled q rest
  undoubled_at b rest true e = rw e refl
  undoubled_at b [] false e = refl
  undoubled_at b (x ∷ rest) false e = rw e refl

  undoubled_of : (t : List ℕ) → undoubled q (doubled q t) ≡ t
  undoubled_of [] = refl
  undoubled_of (b ∷ t) = undoubled_at b (doubled q t) (b == q) refl ∙ ap (λ m. b ∷ m) (undoubled_of t)

inner_of : (x y : ℕ) (t : List ℕ) → inner (x ∷ (t ++ y ∷ [])) ≡ t
inner_of x y t =
    let n : suc (length (t ++ y ∷ [])) - 2 ≡ length t = omega (arith, length-append t (y ∷ [])) in
    ap (λ m. take m (t ++ y ∷ [])) n ∙ take-append_seam t (y ∷ [])

abbrev pub in_quotes : ℕ → List ℕ → List ℕ
in_quotes q t = q ∷ (doubled q t ++ q ∷ [])

says_inner : (q : ℕ) (t : List ℕ) → undoubled q (inner (in_quotes q t)) ≡ t
says_inner q t = ap (undoubled q) (inner_of q q (doubled q t)) ∙ undoubled_of q t

-- a break is no quote
break_no_quote : (q : ℕ) (r : List ℕ) → is_break q ≡ false → breaks r ≡ true → first_passes (λ b. b == q) r ≡ false
break_no_quote q [] e h = refl
break_no_quote q (b ∷ r) e h = by (b == q) refl
  where
    by : (c : Bool) → (b == q) ≡ c → (b == q) ≡ false
    by true is = absurd (true≢false (sym h ∙ (ap is_break (equal b q is) ∙ e)))
    by false is = is

quoted_len : (q : ℕ) (t r : List ℕ) → is_break q ≡ false → breaks r ≡ true → quote_len q ((doubled q t ++ q ∷ []) ++ r) ≡ Some (length (doubled q t ++ q ∷ []))
quoted_len q t r e h =
    let n : length (doubled q t) + 1 ≡ length (doubled q t ++ q ∷ []) = sym (length-append (doubled q t) (q ∷ [])) in
    ap (quote_len q) (append_assoc (doubled q t) (q ∷ []) r) ∙ quote_len_of q t r (break_no_quote q r e h) ∙ ap Some n

quoted_answer : (t r : List ℕ) (at : ℕ) → breaks r ≡ true → answer false at (34 ∷ ((doubled 34 t ++ 34 ∷ []) ++ r)) ≡ token at kind.Quoted (suc (length (doubled 34 t ++ 34 ∷ [])))
unfolding answer
quoted_answer t r at h = ap (quotation at kind.Quoted) (quoted_len 34 t r refl h) ∙ ap (token at kind.Quoted) (one_plus (length (doubled 34 t ++ 34 ∷ [])))
  where
    one_plus : (n : ℕ) → 1 + n ≡ suc n
    one_plus n = omega arith

literal_answer : (t r : List ℕ) (at : ℕ) → breaks r ≡ true → answer false at (39 ∷ ((doubled 39 t ++ 39 ∷ []) ++ r)) ≡ token at kind.Str (suc (length (doubled 39 t ++ 39 ∷ [])))
unfolding answer
literal_answer t r at h = ap (quotation at kind.Str) (quoted_len 39 t r refl h) ∙ ap (token at kind.Str) (one_plus (length (doubled 39 t ++ 39 ∷ [])))
  where
    one_plus : (n : ℕ) → 1 + n ≡ suc n
    one_plus n = omega arith

-- any text in double quotes is that name, and in single quotes that literal
pub quoted_says : (t : Text) → Lexes true (in_quotes 34 t) (Quoted t ∷ [])
quoted_says t =
    subst (λ m. Lexes true (in_quotes 34 t) (Quoted m ∷ [])) (says_inner 34 t)
    (one_token true 34 (doubled 34 t ++ 34 ∷ []) kind.Quoted refl refl (λ at r k. quoted_answer t r at (k refl)))

pub literal_says : (t : Text) → Lexes true (in_quotes 39 t) (Literal t ∷ [])
literal_says t =
    subst (λ m. Lexes true (in_quotes 39 t) (Literal m ∷ [])) (says_inner 39 t)
    (one_token true 39 (doubled 39 t ++ 39 ∷ []) kind.Str refl refl (λ at r k. literal_answer t r at (k refl)))

-- a token that a space follows
pub before_space : (x : ℕ) (w : List ℕ) (k : Kind) → is_blank x ≡ false → is_num k ≡ false → ((at : ℕ) (r : List ℕ) → answer false at (x ∷ (w ++ (32 ∷ r))) ≡ token at k (suc (length w))) → Lexes false ((x ∷ w) ++ 32 ∷ []) (lexeme_of k (x ∷ w) ∷ [])
before_space x w k e no_num is = record {
  at = λ pre r _.
      ap (says pre) (append_assoc (x ∷ w) (32 ∷ []) r)
      ∙ token_at false x w k e no_num pre (32 ∷ r) (is (length pre) r)
      ∙ ap (λ m. lexeme_of k (x ∷ w) ∷ m) (blank_at 32 refl (pre ++ x ∷ w) r)
      ∙ ap (λ p. lexeme_of k (x ∷ w) ∷ says p r) (append_assoc pre (x ∷ w) (32 ∷ []));
}

-- at the end
pub says_end : (pre : List ℕ) → says pre [] ≡ Finish ∷ []
unfolding says answer
says_end pre = refl

-- what needs no break may have one
pub needing : (w : List ℕ) (ls : List Lexeme) → Lexes false w ls → Lexes true w ls
needing w ls h = record { at = λ pre r _. h.at pre r (λ e. absurd (true≢false (sym e))) }
