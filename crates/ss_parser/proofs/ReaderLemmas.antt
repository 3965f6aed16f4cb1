-- The pieces ahead, as a reader moves on.
use Rattle.std.proofs.Common.{◌≡◌, ℕ, Bool, true, false, ◌&&◌, ◌||◌, not, List, [], ◌∷◌, length, drop, map, Some, Ok, Err, refl, sym, ap, ◌∙◌, subst, unwrap_or}
use Rattle.std.specs.Prelude.{slice_get, slice_range}
use Rattle.std.proofs.lemmas.Bool.{and_parts}
use Rattle.ss_lexer.specs.declared.token.Kind.{Kind}
use Rattle.ss_lexer.specs.declared.token.Kind.TheVariants as kind
use Rattle.ss_lexer.specs.declared.token.TokenFault.TheVariants as fault
use Rattle.ss_lexer.specs.Tokens.{Answer, behind_first, tokens}
use Rattle.ss_lexer.specs.Sound.{is_finish, is_last, is_inside, are_sound}
use Rattle.ss_lexer.specs.Lexemes.{Piece, lexeme_of, piece_in, pieces}
use Rattle.ss_lexer.proofs.Spans.{sound_tokens}
use Rattle.ss_parser.specs.Phrases.{next, passes}
use Rattle.ss_parser.specs.Ahead.{pieces_ahead, is_held, ends, is_end}

same : (x a : Answer) → Some x ≡ Some a → x ≡ a
same x a e = ap (λ o. unwrap_or o a) e

-- the first of sound answers is held
pub held_first : (len : ℕ) (left : List Answer) (a : Answer) → are_sound len left ≡ true → slice_get left 0 ≡ Some a → is_held len a (behind_first left) ≡ true
held_first len [] a h e = absurd (cc)
held_first len (x ∷ []) a h e =
    let p = and_parts (is_last x) (is_inside len x) h in
    subst (λ b. is_held len b (x ∷ []) ≡ true) (same x a e) (rw (p.0, p.1) refl)
held_first len (x ∷ y ∷ ys) a h e =
    let p = and_parts (not (is_last x) && is_inside len x) (are_sound len (y ∷ ys)) h in
    let q = and_parts (not (is_last x)) (is_inside len x) p.0 in
    subst (λ b. is_held len b (y ∷ ys) ≡ true) (same x a e) (rw (q.1, p.1) (or_true (is_last x)))
  where
    or_true : (b : Bool) → (b || true) ≡ true
    or_true true = refl
    or_true false = refl

-- the pieces ahead are then those of all answers
pub ahead_first : (bytes : List ℕ) (len : ℕ) (left : List Answer) (a : Answer) → are_sound len left ≡ true → slice_get left 0 ≡ Some a → pieces_ahead bytes a (behind_first left) ≡ map (piece_in bytes) left
ahead_first bytes len [] a h e = absurd (cc)
ahead_first bytes len (x ∷ []) a h e =
    let p = and_parts (is_last x) (is_inside len x) h in
    subst (λ b. pieces_ahead bytes b (x ∷ []) ≡ map (piece_in bytes) (x ∷ [])) (same x a e) (rw p.0 refl)
ahead_first bytes len (x ∷ y ∷ ys) a h e =
    let p = and_parts (not (is_last x) && is_inside len x) (are_sound len (y ∷ ys)) h in
    let q = and_parts (not (is_last x)) (is_inside len x) p.0 in
    subst (λ b. pieces_ahead bytes b (y ∷ ys) ≡ map (piece_in bytes) (x ∷ y ∷ ys)) (same x a e) (rw (not_true (is_last x) q.0) refl)
  where
    not_true : (b : Bool) → not b ≡ true → b ≡ false
    not_true true h = absurd (cc)
    not_true false h = refl

-- what is no end is not the last
no_finish : (k : Kind) (bs : List ℕ) → ends (lexeme_of k bs) ≡ false → is_finish k ≡ false
no_finish kind.Word bs h = refl
no_finish kind.Quoted bs h = refl
no_finish kind.Str bs h = refl
no_finish kind.Num bs h = refl
no_finish kind.Sign bs h = refl
no_finish kind.Finish bs h = absurd (cc)

not_last : (bytes : List ℕ) (a : Answer) → is_end (piece_in bytes a) ≡ false → is_last a ≡ false
not_last bytes (Ok t) h = no_finish t.kind (slice_range bytes t.from t.to) h
not_last bytes (Err (fault.BadByte at)) h = absurd (cc)
not_last bytes (Err (fault.OpenQuote at)) h = absurd (cc)

-- behind what is held and is no end stand sound answers, the pieces of which are the others ahead
held_sound : (len : ℕ) (a : Answer) (left : List Answer) → is_held len a left ≡ true → is_last a ≡ false → are_sound len left ≡ true
held_sound len a left h last =
    let p = and_parts (is_inside len a) (is_last a || are_sound len left) h in
    rw last at p.1

module _ (bytes : List ℕ) (a b : Answer) (left new : List Answer) (ps : List Piece) (h : is_held (length bytes) a left ≡ true) (is : pieces_ahead bytes a left ≡ ps) (no_end : passes is_end (next ps) ≡ false) (e : slice_get left 0 ≡ Some b) (moved : new ≡ behind_first left) where
  at_no_end : is_last a ≡ false
  at_no_end = not_last bytes a (subst (λ m. passes is_end (next m) ≡ false) (sym is) no_end)

  pub held_next : is_held (length bytes) b new ≡ true
  held_next = subst (λ m. is_held (length bytes) b m ≡ true) (sym moved) (held_first (length bytes) left b (held_sound (length bytes) a left h at_no_end) e)

  pub ahead_next : pieces_ahead bytes b new ≡ drop 1 ps
  ahead_next =
      ap (pieces_ahead bytes b) moved
      ∙ ahead_first bytes (length bytes) left b (held_sound (length bytes) a left h at_no_end) e
      ∙ (rw at_no_end refl ∙ ap (drop 1) is)

-- at the start of a text
module _ (bytes : List ℕ) (a : Answer) (left new : List Answer) (is : left ≡ tokens bytes) (e : slice_get left 0 ≡ Some a) (moved : new ≡ behind_first left) where
  sound_left : are_sound (length bytes) left ≡ true
  sound_left = subst (λ m. are_sound (length bytes) m ≡ true) (sym is) (sound_tokens bytes)

  pub held_start : is_held (length bytes) a new ≡ true
  held_start = subst (λ m. is_held (length bytes) a m ≡ true) (sym moved) (held_first (length bytes) left a sound_left e)

  pub ahead_start : pieces_ahead bytes a new ≡ pieces bytes
  ahead_start = ap (pieces_ahead bytes a) moved ∙ ahead_first bytes (length bytes) left a sound_left e ∙ ap (map (piece_in bytes)) is
