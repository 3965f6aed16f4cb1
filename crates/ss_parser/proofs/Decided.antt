-- A phrase reads some of the pieces ahead, or stops at one of them, where these have their end.
use Rattle.std.proofs.Common.{◌≡◌, ℕ, zero, suc, ◌<◌, ◌≤◌, Bool, true, false, List, [], ◌∷◌, length, Option, Some, None, ◌⊎◌, ⊎_elim, refl, ap, subst, inl, inr, arith, length-append}
use Rattle.std.specs.Prelude.{MatchBool}
use Rattle.ss_lexer.specs.Lexemes.{Piece}
use Rattle.ss_parser.specs.Phrases.{Phrase, next, passes, token, gives, ◌>>=◌, by_next, last, more, here, later, listed, limit}
use Rattle.ss_parser.specs.Ahead.{is_end}
use Rattle.ss_parser.proofs.PhraseLaws.{Laws}

-- the last piece alone is an end
abbrev pub AreEnded : List Piece → Type 0
AreEnded [] = ⊥
AreEnded (p ∷ ps) = MatchBool (is_end p) (ps ≡ []) (AreEnded ps)

-- what is read leaves the end ahead
abbrev pub SomeRead : {A : Type 0} → Phrase Piece A → List Piece → Type 0
SomeRead {A} p ts = (a : A) × (rest : List Piece) × p.reads ts a rest × AreEnded rest

-- what is read goes to the end
abbrev pub AllRead : {A : Type 0} → Phrase Piece A → List Piece → Type 0
AllRead {A} p ts = (a : A) × p.reads ts a []

-- it stops at a piece
abbrev pub Stopped : {A : Type 0} → Phrase Piece A → List Piece → Type 0
Stopped p ts = (deep : Bool) × (first : Piece) × (others : List Piece) × p.stops deep ts (first ∷ others)

abbrev pub Decided : {A : Type 0} → Phrase Piece A → Type 0
Decided p = (ts : List Piece) → AreEnded ts → SomeRead p ts ⊎ Stopped p ts

abbrev pub AllDecided : {A : Type 0} → Phrase Piece A → Type 0
AllDecided p = (ts : List Piece) → AreEnded ts → AllRead p ts ⊎ Stopped p ts

-- behind a piece that is no end
ended_behind : (p : Piece) (ps : List Piece) → is_end p ≡ false → AreEnded (p ∷ ps) → AreEnded ps
ended_behind p ps e h = subst (λ b. MatchBool b (ps ≡ []) (AreEnded ps)) e h

-- behind the end there is nothing
none_behind : (p : Piece) (ps : List Piece) → is_end p ≡ true → AreEnded (p ∷ ps) → ps ≡ []
none_behind p ps e h = subst (λ b. MatchBool b (ps ≡ []) (AreEnded ps)) e h

-- a piece
module _ {A : Type 0} (f : Piece → Option A) where
  pub token_decided : ((p : Piece) (a : A) → f p ≡ Some a → is_end p ≡ false) → Decided (token f)
  token_decided inner [] h = absurd h
  token_decided inner (p ∷ ps) h = by (f p) refl
    where
      by : (o : Option A) → f p ≡ o → SomeRead (token f) (p ∷ ps) ⊎ Stopped (token f) (p ∷ ps)
      by (Some a) e = inl (a, ps, (e, refl), ended_behind p ps (inner p a e) h)
      by None e = inr (false, p, ps, (e, refl))

  pub last_decided : ((p : Piece) (a : A) → f p ≡ Some a → is_end p ≡ true) → AllDecided (token f)
  last_decided outer [] h = absurd h
  last_decided outer (p ∷ ps) h = by (f p) refl
    where
      by : (o : Option A) → f p ≡ o → AllRead (token f) (p ∷ ps) ⊎ Stopped (token f) (p ∷ ps)
      by (Some a) e = inl (a, (e, none_behind p ps (outer p a e) h))
      by None e = inr (false, p, ps, (e, refl))

pub gives_decided : {A : Type 0} (a : A) → Decided (gives a)
gives_decided a ts h = inl (a, ts, (refl, refl), h)

-- one phrase, and then another
module _ {A B : Type 0} (p : Phrase Piece A) (f : A → Phrase Piece B) (d : Decided p) where
  stops_first : (ts : List Piece) → Stopped p ts → Stopped (p >>= f) ts
  stops_first ts s = (s.0, s.1, s.2, inl s.3)

  stops_later : (ts : List Piece) (r : SomeRead p ts) → Stopped (f r.0) r.1 → Stopped (p >>= f) ts
  stops_later ts r s = (s.0, s.1, s.2, inr (r.0, r.1, r.2, s.3))

  pub then_decided : ((a : A) → Decided (f a)) → Decided (p >>= f)
  then_decided e ts h = ⊎_elim
      (λ (r : SomeRead p ts). ⊎_elim
      (λ (s : SomeRead (f r.0) r.1). inl (s.0, s.1, (r.0, r.1, r.2, s.2), s.3))
      (λ (s : Stopped (f r.0) r.1). inr (stops_later ts r s)) (e r.0 r.1 r.3))
      (λ (s : Stopped p ts). inr (stops_first ts s)) (d ts h)

  pub then_all_decided : ((a : A) → AllDecided (f a)) → AllDecided (p >>= f)
  then_all_decided e ts h = ⊎_elim
      (λ (r : SomeRead p ts). ⊎_elim
      (λ (s : AllRead (f r.0) r.1). inl (s.0, (r.0, r.1, r.2, s.1)))
      (λ (s : Stopped (f r.0) r.1). inr (stops_later ts r s)) (e r.0 r.1 r.3))
      (λ (s : Stopped p ts). inr (stops_first ts s)) (d ts h)

-- a phrase whose value is made into another
module _ {A B : Type 0} (p : Phrase Piece A) (g : A → B) where
  pub mapped_decided : Decided p → Decided (p >>= λ a. gives (g a))
  mapped_decided d = then_decided p (λ a. gives (g a)) d (λ a. gives_decided (g a))

  pub mapped_all_decided : AllDecided p → AllDecided (p >>= λ a. gives (g a))
  mapped_all_decided d ts h = ⊎_elim
      (λ (r : AllRead p ts). inl (g r.0, (r.0, [], r.1, (refl, refl))))
      (λ (s : Stopped p ts). inr (s.0, s.1, s.2, inl s.3)) (d ts h)

-- one phrase or another, by the next piece
module _ {A : Type 0} (test : Piece → Bool) (p q : Phrase Piece A) where
  pub by_next_decided : Decided p → Decided q → Decided (by_next test p q)
  by_next_decided d e ts h =
      elim (passes test (next ts)) as (λ b. ((a : A) × (rest : List Piece) × MatchBool b (p.reads ts a rest) (q.reads ts a rest) × AreEnded rest)
      ⊎ ((deep : Bool) × (first : Piece) × (others : List Piece) × MatchBool b (p.stops deep ts (first ∷ others)) (q.stops deep ts (first ∷ others)))) [
        | true ↦ d ts h
        | false ↦ e ts h
      ]

  pub by_next_all_decided : AllDecided p → AllDecided q → AllDecided (by_next test p q)
  by_next_all_decided d e ts h =
      elim (passes test (next ts)) as (λ b. ((a : A) × MatchBool b (p.reads ts a []) (q.reads ts a []))
      ⊎ ((deep : Bool) × (first : Piece) × (others : List Piece) × MatchBool b (p.stops deep ts (first ∷ others)) (q.stops deep ts (first ∷ others)))) [
        | true ↦ d ts h
        | false ↦ e ts h
      ]

-- nothing is read where more would be nested too deep
pub limit_decided : {A : Type 0} (opens : Piece → Bool) → Decided (limit {A = A} opens)
limit_decided opens [] h = absurd h
limit_decided opens (p ∷ ps) h = inr (opens p, p, ps, (refl, refl))

-- phrases between commas, by how many pieces there are at most
module _ {A : Type 0} (comma : Piece → Bool) (inner : (p : Piece) → comma p ≡ true → is_end p ≡ false) (p : Phrase Piece A) (ok : Option Piece → Bool) (sample : Piece) (l : Laws p ok sample) (d : Decided p) where
  -- a phrase takes a piece at least
  fewer : (ts : List Piece) (a : A) (rest : List Piece) → p.reads ts a rest → length rest < length ts
  fewer ts a rest r =
      let front = l.front ts a rest r in
      omega (arith, ap length front.is, length-append front.done rest)

  some_decided : (n : ℕ) (ts : List Piece) → length ts ≤ n → AreEnded ts → SomeRead (listed comma p) ts ⊎ Stopped (listed comma p) ts
  some_decided zero [] le h = absurd h
  some_decided zero (t ∷ ts) le h = absurd (omega arith)
  some_decided (suc n) ts le h = ⊎_elim
      (λ (r : SomeRead p ts). behind r.0 r.1 r.2 r.3 (some_decided n))
      (λ (s : Stopped p ts). inr (s.0, s.1, s.2, here s.3)) (d ts h)
    where
      behind : (a : A) (rest : List Piece) → p.reads ts a rest → AreEnded rest → ((us : List Piece) → length us ≤ n → AreEnded us → SomeRead (listed comma p) us ⊎ Stopped (listed comma p) us) → SomeRead (listed comma p) ts ⊎ Stopped (listed comma p) ts
      behind a [] r ended go = absurd ended
      behind a (c ∷ us) r ended go = by (comma c) refl
        where
          by : (b : Bool) → comma c ≡ b → SomeRead (listed comma p) ts ⊎ Stopped (listed comma p) ts
          by false e = inl (a ∷ [], c ∷ us, last r e, ended)
          by true e =
              let shorter : suc (length us) < length ts = fewer ts a (c ∷ us) r in
              ⊎_elim
              (λ (s : SomeRead (listed comma p) us). inl (a ∷ s.0, s.1, more r e s.2, s.3))
              (λ (s : Stopped (listed comma p) us). inr (s.0, s.1, s.2, later r e s.3)) (go us (omega arith) (ended_behind c us (inner c e) ended))

  pub listed_decided : Decided (listed comma p)
  listed_decided ts h = some_decided (length ts) ts (omega arith) h
