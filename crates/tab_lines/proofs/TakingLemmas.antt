-- What a reader of lines took so far in a call, and what it answers.
use Rattle.std.proofs.Common.{◌≡◌, inl, inr, ℕ, ◌+◌, ◌==◌, Bool, true, false, ◌||◌, cond, List, [], ◌∷◌, ◌++◌, length, Option, None, Some, Result, Ok, Err, refl, sym, ap, ◌∙◌, subst, append_assoc, arith, length-append}
use Rattle.std.proofs.lemmas.Bool.{or_parts}
use Rattle.outside.specs.Streams.{before}
use Rattle.tab_lines.specs.Lines.{has_feed, lines_of}
use Rattle.tab_lines.specs.Taking.{LinesState, most_taken, is_ready, ahead, Answers, TakesPiece, IsTakenLine, IsNextOf}
use Rattle.tab_lines.specs.declared.lines.Next.{Next}
use Rattle.tab_lines.specs.declared.lines.Next.TheVariants.{Line, End}
use Rattle.tab_lines.specs.declared.lines.ReadStop.{ReadStop}
use Rattle.tab_lines.specs.declared.lines.ReadStop.TheVariants.{ReadFault, TooLong, NoMemory}
use Rattle.tab_lines.proofs.LineLemmas.{lines_first, lines_last, some_line}

-- what a call took so far
pub record Going (start now : LinesState) (rest later was last : Option (List ℕ)) : Type 0 where
  pub part : List ℕ
  pub moved : rest ≡ before part later
  pub counted : now.taken ≡ start.taken + length part
  pub left : now.left ≡ start.left ++ part
  pub soon : IsTakenLine start.left part was last
  pub ended : start.ended ≡ true → now.ended ≡ true
  pub end : start.ended ≡ false → now.ended ≡ true → (bytes : List ℕ) → later ≡ Some bytes → bytes ≡ []
  pub same : (bytes more : List ℕ) → rest ≡ Some bytes → later ≡ Some more → ahead start bytes ≡ ahead now more

before_both : (a b : List ℕ) (o : Option (List ℕ)) → before a (before b o) ≡ before (a ++ b) o
before_both a b None = refl
before_both a b (Some rest) = ap Some (sym (append_assoc a b rest))

-- what is known where a read is needed
pub record Needs (s : LinesState) : Type 0 where
  pub no_line : has_feed s.left ≡ false
  pub no_end : s.ended ≡ false
  pub no_limit : (s.taken == most_taken) ≡ false

pub needs : (s : LinesState) → is_ready s ≡ false → Needs s
needs s h =
    let p = or_parts (has_feed s.left || s.ended) (s.taken == most_taken) h in
    let q = or_parts (has_feed s.left) s.ended p.0 in
    record { no_line = q.0; no_end = q.1; no_limit = p.1 }

both_none : (a b : List ℕ) → a ++ b ≡ [] → (a ≡ []) × (b ≡ [])
both_none [] b h = (refl, h)
both_none (x ∷ a) b h = absurd (cc)

-- a piece moves from what is to come to what is left
piece_ahead : (now new : LinesState) (piece more : List ℕ) → now.ended ≡ false → new.left ≡ now.left ++ piece → (new.ended ≡ true → piece ++ more ≡ []) → ahead now (piece ++ more) ≡ ahead new more
piece_ahead now new piece more no_end left end = rw (no_end, left) (cases new.ended end)
  where
    cases : (t : Bool) → (t ≡ true → piece ++ more ≡ []) → now.left ++ (piece ++ more) ≡ cond t (now.left ++ piece) ((now.left ++ piece) ++ more)
    cases true end = let e = both_none piece more (end refl) in rw (e.0, e.1) refl
    cases false end = sym (append_assoc now.left piece more)

pub going_more : (start now new : LinesState) (rest mid later was by_now last : Option (List ℕ)) → Going start now rest mid was by_now → is_ready now ≡ false → TakesPiece now new mid later last → Going start new rest later was last
going_more start now new rest mid later was by_now last g ready p = record {
  part = g.part ++ p.piece;
  moved = g.moved ∙ (ap (before g.part) p.moved ∙ before_both g.part p.piece later);
  counted = omega (arith, g.counted, p.counted, length-append g.part p.piece);
  left = p.left ∙ (ap (λ (l : List ℕ). l ++ p.piece) g.left ∙ append_assoc start.left g.part p.piece);
  soon = inr (record { earlier = g.part; piece = p.piece; are = refl; no_line = subst (λ (l : List ℕ). has_feed l ≡ false) g.left (needs now ready).no_line; few = p.few; given = p.given });
  ended = λ h. let was : now.ended ≡ true = g.ended h in let needed = (needs now ready).no_end in absurd (cc);
  end = λ going ended bytes is. (both_none p.piece bytes (p.end ended (p.piece ++ bytes) (p.moved ∙ ap (before p.piece) is))).1;
  same = λ bytes more is is_later.
      let is_mid : mid ≡ Some (p.piece ++ more) = p.moved ∙ ap (before p.piece) is_later in
      g.same bytes (p.piece ++ more) is is_mid ∙ piece_ahead now new p.piece more (needs now ready).no_end p.left (λ ended. p.end ended (p.piece ++ more) is_mid);
}

line_ahead : (line : List ℕ) (now new : LinesState) (more : List ℕ) → new.ended ≡ now.ended → now.left ≡ line ++ 10 ∷ new.left → ahead now more ≡ line ++ 10 ∷ ahead new more
line_ahead line now new more ended left = rw (left, ended) (cases now.ended)
  where
    cases : (t : Bool) → cond t (line ++ 10 ∷ new.left) ((line ++ 10 ∷ new.left) ++ more) ≡ line ++ 10 ∷ cond t new.left (new.left ++ more)
    cases true = refl
    cases false = append_assoc line (10 ∷ new.left) more

same_ahead : (now new : LinesState) (more : List ℕ) → new.ended ≡ now.ended → new.left ≡ now.left → ahead now more ≡ ahead new more
same_ahead now new more ended left = rw (left, ended) refl

ended_ahead : (s : LinesState) (more : List ℕ) → s.ended ≡ true → ahead s more ≡ s.left
ended_ahead s more ended = rw ended refl

answer_next : (r : Result Next ReadStop) (now new : LinesState) (more : List ℕ) → Answers r now.left new → new.ended ≡ now.ended → IsNextOf (lines_of (ahead now more)) (lines_of (ahead new more)) r
answer_next (Ok (Line line)) now new more h ended =
    elim h.1 [
      | inl whole ↦ ap lines_of (line_ahead line now new more ended whole) ∙ lines_first line (ahead new more) h.0
      | inr last ↦
          ap lines_of (ended_ahead now more (sym ended ∙ last.3) ∙ last.0)
          ∙ lines_last line h.0 ∙ some_line line last.1
          ∙ ap (λ (l : List ℕ). line ∷ lines_of l) (sym (ended_ahead new more last.3 ∙ last.2))
    ]
answer_next (Ok End) now new more h ended = ap lines_of (ended_ahead now more (sym ended ∙ h.2) ∙ h.0)
answer_next (Err ReadFault) now new more h ended = ap lines_of (same_ahead now new more ended h.0.left)
answer_next (Err TooLong) now new more h ended = ap lines_of (same_ahead now new more ended h.0.left)
answer_next (Err NoMemory) now new more h ended = ap lines_of (same_ahead now new more ended h.0)

pub going_next : (r : Result Next ReadStop) (start now new : LinesState) (rest later was last : Option (List ℕ)) → Going start now rest later was last → Answers r now.left new → new.ended ≡ now.ended → (bytes more : List ℕ) → rest ≡ Some bytes → later ≡ Some more → IsNextOf (lines_of (ahead start bytes)) (lines_of (ahead new more)) r
going_next r start now new rest later was last g h ended bytes more is is_later =
    subst (λ (a : List ℕ). IsNextOf (lines_of a) (lines_of (ahead new more)) r) (sym (g.same bytes more is is_later)) (answer_next r now new more h ended)

-- a reader that needs a read stands as a call goes on, and read already where the call had an answer at once
pub going_on : (start now same new : LinesState) (rest mid later was by_now last : Option (List ℕ)) → Going start now rest mid was by_now → (is_ready now ≡ false) × (same ≡ now) → TakesPiece same new mid later last → Going start new rest later was last
going_on start now same new rest mid later was by_now last g needed p = going_more start now new rest mid later was by_now last g needed.0 (subst (λ (s : LinesState). TakesPiece s new mid later last) needed.1 p)

pub not_idle : {A : Type 0} (start now : LinesState) → is_ready now ≡ false → now ≡ start → is_ready start ≡ true → A
not_idle start now needed same ready = let e : is_ready start ≡ false = subst (λ (s : LinesState). is_ready s ≡ false) same needed in absurd (cc)
