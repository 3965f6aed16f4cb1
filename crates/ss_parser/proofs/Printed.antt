-- The canonical text of a tree is read as that tree: how parts of it are put together.
use Rattle.std.proofs.Common.{◌≡◌, Bool, true, false, List, [], ◌∷◌, ◌++◌, map, Option, Some, None, refl, sym, ap, ◌∙◌, subst, append_assoc}
use Rattle.std.specs.Prelude.{MatchBool, flat_map, if◌then◌else◌}
use Rattle.ss_text.specs.Texts.{Text}
use Rattle.ss_lexer.specs.Lexemes.{Lexeme, Piece, piece_in, pieces, lexeme_in, lexemes}
use Rattle.ss_lexer.specs.Tokens.{Answer, tokens}
use Rattle.ss_lexer.proofs.Chunks.{Lexes, breaks, says, both, blank, needing, append_none, breaks_append}
use Rattle.ss_parser.specs.Phrases.{Phrase, next, passes, gives, ◌>>=◌, by_next, Listed, last, more, listed}
use Rattle.ss_parser.specs.Terms.{one, just}
use Rattle.ss_parser.proofs.PhraseLaws.{always, after_list, no_comma}

-- the pieces say these lexemes, and then there is rest
abbrev pub Say : List Lexeme → List Piece → List Piece → Type 0
Say [] ps rest = ps ≡ rest
Say (l ∷ ls) [] rest = ⊥
Say (l ∷ ls) (p ∷ ps) rest = (p.says ≡ l) × Say ls ps rest

say_apart : (ls ms : List Lexeme) (ps rest : List Piece) → Say (ls ++ ms) ps rest → (mid : List Piece) × Say ls ps mid × Say ms mid rest
say_apart [] ms ps rest h = (ps, refl, h)
say_apart (l ∷ ls) ms [] rest h = absurd h
say_apart (l ∷ ls) ms (p ∷ ps) rest h = let k = say_apart ls ms ps rest h.1 in (k.0, (h.0, k.1), k.2)

-- the first piece says the first lexeme
say_next : (l : Lexeme) (ls : List Lexeme) (ps rest : List Piece) (ok : Option Piece → Bool) → Say (l ∷ ls) ps rest → ((p : Piece) → p.says ≡ l → ok (Some p) ≡ true) → ok (next ps) ≡ true
say_next l ls [] rest ok h fits = absurd h
say_next l ls (p ∷ ps) rest ok h fits = fits p h.0

-- this text says, beginning with this lexeme, what the phrase reads as x
pub record Prints {A : Type 0} (p : Phrase Piece A) (ok : Option Piece → Bool) (x : A) (needs : Bool) (w : Text) (first : Lexeme) : Type 0 where
  pub others : List Lexeme
  pub lexes : Lexes needs w (first ∷ others)
  pub reads : (ps rest : List Piece) → Say (first ∷ others) ps rest → ok (next rest) ≡ true → p.reads ps x rest

pub one_prints : {A : Type 0} (f : Lexeme → Option A) (x : A) (needs : Bool) (w : Text) (l : Lexeme) → Lexes needs w (l ∷ []) → f l ≡ Some x → Prints (one f) always x needs w l
one_prints {A} f x needs w l h e = record { others = []; lexes = h; reads = at }
  where
    at : (ps rest : List Piece) → Say (l ∷ []) ps rest → always (next rest) ≡ true → (one f).reads ps x rest
    at [] rest s k = absurd s
    at (p ∷ ps) rest s k = (ap f s.0 ∙ e, s.1)

pub just_prints : (test : Piece → Bool) (needs : Bool) (w : Text) (l : Lexeme) → Lexes needs w (l ∷ []) → ((p : Piece) → p.says ≡ l → test p ≡ true) → Prints (just test) always tt needs w l
just_prints test needs w l h fits = record { others = []; lexes = h; reads = at }
  where
    at : (ps rest : List Piece) → Say (l ∷ []) ps rest → always (next rest) ≡ true → (just test).reads ps tt rest
    at [] rest s k = absurd s
    at (p ∷ ps) rest s k = (ap (λ b. if b then Some tt else None) (fits p s.0), s.1)

-- one text, and then another
module _ {A B : Type 0} (p : Phrase Piece A) (f : A → Phrase Piece B) (p_ok q_ok : Option Piece → Bool) (x : A) (y : B) (n m : Bool) (w v : Text) (l k : Lexeme) (a : Prints p p_ok x n w l) (b : Prints (f x) q_ok y m v k) (fits : (pc : Piece) → pc.says ≡ k → p_ok (Some pc) ≡ true) (apart : n ≡ true → breaks v ≡ true) where
  then_reads : (ps rest : List Piece) → Say (l ∷ (a.others ++ (k ∷ b.others))) ps rest → q_ok (next rest) ≡ true → (p >>= f).reads ps y rest
  then_reads ps rest s h =
      let cut = say_apart (l ∷ a.others) (k ∷ b.others) ps rest s in
      (x, cut.0, a.reads ps cut.0 cut.1 (say_next k b.others cut.0 rest p_ok cut.2 fits), b.reads cut.0 rest cut.2 h)

  pub then_prints : Prints (p >>= f) q_ok y m (w ++ v) l
  then_prints = record {
    others = a.others ++ (k ∷ b.others);
    lexes = both n m w v (l ∷ a.others) (k ∷ b.others) a.lexes b.lexes apart;
    reads = then_reads;
  }

pub mapped_prints : {A B : Type 0} (p : Phrase Piece A) (g : A → B) (ok : Option Piece → Bool) (x : A) (n : Bool) (w : Text) (l : Lexeme) → Prints p ok x n w l → Prints (p >>= λ a. gives (g a)) ok (g x) n w l
mapped_prints p g ok x n w l a = record { others = a.others; lexes = a.lexes; reads = λ ps rest s h. (x, rest, a.reads ps rest s h, (refl, refl)) }

-- where the first lexeme decides
pub first_prints : {A : Type 0} (test : Piece → Bool) (p q : Phrase Piece A) (ok : Option Piece → Bool) (x : A) (n : Bool) (w : Text) (l : Lexeme) → Prints p ok x n w l → ((pc : Piece) → pc.says ≡ l → test pc ≡ true) → Prints (by_next test p q) ok x n w l
first_prints test p q ok x n w l a fits = record {
  others = a.others;
  lexes = a.lexes;
  reads = λ ps rest s h. subst (λ b. MatchBool b (p.reads ps x rest) (q.reads ps x rest)) (sym (say_next l a.others ps rest (passes test) s fits)) (a.reads ps rest s h);
}

no_next : (test : Piece → Bool) (l : Lexeme) (ls : List Lexeme) (ps rest : List Piece) → Say (l ∷ ls) ps rest → ((pc : Piece) → pc.says ≡ l → test pc ≡ false) → passes test (next ps) ≡ false
no_next test l ls [] rest s fits = absurd s
no_next test l ls (p ∷ ps) rest s fits = fits p s.0

pub second_prints : {A : Type 0} (test : Piece → Bool) (p q : Phrase Piece A) (ok : Option Piece → Bool) (x : A) (n : Bool) (w : Text) (l : Lexeme) → Prints q ok x n w l → ((pc : Piece) → pc.says ≡ l → test pc ≡ false) → Prints (by_next test p q) ok x n w l
second_prints test p q ok x n w l a fits = record {
  others = a.others;
  lexes = a.lexes;
  reads = λ ps rest s h. subst (λ b. MatchBool b (p.reads ps x rest) (q.reads ps x rest)) (sym (no_next test l a.others ps rest s fits)) (a.reads ps rest s h);
}

-- spaces
pub spaced : {A : Type 0} (p : Phrase Piece A) (ok : Option Piece → Bool) (x : A) (n : Bool) (w : Text) (l : Lexeme) → Prints p ok x n w l → Prints p ok x n (32 ∷ w) l
spaced p ok x n w l a = record { others = a.others; lexes = both false n (32 ∷ []) w [] (l ∷ a.others) (blank 32 refl) a.lexes (λ e. absurd (cc)); reads = a.reads }

pub before_blank : {A : Type 0} (p : Phrase Piece A) (ok : Option Piece → Bool) (x : A) (n : Bool) (w : Text) (l : Lexeme) → Prints p ok x n w l → Prints p ok x false (w ++ 32 ∷ []) l
before_blank p ok x n w l a = record {
  others = a.others;
  lexes = subst (Lexes false (w ++ 32 ∷ [])) (append_none (l ∷ a.others)) (both n false w (32 ∷ []) (l ∷ a.others) [] a.lexes (blank 32 refl) (λ _. refl));
  reads = a.reads;
}

pub needing_prints : {A : Type 0} (p : Phrase Piece A) (ok : Option Piece → Bool) (x : A) (w : Text) (l : Lexeme) → Prints p ok x false w l → Prints p ok x true w l
needing_prints p ok x w l a = record { others = a.others; lexes = needing w (l ∷ a.others) a.lexes; reads = a.reads }

pub less_prints : {A : Type 0} (p : Phrase Piece A) (ok less : Option Piece → Bool) (x : A) (n : Bool) (w : Text) (l : Lexeme) → ((o : Option Piece) → less o ≡ true → ok o ≡ true) → Prints p ok x n w l → Prints p less x n w l
less_prints p ok less x n w l fits a = record { others = a.others; lexes = a.lexes; reads = λ ps rest s h. a.reads ps rest s (fits _ h) }

pub same_text : {A : Type 0} (p : Phrase Piece A) (ok : Option Piece → Bool) (x : A) (n : Bool) (w v : Text) (l : Lexeme) → w ≡ v → Prints p ok x n w l → Prints p ok x n v l
same_text p ok x n w v l e a = subst (λ t. Prints p ok x n t l) e a

-- the same, with some first lexeme, before a break
abbrev pub Printed : {A : Type 0} → Phrase Piece A → (Option Piece → Bool) → A → Text → Type 0
Printed p ok x w = (l : Lexeme) × Prints p ok x true w l

abbrev pub EachPrinted : {A : Type 0} → Phrase Piece A → (Option Piece → Bool) → List A → List Text → Type 0
EachPrinted p ok [] [] = Unit {0}
EachPrinted p ok [] (w ∷ ws) = ⊥
EachPrinted p ok (x ∷ xs) [] = ⊥
EachPrinted p ok (x ∷ xs) (w ∷ ws) = Printed p ok x w × EachPrinted p ok xs ws

-- texts with a separator between them
module _ {A : Type 0} (p : Phrase Piece A) (ok : Option Piece → Bool) (comma : Piece → Bool) (sep : Text) (c : Lexeme) (sep_says : Lexes false sep (c ∷ [])) (sep_breaks : breaks sep ≡ true) (goes : (pc : Piece) → pc.says ≡ c → comma pc ≡ true) (fits : (pc : Piece) → pc.says ≡ c → ok (Some pc) ≡ true) where
  last_prints : (x : A) (w : Text) (l : Lexeme) → Prints p ok x true w l → Prints (listed comma p) (after_list comma ok) (x ∷ []) true (w ++ []) l
  last_prints x w l a = record {
    others = a.others;
    lexes = subst (λ t. Lexes true t (l ∷ a.others)) (sym (append_none w)) a.lexes;
    reads = λ ps rest s h. let b = no_comma _ _ h in last (a.reads ps rest s b.1) b.0;
  }

  more_reads : (x : A) (xs : List A) (w v : Text) (l k : Lexeme) (a : Prints p ok x true w l) (b : Prints (listed comma p) (after_list comma ok) xs true v k) (ps mid rest : List Piece) → Say (l ∷ a.others) ps mid → Say (c ∷ k ∷ b.others) mid rest → after_list comma ok (next rest) ≡ true → Listed comma p ps (x ∷ xs) rest
  more_reads x xs w v l k a b ps [] rest s t h = absurd t
  more_reads x xs w v l k a b ps (pc ∷ mid) rest s t h = more (a.reads ps (pc ∷ mid) s (fits pc t.0)) (goes pc t.0) (b.reads mid rest t.1 h)

  more_prints : (x : A) (xs : List A) (w v : Text) (l k : Lexeme) → Prints p ok x true w l → Prints (listed comma p) (after_list comma ok) xs true v k → Prints (listed comma p) (after_list comma ok) (x ∷ xs) true (w ++ (sep ++ v)) l
  more_prints x xs w v l k a b = record {
    others = a.others ++ (c ∷ k ∷ b.others);
    lexes = both true true w (sep ++ v) (l ∷ a.others) (c ∷ k ∷ b.others) a.lexes (both false true sep v (c ∷ []) (k ∷ b.others) sep_says b.lexes (λ e. absurd (cc))) (λ _. breaks_append sep v sep_breaks);
    reads = λ ps rest s h. let cut = say_apart (l ∷ a.others) (c ∷ k ∷ b.others) ps rest s in more_reads x xs w v l k a b ps cut.0 rest cut.1 cut.2 h;
  }

  pub list_prints : (x : A) (xs : List A) (w : Text) (ws : List Text) (l : Lexeme) → Prints p ok x true w l → EachPrinted p ok xs ws → Prints (listed comma p) (after_list comma ok) (x ∷ xs) true (w ++ flat_map (λ v. sep ++ v) ws) l
  list_prints x [] w [] l a h = last_prints x w l a
  list_prints x [] w (v ∷ ws) l a h = absurd h
  list_prints x (y ∷ xs) w [] l a h = absurd h
  list_prints x (y ∷ xs) w (v ∷ ws) l a h =
      same_text (listed comma p) (after_list comma ok) (x ∷ y ∷ xs) true (w ++ (sep ++ (v ++ flat_map (λ u. sep ++ u) ws))) (w ++ ((sep ++ v) ++ flat_map (λ u. sep ++ u) ws)) l
      (ap (λ t. w ++ t) (sym (append_assoc sep v (flat_map (λ u. sep ++ u) ws))))
      (more_prints x (y ∷ xs) w (v ++ flat_map (λ u. sep ++ u) ws) l h.0.0 a (list_prints y xs v ws h.0.0 h.0.1 h.1))

-- up to the end of the text
pub record PrintsAll {A : Type 0} (p : Phrase Piece A) (x : A) (w : Text) (first : Lexeme) : Type 0 where
  pub others : List Lexeme
  pub lexes : (pre : Text) → says pre w ≡ first ∷ others
  pub reads : (ps : List Piece) → Say (first ∷ others) ps [] → p.reads ps x []

module _ {A B : Type 0} (p : Phrase Piece A) (f : A → Phrase Piece B) (p_ok : Option Piece → Bool) (x : A) (y : B) (n : Bool) (w v : Text) (l k : Lexeme) (a : Prints p p_ok x n w l) (b : PrintsAll (f x) y v k) (fits : (pc : Piece) → pc.says ≡ k → p_ok (Some pc) ≡ true) (apart : n ≡ true → breaks v ≡ true) where
  then_reads_all : (ps : List Piece) → Say (l ∷ (a.others ++ (k ∷ b.others))) ps [] → (p >>= f).reads ps y []
  then_reads_all ps s =
      let cut = say_apart (l ∷ a.others) (k ∷ b.others) ps [] s in
      (x, cut.0, a.reads ps cut.0 cut.1 (say_next k b.others cut.0 [] p_ok cut.2 fits), b.reads cut.0 cut.2)

  pub then_prints_all : PrintsAll (p >>= f) y (w ++ v) l
  then_prints_all = record {
    others = a.others ++ (k ∷ b.others);
    lexes = λ pre. a.lexes.at pre v apart ∙ ap (λ m. (l ∷ a.others) ++ m) (b.lexes (pre ++ w));
    reads = then_reads_all;
  }

pub mapped_prints_all : {A B : Type 0} (p : Phrase Piece A) (g : A → B) (x : A) (w : Text) (l : Lexeme) → PrintsAll p x w l → PrintsAll (p >>= λ a. gives (g a)) (g x) w l
mapped_prints_all p g x w l a = record { others = a.others; lexes = a.lexes; reads = λ ps s. (x, [], a.reads ps s, (refl, refl)) }

pub first_prints_all : {A : Type 0} (test : Piece → Bool) (p q : Phrase Piece A) (x : A) (w : Text) (l : Lexeme) → PrintsAll p x w l → ((pc : Piece) → pc.says ≡ l → test pc ≡ true) → PrintsAll (by_next test p q) x w l
first_prints_all test p q x w l a fits = record {
  others = a.others;
  lexes = a.lexes;
  reads = λ ps s. subst (λ b. MatchBool b (p.reads ps x []) (q.reads ps x [])) (sym (say_next l a.others ps [] (passes test) s fits)) (a.reads ps s);
}

pub second_prints_all : {A : Type 0} (test : Piece → Bool) (p q : Phrase Piece A) (x : A) (w : Text) (l : Lexeme) → PrintsAll q x w l → ((pc : Piece) → pc.says ≡ l → test pc ≡ false) → PrintsAll (by_next test p q) x w l
second_prints_all test p q x w l a fits = record {
  others = a.others;
  lexes = a.lexes;
  reads = λ ps s. subst (λ b. MatchBool b (p.reads ps x []) (q.reads ps x [])) (sym (no_next test l a.others ps [] s fits)) (a.reads ps s);
}

-- the pieces of a text say what its lexemes are
say_all : (ps : List Piece) (ls : List Lexeme) → map (λ (p : Piece). p.says) ps ≡ ls → Say ls ps []
say_all [] [] e = refl
say_all [] (l ∷ ls) e = cc
say_all (p ∷ ps) [] e = cc
say_all (p ∷ ps) (l ∷ ls) e =
    let first : p.says ≡ l = cc in
    let others : map (λ (p : Piece). p.says) ps ≡ ls = cc in
    (first, say_all ps ls others)

say_pieces : (bytes : Text) (answers : List Answer) → map (λ (p : Piece). p.says) (map (piece_in bytes) answers) ≡ map (lexeme_in bytes) answers
say_pieces bytes [] = refl
say_pieces bytes (a ∷ answers) = ap (λ m. lexeme_in bytes a ∷ m) (say_pieces bytes answers)

pub pieces_say : (bytes : Text) (ls : List Lexeme) → lexemes bytes ≡ ls → Say ls (pieces bytes) []
pieces_say bytes ls e = say_all (pieces bytes) ls (say_pieces bytes (tokens bytes) ∙ e)
