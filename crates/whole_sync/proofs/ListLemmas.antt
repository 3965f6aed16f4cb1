-- The text of a list of moves, word by word.
use Rattle.std.proofs.Common.{◌≡◌, ℕ, ◌+◌, ◌<◌, ◌≤◌, ◌==◌, arith, bytes_eq, length, Bool, true, false, ◌||◌, List, [], ◌∷◌, ◌++◌, get_or, drop, codes, refl, sym, ap, ◌∙◌, subst, append_assoc, append-nil}
use Rattle.std.specs.List.{AllByRecursion, list_any}
use Rattle.std.proofs.lemmas.List.{drop_more}
use Rattle.std.proofs.lemmas.Slice.Eq.{bytes_eq-Decides}
use Rattle.whole_sync.specs.declared.moves.Move.{Move}
use Rattle.whole_sync.specs.Lists.{move_words, moves_words, list_words, joined, IsWord, IsListOf}

abbrev End : List (List ℕ)
End = codes "end" ∷ []

pub joined_append : (ws vs : List (List ℕ)) → joined (ws ++ vs) ≡ joined ws ++ joined vs
joined_append [] vs = refl
joined_append (w ∷ ws) vs = ap (λ (x : List ℕ). w ++ 0 ∷ x) (joined_append ws vs) ∙ sym (append_assoc w (0 ∷ joined ws) (joined vs))

pub all_append : (ws vs : List (List ℕ)) → AllByRecursion IsWord ws → AllByRecursion IsWord vs → AllByRecursion IsWord (ws ++ vs)
all_append [] vs a b = b
all_append (w ∷ ws) vs a b = (a.0, all_append ws vs a.1 b)

pub all_front : (ws vs : List (List ℕ)) → AllByRecursion IsWord (ws ++ vs) → AllByRecursion IsWord ws
all_front [] vs a = tt
all_front (w ∷ ws) vs a = (a.0, all_front ws vs a.1)

pub all_rest : (ws vs : List (List ℕ)) → AllByRecursion IsWord (ws ++ vs) → AllByRecursion IsWord vs
all_rest [] vs a = a
all_rest (w ∷ ws) vs a = all_rest ws vs a.1

-- the text so far, and what is left of the moves
pub record IsWritten (ms rest : List Move) (text : List ℕ) : Type 0 where
  pub text_is : joined (list_words ms) ≡ text ++ joined (moves_words rest ++ codes "end" ∷ [])
  pub words : AllByRecursion IsWord (moves_words rest ++ codes "end" ∷ []) → AllByRecursion IsWord (list_words ms)

pub written_start : (ms : List Move) (old new : List ℕ) → old ≡ [] → new ≡ old ++ joined (codes "lantsjuf list 1" ∷ []) → IsWord (codes "lantsjuf list 1") → IsWritten ms ms new
written_start ms old new none is word = record {
  text_is = joined_append (codes "lantsjuf list 1" ∷ []) (moves_words ms ++ End) ∙ ap (λ (x : List ℕ). x ++ joined (moves_words ms ++ End)) (sym (is ∙ ap (λ (x : List ℕ). x ++ joined (codes "lantsjuf list 1" ∷ [])) none));
  words = λ w. (word, w);
}

written_step : (ms : List Move) (m : Move) (rest : List Move) (old new : List ℕ) → IsWritten ms (m ∷ rest) old → new ≡ old ++ joined (move_words m) → AllByRecursion IsWord (move_words m) → IsWritten ms rest new
written_step ms m rest old new h is words =
    let parts : moves_words (m ∷ rest) ++ End ≡ move_words m ++ (moves_words rest ++ End) = append_assoc (move_words m) (moves_words rest) End in
    record {
      text_is = h.text_is ∙ (ap (λ (ws : List (List ℕ)). old ++ joined ws) parts ∙ (ap (λ (x : List ℕ). old ++ x) (joined_append (move_words m) (moves_words rest ++ End)) ∙ (sym (append_assoc old (joined (move_words m)) (joined (moves_words rest ++ End))) ∙ ap (λ (x : List ℕ). x ++ joined (moves_words rest ++ End)) (sym is))));
      words = λ w. h.words (subst (λ (ws : List (List ℕ)). AllByRecursion IsWord ws) (sym parts) (all_append (move_words m) (moves_words rest ++ End) words w));
    }

pub written_more : (ms : List Move) (i : ℕ) (m : Move) (old new : List ℕ) → i < length ms → m ≡ get_or ms i m → IsWritten ms (drop i ms) old → new ≡ old ++ joined (move_words m) → AllByRecursion IsWord (move_words m) → IsWritten ms (drop (i + 1) ms) new
written_more ms i m old new lt is h text words =
    written_step ms m (drop (i + 1) ms) old new (subst (λ (rest : List Move). IsWritten ms rest old) (drop_more ms i m lt ∙ ap (λ (x : Move). x ∷ drop (i + 1) ms) (sym is)) h) text words

pub written_end : (ms rest : List Move) (old new text : List ℕ) → rest ≡ [] → IsWritten ms rest old → new ≡ old ++ joined (codes "end" ∷ []) → IsWord (codes "end") → text ≡ new → IsListOf ms text
written_end ms rest old new text none h is word same =
    let h : IsWritten ms [] old = subst (λ (r : List Move). IsWritten ms r old) none h in
    record { text_is = same ∙ (is ∙ sym h.text_is); words = h.words (word, tt) }

-- and of what was read
pub moves_append : (ms ns : List Move) → moves_words (ms ++ ns) ≡ moves_words ms ++ moves_words ns
moves_append [] ns = refl
moves_append (m ∷ ms) ns = ap (λ (ws : List (List ℕ)). move_words m ++ ws) (moves_append ms ns) ∙ sym (append_assoc (move_words m) (moves_words ms) (moves_words ns))

moves_snoc : (ms : List Move) (m : Move) → moves_words (ms ++ m ∷ []) ≡ moves_words ms ++ move_words m
moves_snoc ms m = moves_append ms (m ∷ []) ∙ ap (λ (ws : List (List ℕ)). moves_words ms ++ ws) (append-nil (move_words m))

-- a 0 byte ends a word, and any other belongs to it
pub word_ends : (words : List (List ℕ)) (word : List ℕ) → joined (words ++ word ∷ []) ++ [] ≡ (joined words ++ word) ++ 0 ∷ []
word_ends words word = append-nil (joined (words ++ word ∷ [])) ∙ (joined_append words (word ∷ []) ∙ sym (append_assoc (joined words) word (0 ∷ [])))

pub words_more : (words : List (List ℕ)) (word : List ℕ) → AllByRecursion IsWord words → IsWord word → AllByRecursion IsWord (words ++ word ∷ [])
words_more words word a b = all_append words (word ∷ []) a (b, tt)

either : (a b : Bool) → (a || b) ≡ false → (a ≡ false) × (b ≡ false)
either true b e = absurd (cc)
either false b e = (refl, e)

pub word_more : (word : List ℕ) (b : ℕ) → IsWord word → (b == 0) ≡ false → IsWord (word ++ b ∷ [])
word_more [] b h is = ap (λ (x : Bool). x || false) is
word_more (x ∷ xs) b h is =
    let parts = either (x == 0) (list_any (λ c. c == 0) xs) h in
    ap (λ (y : Bool). y || list_any (λ c. c == 0) (xs ++ b ∷ [])) parts.0 ∙ word_more xs b parts.1 is

-- words that are put one after another
pub put_after : (ws : List (List ℕ)) (w old mid new : List ℕ) → mid ≡ old ++ joined ws → new ≡ mid ++ joined (w ∷ []) → new ≡ old ++ joined (ws ++ w ∷ [])
put_after ws w old mid new a b =
    b ∙ (ap (λ (x : List ℕ). x ++ joined (w ∷ [])) a ∙ (append_assoc old (joined ws) (joined (w ∷ [])) ∙ ap (λ (x : List ℕ). old ++ x) (sym (joined_append ws (w ∷ [])))))

-- words that were compared, and the words behind them
pub same_word : (a b v : List ℕ) → bytes_eq a b ≡ true → a ≡ v → v ≡ b
same_word a b v test is = sym is ∙ (bytes_eq-Decides a b).0 test

pub one_word : (ws : List (List ℕ)) (a v : List ℕ) → 1 ≤ length ws → length ws < 2 → a ≡ get_or ws 0 a → a ≡ v → ws ≡ v ∷ []
one_word [] a v least most at is = absurd (omega arith)
one_word (x ∷ []) a v least most at is = ap (λ (w : List ℕ). w ∷ []) (sym at ∙ is)
one_word (x ∷ y ∷ ws) a v least most at is = absurd (omega arith)

pub read_on : (all rest more : List (List ℕ)) (ms ns : List Move) (m : Move) → all ≡ moves_words ms ++ rest → rest ≡ move_words m ++ more → ns ≡ ms ++ m ∷ [] → all ≡ moves_words ns ++ more
read_on all rest more ms ns m so_far is are =
    so_far ∙ (ap (λ (ws : List (List ℕ)). moves_words ms ++ ws) is ∙ (sym (append_assoc (moves_words ms) (move_words m) more) ∙ ap (λ (ws : List (List ℕ)). ws ++ more) (sym (ap moves_words are ∙ moves_snoc ms m))))
