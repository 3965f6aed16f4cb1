-- A text is that of one list of moves at most.
use Rattle.std.proofs.Common.{◌≡◌, ℕ, ◌==◌, Bool, true, false, ◌||◌, List, [], ◌∷◌, ◌++◌, Option, None, Some, codes, bytes_eq, refl, sym, ap, ◌∙◌, append_assoc, if◌then◌else◌}
use Rattle.std.specs.List.{AllByRecursion, list_any}
use Rattle.whole_sync.specs.declared.moves.Move.{Move}
use Rattle.whole_sync.specs.declared.moves.Move.TheVariants.{MakeFolder, TakePlace, Remove, RemoveFolder}
use Rattle.whole_sync.specs.Lists.{move_words, moves_words, list_words, joined, IsWord, IsListOf}

true_false : true ≡ false → ⊥
true_false e = cc

zero_in : (y : ℕ) (v : List ℕ) → 0 ≡ y → list_any (λ b. b == 0) (y ∷ v) ≡ false → ⊥
zero_in y v e h = true_false (ap (λ (x : ℕ). (x == 0) || list_any (λ b. b == 0) v) e ∙ h)

rest_word : (a b : Bool) → (a || b) ≡ false → b ≡ false
rest_word true b e = absurd (true_false e)
rest_word false b e = e

or_true : (a b : Bool) → b ≡ true → (a || b) ≡ true
or_true true b e = refl
or_true false b e = e

head_of : (d : ℕ) → List ℕ → ℕ
head_of d [] = d
head_of d (x ∷ xs) = x

tail_of : List ℕ → List ℕ
tail_of [] = []
tail_of (x ∷ xs) = xs

-- a word ends at its first 0 byte
word_same : (w v r s : List ℕ) → IsWord w → IsWord v → w ++ 0 ∷ r ≡ v ++ 0 ∷ s → (w ≡ v) × (r ≡ s)
unfolding head_of tail_of
word_same [] [] r s a b e = (refl, ap tail_of e)
word_same [] (y ∷ v) r s a b e = absurd (zero_in y v (ap (head_of 0) e) b)
word_same (x ∷ w) [] r s a b e = absurd (zero_in x w (sym (ap (head_of 0) e)) a)
word_same (x ∷ w) (y ∷ v) r s a b e =
    let rest = word_same w v r s (rest_word (x == 0) (list_any (λ c. c == 0) w) a) (rest_word (y == 0) (list_any (λ c. c == 0) v) b) (ap tail_of e) in
    let first : x ≡ y = ap (head_of 0) e in
    ((λ i. first i ∷ rest.0 i), rest.1)

is_empty : List ℕ → Bool
is_empty [] = true
is_empty (x ∷ xs) = false

empty_joined : (w r : List ℕ) → is_empty (w ++ 0 ∷ r) ≡ false
unfolding is_empty
empty_joined [] r = refl
empty_joined (x ∷ w) r = refl

pub joined_same : (ws vs : List (List ℕ)) → AllByRecursion IsWord ws → AllByRecursion IsWord vs → joined ws ≡ joined vs → ws ≡ vs
unfolding is_empty
joined_same [] [] a b e = refl
joined_same [] (v ∷ vs) a b e = absurd (true_false (ap is_empty e ∙ empty_joined v (joined vs)))
joined_same (w ∷ ws) [] a b e = absurd (true_false (ap is_empty (sym e) ∙ empty_joined w (joined ws)))
joined_same (w ∷ ws) (v ∷ vs) a b e =
    let same = word_same w v (joined ws) (joined vs) a.0 b.0 e in
    let rest = joined_same ws vs a.1 b.1 same.1 in
    λ i. same.0 i ∷ rest i

zero_among : (v r : List ℕ) → list_any (λ b. b == 0) (v ++ 0 ∷ r) ≡ true
zero_among [] r = refl
zero_among (x ∷ v) r = or_true (x == 0) (list_any (λ b. b == 0) (v ++ 0 ∷ r)) (zero_among v r)

-- behind the last word of a text nothing is left
pub joined_rest : (us : List (List ℕ)) (w : List ℕ) (vs : List (List ℕ)) → AllByRecursion IsWord us → IsWord w → AllByRecursion IsWord vs → joined us ++ w ≡ joined vs → w ≡ []
unfolding is_empty
joined_rest [] w [] a b c e = e
joined_rest [] w (v ∷ vs) a b c e = absurd (true_false (sym (zero_among v (joined vs)) ∙ (ap (list_any (λ x. x == 0)) (sym e) ∙ b)))
joined_rest (u ∷ us) w [] a b c e = absurd (true_false (ap is_empty (sym e ∙ append_assoc u (0 ∷ joined us) w) ∙ empty_joined u (joined us ++ w)))
joined_rest (u ∷ us) w (v ∷ vs) a b c e =
    joined_rest us w vs a.1 b c.1 (word_same u v (joined us ++ w) (joined vs) a.0 c.0 (sym (append_assoc u (0 ∷ joined us) w) ∙ e)).1

-- the first move of some words
abbrev Read : Type 0
Read = Option (Move × List (List ℕ))

read_one : (List ℕ → Move) → List (List ℕ) → Read
read_one f [] = None
read_one f (a ∷ ws) = Some (f a, ws)

read_two : (List ℕ → List ℕ → Move) → List (List ℕ) → Read
read_two f [] = None
read_two f (a ∷ []) = None
read_two f (a ∷ b ∷ ws) = Some (f a b, ws)

read_three : (List ℕ → List ℕ → List ℕ → Move) → List (List ℕ) → Read
read_three f [] = None
read_three f (a ∷ []) = None
read_three f (a ∷ b ∷ []) = None
read_three f (a ∷ b ∷ c ∷ ws) = Some (f a b c, ws)

first_move : List (List ℕ) → Read
first_move [] = None
first_move (verb ∷ ws) =
    if bytes_eq verb (codes "make") then read_one (λ f. MakeFolder f) ws
    else (if bytes_eq verb (codes "write") then read_three (λ b f n. TakePlace b f n) ws
    else (if bytes_eq verb (codes "remove") then read_two (λ f n. Remove f n) ws
    else (if bytes_eq verb (codes "gone") then read_one (λ f. RemoveFolder f) ws
    else None)))

first_is : (m : Move) (ws : List (List ℕ)) → first_move (move_words m ++ ws) ≡ Some (m, ws)
unfolding first_move read_one read_two read_three
first_is (MakeFolder folder) ws = refl
first_is (TakePlace beside folder file) ws = refl
first_is (Remove folder file) ws = refl
first_is (RemoveFolder folder) ws = refl

none_some : {A : Type 0} (x : A) → None ≡ Some x → ⊥
none_some x e = cc

first_end : first_move (codes "end" ∷ []) ≡ None
unfolding first_move
first_end = refl

abbrev End : List (List ℕ)
End = codes "end" ∷ []

first_of_all : (m : Move) (ms : List Move) → first_move (moves_words (m ∷ ms) ++ End) ≡ Some (m, moves_words ms ++ End)
first_of_all m ms = ap first_move (append_assoc (move_words m) (moves_words ms) End) ∙ first_is m (moves_words ms ++ End)

pair_of : (d : Move × List (List ℕ)) → Read → Move × List (List ℕ)
pair_of d None = d
pair_of d (Some p) = p

moves_same : (ms ns : List Move) → moves_words ms ++ End ≡ moves_words ns ++ End → ms ≡ ns
unfolding pair_of
moves_same [] [] e = refl
moves_same [] (n ∷ ns) e = absurd (none_some (n, moves_words ns ++ End) (sym first_end ∙ (ap first_move e ∙ first_of_all n ns)))
moves_same (m ∷ ms) [] e = absurd (none_some (m, moves_words ms ++ End) (sym first_end ∙ (ap first_move (sym e) ∙ first_of_all m ms)))
moves_same (m ∷ ms) (n ∷ ns) e =
    let d : Move × List (List ℕ) = (m, []) in
    let both : Some (m, moves_words ms ++ End) ≡ Some (n, moves_words ns ++ End) = sym (first_of_all m ms) ∙ (ap first_move e ∙ first_of_all n ns) in
    let pair : (m, moves_words ms ++ End) ≡ (n, moves_words ns ++ End) = ap (pair_of d) both in
    let first : m ≡ n = ap (λ (p : Move × List (List ℕ)). p.0) pair in
    let rest : ms ≡ ns = moves_same ms ns (ap (λ (p : Move × List (List ℕ)). p.1) pair) in
    λ i. first i ∷ rest i

tail_words : List (List ℕ) → List (List ℕ)
tail_words [] = []
tail_words (w ∷ ws) = ws

pub lists_same : (ms ns : List Move) (text : List ℕ) → IsListOf ms text → IsListOf ns text → ms ≡ ns
unfolding tail_words
lists_same ms ns text a b = moves_same ms ns (ap tail_words (joined_same (list_words ms) (list_words ns) a.words b.words (sym a.text_is ∙ b.text_is)))

pub words_are : (words : List (List ℕ)) (text : List ℕ) (ms : List Move) → text ≡ joined words → AllByRecursion IsWord words → IsListOf ms text → words ≡ list_words ms
words_are words text ms is all list = joined_same words (list_words ms) all list.words (sym is ∙ list.text_is)

-- what is left of a list while its moves are read
pub left_of_all : (words rest : List (List ℕ)) (ms : List Move) → words ≡ codes "lantsjuf list 1" ∷ rest → words ≡ list_words ms → rest ≡ moves_words ms ++ End
unfolding tail_words
left_of_all words rest ms is are = ap tail_words (sym is ∙ are)

pub left_more : (rest more : List (List ℕ)) (m : Move) (ns : List Move) → rest ≡ moves_words ns ++ End → rest ≡ move_words m ++ more → (ks : List Move) × (more ≡ moves_words ks ++ End)
unfolding pair_of
left_more rest more m [] is read = absurd (none_some (m, more) (sym first_end ∙ (ap first_move (sym is ∙ read) ∙ first_is m more)))
left_more rest more m (n ∷ ns) is read =
    let d : Move × List (List ℕ) = (m, []) in
    let both : Some (m, more) ≡ Some (n, moves_words ns ++ End) = sym (first_is m more) ∙ (ap first_move (sym read ∙ is) ∙ first_of_all n ns) in
    (ns, ap (λ (p : Move × List (List ℕ)). p.1) (ap (pair_of d) both))

pub left_ends : (rest : List (List ℕ)) (ns : List Move) → rest ≡ moves_words ns ++ End → (rest ≡ End → ⊥) → ((m : Move) → (ws : List (List ℕ)) → rest ≡ move_words m ++ ws → ⊥) → ⊥
left_ends rest [] is no_end no_move = no_end is
left_ends rest (n ∷ ns) is no_end no_move = no_move n (moves_words ns ++ End) (is ∙ append_assoc (move_words n) (moves_words ns) End)
