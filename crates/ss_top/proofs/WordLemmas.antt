-- Words that are counted.
use Rattle.ss_text.specs.Texts.{Text, text_eq}
use Rattle.ss_text.specs.Label.{is_table_label}
use Rattle.load_run.specs.Numbers.{changes_of, seed_of}
use Rattle.std.proofs.Common.{◌≡◌, Bool, true, false, ◌&&◌, ℕ, length, get_or, List, [], ◌∷◌, Option, None, Some, refl, arith}
use Rattle.std.specs.Prelude.{codes, if◌then◌else◌}
use Rattle.ss_top.specs.Commands.{Asked, Check, Show, Maintain, Verify, Apply, Stack, Feed, Other, HasViews, asked_of, command_named, load_of, command_counted, are_levels, stack_of}

-- two words, the second a legal name
pub two_words : (words : List Text) (word name : Text) → length words ≡ 2 → word ≡ get_or words 0 word → name ≡ get_or words 1 name → is_table_label name ≡ true → asked_of words ≡ command_named word name
two_words [] word name n w m legal = absurd (omega arith)
two_words (a ∷ []) word name n w m legal = absurd (omega arith)
two_words (a ∷ b ∷ []) word name n w m legal = rw (← w, ← m, legal) refl
two_words (a ∷ b ∷ c ∷ rest) word name n w m legal = absurd (omega arith)

-- three words, the first `load`
pub three_words : (words : List Text) (word changes seed : Text) → length words ≡ 3 → word ≡ get_or words 0 word → changes ≡ get_or words 1 changes → seed ≡ get_or words 2 seed → text_eq word (codes "load") ≡ true
    → asked_of words ≡ command_counted changes seed
three_words [] word changes seed n w c s load = absurd (omega arith)
three_words (a ∷ []) word changes seed n w c s load = absurd (omega arith)
three_words (a ∷ b ∷ []) word changes seed n w c s load = absurd (omega arith)
three_words (a ∷ b ∷ d ∷ []) word changes seed n w c s load = rw (← w, ← c, ← s, load) refl
three_words (a ∷ b ∷ d ∷ e ∷ rest) word changes seed n w c s load = absurd (omega arith)

-- a stack has some views
stacked_views : (names : List Text) (b : Bool) → HasViews (if are_levels names && b then Stack names else Other)
stacked_views [] b = tt
stacked_views (name ∷ names) b = elim (are_levels (name ∷ names) && b) as (λ x. HasViews (if x then Stack (name ∷ names) else Other)) [ true ↦ omega arith | false ↦ tt ]

named_views : (a b c d e f : Bool) (name : Text) → HasViews (if a then Check name else if b then Show name else if c then Maintain name else if d then Verify name else if e then Apply name else if f then Feed name else Other)
named_views true b c d e f name = tt
named_views false true c d e f name = tt
named_views false false true d e f name = tt
named_views false false false true e f name = tt
named_views false false false false true f name = tt
named_views false false false false false true name = tt
named_views false false false false false false name = tt

either_views : (b : Bool) (x y : Asked) → HasViews x → HasViews y → HasViews (if b then x else y)
either_views true x y p q = p
either_views false x y p q = q

loaded_views : (m n : Option ℕ) → HasViews (load_of m n)
loaded_views (Some changes) (Some seed) = tt
loaded_views (Some changes) None = tt
loaded_views None seed = tt

pub asked_views : (words : List Text) → HasViews (asked_of words)
asked_views [] = tt
asked_views (word ∷ []) = stacked_views [] (text_eq word (codes "stack"))
asked_views (word ∷ name ∷ []) =
    either_views (is_table_label name) (command_named word name) Other
    (named_views (text_eq word (codes "check")) (text_eq word (codes "show")) (text_eq word (codes "maintain")) (text_eq word (codes "verify")) (text_eq word (codes "apply")) (text_eq word (codes "feed")) name) tt
asked_views (word ∷ changes ∷ seed ∷ []) =
    either_views (text_eq word (codes "load")) (command_counted changes seed) (stack_of (word ∷ changes ∷ seed ∷ [])) (loaded_views (changes_of changes) (seed_of seed)) (stacked_views (changes ∷ seed ∷ []) (text_eq word (codes "stack")))
asked_views (word ∷ a ∷ b ∷ c ∷ rest) = stacked_views (a ∷ b ∷ c ∷ rest) (text_eq word (codes "stack"))
