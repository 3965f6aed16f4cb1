-- The definitions on worked lines.
use Rattle.std.proofs.Common.{◌≡◌, refl, [], ◌∷◌, ◌++◌, Ok, Err}
use Rattle.std.specs.Prelude.{codes}
use Rattle.tab_lines.specs.Lines.{lines_of, whole_lines}
use Rattle.tab_lines.specs.Spelling.{spell, unspell}

-- insert⇥univ-A⇥salInfo⇥\q⇥cs⇥1
bad_escape : unspell (codes "insert" ++ 9 ∷ codes "univ-A" ++ 9 ∷ codes "salInfo" ++ 9 ∷ 92 ∷ codes "q" ++ 9 ∷ codes "cs" ++ 9 ∷ codes "1") ≡ Err 22
bad_escape = refl

-- a\tb\nc\\d
escapes : unspell (codes "a" ++ 92 ∷ codes "tb" ++ 92 ∷ codes "nc" ++ 92 ∷ 92 ∷ codes "d") ≡ Ok ((codes "a" ++ 9 ∷ codes "b" ++ 10 ∷ codes "c" ++ 92 ∷ codes "d") ∷ [])
escapes = refl

-- \\q
pairs : unspell (92 ∷ 92 ∷ codes "q") ≡ Ok ((92 ∷ codes "q") ∷ [])
pairs = refl

-- \\q\z
pairs_then_bad : unspell (92 ∷ 92 ∷ codes "q" ++ 92 ∷ codes "z") ≡ Err 3
pairs_then_bad = refl

open_end : unspell (92 ∷ []) ≡ Err 0
open_end = refl

open_end_after_pair : unspell (92 ∷ 92 ∷ 92 ∷ []) ≡ Err 2
open_end_after_pair = refl

slash_before_tab : unspell (codes "a" ++ 92 ∷ 9 ∷ codes "b") ≡ Err 1
slash_before_tab = refl

empty_fields : unspell (9 ∷ []) ≡ Ok ([] ∷ [] ∷ [])
empty_fields = refl

one_empty : unspell [] ≡ Ok ([] ∷ [])
one_empty = refl

spelled : spell (codes "a" ∷ (9 ∷ 10 ∷ 92 ∷ []) ∷ [] ∷ []) ≡ codes "a" ++ 9 ∷ 92 ∷ codes "t" ++ 92 ∷ codes "n" ++ 92 ∷ 92 ∷ 9 ∷ []
spelled = refl

last_without_feed : lines_of (codes "a" ++ 10 ∷ 10 ∷ codes "b") ≡ codes "a" ∷ [] ∷ codes "b" ∷ []
last_without_feed = refl

last_with_feed : lines_of (codes "a" ++ 10 ∷ []) ≡ codes "a" ∷ []
last_with_feed = refl

whole : whole_lines (codes "a" ++ 10 ∷ 10 ∷ codes "b") ≡ codes "a" ∷ [] ∷ []
whole = refl

none : lines_of [] ≡ []
none = refl
