-- What is true of the tokens of every text.
use Rattle.std.specs.Prelude.{ℕ, Bool, true, false, ◌&&◌, not, nat_le, List, [], ◌∷◌, Ok, Err}
use Rattle.ss_lexer.specs.declared.token.Kind.{Kind}
use Rattle.ss_lexer.specs.declared.token.Kind.TheVariants as kind
use Rattle.ss_lexer.specs.Tokens.{Answer}

abbrev pub is_finish : Kind → Bool
is_finish kind.Finish = true
is_finish k = false

-- the end of the text, or its fault
abbrev pub is_last : Answer → Bool
is_last (Ok t) = is_finish t.kind
is_last (Err e) = true

-- a token stands inside a text of this length
abbrev pub is_inside : ℕ → Answer → Bool
is_inside len (Ok t) = nat_le t.from t.to && nat_le t.to len
is_inside len (Err e) = true

-- each stands inside the text, and the last alone is its end or its fault
abbrev pub are_sound : ℕ → List Answer → Bool
are_sound len [] = false
are_sound len (a ∷ []) = is_last a && is_inside len a
are_sound len (a ∷ b ∷ bs) = not (is_last a) && is_inside len a && are_sound len (b ∷ bs)
