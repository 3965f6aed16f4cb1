-- The pieces that a reader has ahead, by the answer that it holds and those that are left.
use Rattle.std.specs.Prelude.{ℕ, Bool, true, false, ◌&&◌, ◌||◌, List, [], ◌∷◌, map, if◌then◌else◌}
use Rattle.ss_lexer.specs.Tokens.{Answer}
use Rattle.ss_lexer.specs.Sound.{is_last, is_inside, are_sound}
use Rattle.ss_lexer.specs.Lexemes.{Lexeme, Finish, Bad_byte, Open_quote, Piece, piece_in}

-- behind the last there is nothing
abbrev pub further : Answer → List Answer → List Answer
further a left = if is_last a then [] else left

abbrev pub pieces_ahead : List ℕ → Answer → List Answer → List Piece
pieces_ahead bytes a left = piece_in bytes a ∷ map (piece_in bytes) (further a left)

-- the answer that is held stands inside the text, and those behind it are sound
abbrev pub is_held : ℕ → Answer → List Answer → Bool
is_held len a left = is_inside len a && (is_last a || are_sound len left)

-- a piece behind which there is none
abbrev pub ends : Lexeme → Bool
ends Finish = true
ends Bad_byte = true
ends Open_quote = true
ends l = false

abbrev pub is_end : Piece → Bool
is_end p = ends p.says
