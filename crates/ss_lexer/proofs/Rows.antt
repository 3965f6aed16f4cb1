-- The corners of the tokens, by computing.
use Rattle.std.proofs.Common.{◌≡◌, refl, [], ◌∷◌, Err, length}
use Rattle.std.specs.Prelude.{codes}
use Rattle.ss_lexer.specs.declared.token.Kind.TheVariants as kind
use Rattle.ss_lexer.specs.declared.token.TokenFault.TheVariants as fault
use Rattle.ss_lexer.specs.Tokens.{token, answer, tokens}
use Rattle.ss_lexer.specs.Lexemes.{Ident, Key, Quoted, Literal, Mark, Finish, lexemes}

arrow : tokens (codes "D->R") ≡ token 0 kind.Word 1 ∷ token 1 kind.Sign 2 ∷ token 3 kind.Word 1 ∷ token 4 kind.Finish 0 ∷ []
unfolding tokens answer
arrow = refl

dash : tokens (codes " x-5 ") ≡ token 1 kind.Word 3 ∷ token 5 kind.Finish 0 ∷ []
unfolding tokens answer
dash = refl

two_dashes : tokens (codes "a--b") ≡ token 0 kind.Word 1 ∷ Err (fault.BadByte 1) ∷ []
unfolding tokens answer
two_dashes = refl

digits : tokens (codes "-123456789012345678 123456789012345678 ") ≡ token 0 kind.Num 19 ∷ token 20 kind.Num 18 ∷ token 39 kind.Finish 0 ∷ []
unfolding tokens answer
digits = refl

long : tokens (codes "-1234567890123456789") ≡ token 0 kind.Num 19 ∷ Err (fault.BadByte 19) ∷ []
unfolding tokens answer
long = refl

open_quote : tokens (codes "x 'a''") ≡ token 0 kind.Word 1 ∷ Err (fault.OpenQuote 2) ∷ []
unfolding tokens answer
open_quote = refl

quotes : lexemes (codes "'a''b' '' \"c\"\"\"\"d\"") ≡ Literal (codes "a'b") ∷ Literal [] ∷ Quoted (codes "c\"\"d") ∷ Finish ∷ []
unfolding tokens answer
quotes = refl

short : lexemes (codes "create View V::t(a, -5)") ≡ Key (codes "create") ∷ Key (codes "view") ∷ Ident (codes "V") ∷ Mark (codes "::") ∷ Ident (codes "t") ∷ Mark (codes "(") ∷ Ident (codes "a") ∷ Mark (codes ",") ∷ Literal (codes "-5") ∷ Mark (codes ")") ∷ Finish ∷ []
unfolding tokens answer
short = refl

whole : length (tokens (codes "create view V::t(a) as select T.a from d::r")) ≡ 18
unfolding tokens answer
whole = refl
