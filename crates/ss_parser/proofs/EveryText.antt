-- Every text is read as a view, or is refused at some place.
use Rattle.std.proofs.Common.{◌≡◌, ◌≢◌, ℕ, zero, suc, Bool, true, false, List, [], ◌∷◌, map, length, Option, Some, None, Ok, Err, ⊎_elim, refl, sym, ◌∙◌, ap, subst, inl, inr}
use Rattle.std.specs.Prelude.{◌&&◌, not, if◌then◌else◌, codes, MatchBool}
use Rattle.std.specs.Str.{str_to_ascii_lowercase}
use Rattle.std.proofs.lemmas.Bool.{and_parts}
use Rattle.ss_text.specs.Texts.{Text, is_in}
use Rattle.view_def.specs.declared.written.Name.{Name}
use Rattle.view_def.specs.declared.written.RawTerm.TheVariants as term
use Rattle.view_def.specs.declared.written.RawRange.{RawRange}
use Rattle.view_def.specs.declared.written.RawRange.TheVariants as range
use Rattle.view_def.specs.RawConditions.{NotRaw, CompareRaw}
use Rattle.ss_lexer.specs.declared.token.Kind.{Kind}
use Rattle.ss_lexer.specs.declared.token.Kind.TheVariants as kind
use Rattle.ss_lexer.specs.declared.token.TokenFault.TheVariants as token_fault
use Rattle.ss_lexer.specs.Tokens.{Answer, tokens}
use Rattle.ss_lexer.specs.Sound.{is_last, is_inside, are_sound}
use Rattle.ss_lexer.specs.Lexemes.{Lexeme, Ident, Key, Quoted, Literal, Mark, Finish, Bad_byte, Open_quote, Piece, keywords, word, lexeme_of, piece_in, pieces}
use Rattle.ss_lexer.proofs.Spans.{sound_tokens}
use Rattle.ss_parser.specs.declared.fault.ParseFault.{ParseFault}
use Rattle.ss_parser.specs.declared.fault.ParseFault.TheVariants as fault
use Rattle.ss_parser.specs.Phrases.{Phrase, gives, ◌>>=◌, by_next, listed, limit}
use Rattle.ss_parser.specs.Ahead.{ends, is_end}
use Rattle.ss_parser.specs.Terms.{one, just, key, sign, says_key, says_sign, is_key, is_sign, an_ident, ident, a_name, name, some, a_literal, literal, dotted, ident_term, is_ident, a_term}
use Rattle.ss_parser.specs.Declarations.{decl_of, var, arrow_var, column_var, cell_var, in_relation, in_database, behind_name, named, decl}
use Rattle.ss_parser.specs.Conditions.{an_operator, operator, comparison, any_of, all_of, all, any, negation, group, starts_term, opens, inside, nested, unit}
use Rattle.ss_parser.specs.Views.{head_of, columns, target, header, selection, declarations, says_finish, is_finish, finish, closed, end, filtered, unfiltered, ending, tree_with, view, most_open}
use Rattle.ss_parser.specs.Refused.{HasReading, IsRefused, fault_at, fault_by}
use Rattle.ss_parser.proofs.ViewLaws.{name_laws, a_term_laws, decl_laws, after_term, word as a_word, the_sign, unit_laws, all_laws, after_all}
use Rattle.ss_parser.proofs.PhraseLaws.{always}
use Rattle.ss_parser.proofs.Refusals.{is_read, refused, refused_too_deep}
use Rattle.ss_parser.proofs.Decided.{AreEnded, AllRead, Stopped, Decided, AllDecided, token_decided, last_decided, gives_decided, then_decided, then_all_decided, mapped_decided, mapped_all_decided, by_next_decided, by_next_all_decided, limit_decided, listed_decided}

-- a piece that says one of these is no end, where none of these is
module _ {A : Type 0} (f : Lexeme → Option A) (inner : (l : Lexeme) (a : A) → f l ≡ Some a → ends l ≡ false) where
  one_decided : Decided (one f)
  one_decided = token_decided (λ p. f p.says) (λ p a e. inner p.says a e)

just_inner : (test : Piece → Bool) → ((p : Piece) → test p ≡ true → is_end p ≡ false) → Decided (just test)
just_inner test inner = token_decided (λ p. if test p then Some tt else None) (λ p a e. inner p (by p (test p) refl a e))
  where
    by : (p : Piece) (b : Bool) → test p ≡ b → (a : Unit {0}) → (if test p then Some tt else None) ≡ Some a → test p ≡ true
    by p true t a e = t
    by p false t a e = let none : None ≡ Some a = sym (ap (λ b. if b then Some tt else None) t) ∙ e in cc

key_no_end : (k : Text) (l : Lexeme) → says_key k l ≡ true → ends l ≡ false
key_no_end k (Key j) e = refl
key_no_end k (Ident t) e = cc
key_no_end k (Quoted t) e = cc
key_no_end k (Literal t) e = cc
key_no_end k (Mark t) e = cc
key_no_end k Finish e = cc
key_no_end k Bad_byte e = cc
key_no_end k Open_quote e = cc

sign_no_end : (s : Text) (l : Lexeme) → says_sign s l ≡ true → ends l ≡ false
sign_no_end s (Mark j) e = refl
sign_no_end s (Ident t) e = cc
sign_no_end s (Quoted t) e = cc
sign_no_end s (Literal t) e = cc
sign_no_end s (Key t) e = cc
sign_no_end s Finish e = cc
sign_no_end s Bad_byte e = cc
sign_no_end s Open_quote e = cc

key_decided : (k : Text) → Decided (key k)
key_decided k = just_inner (is_key k) (λ p e. key_no_end k p.says e)

sign_decided : (s : Text) → Decided (sign s)
sign_decided s = just_inner (is_sign s) (λ p e. sign_no_end s p.says e)

behind_key : {A : Type 0} (k : Text) (p : Phrase Piece A) → Decided p → Decided (key k >>= λ _. p)
behind_key k p d = then_decided (key k) (λ _. p) (key_decided k) (λ _. d)

behind_sign : {A : Type 0} (s : Text) (p : Phrase Piece A) → Decided p → Decided (sign s >>= λ _. p)
behind_sign s p d = then_decided (sign s) (λ _. p) (sign_decided s) (λ _. d)

-- names and terms
ident_no_end : (l : Lexeme) (t : Text) → an_ident l ≡ Some t → ends l ≡ false
ident_no_end (Ident t) u e = refl
ident_no_end (Key t) u e = refl
ident_no_end (Quoted t) u e = refl
ident_no_end (Literal t) u e = refl
ident_no_end (Mark t) u e = refl
ident_no_end Finish u e = cc
ident_no_end Bad_byte u e = cc
ident_no_end Open_quote u e = cc

name_no_end : (l : Lexeme) (n : Name) → a_name l ≡ Some n → ends l ≡ false
name_no_end (Ident t) u e = refl
name_no_end (Key t) u e = refl
name_no_end (Quoted t) u e = refl
name_no_end (Literal t) u e = refl
name_no_end (Mark t) u e = refl
name_no_end Finish u e = cc
name_no_end Bad_byte u e = cc
name_no_end Open_quote u e = cc

ident_decided : Decided ident
ident_decided = one_decided an_ident ident_no_end

name_decided : Decided name
name_decided = one_decided a_name name_no_end

literal_decided : Decided literal
literal_decided = one_decided a_literal no_end
  where
    no_end : (l : Lexeme) (t : _) → a_literal l ≡ Some t → ends l ≡ false
    no_end (Ident t) u e = refl
    no_end (Key t) u e = refl
    no_end (Quoted t) u e = refl
    no_end (Literal t) u e = refl
    no_end (Mark t) u e = refl
    no_end Finish u e = cc
    no_end Bad_byte u e = cc
    no_end Open_quote u e = cc

operator_decided : Decided operator
operator_decided = one_decided an_operator no_end
  where
    no_end : (l : Lexeme) (t : _) → an_operator l ≡ Some t → ends l ≡ false
    no_end (Ident t) u e = refl
    no_end (Key t) u e = refl
    no_end (Quoted t) u e = refl
    no_end (Literal t) u e = refl
    no_end (Mark t) u e = refl
    no_end Finish u e = cc
    no_end Bad_byte u e = cc
    no_end Open_quote u e = cc

dotted_decided : (x : Text) → Decided (dotted x)
dotted_decided x = behind_sign (codes ".") (name >>= λ a. gives (term.Dot x a)) (mapped_decided name (λ a. term.Dot x a) name_decided)

ident_term_decided : Decided ident_term
ident_term_decided = then_decided ident (λ x. by_next (is_sign (codes ".")) (dotted x) (gives (term.Lone x))) ident_decided
    (λ x. by_next_decided (is_sign (codes ".")) (dotted x) (gives (term.Lone x)) (dotted_decided x) (gives_decided (term.Lone x)))

a_term_decided : Decided a_term
a_term_decided = by_next_decided is_ident ident_term literal ident_term_decided literal_decided

-- conditions
comparison_decided : Decided comparison
comparison_decided =
    then_decided a_term (λ s. operator >>= λ o. a_term >>= λ t. gives (CompareRaw s o t)) a_term_decided (λ s.
    then_decided operator (λ o. a_term >>= λ t. gives (CompareRaw s o t)) operator_decided (λ o.
    mapped_decided a_term (λ t. CompareRaw s o t) a_term_decided))

module _ (levels : ℕ) (d : Decided (unit levels)) where
  all_decided : Decided (all (unit levels))
  all_decided = mapped_decided (listed (is_key (codes "and")) (unit levels)) all_of
      (listed_decided (is_key (codes "and")) (λ p e. key_no_end (codes "and") p.says e) (unit levels) after_term a_word (unit_laws levels) d)

  any_decided : Decided (any (unit levels))
  any_decided = mapped_decided (listed (is_key (codes "or")) (all (unit levels))) any_of
      (listed_decided (is_key (codes "or")) (λ p e. key_no_end (codes "or") p.says e) (all (unit levels)) after_all a_word (all_laws (unit levels) (unit_laws levels)) all_decided)

  group_decided : Decided (group (unit levels))
  group_decided =
      behind_sign (codes "(") (any (unit levels) >>= λ c. sign (codes ")") >>= λ _. gives c)
      (then_decided (any (unit levels)) (λ c. sign (codes ")") >>= λ _. gives c) any_decided (λ c. mapped_decided (sign (codes ")")) (λ _. c) (sign_decided (codes ")"))))

  nested_decided : Decided (nested (unit levels))
  nested_decided =
      by_next_decided starts_term comparison (inside (unit levels)) comparison_decided
      (by_next_decided (is_key (codes "not")) (negation (unit levels)) (group (unit levels))
      (behind_key (codes "not") (unit levels >>= λ c. gives (NotRaw c)) (mapped_decided (unit levels) (λ c. NotRaw c) d)) group_decided)

unit_decided : (levels : ℕ) → Decided (unit levels)
unfolding unit
unit_decided zero = by_next_decided starts_term comparison (limit opens) comparison_decided (limit_decided opens)
unit_decided (suc levels) = nested_decided levels (unit_decided levels)

-- declarations
var_decided : (r : RawRange) → Decided (var r)
var_decided r = mapped_decided ident (λ x. decl_of r x) ident_decided

arrow_decided : (r : RawRange) → Decided (arrow_var r)
arrow_decided r = behind_sign (codes "->") (var r) (var_decided r)

column_decided : (n m : Name) → Decided (column_var n m)
column_decided n m =
    behind_sign (codes ".") (name >>= λ a. var (range.Values n m a))
    (then_decided name (λ a. var (range.Values n m a)) name_decided (λ a. var_decided (range.Values n m a)))

cell_decided : (t : Text) → Decided (cell_var t)
cell_decided t =
    behind_sign (codes ".") (name >>= λ a. var (range.Alias t a))
    (then_decided name (λ a. var (range.Alias t a)) name_decided (λ a. var_decided (range.Alias t a)))

in_relation_decided : (n m : Name) → Decided (in_relation n m)
in_relation_decided n m =
    by_next_decided (is_sign (codes "->")) (arrow_var (range.Attributes n m)) (by_next (is_sign (codes ".")) (column_var n m) (var (range.Tuples n m))) (arrow_decided (range.Attributes n m))
    (by_next_decided (is_sign (codes ".")) (column_var n m) (var (range.Tuples n m)) (column_decided n m) (var_decided (range.Tuples n m)))

in_database_decided : (n : Name) → Decided (in_database n)
in_database_decided n =
    behind_sign (codes "::") (name >>= λ m. in_relation n m) (then_decided name (λ m. in_relation n m) name_decided (λ m. in_relation_decided n m))

behind_name_decided : (b : Bool) (n : Name) → Decided (behind_name b n)
behind_name_decided true n = in_database_decided n
behind_name_decided false n = by_next_decided (is_sign (codes ".")) (cell_var n.text) (in_database n) (cell_decided n.text) (in_database_decided n)

named_decided : Decided named
named_decided =
    then_decided name (λ n. by_next (is_sign (codes "->")) (arrow_var (range.Relations n)) (behind_name n.quoted n)) name_decided (λ n.
    by_next_decided (is_sign (codes "->")) (arrow_var (range.Relations n)) (behind_name n.quoted n) (arrow_decided (range.Relations n)) (behind_name_decided n.quoted n))

decl_decided : Decided decl
decl_decided = by_next_decided (is_sign (codes "->")) (arrow_var range.Databases) named (arrow_decided range.Databases) named_decided

-- the header, SELECT and FROM
names_decided : Decided (some name)
names_decided = listed_decided (is_sign (codes ",")) (λ p e. sign_no_end (codes ",") p.says e) name always a_word name_laws name_decided

columns_decided : Decided columns
columns_decided =
    behind_sign (codes "(") (some name >>= λ cs. sign (codes ")") >>= λ _. gives cs)
    (then_decided (some name) (λ cs. sign (codes ")") >>= λ _. gives cs) names_decided (λ cs. mapped_decided (sign (codes ")")) (λ _. cs) (sign_decided (codes ")"))))

target_decided : Decided target
target_decided =
    then_decided name (λ db. sign (codes "::") >>= λ _. name >>= λ label. columns >>= λ cs. gives (head_of db label cs)) name_decided (λ db.
    behind_sign (codes "::") (name >>= λ label. columns >>= λ cs. gives (head_of db label cs))
    (then_decided name (λ label. columns >>= λ cs. gives (head_of db label cs)) name_decided (λ label. mapped_decided columns (λ cs. head_of db label cs) columns_decided)))

header_decided : Decided header
header_decided =
    behind_key (codes "create") (key (codes "view") >>= λ _. target >>= λ h. key (codes "as") >>= λ _. gives h)
    (behind_key (codes "view") (target >>= λ h. key (codes "as") >>= λ _. gives h)
    (then_decided target (λ h. key (codes "as") >>= λ _. gives h) target_decided (λ h. mapped_decided (key (codes "as")) (λ _. h) (key_decided (codes "as")))))

selection_decided : Decided selection
selection_decided = behind_key (codes "select") (some a_term) (listed_decided (is_sign (codes ",")) (λ p e. sign_no_end (codes ",") p.says e) a_term after_term a_word a_term_laws a_term_decided)

declarations_decided : Decided declarations
declarations_decided = behind_key (codes "from") (some decl) (listed_decided (is_sign (codes ",")) (λ p e. sign_no_end (codes ",") p.says e) decl always (the_sign (codes "->")) decl_laws decl_decided)

-- the end
finish_ends : (l : Lexeme) → says_finish l ≡ true → ends l ≡ true
finish_ends Finish e = refl
finish_ends Bad_byte e = refl
finish_ends Open_quote e = refl
finish_ends (Ident t) e = cc
finish_ends (Key t) e = cc
finish_ends (Quoted t) e = cc
finish_ends (Literal t) e = cc
finish_ends (Mark t) e = cc

finish_decided : AllDecided finish
finish_decided = last_decided (λ p. if is_finish p then Some tt else None) (λ p a e. finish_ends p.says (by p (is_finish p) refl a e))
  where
    by : (p : Piece) (b : Bool) → is_finish p ≡ b → (a : Unit {0}) → (if is_finish p then Some tt else None) ≡ Some a → is_finish p ≡ true
    by p true t a e = t
    by p false t a e = let none : None ≡ Some a = sym (ap (λ b. if b then Some tt else None) t) ∙ e in cc

end_decided : AllDecided end
end_decided = by_next_all_decided (is_sign (codes ";")) closed finish (then_all_decided (sign (codes ";")) (λ _. finish) (sign_decided (codes ";")) (λ _. finish_decided)) finish_decided

ending_decided : (levels : ℕ) → AllDecided (ending levels)
ending_decided levels =
    by_next_all_decided (is_key (codes "where")) (filtered levels) unfiltered
    (then_all_decided (key (codes "where")) (λ _. any (unit levels) >>= λ c. end >>= λ _. gives (Some c)) (key_decided (codes "where")) (λ _.
    then_all_decided (any (unit levels)) (λ c. end >>= λ _. gives (Some c)) (any_decided levels (unit_decided levels)) (λ c. mapped_all_decided end (λ _. Some c) end_decided)))
    (mapped_all_decided end (λ _. None) end_decided)

view_decided : (levels : ℕ) → AllDecided (view levels)
view_decided levels =
    then_all_decided header (λ h. selection >>= λ select. declarations >>= λ decls. ending levels >>= λ c. gives (tree_with h select decls c)) header_decided (λ h.
    then_all_decided selection (λ select. declarations >>= λ decls. ending levels >>= λ c. gives (tree_with h select decls c)) selection_decided (λ select.
    then_all_decided declarations (λ decls. ending levels >>= λ c. gives (tree_with h select decls c)) declarations_decided (λ decls.
    mapped_all_decided (ending levels) (λ c. tree_with h select decls c) (ending_decided levels))))

-- the pieces of a text have its end, or its fault, last and nowhere else
word_no_end : (t : Text) → ends (word t) ≡ false
word_no_end t = elim (is_in (str_to_ascii_lowercase t) keywords) as (λ b. ends (if b then Key (str_to_ascii_lowercase t) else Ident t) ≡ false) [ true ↦ refl | false ↦ refl ]

kind_ends : (k : Kind) (bytes : List ℕ) (at to : ℕ) → ends (lexeme_of k bytes) ≡ is_last (Ok (record { kind = k; from = at; to = to }))
kind_ends kind.Word bytes at to = word_no_end bytes
kind_ends kind.Quoted bytes at to = refl
kind_ends kind.Str bytes at to = refl
kind_ends kind.Num bytes at to = refl
kind_ends kind.Sign bytes at to = refl
kind_ends kind.Finish bytes at to = refl

last_ends : (bytes : List ℕ) (a : Answer) → is_end (piece_in bytes a) ≡ is_last a
last_ends bytes (Ok t) = kind_ends t.kind _ t.from t.to
last_ends bytes (Err (token_fault.BadByte at)) = refl
last_ends bytes (Err (token_fault.OpenQuote at)) = refl

sound_ended : (bytes : List ℕ) (len : ℕ) (answers : List Answer) → are_sound len answers ≡ true → AreEnded (map (piece_in bytes) answers)
sound_ended bytes len [] e = absurd (cc)
sound_ended bytes len (a ∷ []) e =
    let is : is_end (piece_in bytes a) ≡ true = last_ends bytes a ∙ (and_parts (is_last a) (is_inside len a) e).0 in
    let none : ◌≡◌ {A = List Piece} [] [] = refl in
    subst (λ b. MatchBool b (◌≡◌ {A = List Piece} [] []) ⊥) (sym is) none
sound_ended bytes len (a ∷ b ∷ bs) e =
    let parts = and_parts (not (is_last a) && is_inside len a) (are_sound len (b ∷ bs)) e in
    let first = and_parts (not (is_last a)) (is_inside len a) parts.0 in
    let is : is_end (piece_in bytes a) ≡ false = last_ends bytes a ∙ not_true (is_last a) first.0 in
    subst (λ c. MatchBool c (map (piece_in bytes) (b ∷ bs) ≡ []) (AreEnded (map (piece_in bytes) (b ∷ bs)))) (sym is) (sound_ended bytes len (b ∷ bs) parts.1)
  where
    not_true : (c : Bool) → not c ≡ true → c ≡ false
    not_true false n = refl
    not_true true n = cc

pub pieces_ended : (bytes : List ℕ) → AreEnded (pieces bytes)
pieces_ended bytes = sound_ended bytes (length bytes) (tokens bytes) (sound_tokens bytes)

-- a fault of a piece is no want of memory
fault_named : (l : Lexeme) (at : ℕ) → fault_by l at ≢ fault.NoMemory
fault_named (Ident t) at e = cc
fault_named (Key t) at e = cc
fault_named (Quoted t) at e = cc
fault_named (Literal t) at e = cc
fault_named (Mark t) at e = cc
fault_named Finish at e = cc
fault_named Bad_byte at e = cc
fault_named Open_quote at e = cc

pub every_text : (bytes : List ℕ) → HasReading bytes
every_text bytes = ⊎_elim
    (λ (r : AllRead (view most_open) (pieces bytes)). inl (r.0, is_read bytes (pieces bytes) refl r.0 r.1))
    (λ (s : Stopped (view most_open) (pieces bytes)). inr (by s.0 s.1 s.2 s.3)) (view_decided most_open (pieces bytes) (pieces_ended bytes))
  where
    by : (deep : Bool) (first : Piece) (others : List Piece) → (view most_open).stops deep (pieces bytes) (first ∷ others) → (f : ParseFault) × (f ≢ fault.NoMemory) × IsRefused bytes f
    by false first others s = (fault_at first, fault_named first.says first.at, refused bytes (pieces bytes) refl (first ∷ others) (fault_at first) s refl)
    by true first others s = (fault.TooDeep first.at, (λ e. cc), refused_too_deep bytes (pieces bytes) refl (first ∷ others) first.at s refl)
