-- The laws of the grammar of a view text.
use Rattle.std.proofs.Common.{◌≡◌, ◌-◌, ◌<◌, arith, ℕ, zero, suc, Bool, true, false, [], Option, Some, None, refl, ap}
use Rattle.std.specs.Prelude.{if◌then◌else◌, codes}
use Rattle.ss_text.specs.Texts.{Text}
use Rattle.view_def.specs.declared.written.Name.{Name}
use Rattle.view_def.specs.declared.written.Op.TheVariants as op
use Rattle.view_def.specs.declared.written.RawTerm.TheVariants as term
use Rattle.view_def.specs.declared.written.RawRange.{RawRange}
use Rattle.view_def.specs.declared.written.RawRange.TheVariants as range
use Rattle.view_def.specs.RawConditions.{Raw, NotRaw, CompareRaw}
use Rattle.ss_lexer.specs.Lexemes.{Lexeme, Ident, Key, Literal, Mark, Finish, Piece}
use Rattle.ss_parser.specs.Phrases.{Phrase, gives, ◌>>=◌, by_next, listed, limit}
use Rattle.ss_parser.specs.Terms.{just, key, sign, is_key, is_sign, an_ident, ident, a_name, name, some, a_literal, literal, dotted, ident_term, is_ident, a_term}
use Rattle.ss_parser.specs.Declarations.{decl_of, var, arrow_var, column_var, cell_var, in_relation, in_database, behind_name, named, decl}
use Rattle.ss_parser.specs.Conditions.{an_operator, operator, comparison, any_of, all_of, all, any, negation, group, starts_term, opens, inside, nested, unit}
use Rattle.ss_parser.specs.Views.{head_of, columns, target, header, selection, declarations, is_finish, finish, closed, end, filtered, unfiltered, ending, tree_with, view}
use Rattle.ss_parser.proofs.PhraseLaws.{Laws, always, after_list, token_laws, then_laws, list_laws, mapped_laws, by_next_laws, limited_laws, maybe_laws, narrower}

-- a piece to begin with, at no place that matters
abbrev pub piece : Lexeme → Piece
piece l = record { says = l; at = 0 }

abbrev pub word : Piece
word = piece (Ident (codes "x"))

abbrev pub the_key : Text → Piece
the_key k = piece (Key k)

abbrev pub the_sign : Text → Piece
the_sign s = piece (Mark s)

abbrev pub the_literal : Piece
the_literal = piece (Literal [])

pub just_laws : (test : Piece → Bool) (sample : Piece) → test sample ≡ true → Laws (just test) always sample
just_laws test sample e = token_laws (λ p. if test p then Some tt else None) sample tt (ap (λ b. if b then Some tt else None) e)

-- a given piece, and then a phrase
module _ {A : Type 0} (test : Piece → Bool) (sample next_sample : Piece) (e : test sample ≡ true) (p : Phrase Piece A) (ok : Option Piece → Bool) (l : Laws p ok next_sample) where
  pub behind : Laws (just test >>= λ _. p) ok sample
  behind = then_laws (just test) (λ _. p) always ok sample next_sample (just_laws test sample e) (λ _. l) refl

pub ident_laws : Laws ident always word
ident_laws = token_laws (λ p. an_ident p.says) word (codes "x") refl

pub name_laws : Laws name always word
name_laws = token_laws (λ p. a_name p.says) word (record { text = codes "x"; quoted = false }) refl

-- terms
pub dotted_laws : (x : Text) → Laws (dotted x) always (the_sign (codes "."))
dotted_laws x = behind (is_sign (codes ".")) (the_sign (codes ".")) word refl (name >>= λ a. gives (term.Dot x a)) always (mapped_laws name (λ a. term.Dot x a) always word name_laws)

-- what may follow a term
abbrev pub after_term : Option Piece → Bool
after_term = after_list (is_sign (codes ".")) always

pub ident_term_laws : Laws ident_term after_term word
ident_term_laws = maybe_laws ident (is_sign (codes ".")) dotted (λ x. term.Lone x) word (the_sign (codes ".")) ident_laws dotted_laws

pub literal_laws : Laws literal always the_literal
literal_laws = token_laws (λ p. a_literal p.says) the_literal (term.Literal []) refl

pub a_term_laws : Laws a_term after_term word
a_term_laws = by_next_laws is_ident ident_term literal after_term word the_literal ident_term_laws (narrower literal always after_term the_literal (λ o h. refl) literal_laws) refl

-- conditions
pub operator_laws : Laws operator always (the_sign (codes "="))
operator_laws = token_laws (λ p. an_operator p.says) (the_sign (codes "=")) op.Eq refl

pub comparison_laws : Laws comparison after_term word
comparison_laws =
    then_laws a_term (λ s. operator >>= λ o. a_term >>= λ t. gives (CompareRaw s o t)) after_term after_term word (the_sign (codes "=")) a_term_laws (λ s.
    then_laws operator (λ o. a_term >>= λ t. gives (CompareRaw s o t)) always after_term (the_sign (codes "=")) word operator_laws (λ o.
    mapped_laws a_term (λ t. CompareRaw s o t) after_term word a_term_laws) refl) refl

-- what may follow what AND joins, and what OR joins
abbrev pub after_all : Option Piece → Bool
after_all = after_list (is_key (codes "and")) after_term

abbrev pub after_any : Option Piece → Bool
after_any = after_list (is_key (codes "or")) after_all

module _ (u : Phrase Piece Raw) (l : Laws u after_term word) where
  pub all_laws : Laws (all u) after_all word
  all_laws = mapped_laws (listed (is_key (codes "and")) u) all_of after_all word (list_laws (is_key (codes "and")) u after_term word l)

  pub any_laws : Laws (any u) after_any word
  any_laws = mapped_laws (listed (is_key (codes "or")) (all u)) any_of after_any word (list_laws (is_key (codes "or")) (all u) after_all word all_laws)

  pub negation_laws : Laws (negation u) after_term (the_key (codes "not"))
  negation_laws = behind (is_key (codes "not")) (the_key (codes "not")) word refl (u >>= λ c. gives (NotRaw c)) after_term (mapped_laws u (λ c. NotRaw c) after_term word l)

  pub close_laws : (c : Raw) → Laws (sign (codes ")") >>= λ _. gives c) always (the_sign (codes ")"))
  close_laws c = mapped_laws (sign (codes ")")) (λ _. c) always (the_sign (codes ")")) (just_laws (is_sign (codes ")")) (the_sign (codes ")")) refl)

  pub group_laws : Laws (group u) after_term (the_sign (codes "("))
  group_laws =
      narrower (group u) always after_term (the_sign (codes "(")) (λ o h. refl)
      (behind (is_sign (codes "(")) (the_sign (codes "(")) word refl (any u >>= λ c. sign (codes ")") >>= λ _. gives c) always
      (then_laws (any u) (λ c. sign (codes ")") >>= λ _. gives c) after_any always word (the_sign (codes ")")) any_laws close_laws refl))

  pub inside_laws : Laws (inside u) after_term (the_key (codes "not"))
  inside_laws = by_next_laws (is_key (codes "not")) (negation u) (group u) after_term (the_key (codes "not")) (the_sign (codes "(")) negation_laws group_laws refl

pub unit_laws : (levels : ℕ) → Laws (unit levels) after_term word
unfolding unit
unit_laws zero = limited_laws starts_term opens comparison after_term word comparison_laws refl
unit_laws (suc levels) = by_next_laws starts_term comparison (inside (unit levels)) after_term word (the_key (codes "not")) comparison_laws (inside_laws (unit levels) (unit_laws levels)) refl

-- where none may be open, and where one less may be open inside
pub unit_zero : (levels : ℕ) → levels ≡ 0 → unit levels ≡ by_next starts_term comparison (limit opens)
unfolding unit
unit_zero zero h = refl
unit_zero (suc levels) h = absurd (omega arith)

pub unit_inside : (levels : ℕ) → 0 < levels → unit levels ≡ nested (unit (levels - 1))
unfolding unit
unit_inside zero h = absurd (omega arith)
unit_inside (suc levels) h = let e : levels ≡ suc levels - 1 = omega arith in ap (λ n. nested (unit n)) e

-- declarations
pub var_laws : (r : RawRange) → Laws (var r) always word
var_laws r = mapped_laws ident (λ x. decl_of r x) always word ident_laws

pub arrow_laws : (r : RawRange) → Laws (arrow_var r) always (the_sign (codes "->"))
arrow_laws r = behind (is_sign (codes "->")) (the_sign (codes "->")) word refl (var r) always (var_laws r)

pub column_laws : (n m : Name) → Laws (column_var n m) always (the_sign (codes "."))
column_laws n m =
    behind (is_sign (codes ".")) (the_sign (codes ".")) word refl (name >>= λ a. var (range.Values n m a)) always
    (then_laws name (λ a. var (range.Values n m a)) always always word word name_laws (λ a. var_laws (range.Values n m a)) refl)

pub cell_laws : (t : Text) → Laws (cell_var t) always (the_sign (codes "."))
cell_laws t =
    behind (is_sign (codes ".")) (the_sign (codes ".")) word refl (name >>= λ a. var (range.Alias t a)) always
    (then_laws name (λ a. var (range.Alias t a)) always always word word name_laws (λ a. var_laws (range.Alias t a)) refl)

pub in_relation_laws : (n m : Name) → Laws (in_relation n m) always (the_sign (codes "->"))
in_relation_laws n m =
    by_next_laws (is_sign (codes "->")) (arrow_var (range.Attributes n m)) (by_next (is_sign (codes ".")) (column_var n m) (var (range.Tuples n m))) always (the_sign (codes "->")) (the_sign (codes ".")) (arrow_laws (range.Attributes n m))
    (by_next_laws (is_sign (codes ".")) (column_var n m) (var (range.Tuples n m)) always (the_sign (codes ".")) word (column_laws n m) (var_laws (range.Tuples n m)) refl) refl

pub in_database_laws : (n : Name) → Laws (in_database n) always (the_sign (codes "::"))
in_database_laws n =
    behind (is_sign (codes "::")) (the_sign (codes "::")) word refl (name >>= λ m. in_relation n m) always
    (then_laws name (λ m. in_relation n m) always always word (the_sign (codes "->")) name_laws (λ m. in_relation_laws n m) refl)

pub behind_sample : Bool → Piece
behind_sample true = the_sign (codes "::")
behind_sample false = the_sign (codes ".")

pub behind_name_laws : (b : Bool) (n : Name) → Laws (behind_name b n) always (behind_sample b)
unfolding behind_sample
behind_name_laws true n = in_database_laws n
behind_name_laws false n = by_next_laws (is_sign (codes ".")) (cell_var n.text) (in_database n) always (the_sign (codes ".")) (the_sign (codes "::")) (cell_laws n.text) (in_database_laws n) refl

pub named_laws : Laws named always word
named_laws =
    then_laws name (λ n. by_next (is_sign (codes "->")) (arrow_var (range.Relations n)) (behind_name n.quoted n)) always always word (the_sign (codes "->")) name_laws (λ n.
    by_next_laws (is_sign (codes "->")) (arrow_var (range.Relations n)) (behind_name n.quoted n) always (the_sign (codes "->")) (behind_sample n.quoted) (arrow_laws (range.Relations n)) (behind_name_laws n.quoted n) refl) refl

pub decl_laws : Laws decl always (the_sign (codes "->"))
decl_laws = by_next_laws (is_sign (codes "->")) (arrow_var range.Databases) named always (the_sign (codes "->")) word (arrow_laws range.Databases) named_laws refl

-- lists between commas
abbrev pub after_comma : (Option Piece → Bool) → Option Piece → Bool
after_comma ok = after_list (is_sign (codes ",")) ok

pub some_laws : {A : Type 0} (p : Phrase Piece A) (ok : Option Piece → Bool) (sample : Piece) → Laws p ok sample → Laws (some p) (after_comma ok) sample
some_laws p ok sample l = list_laws (is_sign (codes ",")) p ok sample l

-- the header
pub columns_laws : Laws columns always (the_sign (codes "("))
columns_laws =
    behind (is_sign (codes "(")) (the_sign (codes "(")) word refl (some name >>= λ cs. sign (codes ")") >>= λ _. gives cs) always
    (then_laws (some name) (λ cs. sign (codes ")") >>= λ _. gives cs) (after_comma always) always word (the_sign (codes ")")) (some_laws name always word name_laws) (λ cs.
    mapped_laws (sign (codes ")")) (λ _. cs) always (the_sign (codes ")")) (just_laws (is_sign (codes ")")) (the_sign (codes ")")) refl)) refl)

pub target_laws : Laws target always word
target_laws =
    then_laws name (λ db. sign (codes "::") >>= λ _. name >>= λ label. columns >>= λ cs. gives (head_of db label cs)) always always word (the_sign (codes "::")) name_laws (λ db.
    behind (is_sign (codes "::")) (the_sign (codes "::")) word refl (name >>= λ label. columns >>= λ cs. gives (head_of db label cs)) always
    (then_laws name (λ label. columns >>= λ cs. gives (head_of db label cs)) always always word (the_sign (codes "(")) name_laws (λ label.
    mapped_laws columns (λ cs. head_of db label cs) always (the_sign (codes "(")) columns_laws) refl)) refl

pub header_laws : Laws header always (the_key (codes "create"))
header_laws =
    behind (is_key (codes "create")) (the_key (codes "create")) (the_key (codes "view")) refl (key (codes "view") >>= λ _. target >>= λ h. key (codes "as") >>= λ _. gives h) always
    (behind (is_key (codes "view")) (the_key (codes "view")) word refl (target >>= λ h. key (codes "as") >>= λ _. gives h) always
    (then_laws target (λ h. key (codes "as") >>= λ _. gives h) always always word (the_key (codes "as")) target_laws (λ h.
    mapped_laws (key (codes "as")) (λ _. h) always (the_key (codes "as")) (just_laws (is_key (codes "as")) (the_key (codes "as")) refl)) refl))

pub selection_laws : Laws selection (after_comma after_term) (the_key (codes "select"))
selection_laws = behind (is_key (codes "select")) (the_key (codes "select")) word refl (some a_term) (after_comma after_term) (some_laws a_term after_term word a_term_laws)

pub declarations_laws : Laws declarations (after_comma always) (the_key (codes "from"))
declarations_laws = behind (is_key (codes "from")) (the_key (codes "from")) (the_sign (codes "->")) refl (some decl) (after_comma always) (some_laws decl always (the_sign (codes "->")) decl_laws)

-- the end
pub finish_laws : Laws finish always (piece Finish)
finish_laws = just_laws is_finish (piece Finish) refl

pub closed_laws : Laws closed always (the_sign (codes ";"))
closed_laws = behind (is_sign (codes ";")) (the_sign (codes ";")) (piece Finish) refl finish always finish_laws

pub end_laws : Laws end always (the_sign (codes ";"))
end_laws = by_next_laws (is_sign (codes ";")) closed finish always (the_sign (codes ";")) (piece Finish) closed_laws finish_laws refl

pub unfiltered_laws : Laws unfiltered always (the_sign (codes ";"))
unfiltered_laws = mapped_laws end (λ _. None) always (the_sign (codes ";")) end_laws

module _ (levels : ℕ) where
  pub filtered_laws : Laws (filtered levels) always (the_key (codes "where"))
  filtered_laws =
      behind (is_key (codes "where")) (the_key (codes "where")) word refl (any (unit levels) >>= λ c. end >>= λ _. gives (Some c)) always
      (then_laws (any (unit levels)) (λ c. end >>= λ _. gives (Some c)) after_any always word (the_sign (codes ";")) (any_laws (unit levels) (unit_laws levels)) (λ c.
      mapped_laws end (λ _. Some c) always (the_sign (codes ";")) end_laws) refl)

  pub ending_laws : Laws (ending levels) always (the_key (codes "where"))
  ending_laws = by_next_laws (is_key (codes "where")) (filtered levels) unfiltered always (the_key (codes "where")) (the_sign (codes ";")) filtered_laws unfiltered_laws refl

  pub view_laws : Laws (view levels) always (the_key (codes "create"))
  view_laws =
      then_laws header (λ h. selection >>= λ select. declarations >>= λ decls. ending levels >>= λ c. gives (tree_with h select decls c)) always always (the_key (codes "create")) (the_key (codes "select")) header_laws (λ h.
      then_laws selection (λ select. declarations >>= λ decls. ending levels >>= λ c. gives (tree_with h select decls c)) (after_comma after_term) always (the_key (codes "select")) (the_key (codes "from")) selection_laws (λ select.
      then_laws declarations (λ decls. ending levels >>= λ c. gives (tree_with h select decls c)) (after_comma always) always (the_key (codes "from")) (the_key (codes "where")) declarations_laws (λ decls.
      mapped_laws (ending levels) (λ c. tree_with h select decls c) always (the_key (codes "where")) ending_laws) refl) refl) refl
