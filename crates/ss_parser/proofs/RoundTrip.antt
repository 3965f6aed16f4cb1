-- The canonical text of a tree that is read from a text is read as that tree.
use Rattle.std.proofs.Common.{◌≡◌, ℕ, zero, suc, Bool, true, false, List, [], ◌∷◌, ◌++◌, map, Option, Some, None, refl, sym, ap, ◌∙◌, subst, append_assoc}
use Rattle.std.specs.Prelude.{MatchBool, IfSome, codes, flat_map, if◌then◌else◌}
use Rattle.std.specs.List.{join_by}
use Rattle.ss_text.specs.Texts.{Text}
use Rattle.view_def.specs.declared.written.Name.{Name}
use Rattle.view_def.specs.declared.written.Op.{Op}
use Rattle.view_def.specs.declared.written.Op.TheVariants as op
use Rattle.view_def.specs.declared.written.RawTerm.{RawTerm}
use Rattle.view_def.specs.declared.written.RawTerm.TheVariants as term
use Rattle.view_def.specs.declared.written.RawRange.{RawRange}
use Rattle.view_def.specs.declared.written.RawRange.TheVariants as range
use Rattle.view_def.specs.declared.written.RawDecl.{RawDecl}
use Rattle.view_def.specs.RawConditions.{Raw, AnyRaw, AllRaw, NotRaw, CompareRaw, Raws, none, more, raws}
use Rattle.view_def.specs.Tree.{ViewTree}
use Rattle.view_def.specs.Print.{in_quotes, name_text, term_text, declaration_text, operator_text, comparison_text, is_any, is_joined, in_parentheses, condition_text, member_texts, filter_text, print}
use Rattle.ss_lexer.specs.declared.token.Kind.TheVariants as kind
use Rattle.ss_lexer.specs.Tokens.{answer}
use Rattle.ss_lexer.specs.Lexemes.{Lexeme, Ident, Key, Quoted, Literal, Mark, Finish, Piece, word, pieces}
use Rattle.ss_lexer.proofs.Chunks.{IsWord, Lexes, breaks, says_all, says_end, append_none, both, blank, one_token, before_space, word_says, quoted_says, literal_says}
use Rattle.ss_parser.specs.Phrases.{Phrase, gives, ◌>>=◌, by_next, listed, limit}
use Rattle.ss_parser.specs.Terms.{just, key, sign, is_key, is_sign, an_ident, ident, a_name, name, some, a_literal, literal, dotted, ident_term, is_ident, a_term}
use Rattle.ss_parser.specs.Declarations.{decl_of, var, arrow_var, column_var, cell_var, in_relation, in_database, behind_name, named, decl}
use Rattle.ss_parser.specs.Conditions.{an_operator, operator, comparison, any_of, all_of, all, any, negation, group, starts_term, opens, inside, unit}
use Rattle.ss_parser.specs.Views.{head_of, columns, target, header, selection, declarations, says_finish, finish, closed, end, filtered, unfiltered, ending, tree_with, view, most_open}
use Rattle.ss_parser.specs.Refused.{AreView, IsRead}
use Rattle.ss_parser.proofs.PhraseLaws.{always, no_comma}
use Rattle.ss_parser.proofs.ViewLaws.{after_term, after_all, after_any, after_comma}
use Rattle.ss_parser.proofs.Printable.{IsIdent, GoodName, GoodTerm, GoodRange, GoodDecl, Each, SomeEach, Inside, Two, Bare, Members, GoodTree}
use Rattle.ss_parser.proofs.Kept.{good_tree}
use Rattle.ss_parser.proofs.Printed.{Say, Prints, Printed, EachPrinted, PrintsAll, one_prints, just_prints, then_prints, mapped_prints, first_prints, second_prints, spaced, before_blank, needing_prints, less_prints, same_text, list_prints, then_prints_all, mapped_prints_all, first_prints_all, second_prints_all, pieces_say}

-- keywords and signs
key_prints : (k w : Text) → IsWord w → word w ≡ Key k → ((p : Piece) → p.says ≡ Key k → is_key k p ≡ true) → Prints (key k) always tt false (w ++ 32 ∷ []) (Key k)
key_prints k w h e fits = before_blank (key k) always tt true w (Key k) (just_prints (is_key k) true w (Key k) (subst (λ l. Lexes true w (l ∷ [])) e (word_says w h)) fits)

create_prints : Prints (key (codes "create")) always tt false (codes "CREATE ") (Key (codes "create"))
create_prints = key_prints (codes "create") (codes "CREATE") (record { letter = refl; whole = refl }) refl (λ p e. rw e refl)

view_prints : Prints (key (codes "view")) always tt false (codes "VIEW ") (Key (codes "view"))
view_prints = key_prints (codes "view") (codes "VIEW") (record { letter = refl; whole = refl }) refl (λ p e. rw e refl)

as_prints : Prints (key (codes "as")) always tt false (codes "AS ") (Key (codes "as"))
as_prints = key_prints (codes "as") (codes "AS") (record { letter = refl; whole = refl }) refl (λ p e. rw e refl)

select_prints : Prints (key (codes "select")) always tt false (codes "SELECT ") (Key (codes "select"))
select_prints = key_prints (codes "select") (codes "SELECT") (record { letter = refl; whole = refl }) refl (λ p e. rw e refl)

from_prints : Prints (key (codes "from")) always tt false (codes "FROM ") (Key (codes "from"))
from_prints = key_prints (codes "from") (codes "FROM") (record { letter = refl; whole = refl }) refl (λ p e. rw e refl)

where_prints : Prints (key (codes "where")) always tt false (codes "WHERE ") (Key (codes "where"))
where_prints = key_prints (codes "where") (codes "WHERE") (record { letter = refl; whole = refl }) refl (λ p e. rw e refl)

not_prints : Prints (key (codes "not")) always tt false (codes "NOT ") (Key (codes "not"))
not_prints = key_prints (codes "not") (codes "NOT") (record { letter = refl; whole = refl }) refl (λ p e. rw e refl)

open_says : Lexes false (codes "(") (Mark (codes "(") ∷ [])
unfolding answer
open_says = one_token false 40 [] kind.Sign refl refl (λ at r _. refl)

close_says : Lexes false (codes ")") (Mark (codes ")") ∷ [])
unfolding answer
close_says = one_token false 41 [] kind.Sign refl refl (λ at r _. refl)

dot_says : Lexes false (codes ".") (Mark (codes ".") ∷ [])
unfolding answer
dot_says = one_token false 46 [] kind.Sign refl refl (λ at r _. refl)

comma_says : Lexes false (codes ",") (Mark (codes ",") ∷ [])
unfolding answer
comma_says = one_token false 44 [] kind.Sign refl refl (λ at r _. refl)

colons_says : Lexes false (codes "::") (Mark (codes "::") ∷ [])
unfolding answer
colons_says = one_token false 58 (58 ∷ []) kind.Sign refl refl (λ at r _. refl)

arrow_says : Lexes false (codes "->") (Mark (codes "->") ∷ [])
unfolding answer
arrow_says = one_token false 45 (62 ∷ []) kind.Sign refl refl (λ at r _. refl)

open_prints : Prints (sign (codes "(")) always tt false (codes "(") (Mark (codes "("))
open_prints = just_prints (is_sign (codes "(")) false (codes "(") (Mark (codes "(")) open_says (λ p e. rw e refl)

close_prints : Prints (sign (codes ")")) always tt false (codes ")") (Mark (codes ")"))
close_prints = just_prints (is_sign (codes ")")) false (codes ")") (Mark (codes ")")) close_says (λ p e. rw e refl)

dot_prints : Prints (sign (codes ".")) always tt false (codes ".") (Mark (codes "."))
dot_prints = just_prints (is_sign (codes ".")) false (codes ".") (Mark (codes ".")) dot_says (λ p e. rw e refl)

colons_prints : Prints (sign (codes "::")) always tt false (codes "::") (Mark (codes "::"))
colons_prints = just_prints (is_sign (codes "::")) false (codes "::") (Mark (codes "::")) colons_says (λ p e. rw e refl)

arrow_prints : Prints (sign (codes "->")) always tt false (codes "->") (Mark (codes "->"))
arrow_prints = just_prints (is_sign (codes "->")) false (codes "->") (Mark (codes "->")) arrow_says (λ p e. rw e refl)

-- a sign, and then a phrase
module _ {A : Type 0} (s : Text) (q : Phrase Piece A) (ok : Option Piece → Bool) (y : A) (m : Bool) (w v : Text) (l k : Lexeme) (a : Prints (just (is_sign s)) always tt false w l) (b : Prints q ok y m v k) where
  behind_sign : Prints (just (is_sign s) >>= λ _. q) ok y m (w ++ v) l
  behind_sign = then_prints (just (is_sign s)) (λ _. q) always ok tt y false m w v l k a b (λ _ _. refl) (λ e. absurd (cc))

module _ {A : Type 0} (s : Text) (q : Phrase Piece A) (ok : Option Piece → Bool) (y : A) (m : Bool) (w v : Text) (l k : Lexeme) (a : Prints (just (is_key s)) always tt false w l) (b : Prints q ok y m v k) where
  behind_key : Prints (just (is_key s) >>= λ _. q) ok y m (w ++ v) l
  behind_key = then_prints (just (is_key s)) (λ _. q) always ok tt y false m w v l k a b (λ _ _. refl) (λ e. absurd (cc))

-- names
word_is : (w : Text) → IsIdent w → word w ≡ Ident w
word_is w h = rw h.1 refl

ident_says : (w : Text) → IsIdent w → Lexes true w (Ident w ∷ [])
ident_says w h = subst (λ l. Lexes true w (l ∷ [])) (word_is w h) (word_says w h.0)

ident_prints : (w : Text) → IsIdent w → Prints ident always w true w (Ident w)
ident_prints w h = one_prints an_ident w true w (Ident w) (ident_says w h) refl

abbrev name_first : Bool → Text → Lexeme
name_first q t = if q then Quoted t else Ident t

name_by : (q : Bool) (t : Text) → MatchBool q (Unit {0}) (IsIdent t) → Prints name always (record { text = t; quoted = q }) true (if q then in_quotes 34 t else t) (name_first q t)
name_by true t h = one_prints a_name (record { text = t; quoted = true }) true (in_quotes 34 t) (Quoted t) (quoted_says t) refl
name_by false t h = one_prints a_name (record { text = t; quoted = false }) true t (Ident t) (ident_says t h) refl

name_prints : (n : Name) → GoodName n → Prints name always n true (name_text n) (name_first n.quoted n.text)
name_prints n h = name_by n.quoted n.text h

-- terms
abbrev term_first : RawTerm → Lexeme
term_first (term.Lone x) = Ident x
term_first (term.Dot x a) = Ident x
term_first (term.Literal t) = Literal t

lone_prints : (x : Text) → IsIdent x → Prints ident_term after_term (term.Lone x) true x (Ident x)
lone_prints x k =
    let a = ident_prints x k in
    record {
      others = a.others;
      lexes = a.lexes;
      reads = λ ps rest s h. (x, rest, a.reads ps rest s refl, subst (λ b. MatchBool b ((dotted x).reads rest (term.Lone x) rest) ((term.Lone x ≡ term.Lone x) × (rest ≡ rest))) (sym (no_comma _ _ h).0) (refl, refl));
    }

dot_term_prints : (x : Text) (a : Name) → IsIdent x → GoodName a → Prints ident_term always (term.Dot x a) true (x ++ (codes "." ++ name_text a)) (Ident x)
dot_term_prints x a h k =
    then_prints ident (λ y. by_next (is_sign (codes ".")) (dotted y) (gives (term.Lone y))) always always x (term.Dot x a) true true x (codes "." ++ name_text a) (Ident x) (Mark (codes ".")) (ident_prints x h)
    (first_prints (is_sign (codes ".")) (dotted x) (gives (term.Lone x)) always (term.Dot x a) true (codes "." ++ name_text a) (Mark (codes "."))
    (behind_sign (codes ".") (name >>= λ b. gives (term.Dot x b)) always (term.Dot x a) true (codes ".") (name_text a) (Mark (codes ".")) (name_first a.quoted a.text) dot_prints
    (mapped_prints name (λ b. term.Dot x b) always a true (name_text a) (name_first a.quoted a.text) (name_prints a k))) (λ p e. rw e refl)) (λ _ _. refl) (λ _. refl)

term_prints : (t : RawTerm) → GoodTerm t → Prints a_term after_term t true (term_text t) (term_first t)
term_prints (term.Lone x) h = first_prints is_ident ident_term literal after_term (term.Lone x) true x (Ident x) (lone_prints x h) (λ p e. rw e refl)
term_prints (term.Dot x a) h =
    same_text a_term after_term (term.Dot x a) true (x ++ (codes "." ++ name_text a)) ((x ++ codes ".") ++ name_text a) (Ident x) (sym (append_assoc x (codes ".") (name_text a)))
    (first_prints is_ident ident_term literal after_term (term.Dot x a) true (x ++ (codes "." ++ name_text a)) (Ident x)
    (less_prints ident_term always after_term (term.Dot x a) true (x ++ (codes "." ++ name_text a)) (Ident x) (λ o e. refl) (dot_term_prints x a h.0 h.1)) (λ p e. rw e refl))
term_prints (term.Literal t) h =
    second_prints is_ident ident_term literal after_term (term.Literal t) true (in_quotes 39 t) (Literal t)
    (less_prints literal always after_term (term.Literal t) true (in_quotes 39 t) (Literal t) (λ o e. refl) (one_prints a_literal (term.Literal t) true (in_quotes 39 t) (Literal t) (literal_says t) refl)) (λ p e. rw e refl)

starts_first : (t : RawTerm) (p : Piece) → p.says ≡ term_first t → starts_term p ≡ true
starts_first (term.Lone x) p e = rw e refl
starts_first (term.Dot x a) p e = rw e refl
starts_first (term.Literal t) p e = rw e refl

-- comparisons
operator_prints : (o : Op) → Prints operator always o false (operator_text o ++ 32 ∷ []) (Mark (operator_text o))
unfolding answer
operator_prints op.Eq = one_prints an_operator op.Eq false (codes "= ") (Mark (codes "=")) (before_space 61 [] kind.Sign refl refl (λ at r. refl)) refl
operator_prints op.Ne = one_prints an_operator op.Ne false (codes "<> ") (Mark (codes "<>")) (before_space 60 (62 ∷ []) kind.Sign refl refl (λ at r. refl)) refl
operator_prints op.Lt = one_prints an_operator op.Lt false (codes "< ") (Mark (codes "<")) (before_space 60 [] kind.Sign refl refl (λ at r. refl)) refl
operator_prints op.Le = one_prints an_operator op.Le false (codes "<= ") (Mark (codes "<=")) (before_space 60 (61 ∷ []) kind.Sign refl refl (λ at r. refl)) refl
operator_prints op.Gt = one_prints an_operator op.Gt false (codes "> ") (Mark (codes ">")) (before_space 62 [] kind.Sign refl refl (λ at r. refl)) refl
operator_prints op.Ge = one_prints an_operator op.Ge false (codes ">= ") (Mark (codes ">=")) (before_space 62 (61 ∷ []) kind.Sign refl refl (λ at r. refl)) refl

operator_fits : (o : Op) (p : Piece) → p.says ≡ Mark (operator_text o) → after_term (Some p) ≡ true
operator_fits op.Eq p e = rw e refl
operator_fits op.Ne p e = rw e refl
operator_fits op.Lt p e = rw e refl
operator_fits op.Le p e = rw e refl
operator_fits op.Gt p e = rw e refl
operator_fits op.Ge p e = rw e refl

spaced_text : (a o b : Text) → a ++ (32 ∷ ((o ++ 32 ∷ []) ++ b)) ≡ (((a ++ codes " ") ++ o) ++ codes " ") ++ b
spaced_text a o b = simp append_assoc

comparison_prints : (s : RawTerm) (o : Op) (t : RawTerm) → GoodTerm s → GoodTerm t → Prints comparison after_term (CompareRaw s o t) true (comparison_text s o t) (term_first s)
comparison_prints s o t h k =
    let v = (operator_text o ++ 32 ∷ []) ++ term_text t in
    same_text comparison after_term (CompareRaw s o t) true (term_text s ++ (32 ∷ v)) (comparison_text s o t) (term_first s) (spaced_text (term_text s) (operator_text o) (term_text t))
    (then_prints a_term (λ s. operator >>= λ o. a_term >>= λ t. gives (CompareRaw s o t)) after_term after_term s (CompareRaw s o t) true true (term_text s) (32 ∷ v) (term_first s) (Mark (operator_text o)) (term_prints s h)
    (spaced (operator >>= λ o. a_term >>= λ t. gives (CompareRaw s o t)) after_term (CompareRaw s o t) true v (Mark (operator_text o))
    (then_prints operator (λ o. a_term >>= λ t. gives (CompareRaw s o t)) always after_term o (CompareRaw s o t) false true (operator_text o ++ 32 ∷ []) (term_text t) (Mark (operator_text o)) (term_first t) (operator_prints o)
    (mapped_prints a_term (λ t. CompareRaw s o t) after_term t true (term_text t) (term_first t) (term_prints t k)) (λ _ _. refl) (λ e. absurd (cc)))) (operator_fits o) (λ _. refl))

-- declarations
var_prints : (r : RawRange) (x : Text) → IsIdent x → Prints (var r) always (decl_of r x) true x (Ident x)
var_prints r x h = mapped_prints ident (λ x. decl_of r x) always x true x (Ident x) (ident_prints x h)

arrow_var_prints : (r : RawRange) (x : Text) → IsIdent x → Prints (arrow_var r) always (decl_of r x) true (codes "->" ++ (32 ∷ x)) (Mark (codes "->"))
arrow_var_prints r x h = behind_sign (codes "->") (var r) always (decl_of r x) true (codes "->") (32 ∷ x) (Mark (codes "->")) (Ident x) arrow_prints (spaced (var r) always (decl_of r x) true x (Ident x) (var_prints r x h))

-- a name, and then a phrase
module _ {A : Type 0} (f : Name → Phrase Piece A) (n : Name) (y : A) (v : Text) (k : Lexeme) (h : GoodName n) (b : Prints (f n) always y true v k) (apart : breaks v ≡ true) where
  behind_name_prints : Prints (name >>= f) always y true (name_text n ++ v) (name_first n.quoted n.text)
  behind_name_prints = then_prints name f always always n y true true (name_text n) v (name_first n.quoted n.text) k (name_prints n h) b (λ _ _. refl) (λ _. apart)

column_var_prints : (n m a : Name) (x : Text) → GoodName a → IsIdent x → Prints (column_var n m) always (decl_of (range.Values n m a) x) true (codes "." ++ (name_text a ++ (32 ∷ x))) (Mark (codes "."))
column_var_prints n m a x h k =
    let d = decl_of (range.Values n m a) x in
    behind_sign (codes ".") (name >>= λ a. var (range.Values n m a)) always d true (codes ".") (name_text a ++ (32 ∷ x)) (Mark (codes ".")) (name_first a.quoted a.text) dot_prints
    (behind_name_prints (λ a. var (range.Values n m a)) a d (32 ∷ x) (Ident x) h (spaced (var (range.Values n m a)) always d true x (Ident x) (var_prints (range.Values n m a) x k)) refl)

cell_var_prints : (t : Text) (a : Name) (x : Text) → GoodName a → IsIdent x → Prints (cell_var t) always (decl_of (range.Alias t a) x) true (codes "." ++ (name_text a ++ (32 ∷ x))) (Mark (codes "."))
cell_var_prints t a x h k =
    let d = decl_of (range.Alias t a) x in
    behind_sign (codes ".") (name >>= λ a. var (range.Alias t a)) always d true (codes ".") (name_text a ++ (32 ∷ x)) (Mark (codes ".")) (name_first a.quoted a.text) dot_prints
    (behind_name_prints (λ a. var (range.Alias t a)) a d (32 ∷ x) (Ident x) h (spaced (var (range.Alias t a)) always d true x (Ident x) (var_prints (range.Alias t a) x k)) refl)

-- a name that "::" follows
module _ (n m : Name) (d : RawDecl) (v : Text) (k : Lexeme) (h : GoodName n) (g : GoodName m) (b : Prints (in_relation n m) always d true v k) (apart : breaks v ≡ true) where
  in_database_prints : Prints (in_database n) always d true (codes "::" ++ (name_text m ++ v)) (Mark (codes "::"))
  in_database_prints =
      behind_sign (codes "::") (name >>= λ m. in_relation n m) always d true (codes "::") (name_text m ++ v) (Mark (codes "::")) (name_first m.quoted m.text) colons_prints
      (behind_name_prints (λ m. in_relation n m) m d v k g b apart)

  behind_by : (q : Bool) → Prints (behind_name q n) always d true (codes "::" ++ (name_text m ++ v)) (Mark (codes "::"))
  behind_by true = in_database_prints
  behind_by false = second_prints (is_sign (codes ".")) (cell_var n.text) (in_database n) always d true (codes "::" ++ (name_text m ++ v)) (Mark (codes "::")) in_database_prints (λ p e. rw e refl)

  named_prints : Prints named always d true (name_text n ++ (codes "::" ++ (name_text m ++ v))) (name_first n.quoted n.text)
  named_prints =
      behind_name_prints (λ n. by_next (is_sign (codes "->")) (arrow_var (range.Relations n)) (behind_name n.quoted n)) n d (codes "::" ++ (name_text m ++ v)) (Mark (codes "::")) h
      (second_prints (is_sign (codes "->")) (arrow_var (range.Relations n)) (behind_name n.quoted n) always d true (codes "::" ++ (name_text m ++ v)) (Mark (codes "::")) (behind_by n.quoted) (λ p e. rw e refl)) refl

no_arrow : (q : Bool) (t : Text) (p : Piece) → p.says ≡ name_first q t → is_sign (codes "->") p ≡ false
no_arrow true t p e = rw e refl
no_arrow false t p e = rw e refl

decl_named : (d : RawDecl) (w : Text) (q : Bool) (t : Text) → Prints named always d true w (name_first q t) → Prints decl always d true w (name_first q t)
decl_named d w q t a = second_prints (is_sign (codes "->")) (arrow_var range.Databases) named always d true w (name_first q t) a (no_arrow q t)

decl_printed : (r : RawRange) (x : Text) → GoodRange r → IsIdent x → Printed decl always (decl_of r x) (declaration_text (decl_of r x))
decl_printed range.Databases x h k =
    (Mark (codes "->"), first_prints (is_sign (codes "->")) (arrow_var range.Databases) named always (decl_of range.Databases x) true (codes "->" ++ (32 ∷ x)) (Mark (codes "->")) (arrow_var_prints range.Databases x k) (λ p e. rw e refl))
decl_printed (range.Relations n) x h k =
    let d = decl_of (range.Relations n) x in
    let v = 32 ∷ (codes "->" ++ (32 ∷ x)) in
    let same : name_text n ++ v ≡ declaration_text d = simp append_assoc in (
      name_first n.quoted n.text,
      same_text decl always d true (name_text n ++ v) (declaration_text d) (name_first n.quoted n.text) same
          (decl_named d (name_text n ++ v) n.quoted n.text
          (behind_name_prints (λ n. by_next (is_sign (codes "->")) (arrow_var (range.Relations n)) (behind_name n.quoted n)) n d v (Mark (codes "->")) h
          (first_prints (is_sign (codes "->")) (arrow_var (range.Relations n)) (behind_name n.quoted n) always d true v (Mark (codes "->"))
          (spaced (arrow_var (range.Relations n)) always d true (codes "->" ++ (32 ∷ x)) (Mark (codes "->")) (arrow_var_prints (range.Relations n) x k)) (λ p e. rw e refl)) refl)),
    )
decl_printed (range.Attributes n m) x h k =
    let r = range.Attributes n m in
    let d = decl_of r x in
    let v = 32 ∷ (codes "->" ++ (32 ∷ x)) in
    let w = name_text n ++ (codes "::" ++ (name_text m ++ v)) in
    let same : w ≡ declaration_text d = simp append_assoc in (
      name_first n.quoted n.text,
      same_text decl always d true w (declaration_text d) (name_first n.quoted n.text) same
          (decl_named d w n.quoted n.text
          (named_prints n m d v (Mark (codes "->")) h.0 h.1
          (first_prints (is_sign (codes "->")) (arrow_var r) (by_next (is_sign (codes ".")) (column_var n m) (var (range.Tuples n m))) always d true v (Mark (codes "->"))
          (spaced (arrow_var r) always d true (codes "->" ++ (32 ∷ x)) (Mark (codes "->")) (arrow_var_prints r x k)) (λ p e. rw e refl)) refl)),
    )
decl_printed (range.Tuples n m) x h k =
    let r = range.Tuples n m in
    let d = decl_of r x in
    let w = name_text n ++ (codes "::" ++ (name_text m ++ (32 ∷ x))) in
    let same : w ≡ declaration_text d = simp append_assoc in (
      name_first n.quoted n.text,
      same_text decl always d true w (declaration_text d) (name_first n.quoted n.text) same
          (decl_named d w n.quoted n.text
          (named_prints n m d (32 ∷ x) (Ident x) h.0 h.1
          (second_prints (is_sign (codes "->")) (arrow_var (range.Attributes n m)) (by_next (is_sign (codes ".")) (column_var n m) (var r)) always d true (32 ∷ x) (Ident x)
          (second_prints (is_sign (codes ".")) (column_var n m) (var r) always d true (32 ∷ x) (Ident x)
          (spaced (var r) always d true x (Ident x) (var_prints r x k)) (λ p e. rw e refl)) (λ p e. rw e refl)) refl)),
    )
decl_printed (range.Values n m a) x h k =
    let r = range.Values n m a in
    let d = decl_of r x in
    let v = codes "." ++ (name_text a ++ (32 ∷ x)) in
    let w = name_text n ++ (codes "::" ++ (name_text m ++ v)) in
    let same : w ≡ declaration_text d = simp append_assoc in (
      name_first n.quoted n.text,
      same_text decl always d true w (declaration_text d) (name_first n.quoted n.text) same
          (decl_named d w n.quoted n.text
          (named_prints n m d v (Mark (codes ".")) h.0 h.1
          (second_prints (is_sign (codes "->")) (arrow_var (range.Attributes n m)) (by_next (is_sign (codes ".")) (column_var n m) (var (range.Tuples n m))) always d true v (Mark (codes "."))
          (first_prints (is_sign (codes ".")) (column_var n m) (var (range.Tuples n m)) always d true v (Mark (codes ".")) (column_var_prints n m a x h.2 k) (λ p e. rw e refl)) (λ p e. rw e refl)) refl)),
    )
decl_printed (range.Alias t a) x h k =
    let r = range.Alias t a in
    let d = decl_of r x in
    let n : Name = record { text = t; quoted = false } in
    let v = codes "." ++ (name_text a ++ (32 ∷ x)) in
    let w = t ++ v in
    let same : w ≡ declaration_text d = simp append_assoc in (
      Ident t,
      same_text decl always d true w (declaration_text d) (Ident t) same
          (decl_named d w false t
          (behind_name_prints (λ n. by_next (is_sign (codes "->")) (arrow_var (range.Relations n)) (behind_name n.quoted n)) n d v (Mark (codes ".")) h.0
          (second_prints (is_sign (codes "->")) (arrow_var (range.Relations n)) (behind_name false n) always d true v (Mark (codes "."))
          (first_prints (is_sign (codes ".")) (cell_var t) (in_database n) always d true v (Mark (codes ".")) (cell_var_prints t a x h.1 k) (λ p e. rw e refl)) (λ p e. rw e refl)) refl)),
    )

-- lists between commas
join_texts : {A : Type 0} (f : A → Text) (sep : Text) (xs : List A) → flat_map (λ v. sep ++ v) (map f xs) ≡ flat_map (λ y. sep ++ f y) xs
join_texts f sep [] = refl
join_texts f sep (x ∷ xs) = ap (λ t. (sep ++ f x) ++ t) (join_texts f sep xs)

each_printed : {A : Type 0} (p : Phrase Piece A) (ok : Option Piece → Bool) (f : A → Text) (G : A → Type 0) → ((x : A) → G x → Printed p ok x (f x)) → (xs : List A) → Each G xs → EachPrinted p ok xs (map f xs)
each_printed p ok f G h [] e = tt
each_printed p ok f G h (x ∷ xs) e = (h x e.0, each_printed p ok f G h xs e.1)

comma_space : Lexes false (codes ", ") (Mark (codes ",") ∷ [])
comma_space = both false false (codes ",") (codes " ") (Mark (codes ",") ∷ []) [] comma_says (blank 32 refl) (λ e. absurd (cc))

some_printed : {A : Type 0} (p : Phrase Piece A) (ok : Option Piece → Bool) (f : A → Text) (G : A → Type 0) → ((x : A) → G x → Printed p ok x (f x)) → ((pc : Piece) → pc.says ≡ Mark (codes ",") → ok (Some pc) ≡ true) → (xs : List A) → SomeEach G xs → Printed (some p) (after_comma ok) xs (join_by f (codes ", ") xs)
some_printed p ok f G h fits [] e = absurd e
some_printed p ok f G h fits (x ∷ xs) e =
    let a = h x e.0 in (
      a.0,
      same_text (some p) (after_comma ok) (x ∷ xs) true (f x ++ flat_map (λ v. codes ", " ++ v) (map f xs)) (f x ++ flat_map (λ y. codes ", " ++ f y) xs) a.0 (ap (λ t. f x ++ t) (join_texts f (codes ", ") xs))
          (list_prints p ok (is_sign (codes ",")) (codes ", ") (Mark (codes ",")) comma_space refl (λ pc k. rw k refl) fits x xs (f x) (map f xs) a.0 a.1 (each_printed p ok f G h xs e.1)),
    )

names_printed : (ns : List Name) → SomeEach GoodName ns → Printed (some name) (after_comma always) ns (join_by name_text (codes ", ") ns)
names_printed = some_printed name always name_text GoodName (λ n h. (name_first n.quoted n.text, name_prints n h)) (λ pc k. refl)

terms_printed : (ts : List RawTerm) → SomeEach GoodTerm ts → Printed (some a_term) (after_comma after_term) ts (join_by term_text (codes ", ") ts)
terms_printed = some_printed a_term after_term term_text GoodTerm (λ t h. (term_first t, term_prints t h)) (λ pc k. rw k refl)

decls_printed : (ds : List RawDecl) → SomeEach GoodDecl ds → Printed (some decl) (after_comma always) ds (join_by declaration_text (codes ", ") ds)
decls_printed = some_printed decl always declaration_text GoodDecl (λ d h. decl_printed d.range d.var h.0 h.1) (λ pc k. refl)

-- conditions
abbrev list_of : Raws → List Raw
list_of none = []
list_of (more c cs) = c ∷ list_of cs

raws_of : (cs : Raws) → raws (list_of cs) ≡ cs
raws_of none = refl
raws_of (more c cs) = ap (more c) (raws_of cs)

all_is : (cs : Raws) → Two cs → all_of (list_of cs) ≡ AllRaw cs
all_is none h = absurd h
all_is (more c none) h = absurd h
all_is (more c (more d cs)) h = ap AllRaw (raws_of (more c (more d cs)))

any_is : (cs : Raws) → Two cs → any_of (list_of cs) ≡ AnyRaw cs
any_is none h = absurd h
any_is (more c none) h = absurd h
any_is (more c (more d cs)) h = ap AnyRaw (raws_of (more c (more d cs)))

word_sep : (w k : Text) → IsWord w → word w ≡ Key k → Lexes false (32 ∷ (w ++ 32 ∷ [])) (Key k ∷ [])
word_sep w k h e =
    both false false (32 ∷ []) (w ++ 32 ∷ []) [] (Key k ∷ []) (blank 32 refl)
    (both true false w (32 ∷ []) (Key k ∷ []) [] (subst (λ l. Lexes true w (l ∷ [])) e (word_says w h)) (blank 32 refl) (λ _. refl)) (λ e. absurd (cc))

and_sep : Lexes false (codes " AND ") (Key (codes "and") ∷ [])
and_sep = word_sep (codes "AND") (codes "and") (record { letter = refl; whole = refl }) refl

or_sep : Lexes false (codes " OR ") (Key (codes "or") ∷ [])
or_sep = word_sep (codes "OR") (codes "or") (record { letter = refl; whole = refl }) refl

module _ (u : Phrase Piece Raw) where
  all_single : (c : Raw) (w : Text) → Printed u after_term c w → Printed (all u) after_all c w
  all_single c w a = (
    a.0,
    mapped_prints (listed (is_key (codes "and")) u) all_of after_all (c ∷ []) true w a.0
        (same_text (listed (is_key (codes "and")) u) after_all (c ∷ []) true (w ++ []) w a.0 (append_none w)
        (list_prints u after_term (is_key (codes "and")) (codes " AND ") (Key (codes "and")) and_sep refl (λ pc k. rw k refl) (λ pc k. rw k refl) c [] w [] a.0 a.1 tt)),
  )

  any_single : (c : Raw) (w : Text) → Printed (all u) after_all c w → Printed (any u) after_any c w
  any_single c w a = (
    a.0,
    mapped_prints (listed (is_key (codes "or")) (all u)) any_of after_any (c ∷ []) true w a.0
        (same_text (listed (is_key (codes "or")) (all u)) after_any (c ∷ []) true (w ++ []) w a.0 (append_none w)
        (list_prints (all u) after_all (is_key (codes "or")) (codes " OR ") (Key (codes "or")) or_sep refl (λ pc k. rw k refl) (λ pc k. rw k refl) c [] w [] a.0 a.1 tt)),
  )

  all_list : (cs : Raws) → EachPrinted u after_term (list_of cs) (member_texts is_joined cs) → Two cs → Printed (all u) after_all (AllRaw cs) (condition_text (AllRaw cs))
  all_list none e h = absurd h
  all_list (more c cs) e h = (
    e.0.0,
    subst (λ r. Prints (all u) after_all r true (condition_text (AllRaw (more c cs))) e.0.0) (all_is (more c cs) h)
        (mapped_prints (listed (is_key (codes "and")) u) all_of after_all (c ∷ list_of cs) true (condition_text (AllRaw (more c cs))) e.0.0
        (list_prints u after_term (is_key (codes "and")) (codes " AND ") (Key (codes "and")) and_sep refl (λ pc k. rw k refl) (λ pc k. rw k refl) c (list_of cs) (in_parentheses (is_joined c) (condition_text c)) (member_texts is_joined cs) e.0.0 e.0.1 e.1)),
  )

  any_list : (cs : Raws) → EachPrinted (all u) after_all (list_of cs) (member_texts is_any cs) → Two cs → Printed (any u) after_any (AnyRaw cs) (condition_text (AnyRaw cs))
  any_list none e h = absurd h
  any_list (more c cs) e h = (
    e.0.0,
    subst (λ r. Prints (any u) after_any r true (condition_text (AnyRaw (more c cs))) e.0.0) (any_is (more c cs) h)
        (mapped_prints (listed (is_key (codes "or")) (all u)) any_of after_any (c ∷ list_of cs) true (condition_text (AnyRaw (more c cs))) e.0.0
        (list_prints (all u) after_all (is_key (codes "or")) (codes " OR ") (Key (codes "or")) or_sep refl (λ pc k. rw k refl) (λ pc k. rw k refl) c (list_of cs) (in_parentheses (is_any c) (condition_text c)) (member_texts is_any cs) e.0.0 e.0.1 e.1)),
  )

  group_prints : (c : Raw) (w : Text) → Printed (any u) after_any c w → Prints (group u) always c false ((codes "(" ++ w) ++ codes ")") (Mark (codes "("))
  group_prints c w a =
      behind_sign (codes "(") (any u >>= λ c. sign (codes ")") >>= λ _. gives c) always c false (codes "(") (w ++ codes ")") (Mark (codes "(")) a.0 open_prints
      (then_prints (any u) (λ c. sign (codes ")") >>= λ _. gives c) after_any always c c true false w (codes ")") a.0 (Mark (codes ")")) a.1
      (mapped_prints (sign (codes ")")) (λ _. c) always tt false (codes ")") (Mark (codes ")")) close_prints) (λ pc k. rw k refl) (λ _. refl))

unit_comparison : (n : ℕ) (s : RawTerm) (o : Op) (t : RawTerm) → GoodTerm s → GoodTerm t → Printed (unit n) after_term (CompareRaw s o t) (comparison_text s o t)
unfolding unit
unit_comparison zero s o t h k = (term_first s, first_prints starts_term comparison (limit opens) after_term (CompareRaw s o t) true (comparison_text s o t) (term_first s) (comparison_prints s o t h k) (starts_first s))
unit_comparison (suc n) s o t h k = (term_first s, first_prints starts_term comparison (inside (unit n)) after_term (CompareRaw s o t) true (comparison_text s o t) (term_first s) (comparison_prints s o t h k) (starts_first s))

inner_group : (m : ℕ) (c : Raw) (w : Text) → Printed (any (unit m)) after_any c w → Printed (unit (suc m)) after_term c ((codes "(" ++ w) ++ codes ")")
unfolding unit
inner_group m c w a =
    let v = (codes "(" ++ w) ++ codes ")" in (
      Mark (codes "("),
      second_prints starts_term comparison (inside (unit m)) after_term c true v (Mark (codes "("))
          (second_prints (is_key (codes "not")) (negation (unit m)) (group (unit m)) after_term c true v (Mark (codes "("))
          (less_prints (group (unit m)) always after_term c true v (Mark (codes "(")) (λ o k. refl)
          (needing_prints (group (unit m)) always c v (Mark (codes "(")) (group_prints (unit m) c w a))) (λ pc k. rw k refl)) (λ pc k. rw k refl),
    )

unit_group : (n m : ℕ) (c : Raw) (w : Text) → n ≡ suc m → Printed (any (unit m)) after_any c w → Printed (unit n) after_term c ((codes "(" ++ w) ++ codes ")")
unit_group n m c w e a = subst (λ k. Printed (unit k) after_term c ((codes "(" ++ w) ++ codes ")")) (sym e) (inner_group m c w a)

inner_negation : (m : ℕ) (c : Raw) (w : Text) → Printed (unit m) after_term c w → Printed (unit (suc m)) after_term (NotRaw c) (codes "NOT " ++ w)
unfolding unit
inner_negation m c w a =
    let v = codes "NOT " ++ w in (
      Key (codes "not"),
      second_prints starts_term comparison (inside (unit m)) after_term (NotRaw c) true v (Key (codes "not"))
          (first_prints (is_key (codes "not")) (negation (unit m)) (group (unit m)) after_term (NotRaw c) true v (Key (codes "not"))
          (behind_key (codes "not") (unit m >>= λ c. gives (NotRaw c)) after_term (NotRaw c) true (codes "NOT ") w (Key (codes "not")) a.0 not_prints
          (mapped_prints (unit m) (λ c. NotRaw c) after_term c true w a.0 a.1)) (λ pc k. rw k refl)) (λ pc k. rw k refl),
    )

unit_negation : (n m : ℕ) (c : Raw) (w : Text) → n ≡ suc m → Printed (unit m) after_term c w → Printed (unit n) after_term (NotRaw c) (codes "NOT " ++ w)
unit_negation n m c w e a = subst (λ k. Printed (unit k) after_term (NotRaw c) (codes "NOT " ++ w)) (sym e) (inner_negation m c w a)

mutual
  unit_printed : (c : Raw) (n : ℕ) → Inside (is_joined c) (Bare c) n → Printed (unit n) after_term c (in_parentheses (is_joined c) (condition_text c))
  unit_printed (AnyRaw cs) n (m, e, h) = unit_group n m (AnyRaw cs) (condition_text (AnyRaw cs)) e (any_list (unit m) cs (alls_printed cs m h.1) h.0)
  unit_printed (AllRaw cs) n (m, e, h) = unit_group n m (AllRaw cs) (condition_text (AllRaw cs)) e (any_single (unit m) (AllRaw cs) (condition_text (AllRaw cs)) (all_list (unit m) cs (units_printed cs m h.1) h.0))
  unit_printed (NotRaw c) n (m, e, h) = unit_negation n m c (in_parentheses (is_joined c) (condition_text c)) e (unit_printed c m h)
  unit_printed (CompareRaw s o t) n h = unit_comparison n s o t h.0 h.1

  all_printed : (c : Raw) (n : ℕ) → Inside (is_any c) (Bare c) n → Printed (all (unit n)) after_all c (in_parentheses (is_any c) (condition_text c))
  all_printed (AnyRaw cs) n (m, e, h) =
      all_single (unit n) (AnyRaw cs) ((codes "(" ++ condition_text (AnyRaw cs)) ++ codes ")")
      (unit_group n m (AnyRaw cs) (condition_text (AnyRaw cs)) e (any_list (unit m) cs (alls_printed cs m h.1) h.0))
  all_printed (AllRaw cs) n h = all_list (unit n) cs (units_printed cs n h.1) h.0
  all_printed (NotRaw c) n (m, e, h) =
      all_single (unit n) (NotRaw c) (condition_text (NotRaw c))
      (unit_negation n m c (in_parentheses (is_joined c) (condition_text c)) e (unit_printed c m h))
  all_printed (CompareRaw s o t) n h = all_single (unit n) (CompareRaw s o t) (comparison_text s o t) (unit_comparison n s o t h.0 h.1)

  units_printed : (cs : Raws) (n : ℕ) → Members is_joined cs n → EachPrinted (unit n) after_term (list_of cs) (member_texts is_joined cs)
  units_printed none n h = tt
  units_printed (more c cs) n h = (unit_printed c n h.0, units_printed cs n h.1)

  alls_printed : (cs : Raws) (n : ℕ) → Members is_any cs n → EachPrinted (all (unit n)) after_all (list_of cs) (member_texts is_any cs)
  alls_printed none n h = tt
  alls_printed (more c cs) n h = (all_printed c n h.0, alls_printed cs n h.1)

any_printed : (c : Raw) (n : ℕ) → Bare c n → Printed (any (unit n)) after_any c (condition_text c)
any_printed (AnyRaw cs) n h = any_list (unit n) cs (alls_printed cs n h.1) h.0
any_printed (AllRaw cs) n h = any_single (unit n) (AllRaw cs) (condition_text (AllRaw cs)) (all_printed (AllRaw cs) n h)
any_printed (NotRaw c) n h = any_single (unit n) (NotRaw c) (condition_text (NotRaw c)) (all_printed (NotRaw c) n h)
any_printed (CompareRaw s o t) n h = any_single (unit n) (CompareRaw s o t) (comparison_text s o t) (all_printed (CompareRaw s o t) n h)

-- the end
finish_reads : (ps : List Piece) → Say (Finish ∷ []) ps [] → finish.reads ps tt []
finish_reads [] s = absurd s
finish_reads (p ∷ ps) s = (ap (λ l. if says_finish l then Some tt else None) s.0, s.1)

finish_prints : PrintsAll finish tt (codes "\n") Finish
finish_prints = record {
  others = [];
  lexes = λ pre. (blank 10 refl).at pre [] (λ e. absurd (cc)) ∙ says_end (pre ++ 10 ∷ []);
  reads = finish_reads;
}

end_prints : PrintsAll end tt (codes "\n") Finish
end_prints = second_prints_all (is_sign (codes ";")) closed finish tt (codes "\n") Finish finish_prints (λ pc k. rw k refl)

abbrev ending_text : Option Raw → Text
ending_text c = filter_text c ++ codes "\n"

abbrev ending_first : Option Raw → Lexeme
ending_first None = Finish
ending_first (Some c) = Key (codes "where")

ending_prints : (c : Option Raw) → IfSome c (λ r. Bare r most_open) → PrintsAll (ending most_open) c (ending_text c) (ending_first c)
ending_prints None h =
    second_prints_all (is_key (codes "where")) (filtered most_open) unfiltered None (codes "\n") Finish
    (mapped_prints_all end (λ _. None) tt (codes "\n") Finish end_prints) (λ pc k. rw k refl)
ending_prints (Some c) h =
    let a = any_printed c most_open h in
    let v = condition_text c ++ codes "\n" in
    let same : (32 ∷ codes "WHERE ") ++ v ≡ ending_text (Some c) = sym (append_assoc (codes " WHERE ") (condition_text c) (codes "\n")) in
    subst (λ t. PrintsAll (ending most_open) (Some c) t (Key (codes "where"))) same
    (first_prints_all (is_key (codes "where")) (filtered most_open) unfiltered (Some c) ((32 ∷ codes "WHERE ") ++ v) (Key (codes "where"))
    (then_prints_all (key (codes "where")) (λ _. any (unit most_open) >>= λ c. end >>= λ _. gives (Some c)) always tt (Some c) false (32 ∷ codes "WHERE ") v (Key (codes "where")) a.0
    (spaced (key (codes "where")) always tt false (codes "WHERE ") (Key (codes "where")) where_prints)
    (then_prints_all (any (unit most_open)) (λ c. end >>= λ _. gives (Some c)) after_any c (Some c) true (condition_text c) (codes "\n") a.0 Finish a.1
    (mapped_prints_all end (λ _. Some c) tt (codes "\n") Finish end_prints) (λ pc k. rw k refl) (λ _. refl)) (λ _ _. refl) (λ e. absurd (cc))) (λ pc k. rw k refl))

-- the header
abbrev columns_text : List Name → Text
columns_text ns = join_by name_text (codes ", ") ns

columns_prints : (ns : List Name) → SomeEach GoodName ns → Prints columns always ns false (codes "(" ++ (columns_text ns ++ codes ")")) (Mark (codes "("))
columns_prints ns h =
    let a = names_printed ns h in
    behind_sign (codes "(") (some name >>= λ cs. sign (codes ")") >>= λ _. gives cs) always ns false (codes "(") (columns_text ns ++ codes ")") (Mark (codes "(")) a.0 open_prints
    (then_prints (some name) (λ cs. sign (codes ")") >>= λ _. gives cs) (after_comma always) always ns ns true false (columns_text ns) (codes ")") a.0 (Mark (codes ")")) a.1
    (mapped_prints (sign (codes ")")) (λ _. ns) always tt false (codes ")") (Mark (codes ")")) close_prints) (λ pc k. rw k refl) (λ _. refl))

module _ (db label : Name) (ns : List Name) (h : GoodName db) (g : GoodName label) (e : SomeEach GoodName ns) where
  label_prints : Prints (name >>= λ label. columns >>= λ cs. gives (head_of db label cs)) always (head_of db label ns) false (name_text label ++ (codes "(" ++ (columns_text ns ++ codes ")"))) (name_first label.quoted label.text)
  label_prints =
      then_prints name (λ label. columns >>= λ cs. gives (head_of db label cs)) always always label (head_of db label ns) true false (name_text label) (codes "(" ++ (columns_text ns ++ codes ")")) (name_first label.quoted label.text) (Mark (codes "(")) (name_prints label g)
      (mapped_prints columns (λ cs. head_of db label cs) always ns false (codes "(" ++ (columns_text ns ++ codes ")")) (Mark (codes "(")) (columns_prints ns e)) (λ _ _. refl) (λ _. refl)

  target_prints : Prints target always (head_of db label ns) false (name_text db ++ (codes "::" ++ (name_text label ++ (codes "(" ++ (columns_text ns ++ codes ")"))))) (name_first db.quoted db.text)
  target_prints =
      then_prints name (λ db. sign (codes "::") >>= λ _. name >>= λ label. columns >>= λ cs. gives (head_of db label cs)) always always db (head_of db label ns) true false (name_text db) (codes "::" ++ (name_text label ++ (codes "(" ++ (columns_text ns ++ codes ")")))) (name_first db.quoted db.text) (Mark (codes "::")) (name_prints db h)
      (behind_sign (codes "::") (name >>= λ label. columns >>= λ cs. gives (head_of db label cs)) always (head_of db label ns) false (codes "::") (name_text label ++ (codes "(" ++ (columns_text ns ++ codes ")"))) (Mark (codes "::")) (name_first label.quoted label.text) colons_prints label_prints) (λ _ _. refl) (λ _. refl)

  header_prints : Prints header always (head_of db label ns) false (codes "CREATE " ++ (codes "VIEW " ++ ((name_text db ++ (codes "::" ++ (name_text label ++ (codes "(" ++ (columns_text ns ++ codes ")"))))) ++ (32 ∷ codes "AS ")))) (Key (codes "create"))
  header_prints =
      let head = head_of db label ns in
      let t = name_text db ++ (codes "::" ++ (name_text label ++ (codes "(" ++ (columns_text ns ++ codes ")")))) in
      let v = t ++ (32 ∷ codes "AS ") in
      behind_key (codes "create") (key (codes "view") >>= λ _. target >>= λ h. key (codes "as") >>= λ _. gives h) always head false (codes "CREATE ") (codes "VIEW " ++ v) (Key (codes "create")) (Key (codes "view")) create_prints
      (behind_key (codes "view") (target >>= λ h. key (codes "as") >>= λ _. gives h) always head false (codes "VIEW ") v (Key (codes "view")) (name_first db.quoted db.text) view_prints
      (then_prints target (λ h. key (codes "as") >>= λ _. gives h) always always head head false false t (32 ∷ codes "AS ") (name_first db.quoted db.text) (Key (codes "as")) target_prints
      (mapped_prints (key (codes "as")) (λ _. head) always tt false (32 ∷ codes "AS ") (Key (codes "as")) (spaced (key (codes "as")) always tt false (codes "AS ") (Key (codes "as")) as_prints)) (λ _ _. refl) (λ e. absurd (cc))))

-- the query
selection_prints : (ts : List RawTerm) → SomeEach GoodTerm ts → Prints selection (after_comma after_term) ts true (codes "SELECT " ++ join_by term_text (codes ", ") ts) (Key (codes "select"))
selection_prints ts h =
    let a = terms_printed ts h in
    behind_key (codes "select") (some a_term) (after_comma after_term) ts true (codes "SELECT ") (join_by term_text (codes ", ") ts) (Key (codes "select")) a.0 select_prints a.1

declarations_prints : (ds : List RawDecl) → SomeEach GoodDecl ds → Prints declarations (after_comma always) ds true (codes "FROM " ++ join_by declaration_text (codes ", ") ds) (Key (codes "from"))
declarations_prints ds h =
    let a = decls_printed ds h in
    behind_key (codes "from") (some decl) (after_comma always) ds true (codes "FROM ") (join_by declaration_text (codes ", ") ds) (Key (codes "from")) a.0 from_prints a.1

ending_fits : (c : Option Raw) (p : Piece) → p.says ≡ ending_first c → after_comma always (Some p) ≡ true
ending_fits None p e = rw e refl
ending_fits (Some c) p e = rw e refl

ending_breaks : (c : Option Raw) → breaks (ending_text c) ≡ true
ending_breaks None = refl
ending_breaks (Some c) = refl

-- a whole view
built_text : Text → Text → Text → Text → Text → Text → Text
built_text db label cs ts ds e =
    (codes "CREATE " ++ (codes "VIEW " ++ ((db ++ (codes "::" ++ (label ++ (codes "(" ++ (cs ++ codes ")"))))) ++ (32 ∷ codes "AS "))))
    ++ ((codes "SELECT " ++ ts) ++ ((32 ∷ (codes "FROM " ++ ds)) ++ (e ++ codes "\n")))

printed_text : Text → Text → Text → Text → Text → Text → Text
printed_text db label cs ts ds e =
    codes "CREATE VIEW " ++ (((db ++ codes "::") ++ label) ++ codes "(" ++ cs ++ codes ")") ++ codes " AS " ++ (codes "SELECT " ++ ts ++ codes " FROM " ++ ds ++ e) ++ codes "\n"

built_is_printed : (db label cs ts ds e : Text) → built_text db label cs ts ds e ≡ printed_text db label cs ts ds e
unfolding built_text printed_text
built_is_printed db label cs ts ds e = simp append_assoc

print_is : (t : ViewTree) → print t ≡ printed_text (name_text t.view_db) (name_text t.label) (columns_text t.columns) (join_by term_text (codes ", ") t.select) (join_by declaration_text (codes ", ") t.decls) (filter_text t.condition)
unfolding print printed_text
print_is t = refl

view_prints_all : (t : ViewTree) → GoodTree t → PrintsAll (view most_open) t (print t) (Key (codes "create"))
unfolding built_text
view_prints_all t g =
    let h = head_of t.view_db t.label t.columns in
    let ts = codes "SELECT " ++ join_by term_text (codes ", ") t.select in
    let ds = 32 ∷ (codes "FROM " ++ join_by declaration_text (codes ", ") t.decls) in
    let w = codes "CREATE " ++ (codes "VIEW " ++ ((name_text t.view_db ++ (codes "::" ++ (name_text t.label ++ (codes "(" ++ (columns_text t.columns ++ codes ")"))))) ++ (32 ∷ codes "AS "))) in
    let e = ending_text t.condition in
    let same = built_is_printed (name_text t.view_db) (name_text t.label) (columns_text t.columns) (join_by term_text (codes ", ") t.select) (join_by declaration_text (codes ", ") t.decls) (filter_text t.condition) ∙ sym (print_is t) in
    subst (λ (v : Text). PrintsAll (view most_open) t v (Key (codes "create"))) same
    (then_prints_all header (λ h. selection >>= λ select. declarations >>= λ decls. ending most_open >>= λ c. gives (tree_with h select decls c)) always h t false w (ts ++ (ds ++ e)) (Key (codes "create")) (Key (codes "select"))
    (header_prints t.view_db t.label t.columns g.view_db g.label g.columns)
    (then_prints_all selection (λ select. declarations >>= λ decls. ending most_open >>= λ c. gives (tree_with h select decls c)) (after_comma after_term) t.select t true ts (ds ++ e) (Key (codes "select")) (Key (codes "from"))
    (selection_prints t.select g.select)
    (then_prints_all declarations (λ decls. ending most_open >>= λ c. gives (tree_with h t.select decls c)) (after_comma always) t.decls t true ds e (Key (codes "from")) (ending_first t.condition)
    (spaced declarations (after_comma always) t.decls true (codes "FROM " ++ join_by declaration_text (codes ", ") t.decls) (Key (codes "from")) (declarations_prints t.decls g.decls))
    (mapped_prints_all (ending most_open) (λ c. tree_with h t.select t.decls c) t.condition e (ending_first t.condition) (ending_prints t.condition g.condition))
    (ending_fits t.condition) (λ _. ending_breaks t.condition)) (λ pc k. rw k refl) (λ _. refl)) (λ _ _. refl) (λ k. absurd (cc)))

-- what is read from a text, printed, is read again
pub round_trip : (bytes : List ℕ) (t : ViewTree) → IsRead bytes t → IsRead (print t) t
unfolding AreView
round_trip bytes t r =
    let a = view_prints_all t (good_tree bytes t r) in
    a.reads (pieces (print t)) (pieces_say (print t) (Key (codes "create") ∷ a.others) (sym (says_all (print t)) ∙ a.lexes []))
