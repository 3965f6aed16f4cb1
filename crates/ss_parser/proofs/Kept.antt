-- What is read from a text is good.
use Rattle.std.proofs.Common.{◌≡◌, ℕ, zero, suc, Bool, true, false, List, [], ◌∷◌, Option, Some, None, refl, ap, subst, unwrap_or}
use Rattle.std.specs.Prelude.{MatchBool, IfSome, codes}
use Rattle.ss_text.specs.Texts.{Text}
use Rattle.view_def.specs.declared.written.Name.{Name}
use Rattle.view_def.specs.declared.written.RawTerm.{RawTerm}
use Rattle.view_def.specs.declared.written.RawTerm.TheVariants as term
use Rattle.view_def.specs.declared.written.RawRange.{RawRange}
use Rattle.view_def.specs.declared.written.RawRange.TheVariants as range
use Rattle.view_def.specs.RawConditions.{Raw, AnyRaw, AllRaw, NotRaw, CompareRaw, raws}
use Rattle.view_def.specs.Tree.{ViewTree}
use Rattle.view_def.specs.Print.{is_any, is_joined}
use Rattle.ss_lexer.specs.Lexemes.{Lexeme, Ident, Key, Quoted, Literal, Mark, Finish, Bad_byte, Open_quote, Piece, pieces}
use Rattle.ss_lexer.proofs.RealLexemes.{IsReal, AllReal, all_real}
use Rattle.ss_parser.specs.Phrases.{Phrase, next, passes, gives, ◌>>=◌, by_next, Listed, last, listed, limit}
use Rattle.ss_parser.specs.Phrases.{more as further}
use Rattle.ss_parser.specs.Terms.{one, just, key, sign, is_key, is_sign, an_ident, ident, a_name, name, some, a_literal, literal, dotted, ident_term, is_ident, a_term}
use Rattle.ss_parser.specs.Declarations.{decl_of, var, arrow_var, column_var, cell_var, in_relation, in_database, behind_name, named, decl}
use Rattle.ss_parser.specs.Conditions.{an_operator, operator, comparison, any_of, all_of, all, any, negation, group, starts_term, opens, inside, unit}
use Rattle.ss_parser.specs.Views.{Head, head_of, columns, target, header, selection, declarations, is_finish, finish, closed, end, filtered, unfiltered, ending, tree_with, view, most_open}
use Rattle.ss_parser.specs.Refused.{AreView, IsRead}
use Rattle.ss_parser.proofs.Printable.{IsIdent, GoodName, GoodTerm, GoodRange, GoodDecl, Each, SomeEach, Inside, Bare, Members, GoodTree, bare_more, bare_inside}

-- from real pieces something good is read, and real ones are left
abbrev Keeps : {A : Type 0} → Phrase Piece A → (A → Type 0) → Type 0
Keeps {A} p G = (ps : List Piece) (x : A) (rest : List Piece) → p.reads ps x rest → AllReal ps → G x × AllReal rest

module _ {A : Type 0} (f : Lexeme → Option A) (G : A → Type 0) (h : (l : Lexeme) (x : A) → f l ≡ Some x → IsReal l → G x) where
  one_keeps : Keeps (one f) G
  one_keeps [] x rest r real = absurd r
  one_keeps (p ∷ ps) x rest r real = (h p.says x r.0 real.0, subst AllReal r.1 real.1)

just_keeps : (test : Piece → Bool) → Keeps (just test) (λ _. Unit {0})
just_keeps test [] x rest r real = absurd r
just_keeps test (p ∷ ps) x rest r real = (tt, subst AllReal r.1 real.1)

then_keeps : {A B : Type 0} (p : Phrase Piece A) (f : A → Phrase Piece B) (G : A → Type 0) (H : B → Type 0) → Keeps p G → ((a : A) → G a → Keeps (f a) H) → Keeps (p >>= f) H
then_keeps p f G H hp hf ps x rest (a, mid, r, s) real = let k = hp ps a mid r real in hf a k.0 mid x rest s k.1

gives_keeps : {A : Type 0} (a : A) (G : A → Type 0) → G a → Keeps (gives a) G
gives_keeps a G h ps x rest r real = (subst G r.0 h, subst AllReal r.1 real)

behind_keeps : {A : Type 0} (test : Piece → Bool) (p : Phrase Piece A) (G : A → Type 0) → Keeps p G → Keeps (just test >>= λ _. p) G
behind_keeps test p G h = then_keeps (just test) (λ _. p) (λ _. Unit {0}) G (just_keeps test) (λ _ _. h)

either_keeps : {A : Type 0} (b : Bool) (p q : Phrase Piece A) (G : A → Type 0) → Keeps p G → Keeps q G → (ps : List Piece) (x : A) (rest : List Piece) → MatchBool b (p.reads ps x rest) (q.reads ps x rest) → AllReal ps → G x × AllReal rest
either_keeps true p q G hp hq ps x rest r real = hp ps x rest r real
either_keeps false p q G hp hq ps x rest r real = hq ps x rest r real

by_next_keeps : {A : Type 0} (test : Piece → Bool) (p q : Phrase Piece A) (G : A → Type 0) → Keeps p G → Keeps q G → Keeps (by_next test p q) G
by_next_keeps test p q G hp hq ps x rest r real = either_keeps (passes test (next ps)) p q G hp hq ps x rest r real

module _ {A : Type 0} (comma : Piece → Bool) (p : Phrase Piece A) (G : A → Type 0) (h : Keeps p G) where
  each_of : (xs : List A) → SomeEach G xs → Each G xs
  each_of [] k = absurd k
  each_of (x ∷ xs) k = k

  list_keeps : (ps : List Piece) (xs : List A) (rest : List Piece) → Listed comma p ps xs rest → AllReal ps → SomeEach G xs × AllReal rest
  list_keeps ps xs rest (last {a = a} r ends) real = let k = h ps a rest r real in ((k.0, tt), k.1)
  list_keeps ps xs rest (further {us = us} {c = c} {a = a} {all = others} r goes l) real =
      let k = h ps a (c ∷ us) r real in
      let m = list_keeps us others rest l k.1.1 in
      ((k.0, each_of others m.0), m.1)

  listed_keeps : Keeps (listed comma p) (SomeEach G)
  listed_keeps = list_keeps

-- names and terms
ident_good : (l : Lexeme) (x : Text) → an_ident l ≡ Some x → IsReal l → IsIdent x
ident_good (Ident t) x e h = subst IsIdent (ap (λ o. unwrap_or o x) e) h
ident_good (Key t) x e h = absurd (cc)
ident_good (Quoted t) x e h = absurd (cc)
ident_good (Literal t) x e h = absurd (cc)
ident_good (Mark t) x e h = absurd (cc)
ident_good Finish x e h = absurd (cc)
ident_good Bad_byte x e h = absurd (cc)
ident_good Open_quote x e h = absurd (cc)

ident_keeps : Keeps ident IsIdent
ident_keeps = one_keeps an_ident IsIdent ident_good

name_good : (l : Lexeme) (x : Name) → a_name l ≡ Some x → IsReal l → GoodName x
name_good (Ident t) x e h = subst GoodName (ap (λ o. unwrap_or o x) e) h
name_good (Quoted t) x e h = subst GoodName (ap (λ o. unwrap_or o x) e) tt
name_good (Key t) x e h = absurd (cc)
name_good (Literal t) x e h = absurd (cc)
name_good (Mark t) x e h = absurd (cc)
name_good Finish x e h = absurd (cc)
name_good Bad_byte x e h = absurd (cc)
name_good Open_quote x e h = absurd (cc)

name_keeps : Keeps name GoodName
name_keeps = one_keeps a_name GoodName name_good

literal_good : (l : Lexeme) (x : RawTerm) → a_literal l ≡ Some x → IsReal l → GoodTerm x
literal_good (Literal t) x e h = subst GoodTerm (ap (λ o. unwrap_or o x) e) tt
literal_good (Ident t) x e h = absurd (cc)
literal_good (Key t) x e h = absurd (cc)
literal_good (Quoted t) x e h = absurd (cc)
literal_good (Mark t) x e h = absurd (cc)
literal_good Finish x e h = absurd (cc)
literal_good Bad_byte x e h = absurd (cc)
literal_good Open_quote x e h = absurd (cc)

term_keeps : Keeps a_term GoodTerm
term_keeps =
    by_next_keeps is_ident ident_term literal GoodTerm
    (then_keeps ident (λ x. by_next (is_sign (codes ".")) (dotted x) (gives (term.Lone x))) IsIdent GoodTerm ident_keeps (λ x h.
    by_next_keeps (is_sign (codes ".")) (dotted x) (gives (term.Lone x)) GoodTerm
    (behind_keeps (is_sign (codes ".")) (name >>= λ a. gives (term.Dot x a)) GoodTerm
    (then_keeps name (λ a. gives (term.Dot x a)) GoodName GoodTerm name_keeps (λ a k. gives_keeps (term.Dot x a) GoodTerm (h, k))))
    (gives_keeps (term.Lone x) GoodTerm h)))
    (one_keeps a_literal GoodTerm literal_good)

-- declarations
var_keeps : (r : RawRange) → GoodRange r → Keeps (var r) GoodDecl
var_keeps r h = then_keeps ident (λ x. gives (decl_of r x)) IsIdent GoodDecl ident_keeps (λ x k. gives_keeps (decl_of r x) GoodDecl (h, k))

arrow_keeps : (r : RawRange) → GoodRange r → Keeps (arrow_var r) GoodDecl
arrow_keeps r h = behind_keeps (is_sign (codes "->")) (var r) GoodDecl (var_keeps r h)

column_keeps : (n m : Name) → GoodName n → GoodName m → Keeps (column_var n m) GoodDecl
column_keeps n m h k =
    behind_keeps (is_sign (codes ".")) (name >>= λ a. var (range.Values n m a)) GoodDecl
    (then_keeps name (λ a. var (range.Values n m a)) GoodName GoodDecl name_keeps (λ a l. var_keeps (range.Values n m a) (h, k, l)))

cell_keeps : (t : Text) → IsIdent t → Keeps (cell_var t) GoodDecl
cell_keeps t h =
    behind_keeps (is_sign (codes ".")) (name >>= λ a. var (range.Alias t a)) GoodDecl
    (then_keeps name (λ a. var (range.Alias t a)) GoodName GoodDecl name_keeps (λ a l. var_keeps (range.Alias t a) (h, l)))

in_relation_keeps : (n m : Name) → GoodName n → GoodName m → Keeps (in_relation n m) GoodDecl
in_relation_keeps n m h k =
    by_next_keeps (is_sign (codes "->")) (arrow_var (range.Attributes n m)) (by_next (is_sign (codes ".")) (column_var n m) (var (range.Tuples n m))) GoodDecl (arrow_keeps (range.Attributes n m) (h, k))
    (by_next_keeps (is_sign (codes ".")) (column_var n m) (var (range.Tuples n m)) GoodDecl (column_keeps n m h k) (var_keeps (range.Tuples n m) (h, k)))

in_database_keeps : (n : Name) → GoodName n → Keeps (in_database n) GoodDecl
in_database_keeps n h =
    behind_keeps (is_sign (codes "::")) (name >>= λ m. in_relation n m) GoodDecl
    (then_keeps name (λ m. in_relation n m) GoodName GoodDecl name_keeps (λ m k. in_relation_keeps n m h k))

behind_name_keeps : (b : Bool) (n : Name) → n.quoted ≡ b → GoodName n → Keeps (behind_name b n) GoodDecl
behind_name_keeps true n e h = in_database_keeps n h
behind_name_keeps false n e h =
    by_next_keeps (is_sign (codes ".")) (cell_var n.text) (in_database n) GoodDecl
    (cell_keeps n.text (subst (λ b. MatchBool b (Unit {0}) (IsIdent n.text)) e h)) (in_database_keeps n h)

decl_keeps : Keeps decl GoodDecl
decl_keeps =
    by_next_keeps (is_sign (codes "->")) (arrow_var range.Databases) named GoodDecl (arrow_keeps range.Databases tt)
    (then_keeps name (λ n. by_next (is_sign (codes "->")) (arrow_var (range.Relations n)) (behind_name n.quoted n)) GoodName GoodDecl name_keeps (λ n h.
    by_next_keeps (is_sign (codes "->")) (arrow_var (range.Relations n)) (behind_name n.quoted n) GoodDecl (arrow_keeps (range.Relations n) h) (behind_name_keeps n.quoted n refl h)))

-- conditions
comparison_keeps : (n : ℕ) → Keeps comparison (λ c. Inside (is_joined c) (Bare c) n)
comparison_keeps n =
    then_keeps a_term (λ s. operator >>= λ o. a_term >>= λ t. gives (CompareRaw s o t)) GoodTerm (λ c. Inside (is_joined c) (Bare c) n) term_keeps (λ s h.
    then_keeps operator (λ o. a_term >>= λ t. gives (CompareRaw s o t)) (λ _. Unit {0}) (λ c. Inside (is_joined c) (Bare c) n) (one_keeps an_operator (λ _. Unit {0}) (λ l x e k. tt)) (λ o _.
    then_keeps a_term (λ t. gives (CompareRaw s o t)) GoodTerm (λ c. Inside (is_joined c) (Bare c) n) term_keeps (λ t k.
    gives_keeps (CompareRaw s o t) (λ c. Inside (is_joined c) (Bare c) n) (h, k))))

members_of : (needed : Raw → Bool) (n : ℕ) (cs : List Raw) → Each (λ c. Inside (needed c) (Bare c) n) cs → Members needed (raws cs) n
members_of needed n [] h = tt
members_of needed n (c ∷ cs) h = (h.0, members_of needed n cs h.1)

not_joined_any : (c : Raw) (n : ℕ) → Inside (is_joined c) (Bare c) n → Inside (is_any c) (Bare c) n
not_joined_any (AnyRaw cs) n h = h
not_joined_any (AllRaw cs) n h = bare_inside true (AllRaw cs) n h
not_joined_any (NotRaw c) n h = h
not_joined_any (CompareRaw s o t) n h = h

all_good : (n : ℕ) (cs : List Raw) → SomeEach (λ c. Inside (is_joined c) (Bare c) n) cs → Inside (is_any (all_of cs)) (Bare (all_of cs)) n
all_good n [] h = absurd h
all_good n (c ∷ []) h = not_joined_any c n h.0
all_good n (c ∷ d ∷ cs) h = (tt, members_of is_joined n (c ∷ d ∷ cs) h)

any_good : (n : ℕ) (cs : List Raw) → SomeEach (λ c. Inside (is_any c) (Bare c) n) cs → Bare (any_of cs) n
any_good n [] h = absurd h
any_good n (c ∷ []) h = bare_inside (is_any c) c n h.0
any_good n (c ∷ d ∷ cs) h = (tt, members_of is_any n (c ∷ d ∷ cs) h)

module _ (u : Phrase Piece Raw) (n : ℕ) (h : Keeps u (λ c. Inside (is_joined c) (Bare c) n)) where
  all_keeps : Keeps (all u) (λ c. Inside (is_any c) (Bare c) n)
  all_keeps =
      then_keeps (listed (is_key (codes "and")) u) (λ cs. gives (all_of cs)) (SomeEach (λ c. Inside (is_joined c) (Bare c) n)) (λ c. Inside (is_any c) (Bare c) n)
      (listed_keeps (is_key (codes "and")) u (λ c. Inside (is_joined c) (Bare c) n) h) (λ cs k. gives_keeps (all_of cs) (λ c. Inside (is_any c) (Bare c) n) (all_good n cs k))

  any_keeps : Keeps (any u) (λ c. Bare c n)
  any_keeps =
      then_keeps (listed (is_key (codes "or")) (all u)) (λ cs. gives (any_of cs)) (SomeEach (λ c. Inside (is_any c) (Bare c) n)) (λ c. Bare c n)
      (listed_keeps (is_key (codes "or")) (all u) (λ c. Inside (is_any c) (Bare c) n) all_keeps) (λ cs k. gives_keeps (any_of cs) (λ c. Bare c n) (any_good n cs k))

  in_group : (c : Raw) → Bare c n → Inside (is_joined c) (Bare c) (suc n)
  in_group (AnyRaw cs) k = (n, refl, k)
  in_group (AllRaw cs) k = (n, refl, k)
  in_group (NotRaw c) k = bare_more (NotRaw c) n k
  in_group (CompareRaw s o t) k = k

  inside_keeps : Keeps (inside u) (λ c. Inside (is_joined c) (Bare c) (suc n))
  inside_keeps =
      by_next_keeps (is_key (codes "not")) (negation u) (group u) (λ c. Inside (is_joined c) (Bare c) (suc n))
      (behind_keeps (is_key (codes "not")) (u >>= λ c. gives (NotRaw c)) (λ c. Inside (is_joined c) (Bare c) (suc n))
      (then_keeps u (λ c. gives (NotRaw c)) (λ c. Inside (is_joined c) (Bare c) n) (λ c. Inside (is_joined c) (Bare c) (suc n)) h (λ c k.
      gives_keeps (NotRaw c) (λ c. Inside (is_joined c) (Bare c) (suc n)) (n, refl, k))))
      (behind_keeps (is_sign (codes "(")) (any u >>= λ c. sign (codes ")") >>= λ _. gives c) (λ c. Inside (is_joined c) (Bare c) (suc n))
      (then_keeps (any u) (λ c. sign (codes ")") >>= λ _. gives c) (λ c. Bare c n) (λ c. Inside (is_joined c) (Bare c) (suc n)) any_keeps (λ c k.
      behind_keeps (is_sign (codes ")")) (gives c) (λ c. Inside (is_joined c) (Bare c) (suc n)) (gives_keeps c (λ c. Inside (is_joined c) (Bare c) (suc n)) (in_group c k)))))

limit_keeps : (G : Raw → Type 0) → Keeps (limit opens) G
limit_keeps G ps x rest r real = absurd r

unit_keeps : (n : ℕ) → Keeps (unit n) (λ c. Inside (is_joined c) (Bare c) n)
unfolding unit
unit_keeps zero = by_next_keeps starts_term comparison (limit opens) (λ c. Inside (is_joined c) (Bare c) 0) (comparison_keeps 0) (limit_keeps (λ c. Inside (is_joined c) (Bare c) 0))
unit_keeps (suc n) = by_next_keeps starts_term comparison (inside (unit n)) (λ c. Inside (is_joined c) (Bare c) (suc n)) (comparison_keeps (suc n)) (inside_keeps (unit n) n (unit_keeps n))

-- views
record GoodHead (h : Head) : Type 0 where
  view_db : GoodName h.view_db
  label : GoodName h.label
  columns : SomeEach GoodName h.columns

columns_keeps : Keeps columns (SomeEach GoodName)
columns_keeps =
    behind_keeps (is_sign (codes "(")) (some name >>= λ cs. sign (codes ")") >>= λ _. gives cs) (SomeEach GoodName)
    (then_keeps (some name) (λ cs. sign (codes ")") >>= λ _. gives cs) (SomeEach GoodName) (SomeEach GoodName) (listed_keeps (is_sign (codes ",")) name GoodName name_keeps) (λ cs h.
    behind_keeps (is_sign (codes ")")) (gives cs) (SomeEach GoodName) (gives_keeps cs (SomeEach GoodName) h)))

target_keeps : Keeps target GoodHead
target_keeps =
    then_keeps name (λ db. sign (codes "::") >>= λ _. name >>= λ label. columns >>= λ cs. gives (head_of db label cs)) GoodName GoodHead name_keeps (λ db h.
    behind_keeps (is_sign (codes "::")) (name >>= λ label. columns >>= λ cs. gives (head_of db label cs)) GoodHead
    (then_keeps name (λ label. columns >>= λ cs. gives (head_of db label cs)) GoodName GoodHead name_keeps (λ label k.
    then_keeps columns (λ cs. gives (head_of db label cs)) (SomeEach GoodName) GoodHead columns_keeps (λ cs l.
    gives_keeps (head_of db label cs) GoodHead (record { view_db = h; label = k; columns = l })))))

header_keeps : Keeps header GoodHead
header_keeps =
    behind_keeps (is_key (codes "create")) (key (codes "view") >>= λ _. target >>= λ h. key (codes "as") >>= λ _. gives h) GoodHead
    (behind_keeps (is_key (codes "view")) (target >>= λ h. key (codes "as") >>= λ _. gives h) GoodHead
    (then_keeps target (λ h. key (codes "as") >>= λ _. gives h) GoodHead GoodHead target_keeps (λ h k.
    behind_keeps (is_key (codes "as")) (gives h) GoodHead (gives_keeps h GoodHead k))))

selection_keeps : Keeps selection (SomeEach GoodTerm)
selection_keeps = behind_keeps (is_key (codes "select")) (some a_term) (SomeEach GoodTerm) (listed_keeps (is_sign (codes ",")) a_term GoodTerm term_keeps)

declarations_keeps : Keeps declarations (SomeEach GoodDecl)
declarations_keeps = behind_keeps (is_key (codes "from")) (some decl) (SomeEach GoodDecl) (listed_keeps (is_sign (codes ",")) decl GoodDecl decl_keeps)

end_keeps : Keeps end (λ _. Unit {0})
end_keeps = by_next_keeps (is_sign (codes ";")) closed finish (λ _. Unit {0}) (behind_keeps (is_sign (codes ";")) finish (λ _. Unit {0}) (just_keeps is_finish)) (just_keeps is_finish)

abbrev GoodFilter : ℕ → Option Raw → Type 0
GoodFilter n o = IfSome o (λ c. Bare c n)

ending_keeps : (n : ℕ) → Keeps (ending n) (GoodFilter n)
ending_keeps n =
    by_next_keeps (is_key (codes "where")) (filtered n) unfiltered (GoodFilter n)
    (behind_keeps (is_key (codes "where")) (any (unit n) >>= λ c. end >>= λ _. gives (Some c)) (GoodFilter n)
    (then_keeps (any (unit n)) (λ c. end >>= λ _. gives (Some c)) (λ c. Bare c n) (GoodFilter n) (any_keeps (unit n) n (unit_keeps n)) (λ c h.
    then_keeps end (λ _. gives (Some c)) (λ _. Unit {0}) (GoodFilter n) end_keeps (λ _ _. gives_keeps (Some c) (GoodFilter n) h))))
    (then_keeps end (λ _. gives None) (λ _. Unit {0}) (GoodFilter n) end_keeps (λ _ _. gives_keeps None (GoodFilter n) tt))

view_keeps : Keeps (view most_open) GoodTree
view_keeps =
    then_keeps header (λ h. selection >>= λ select. declarations >>= λ decls. ending most_open >>= λ c. gives (tree_with h select decls c)) GoodHead GoodTree header_keeps (λ h k.
    then_keeps selection (λ select. declarations >>= λ decls. ending most_open >>= λ c. gives (tree_with h select decls c)) (SomeEach GoodTerm) GoodTree selection_keeps (λ select l.
    then_keeps declarations (λ decls. ending most_open >>= λ c. gives (tree_with h select decls c)) (SomeEach GoodDecl) GoodTree declarations_keeps (λ decls m.
    then_keeps (ending most_open) (λ c. gives (tree_with h select decls c)) (GoodFilter most_open) GoodTree (ending_keeps most_open) (λ c f.
    gives_keeps (tree_with h select decls c) GoodTree (record { view_db = k.view_db; label = k.label; columns = k.columns; select = l; decls = m; condition = f })))))

-- what is read from a text is good
pub good_tree : (bytes : List ℕ) (t : ViewTree) → IsRead bytes t → GoodTree t
unfolding AreView
good_tree bytes t r = (view_keeps (pieces bytes) t [] r (all_real bytes)).0
