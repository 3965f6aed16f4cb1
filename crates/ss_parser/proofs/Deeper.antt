-- Views whose conditions may have one more open.
use Rattle.std.proofs.Common.{◌≡◌, ℕ, zero, suc, Bool, true, false, ◌||◌, List, [], ◌∷◌, ◌++◌, Option, Some, None, inl, refl, sym, ap, subst, append_assoc, true≢false}
use Rattle.std.specs.Prelude.{codes, MatchBool, if◌then◌else◌}
use Rattle.ss_text.specs.Texts.{Text}
use Rattle.view_def.specs.declared.written.Name.{Name}
use Rattle.view_def.specs.declared.written.RawTerm.{RawTerm}
use Rattle.view_def.specs.declared.written.RawTerm.TheVariants as term
use Rattle.view_def.specs.declared.written.RawRange.{RawRange}
use Rattle.view_def.specs.declared.written.RawRange.TheVariants as range
use Rattle.view_def.specs.RawConditions.{Raw, NotRaw, CompareRaw}
use Rattle.ss_lexer.specs.Lexemes.{Lexeme, Piece}
use Rattle.ss_parser.specs.Phrases.{Phrase, next, passes, gives, ◌>>=◌, by_next, listed, limit}
use Rattle.ss_parser.specs.Terms.{one, just, key, sign, is_key, is_sign, an_ident, ident, a_name, name, some, a_literal, literal, dotted, ident_term, is_ident, a_term}
use Rattle.ss_parser.specs.Declarations.{decl_of, var, arrow_var, column_var, cell_var, in_relation, in_database, behind_name, named, decl}
use Rattle.ss_parser.specs.Conditions.{an_operator, operator, comparison, any_of, all_of, all, any, negation, group, starts_term, opens, inside, unit}
use Rattle.ss_parser.specs.Views.{Head, head_of, columns, target, header, selection, declarations, is_finish, finish, closed, end, filtered, unfiltered, ending, tree_with, view}
use Rattle.ss_parser.proofs.PhraseLaws.{Laws, always, mapped_laws, then_laws}
use Rattle.ss_parser.proofs.Wider.{Wider, GoesPast, less_wide, IsShallow, token_shallow, gives_shallow, then_shallow, by_next_shallow, listed_shallow, shallow_wider, StopsAt, shallow_stops, then_stops_at, by_next_stops_at, listed_stops_at, limit_stops_at, then_wider, mapped_wider, list_wider, by_next_wider}
use Rattle.ss_parser.proofs.ViewLaws.{word, the_key, the_sign, after_term, after_all, after_any, after_comma, just_laws, all_laws, any_laws, close_laws, unit_laws, end_laws, header_laws, selection_laws, declarations_laws, ending_laws}

-- nothing outside of conditions is nested
just_shallow : (test : Piece → Bool) → IsShallow (just test)
just_shallow test = let f : Piece → Option (Unit {0}) = λ p. if test p then Some tt else None in token_shallow f

one_shallow : {A : Type 0} (f : Lexeme → Option A) → IsShallow (one f)
one_shallow f = token_shallow (λ p. f p.says)

behind_shallow : {A : Type 0} (test : Piece → Bool) (p : Phrase Piece A) → IsShallow p → IsShallow (just test >>= λ _. p)
behind_shallow test p h = then_shallow (just test) (λ _. p) (just_shallow test) (λ _. h)

mapped_shallow : {A B : Type 0} (p : Phrase Piece A) (g : A → B) → IsShallow p → IsShallow (p >>= λ a. gives (g a))
mapped_shallow p g h = then_shallow p (λ a. gives (g a)) h (λ a. gives_shallow (g a))

dotted_shallow : (x : Text) → IsShallow (dotted x)
dotted_shallow x = behind_shallow (is_sign (codes ".")) (name >>= λ a. gives (term.Dot x a)) (mapped_shallow name (λ a. term.Dot x a) (one_shallow a_name))

a_term_shallow : IsShallow a_term
a_term_shallow =
    by_next_shallow is_ident ident_term literal
    (then_shallow ident (λ x. by_next (is_sign (codes ".")) (dotted x) (gives (term.Lone x))) (one_shallow an_ident) (λ x. by_next_shallow (is_sign (codes ".")) (dotted x) (gives (term.Lone x)) (dotted_shallow x) (gives_shallow (term.Lone x))))
    (one_shallow a_literal)

comparison_shallow : IsShallow comparison
comparison_shallow =
    then_shallow a_term (λ s. operator >>= λ o. a_term >>= λ t. gives (CompareRaw s o t)) a_term_shallow (λ s.
    then_shallow operator (λ o. a_term >>= λ t. gives (CompareRaw s o t)) (one_shallow an_operator) (λ o.
    mapped_shallow a_term (λ t. CompareRaw s o t) a_term_shallow))

var_shallow : (r : RawRange) → IsShallow (var r)
var_shallow r = mapped_shallow ident (λ x. decl_of r x) (one_shallow an_ident)

arrow_shallow : (r : RawRange) → IsShallow (arrow_var r)
arrow_shallow r = behind_shallow (is_sign (codes "->")) (var r) (var_shallow r)

column_shallow : (n m : Name) → IsShallow (column_var n m)
column_shallow n m = behind_shallow (is_sign (codes ".")) (name >>= λ a. var (range.Values n m a)) (then_shallow name (λ a. var (range.Values n m a)) (one_shallow a_name) (λ a. var_shallow (range.Values n m a)))

cell_shallow : (t : Text) → IsShallow (cell_var t)
cell_shallow t = behind_shallow (is_sign (codes ".")) (name >>= λ a. var (range.Alias t a)) (then_shallow name (λ a. var (range.Alias t a)) (one_shallow a_name) (λ a. var_shallow (range.Alias t a)))

in_relation_shallow : (n m : Name) → IsShallow (in_relation n m)
in_relation_shallow n m =
    by_next_shallow (is_sign (codes "->")) (arrow_var (range.Attributes n m)) (by_next (is_sign (codes ".")) (column_var n m) (var (range.Tuples n m))) (arrow_shallow (range.Attributes n m))
    (by_next_shallow (is_sign (codes ".")) (column_var n m) (var (range.Tuples n m)) (column_shallow n m) (var_shallow (range.Tuples n m)))

in_database_shallow : (n : Name) → IsShallow (in_database n)
in_database_shallow n = behind_shallow (is_sign (codes "::")) (name >>= λ m. in_relation n m) (then_shallow name (λ m. in_relation n m) (one_shallow a_name) (λ m. in_relation_shallow n m))

behind_name_shallow : (b : Bool) (n : Name) → IsShallow (behind_name b n)
behind_name_shallow true n = in_database_shallow n
behind_name_shallow false n = by_next_shallow (is_sign (codes ".")) (cell_var n.text) (in_database n) (cell_shallow n.text) (in_database_shallow n)

decl_shallow : IsShallow decl
decl_shallow =
    by_next_shallow (is_sign (codes "->")) (arrow_var range.Databases) named (arrow_shallow range.Databases)
    (then_shallow name (λ n. by_next (is_sign (codes "->")) (arrow_var (range.Relations n)) (behind_name n.quoted n)) (one_shallow a_name) (λ n.
    by_next_shallow (is_sign (codes "->")) (arrow_var (range.Relations n)) (behind_name n.quoted n) (arrow_shallow (range.Relations n)) (behind_name_shallow n.quoted n)))

columns_shallow : IsShallow columns
columns_shallow =
    behind_shallow (is_sign (codes "(")) (some name >>= λ cs. sign (codes ")") >>= λ _. gives cs)
    (then_shallow (some name) (λ cs. sign (codes ")") >>= λ _. gives cs) (listed_shallow (is_sign (codes ",")) name (one_shallow a_name)) (λ cs.
    behind_shallow (is_sign (codes ")")) (gives cs) (gives_shallow cs)))

target_shallow : IsShallow target
target_shallow =
    then_shallow name (λ db. sign (codes "::") >>= λ _. name >>= λ label. columns >>= λ cs. gives (head_of db label cs)) (one_shallow a_name) (λ db.
    behind_shallow (is_sign (codes "::")) (name >>= λ label. columns >>= λ cs. gives (head_of db label cs))
    (then_shallow name (λ label. columns >>= λ cs. gives (head_of db label cs)) (one_shallow a_name) (λ label.
    mapped_shallow columns (λ cs. head_of db label cs) columns_shallow)))

header_shallow : IsShallow header
header_shallow =
    behind_shallow (is_key (codes "create")) (key (codes "view") >>= λ _. target >>= λ h. key (codes "as") >>= λ _. gives h)
    (behind_shallow (is_key (codes "view")) (target >>= λ h. key (codes "as") >>= λ _. gives h)
    (then_shallow target (λ h. key (codes "as") >>= λ _. gives h) target_shallow (λ h.
    behind_shallow (is_key (codes "as")) (gives h) (gives_shallow h))))

selection_shallow : IsShallow selection
selection_shallow = behind_shallow (is_key (codes "select")) (some a_term) (listed_shallow (is_sign (codes ",")) a_term a_term_shallow)

declarations_shallow : IsShallow declarations
declarations_shallow = behind_shallow (is_key (codes "from")) (some decl) (listed_shallow (is_sign (codes ",")) decl decl_shallow)

end_shallow : IsShallow end
end_shallow = by_next_shallow (is_sign (codes ";")) closed finish (behind_shallow (is_sign (codes ";")) finish (just_shallow is_finish)) (just_shallow is_finish)

-- a given piece, and then a wider phrase
behind_wider : {A : Type 0} (test : Piece → Bool) (sample next_sample : Piece) → test sample ≡ true → (p p' : Phrase Piece A) (ok : Option Piece → Bool) → Wider p p' ok → Laws p' ok next_sample → Wider (just test >>= λ _. p) (just test >>= λ _. p') ok
behind_wider test sample next_sample e p p' ok w l =
    then_wider (just test) (just test) (λ _. p) (λ _. p') always ok sample next_sample (shallow_wider (just test) always (just_shallow test)) (λ _. w) (just_laws test sample e) (λ _. l) refl

module _ (u v : Phrase Piece Raw) (w : Wider u v after_term) (l : Laws v after_term word) where
  all_wider : Wider (all u) (all v) after_all
  all_wider = mapped_wider (listed (is_key (codes "and")) u) (listed (is_key (codes "and")) v) all_of after_all (list_wider (is_key (codes "and")) u v after_term word w l)

  any_wider : Wider (any u) (any v) after_any
  any_wider = mapped_wider (listed (is_key (codes "or")) (all u)) (listed (is_key (codes "or")) (all v)) any_of after_any (list_wider (is_key (codes "or")) (all u) (all v) after_all word all_wider (all_laws v l))

  negation_wider : Wider (negation u) (negation v) after_term
  negation_wider =
      behind_wider (is_key (codes "not")) (the_key (codes "not")) word refl (u >>= λ c. gives (NotRaw c)) (v >>= λ c. gives (NotRaw c)) after_term
      (mapped_wider u v (λ c. NotRaw c) after_term w) (mapped_laws v (λ c. NotRaw c) after_term word l)

  close_wider : (c : Raw) → Wider (sign (codes ")") >>= λ _. gives c) (sign (codes ")") >>= λ _. gives c) always
  close_wider c = shallow_wider (sign (codes ")") >>= λ _. gives c) always (behind_shallow (is_sign (codes ")")) (gives c) (gives_shallow c))

  group_wider : Wider (group u) (group v) after_term
  group_wider =
      less_wide (group u) (group v) always after_term (λ o h. refl)
      (behind_wider (is_sign (codes "(")) (the_sign (codes "(")) word refl (any u >>= λ c. sign (codes ")") >>= λ _. gives c) (any v >>= λ c. sign (codes ")") >>= λ _. gives c) always
      (then_wider (any u) (any v) (λ c. sign (codes ")") >>= λ _. gives c) (λ c. sign (codes ")") >>= λ _. gives c) after_any always word (the_sign (codes ")")) any_wider close_wider (any_laws v l) (close_laws v l) refl)
      (then_laws (any v) (λ c. sign (codes ")") >>= λ _. gives c) after_any always word (the_sign (codes ")")) (any_laws v l) (close_laws v l) refl))

  inside_wider : Wider (inside u) (inside v) after_term
  inside_wider = by_next_wider (is_key (codes "not")) (negation u) (negation v) (group u) (group v) after_term negation_wider group_wider

-- where a member is refused for its depth, one more level goes on
module _ (u : Phrase Piece Raw) (l : Laws u after_term word) where
  just_no : (test : Piece → Bool) (p : Piece) (ts rest : List Piece) → test p ≡ false → p ∷ ts ≡ rest → (just test).stops false (p ∷ ts) rest
  just_no test p ts rest h e = (ap (λ b. if b then Some tt else None) h, e)

  just_yes : (test : Piece → Bool) (p : Piece) (ts : List Piece) → test p ≡ true → (just test).reads (p ∷ ts) tt ts
  just_yes test p ts h = (ap (λ b. if b then Some tt else None) h, refl)

  inside_stops : (p : Piece) (ts rest : List Piece) (b : Bool) → is_key (codes "not") p ≡ b → (p ∷ ts ≡ rest) × ((b || is_sign (codes "(") p) ≡ false) → (inside u).stops false (p ∷ ts) rest
  inside_stops p ts rest true e s = absurd (true≢false s.1)
  inside_stops p ts rest false e s =
      subst (λ b. MatchBool b ((negation u).stops false (p ∷ ts) rest) ((group u).stops false (p ∷ ts) rest)) (sym e)
      (inl (just_no (is_sign (codes "(")) p ts rest s.1 s.0))

  limit_stops : (ts rest : List Piece) → (ts ≡ rest) × (passes opens (next ts) ≡ false) → (inside u).stops false ts rest
  limit_stops [] rest s = inl s.0
  limit_stops (p ∷ ts) rest s = inside_stops p ts rest (is_key (codes "not") p) refl s

  -- a NOT, and a member
  negation_goes : (p : Piece) (ts rest : List Piece) → is_key (codes "not") p ≡ true → p ∷ ts ≡ rest → GoesPast (inside u) after_term (p ∷ ts) rest
  negation_goes p ts rest e is = record {
    done = [];
    one = p;
    left = ts;
    is_rest = sym is;
    is = is;
    some = word ∷ l.some;
    value = NotRaw l.value;
    reads = λ us h. subst (λ b. MatchBool b ((negation u).reads (p ∷ word ∷ (l.some ++ us)) (NotRaw l.value) us) ((group u).reads (p ∷ word ∷ (l.some ++ us)) (NotRaw l.value) us)) (sym e) (
      tt,
      word ∷ (l.some ++ us),
      just_yes (is_key (codes "not")) p (word ∷ (l.some ++ us)) e,
      (l.value, us, l.some_reads us h, (refl, refl)),
    );
  }

  -- a parenthesis, a condition, and its end
  group_goes : (p : Piece) (ts rest : List Piece) → is_key (codes "not") p ≡ false → is_sign (codes "(") p ≡ true → p ∷ ts ≡ rest → GoesPast (inside u) after_term (p ∷ ts) rest
  group_goes p ts rest other e is =
      let m = any_laws u l in
      let close = the_sign (codes ")") in
      record {
        done = [];
        one = p;
        left = ts;
        is_rest = sym is;
        is = is;
        some = word ∷ (m.some ++ close ∷ []);
        value = m.value;
        reads = λ us h. subst (λ b. MatchBool b ((negation u).reads (p ∷ word ∷ ((m.some ++ close ∷ []) ++ us)) m.value us) ((group u).reads (p ∷ word ∷ ((m.some ++ close ∷ []) ++ us)) m.value us)) (sym other) (
          tt,
          word ∷ ((m.some ++ close ∷ []) ++ us),
          just_yes (is_sign (codes "(")) p (word ∷ ((m.some ++ close ∷ []) ++ us)) e,
          (
            m.value,
            close ∷ us,
            subst (λ ts. (any u).reads (word ∷ ts) m.value (close ∷ us)) (sym (append_assoc m.some (close ∷ []) us)) (m.some_reads (close ∷ us) refl),
            (tt, us, just_yes (is_sign (codes ")")) close us refl, (refl, refl)),
          ),
        );
      }

  opening_goes : (p : Piece) (ts rest : List Piece) (b : Bool) → is_key (codes "not") p ≡ b → (p ∷ ts ≡ rest) × ((b || is_sign (codes "(") p) ≡ true) → GoesPast (inside u) after_term (p ∷ ts) rest
  opening_goes p ts rest true e s = negation_goes p ts rest e s.0
  opening_goes p ts rest false e s = group_goes p ts rest e s.1 s.0

  limit_goes : (ts rest : List Piece) → (ts ≡ rest) × (passes opens (next ts) ≡ true) → GoesPast (inside u) after_term ts rest
  limit_goes [] rest s = absurd (true≢false (sym s.1))
  limit_goes (p ∷ ts) rest s = opening_goes p ts rest (is_key (codes "not") p) refl s

  limit_wider : Wider (limit opens) (inside u) after_term
  limit_wider = record { reads = λ ts a rest r. absurd r; stops = limit_stops; goes = limit_goes }

pub unit_wider : (levels : ℕ) → Wider (unit levels) (unit (suc levels)) after_term
unfolding unit
unit_wider zero = by_next_wider starts_term comparison comparison (limit opens) (inside (unit zero)) after_term (shallow_wider comparison after_term comparison_shallow) (limit_wider (unit zero) (unit_laws zero))
unit_wider (suc levels) =
    by_next_wider starts_term comparison comparison (inside (unit levels)) (inside (unit (suc levels))) after_term (shallow_wider comparison after_term comparison_shallow)
    (inside_wider (unit levels) (unit (suc levels)) (unit_wider levels) (unit_laws (suc levels)))

module _ (levels : ℕ) where
  filtered_wider : Wider (filtered levels) (filtered (suc levels)) always
  filtered_wider =
      let u = unit levels in
      let v = unit (suc levels) in
      behind_wider (is_key (codes "where")) (the_key (codes "where")) word refl (any u >>= λ c. end >>= λ _. gives (Some c)) (any v >>= λ c. end >>= λ _. gives (Some c)) always
      (then_wider (any u) (any v) (λ c. end >>= λ _. gives (Some c)) (λ c. end >>= λ _. gives (Some c)) after_any always word (the_sign (codes ";"))
      (any_wider u v (unit_wider levels) (unit_laws (suc levels)))
      (λ c. shallow_wider (end >>= λ _. gives (Some c)) always (mapped_shallow end (λ _. Some c) end_shallow))
      (any_laws v (unit_laws (suc levels)))
      (λ c. mapped_laws end (λ _. Some c) always (the_sign (codes ";")) end_laws) refl)
      (then_laws (any v) (λ c. end >>= λ _. gives (Some c)) after_any always word (the_sign (codes ";")) (any_laws v (unit_laws (suc levels))) (λ c.
      mapped_laws end (λ _. Some c) always (the_sign (codes ";")) end_laws) refl)

  ending_wider : Wider (ending levels) (ending (suc levels)) always
  ending_wider =
      by_next_wider (is_key (codes "where")) (filtered levels) (filtered (suc levels)) unfiltered unfiltered always filtered_wider
      (shallow_wider unfiltered always (mapped_shallow {B = Option Raw} end (λ _. None) end_shallow))

  pub view_wider : Wider (view levels) (view (suc levels)) always
  view_wider =
      then_wider header header (λ h. selection >>= λ select. declarations >>= λ decls. ending levels >>= λ c. gives (tree_with h select decls c)) (λ h. selection >>= λ select. declarations >>= λ decls. ending (suc levels) >>= λ c. gives (tree_with h select decls c)) always always (the_key (codes "create")) (the_key (codes "select"))
      (shallow_wider header always header_shallow) (λ h.
      then_wider selection selection (λ select. declarations >>= λ decls. ending levels >>= λ c. gives (tree_with h select decls c)) (λ select. declarations >>= λ decls. ending (suc levels) >>= λ c. gives (tree_with h select decls c)) (after_comma after_term) always (the_key (codes "select")) (the_key (codes "from"))
      (shallow_wider selection (after_comma after_term) selection_shallow) (λ select.
      then_wider declarations declarations (λ decls. ending levels >>= λ c. gives (tree_with h select decls c)) (λ decls. ending (suc levels) >>= λ c. gives (tree_with h select decls c)) (after_comma always) always (the_key (codes "from")) (the_key (codes "where"))
      (shallow_wider declarations (after_comma always) declarations_shallow) (λ decls.
      mapped_wider (ending levels) (ending (suc levels)) (λ c. tree_with h select decls c) always ending_wider)
      declarations_laws (λ decls. mapped_laws (ending (suc levels)) (λ c. tree_with h select decls c) always (the_key (codes "where")) (ending_laws (suc levels))) refl)
      selection_laws (λ select. from_declarations h select) refl)
      header_laws (λ h. from_selection h) refl
    where
      from_declarations : (h : Head) (select : List RawTerm) → Laws (declarations >>= λ decls. ending (suc levels) >>= λ c. gives (tree_with h select decls c)) always (the_key (codes "from"))
      from_declarations h select =
          then_laws declarations (λ decls. ending (suc levels) >>= λ c. gives (tree_with h select decls c)) (after_comma always) always (the_key (codes "from")) (the_key (codes "where")) declarations_laws (λ decls.
          mapped_laws (ending (suc levels)) (λ c. tree_with h select decls c) always (the_key (codes "where")) (ending_laws (suc levels))) refl

      from_selection : (h : Head) → Laws (selection >>= λ select. declarations >>= λ decls. ending (suc levels) >>= λ c. gives (tree_with h select decls c)) always (the_key (codes "select"))
      from_selection h =
          then_laws selection (λ select. declarations >>= λ decls. ending (suc levels) >>= λ c. gives (tree_with h select decls c)) (after_comma after_term) always (the_key (codes "select")) (the_key (codes "from")) selection_laws (λ select.
          from_declarations h select) refl

-- what is too deep is a NOT or a parenthesis
module _ (u : Phrase Piece Raw) (h : StopsAt opens u) where
  gives_stops : {A B : Type 0} (p : Phrase Piece A) (g : A → B) → StopsAt opens p → StopsAt opens (p >>= λ a. gives (g a))
  gives_stops p g k = then_stops_at opens p (λ a. gives (g a)) k (λ a. shallow_stops opens (gives (g a)) (gives_shallow (g a)))

  behind_stops : {A : Type 0} (test : Piece → Bool) (p : Phrase Piece A) → StopsAt opens p → StopsAt opens (just test >>= λ _. p)
  behind_stops test p k = then_stops_at opens (just test) (λ _. p) (shallow_stops opens (just test) (just_shallow test)) (λ _. k)

  any_stops : StopsAt opens (any u)
  any_stops = gives_stops (listed (is_key (codes "or")) (all u)) any_of (listed_stops_at opens (is_key (codes "or")) (all u) (gives_stops (listed (is_key (codes "and")) u) all_of (listed_stops_at opens (is_key (codes "and")) u h)))

  inside_stops_at : StopsAt opens (inside u)
  inside_stops_at =
      by_next_stops_at opens (is_key (codes "not")) (negation u) (group u)
      (behind_stops (is_key (codes "not")) (u >>= λ c. gives (NotRaw c)) (gives_stops u (λ c. NotRaw c) h))
      (behind_stops (is_sign (codes "(")) (any u >>= λ c. sign (codes ")") >>= λ _. gives c)
      (then_stops_at opens (any u) (λ c. sign (codes ")") >>= λ _. gives c) any_stops (λ c.
      shallow_stops opens (sign (codes ")") >>= λ _. gives c) (behind_shallow (is_sign (codes ")")) (gives c) (gives_shallow c)))))

pub unit_stops_at : (levels : ℕ) → StopsAt opens (unit levels)
unfolding unit
unit_stops_at zero = by_next_stops_at opens starts_term comparison (limit opens) (shallow_stops opens comparison comparison_shallow) (limit_stops_at Raw opens)
unit_stops_at (suc levels) = by_next_stops_at opens starts_term comparison (inside (unit levels)) (shallow_stops opens comparison comparison_shallow) (inside_stops_at (unit levels) (unit_stops_at levels))

pub view_stops_at : (levels : ℕ) → StopsAt opens (view levels)
view_stops_at levels =
    then_stops_at opens header (λ h. selection >>= λ select. declarations >>= λ decls. ending levels >>= λ c. gives (tree_with h select decls c)) (shallow_stops opens header header_shallow) (λ h.
    then_stops_at opens selection (λ select. declarations >>= λ decls. ending levels >>= λ c. gives (tree_with h select decls c)) (shallow_stops opens selection selection_shallow) (λ select.
    then_stops_at opens declarations (λ decls. ending levels >>= λ c. gives (tree_with h select decls c)) (shallow_stops opens declarations declarations_shallow) (λ decls.
    then_stops_at opens (ending levels) (λ c. gives (tree_with h select decls c)) ending_stops (λ c. shallow_stops opens (gives (tree_with h select decls c)) (gives_shallow (tree_with h select decls c))))))
  where
    ending_stops : StopsAt opens (ending levels)
    ending_stops =
        by_next_stops_at opens (is_key (codes "where")) (filtered levels) unfiltered
        (then_stops_at opens (key (codes "where")) (λ _. any (unit levels) >>= λ c. end >>= λ _. gives (Some c)) (shallow_stops opens (key (codes "where")) (just_shallow (is_key (codes "where")))) (λ _.
        then_stops_at opens (any (unit levels)) (λ c. end >>= λ _. gives (Some c)) (any_stops (unit levels) (unit_stops_at levels)) (λ c.
        shallow_stops opens (end >>= λ _. gives (Some c)) (mapped_shallow end (λ _. Some c) end_shallow))))
        (shallow_stops opens unfiltered (mapped_shallow {B = Option Raw} end (λ _. None) end_shallow))
