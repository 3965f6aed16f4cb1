-- Examples of typing: views of every kind, each refusal, and views that meet two causes at once.
use Rattle.std.proofs.Common.{◌≡◌, refl, List, [], ◌∷◌, map, Option, Some, None, Ok, Err, true, false}
use Rattle.std.specs.Prelude.{codes}
use Rattle.std.specs.Str.{is_utf8, chars}
use lib.Utf8.{encode}
use Rattle.ss_text.specs.Texts.{Text}
use Rattle.ss_text.specs.Label.{is_table_label}
use Rattle.view_def.specs.declared.written.Name.{Name}
use Rattle.view_def.specs.declared.written.Op.TheVariants.{Eq, Ne}
use Rattle.view_def.specs.declared.written.RawTerm.{RawTerm}
use Rattle.view_def.specs.declared.written.RawTerm.TheVariants as raw
use Rattle.view_def.specs.declared.written.RawRange.{RawRange}
use Rattle.view_def.specs.declared.written.RawRange.TheVariants as written
use Rattle.view_def.specs.declared.written.RawDecl.{RawDecl}
use Rattle.view_def.specs.declared.typed.Place.TheVariants.{Fixed, Var}
use Rattle.view_def.specs.declared.typed.Term.{Term}
use Rattle.view_def.specs.declared.typed.Term.TheVariants as term
use Rattle.view_def.specs.declared.typed.Range.TheVariants as range
use Rattle.view_def.specs.RawConditions.{Raw, CompareRaw}
use Rattle.view_def.specs.Conditions.{Compares}
use Rattle.view_def.specs.Tree.{ViewTree}
use Rattle.view_def.specs.Query.{Query}
use Rattle.var_typing.specs.declared.fault.TypeFault.{TypeFault}
use Rattle.var_typing.specs.declared.fault.TypeFault.TheVariants as fault
use Rattle.var_typing.specs.Typed.{typed}

abbrev n : Text → Name
n t = record { text = t; quoted = false }

abbrev quoted : Text → Name
quoted t = record { text = t; quoted = true }

abbrev D : Text
D = codes "D"

abbrev T : Text
T = codes "T"

abbrev dot : Text → Text → RawTerm
dot x a = raw.Dot x (n a)

abbrev decl : RawRange → Text → RawDecl
decl r x = record { range = r; var = x }

abbrev rows : Text → Text → RawDecl
rows r x = decl (written.Tuples (n (codes "d")) (n r)) x

abbrev attributes : Text → RawDecl
attributes x = decl (written.Attributes (n (codes "d")) (n (codes "r"))) x

abbrev alias : Text → Text → Text → RawDecl
alias t a x = decl (written.Alias t (n a)) x

abbrev view : List Text → List RawTerm → List RawDecl → Option Raw → ViewTree
view columns select decls c = record {
  view_db = n (codes "V");
  label = n (codes "t");
  columns = names columns;
  select = select;
  decls = decls;
  condition = c;
}
  where
    names : List Text → List Name
    names [] = []
    names (t ∷ ts) = n t ∷ names ts

abbrev a : Text
a = codes "a"

abbrev b : Text
b = codes "b"

abbrev c : Text
c = codes "c"

-- values to columns: the alias D is the one variable column
values_to_columns : typed (view (a ∷ D ∷ []) (dot T a ∷ dot T b ∷ []) (rows (codes "r") T ∷ alias T c D ∷ []) None) ≡ Ok (record {
  view_db = codes "V";
  label = Fixed (codes "t");
  constants = a ∷ [];
  keys = term.Cell 0 (Fixed a) ∷ [];
  spot = Some 1;
  column = Some (Var 1);
  value = Some (term.Cell 0 (Fixed b));
  decls = range.Tuples (Fixed (codes "d")) (Fixed (codes "r")) ∷ range.Alias 0 (Fixed c) ∷ [];
  condition = None;
})
unfolding typed is_table_label is_utf8 chars encode
values_to_columns = refl

abbrev columns_to_values : Name → ViewTree
columns_to_values attribute =
    view (a ∷ b ∷ c ∷ []) (dot T a ∷ raw.Lone D ∷ raw.Dot T attribute ∷ []) (attributes D ∷ rows (codes "r") T ∷ []) (Some (CompareRaw (raw.Lone D) Ne (raw.Literal a)))

abbrev columns_to_values_typed : Term → Query
columns_to_values_typed t = record {
  view_db = codes "V";
  label = Fixed (codes "t");
  constants = a ∷ b ∷ c ∷ [];
  keys = term.Cell 1 (Fixed a) ∷ term.Var 0 ∷ t ∷ [];
  spot = None;
  column = None;
  value = None;
  decls = range.Attributes (Fixed (codes "d")) (Fixed (codes "r")) ∷ range.Tuples (Fixed (codes "d")) (Fixed (codes "r")) ∷ [];
  condition = Some (Compares (term.Var 0) Ne (term.Literal a));
}

unquoted_is_the_variable : typed (columns_to_values (n D)) ≡ Ok (columns_to_values_typed (term.Cell 1 (Var 0)))
unfolding typed is_table_label is_utf8 chars encode
unquoted_is_the_variable = refl

quoted_is_a_constant : typed (columns_to_values (quoted D)) ≡ Ok (columns_to_values_typed (term.Cell 1 (Fixed D)))
unfolding typed is_table_label is_utf8 chars encode
quoted_is_a_constant = refl

abbrev relation : Text
relation = codes "r"

abbrev E : Text
E = codes "E"

-- a view over these declarations, of the column a alone
abbrev over : List RawDecl → ViewTree
over ds = view (a ∷ []) (dot T a ∷ []) ds None

-- a view over one relation
abbrev of_one : List Text → List RawTerm → ViewTree
of_one columns select = view columns select (rows relation T ∷ []) None

abbrev equal : RawTerm → RawTerm → Option Raw
equal s t = Some (CompareRaw s Eq t)

abbrev named : Name → Name → ViewTree
named db label = record (of_one (a ∷ []) (dot T a ∷ [])) { view_db = db; label = label }

-- each refusal alone
abbrev alone : List (ViewTree × TypeFault)
alone =
    (over (rows relation T ∷ rows (codes "s") T ∷ []), fault.DeclaredTwice T)
    ∷ (of_one (a ∷ []) (dot (codes "B") a ∷ []), fault.NotDeclared (codes "B"))
    ∷ (of_one (a ∷ []) (raw.Lone a ∷ []), fault.NotDeclared a)
    ∷ (over (rows D T ∷ attributes D ∷ []), fault.NotDeclared D)
    ∷ (over (alias T b D ∷ rows relation T ∷ []), fault.NotDeclared T)
    ∷ (named (n (codes "V")) (n T), fault.WrongKind T)
    ∷ (named (n T) (n (codes "t")), fault.WrongKind T)
    ∷ (over (attributes D ∷ rows relation T ∷ alias D b E ∷ []), fault.WrongKind D)
    ∷ (over (rows relation T ∷ rows T E ∷ []), fault.WrongKind T)
    ∷ (of_one (T ∷ a ∷ []) (dot T a ∷ dot T b ∷ []), fault.WrongKind T)
    ∷ (of_one (a ∷ []) (raw.Lone T ∷ []), fault.WrongKind T)
    ∷ (of_one (a ∷ []) (dot T T ∷ []), fault.WrongKind T)
    ∷ (view (a ∷ D ∷ E ∷ []) (dot T a ∷ dot T b ∷ dot T c ∷ []) (rows relation T ∷ alias T b D ∷ alias T c E ∷ []) None, fault.TwoVariableColumns E)
    ∷ (view (a ∷ D ∷ D ∷ []) (dot T a ∷ dot T b ∷ dot T c ∷ []) (rows relation T ∷ alias T b D ∷ []) None, fault.TwoVariableColumns D)
    ∷ (view (a ∷ b ∷ []) (dot T D ∷ dot T E ∷ []) (attributes D ∷ attributes E ∷ rows relation T ∷ []) None, fault.TwoFolds T)
    ∷ (view (a ∷ []) (dot T D ∷ []) (attributes D ∷ attributes E ∷ rows relation T ∷ alias T E c ∷ []) None, fault.TwoFolds T)
    ∷ (view (a ∷ []) (dot T D ∷ []) (attributes D ∷ attributes E ∷ rows relation T ∷ []) (equal (raw.Literal a) (dot T E)), fault.TwoFolds T)
    ∷ (over (attributes D ∷ attributes E ∷ rows relation T ∷ alias T D b ∷ alias T E c ∷ []), fault.TwoFolds T)
    ∷ (of_one (a ∷ a ∷ []) (dot T a ∷ dot T b ∷ []), fault.ColumnTwice a)
    ∷ (record (of_one (a ∷ b ∷ []) (dot T a ∷ dot T b ∷ [])) { columns = n a ∷ quoted a ∷ [] }, fault.ColumnTwice a)
    ∷ (of_one (a ∷ []) (dot T a ∷ dot T b ∷ []), fault.CountDiffers 1 2)
    ∷ (view (D ∷ []) (dot T a ∷ []) (rows relation T ∷ alias T b D ∷ []) None, fault.NoConstantColumn)
    ∷ (over (rows relation T ∷ rows relation a ∷ rows relation b ∷ rows relation c ∷ rows relation D ∷ []), fault.TooMany D)
    ∷ (over (attributes a ∷ attributes b ∷ attributes c ∷ attributes D ∷ attributes E ∷ attributes (codes "F") ∷ attributes (codes "G") ∷ attributes (codes "H") ∷ attributes (codes "I") ∷ []), fault.TooMany (codes "I"))
    ∷ (named (quoted (codes ".x")) (n (codes "t")), fault.BadLabel (codes ".x"))
    ∷ (named (n (codes "V")) (quoted (codes "x/y")), fault.BadLabel (codes "x/y"))
    ∷ []

-- two causes, of which the first on the walk is answered
abbrev two_causes : List (ViewTree × TypeFault)
two_causes =
    -- a variable is not declared before itself
    (over (rows T T ∷ []), fault.NotDeclared T)
    -- the number before the range, the range before the variable
    ∷ (over (rows relation T ∷ rows relation a ∷ rows relation b ∷ rows relation c ∷ rows E T ∷ attributes E ∷ []), fault.TooMany T)
    ∷ (over (rows relation T ∷ rows T T ∷ []), fault.WrongKind T)
    ∷ (over (rows relation T ∷ rows E T ∷ attributes E ∷ []), fault.NotDeclared E)
    -- the names of a range from the left
    ∷ (over (rows relation T ∷ decl (written.Tuples (n T) (n E)) D ∷ attributes E ∷ []), fault.WrongKind T)
    ∷ (over (decl (written.Alias (codes "B") (n E)) D ∷ attributes E ∷ []), fault.NotDeclared (codes "B"))
    -- an alias: its tuple variable, its attribute, its fold, its own variable
    ∷ (over (attributes D ∷ rows relation T ∷ alias D T E ∷ []), fault.WrongKind D)
    ∷ (over (attributes D ∷ rows relation T ∷ alias T D a ∷ alias T T a ∷ []), fault.WrongKind T)
    ∷ (over (attributes D ∷ attributes E ∷ rows relation T ∷ alias T D a ∷ alias T E a ∷ []), fault.TwoFolds T)
    -- declarations from the left, and before the header
    ∷ (over (rows relation T ∷ rows relation T ∷ rows E D ∷ attributes E ∷ []), fault.DeclaredTwice T)
    ∷ (record (over (rows relation T ∷ rows relation T ∷ [])) { view_db = quoted [] }, fault.DeclaredTwice T)
    -- the view database, the table label, the columns from the left
    ∷ (named (quoted (codes "/")) (n T), fault.BadLabel (codes "/"))
    ∷ (record (of_one (a ∷ a ∷ []) (dot T a ∷ [])) { label = n T }, fault.WrongKind T)
    ∷ (view (a ∷ D ∷ T ∷ []) (dot T a ∷ []) (rows relation T ∷ alias T b D ∷ []) None, fault.WrongKind T)
    ∷ (view (a ∷ a ∷ D ∷ D ∷ []) (dot T a ∷ []) (rows relation T ∷ alias T b D ∷ []) None, fault.ColumnTwice a)
    ∷ (view (D ∷ D ∷ []) (dot T a ∷ []) (rows relation T ∷ alias T b D ∷ []) None, fault.TwoVariableColumns D)
    -- no constant column before the numbers, the numbers before the terms
    ∷ (view (D ∷ []) (dot T a ∷ dot E b ∷ []) (rows relation T ∷ alias T b D ∷ []) None, fault.NoConstantColumn)
    ∷ (of_one (a ∷ []) (dot E a ∷ dot T b ∷ []), fault.CountDiffers 1 2)
    -- a term: the identifier before the point, its attribute, its fold
    ∷ (view (a ∷ []) (dot D T ∷ []) (attributes D ∷ rows relation T ∷ []) None, fault.WrongKind D)
    ∷ (of_one (a ∷ []) (dot E T ∷ []), fault.NotDeclared E)
    ∷ (view (a ∷ b ∷ []) (dot T D ∷ dot T T ∷ []) (attributes D ∷ rows relation T ∷ []) None, fault.WrongKind T)
    -- the terms from the left, those of SELECT before those of the condition
    ∷ (view (a ∷ []) (raw.Lone T ∷ []) (rows relation T ∷ []) (equal (raw.Lone E) (raw.Lone D)), fault.WrongKind T)
    ∷ (view (a ∷ []) (dot T a ∷ []) (rows relation T ∷ []) (equal (raw.Lone E) (raw.Lone D)), fault.NotDeclared E)
    ∷ []

refusals : map (λ (p : ViewTree × TypeFault). typed p.0) alone ≡ map (λ (p : ViewTree × TypeFault). Err p.1) alone
unfolding typed is_table_label is_utf8 chars encode
refusals = refl

first_refusals : map (λ (p : ViewTree × TypeFault). typed p.0) two_causes ≡ map (λ (p : ViewTree × TypeFault). Err p.1) two_causes
unfolding typed is_table_label is_utf8 chars encode
first_refusals = refl

-- one variable twice in the attribute place is one fold
accepted_twice : typed (view (a ∷ b ∷ []) (dot T D ∷ dot T D ∷ []) (attributes D ∷ rows relation T ∷ []) None) ≡ Ok (record {
  view_db = codes "V";
  label = Fixed (codes "t");
  constants = a ∷ b ∷ [];
  keys = term.Cell 1 (Var 0) ∷ term.Cell 1 (Var 0) ∷ [];
  spot = None;
  column = None;
  value = None;
  decls = range.Attributes (Fixed (codes "d")) (Fixed (codes "r")) ∷ range.Tuples (Fixed (codes "d")) (Fixed (codes "r")) ∷ [];
  condition = None;
})
unfolding typed is_table_label is_utf8 chars encode
accepted_twice = refl
