-- What identifiers and names stand for.
use Rattle.std.specs.Prelude.{ℕ, Bool, true, false, not, nat_le, List, slice_get, Option, Some, None, unwrap_or, position, if◌then◌else◌}
use Rattle.std.specs.Option.{option_map_or}
use Rattle.ss_text.specs.Texts.{Text, text_eq}
use Rattle.view_def.specs.declared.written.Name.{Name}
use Rattle.view_def.specs.declared.written.RawRange.{RawRange}
use Rattle.view_def.specs.declared.written.RawRange.TheVariants as range
use Rattle.view_def.specs.declared.written.RawDecl.{RawDecl}
use Rattle.view_def.specs.declared.typed.Place.{Place}
use Rattle.view_def.specs.declared.typed.Place.TheVariants as place
use Rattle.var_typing.specs.declared.fault.TypeFault.{TypeFault}
use Rattle.var_typing.specs.declared.fault.TypeFault.TheVariants.{NotDeclared, WrongKind}
use Rattle.var_typing.specs.Refusals.{where_true, ◌or_else◌}

-- the place of the declaration of an identifier, the first where there are several
abbrev pub declared_at : List RawDecl → Text → Option ℕ
declared_at ds x = position (λ (d : RawDecl). text_eq d.var x) ds

abbrev pub lists_tuples : RawRange → Bool
lists_tuples (range.Tuples db rel) = true
lists_tuples r = false

-- whether the declaration at a place is that of a tuple variable
abbrev pub is_tuple : List RawDecl → ℕ → Bool
is_tuple ds k = option_map_or (λ (d : RawDecl). lists_tuples d.range) (slice_get ds k) false

-- the variable of a name: of one that is not quoted and that some declaration has
abbrev pub variable_named : List RawDecl → Name → Option ℕ
variable_named ds n = if n.quoted then None else declared_at ds n.text

-- a name stands for its variable, where it has one, and else for its text
abbrev pub variable_or : Text → Option ℕ → Place
variable_or t None = place.Fixed t
variable_or t (Some k) = place.Var k

abbrev pub place_named : List RawDecl → Name → Place
place_named ds n = variable_or n.text (variable_named ds n)

-- a variable has to be in sight, that is, one of so many first declarations, and no tuple variable
abbrev pub visible_fault : List RawDecl → ℕ → Text → Option ℕ → Option TypeFault
visible_fault ds visible x None = None
visible_fault ds visible x (Some k) = where_true (nat_le visible k) (NotDeclared x) or_else where_true (is_tuple ds k) (WrongKind x)

abbrev pub name_fault : List RawDecl → ℕ → Name → Option TypeFault
name_fault ds visible n = visible_fault ds visible n.text (variable_named ds n)

-- an identifier before a point: it has to be a tuple variable in sight
abbrev pub tuple_at_fault : List RawDecl → ℕ → Text → Option ℕ → Option TypeFault
tuple_at_fault ds visible x None = Some (NotDeclared x)
tuple_at_fault ds visible x (Some k) = where_true (nat_le visible k) (NotDeclared x) or_else where_true (not (is_tuple ds k)) (WrongKind x)

abbrev pub tuple_fault : List RawDecl → ℕ → Text → Option TypeFault
tuple_fault ds visible x = tuple_at_fault ds visible x (declared_at ds x)

-- the place of an identifier that is declared
abbrev pub variable_at : List RawDecl → Text → ℕ
variable_at ds x = unwrap_or (declared_at ds x) 0
