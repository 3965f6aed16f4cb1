-- The declarations, from left to right.
use Rattle.std.specs.Prelude.{ℕ, Bool, true, false, ◌&&◌, ◌||◌, nat_le, List, [], length, flat_map, count_by, Option, None, is_some}
use Rattle.view_def.specs.declared.written.RawRange.{RawRange}
use Rattle.view_def.specs.declared.written.RawRange.TheVariants as raw
use Rattle.view_def.specs.declared.written.RawDecl.{RawDecl}
use Rattle.view_def.specs.declared.typed.Range.{Range}
use Rattle.view_def.specs.declared.typed.Range.TheVariants as range
use Rattle.var_typing.specs.declared.fault.TypeFault.{TypeFault}
use Rattle.var_typing.specs.declared.fault.TypeFault.TheVariants.{TooMany, DeclaredTwice}
use Rattle.var_typing.specs.declared.folds.Fold.{Fold}
use Rattle.var_typing.specs.Refusals.{where_true, ◌or_else◌, in_turn}
use Rattle.var_typing.specs.Scope.{declared_at, place_named, variable_at, name_fault}
use Rattle.var_typing.specs.Folds.{fold_of, attribute_fault}

-- whether a declaration ranges over tuples or column values, and is no alias
abbrev pub ranges_over_rows : RawDecl → Bool
ranges_over_rows d = over_rows d.range
  where
    over_rows : RawRange → Bool
    over_rows (raw.Tuples db rel) = true
    over_rows (raw.Values db rel a) = true
    over_rows r = false

-- the ninth declaration, or the fifth that ranges over rows
abbrev pub too_many : List RawDecl → RawDecl → Option TypeFault
too_many before d = where_true (nat_le 8 (length before) || (ranges_over_rows d && nat_le 4 (count_by ranges_over_rows before))) (TooMany d.var)

-- the names of a range from left to right, where so many declarations are in sight and these folds stand before
abbrev pub range_fault : List RawDecl → ℕ → List Fold → RawRange → Option TypeFault
range_fault ds visible folds raw.Databases = None
range_fault ds visible folds (raw.Relations db) = name_fault ds visible db
range_fault ds visible folds (raw.Attributes db rel) = name_fault ds visible db or_else name_fault ds visible rel
range_fault ds visible folds (raw.Tuples db rel) = name_fault ds visible db or_else name_fault ds visible rel
range_fault ds visible folds (raw.Values db rel a) = name_fault ds visible db or_else name_fault ds visible rel or_else name_fault ds visible a
range_fault ds visible folds (raw.Alias x a) = attribute_fault ds visible folds x a

-- the variable of a declaration, where an earlier one has it too
abbrev pub declared_twice : List RawDecl → RawDecl → Option TypeFault
declared_twice before d = where_true (is_some (declared_at before d.var)) (DeclaredTwice d.var)

abbrev pub range_folds : List RawDecl → RawRange → List Fold
range_folds ds (raw.Alias x a) = fold_of ds x a
range_folds ds r = []

-- the folds of the aliases among these
abbrev pub alias_folds : List RawDecl → List RawDecl → List Fold
alias_folds ds before = flat_map (λ (d : RawDecl). range_folds ds d.range) before

-- a declaration after these, and after these folds: its number, its range, and then its variable
abbrev pub declaration_after : List RawDecl → List Fold → List RawDecl → RawDecl → Option TypeFault
declaration_after ds folds before d = too_many before d or_else range_fault ds (length before) folds d.range or_else declared_twice before d

abbrev pub declaration_fault : List RawDecl → List RawDecl → RawDecl → Option TypeFault
declaration_fault ds before d = declaration_after ds (alias_folds ds before) before d

abbrev pub declarations_fault : List RawDecl → Option TypeFault
declarations_fault ds = in_turn (declaration_fault ds) [] ds

abbrev pub typed_range : List RawDecl → RawRange → Range
typed_range ds raw.Databases = range.Databases
typed_range ds (raw.Relations db) = range.Relations (place_named ds db)
typed_range ds (raw.Attributes db rel) = range.Attributes (place_named ds db) (place_named ds rel)
typed_range ds (raw.Tuples db rel) = range.Tuples (place_named ds db) (place_named ds rel)
typed_range ds (raw.Values db rel a) = range.Values (place_named ds db) (place_named ds rel) (place_named ds a)
typed_range ds (raw.Alias x a) = range.Alias (variable_at ds x) (place_named ds a)
