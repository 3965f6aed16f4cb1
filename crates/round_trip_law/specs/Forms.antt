-- Views from one form of data to another: the names stand as values, as columns, or as tables.
use Rattle.std.specs.Prelude.{ℕ, List, [], ◌∷◌, ◌++◌, map, length, Option, Some, None}
use Rattle.ss_text.specs.Texts.{Text, Row}
use Rattle.view_def.specs.declared.written.Op.TheVariants.{Ne}
use Rattle.view_def.specs.declared.typed.Place.TheVariants as place
use Rattle.view_def.specs.declared.typed.Term.{Term}
use Rattle.view_def.specs.declared.typed.Term.TheVariants as term
use Rattle.view_def.specs.declared.typed.Range.{Range}
use Rattle.view_def.specs.declared.typed.Range.TheVariants as range
use Rattle.view_def.specs.Conditions.{Condition, Conditions, AllOf, Compares, none, more}
use Rattle.view_def.specs.Query.{Query}

-- a relation by its names
pub record Named : Type 0 where
  pub db : Text
  pub rel : Text

-- the attributes where names are values: those of a key, that of the names, and that of the value which a name has for a key
pub record Parts : Type 0 where
  pub keys : Row
  pub name : Text
  pub value : Text

abbrev pub header : Parts → Row
header p = p.keys ++ p.name ∷ p.value ∷ []

-- what a view reads: its declarations, its condition, and the terms of a key, of a name, which is a variable, and of its value
pub record Source : Type 0 where
  pub decls : List Range
  pub condition : Option Condition
  pub keys : List Term
  pub name : ℕ
  pub value : Term

abbrev pub cell : ℕ → Text → Term
cell k name = term.Cell k (place.Fixed name)

-- `db::rel T, T.name N`
abbrev pub from_values : Parts → Named → Source
from_values p at = record {
  decls = range.Tuples (place.Fixed at.db) (place.Fixed at.rel) ∷ range.Alias 0 (place.Fixed p.name) ∷ [];
  condition = None;
  keys = map (cell 0) p.keys;
  name = 1;
  value = cell 0 p.value;
}

-- `N <> 'key'` for each key, and `T.N <> ''`
abbrev pub no_key_nor_empty : Row → Conditions
no_key_nor_empty [] = more (Compares (term.Cell 1 (place.Var 0)) Ne (term.Literal [])) none
no_key_nor_empty (key ∷ keys) = more (Compares (term.Var 0) Ne (term.Literal key)) (no_key_nor_empty keys)

-- `db::rel -> N, db::rel T`, where N is no key and its cell is not empty
abbrev pub from_columns : Parts → Named → Source
from_columns p at = record {
  decls = range.Attributes (place.Fixed at.db) (place.Fixed at.rel) ∷ range.Tuples (place.Fixed at.db) (place.Fixed at.rel) ∷ [];
  condition = Some (AllOf (no_key_nor_empty p.keys));
  keys = map (cell 1) p.keys;
  name = 0;
  value = term.Cell 1 (place.Var 0);
}

-- `db -> N, db::N T`
abbrev pub from_tables : Parts → Text → Source
from_tables p db = record {
  decls = range.Relations (place.Fixed db) ∷ range.Tuples (place.Fixed db) (place.Var 0) ∷ [];
  condition = None;
  keys = map (cell 1) p.keys;
  name = 0;
  value = cell 1 p.value;
}

-- `db::rel(keys, name, value)`
abbrev pub to_values : Parts → Named → Source → Query
to_values p to s = record {
  view_db = to.db;
  label = place.Fixed to.rel;
  constants = header p;
  keys = s.keys ++ term.Var s.name ∷ s.value ∷ [];
  spot = None;
  column = None;
  value = None;
  decls = s.decls;
  condition = s.condition;
}

-- `db::rel(keys, N)`
abbrev pub to_columns : Parts → Named → Source → Query
to_columns p to s = record {
  view_db = to.db;
  label = place.Fixed to.rel;
  constants = p.keys;
  keys = s.keys;
  spot = Some (length p.keys);
  column = Some (place.Var s.name);
  value = Some s.value;
  decls = s.decls;
  condition = s.condition;
}

-- `db::N(keys, value)`
abbrev pub to_tables : Parts → Text → Source → Query
to_tables p db s = record {
  view_db = db;
  label = place.Var s.name;
  constants = p.keys ++ p.value ∷ [];
  keys = s.keys ++ s.value ∷ [];
  spot = None;
  column = None;
  value = None;
  decls = s.decls;
  condition = s.condition;
}
