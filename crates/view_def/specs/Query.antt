-- A typed view as plain data.
use Rattle.std.specs.Prelude.{ℕ, List, Option, option_map}
use Rattle.ss_text.specs.Texts.{Text, Row}
use Rattle.view_def.specs.declared.typed.Place.{Place}
use Rattle.view_def.specs.declared.typed.Term.{Term}
use Rattle.view_def.specs.declared.typed.Range.{Range}
use Rattle.view_def.specs.declared.typed.View.{View}
use Rattle.view_def.specs.Conditions.{Condition, condition_of}

pub record Query : Type 0 where
  pub view_db : Text
  pub label : Place
  pub constants : Row
  pub keys : List Term
  pub spot : Option ℕ
  pub column : Option Place
  pub value : Option Term
  pub decls : List Range
  pub condition : Option Condition

abbrev pub query_of : View → Query
query_of w = record {
  view_db = w.view_db;
  label = w.label;
  constants = w.constants;
  keys = w.keys.items;
  spot = w.spot;
  column = w.column;
  value = w.value;
  decls = w.decls.items;
  condition = option_map condition_of w.filter;
}
