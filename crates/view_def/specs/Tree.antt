-- A view definition as it is written, as plain data.
use Rattle.std.specs.Prelude.{List, Option, option_map}
use Rattle.view_def.specs.declared.written.Name.{Name}
use Rattle.view_def.specs.declared.written.RawTerm.{RawTerm}
use Rattle.view_def.specs.declared.written.RawDecl.{RawDecl}
use Rattle.view_def.specs.declared.written.ViewText.{ViewText}
use Rattle.view_def.specs.RawConditions.{Raw, raw_of}

pub record ViewTree : Type 0 where
  pub view_db : Name
  pub label : Name
  pub columns : List Name
  pub select : List RawTerm
  pub decls : List RawDecl
  pub condition : Option Raw

abbrev pub tree_of : ViewText → ViewTree
tree_of v = record {
  view_db = v.view_db;
  label = v.label;
  columns = v.columns.items;
  select = v.select.items;
  decls = v.decls.items;
  condition = option_map raw_of v.filter;
}
