use Rattle.std.proofs.Common.{◌≡◌, ◌++◌, [], drop, map}
use Rattle.view_def.specs.Query.{query_of}
use Rattle.plan_law.specs.Columns.{headers_from}
use Rattle.plan_form.specs.Bases.{base_value, bases_from}
use Rattle.plan_form.proofs.form.bases_of.Given as goal

-- what is left comes behind
abbrev pub invariant-loop-declaration : goal.invariant-loop-declaration
invariant-loop-declaration l = record {
  bases : map base_value l.bases.items ++ bases_from (query_of l.view) l.header.items l.declaration (drop l.declaration l.view.decls.items) ≡ bases_from (query_of l.view) [] 0 l.view.decls.items;
  header : l.header.items ++ headers_from (query_of l.view) l.declaration (drop l.declaration l.view.decls.items) ≡ headers_from (query_of l.view) 0 l.view.decls.items;
}
