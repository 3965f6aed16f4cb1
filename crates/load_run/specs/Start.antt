-- What a run begins with.
use Rattle.std.specs.Prelude.{[], ◌∷◌, Some, None, codes}
use Rattle.ss_text.specs.Texts.{Row}
use Rattle.schema_model.specs.Catalogue.{CatalogueValue, relation_value, database_value}
use Rattle.view_def.specs.declared.typed.Place.TheVariants.{Fixed, Var}
use Rattle.view_def.specs.declared.typed.Term.TheVariants.{Cell}
use Rattle.view_def.specs.declared.typed.Range.TheVariants.{Tuples, Alias}
use Rattle.view_def.specs.Query.{Query}

abbrev pub header : Row
header = codes "k" ∷ codes "d" ∷ codes "v" ∷ []

-- a database with a relation without rows
abbrev pub catalogue : CatalogueValue
catalogue = database_value (codes "g") (relation_value (codes "r") header [] ∷ []) ∷ []

-- the view `create view G::t(k, D) as select T.k, T.v from g::r T, T.d D`
abbrev pub query : Query
query = record {
  view_db = codes "G";
  label = Fixed (codes "t");
  constants = codes "k" ∷ [];
  keys = Cell 0 (Fixed (codes "k")) ∷ [];
  spot = Some 1;
  column = Some (Var 1);
  value = Some (Cell 0 (Fixed (codes "v")));
  decls = Tuples (Fixed (codes "g")) (Fixed (codes "r")) ∷ Alias 0 (Fixed (codes "d")) ∷ [];
  condition = None;
}
