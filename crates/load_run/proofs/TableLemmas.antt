-- Each record of the table has a field.
use Rattle.std.proofs.Common.{◌≡◌, Some, sym, subst}
use Rattle.ss_text.specs.Texts.{Text}
use Rattle.schema_model.specs.Catalogue.{CatalogueValue}
use Rattle.view_def.specs.Query.{Query}
use Rattle.flow_law.specs.Tables.{TableValue, table_of}
use Rattle.view_meaning.specs.Meaning.{shape_of, meaning}
use Rattle.view_folder.specs.TableFiles.{FitsShape, FitShape}
use Rattle.view_folder.proofs.LaterLemmas.{fits_of}
use Rattle.view_session.specs.Session.{SessionState, tables_of}
use Rattle.view_stages.proofs.TableLemmas.{meaning_fits}
use Rattle.load_run.specs.Start.{query}

fits_here : (c : CatalogueValue) → FitShape (shape_of query) (meaning c query)
fits_here c = meaning_fits c query (λ e. absurd (cc)) (λ e. absurd (cc))

pub table_fits : (s : SessionState) (l : Text) (t : TableValue) → s.query ≡ query → Some t ≡ table_of (tables_of s) l → FitsShape (shape_of s.query) t
table_fits s l t e = subst (λ (q : Query). Some t ≡ table_of (meaning s.catalogue q) l → FitsShape (shape_of q) t) (sym e) (fits_of (shape_of query) (meaning s.catalogue query) l t (fits_here s.catalogue))
