-- What a view gives over a catalogue, as its files.
use Rattle.std.proofs.Common.{◌≡◌, Option, None, Some, refl}
use Rattle.ss_text.specs.Texts.{Row}
use Rattle.schema_model.specs.Catalogue.{CatalogueValue}
use Rattle.view_def.specs.Query.{Query}
use Rattle.flow_law.specs.Facts.{illegal, conflict, first_refusal, refusal_by}
use Rattle.view_meaning.specs.Meaning.{facts, shape_of, meaning}
use Rattle.view_meaning.specs.Refusal.{refusal}
use Rattle.flow_law.specs.declared.refused.EvalFault.{EvalFault}
use Rattle.flow_law.specs.declared.refused.EvalFault.TheVariants as fault
use Rattle.view_folder.specs.Files.{AreViewFiles}
use Rattle.view_folder.proofs.OpeningLemmas.{are_view_files as tables_files}
use Rattle.view_folder.specs.TableFiles.{FitShape}
use Rattle.ss_print.specs.Fields.{illegal_fields, clash_fields}
use Rattle.flow_law.specs.declared.refused.IllegalLabel.{IllegalLabel}
use Rattle.flow_law.specs.declared.refused.Clash.{Clash}
use Rattle.view_session.proofs.UpkeepLemmas.{meaning_in_order}
use Rattle.view_stages.proofs.TableLemmas.{meaning_fits as fits}
use Rattle.view_stages.specs.Stages.{files_of_view, refusal_of}
use Rattle.view_stages.specs.Records.{HasRecords}

-- the files of a view's tables
pub are_view_files : (c : CatalogueValue) (q : Query) → AreViewFiles (files_of_view c q)
unfolding files_of_view
are_view_files c q = tables_files (shape_of q) (meaning c q) (meaning_in_order c q)

pub meaning_fits : (c : CatalogueValue) (q : Query) → HasRecords q → FitShape (shape_of q) (meaning c q)
meaning_fits c q h = fits c q h.columns h.terms

-- the fields of a refusal, where the fault is known
module _ (i : Option IllegalLabel) (k : Option Clash) where
  abbrev first_fault : Option EvalFault
  first_fault = first_refusal fault.Illegal fault.Conflict i k

  abbrev fields : Option Row
  fields = first_refusal illegal_fields clash_fields i k

no_fault : (i : Option IllegalLabel) (k : Option Clash) → first_fault i k ≡ None → fields i k ≡ None
no_fault None None h = refl
no_fault None (Some clash) h = absurd (cc)
no_fault (Some label) k h = absurd (cc)

label_fault : (i : Option IllegalLabel) (k : Option Clash) (e : IllegalLabel) → first_fault i k ≡ Some (fault.Illegal e) → fields i k ≡ Some (illegal_fields e)
label_fault None None e h = absurd (cc)
label_fault None (Some clash) e h = absurd (cc)
label_fault (Some label) k e h = cc

clash_fault : (i : Option IllegalLabel) (k : Option Clash) (e : Clash) → first_fault i k ≡ Some (fault.Conflict e) → fields i k ≡ Some (clash_fields e)
clash_fault None None e h = absurd (cc)
clash_fault None (Some clash) e h = cc
clash_fault (Some label) k e h = absurd (cc)

pub not_refused : (c : CatalogueValue) (q : Query) → refusal c q ≡ None → refusal_of c q ≡ None
unfolding refusal_of refusal refusal_by
not_refused c q = no_fault (illegal (shape_of q) (facts c q)) (conflict (facts c q))

pub refused_label : (c : CatalogueValue) (q : Query) (e : IllegalLabel) → refusal c q ≡ Some (fault.Illegal e) → refusal_of c q ≡ Some (illegal_fields e)
unfolding refusal_of refusal refusal_by
refused_label c q = label_fault (illegal (shape_of q) (facts c q)) (conflict (facts c q))

pub refused_clash : (c : CatalogueValue) (q : Query) (e : Clash) → refusal c q ≡ Some (fault.Conflict e) → refusal_of c q ≡ Some (clash_fields e)
unfolding refusal_of refusal refusal_by
refused_clash c q = clash_fault (illegal (shape_of q) (facts c q)) (conflict (facts c q))
