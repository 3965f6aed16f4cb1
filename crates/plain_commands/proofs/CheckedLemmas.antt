-- A run of `check` or of `verify` that ended with the status 0.
use Rattle.std.proofs.Common.{◌≡◌, ℕ, List, [], Option, None, Some, refl, ap, ◌∙◌}
use Rattle.std.specs.Prelude.{Result, Ok, Err}
use Rattle.ss_text.specs.Texts.{Text, Row}
use Rattle.outside.specs.Streams.{with_bytes}
use Rattle.outside.specs.Tree.{Tree}
use Rattle.outside.specs.Effects.{World, Contents, contents}
use Rattle.schema_model.specs.Catalogue.{CatalogueValue}
use Rattle.view_folder.specs.Files.{view_folder}
use Rattle.view_folder.specs.Comparison.{comparison}
use Rattle.view_folder.specs.declared.comparison.Comparison.{Comparison}
use Rattle.view_folder.specs.declared.comparison.Comparison.TheVariants as compared
use Rattle.view_folder.proofs.ComparisonLemmas.{same_holds}
use Rattle.ss_print.specs.Printing.{same_line}
use Rattle.course.specs.declared.exit.Status.{Status}
use Rattle.course.specs.declared.exit.Status.TheVariants as status
use Rattle.course.specs.Course.{Finished, Did, is_done_status, unread}
use Rattle.course.proofs.RunLemmas.{done_finished}
use Rattle.view_stages.specs.Stages.{DefinitionOrRefusal, Accepted, loaded_or_refused, refusal_of, files_of_view}
use Rattle.plain_commands.specs.Checking.{checked}
use Rattle.plain_commands.specs.Verifying.{by_comparison, verified_view, verified_over, verified}
use Rattle.plain_commands.specs.Promises.{IsChecked, IsVerified}

module _ (old new : World) (s : Status) (done : s ≡ status.Done) where
  finished_checked : (d : DefinitionOrRefusal) → Finished (checked d) old new s → IsChecked d old new
  unfolding contents
  finished_checked (Err fields) f = absurd (cc (f.status))
  finished_checked (Ok a) f = record { accepted = a; defined = refl; printed = ap (λ (x : Contents). x.held) f.done }

  -- the folder is the same
  compared_same : (d : DefinitionOrRefusal) (t : Tree) (a : Accepted) (c : CatalogueValue) → d ≡ Ok a → loaded_or_refused t ≡ Ok c → refusal_of c a.query ≡ None
      → (r : Comparison) → comparison (view_folder a.query.view_db) (files_of_view c a.query) t ≡ r → Finished (by_comparison r) old new s → IsVerified d t old new
  unfolding contents
  compared_same d t a c defined loaded judged (compared.Differs file held meant) is f = absurd (cc (f.status))
  compared_same d t a c defined loaded judged (compared.Same n) is f =
      let holds = same_holds (view_folder a.query.view_db) (files_of_view c a.query) t n is in
      record {
        opened = record { accepted = a; catalogue = c; defined = defined; loaded = loaded; unrefused = judged };
        files = holds.0;
        printed = ap (λ (x : Contents). x.held) f.done ∙ ap (λ m. with_bytes (same_line m) old.output.held) holds.1;
      }

  by_view : (d : DefinitionOrRefusal) (t : Tree) (a : Accepted) (c : CatalogueValue) → d ≡ Ok a → loaded_or_refused t ≡ Ok c → (o : Option Row) → refusal_of c a.query ≡ o → Finished (verified_view t a.query c o) old new s → IsVerified d t old new
  by_view d t a c defined loaded (Some fields) judged f = absurd (cc (f.status))
  by_view d t a c defined loaded None judged f = compared_same d t a c defined loaded judged (comparison (view_folder a.query.view_db) (files_of_view c a.query) t) refl f

  by_catalogue : (d : DefinitionOrRefusal) (t : Tree) (a : Accepted) → d ≡ Ok a → (r : Result CatalogueValue Row) → loaded_or_refused t ≡ r → Finished (verified_over t a.query r) old new s → IsVerified d t old new
  by_catalogue d t a defined (Err fields) loaded f = absurd (cc (f.status))
  by_catalogue d t a defined (Ok c) loaded f = by_view d t a c defined loaded (refusal_of c a.query) refl f

  finished_verified : (d : DefinitionOrRefusal) (t : Tree) → Finished (verified t d) old new s → IsVerified d t old new
  finished_verified (Err fields) t f = absurd (cc (f.status))
  finished_verified (Ok a) t f = by_catalogue (Ok a) t a refl (loaded_or_refused t) refl f

pub did_check : (name : Text) (t : Tree) (d : DefinitionOrRefusal) (rest : Option (List ℕ)) (old new : World) (s : Status) → s ≡ status.Done → Did (unread (checked d)) [] rest old new s → IsChecked d old new
did_check name t d rest old new s done h = finished_checked old new s done d (done_finished (unread (checked d)) [] rest old new s (ap is_done_status done) h)

pub did_verify : (name : Text) (t : Tree) (d : DefinitionOrRefusal) (rest : Option (List ℕ)) (old new : World) (s : Status) → s ≡ status.Done → Did (unread (verified t d)) [] rest old new s → IsVerified d t old new
did_verify name t d rest old new s done h = finished_verified old new s done d t (done_finished (unread (verified t d)) [] rest old new s (ap is_done_status done) h)
