-- What a view with feeds left is between what is there before one of its stages and what is there behind it.
use Rattle.std.proofs.Common.{◌≡◌, ℕ, true, List, [], ◌∷◌, ◌++◌, Option, None, Some, inl, inr, refl, subst}
use Rattle.std.specs.Prelude.{Result, Ok, Err}
use Rattle.ss_text.specs.Texts.{Row}
use Rattle.outside.specs.Tree.{Tree, files_of}
use Rattle.outside.specs.Effects.{Effect, Stored, Contents, performed, Partly}
use Rattle.schema_model.specs.Catalogue.{CatalogueValue}
use Rattle.schema_model.specs.Sound.{IsSound}
use Rattle.source_law.proofs.AfterLemmas.{stored_by, stored_after}
use Rattle.source_law.proofs.LoadedLemmas.{sound_loaded}
use Rattle.course.specs.Answering.{Ending}
use Rattle.course.specs.Course.{by_lines}
use Rattle.course.proofs.FrontLemmas.{partly_split}
use Rattle.view_def.specs.Query.{Query}
use Rattle.view_folder.specs.Files.{view_folder}
use Rattle.view_stages.specs.Open.{OpenValue, just_opened}
use Rattle.view_stages.specs.Stages.{Accepted, loaded_or_refused, refusal_of, files_of_view}
use Rattle.view_stages.specs.Opening.{with_catalogue, with_view, opening_effects}
use Rattle.view_stages.specs.Opened.{folder_of}
use Rattle.view_stages.specs.Places.{Exempt, CsvFiles}
use Rattle.view_stages.specs.Syncs.{sync_effects}
use Rattle.view_stages.proofs.SyncLemmas.{Stage, sync_stage}
use Rattle.view_stages.proofs.StoppedLemmas.{Stopped, in_first, in_later, printed, opening_stops}
use Rattle.opened_view.specs.Steps.{starting}
use Rattle.upkeep_law.specs.Lists.{effects_by}
use Rattle.upkeep_law.proofs.GivenLemmas.{given_query, given_sound}
use Rattle.upkeep_law.proofs.StopLemmas.{given_stops}
use Rattle.upkeep_law.proofs.UpheldLemmas.{loaded_is}
use Rattle.feed_answers.specs.declared.view.FeedView.{FeedView}
use Rattle.feed_answers.specs.Answers.{step, finish, at_first, answers_to}
use Rattle.feed_law.specs.Behind.{feed_stages_behind, feed_stages_from}
use Rattle.feed_law.specs.Promises.{view_behind}
use Rattle.feed_law.proofs.LineLemmas.{lines_given, course_is}

-- the sync at the end is a stage
end_stage : (q : Query) (o : OpenValue) → o.session.query ≡ q → IsSound o.session.catalogue → Stage (CsvFiles (view_folder q.view_db) ∷ []) (sync_effects o)
end_stage q o is sound = subst (λ (x : Query). Stage (CsvFiles (view_folder x.view_db) ∷ []) (sync_effects o)) is (sync_stage o sound [] (λ wanted Gone. tt) tt)

-- a run over these lines
module _ (s : Stored) (old new : Contents) (told : old.stored ≡ Some s) (lines : List (List ℕ)) (a : Accepted) where
  abbrev t : Tree
  t = s.tree

  abbrev here : List Exempt
  here = CsvFiles (folder_of a) ∷ []

  feed_view : (c : CatalogueValue) (r : Option Row) → IsSound c → Partly ((by_lines step finish (starting at_first (with_view t a.query c r))).whole lines).effects old new → Stopped here (feed_stages_from (with_view t a.query c r) lines) t new
  feed_view c (Some fields) sound h = printed here s old new told _ h
  feed_view c None sound h =
      let f : FeedView = at_first (just_opened a.query c) in
      let es : List Effect = opening_effects (folder_of a) (files_of_view c a.query) (files_of t (folder_of a)) in
      let are = lines_given lines f refl in
      let last : OpenValue = view_behind f lines in
      elim (partly_split es (effects_by (answers_to f lines) ++ sync_effects last) old new (subst (λ (e : Ending). Partly (es ++ e.effects) old new) (course_is lines f) h)) [
        | inl before ↦ in_first here es (feed_stages_behind f lines) t new (opening_stops t a c s old new told before)
        | inr later ↦
            in_later here es (feed_stages_behind f lines) t new
            (given_stops a.query (answers_to f lines) f.view (sync_effects last) (stored_by es s) (performed es old) new are refl sound
            (end_stage a.query last (given_query true f.view (answers_to f lines) are) (given_sound true f.view (answers_to f lines) are sound)) (stored_after es old s told) later)
      ]

  pub feed_over : (r : Result CatalogueValue Row) → loaded_or_refused t ≡ r → Partly ((by_lines step finish (starting at_first (with_catalogue t a.query r))).whole lines).effects old new → Stopped here (feed_stages_from (with_catalogue t a.query r) lines) t new
  feed_over (Err fields) is h = printed here s old new told _ h
  feed_over (Ok c) is h = feed_view c (refusal_of c a.query) (sound_loaded t c (loaded_is t c is)) h
