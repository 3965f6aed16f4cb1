-- What an opened view left is between what is there before one of its stages and what is there behind it.
use Rattle.std.proofs.Common.{◌≡◌, ℕ, true, List, [], ◌∷◌, ◌++◌, Option, None, Some, inl, inr, refl, sym, ◌∙◌, subst, append_assoc}
use Rattle.std.specs.Prelude.{Result, Ok, Err}
use Rattle.std.specs.List.{AllByRecursion}
use Rattle.ss_text.specs.Texts.{Text, Row}
use Rattle.outside.specs.Tree.{Tree, Place, files_of}
use Rattle.outside.specs.Effects.{Effect, Write, Remove, Replace, Print, Stored, Contents, performed, Partly}
use Rattle.schema_model.specs.Catalogue.{CatalogueValue}
use Rattle.schema_model.specs.Sound.{IsSound}
use Rattle.view_session.specs.Session.{opened}
use Rattle.source_law.proofs.AfterLemmas.{stored_by, stored_after}
use Rattle.source_law.proofs.LoadedLemmas.{sound_loaded}
use Rattle.course.specs.Answering.{Ending}
use Rattle.course.specs.Course.{by_lines}
use Rattle.course.proofs.FrontLemmas.{partly_split}
use Rattle.view_stages.specs.Open.{OpenValue, just_opened}
use Rattle.view_stages.specs.Stages.{Accepted, loaded_or_refused, refusal_of, files_of_view}
use Rattle.view_stages.specs.Opening.{with_catalogue, with_view, opening_effects}
use Rattle.view_stages.specs.Opened.{folder_of}
use Rattle.view_stages.specs.Places.{Exempt, CsvFiles}
use Rattle.view_stages.specs.Syncs.{sync_effects}
use Rattle.view_stages.proofs.PlaceLemmas.{AllWithin}
use Rattle.view_def.specs.Query.{Query}
use Rattle.view_folder.specs.Files.{view_folder}
use Rattle.view_stages.proofs.BetweenLemmas.{AllPlanned}
use Rattle.view_stages.proofs.SyncLemmas.{Stage, planned_stage, sync_stage}
use Rattle.view_stages.proofs.StoppedLemmas.{Stopped, in_first, in_later, printed, opening_stops}
use Rattle.opened_view.specs.Answers.{Said, Tells, Scripts, Syncs, Answer, answers_to, step, finish, end_effects, end_view}
use Rattle.opened_view.proofs.AnswerCases.{end_case}
use Rattle.upkeep_law.specs.Behind.{stages_by, stages_behind, stages_from}
use Rattle.upkeep_law.specs.Given.{IsPrint, MayGive, AreGiven}
use Rattle.upkeep_law.specs.Lists.{effects_by}
use Rattle.upkeep_law.specs.Promises.{view_behind}
use Rattle.upkeep_law.proofs.GivenLemmas.{first_query, first_sound, given_query, given_sound}
use Rattle.upkeep_law.proofs.GroupLemmas.{no_group}
use Rattle.upkeep_law.proofs.LineLemmas.{course_is, lines_given}
use Rattle.upkeep_law.proofs.UpheldLemmas.{loaded_is}
use Rattle.upkeep_law.proofs.WithinLemmas.{prints_within}

-- prints are a stage
prints_planned : (wanted : Place → Option (List ℕ)) (Gone : Text → Type 0) (es : List Effect) → AllByRecursion IsPrint es → AllPlanned wanted Gone es
prints_planned wanted Gone [] h = tt
prints_planned wanted Gone (Print bytes ∷ es) h = (tt, prints_planned wanted Gone es h.1)
prints_planned wanted Gone (Write folder file bytes ∷ es) h = absurd h.0
prints_planned wanted Gone (Remove folder file ∷ es) h = absurd h.0
prints_planned wanted Gone (Replace edits ∷ es) h = absurd h.0

pub prints_stage : (exempt : List Exempt) (es : List Effect) → AllByRecursion IsPrint es → Stage exempt es
prints_stage exempt es h = planned_stage exempt (λ p. None) (λ d. ⊥) es (prints_planned (λ p. None) (λ d. ⊥) es h) (inl (prints_within exempt es h))

-- the view's own files may be changed one by one
module _ (q : Query) where
  abbrev own : List Exempt
  own = CsvFiles (view_folder q.view_db) ∷ []

  said_stage : (o : OpenValue) (a : Answer) (said : Said) → MayGive true o a said → o.session.query ≡ q → IsSound o.session.catalogue → Stage own a.effects
  said_stage o a Tells h is sound = prints_stage own a.effects h.prints
  said_stage o a (Scripts lines) h is sound = prints_stage own a.effects h.prints.prints
  said_stage o a Syncs h is sound =
      subst (Stage own) (sym h.effects) (subst (λ (x : Query). Stage (CsvFiles (view_folder x.view_db) ∷ []) (sync_effects o)) is (sync_stage o sound [] (λ wanted Gone. tt) tt))

  -- answers, and an end that is a stage
  pub given_stops : (answers : List Answer) (o : OpenValue) (end : List Effect) (s : Stored) (old new : Contents) → AreGiven true o answers → o.session.query ≡ q → IsSound o.session.catalogue → Stage own end → old.stored ≡ Some s
      → Partly (effects_by answers ++ end) old new → Stopped own (stages_by answers end) s.tree new
  given_stops [] o end s old new are is sound stage told h = in_first own end [] s.tree new (stage s old new told h)
  given_stops (a ∷ answers) o end s old new are is sound stage told h =
      elim (partly_split a.effects (effects_by answers ++ end) old new (subst (λ (es : List Effect). Partly es old new) (append_assoc a.effects (effects_by answers) end) h)) [
        | inl here ↦ in_first own a.effects (stages_by answers end) s.tree new (said_stage o a a.said are.0 is sound s old new told here)
        | inr later ↦
            in_later own a.effects (stages_by answers end) s.tree new
            (given_stops answers a.view end (stored_by a.effects s) (performed a.effects old) new are.1 (first_query true o a are.0 ∙ is) (first_sound true o a are.0 sound) stage (stored_after a.effects old s told) later)
      ]

  -- the end of `maintain`
  end_catalogue : (o : OpenValue) → (end_view o).session.catalogue ≡ o.session.catalogue
  end_catalogue o = end_case o (λ es p. p.session.catalogue ≡ o.session.catalogue) refl (λ fields. refl)

  end_query : (o : OpenValue) → (end_view o).session.query ≡ o.session.query
  end_query o = end_case o (λ es p. p.session.query ≡ o.session.query) refl (λ fields. refl)

  finish_stage : (o : OpenValue) → o.session.query ≡ q → IsSound o.session.catalogue → Stage own (finish o).effects
  finish_stage o is sound =
      subst (λ (x : Query). Stage (CsvFiles (view_folder x.view_db) ∷ []) (finish o).effects) (end_query o ∙ is)
      (sync_stage (end_view o) (subst IsSound (sym (end_catalogue o)) sound) (end_effects o) (λ wanted Gone. end_case o (λ es p. AllPlanned wanted Gone es) tt (λ fields. (tt, tt)))
      (end_case o (λ es p. AllWithin (CsvFiles (view_folder p.session.query.view_db) ∷ []) es) tt (λ fields. (tt, tt))))

-- a run over these lines
module _ (s : Stored) (old new : Contents) (told : old.stored ≡ Some s) (lines : List (List ℕ)) (a : Accepted) where
  abbrev t : Tree
  t = s.tree

  abbrev here : List Exempt
  here = CsvFiles (folder_of a) ∷ []

  maintain_view : (c : CatalogueValue) (r : Option Row) → IsSound c → Partly ((by_lines step finish (with_view t a.query c r)).whole lines).effects old new → Stopped here (stages_from (with_view t a.query c r) lines) t new
  maintain_view c (Some fields) sound h = printed here s old new told _ h
  maintain_view c None sound h =
      let o : OpenValue = just_opened a.query c in
      let es : List Effect = opening_effects (folder_of a) (files_of_view c a.query) (files_of t (folder_of a)) in
      let are = lines_given true lines o (no_group (opened a.query c) refl) in
      let last : OpenValue = view_behind o lines in
      elim (partly_split es (effects_by (answers_to o lines) ++ (finish last).effects) old new (subst (λ (e : Ending). Partly (es ++ e.effects) old new) (course_is lines o) h)) [
        | inl before ↦ in_first here es (stages_behind o lines) t new (opening_stops t a c s old new told before)
        | inr later ↦
            in_later here es (stages_behind o lines) t new
            (given_stops a.query (answers_to o lines) o (finish last).effects (stored_by es s) (performed es old) new are refl sound
            (finish_stage a.query last (given_query true o (answers_to o lines) are) (given_sound true o (answers_to o lines) are sound)) (stored_after es old s told) later)
      ]

  pub maintain_over : (r : Result CatalogueValue Row) → loaded_or_refused t ≡ r → Partly ((by_lines step finish (with_catalogue t a.query r)).whole lines).effects old new → Stopped here (stages_from (with_catalogue t a.query r) lines) t new
  maintain_over (Err fields) is h = printed here s old new told _ h
  maintain_over (Ok c) is h = maintain_view c (refusal_of c a.query) (sound_loaded t c (loaded_is t c is)) h
