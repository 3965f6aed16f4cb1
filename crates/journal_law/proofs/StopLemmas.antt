-- What a view with a journal left is between what is there before one of its stages and what is there behind it.
use Rattle.std.proofs.Common.{◌≡◌, inl, inr, ℕ, Bool, true, false, List, [], ◌∷◌, ◌++◌, map, Option, None, Some, refl, sym, ap, ◌∙◌, subst}
use Rattle.std.specs.Prelude.{option_map}
use Rattle.std.specs.Option.{option_map_or}
use Rattle.ss_text.specs.Texts.{Text}
use Rattle.outside.specs.Tree.{Tree, Place}
use Rattle.outside.specs.Effects.{Effect, Write, Remove, Stored, Contents, performed, Partly}
use Rattle.csv_catalog.specs.Loaded.{label_of}
use Rattle.source_law.proofs.AfterLemmas.{stored_by, stored_after}
use Rattle.source_law.proofs.FileLemmas.{label_of_file}
use Rattle.view_def.specs.Query.{Query}
use Rattle.flow_law.specs.declared.shape.Shape.{Shape}
use Rattle.flow_law.specs.Tables.{TablesValue, table_of}
use Rattle.view_meaning.specs.Meaning.{shape_of}
use Rattle.view_folder.specs.Files.{view_folder, file_name}
use Rattle.view_folder.specs.TableFiles.{table_text}
use Rattle.view_folder.specs.Sync.{tables_first, label_synced, later_sync}
use Rattle.view_session.specs.Session.{tables_of, opened}
use Rattle.course.specs.declared.status.Verdict.TheVariants as verdict
use Rattle.course.specs.Answering.{Reply, Continues, prefixed, follow, ending, course}
use Rattle.course.proofs.AnsweringLemmas.{halted}
use Rattle.course.specs.Course.{by_lines}
use Rattle.course.proofs.FrontLemmas.{partly_split}
use Rattle.view_stages.specs.Open.{OpenValue}
use Rattle.view_stages.specs.Opened.{folder_of, view_exempt}
use Rattle.view_stages.specs.Places.{Exempt, CsvFiles}
use Rattle.view_stages.specs.Stages.{DefinitionOrRefusal}
use Rattle.view_stages.specs.Syncs.{view_effects}
use Rattle.view_stages.proofs.BetweenLemmas.{AllPlanned, Planned, both_planned}
use Rattle.view_stages.proofs.PlaceLemmas.{AllWithin}
use Rattle.view_stages.proofs.StoppedLemmas.{Stopped, in_first, in_later, one_stage, printed, opening_stops}
use Rattle.view_stages.proofs.SyncLemmas.{Stage, planned_stage}
use Rattle.view_stages.proofs.WithinLemmas.{both_within, later_within}
use Rattle.opened_view.specs.Answers.{Said, Tells, Scripts, Syncs, Answer, end_effects, end_view}
use Rattle.opened_view.proofs.AnswerCases.{end_case}
use Rattle.upkeep_law.specs.Given.{MayGive, AreGiven}
use Rattle.upkeep_law.specs.Promises.{opening_of}
use Rattle.upkeep_law.proofs.GivenLemmas.{first_query}
use Rattle.upkeep_law.proofs.GroupLemmas.{no_group}
use Rattle.upkeep_law.proofs.LineLemmas.{lines_given}
use Rattle.upkeep_law.proofs.StopLemmas.{prints_stage}
use Rattle.journal_answers.specs.declared.view.JournalView.{JournalView}
use Rattle.journal_answers.specs.Answers.{answer, step, finish}
use Rattle.journal_answers.specs.Opening.{opening}
use Rattle.journal_law.specs.Behind.{then_more, journal_stages_behind, journal_stages_from}
use Rattle.journal_law.specs.Promises.{IsReplayed, answers_to, view_at_first, journal_at_first}
use Rattle.journal_law.proofs.LineLemmas.{answered, lacks, step_fits, step_full, course_behind}
use Rattle.journal_law.proofs.OpeningLemmas.{opening_case}

-- a sync of the view's files alone: those of its labels are to hold their tables, and no folder is to go
abbrev NoneGone : Text → Type 0
NoneGone d = ⊥

module _ (x : Text) (shape : Shape) (ts : TablesValue) where
  abbrev wanted : Place → Option (List ℕ)
  wanted p = option_map (table_text shape) (table_of ts (label_of p.1))

  abbrev Plans : List Effect → Type 0
  Plans es = AllPlanned wanted NoneGone es

  label_planned : (label : Text) → Planned wanted NoneGone (label_synced (view_folder x) shape ts label)
  label_planned label = by_table (table_of ts label) (ap (λ (l : Text). option_map (table_text shape) (table_of ts l)) (label_of_file label))
    where
      by_table : (o : _) → wanted (view_folder x, file_name label) ≡ option_map (table_text shape) o → Planned wanted NoneGone (option_map_or (λ t. Write (view_folder x) (file_name label) (table_text shape t)) o (Remove (view_folder x) (file_name label)))
      by_table None e = e
      by_table (Some t) e = (e, λ d none. absurd none)

  labels_planned : (labels : List Text) → Plans (map (label_synced (view_folder x) shape ts) labels)
  labels_planned [] = tt
  labels_planned (label ∷ labels) = (label_planned label, labels_planned labels)

-- behind effects that only print
module _ (o : OpenValue) where
  abbrev x : Text
  x = o.session.query.view_db

  abbrev here : List Exempt
  here = CsvFiles (view_folder x) ∷ []

  view_stage : (es : List Effect) → ((wants : Place → Option (List ℕ)) (Gone : Text → Type 0) → AllPlanned wants Gone es) → AllWithin here es → Stage here (es ++ view_effects o)
  view_stage es prints within =
      let shape : Shape = shape_of o.session.query in
      let ts : TablesValue = tables_of o.session in
      let labels : List Text = o.session.changed.labels in
      let files : List Effect = later_sync (view_folder x) shape ts labels in
      planned_stage here (wanted x shape ts) NoneGone (es ++ view_effects o)
      (both_planned (wanted x shape ts) NoneGone es (view_effects o) (prints (wanted x shape ts) NoneGone)
      (both_planned (wanted x shape ts) NoneGone files _ (labels_planned x shape ts (tables_first ts labels)) (tt, tt)))
      (inl (both_within here es (view_effects o) within (both_within here files _ (later_within (view_folder x) [] shape ts labels) (tt, tt))))

-- the view's own files may be changed one by one
module _ (q : Query) where
  abbrev own : List Exempt
  own = CsvFiles (view_folder q.view_db) ∷ []

  said_stage : (o : OpenValue) (a : Answer) (said : Said) → MayGive false o a said → o.session.query ≡ q → Stage own a.effects
  said_stage o a Tells h is = prints_stage own a.effects h.prints
  said_stage o a (Scripts lines) h is = prints_stage own a.effects h.prints.prints
  said_stage o a Syncs h is =
      subst (Stage own) (sym h.effects) (subst (λ (y : Query). Stage (CsvFiles (view_folder y.view_db) ∷ []) (view_effects o)) is (view_stage o [] (λ wants Gone. tt) tt))

  finish_stage : (o : OpenValue) → o.session.query ≡ q → Stage own (end_effects o ++ view_effects (end_view o))
  finish_stage o is =
      let stays : (end_view o).session.query ≡ o.session.query = end_case o (λ es p. p.session.query ≡ o.session.query) refl (λ fields. refl) in
      subst (λ (y : Query). Stage (CsvFiles (view_folder y.view_db) ∷ []) (end_effects o ++ view_effects (end_view o))) (stays ∙ is)
      (view_stage (end_view o) (end_effects o) (λ wants Gone. end_case o (λ es p. AllPlanned wants Gone es) tt (λ fields. (tt, tt)))
      (end_case o (λ es p. AllWithin (CsvFiles (view_folder p.session.query.view_db) ∷ []) es) tt (λ fields. (tt, tt))))

  -- lines behind an opening
  abbrev Stops : List (List ℕ) → Type 0
  Stops lines = (f : JournalView) (s : Stored) (old new : Contents) → AreGiven false f.view (answers_to f.view lines) → f.view.session.query ≡ q → old.stored ≡ Some s
      → Partly (course step finish f lines).effects old new → Stopped own (journal_stages_behind f lines) s.tree new

  line_stops : (line : List ℕ) (lines : List (List ℕ)) → Stops lines → Stops (line ∷ lines)
  line_stops line lines below f s old new are is told h = by_lacks (lacks f line) refl
    where
      by_lacks : (b : Bool) → lacks f line ≡ b → Stopped own (then_more (λ g. journal_stages_behind g lines) (step f line)) s.tree new
      by_lacks true full =
          subst (λ (r : Reply JournalView). Stopped own (then_more (λ g. journal_stages_behind g lines) r) s.tree new) (sym (step_full f line full))
          (one_stage own s old new told [] (prints_stage own [] tt)
          (subst (λ (es : List Effect). Partly es old new)
          (ap (λ (r : Reply JournalView). (ending finish (follow step lines (prefixed [] r))).effects) (step_full f line full) ∙ ap (λ (r : Reply JournalView). (ending finish r).effects) (halted step lines [] verdict.JournalFull)) h))
      by_lacks false fits =
          let a : Answer = answer f.view line in
          let g : JournalView = answered f line in
          let split : (course step finish f (line ∷ lines)).effects ≡ a.effects ++ (course step finish g lines).effects =
          ap (λ (r : Reply JournalView). (ending finish (follow step lines (prefixed [] r))).effects) (step_fits f line fits) ∙ course_behind lines a.effects g in
          subst (λ (r : Reply JournalView). Stopped own (then_more (λ g. journal_stages_behind g lines) r) s.tree new) (sym (step_fits f line fits))
          (elim (partly_split a.effects (course step finish g lines).effects old new (subst (λ (es : List Effect). Partly es old new) split h)) [
            | inl first ↦ in_first own a.effects (journal_stages_behind g lines) s.tree new (said_stage f.view a a.said are.0 is s old new told first)
            | inr later ↦
                in_later own a.effects (journal_stages_behind g lines) s.tree new
                (below g (stored_by a.effects s) (performed a.effects old) new are.1 (first_query false f.view a are.0 ∙ is) (stored_after a.effects old s told) later)
          ])

  lines_stop : (lines : List (List ℕ)) → Stops lines
  lines_stop [] f s old new are is told h = in_first own (finish f).effects [] s.tree new (finish_stage f.view is s old new told h)
  lines_stop (line ∷ lines) f s old new are is told h = line_stops line lines (lines_stop lines) f s old new are is told h

-- a run over these lines
module _ (s : Stored) (old new : Contents) (told : old.stored ≡ Some s) (lines : List (List ℕ)) (held : List ℕ) (d : DefinitionOrRefusal) where
  abbrev t : Tree
  t = s.tree

  view_stops : (r : IsReplayed d t held) → (let x : Reply JournalView = Continues (opening_of t r.accepted.query r.replay.catalogue) (journal_at_first r) in Partly ((by_lines step finish x).whole lines).effects old new → Stopped (view_exempt d ++ []) (journal_stages_from x lines) t new)
  view_stops r h =
      let f : JournalView = journal_at_first r in
      let es : List Effect = opening_of t r.accepted.query r.replay.catalogue in
      let own_files : List Exempt = CsvFiles (folder_of r.accepted) ∷ [] in
      subst (λ (y : DefinitionOrRefusal). Stopped (view_exempt y ++ []) (es ∷ journal_stages_behind f lines) t new) (sym r.defined)
      (elim (partly_split es (course step finish f lines).effects old new h) [
        | inl before ↦ in_first own_files es (journal_stages_behind f lines) t new (opening_stops t r.accepted r.replay.catalogue s old new told before)
        | inr later ↦
            in_later own_files es (journal_stages_behind f lines) t new
            (lines_stop r.accepted.query lines f (stored_by es s) (performed es old) new (lines_given false lines (view_at_first r) (no_group (opened r.accepted.query r.replay.catalogue) refl)) refl (stored_after es old s told) later)
      ])

  pub journal_stops : Partly ((by_lines step finish (opening t held d)).whole lines).effects old new → Stopped (view_exempt d ++ []) (journal_stages_from (opening t held d) lines) t new
  journal_stops = opening_case t held d (λ x. Partly ((by_lines step finish x).whole lines).effects old new → Stopped (view_exempt d ++ []) (journal_stages_from x lines) t new)
      (λ fields v refused h. printed (view_exempt d ++ []) s old new told _ h) view_stops
