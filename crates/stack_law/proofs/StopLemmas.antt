-- What a stack left is between what is there before one of its stages and what is there behind it.
use Rattle.std.proofs.Common.{◌≡◌, ℕ, Bool, true, false, ◌||◌, append_assoc, List, [], ◌∷◌, ◌++◌, Option, None, Some, map, inl, inr, refl, sym, ◌∙◌, subst}
use Rattle.std.specs.Prelude.{Result, Ok, Err}
use Rattle.std.specs.List.{list_any}
use Rattle.std.specs.Option.{option_map_or}
use Rattle.ss_text.specs.Texts.{Text, Row, is_in}
use Rattle.outside.specs.Tree.{Tree, files_of}
use Rattle.outside.specs.Effects.{Effect, Stored, Contents, performed, Partly}
use Rattle.schema_model.specs.Catalogue.{CatalogueValue}
use Rattle.schema_model.specs.declared.change.Change.{Change}
use Rattle.csv_catalog.specs.FileFaults.{first_repeated}
use Rattle.view_meaning.specs.Meaning.{meaning, shape_of}
use Rattle.view_def.specs.Query.{Query}
use Rattle.view_folder.specs.Files.{view_folder, Apart}
use Rattle.view_folder.specs.Sync.{opening_sync, later_sync}
use Rattle.source_law.proofs.AfterLemmas.{stored_by, stored_after}
use Rattle.course.specs.Answering.{Ending}
use Rattle.course.specs.Course.{by_lines}
use Rattle.course.proofs.FrontLemmas.{partly_split}
use Rattle.ss_print.specs.Printing.{prints_synced}
use Rattle.view_stages.specs.Places.{Exempt, CsvFiles}
use Rattle.view_stages.specs.Stages.{DefinitionOrRefusal, loaded_or_refused, files_of_view}
use Rattle.view_stages.proofs.StageLemmas.{are_view_files}
use Rattle.view_stages.proofs.SyncLemmas.{Stage, planned_stage, print_stage}
use Rattle.view_stages.proofs.StoppedLemmas.{Stopped, in_first, in_later, one_stage}
use Rattle.view_stages.proofs.WithinLemmas.{both_within}
use Rattle.upkeep_law.proofs.StopLemmas.{prints_stage}
use Rattle.stack_levels.specs.declared.refusal.LevelRefusal.{LevelRefusal}
use Rattle.view_stack.specs.Stands.{given_by}
use Rattle.stack_levels.specs.Levels.{refused_at, tables_over, opening_refusal}
use Rattle.stack_levels.specs.Values.{LevelValue}
use Rattle.stack_answers.specs.Stack.{StackState, queries_of, stack_tables, stack_at_first}
use Rattle.stack_answers.specs.Answers.{Answer, refusal_effects, sync_effects, folder_effects, sync_count, by_open, step, finish}
use Rattle.stack_answers.specs.Opening.{all_accepted, with_levels, with_catalogue, twice_fields, with_databases, with_definitions, opening, folders_opened, opening_sum}
use Rattle.stack_law.specs.Behind.{stack_stages_behind, stack_stages_from}
use Rattle.stack_law.specs.Lists.{answers_to, effects_by, stack_after}
use Rattle.stack_law.specs.Promises.{opening_of, stack_behind}
use Rattle.stack_law.proofs.FolderLemmas.{AllIn, one_folder, both_in, opening_in, later_in, in_within}
use Rattle.stack_law.proofs.GivenLemmas.{MayGive, ByTelling, ByMaking, BySyncing, AreGiven, refusal_prints, same_views, lines_given, none_open}
use Rattle.stack_law.proofs.KeptLemmas.{openings_in, syncs_in}
use Rattle.stack_law.proofs.LevelLemmas.{folder_names, head_among, tail_among, one_among, none_among, views_in, views_synced, folders_apart}
use Rattle.stack_law.proofs.LineLemmas.{course_is}
use Rattle.stack_law.proofs.OpenedLemmas.{all_exempt, accepted_exempt}
use Rattle.stack_law.proofs.StageLemmas.{wider_stage, print_then, stage_then, saved_then, opening_part, later_part}
use Rattle.stack_law.proofs.WithinLemmas.{Covers, folder_covered}

-- ---- the stages of a stack, where the `.csv` files of its levels' folders are exempt
module _ (exempt : List Exempt) where
  abbrev AreExempt : List Text → Type 0
  AreExempt ds = (d : Text) → is_in d ds ≡ true → (f : Exempt → Bool) → f (CsvFiles d) ≡ true → list_any f exempt ≡ true

  nothing_stage : Stage exempt []
  nothing_stage = planned_stage exempt (λ p. None) (λ d. ⊥) [] tt (inl tt)

  -- the files of one folder
  only : (d : Text) (ks : List Text) → AreExempt (d ∷ ks) → Covers (CsvFiles d ∷ []) exempt
  only d ks among f h = among d (head_among d ks) f (either (f (CsvFiles d)) h)
    where
      either : (b : Bool) → (b || false) ≡ true → b ≡ true
      either true k = refl
      either false k = absurd (cc k)

  behind : (d : Text) (ks : List Text) → AreExempt (d ∷ ks) → AreExempt ks
  behind d ks among x there = among x (tail_among d ks x there)

  first_only : (d : Text) (ks : List Text) → AreExempt (d ∷ ks) → AreExempt (d ∷ [])
  first_only d ks among x one = among x (one_among d ks x one)

  -- the openings
  openings_stage : (qs : List Query) (t : Tree) (c : CatalogueValue) → Apart (folder_names qs) → AreExempt (folder_names qs) → Stage exempt (folders_opened t c qs)
  openings_stage [] t c apart among = nothing_stage
  openings_stage (q ∷ qs) t c apart among =
      let d : Text = view_folder q.view_db in
      let ks : List Text = folder_names qs in
      let first : List Effect = opening_sync d (files_of_view c q) (files_of t d) in
      let others : List Effect = folders_opened t (given_by c q) qs in
      stage_then exempt (one_folder d) ks first others (opening_in d (files_of_view c q) (files_of t d) (are_view_files c q)) (openings_in qs t (given_by c q)) (none_among d ks apart.0)
      (in_within ks exempt (behind d ks among) others (openings_in qs t (given_by c q)))
      (wider_stage (CsvFiles d ∷ []) exempt (only d ks among) first (opening_part d (files_of_view c q) (files_of t d) (are_view_files c q)))
      (openings_stage qs t (given_by c q) apart.1 (behind d ks among))

  -- effects on folders, and a line that is printed behind them
  printed_stage : (ks : List Text) (es : List Effect) (n : ℕ) → AllIn ks es → Stage exempt es → Stage exempt (es ++ prints_synced n ∷ [])
  printed_stage ks es n within stage = stage_then exempt ks [] es (prints_synced n ∷ []) within (tt, tt) (λ d there. refl) (tt, tt) stage (print_stage exempt _)

  opening_stage : (qs : List Query) (t : Tree) (c : CatalogueValue) → Apart (folder_names qs) → AreExempt (folder_names qs) → Stage exempt (opening_of t qs c)
  opening_stage qs t c apart among = printed_stage (folder_names qs) (folders_opened t c qs) (opening_sum t c qs) (openings_in qs t c) (openings_stage qs t c apart among)

  -- a sync
  syncs_stage : (ls : List LevelValue) (c : CatalogueValue) → Apart (folder_names (views_in ls)) → AreExempt (folder_names (views_in ls)) → Stage exempt (folder_effects ls (tables_over c (views_in ls)))
  syncs_stage [] c apart among = nothing_stage
  syncs_stage (l ∷ ls) c apart among =
      let d : Text = view_folder l.query.view_db in
      let ks : List Text = folder_names (views_in ls) in
      let above : CatalogueValue = given_by c l.query in
      let first : List Effect = later_sync d (shape_of l.query) (meaning c l.query) l.named in
      let others : List Effect = folder_effects ls (tables_over above (views_in ls)) in
      let within = later_in d (shape_of l.query) (meaning c l.query) l.named in
      stage_then exempt (one_folder d) ks first others within (syncs_in ls above) (none_among d ks apart.0) (in_within ks exempt (behind d ks among) others (syncs_in ls above))
      (later_part d (shape_of l.query) (meaning c l.query) exempt l.named (in_within (one_folder d) exempt (first_only d ks among) first within))
      (syncs_stage ls above apart.1 (behind d ks among))

  sync_stage : (s : StackState) → Apart (folder_names (queries_of s)) → AreExempt (folder_names (queries_of s)) → Stage exempt (sync_effects s)
  sync_stage s apart among =
      let ks : List Text = folder_names (queries_of s) in
      let es : List Effect = folder_effects s.levels (stack_tables s) in
      let n : ℕ = sync_count s.levels (stack_tables s) in
      saved_then exempt s.catalogue s.databases s.relations (queries_of s) (es ++ prints_synced n ∷ []) (both_in ks es (prints_synced n ∷ []) (syncs_in s.levels s.catalogue) (tt, tt))
      (both_within exempt es (prints_synced n ∷ []) (in_within ks exempt among es (syncs_in s.levels s.catalogue)) (tt, tt))
      (printed_stage ks es n (syncs_in s.levels s.catalogue) (syncs_stage s.levels s.catalogue apart among))

  -- an answer, and the end
  module _ (qs : List Query) (apart : Apart (folder_names qs)) (among : AreExempt (folder_names qs)) where
    synced_stage : (s : StackState) → queries_of s ≡ qs → Stage exempt (sync_effects s)
    synced_stage s is = sync_stage s (subst (λ (ps : List Query). Apart (folder_names ps)) (sym is) apart) (subst (λ (ps : List Query). AreExempt (folder_names ps)) (sym is) among)

    answer_stage : (s : StackState) (a : Answer) → MayGive s a → queries_of s ≡ qs → Stage exempt a.effects
    answer_stage s a (ByTelling h) is = prints_stage exempt a.effects h.prints
    answer_stage s a (ByMaking m) is = subst (λ (x : Answer). Stage exempt x.effects) (sym m.is) (print_stage exempt _)
    answer_stage s a (BySyncing e) is = subst (λ (x : Answer). Stage exempt x.effects) (sym e) (synced_stage s is)

    finish_stage : (s : StackState) → queries_of s ≡ qs → Stage exempt (finish s).effects
    finish_stage s is = by_held s.held
      where
        by_held : (o : Option (List Change)) → Stage exempt (option_map_or (λ (a : Answer). a.effects) (by_open s o) [] ++ sync_effects (option_map_or (λ (a : Answer). a.stack) (by_open s o) s))
        by_held None = synced_stage s is
        by_held (Some gs) = print_then exempt _ (sync_effects s) (synced_stage s is)

    -- answers, and an end that is a stage
    given_stops : (answers : List Answer) (s : StackState) (end : List Effect) (u : Stored) (old new : Contents) → AreGiven s answers → queries_of s ≡ qs → Stage exempt end → old.stored ≡ Some u
        → Partly (effects_by answers ++ end) old new → Stopped exempt (map (λ (a : Answer). a.effects) answers ++ end ∷ []) u.tree new
    given_stops [] s end u old new are is stage told h = in_first exempt end [] u.tree new (stage u old new told h)
    given_stops (a ∷ answers) s end u old new are is stage told h =
        let later_stages : List (List Effect) = map (λ (x : Answer). x.effects) answers ++ end ∷ [] in
        elim (partly_split a.effects (effects_by answers ++ end) old new (subst (λ (es : List Effect). Partly es old new) (append_assoc a.effects (effects_by answers) end) h)) [
          | inl here ↦ in_first exempt a.effects later_stages u.tree new (answer_stage s a are.0 is u old new told here)
          | inr later ↦
              in_later exempt a.effects later_stages u.tree new
              (given_stops answers a.stack end (stored_by a.effects u) (performed a.effects old) new are.1 (same_views s a are.0 ∙ is) stage (stored_after a.effects old u told) later)
        ]

    given_views : (answers : List Answer) (s : StackState) → AreGiven s answers → queries_of s ≡ qs → queries_of (stack_after s answers) ≡ qs
    given_views [] s are is = is
    given_views (a ∷ answers) s are is = given_views answers a.stack are.1 (same_views s a are.0 ∙ is)

    -- a stack that was opened, over these lines
    opened_stops : (u : Stored) (old new : Contents) → old.stored ≡ Some u → (lines : List (List ℕ)) (c : CatalogueValue) (o : Option LevelRefusal) → Partly ((by_lines step finish (with_levels u.tree qs c o)).whole lines).effects old new
        → Stopped exempt (stack_stages_from (with_levels u.tree qs c o) lines) u.tree new
    opened_stops u old new told lines c (Some r) h = one_stage exempt u old new told (refusal_effects r) (prints_stage exempt (refusal_effects r) (refusal_prints r)) h
    opened_stops u old new told lines c None h =
        let s : StackState = stack_at_first qs c in
        let es : List Effect = opening_of u.tree qs c in
        let are = lines_given lines s (none_open s refl) in
        let last : StackState = stack_behind s lines in
        elim (partly_split es (effects_by (answers_to s lines) ++ (finish last).effects) old new (subst (λ (e : Ending). Partly (es ++ e.effects) old new) (course_is lines s) h)) [
          | inl before ↦ in_first exempt es (stack_stages_behind s lines) u.tree new (opening_stage qs u.tree c apart among u old new told before)
          | inr later ↦
              in_later exempt es (stack_stages_behind s lines) u.tree new
              (given_stops (answers_to s lines) s (finish last).effects (stored_by es u) (performed es old) new are (views_synced c qs) (finish_stage last (given_views (answers_to s lines) s are (views_synced c qs))) (stored_after es old u told) later)
        ]

-- ---- a run over these lines
module _ (u : Stored) (old new : Contents) (told : old.stored ≡ Some u) (lines : List (List ℕ)) (ds : List DefinitionOrRefusal) where
  abbrev t : Tree
  t = u.tree

  abbrev here : List Exempt
  here = all_exempt ds

  printed_alone : (r : LevelRefusal) → Partly (refusal_effects r) old new → Stopped here (refusal_effects r ∷ []) t new
  printed_alone r h = one_stage here u old new told (refusal_effects r) (prints_stage here (refusal_effects r) (refusal_prints r)) h

  catalogue_stops : (qs : List Query) → all_accepted ds ≡ Ok qs → Apart (folder_names qs) → (r : Result CatalogueValue Row) → Partly ((by_lines step finish (with_catalogue t qs r)).whole lines).effects old new → Stopped here (stack_stages_from (with_catalogue t qs r) lines) t new
  catalogue_stops qs is apart (Err fields) h = printed_alone (refused_at 1 fields) h
  catalogue_stops qs is apart (Ok c) h =
      opened_stops here qs apart (λ d among f k. subst (λ (xs : List Exempt). list_any f xs ≡ true) (sym (accepted_exempt ds qs is)) (folder_covered qs d among f k)) u old new told lines c (opening_refusal c qs) h

  databases_stops : (qs : List Query) → all_accepted ds ≡ Ok qs → (o : Option Text) → first_repeated (map (λ (q : Query). q.view_db) qs) ≡ o → Partly ((by_lines step finish (with_databases t qs o)).whole lines).effects old new → Stopped here (stack_stages_from (with_databases t qs o) lines) t new
  databases_stops qs is (Some db) once h = printed_alone (refused_at 1 (twice_fields db)) h
  databases_stops qs is None once h = catalogue_stops qs is (folders_apart qs once) (loaded_or_refused t) h

  definitions_stop : (r : Result (List Query) Row) → all_accepted ds ≡ r → Partly ((by_lines step finish (with_definitions t r)).whole lines).effects old new → Stopped here (stack_stages_from (with_definitions t r) lines) t new
  definitions_stop (Err fields) is h = printed_alone (refused_at 1 fields) h
  definitions_stop (Ok qs) is h = databases_stops qs is (first_repeated (map (λ (q : Query). q.view_db) qs)) refl h

  pub stack_stops : Partly ((by_lines step finish (opening t ds)).whole lines).effects old new → Stopped (all_exempt ds) (stack_stages_from (opening t ds) lines) t new
  stack_stops h = definitions_stop (all_accepted ds) refl h
