-- A stack of one view does what the view does.
use Rattle.std.proofs.Common.{◌≡◌, ◌∙◌, ◌++◌, ◌+◌, ◌∷◌, ℕ, zero, suc, List, [], Option, Some, None, Bool, true, false, map, refl, sym, ap, subst, append-nil}
use Rattle.std.proofs.Math.Nat.{add-zero}
use Rattle.std.proofs.lemmas.List.Sums.{sum_by-cons}
use Rattle.std.specs.Prelude.{Result, Ok, Err, is_some, option_map, unwrap_or, length, ◌==◌, codes, decimal, if◌then◌else◌}
use Rattle.std.specs.Option.{option_or, option_map_or}
use Rattle.ss_text.specs.Ascending.{ascending}
use Rattle.ss_text.specs.Texts.{Text, Row, text_cmp}
use Rattle.outside.specs.Tree.{Tree, files_of}
use Rattle.outside.specs.Effects.{Effect, Print, Replace}
use Rattle.tab_lines.specs.Spelling.{unspell}
use Rattle.schema_model.specs.Catalogue.{CatalogueValue}
use Rattle.schema_model.specs.Changes.{after, after_all}
use Rattle.schema_model.specs.Reading.{change_of}
use Rattle.schema_model.specs.Refusals.{fault}
use Rattle.schema_model.specs.declared.change.Change.{Change}
use Rattle.schema_model.specs.Pairs.{pair_cmp}
use Rattle.schema_model.specs.declared.pair.Pair.{Pair}
use Rattle.schema_model.specs.declared.change.ChangeFault.{ChangeFault}
use Rattle.schema_model.specs.declared.change.ChangeFault.TheVariants.{FieldCount}
use Rattle.schema_model.specs.declared.refusal.Refusal.{Refusal}
use Rattle.csv_catalog.specs.FileFaults.{repeated_after}
use Rattle.csv_catalog.specs.Saved.{saved}
use Rattle.view_def.specs.Query.{Query}
use Rattle.change_script.specs.Printed.{printed}
use Rattle.flow_law.specs.Script.{script}
use Rattle.flow_law.specs.Lines.{label_of}
use Rattle.flow_law.specs.declared.line.TableLine.{TableLine}
use Rattle.view_meaning.specs.Meaning.{meaning, shape_of}
use Rattle.view_folder.specs.Files.{view_folder}
use Rattle.view_folder.specs.Sync.{later_sync, opening_sync, opening_count}
use Rattle.view_session.specs.Named.{Names, named_relations, named_databases, with_change, with_changes}
use Rattle.view_session.specs.Session.{tables_of, working, made}
use Rattle.course.specs.Answering.{Continues, Ending}
use Rattle.course.specs.declared.status.Verdict.TheVariants as verdict
use Rattle.ss_print.specs.Fields.{first_field, line_fields, refusal_fields, group_broken_fields, in_group_fields, no_group_fields, open_group_fields, escape_fields}
use Rattle.ss_print.specs.Printing.{lines_text, script_rows, refuses, prints_synced}
use Rattle.view_stages.specs.Open.{OpenValue, just_opened}
use Rattle.view_stages.specs.Opening as view_opening
use Rattle.view_stages.specs.Stages.{DefinitionOrRefusal, refusal_of, loaded_or_refused, files_of_view}
use Rattle.view_stages.specs.Syncs.{sync_effects, sync_count}
use Rattle.opened_view.specs.declared.word.Word.{Word}
use Rattle.opened_view.specs.declared.word.Word.TheVariants as word
use Rattle.opened_view.specs.Answers as view
use Rattle.opened_view.specs.Answers.{word_in}
use Rattle.upkeep_law.proofs.KeptLemmas.{labels_stay}
use Rattle.ss_print.specs.LevelLines.{level_row, line_count, prints_scripts, stack_rows}
use Rattle.stack_levels.specs.Levels.{refused_at, changing_refusal, opening_refusal}
use Rattle.stack_levels.specs.declared.refusal.LevelRefusal.{LevelRefusal}
use Rattle.stack_answers.specs.Stack.{StackState}
use Rattle.stack_answers.specs.Answers as stack
use Rattle.stack_answers.specs.Opening as stack_opening
use Rattle.stack_law.specs.OneView.{stacked, stacked_reply, IsSettled, prints_level, Does, IsAnsweredAs}

-- ---- what is printed of one level
count_is : (lines : List TableLine) → line_count (lines ∷ []) ≡ length lines
count_is lines = sum_by-cons (λ (ls : List TableLine). length ls) lines [] ∙ add-zero (length lines)

rows_are : (lines : List TableLine) → stack_rows (lines ∷ []) ≡ level_row 1 ∷ script_rows lines
rows_are lines = (λ i. level_row 1 ∷ (append-nil (map printed lines) i ++ (codes "done" ∷ decimal (count_is lines i) ∷ []) ∷ []))

script_printed : (lines : List TableLine) → prints_scripts (lines ∷ []) ≡ prints_level lines
script_printed lines = ap (λ (rows : List Row). Print (lines_text rows)) (rows_are lines)

-- ---- what is refused
either_none : {A : Type 0} (o : Option A) → option_or o (option_or None None) ≡ o
either_none None = refl
either_none (Some x) = refl

changing_is : (c d : CatalogueValue) (q : Query) → changing_refusal c d (q ∷ []) ≡ option_map (refused_at 1) (refusal_of d q)
changing_is c d q = either_none (option_map (refused_at 1) (refusal_of d q))

opening_is : (c : CatalogueValue) (q : Query) → opening_refusal c (q ∷ []) ≡ option_map (refused_at 1) (refusal_of c q)
opening_is c q = either_none (option_map (refused_at 1) (refusal_of c q))

-- ---- what is named
-- the relations and databases that changes name are the same whatever labels were named
names_apart : (n m : Names) (c : CatalogueValue) (gs : List Change) → n.relations ≡ m.relations → n.databases ≡ m.databases
    → (with_changes n c gs).relations ≡ (with_changes m c gs).relations × (with_changes n c gs).databases ≡ (with_changes m c gs).databases
names_apart n m c [] rs ds = (rs, ds)
names_apart n m c (g ∷ gs) rs ds =
    names_apart (with_change n c g) (with_change m c g) (after c g) gs
    (ap (λ (ps : List Pair). ascending pair_cmp (ps ++ named_relations c g)) rs)
    (ap (λ (ns : List Text). ascending text_cmp (ns ++ named_databases g)) ds)

-- ---- changes that are made
module _ (o : OpenValue) (gs : List Change) where
  abbrev lines : List TableLine
  lines = script (tables_of o.session) (meaning (after_all o.session.catalogue gs) o.session.query)

  abbrev made_view : ℕ → OpenValue
  made_view broken = record { session = made o.session gs; synced = o.synced; refused = o.refused; broken = broken }

  made_is : (broken : ℕ) → broken ≡ zero → (stack.making (stacked o) gs).stack ≡ stacked (made_view broken)
  made_is broken none =
      let names : ((with_changes (record { labels = []; relations = o.session.changed.relations; databases = o.session.changed.databases }) o.session.catalogue gs).relations ≡ (with_changes o.session.changed o.session.catalogue gs).relations)
      × ((with_changes (record { labels = []; relations = o.session.changed.relations; databases = o.session.changed.databases }) o.session.catalogue gs).databases ≡ (with_changes o.session.changed o.session.catalogue gs).databases)
      = names_apart (record { labels = []; relations = o.session.changed.relations; databases = o.session.changed.databases }) o.session.changed o.session.catalogue gs refl refl in
      (λ i. record {
        catalogue = after_all o.session.catalogue gs;
        relations = names.0 i;
        databases = names.1 i;
        levels = record { query = o.session.query; named = ascending text_cmp (sym (labels_stay o.session.changed o.session.catalogue gs) i ++ map label_of lines); synced = o.synced } ∷ [];
        held = None;
        refused = o.refused;
        broken = sym none i;
      })

-- ---- a sync
sync_same : (o : OpenValue) → stack.sync_effects (stacked o) ≡ sync_effects o
sync_same o = (λ i.
    Replace (saved o.session.catalogue o.session.changed.databases o.session.changed.relations)
    ∷ append-nil (later_sync (view_folder o.session.query.view_db) (shape_of o.session.query) (tables_of o.session) o.session.changed.labels) i
    ++ prints_synced (add-zero (sync_count o) i) ∷ [])

-- ---- the answer to a line
-- a stack answers as the view does, whatever the view is then
record Same (a : view.Answer) (b : stack.Answer) : Type 0 where
  effects : Does a.said a.effects b.effects
  stack : b.stack ≡ stacked a.view
  settled : IsSettled a.view

either_same : (b : Bool) (a c : view.Answer) (x y : stack.Answer) → Same a x → Same c y → Same (if b then a else c) (if b then x else y)
either_same true a c x y s t = s
either_same false a c x y s t = t

module _ (o : OpenValue) (settled : IsSettled o) where
  refused : (fields : Row) → Same (view.refusing o fields) (stack.refusing (stacked o) (refused_at 1 fields))
  refused fields = record { effects = refl; stack = refl; settled = by_held o.session.held settled }
    where
      by_held : (h : Option (List Change)) → (h ≡ None → o.broken ≡ zero) → h ≡ None → (if is_some h then suc o.broken else o.broken) ≡ zero
      by_held None s e = s refl
      by_held (Some gs) s e = absurd (cc)

  gave_up : (fields : Row) → Same (view.giving_up o fields) (stack.giving_up (stacked o) (refused_at 1 fields))
  gave_up fields = record { effects = refl; stack = refl; settled = λ h. refl }

  began : Same (view.beginning o) (stack.beginning (stacked o))
  began = record { effects = refl; stack = refl; settled = λ h. refl }

  kept : (g : Change) → Same (view.keeping o g) (stack.keeping (stacked o) g)
  kept g = record { effects = refl; stack = refl; settled = by_held o.session.held settled }
    where
      by_held : (h : Option (List Change)) → (h ≡ None → o.broken ≡ zero) → option_map (λ (gs : List Change). gs ++ g ∷ []) h ≡ None → o.broken ≡ zero
      by_held None s e = s refl
      by_held (Some gs) s e = absurd (cc)

  aborted : Same (view.aborting o) (stack.aborting (stacked o))
  aborted = record { effects = refl; stack = refl; settled = λ h. refl }

  changed : (g : Change) → o.session.held ≡ None → Same (view.changing o g) (stack.making (stacked o) (g ∷ []))
  changed g none = record {
    effects = ap (λ (e : Effect). e ∷ []) (script_printed (lines o (g ∷ [])));
    stack = (λ i. record {
      catalogue = after o.session.catalogue g;
      relations = ascending pair_cmp (o.session.changed.relations ++ named_relations o.session.catalogue g);
      databases = ascending text_cmp (o.session.changed.databases ++ named_databases g);
      levels = record { query = o.session.query; named = ascending text_cmp (o.session.changed.labels ++ map label_of (lines o (g ∷ []))); synced = o.synced } ∷ [];
      held = sym none i;
      refused = o.refused;
      broken = sym (settled none) i;
    });
    settled = settled;
  }

  committed_is : Same (view.committing o) (stack.making (stacked o) (unwrap_or o.session.held []))
  committed_is = record {
    effects = ap (λ (e : Effect). e ∷ []) (script_printed (lines o (unwrap_or o.session.held [])));
    stack = made_is o (unwrap_or o.session.held []) 0 refl;
    settled = λ h. refl;
  }

  -- a sync
  synced_is : Same (view.syncing o) (stack.syncing (stacked o))
  synced_is = record { effects = sync_same o; stack = refl; settled = settled }

  -- a change that the catalogue takes
  by_view_is : (g : Change) (r : Option Row) → o.session.held ≡ None → Same (view.by_view o g r) (stack.by_levels stack.refusing (stacked o) (g ∷ []) (option_map (refused_at 1) r))
  by_view_is g None none = changed g none
  by_view_is g (Some fields) none = refused fields

  by_fault_is : (g : Change) (r : Option Refusal) → Same (view.by_fault o g r) (stack.by_fault (stacked o) g r)
  by_fault_is g (Some r) = refused (refusal_fields g r)
  by_fault_is g None = by_held o.session.held refl
    where
      d : CatalogueValue
      d = after o.session.catalogue g

      by_held : (h : Option (List Change)) → o.session.held ≡ h
          → Same (if is_some h then view.keeping o g else view.by_view o g (refusal_of d o.session.query)) (if is_some h then stack.keeping (stacked o) g else stack.judged stack.refusing (stacked o) (g ∷ []))
      by_held (Some gs) e = kept g
      by_held None e =
          subst (λ (r : Option LevelRefusal). Same (view.by_view o g (refusal_of d o.session.query)) (stack.by_levels stack.refusing (stacked o) (g ∷ []) r))
          (sym (changing_is o.session.catalogue d o.session.query)) (by_view_is g (refusal_of d o.session.query) e)

  by_change_is : (row : Row) (r : Result Change ChangeFault) → Same (view.by_change o row r) (stack.by_change (stacked o) row r)
  by_change_is row (Err f) = refused (line_fields row f)
  by_change_is row (Ok g) = by_fault_is g (fault (working o.session) g)

  -- a group that ends
  by_group_is : (r : Option Row) → Same (view.by_group o r) (stack.by_levels stack.giving_up (stacked o) (unwrap_or o.session.held []) (option_map (refused_at 1) r))
  by_group_is None = committed_is
  by_group_is (Some fields) = gave_up fields

  by_broken_is : (n : ℕ) → Same (view.by_broken o n) (stack.by_broken (stacked o) n)
  by_broken_is (suc n) = gave_up (group_broken_fields (suc n))
  by_broken_is zero =
      subst (λ (r : Option LevelRefusal). Same (view.by_group o (refusal_of (working o.session) o.session.query)) (stack.by_levels stack.giving_up (stacked o) (unwrap_or o.session.held []) r))
      (sym (changing_is o.session.catalogue (working o.session) o.session.query)) (by_group_is (refusal_of (working o.session) o.session.query))

  -- a line by its words
  by_word_is : (row : Row) (w : Word) → Same (view.by_word view.syncing o row w) (stack.by_word (stacked o) row w)
  by_word_is row word.Begin = either_same (view.in_group o) (view.refusing o (in_group_fields row)) (view.beginning o) (stack.plainly stack.refusing (stacked o) (in_group_fields row)) (stack.beginning (stacked o)) (refused (in_group_fields row)) began
  by_word_is row word.Commit = either_same (view.in_group o) (view.by_broken o o.broken) (view.refusing o (no_group_fields row)) (stack.by_broken (stacked o) o.broken) (stack.plainly stack.refusing (stacked o) (no_group_fields row)) (by_broken_is o.broken) (refused (no_group_fields row))
  by_word_is row word.Abort = either_same (view.in_group o) (view.aborting o) (view.refusing o (no_group_fields row)) (stack.aborting (stacked o)) (stack.plainly stack.refusing (stacked o) (no_group_fields row)) aborted (refused (no_group_fields row))
  by_word_is row word.Sync = either_same (view.in_group o) (view.refusing o (in_group_fields row)) (view.syncing o) (stack.plainly stack.refusing (stacked o) (in_group_fields row)) (stack.syncing (stacked o)) (refused (in_group_fields row)) synced_is

  by_first_is : (row : Row) (w : Option Word) → Same (view.by_first view.syncing o row w) (stack.by_first (stacked o) row w)
  by_first_is row None = by_change_is row (change_of row)
  by_first_is row (Some w) = either_same (length row == 1) (view.by_word view.syncing o row w) (view.refusing o (line_fields row (FieldCount (length row)))) (stack.by_word (stacked o) row w) (stack.plainly stack.refusing (stacked o) (line_fields row (FieldCount (length row)))) (by_word_is row w) (refused (line_fields row (FieldCount (length row))))

  by_spelling_is : (r : Result Row ℕ) → Same (view.by_spelling view.syncing o r) (stack.by_spelling (stacked o) r)
  by_spelling_is (Err at) = refused (escape_fields at)
  by_spelling_is (Ok row) = by_first_is row (word_in (first_field row))

  pub answered : (line : List ℕ) → IsAnsweredAs o line
  answered line =
      let same : Same (view.answer o line) (stack.answer (stacked o) line) = by_spelling_is (unspell line) in
      record { effects = same.effects; stack = same.stack; settled = same.settled }

-- ---- the end of the input
-- what a view and a stack do at the end, by what the open group holds
abbrev view_end : OpenValue → Option (List Change) → Ending
view_end o h = record {
  effects = option_map_or (λ (a : view.Answer). a.effects) (view.by_open o h) [] ++ sync_effects (option_map_or (λ (a : view.Answer). a.view) (view.by_open o h) o);
  status = if (option_map_or (λ (a : view.Answer). a.view) (view.by_open o h) o).refused then verdict.SomeRefused else verdict.Done;
}

abbrev stack_end : StackState → Option (List Change) → Ending
stack_end s h = record {
  effects = option_map_or (λ (a : stack.Answer). a.effects) (stack.by_open s h) [] ++ stack.sync_effects (option_map_or (λ (a : stack.Answer). a.stack) (stack.by_open s h) s);
  status = if (option_map_or (λ (a : stack.Answer). a.stack) (stack.by_open s h) s).refused then verdict.SomeRefused else verdict.Done;
}

ends_as : (o : OpenValue) (h : Option (List Change)) → stack_end (stacked o) h ≡ view_end o h
ends_as o None = (λ i. record { effects = sync_same o i; status = if o.refused then verdict.SomeRefused else verdict.Done })
ends_as o (Some gs) = (λ i. record { effects = refuses (open_group_fields (length gs)) ∷ sync_same (view.giving_up o (open_group_fields (length gs))).view i; status = verdict.SomeRefused })

pub finished : (o : OpenValue) → stack.finish (stacked o) ≡ view.finish o
finished o = ends_as o o.session.held

-- ---- the opening
module _ (t : Tree) (q : Query) where
  opened_is : (c : CatalogueValue) → stack_opening.opened t (q ∷ []) c ≡ stacked_reply (view_opening.opened t q c)
  opened_is c =
      (λ i. Continues
      (append-nil (opening_sync (view_folder q.view_db) (files_of_view c q) (files_of t (view_folder q.view_db))) i
      ++ prints_synced (add-zero (opening_count (files_of_view c q) (files_of t (view_folder q.view_db))) i) ∷ [])
      (stacked (just_opened q c)))

  with_view_is : (c : CatalogueValue) (r : Option Row) → stack_opening.with_levels t (q ∷ []) c (option_map (refused_at 1) r) ≡ stacked_reply (view_opening.with_view t q c r)
  with_view_is c None = opened_is c
  with_view_is c (Some fields) = refl

  with_catalogue_is : (r : Result CatalogueValue Row) → stack_opening.with_catalogue t (q ∷ []) r ≡ stacked_reply (view_opening.with_catalogue t q r)
  with_catalogue_is (Err fields) = refl
  with_catalogue_is (Ok c) = ap (stack_opening.with_levels t (q ∷ []) c) (opening_is c q) ∙ with_view_is c (refusal_of c q)

pub opened_as : (t : Tree) (d : DefinitionOrRefusal) → stack_opening.opening t (d ∷ []) ≡ stacked_reply (view_opening.opening t d)
unfolding repeated_after
opened_as t (Err fields) = refl
opened_as t (Ok a) = with_catalogue_is t a.query (loaded_or_refused t)
