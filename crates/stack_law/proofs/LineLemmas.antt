-- The course of a stack over lines is its answers to them.
use Rattle.std.proofs.Common.{◌≡◌, ℕ, List, [], ◌∷◌, ◌++◌, Option, None, Some, length, refl, sym, ap, ◌∙◌, append_assoc, append-nil}
use Rattle.std.specs.Option.{option_map_or}
use Rattle.outside.specs.Effects.{Effect}
use Rattle.schema_model.specs.Catalogue.{CatalogueValue}
use Rattle.schema_model.specs.Changes.{after_all}
use Rattle.schema_model.specs.declared.change.Change.{Change}
use Rattle.source_law.specs.Synced.{Synced, unsaved}
use Rattle.course.specs.Answering.{Continues, Ending, ending, follow, course}
use Rattle.ss_print.specs.Fields.{open_group_fields}
use Rattle.view_stack.proofs.LinesLemmas.{after_all-append}
use Rattle.stack_levels.specs.Levels.{refused_at}
use Rattle.stack_answers.specs.Stack.{StackState}
use Rattle.stack_answers.specs.Answers.{Answer, answer, refusal_effects, giving_up, syncing, sync_effects, by_open, step, finish}
use Rattle.stack_law.specs.Lists.{answers_to, effects_by, changes_by, stack_after, synced, synced_by, last_synced}
use Rattle.stack_law.specs.Promises.{end_answers, stack_behind, all_answers, saved_behind, saved_at_end}
use Rattle.stack_law.proofs.GivenLemmas.{AreGiven, made_catalogue}

-- answers behind others
effects_append : (xs ys : List Answer) → effects_by (xs ++ ys) ≡ effects_by xs ++ effects_by ys
effects_append [] ys = refl
effects_append (a ∷ xs) ys = ap (λ (es : List Effect). a.effects ++ es) (effects_append xs ys) ∙ sym (append_assoc a.effects (effects_by xs) (effects_by ys))

synced_append : (xs ys : List Answer) (s : StackState) (y : Synced) → last_synced s y (xs ++ ys) ≡ last_synced (stack_after s xs) (last_synced s y xs) ys
synced_append [] ys s y = refl
synced_append (a ∷ xs) ys s y = synced_append xs ys a.stack (synced_by a.effects s y)

-- the course over lines
goes : (lines : List (List ℕ)) (es : List Effect) (s : StackState) → follow step lines (Continues es s) ≡ Continues (es ++ effects_by (answers_to s lines)) (stack_behind s lines)
goes [] es s = ap (λ (fs : List Effect). Continues fs s) (sym (append-nil es))
goes (line ∷ lines) es s =
    goes lines (es ++ (answer s line).effects) (answer s line).stack
    ∙ ap (λ (fs : List Effect). Continues fs (stack_behind (answer s line).stack lines)) (append_assoc es (answer s line).effects (effects_by (answers_to (answer s line).stack lines)))

pub lines_followed : (lines : List (List ℕ)) (s : StackState) → follow step lines (Continues [] s) ≡ Continues (effects_by (answers_to s lines)) (stack_behind s lines)
lines_followed lines s = goes lines [] s

pub course_is : (lines : List (List ℕ)) (s : StackState) → course step finish s lines ≡ record { effects = effects_by (answers_to s lines) ++ (finish (stack_behind s lines)).effects; status = (finish (stack_behind s lines)).status }
course_is lines s = ap (ending finish) (lines_followed lines s)

-- the end
end_done : (s : StackState) → effects_by (end_answers s) ≡ (finish s).effects
end_done s = by_held s.held
  where
    by_held : (o : Option (List Change)) → effects_by (option_map_or (λ (a : Answer). a ∷ []) (by_open s o) [] ++ syncing (option_map_or (λ (a : Answer). a.stack) (by_open s o) s) ∷ [])
        ≡ option_map_or (λ (a : Answer). a.effects) (by_open s o) [] ++ sync_effects (option_map_or (λ (a : Answer). a.stack) (by_open s o) s)
    by_held None = append-nil (sync_effects s)
    by_held (Some gs) =
        let r = refused_at 1 (open_group_fields (length gs)) in
        ap (λ (es : List Effect). refusal_effects r ++ es) (append-nil (sync_effects (giving_up s r).stack))

end_saved : (s : StackState) (y : Synced) → last_synced s y (end_answers s) ≡ synced s y
end_saved s y = by_held s.held
  where
    by_held : (o : Option (List Change)) → last_synced s y (option_map_or (λ (a : Answer). a ∷ []) (by_open s o) [] ++ syncing (option_map_or (λ (a : Answer). a.stack) (by_open s o) s) ∷ []) ≡ synced s y
    by_held None = refl
    by_held (Some gs) = refl

pub all_done : (lines : List (List ℕ)) (s : StackState) → effects_by (all_answers s lines) ≡ (course step finish s lines).effects
all_done lines s =
    effects_append (answers_to s lines) (end_answers (stack_behind s lines)) ∙ ap (λ (es : List Effect). effects_by (answers_to s lines) ++ es) (end_done (stack_behind s lines))
    ∙ sym (ap (λ (e : Ending). e.effects) (course_is lines s))

pub all_saved : (lines : List (List ℕ)) (s : StackState) → last_synced s (unsaved s.catalogue) (all_answers s lines) ≡ saved_at_end s lines
all_saved lines s = synced_append (answers_to s lines) (end_answers (stack_behind s lines)) s (unsaved s.catalogue) ∙ end_saved (stack_behind s lines) (saved_behind s lines)

-- the catalogue behind answers is that which their changes make
pub given_catalogue : (answers : List Answer) (s : StackState) → AreGiven s answers → (stack_after s answers).catalogue ≡ after_all s.catalogue (changes_by answers)
given_catalogue [] s h = refl
given_catalogue (a ∷ answers) s h =
    given_catalogue answers a.stack h.1
    ∙ ap (λ (c : CatalogueValue). after_all c (changes_by answers)) (made_catalogue s a h.0)
    ∙ sym (after_all-append s.catalogue a.changes (changes_by answers))
