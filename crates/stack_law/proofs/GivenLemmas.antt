-- The answers that a stack gives, one after the other.
use Rattle.std.proofs.Common.{◌≡◌, ℕ, suc, zero, List, [], ◌∷◌, ◌++◌, length, Option, None, Some, map, refl, sym, ap, ◌∙◌, subst}
use Rattle.std.specs.Prelude.{IsTrue, unwrap_or, option_map}
use Rattle.std.specs.List.{AllByRecursion}
use Rattle.std.specs.Option.{option_map_or}
use Rattle.outside.specs.Effects.{Effect}
use Rattle.schema_model.specs.Changes.{after_all, is_well_formed}
use Rattle.schema_model.specs.Refusals.{fault, group_fault}
use Rattle.schema_model.specs.declared.change.Change.{Change}
use Rattle.change_draft.proofs.DraftLemmas.{accepted_one_more, all_more}
use Rattle.ss_print.specs.Fields.{open_group_fields}
use Rattle.ss_print.specs.Printing.{refuses}
use Rattle.upkeep_law.specs.Given.{IsPrint}
use Rattle.ss_print.specs.LevelLines.{names_level}
use Rattle.stack_levels.specs.declared.refusal.LevelRefusal.{LevelRefusal}
use Rattle.stack_levels.specs.Levels.{lines_over, changing_refusal}
use Rattle.stack_levels.specs.Values.{LevelValue}
use Rattle.stack_answers.specs.Stack.{StackState, queries_of, working}
use Rattle.stack_answers.specs.Answers.{Answer, refusal_effects, refusing, giving_up, plainly, beginning, keeping, aborting, making, syncing, answer, by_open}
use Rattle.stack_law.specs.Lists.{answers_to, stack_after}
use Rattle.stack_law.specs.Promises.{end_answers, stack_behind, all_answers}
use Rattle.stack_law.proofs.CaseLemmas.{HoldsGroup, answer_case}
use Rattle.stack_law.proofs.LevelLemmas.{views_with_lines, views_synced}

-- a stack is over the same catalogue and levels as another, and as much of it waits for the next sync
pub record AreAlike (s p : StackState) : Type 0 where
  pub catalogue : p.catalogue ≡ s.catalogue
  pub relations : p.relations ≡ s.relations
  pub databases : p.databases ≡ s.databases
  pub levels : p.levels ≡ s.levels

-- an answer only prints, and makes no change
pub record Tells (s : StackState) (a : Answer) : Type 0 where
  pub prints : AllByRecursion IsPrint a.effects
  pub changes : a.changes ≡ []
  pub alike : AreAlike s a.stack

-- changes are made, which neither the catalogue nor a level over what they come to refuses
pub record Makes (s : StackState) (a : Answer) : Type 0 where
  pub changes : List Change
  pub is : a ≡ making s changes
  pub formed : AllByRecursion (λ g. IsTrue (is_well_formed g)) changes
  pub accepted : group_fault s.catalogue changes ≡ None
  pub unrefused : changing_refusal s.catalogue (after_all s.catalogue changes) (queries_of s) ≡ None

pub data MayGive (s : StackState) (a : Answer) : Type 0 where
  ByTelling : Tells s a → MayGive s a
  ByMaking : Makes s a → MayGive s a
  BySyncing : a ≡ syncing s → MayGive s a

abbrev pub AreGiven : StackState → List Answer → Type 0
AreGiven s [] = Unit {0}
AreGiven s (a ∷ answers) = MayGive s a × AreGiven a.stack answers

-- ---- the answers to lines
-- a refusal only prints
names_print : (level : ℕ) (es : List Effect) → AllByRecursion IsPrint es → AllByRecursion IsPrint (names_level level ++ es)
names_print zero es h = h
names_print (suc zero) es h = h
names_print (suc (suc n)) es h = (tt, h)

pub refusal_prints : (r : LevelRefusal) → AllByRecursion IsPrint (refusal_effects r)
refusal_prints r = names_print r.level (refuses r.fields ∷ []) (tt, tt)

-- what an open group holds
no_group : (s : StackState) → unwrap_or s.held [] ≡ [] → HoldsGroup s
no_group s none = record { formed = subst (AllByRecursion (λ g. IsTrue (is_well_formed g))) (sym none) tt; accepted = ap (group_fault s.catalogue) none }

held_more : (s : StackState) (g : Change) → IsTrue (is_well_formed g) → fault (working s) g ≡ None → HoldsGroup s → HoldsGroup (keeping s g).stack
held_more s g well fits h = record { formed = each s.held h.formed; accepted = all s.held h.accepted fits }
  where
    each : (o : Option (List Change)) → AllByRecursion (λ x. IsTrue (is_well_formed x)) (unwrap_or o []) → AllByRecursion (λ x. IsTrue (is_well_formed x)) (unwrap_or (option_map (λ (gs : List Change). gs ++ g ∷ []) o) [])
    each None f = tt
    each (Some gs) f = all_more (λ x. IsTrue (is_well_formed x)) gs g f well

    all : (o : Option (List Change)) → group_fault s.catalogue (unwrap_or o []) ≡ None → fault (after_all s.catalogue (unwrap_or o [])) g ≡ None → group_fault s.catalogue (unwrap_or (option_map (λ (gs : List Change). gs ++ g ∷ []) o) []) ≡ None
    all None f fits = refl
    all (Some gs) f fits = accepted_one_more s.catalogue gs g f fits

record IsGiven (s : StackState) (a : Answer) : Type 0 where
  may : MayGive s a
  group : HoldsGroup a.stack

told : (s : StackState) (a : Answer) → AllByRecursion IsPrint a.effects → a.changes ≡ [] → AreAlike s a.stack → MayGive s a
told s a prints none alike = ByTelling (record { prints = prints; changes = none; alike = alike })

one_given : (s : StackState) → HoldsGroup s → (line : List ℕ) → IsGiven s (answer s line)
one_given s h = answer_case s h (IsGiven s) (record {
  refused = λ r. record { may = told s (refusing s r) (refusal_prints r) refl (record { catalogue = refl; relations = refl; databases = refl; levels = refl }); group = record { formed = h.formed; accepted = h.accepted } };
  gave_up = λ r. record { may = told s (giving_up s r) (refusal_prints r) refl (record { catalogue = refl; relations = refl; databases = refl; levels = refl }); group = no_group _ refl };
  began = record { may = told s (beginning s) (tt, tt) refl (record { catalogue = refl; relations = refl; databases = refl; levels = refl }); group = no_group _ refl };
  kept = λ g well fits. record { may = told s (keeping s g) (tt, tt) refl (record { catalogue = refl; relations = refl; databases = refl; levels = refl }); group = held_more s g well fits h };
  aborted = record { may = told s (aborting s) (tt, tt) refl (record { catalogue = refl; relations = refl; databases = refl; levels = refl }); group = no_group _ refl };
  made = λ gs well accepted unrefused. record { may = ByMaking (record { changes = gs; is = refl; formed = well; accepted = accepted; unrefused = unrefused }); group = no_group _ refl };
  synced = record { may = BySyncing refl; group = record { formed = h.formed; accepted = h.accepted } };
})

pub lines_given : (lines : List (List ℕ)) (s : StackState) → HoldsGroup s → AreGiven s (answers_to s lines)
lines_given [] s h = tt
lines_given (line ∷ lines) s h =
    let this = one_given s h line in
    (this.may, lines_given lines (answer s line).stack this.group)

-- at the end an open group is refused, or none is open; and then comes a sync
abbrev EndAnswers : StackState → Option (List Change) → List Answer
EndAnswers s o = option_map_or (λ (a : Answer). a ∷ []) (by_open s o) [] ++ syncing (option_map_or (λ (a : Answer). a.stack) (by_open s o) s) ∷ []

pub end_given : (s : StackState) → AreGiven s (end_answers s)
end_given s = by_held s.held
  where
    by_held : (o : Option (List Change)) → AreGiven s (EndAnswers s o)
    by_held None = (BySyncing refl, tt)
    by_held (Some gs) = (told s (plainly giving_up s (open_group_fields (length gs))) (tt, tt) refl (record { catalogue = refl; relations = refl; databases = refl; levels = refl }), (BySyncing refl, tt))

given_append : (xs ys : List Answer) (s : StackState) → AreGiven s xs → AreGiven (stack_after s xs) ys → AreGiven s (xs ++ ys)
given_append [] ys s h k = k
given_append (a ∷ xs) ys s h k = (h.0, given_append xs ys a.stack h.1 k)

pub all_given : (lines : List (List ℕ)) (s : StackState) → HoldsGroup s → AreGiven s (all_answers s lines)
all_given lines s h = given_append (answers_to s lines) (end_answers (stack_behind s lines)) s (lines_given lines s h) (end_given (stack_behind s lines))

-- no group is open at first
pub none_open : (s : StackState) → s.held ≡ None → HoldsGroup s
none_open s e = no_group s (ap (λ (h : Option (List Change)). unwrap_or h []) e)

-- ---- what stays
-- the views
pub same_views : (s : StackState) (a : Answer) → MayGive s a → queries_of a.stack ≡ queries_of s
same_views s a (ByTelling h) = ap (λ (ls : List LevelValue). map (λ (l : LevelValue). l.query) ls) h.alike.levels
same_views s a (ByMaking h) = ap (λ (x : Answer). queries_of x.stack) h.is ∙ views_with_lines s.levels (lines_over s.catalogue (after_all s.catalogue h.changes) (queries_of s))
same_views s a (BySyncing is) = ap (λ (x : Answer). queries_of x.stack) is ∙ views_synced s.catalogue (queries_of s)

-- the catalogue is that which the changes make
pub made_catalogue : (s : StackState) (a : Answer) → MayGive s a → a.stack.catalogue ≡ after_all s.catalogue a.changes
made_catalogue s a (ByTelling h) = h.alike.catalogue ∙ ap (after_all s.catalogue) (sym h.changes)
made_catalogue s a (ByMaking h) = ap (λ (x : Answer). x.stack.catalogue) h.is ∙ ap (λ (x : Answer). after_all s.catalogue x.changes) (sym h.is)
made_catalogue s a (BySyncing is) = ap (λ (x : Answer). x.stack.catalogue) is ∙ ap (λ (x : Answer). after_all s.catalogue x.changes) (sym is)
