-- What the opening of a stack did.
use Rattle.std.proofs.Common.{◌≡◌, ◌≢◌, ◌∙◌, ◌++◌, [], ◌∷◌, Bool, ℕ, List, map, Option, None, Some, refl, sym, ap, subst, arith}
use Rattle.std.specs.Prelude.{false, Result, Ok, Err, IfErr, IsErrOf}
use Rattle.ss_text.specs.Texts.{Text, Row}
use Rattle.outside.specs.States.{StoreState}
use Rattle.outside.specs.Tree.{Tree}
use Rattle.outside.specs.Effects.{Effect, World, Contents, contents, performed, Partly, Does}
use Rattle.outside.specs.Blame.{StoreBlames}
use Rattle.outside.specs.declared.stop.Stop.{Stop}
use Rattle.outside.specs.declared.stop.Stop.TheVariants as stop
use Rattle.outside.proofs.EffectLemmas.{partly_more, none_off}
use Rattle.schema_model.specs.Catalogue.{CatalogueValue}
use Rattle.schema_model.specs.declared.change.Change.{Change}
use Rattle.course.specs.Answering.{Reply, Continues, Finishes}
use Rattle.course.specs.declared.status.Verdict.TheVariants as verdict
use Rattle.view_def.specs.Query.{Query}
use Rattle.view_stages.specs.Stages.{loaded_or_refused}
use Rattle.ss_print.specs.Printing.{refuses, prints_synced}
use Rattle.view_stack.specs.Stands.{given_by}
use Rattle.opened_view.proofs.AnswerLemmas.{behind}
use Rattle.stack_levels.specs.Levels.{opening_refusal, tables_over}
use Rattle.stack_levels.specs.Values.{LevelValue, synced_over}
use Rattle.stack_levels.specs.States.{LevelState, level_tables, lowest_catalogue, views_of}
use Rattle.stack_levels.specs.Opening.{AreFresh}
use Rattle.stack_levels.specs.declared.refusal.LevelRefusal.{LevelRefusal}
use Rattle.stack_answers.specs.Stack.{StackState, queries_of, stack_at_first}
use Rattle.stack_answers.specs.Held.{stack_state}
use Rattle.stack_answers.specs.Opening.{opened, folders_opened, opening_sum, with_levels, with_catalogue, twice_fields, with_databases, with_definitions}
use Rattle.stack_answers.specs.Folders.{labels_at, planned_in, ArePlanned, folders_synced, label_count}
use Rattle.stack_answers.specs.Steps.{Opens}
use Rattle.stack_answers.specs.declared.folders.Plan.{Plan}
use Rattle.stack_answers.specs.declared.opening.Opened.{Opened}
use Rattle.stack_answers.specs.declared.opening.Opened.TheVariants as opened_as
use Rattle.stack_answers.proofs.FolderLemmas.{filled_effects, filled_count}
use Rattle.stack_answers.proofs.PerformingLemmas.{later_cause}
use Rattle.stack_answers.proofs.StackLemmas.{fresh_state, views_are}

-- nothing was done
pub nothing_opened : (r : Reply StackState) (old new : World) (e : Stop) → Partly [] (contents old) (contents new) → Opens r old new (Err e)
nothing_opened (Continues es a) old new e h = partly_more [] es (contents old) (contents new) h
nothing_opened (Finishes es v) old new e h = partly_more [] es (contents old) (contents new) h

-- an opening that begins where nothing else was done
pub from_same : (r : Reply StackState) (old mid new : World) (x : Result Opened Stop) → contents mid ≡ contents old → Opens r mid new x → Opens r old new x
from_same (Continues es a) old mid new (Ok (opened_as.Open s)) e h = (h.0 ∙ ap (performed es) e, h.1)
from_same (Continues es a) old mid new (Ok (opened_as.Ended v)) e h = h
from_same (Finishes es w) old mid new (Ok (opened_as.Open s)) e h = h
from_same (Finishes es w) old mid new (Ok (opened_as.Ended v)) e h = (h.0 ∙ ap (performed es) e, h.1)
from_same (Continues es a) old mid new (Err f) e h = subst (λ (c : Contents). Partly es c (contents new)) e h
from_same (Finishes es w) old mid new (Err f) e h = subst (λ (c : Contents). Partly es c (contents new)) e h

-- over a catalogue that was loaded, and behind definitions that were read
pub loaded_behind : (t : Tree) (qs : List Query) (c : CatalogueValue) (old mid new : World) (x : Result Opened Stop) → loaded_or_refused t ≡ Ok c → contents mid ≡ contents old → Opens (with_levels t qs c (opening_refusal c qs)) mid new x
    → Opens (with_catalogue t qs (loaded_or_refused t)) old new x
loaded_behind t qs c old mid new x loaded e h = subst (λ (r : Result CatalogueValue Row). Opens (with_catalogue t qs r) old new x) (sym loaded) (from_same (with_levels t qs c (opening_refusal c qs)) old mid new x e h)

pub defined_behind : (t : Tree) (r : Result (List Query) Row) (qs : List Query) (old mid new : World) (x : Result Opened Stop) → Ok qs ≡ r → contents mid ≡ contents old → Opens (with_definitions t (Ok qs)) mid new x → Opens (with_definitions t r) old new x
defined_behind t r qs old mid new x are e h = subst (λ (s : Result (List Query) Row). Opens (with_definitions t s) old new x) are (from_same (with_definitions t (Ok qs)) old mid new x e h)

pub distinct_behind : (t : Tree) (qs : List Query) (o : Option Text) (old new : World) (x : Result Opened Stop) → None ≡ o → Opens (with_catalogue t qs (loaded_or_refused t)) old new x → Opens (with_databases t qs o) old new x
distinct_behind t qs o old new x none h = subst (λ (db : Option Text). Opens (with_databases t qs db) old new x) none h

pub judged_behind : (t : Tree) (qs : List Query) (c : CatalogueValue) (o p : Option LevelRefusal) (old new : World) (x : Result Opened Stop) → o ≡ p → Opens (with_levels t qs c p) old new x → Opens (with_levels t qs c o) old new x
judged_behind t qs c o p old new x is h = subst (λ (r : Option LevelRefusal). Opens (with_levels t qs c r) old new x) (sym is) h

-- a view database that stands twice ends the run
pub twice_ended : (t : Tree) (qs : List Query) (o : Option Text) (db : Text) (fields : Row) (old new : World) → Some db ≡ o → fields ≡ twice_fields db → contents new ≡ performed (refuses fields ∷ []) (contents old)
    → Opens (with_databases t qs o) old new (Ok (opened_as.Ended verdict.BadDefinition))
twice_ended t qs o db fields old new is told did =
    subst (λ (x : Option Text). Opens (with_databases t qs x) old new (Ok (opened_as.Ended verdict.BadDefinition))) is (did ∙ ap (λ (row : Row). performed (refuses row ∷ []) (contents old)) told, refl)

-- ---- the folders of levels that were just opened
module _ (t : Tree) (ls all : List LevelState) (plans used : List Plan) (told : Option Tree) (is : told ≡ Some t) (same : all ≡ ls) (planned : ArePlanned told all [] plans) (lent : used ≡ plans)
    (kept : map level_tables ls ≡ tables_over (lowest_catalogue ls) (views_of ls)) (held : Option (List Change)) (refused : Bool) (broken : ℕ) where
  abbrev own : StackState
  own = stack_state ls held refused broken

  labels_are : planned_in used ≡ map (labels_at t) ls
  labels_are = ap planned_in (lent ∙ planned.are) ∙ planned.as_told t is ∙ ap (map (labels_at t)) same

  pub filled_does : {A : Type 0} (old mid new : World) (r : Result A Stop) → contents mid ≡ contents old → Does (folders_synced all (planned_in used)) mid new r → Does (folders_opened t own.catalogue (queries_of own)) old new r
  filled_does old mid new r unmoved does =
      let effects : folders_synced all (planned_in used) ≡ folders_opened t own.catalogue (queries_of own) =
      (λ i. folders_synced (same i) (labels_are i)) ∙ filled_effects t (lowest_catalogue ls) ls kept ∙ ap (folders_opened t (lowest_catalogue ls)) (sym (views_are ls)) in
      behind [] (folders_opened t own.catalogue (queries_of own)) old mid new r unmoved (subst (λ (es : List Effect). Does es mid new r) effects does)

  pub filled_counts : (n : ℕ) → n ≡ label_count (planned_in used) → n ≡ opening_sum t own.catalogue (queries_of own)
  filled_counts n e = e ∙ ap label_count labels_are ∙ filled_count t (lowest_catalogue ls) ls kept ∙ ap (opening_sum t (lowest_catalogue ls)) (sym (views_are ls))

-- nothing was done where a call stopped
pub none_done : {A : Type 0} (es : List Effect) (old new : World) (r : Result A Stop) (e : Stop) → r ≡ Err e → Partly [] (contents old) (contents new) → Does es old new r
none_done {A = A} es old new r e is h = subst (λ (x : Result A Stop). Does es old new x) (sym is) (none_off es (contents old) (contents new) h)

-- a stop that reading is not the cause of
never_read : {A : Type 0} (r : Result A Stop) → IfErr r (λ e. e ≢ stop.ReadFault) → IsErrOf r stop.ReadFault → ⊥
never_read (Ok a) never e = absurd (cc e)
never_read (Err f) never e = let same : f ≡ stop.ReadFault = cc e in never same

pub no_read_first : {A : Type 0} {P : Type 0} (r : Result A Stop) → IfErr r (λ e. e ≢ stop.ReadFault) → IsErrOf r stop.ReadFault → P
no_read_first r never e = absurd (never_read r never e)

-- a count of faults that rose in the second of two calls
pub blamed_then : {A B : Type 0} (a b c : StoreState) (x : A) (r : Result B Stop) → StoreBlames a b (Ok x) → StoreBlames b c r → StoreBlames a c r
blamed_then a b c x r p q = record { reads = omega (arith, p.reads, q.reads); writes = omega (arith, p.writes, q.writes); because = later_cause a b c r p.reads p.writes q.because }

-- ---- a stack that was just opened
views_synced : (c : CatalogueValue) (qs : List Query) → map (λ (v : LevelValue). v.query) (synced_over c qs) ≡ qs
views_synced c [] = refl
views_synced c (q ∷ qs) = ap (λ (xs : List Query). q ∷ xs) (views_synced (given_by c q) qs)

-- what is done with its folders
abbrev pub fill_effects : Tree → CatalogueValue → List Query → List Effect
fill_effects t c qs = folders_opened t c qs ++ prints_synced (opening_sum t c qs) ∷ []

module _ (t : Tree) (ls : List LevelState) (c : CatalogueValue) (qs : List Query) (s : StackState) (old new : World) (fresh : AreFresh ls c qs) (is : s ≡ stack_state ls None false 0) where
  first : s ≡ stack_at_first qs c
  first = is ∙ fresh_state ls c qs fresh

  first_effects : fill_effects t s.catalogue (queries_of s) ≡ fill_effects t c qs
  first_effects = ap (λ (x : StackState). fill_effects t x.catalogue (queries_of x)) first ∙ ap (fill_effects t c) (views_synced c qs)

  pub filled_open : contents new ≡ performed (fill_effects t s.catalogue (queries_of s)) (contents old) → Opens (opened t qs c) old new (Ok (opened_as.Open s))
  filled_open did = (did ∙ ap (λ (es : List Effect). performed es (contents old)) first_effects, first)

  pub filled_partly : (e : Stop) → Partly (fill_effects t s.catalogue (queries_of s)) (contents old) (contents new) → Opens (opened t qs c) old new (Err e)
  filled_partly e did = subst (λ (es : List Effect). Partly es (contents old) (contents new)) first_effects did
