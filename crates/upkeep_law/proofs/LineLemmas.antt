-- The answers to lines are such that a view may give, and so are those at the end of the input.
use Rattle.std.proofs.Common.{◌≡◌, ℕ, Bool, true, false, List, [], ◌∷◌, ◌++◌, Option, None, Some, refl, sym, ap, ◌∙◌, length, append_assoc, append-nil}
use Rattle.std.specs.Prelude.{IsTrue, unwrap_or}
use Rattle.std.specs.List.{AllByRecursion}
use Rattle.std.specs.Option.{option_map_or, option_or}
use Rattle.ss_text.specs.Texts.{Row}
use Rattle.outside.specs.Effects.{Effect, Print}
use Rattle.schema_model.specs.Catalogue.{CatalogueValue}
use Rattle.schema_model.specs.Changes.{after_all, is_well_formed}
use Rattle.schema_model.specs.Refusals.{group_fault}
use Rattle.schema_model.specs.declared.change.Change.{Change}
use Rattle.schema_model.specs.declared.refusal.Refusal.{Refusal}
use Rattle.flow_law.specs.declared.line.TableLine.{TableLine}
use Rattle.source_law.specs.Synced.{Synced, unsaved, synced}
use Rattle.view_session.specs.Session.{SessionState, holding, made, lines_to}
use Rattle.course.specs.Answering.{Continues, Ending, ending, follow, course}
use Rattle.ss_print.specs.Printing.{refuses}
use Rattle.ss_print.specs.Fields.{open_group_fields}
use Rattle.view_stages.specs.Open.{OpenValue}
use Rattle.view_stages.specs.Stages.{refusal_of}
use Rattle.view_stages.specs.Syncs.{sync_effects}
use Rattle.opened_view.specs.Answers.{Said, Tells, Scripts, Syncs, Answer, giving_up, changing, committing, syncing, syncing_view, more_broken, answer, answer_by, answers_by, answers_to, by_open, step, finish, end_view}
use Rattle.opened_view.proofs.AnswerCases.{answer_case}
use Rattle.upkeep_law.specs.Given.{AreAlike, Prints, Moves, IsSync, sync_by, MayGive, AreGiven}
use Rattle.upkeep_law.specs.Lists.{effects_by, shown_by, last_shown, synced_by, last_synced}
use Rattle.upkeep_law.specs.Promises.{end_answers, view_behind, all_answers, saved_behind, saved_at_end}
use Rattle.upkeep_law.proofs.GroupLemmas.{IsGroup, no_group, one_more}
use Rattle.upkeep_law.proofs.ListLemmas.{effects_append, shown_append, synced_append, given_append}

-- an answer that a view may give, behind which a group stands over the catalogue
record IsGiven (saves : Bool) (o : OpenValue) (a : Answer) : Type 0 where
  may : MayGive saves o a a.said
  group : IsGroup a.view.session

same_group : (n m : SessionState) → m.held ≡ n.held → m.catalogue ≡ n.catalogue → IsGroup n → IsGroup m
same_group n m e f h = record { formed = rw e h.formed; accepted = rw (e, f) h.accepted }

-- something is printed, and no more changes than the open group and what was refused
told : (o : OpenValue) (held : Option (List Change)) (refused : Bool) (broken : ℕ) (bytes : List ℕ)
    → Prints o (record { said = Tells; effects = Print bytes ∷ []; view = record { session = record o.session { held = held }; synced = o.synced; refused = refused; broken = broken }; writes = λ t. 0 })
told o held refused broken bytes = record { prints = (tt, tt); alike = record { query = refl; catalogue = refl; changed = refl; synced = refl }; writes = λ t. refl }

-- changes are made
moves : (o p : OpenValue) (gs : List Change) (bytes : List ℕ) → AllByRecursion (λ g. IsTrue (is_well_formed g)) gs → group_fault o.session.catalogue gs ≡ None → refusal_of (after_all o.session.catalogue gs) o.session.query ≡ None
    → AreAlike (record { session = made o.session gs; synced = o.synced; refused = o.refused; broken = o.broken }) p
    → (let lines : List TableLine = lines_to o.session (after_all o.session.catalogue gs) in Moves o lines (record { said = Scripts lines; effects = Print bytes ∷ []; view = p; writes = λ t. 0 }))
moves o p gs bytes formed accepted unrefused alike = record {
  changes = gs;
  formed = formed;
  accepted = accepted;
  unrefused = unrefused;
  script = refl;
  prints = record { prints = (tt, tt); alike = alike; writes = λ t. refl };
}

sync_itself : (sync : Answer) → IsSync sync sync
sync_itself sync = record { effects = refl; alike = record { query = refl; catalogue = refl; changed = refl; synced = refl }; writes = λ t. refl }

sync_given : (saves : Bool) (o : OpenValue) → IsGroup o.session → IsGiven saves o (sync_by saves o)
sync_given true o h = record { may = sync_itself (syncing o); group = same_group o.session _ refl refl h }
sync_given false o h = record { may = sync_itself (syncing_view o); group = same_group o.session _ refl refl h }

line_given : (saves : Bool) (o : OpenValue) → IsGroup o.session → (line : List ℕ) → IsGiven saves o (answer_by (sync_by saves) o line)
line_given saves o h = answer_case (sync_by saves) o (IsGiven saves o) (record {
  refused = λ fields. record { may = told o o.session.held true (more_broken o) _; group = same_group o.session _ refl refl h };
  gave_up = λ fields. record { may = told o None true 0 _; group = no_group _ refl };
  began = record { may = told o (Some []) o.refused 0 _; group = no_group _ refl };
  kept = λ g well fits. record { may = told o (holding o.session g).held o.refused o.broken _; group = one_more o.session g well fits h };
  aborted = record { may = told o None o.refused 0 _; group = no_group _ refl };
  changed = λ g none well fits unrefused. record {
    may = moves o (changing o g).view (g ∷ []) _ (well, tt) (ap (λ (r : Option Refusal). option_or r None) fits) unrefused (record { query = refl; catalogue = refl; changed = refl; synced = refl });
    group = no_group _ (ap (λ (held : Option (List Change)). unwrap_or held []) none);
  };
  committed = λ unrefused. record {
    may = moves o (committing o).view (unwrap_or o.session.held []) _ h.formed h.accepted unrefused (record { query = refl; catalogue = refl; changed = refl; synced = refl });
    group = no_group _ refl;
  };
  synced = sync_given saves o h;
})

pub lines_given : (saves : Bool) (lines : List (List ℕ)) (o : OpenValue) → IsGroup o.session → AreGiven saves o (answers_by (sync_by saves) o lines)
lines_given saves [] o h = tt
lines_given saves (line ∷ lines) o h =
    let this = line_given saves o h line in
    (this.may, lines_given saves lines (answer_by (sync_by saves) o line).view this.group)

-- the end of the input, which refuses an open group, or not
pub end_cases : (o : OpenValue) (P : List Answer → OpenValue → Type 0) → P [] o → ((fields : Row) → P (giving_up o fields ∷ []) (giving_up o fields).view) → P (option_map_or (λ (a : Answer). a ∷ []) (by_open o o.session.held) []) (end_view o)
end_cases o P same gave_up =
    elim o.session.held as (λ h. P (option_map_or (λ (a : Answer). a ∷ []) (by_open o h) []) (option_map_or (λ (a : Answer). a.view) (by_open o h) o))
    [ None ↦ same | Some gs ↦ gave_up (open_group_fields _) ]

abbrev Ends : (List Answer → Type 0) → List Answer → OpenValue → Type 0
Ends P answers p = P (answers ++ syncing p ∷ [])

pub end_given : (o : OpenValue) → AreGiven true o (end_answers o)
end_given o =
    end_cases o (Ends (AreGiven true o)) (sync_itself (syncing o), tt) (λ fields. (told o None true 0 _, (sync_itself (syncing (giving_up o fields).view), tt)))

end_shown : (o : OpenValue) (before : CatalogueValue) → last_shown o before (end_answers o) ≡ o.session.catalogue
end_shown o before = end_cases o (Ends (λ answers. last_shown o before answers ≡ o.session.catalogue)) refl (λ fields. refl)

end_synced : (o : OpenValue) (before : Synced) → last_synced true o before (end_answers o) ≡ synced o.session before
end_synced o before = end_cases o (Ends (λ answers. last_synced true o before answers ≡ synced o.session before)) refl (λ fields. refl)

end_done : (o : OpenValue) → effects_by (end_answers o) ≡ (finish o).effects
end_done o =
    elim o.session.held as (λ h. effects_by (option_map_or (λ (a : Answer). a ∷ []) (by_open o h) [] ++ syncing (option_map_or (λ (a : Answer). a.view) (by_open o h) o) ∷ []) ≡ option_map_or (λ (a : Answer). a.effects) (by_open o h) [] ++ sync_effects (option_map_or (λ (a : Answer). a.view) (by_open o h) o))
    [ None ↦ append-nil (sync_effects o) | Some gs ↦ ap (λ (es : List Effect). refuses (open_group_fields (length gs)) ∷ es) (append-nil (sync_effects (giving_up o (open_group_fields (length gs))).view)) ]

-- the course over lines is their answers
goes : (lines : List (List ℕ)) (es : List Effect) (o : OpenValue) → follow step lines (Continues es o) ≡ Continues (es ++ effects_by (answers_to o lines)) (view_behind o lines)
goes [] es o = ap (λ (fs : List Effect). Continues fs o) (sym (append-nil es))
goes (line ∷ lines) es o =
    goes lines (es ++ (answer o line).effects) (answer o line).view
    ∙ ap (λ (fs : List Effect). Continues fs (view_behind (answer o line).view lines)) (append_assoc es (answer o line).effects (effects_by (answers_to (answer o line).view lines)))

pub lines_followed : (lines : List (List ℕ)) (o : OpenValue) → follow step lines (Continues [] o) ≡ Continues (effects_by (answers_to o lines)) (view_behind o lines)
lines_followed lines o = goes lines [] o

pub course_is : (lines : List (List ℕ)) (o : OpenValue) → course step finish o lines ≡ record { effects = effects_by (answers_to o lines) ++ (finish (view_behind o lines)).effects; status = (finish (view_behind o lines)).status }
course_is lines o = ap (ending finish) (lines_followed lines o)

pub all_done : (lines : List (List ℕ)) (o : OpenValue) → effects_by (all_answers o lines) ≡ (course step finish o lines).effects
all_done lines o =
    effects_append (answers_to o lines) (end_answers (view_behind o lines)) ∙ ap (λ (es : List Effect). effects_by (answers_to o lines) ++ es) (end_done (view_behind o lines))
    ∙ sym (ap (λ (e : Ending). e.effects) (course_is lines o))

-- a run over lines is given, and what it leaves is synced
pub all_given : (lines : List (List ℕ)) (o : OpenValue) → IsGroup o.session → AreGiven true o (all_answers o lines)
all_given lines o h = given_append true o (answers_to o lines) (end_answers (view_behind o lines)) (lines_given true lines o h) (end_given (view_behind o lines))

pub all_shown : (lines : List (List ℕ)) (o : OpenValue) (before : CatalogueValue) → last_shown o before (all_answers o lines) ≡ (view_behind o lines).session.catalogue
all_shown lines o before = shown_append o before (answers_to o lines) (end_answers (view_behind o lines)) ∙ end_shown (view_behind o lines) (last_shown o before (answers_to o lines))

pub all_synced : (lines : List (List ℕ)) (o : OpenValue) → last_synced true o (unsaved o.session.catalogue) (all_answers o lines) ≡ saved_at_end o lines
all_synced lines o = synced_append true o (unsaved o.session.catalogue) (answers_to o lines) (end_answers (view_behind o lines)) ∙ end_synced (view_behind o lines) (saved_behind o lines)

-- where syncs save the sources, what is shown is what was saved
said_shown : (said : Said) (o : OpenValue) (y : Synced) → shown_by said o y.catalogue ≡ (synced_by said true o.session y).catalogue
said_shown Tells o y = refl
said_shown (Scripts lines) o y = refl
said_shown Syncs o y = refl

pub shown_is_saved : (answers : List Answer) (o : OpenValue) (y : Synced) → last_shown o y.catalogue answers ≡ (last_synced true o y answers).catalogue
shown_is_saved [] o y = refl
shown_is_saved (a ∷ answers) o y =
    ap (λ (c : CatalogueValue). last_shown a.view c answers) (said_shown a.said o y) ∙ shown_is_saved answers a.view (synced_by a.said true o.session y)
