-- The answers to lines are such that a view may give, up to a line for whose changes the journal has no room.
use Rattle.std.proofs.Common.{◌≡◌, ◌⊎◌, inl, inr, ℕ, Bool, true, false, List, [], ◌∷◌, ◌++◌, length, None, Some, refl, sym, ap, ◌∙◌, append_assoc, append-nil}
use Rattle.std.specs.Option.{option_map_or}
use Rattle.ss_text.specs.Texts.{Row}
use Rattle.outside.specs.Effects.{Effect}
use Rattle.schema_model.specs.Catalogue.{CatalogueValue}
use Rattle.schema_model.specs.Changes.{after_all}
use Rattle.source_law.specs.Synced.{Synced}
use Rattle.course.specs.declared.status.Verdict.TheVariants as verdict
use Rattle.course.specs.Answering.{Reply, Continues, Finishes, Ending, prefixed, follow, ending, course}
use Rattle.course.specs.Keeping.{Entry, noted}
use Rattle.course.proofs.AnsweringLemmas.{follow_append, halted}
use Rattle.change_journal.specs.Spelled.{Group}
use Rattle.change_journal.specs.Lines.{lines_in}
use Rattle.journal_log.specs.Room.{groups_of, lacks_room, grown, appended_by}
use Rattle.journal_log.proofs.LogLemmas.{lines_append}
use Rattle.ss_print.specs.Printing.{refuses}
use Rattle.ss_print.specs.Fields.{open_group_fields}
use Rattle.view_stages.specs.Open.{OpenValue}
use Rattle.view_stages.specs.Syncs.{view_effects}
use Rattle.opened_view.specs.Answers.{Said, Tells, Scripts, Syncs, Answer, giving_up, syncing_view, by_open, end_effects, end_view}
use Rattle.upkeep_law.specs.Given.{IsSync, Prints, AreGiven}
use Rattle.upkeep_law.specs.Lists.{effects_by, last_shown, synced_by, last_synced}
use Rattle.upkeep_law.proofs.GroupLemmas.{IsGroup}
use Rattle.upkeep_law.proofs.LineLemmas.{lines_given, end_cases}
use Rattle.upkeep_law.proofs.ListLemmas.{effects_append, shown_append, given_append}
use Rattle.journal_answers.specs.declared.view.JournalView.{JournalView}
use Rattle.journal_answers.specs.Answers.{answer, made, by_room, step, note, finish}
use Rattle.journal_answers.proofs.MadeLemmas.{line_grows}
use Rattle.journal_law.specs.Promises.{after_groups, answers_to, groups_made, end_answers, view_behind, all_answers}

-- the view and its journal behind lines for which there is room
abbrev pub answered : JournalView → List ℕ → JournalView
answered f line = record { view = (answer f.view line).view; journal = grown (made f.view line) f.journal }

abbrev pub journal_behind : JournalView → List (List ℕ) → JournalView
journal_behind f [] = f
journal_behind f (line ∷ lines) = journal_behind (answered f line) lines

pub view_is : (lines : List (List ℕ)) (f : JournalView) → (journal_behind f lines).view ≡ view_behind f.view lines
view_is [] f = refl
view_is (line ∷ lines) f = view_is lines (answered f line)

abbrev pub lacks : JournalView → List ℕ → Bool
lacks f line = lacks_room f.journal.end (made f.view line)

abbrev pub AllFit : JournalView → List (List ℕ) → Type 0
AllFit f [] = Unit {0}
AllFit f (line ∷ lines) = (lacks f line ≡ false) × AllFit (answered f line) lines

-- one line
pub step_fits : (f : JournalView) (line : List ℕ) → lacks f line ≡ false → step f line ≡ Continues (answer f.view line).effects (answered f line)
step_fits f line fits = ap (λ (b : Bool). by_room f (answer f.view line) (made f.view line) b) fits

pub step_full : (f : JournalView) (line : List ℕ) → lacks f line ≡ true → step f line ≡ Finishes [] verdict.JournalFull
step_full f line full = ap (λ (b : Bool). by_room f (answer f.view line) (made f.view line) b) full

-- the course over lines is their answers
pub lines_followed : (lines : List (List ℕ)) (es : List Effect) (f : JournalView) → AllFit f lines → follow step lines (Continues es f) ≡ Continues (es ++ effects_by (answers_to f.view lines)) (journal_behind f lines)
lines_followed [] es f fit = ap (λ (fs : List Effect). Continues fs f) (sym (append-nil es))
lines_followed (line ∷ lines) es f fit =
    ap (λ (r : Reply JournalView). follow step lines (prefixed es r)) (step_fits f line fit.0)
    ∙ lines_followed lines (es ++ (answer f.view line).effects) (answered f line) fit.1
    ∙ ap (λ (fs : List Effect). Continues fs (journal_behind (answered f line) lines)) (append_assoc es (answer f.view line).effects (effects_by (answers_to (answer f.view line).view lines)))

pub course_is : (lines : List (List ℕ)) (f : JournalView) → AllFit f lines → course step finish f lines ≡ record { effects = effects_by (answers_to f.view lines) ++ (finish (journal_behind f lines)).effects; status = (finish (journal_behind f lines)).status }
course_is lines f fit = ap (ending finish) (lines_followed lines [] f fit)

-- or it ends at a line for which there is no room
pub record IsFull (f : JournalView) (lines : List (List ℕ)) : Type 0 where
  pub before : List (List ℕ)
  pub line : List ℕ
  pub more : List (List ℕ)
  pub are : lines ≡ before ++ line ∷ more
  pub fit : AllFit f before
  pub full : lacks (journal_behind f before) line ≡ true

pub fit_or_full : (lines : List (List ℕ)) (f : JournalView) → AllFit f lines ⊎ IsFull f lines
fit_or_full [] f = inl tt
fit_or_full (line ∷ lines) f = by_lacks (lacks f line) refl (fit_or_full lines (answered f line))
  where
    by_lacks : (b : Bool) → lacks f line ≡ b → AllFit (answered f line) lines ⊎ IsFull (answered f line) lines → AllFit f (line ∷ lines) ⊎ IsFull f (line ∷ lines)
    by_lacks true e rest = inr (record { before = []; line = line; more = lines; are = refl; fit = tt; full = e })
    by_lacks false e (inl all) = inl (e, all)
    by_lacks false e (inr n) = inr (record { before = line ∷ n.before; line = n.line; more = n.more; are = ap (λ (ls : List (List ℕ)). line ∷ ls) n.are; fit = (e, n.fit); full = n.full })

pub full_ends : (lines : List (List ℕ)) (f : JournalView) (n : IsFull f lines) (es : List Effect) → follow step lines (Continues es f) ≡ Finishes (es ++ effects_by (answers_to f.view n.before)) verdict.JournalFull
full_ends lines f n es =
    let fs : List Effect = es ++ effects_by (answers_to f.view n.before) in
    let g : JournalView = journal_behind f n.before in
    ap (λ (ls : List (List ℕ)). follow step ls (Continues es f)) n.are
    ∙ follow_append step n.before (n.line ∷ n.more) (Continues es f)
    ∙ ap (follow step (n.line ∷ n.more)) (lines_followed n.before es f n.fit)
    ∙ ap (λ (r : Reply JournalView). follow step n.more (prefixed fs r)) (step_full g n.line n.full)
    ∙ halted step n.more (fs ++ []) verdict.JournalFull
    ∙ ap (λ (gs : List Effect). Finishes gs verdict.JournalFull) (append-nil fs)

pub course_full : (lines : List (List ℕ)) (f : JournalView) (n : IsFull f lines) → course step finish f lines ≡ record { effects = effects_by (answers_to f.view n.before); status = verdict.JournalFull }
course_full lines f n = ap (ending finish) (full_ends lines f n [])

-- where it goes on there is room for all
pub all_fit : (lines : List (List ℕ)) (f g : JournalView) (es fs : List Effect) → follow step lines (Continues es f) ≡ Continues fs g → AllFit f lines
all_fit lines f g es fs e = elim (fit_or_full lines f) [ inl fit ↦ fit | inr n ↦ absurd (cc (sym e ∙ full_ends lines f n es)) ]

-- it goes on from the effects that it has had
pub course_behind : (lines : List (List ℕ)) (es : List Effect) (f : JournalView) → (ending finish (follow step lines (Continues es f))).effects ≡ es ++ (course step finish f lines).effects
course_behind lines es f = elim (fit_or_full lines f) [
  | inl fit ↦
      ap (λ (r : Reply JournalView). (ending finish r).effects) (lines_followed lines es f fit)
      ∙ append_assoc es (effects_by (answers_to f.view lines)) (finish (journal_behind f lines)).effects
      ∙ ap (λ (e : Ending). es ++ e.effects) (sym (course_is lines f fit))
  | inr n ↦
      ap (λ (r : Reply JournalView). (ending finish r).effects) (full_ends lines f n es)
      ∙ ap (λ (e : Ending). es ++ e.effects) (sym (course_full lines f n))
]

-- what is kept are the groups that are made
pub noted_fits : (line : List ℕ) (lines : List (List ℕ)) (es : List Effect) (f : JournalView) → lacks f line ≡ false
    → noted step note (line ∷ lines) (Continues es f) ≡ lines_in (groups_of (made f.view line)) ++ noted step note lines (Continues (es ++ (answer f.view line).effects) (answered f line))
noted_fits line lines es f fits =
    ap (λ (b : Bool). lines_in (appended_by (made f.view line) b) ++ noted step note lines (prefixed es (by_room f (answer f.view line) (made f.view line) b))) fits

pub noted_is : (lines : List (List ℕ)) (es : List Effect) (f : JournalView) → AllFit f lines → noted step note lines (Continues es f) ≡ lines_in (groups_made f.view lines)
noted_is [] es f fit = refl
noted_is (line ∷ lines) es f fit =
    noted_fits line lines es f fit.0
    ∙ ap (λ (xs : List Entry). lines_in (groups_of (made f.view line)) ++ xs) (noted_is lines (es ++ (answer f.view line).effects) (answered f line) fit.1)
    ∙ sym (lines_append (groups_of (made f.view line)) (groups_made (answer f.view line).view lines))

-- and they make the catalogue
after_one : (c : CatalogueValue) (group : Group) (groups : List Group) → after_groups c (groups_of group ++ groups) ≡ after_groups (after_all c group) groups
after_one c [] groups = refl
after_one c (g ∷ gs) groups = refl

pub catalogue_is : (lines : List (List ℕ)) (o : OpenValue) → (view_behind o lines).session.catalogue ≡ after_groups o.session.catalogue (groups_made o lines)
catalogue_is [] o = refl
catalogue_is (line ∷ lines) o =
    catalogue_is lines (answer o line).view
    ∙ ap (λ (c : CatalogueValue). after_groups c (groups_made (answer o line).view lines)) (line_grows o line)
    ∙ sym (after_one o.session.catalogue (made o line) (groups_made (answer o line).view lines))

-- no source is saved
said_saves : (said : Said) (o : OpenValue) (y : Synced) → synced_by said false o.session y ≡ y
said_saves Tells o y = refl
said_saves (Scripts lines) o y = refl
said_saves Syncs o y = refl

pub none_saved : (answers : List Answer) (o : OpenValue) (y : Synced) → last_synced false o y answers ≡ y
none_saved [] o y = refl
none_saved (a ∷ answers) o y = ap (λ (z : Synced). last_synced false a.view z answers) (said_saves a.said o y) ∙ none_saved answers a.view y

-- the end of the input
abbrev Ends : (List Answer → Type 0) → List Answer → OpenValue → Type 0
Ends P answers p = P (answers ++ syncing_view p ∷ [])

sync_itself : (o : OpenValue) → IsSync (syncing_view o) (syncing_view o)
sync_itself o = record { effects = refl; alike = record { query = refl; catalogue = refl; changed = refl; synced = refl }; writes = λ t. refl }

gave_up : (o : OpenValue) (fields : Row) → Prints o (giving_up o fields)
gave_up o fields = record { prints = (tt, tt); alike = record { query = refl; catalogue = refl; changed = refl; synced = refl }; writes = λ t. refl }

end_given : (o : OpenValue) → AreGiven false o (end_answers o)
end_given o = end_cases o (Ends (AreGiven false o)) (sync_itself o, tt) (λ fields. (gave_up o fields, (sync_itself (giving_up o fields).view, tt)))

end_shown : (o : OpenValue) (before : CatalogueValue) → last_shown o before (end_answers o) ≡ o.session.catalogue
end_shown o before = end_cases o (Ends (λ answers. last_shown o before answers ≡ o.session.catalogue)) refl (λ fields. refl)

end_done : (o : OpenValue) → effects_by (end_answers o) ≡ end_effects o ++ view_effects (end_view o)
end_done o =
    elim o.session.held as (λ h. effects_by (option_map_or (λ (a : Answer). a ∷ []) (by_open o h) [] ++ syncing_view (option_map_or (λ (a : Answer). a.view) (by_open o h) o) ∷ []) ≡ option_map_or (λ (a : Answer). a.effects) (by_open o h) [] ++ view_effects (option_map_or (λ (a : Answer). a.view) (by_open o h) o))
    [ None ↦ append-nil (view_effects o) | Some gs ↦ ap (λ (es : List Effect). refuses (open_group_fields (length gs)) ∷ es) (append-nil (view_effects (giving_up o (open_group_fields (length gs))).view)) ]

-- a run over lines is given, and what it leaves is synced
pub all_given : (lines : List (List ℕ)) (o : OpenValue) → IsGroup o.session → AreGiven false o (all_answers o lines)
all_given lines o h = given_append false o (answers_to o lines) (end_answers (view_behind o lines)) (lines_given false lines o h) (end_given (view_behind o lines))

pub all_shown : (lines : List (List ℕ)) (o : OpenValue) (before : CatalogueValue) → last_shown o before (all_answers o lines) ≡ (view_behind o lines).session.catalogue
all_shown lines o before = shown_append o before (answers_to o lines) (end_answers (view_behind o lines)) ∙ end_shown (view_behind o lines) (last_shown o before (answers_to o lines))

pub all_done : (lines : List (List ℕ)) (f : JournalView) → AllFit f lines → effects_by (all_answers f.view lines) ≡ (course step finish f lines).effects
all_done lines f fit =
    effects_append (answers_to f.view lines) (end_answers (view_behind f.view lines))
    ∙ ap (λ (es : List Effect). effects_by (answers_to f.view lines) ++ es) (end_done (view_behind f.view lines))
    ∙ ap (λ (o : OpenValue). effects_by (answers_to f.view lines) ++ (end_effects o ++ view_effects (end_view o))) (sym (view_is lines f))
    ∙ sym (ap (λ (e : Ending). e.effects) (course_is lines f fit))
