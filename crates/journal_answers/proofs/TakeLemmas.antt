-- From what became of changes to the answer that asks for them.
use Rattle.std.proofs.Common.{◌≡◌, ℕ, Bool, true, false, List, [], ◌∷◌, Option, None, Some, refl, sym, ap, ◌∙◌, subst}
use Rattle.std.specs.Prelude.{Result, Ok, Err, IsTrue, is_some, not, unwrap_or, option_to_list}
use Rattle.ss_text.specs.Texts.{Row}
use Rattle.disk.specs.Disk.{DiskState}
use Rattle.schema_model.specs.Changes.{after}
use Rattle.schema_model.specs.declared.change.Change.{Change}
use Rattle.flow_law.specs.declared.line.TableLine.{TableLine}
use Rattle.flow_law.specs.declared.refused.EvalFault.{EvalFault}
use Rattle.flow_law.specs.Faults.{IsFault}
use Rattle.view_meaning.specs.Refusal.{refusal}
use Rattle.course.specs.declared.status.LineStop.{LineStop}
use Rattle.course.specs.Keeping.{Entry, LeavesNow}
use Rattle.change_journal.specs.Spelled.{Group, said_by_row}
use Rattle.change_journal.specs.Lines.{lines_in}
use Rattle.change_journal.specs.States.{JournalState}
use Rattle.journal_log.specs.Logs.{log_of, KeepsFirst}
use Rattle.journal_log.specs.Room.{lacks_room, grown, appended_to}
use Rattle.journal_log.proofs.LogLemmas.{none_first}
use Rattle.view_session.specs.Session.{SessionState, IsAccepted, IsRefused, proposing, accepted, closed, committed, moved, lines_to, working}
use Rattle.view_session.specs.declared.fault.Refused.{Refused}
use Rattle.ss_print.specs.Printing.{prints_script}
use Rattle.view_stages.specs.Open.{OpenValue}
use Rattle.opened_view.specs.Answers.{Answer, Said, Tells, Scripts, Syncs, giving_up, refusing}
use Rattle.opened_view.specs.Steps.{IsFieldsOf, IsFaultFieldsOf}
use Rattle.opened_view.proofs.AnswerLemmas.{accepted_is, refused_is, made_is, stopped_is, made_moved}
use Rattle.journal_answers.specs.declared.view.JournalView.{JournalView}
use Rattle.journal_answers.specs.Answers.{asked_of, made_by}
use Rattle.journal_answers.specs.Steps.{TakesScript, TakesNone, judging, ending_group, is_script}

-- an answer that is no script makes no change
pub none_made : (s : Said) (gs : Group) → is_script s ≡ false → made_by s gs ≡ []
none_made Tells gs quiet = refl
none_made (Scripts lines) gs quiet = absurd (cc quiet)
none_made Syncs gs quiet = refl

-- what the open group holds is what a line asks for
pub group_asked : (o : OpenValue) (row : Result Row ℕ) → is_some o.session.held ≡ true → unwrap_or o.session.held [] ≡ asked_of o row
group_asked o row inside = by_held o.session.held inside
  where
    by_held : (h : Option (List Change)) → is_some h ≡ true → unwrap_or h [] ≡ unwrap_or h (option_to_list (said_by_row row))
    by_held None e = absurd (cc e)
    by_held (Some gs) e = refl

-- whether there was room
has_room : (end : ℕ) (group gs : Group) (b : Bool) → not b ≡ lacks_room end group → b ≡ true → group ≡ gs → lacks_room end gs ≡ false
has_room end group gs b room is same = ap (lacks_room end) (sym same) ∙ sym room ∙ ap not is

has_none : (end : ℕ) (group gs : Group) (b : Bool) → not b ≡ lacks_room end group → b ≡ false → gs ≡ group → lacks_room end gs ≡ true
has_none end group gs b room is same = ap (lacks_room end) same ∙ sym room ∙ ap not is

-- an opened view as it is seen, with its journal
module _ (o v : OpenValue) (j : JournalState) (same : o ≡ v) where
  abbrev viewed : OpenValue → JournalView
  viewed x = record { view = x; journal = j }

  -- a change that is made, and one that is refused
  module _ (g : Change) (alone : v.session.held ≡ None) where
    alone_at : o.session.held ≡ None
    alone_at = ap (λ (x : OpenValue). x.session.held) same ∙ alone

    pub change_made : (group : Group) → IsAccepted o.session g → group ≡ g ∷ [] → made_by (judging v g).said (g ∷ []) ≡ group
    change_made group h one = subst (λ (x : OpenValue). made_by (judging x g).said (g ∷ []) ≡ group) same (ap (λ (a : Answer). made_by a.said (g ∷ [])) (accepted_is o g alone_at h) ∙ sym one)

    pub change_unmade : (e : Refused) (row : Row) → IsRefused o.session g e → IsFieldsOf g e row → made_by (judging v g).said (g ∷ []) ≡ []
    change_unmade e row h fields = subst (λ (x : OpenValue). made_by (judging x g).said (g ∷ []) ≡ []) same (ap (λ (a : Answer). made_by a.said (g ∷ [])) (refused_is o g e row alone_at h fields))

    abbrev TakesChange : OpenValue → List TableLine → JournalView → Type 0
    TakesChange x lines n = TakesScript (viewed x) (judging x g) (made_by (judging x g).said (g ∷ [])) n lines

    pub change_taken : (group : Group) (b : Bool) (lines : List TableLine) (p s : SessionState) (k : JournalState) → o.session.proposed ≡ None → IsAccepted o.session g → lines ≡ lines_to o.session (after o.session.catalogue g) → group ≡ g ∷ []
        → b ≡ true → not b ≡ lacks_room j.end group → p ≡ proposing o.session (g ∷ []) → (IsTrue b → s ≡ accepted p) → (IsTrue b → k ≡ grown group j) → TakesChange v lines (record { view = record o { session = s }; journal = k })
    change_taken group b lines p s k idle h script one room_is room proposed made grows =
        let n : JournalView = record { view = record o { session = s }; journal = k } in
        let moves : s ≡ moved o.session g = made room_is ∙ ap accepted proposed ∙ made_moved o.session g alone_at idle in
        subst (λ (x : OpenValue). TakesChange x lines n) same
        (subst (λ (a : Answer). TakesScript (viewed o) a (made_by a.said (g ∷ [])) n lines) (sym (accepted_is o g alone_at h)) (record {
          prints = ap (λ (ls : List TableLine). prints_script ls ∷ []) (sym script);
          room = has_room j.end group (g ∷ []) b room room_is one;
          took = ap (λ (t : SessionState). record { view = record o { session = t }; journal = k }) moves ∙ ap (λ (l : JournalState). record { view = record o { session = moved o.session g }; journal = l }) (grows room_is ∙ ap (λ (gs : Group). grown gs j) one);
        }))

    pub change_full : (group : Group) (b : Bool) → IsAccepted o.session g → group ≡ g ∷ [] → b ≡ false → not b ≡ lacks_room j.end group → lacks_room j.end (made_by (judging v g).said (g ∷ [])) ≡ true
    change_full group b h one lacks room = has_none j.end group (made_by (judging v g).said (g ∷ [])) b room lacks (change_made group h one)

    pub change_refused : (e : Refused) (row : Row) (s : SessionState) → IsRefused o.session g e → IsFieldsOf g e row → s ≡ o.session
        → TakesNone (viewed v) (judging v g) (made_by (judging v g).said (g ∷ [])) (record { view = record o { session = s }; journal = j }) (refusing v row) v
    change_refused e row s h fields stays = record {
      none = change_unmade e row h fields;
      refuses = subst (λ (x : OpenValue). judging x g ≡ refusing x row) same (refused_is o g e row alone_at h fields);
      stays = ap (λ (t : SessionState). record { view = record o { session = t }; journal = j }) stays ∙ ap viewed same;
    }

  -- a group that is made, and one that is refused
  abbrev held_in : OpenValue → Group
  held_in x = unwrap_or x.session.held []

  pub group_made : (group : Group) → refusal (working o.session) o.session.query ≡ None → group ≡ held_in o → made_by (ending_group v).said (held_in v) ≡ group
  group_made group h all = subst (λ (x : OpenValue). made_by (ending_group x).said (held_in x) ≡ group) same (ap (λ (a : Answer). made_by a.said (held_in o)) (made_is o h) ∙ sym all)

  pub group_unmade : (e : EvalFault) (row : Row) → IsFault (refusal (working o.session) o.session.query) e → IsFaultFieldsOf e row → made_by (ending_group v).said (held_in v) ≡ []
  group_unmade e row h fields = subst (λ (x : OpenValue). made_by (ending_group x).said (held_in x) ≡ []) same (ap (λ (a : Answer). made_by a.said (held_in o)) (stopped_is o e row h fields))

  abbrev TakesGroup : OpenValue → List TableLine → JournalView → Type 0
  TakesGroup x lines n = TakesScript (viewed x) (ending_group x) (made_by (ending_group x).said (held_in x)) n lines

  pub group_taken : (group : Group) (b : Bool) (lines : List TableLine) (p s : SessionState) (k : JournalState) → refusal (working o.session) o.session.query ≡ None → lines ≡ lines_to o.session (working o.session) → group ≡ held_in o
      → b ≡ true → not b ≡ lacks_room j.end group → p ≡ proposing (closed o.session) (held_in o) → (IsTrue b → s ≡ accepted p) → (IsTrue b → k ≡ grown group j) → TakesGroup v lines (record { view = record o { session = s; broken = 0 }; journal = k })
  group_taken group b lines p s k h script all room_is room proposed made grows =
      let n : JournalView = record { view = record o { session = s; broken = 0 }; journal = k } in
      let moves : s ≡ committed o.session = made room_is ∙ ap accepted proposed in
      subst (λ (x : OpenValue). TakesGroup x lines n) same
      (subst (λ (a : Answer). TakesScript (viewed o) a (made_by a.said (held_in o)) n lines) (sym (made_is o h)) (record {
        prints = ap (λ (ls : List TableLine). prints_script ls ∷ []) (sym script);
        room = has_room j.end group (held_in o) b room room_is all;
        took = ap (λ (t : SessionState). record { view = record o { session = t; broken = 0 }; journal = k }) moves ∙ ap (λ (l : JournalState). record { view = record o { session = committed o.session; broken = 0 }; journal = l }) (grows room_is ∙ ap (λ (gs : Group). grown gs j) all);
      }))

  pub group_full : (group : Group) (b : Bool) → refusal (working o.session) o.session.query ≡ None → group ≡ held_in o → b ≡ false → not b ≡ lacks_room j.end group → lacks_room j.end (made_by (ending_group v).said (held_in v)) ≡ true
  group_full group b h all lacks room = has_none j.end group (made_by (ending_group v).said (held_in v)) b room lacks (group_made group h all)

  pub group_refused : (e : EvalFault) (row : Row) (s : SessionState) → IsFault (refusal (working o.session) o.session.query) e → IsFaultFieldsOf e row → s ≡ closed o.session
      → TakesNone (viewed v) (ending_group v) (made_by (ending_group v).said (held_in v)) (record { view = record o { session = s }; journal = j }) (giving_up v row) (record v { session = closed v.session })
  group_refused e row s h fields ends = record {
    none = group_unmade e row h fields;
    refuses = subst (λ (x : OpenValue). ending_group x ≡ giving_up x row) same (stopped_is o e row h fields);
    stays = ap (λ (t : SessionState). record { view = record o { session = t }; journal = j }) ends ∙ ap (λ (x : OpenValue). viewed (record x { session = closed x.session })) same;
  }

-- what was kept of changes that an answer makes, and of none
module _ {D : Type 0} (state : D → DiskState) (left_since : D → ℕ → List ℕ → Type 0) (end : ℕ) (es : List Entry) where
  pub kept_made : {A B : Type 0} (gs hs : Group) (d e : D) (a : A) (b : B) → hs ≡ gs → KeepsFirst (log_of state left_since) es (lines_in (appended_to end gs)) d e (Ok a) → KeepsFirst (log_of state left_since) es (lines_in (appended_to end hs)) d e (Ok b)
  kept_made gs hs d e a b same h = subst (λ (xs : Group). KeepsFirst (log_of state left_since) es (lines_in (appended_to end xs)) d e (Ok b)) (sym same) (record { fronts = h.fronts; kept = h.kept })

  pub kept_stopped : {A B : Type 0} (gs hs : Group) (d e : D) (x : LineStop) → hs ≡ gs → KeepsFirst {A = A} (log_of state left_since) es (lines_in (appended_to end gs)) d e (Err x) → KeepsFirst {A = B} (log_of state left_since) es (lines_in (appended_to end hs)) d e (Err x)
  kept_stopped {B = B} gs hs d e x same h = subst (λ (xs : Group). KeepsFirst {A = B} (log_of state left_since) es (lines_in (appended_to end xs)) d e (Err x)) (sym same) (record { fronts = h.fronts; kept = h.kept })

  pub kept_none : {B : Type 0} (hs : Group) (d : D) (b : B) → hs ≡ [] → LeavesNow (log_of state left_since) es d → KeepsFirst (log_of state left_since) es (lines_in (appended_to end hs)) d d (Ok b)
  kept_none hs d b none leaves = none_first (log_of state left_since) es (lines_in (appended_to end hs)) d b (ap (λ (xs : Group). lines_in (appended_to end xs)) none) leaves
