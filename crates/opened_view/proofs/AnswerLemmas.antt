-- From what each step of an answer did to what the line asks for.
use Rattle.std.proofs.Common.{◌≡◌, ◌≢◌, ℕ, suc, zero, ◌==◌, Bool, true, length, List, [], ◌∷◌, ◌++◌, Option, None, Some, refl, sym, ap, ◌∙◌, subst}
use Rattle.std.specs.Prelude.{Result, Ok, Err, is_some, unwrap_or, option_map, if◌then◌else◌}
use Rattle.std.specs.Option.{option_map_or}
use Rattle.std.proofs.lemmas.Bool.{eqb-true, false_from_ne_true}
use Rattle.ss_text.specs.Texts.{Text, Row}
use Rattle.tab_lines.specs.Spelling.{unspell, IsUnspelled}
use Rattle.tab_lines.specs.declared.spelling.LineFault.{LineFault}
use Rattle.tab_lines.specs.declared.spelling.LineFault.TheVariants.{BadEscape}
use Rattle.outside.specs.Effects.{Effect, World, contents, performed, Does, Replace}
use Rattle.outside.proofs.EffectLemmas.{performed_append, partly_later}
use Rattle.outside.specs.declared.stop.Stop.{Stop}
use Rattle.schema_model.specs.Changes.{after, after_all}
use Rattle.schema_model.specs.Refusals.{fault}
use Rattle.schema_model.specs.Reading.{Read, IsAnswer, change_of}
use Rattle.schema_model.specs.Catalogue.{CatalogueValue}
use Rattle.schema_model.specs.declared.change.Change.{Change}
use Rattle.schema_model.specs.declared.change.ChangeFault.{ChangeFault}
use Rattle.schema_model.specs.declared.change.ChangeFault.TheVariants as change
use Rattle.flow_law.specs.declared.line.TableLine.{TableLine}
use Rattle.view_meaning.specs.Refusal.{refusal}
use Rattle.schema_model.specs.declared.pair.Pair.{Pair}
use Rattle.csv_catalog.specs.Saved.{saved}
use Rattle.source_law.specs.Synced.{saving}
use Rattle.view_session.specs.Session.{SessionState, IsAccepted, IsRefused, IsHoldRefused, lines_to, working, moved, proposing, accepted}
use Rattle.flow_law.specs.declared.refused.EvalFault.{EvalFault}
use Rattle.flow_law.specs.declared.refused.EvalFault.TheVariants as eval
use Rattle.flow_law.specs.Faults.{IsFault}
use Rattle.view_session.specs.declared.fault.HoldRefused.{HoldRefused}
use Rattle.view_session.specs.declared.fault.HoldRefused.TheVariants as hold
use Rattle.view_session.specs.declared.fault.Refused.{Refused}
use Rattle.view_session.specs.declared.fault.Refused.TheVariants as refused
use Rattle.ss_print.specs.Fields.{escape_fields, first_field, line_fields, group_broken_fields, open_group_fields}
use Rattle.ss_print.specs.Printing.{refuses, prints_held, prints_script}
use Rattle.view_stages.specs.Open.{OpenValue}
use Rattle.view_stages.specs.Stages.{refusal_of}
use Rattle.view_stages.specs.Syncs.{sync_effects}
use Rattle.view_stages.proofs.StageLemmas.{not_refused, refused_label, refused_clash}
use Rattle.opened_view.specs.declared.word.Word.{Word}
use Rattle.opened_view.specs.Steps.{IsFieldsOf, IsHoldFieldsOf, IsFaultFieldsOf}
use Rattle.opened_view.specs.Answers.{Answer, answer, by_spelling, by_row, by_first, by_fields, by_word, by_broken, by_group, by_open, by_change, by_fault, by_view, refusing, giving_up, keeping, changing, committing, syncing, word_in, end_effects, end_view, finish}

-- a change where no group is open
own_catalogue : (s : SessionState) (g : Change) → s.held ≡ None → fault (working s) g ≡ fault s.catalogue g
own_catalogue s g none = ap (λ (h : Option (List Change)). fault (after_all s.catalogue (unwrap_or h [])) g) none

alone : (o : OpenValue) (g : Change) → o.session.held ≡ None → by_fault o g None ≡ by_view o g (refusal_of (after o.session.catalogue g) o.session.query)
alone o g none = ap (λ (h : Option (List Change)). if is_some h then keeping o g else by_view o g (refusal_of (after o.session.catalogue g) o.session.query)) none

pub accepted_is : (o : OpenValue) (g : Change) → o.session.held ≡ None → IsAccepted o.session g → by_fault o g (fault (working o.session) g) ≡ changing o g
accepted_is o g none h = ap (by_fault o g) (own_catalogue o.session g none ∙ h.change) ∙ alone o g none ∙ ap (by_view o g) (not_refused (after o.session.catalogue g) o.session.query h.view)

pub refused_is : (o : OpenValue) (g : Change) (e : Refused) (row : Row) → o.session.held ≡ None → IsRefused o.session g e → IsFieldsOf g e row → by_fault o g (fault (working o.session) g) ≡ refusing o row
refused_is o g (refused.Change r) row none h f = ap (by_fault o g) (own_catalogue o.session g none ∙ h) ∙ ap (refusing o) (sym f)
refused_is o g (refused.Illegal e) row none h f =
    ap (by_fault o g) (own_catalogue o.session g none ∙ h.0) ∙ alone o g none ∙ ap (by_view o g) (refused_label (after o.session.catalogue g) o.session.query e h.1) ∙ ap (refusing o) (sym f)
refused_is o g (refused.Conflict e) row none h f =
    ap (by_fault o g) (own_catalogue o.session g none ∙ h.0) ∙ alone o g none ∙ ap (by_view o g) (refused_clash (after o.session.catalogue g) o.session.query e h.1) ∙ ap (refusing o) (sym f)
refused_is o g refused.NoMemory row none h f = absurd f

-- a change in a group
pub held_is : (o : OpenValue) (g : Change) → is_some o.session.held ≡ true → fault (working o.session) g ≡ None → by_fault o g (fault (working o.session) g) ≡ keeping o g
held_is o g inside fits = ap (by_fault o g) fits ∙ ap (λ (b : Bool). if b then keeping o g else by_view o g (refusal_of (after o.session.catalogue g) o.session.query)) inside

pub unheld_is : (o : OpenValue) (g : Change) (e : HoldRefused) (row : Row) → IsHoldRefused o.session g e → IsHoldFieldsOf g e row → by_fault o g (fault (working o.session) g) ≡ refusing o row
unheld_is o g (hold.Change r) row h f = ap (by_fault o g) h ∙ ap (refusing o) (sym f)
unheld_is o g hold.NoMemory row h f = absurd f

-- a group that is made, and one that is refused
pub made_is : (o : OpenValue) → refusal (working o.session) o.session.query ≡ None → by_group o (refusal_of (working o.session) o.session.query) ≡ committing o
made_is o h = ap (by_group o) (not_refused (working o.session) o.session.query h)

pub stopped_is : (o : OpenValue) (e : EvalFault) (row : Row) → IsFault (refusal (working o.session) o.session.query) e → IsFaultFieldsOf e row → by_group o (refusal_of (working o.session) o.session.query) ≡ giving_up o row
stopped_is o (eval.Illegal e) row h f = ap (by_group o) (refused_label (working o.session) o.session.query e h) ∙ ap (giving_up o) (sym f)
stopped_is o (eval.Conflict e) row h f = ap (by_group o) (refused_clash (working o.session) o.session.query e h) ∙ ap (giving_up o) (sym f)
stopped_is o eval.NoMemory row h f = absurd f

-- a word alone, and with further fields
one_word : (o : OpenValue) (row : Row) (w : Word) → length row ≡ 1 → by_fields syncing o row w ≡ by_word syncing o row w
one_word o row w one = ap (λ (n : ℕ). if n == 1 then by_word syncing o row w else refusing o (line_fields row (change.FieldCount (length row)))) one

more_words : (o : OpenValue) (row : Row) (w : Word) → length row ≢ 1 → by_fields syncing o row w ≡ refusing o (line_fields row (change.FieldCount (length row)))
more_words o row w more = ap (λ (b : Bool). if b then by_word syncing o row w else refusing o (line_fields row (change.FieldCount (length row)))) (false_from_ne_true _ (λ e. more (eqb-true (length row) 1 e)))

pub one_word_view : (o n : OpenValue) (row : Row) (w : Word) → length row ≡ 1 → n ≡ (by_word syncing o row w).view → n ≡ (by_fields syncing o row w).view
one_word_view o n row w one e = e ∙ ap (λ (a : Answer). a.view) (sym (one_word o row w one))

pub more_words_view : (o n : OpenValue) (row fields : Row) (w : Word) → length row ≢ 1 → n ≡ (refusing o fields).view → n ≡ (by_fields syncing o row w).view
more_words_view o n row fields w more e = e ∙ ap (λ (a : Answer). a.view) (sym (more_words o row w more))

-- a group without a refused line, and one with
pub unbroken_view : (o n : OpenValue) (count : ℕ) → count ≡ 0 → n ≡ (by_group o (refusal_of (working o.session) o.session.query)).view → n ≡ (by_broken o count).view
unbroken_view o n count none e = rw none e

pub broken_view : (o n : OpenValue) (count : ℕ) (fields : Row) → count ≢ 0 → n ≡ (giving_up o fields).view → n ≡ (by_broken o count).view
broken_view o n zero fields some e = absurd (some refl)
broken_view o n (suc count) fields some e = e

-- the end of the input in a group
end_is : (o : OpenValue) (count : ℕ) (h : Option (List Change)) → option_map length h ≡ Some count → option_map_or (λ (a : Answer). a.effects) (by_open o h) [] ≡ refuses (open_group_fields count) ∷ []
end_is o count None e = absurd (cc e)
end_is o count (Some gs) e = let same : length gs ≡ count = cc e in ap (λ (n : ℕ). refuses (open_group_fields n) ∷ []) same

-- a line that says no change, where there was memory
pub unread : (x : Read) (f : ChangeFault) → IsAnswer x (Err f) → f ≢ change.NoMemory → Err f ≡ x
unread x change.UnknownVerb h some = h
unread x (change.FieldCount got) h some = h
unread x change.NoMemory h some = absurd (some refl)

pub unread_view : (o n : OpenValue) (row fields : Row) (f : ChangeFault) → IsAnswer (change_of row) (Err f) → f ≢ change.NoMemory → fields ≡ line_fields row f → n ≡ (refusing o fields).view → n ≡ (by_change o row (change_of row)).view
unread_view o n row fields f h some g is = is ∙ ap (λ x. (by_change o row x).view) (unread (change_of row) f h some)

-- what is saved of a session
pub saves : (s : SessionState) (c : CatalogueValue) (dbs : List Text) (pairs : List Pair) → c ≡ s.catalogue → dbs ≡ s.changed.databases → pairs ≡ s.changed.relations → saving s ≡ Replace (saved c dbs pairs) ∷ []
saves s c dbs pairs e f g = rw (e, f, g) refl

-- a session that made the one change that it proposed has moved
pub made_moved : (s : SessionState) (g : Change) → s.held ≡ None → s.proposed ≡ None → accepted (proposing s (g ∷ [])) ≡ moved s g
made_moved s g alone idle =
    ap (λ (h : Option (List Change)). record (moved s g) { held = h; proposed = None }) (sym alone)
    ∙ ap (λ (p : Option (List Change)). record (moved s g) { held = s.held; proposed = p }) (sym idle)

-- effects behind others
pub behind : {A : Type 0} (es fs : List Effect) (before mid v : World) (r : Result A Stop) → contents mid ≡ performed es (contents before) → Does fs mid v r → Does (es ++ fs) before v r
behind es fs before mid v (Ok a) h d = d ∙ ap (performed fs) h ∙ sym (performed_append es fs (contents before))
behind es fs before mid v (Err e) h d = partly_later es fs (contents before) (contents mid) (contents v) h d

module _ {A : Type 0} (before v : World) (r : Result A Stop) where
  abbrev DoesBy : Answer → Type 0
  DoesBy a = Does a.effects before v r

  pub accepted_does : (o : OpenValue) (g : Change) (lines : List TableLine) → o.session.held ≡ None → IsAccepted o.session g → lines ≡ lines_to o.session (after o.session.catalogue g) → Does (prints_script lines ∷ []) before v r → DoesBy (by_fault o g (fault (working o.session) g))
  accepted_does o g lines none h e d = subst DoesBy (sym (accepted_is o g none h)) (subst (λ (ls : List TableLine). Does (prints_script ls ∷ []) before v r) e d)

  pub refused_does : (o : OpenValue) (g : Change) (e : Refused) (row : Row) → o.session.held ≡ None → IsRefused o.session g e → IsFieldsOf g e row → Does (refuses row ∷ []) before v r → DoesBy (by_fault o g (fault (working o.session) g))
  refused_does o g e row none h f d = subst DoesBy (sym (refused_is o g e row none h f)) d

  pub held_does : (o : OpenValue) (g : Change) → is_some o.session.held ≡ true → fault (working o.session) g ≡ None → Does (prints_held ∷ []) before v r → DoesBy (by_fault o g (fault (working o.session) g))
  held_does o g inside fits d = subst DoesBy (sym (held_is o g inside fits)) d

  pub unheld_does : (o : OpenValue) (g : Change) (e : HoldRefused) (row : Row) → IsHoldRefused o.session g e → IsHoldFieldsOf g e row → Does (refuses row ∷ []) before v r → DoesBy (by_fault o g (fault (working o.session) g))
  unheld_does o g e row h f d = subst DoesBy (sym (unheld_is o g e row h f)) d

  pub made_does : (o : OpenValue) (lines : List TableLine) → refusal (working o.session) o.session.query ≡ None → lines ≡ lines_to o.session (working o.session) → Does (prints_script lines ∷ []) before v r → DoesBy (by_group o (refusal_of (working o.session) o.session.query))
  made_does o lines h e d = subst DoesBy (sym (made_is o h)) (subst (λ (ls : List TableLine). Does (prints_script ls ∷ []) before v r) e d)

  pub stopped_does : (o : OpenValue) (e : EvalFault) (row : Row) → IsFault (refusal (working o.session) o.session.query) e → IsFaultFieldsOf e row → Does (refuses row ∷ []) before v r → DoesBy (by_group o (refusal_of (working o.session) o.session.query))
  stopped_does o e row h f d = subst DoesBy (sym (stopped_is o e row h f)) d

  pub read_does : (o : OpenValue) (row : Row) (g : Change) → Ok g ≡ change_of row → DoesBy (by_fault o g (fault (working o.session) g)) → DoesBy (by_change o row (change_of row))
  read_does o row g e d = subst (λ x. DoesBy (by_change o row x)) e d

  pub unread_does : (o : OpenValue) (row fields : Row) (f : ChangeFault) → IsAnswer (change_of row) (Err f) → f ≢ change.NoMemory → fields ≡ line_fields row f → Does (refuses fields ∷ []) before v r → DoesBy (by_change o row (change_of row))
  unread_does o row fields f h some g d = subst (λ x. DoesBy (by_change o row x)) (unread (change_of row) f h some) (subst (λ (x : Row). DoesBy (refusing o x)) g d)

  pub refusing_does : (o : OpenValue) (row fields : Row) → fields ≡ row → Does (refuses fields ∷ []) before v r → DoesBy (refusing o row)
  refusing_does o row fields e d = subst (λ (x : Row). Does (refuses x ∷ []) before v r) e d

  pub unbroken_does : (o : OpenValue) (count : ℕ) → count ≡ 0 → DoesBy (by_group o (refusal_of (working o.session) o.session.query)) → DoesBy (by_broken o count)
  unbroken_does o count none d = rw none d

  pub broken_does : (o : OpenValue) (count : ℕ) (fields : Row) → count ≢ 0 → fields ≡ group_broken_fields count → Does (refuses fields ∷ []) before v r → DoesBy (by_broken o count)
  broken_does o zero fields some e d = absurd (some refl)
  broken_does o (suc count) fields some e d = subst (λ (x : Row). Does (refuses x ∷ []) before v r) e d

  pub ends_does : (o : OpenValue) (x : Option ℕ) (count : ℕ) (fields : Row) → x ≡ option_map length o.session.held → x ≡ Some count → fields ≡ open_group_fields count → Does (refuses fields ∷ []) before v r → Does (end_effects o) before v r
  ends_does o x count fields e is f d =
      subst (λ (es : List Effect). Does es before v r) (sym (end_is o count o.session.held (sym e ∙ is))) (subst (λ (y : Row). Does (refuses y ∷ []) before v r) f d)

  pub ended_does : (o p : OpenValue) (mid : World) → contents mid ≡ performed (end_effects o) (contents before) → p ≡ end_view o → Does (sync_effects p) mid v r → Does (finish o).effects before v r
  ended_does o p mid h is d = behind (end_effects o) (sync_effects (end_view o)) before mid v r h (subst (λ (x : OpenValue). Does (sync_effects x) mid v r) is d)

  pub one_word_does : (o : OpenValue) (row : Row) (w : Word) → length row ≡ 1 → DoesBy (by_word syncing o row w) → DoesBy (by_fields syncing o row w)
  one_word_does o row w one d = subst DoesBy (sym (one_word o row w one)) d

  pub more_words_does : (o : OpenValue) (row fields : Row) (w : Word) → length row ≢ 1 → fields ≡ line_fields row (change.FieldCount (length row)) → Does (refuses fields ∷ []) before v r → DoesBy (by_fields syncing o row w)
  more_words_does o row fields w more e d = subst DoesBy (sym (more_words o row w more)) (subst (λ (x : Row). Does (refuses x ∷ []) before v r) e d)

  pub words_does : (o : OpenValue) (row : Row) (x : Option Word) (w : Word) → x ≡ word_in (first_field row) → x ≡ Some w → DoesBy (by_fields syncing o row w) → DoesBy (by_row syncing o row)
  words_does o row x w e is d = subst (λ (y : Option Word). DoesBy (by_first syncing o row y)) (sym is ∙ e) d

  pub changes_does : (o : OpenValue) (row : Row) (x : Option Word) → x ≡ word_in (first_field row) → x ≡ None → DoesBy (by_change o row (change_of row)) → DoesBy (by_row syncing o row)
  changes_does o row x e is d = subst (λ (y : Option Word). DoesBy (by_first syncing o row y)) (sym is ∙ e) d

  pub spelled_does : (o : OpenValue) (line : List ℕ) (row : Row) → unspell line ≡ Ok row → DoesBy (by_row syncing o row) → DoesBy (answer o line)
  spelled_does o line row e d = subst (λ x. DoesBy (by_spelling syncing o x)) (sym e) d

  pub unspelled_does : (o : OpenValue) (line : List ℕ) (f : LineFault) (at : ℕ) (fields : Row) → IsUnspelled line (Err f) → f ≡ BadEscape at → fields ≡ escape_fields at → Does (refuses fields ∷ []) before v r → DoesBy (answer o line)
  unspelled_does o line f at fields h is e d = subst (λ x. DoesBy (by_spelling syncing o x)) (sym (subst (λ (x : LineFault). IsUnspelled line (Err x)) is h)) (subst (λ (x : Row). DoesBy (refusing o x)) e d)

-- the view after a change, and after a group
pub accepted_view : (o n : OpenValue) (g : Change) → o.session.held ≡ None → IsAccepted o.session g → n ≡ (changing o g).view → n ≡ (by_fault o g (fault (working o.session) g)).view
accepted_view o n g none h e = e ∙ ap (λ (a : Answer). a.view) (sym (accepted_is o g none h))

pub refused_view : (o n : OpenValue) (g : Change) (e : Refused) (row : Row) → o.session.held ≡ None → IsRefused o.session g e → IsFieldsOf g e row → n ≡ (refusing o row).view → n ≡ (by_fault o g (fault (working o.session) g)).view
refused_view o n g e row none h f is = is ∙ ap (λ (a : Answer). a.view) (sym (refused_is o g e row none h f))

pub held_view : (o n : OpenValue) (g : Change) → is_some o.session.held ≡ true → fault (working o.session) g ≡ None → n ≡ (keeping o g).view → n ≡ (by_fault o g (fault (working o.session) g)).view
held_view o n g inside fits e = e ∙ ap (λ (a : Answer). a.view) (sym (held_is o g inside fits))

pub unheld_view : (o n : OpenValue) (g : Change) (e : HoldRefused) (row : Row) → IsHoldRefused o.session g e → IsHoldFieldsOf g e row → n ≡ (refusing o row).view → n ≡ (by_fault o g (fault (working o.session) g)).view
unheld_view o n g e row h f is = is ∙ ap (λ (a : Answer). a.view) (sym (unheld_is o g e row h f))

pub made_view : (o n : OpenValue) → refusal (working o.session) o.session.query ≡ None → n ≡ (committing o).view → n ≡ (by_group o (refusal_of (working o.session) o.session.query)).view
made_view o n h e = e ∙ ap (λ (a : Answer). a.view) (sym (made_is o h))

pub stopped_view : (o n : OpenValue) (e : EvalFault) (row : Row) → IsFault (refusal (working o.session) o.session.query) e → IsFaultFieldsOf e row → n ≡ (giving_up o row).view → n ≡ (by_group o (refusal_of (working o.session) o.session.query)).view
stopped_view o n e row h f is = is ∙ ap (λ (a : Answer). a.view) (sym (stopped_is o e row h f))
