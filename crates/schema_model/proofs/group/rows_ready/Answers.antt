use Rattle.std.proofs.Common.{◌≡◌, ◌∷◌, ◌∙◌, [], List, reverse, sym, ap, subst, arith}
use Rattle.std.specs.List.{list_all}
use Rattle.schema_model.specs.Changes.{after_all}
use Rattle.schema_model.specs.Refusals.{group_fault}
use Rattle.schema_model.specs.Catalogue.{CatalogueValue}
use Rattle.schema_model.specs.States.{plain_databases}
use Rattle.schema_model.specs.Groups.{is_of_row, all_named, all_waits, AreRowEdits, all_edited, AreWaiting, all_own, AreOwn}
use Rattle.schema_model.specs.declared.edit.RowEdit.{RowEdit}
use Rattle.schema_model.proofs.SoundAfter.{sound_after_all}
use Rattle.schema_model.proofs.GroupLemmas.{all_last, fault_last, after_last, names_after_all, formed_rows, reverse_last, none_left, still_own}
use Rattle.schema_model.proofs.group.rows_ready.Goals as goal

pub row_ready-requires-clause-row : goal.row_ready-requires-clause-row
row_ready-requires-clause-row c =
    (all_last is_of_row c.in-Some.earlier.now c.in-Some.change.now (sym (ap (list_all is_of_row) c.in-Some.ensures.cases.0) ∙ c.loop-change.invariant.rows)).1

pub row_ready-requires-clause-later : goal.row_ready-requires-clause-later
row_ready-requires-clause-later c =
    let old = plain_databases c.args.databases.now.items in
    let earlier = c.in-Some.earlier.now in
    let g = c.in-Some.change.now in
    let is = c.in-Some.ensures.cases.0 in
    let rows = all_last is_of_row earlier g (sym (ap (list_all is_of_row) is) ∙ c.loop-change.invariant.rows) in
    let accepted = fault_last old earlier g (sym (ap (group_fault old) is) ∙ c.loop-change.invariant.accepted) in
    (after_all old earlier, ap all_named c.loop-change.invariant.same ∙ sym (names_after_all old earlier rows.0), accepted.1)

pub loop-change-preserved : goal.loop-change-preserved
loop-change-preserved c =
    let old = plain_databases c.args.databases.now.items in
    let earlier = c.in-Some.earlier.now in
    let g = c.in-Some.change.now in
    let is = c.in-Some.ensures.cases.0 in
    let rows = all_last is_of_row earlier g (sym (ap (list_all is_of_row) is) ∙ c.loop-change.invariant.rows) in
    let accepted = fault_last old earlier g (sym (ap (group_fault old) is) ∙ c.loop-change.invariant.accepted) in
    let before = after_all old earlier in
    let names = ap all_named c.loop-change.invariant.same ∙ sym (names_after_all old earlier rows.0) in
    let sound = sound_after_all old earlier c.requires.sound (formed_rows earlier rows.0) accepted.0 in
    let e = c.in_ok-row_ready.field-0 in
    let made = c.in_ok-row_ready.ensures.makes.makes before names sound accepted.1 in
    let step = ap (after_all old) is ∙ after_last old earlier g ∙ sym made in
    let edits = reverse c.loop-change.edits.items in
    let next : reverse c.push.new.self.items ≡ e ∷ edits = ap reverse c.in_ok-push.ensures.items ∙ reverse_last c.loop-change.edits.items e in
    let waits = c.in_ok-row_ready.ensures.waits in
    let own = c.in_ok-row_ready.ensures.own in
    record {
      same = c.row_ready.ensures.same ∙ c.loop-change.invariant.same;
      rows = rows.0;
      accepted = accepted.0;
      edits = subst (λ (es : List RowEdit). AreRowEdits es before) (sym next) (c.in_ok-row_ready.ensures.makes.edits before names sound accepted.1, subst (AreRowEdits edits) step c.loop-change.invariant.edits);
      makes = ap (λ (es : List RowEdit). all_edited es before) next ∙ ap (all_edited edits) (sym step) ∙ c.loop-change.invariant.makes;
      waits = subst (λ (es : List RowEdit). AreWaiting es (all_waits c.row_ready.new.databases.items)) (sym next) (waits.0, subst (AreWaiting edits) (sym waits.1) c.loop-change.invariant.waits);
      own = subst (λ (es : List RowEdit). AreOwn es (all_own c.row_ready.new.databases.items)) (sym next)
          (own.0, still_own edits (all_own c.loop-change.databases.items) (all_own c.row_ready.new.databases.items) own.1 c.loop-change.invariant.own);
    }

pub returns-clause-ready : goal.returns-clause-ready
returns-clause-ready c =
    let old = plain_databases c.args.databases.now.items in
    let edits = reverse c.loop-change.edits.items in
    let none : c.loop-change.left.now ≡ [] = none_left c.loop-change.left.now (omega (arith, c.in_default.ensures.cases)) in
    let start = ap (after_all old) none in
    record {
      edits_are = subst (AreRowEdits edits) (start ∙ sym c.loop-change.invariant.same) c.loop-change.invariant.edits;
      makes = ap (all_edited edits) (c.loop-change.invariant.same ∙ sym start) ∙ c.loop-change.invariant.makes ∙ ap (λ (d : CatalogueValue). after_all d c.args.changes.now) (sym c.loop-change.invariant.same);
      waits = c.loop-change.invariant.waits;
      own = c.loop-change.invariant.own;
    }
