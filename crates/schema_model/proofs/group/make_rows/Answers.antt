use Rattle.std.proofs.Common.{◌≡◌, ◌∙◌, [], List, reverse, sym, ap, subst, arith}
use Rattle.schema_model.specs.Catalogue.{row_count}
use Rattle.schema_model.specs.Sound.{IsSound}
use Rattle.schema_model.specs.States.{plain_databases}
use Rattle.schema_model.specs.Groups.{all_waits, rows_edited, AreRowEdits, all_edited, AreWaiting, all_own, AreOwn}
use Rattle.schema_model.specs.declared.edit.RowEdit.{RowEdit}
use Rattle.schema_model.proofs.GroupLemmas.{reverse_last, none_left, still_own}
use Rattle.schema_model.proofs.group.make_rows.Goals as goal

pub make_row-requires-clause-edit : goal.make_row-requires-clause-edit
make_row-requires-clause-edit c =
    let next = ap reverse c.in-Some.ensures.items ∙ reverse_last c.pop.new.self.items c.in-Some.edit in
    (subst (λ (es : List RowEdit). AreRowEdits es (plain_databases c.loop-edit.databases.items)) next c.loop-edit.invariant.edits).0

pub make_row-requires-clause-waits : goal.make_row-requires-clause-waits
make_row-requires-clause-waits c =
    let next = ap reverse c.in-Some.ensures.items ∙ reverse_last c.pop.new.self.items c.in-Some.edit in
    (subst (λ (es : List RowEdit). AreWaiting es (all_waits c.loop-edit.databases.items)) next c.loop-edit.invariant.waits).0

pub make_row-requires-clause-own : goal.make_row-requires-clause-own
make_row-requires-clause-own c =
    let next = ap reverse c.in-Some.ensures.items ∙ reverse_last c.pop.new.self.items c.in-Some.edit in
    (subst (λ (es : List RowEdit). AreOwn es (all_own c.loop-edit.databases.items)) next c.loop-edit.invariant.own).0

pub loop-edit-preserved : goal.loop-edit-preserved
loop-edit-preserved c =
    let e = c.in-Some.edit in
    let left = c.pop.new.self.items in
    let ds = c.loop-edit.databases.items in
    let next = ap reverse c.in-Some.ensures.items ∙ reverse_last left e in
    let edits = subst (λ (es : List RowEdit). AreRowEdits es (plain_databases ds)) next c.loop-edit.invariant.edits in
    let waits = subst (λ (es : List RowEdit). AreWaiting es (all_waits ds)) next c.loop-edit.invariant.waits in
    let own = subst (λ (es : List RowEdit). AreOwn es (all_own ds)) next c.loop-edit.invariant.own in
    record {
      edits = subst (AreRowEdits (reverse left)) (sym c.make_row.ensures.made) edits.1;
      waits = subst (AreWaiting (reverse left)) (sym c.make_row.ensures.left) waits.1;
      own = still_own (reverse left) (all_own ds) (all_own c.make_row.new.databases.items) c.make_row.ensures.own own.1;
      same = ap (all_edited (reverse left)) c.make_row.ensures.made ∙ sym (ap (λ (es : List RowEdit). all_edited es (plain_databases ds)) next) ∙ c.loop-edit.invariant.same;
      counted = record {
        sound = subst IsSound (sym c.make_row.ensures.made) edits.0.counted.sound;
        count = c.rows_edited-count.ensures ∙ ap (rows_edited e.edit) c.loop-edit.invariant.counted.count ∙ edits.0.counted.count ∙ ap row_count (sym c.make_row.ensures.made);
      };
    }

pub returns-clause-made : goal.returns-clause-made
returns-clause-made c =
    let none : c.loop-edit.left.items ≡ [] = none_left c.loop-edit.left.items (omega (arith, c.in_default.ensures.cases.0, c.loop-edit.left.ok.0)) in
    sym (ap (λ (es : List RowEdit). all_edited (reverse es) (plain_databases c.loop-edit.databases.items)) none) ∙ c.loop-edit.invariant.same
