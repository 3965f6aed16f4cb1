-- Facts that come to those that tables keep, the last first.
use Rattle.std.proofs.Common.{◌≡◌, ◌∷◌, ◌++◌, [], List, Option, Some, None, refl, sym, ◌∙◌, ap, subst, map, append_assoc, append-nil}
use Rattle.std.specs.Option.{option_or}
use Rattle.std.specs.List.{AllByRecursion}
use Rattle.std.proofs.lemmas.List.{map-append}
use Rattle.ss_text.specs.Texts.{Text, Row}
use Rattle.flow_law.specs.declared.shape.Shape.{Shape}
use Rattle.flow_law.specs.declared.refused.IllegalLabel.{IllegalLabel}
use Rattle.flow_law.specs.Facts.{Fact, illegal, illegal_table, illegal_column}
use Rattle.flow_law.specs.FactRows.{fact_row, fact_in, IsFactOf}
use Rattle.flow_law.specs.Labelled.{BearLabel}
use Rattle.unfold_op.specs.FactMoves.{facts_in}
use Rattle.unfold_op.proofs.Added.{keep_last}
use Rattle.unfold_op.proofs.LegalColumns.{tables_behind}
use Rattle.view_engine.specs.declared.tables.ViewTables.{ViewTables}
use Rattle.view_engine.specs.Forms.{KeepsTables, CanKeepTables, CanAddTables}

both_legal : (shape : Shape) (fs : List Fact) → illegal shape fs ≡ None → (illegal_table fs ≡ None) × (illegal_column shape.constants fs ≡ None)
unfolding illegal
both_legal shape fs h = each (illegal_table fs) (illegal_column shape.constants fs) h
  where
    each : (a b : Option IllegalLabel) → option_or a b ≡ None → (a ≡ None) × (b ≡ None)
    each None b e = (refl, e)
    each (Some l) b e = absurd (cc)

legal_of : (shape : Shape) (fs : List Fact) → illegal_table fs ≡ None → illegal_column shape.constants fs ≡ None → illegal shape fs ≡ None
unfolding illegal
legal_of shape fs table column = λ i. option_or (table i) (column i)

-- facts that can be kept can be kept without the first few
module _ (shape : Shape) where
  tables_last : (before rows : List Row) → illegal_table (facts_in shape (before ++ rows)) ≡ None → illegal_table (facts_in shape rows) ≡ None
  tables_last [] rows h = h
  tables_last (row ∷ before) rows h = tables_last before rows (tables_behind (fact_in shape row) (facts_in shape (before ++ rows)) h)

  bear_last : (o : Option Text) (before rows : List Row) → BearLabel o (facts_in shape (before ++ rows)) → BearLabel o (facts_in shape rows)
  bear_last None before rows h = tt
  bear_last (Some label) [] rows h = h
  bear_last (Some label) (row ∷ before) rows h = bear_last (Some label) before rows h.1

  pub can_last : (before rows : List Row) → CanKeepTables shape (before ++ rows) → CanKeepTables shape rows
  can_last before rows can =
      let legal = both_legal shape (facts_in shape (before ++ rows)) can.legal in
      let last = keep_last shape before rows (record { few = can.few; legal = legal.1; clean = can.clean }) in
      record { few = last.few; legal = legal_of shape (facts_in shape rows) (tables_last before rows legal.0) last.legal; clean = last.clean; bear = bear_last shape.label before rows can.bear }

form_last : (P : Fact → Type 0) (before fs : List Fact) → AllByRecursion P (before ++ fs) → AllByRecursion P fs
form_last P [] fs h = h
form_last P (f ∷ before) fs h = form_last P before fs h.1

-- the rows of facts in two parts
in_parts : (fs gs : List Fact) (rows : List Row) → map fact_row (fs ++ gs) ++ rows ≡ map fact_row fs ++ (map fact_row gs ++ rows)
in_parts fs gs rows = ap (λ (rs : List Row). rs ++ rows) (map-append fact_row fs gs) ∙ append_assoc (map fact_row fs) (map fact_row gs) rows

-- those behind can come first
module _ (shape : Shape) (t : ViewTables) (fs gs : List Fact) (rows : List Row) (h : CanAddTables shape t (fs ++ gs) rows) where
  parted : CanKeepTables shape (map fact_row fs ++ (map fact_row gs ++ rows))
  parted = subst (CanKeepTables shape) (in_parts fs gs rows) h.can

  behind_first : CanAddTables shape t gs rows
  behind_first = record { keeps = h.keeps; form = form_last (IsFactOf shape) fs gs h.form; can = can_last shape (map fact_row fs) (map fact_row gs ++ rows) parted }

-- the facts that came, behind those that are left
pub record AreAdded (old now : ViewTables) (facts left : List Fact) : Type 0 where
  pub done : List Fact
  pub all : left ++ done ≡ facts
  pub keeps : (shape : Shape) (rows : List Row) → CanAddTables shape old facts rows → KeepsTables shape now (map fact_row done ++ rows)

module _ (old : ViewTables) (facts : List Fact) where
  pub none_added : AreAdded old old facts facts
  none_added = record { done = []; all = append-nil facts; keeps = λ shape rows h. h.keeps }

  module _ (now : ViewTables) (left others : List Fact) (fact : Fact) (is : left ≡ others ++ fact ∷ []) (a : AreAdded old now facts left) where
    one_less : others ++ (fact ∷ a.done) ≡ facts
    one_less = sym (append_assoc others (fact ∷ []) a.done) ∙ ap (λ (fs : List Fact). fs ++ a.done) (sym is) ∙ a.all

    pub can_add_next : (shape : Shape) (rows : List Row) → CanAddTables shape old facts rows → CanAddTables shape now (fact ∷ []) (map fact_row a.done ++ rows)
    can_add_next shape rows h =
        let all = behind_first shape old others (fact ∷ a.done) rows (subst (λ (fs : List Fact). CanAddTables shape old fs rows) (sym one_less) h) in
        record { keeps = a.keeps shape rows h; form = (all.form.0, tt); can = all.can }

    pub one_added : (then : ViewTables) → ((shape : Shape) (rows : List Row) → CanAddTables shape now (fact ∷ []) rows → KeepsTables shape then (fact_row fact ∷ rows)) → AreAdded old then facts others
    one_added then added = record { done = fact ∷ a.done; all = one_less; keeps = λ shape rows h. added shape (map fact_row a.done ++ rows) (can_add_next shape rows h) }
