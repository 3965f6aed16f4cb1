-- What is kept for labels, as it is made ready and moved.
use Rattle.std.proofs.Common.{◌≡◌, ◌∷◌, [], List, Bool, true, false, Option, Some, None, refl, sym, ◌∙◌, ap, subst, length, arith}
use Rattle.std.specs.Option.{option_or, MatchOption}
use Rattle.ss_text.specs.Texts.{Text, Row, text_eq}
use Rattle.ss_text.proofs.KeyLemmas.{text_order, equal_is}
use Rattle.flow_law.specs.declared.shape.Shape.{Shape}
use Rattle.operator_law.specs.declared.delta.Signed.{Signed}
use Rattle.operator_law.specs.Bags.{MovesBag}
use Rattle.unfold_op.specs.OneTables.{OneTableValue, CanKeep}
use Rattle.split_op.specs.declared.stages.Stage.{Stage}
use Rattle.split_op.specs.Parts.{SameColumns, KeepsRows, KeepsPart}
use Rattle.split_op.specs.Stages.{IsFresh, IsStage, MovesPart}

pub none_left : (rows : List Row) → length rows ≡ 0 → rows ≡ []
none_left [] e = refl
none_left (row ∷ rows) e = absurd (omega (arith, e))

module _ {I : Type 0} (table : I → OneTableValue) where
  -- what is kept stays while the operator of one label is made ready
  pub parts_stay : (shape : Shape) (at now : Text → Option I) (label : Text) (t u : I) → at label ≡ Some t → now label ≡ Some u → ((q : Text) → text_eq label q ≡ false → now q ≡ at q)
      → ((rows : List Row) → KeepsRows table shape t rows → KeepsRows table shape u rows)
      → (q : Text) (rows : List Row) → KeepsPart table shape (at q) rows → KeepsPart table shape (now q) rows
  parts_stay shape at now label t u was is others keeps q rows h = by_test (text_eq label q) refl
    where
      by_test : (b : Bool) → text_eq label q ≡ b → KeepsPart table shape (now q) rows
      by_test true e =
          let same : label ≡ q = equal_is text_order label q e in
          let old = subst (λ (o : Option I). KeepsPart table shape o rows) (ap at (sym same) ∙ was) h in
          subst (λ (o : Option I). KeepsPart table shape o rows) (sym is ∙ ap now same) (keeps rows old.0, old.1)
      by_test false e = subst (λ (o : Option I). KeepsPart table shape o rows) (sym (others q e)) h

  module _ {R : Type 0} (waiting : I → Option (List Signed)) (made_for : R → List Signed) (form : Shape) where
    -- the operator of a stage keeps what is kept for its label
    inner_keeps : (o fresh : Option I) (inner own : I) → option_or fresh o ≡ Some inner → MatchOption fresh (o ≡ Some own) (λ t. (t ≡ own) × (o ≡ None) × IsFresh table form t)
        → (shape : Shape) → SameColumns shape form → (rows : List Row) → KeepsPart table shape o rows → KeepsRows table shape inner rows
    inner_keeps o None inner own is there shape columns rows k = (subst (λ (p : Option I). KeepsPart table shape p rows) is k).0
    inner_keeps o (Some t) inner own is there shape columns rows k =
        let none : rows ≡ [] = subst (λ (p : Option I). KeepsPart table shape p rows) there.1 k in
        let same : t ≡ inner = cc in
        let fresh = there.2 in
        let kept : KeepsRows table shape t [] = record { columns = subst (SameColumns shape) (sym fresh.form_is) columns; keeps = fresh.keeps } in
        subst (λ (u : I). KeepsRows table shape u rows) same (subst (KeepsRows table shape t) (sym none) kept)

    pub stage_moves : (at now : Text → Option I) (s : Stage I R) (inner : I) (kept : Option I) → option_or s.fresh (at s.label) ≡ Some inner → now s.label ≡ kept
        → ((shape : Shape) (x y : List Row) → KeepsRows table shape inner x → MovesBag x (made_for s.ready) y → CanKeep shape y → KeepsPart table shape kept y)
        → IsStage table waiting made_for form at s → MovesPart table made_for form at now s
    stage_moves at now s inner kept is left moved h = record {
      moved = λ shape x y columns k m can. subst (λ (o : Option I). KeepsPart table shape o y) (sym left) (moved shape x y (inner_keeps (at s.label) s.fresh inner h.inner is h.there shape columns x k) m can);
    }

    -- stages are read at their own labels
    pub stage_at : (at now : Text → Option I) (s : Stage I R) → now s.label ≡ at s.label → IsStage table waiting made_for form at s → IsStage table waiting made_for form now s
    stage_at at now s same h = record {
      inner = h.inner;
      there = subst (λ (o : Option I). MatchOption s.fresh (o ≡ Some h.inner) (λ t. (t ≡ h.inner) × (o ≡ None) × IsFresh table form t)) (sym same) h.there;
      waits = h.waits;
    }

    pub moves_from : (at old now : Text → Option I) (s : Stage I R) → old s.label ≡ at s.label → MovesPart table made_for form at now s → MovesPart table made_for form old now s
    moves_from at old now s same h = record { moved = λ shape x y columns k m can. h.moved shape x y columns (subst (λ (o : Option I). KeepsPart table shape o x) same k) m can }

    pub moves_to : (at old now : Text → Option I) (s : Stage I R) → now s.label ≡ old s.label → MovesPart table made_for form at old s → MovesPart table made_for form at now s
    moves_to at old now s same h = record { moved = λ shape x y columns k m can. subst (λ (o : Option I). KeepsPart table shape o y) (sym same) (h.moved shape x y columns k m can) }
