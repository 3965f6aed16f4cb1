-- Where a valuation and a combination agree, and what they weigh.
use Rattle.std.proofs.Common.{◌≡◌, ◌<◌, ℕ, List, [], ◌∷◌, ◌++◌, length, Bool, true, false, ◌&&◌, cond, refl, arith, ap, sym, ◌∙◌, Option, Some, None, append_assoc, append-nil}
use Rattle.std.specs.List.{list_all, slice_get}
use Rattle.std.proofs.lemmas.List.Folds.{list_all-append}
use Rattle.ss_text.specs.Texts.{Text, text_eq}
use Rattle.schema_model.specs.Catalogue.{CatalogueValue}
use Rattle.plan_law.specs.Kinds.{Term, Range}
use Rattle.plan_law.specs.Kinds.term
use Rattle.plan_law.specs.Kinds.range
use Rattle.view_def.specs.Query.{Query}
use Rattle.view_meaning.specs.Elements.{Valuation, cell_at, elements}
use Rattle.view_meaning.specs.Terms.{Reading, value_of}
use Rattle.view_meaning.specs.Valuations.{assignments}
use Rattle.plan_law.specs.Columns.{Column, Combo, tested_terms, found, read, may_be, is_consistent}
use Rattle.plan_law.proofs.Weights.{weigh-cond}
use Rattle.plan_law.proofs.Columns.{Has, all_has, all_from, column_reads, is_text, is_text-to, is_text-from, text_same, under_has}
use Rattle.plan_law.proofs.Held.{IsColumn, Owns, Fits, value_more}
use Rattle.plan_law.proofs.Known.{term_reads}
use Rattle.view_meaning.specs.Operands.{variable_of}
use Rattle.operator_law.specs.Bags.{weigh}
use Rattle.operator_law.proofs.Weights.{weigh-same, weigh-flat_map}

-- each column has the value of its term
abbrev pub agrees : Valuation → Combo → Bool
agrees v x = list_all (λ (c : Column). is_text (value_of v c.0) c.1) x

pub column_value : (v : Valuation) (x : Combo) (t : Term) (s : Text) → agrees v x ≡ true → Has x (t, s) → value_of v t ≡ Some s
column_value v x t s e h = is_text-to (value_of v t) s (all_has (λ (c : Column). is_text (value_of v c.0) c.1) x (t, s) e h)

pub same_test : (a b : Bool) → (a ≡ true → b ≡ true) → (b ≡ true → a ≡ true) → a ≡ b
same_test true b f g = sym (f refl)
same_test false true f g = g refl
same_test false false f g = refl

-- what readings weigh: by the terms of columns alone, and nothing where a cell of the view is not there
pub record IsWeight (q : Query) (g : Reading → ℕ) : Type 0 where
  pub same : (a b : Reading) → ((t : Term) → IsColumn q t → a t ≡ b t) → g a ≡ g b
  pub gone : (a : Reading) (t : Term) → Has (tested_terms q) t → a t ≡ None → g a ≡ 0

module _ (q : Query) (fits : Fits q) (v : Valuation) (x : Combo) (owns : Owns q v x) (there : (i : ℕ) (d : Range) → slice_get q.decls i ≡ Some d → i < length v) where
  agrees_if : is_consistent q x ≡ true → agrees v x ≡ true
  agrees_if e = all_from (λ (c : Column). is_text (value_of v c.0) c.1) x (λ c h.
      let r = term_reads q fits v x owns e there c.0 (owns.terms c.0 c.1 h) in
      is_text-from (value_of v c.0) c.1 (r.value ∙ ap Some (column_reads q x c.0 r.text c.1 e h r.says)))

  says_value : agrees v x ≡ true → (t : Term) (r : Text) → read q x t ≡ Some r → value_of v t ≡ Some r
  says_value e (term.Literal t) r is = is
  says_value e (term.Cell k a) r is = column_value v x (term.Cell k a) r e (under_has x (term.Cell k a) r is)
  says_value e (term.Var i) r is = one (slice_get q.decls i) refl is
    where
      own : found x (term.Var i) ≡ Some r → value_of v (term.Var i) ≡ Some r
      own is = column_value v x (term.Var i) r e (under_has x (term.Var i) r is)

      same_value : (o p : Option Text) (s : Text) → o ≡ Some s → p ≡ Some s → o ≡ Some r → p ≡ Some r
      same_value o p s a b c = cc

      one : (o : Option Range) → slice_get q.decls i ≡ o → found x (variable_of i o) ≡ Some r → value_of v (term.Var i) ≡ Some r
      one None s is = own is
      one (Some range.Databases) s is = own is
      one (Some (range.Relations p)) s is = own is
      one (Some (range.Attributes p l)) s is = own is
      one (Some (range.Tuples p l)) s is = own is
      one (Some (range.Values p l a)) s is = own is
      one (Some (range.Alias j a)) s is =
          let h = owns.each i (range.Alias j a) (there i (range.Alias j a) s) s in
          same_value (cell_at v j a) (value_of v (term.Var i)) h.text h.cell h.value (column_value v x (term.Cell j a) r e (under_has x (term.Cell j a) r is))

  consistent_if : agrees v x ≡ true → is_consistent q x ≡ true
  consistent_if e = all_from (λ (c : Column). may_be (read q x c.0) c.1) x (λ c h. one c h (read q x c.0) refl)
    where
      same_text : (o : Option Text) (s r : Text) → o ≡ Some s → o ≡ Some r → r ≡ s
      same_text o s r a b = cc

      one : (c : Column) → Has x c → (o : Option Text) → read q x c.0 ≡ o → may_be o c.1 ≡ true
      one c h None is = refl
      one c h (Some r) is = rw (same_text (value_of v c.0) c.1 r (column_value v x c.0 c.1 e h) (says_value e c.0 r is)) (text_same c.1)

  pub last_weight : (g : Reading → ℕ) → IsWeight q g → cond (agrees v x) (g (value_of v)) 0 ≡ cond (is_consistent q x) (g (read q x)) 0
  last_weight g w =
      rw (same_test (agrees v x) (is_consistent q x) consistent_if agrees_if) (one (is_consistent q x) refl)
    where
      one : (b : Bool) → is_consistent q x ≡ b → cond b (g (value_of v)) 0 ≡ cond b (g (read q x)) 0
      one true e = w.same (value_of v) (read q x) (λ t h. let r = term_reads q fits v x owns e there t h in r.value ∙ sym r.says)
      one false e = refl

-- assignments after v begin with v
pub assigned-same : (c : CatalogueValue) (f h : Valuation → ℕ) (ds : List Range) (v : Valuation) → ((w : Valuation) → f (v ++ w) ≡ h (v ++ w)) → weigh f (assignments c v ds) ≡ weigh h (assignments c v ds)
assigned-same c f h [] v e = let d : f v ≡ h v = simp append-nil at (e []) in omega (arith, d)
assigned-same c f h (d ∷ ds) v e =
    weigh-flat_map f (λ e. assignments c (v ++ e ∷ []) ds) (elements c v d)
    ∙ weigh-same _ _ (λ a. assigned-same c f h ds (v ++ a ∷ []) (λ w. rw (append_assoc v (a ∷ []) w) (e (a ∷ w)))) (elements c v d)
    ∙ sym (weigh-flat_map h (λ e. assignments c (v ++ e ∷ []) ds) (elements c v d))

module _ (c : CatalogueValue) (g : Reading → ℕ) where
  -- what the assignments weigh that agree with a combination
  abbrev pub left : Valuation → Combo → List Range → ℕ
  left v x ds = weigh (λ w. cond (agrees w x) (g (value_of w)) 0) (assignments c v ds)

  and_true : (a b : Bool) (n : ℕ) → b ≡ true → cond (a && b) n 0 ≡ cond a n 0
  and_true true b n e = rw e refl
  and_true false b n e = refl

  -- columns that hold
  pub left-own : (v : Valuation) (x o : Combo) (ds : List Range) → ((t : Term) (s : Text) → Has o (t, s) → value_of v t ≡ Some s) → left v (x ++ o) ds ≡ left v x ds
  left-own v x o ds h = assigned-same c _ _ ds v (λ w.
      let all : agrees (v ++ w) o ≡ true = all_from (λ (c : Column). is_text (value_of (v ++ w) c.0) c.1) o (λ c m. is_text-from (value_of (v ++ w) c.0) c.1 (value_more v w c.0 c.1 (h c.0 c.1 m))) in
      ap (λ b. cond b (g (value_of (v ++ w))) 0) (list_all-append (λ (c : Column). is_text (value_of (v ++ w) c.0) c.1) x o) ∙ and_true (agrees (v ++ w) x) (agrees (v ++ w) o) (g (value_of (v ++ w))) all)

  and_front : (a b o : Bool) (n : ℕ) → cond (a && (b && o)) n 0 ≡ cond b (cond (a && o) n 0) 0
  and_front true true o n = refl
  and_front true false o n = refl
  and_front false true o n = refl
  and_front false false o n = refl

  -- a column in front of the last ones whose term has another text, or this one
  pub left-place : (v : Valuation) (x o : Combo) (t : Term) (s n : Text) (ds : List Range) → value_of v t ≡ Some s → left v (x ++ (t, n) ∷ o) ds ≡ cond (text_eq s n) (left v (x ++ o) ds) 0
  left-place v x o t s n ds is =
      assigned-same c _ _ ds v (λ w. one w)
      ∙ weigh-cond (text_eq s n) (λ w. cond (agrees w (x ++ o)) (g (value_of w)) 0) (assignments c v ds)
    where
      one : (w : Valuation) → cond (agrees (v ++ w) (x ++ (t, n) ∷ o)) (g (value_of (v ++ w))) 0 ≡ cond (text_eq s n) (cond (agrees (v ++ w) (x ++ o)) (g (value_of (v ++ w))) 0) 0
      one w =
          ap (λ b. cond b (g (value_of (v ++ w))) 0) (list_all-append (λ (c : Column). is_text (value_of (v ++ w) c.0) c.1) x ((t, n) ∷ o))
          ∙ ap (λ (p : Option Text). cond (agrees (v ++ w) x && (is_text p n && agrees (v ++ w) o)) (g (value_of (v ++ w))) 0) (value_more v w t s is)
          ∙ and_front (agrees (v ++ w) x) (text_eq s n) (agrees (v ++ w) o) (g (value_of (v ++ w)))
          ∙ ap (λ b. cond (text_eq s n) (cond b (g (value_of (v ++ w))) 0) 0) (sym (list_all-append (λ (c : Column). is_text (value_of (v ++ w) c.0) c.1) x o))
