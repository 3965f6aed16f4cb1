-- A consistent combination says of each term what the valuation does that it holds.
use Rattle.std.proofs.Common.{◌≡◌, ◌<◌, inl, inr, subst, ℕ, zero, suc, List, [], ◌∷◌, length, take, Bool, true, false, not, refl, arith, ap, sym, ◌∙◌, Option, Some, None}
use Rattle.std.specs.List.{slice_get}
use Rattle.std.specs.Option.{option_and_then, option_map_or}
use Rattle.ss_text.specs.Texts.{Text, Row}
use Rattle.plan_law.specs.Kinds.{Place, Term, Range}
use Rattle.plan_law.specs.Kinds.place
use Rattle.plan_law.specs.Kinds.term
use Rattle.plan_law.specs.Kinds.range
use Rattle.view_def.specs.Query.{Query}
use Rattle.view_def.specs.Profile.{lists_tuples, is_tuple_variable, is_text_variable, has_text}
use Rattle.view_meaning.specs.Elements.{Valuation, text_at, cell_of_element, cell_at}
use Rattle.view_meaning.specs.Terms.{value_of}
use Rattle.view_def.specs.Terms.{terms_of_view}
use Rattle.plan_law.specs.Columns.{Combo, tested_terms, alias_cell, wanted, fold_of, text_under, found, read, is_consistent}
use Rattle.plan_law.proofs.Columns.{Has, has_left, has_given, and_left, and_right, column_reads, own_reads}
use Rattle.plan_law.proofs.Held.{Held, Picked, PickedFor, EachHeld, HeldTuple, Stands, IsColumn, Owns, Fits, is_wanted, is_fold}
use Rattle.view_meaning.specs.Operands.{variable_of}

-- the declaration of a variable
pub text_declared : (ds : List Range) (i : ℕ) → is_text_variable ds i ≡ true → (d : Range) × (slice_get ds i ≡ Some d) × (lists_tuples d ≡ false)
text_declared ds i e = one (slice_get ds i) refl e
  where
    flip : (b : Bool) → not b ≡ true → b ≡ false
    flip true e = cc
    flip false e = refl

    one : (o : Option Range) → slice_get ds i ≡ o → option_map_or (λ d. not (lists_tuples d)) o false ≡ true → (d : Range) × (slice_get ds i ≡ Some d) × (lists_tuples d ≡ false)
    one None s e = cc
    one (Some d) s e = (d, s, flip (lists_tuples d) e)

pub tuple_declared : (ds : List Range) (i : ℕ) → is_tuple_variable ds i ≡ true → (p : Place) × (r : Place) × (slice_get ds i ≡ Some (range.Tuples p r))
tuple_declared ds i e = one (slice_get ds i) refl e
  where
    kind : (d : Range) → slice_get ds i ≡ Some d → lists_tuples d ≡ true → (p : Place) × (r : Place) × (slice_get ds i ≡ Some (range.Tuples p r))
    kind (range.Tuples p r) s e = (p, r, s)
    kind range.Databases s e = cc
    kind (range.Relations p) s e = cc
    kind (range.Attributes p r) s e = cc
    kind (range.Values p r a) s e = cc
    kind (range.Alias j a) s e = cc

    one : (o : Option Range) → slice_get ds i ≡ o → option_map_or lists_tuples o false ≡ true → (p : Place) × (r : Place) × (slice_get ds i ≡ Some (range.Tuples p r))
    one None s e = cc
    one (Some d) s e = kind d s e

pub before_place : (ds : List Range) (i u : ℕ) (d : Range) → slice_get (take i ds) u ≡ Some d → (u < i) × (slice_get ds u ≡ Some d)
before_place [] zero u d e = cc
before_place [] (suc i) u d e = cc
before_place (x ∷ ds) zero u d e = cc
before_place (x ∷ ds) (suc i) zero d e = (omega arith, e)
before_place (x ∷ ds) (suc i) (suc u) d e = let r = before_place ds i u d e in (omega arith, r.1)

pub has_at : {X : Type 0} (xs : List X) (i : ℕ) (x : X) → slice_get xs i ≡ Some x → Has xs x
has_at [] i x e = cc
has_at (y ∷ xs) zero x e = inl cc
has_at (y ∷ xs) (suc i) x e = inr (has_at xs i x e)

pub alias_tested : (q : Query) (i j : ℕ) (a : Place) → slice_get q.decls i ≡ Some (range.Alias j a) → Has (tested_terms q) (term.Cell j a)
alias_tested q i j a e = has_left _ (terms_of_view q) (term.Cell j a) (has_given alias_cell q.decls (range.Alias j a) (term.Cell j a) (has_at q.decls i (range.Alias j a) e) refl)

-- the valuation and the combination say the same of a term
pub record Reads (q : Query) (v : Valuation) (x : Combo) (t : Term) : Type 0 where
  pub text : Text
  pub value : value_of v t ≡ Some text
  pub says : read q x t ≡ Some text

module _ (q : Query) (fits : Fits q) (v : Valuation) (x : Combo) (owns : Owns q v x) where
  module _ (holds : is_consistent q x ≡ true) where
    own_column : (t : Term) → Held v x t → read q x t ≡ text_under x t → Reads q v x t
    own_column t h own = record { text = h.text; value = h.value; says = own_reads q x t h.text holds h.column own }

    each_at : (k : ℕ) (names : Row) (a : Text) → EachHeld v x k names → Has names a → Held v x (term.Cell k (place.Fixed a))
    each_at k [] a h m = absurd m
    each_at k (b ∷ names) a h (inl e) = subst (λ (a : Text). Held v x (term.Cell k (place.Fixed a))) e h.0
    each_at k (b ∷ names) a h (inr m) = each_at k names a h.1 m

    pub known_cell : (k : ℕ) (a : Place) → Has (tested_terms q) (term.Cell k a) → k < length v → ((u : ℕ) → a ≡ place.Var u → Reads q v x (term.Var u)) → Reads q v x (term.Cell k a)
    known_cell k a h there name =
        let t = tuple_declared q.decls k (fits.cells k a h).0 in
        at a h name (owns.each k (range.Tuples t.0 t.1) there t.2)
      where
        picked_cell : (u : ℕ) → Picked v x k u → Reads q v x (term.Var u) → Reads q v x (term.Cell k (place.Var u))
        picked_cell u p r =
            let same : r.text ≡ p.name = column_reads q x (term.Var u) r.text p.name holds p.named r.says in
            let value : text_at v u ≡ Some p.name = r.value ∙ ap Some same in
            record {
              text = p.text;
              value = ap (option_and_then (λ name. option_and_then (λ e. cell_of_element e name) (slice_get v k))) value ∙ p.cell;
              says = own_reads q x (term.Cell k (place.Var u)) p.text holds p.column refl;
            }

        at : (a : Place) → Has (tested_terms q) (term.Cell k a) → ((u : ℕ) → a ≡ place.Var u → Reads q v x (term.Var u)) → HeldTuple v x k (wanted q k) (fold_of q k) → Reads q v x (term.Cell k a)
        at (place.Fixed n) h name s = own_column (term.Cell k (place.Fixed n)) (each_at k (wanted q k) n s.cells (is_wanted q k n h)) refl
        at (place.Var u) h name s = picked_cell u (subst (PickedFor v x k) (is_fold q fits k u h) s.picked) (name u refl)

    same_text : (o : Option Text) (s t : Text) → o ≡ Some s → o ≡ Some t → s ≡ t
    same_text o s t d e = cc

    pub known_name : (n i : ℕ) → i < n → i < length v → is_text_variable q.decls i ≡ true → Reads q v x (term.Var i)
    known_name zero i less there is = absurd (omega arith)
    known_name (suc n) i less there is =
        let t = text_declared q.decls i is in
        kind t.0 t.1 t.2 (owns.each i t.0 there t.1) (known_name n)
      where
        own : (d : Range) → slice_get q.decls i ≡ Some d → variable_of i (Some d) ≡ term.Var i → Held v x (term.Var i) → Reads q v x (term.Var i)
        own d e plain h = own_column (term.Var i) h (ap (λ (o : Option Range). found x (variable_of i o)) e ∙ ap (found x) plain)

        kind : (d : Range) → slice_get q.decls i ≡ Some d → lists_tuples d ≡ false → Stands q v x i d → ((u : ℕ) → u < n → u < length v → is_text_variable q.decls u ≡ true → Reads q v x (term.Var u)) → Reads q v x (term.Var i)
        kind range.Databases e t s before = own range.Databases e refl s
        kind (range.Relations p) e t s before = own (range.Relations p) e refl s
        kind (range.Attributes p r) e t s before = own (range.Attributes p r) e refl s
        kind (range.Values p r a) e t s before = own (range.Values p r a) e refl s
        kind (range.Tuples p r) e t s before = cc
        kind (range.Alias j a) e t s before =
            let over = fits.ranges i (range.Alias j a) e in
            let tuple = tuple_declared (take i q.decls) j (and_left (is_tuple_variable (take i q.decls) j) (has_text (take i q.decls) a) over) in
            let jt = before_place q.decls i j (range.Tuples tuple.0 tuple.1) tuple.2 in
            let j_there : j < length v = omega (arith, jt.0) in
            let name = λ (u : ℕ) (is : a ≡ place.Var u).
            let ok : is_text_variable (take i q.decls) u ≡ true = sym (ap (has_text (take i q.decls)) is) ∙ and_right (is_tuple_variable (take i q.decls) j) (has_text (take i q.decls) a) over in
            let d = text_declared (take i q.decls) u ok in
            let ut = before_place q.decls i u d.0 d.1 in
            before u (omega (arith, ut.0)) (omega (arith, ut.0)) (ap (λ (o : Option Range). option_map_or (λ d. not (lists_tuples d)) o false) ut.1 ∙ ap not d.2) in
            let r = known_cell j a (alias_tested q i j a e) j_there name in
            let same : r.text ≡ s.text = same_text (cell_at v j a) r.text s.text r.value s.cell in
            record { text = s.text; value = s.value; says = ap (λ (o : Option Range). found x (variable_of i o)) e ∙ r.says ∙ ap Some same }

    -- where every declaration is there
    module _ (there : (i : ℕ) (d : Range) → slice_get q.decls i ≡ Some d → i < length v) where
      pub name_reads : (i : ℕ) → is_text_variable q.decls i ≡ true → Reads q v x (term.Var i)
      name_reads i is = let t = text_declared q.decls i is in known_name (suc i) i (omega arith) (there i t.0 t.1) is

      pub term_reads : (t : Term) → IsColumn q t → Reads q v x t
      term_reads (term.Literal t) h = record { text = t; value = refl; says = refl }
      term_reads (term.Var i) h = name_reads i h
      term_reads (term.Cell k a) h =
          let c = fits.cells k a h in
          let t = tuple_declared q.decls k c.0 in
          known_cell k a h (there k (range.Tuples t.0 t.1) t.2) (λ u is. name_reads u (sym (ap (has_text q.decls) is) ∙ c.1))
