-- The cells of a row, as columns.
use Rattle.std.proofs.Common.{◌≡◌, inl, inr, subst, ℕ, suc, zero, List, [], ◌∷◌, ◌++◌, map, Bool, true, false, ◌&&◌, cond, refl, arith, ap, sym, ◌∙◌, Option, Some, None, is_some}
use Rattle.std.specs.Prelude.{option_to_list, zip, position}
use Rattle.std.specs.List.{slice_get}
use Rattle.std.specs.Option.{option_and_then, option_map}
use Rattle.std.proofs.lemmas.List.Folds.{list_all-append}
use Rattle.ss_text.specs.Texts.{Text, Row, text_eq}
use Rattle.schema_model.specs.Catalogue.{RelationValue, CatalogueValue}
use Rattle.plan_law.specs.Kinds.{Term, Range}
use Rattle.plan_law.specs.Kinds.place
use Rattle.plan_law.specs.Kinds.term
use Rattle.view_def.specs.Query.{Query}
use Rattle.view_meaning.specs.Elements.{Element, A_row, Valuation, cell_under, cell_of_element, cell_at, text_at}
use Rattle.view_meaning.specs.Terms.{Reading, value_of}
use Rattle.view_meaning.specs.Valuations.{assignments}
use Rattle.plan_law.specs.Columns.{Column, Combo, tested_terms, wanted}
use Rattle.plan_law.proofs.Weights.{cond-none, weigh-zero}
use Rattle.plan_law.proofs.Columns.{Has, is_text, texts_equal, text_same}
use Rattle.plan_law.proofs.Held.{EachHeld, IsColumn, wanted_is}
use Rattle.plan_law.proofs.Agree.{agrees, left, IsWeight, assigned-same}
use Rattle.plan_law.proofs.Sums.{Apart, weigh-field, position_cons}
use Rattle.plan_law.proofs.FlatRows.{cells_under, fields}
use Rattle.operator_law.specs.Bags.{weigh}
use Rattle.operator_law.proofs.Weights.{weigh-same, weigh-swap}

abbrev pub cell_term : ℕ → Text → Term
cell_term k a = term.Cell k (place.Fixed a)

pub there_more : (v w : Valuation) (k : ℕ) (e : Element) → slice_get v k ≡ Some e → slice_get (v ++ w) k ≡ Some e
there_more [] w k e h = cc
there_more (a ∷ v) w zero e h = h
there_more (a ∷ v) w (suc k) e h = there_more v w k e h

pub weigh-has : {X : Type 0} (f g : X → ℕ) (xs : List X) → ((x : X) → Has xs x → f x ≡ g x) → weigh f xs ≡ weigh g xs
weigh-has f g [] h = refl
weigh-has f g (x ∷ xs) h = omega (arith, h x (inl refl), weigh-has f g xs (λ y m. h y (inr m)))

-- a field is the cell under its attribute
pub field_cell : (attributes row : Row) (n s : Text) → Apart attributes → Has (zip attributes row) (n, s) → cell_under attributes n row ≡ Some s
field_cell [] row n s apart m = absurd m
field_cell (a ∷ more) [] n s apart m = absurd m
field_cell (a ∷ more) (t ∷ row) n s apart m =
    ap (option_and_then (slice_get (t ∷ row))) (position_cons (text_eq n) a more) ∙ one m (field_cell more row n s apart.1)
  where
    is_in : (more row : Row) → Has (zip more row) (n, s) → Has more n
    is_in [] row m = absurd m
    is_in (b ∷ more) [] m = absurd m
    is_in (b ∷ more) (u ∷ row) (inl e) = inl (ap (λ (f : Text × Text). f.0) e)
    is_in (b ∷ more) (u ∷ row) (inr m) = inr (is_in more row m)

    other : (b : Bool) → (b ≡ true → a ≡ n) → (a ≡ n → ⊥) → b ≡ false
    other true f g = absurd (g (f refl))
    other false f g = refl

    later : (o : Option ℕ) → option_and_then (slice_get (t ∷ row)) (option_map suc o) ≡ option_and_then (slice_get row) o
    later None = refl
    later (Some i) = refl

    one : Has (zip (a ∷ more) (t ∷ row)) (n, s) → (Has (zip more row) (n, s) → cell_under more n row ≡ Some s) → option_and_then (slice_get (t ∷ row)) (cond (text_eq n a) (Some 0) (option_map suc (position (text_eq n) more))) ≡ Some s
    one (inl e) rest =
        let first : a ≡ n = ap (λ (f : Text × Text). f.0) e in
        rw (ap (text_eq n) first ∙ text_same n) (ap (λ (f : Text × Text). Some f.1) e)
    one (inr m) rest =
        let apart_n = apart.0 n (is_in more row m) in
        rw (other (text_eq n a) (λ e. sym (texts_equal n a e)) (λ e. let f : text_eq a n ≡ true = rw e (text_same n) in cc)) (later (position (text_eq n) more) ∙ rest m)

-- the wanted cells of a row
pub record Cells (attributes row : Row) (a : Text) (more cells : Row) : Type 0 where
  pub first : Text
  pub rest : Row
  pub cell : cell_under attributes a row ≡ Some first
  pub others : cells_under attributes more row ≡ Some rest
  pub both : cells ≡ first ∷ rest

pub cells_split : (attributes row : Row) (a : Text) (more cells : Row) → cells_under attributes (a ∷ more) row ≡ Some cells → Cells attributes row a more cells
cells_split attributes row a more cells e = one (cell_under attributes a row) (cells_under attributes more row) refl refl e
  where
    one : (o : Option Text) (p : Option Row) → cell_under attributes a row ≡ o → cells_under attributes more row ≡ p → option_and_then (λ (cell : Text). option_map (λ (cells : Row). cell ∷ cells) p) o ≡ Some cells → Cells attributes row a more cells
    one None p d f e = cc
    one (Some s) None d f e = cc
    one (Some s) (Some r) d f e = record { first = s; rest = r; cell = d; others = f; both = cc }

pub missing_cell : (attributes row names : Row) → cells_under attributes names row ≡ None → (a : Text) × (Has names a) × (cell_under attributes a row ≡ None)
missing_cell attributes row [] e = cc
missing_cell attributes row (a ∷ more) e = one (cell_under attributes a row) (cells_under attributes more row) refl refl e (missing_cell attributes row more)
  where
    one : (o : Option Text) (p : Option Row) → cell_under attributes a row ≡ o → cells_under attributes more row ≡ p → option_and_then (λ (cell : Text). option_map (λ (cells : Row). cell ∷ cells) p) o ≡ None
        → (cells_under attributes more row ≡ None → (b : Text) × (Has more b) × (cell_under attributes b row ≡ None)) → (b : Text) × (Has (a ∷ more) b) × (cell_under attributes b row ≡ None)
    one None p d f e rest = (a, inl refl, d)
    one (Some s) None d f e rest = let r = rest f in (r.0, inr r.1, r.2)
    one (Some s) (Some r) d f e rest = cc

-- headers and rows that go on behind as many columns
pub zip_more : (k : ℕ) (attributes row names cells : Row) (h : List Term) (more : Row) → cells_under attributes names row ≡ Some cells → zip (map (cell_term k) names ++ h) (cells ++ more) ≡ zip (map (cell_term k) names) cells ++ zip h more
zip_more k attributes row [] cells h more e = let d : cells ≡ [] = cc in rw d refl
zip_more k attributes row (a ∷ names) cells h more e =
    let s = cells_split attributes row a names cells e in
    rw s.both (ap (λ r. (cell_term k a, s.first) ∷ r) (zip_more k attributes row names s.rest h more s.others))

module _ (v : Valuation) (k : ℕ) (r : RelationValue) (i : ℕ) (row : Row) (at : slice_get v k ≡ Some (A_row r i)) (there : slice_get r.rows i ≡ Some row) where
  pub cell_is : (a : Text) → cell_at v k (place.Fixed a) ≡ cell_under r.attributes a row
  cell_is a =
      ap (λ (o : Option Element). option_and_then (λ e. cell_of_element e a) o) at
      ∙ ap (λ (o : Option Row). option_and_then (cell_under r.attributes a) o) there

  pub fold_cell_is : (u : ℕ) → cell_at v k (place.Var u) ≡ option_and_then (λ n. cell_under r.attributes n row) (text_at v u)
  fold_cell_is u = one (text_at v u)
    where
      one : (o : Option Text) → option_and_then (λ name. option_and_then (λ e. cell_of_element e name) (slice_get v k)) o ≡ option_and_then (λ n. cell_under r.attributes n row) o
      one None = refl
      one (Some n) =
          ap (λ (o : Option Element). option_and_then (λ e. cell_of_element e n) o) at
          ∙ ap (λ (o : Option Row). option_and_then (cell_under r.attributes n) o) there

  pub cells_hold : (names cells : Row) → cells_under r.attributes names row ≡ Some cells → (t : Term) (s : Text) → Has (zip (map (cell_term k) names) cells) (t, s) → value_of v t ≡ Some s
  cells_hold [] cells e t s m = absurd m
  cells_hold (a ∷ names) cells e t s m =
      let c = cells_split r.attributes row a names cells e in
      one c.first c.rest (cell_is a ∙ c.cell) (cells_hold names c.rest c.others t s) (subst (λ (cs : Row). Has (zip (map (cell_term k) (a ∷ names)) cs) (t, s)) c.both m)
    where
      one : (first : Text) (others : Row) → cell_at v k (place.Fixed a) ≡ Some first → (Has (zip (map (cell_term k) names) others) (t, s) → value_of v t ≡ Some s) → Has ((cell_term k a, first) ∷ zip (map (cell_term k) names) others) (t, s) → value_of v t ≡ Some s
      one first others h rest (inl e) = let d = ap (λ (c : Column). c.0) e in let f = ap (λ (c : Column). c.1) e in rw (← d, ← f) h
      one first others h rest (inr m) = rest m

  pub cells_held : (x : Combo) (names cells : Row) → cells_under r.attributes names row ≡ Some cells → ((t : Term) (s : Text) → Has (zip (map (cell_term k) names) cells) (t, s) → Has x (t, s)) → EachHeld v x k names
  cells_held x [] cells e stand = tt
  cells_held x (a ∷ names) cells e stand =
      let c = cells_split r.attributes row a names cells e in
      let stands = subst (λ (cs : Row). (t : Term) (s : Text) → Has (zip (map (cell_term k) (a ∷ names)) cs) (t, s) → Has x (t, s)) c.both stand in (
        record { text = c.first; value = cell_is a ∙ c.cell; column = stands (cell_term k a) c.first (inl refl) },
        cells_held x names c.rest c.others (λ t s m. stands t s (inr m)),
      )

pub cells_columns : (q : Query) (k : ℕ) (names cells : Row) → ((a : Text) → Has names a → Has (wanted q k) a) → (t : Term) (s : Text) → Has (zip (map (cell_term k) names) cells) (t, s) → IsColumn q t
cells_columns q k [] cells all t s m = absurd m
cells_columns q k (a ∷ names) [] all t s m = absurd m
cells_columns q k (a ∷ names) (b ∷ cells) all t s (inl e) = subst (IsColumn q) (ap (λ (c : Column). c.0) e) (wanted_is q k a (all a (inl refl)))
cells_columns q k (a ∷ names) (b ∷ cells) all t s (inr m) = cells_columns q k names cells (λ a m. all a (inr m)) t s m

-- just one field is the one that a fold picks
picked_once : (attributes row : Row) (o : Option Text) (n : ℕ) → Apart attributes
    → weigh (λ (f : Text × Text). cond (is_text o f.0 && is_text (option_and_then (λ n. cell_under attributes n row) o) f.1) n 0) (zip attributes row) ≡ cond (is_some (option_and_then (λ n. cell_under attributes n row) o)) n 0
picked_once attributes row None n apart = weigh-zero _ (λ (f : Text × Text). refl) (zip attributes row)
picked_once attributes row (Some t) n apart =
    weigh-same _ _ (λ (f : Text × Text). split (text_eq t f.0) (is_text (cell_under attributes t row) f.1)) (zip attributes row)
    ∙ weigh-field t (λ s. cond (is_text (cell_under attributes t row) s) n 0) attributes row apart
    ∙ one (cell_under attributes t row)
  where
    split : (a b : Bool) → cond (a && b) n 0 ≡ cond a (cond b n 0) 0
    split true b = refl
    split false b = refl

    one : (o : Option Text) → weigh (λ s. cond (is_text o s) n 0) (option_to_list o) ≡ cond (is_some o) n 0
    one None = refl
    one (Some s) = let e : cond (text_eq s s) n 0 ≡ n = rw (text_same s) refl in omega (arith, e)

module _ (c : CatalogueValue) (q : Query) (g : Reading → ℕ) (weight : IsWeight q g) where
  -- the columns of a fold over all fields weigh what there was without them
  pub left-fold : (v : Valuation) (x : Combo) (ds : List Range) (k u : ℕ) (r : RelationValue) (i : ℕ) (row : Row) → slice_get v k ≡ Some (A_row r i) → slice_get r.rows i ≡ Some row → Apart r.attributes → Has (tested_terms q) (term.Cell k (place.Var u))
      → weigh (λ (f : Text × Text). left c g v (x ++ (term.Var u, f.0) ∷ (term.Cell k (place.Var u), f.1) ∷ []) ds) (fields r row) ≡ left c g v x ds
  left-fold v x ds k u r i row at there apart tested =
      weigh-swap _ (fields r row) (assignments c v ds) ∙ assigned-same c _ _ ds v (λ w. one w)
    where
      front : (a b d : Bool) (n : ℕ) → cond (a && (b && (d && true))) n 0 ≡ cond (b && d) (cond a n 0) 0
      front true true true n = refl
      front true true false n = refl
      front true false d n = refl
      front false true true n = refl
      front false true false n = refl
      front false false d n = refl

      one : (w : Valuation) → weigh (λ (f : Text × Text). cond (agrees (v ++ w) (x ++ (term.Var u, f.0) ∷ (term.Cell k (place.Var u), f.1) ∷ [])) (g (value_of (v ++ w))) 0) (fields r row) ≡ cond (agrees (v ++ w) x) (g (value_of (v ++ w))) 0
      one w =
          let cell : cell_at (v ++ w) k (place.Var u) ≡ option_and_then (λ n. cell_under r.attributes n row) (text_at (v ++ w) u) = fold_cell_is (v ++ w) k r i row (there_more v w k (A_row r i) at) there u in
          weigh-same _ _ (λ (f : Text × Text).
          ap (λ b. cond b (g (value_of (v ++ w))) 0) (list_all-append (λ (c : Column). is_text (value_of (v ++ w) c.0) c.1) x ((term.Var u, f.0) ∷ (term.Cell k (place.Var u), f.1) ∷ []))
          ∙ front (agrees (v ++ w) x) (is_text (text_at (v ++ w) u) f.0) (is_text (cell_at (v ++ w) k (place.Var u)) f.1) (g (value_of (v ++ w)))
          ∙ ap (λ (o : Option Text). cond (is_text (text_at (v ++ w) u) f.0 && is_text o f.1) (cond (agrees (v ++ w) x) (g (value_of (v ++ w))) 0) 0) cell) (fields r row)
          ∙ picked_once r.attributes row (text_at (v ++ w) u) (cond (agrees (v ++ w) x) (g (value_of (v ++ w))) 0) apart
          ∙ there_or_not (option_and_then (λ n. cell_under r.attributes n row) (text_at (v ++ w) u)) cell
        where
          there_or_not : (o : Option Text) → cell_at (v ++ w) k (place.Var u) ≡ o → cond (is_some o) (cond (agrees (v ++ w) x) (g (value_of (v ++ w))) 0) 0 ≡ cond (agrees (v ++ w) x) (g (value_of (v ++ w))) 0
          there_or_not None e = sym (ap (λ n. cond (agrees (v ++ w) x) n 0) (weight.gone (value_of (v ++ w)) (term.Cell k (place.Var u)) tested e) ∙ cond-none (agrees (v ++ w) x))
          there_or_not (Some s) e = refl

  -- where a wanted cell is missing nothing counts
  pub left-missing : (v : Valuation) (x : Combo) (ds : List Range) (k : ℕ) (a : Text) (r : RelationValue) (i : ℕ) (row : Row) → slice_get v k ≡ Some (A_row r i) → slice_get r.rows i ≡ Some row → Has (tested_terms q) (term.Cell k (place.Fixed a)) → cell_under r.attributes a row ≡ None
      → left c g v x ds ≡ 0
  left-missing v x ds k a r i row at there tested none =
      assigned-same c _ (λ w. 0) ds v (λ w.
      ap (λ n. cond (agrees (v ++ w) x) n 0) (weight.gone (value_of (v ++ w)) (term.Cell k (place.Fixed a)) tested (cell_is (v ++ w) k r i row (there_more v w k (A_row r i) at) there a ∙ none)) ∙ cond-none (agrees (v ++ w) x))
      ∙ weigh-zero (λ w. 0) (λ w. refl) (assignments c v ds)
