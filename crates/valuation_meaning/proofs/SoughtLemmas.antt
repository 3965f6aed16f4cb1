-- An equality of a column and a term that the first elements bind.
use Rattle.std.proofs.Common.{◌≡◌, ◌<◌, ◌≤◌, ◌⊎◌, inl, inr, ℕ, Bool, true, false, ◌&&◌, [], ◌∷◌, ◌++◌, Option, Some, None, length, refl, sym, ap, subst, ◌∙◌, append_assoc}
use Rattle.std.specs.Prelude.{List, slice_get, option_and_then}
use Rattle.std.specs.List.{All, IsAmong}
use Rattle.std.proofs.lemmas.Bool.{cases_lt}
use Rattle.ss_text.specs.Texts.{Text, text_eq}
use Rattle.ss_text.proofs.KeyLemmas.{text_order, equal_is, equal_itself}
use Rattle.view_def.specs.declared.written.Op.TheVariants.{Eq}
use Rattle.view_def.specs.declared.typed.Term.{Term}
use Rattle.view_def.specs.declared.typed.Term.TheVariants as term
use Rattle.view_def.specs.declared.typed.Range.{Range}
use Rattle.view_def.specs.declared.typed.Range.TheVariants as range
use Rattle.view_def.specs.Conditions.{Compares}
use Rattle.view_def.specs.Query.{Query}
use Rattle.valuation_meaning.specs.declared.index.Lists.{Lists}
use Rattle.valuation_meaning.specs.declared.index.Lists.TheVariants as lists
use Rattle.valuation_meaning.specs.declared.equality.Column.{Column}
use Rattle.view_meaning.specs.Elements.{Element, Valuation, text_of, text_at, cell_at}
use Rattle.view_meaning.specs.Terms.{value_of, compares_values}
use Rattle.view_meaning.specs.Valuations.{counts}
use Rattle.view_meaning.specs.Early.{is_bound_place, is_bound, NeedsMember, AliasesAgree}
use Rattle.view_meaning.specs.Operands.{variable_of, resolved}
use Rattle.valuation_meaning.specs.Columns.{term_by, compared_term, part_by, compared, is_sought, NeedsEqual}
use Rattle.valuation_meaning.proofs.BoundLemmas.{last_at, nothing_behind, place_kept, value_kept}

-- ---- an equality needs its element
differ : (s t : Text) → text_eq s t ≡ false → text_eq t s ≡ false
differ s t h = by_test (text_eq t s) refl
  where
    by_test : (b : Bool) → text_eq t s ≡ b → b ≡ false
    by_test false e = refl
    by_test true e =
        let same : t ≡ s = equal_is text_order t s e in
        absurd (cc (rw (same, equal_itself text_order s) at h))

unequal_second : (o c : Option Text) → is_sought o c ≡ false → compares_values Eq o c ≡ false
unequal_second None c h = refl
unequal_second (Some t) None h = refl
unequal_second (Some t) (Some s) h = h

unequal_first : (o c : Option Text) → is_sought o c ≡ false → compares_values Eq c o ≡ false
unequal_first None None h = refl
unequal_first None (Some s) h = refl
unequal_first (Some t) None h = refl
unequal_first (Some t) (Some s) h = differ t s h

and_false : (a b : Bool) → b ≡ false → a && b ≡ false
and_false true b h = h
and_false false b h = refl

-- an alias is read as the cell that it names, or not at all
read_as : (q : Query) (v : Valuation) → AliasesAgree q v → (t : Term) → (value_of v t ≡ None) ⊎ (value_of v t ≡ value_of v (resolved q.decls t))
read_as q v agree (term.Literal t) = inr refl
read_as q v agree (term.Cell k a) = inr refl
read_as q v agree (term.Var k) = by_range (slice_get q.decls k) refl
  where
    by_range : (o : Option Range) → slice_get q.decls k ≡ o → (text_at v k ≡ None) ⊎ (text_at v k ≡ value_of v (variable_of k o))
    by_range None is = inr refl
    by_range (Some range.Databases) is = inr refl
    by_range (Some (range.Relations db)) is = inr refl
    by_range (Some (range.Attributes db rel)) is = inr refl
    by_range (Some (range.Tuples db rel)) is = inr refl
    by_range (Some (range.Values db rel a)) is = inr refl
    by_range (Some (range.Alias j a)) is = by_order (cases_lt k (length v))
      where
        by_order : (k < length v) ⊎ (length v ≤ k) → (text_at v k ≡ None) ⊎ (text_at v k ≡ cell_at v j a)
        by_order (inl less) =
            let h = agree k j a is less in
            inr (h.1 ∙ sym h.2)
        by_order (inr more) = inl (ap (option_and_then text_of) (nothing_behind v k more))

-- two terms of which one is the cell and the other the value that is sought
no_value : (o : Option Text) → compares_values Eq o None ≡ false
no_value None = refl
no_value (Some t) = refl

module _ (q : Query) (col : Column) (s t : Term) (v w : Valuation) (e : Element) (cell : resolved q.decls s ≡ compared_term (length v) col) (named : is_bound_place (length v) col.attribute.now ≡ true)
    (bound : is_bound (length v) (resolved q.decls t) ≡ true) (unlike : is_sought (value_of v (resolved q.decls t)) (compared v col e) ≡ false) (agree : AliasesAgree q (v ++ e ∷ w)) where
  abbrev whole : Valuation
  whole = v ++ e ∷ w

  part : (ls : Lists) → value_of whole (term_by ls (length v) col.attribute.now) ≡ part_by ls v col.attribute.now e
  part lists.Rows = rw (last_at v w e, place_kept v (e ∷ w) col.attribute.now named) refl
  part lists.Cells = rw (last_at v w e) refl

  row_cell : value_of whole (resolved q.decls s) ≡ compared v col e
  row_cell = ap (value_of whole) cell ∙ part col.lists

  sought : value_of whole (resolved q.decls t) ≡ value_of v (resolved q.decls t)
  sought = value_kept v (e ∷ w) (resolved q.decls t) bound

  differ_first : compares_values Eq (value_of whole s) (value_of whole t) ≡ false
  differ_first = by_reading (read_as q whole agree s) (read_as q whole agree t)
    where
      by_reading : (value_of whole s ≡ None) ⊎ (value_of whole s ≡ value_of whole (resolved q.decls s)) → (value_of whole t ≡ None) ⊎ (value_of whole t ≡ value_of whole (resolved q.decls t))
          → compares_values Eq (value_of whole s) (value_of whole t) ≡ false
      by_reading (inl none) other = rw none refl
      by_reading (inr is) (inl none) = rw none (no_value (value_of whole s))
      by_reading (inr is) (inr also) = rw (is ∙ row_cell, also ∙ sought) (unequal_first (value_of v (resolved q.decls t)) (compared v col e) unlike)

  differ_second : compares_values Eq (value_of whole t) (value_of whole s) ≡ false
  differ_second = by_reading (read_as q whole agree s) (read_as q whole agree t)
    where
      by_reading : (value_of whole s ≡ None) ⊎ (value_of whole s ≡ value_of whole (resolved q.decls s)) → (value_of whole t ≡ None) ⊎ (value_of whole t ≡ value_of whole (resolved q.decls t))
          → compares_values Eq (value_of whole t) (value_of whole s) ≡ false
      by_reading other (inl none) = rw none refl
      by_reading (inl none) (inr also) = rw none (no_value (value_of whole t))
      by_reading (inr is) (inr also) = rw (is ∙ row_cell, also ∙ sought) (unequal_second (value_of v (resolved q.decls t)) (compared v col e) unlike)

module _ (q : Query) (col : Column) (s t : Term) (k : ℕ) (cell : resolved q.decls s ≡ compared_term k col) (named : is_bound_place k col.attribute.now ≡ true) (bound : is_bound k (resolved q.decls t) ≡ true) where
  pub equal_first : NeedsMember q (Compares s Eq t) → NeedsEqual q k (resolved q.decls t) col
  equal_first needs v e long unlike w agree =
      let behind : (v ++ e ∷ []) ++ w ≡ v ++ e ∷ w = append_assoc v (e ∷ []) w in
      let agrees = subst (AliasesAgree q) behind agree in
      ap (λ (u : Valuation). counts q (value_of u)) behind
      ∙ needs (value_of (v ++ e ∷ w)) (and_false _ (compares_values Eq (value_of (v ++ e ∷ w) s) (value_of (v ++ e ∷ w) t)) (differ_first q col s t v w e (rw long cell) (rw long named) (rw long bound) unlike agrees))

  pub equal_second : NeedsMember q (Compares t Eq s) → NeedsEqual q k (resolved q.decls t) col
  equal_second needs v e long unlike w agree =
      let behind : (v ++ e ∷ []) ++ w ≡ v ++ e ∷ w = append_assoc v (e ∷ []) w in
      let agrees = subst (AliasesAgree q) behind agree in
      ap (λ (u : Valuation). counts q (value_of u)) behind
      ∙ needs (value_of (v ++ e ∷ w)) (and_false _ (compares_values Eq (value_of (v ++ e ∷ w) t) (value_of (v ++ e ∷ w) s)) (differ_second q col s t v w e (rw long cell) (rw long named) (rw long bound) unlike agrees))

-- one of those of which all have a property
pub among_all : {X : Type 0} (P : X → Type 0) (xs ys : List X) (y : X) → ys ≡ xs → All P xs → IsAmong ys y → P y
among_all P xs ys y same all among = subst P (sym among.1.1) (subst (All P) (sym same) all among.0 y among.1.0)

-- the declaration at a place, as the code reads it
