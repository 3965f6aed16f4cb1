-- Declarations that pass typing: how many, and each over those before it.
use Rattle.std.proofs.Common.{◌≡◌, ◌<◌, ◌≤◌, ◌+◌, ◌∷◌, ◌++◌, [], ℕ, Bool, true, false, List, Option, None, refl, sym, ap, ◌∙◌, subst, arith, length, append_assoc, append-nil, length-append, count_by, cond}
use Rattle.std.specs.Prelude.{nat_le, ◌&&◌, ◌||◌}
use Rattle.std.proofs.lemmas.Bool.Decides.{nat_tests}
use Rattle.std.proofs.lemmas.List.Sums.{sum_by-append, sum_by-cons}
use Rattle.ss_text.specs.Texts.{Text}
use Rattle.ss_text.proofs.PlaceLemmas.{map_last}
use Rattle.view_def.specs.Profile.{are_ranges_after}
use Rattle.view_def.specs.Profile as profile
use Rattle.view_def.specs.declared.typed.Range.{Range}
use Rattle.view_def.specs.declared.written.RawDecl.{RawDecl}
use Rattle.view_def.specs.declared.written.RawRange.{RawRange}
use Rattle.view_def.specs.declared.written.RawRange.TheVariants as raw
use Rattle.var_typing.specs.declared.fault.TypeFault.{TypeFault}
use Rattle.var_typing.specs.declared.fault.TypeFault.TheVariants.{TooMany}
use Rattle.var_typing.specs.Declarations.{ranges_over_rows, too_many, range_fault, alias_folds, declaration_fault, declarations_fault, typed_range}
use Rattle.var_typing.specs.Refusals.{in_turn}
use Rattle.var_typing.proofs.ProfileScope.{ranges_of, range_over}
use Rattle.var_typing.proofs.WalkLemmas.{none_left, none_right, not_true}

-- a fact that each judged element hands on holds of the whole list
pub in_turn_keeps : {A : Type 0} (judge : List A → A → Option TypeFault) (P : List A → Type 0) → ((before : List A) (x : A) → judge before x ≡ None → P before → P (before ++ x ∷ []))
    → (before rest : List A) → in_turn judge before rest ≡ None → P before → P (before ++ rest)
in_turn_keeps {A} judge P step before [] h p = subst P (sym (append-nil before)) p
in_turn_keeps {A} judge P step before (x ∷ rest) h p =
    subst P (append_assoc before (x ∷ []) rest)
    (in_turn_keeps judge P step (before ++ x ∷ []) rest (none_right (judge before x) _ h) (step before x (none_left (judge before x) _ h) p))

few_tests : (m n : ℕ) (b : Bool) → (nat_le 8 m || (b && nat_le 4 n)) ≡ false → m < 8
few_tests m n b h = grind (arith, nat_tests)

rows_tests : (m n : ℕ) (b : Bool) → (nat_le 8 m || (b && nat_le 4 n)) ≡ false → b ≡ true → n < 4
rows_tests m n b h e = grind (arith, nat_tests)

module _ (ds : List RawDecl) where
  numbers : (before : List RawDecl) (d : RawDecl) → declaration_fault ds before d ≡ None → (nat_le 8 (length before) || (ranges_over_rows d && nat_le 4 (count_by ranges_over_rows before))) ≡ false
  numbers before d h = not_true _ (TooMany d.var) (none_left (too_many before d) _ h)

  few_step : (before : List RawDecl) (d : RawDecl) → declaration_fault ds before d ≡ None → length before ≤ 8 → length (before ++ d ∷ []) ≤ 8
  few_step before d h p =
      let lt = few_tests (length before) (count_by ranges_over_rows before) (ranges_over_rows d) (numbers before d h) in
      omega (arith, length-append before (d ∷ []))

  pub few_declarations : declarations_fault ds ≡ None → length ds ≤ 8
  few_declarations h = in_turn_keeps (declaration_fault ds) (λ (l : List RawDecl). length l ≤ 8) few_step [] ds h (omega arith)

  rows_step : (before : List RawDecl) (d : RawDecl) → declaration_fault ds before d ≡ None → count_by ranges_over_rows before ≤ 4 → count_by ranges_over_rows (before ++ d ∷ []) ≤ 4
  rows_step before d h p = by_kind (ranges_over_rows d) refl
    where
      count : count_by ranges_over_rows (before ++ d ∷ []) ≡ count_by ranges_over_rows before + (0 + cond (ranges_over_rows d) 1 0)
      count = sum_by-append (λ (e : RawDecl). cond (ranges_over_rows e) 1 0) before (d ∷ [])

      by_kind : (b : Bool) → ranges_over_rows d ≡ b → count_by ranges_over_rows (before ++ d ∷ []) ≤ 4
      by_kind true e =
          let lt = rows_tests (length before) (count_by ranges_over_rows before) (ranges_over_rows d) (numbers before d h) e in
          let n = count ∙ ap (λ b. count_by ranges_over_rows before + (0 + cond b 1 0)) e in
          omega arith
      by_kind false e = let n = count ∙ ap (λ b. count_by ranges_over_rows before + (0 + cond b 1 0)) e in omega arith

  over_rows : declarations_fault ds ≡ None → count_by ranges_over_rows ds ≤ 4
  over_rows h = in_turn_keeps (declaration_fault ds) (λ (l : List RawDecl). count_by ranges_over_rows l ≤ 4) rows_step [] ds h (omega arith)

  same_rows : (r : RawRange) (x : Text) → profile.ranges_over_rows (typed_range ds r) ≡ ranges_over_rows (record { range = r; var = x })
  same_rows raw.Databases x = refl
  same_rows (raw.Relations db) x = refl
  same_rows (raw.Attributes db rel) x = refl
  same_rows (raw.Tuples db rel) x = refl
  same_rows (raw.Values db rel a) x = refl
  same_rows (raw.Alias t a) x = refl

  same_count : (some : List RawDecl) → count_by profile.ranges_over_rows (ranges_of ds some) ≡ count_by ranges_over_rows some
  same_count [] = refl
  same_count (d ∷ some) =
      sum_by-cons (λ (r : Range). cond (profile.ranges_over_rows r) 1 0) (typed_range ds d.range) (ranges_of ds some)
      ∙ ap (λ n. cond (profile.ranges_over_rows (typed_range ds d.range)) 1 0 + n) (same_count some)
      ∙ ap (λ b. cond b 1 0 + count_by ranges_over_rows some) (same_rows d.range d.var)
      ∙ sym (sum_by-cons (λ (e : RawDecl). cond (ranges_over_rows e) 1 0) d some)

  pub few_over_rows : declarations_fault ds ≡ None → count_by profile.ranges_over_rows (ranges_of ds ds) ≤ 4
  few_over_rows h = let e = same_count ds in let n = over_rows h in omega arith

  ranges_walk : (before rest : List RawDecl) → ds ≡ before ++ rest → in_turn (declaration_fault ds) before rest ≡ None → are_ranges_after (ranges_of ds before) (ranges_of ds rest) ≡ true
  ranges_walk before [] e h = refl
  ranges_walk before (d ∷ rest) e h =
      let here = none_left (range_fault ds (length before) (alias_folds ds before) d.range) _ (none_right (too_many before d) _ (none_left (declaration_fault ds before d) _ h)) in
      ap (λ b. b && are_ranges_after (ranges_of ds before ++ typed_range ds d.range ∷ []) (ranges_of ds rest)) (range_over ds before (d ∷ rest) e (alias_folds ds before) d.range here)
      ∙ ap (λ (l : List Range). are_ranges_after l (ranges_of ds rest)) (sym (map_last (λ (x : RawDecl). typed_range ds x.range) before d))
      ∙ ranges_walk (before ++ d ∷ []) rest (e ∙ sym (append_assoc before (d ∷ []) rest)) (none_right (declaration_fault ds before d) _ h)

  pub ranges_in_turn : declarations_fault ds ≡ None → are_ranges_after [] (ranges_of ds ds) ≡ true
  ranges_in_turn h = ranges_walk [] ds refl h
