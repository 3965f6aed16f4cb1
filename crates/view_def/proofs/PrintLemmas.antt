-- One more part of a joined text.
use Rattle.std.proofs.Common.{◌≡◌, ◌<◌, ◌+◌, ◌==◌, ◌∷◌, ◌++◌, [], ℕ, zero, suc, Bool, true, false, List, refl, sym, ap, ◌∙◌, length, take, get_or, map, arith, append_assoc, append-nil, if◌then◌else◌}
use Rattle.std.proofs.lemmas.Bool.Decides.{nat_tests}
use Rattle.std.specs.List.{flat_map, join_by}
use Rattle.std.proofs.lemmas.List.{flat_map_more}
use Rattle.std.proofs.Math.Seq.{take-suc}
use Rattle.view_def.specs.declared.written.RawCond.{RawCond}
use Rattle.view_def.specs.RawConditions.{Raw, raws, raw_of}
use Rattle.view_def.specs.Print.{in_parentheses, condition_text, member_texts}

not_first : (i : ℕ) → (suc i == 0) ≡ false
not_first i = grind (arith, nat_tests)

module _ {X A : Type 0} (f : X → List A) (sep : List A) where
  first : (xs : List X) (d : X) → 0 < length xs → f (get_or xs 0 d) ≡ join_by f sep (take 1 xs)
  first [] d lt = absurd (omega arith)
  first (x ∷ xs) d lt = sym (append-nil (f x))

  later : (xs : List X) (i : ℕ) (d : X) → suc i < length xs → (join_by f sep (take (suc i) xs) ++ sep) ++ f (get_or xs (suc i) d) ≡ join_by f sep (take (suc (suc i)) xs)
  later [] i d lt = absurd (omega arith)
  later (x ∷ xs) i d lt =
      append_assoc (f x ++ flat_map (λ y. sep ++ f y) (take i xs)) sep (f (get_or xs i d)) ∙ flat_map_more (λ y. sep ++ f y) (f x) (take i xs) (get_or xs i d) ∙
      ap (λ l. f x ++ flat_map (λ y. sep ++ f y) l) (sym (take-suc xs i d (omega arith)))

  one_more : (xs : List X) (i : ℕ) (d : X) → i < length xs → (join_by f sep (take i xs) ++ (if i == 0 then [] else sep)) ++ f (get_or xs i d) ≡ join_by f sep (take (suc i) xs)
  one_more xs zero d lt = first xs d lt
  one_more xs (suc i) d lt = rw (not_first i) (later xs i d lt)

  -- behind what stood there before
  pub joined_more : (old now : List A) (xs : List X) (i : ℕ) (x : X) → now ≡ old ++ join_by f sep (take i xs) → i < length xs → x ≡ get_or xs i x → (now ++ (if i == 0 then [] else sep)) ++ f x ≡ old ++ join_by f sep (take (i + 1) xs)
  joined_more old now xs i x e lt at =
      let j = join_by f sep (take i xs) in
      let s = if i == 0 then [] else sep in
      let more : suc i ≡ i + 1 = omega arith in
      ap (λ (l : List A). (l ++ s) ++ f x) e ∙ append_assoc (old ++ j) s (f x) ∙ append_assoc old j (s ++ f x)
      ∙ ap (λ (l : List A). old ++ l) (sym (append_assoc j s (f x)) ∙ ap (λ z. (j ++ s) ++ f z) at ∙ one_more xs i x lt ∙ ap (λ k. join_by f sep (take k xs)) more)

-- the members' texts are those of each
abbrev pub member_text : (Raw → Bool) → RawCond → List ℕ
member_text needed c = in_parentheses (needed (raw_of c)) (condition_text (raw_of c))

later_members : (needed : Raw → Bool) (sep : List ℕ) (cs : List RawCond) → flat_map (λ t. sep ++ t) (member_texts needed (raws (map raw_of cs))) ≡ flat_map (λ c. sep ++ member_text needed c) cs
later_members needed sep [] = refl
later_members needed sep (c ∷ cs) = ap (λ l. (sep ++ member_text needed c) ++ l) (later_members needed sep cs)

joined_members : (needed : Raw → Bool) (sep : List ℕ) (cs : List RawCond) → join_by (λ t. t) sep (member_texts needed (raws (map raw_of cs))) ≡ join_by (member_text needed) sep cs
joined_members needed sep [] = refl
joined_members needed sep (c ∷ cs) = ap (λ l. member_text needed c ++ l) (later_members needed sep cs)

-- a text between two parentheses, where they are needed
enclosed : (needed : Bool) (now t : List ℕ) → ((now ++ (if needed then 40 ∷ [] else [])) ++ t) ++ (if needed then 41 ∷ [] else []) ≡ now ++ in_parentheses needed t
enclosed true now t = append_assoc (now ++ 40 ∷ []) t (41 ∷ []) ∙ append_assoc now (40 ∷ []) (t ++ 41 ∷ [])
enclosed false now t = append-nil ((now ++ []) ++ t) ∙ ap (λ l. l ++ t) (append-nil now)

-- one more member, in parentheses where they are needed
pub member_more : (needed : Raw → Bool) (sep old now : List ℕ) (cs : List RawCond) (i : ℕ) (c : RawCond)
    → now ≡ old ++ join_by (λ t. t) sep (member_texts needed (raws (map raw_of (take i cs)))) → i < length cs → c ≡ get_or cs i c
    → (((now ++ (if i == 0 then [] else sep)) ++ (if needed (raw_of c) then 40 ∷ [] else [])) ++ condition_text (raw_of c)) ++ (if needed (raw_of c) then 41 ∷ [] else [])
    ≡ old ++ join_by (λ t. t) sep (member_texts needed (raws (map raw_of (take (i + 1) cs))))
member_more needed sep old now cs i c e lt at =
    enclosed (needed (raw_of c)) (now ++ (if i == 0 then [] else sep)) (condition_text (raw_of c))
    ∙ joined_more (member_text needed) sep old now cs i c (e ∙ ap (λ l. old ++ l) (joined_members needed sep (take i cs))) lt at
    ∙ ap (λ l. old ++ l) (sym (joined_members needed sep (take (i + 1) cs)))
