-- What is read is well written.
use Rattle.std.proofs.Common.{◌≡◌, ◌≤◌, ℕ, suc, Bool, true, false, List, [], ◌∷◌, length, Option, Some, None, refl, arith}
use Rattle.std.specs.Prelude.{IfSome}
use Rattle.std.proofs.lemmas.Bool.{and_from}
use Rattle.view_def.specs.RawConditions.{Raw, AnyRaw, AllRaw, NotRaw, CompareRaw, Raws, none, more}
use Rattle.view_def.specs.Tree.{ViewTree}
use Rattle.view_def.specs.Print.{is_any, is_joined}
use Rattle.view_def.specs.Written.{has_two, is_well_joined, are_well_joined, is_well_joined_filter, IsWritten}
use Rattle.ss_parser.specs.Refused.{IsRead}
use Rattle.ss_parser.proofs.Printable.{SomeEach, Inside, Two, Bare, Members}
use Rattle.ss_parser.proofs.Kept.{good_tree}
use Rattle.ss_parser.specs.Views.{most_open}

one_at_least : {A : Type 0} (G : A → Type 0) (xs : List A) → SomeEach G xs → 1 ≤ length xs
one_at_least G [] h = absurd h
one_at_least G (x ∷ xs) h = let e : length (x ∷ xs) ≡ suc (length xs) = refl in omega arith

two_has : (cs : Raws) → Two cs → has_two cs ≡ true
two_has none h = absurd h
two_has (more c none) h = absurd h
two_has (more c (more d cs)) h = refl

-- what holds inside parentheses and without them
inside_has : (b : Bool) (B : ℕ → Type 0) (joined : Bool) (n : ℕ) → ((m : ℕ) → B m → joined ≡ true) → Inside b B n → joined ≡ true
inside_has true B joined n has h = has h.0 h.2
inside_has false B joined n has h = has n h

mutual
  bare_joined : (c : Raw) (n : ℕ) → Bare c n → is_well_joined c ≡ true
  bare_joined (AnyRaw cs) n h = and_from (has_two cs) (are_well_joined cs) (two_has cs h.0) (members_joined is_any cs n h.1)
  bare_joined (AllRaw cs) n h = and_from (has_two cs) (are_well_joined cs) (two_has cs h.0) (members_joined is_joined cs n h.1)
  bare_joined (NotRaw c) n h = inside_has (is_joined c) (Bare c) (is_well_joined c) h.0 (bare_joined c) h.2
  bare_joined (CompareRaw s op t) n h = refl

  members_joined : (needed : Raw → Bool) (cs : Raws) (n : ℕ) → Members needed cs n → are_well_joined cs ≡ true
  members_joined needed none n h = refl
  members_joined needed (more c cs) n h = and_from (is_well_joined c) (are_well_joined cs) (inside_has (needed c) (Bare c) (is_well_joined c) n (bare_joined c) h.0) (members_joined needed cs n h.1)

filter_joined : (o : Option Raw) → IfSome o (λ c. Bare c most_open) → is_well_joined_filter o ≡ true
filter_joined None h = refl
filter_joined (Some c) h = bare_joined c most_open h

pub read_is_written : (bytes : List ℕ) (t : ViewTree) → IsRead bytes t → IsWritten t
read_is_written bytes t r =
    let good = good_tree bytes t r in
    record {
      columns = one_at_least _ t.columns good.columns;
      select = one_at_least _ t.select good.select;
      decls = one_at_least _ t.decls good.decls;
      condition = filter_joined t.condition good.condition;
    }
