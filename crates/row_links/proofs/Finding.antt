-- What a walk along a chain finds.
use Rattle.std.proofs.Common.{◌≡◌, ℕ, ◌<◌, ◌≤◌, List, [], ◌∷◌, ◌++◌, Bool, true, false, cond, ◌&&◌, nat_eq, nat_lt, Option, Some, None, filter, length, slice_get, slice_index_or, bytes_eq, refl, sym, ap, ◌∙◌, subst, arith, Vec, length-append}
use Rattle.std.specs.Global.{Global}
use Rattle.std.specs.Option.{option_eq}
use Rattle.std.specs.Cmp.Lexicographic.{pointwise_decides, bytes_decides}
use Rattle.std.proofs.lemmas.Bool.{eq-eqb}
use Rattle.ss_text.specs.Texts.{Row, Text, row_eq}
use Rattle.ss_text.specs.declared.seed.Seed.{Seed}
use borrow.Author.Tests.{ltb-true}
use Rattle.slab.specs.Slab.{Slab, slab_len}
use Rattle.row_links.specs.declared.link.Link.{Link}
use Rattle.row_links.specs.declared.chain.Chain.{Chain}
use Rattle.row_links.specs.Links.{IsPath, IsOnce, first_or, after_at}
use Rattle.row_links.specs.Chained.{Placed, IsChained, places, places_of}
use Rattle.row_links.specs.AllChains.{marked, key_lists}
use Rattle.row_links.specs.Parts.{whole, same_cells}
use Rattle.row_links.specs.Marks.{mark_of}
use Rattle.row_links.specs.Live.{AreStored, first_place, following, at_place}
use Rattle.row_links.proofs.Halfway.{key_at, length-key_lists}
use Rattle.row_links.proofs.Marked.{own_chain}
use Rattle.row_links.proofs.LinkLemmas.{link_in_path, read_at}
use Rattle.row_links.proofs.Paths.{path_right}
use Rattle.row_links.proofs.LiveChains.{chained_split}
use Rattle.row_links.proofs.Seen.{split_at, following_split, after_link, stored_later}

-- equal cells
some_decides : (x y : Option Text) → (option_eq bytes_eq x y ≡ true → x ≡ y) × (x ≡ y → option_eq bytes_eq x y ≡ true)
some_decides None None = (λ e. refl, λ e. refl)
some_decides None (Some y) = (λ e. cc, λ e. cc)
some_decides (Some x) None = (λ e. cc, λ e. cc)
some_decides (Some x) (Some y) = (λ e. ap Some ((bytes_decides x y).0 e), λ e. (bytes_decides x y).1 (let same : x ≡ y = cc in same))

pub cells_equal : (a b : List (Option Text)) → same_cells a b ≡ true → a ≡ b
cells_equal a b e = (pointwise_decides some_decides a b).0 e

pub same_mark : (seed : Seed) (a b : List (Option Text)) → same_cells a b ≡ true → mark_of seed a ≡ mark_of seed b
same_mark seed a b e = ap (mark_of seed) (cells_equal a b e)

pub whole_same : (a b : Row) → same_cells (whole a) (whole b) ≡ row_eq a b
whole_same [] [] = refl
whole_same [] (y ∷ b) = refl
whole_same (x ∷ a) [] = refl
whole_same (x ∷ a) (y ∷ b) = ap (λ (r : Bool). bytes_eq x y && r) (whole_same a b)

pub filter_same : {X : Type 0} (p q : X → Bool) (xs : List X) → ((x : X) → p x ≡ q x) → filter p xs ≡ filter q xs
filter_same p q [] h = refl
filter_same p q (x ∷ xs) h = ap (λ (b : Bool). cond b (x ∷ filter p xs) (filter p xs)) (h x) ∙ ap (λ ys. cond (q x) (x ∷ ys) ys) (filter_same p q xs h)

-- a filter after a wider one
filter_twice : {X : Type 0} (p q : X → Bool) (xs : List X) → ((x : X) → p x ≡ true → q x ≡ true) → filter p (filter q xs) ≡ filter p xs
filter_twice p q [] h = refl
filter_twice p q (x ∷ xs) h = by (p x) (q x) refl refl (filter_twice p q xs h)
  where
    by : (a b : Bool) → p x ≡ a → q x ≡ b → filter p (filter q xs) ≡ filter p xs → filter p (filter q (x ∷ xs)) ≡ filter p (x ∷ xs)
    by a true e f rest = ap (λ (b : Bool). filter p (cond b (x ∷ filter q xs) (filter q xs))) f ∙ ap (λ ys. cond (p x) (x ∷ ys) ys) rest
    by true false e f rest = cc (h x e)
    by false false e f rest = ap (λ (b : Bool). filter p (cond b (x ∷ filter q xs) (filter q xs))) f ∙ rest ∙ sym (ap (λ (b : Bool). cond b (x ∷ filter p xs) (filter p xs)) e)

module _ (f : Row → ℕ) (m : ℕ) where
  abbrev of_mark : ℕ × Row → Bool
  of_mark e = nat_eq (f e.1) m

  places_are : (es : Placed) → places_of m (marked f es) ≡ places (filter of_mark es)
  places_are [] = refl
  places_are (e ∷ es) = elim (nat_eq (f e.1) m) as (λ b. cond b (e.0 ∷ places_of m (marked f es)) (places_of m (marked f es)) ≡ places (cond b (e ∷ filter of_mark es) (filter of_mark es))) [
    | true ↦ ap (λ (ps : List ℕ). e.0 ∷ ps) (places_are es)
    | false ↦ places_are es
  ]

  stored_filter : (rows : Slab Row) (es : Placed) → AreStored rows es → AreStored rows (filter of_mark es)
  stored_filter rows [] h = tt
  stored_filter rows (e ∷ es) h = elim (nat_eq (f e.1) m) as (λ b. AreStored rows (cond b (e ∷ filter of_mark es) (filter of_mark es))) [
    | true ↦ (h.0, stored_filter rows es h.1)
    | false ↦ stored_filter rows es h.1
  ]

  few_pass : (es : Placed) → length (filter of_mark es) ≤ length es
  few_pass [] = omega arith
  few_pass (e ∷ es) = let rest = few_pass es in elim (nat_eq (f e.1) m) as (λ b. length (cond b (e ∷ filter of_mark es) (filter of_mark es)) ≤ length (e ∷ es)) [
    | true ↦ omega arith
    | false ↦ omega arith
  ]

  -- what those that pass tell along a chain of a mark they tell of all, where those that pass have the mark
  pub found_in : {X : Type 0} (tell : Placed → X) (rows : Slab Row) (links : List Link) (test : Row → Bool) (before from : Option ℕ) (result : X) (es : Placed)
      → ((mark : ℕ) (b : Option ℕ) (fs : Placed) → IsPath links mark b (places fs) None → from ≡ first_or (places fs) None → AreStored rows fs → length fs ≤ slab_len rows → result ≡ tell (filter (λ e. test e.1) fs))
      → ((row : Row) → test row ≡ true → f row ≡ m) → IsPath links m before (places_of m (marked f es)) None → from ≡ first_or (places_of m (marked f es)) None → AreStored rows es → length es ≤ slab_len rows → result ≡ tell (filter (λ e. test e.1) es)
  found_in tell rows links test before from result es tells marks path at stored few =
      tells m before (filter of_mark es) (subst (λ (ps : List ℕ). IsPath links m before ps None) (places_are es) path) (at ∙ ap (λ (ps : List ℕ). first_or ps None) (places_are es)) (stored_filter rows es stored) (let l = few_pass es in omega arith)
      ∙ ap tell (filter_twice (λ (e : ℕ × Row). test e.1) of_mark es (λ e h. eq-eqb (f e.1) m (marks e.1 h)))

-- the key with a number
pub key_is : (keys : List (Vec ℕ Global)) (lists : List (List ℕ)) (i : ℕ) (key : Vec ℕ Global) → key_lists keys ≡ lists → i < length lists → key ≡ slice_index_or keys i key → slice_get lists i ≡ Some key.items
key_is keys lists i key e lt k = subst (λ (ks : List (List ℕ)). slice_get ks i ≡ Some key.items) e (key_at keys i key (read_at keys i key (omega (arith, length-key_lists keys, ap length e)) k))

pub key_in_range : (keys : List (Vec ℕ Global)) (lists : List (List ℕ)) (i : ℕ) → key_lists keys ≡ lists → i < length lists → i < length keys
key_in_range keys lists i e lt = omega (arith, length-key_lists keys, ap length e)

-- the walk behind a row of a chain
pub found_beside : (rows : Slab Row) (chain : Chain) (f : Row → ℕ) (test : Row → Bool) (live : Placed) (place : ℕ) (row : Row) (from result : Option ℕ) → at_place place live ≡ Some row → IsOnce (places live) → AreStored rows live → slab_len rows ≡ length live → IsChained chain (marked f live) → from ≡ after_at chain.links.items place → ((r : Row) → test r ≡ true → f r ≡ f row) → ((mark : ℕ) (b : Option ℕ) (fs : Placed) → IsPath chain.links.items mark b (places fs) None → from ≡ first_or (places fs) None → AreStored rows fs → length fs ≤ slab_len rows → result ≡ first_place (filter (λ e. test e.1) fs)) → result ≡ first_place (filter (λ e. test e.1) (following place live))
found_beside rows chain f test live place row from result at once stored count chained from_is marks seeks =
    let s = split_at live place row at in
    let split = chained_split place row [] f chain s.earlier s.later (subst (λ (es : Placed). IsChained chain (marked f es)) s.is_split chained) in
    let own = own_chain chain.links.items (f row) place (marked f s.earlier) (marked f s.later) _ (split (f row)) in
    let path = path_right chain.links.items (f row) None (places_of (f row) (marked f s.earlier)) (place ∷ places_of (f row) (marked f s.later)) None own.path in
    let link = link_in_path chain.links.items (f row) place _ _ own.path in
    let tail : following place live ≡ s.later = ap (following place) s.is_split ∙ following_split place row s.earlier s.later (subst (λ (es : Placed). IsOnce (places es)) s.is_split once) in
    let all : AreStored rows (s.earlier ++ (place, row) ∷ s.later) = subst (AreStored rows) s.is_split stored in
    found_in f (f row) first_place rows chain.links.items test (Some place) from result s.later seeks marks path.1
    (from_is ∙ after_link chain.links.items place _ link)
    (stored_later rows s.earlier (place, row) s.later all) (omega (arith, count, ap length s.is_split, length-append s.earlier ((place, row) ∷ s.later)))
    ∙ ap (λ (es : Placed). first_place (filter (λ e. test e.1) es)) (sym tail)

pub got_at : {X : Type 0} (xs ys : List X) (i : ℕ) (x : X) → ys ≡ xs → true ≡ nat_lt i (length ys) → x ≡ slice_index_or ys i x → slice_get xs i ≡ Some x
got_at {X} xs ys i x e lt at = subst (λ (zs : List X). slice_get zs i ≡ Some x) e (read_at ys i x (ltb-true i (length ys) (sym lt)) at)

pub cells_sym : (a b : List (Option Text)) → same_cells a b ≡ same_cells b a
cells_sym a b = by (same_cells a b) (same_cells b a) refl refl
  where
    by : (p q : Bool) → same_cells a b ≡ p → same_cells b a ≡ q → same_cells a b ≡ same_cells b a
    by true q e f = e ∙ sym ((pointwise_decides some_decides b a).1 (sym (cells_equal a b e)))
    by false false e f = e ∙ sym f
    by false true e f = (pointwise_decides some_decides a b).1 (sym (cells_equal b a f)) ∙ sym f
