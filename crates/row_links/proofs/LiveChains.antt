-- All chains of the live rows, after a row was added or taken out.
use Rattle.std.proofs.Common.{◌≡◌, ℕ, ◌+◌, ◌<◌, ◌≤◌, List, [], ◌∷◌, ◌++◌, Some, length, slice_get, refl, sym, ap, subst, arith, zero, suc, ◌⊎◌, inl, inr}
use Rattle.std.proofs.lemmas.Bool.{cases_lt}
use Rattle.std.proofs.lemmas.Option.{slice_get_within}
use Rattle.ss_text.specs.Texts.{Row}
use Rattle.ss_text.specs.declared.seed.Seed.{Seed}
use Rattle.row_links.specs.declared.chain.Chain.{Chain}
use Rattle.row_links.specs.declared.chains.Chains.{Chains}
use Rattle.row_links.specs.Links.{IsChain, IsAbsent, IsOnce}
use Rattle.row_links.specs.Chained.{Placed, IsChained, HasRoom, places, IsLonger}
use Rattle.row_links.specs.AllChains.{AllChained, AllHaveRoom, Each, Adds, AddsByKey, TakesFrom, Stays, marked, by_row, by_cells}
use Rattle.row_links.proofs.Marked.{chain_longer}

pub places_append : {X : Type 0} (xs ys : List (ℕ × X)) → places (xs ++ ys) ≡ places xs ++ places ys
places_append [] ys = refl
places_append (x ∷ xs) ys = ap (λ (ps : List ℕ). x.0 ∷ ps) (places_append xs ys)

pub places_marked : (f : Row → ℕ) (xs : Placed) → places (marked f xs) ≡ places xs
places_marked f [] = refl
places_marked f (x ∷ xs) = ap (λ (ps : List ℕ). x.0 ∷ ps) (places_marked f xs)

pub marked_append : (f : Row → ℕ) (xs ys : Placed) → marked f (xs ++ ys) ≡ marked f xs ++ marked f ys
marked_append f [] ys = refl
marked_append f (x ∷ xs) ys = ap (λ (ms : List (ℕ × ℕ)). (x.0, f x.1) ∷ ms) (marked_append f xs ys)

module _ (place : ℕ) (row : Row) (keys : List (List ℕ)) where
  -- a chain with the row added
  added_by : (f : Row → ℕ) (live : Placed) (was now : Chain) → ((marks : List (ℕ × ℕ)) → IsChained was marks → IsAbsent place (places marks) → IsOnce (places marks) → IsChained now (marks ++ (place, f row) ∷ [])) → IsAbsent place (places live) → IsOnce (places live) → IsChained was (marked f live) → IsChained now (marked f (live ++ (place, row) ∷ []))
  added_by f live was now adds absent once h =
      subst (IsChained now) (sym (marked_append f live ((place, row) ∷ [])))
      (adds (marked f live) h (subst (IsAbsent place) (sym (places_marked f live)) absent) (subst IsOnce (sym (places_marked f live)) once))

  pub all_added : (old new : Chains) (live : Placed) → new.seed ≡ old.seed → IsChain new.order.items 0 (places live ++ place ∷ []) new.ends → ((marks : List (ℕ × ℕ)) → IsChained old.same marks → IsAbsent place (places marks) → IsOnce (places marks) → IsChained new.same (marks ++ (place, by_row old.seed row) ∷ [])) → Each (AddsByKey old.seed keys place row) old.keyed.items new.keyed.items → IsAbsent place (places live) → IsOnce (places live) → AllChained old keys live → AllChained new keys (live ++ (place, row) ∷ [])
  all_added old new live seeds order same each absent once h = record {
    order = subst (λ (ps : List ℕ). IsChain new.order.items 0 ps new.ends) (sym (places_append live ((place, row) ∷ []))) order;
    same = subst (λ (s : Seed). IsChained new.same (marked (by_row s) (live ++ (place, row) ∷ []))) (sym seeds) (added_by (by_row old.seed) live old.same new.same same absent once h.same);
    keyed = λ i now key e k.
        let was = each.each i now e in
        let its : was.2.0 ≡ key = (let k2 : slice_get keys i ≡ Some was.2.0 = was.2.1 in cc) in
        let adds : Adds old.seed key place row was.0 now = subst (λ (ks : List ℕ). Adds old.seed ks place row was.0 now) its was.2.2 in
        subst (λ (s : Seed). IsChained now (marked (by_cells s key) (live ++ (place, row) ∷ []))) (sym seeds) (added_by (by_cells old.seed key) live was.0 now adds.chained absent once (h.keyed i was.0 key was.1 k));
  }

  pub room_left : (old new : Chains) → length new.order.items ≡ length old.order.items → ((a b : ℕ) → HasRoom old.same a (b + 1) → HasRoom new.same a b) → Each (AddsByKey old.seed keys place row) old.keyed.items new.keyed.items → (a b : ℕ) → AllHaveRoom old a (b + 1) → AllHaveRoom new a b
  room_left old new order same each a b h = record {
    order = (let l = h.order in omega arith);
    same = same a b h.same;
    keyed = λ i now e. let was = each.each i now e in was.2.2.room a b (h.keyed i was.0 was.1);
  }

  -- a chain with the row taken out
  taken_by : (f : Row → ℕ) (earlier later : Placed) (was now : Chain) → ((m : ℕ) (xs ys : List (ℕ × ℕ)) → IsChained was (xs ++ (place, m) ∷ ys) → IsOnce (places (xs ++ (place, m) ∷ ys)) → IsChained now (xs ++ ys)) → IsOnce (places (earlier ++ (place, row) ∷ later)) → IsChained was (marked f (earlier ++ (place, row) ∷ later)) → IsChained now (marked f (earlier ++ later))
  taken_by f earlier later was now takes once h =
      let split = marked_append f earlier ((place, row) ∷ later) in
      let once2 : IsOnce (places (marked f earlier ++ (place, f row) ∷ marked f later)) = subst (λ (ms : List (ℕ × ℕ)). IsOnce (places ms)) split (subst IsOnce (sym (places_marked f (earlier ++ (place, row) ∷ later))) once) in
      subst (IsChained now) (sym (marked_append f earlier later)) (takes (f row) (marked f earlier) (marked f later) (subst (IsChained was) split h) once2)

  pub all_taken : (old new : Chains) (earlier later : Placed) → new.seed ≡ old.seed → (IsChain old.order.items 0 (places earlier ++ place ∷ places later) old.ends → IsOnce (places earlier ++ place ∷ places later) → IsChain new.order.items 0 (places earlier ++ places later) new.ends) → ((m : ℕ) (xs ys : List (ℕ × ℕ)) → IsChained old.same (xs ++ (place, m) ∷ ys) → IsOnce (places (xs ++ (place, m) ∷ ys)) → IsChained new.same (xs ++ ys)) → Each (TakesFrom place) old.keyed.items new.keyed.items → IsOnce (places (earlier ++ (place, row) ∷ later)) → AllChained old keys (earlier ++ (place, row) ∷ later) → AllChained new keys (earlier ++ later)
  all_taken old new earlier later seeds order same each once h =
      let split = places_append earlier ((place, row) ∷ later) in
      record {
        order = subst (λ (ps : List ℕ). IsChain new.order.items 0 ps new.ends) (sym (places_append earlier later))
            (order (subst (λ (ps : List ℕ). IsChain old.order.items 0 ps old.ends) split h.order) (subst IsOnce split once));
        same = subst (λ (s : Seed). IsChained new.same (marked (by_row s) (earlier ++ later))) (sym seeds) (taken_by (by_row old.seed) earlier later old.same new.same same once h.same);
        keyed = λ i now key e k.
            let was = each.each i now e in
            subst (λ (s : Seed). IsChained now (marked (by_cells s key) (earlier ++ later))) (sym seeds) (taken_by (by_cells old.seed key) earlier later was.0 now was.2.chained once (h.keyed i was.0 key was.1 k));
      }

  -- how the chains hold a live row
  pub order_split : (c : Chains) (earlier later : Placed) → AllChained c keys (earlier ++ (place, row) ∷ later) → IsChain c.order.items 0 (places earlier ++ place ∷ places later) c.ends
  order_split c earlier later h = subst (λ (ps : List ℕ). IsChain c.order.items 0 ps c.ends) (places_append earlier ((place, row) ∷ later)) h.order

  pub chained_split : (f : Row → ℕ) (c : Chain) (earlier later : Placed) → IsChained c (marked f (earlier ++ (place, row) ∷ later)) → IsChained c (marked f earlier ++ (place, f row) ∷ marked f later)
  chained_split f c earlier later h = subst (IsChained c) (marked_append f earlier ((place, row) ∷ later)) h

pub key_within : {X Y : Type 0} (xs : List X) (ys : List Y) (i : ℕ) (x : X) → length xs ≤ length ys → slice_get xs i ≡ Some x → (y : Y) × (slice_get ys i ≡ Some y)
key_within [] ys i x h e = cc
key_within (z ∷ xs) [] i x h e = absurd (omega arith)
key_within (z ∷ xs) (y ∷ ys) zero x h e = (y, refl)
key_within (z ∷ xs) (y ∷ ys) (suc i) x h e = key_within xs ys i x (omega arith) e

-- each chain of the new ones stands for the old one with its number, or is new and without rows
abbrev pub KeyedStay : List Chain → List Chain → Type 0
KeyedStay old new = (i : ℕ) (now : Chain) → slice_get new i ≡ Some now → ((was : Chain) × (slice_get old i ≡ Some was) × Stays i was now) ⊎ ((length old ≤ i) × IsChained now [])

pub keyed_same : (old : List Chain) → KeyedStay old old
keyed_same old i now e = inl (now, e, λ marks h. h)

pub keyed_made : (old new : List Chain) → ((i : ℕ) (now : Chain) → slice_get new i ≡ Some now → i < length old → slice_get old i ≡ Some now) → ((i : ℕ) (now : Chain) → slice_get new i ≡ Some now → length old ≤ i → IsChained now []) → KeyedStay old new
keyed_made old new kept made i now e = elim (cases_lt i (length old)) [
  | inl lt ↦ inl (now, kept i now e lt, λ marks h. h)
  | inr le ↦ inr (le, made i now e le)
]

pub keyed_each : (old mid new : List Chain) → KeyedStay old mid → Each Stays mid new → KeyedStay old new
keyed_each old mid new h each i now e =
    let m = each.each i now e in
    elim (h i m.0 m.1) [
      | inl w ↦ inl (w.0, w.1, λ marks was. m.2 marks (w.2 marks was))
      | inr w ↦ inr (w.0, m.2 [] w.1)
    ]

pub all_kept : (old new : Chains) (lists : List (List ℕ)) (live : Placed) (count : ℕ) → new.seed ≡ old.seed → IsLonger old.order.items new.order.items → new.ends ≡ old.ends → ((marks : List (ℕ × ℕ)) → IsChained old.same marks → IsChained new.same marks) → KeyedStay old.keyed.items new.keyed.items → length new.keyed.items ≤ count → (length old.keyed.items < count → live ≡ []) → AllChained old lists live → AllChained new lists live
all_kept old new lists live count seeds longer ends same keyed few none h = record {
  order = chain_longer old.order.items new.order.items 0 (places live) old.ends new.ends longer ends h.order;
  same = subst (λ (s : Seed). IsChained new.same (marked (by_row s) live)) (sym seeds) (same (marked (by_row old.seed) live) h.same);
  keyed = λ i now key e k. elim (keyed i now e) [
    | inl w ↦ subst (λ (s : Seed). IsChained now (marked (by_cells s key) live)) (sym seeds) (w.2 (marked (by_cells old.seed key) live) (h.keyed i w.0 key w.1 k))
    | inr w ↦
        let empty : live ≡ [] = none (let lt = slice_get_within new.keyed.items i now e in omega (arith, w.0)) in
        subst (λ (es : Placed). IsChained now (marked (by_cells new.seed key) es)) (sym empty) w.1
  ];
}
