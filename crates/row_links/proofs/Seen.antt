-- What the fields of linked rows say of the live rows.
use Rattle.std.proofs.Common.{◌≡◌, ◌≢◌, ℕ, ◌≤◌, List, [], ◌∷◌, ◌++◌, inl, inr, Bool, cond, Option, Some, None, IsSome, length, slice_get, refl, sym, ap, ◌∙◌, subst, arith, zero, suc}
use Rattle.std.proofs.lemmas.Bool.{eq-eqb, ne_eqb}
use Rattle.std.proofs.lemmas.Bool.Decides.{eqb_tells}
use Rattle.ss_text.specs.Texts.{Row}
use Rattle.slab.specs.Slab.{Slab, get, slab_len}
use Rattle.row_links.specs.declared.link.Link.{Link}
use Rattle.row_links.specs.declared.link.Ends.{Ends}
use Rattle.row_links.specs.declared.chains.Chains.{Chains}
use Rattle.row_links.specs.Links.{IsPath, IsAbsent, IsOnce, after_at, first_or, first_end, ends_of}
use Rattle.row_links.specs.Chained.{Placed, places}
use Rattle.row_links.specs.AllChains.{AllChained}
use Rattle.row_links.specs.Live.{AreStored, first_place, following, at_place}
use Rattle.row_links.specs.LinkedFields.{walk, row_of, rows_at, live_of, IsLinked}
use Rattle.row_links.proofs.LinkLemmas.{link_in_path}
use Rattle.row_links.proofs.LiveChains.{order_split}

pub first_of_places : {X : Type 0} (es : List (ℕ × X)) → first_or (places es) None ≡ first_place es
first_of_places [] = refl
first_of_places (e ∷ es) = refl

pub after_link : (links : List Link) (p : ℕ) (l : Link) → slice_get links p ≡ Some l → after_at links p ≡ l.after
after_link links p l e = ap (λ (o : Option Link). elim o as (λ _. Option ℕ) [ None ↦ None | Some l ↦ l.after ]) e

pub walk_path : (n : ℕ) (links : List Link) (mark : ℕ) (before : Option ℕ) (ps : List ℕ) → IsPath links mark before ps None → length ps ≤ n → walk n links (first_or ps None) ≡ ps
walk_path zero links mark before [] h le = refl
walk_path (suc n) links mark before [] h le = refl
walk_path zero links mark before (p ∷ ps) h le = absurd (omega arith)
walk_path (suc n) links mark before (p ∷ ps) h le =
    ap (λ (qs : List ℕ). p ∷ qs) (ap (walk n links) (after_link links p _ h.0) ∙ walk_path n links mark (Some p) ps h.1 (omega arith))

pub rows_stored : (rows : Slab Row) (es : Placed) → AreStored rows es → rows_at rows (places es) ≡ es
rows_stored rows [] h = refl
rows_stored rows (e ∷ es) h =
    let its : row_of rows e.0 ≡ e.1 = ap (λ (o : Option (Row)). elim o as (λ _. Row) [ None ↦ [] | Some row ↦ row ]) h.0 in
    ap (λ (row : Row). (e.0, row) ∷ rows_at rows (places es)) its ∙ ap (λ (fs : Placed). e ∷ fs) (rows_stored rows es h.1)

length-places : {X : Type 0} (es : List (ℕ × X)) → length (places es) ≡ length es
length-places [] = refl
length-places (e ∷ es) = ap suc (length-places es)

first_end_is : (ends : Option Ends) (ps : List ℕ) → ends ≡ ends_of ps → first_end ends ≡ first_or ps None
first_end_is ends [] e = ap first_end e
first_end_is ends (p ∷ ps) e = ap first_end e

-- what is seen of the fields is the list that they are linked for
pub live_is : (rows : Slab Row) (c : Chains) (keys : List (List ℕ)) (live : Placed) → AreStored rows live → slab_len rows ≡ length live → AllChained c keys live → live_of rows c ≡ live
live_is rows c keys live stored count h =
    ap (λ (at : Option ℕ). rows_at rows (walk (slab_len rows) c.order.items at)) (first_end_is c.ends (places live) h.order.ends_are)
    ∙ ap (rows_at rows) (walk_path (slab_len rows) c.order.items 0 None (places live) h.order.path (omega (arith, count, length-places live)))
    ∙ rows_stored rows live stored

-- a live place splits the live rows
pub record IsSplit {X : Type 0} (live : List (ℕ × X)) (place : ℕ) (row : X) : Type 0 where
  pub earlier : List (ℕ × X)
  pub later : List (ℕ × X)
  pub is_split : live ≡ earlier ++ (place, row) ∷ later

pub split_at : {X : Type 0} (live : List (ℕ × X)) (place : ℕ) (row : X) → at_place place live ≡ Some row → IsSplit live place row
split_at [] place row e = cc
split_at (x ∷ xs) place row e =
    elim (eqb_tells x.0 place) [
      | inl t ↦
          let at : Some x.1 ≡ Some row = sym (ap (λ (b : Bool). cond b (Some x.1) (at_place place xs)) t.0) ∙ e in
          let same : x.1 ≡ row = cc in
          record { earlier = []; later = xs; is_split = ap (λ (p : ℕ). (p, x.1) ∷ xs) t.1 ∙ ap (λ r. (place, r) ∷ xs) same }
      | inr t ↦
          let at : at_place place xs ≡ Some row = sym (ap (λ (b : Bool). cond b (Some x.1) (at_place place xs)) t.0) ∙ e in
          let s = split_at xs place row at in
          record { earlier = x ∷ s.earlier; later = s.later; is_split = ap (λ ys. x ∷ ys) s.is_split }
    ]

absent_head : {X : Type 0} (p place : ℕ) (row : X) (earlier later : List (ℕ × X)) → IsAbsent p (places (earlier ++ (place, row) ∷ later)) → p ≢ place
absent_head p place row [] later h = h.0
absent_head p place row (x ∷ xs) later h = absent_head p place row xs later h.1

pub following_split : {X : Type 0} (place : ℕ) (row : X) (earlier later : List (ℕ × X)) → IsOnce (places (earlier ++ (place, row) ∷ later)) → following place (earlier ++ (place, row) ∷ later) ≡ later
following_split place row [] later h = ap (λ (b : Bool). cond b later (following place later)) (eq-eqb place place refl)
following_split place row (x ∷ xs) later h =
    ap (λ (b : Bool). cond b (xs ++ (place, row) ∷ later) (following place (xs ++ (place, row) ∷ later))) (ne_eqb x.0 place (absent_head x.0 place row xs later h.0))
    ∙ following_split place row xs later h.1

pub stored_split : (rows : Slab Row) (place : ℕ) (row : Row) (earlier later : Placed) → AreStored rows (earlier ++ (place, row) ∷ later) → get rows place ≡ Some row
stored_split rows place row [] later h = h.0
stored_split rows place row (x ∷ xs) later h = stored_split rows place row xs later h.1

pub stored_later : (rows : Slab Row) (earlier : Placed) (e : ℕ × Row) (later : Placed) → AreStored rows (earlier ++ e ∷ later) → AreStored rows later
stored_later rows [] e later h = h.1
stored_later rows (x ∷ xs) e later h = stored_later rows xs e later h.1

pub some_row : {X : Type 0} (o : Option X) → IsSome o → (x : X) × (o ≡ Some x)
some_row None h = cc
some_row (Some x) h = (x, refl)

module _ (keys : List (List ℕ)) (rows : Slab Row) (c : Chains) (waiting : List Row) (live : Placed) (place : ℕ) where
  pub row_is_stored : IsLinked keys rows c waiting live → IsSome (at_place place live) → get rows place ≡ at_place place live
  row_is_stored h is =
      let r = some_row (at_place place live) is in
      let s = split_at live place r.0 r.1 in
      stored_split rows place r.0 s.earlier s.later (subst (AreStored rows) s.is_split h.stored) ∙ sym r.1

  pub after_is_next : IsLinked keys rows c waiting live → IsSome (at_place place live) → after_at c.order.items place ≡ first_place (following place live)
  after_is_next h is =
      let r = some_row (at_place place live) is in
      let s = split_at live place r.0 r.1 in
      let chained : AllChained c keys (s.earlier ++ (place, r.0) ∷ s.later) = subst (AllChained c keys) s.is_split h.chained in
      let once : IsOnce (places (s.earlier ++ (place, r.0) ∷ s.later)) = subst (λ (es : Placed). IsOnce (places es)) s.is_split h.once in
      let order = order_split place r.0 keys c s.earlier s.later chained in
      let link = link_in_path c.order.items 0 place (places s.earlier) (places s.later) order.path in
      after_link c.order.items place _ link ∙ first_of_places s.later
      ∙ sym (ap first_place (ap (following place) s.is_split ∙ following_split place r.0 s.earlier s.later once))
