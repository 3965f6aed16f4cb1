-- Linked rows, after a row was added or taken away and after memory was taken.
use Rattle.std.proofs.Common.{◌≡◌, ◌≢◌, ℕ, ◌+◌, ◌<◌, ◌≤◌, List, [], ◌∷◌, ◌++◌, ◌⊎◌, inl, inr, Bool, true, false, cond, ◌||◌, nat_eq, Option, Some, None, IsSome, reverse, Vec, length, refl, sym, ap, ◌∙◌, subst, arith, slice_index_or, Result, Ok, Err, OnErr, length-append, is_some, count_by}
use Rattle.std.specs.Global.{Global}
use Rattle.std.specs.List.{list_any}
use Rattle.std.proofs.lemmas.List.{reverse-append}
use Rattle.std.proofs.lemmas.Bool.{cases_lt, eq-eqb, ne_eqb}
use Rattle.ss_text.specs.Texts.{Row, row_eq}
use Rattle.slab.specs.Slab.{Slab, get, slab_len, Updates}
use Rattle.row_links.specs.declared.chains.Chains.{Chains}
use Rattle.row_links.specs.Links.{IsAbsent, IsOnce}
use Rattle.row_links.specs.Chained.{Placed, places}
use Rattle.row_links.specs.AllChains.{AllChained, AllHaveRoom, key_lists}
use Rattle.row_links.specs.Live.{AreStored, first_place, at_place, rows_like, without_first, without_place}
use Rattle.row_links.specs.LinkedFields.{live_of, seen, IsLinked, HasRoomToAdd}
use Rattle.row_links.proofs.LiveChains.{places_append}
use Rattle.row_links.proofs.Seen.{live_is}

-- what is seen, by its parts
pub seen_is : (keys : List (Vec ℕ Global)) (rows : Slab Row) (c : Chains) (waits : List Row) (ks : List (List ℕ)) (live : Placed) (ws : List Row) → key_lists keys ≡ ks → live_of rows c ≡ live → reverse waits ≡ ws → seen keys rows c waits ≡ record { keys = ks; live = live; waiting = ws }
seen_is keys rows c waits ks live ws e f g = λ i. record { keys = e i; live = f i; waiting = g i }

-- linked for a list, so for what is seen
pub linked_as_seen : (keys : List (List ℕ)) (rows : Slab Row) (c : Chains) (waits : List Row) (live : Placed) → IsLinked keys rows c waits live → IsLinked keys rows c waits (live_of rows c)
linked_as_seen keys rows c waits live h = subst (IsLinked keys rows c waits) (sym (live_is rows c keys live h.stored h.count h.chained)) h

stored_absent : (rows : Slab Row) (place : ℕ) (live : Placed) → get rows place ≡ None → AreStored rows live → IsAbsent place (places live)
stored_absent rows place [] none h = tt
stored_absent rows place (e ∷ es) none h =
    (λ same. let at : get rows place ≡ Some e.1 = subst (λ (p : ℕ). get rows p ≡ Some e.1) (sym same) h.0 in cc, stored_absent rows place es none h.1)

stored_others : (rows left : Slab Row) (place : ℕ) (slot : Option (Row)) (live : Placed) → Updates rows left place slot → IsAbsent place (places live) → AreStored rows live → AreStored left live
stored_others rows left place slot [] u away h = tt
stored_others rows left place slot (e ∷ es) u away h = (u.others e.0 (λ same. away.0 (sym same)) ∙ h.0, stored_others rows left place slot es u away.1 h.1)

stored_append : (rows : Slab Row) (xs ys : Placed) → AreStored rows xs → AreStored rows ys → AreStored rows (xs ++ ys)
stored_append rows [] ys h k = k
stored_append rows (x ∷ xs) ys h k = (h.0, stored_append rows xs ys h.1 k)

absent_pushed : (p q : ℕ) (ps : List ℕ) → IsAbsent p ps → p ≢ q → IsAbsent p (ps ++ q ∷ [])
absent_pushed p q [] h ne = (ne, tt)
absent_pushed p q (r ∷ rs) h ne = (h.0, absent_pushed p q rs h.1 ne)

once_pushed : (q : ℕ) (ps : List ℕ) → IsAbsent q ps → IsOnce ps → IsOnce (ps ++ q ∷ [])
once_pushed q [] h o = (tt, tt)
once_pushed q (p ∷ ps) h o = (absent_pushed p q ps o.0 (λ e. h.0 (sym e)), once_pushed q ps h.1 o.1)

absent_not_at : {X : Type 0} (place : ℕ) (live : List (ℕ × X)) → IsAbsent place (places live) → at_place place live ≡ None
absent_not_at place [] h = refl
absent_not_at place (e ∷ es) h = ap (λ (b : Bool). cond b (Some e.1) (at_place place es)) (ne_eqb e.0 place (λ same. h.0 (sym same))) ∙ absent_not_at place es h.1

module _ (keys : List (List ℕ)) (rows : Slab Row) (c : Chains) (live : Placed) where
  pub enough_keys : (waits : List Row) → IsLinked keys rows c waits live → length c.keyed.items ≤ length keys
  enough_keys waits h = by h.keyed
    where
      by : ((length c.keyed.items ≡ length keys) ⊎ ((length c.keyed.items < length keys) × (live ≡ []))) → length c.keyed.items ≤ length keys
      by (inl e) = omega arith
      by (inr n) = omega (arith, n.0)

  module _ (left : Slab Row) (d : Chains) (place : ℕ) (row : Row) where
    pub new_place : (waits : List Row) → get rows place ≡ None → IsLinked keys rows c waits live → at_place place live ≡ None
    new_place waits none h = absent_not_at place live (stored_absent rows place live none h.stored)

    pub linked_added : (waits : List Row) → IsLinked keys rows c (waits ++ row ∷ []) live → get rows place ≡ None → Updates rows left place (Some row) → slab_len left ≡ slab_len rows + 1 → left.capacity ≡ rows.capacity → ((es : Placed) → AllChained c keys es → IsAbsent place (places es) → IsOnce (places es) → AllChained d keys (es ++ (place, row) ∷ [])) → ((a b : ℕ) → AllHaveRoom c a (b + 1) → AllHaveRoom d a b) → length d.keyed.items ≡ length c.keyed.items → IsLinked keys left d waits (live ++ (place, row) ∷ [])
    linked_added waits h none u len cap chained room count =
        let away = stored_absent rows place live none h.stored in
        let more : length (waits ++ row ∷ []) ≡ length waits + 1 = omega (arith, length-append waits (row ∷ [])) in
        let had = h.room (omega arith) in
        record {
          stored = stored_append left live ((place, row) ∷ []) (stored_others rows left place (Some row) live u away h.stored) (u.changed, tt);
          count = omega (arith, h.count, length-append live ((place, row) ∷ []));
          once = subst IsOnce (sym (places_append live ((place, row) ∷ []))) (once_pushed place (places live) away h.once);
          chained = chained live h.chained away h.once;
          keyed = inl (count ∙ had.keyed);
          room = λ some. record {
            slots = (let s = had.slots in omega arith);
            chains = subst (λ (n : ℕ). AllHaveRoom d n (length waits)) (sym cap) (room rows.capacity (length waits) (subst (λ (n : ℕ). AllHaveRoom c rows.capacity n) more had.chains));
            keyed = count ∙ had.keyed;
          };
        }

absent_both : (p : ℕ) (xs : List ℕ) (q : ℕ) (ys : List ℕ) → IsOnce (xs ++ q ∷ ys) → IsAbsent q (xs ++ ys)
absent_both p [] q ys h = h.0
absent_both p (x ∷ xs) q ys h = (λ e. (absent_mid x xs q ys h.0) (sym e), absent_both p xs q ys h.1)
  where
    absent_mid : (x : ℕ) (xs : List ℕ) (q : ℕ) (ys : List ℕ) → IsAbsent x (xs ++ q ∷ ys) → x ≢ q
    absent_mid x [] q ys h = h.0
    absent_mid x (z ∷ zs) q ys h = absent_mid x zs q ys h.1

absent_out : (p : ℕ) (xs : List ℕ) (q : ℕ) (ys : List ℕ) → IsAbsent p (xs ++ q ∷ ys) → IsAbsent p (xs ++ ys)
absent_out p [] q ys h = h.1
absent_out p (x ∷ xs) q ys h = (h.0, absent_out p xs q ys h.1)

once_out : (xs : List ℕ) (q : ℕ) (ys : List ℕ) → IsOnce (xs ++ q ∷ ys) → IsOnce (xs ++ ys)
once_out [] q ys h = h.1
once_out (x ∷ xs) q ys h = (absent_out x xs q ys h.0, once_out xs q ys h.1)

stored_out : (rows : Slab Row) (xs : Placed) (e : ℕ × Row) (ys : Placed) → AreStored rows (xs ++ e ∷ ys) → AreStored rows (xs ++ ys)
stored_out rows [] e ys h = h.1
stored_out rows (x ∷ xs) e ys h = (h.0, stored_out rows xs e ys h.1)

pub without_split : {X : Type 0} (place : ℕ) (row : X) (xs ys : List (ℕ × X)) → IsOnce (places (xs ++ (place, row) ∷ ys)) → without_place place (xs ++ (place, row) ∷ ys) ≡ xs ++ ys
without_split place row [] ys h = ap (λ (b : Bool). cond b ys ((place, row) ∷ without_place place ys)) (eq-eqb place place refl)
without_split place row (x ∷ xs) ys h =
    ap (λ (b : Bool). cond b (xs ++ (place, row) ∷ ys) (x ∷ without_place place (xs ++ (place, row) ∷ ys))) (ne_eqb x.0 place (absent_there x.0 place row xs ys h.0))
    ∙ ap (λ zs. x ∷ zs) (without_split place row xs ys h.1)
  where
    absent_there : {X : Type 0} (p place : ℕ) (row : X) (xs ys : List (ℕ × X)) → IsAbsent p (places (xs ++ (place, row) ∷ ys)) → p ≢ place
    absent_there p place row [] ys h = h.0
    absent_there p place row (x ∷ xs) ys h = absent_there p place row xs ys h.1

pub linked_taken : (keys : List (List ℕ)) (rows left : Slab Row) (c d : Chains) (waits : List Row) (place : ℕ) (row : Row) (xs ys : Placed) → IsLinked keys rows c waits (xs ++ (place, row) ∷ ys) → Updates rows left place None → slab_len left + 1 ≡ slab_len rows → left.capacity ≡ rows.capacity → AllChained d keys (xs ++ ys) → ((a b : ℕ) → AllHaveRoom c a b → AllHaveRoom d a b) → length d.keyed.items ≡ length c.keyed.items → IsLinked keys left d waits (xs ++ ys)
linked_taken keys rows left c d waits place row xs ys h u len cap chained room count =
    let split = places_append xs ((place, row) ∷ ys) in
    let once : IsOnce (places xs ++ place ∷ places ys) = subst IsOnce split h.once in
    let away : IsAbsent place (places (xs ++ ys)) = subst (IsAbsent place) (sym (places_append xs ys)) (absent_both place (places xs) place (places ys) once) in
    record {
      stored = stored_others rows left place None (xs ++ ys) u away (stored_out rows xs (place, row) ys h.stored);
      count = omega (arith, h.count, length-append xs ((place, row) ∷ ys), length-append xs ys);
      once = subst IsOnce (sym (places_append xs ys)) (once_out (places xs) place (places ys) once);
      chained = chained;
      keyed = by h.keyed;
      room = λ some. let had = h.room some in record {
        slots = (let s = had.slots in omega arith);
        chains = subst (λ (n : ℕ). AllHaveRoom d n (length waits)) (sym cap) (room rows.capacity (length waits) had.chains);
        keyed = count ∙ had.keyed;
      };
    }
  where
    by : ((length c.keyed.items ≡ length keys) ⊎ ((length c.keyed.items < length keys) × (xs ++ (place, row) ∷ ys ≡ []))) → (length d.keyed.items ≡ length keys) ⊎ ((length d.keyed.items < length keys) × (xs ++ ys ≡ []))
    by (inl e) = inl (count ∙ e)
    by (inr n) = absurd (omega (arith, ap length n.1, length-append xs ((place, row) ∷ ys)))

pub reverse_end : {X : Type 0} (xs : List X) (x : X) → reverse (xs ++ x ∷ []) ≡ x ∷ reverse xs
reverse_end xs x = reverse-append xs (x ∷ [])

stored_as : (rows left : Slab Row) (live : Placed) → left.slots ≡ rows.slots → AreStored rows live → AreStored left live
stored_as rows left [] e h = tt
stored_as rows left (x ∷ xs) e h = (ap (λ (slots : List (Option (Row))). slice_index_or slots x.0 None) e ∙ h.0, stored_as rows left xs e h.1)

-- with more memory
pub linked_reserved : (keys : List (List ℕ)) (rows left : Slab Row) (c d : Chains) (waits now : List Row) (live : Placed) → IsLinked keys rows c waits live → left.slots ≡ rows.slots → AllChained d keys live → length c.keyed.items ≤ length d.keyed.items → length d.keyed.items ≤ length keys → (0 < length now → HasRoomToAdd keys left d (length now)) → IsLinked keys left d now live
linked_reserved keys rows left c d waits now live h e chained more few room = record {
  stored = stored_as rows left live e h.stored;
  count = ap (count_by is_some) e ∙ h.count;
  once = h.once;
  chained = chained;
  keyed = by h.keyed (cases_lt (length d.keyed.items) (length keys));
  room = room;
}
  where
    by : ((length c.keyed.items ≡ length keys) ⊎ ((length c.keyed.items < length keys) × (live ≡ []))) → ((length d.keyed.items < length keys) ⊎ (length keys ≤ length d.keyed.items)) → (length d.keyed.items ≡ length keys) ⊎ ((length d.keyed.items < length keys) × (live ≡ []))
    by (inl e) lt = inl (omega arith)
    by (inr n) (inl lt) = inr (lt, n.1)
    by (inr n) (inr le) = inl (omega arith)

pub no_rows_below : (keys : List (List ℕ)) (rows : Slab Row) (c : Chains) (waits : List Row) (live : Placed) → IsLinked keys rows c waits live → length c.keyed.items < length keys → live ≡ []
no_rows_below keys rows c waits live h lt = by h.keyed
  where
    by : ((length c.keyed.items ≡ length keys) ⊎ ((length c.keyed.items < length keys) × (live ≡ []))) → live ≡ []
    by (inl e) = absurd (omega arith)
    by (inr n) = n.1

-- the first row that equals a row
pub record IsFirst (row : Row) (live : Placed) (place : ℕ) : Type 0 where
  pub there : IsSome (at_place place live)
  pub any : list_any (λ e. row_eq e.1 row) live ≡ true
  pub taken : IsOnce (places live) → without_place place live ≡ without_first row live

pub first_like : (row : Row) (live : Placed) (place : ℕ) → Some place ≡ first_place (rows_like row live) → IsFirst row live place
first_like row [] place e = cc
first_like row (x ∷ xs) place e = by (row_eq x.1 row) refl (first_like row xs place)
  where
    by : (b : Bool) → row_eq x.1 row ≡ b → (Some place ≡ first_place (rows_like row xs) → IsFirst row xs place) → IsFirst row (x ∷ xs) place
    by true s rest =
        let found : Some place ≡ Some x.0 = e ∙ ap (λ (b : Bool). first_place (cond b (x ∷ rows_like row xs) (rows_like row xs))) s in
        let here : place ≡ x.0 = cc in
        let test : nat_eq x.0 place ≡ true = eq-eqb x.0 place (sym here) in
        record {
          there = ap (λ (b : Bool). is_some (cond b (Some x.1) (at_place place xs))) test;
          any = ap (λ (b : Bool). b || list_any (λ e. row_eq e.1 row) xs) s;
          taken = λ once. ap (λ (b : Bool). cond b xs (x ∷ without_place place xs)) test ∙ sym (ap (λ (b : Bool). cond b xs (x ∷ without_first row xs)) s);
        }
    by false s rest =
        let r = rest (e ∙ ap (λ (b : Bool). first_place (cond b (x ∷ rows_like row xs) (rows_like row xs))) s) in
        record {
          there = elim (nat_eq x.0 place) as (λ b. IsSome (cond b (Some x.1) (at_place place xs))) [ true ↦ refl | false ↦ r.there ];
          any = ap (λ (b : Bool). b || list_any (λ e. row_eq e.1 row) xs) s ∙ r.any;
          taken = λ once.
              let ne : x.0 ≢ place = λ same. (let none : at_place place xs ≡ None = absent_not_at place xs (subst (λ (p : ℕ). IsAbsent p (places xs)) same once.0) in cc (sym r.there ∙ ap is_some none)) in
              ap (λ (b : Bool). cond b xs (x ∷ without_place place xs)) (ne_eqb x.0 place ne) ∙ ap (λ zs. x ∷ zs) (r.taken once.1) ∙ sym (ap (λ (b : Bool). cond b xs (x ∷ without_first row xs)) s);
        }

pub record IsNone (row : Row) (live : Placed) : Type 0 where
  pub any : list_any (λ e. row_eq e.1 row) live ≡ false
  pub same : without_first row live ≡ live

pub none_like : (row : Row) (live : Placed) → None ≡ first_place (rows_like row live) → IsNone row live
none_like row [] e = record { any = refl; same = refl }
none_like row (x ∷ xs) e = by (row_eq x.1 row) refl (none_like row xs)
  where
    by : (b : Bool) → row_eq x.1 row ≡ b → (None ≡ first_place (rows_like row xs) → IsNone row xs) → IsNone row (x ∷ xs)
    by true s rest = let found : None ≡ Some x.0 = e ∙ ap (λ (b : Bool). first_place (cond b (x ∷ rows_like row xs) (rows_like row xs))) s in cc
    by false s rest =
        let r = rest (e ∙ ap (λ (b : Bool). first_place (cond b (x ∷ rows_like row xs) (rows_like row xs))) s) in
        record {
          any = ap (λ (b : Bool). b || list_any (λ e. row_eq e.1 row) xs) s ∙ r.any;
          same = ap (λ (b : Bool). cond b xs (x ∷ without_first row xs)) s ∙ ap (λ zs. x ∷ zs) r.same;
        }

pub always_on_err : {X E : Type 0} (r : Result X E) (P : Type 0) → P → OnErr r P
always_on_err (Ok x) P h = tt
always_on_err (Err e) P h = h
