-- Effects that follow one another, and what broke off.
use Rattle.std.proofs.Common.{◌≡◌, ℕ, suc, map, get_or, add-one, drop-cons, ◌+◌, ◌≤◌, List, [], ◌∷◌, ◌++◌, length, take, drop, Option, None, Some, Result, Ok, Err, inl, inr, refl, sym, ap, ◌∙◌, subst, append_assoc, arith, ◌-◌, ◌<◌, length-drop, append-nil, option_map}
use Rattle.std.proofs.Math.Seq.{take-add, drop-length}
use Rattle.std.proofs.lemmas.List.{take_rest}
use Rattle.outside.specs.Streams.{with_bytes}
use Rattle.outside.specs.States.{StoreState, SinkState}
use Rattle.outside.specs.Tree.{Tree, folder_path, BrokeOff, MayBreakOff}
use Rattle.outside.specs.Reading.{OnlyRead}
use Rattle.outside.specs.Effects.{Effect, Write, Remove, Print, Contents, stored_of, contents, after, performed, Torn, Partly, Does, Doing, world_of, Stored}
use Rattle.outside.specs.Performing.{Performs, Performing}
use Rattle.outside.specs.declared.stop.Stop.{Stop}

pub performed_append : (es fs : List Effect) (c : Contents) → performed (es ++ fs) c ≡ performed fs (performed es c)
performed_append [] fs c = refl
performed_append (e ∷ es) fs c = performed_append es fs (after e c)

pub nothing_yet : (es : List Effect) (old new : Contents) → new ≡ old → Partly es old new
unfolding Partly contents
nothing_yet [] old new h = h
nothing_yet (e ∷ es) old new h = inl h

-- what stopped early also stopped early where more was meant
pub partly_more : (es fs : List Effect) (old new : Contents) → Partly es old new → Partly (es ++ fs) old new
unfolding Partly contents
partly_more [] fs old new h = nothing_yet fs old new h
partly_more (e ∷ es) fs old new h = elim h [ inl same ↦ inl same | inr rest ↦ elim rest [ inl off ↦ inr (inl off) | inr later ↦ inr (inr (partly_more es fs (after e old) new later)) ] ]

-- effects, and then some of those that follow
pub partly_later : (es fs : List Effect) (old mid new : Contents) → mid ≡ performed es old → Partly fs mid new → Partly (es ++ fs) old new
unfolding Partly contents
partly_later [] fs old mid new e h = subst (λ (m : Contents). Partly fs m new) e h
partly_later (e ∷ es) fs old mid new is h = inr (inr (partly_later es fs (after e old) mid new is h))

pub unmoved : (es : List Effect) (old new : StoreState) (o : SinkState) → new.tree ≡ old.tree → new.writes ≡ old.writes → Partly es (contents (world_of old o)) (contents (world_of new o))
unfolding contents
unmoved es old new o t w = nothing_yet es (contents (world_of old o)) (contents (world_of new o)) (rw (t, w) refl)

-- a call that only reads has no effect
pub only_read_does : {A : Type 0} (old new : StoreState) (o : SinkState) (r : Result A Stop) → OnlyRead old new → Does [] (world_of old o) (world_of new o) r
unfolding Partly contents
only_read_does old new o (Ok a) h = rw (h.tree, h.writes) refl
only_read_does old new o (Err e) h = rw (h.tree, h.writes) refl

torn : (R : Tree → Tree → Type 0) (o p : Option Tree) (m n : ℕ) → (o ≡ None → p ≡ None) → ((t : Tree) → o ≡ Some t → (u : Tree) × (p ≡ Some u) × R t u) → n ≡ m → Torn R (stored_of o m) (stored_of p n)
torn R None p m n untold told e = record { untold = λ _. rw untold refl; told = λ s is. absurd (cc) }
torn R (Some t) p m n untold told e =
    let was = told t refl in
    record {
      untold = λ is. absurd (cc);
      told = λ s is.
          let tree : s ≡ record { tree = t; writes = m } = cc in
          (record { tree = was.0; writes = n }, rw was.1 refl, rw tree was.2, rw tree e);
    }

pub torn_write : (folder file bytes : List ℕ) (old new : StoreState) (o : SinkState) → MayBreakOff (folder_path folder) folder file old.tree new.tree → new.writes ≡ old.writes → Partly (Write folder file bytes ∷ []) (contents (world_of old o)) (contents (world_of new o))
unfolding Partly contents
torn_write folder file bytes old new o h e = inr (inl (torn (BrokeOff (folder_path folder) folder file) old.tree new.tree old.writes new.writes h.untold h.told e, refl))

pub torn_remove : (folder file : List ℕ) (old new : StoreState) (o : SinkState) → MayBreakOff [] folder file old.tree new.tree → new.writes ≡ old.writes → Partly (Remove folder file ∷ []) (contents (world_of old o)) (contents (world_of new o))
unfolding Partly contents
torn_remove folder file old new o h e = inr (inl (torn (BrokeOff [] folder file) old.tree new.tree old.writes new.writes h.untold h.told e, refl))

-- what is stored has the tree that was told
pub told_tree : (o : Option Tree) (n : ℕ) (s : Stored) → stored_of o n ≡ Some s → o ≡ Some s.tree
told_tree None n s e = absurd (cc)
told_tree (Some t) n s e = ap (λ (o : Option Stored). option_map (λ (x : Stored). x.tree) o) e

pub torn_print : (bytes : List ℕ) (n : ℕ) (s : StoreState) (old new : SinkState) → new.held ≡ with_bytes (take n bytes) old.held → Partly (Print bytes ∷ []) (contents (world_of s old)) (contents (world_of s new))
unfolding Partly contents
torn_print bytes n s old new h = inr (inl (n, rw h refl))

pub printed_more : (bytes : List ℕ) (i n : ℕ) (o : Option (List ℕ)) → with_bytes (take n (drop i bytes)) (with_bytes (take i bytes) o) ≡ with_bytes (take (i + n) bytes) o
printed_more bytes i n None = refl
printed_more bytes i n (Some held) = ap Some (append_assoc held (take i bytes) (take n (drop i bytes)) ∙ ap (λ x. held ++ x) (sym (take-add i n bytes)))

pub piece_written : (bytes : List ℕ) (i n : ℕ) (o p q : Option (List ℕ)) → q ≡ with_bytes (take n (take (length bytes - i) (drop i bytes))) p → p ≡ with_bytes (take i bytes) o → q ≡ with_bytes (take (i + n) bytes) o
piece_written bytes i n o p q h so_far = h ∙ (ap (λ (r : List ℕ). with_bytes (take n r) p) (take_rest bytes i) ∙ (ap (λ (m : Option (List ℕ)). with_bytes (take n (drop i bytes)) m) so_far ∙ printed_more bytes i n o))

pub piece_within : (bytes : List ℕ) (i n : ℕ) → n ≤ length (take (length bytes - i) (drop i bytes)) → i < length bytes → i + n ≤ length bytes
piece_within bytes i n h lt = let k : n ≤ length (drop i bytes) = subst (λ (r : List ℕ). n ≤ length r) (take_rest bytes i) h in omega (arith, length-drop i bytes)

pub doing_all : (es : List Effect) (c : Contents) → Doing es es c c
doing_all es c = record { did = []; are = refl; done = refl }

pub doing_more : (all es rest : List Effect) (old now new : Contents) → Doing all (es ++ rest) old now → new ≡ performed es now → Doing all rest old new
doing_more all es rest old now new d h = record { did = d.did ++ es; are = d.are ∙ sym (append_assoc d.did es rest); done = h ∙ (ap (performed es) d.done ∙ sym (performed_append d.did es old)) }

pub doing_one : (all : List Effect) (e : Effect) (rest : List Effect) (old now new : Contents) → Doing all (e ∷ rest) old now → new ≡ performed (e ∷ []) now → Doing all rest old new
doing_one all e rest old now new d h = doing_more all (e ∷ []) rest old now new d h

pub doing_stops : (all es rest : List Effect) (old now new : Contents) → Doing all (es ++ rest) old now → Partly es now new → Partly all old new
doing_stops all es rest old now new d h = rw d.are (partly_later d.did (es ++ rest) old now new d.done (partly_more es rest now new h))

pub doing_one_stops : (all : List Effect) (e : Effect) (rest : List Effect) (old now new : Contents) → Doing all (e ∷ rest) old now → Partly (e ∷ []) now new → Partly all old new
doing_one_stops all e rest old now new d h = doing_stops all (e ∷ []) rest old now new d h

pub doing_end : (all : List Effect) (old now : Contents) → Doing all [] old now → now ≡ performed all old
doing_end all old now d = d.done ∙ ap (λ es. performed es old) (sym (d.are ∙ append-nil d.did))

-- a loop that does one effect for each element: what is left is that of the elements that are left
module _ {A : Type 0} (f : A → Effect) where
  left_at : (xs : List A) (i : ℕ) (x : A) → i < length xs → x ≡ get_or xs i x → map f (drop i xs) ≡ f x ∷ map f (drop (i + 1) xs)
  left_at xs i x lt is = rw (add-one, drop-cons xs i x) (ap (λ y. f y ∷ map f (drop (suc i) xs)) (sym is))

  pub each_done : (xs : List A) (i : ℕ) (x : A) (all : List Effect) (old now new : Contents) → i < length xs → x ≡ get_or xs i x → Doing all (map f (drop i xs)) old now → new ≡ performed (f x ∷ []) now → Doing all (map f (drop (i + 1) xs)) old new
  each_done xs i x all old now new lt is d h = doing_one all (f x) (map f (drop (i + 1) xs)) old now new (subst (λ (es : List Effect). Doing all es old now) (left_at xs i x lt is) d) h

  pub each_stops : (xs : List A) (i : ℕ) (x : A) (all : List Effect) (old now new : Contents) → i < length xs → x ≡ get_or xs i x → Doing all (map f (drop i xs)) old now → Partly (f x ∷ []) now new → Partly all old new
  each_stops xs i x all old now new lt is d h = doing_one_stops all (f x) (map f (drop (i + 1) xs)) old now new (subst (λ (es : List Effect). Doing all es old now) (left_at xs i x lt is) d) h

  pub each_ends : (xs : List A) (i : ℕ) (all : List Effect) (old now : Contents) → i ≡ length xs → Doing all (map f (drop i xs)) old now → now ≡ performed all old
  each_ends xs i all old now e d = doing_end all old now (subst (λ (ys : List A). Doing all (map f ys) old now) (ap (λ n. drop n xs) e ∙ drop-length xs) d)

pub performing_starts : (es : List Effect) (s : StoreState) → Performing es es s s
performing_starts es s = record { doing = λ o. doing_all es (contents (world_of s o)); reads = refl; writes = omega arith }

-- one more of the calls in a loop that changes a file or a folder for each element
pub performing_more : {X A : Type 0} (f : X → Effect) (xs : List X) (i : ℕ) (x : X) (all : List Effect) (old now new : StoreState) (a : A) → i < length xs → x ≡ get_or xs i x → Performing all (map f (drop i xs)) old now → Performs (f x ∷ []) now new (Ok a)
    → Performing all (map f (drop (i + 1) xs)) old new
performing_more f xs i x all old now new a lt is so_far did = record {
  doing = λ o. each_done f xs i x all (contents (world_of old o)) (contents (world_of now o)) (contents (world_of new o)) lt is (so_far.doing o) (did.does o);
  reads = did.reads ∙ so_far.reads;
  writes = omega (arith, so_far.writes, did.blames.writes);
}

-- the same effects under two names
pub performs_as : {A : Type 0} (es fs : List Effect) (old new : StoreState) (r : Result A Stop) → es ≡ fs → Performs fs old new r → Performs es old new r
performs_as es fs old new r same did = subst (λ (es : List Effect). Performs es old new r) (sym same) did

pub first_off : (e : Effect) (es : List Effect) (old new : Contents) → Partly (e ∷ []) old new → Partly (e ∷ es) old new
first_off e es old new h = partly_more (e ∷ []) es old new h

pub then_off : (e : Effect) (es : List Effect) (old mid new : Contents) → mid ≡ performed (e ∷ []) old → Partly es mid new → Partly (e ∷ es) old new
then_off e es old mid new is h = partly_later (e ∷ []) es old mid new is h

pub none_off : (es : List Effect) (old new : Contents) → Partly [] old new → Partly es old new
none_off es old new h = partly_more [] es old new h

pub with_more : (a b : List ℕ) (o : Option (List ℕ)) → with_bytes b (with_bytes a o) ≡ with_bytes (a ++ b) o
with_more a b None = refl
with_more a b (Some held) = ap Some (append_assoc held a b)
