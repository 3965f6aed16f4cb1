-- Calls that are done one after another, in order.
use Rattle.std.proofs.Common.{◌≡◌, ℕ, ◌+◌, ◌<◌, length, Bool, true, false, List, [], ◌∷◌, ◌++◌, map, get_or, drop, Option, None, Some, Result, Ok, Err, option_map, refl, sym, ap, ◌∙◌, subst, OnOk, OnErr, append_assoc, append-nil, inl, inr, if◌then◌else◌}
use Rattle.std.proofs.lemmas.List.{at_drop_more}
use Rattle.outside.specs.declared.fault.StoreFault.{StoreFault}
use Rattle.whole_sync.specs.declared.moves.Move.{Move}
use Rattle.whole_sync.specs.Disks.{Call, Do, Sync, DropList, Known, with_done, all_done, Off, Doing, DoesAll}
use Rattle.whole_sync.specs.Protocol.{is_due, picked, finishing}

pub done_append : (cs ds : List Call) (k : Known) → all_done (cs ++ ds) k ≡ all_done ds (all_done cs k)
done_append [] ds k = refl
done_append (c ∷ cs) ds k = done_append cs ds (with_done c k)

pub done_then : (cs ds : List Call) (o p q : Option Known) → p ≡ option_map (all_done cs) o → q ≡ option_map (all_done ds) p → q ≡ option_map (all_done (cs ++ ds)) o
done_then cs ds None p q e f = f ∙ ap (option_map (all_done ds)) e
done_then cs ds (Some k) p q e f = f ∙ (ap (option_map (all_done ds)) e ∙ ap Some (sym (done_append cs ds k)))

pub doing_starts : (all : List Call) (o : Option Known) → Doing all all o o
doing_starts all None = record { did = []; are = refl; done = refl }
doing_starts all (Some k) = record { did = []; are = refl; done = refl }

pub doing_same : (all : List Call) (o p : Option Known) → p ≡ o → Doing all all o p
doing_same all o p e = subst (λ (n : Option Known). Doing all all o n) (sym e) (doing_starts all o)

pub doing_one : (c : Call) (o p : Option Known) → p ≡ option_map (with_done c) o → Doing (c ∷ []) [] o p
doing_one c o p e = record { did = c ∷ []; are = refl; done = e }

pub doing_some : (all part more rest : List Call) (old now new : Option Known) → Doing all (part ++ rest) old now → Doing part more now new → Doing all (more ++ rest) old new
doing_some all part more rest old now new d e = record {
  did = d.did ++ e.did;
  are = d.are ∙ (ap (λ (cs : List Call). d.did ++ (cs ++ rest)) e.are ∙ (ap (λ (cs : List Call). d.did ++ cs) (append_assoc e.did more rest) ∙ sym (append_assoc d.did e.did (more ++ rest))));
  done = done_then d.did e.did old now new d.done e.done;
}

pub doing_end : (all : List Call) (old now : Option Known) → Doing all [] old now → now ≡ option_map (all_done all) old
doing_end all old now d = d.done ∙ ap (λ (cs : List Call). option_map (all_done cs) old) (sym (d.are ∙ append-nil d.did))

-- one call is all calls of a list of one
pub does_one : {A : Type 0} (c : Call) (r : Result A StoreFault) (old new : Option Known) → OnOk r (new ≡ option_map (with_done c) old) → OnErr r (Off c old new) → DoesAll (c ∷ []) r old new
does_one c (Ok a) old new h off = doing_one c old new h
does_one c (Err e) old new h off = elim off [ inl same ↦ (c ∷ [], doing_same (c ∷ []) old new same) | inr did ↦ ([], doing_one c old new did) ]

-- behind some of the calls a part of the rest is done, in whole or up to some call
pub then_all : (all part rest : List Call) (old now new : Option Known) → Doing all (part ++ rest) old now → Doing part [] now new → Doing all rest old new
then_all all part rest old now new d e = doing_some all part [] rest old now new d e

pub then_off : (all part rest : List Call) (old now new : Option Known) → Doing all (part ++ rest) old now → ((left : List Call) × Doing part left now new) → (left : List Call) × Doing all left old new
then_off all part rest old now new d h = (h.0 ++ rest, doing_some all part h.0 rest old now new d h.1)

chosen : (b : Bool) (m : Move) (ms : List Move) → (if b then m ∷ ms else ms) ≡ (if b then m ∷ [] else []) ++ ms
chosen true m ms = refl
chosen false m ms = refl

pub picked_cons : (makes : Bool) (m : Move) (ms : List Move) → picked makes (m ∷ ms) ≡ picked makes (m ∷ []) ++ picked makes ms
picked_cons makes m ms = chosen (is_due makes m) m (picked makes ms)

map_done : (ms ns : List Move) → map Do (ms ++ ns) ≡ map Do ms ++ map Do ns
map_done [] ns = refl
map_done (m ∷ ms) ns = ap (λ (cs : List Call). Do m ∷ cs) (map_done ms ns)

-- a loop that does each move that is picked
left_at : (makes : Bool) (ms : List Move) (i : ℕ) (m : Move) → i < length ms → m ≡ get_or ms i m → map Do (picked makes (drop i ms)) ≡ map Do (picked makes (m ∷ [])) ++ map Do (picked makes (drop (i + 1) ms))
left_at makes ms i m lt is =
    at_drop_more (λ (xs : List Move). map Do (picked makes xs)) ms i m lt
    ∙ (ap (λ (n : Move). map Do (picked makes (n ∷ drop (i + 1) ms))) (sym is)
    ∙ (ap (map Do) (picked_cons makes m (drop (i + 1) ms)) ∙ map_done (picked makes (m ∷ [])) (picked makes (drop (i + 1) ms))))

pub each_done : (makes : Bool) (ms : List Move) (i : ℕ) (m : Move) (all : List Call) (old now new : Option Known) → i < length ms → m ≡ get_or ms i m → Doing all (map Do (picked makes (drop i ms))) old now → Doing (map Do (picked makes (m ∷ []))) [] now new → Doing all (map Do (picked makes (drop (i + 1) ms))) old new
each_done makes ms i m all old now new lt is d h =
    then_all all (map Do (picked makes (m ∷ []))) (map Do (picked makes (drop (i + 1) ms))) old now new (subst (λ (cs : List Call). Doing all cs old now) (left_at makes ms i m lt is) d) h

pub each_off : (makes : Bool) (ms : List Move) (i : ℕ) (m : Move) (all : List Call) (old now new : Option Known) → i < length ms → m ≡ get_or ms i m → Doing all (map Do (picked makes (drop i ms))) old now → ((left : List Call) × Doing (map Do (picked makes (m ∷ []))) left now new) → (left : List Call) × Doing all left old new
each_off makes ms i m all old now new lt is d h =
    then_off all (map Do (picked makes (m ∷ []))) (map Do (picked makes (drop (i + 1) ms))) old now new (subst (λ (cs : List Call). Doing all cs old now) (left_at makes ms i m lt is) d) h

pub due_done : {A : Type 0} (makes : Bool) (m : Move) (r : Result A StoreFault) (old new : Option Known) → is_due makes m ≡ true → OnOk r (new ≡ option_map (with_done (Do m)) old) → OnErr r (Off (Do m) old new) → DoesAll (map Do (picked makes (m ∷ []))) r old new
due_done makes m r old new due h off = subst (λ (b : Bool). DoesAll (map Do (if b then m ∷ [] else [])) r old new) (sym due) (does_one (Do m) r old new h off)

-- a step of a loop over a list, of which some word of what is left stays the same
pub one_more : {X Y : Type 0} (F G : List X → Y) (xs : List X) (i : ℕ) (x : X) (all : Y) → i < length xs → x ≡ get_or xs i x → all ≡ F (drop i xs) → ((rest : List X) → F (x ∷ rest) ≡ G rest) → all ≡ G (drop (i + 1) xs)
one_more F G xs i x all lt is h step = h ∙ (at_drop_more F xs i x lt ∙ (ap (λ y. F (y ∷ drop (i + 1) xs)) (sym is) ∙ step (drop (i + 1) xs)))

pub then_does : (all : List Call) (c : Call) (rest : List Call) (old now new : Option Known) → Doing all (c ∷ rest) old now → new ≡ option_map (with_done c) now → Doing all rest old new
then_does all c rest old now new d h = doing_some all (c ∷ []) [] rest old now new d (doing_one c now new h)

pub off_one : (c : Call) (old new : Option Known) → Off c old new → (left : List Call) × Doing (c ∷ []) left old new
off_one c old new h = elim h [ inl same ↦ (c ∷ [], doing_same (c ∷ []) old new same) | inr did ↦ ([], doing_one c old new did) ]

pub then_breaks : (all : List Call) (c : Call) (rest : List Call) (old now new : Option Known) → Doing all (c ∷ rest) old now → Off c now new → (left : List Call) × Doing all left old new
then_breaks all c rest old now new d h = then_off all (c ∷ []) rest old now new d (off_one c now new h)

pub then_last : {A : Type 0} (all : List Call) (c : Call) (r : Result A StoreFault) (old now new : Option Known) → Doing all (c ∷ []) old now → OnOk r (new ≡ option_map (with_done c) now) → OnErr r (Off c now new) → DoesAll all r old new
then_last all c (Ok a) old now new d h off = then_does all c [] old now new d h
then_last all c (Err e) old now new d h off = then_breaks all c [] old now new d off

-- what a list names, step by step
module _ (ms : List Move) (o : Option Known) where
  pub made : (p : Option Known) → Doing (map Do (picked true ms)) [] o p → Doing (finishing ms) (Sync ∷ (map Do (picked false ms) ++ (Sync ∷ DropList ∷ []))) o p
  made p h = then_all (finishing ms) (map Do (picked true ms)) (Sync ∷ (map Do (picked false ms) ++ (Sync ∷ DropList ∷ []))) o o p (doing_starts (finishing ms) o) h

  pub made_off : (p : Option Known) → ((left : List Call) × Doing (map Do (picked true ms)) left o p) → (left : List Call) × Doing (finishing ms) left o p
  made_off p h = then_off (finishing ms) (map Do (picked true ms)) (Sync ∷ (map Do (picked false ms) ++ (Sync ∷ DropList ∷ []))) o o p (doing_starts (finishing ms) o) h

  pub gone : (p q : Option Known) → Doing (finishing ms) (map Do (picked false ms) ++ (Sync ∷ DropList ∷ [])) o p → Doing (map Do (picked false ms)) [] p q → Doing (finishing ms) (Sync ∷ DropList ∷ []) o q
  gone p q d h = then_all (finishing ms) (map Do (picked false ms)) (Sync ∷ DropList ∷ []) o p q d h

  pub gone_off : (p q : Option Known) → Doing (finishing ms) (map Do (picked false ms) ++ (Sync ∷ DropList ∷ [])) o p → ((left : List Call) × Doing (map Do (picked false ms)) left p q) → (left : List Call) × Doing (finishing ms) left o q
  gone_off p q d h = then_off (finishing ms) (map Do (picked false ms)) (Sync ∷ DropList ∷ []) o p q d h
