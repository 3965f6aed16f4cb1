-- What a recovery makes of what a stop left.
use Rattle.std.proofs.Common.{◌≡◌, ℕ, Bool, true, false, not, ◌&&◌, List, [], ◌∷◌, ◌++◌, map, Option, None, Some, refl, sym, ap, ◌∙◌, subst, append_assoc, append-nil, inl, inr, ◌⊎◌, bytes_eq, if◌then◌else◌}
use Rattle.std.proofs.Math.Path.{fun_ext}
use Rattle.std.proofs.lemmas.Slice.Eq.{bytes_eq-Decides}
use Rattle.whole_sync.specs.declared.moves.Move.{Move}
use Rattle.whole_sync.specs.declared.moves.Move.TheVariants.{MakeFolder, TakePlace, Remove, RemoveFolder}
use Rattle.whole_sync.specs.Disks.{Files, Held, Call, PutBeside, DropBeside, PutList, DropList, Do, Sync, Clean, with_file, placed, moved, after, all_after}
use Rattle.whole_sync.specs.Protocol.{is_making, picked, finishing}
use Rattle.whole_sync.specs.Stops.{LeavesWithin, Leaves}

pub after_append : (cs ds : List Call) (h : Held) → all_after (cs ++ ds) h ≡ all_after ds (all_after cs h)
after_append [] ds h = refl
after_append (c ∷ cs) ds h = after_append cs ds (after c h)

-- a stop within some calls or within those behind them
pub leaves_append : (cs ds : List Call) (h k : Held) → Leaves (cs ++ ds) h k → Leaves cs h k ⊎ Leaves ds (all_after cs h) k
leaves_append [] ds h k l = inr l
leaves_append (c ∷ cs) ds h k (inl w) = inl (inl w)
leaves_append (c ∷ cs) ds h k (inr l) = elim (leaves_append cs ds (after c h) k l) [ inl a ↦ inl (inr a) | inr b ↦ inr b ]

within_idle : (c : Call) (h k : Held) → k ≡ h → LeavesWithin c h k
within_idle (PutBeside beside folder file bytes) h k e = inl e
within_idle (DropBeside beside) h k e = e
within_idle (PutList list) h k e = e
within_idle DropList h k e = e
within_idle (Do move) h k e = e
within_idle Sync h k e = e
within_idle Clean h k e = e

leaves_start : (cs : List Call) (h k : Held) → k ≡ h → Leaves cs h k
leaves_start [] h k e = e
leaves_start (c ∷ cs) h k e = inl (within_idle c h k e)

pub leaves_more : (cs ds : List Call) (h k : Held) → Leaves cs h k → Leaves (cs ++ ds) h k
leaves_more [] ds h k e = leaves_start ds h k e
leaves_more (c ∷ cs) ds h k (inl w) = inl w
leaves_more (c ∷ cs) ds h k (inr l) = inr (leaves_more cs ds (after c h) k l)

-- a move that was done has nothing left to do
abbrev Past : Move → Held → Type 0
Past (MakeFolder folder) h = Unit {0}
Past (TakePlace beside folder file) h = h.beside beside ≡ None
Past (Remove folder file) h = h.files folder file ≡ None
Past (RemoveFolder folder) h = Unit {0}

idle_at : (folder file f n : List ℕ) (files : Files) → files folder file ≡ None → (a b : Bool) → (a ≡ true → f ≡ folder) → (b ≡ true → n ≡ file) → (if a && b then None else files f n) ≡ files f n
idle_at folder file f n files gone true true at by = sym (ap (λ (x : List ℕ). files x n) (at refl) ∙ (ap (files folder) (by refl) ∙ gone))
idle_at folder file f n files gone true false at by = refl
idle_at folder file f n files gone false b at by = refl

removed_idle : (folder file : List ℕ) (files : Files) → files folder file ≡ None → with_file folder file None files ≡ files
removed_idle folder file files gone = fun_ext (λ f. fun_ext (λ n. idle_at folder file f n files gone (bytes_eq f folder) (bytes_eq n file) (bytes_eq-Decides f folder).0 (bytes_eq-Decides n file).0))

past_idle : (m : Move) (h : Held) → Past m h → moved m h ≡ h
past_idle (MakeFolder folder) h p = refl
past_idle (TakePlace beside folder file) h p = ap (λ (o : Option (List ℕ)). placed o beside folder file h) p
past_idle (Remove folder file) h p = ap (λ (files : Files). record { files = files; beside = h.beside; list = h.list }) (removed_idle folder file h.files p)
past_idle (RemoveFolder folder) h p = refl

same_bytes : (a : List ℕ) → bytes_eq a a ≡ true
same_bytes a = (bytes_eq-Decides a a).1 refl

taken_self : (beside folder file : List ℕ) (h : Held) (o : Option (List ℕ)) → h.beside beside ≡ o → (placed o beside folder file h).beside beside ≡ None
taken_self beside folder file h None e = e
taken_self beside folder file h (Some bytes) e = ap (λ (b : Bool). if b then None else h.beside beside) (same_bytes beside)

past_self : (m : Move) (h : Held) → Past m (moved m h)
past_self (MakeFolder folder) h = tt
past_self (TakePlace beside folder file) h = taken_self beside folder file h (h.beside beside) refl
past_self (Remove folder file) h = ap (λ (b : Bool). if b && bytes_eq file file then None else h.files folder file) (same_bytes folder) ∙ ap (λ (b : Bool). if b then None else h.files folder file) (same_bytes file)
past_self (RemoveFolder folder) h = tt

none_stays : (b : Bool) (o : Option (List ℕ)) → o ≡ None → (if b then None else o) ≡ None
none_stays true o e = refl
none_stays false o e = e

placed_keeps : (name beside folder file : List ℕ) (h : Held) (o : Option (List ℕ)) → h.beside name ≡ None → (placed o beside folder file h).beside name ≡ None
placed_keeps name beside folder file h None e = e
placed_keeps name beside folder file h (Some bytes) e = none_stays (bytes_eq name beside) (h.beside name) e

beside_keeps : (m : Move) (name : List ℕ) (h : Held) → h.beside name ≡ None → (moved m h).beside name ≡ None
beside_keeps (MakeFolder folder) name h e = e
beside_keeps (TakePlace beside folder file) name h e = placed_keeps name beside folder file h (h.beside beside) e
beside_keeps (Remove folder file) name h e = e
beside_keeps (RemoveFolder folder) name h e = e

true_false : true ≡ false → ⊥
true_false e = cc

-- nothing is made behind what removes something
abbrev IsBefore : Move → Move → Type 0
IsBefore m n = (is_making m ≡ true) ⊎ (is_making n ≡ false)

removed_keeps : (n : Move) (folder file : List ℕ) (h : Held) → is_making n ≡ false → h.files folder file ≡ None → (moved n h).files folder file ≡ None
removed_keeps (MakeFolder f) folder file h so e = absurd (true_false so)
removed_keeps (TakePlace beside f n) folder file h so e = absurd (true_false so)
removed_keeps (Remove f n) folder file h so e = none_stays (bytes_eq folder f && bytes_eq file n) (h.files folder file) e
removed_keeps (RemoveFolder f) folder file h so e = e

past_keeps : (m n : Move) (h : Held) → IsBefore m n → Past m h → Past m (moved n h)
past_keeps (MakeFolder folder) n h so p = tt
past_keeps (TakePlace beside folder file) n h so p = beside_keeps n beside h p
past_keeps (Remove folder file) n h (inl making) p = absurd (true_false (sym making))
past_keeps (Remove folder file) n h (inr removing) p = removed_keeps n folder file h removing p
past_keeps (RemoveFolder folder) n h so p = tt

-- the same of lists of moves
abbrev AllPast : List Move → Held → Type 0
AllPast [] h = Unit {0}
AllPast (m ∷ ms) h = Past m h × AllPast ms h

abbrev AllMaking : Bool → List Move → Type 0
AllMaking b [] = Unit {0}
AllMaking b (m ∷ ms) = (is_making m ≡ b) × AllMaking b ms

abbrev AreOrdered : List Move → List Move → Type 0
AreOrdered done rest = (AllMaking true done × AllMaking true rest) ⊎ AllMaking false rest

all_idle : (ms : List Move) (h : Held) → AllPast ms h → all_after (map Do ms) h ≡ h
all_idle [] h p = refl
all_idle (m ∷ ms) h p = ap (all_after (map Do ms)) (past_idle m h p.0) ∙ all_idle ms h p.1

making_keep : (ms : List Move) (n : Move) (h : Held) → AllMaking true ms → AllPast ms h → AllPast ms (moved n h)
making_keep [] n h so p = tt
making_keep (m ∷ ms) n h so p = (past_keeps m n h (inl so.0) p.0, making_keep ms n h so.1 p.1)

removing_keep : (ms : List Move) (n : Move) (h : Held) → is_making n ≡ false → AllPast ms h → AllPast ms (moved n h)
removing_keep [] n h so p = tt
removing_keep (m ∷ ms) n h so p = (past_keeps m n h (inr so) p.0, removing_keep ms n h so p.1)

all_keep : (ms : List Move) (n : Move) (rest : List Move) (h : Held) → AreOrdered ms (n ∷ rest) → AllPast ms h → AllPast ms (moved n h)
all_keep ms n rest h (inl so) p = making_keep ms n h so.0 p
all_keep ms n rest h (inr so) p = removing_keep ms n h so.0 p

past_snoc : (ms : List Move) (m : Move) (h : Held) → AllPast ms h → Past m h → AllPast (ms ++ m ∷ []) h
past_snoc [] m h ps p = (p, tt)
past_snoc (n ∷ ms) m h ps p = (ps.0, past_snoc ms m h ps.1 p)

making_snoc : (ms : List Move) (m : Move) → AllMaking true ms → is_making m ≡ true → AllMaking true (ms ++ m ∷ [])
making_snoc [] m so is = (is, tt)
making_snoc (n ∷ ms) m so is = (so.0, making_snoc ms m so.1 is)

ordered_more : (done : List Move) (m : Move) (rest : List Move) → AreOrdered done (m ∷ rest) → AreOrdered (done ++ m ∷ []) rest
ordered_more done m rest (inl so) = inl (making_snoc done m so.0 so.1.0, so.1.1)
ordered_more done m rest (inr so) = inr so.1

map_append : (ms ns : List Move) → map Do (ms ++ ns) ≡ map Do ms ++ map Do ns
map_append [] ns = refl
map_append (m ∷ ms) ns = ap (λ (cs : List Call). Do m ∷ cs) (map_append ms ns)

moves_append : (ms ns : List Move) (h : Held) → all_after (map Do (ms ++ ns)) h ≡ all_after (map Do ns) (all_after (map Do ms) h)
moves_append ms ns h = ap (λ (cs : List Call). all_after cs h) (map_append ms ns) ∙ after_append (map Do ms) (map Do ns) h

-- all moves once more, from where a stop left the rest
pub done_again : (done rest : List Move) (h k : Held) → AreOrdered done rest → AllPast done h → Leaves (map Do rest) h k → all_after (map Do (done ++ rest)) k ≡ all_after (map Do rest) h
done_again done [] h k so p l =
    ap (all_after (map Do (done ++ []))) l ∙ (moves_append done [] h ∙ all_idle done h p)
done_again done (m ∷ rest) h k so p (inl w) =
    ap (all_after (map Do (done ++ m ∷ rest))) w ∙ (moves_append done (m ∷ rest) h ∙ ap (all_after (map Do (m ∷ rest))) (all_idle done h p))
done_again done (m ∷ rest) h k so p (inr l) =
    ap (λ (ms : List Move). all_after (map Do ms) k) (sym (append_assoc done (m ∷ []) rest))
    ∙ done_again (done ++ m ∷ []) rest (moved m h) k (ordered_more done m rest so) (past_snoc done m (moved m h) (all_keep done m rest h so p) (past_self m h)) l

-- behind all moves all are past
pub all_past : (done rest : List Move) (h : Held) → AreOrdered done rest → AllPast done h → AllPast (done ++ rest) (all_after (map Do rest) h)
all_past done [] h so p = subst (λ (ms : List Move). AllPast ms h) (sym (append-nil done)) p
all_past done (m ∷ rest) h so p =
    subst (λ (ms : List Move). AllPast ms (all_after (map Do (m ∷ rest)) h)) (append_assoc done (m ∷ []) rest)
    (all_past (done ++ m ∷ []) rest (moved m h) (ordered_more done m rest so) (past_snoc done m (moved m h) (all_keep done m rest h so p) (past_self m h)))

-- the moves of a list in their order: all that makes something, and then what removes something
making_of : (x : Bool) (m : Move) (ms : List Move) → is_making m ≡ x → AllMaking true ms → AllMaking true (if x then m ∷ ms else ms)
making_of true m ms is so = (is, so)
making_of false m ms is so = so

removing_of : (x : Bool) (m : Move) (ms : List Move) → is_making m ≡ x → AllMaking false ms → AllMaking false (if not x then m ∷ ms else ms)
removing_of true m ms is so = so
removing_of false m ms is so = (is, so)

pub all_making : (ms : List Move) → AllMaking true (picked true ms)
all_making [] = tt
all_making (m ∷ ms) = making_of (is_making m) m (picked true ms) refl (all_making ms)

pub all_removing : (ms : List Move) → AllMaking false (picked false ms)
all_removing [] = tt
all_removing (m ∷ ms) = removing_of (is_making m) m (picked false ms) refl (all_removing ms)

placed_list : (o : Option (List ℕ)) (beside folder file : List ℕ) (h : Held) → (placed o beside folder file h).list ≡ h.list
placed_list None beside folder file h = refl
placed_list (Some bytes) beside folder file h = refl

moved_list : (m : Move) (h : Held) → (moved m h).list ≡ h.list
moved_list (MakeFolder folder) h = refl
moved_list (TakePlace beside folder file) h = placed_list (h.beside beside) beside folder file h
moved_list (Remove folder file) h = refl
moved_list (RemoveFolder folder) h = refl

moves_list : (ms : List Move) (h : Held) → (all_after (map Do ms) h).list ≡ h.list
moves_list [] h = refl
moves_list (m ∷ ms) h = moves_list ms (moved m h) ∙ moved_list m h

stop_list : (ms : List Move) (h k : Held) → Leaves (map Do ms) h k → k.list ≡ h.list
stop_list [] h k l = ap (λ (x : Held). x.list) l
stop_list (m ∷ ms) h k (inl w) = ap (λ (x : Held). x.list) w
stop_list (m ∷ ms) h k (inr l) = stop_list ms (moved m h) k l ∙ moved_list m h

pub leaves_end : (cs : List Call) (h k : Held) → k ≡ all_after cs h → Leaves cs h k
leaves_end [] h k e = e
leaves_end (c ∷ cs) h k e = inr (leaves_end cs (after c h) k e)

-- what a list names is done, and the list is gone
pub finished_is : (ms : List Move) (h : Held) → all_after (finishing ms) h ≡ after DropList (all_after (map Do (picked false ms)) (all_after (map Do (picked true ms)) h))
finished_is ms h =
    after_append (map Do (picked true ms)) (Sync ∷ (map Do (picked false ms) ++ (Sync ∷ DropList ∷ []))) h
    ∙ after_append (map Do (picked false ms)) (Sync ∷ DropList ∷ []) (all_after (map Do (picked true ms)) h)

-- a stop leaves the list, and all of it can be done again, or all is done
pub data AtStop (ms : List Move) (h k : Held) : Type 0 where
  Again : k.list ≡ h.list → all_after (finishing ms) k ≡ all_after (finishing ms) h → AtStop ms h k
  Done : k ≡ all_after (finishing ms) h → AtStop ms h k

module _ (ms : List Move) (h k : Held) where
  within_makes : Leaves (map Do (picked true ms)) h k → AtStop ms h k
  within_makes l =
      let redone : all_after (map Do (picked true ms)) k ≡ all_after (map Do (picked true ms)) h = done_again [] (picked true ms) h k (inl (tt, all_making ms)) tt l in
      Again (stop_list (picked true ms) h k l)
      (finished_is ms k ∙ (ap (λ (x : Held). after DropList (all_after (map Do (picked false ms)) x)) redone ∙ sym (finished_is ms h)))

  within_removes : Leaves (map Do (picked false ms)) (all_after (map Do (picked true ms)) h) k → AtStop ms h k
  within_removes l =
      let mid = all_after (map Do (picked true ms)) h in
      let redone : all_after (map Do (picked true ms ++ picked false ms)) k ≡ all_after (map Do (picked false ms)) mid =
      done_again (picked true ms) (picked false ms) mid k (inr (all_removing ms)) (all_past [] (picked true ms) h (inl (tt, all_making ms)) tt) l in
      Again (stop_list (picked false ms) mid k l ∙ moves_list (picked true ms) h)
      (finished_is ms k ∙ (ap (after DropList) (sym (moves_append (picked true ms) (picked false ms) k) ∙ redone) ∙ sym (finished_is ms h)))

  behind_removes : Leaves (Sync ∷ DropList ∷ []) (all_after (map Do (picked false ms)) (all_after (map Do (picked true ms)) h)) k → AtStop ms h k
  behind_removes (inl w) = within_removes (leaves_end (map Do (picked false ms)) (all_after (map Do (picked true ms)) h) k w)
  behind_removes (inr (inl w)) = within_removes (leaves_end (map Do (picked false ms)) (all_after (map Do (picked true ms)) h) k w)
  behind_removes (inr (inr l)) = Done (l ∙ sym (finished_is ms h))

  behind_makes : Leaves (Sync ∷ (map Do (picked false ms) ++ (Sync ∷ DropList ∷ []))) (all_after (map Do (picked true ms)) h) k → AtStop ms h k
  behind_makes (inl w) = within_removes (leaves_start (map Do (picked false ms)) (all_after (map Do (picked true ms)) h) k w)
  behind_makes (inr l) = elim (leaves_append (map Do (picked false ms)) (Sync ∷ DropList ∷ []) (all_after (map Do (picked true ms)) h) k l) [ inl b ↦ within_removes b | inr d ↦ behind_removes d ]

  pub at_stop : Leaves (finishing ms) h k → AtStop ms h k
  at_stop l = elim (leaves_append (map Do (picked true ms)) (Sync ∷ (map Do (picked false ms) ++ (Sync ∷ DropList ∷ []))) h k l) [ inl a ↦ within_makes a | inr b ↦ behind_makes b ]
