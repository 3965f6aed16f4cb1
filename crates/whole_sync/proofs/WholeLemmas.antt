-- Wherever a program is stopped, a recovery gives the files before or those after.
use Rattle.std.proofs.Common.{◌≡◌, ℕ, true, false, List, [], ◌∷◌, ◌++◌, Option, None, Some, option_map, refl, sym, ap, ◌∙◌, subst, append_assoc, append-nil, inl, inr, ◌⊎◌}
use Rattle.std.specs.List.{list_all}
use Rattle.outside.specs.declared.edit.Edit.{Edit}
use Rattle.whole_sync.specs.declared.moves.Move.{Move}
use Rattle.whole_sync.specs.Disks.{Files, Held, Call, PutBeside, DropBeside, PutList, DropList, Do, Sync, Clean, after, all_after, Known, with_done, all_done, Off, Doing}
use Rattle.whole_sync.specs.Lists.{IsListOf}
use Rattle.whole_sync.specs.Protocol.{puts, moves_of, finishing, edited}
use Rattle.whole_sync.specs.Replacing.{is_aside, Aside, Free, Prepared, TakenBack, Unprepared, Dropped, Replaced}
use Rattle.whole_sync.specs.Stops.{LeavesWithin, Leaves, Unchanged, Recovered, WholeAtEachStop, SameAtEachStop}
use Rattle.whole_sync.proofs.PutLemmas.{held_done, aside_one, aside_same, aside_then, puts_aside, FinishedOk}
use Rattle.whole_sync.proofs.StopLemmas.{Again, Done, at_stop, finished_is, leaves_append, leaves_more, leaves_end, after_append}
use Rattle.whole_sync.proofs.SameListLemmas.{lists_same}
use Rattle.whole_sync.proofs.EditedLemmas.{finished_files}
use Rattle.whole_sync.proofs.DoingLemmas.{done_then, doing_end}

none_some : {A : Type 0} (x : A) (o : Option A) → o ≡ None → o ≡ Some x → ⊥
none_some x o a b = let both : None ≡ Some x = sym a ∙ b in cc

-- the files behind a recovery, without a list and with one
pub unlisted_files : (x r : Held) → x.list ≡ None → Recovered x r → r.files ≡ x.files
unlisted_files x r none h = elim h [ inl plain ↦ ap (λ (y : Held). y.files) plain.1 | inr all ↦ absurd (none_some all.0 x.list none all.1) ]

pub listed_files : (ms : List Move) (text : List ℕ) (x r : Held) → x.list ≡ Some text → IsListOf ms text → Recovered x r → r.files ≡ (all_after (finishing ms) x).files
listed_files ms text x r there list h =
    elim h [
      | inl plain ↦ absurd (none_some text x.list plain.0 there)
      | inr all ↦
          let texts : Some all.0 ≡ Some text = sym all.1 ∙ there in
          let same : all.0 ≡ text = cc in
          let moves : all.2 ≡ ms = lists_same all.2 ms text (subst (λ (t : List ℕ). IsListOf all.2 t) same all.3) list in
          ap (λ (y : Held). y.files) all.4 ∙ ap (λ (ns : List Move). (all_after (finishing ns) x).files) moves
    ]

finished_list : (ms : List Move) (x : Held) → (all_after (finishing ms) x).list ≡ None
finished_list ms x = ap (λ (y : Held). y.list) (finished_is ms x)

-- a recovery from where what a list names was stopped
pub finishing_files : (ms : List Move) (text : List ℕ) (x k r : Held) → x.list ≡ Some text → IsListOf ms text → Leaves (finishing ms) x k → Recovered k r → r.files ≡ (all_after (finishing ms) x).files
finishing_files ms text x k r there list l h =
    elim (at_stop ms x k l) [
      | Again kept redone ↦ listed_files ms text k r (kept ∙ there) list h ∙ ap (λ (y : Held). y.files) redone
      | Done all ↦ unlisted_files k r (ap (λ (y : Held). y.list) all ∙ finished_list ms x) h ∙ ap (λ (y : Held). y.files) all
    ]

-- calls that leave files and list alone
false_true : false ≡ true → ⊥
false_true e = cc

aside_within : (beside folder file bytes : List ℕ) (h x : Held) → LeavesWithin (PutBeside beside folder file bytes) h x → (x.list ≡ h.list) × (x.files ≡ h.files)
aside_within beside folder file bytes h x (inl e) = (ap (λ (y : Held). y.list) e, ap (λ (y : Held). y.files) e)
aside_within beside folder file bytes h x (inr p) = (ap (λ (y : Held). y.list) p.1, ap (λ (y : Held). y.files) p.1)

pub aside_stops : (cs : List Call) (h x : Held) → list_all is_aside cs ≡ true → h.list ≡ None → Leaves cs h x → (x.list ≡ None) × (x.files ≡ h.files)
aside_stops [] h x so none l = (ap (λ (y : Held). y.list) l ∙ none, ap (λ (y : Held). y.files) l)
aside_stops (PutBeside beside folder file bytes ∷ cs) h x so none (inl w) = let p = aside_within beside folder file bytes h x w in (p.0 ∙ none, p.1)
aside_stops (PutBeside beside folder file bytes ∷ cs) h x so none (inr l) = aside_stops cs (after (PutBeside beside folder file bytes) h) x so none l
aside_stops (DropBeside beside ∷ cs) h x so none (inl w) = (ap (λ (y : Held). y.list) w ∙ none, ap (λ (y : Held). y.files) w)
aside_stops (DropBeside beside ∷ cs) h x so none (inr l) = aside_stops cs (after (DropBeside beside) h) x so none l
aside_stops (DropList ∷ cs) h x so none (inl w) = (ap (λ (y : Held). y.list) w ∙ none, ap (λ (y : Held). y.files) w)
aside_stops (DropList ∷ cs) h x so none (inr l) = aside_stops cs (after DropList h) x so refl l
aside_stops (PutList list ∷ cs) h x so none l = absurd (false_true so)
aside_stops (Do move ∷ cs) h x so none l = absurd (false_true so)
aside_stops (Sync ∷ cs) h x so none l = absurd (false_true so)
aside_stops (Clean ∷ cs) h x so none l = absurd (false_true so)

-- files and list are as they were
unchanged_by : (cs : List Call) (o p : Option Known) → p ≡ option_map (all_done cs) o → ((h : Held) → h.list ≡ None → ((all_after cs h).list ≡ None) × ((all_after cs h).files ≡ h.files)) → Unchanged o p
unchanged_by cs o p done so k n was now none =
    let is : Some (all_done cs k) ≡ Some n = sym (done ∙ ap (option_map (all_done cs)) was) ∙ now in
    let same : all_done cs k ≡ n = cc in
    let held : n.held ≡ all_after cs k.held = ap (λ (x : Known). x.held) (sym same) ∙ held_done cs k in
    let p = so k.held none in
    (ap (λ (y : Held). y.list) held ∙ p.0, ap (λ (y : Held). y.files) held ∙ p.1)

aside_ends : (cs : List Call) (h : Held) → list_all is_aside cs ≡ true → h.list ≡ None → ((all_after cs h).list ≡ None) × ((all_after cs h).files ≡ h.files)
aside_ends cs h so none = aside_stops cs h (all_after cs h) so none (leaves_end cs h (all_after cs h) refl)

pub unchanged_aside : (o p : Option Known) → Aside o p → Unchanged o p
unchanged_aside o p a = unchanged_by a.did o p a.done (λ h none. aside_ends a.did h a.aside none)

-- and stay so
pub unchanged_then : (o p q : Option Known) → Unchanged o p → Aside p q → Unchanged o q
unchanged_then o None q u a k n was now none = absurd (none_some n q a.done now)
unchanged_then o (Some m) q u a k n was now none =
    let first = u k m was refl none in
    let then = unchanged_aside (Some m) q a m n refl now first.0 in
    (then.0, then.1 ∙ first.1)

-- a list that may have been put, and was taken away
pub unchanged_taken : (text : List ℕ) (o p q r : Option Known) → Aside o p → Off (PutList text) p q → r ≡ option_map (with_done DropList) q → Unchanged o r
unchanged_taken text o p q r a (inl same) gone = unchanged_aside o r (aside_then o p r a (aside_then p q r (aside_same p q same) (aside_one DropList q r refl gone)))
unchanged_taken text o p q r a (inr did) gone =
    unchanged_by (a.did ++ PutList text ∷ DropList ∷ []) o r (done_then a.did (PutList text ∷ DropList ∷ []) o p r a.done (done_then (PutList text ∷ []) (DropList ∷ []) p q r did gone))
    (λ h none.
    let taken = after_append a.did (PutList text ∷ DropList ∷ []) h in
    (ap (λ (y : Held). y.list) taken, ap (λ (y : Held). y.files) taken ∙ (aside_ends a.did h a.aside none).1))

-- a recovery from any stop within these calls gives the files before or those after
abbrev pub IsSafe : List Edit → Files → List Call → Held → Type 0
IsSafe es files cs h = (x : Held) → Leaves cs h x → (r : Held) → Recovered x r → (r.files ≡ files) ⊎ (r.files ≡ edited es files)

safe_more : (es : List Edit) (files : Files) (cs ds : List Call) (h : Held) → IsSafe es files (cs ++ ds) h → IsSafe es files cs h
safe_more es files cs ds h safe x l = safe x (leaves_more cs ds h x l)

safe_aside : (es : List Edit) (cs : List Call) (h : Held) → list_all is_aside cs ≡ true → h.list ≡ None → IsSafe es h.files cs h
safe_aside es cs h so none x l r recovered =
    let p = aside_stops cs h x so none l in
    inl (unlisted_files x r p.0 recovered ∙ p.1)

-- once what is written lies beside its places, and the list is there
module _ (es : List Edit) (ns : List (List ℕ)) (text : List ℕ) (h : Held) (none : h.list ≡ None) (free : Free es ns h) (list : IsListOf (moves_of es ns) text) where
  laid_is : ((all_after (puts es ns) h).list ≡ None) × ((all_after (puts es ns) h).files ≡ h.files)
  laid_is = aside_stops (puts es ns) h (all_after (puts es ns) h) (puts_aside es ns) none (leaves_end (puts es ns) h (all_after (puts es ns) h) refl)

  safe_puts : (ds : List Call) → IsSafe es h.files ds (after (PutList text) (all_after (puts es ns) h)) → IsSafe es h.files (puts es ns ++ PutList text ∷ ds) h
  safe_puts ds safe x l r recovered =
      elim (leaves_append (puts es ns) (PutList text ∷ ds) h x l) [
        | inl a ↦ safe_aside es (puts es ns) h (puts_aside es ns) none x a r recovered
        | inr b ↦ elim b [
          | inl w ↦ inl (unlisted_files x r (ap (λ (y : Held). y.list) w ∙ laid_is.0) recovered ∙ (ap (λ (y : Held). y.files) w ∙ laid_is.1))
          | inr d ↦ safe x d r recovered
        ]
      ]

  safe_listed : IsSafe es h.files (puts es ns ++ PutList text ∷ finishing (moves_of es ns)) h
  safe_listed = safe_puts (finishing (moves_of es ns)) (λ x l r recovered. inr (finishing_files (moves_of es ns) text (after (PutList text) (all_after (puts es ns) h)) x r refl list l recovered ∙ finished_files es ns text h free))

  safe_taken : (ds : List Call) → list_all is_aside ds ≡ true → IsSafe es h.files (puts es ns ++ PutList text ∷ DropList ∷ ds) h
  safe_taken ds so = safe_puts (DropList ∷ ds) (λ x l r recovered.
      let listed = after (PutList text) (all_after (puts es ns) h) in
      elim l [
        | inl w ↦ inr (listed_files (moves_of es ns) text x r (ap (λ (y : Held). y.list) w) list recovered ∙ (ap (λ (y : Held). (all_after (finishing (moves_of es ns)) y).files) w ∙ finished_files es ns text h free))
        | inr d ↦
            let p = aside_stops ds (after DropList listed) x so refl d in
            inl (unlisted_files x r p.0 recovered ∙ (p.1 ∙ laid_is.1))
      ])

  safe_front : (did rest : List Call) → finishing (moves_of es ns) ≡ did ++ rest → IsSafe es h.files (puts es ns ++ PutList text ∷ did) h
  safe_front did rest are =
      safe_more es h.files (puts es ns ++ PutList text ∷ did) rest h
      (subst (λ (cs : List Call). IsSafe es h.files cs h)
      (ap (λ (cs : List Call). puts es ns ++ PutList text ∷ cs) are ∙ sym (append_assoc (puts es ns) (PutList text ∷ did) rest)) safe_listed)

-- what was done is told
calls_done : (cs : List Call) (k : Known) → (all_done cs k).calls ≡ k.calls ++ cs
calls_done [] k = sym (append-nil k.calls)
calls_done (c ∷ cs) k = calls_done cs (with_done c k) ∙ append_assoc k.calls (c ∷ []) cs

whole_from : (es : List Edit) (did : List Call) (o q : Option Known) (k n : Known) → q ≡ option_map (all_done did) o → o ≡ Some k → q ≡ Some n → IsSafe es k.held.files did k.held → WholeAtEachStop es k n
whole_from es did o q k n done was now safe =
    let is : Some (all_done did k) ≡ Some n = sym (done ∙ ap (option_map (all_done did)) was) ∙ now in
    let same : all_done did k ≡ n = cc in
    record {
      did = did;
      calls = ap (λ (x : Known). x.calls) (sym same) ∙ calls_done did k;
      held = ap (λ (x : Known). x.held) (sym same) ∙ held_done did k;
      stops = safe;
    }

-- the moves behind a list are those of the edits
listed_moves : (es : List Edit) (ms : List Move) (ns : List (List ℕ)) (o p : Option Known) (h : Prepared es ms ns o p) → IsListOf (moves_of es ns) h.text
listed_moves es ms ns o p h = subst (λ (m : List Move). IsListOf m h.text) h.moves_are h.list

prepared_done : (es : List Edit) (ms : List Move) (ns : List (List ℕ)) (o p : Option Known) (h : Prepared es ms ns o p) → p ≡ option_map (all_done (puts es ns ++ PutList h.text ∷ [])) o
prepared_done es ms ns o p h = done_then (puts es ns) (PutList h.text ∷ []) o h.before p h.put.done h.done

then_more : (cs ds : List Call) (c : Call) (o p q : Option Known) → p ≡ option_map (all_done (cs ++ c ∷ [])) o → q ≡ option_map (all_done ds) p → q ≡ option_map (all_done (cs ++ c ∷ ds)) o
then_more cs ds c o p q a b = done_then (cs ++ c ∷ []) ds o p q a b ∙ ap (λ (es : List Call). option_map (all_done es) o) (append_assoc cs (c ∷ []) ds)

pub whole_prepared : (es : List Edit) (ms : List Move) (ns : List (List ℕ)) (o p q : Option Known) (left : List Call) → Prepared es ms ns o p → Doing (finishing ms) left p q → (k n : Known) → o ≡ Some k → q ≡ Some n → k.held.list ≡ None → WholeAtEachStop es k n
whole_prepared es ms ns o p q left h d k n was now none =
    whole_from es (puts es ns ++ PutList h.text ∷ d.did) o q k n (then_more (puts es ns) d.did (PutList h.text) o p q (prepared_done es ms ns o p h) d.done) was now
    (safe_front es ns h.text k.held none (h.put.free k was) (listed_moves es ms ns o p h) d.did left (subst (λ (m : List Move). finishing m ≡ d.did ++ left) h.moves_are d.are))

whole_aside : (es : List Edit) (o q : Option Known) → Aside o q → (k n : Known) → o ≡ Some k → q ≡ Some n → k.held.list ≡ None → WholeAtEachStop es k n
whole_aside es o q a k n was now none = whole_from es a.did o q k n a.done was now (safe_aside es a.did k.held a.aside none)

whole_taken : (es : List Edit) (ms : List Move) (ns names : List (List ℕ)) (o mid p q : Option Known) → Prepared es ms ns o mid → TakenBack names mid p → Dropped names p q → (k n : Known) → o ≡ Some k → q ≡ Some n → k.held.list ≡ None → WholeAtEachStop es k n
whole_taken es ms ns names o mid p q h (inl gone) dropped k n was now none =
    let a = dropped.aside in
    whole_from es (puts es ns ++ PutList h.text ∷ DropList ∷ a.did) o q k n
    (then_more (puts es ns) (DropList ∷ a.did) (PutList h.text) o mid q (prepared_done es ms ns o mid h) (done_then (DropList ∷ []) a.did mid p q gone a.done)) was now
    (safe_taken es ns h.text k.held none (h.put.free k was) (listed_moves es ms ns o mid h) a.did a.aside)
whole_taken es ms ns names o mid p q h (inr kept) dropped k n was now none =
    whole_from es (puts es ns ++ PutList h.text ∷ []) o q k n (dropped.none kept.0 ∙ (kept.1 ∙ prepared_done es ms ns o mid h)) was now
    (safe_front es ns h.text k.held none (h.put.free k was) (listed_moves es ms ns o mid h) [] (finishing (moves_of es ns)) refl)

pub whole_unprepared : (es : List Edit) (names : List (List ℕ)) (o p q : Option Known) → Unprepared es names o p → Dropped names p q → (k n : Known) → o ≡ Some k → q ≡ Some n → k.held.list ≡ None → WholeAtEachStop es k n
whole_unprepared es names o p q (inl aside) dropped = whole_aside es o q (aside_then o p q aside dropped.aside)
whole_unprepared es names o p q (inr h) dropped = whole_taken es h.0 h.1 names o h.2 p q h.3 h.4 dropped

-- a recovery that is stopped
same_self : (x r s : Held) → Recovered x r → Recovered x s → r.files ≡ s.files
same_self x r s a b =
    elim b [
      | inl plain ↦ unlisted_files x r plain.0 a ∙ sym (unlisted_files x s plain.0 (inl plain))
      | inr all ↦ listed_files all.2 all.0 x r all.1 all.3 a ∙ sym (listed_files all.2 all.0 x s all.1 all.3 (inr all))
    ]

abbrev IsSame : List Call → Held → Type 0
IsSame cs h = (x : Held) → Leaves cs h x → (r s : Held) → Recovered x r → Recovered h s → r.files ≡ s.files

same_nothing : (h : Held) → IsSame [] h
same_nothing h x l r s a b = same_self h r s (subst (λ (y : Held). Recovered y r) l a) b

same_unlisted : (h : Held) → h.list ≡ None → IsSame (Clean ∷ []) h
same_unlisted h none x (inl w) r s a b = same_nothing h x w r s a b
same_unlisted h none x (inr e) r s a b = unlisted_files x r (ap (λ (y : Held). y.list) e ∙ none) a ∙ (ap (λ (y : Held). y.files) e ∙ sym (unlisted_files h s none b))

same_listed : (ms : List Move) (text : List ℕ) (h : Held) → h.list ≡ Some text → IsListOf ms text → IsSame (finishing ms ++ Clean ∷ []) h
same_listed ms text h there list x l r s a b =
    let after_all : s.files ≡ (all_after (finishing ms) h).files = listed_files ms text h s there list b in
    elim (leaves_append (finishing ms) (Clean ∷ []) h x l) [
      | inl m ↦ finishing_files ms text h x r there list m a ∙ sym after_all
      | inr c ↦ elim c [
        | inl w ↦ unlisted_files x r (ap (λ (y : Held). y.list) w ∙ finished_list ms h) a ∙ (ap (λ (y : Held). y.files) w ∙ sym after_all)
        | inr e ↦ unlisted_files x r (ap (λ (y : Held). y.list) e ∙ finished_list ms h) a ∙ (ap (λ (y : Held). y.files) e ∙ sym after_all)
      ]
    ]

same_front : (did rest cs : List Call) (h : Held) → cs ≡ did ++ rest → IsSame cs h → IsSame did h
same_front did rest cs h are same x l = same x (subst (λ (ds : List Call). Leaves ds h x) (sym are) (leaves_more did rest h x l))

same_from : (did : List Call) (o q : Option Known) (k n : Known) → q ≡ option_map (all_done did) o → o ≡ Some k → q ≡ Some n → IsSame did k.held → SameAtEachStop k n
same_from did o q k n done was now safe =
    let is : Some (all_done did k) ≡ Some n = sym (done ∙ ap (option_map (all_done did)) was) ∙ now in
    let same : all_done did k ≡ n = cc in
    record {
      did = did;
      calls = ap (λ (x : Known). x.calls) (sym same) ∙ calls_done did k;
      held = ap (λ (x : Known). x.held) (sym same) ∙ held_done did k;
      stops = safe;
    }

done_none : (o q : Option Known) → q ≡ o → q ≡ option_map (all_done []) o
done_none None q e = e
done_none (Some k) q e = e

pub recover_failed : (o q : Option Known) → ((k : Known) → o ≡ Some k → ((q ≡ o) × Unit {0}) ⊎ ((text : List ℕ) × (ms : List Move) × (k.held.list ≡ Some text) × IsListOf ms text × ((left : List Call) × Doing (finishing ms) left o q))) → (k n : Known) → o ≡ Some k → q ≡ Some n → SameAtEachStop k n
recover_failed o q h k n was now =
    elim (h k was) [
      | inl none ↦ same_from [] o q k n (done_none o q none.0) was now (same_nothing k.held)
      | inr all ↦
          let d = all.4.1 in
          same_from d.did o q k n d.done was now
          (same_front d.did (all.4.0 ++ Clean ∷ []) (finishing all.1 ++ Clean ∷ []) k.held (ap (λ (cs : List Call). cs ++ Clean ∷ []) d.are ∙ append_assoc d.did all.4.0 (Clean ∷ [])) (same_listed all.1 all.0 k.held all.2 all.3))
    ]

pub recover_ends : (o p q : Option Known) → FinishedOk o p → Off Clean p q → (k n : Known) → o ≡ Some k → q ≡ Some n → SameAtEachStop k n
recover_ends o p q h off k n was now =
    elim (h k was) [
      | inl none ↦ elim off [
        | inl idle ↦ same_from [] o q k n (done_none o q (idle ∙ none.0)) was now (same_nothing k.held)
        | inr did ↦ same_from (Clean ∷ []) o q k n (did ∙ ap (option_map (with_done Clean)) none.0) was now (same_unlisted k.held none.1)
      ]
      | inr all ↦
          let d = all.4 in
          let whole = same_listed all.1 all.0 k.held all.2 all.3 in
          let are : finishing all.1 ≡ d.did = d.are ∙ append-nil d.did in
          elim off [
            | inl idle ↦ same_from d.did o q k n (idle ∙ d.done) was now (same_front d.did (Clean ∷ []) (finishing all.1 ++ Clean ∷ []) k.held (ap (λ (cs : List Call). cs ++ Clean ∷ []) are) whole)
            | inr did ↦ same_from (d.did ++ Clean ∷ []) o q k n (done_then d.did (Clean ∷ []) o p q d.done did) was now (subst (λ (cs : List Call). IsSame (cs ++ Clean ∷ []) k.held) are whole)
          ]
    ]

-- the files behind a replacement that succeeded
pub replaced_files : (es : List Edit) (o q : Option Known) → Replaced es o q → (k n : Known) → o ≡ Some k → q ≡ Some n → n.held.files ≡ edited es k.held.files
replaced_files es o q r k n was now =
    let h = r.prepared in
    let ms = moves_of es r.names in
    let cs = puts es r.names ++ PutList h.text ∷ finishing ms in
    let done : q ≡ option_map (all_done cs) o = then_more (puts es r.names) (finishing ms) (PutList h.text) o r.listed q (prepared_done es ms r.names o r.listed h) (doing_end (finishing ms) r.listed q r.finished) in
    let is : Some (all_done cs k) ≡ Some n = sym (done ∙ ap (option_map (all_done cs)) was) ∙ now in
    let same : all_done cs k ≡ n = cc in
    ap (λ (x : Known). x.held.files) (sym same)
    ∙ (ap (λ (y : Held). y.files) (held_done cs k ∙ after_append (puts es r.names) (PutList h.text ∷ finishing ms) k.held)
    ∙ finished_files es r.names h.text k.held (h.put.free k was))
