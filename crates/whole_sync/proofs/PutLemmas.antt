-- What is put beside places, and what a failure before the list leaves.
use Rattle.std.proofs.Common.{◌≡◌, ℕ, ◌+◌, ◌<◌, length, Bool, ◌&&◌, true, List, [], ◌∷◌, ◌++◌, get_or, take, Option, None, Some, Result, Ok, Err, option_map, refl, sym, ap, ◌∙◌, subst, inl, inr, ◌⊎◌, OnOk, OnErr}
use Rattle.std.specs.List.{list_all}
use Rattle.std.proofs.lemmas.List.{take_more}
use Rattle.std.proofs.lemmas.List.Folds.{list_all-append}
use Rattle.outside.specs.declared.edit.Edit.{Edit}
use Rattle.outside.specs.declared.edit.Edit.TheVariants as edit
use Rattle.outside.specs.declared.fault.StoreFault.{StoreFault}
use Rattle.whole_sync.specs.declared.moves.Move.{Move}
use Rattle.whole_sync.specs.Disks.{Held, Call, PutBeside, PutList, DropList, Clean, after, all_after, Known, with_done, all_done, Off, PutOff, Doing}
use Rattle.whole_sync.specs.Listing.{Named}
use Rattle.whole_sync.specs.Lists.{IsWord, IsListOf}
use Rattle.whole_sync.specs.Protocol.{puts, moves_of, finishing}
use Rattle.whole_sync.specs.Replacing.{is_aside, Aside, Free, PutAll, Prepared, TakenBack, Unprepared, Replaced}
use Rattle.whole_sync.specs.Stops.{Recovered}
use Rattle.whole_sync.proofs.DoingLemmas.{done_then, doing_end}
use Rattle.whole_sync.proofs.ListingLemmas.{named_append}

pub held_done : (cs : List Call) (k : Known) → (all_done cs k).held ≡ all_after cs k.held
held_done [] k = refl
held_done (c ∷ cs) k = held_done cs (with_done c k)

-- calls that leave files and list alone
pub aside_starts : (o : Option Known) → Aside o o
aside_starts None = record { did = []; aside = refl; done = refl }
aside_starts (Some k) = record { did = []; aside = refl; done = refl }

pub aside_same : (o p : Option Known) → p ≡ o → Aside o p
aside_same o p e = subst (λ (n : Option Known). Aside o n) (sym e) (aside_starts o)

pub aside_one : (c : Call) (o p : Option Known) → is_aside c ≡ true → p ≡ option_map (with_done c) o → Aside o p
aside_one c o p is e = record { did = c ∷ []; aside = ap (λ (b : Bool). b && true) is; done = e }

pub aside_then : (o p q : Option Known) → Aside o p → Aside p q → Aside o q
aside_then o p q a b = record {
  did = a.did ++ b.did;
  aside = list_all-append is_aside a.did b.did ∙ (ap (λ (x : Bool). x && list_all is_aside b.did) a.aside ∙ b.aside);
  done = done_then a.did b.did o p q a.done b.done;
}

pub aside_does : {A : Type 0} (c : Call) (r : Result A StoreFault) (o p : Option Known) → is_aside c ≡ true → OnOk r (p ≡ option_map (with_done c) o) → OnErr r (Off c o p) → Aside o p
aside_does c (Ok a) o p is h off = aside_one c o p is h
aside_does c (Err e) o p is h off = elim off [ inl same ↦ aside_same o p same | inr did ↦ aside_one c o p is did ]

pub aside_put_off : (folder file : List ℕ) (o p : Option Known) → PutOff folder file o p → Aside o p
aside_put_off folder file o p h = elim h [ inl same ↦ aside_same o p same | inr did ↦ aside_one (PutBeside did.0 folder file did.1) o p refl did.2 ]

pub puts_aside : (es : List Edit) (ns : List (List ℕ)) → list_all is_aside (puts es ns) ≡ true
puts_aside [] ns = refl
puts_aside (edit.Write folder file bytes ∷ es) [] = refl
puts_aside (edit.Write folder file bytes ∷ es) (n ∷ ns) = puts_aside es ns
puts_aside (edit.MakeFolder folder ∷ es) ns = puts_aside es ns
puts_aside (edit.Remove folder file ∷ es) ns = puts_aside es ns
puts_aside (edit.RemoveFolder folder ∷ es) ns = puts_aside es ns

pub put_aside : (es : List Edit) (ns : List (List ℕ)) (o p : Option Known) → PutAll es ns o p → Aside o p
put_aside es ns o p h = record { did = puts es ns; aside = puts_aside es ns; done = h.done }

-- edits one after another
puts_append : (es fs : List Edit) (ns ms : List (List ℕ)) (h : Held) → Free es ns h → puts (es ++ fs) (ns ++ ms) ≡ puts es ns ++ puts fs ms
puts_append [] fs [] ms h f = refl
puts_append [] fs (n ∷ ns) ms h f = absurd f
puts_append (edit.Write folder file bytes ∷ es) fs [] ms h f = absurd f
puts_append (edit.Write folder file bytes ∷ es) fs (n ∷ ns) ms h f = ap (λ (cs : List Call). PutBeside n folder file bytes ∷ cs) (puts_append es fs ns ms (after (PutBeside n folder file bytes) h) f.1)
puts_append (edit.MakeFolder folder ∷ es) fs ns ms h f = puts_append es fs ns ms h f
puts_append (edit.Remove folder file ∷ es) fs ns ms h f = puts_append es fs ns ms h f
puts_append (edit.RemoveFolder folder ∷ es) fs ns ms h f = puts_append es fs ns ms h f

free_append : (es fs : List Edit) (ns ms : List (List ℕ)) (h : Held) → Free es ns h → Free fs ms (all_after (puts es ns) h) → Free (es ++ fs) (ns ++ ms) h
free_append [] fs [] ms h f g = g
free_append [] fs (n ∷ ns) ms h f g = absurd f
free_append (edit.Write folder file bytes ∷ es) fs [] ms h f g = absurd f
free_append (edit.Write folder file bytes ∷ es) fs (n ∷ ns) ms h f g = (f.0, free_append es fs ns ms (after (PutBeside n folder file bytes) h) f.1 g)
free_append (edit.MakeFolder folder ∷ es) fs ns ms h f g = free_append es fs ns ms h f g
free_append (edit.Remove folder file ∷ es) fs ns ms h f g = free_append es fs ns ms h f g
free_append (edit.RemoveFolder folder ∷ es) fs ns ms h f g = free_append es fs ns ms h f g

pub put_starts : (o : Option Known) → PutAll [] [] o o
put_starts None = record { named = tt; free = λ k e. tt; done = refl }
put_starts (Some k) = record { named = tt; free = λ k e. tt; done = refl }

put_then : (es fs : List Edit) (ns ms : List (List ℕ)) (o p q : Option Known) → PutAll es ns o p → PutAll fs ms p q → PutAll (es ++ fs) (ns ++ ms) o q
put_then es fs ns ms None p q a b = record {
  named = named_append es fs ns ms a.named b.named;
  free = λ k e. absurd (cc);
  done = b.done ∙ ap (option_map (all_done (puts fs ms))) a.done;
}
put_then es fs ns ms (Some k) p q a b =
    let free = a.free k refl in
    let more : Free fs ms (all_after (puts es ns) k.held) = subst (λ (h : Held). Free fs ms h) (held_done (puts es ns) k) (b.free (all_done (puts es ns) k) a.done) in
    let both : Free (es ++ fs) (ns ++ ms) k.held = free_append es fs ns ms k.held free more in
    record {
      named = named_append es fs ns ms a.named b.named;
      free = λ j e. let same : k ≡ j = cc in subst (λ (i : Known). Free (es ++ fs) (ns ++ ms) i.held) same both;
      done = done_then (puts es ns) (puts fs ms) (Some k) p q a.done b.done ∙ ap (λ (cs : List Call). option_map (all_done cs) (Some k)) (sym (puts_append es fs ns ms k.held free));
    }

pub put_more : (es : List Edit) (i : ℕ) (e : Edit) (ns ms all : List (List ℕ)) (o p q : Option Known) → i < length es → e ≡ get_or es i e → all ≡ ns ++ ms → PutAll (take i es) ns o p → PutAll (e ∷ []) ms p q → PutAll (take (i + 1) es) all o q
put_more es i e ns ms all o p q lt is are a b =
    let front : take i es ++ e ∷ [] ≡ take (i + 1) es = ap (λ (x : Edit). take i es ++ x ∷ []) is ∙ sym (take_more es i e lt) in
    subst (λ (fs : List Edit). PutAll fs all o q) front (subst (λ (names : List (List ℕ)). PutAll (take i es ++ e ∷ []) names o q) (sym are) (put_then (take i es) (e ∷ []) ns ms o p q a b))

-- where the list could not be put for sure
pub unprepared : (es : List Edit) (ms : List Move) (ns names : List (List ℕ)) (text : List ℕ) (o p q r : Option Known) → PutAll es ns o p → ms ≡ moves_of es ns → IsListOf ms text → Off (PutList text) p q → TakenBack names q r → Unprepared es names o r
unprepared es ms ns names text o p q r put are list off back =
    elim off [
      | inl same ↦ inl (aside_then o p r (put_aside es ns o p put) (aside_then p q r (aside_same p q same) (elim back [ inl gone ↦ aside_one DropList q r refl gone | inr kept ↦ aside_same q r kept.1 ])))
      | inr did ↦ inr (ms, ns, q, record { before = p; put = put; moves_are = are; text = text; list = list; done = did }, back)
    ]

pub replaced : (es : List Edit) (ms : List Move) (ns : List (List ℕ)) (o p q : Option Known) → Prepared es ms ns o p → Doing (finishing ms) [] p q → Replaced es o q
replaced es ms ns o p q prepared finished = record {
  names = ns;
  listed = p;
  prepared = subst (λ (m : List Move). Prepared es m ns o p) prepared.moves_are prepared;
  finished = subst (λ (m : List Move). Doing (finishing m) [] p q) prepared.moves_are finished;
}

-- what a recovery that succeeds gives
abbrev FinishedAt : Known → Option Known → Type 0
FinishedAt k p = ((p ≡ Some k) × (k.held.list ≡ None)) ⊎ ((text : List ℕ) × (ms : List Move) × (k.held.list ≡ Some text) × IsListOf ms text × Doing (finishing ms) [] (Some k) p)

recovered_at : (k n : Known) (p q : Option Known) → q ≡ option_map (with_done Clean) p → q ≡ Some n → FinishedAt k p → Recovered k.held n.held
recovered_at k n p q cleaned now h =
    elim h [
      | inl none ↦
          let is : Some (with_done Clean k) ≡ Some n = ap (option_map (with_done Clean)) (sym none.0) ∙ (sym cleaned ∙ now) in
          let same : with_done Clean k ≡ n = cc in
          inl (none.1, ap (λ (i : Known). i.held) (sym same))
      | inr all ↦
          let is : Some (with_done Clean (all_done (finishing all.1) k)) ≡ Some n = ap (option_map (with_done Clean)) (sym (doing_end (finishing all.1) (Some k) p all.4)) ∙ (sym cleaned ∙ now) in
          let same : with_done Clean (all_done (finishing all.1) k) ≡ n = cc in
          inr (all.0, all.2, all.1, all.3, ap (λ (i : Known). i.held) (sym same) ∙ ap (after Clean) (held_done (finishing all.1) k))
    ]

abbrev pub FinishedOk : Option Known → Option Known → Type 0
FinishedOk o p = (k : Known) → o ≡ Some k → ((p ≡ o) × (k.held.list ≡ None)) ⊎ ((text : List ℕ) × (ms : List Move) × (k.held.list ≡ Some text) × IsListOf ms text × Doing (finishing ms) [] o p)

recovered : (o p q : Option Known) (k n : Known) → FinishedOk o p → q ≡ option_map (with_done Clean) p → o ≡ Some k → q ≡ Some n → Recovered k.held n.held
recovered o p q k n h cleaned was now =
    recovered_at k n p q cleaned now
    (elim (h k was) [
      | inl none ↦ inl (none.0 ∙ was, none.1)
      | inr all ↦ inr (all.0, all.1, all.2, all.3, subst (λ (x : Option Known). Doing (finishing all.1) [] x p) was all.4)
    ])

pub recovers : {A : Type 0} (r : Result A StoreFault) (o p q : Option Known) → FinishedOk o p → OnOk r (q ≡ option_map (with_done Clean) p) → OnOk r ((k n : Known) → o ≡ Some k → q ≡ Some n → Recovered k.held n.held)
recovers (Ok a) o p q h cleaned = λ k n was now. recovered o p q k n h cleaned was now
recovers (Err e) o p q h cleaned = tt

pub aside_put : (name folder file bytes : List ℕ) (o p : Option Known) → p ≡ option_map (with_done (PutBeside name folder file bytes)) o → Aside o p
aside_put name folder file bytes o p h = aside_one (PutBeside name folder file bytes) o p refl h

pub write_put : (name folder file bytes : List ℕ) (o p : Option Known) → IsWord name → ((k : Known) → o ≡ Some k → k.held.beside name ≡ None) → p ≡ option_map (with_done (PutBeside name folder file bytes)) o → PutAll (edit.Write folder file bytes ∷ []) (name ∷ []) o p
write_put name folder file bytes o p word fresh h = record { named = (word, tt); free = λ k e. (fresh k e, tt); done = h }

-- an edit that writes nothing
nothing_put : (e : Edit) (o : Option Known) → Named (e ∷ []) [] → puts (e ∷ []) [] ≡ [] → ((h : Held) → Free (e ∷ []) [] h) → PutAll (e ∷ []) [] o o
nothing_put e None named is free = record { named = named; free = λ k e. absurd (cc); done = refl }
nothing_put e (Some k) named is free = record { named = named; free = λ j _. free j.held; done = ap (λ (cs : List Call). Some (all_done cs k)) (sym is) }

pub make_put : (folder : List ℕ) (o : Option Known) → PutAll (edit.MakeFolder folder ∷ []) [] o o
make_put folder o = nothing_put (edit.MakeFolder folder) o tt refl (λ h. tt)

pub remove_put : (folder file : List ℕ) (o : Option Known) → PutAll (edit.Remove folder file ∷ []) [] o o
remove_put folder file o = nothing_put (edit.Remove folder file) o tt refl (λ h. tt)

pub gone_put : (folder : List ℕ) (o : Option Known) → PutAll (edit.RemoveFolder folder ∷ []) [] o o
gone_put folder o = nothing_put (edit.RemoveFolder folder) o tt refl (λ h. tt)

pub off_of : {A : Type 0} (c : Call) (r : Result A StoreFault) (o p : Option Known) → OnOk r (p ≡ option_map (with_done c) o) → OnErr r (Off c o p) → Off c o p
off_of c (Ok a) o p h off = inr h
off_of c (Err e) o p h off = off
