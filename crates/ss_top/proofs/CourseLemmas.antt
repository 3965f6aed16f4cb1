-- What a run leaves, whatever its course.
use Rattle.std.proofs.Common.{◌≡◌, ℕ, List, ◌∷◌, ◌++◌, Option, None, Some, refl, sym, ap, ◌∙◌, subst}
use Rattle.std.specs.Prelude.{Result, Ok, Err}
use Rattle.outside.specs.Tree.{Tree}
use Rattle.outside.specs.Effects.{Effect, World, Contents, contents, performed, Partly}
use Rattle.tab_lines.specs.Lines.{lines_of, whole_lines}
use Rattle.schema_model.proofs.ReadyLemmas.{same_some}
use Rattle.course.specs.declared.status.Verdict.{Verdict}
use Rattle.course.specs.declared.status.Halt.{Halt}
use Rattle.course.specs.declared.status.Halt.TheVariants as halt
use Rattle.course.specs.Answering.{Ending, EndedOver}
use Rattle.course.specs.Course.{Course, RanBy, RanSome, GaveOut, HeldUp}
use Rattle.course.proofs.ToldLemmas.{told_tree, contents_told}
use Rattle.course.proofs.TakenLemmas.{taken_lines}
use Rattle.course.proofs.FrontLemmas.{partly_whole, partly_front}
use Rattle.view_stages.specs.Places.{Exempt}
use Rattle.view_stages.specs.Opened.{Keeps}
use Rattle.view_stages.proofs.PlaceLemmas.{AllWithin, StaysIn, at_first_stays, performed_stays, partly_stays}
use Rattle.view_stages.proofs.StoppedLemmas.{Stopped}
use Rattle.ss_top.specs.Between.{IsLeftIn}

-- effects on what is exempt leave all else as it was
module _ (exempt : List Exempt) (t : Tree) (old new : World) (told : old.store.tree ≡ Some t) where
  kept : StaysIn exempt t (contents new) → Keeps exempt t new
  unfolding contents
  kept s = record { tree = s.store.tree; told = (told_tree new.store.tree new.store.writes s.store s.told).0; others = s.others }

  module _ (es : List Effect) (within : AllWithin exempt es) where
    pub keeps_done : contents new ≡ performed es (contents old) → Keeps exempt t new
    keeps_done done = kept (subst (StaysIn exempt t) (sym done) (performed_stays exempt t es (contents old) within (at_first_stays exempt t old told)))

    pub keeps_partly : Partly es (contents old) (contents new) → Keeps exempt t new
    keeps_partly ran = kept (partly_stays exempt t es (contents old) (contents new) within ran (at_first_stays exempt t old told))

  -- so does a run that ended so
  pub keeps_ended : (e : Ending) (r : Result Verdict Halt) → AllWithin exempt e.effects → EndedOver e old new r → Keeps exempt t new
  keeps_ended e (Ok v) within ran = keeps_done e.effects within ran.0
  keeps_ended e (Err x) within ran = keeps_partly e.effects within ran

-- what is done until some lines are answered is the front of what is done over more
abbrev pub IsFront : Course → Type 0
IsFront c = (xs more : List (List ℕ)) (es : List Effect) → c.so_far xs ≡ Some es → (rest : List Effect) × ((c.whole (xs ++ more)).effects ≡ es ++ rest)

-- so each run did a front of its course, however it ended
module _ (c : Course) (old new : World) where
  abbrev pub Fronts : List (List ℕ) → Type 0
  Fronts lines = Partly (c.whole lines).effects (contents old) (contents new)

  pub some_front : (r : Result Verdict Halt) → (h : RanSome c old new r) → Fronts h.lines
  some_front (Ok v) h = partly_whole (c.whole h.lines).effects (contents old) (contents new) h.ran.0
  some_front (Err x) h = h.ran

  module _ (front : IsFront c) (bytes : List ℕ) (rest : Option (List ℕ)) where
    gave_out : GaveOut c bytes rest old new → Fronts (lines_of bytes)
    gave_out g =
        let first = taken_lines bytes g.taken g.left g.split in
        let more = front (whole_lines g.taken) first.0 g.effects g.meant in
        partly_front g.effects more.0 (c.whole (lines_of bytes)).effects (contents old) (contents new) (ap (λ (ls : List (List ℕ)). (c.whole ls).effects) first.1 ∙ more.1) g.done

    pub held_up : HeldUp c bytes old new → Fronts (lines_of bytes)
    held_up g =
        let more = front g.answered (g.line ∷ g.more) g.effects g.meant in
        partly_front g.effects more.0 (c.whole (lines_of bytes)).effects (contents old) (contents new) (ap (λ (ls : List (List ℕ)). (c.whole ls).effects) g.are ∙ more.1) g.done

    pub told_front : (r : Result Verdict Halt) → RanBy c bytes rest old new r → Fronts (lines_of bytes)
    told_front (Ok v) h = partly_whole (c.whole (lines_of bytes)).effects (contents old) (contents new) h.0
    told_front (Err halt.InputFault) h = gave_out h
    told_front (Err halt.TooLong) h = gave_out h.0
    told_front (Err halt.DiskFault) h = held_up h
    told_front (Err (halt.Stopped e)) h = h

  -- and what it left lies in its stages, where what a front of its course leaves does
  module _ (exempt : List Exempt) (stages : List (List ℕ) → List (List Effect)) (t : Tree) (told : old.store.tree ≡ Some t) where
    abbrev pub AllStop : Type 0
    AllStop = (writes : ℕ) → (contents old).stored ≡ Some (record { tree = t; writes = writes }) → (lines : List (List ℕ)) → Fronts lines → Stopped exempt (stages lines) t (contents new)

    left : AllStop → (input : Option (List ℕ)) (lines : List (List ℕ)) → ((bytes : List ℕ) → input ≡ Some bytes → lines ≡ lines_of bytes) → Fronts lines → IsLeftIn exempt stages t input new
    unfolding contents
    left stop input lines all front =
        let h = stop old.store.writes (ap (λ (x : Contents). x.stored) (contents_told old t told)) lines front in
        record { lines = lines; all = all; tree = h.stored.tree; told = (told_tree new.store.tree new.store.writes h.stored h.told).0; stops = h.stops }

    pub leaves : AllStop → (input : Option (List ℕ)) (r : Result Verdict Halt) → RanSome c old new r → ((bytes : List ℕ) → input ≡ Some bytes → Fronts (lines_of bytes)) → IsLeftIn exempt stages t input new
    leaves stop None r some front = left stop None some.lines (λ bytes none. absurd (cc none)) (some_front r some)
    leaves stop (Some bytes) r some front = left stop (Some bytes) (lines_of bytes) (λ bs e. ap lines_of (same_some bytes bs e)) (front bytes refl)
