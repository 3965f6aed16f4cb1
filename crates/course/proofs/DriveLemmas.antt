-- Lines that are answered behind an opening, whatever the machine.
use Rattle.std.proofs.Common.{◌≡◌, ◌⊎◌, ℕ, Bool, List, [], ◌++◌, Option, refl, sym, ap, ◌∙◌, subst, append_assoc, inr, Some, arith, inl}
use Rattle.std.specs.Prelude.{Result, Ok, Err}
use Rattle.outside.specs.Effects.{Effect, World, Contents, contents, performed, Partly}
use Rattle.outside.proofs.EffectLemmas.{performed_append, partly_later}
use Rattle.tab_lines.specs.Lines.{lines_of}
use Rattle.course.specs.declared.status.Verdict.{Verdict}
use Rattle.course.specs.declared.status.Halt.{Halt}
use Rattle.course.specs.declared.status.Halt.TheVariants as halt
use Rattle.outside.specs.declared.stop.Stop.{Stop}
use Rattle.course.specs.Answering.{Reply, Continues, Finishes, Ending, follow, course, Ran, CutOff, EndedOver, BlamesRun, IsReadWhole, IsReadOut, is_too_long}
use Rattle.course.specs.Answering as lines
use Rattle.outside.specs.Blame.{Blames}
use Rattle.outside.specs.declared.stop.Stop.TheVariants as stop
use Rattle.course.proofs.AnsweringLemmas.{steady_more}
use Rattle.course.specs.Course.{GaveOut, HeldUp, RanBy, Took, EndedByLine, TookEnough, by_lines, first, Course}

-- an ending behind an opening
pub ended_later : (es : List Effect) (e : Ending) (old mid new : World) (r : Result Verdict Halt) → contents mid ≡ performed es (contents old) → EndedOver e mid new r → EndedOver (first es e) old new r
ended_later es e old mid new (Ok v) h ran = (ran.0 ∙ ap (performed e.effects) h ∙ sym (performed_append es e.effects (contents old)), ran.1)
ended_later es e old mid new (Err x) h ran = partly_later es e.effects (contents old) (contents mid) (contents new) h ran

module _ {A : Type 0} (step : A → List ℕ → Reply A) (finish : A → Ending) where
  -- the input gave out behind an opening
  abbrev gave_out : (es : List Effect) (o : A) (bytes : List ℕ) (rest : Option (List ℕ)) (old mid new : World) → contents mid ≡ performed es (contents old) → CutOff step o bytes rest mid new → GaveOut (by_lines step finish (Continues es o)) bytes rest old new
  gave_out es o bytes rest old mid new h cut = record {
    taken = cut.taken;
    left = cut.left;
    split = cut.split;
    remains = cut.remains;
    effects = es ++ cut.effects;
    meant = rw cut.answered refl;
    done = cut.done ∙ ap (performed cut.effects) h ∙ sym (performed_append es cut.effects (contents old));
  }

  -- the disk failed behind an opening
  abbrev held_up : (es : List Effect) (o : A) (bytes : List ℕ) (old mid new : World) → contents mid ≡ performed es (contents old) → lines.HeldUp step o bytes mid new → HeldUp (by_lines step finish (Continues es o)) bytes old new
  held_up es o bytes old mid new h held = record {
    answered = held.answered;
    line = held.line;
    more = held.more;
    are = held.are;
    effects = es ++ held.effects;
    meant = rw held.goes refl;
    done = held.done ∙ ap (performed held.effects) h ∙ sym (performed_append es held.effects (contents old));
  }

  pub went_on : (es : List Effect) (o : A) (bytes : List ℕ) (rest : Option (List ℕ)) (old mid new : World) (r : Result Verdict Halt) → contents mid ≡ performed es (contents old) → Ran step finish o bytes rest mid new r → RanBy (by_lines step finish (Continues es o)) bytes rest old new r
  went_on es o bytes rest old mid new (Ok v) h ran =
      let e = course step finish o (lines_of bytes) in
      (ran.0 ∙ ap (performed e.effects) h ∙ sym (performed_append es e.effects (contents old)), ran.1)
  went_on es o bytes rest old mid new (Err halt.InputFault) h ran = gave_out es o bytes rest old mid new h ran
  went_on es o bytes rest old mid new (Err halt.TooLong) h ran = (gave_out es o bytes rest old mid new h ran.0, ran.1)
  went_on es o bytes rest old mid new (Err halt.DiskFault) h ran = held_up es o bytes old mid new h ran
  went_on es o bytes rest old mid new (Err (halt.Stopped e)) h ran = partly_later es (course step finish o (lines_of bytes)).effects (contents old) (contents mid) (contents new) h ran

  -- what was taken of the input
  pub took_behind : (es : List Effect) (o : A) (bytes : List ℕ) (rest last : Option (List ℕ)) (old mid new : World) (long : Bool) → contents mid ≡ performed es (contents old) → lines.TookLittle step finish o bytes rest last mid new long → Took (by_lines step finish (Continues es o)) bytes rest last old new long
  took_behind es o bytes rest last old mid new long h took = inr (record {
    answered = took.answered;
    line = took.line;
    piece = took.piece;
    left = took.left;
    split = took.split;
    remains = took.remains;
    one_line = took.one_line;
    few = took.few;
    one_read = took.one_read;
    due = took.due;
    effects = es ++ took.effects;
    later = took.later;
    meant = rw took.goes refl;
    all = ap (λ (t : List Effect). es ++ t) took.all ∙ sym (append_assoc es took.effects took.later);
    did = subst (λ (c : Contents). Partly took.later c (contents new)) (ap (performed took.effects) h ∙ sym (performed_append es took.effects (contents old))) took.did;
  })

  -- where a line ended the run
  pub enough_behind : (es : List Effect) (o : A) (bytes : List ℕ) (rest last : Option (List ℕ)) → IsReadOut step o bytes rest last → TookEnough (by_lines step finish (Continues es o)) bytes rest last
  enough_behind es o bytes rest last h reads = by_reply (follow step (lines_of bytes) (Continues [] o)) refl
    where
      by_reply : (r : Reply A) → follow step (lines_of bytes) (Continues [] o) ≡ r → IsReadWhole bytes rest ⊎ EndedByLine (by_lines step finish (Continues es o)) bytes rest last
      by_reply (Continues fs a) is = inl (h.read fs a is)
      by_reply (Finishes fs v) is =
          let line = h.ended fs v is in
          inr (record { answered = line.answered; piece = line.piece; left = line.left; split = line.split; remains = line.remains; within = line.within; whole = line.whole; few = line.few; one_read = line.one_read; ends = rw line.ends refl })

-- nothing was taken of the input
pub took_nothing : (c : Course) (bytes : List ℕ) (rest last : Option (List ℕ)) (old new : World) (e : Stop) → rest ≡ Some bytes → Took c bytes rest last old new (is_too_long (halt.Stopped e))
took_nothing c bytes rest last old new e told = inl (told, refl)

-- a count that rose, behind an opening
pub blamed_later : {A : Type 0} (i j : ℕ) (old mid new : World) (a : A) (r : Result Verdict Halt) → Blames old mid (Ok a) → BlamesRun i j mid new r → BlamesRun i j old new r
blamed_later i j old mid new a (Ok v) b c = record { steady = steady_more old mid new b.steady c.steady; input = c.input; because = tt }
blamed_later i j old mid new a (Err halt.InputFault) b c = record { steady = steady_more old mid new b.steady c.steady; input = c.input; because = c.because }
blamed_later i j old mid new a (Err halt.TooLong) b c = record { steady = steady_more old mid new b.steady c.steady; input = c.input; because = tt }
blamed_later i j old mid new a (Err halt.DiskFault) b c = record { steady = steady_more old mid new b.steady c.steady; input = c.input; because = tt }
blamed_later i j old mid new a (Err (halt.Stopped stop.ReadFault)) b c = record { steady = steady_more old mid new b.steady c.steady; input = c.input; because = omega (arith, b.steady.reads, c.because) }
blamed_later i j old mid new a (Err (halt.Stopped stop.WriteFault)) b c = record {
  steady = steady_more old mid new b.steady c.steady;
  input = c.input;
  because = elim c.because [ inl w ↦ inl (omega (arith, b.steady.writes, w)) | inr p ↦ inr (omega (arith, b.steady.prints, p)) ];
}
blamed_later i j old mid new a (Err (halt.Stopped stop.NoMemory)) b c = record { steady = steady_more old mid new b.steady c.steady; input = c.input; because = tt }
