-- From what was made of a line to what it asks for.
use Rattle.std.proofs.Common.{◌≡◌, List, ℕ, [], ◌∷◌, refl, sym, ap, ◌∙◌, subst}
use Rattle.std.specs.Prelude.{Result, Ok, Err, None, Some}
use Rattle.ss_text.specs.Texts.{Row}
use Rattle.outside.specs.Effects.{Effect, World, contents, performed, Partly, Does}
use Rattle.outside.specs.declared.stop.Stop.{Stop}
use Rattle.outside.proofs.EffectLemmas.{partly_more, then_off}
use Rattle.course.specs.declared.status.Verdict.TheVariants as verdict
use Rattle.course.specs.declared.status.LineStop.TheVariants as line_stop
use Rattle.course.specs.Answering.{Answered}
use Rattle.ss_print.specs.Printing.{refuses}
use Rattle.plain_commands.specs.Applying.{ApplyState, taken, reply, step}

module _ (s u : ApplyState) (line : List ℕ) where
  -- a line was applied, or its refusal was printed
  pub line_taken : (w : World) → taken s line ≡ Ok u → Answered (step s line) w w u (Ok None)
  line_taken w e = subst (λ (r : Result ApplyState Row). Answered (reply r) w w u (Ok None)) (sym e) (refl, refl)

  pub line_refused : (fields : Row) (w v : World) → taken s line ≡ Err fields → contents v ≡ performed (refuses fields ∷ []) (contents w) → Answered (step s line) w v u (Ok (Some verdict.BadCatalogue))
  line_refused fields w v e h = subst (λ (r : Result ApplyState Row). Answered (reply r) w v u (Ok (Some verdict.BadCatalogue))) (sym e) (h, refl)

  -- it was not, and its refusal broke off
  pub line_stopped : (w v : World) (e : Stop) → Partly [] (contents w) (contents v) → Answered (step s line) w v u (Err (line_stop.Stopped e))
  line_stopped w v e h = by_answer (taken s line) h
    where
      by_answer : (r : Result ApplyState Row) → Partly [] (contents w) (contents v) → Answered (reply r) w v u (Err (line_stop.Stopped e))
      by_answer (Ok a) h = h
      by_answer (Err fields) h = partly_more [] (refuses fields ∷ []) (contents w) (contents v) h

  pub refusal_stopped : (fields : Row) (w v : World) (e : Stop) → taken s line ≡ Err fields → Partly (refuses fields ∷ []) (contents w) (contents v) → Answered (step s line) w v u (Err (line_stop.Stopped e))
  refusal_stopped fields w v e is h = subst (λ (r : Result ApplyState Row). Answered (reply r) w v u (Err (line_stop.Stopped e))) (sym is) h

-- the same effects under two names, and effects behind one that was done
pub does_as : {A : Type 0} (es fs : List Effect) (w v : World) (r : Result A Stop) → es ≡ fs → Does es w v r → Does fs w v r
does_as es fs w v r same did = subst (λ (xs : List Effect). Does xs w v r) same did

pub then_does : {A : Type 0} (e : Effect) (es : List Effect) (old mid new : World) (r : Result A Stop) → contents mid ≡ performed (e ∷ []) (contents old) → Does es mid new r → Does (e ∷ es) old new r
then_does e es old mid new (Ok a) first later = later ∙ ap (performed es) first
then_does e es old mid new (Err x) first later = then_off e es (contents old) (contents mid) (contents new) first later
