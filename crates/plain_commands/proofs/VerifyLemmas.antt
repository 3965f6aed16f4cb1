-- An end behind calls that did nothing.
use Rattle.std.proofs.Common.{◌≡◌, [], ap, ◌∙◌, subst}
use Rattle.std.specs.Prelude.{Result, Ok, Err}
use Rattle.outside.specs.Effects.{World, Contents, contents, performed, Partly}
use Rattle.outside.specs.declared.stop.Stop.{Stop}
use Rattle.outside.proofs.EffectLemmas.{partly_more}
use Rattle.view_folder.specs.declared.comparison.Comparison.{Comparison}
use Rattle.course.specs.declared.status.Verdict.{Verdict}
use Rattle.course.specs.Answering.{Ending, Ended}
use Rattle.plain_commands.specs.Verifying.{by_comparison}

pub ended_later : (e : Ending) (old mid new : World) (r : Result Verdict Stop) → contents mid ≡ contents old → Ended e mid new r → Ended e old new r
ended_later e old mid new (Ok v) same h = (h.0 ∙ ap (performed e.effects) same, h.1)
ended_later e old mid new (Err s) same h = subst (λ (c : Contents). Partly e.effects c (contents new)) same h

pub nothing_ended : (e : Ending) (old new : World) (s : Stop) → Partly [] (contents old) (contents new) → Ended e old new (Err s)
nothing_ended e old new s h = partly_more [] e.effects (contents old) (contents new) h

-- the end that a comparison asks for
pub compared_ends : (e f : Comparison) (old mid new : World) (r : Result Verdict Stop) → e ≡ f → contents mid ≡ contents old → Ended (by_comparison e) mid new r → Ended (by_comparison f) old new r
compared_ends e f old mid new r same nothing h = ended_later (by_comparison f) old mid new r nothing (subst (λ (c : Comparison). Ended (by_comparison c) mid new r) same h)
