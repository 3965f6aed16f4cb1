-- A run of `load` that ended with the status 0.
use Rattle.std.proofs.Common.{◌≡◌, ℕ, List, [], Option, ap}
use Rattle.outside.specs.Tree.{Tree}
use Rattle.outside.specs.Effects.{World, Contents, contents}
use Rattle.course.specs.declared.exit.Status.{Status}
use Rattle.course.specs.declared.exit.Status.TheVariants as status
use Rattle.course.specs.Course.{Finished, Did, is_done_status, unread}
use Rattle.course.proofs.RunLemmas.{done_finished}
use Rattle.view_stages.specs.Stages.{DefinitionOrRefusal}
use Rattle.plain_commands.specs.Loads.{loaded, IsLoaded}

finished_loaded : (changes seed : ℕ) (old new : World) (s : Status) → Finished (loaded changes seed) old new s → IsLoaded changes seed old new
unfolding contents
finished_loaded changes seed old new s f = record { printed = ap (λ (x : Contents). x.held) f.done }

pub did_load : (changes seed : ℕ) (t : Tree) (d : DefinitionOrRefusal) (rest : Option (List ℕ)) (old new : World) (s : Status) → s ≡ status.Done → Did (unread (loaded changes seed)) [] rest old new s → IsLoaded changes seed old new
did_load changes seed t d rest old new s done h = finished_loaded changes seed old new s (done_finished (unread (loaded changes seed)) [] rest old new s (ap is_done_status done) h)
