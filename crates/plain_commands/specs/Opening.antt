-- What the opening of a view folder did.
use Rattle.std.specs.Prelude.{◌≡◌, Result, Ok, Err}
use Rattle.outside.specs.Effects.{World, contents, performed, Partly}
use Rattle.outside.specs.declared.stop.Stop.{Stop}
use Rattle.course.specs.declared.status.Verdict.TheVariants as verdict
use Rattle.course.specs.Answering.{Reply, Continues, Finishes, effects_of}
use Rattle.plain_commands.specs.Applying.{ApplyState}
use Rattle.plain_commands.specs.declared.opening.OpenedFolder.{OpenedFolder}
use Rattle.plain_commands.specs.declared.opening.OpenedFolder.TheVariants.{Open, Refused}

abbrev pub Opens : Reply ApplyState → World → World → Result OpenedFolder Stop → Type 0
Opens (Continues es a) old new (Ok (Open s)) = (contents new ≡ performed es (contents old)) × (s ≡ a)
Opens (Continues es a) old new (Ok Refused) = ⊥
Opens (Finishes es v) old new (Ok (Open s)) = ⊥
Opens (Finishes es v) old new (Ok Refused) = (contents new ≡ performed es (contents old)) × (v ≡ verdict.BadCatalogue)
Opens r old new (Err e) = Partly (effects_of r) (contents old) (contents new)
