-- Names of relations in a catalogue: a database and a name in it.
use Rattle.std.specs.declared.cmp.Ordering.{Ordering}
use Rattle.std.specs.Ordering.{ordering_then}
use Rattle.ss_text.specs.Texts.{Text, text_cmp}
use Rattle.schema_model.specs.declared.pair.Pair.{Pair}

abbrev pub pair : Text → Text → Pair
pair db rel = record { db = db; rel = rel }

-- by the database, and then by the relation
abbrev pub pair_cmp : Pair → Pair → Ordering
pair_cmp p q = ordering_then (text_cmp p.db q.db) (text_cmp p.rel q.rel)
