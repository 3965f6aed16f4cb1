-- What a run begins with is sound, and the view over it is not refused.
use Rattle.std.proofs.Common.{◌≡◌, refl, [], ◌∷◌, None, arith}
use Rattle.std.specs.Prelude.{codes, bytes_eq}
use Rattle.std.specs.List.{IsDistinct}
use Rattle.std.specs.Str.{is_utf8, chars}
use Rattle.ss_text.specs.Label.{is_table_label}
use lib.Utf8.{encode}
use Rattle.std.specs.List.Sorted.{IsStrictlySortedBy}
use Rattle.ss_text.specs.Texts.{Text, text_cmp}
use Rattle.schema_model.specs.Sound.{AreNames, IsHeader}
use Rattle.view_meaning.specs.Meaning.{facts}
use Rattle.view_meaning.specs.Valuations.{valuations, counts}
use Rattle.view_meaning.specs.Refusal.{refusal}
use Rattle.flow_law.specs.Facts.{refusal_by, illegal, conflict}
use Rattle.load_run.specs.Start.{catalogue, query, header}

pub not_refused : refusal catalogue query ≡ None
unfolding refusal refusal_by illegal conflict facts valuations counts
not_refused = refl

one_ascends : (t : Text) → IsStrictlySortedBy text_cmp (t ∷ [])
unfolding IsStrictlySortedBy
one_ascends t = (tt, tt)

pub database_named : AreNames (codes "g" ∷ [])
unfolding is_table_label is_utf8 chars encode
database_named = record { ascend = one_ascends (codes "g"); legal = refl }

pub relation_named : AreNames (codes "r" ∷ [])
unfolding is_table_label is_utf8 chars encode
relation_named = record { ascend = one_ascends (codes "r"); legal = refl }

distinct : IsDistinct bytes_eq header
unfolding IsDistinct
distinct = ((refl, (refl, tt)), ((refl, tt), (tt, tt)))

pub header_sound : IsHeader header
header_sound = record { some = omega arith; few = omega arith; distinct = distinct }
