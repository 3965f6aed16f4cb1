-- Worked rows: how a stack answers where a level above refuses, and a view that stands twice.
use Rattle.std.proofs.Common.{◌≡◌, refl, [], ◌∷◌, Ok}
use Rattle.std.specs.Prelude.{codes, true}
use Rattle.std.specs.Fmt.{digits}
use Rattle.std.specs.Str.{is_utf8, chars}
use Rattle.ss_text.specs.Label.{is_table_label, is_column_label}
use Rattle.outside.specs.Tree.{Tree}
use Rattle.flow_law.specs.Facts.{illegal, conflict, refusal_by}
use Rattle.flow_law.specs.FactTables.{tables}
use Rattle.flow_law.specs.Script.{script}
use Rattle.view_meaning.specs.Valuations.{valuations, counts}
use Rattle.view_meaning.specs.Meaning.{meaning, facts}
use Rattle.csv_catalog.specs.FileFaults.{repeated_after}
use Rattle.course.specs.declared.status.Verdict.TheVariants as verdict
use Rattle.ss_print.specs.Printing.{refuses, says}
use Rattle.view_stages.specs.Stages.{refusal_of}
use Rattle.stack_levels.specs.Levels.{refused_at}
use Rattle.stack_levels.proofs.WorkedRows.{there, pair_of, low, high, other_b, clash}
use Rattle.stack_answers.specs.Stack.{stack_at_first}
use Rattle.stack_answers.specs.Answers.{refusal_effects, judged, refusing}
use Rattle.stack_answers.specs.Opening.{halts, with_definitions}

-- the refusal stands behind the number of its level, and no level has changed
high_is_named : refusal_effects (refused_at 2 clash) ≡ says (codes "level" ∷ codes "2" ∷ []) ∷ refuses clash ∷ []
unfolding digits
high_is_named = refl

none_changed : (judged refusing (stack_at_first (low ∷ high ∷ []) pair_of) (other_b ∷ [])).stack ≡ record (stack_at_first (low ∷ high ∷ []) pair_of) { refused = true }
unfolding refusal_of refusal_by illegal conflict is_table_label is_column_label is_utf8 chars lib.Utf8.encode meaning facts valuations counts tables script
none_changed = refl

-- ---- one view twice
twice : (t : Tree) → with_definitions t (Ok (there ∷ there ∷ [])) ≡ halts (refused_at 1 (codes "view-database-twice" ∷ codes "AtoB" ∷ [])) verdict.BadDefinition
unfolding repeated_after
twice t = refl
