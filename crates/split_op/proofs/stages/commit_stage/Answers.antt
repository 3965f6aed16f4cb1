use Rattle.ss_text.specs.Texts.{text_eq}
use Rattle.indexmap.specs.IndexMap.{get}
use Rattle.ss_text.proofs.KeyLemmas.{text_order, equal_itself}
use Rattle.split_op.proofs.PartMoves.{stage_moves}
use Rattle.split_op.proofs.stages.commit_stage.Goals as goal

pub returns-clause-moved : goal.returns-clause-moved
returns-clause-moved g c = λ form h.
    let s = c.args.stage in
    let left = rw (equal_itself text_order s.label) at (c.store.ensures.of s.label) in
    stage_moves g.I.TableOperator.table g.I.Kept.waiting g.I.Kept.made_for form (get text_eq c.args.parts.now) (get text_eq c.store.new.map) s c.inner_of-inner.result c.moved-kept.result
    c.inner_of-inner.ensures.value left c.moved-kept.ensures h
