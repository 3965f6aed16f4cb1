use Rattle.std.proofs.Common.{◌++◌, take, arith}
use Rattle.view_folder.proofs.FieldLemmas.{none_put, one_put, all_put}
use Rattle.view_folder.proofs.fact_file.put_labels.Goals as goal

pub loop-label-init : goal.loop-label-init
loop-label-init c = λ ended fields h. none_put ended fields c.args.writer.now h

pub loop-label-preserved : goal.loop-label-preserved
loop-label-preserved c = λ ended fields h.
    let i = c.loop-label.label-index in
    let put = c.in_ok-put_label.ensures ended (fields ++ take i c.args.labels.now) (c.loop-label.invariant ended fields h) in
    one_put ended fields c.put_label.new.writer c.args.labels.now i c.label-item.result c.loop-label-test.true c.label-item.is put

pub returns : goal.returns
returns c = λ ended fields h. all_put ended fields c.loop-label.writer c.args.labels.now c.loop-label.label-index (omega arith) (c.loop-label.invariant ended fields h)
