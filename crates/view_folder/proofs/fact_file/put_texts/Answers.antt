use Rattle.std.proofs.Common.{◌++◌, take, arith}
use Rattle.view_folder.proofs.FieldLemmas.{none_put, one_put, all_put}
use Rattle.view_folder.proofs.fact_file.put_texts.Goals as goal

pub loop-text-init : goal.loop-text-init
loop-text-init c = λ ended fields h. none_put ended fields c.args.writer.now h

pub loop-text-preserved : goal.loop-text-preserved
loop-text-preserved c = λ ended fields h.
    let i = c.loop-text.text-index in
    let put = rw c.as_slice.ensures at (c.in_ok-put_field.ensures ended (fields ++ take i c.args.texts.now) (c.loop-text.invariant ended fields h)) in
    one_put ended fields c.put_field.new.writer c.args.texts.now i c.text-item.result c.loop-text-test.true c.text-item.is put

pub returns : goal.returns
returns c = λ ended fields h. all_put ended fields c.loop-text.writer c.args.texts.now c.loop-text.text-index (omega arith) (c.loop-text.invariant ended fields h)
