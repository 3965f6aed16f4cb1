use Rattle.std.proofs.Common.{◌≡◌, ◌++◌, take, drop, subst, arith}
use Rattle.view_folder.specs.Fields.{IsWithin}
use Rattle.view_folder.proofs.FieldLemmas.{none_of_key, more_of_key}
use Rattle.view_folder.proofs.fact_file.put_key.Goals as goal

pub loop-place-init : goal.loop-place-init
loop-place-init t c = λ ended fields h. none_of_key ended fields c.args.row.now.0 c.args.from c.args.writer.now h

pub loop-place-preserved : goal.loop-place-preserved
loop-place-preserved t c = λ ended fields h.
    let key = c.args.row.now.0 in
    let place = c.loop-place.place in
    more_of_key ended fields key c.args.from place c.put_key_text.new.writer (omega (arith, c.loop-place.auto.place)) (omega (arith, c.loop-place-test.true, c.requires.within)) (c.in_ok-put_key_text.ensures ended (fields ++ drop c.args.from (take place key)) (c.loop-place.invariant ended fields h))

pub returns : goal.returns
returns t c = λ ended fields h.
    let end : c.loop-place.place ≡ c.args.to = omega (arith, c.requires.in_order, c.loop-place-test.false, c.loop-place.auto.place) in
    subst (λ n. IsWithin ended (fields ++ drop c.args.from (take n c.args.row.now.0)) c.loop-place.writer) end (c.loop-place.invariant ended fields h)
