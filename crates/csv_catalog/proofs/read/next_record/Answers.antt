use Rattle.csv.specs.Records.{fields_of}
use Rattle.csv_catalog.proofs.ReaderLemmas.{less_left, at_next, at_end}
use Rattle.csv_catalog.proofs.read.next_record.Goals as goal

pub returns-then-not-more : goal.returns-then-not-more
returns-then-not-more c = λ bytes rows inv.
    at_end bytes rows c.args.reader.now c.read_byte_record.new.self (fields_of c.read_byte_record.new.row) inv (rw c.if-not-more.true at (c.in-Ok.ensures.reads inv.plain inv.ready))

pub returns : goal.returns
returns c = λ bytes rows inv.
    let read = rw c.if-not-more.false at (c.in-Ok.ensures.reads inv.plain inv.ready) in
    rw c.in_ok-row.ensures (at_next bytes rows c.args.reader.now c.read_byte_record.new.self (fields_of c.read_byte_record.new.row) inv read (c.in-Ok.ensures.ready inv.plain), less_left bytes rows c.args.reader.now c.read_byte_record.new.self (fields_of c.read_byte_record.new.row) inv read)
