use Rattle.std.proofs.Common.{true, false}
use Rattle.view_def.specs.Tree.{tree_of}
use Rattle.ss_parser.proofs.Refusals.{is_read, not_read, one_tree, refused, refused_too_deep}
use Rattle.ss_parser.proofs.RoundTrip.{round_trip}
use Rattle.ss_parser.proofs.WellWritten.{read_is_written}
use Rattle.ss_parser.proofs.view.parse.Goals as goal

pub returns-in-Ok-clause-read : goal.returns-in-Ok-clause-read
returns-in-Ok-clause-read c = is_read c.args.bytes.now c.in_ok-reader.reader c.in_ok-reader.ensures (tree_of c.in-Ok.view) c.in-Ok.ensures

pub returns-in-Ok-clause-written : goal.returns-in-Ok-clause-written
returns-in-Ok-clause-written c = read_is_written c.args.bytes.now (tree_of c.in-Ok.view) (is_read c.args.bytes.now c.in_ok-reader.reader c.in_ok-reader.ensures (tree_of c.in-Ok.view) c.in-Ok.ensures)

pub returns-in-Ok-clause-whole : goal.returns-in-Ok-clause-whole
returns-in-Ok-clause-whole c = λ t r. one_tree c.args.bytes.now (tree_of c.in-Ok.view) t (is_read c.args.bytes.now c.in_ok-reader.reader c.in_ok-reader.ensures (tree_of c.in-Ok.view) c.in-Ok.ensures) r

pub returns-in-Ok-clause-printed : goal.returns-in-Ok-clause-printed
returns-in-Ok-clause-printed c = round_trip c.args.bytes.now (tree_of c.in-Ok.view) (is_read c.args.bytes.now c.in_ok-reader.reader c.in_ok-reader.ensures (tree_of c.in-Ok.view) c.in-Ok.ensures)

pub returns-in-Err-Unexpected-clause-refused : goal.returns-in-Err-Unexpected-clause-refused
returns-in-Err-Unexpected-clause-refused c = refused c.args.bytes.now c.in_ok-reader.reader c.in_ok-reader.ensures c.view.new.self c.fault.result (rw c.in-Err-Unexpected.field-0-is at c.in-Err-Unexpected.ensures) c.fault.ensures

pub returns-in-Err-Unexpected-clause-whole : goal.returns-in-Err-Unexpected-clause-whole
returns-in-Err-Unexpected-clause-whole c = λ t r. absurd (not_read c.args.bytes.now c.in_ok-reader.reader c.in_ok-reader.ensures false c.view.new.self t (rw c.in-Err-Unexpected.field-0-is at c.in-Err-Unexpected.ensures) r)

pub returns-in-Err-TooDeep-clause-refused : goal.returns-in-Err-TooDeep-clause-refused
returns-in-Err-TooDeep-clause-refused c = refused_too_deep c.args.bytes.now c.in_ok-reader.reader c.in_ok-reader.ensures c.view.new.self c.place.result (rw c.in-Err-TooDeep.field-0-is at c.in-Err-TooDeep.ensures) c.place.ensures

pub returns-in-Err-TooDeep-clause-whole : goal.returns-in-Err-TooDeep-clause-whole
returns-in-Err-TooDeep-clause-whole c = λ t r. absurd (not_read c.args.bytes.now c.in_ok-reader.reader c.in_ok-reader.ensures true c.view.new.self t (rw c.in-Err-TooDeep.field-0-is at c.in-Err-TooDeep.ensures) r)
