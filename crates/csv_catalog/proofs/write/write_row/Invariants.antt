use Rattle.std.proofs.Common.{◌≡◌, ◌==◌, ◌||◌, ◌&&◌, ◌++◌, take, not}
use Rattle.csv.specs.Writing.{default_writer, is_blank, row_body}
use Rattle.csv_catalog.specs.Written.{written}
use Rattle.csv_catalog.proofs.write.write_row.Given as goal

abbrev pub invariant-loop-text : goal.invariant-loop-text
invariant-loop-text l = record {
  setup : l.writer.cfg ≡ default_writer;
  fields : l.writer.fields ≡ l.text-index;
  body : written l.writer ≡ written l.fn.writer ++ row_body default_writer (take l.text-index l.row);
  blank : is_blank default_writer (take l.text-index l.row) ≡ (not l.writer.wrote && ((l.text-index == 0) || (l.text-index == 1)));
}
