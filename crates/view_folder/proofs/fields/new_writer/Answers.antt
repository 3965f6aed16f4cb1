use Rattle.std.proofs.Common.{◌≡◌, [], refl, rules, arith}
use Rattle.csv.specs.Writing.{is_blank}
use Rattle.csv_catalog.specs.Written.{IsBetweenRecords, written}
use Rattle.view_folder.proofs.fields.new_writer.Goals as goal

pub returns : goal.returns
unfolding is_blank
returns c =
    let fresh : IsBetweenRecords c.from_writer.result = search rules in
    let empty : written c.from_writer.result ≡ [] = search rules in
    record {
      setup = fresh.setup;
      count = rw fresh.fields (omega arith);
      text = empty;
      blank = rw fresh.wrote refl;
    }
