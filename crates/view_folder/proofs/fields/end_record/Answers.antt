use Rattle.std.proofs.Common.{◌∙◌, refl, sym, append-nil, arith}
use Rattle.csv.specs.Writing.{is_blank}
use Rattle.csv_catalog.specs.Written.{written}
use Rattle.view_folder.proofs.FieldLemmas.{record_ended}
use Rattle.view_folder.proofs.fields.end_record.Goals as goal

pub returns : goal.returns
unfolding is_blank
returns c = λ ended fields some h.
    let e = c.in-Ok.ensures in
    record {
      setup = e.same ∙ h.setup;
      count = rw e.fields (omega arith);
      text = record_ended ended (written c.args.writer.now) (written c.end_record.new.self) fields c.args.writer.now.wrote c.args.writer.now.fields some h.count h.text h.blank (rw h.setup at e.bytes) ∙ sym (append-nil _);
      blank = rw e.wrote refl;
    }
