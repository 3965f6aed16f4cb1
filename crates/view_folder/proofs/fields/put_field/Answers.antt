use Rattle.std.proofs.Common.{◌≢◌, ◌∙◌}
use Rattle.csv.specs.declared.writer.QuoteStyle.TheVariants as style
use Rattle.view_folder.proofs.FieldLemmas.{count_more, text_more, blank_more}
use Rattle.csv_catalog.specs.Written.{written}
use Rattle.view_folder.proofs.fields.put_field.Goals as goal

pub returns : goal.returns
returns c = λ ended fields h.
    let e = c.in-Ok.ensures in
    let plain : c.args.writer.now.cfg.style ≢ style.NonNumeric = rw h.setup (λ e. cc e) in
    record {
      setup = e.same ∙ h.setup;
      count = count_more fields c.args.bytes.now c.args.writer.now.fields c.write_field.new.self.fields h.count e.count;
      text = text_more ended (written c.args.writer.now) (written c.write_field.new.self) fields c.args.bytes.now c.args.writer.now.fields h.count h.text (rw h.setup at (e.text plain));
      blank = blank_more fields c.args.bytes.now c.args.writer.now.wrote c.write_field.new.self.wrote h.blank (λ w. rw h.setup at (e.wrote w plain)) e.stays;
    }
