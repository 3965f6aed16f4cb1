use Rattle.std.proofs.Common.{◌≡◌, ◌≢◌, ◌+◌, ◌-◌, ◌^◌, ◌≤◌, ◌<◌, ◌∙◌, [], length, get_or, refl, sym, rules, arith}
use Rattle.std.proofs.lemmas.List.{append-nil}
use Rattle.csv.specs.declared.writer.QuoteStyle.TheVariants as style
use Rattle.csv.specs.Writing.{default_writer, is_blank}
use Rattle.csv.proofs.WriteFacts.{blank-step}
use Rattle.csv_catalog.proofs.WritingLemmas.{item_at, field_more, record_whole}
use Rattle.csv_catalog.specs.Written.{written}
use Rattle.csv_catalog.proofs.write.write_row.Goals as goal

pub loop-text-init : goal.loop-text-init
unfolding is_blank
loop-text-init c = record {
  setup = c.requires.between.setup;
  fields = c.requires.between.fields;
  body = sym (append-nil _);
  blank = rw c.requires.between.wrote refl;
}

pub loop-text-preserved : goal.loop-text-preserved
loop-text-preserved c =
    let inv = c.loop-text.invariant in
    let e = c.in-Ok.ensures in
    let row = c.args.row.now in
    let i = c.loop-text.text-index in
    let item = c.text-item.result in
    let plain : c.loop-text.writer.cfg.style ≢ style.NonNumeric = rw inv.setup (λ e. cc e) in
    let lt : i < length row = rw c.cells-text-items.ensures at c.loop-text-test.true in
    let is : item ≡ get_or row i item = rw c.cells-text-items.ensures at c.text-item.is in
    let fits : i + 1 ≤ 2 ^ 64 - 1 = search rules in
    record {
      setup = e.same ∙ inv.setup;
      fields = e.count ∙ rw inv.fields (omega arith);
      body = field_more (written c.args.writer.now) (written c.loop-text.writer) (written c.write_field.new.self) row i item lt is inv.body
          (rw (c.as_slice.ensures, inv.setup, inv.fields) at (e.text plain));
      blank = blank-step default_writer row i c.loop-text.writer.wrote c.write_field.new.self.wrote lt inv.blank
          (λ w. rw (← item_at row i item [] lt is) (rw (c.as_slice.ensures, inv.setup) at (e.wrote w plain))) e.stays;
    }

pub returns-clause-text : goal.returns-clause-text
returns-clause-text c =
    let inv = c.loop-text.invariant in
    let all : length c.args.row.now ≤ c.loop-text.text-index = rw c.cells-text-items.ensures at c.loop-text-test.false in
    record_whole (written c.args.writer.now) (written c.loop-text.writer) (written c.end_record.new.self) c.args.row.now c.loop-text.text-index c.loop-text.writer.wrote c.requires.some all inv.body inv.blank
    (rw (inv.setup, inv.fields) at c.in-Ok-end_record.ensures.bytes)
