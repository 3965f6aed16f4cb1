use Rattle.std.proofs.Common.{◌∙◌, inr}
use Rattle.csv_catalog.proofs.ReaderLemmas.{at_start}
use Rattle.csv_catalog.proofs.read.reader_of.Goals as goal

pub returns : goal.returns
returns c =
    let reader = rw (c.flexible.ensures, c.has_headers.ensures) at c.from_reader.ensures in
    at_start c.args.bytes.now c.from_reader.result (reader.trim ∙ c.new.ensures.trim) (inr (inr (reader.has_headers, reader.headers))) (reader.config ∙ c.new.ensures.config) reader.source reader.state
