use Rattle.std.proofs.lemmas.List.{map-id}
use Rattle.std.specs.List.Sorted.{IsStrictlySortedBy}
use Rattle.std.specs.Prelude.{map}
use Rattle.ss_text.specs.Texts.{text_cmp}
use Rattle.ss_text.proofs.KeyLemmas.{text_order, searched}
use Rattle.fact_tables.proofs.tables.place_of.Goals as goal

pub returns : goal.returns
returns c =
    let sorted : IsStrictlySortedBy text_cmp (map (λ x. x) c.args.columns.now) = rw (map-id c.args.columns.now) c.requires in
    let answer = searched text_order (λ x. x) c.args.column.now c.args.columns.now c.binary_search.result sorted c.binary_search.ensures.bound c.binary_search.ensures.position in
    record { found = answer.found; absent = answer.absent }
