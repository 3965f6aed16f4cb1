-- The lemmas by which calls that follow one another are proved, as one set for `using`.
use Rattle.outside.proofs.EffectLemmas.{first_off, then_off, nothing_yet, none_off}
use Rattle.outside.proofs.BlameLemmas.{steady_none, steady_store, steady_sheet, store_blamed, sheet_blamed, no_blame, sink_no_read}

pub ruleset following = (first_off, then_off, nothing_yet, none_off, steady_none, steady_store, steady_sheet, store_blamed, sheet_blamed, no_blame, sink_no_read)
