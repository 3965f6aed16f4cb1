use Rattle.std.proofs.Common.{rules}
use Rattle.std.proofs.lemmas.List.Elements.{filter_from_retain}
use Rattle.ss_text.specs.Label.{is_table_label}
use Rattle.csv_catalog.proofs.loading.legal_names.Goals as goal

pub returns : goal.returns
returns c = filter_from_retain _ is_table_label (λ p x b q h. search rules) _ _ _ c.retain.ensures.filtered
