use Rattle.std.proofs.Common.{rules}
use Rattle.std.proofs.lemmas.List.Elements.{filter_from_retain}
use Rattle.view_folder.specs.Files.{is_csv_name}
use Rattle.view_folder.proofs.comparison.csv_names.Goals as goal

pub returns : goal.returns
returns c = filter_from_retain _ is_csv_name (λ p x b q h. search rules) _ _ _ c.retain.ensures.filtered
