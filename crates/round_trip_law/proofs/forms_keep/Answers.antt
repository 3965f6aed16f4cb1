use Rattle.round_trip_law.proofs.ColumnsLaw as columns
use Rattle.round_trip_law.proofs.ProfileLemmas as profile
use Rattle.round_trip_law.proofs.RefusedLemmas as refused
use Rattle.round_trip_law.proofs.TablesLaw as tables
use Rattle.round_trip_law.proofs.ThroughLemmas as through
use Rattle.round_trip_law.proofs.WideLaw as wide
use Rattle.round_trip_law.proofs.forms_keep.Goals as goal

pub returns-clause-views : goal.returns-clause-views
returns-clause-views c = profile.forms_are_views

pub returns-clause-values : goal.returns-clause-values
returns-clause-values c = refused.values_are_made

pub returns-clause-by_tables : goal.returns-clause-by_tables
returns-clause-by_tables c = tables.tables_keep_rows

pub returns-clause-by_columns : goal.returns-clause-by_columns
returns-clause-by_columns c = columns.columns_keep_values

pub returns-clause-by_values : goal.returns-clause-by_values
returns-clause-by_values c = wide.values_keep_texts

pub returns-clause-through_values : goal.returns-clause-through_values
returns-clause-through_values c = through.through_values
