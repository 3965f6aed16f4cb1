-- What stands before SELECT, as plain data.
use Rattle.ss_parser.specs.declared.view.Header.{Header}
use Rattle.ss_parser.specs.Views.{Head}

abbrev pub head_in : Header → Head
head_in h = record { view_db = h.view_db; label = h.label; columns = h.columns.items }
