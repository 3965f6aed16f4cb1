-- How keywords are spelled.
use Rattle.std.specs.Prelude.{codes}
use Rattle.ss_text.specs.Texts.{Text}
use Rattle.ss_parser.specs.declared.keyword.Keyword.{Keyword}
use Rattle.ss_parser.specs.declared.keyword.Keyword.TheVariants as keyword

abbrev pub spelling : Keyword → Text
spelling keyword.Create = codes "create"
spelling keyword.View = codes "view"
spelling keyword.As = codes "as"
spelling keyword.Select = codes "select"
spelling keyword.From = codes "from"
spelling keyword.Where = codes "where"
spelling keyword.And = codes "and"
spelling keyword.Or = codes "or"
spelling keyword.Not = codes "not"
