use Rattle.std.proofs.Common.{rules, tests}
use Rattle.std.specs.Str.{str_to_ascii_lowercase}
use Rattle.std.proofs.lemmas.Iterator.{YieldsList-from_slice}
use Rattle.std.proofs.lemmas.Iterator.Search.{any_from_yields_List}
use Rattle.ss_text.specs.Texts.{text_eq}
use Rattle.ss_parser.specs.Keywords.{spelling}
use Rattle.ss_parser.specs.declared.keyword.Keyword.{Keyword}
use Rattle.ss_parser.proofs.keyword.is_keyword.Goals as goal

pub returns : goal.returns
returns c = any_from_yields_List (λ (k : Keyword). text_eq (str_to_ascii_lowercase c.args.word.now) (spelling k)) _ _ _ c.any.ensures.ran (YieldsList-from_slice _ c.iter.ensures.rest) (λ x b q k. search (rules, tests))
