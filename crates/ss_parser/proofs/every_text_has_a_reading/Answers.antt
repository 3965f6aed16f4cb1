use Rattle.ss_parser.proofs.EveryText.{every_text}
use Rattle.ss_parser.proofs.every_text_has_a_reading.Goals as goal

pub returns : goal.returns
returns c = every_text
