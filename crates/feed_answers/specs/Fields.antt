-- Why a line is refused.
use Rattle.std.specs.Prelude.{[]}
use Rattle.ss_text.specs.Texts.{Row}
use Rattle.schema_model.specs.declared.change.Change.{Change}
use Rattle.apply_law.specs.declared.refused.GroupRefused.{GroupRefused}
use Rattle.apply_law.specs.declared.refused.GroupRefused.TheVariants as refused
use Rattle.ss_print.specs.Fields.{escape_fields, verb_fields, count_fields, number_fields, refusal_fields, illegal_fields, clash_fields}
use Rattle.feed_answers.specs.declared.fault.FeedFault.{FeedFault}
use Rattle.feed_answers.specs.declared.fault.FeedFault.TheVariants as line

-- a line that says nothing; want of memory is no refusal
abbrev pub line_fault_fields : FeedFault → Row
line_fault_fields (line.BadEscape at) = escape_fields at
line_fault_fields (line.UnknownVerb verb) = verb_fields verb
line_fault_fields (line.FieldCount verb got) = count_fields verb got
line_fault_fields (line.BadNumber number) = number_fields number
line_fault_fields line.NoMemory = []

-- a change that is not made; want of memory is no refusal
abbrev pub reply_refused_fields : Change → GroupRefused → Row
reply_refused_fields g (refused.Change place r) = refusal_fields g r
reply_refused_fields g (refused.Illegal label) = illegal_fields label
reply_refused_fields g (refused.Conflict clash) = clash_fields clash
reply_refused_fields g refused.NoMemory = []
