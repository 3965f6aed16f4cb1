-- What the code holds of a term that is resolved.
use Rattle.view_def.specs.declared.typed.Term.{Term}
use Rattle.view_def.specs.declared.typed.Term.TheVariants as term
use Rattle.valuation_meaning.specs.declared.operand.Operand.{Operand}
use Rattle.valuation_meaning.specs.declared.operand.Operand.TheVariants as operand

abbrev pub operand_term : Operand → Term
operand_term (operand.Term t) = t.now
operand_term (operand.Cell k a) = term.Cell k a.now
