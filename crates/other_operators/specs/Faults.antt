-- A fault of one of two operators.
use Rattle.other_operators.specs.declared.both.EitherFault.{EitherFault}
use Rattle.other_operators.specs.declared.both.EitherFault.TheVariants.{First, Second}

-- that it is one of those that are meant for the operator whose it is
abbrev pub MatchFault : {A B : Type 0} → (A → Type 0) → (B → Type 0) → EitherFault A B → Type 0
MatchFault first second (First fault) = first fault
MatchFault first second (Second fault) = second fault
