-- Refusals in order.
use Rattle.std.specs.Prelude.{◌≡◌, ◌≢◌, Bool, List, [], ◌∷◌, ◌++◌, Option, Some, None, Result, MatchResult, if◌then◌else◌}
use Rattle.var_typing.specs.declared.fault.TypeFault.{TypeFault}
use Rattle.var_typing.specs.declared.fault.TypeFault.TheVariants as fault

-- this refusal, where the test holds
abbrev pub where_true : Bool → TypeFault → Option TypeFault
where_true test f = if test then Some f else None

-- the first of two refusals
infixr 5 ◌or_else◌
abbrev pub ◌or_else◌ : Option TypeFault → Option TypeFault → Option TypeFault
None or_else g = g
(Some f) or_else g = Some f

-- the first refusal of these elements from the left, each judged beside those before it
abbrev pub in_turn : {A : Type 0} → (List A → A → Option TypeFault) → List A → List A → Option TypeFault
in_turn judge before [] = None
in_turn judge before (x ∷ xs) = judge before x or_else in_turn judge (before ++ x ∷ []) xs

-- an answer is the value where nothing is refused, and else the refusal; want of memory may come in the place of either
abbrev pub Answers : {A B : Type 0} → (A → B) → Option TypeFault → B → Result A TypeFault → Type 0
Answers view refusal value answer =
    MatchResult answer (λ x. (refusal ≡ None) × (view x ≡ value)) (λ f. f ≢ fault.NoMemory → refusal ≡ Some f)

-- the same, where there is no value
abbrev pub IsJudged : {A : Type 0} → Option TypeFault → Result A TypeFault → Type 0
IsJudged refusal answer = MatchResult answer (λ x. refusal ≡ None) (λ f. f ≢ fault.NoMemory → refusal ≡ Some f)
