-- A piece that is read into a buffer.
use Rattle.std.proofs.Common.{◌≡◌, ◌≤◌, ℕ, List, ◌++◌, length, take, Option, Some, [], sym, ap, ◌∙◌}
use Rattle.std.proofs.lemmas.List.{take-append-le, take-take}
use Rattle.outside.specs.Streams.{before, CameLast}

-- what was moved to the front of a buffer stands at its front
pub moved_front : (rest later : Option (List ℕ)) (given behind : List ℕ) (n m : ℕ) → rest ≡ before (take n given) later → n ≤ length given → n ≤ m → rest ≡ before (take n (take m (given ++ behind))) later
moved_front rest later given behind n m moved within fits = moved ∙ ap (λ (t : List ℕ). before t later) (sym (take-take n m (given ++ behind) fits ∙ take-append-le n given behind within))

-- and so do the bytes that the last read gave
pub came_to_front : (last : Option (List ℕ)) (given behind : List ℕ) (n m : ℕ) → ((told : List ℕ) → last ≡ Some told → told ≡ take n given) → n ≤ length given → n ≤ m → CameLast last (take n (take m (given ++ behind)))
came_to_front last given behind n m gave within fits = λ told is. ([], gave told is ∙ (sym (take-take n m (given ++ behind) fits ∙ take-append-le n given behind within)))
