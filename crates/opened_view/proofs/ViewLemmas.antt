-- What an opened view is asked.
use Rattle.std.proofs.Common.{◌≡◌, ℕ, false, List, length, Option, None, Some, is_some, refl, ap}
use Rattle.std.specs.Prelude.{option_map}

-- a group is open where its changes are counted, and none is where none is held
pub there_counted : {A : Type 0} (o : Option (List A)) (n : Option ℕ) → n ≡ option_map length o → is_some n ≡ is_some o
there_counted None n e = ap is_some e
there_counted (Some xs) n e = ap is_some e

pub none_open : {A : Type 0} (o : Option A) → is_some o ≡ false → o ≡ None
none_open None e = refl
none_open (Some x) e = absurd (cc e)
