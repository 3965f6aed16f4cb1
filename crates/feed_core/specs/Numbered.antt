-- The numbers under which each source sends.
use Rattle.std.specs.Prelude.{◌≡◌, ℕ, suc, List, [], ◌∷◌, map}
use Rattle.ss_text.specs.Texts.{Text}
use Rattle.feed_core.specs.declared.arrival.Arrival.{Arrival}
use Rattle.feed_core.specs.Arrivals.{of_source}

-- numbers from one on, as many as there are arrivals
abbrev pub numbers_from : ℕ → List Arrival → List ℕ
numbers_from n [] = []
numbers_from n (a ∷ sent) = n ∷ numbers_from (suc n) sent

abbrev pub numbers_of : List Arrival → List ℕ
numbers_of sent = map (λ (a : Arrival). a.number) sent

-- the arrivals of each source are numbered from 1, each once and in order
abbrev pub AreNumbered : List Arrival → Type 0
AreNumbered sent = (source : Text) → numbers_of (of_source source sent) ≡ numbers_from 1 (of_source source sent)
