mod OperatorPlaces
mod UnitedNames
mod PageLemmas
mod Moved
mod FactTests
mod WaitLemmas
