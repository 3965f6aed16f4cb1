-- PairTest and own tests of two small views.
use Rattle.std.proofs.Common.{◌≡◌, List, [], ◌∷◌, refl, Option, Some, None}
use Rattle.view_def.specs.declared.written.Op.TheVariants.{Eq}
use Rattle.plan_law.specs.Kinds.{Term, Range}
use Rattle.plan_law.specs.Kinds.place
use Rattle.plan_law.specs.Kinds.term
use Rattle.plan_law.specs.Kinds.range
use Rattle.view_def.specs.Conditions.{Condition, Compares}
use Rattle.view_def.specs.Query.{Query}
use Rattle.plan_law.specs.Columns.{header}
use Rattle.plan_law.specs.Links.{keys_of}

abbrev query : List Term → List Range → Option Condition → Query
query keys decls condition = record {
  view_db = 118 ∷ [];
  label = place.Fixed (119 ∷ []);
  constants = (99 ∷ []) ∷ [];
  keys = keys;
  spot = None;
  column = None;
  value = None;
  decls = decls;
  condition = condition;
}

-- SELECT T.a FROM d::r T, d::r S WHERE T.a = S.b
abbrev tuples : Range
tuples = range.Tuples (place.Fixed (100 ∷ [])) (place.Fixed (114 ∷ []))

abbrev self_join : Query
self_join = query (term.Cell 0 (place.Fixed (97 ∷ [])) ∷ []) (tuples ∷ tuples ∷ []) (Some (Compares (term.Cell 0 (place.Fixed (97 ∷ []))) Eq (term.Cell 1 (place.Fixed (98 ∷ [])))))

-- the cells of `a` and `b` stand behind the two names
self_join_keys : keys_of self_join (header self_join 0 tuples) (header self_join 1 tuples) ≡ (2, 2) ∷ []
self_join_keys = refl

-- SELECT T.D FROM d::r -> D, d::r T: the name that T picks is D
abbrev folded : Query
folded = query (term.Cell 1 (place.Var 0) ∷ []) (range.Attributes (place.Fixed (100 ∷ [])) (place.Fixed (114 ∷ [])) ∷ tuples ∷ []) None

folded_keys : keys_of folded (header folded 0 (range.Attributes (place.Fixed (100 ∷ [])) (place.Fixed (114 ∷ [])))) (header folded 1 tuples) ≡ (2, 2) ∷ []
folded_keys = refl

-- in the other order the key is the same pair, the other way round
abbrev turned : Query
turned = query (term.Cell 0 (place.Var 1) ∷ []) (tuples ∷ range.Attributes (place.Fixed (100 ∷ [])) (place.Fixed (114 ∷ [])) ∷ []) None

turned_keys : keys_of turned (header turned 0 tuples) (header turned 1 (range.Attributes (place.Fixed (100 ∷ [])) (place.Fixed (114 ∷ [])))) ≡ (2, 2) ∷ []
turned_keys = refl
