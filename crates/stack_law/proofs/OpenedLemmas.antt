-- What is known of definitions that were all accepted.
use Rattle.std.proofs.Common.{◌≡◌, ◌≢◌, ◌≤◌, length, List, [], ◌∷◌, ◌++◌, map, refl, sym, ap, ◌∙◌, subst, arith}
use Rattle.std.specs.Prelude.{Result, Ok, Err}
use Rattle.std.specs.List.{AllByRecursion}
use Rattle.ss_text.specs.Texts.{Text, Row}
use Rattle.outside.specs.Tree.{Tree}
use Rattle.view_def.specs.Query.{Query}
use Rattle.view_def.specs.Profile.{IsViewOfProfile}
use Rattle.view_stages.specs.Opened.{view_exempt}
use Rattle.view_stages.specs.Opening.{IsDefinition, definition_bytes}
use Rattle.view_stages.specs.Places.{Exempt}
use Rattle.view_stages.specs.Stages.{Accepted, DefinitionOrRefusal}
use Rattle.upkeep_law.proofs.TakeLemmas.{definition_of_profile}
use Rattle.stack_answers.specs.Opening.{with_first, all_accepted}
use Rattle.stack_law.specs.Promises.{folders_of}

-- the first was accepted, and so were those behind it
record AreAccepted (d : DefinitionOrRefusal) (r : Result (List Query) Row) (qs : List Query) : Type 0 where
  accepted : Accepted
  queries : List Query
  defined : d ≡ Ok accepted
  rest : r ≡ Ok queries
  are : qs ≡ accepted.query ∷ queries

abbrev accepted_queries : (r : Result (List Query) Row) (qs : List Query) → List Query
accepted_queries (Ok ps) qs = ps
accepted_queries (Err fields) qs = qs

first_accepted : (d : DefinitionOrRefusal) (r : Result (List Query) Row) (qs : List Query) → with_first d r ≡ Ok qs → AreAccepted d r qs
first_accepted (Err fields) r qs h = absurd (cc h)
first_accepted (Ok a) (Err fields) qs h = absurd (cc h)
first_accepted (Ok a) (Ok ps) qs h = record { accepted = a; queries = ps; defined = refl; rest = refl; are = ap (λ (x : Result (List Query) Row). accepted_queries x qs) (sym h) }

-- they are some, where the definitions are
pub accepted_some : (ds : List DefinitionOrRefusal) → ds ≢ [] → all_accepted ds ≡ Ok [] → ⊥
accepted_some [] some h = some refl
accepted_some (d ∷ ds) some h = let are = (first_accepted d (all_accepted ds) [] h).are in absurd (cc are)

-- what is exempt of them are their folders
abbrev pub all_exempt : List DefinitionOrRefusal → List Exempt
all_exempt [] = []
all_exempt (d ∷ ds) = view_exempt d ++ all_exempt ds

pub accepted_exempt : (ds : List DefinitionOrRefusal) (qs : List Query) → all_accepted ds ≡ Ok qs → all_exempt ds ≡ folders_of qs
accepted_exempt [] qs h = ap folders_of (ap (λ (x : Result (List Query) Row). accepted_queries x qs) h)
accepted_exempt (d ∷ ds) qs h =
    let first = first_accepted d (all_accepted ds) qs h in
    ap (λ (x : DefinitionOrRefusal). view_exempt x ++ all_exempt ds) first.defined
    ∙ ap (λ (xs : List Exempt). view_exempt (Ok first.accepted) ++ xs) (accepted_exempt ds first.queries first.rest)
    ∙ ap folders_of (sym first.are)

-- and each is of the profile
pub accepted_profiles : (names : List Text) (t : Tree) (ds : Text → DefinitionOrRefusal) → AllByRecursion (λ name. IsDefinition name (definition_bytes t name) (ds name)) names
    → (qs : List Query) → all_accepted (map ds names) ≡ Ok qs → AllByRecursion IsViewOfProfile qs
accepted_profiles [] t ds defined qs h = subst (AllByRecursion IsViewOfProfile) (ap (λ (x : Result (List Query) Row). accepted_queries x qs) h) tt
accepted_profiles (name ∷ names) t ds defined qs h =
    let first = first_accepted (ds name) (all_accepted (map ds names)) qs h in
    subst (AllByRecursion IsViewOfProfile) (sym first.are)
    (definition_of_profile name (definition_bytes t name) first.accepted (subst (IsDefinition name (definition_bytes t name)) first.defined defined.0), accepted_profiles names t ds defined.1 first.queries first.rest)

pub names_some : (names : List Text) (ds : Text → DefinitionOrRefusal) → 1 ≤ length names → map ds names ≢ []
names_some [] ds some h = absurd (omega (arith, some))
names_some (name ∷ names) ds some h = absurd (cc h)
