-- Definitions that are read one behind the other.
use Rattle.std.proofs.Common.{◌≡◌, ◌∙◌, suc, List, [], ◌∷◌, ◌++◌, length, Option, Some, None, refl, sym, ap, append_assoc, append-nil, arith}
use Rattle.std.specs.Prelude.{Result}
use Rattle.ss_text.specs.Texts.{Text, Row}
use Rattle.outside.specs.Tree.{Tree}
use Rattle.view_def.specs.Query.{Query}
use Rattle.view_stages.specs.Stages.{DefinitionOrRefusal}
use Rattle.view_stages.specs.Opening.{IsDefinition, definition_bytes}
use Rattle.view_stages.specs.Steps.{definition_of}
use Rattle.view_stages.specs.declared.accepted.Definition.{Definition}
use Rattle.view_stages.specs.declared.definition.Understood.{Understood}
use Rattle.view_stages.specs.declared.definition.Understood.TheVariants as understood
use Rattle.stack_answers.specs.Opening.{all_accepted, with_first}
use Rattle.stack_answers.specs.Definitions.{AreDefinitions, AreAll, AreRead, read_as}

-- what is understood of a name is its definition
abbrev pub IsUnderstood : Option Tree → Text → Understood → Type 0
IsUnderstood told name r = (t : Tree) (d : DefinitionOrRefusal) → told ≡ Some t → IsDefinition name (definition_bytes t name) d → definition_of r ≡ d

-- no name is left
pub none_read : (told : Option Tree) (names : List Text) (ds : List Definition) → length names ≡ 0 → AreRead told names None ds ds
none_read told (name ∷ names) ds none = absurd (omega (arith, none))
none_read told [] ds none = record { more = []; are = sym (append-nil ds); many = refl; as_told = λ t xs is are. no_more t xs are }
  where
    no_more : (t : Tree) (xs : List DefinitionOrRefusal) → AreDefinitions t [] xs → read_as None [] ≡ all_accepted xs
    no_more t [] are = refl
    no_more t (x ∷ xs) are = absurd are

-- the first is refused
pub refused_read : (told : Option Tree) (names rest : List Text) (name : Text) (fields : Row) (ds : List Definition) → names ≡ name ∷ rest → IsUnderstood told name (understood.Refused fields) → AreRead told names (Some fields) ds ds
refused_read told names rest name fields ds split first = rw split (record { more = []; are = sym (append-nil ds); many = tt; as_told = λ t xs is are. refuses t xs is are })
  where
    refuses : (t : Tree) (xs : List DefinitionOrRefusal) → told ≡ Some t → AreDefinitions t (name ∷ rest) xs → read_as (Some fields) [] ≡ all_accepted xs
    refuses t [] is are = absurd are
    refuses t (x ∷ xs) is are = ap (λ (d : DefinitionOrRefusal). with_first d (all_accepted xs)) (first t x is are.0)

-- the first is accepted
pub one_read : (told mid : Option Tree) (names rest : List Text) (name : Text) (d : Definition) (fields : Option Row) (old put new : List Definition) → names ≡ name ∷ rest → mid ≡ told → put ≡ old ++ d ∷ []
    → IsUnderstood told name (understood.Accepted d) → AreRead mid rest fields put new → AreRead told names fields old new
one_read told mid names rest name d fields old put new split same puts first h =
    rw split (record {
      more = d ∷ h.more;
      are = h.are ∙ ap (λ (ds : List Definition). ds ++ h.more) puts ∙ append_assoc old (d ∷ []) h.more;
      many = all_of fields h.many;
      as_told = λ t xs is are. accepts t xs is are;
    })
  where
    all_of : (o : Option Row) → AreAll rest o h.more → AreAll (name ∷ rest) o (d ∷ h.more)
    all_of None many = ap suc many
    all_of (Some f) many = tt

    joined : (o : Option Row) (r : Result (List Query) Row) → read_as o h.more ≡ r → read_as o (d ∷ h.more) ≡ with_first (definition_of (understood.Accepted d)) r
    joined None r e = ap (with_first (definition_of (understood.Accepted d))) e
    joined (Some f) r e = ap (with_first (definition_of (understood.Accepted d))) e

    accepts : (t : Tree) (xs : List DefinitionOrRefusal) → told ≡ Some t → AreDefinitions t (name ∷ rest) xs → read_as fields (d ∷ h.more) ≡ all_accepted xs
    accepts t [] is are = absurd are
    accepts t (x ∷ xs) is are = joined fields (all_accepted xs) (h.as_told t xs (same ∙ is) are.1) ∙ ap (λ (y : DefinitionOrRefusal). with_first y (all_accepted xs)) (first t x is are.0)
