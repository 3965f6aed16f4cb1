-- A change that a line says is well formed.
use Rattle.std.proofs.Common.{◌≡◌, Bool, true, false, cond, List, ◌∷◌, [], Some, refl, subst, length, suc, ℕ, arith}
use Rattle.std.specs.Prelude.{Ok, Err, IfOk, IsTrue, nat_le, find}
use Rattle.std.specs.List.{AllByRecursion}
use Rattle.std.specs.Option.{option_map_or}
use Rattle.std.proofs.lemmas.Bool.Decides.{nat_tests}
use Rattle.ss_text.specs.Texts.{Row, text_eq}
use Rattle.schema_model.specs.Changes.{is_well_formed}
use Rattle.schema_model.specs.declared.change.Change.{Change}
use Rattle.schema_model.specs.declared.change.ChangeFault.TheVariants.{UnknownVerb}
use Rattle.schema_model.specs.Reading.{Read, change_of, verb_name, all_verbs, said_by, insert_of, delete_of, add_attribute_of, drop_attribute_of, rename_attribute_of, create_relation_of, drop_relation_of, rename_relation_of, create_database_of, drop_database_of, rename_database_of}

abbrev Formed : Read → Type 0
Formed r = IfOk r (λ (g : Change). IsTrue (is_well_formed g))

-- what one of these verbs says
found_formed : {V : Type 0} (p : V → Bool) (said : V → Read) (none : Read) (vs : List V) → AllByRecursion (λ v. Formed (said v)) vs → Formed none → Formed (option_map_or said (find p vs) none)
found_formed p said none [] each h = h
found_formed p said none (v ∷ vs) each h = by_test (p v) (found_formed p said none vs each.1 h)
  where
    by_test : (b : Bool) → Formed (option_map_or said (find p vs) none) → Formed (option_map_or said (cond b (Some v) (find p vs)) none)
    by_test true later = each.0
    by_test false later = later

insert_formed : (fields : Row) → Formed (insert_of fields)
insert_formed [] = tt
insert_formed (db ∷ []) = tt
insert_formed (db ∷ rel ∷ row) = refl

delete_formed : (fields : Row) → Formed (delete_of fields)
delete_formed [] = tt
delete_formed (db ∷ []) = tt
delete_formed (db ∷ rel ∷ row) = refl

add_formed : (fields : Row) → Formed (add_attribute_of fields)
add_formed [] = tt
add_formed (db ∷ []) = tt
add_formed (db ∷ rel ∷ []) = tt
add_formed (db ∷ rel ∷ name ∷ []) = tt
add_formed (db ∷ rel ∷ name ∷ fill ∷ []) = refl
add_formed (db ∷ rel ∷ name ∷ fill ∷ more ∷ rest) = tt

drop_formed : (fields : Row) → Formed (drop_attribute_of fields)
drop_formed [] = tt
drop_formed (db ∷ []) = tt
drop_formed (db ∷ rel ∷ []) = tt
drop_formed (db ∷ rel ∷ name ∷ []) = refl
drop_formed (db ∷ rel ∷ name ∷ more ∷ rest) = tt

rename_formed : (fields : Row) → Formed (rename_attribute_of fields)
rename_formed [] = tt
rename_formed (db ∷ []) = tt
rename_formed (db ∷ rel ∷ []) = tt
rename_formed (db ∷ rel ∷ name ∷ []) = tt
rename_formed (db ∷ rel ∷ name ∷ to ∷ []) = refl
rename_formed (db ∷ rel ∷ name ∷ to ∷ more ∷ rest) = tt

one_at_least : (n : ℕ) → nat_le 1 (suc n) ≡ true
one_at_least n = grind (arith, nat_tests)

create_formed : (fields : Row) → Formed (create_relation_of fields)
create_formed [] = tt
create_formed (db ∷ []) = tt
create_formed (db ∷ rel ∷ []) = tt
create_formed (db ∷ rel ∷ first ∷ attributes) = one_at_least (length attributes)

drop_relation_formed : (fields : Row) → Formed (drop_relation_of fields)
drop_relation_formed [] = tt
drop_relation_formed (db ∷ []) = tt
drop_relation_formed (db ∷ rel ∷ []) = refl
drop_relation_formed (db ∷ rel ∷ more ∷ rest) = tt

rename_relation_formed : (fields : Row) → Formed (rename_relation_of fields)
rename_relation_formed [] = tt
rename_relation_formed (db ∷ []) = tt
rename_relation_formed (db ∷ rel ∷ []) = tt
rename_relation_formed (db ∷ rel ∷ to ∷ []) = refl
rename_relation_formed (db ∷ rel ∷ to ∷ more ∷ rest) = tt

create_database_formed : (fields : Row) → Formed (create_database_of fields)
create_database_formed [] = tt
create_database_formed (db ∷ []) = refl
create_database_formed (db ∷ more ∷ rest) = tt

drop_database_formed : (fields : Row) → Formed (drop_database_of fields)
drop_database_formed [] = tt
drop_database_formed (db ∷ []) = refl
drop_database_formed (db ∷ more ∷ rest) = tt

rename_database_formed : (fields : Row) → Formed (rename_database_of fields)
rename_database_formed [] = tt
rename_database_formed (db ∷ []) = tt
rename_database_formed (db ∷ to ∷ []) = refl
rename_database_formed (db ∷ to ∷ more ∷ rest) = tt

read_formed : (row : Row) → Formed (change_of row)
read_formed [] = tt
read_formed (name ∷ fields) =
    found_formed (λ v. text_eq name (verb_name v)) (λ v. said_by v fields) (Err UnknownVerb) all_verbs
    (insert_formed fields, (delete_formed fields, (add_formed fields, (drop_formed fields, (rename_formed fields, (create_formed fields, (drop_relation_formed fields, (rename_relation_formed fields, (create_database_formed fields, (drop_database_formed fields, (rename_database_formed fields, tt))))))))))) tt

pub formed : (row : Row) (g : Change) → change_of row ≡ Ok g → IsTrue (is_well_formed g)
formed row g e = subst Formed e (read_formed row)
