-- The indexes that were made, by the names of their relations and attributes.
use Rattle.std.proofs.Common.{◌≡◌, Bool, true, false, cond, ◌&&◌, List, [], ◌∷◌, Some, refl}
use Rattle.std.specs.Map.{lookup}
use denote.Ref.{Bor}
use Rattle.indexmap.specs.IndexMap.{insert_entry}
use Rattle.ss_text.specs.Texts.{Text, text_eq}
use Rattle.ss_text.proofs.KeyLemmas.{text_order, equal_is}
use Rattle.schema_model.specs.Catalogue.{CatalogueValue}
use Rattle.valuation_meaning.specs.declared.index.Lists.{Lists}
use Rattle.valuation_meaning.specs.Indexed.{Indexed}
use Rattle.valuation_meaning.specs.Found.{found_in, found_under, IsMade, AreMade}

abbrev Names : Type 0
Names = Bor Text × Bor Text × Bor Text

abbrev names_eq : Names → Names → Bool
names_eq x y = (text_eq x.0.now y.0.now && text_eq x.1.now y.1.now) && text_eq x.2.now y.2.now

both : (a b : Bool) → a && b ≡ true → (a ≡ true) × (b ≡ true)
both true true h = (refl, refl)
both true false h = absurd (cc)
both false b h = absurd (cc)

-- equal names name the same
module _ (c : CatalogueValue) (x y : Names) (same : names_eq x y ≡ true) where
  db_is : x.0.now ≡ y.0.now
  db_is = equal_is text_order x.0.now y.0.now (both (text_eq x.0.now y.0.now) (text_eq x.1.now y.1.now) (both (text_eq x.0.now y.0.now && text_eq x.1.now y.1.now) (text_eq x.2.now y.2.now) same).0).0

  rel_is : x.1.now ≡ y.1.now
  rel_is = equal_is text_order x.1.now y.1.now (both (text_eq x.0.now y.0.now) (text_eq x.1.now y.1.now) (both (text_eq x.0.now y.0.now && text_eq x.1.now y.1.now) (text_eq x.2.now y.2.now) same).0).1

  attribute_is : x.2.now ≡ y.2.now
  attribute_is = equal_is text_order x.2.now y.2.now (both (text_eq x.0.now y.0.now && text_eq x.1.now y.1.now) (text_eq x.2.now y.2.now) same).1

  renamed : (i : Indexed) → IsMade c (y, i) → IsMade c (x, i)
  renamed i made = rw (db_is, rel_is, attribute_is) made

  renamed_back : (i : Indexed) → IsMade c (x, i) → IsMade c (y, i)
  renamed_back i made = rw (← db_is, ← rel_is, ← attribute_is) made

-- one index more
pub made_more : (c : CatalogueValue) (es : List (Names × Indexed)) (x : Names) (i : Indexed) → AreMade c es → IsMade c (x, i) → AreMade c (insert_entry names_eq es x i)
made_more c [] x i all made = (made, tt)
made_more c (e ∷ es) x i all made = by_names (names_eq x e.0) refl (made_more c es x i all.1 made)
  where
    by_names : (b : Bool) → names_eq x e.0 ≡ b → AreMade c (insert_entry names_eq es x i) → AreMade c (cond b ((e.0, i) ∷ es) (e ∷ insert_entry names_eq es x i))
    by_names true same rest = (renamed_back c x e.0 same i made, all.1)
    by_names false other rest = (all.0, rest)

-- the index of names is of their relation and attribute
pub made_of : (c : CatalogueValue) (es : List (Names × Indexed)) (x : Names) (i : Indexed) → AreMade c es → Some i ≡ lookup (names_eq x) es → IsMade c (x, i)
made_of c [] x i all is = absurd (cc)
made_of c (e ∷ es) x i all is = by_names (names_eq x e.0) refl is (made_of c es x i all.1)
  where
    by_names : (b : Bool) → names_eq x e.0 ≡ b → Some i ≡ cond b (Some e.1) (lookup (names_eq x) es) → (Some i ≡ lookup (names_eq x) es → IsMade c (x, i)) → IsMade c (x, i)
    by_names true same one behind =
        let last : i ≡ e.1 = cc in
        rw last (renamed c x e.0 same e.1 all.0)
    by_names false other rest behind = behind rest

-- what it finds
pub found_by : (c : CatalogueValue) (ls : Lists) (x : Names) (i : Indexed) (t : Text) → IsMade c (x, i) → found_in ls i t ≡ found_under c ls x.0.now x.1.now x.2.now t
found_by c ls x i t made = rw (made.0, ← made.1) refl
