-- The databases of a store, one after the other.
use Rattle.std.proofs.Common.{◌≡◌, ◌<◌, ◌≤◌, ◌+◌, ◌∷◌, ◌++◌, ◌∙◌, [], ℕ, List, Some, None, Ok, Err, false, refl, sym, ap, suc, length, map, arith, append_assoc}
use Rattle.std.specs.Prelude.{filter, nat_lt}
use Rattle.std.specs.List.Sorted.{IsStrictlySortedBy}
use Rattle.std.proofs.lemmas.Bool.{le-ltb, lt-ltb}
use Rattle.std.proofs.lemmas.List.Kept.{IsStrictlySortedBy-filter}
use Rattle.std.proofs.lemmas.List.{append-nil, length-map}
use Rattle.std.proofs.lemmas.List.Sums.{sum_by_push}
use Rattle.ss_text.proofs.PlaceLemmas.{length_last}
use Rattle.ss_text.specs.Label.{is_table_label}
use Rattle.ss_text.specs.Texts.{Text, text_cmp}
use Rattle.outside.specs.Tree.{Tree}
use Rattle.schema_model.specs.Catalogue.{DatabaseValue, CatalogueValue, database_names, rows_in, row_count}
use Rattle.schema_model.specs.Sound.{AreNames}
use Rattle.schema_model.specs.declared.Which.TheVariants.{Databases}
use Rattle.csv_catalog.specs.declared.fault.LoadFault.{LoadFault}
use Rattle.csv_catalog.specs.declared.fault.LoadFault.TheVariants.{Limit}
use Rattle.csv_catalog.specs.Loaded.{loaded, catalogue_in, databases_in, database_in, database_fault, databases_fault}
use Rattle.csv_catalog.proofs.ListLemmas.{all_pass}
use Rattle.csv_catalog.proofs.PutLemmas.{names_front}
use Rattle.schema_model.specs.Limits.{most_rows, most_databases}

pub names_legal : (names : List Text) → IsStrictlySortedBy text_cmp names → AreNames (filter is_table_label names)
names_legal names h = record { ascend = IsStrictlySortedBy-filter text_cmp is_table_label names h; legal = all_pass is_table_label names }

-- with these databases left, what was loaded leads to what all give
pub record IsLoading (t : Tree) (left : List Text) (c : CatalogueValue) : Type 0 where
  pub fault : databases_fault t (row_count c) left ≡ databases_fault t 0 (databases_in t)
  pub loaded : c ++ map (database_in t) left ≡ catalogue_in t

-- what a catalogue has to fit while these databases are left
pub record MayGrow (left : List Text) (c : CatalogueValue) : Type 0 where
  pub names : AreNames (database_names c ++ left)
  pub few : length c + length left ≤ most_databases
  pub rows : row_count c ≤ most_rows

module _ (t : Tree) where
  few_databases : (names : List Text) → names ≡ databases_in t → length names ≤ most_databases → nat_lt most_databases (length (databases_in t)) ≡ false
  few_databases names are few = rw (← are) (le-ltb most_databases (length names) few)

  pub loading_starts : (names : List Text) → names ≡ databases_in t → IsLoading t names []
  loading_starts names e = rw e (record { fault = refl; loaded = refl })

  pub loading_more : (db : Text) (left : List Text) (c new : CatalogueValue) → IsLoading t (db ∷ left) c → database_fault t db (row_count c) ≡ None → new ≡ c ++ database_in t db ∷ [] → IsLoading t left new
  unfolding databases_fault
  loading_more db left c new h sound is = rw is (record {
    fault = rw (sum_by_push rows_in c (database_in t db)) (rw sound at h.fault);
    loaded = append_assoc c (database_in t db ∷ []) (map (database_in t) left) ∙ h.loaded;
  })

  pub loading_refused : (names : List Text) (db : Text) (left : List Text) (c : CatalogueValue) (e : LoadFault) → names ≡ databases_in t → length names ≤ most_databases → IsLoading t (db ∷ left) c → database_fault t db (row_count c) ≡ Some e → loaded t ≡ Err e
  unfolding loaded databases_fault
  loading_refused names db left c e are few h refused = rw (few_databases names are few, sym h.fault, refused) refl

  pub loading_done : (names left : List Text) (c : CatalogueValue) → names ≡ databases_in t → length names ≤ most_databases → left ≡ [] → IsLoading t left c → loaded t ≡ Ok c
  unfolding loaded databases_fault
  loading_done names left c are few none h =
      let r = rw none at h in
      rw (few_databases names are few, sym r.fault, sym r.loaded, append-nil c) refl

  pub too_many : (names : List Text) → names ≡ databases_in t → most_databases < length names → loaded t ≡ Err (Limit Databases)
  unfolding loaded
  too_many names are many = rw (← are, lt-ltb most_databases (length names) many) refl

module _ (db : Text) (left : List Text) (c : CatalogueValue) where
  pub grows_names : MayGrow (db ∷ left) c → AreNames (database_names c ++ db ∷ [])
  grows_names h = names_front (database_names c) left db h.names

  pub grows_place : MayGrow (db ∷ left) c → length c < most_databases
  grows_place h = below (length c) (length left) h.few
    where
      below : (n m : ℕ) → n + suc m ≤ most_databases → n < most_databases
      below n m h = omega arith

  pub grows_more : (new : CatalogueValue) → MayGrow (db ∷ left) c → database_names new ≡ database_names c ++ db ∷ [] → row_count new ≤ most_rows → MayGrow left new
  grows_more new h named few = record {
    names = rw (named, append_assoc (database_names c) (db ∷ []) left) h.names;
    few = moved (length c) (length new) (length left) longer h.few;
    rows = few;
  }
    where
      moved : (n k m : ℕ) → k ≡ suc n → n + suc m ≤ most_databases → k + m ≤ most_databases
      moved n k m e h = omega arith

      longer : length new ≡ suc (length c)
      longer =
          sym (length-map new (λ (d : DatabaseValue). d.name)) ∙ ap (λ (t : List Text). length t) named ∙ length_last (database_names c) db
          ∙ ap suc (length-map c (λ (d : DatabaseValue). d.name))
