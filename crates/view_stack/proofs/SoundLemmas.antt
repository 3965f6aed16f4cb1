-- The catalogue that tables are is sound where a sound one stands for them.
use Rattle.std.proofs.Common.{◌≡◌, ◌≤◌, ◌||◌, Bool, true, false, List, [], ◌∷◌, length, map, refl, sym, subst, arith}
use Rattle.std.specs.List.{AllByRecursion, list_all}
use Rattle.std.proofs.lemmas.Bool.{ltb-false}
use Rattle.std.proofs.lemmas.List.Sums.{sum_by-cons}
use Rattle.ss_text.specs.Texts.{Text}
use Rattle.ss_text.specs.Label.{is_table_label}
use Rattle.flow_law.specs.declared.shape.Shape.{Shape}
use Rattle.flow_law.specs.Tables.{TableValue, TablesValue, labels_of}
use Rattle.flow_law.specs.InOrder.{IsTable, AreTables}
use Rattle.change_script.specs.Fits.{IsForm, TableFits, TablesFit}
use Rattle.schema_model.specs.Catalogue.{RelationValue, CatalogueValue, relation_names, rows_in}
use Rattle.schema_model.specs.Limits.{most_attributes}
use Rattle.schema_model.specs.Sound.{AreNames, IsRelation, IsDatabase, IsSound}
use Rattle.view_stack.specs.Limits.{is_wide}
use Rattle.view_stack.specs.Stands.{header, relation_for, database_for, catalogue_for, stands}
use Rattle.view_stack.proofs.MovedLemmas.{AreSaid, whole}
use Rattle.view_stack.proofs.StandsLemmas.{header_long, header_distinct, records_fit, stands_said}
use Rattle.view_stack.proofs.LimitLemmas.{sound_within}
use Rattle.view_stack.proofs.SlotLemmas.{some_wide, names_are, relations_long, rows_of_database, IsWithin, within}

module _ (shape : Shape) (form : IsForm shape) (some : 1 ≤ length shape.constants) where
  relation_sound : (p : Text × TableValue) → IsTable p.1 → TableFits shape p.0 p.1 → is_wide (relation_for shape p) ≡ false → IsRelation (relation_for shape p)
  relation_sound p table fit narrow = record {
    header = record {
      some = let n = header_long shape p.0 p.1 fit in omega (arith, n, some);
      few = ltb-false most_attributes (length (header shape p.1)) narrow;
      distinct = header_distinct shape p.0 p.1 table fit form;
    };
    fits = records_fit shape p.0 p.1 table fit p.1.rows fit.keys table.cells;
  }

  relations_sound : (ts : TablesValue) → AllByRecursion (λ (p : Text × TableValue). IsTable p.1) ts → TablesFit shape ts → some_wide shape ts ≡ false → AllByRecursion IsRelation (map (relation_for shape) ts)
  relations_sound [] tables fits narrow = tt
  relations_sound (p ∷ ps) tables fits narrow =
      let parts = neither (is_wide (relation_for shape p)) (some_wide shape ps) narrow in
      (relation_sound p tables.0 fits.0 parts.0, relations_sound ps tables.1 fits.1 parts.1)
    where
      neither : (a b : Bool) → (a || b) ≡ false → (a ≡ false) × (b ≡ false)
      neither true b h = absurd (cc)
      neither false b h = (refl, h)

  labels_legal : (ts : TablesValue) → TablesFit shape ts → list_all is_table_label (labels_of ts) ≡ true
  labels_legal [] fits = refl
  labels_legal (p ∷ ps) fits = rw (fits.0.legal, labels_legal ps fits.1) refl

  module _ (db : Text) (ts : TablesValue) (order : AreTables ts) (fits : TablesFit shape ts) (rs : List RelationValue) (sound : IsSound (whole db rs)) (said : AreSaid shape.constants rs ts) where
    are : IsWithin db shape ts
    are = within db shape ts (sound_within shape db rs ts sound said fits)

    names : AreNames (relation_names (database_for db shape ts))
    names = subst AreNames (sym (names_are db shape ts)) (record { ascend = order.labels; legal = labels_legal ts fits })

    database_sound : IsDatabase (database_for db shape ts)
    database_sound = record {
      names = names;
      few = let long = relations_long db shape ts in let few = are.few in omega (arith, long, few);
      relations = relations_sound ts order.tables fits are.narrow;
    }

    whole_sound : IsSound (catalogue_for db shape ts)
    whole_sound = record {
      names = sound.names;
      few = sound.few;
      databases = (database_sound, tt);
      rows =
          let total = sum_by-cons rows_in (database_for db shape ts) [] in
          let own = rows_of_database db shape ts in
          let room = are.room in
          omega (arith, total, own, room);
    }

  pub stands_sound : (db : Text) (c : CatalogueValue) (ts : TablesValue) → IsSound c → AreTables ts → TablesFit shape ts → stands db shape ts c → IsSound (catalogue_for db shape ts)
  stands_sound db c ts sound order fits h =
      let said = stands_said shape db c ts sound order fits h in
      whole_sound db ts order fits said.0 (subst IsSound said.1 sound) said.2
