-- Folders in memory, as contracts see them.
use Rattle.std.specs.Prelude.{ℕ, List, refl}
use Rattle.std.specs.Coded.{Coded, code_by, coded×, coded_ℕ, coded_list}
use base.Stored.{coded_unit}
use Rattle.std.specs.FinMap as map
use Rattle.outside.specs.Calls.{Calls}
use Rattle.ss_text.specs.Texts.{text_cmp}
use Rattle.outside.specs.Tree.{Tree, place_cmp}
use Rattle.outside.specs.Stored.{Stored}

-- what they hold, and the calls that read, and those that write or remove
pub record MemFoldersState : Type 0 where
  pub tree : Tree
  pub writes : ℕ
  pub reads : Calls
  pub changes : Calls

abbrev pub coded_text : Coded (List ℕ)
coded_text = coded_list coded_ℕ

abbrev pub coded_tree : Coded Tree
coded_tree = code_by (map.FinMap text_cmp (Unit {0}) × map.FinMap place_cmp (List ℕ)) (coded× (map.code coded_text coded_unit) (map.code (coded× coded_text coded_text) coded_text)) (λ t. (t.folders, t.files)) (λ p. record { folders = p.0; files = p.1 }) (λ _. refl)

abbrev pub coded_calls : Coded Calls
coded_calls = code_by (List ℕ × ℕ) (coded× coded_text coded_ℕ) (λ c. (c.fails, c.calls)) (λ p. record { fails = p.0; calls = p.1 }) (λ _. refl)

abbrev pub coded_stored : Coded Stored
coded_stored = code_by (Tree × ℕ) (coded× coded_tree coded_ℕ) (λ s. (s.tree, s.writes)) (λ p. record { tree = p.0; writes = p.1 }) (λ _. refl)

abbrev pub coded_state : Coded MemFoldersState
coded_state = code_by (Tree × (ℕ × (Calls × Calls))) (coded× coded_tree (coded× coded_ℕ (coded× coded_calls coded_calls))) (λ s. (s.tree, (s.writes, (s.reads, s.changes)))) (λ p. record { tree = p.0; writes = p.1.0; reads = p.1.1.0; changes = p.1.1.1 }) (λ _. refl)
