-- One file, missing, sound or refused.
use Rattle.std.proofs.Common.{◌≡◌, ◌∷◌, [], ℕ, List, Option, Some, None, refl, sym, ap, map, option_map, unwrap_or}
use Rattle.ss_text.specs.Texts.{Text}
use Rattle.outside.specs.Tree.{Tree, file_at}
use Rattle.schema_model.specs.Catalogue.{relation_value}
use Rattle.csv_catalog.specs.declared.judge.FileFault.{FileFault}
use Rattle.csv_catalog.specs.Records.{records_of}
use Rattle.csv_catalog.specs.FileFaults.{file_fault, header_of, rows_of, told_fault}
use Rattle.csv_catalog.specs.Loaded.{label_of, files_read, files_fault, relation_of}

module _ (t : Tree) (db folder file : Text) (count : ℕ) where
  pub file_missing : None ≡ file_at t folder file → (files_fault db count (files_read t folder (file ∷ [])) ≡ None) × (map relation_of (files_read t folder (file ∷ [])) ≡ [])
  unfolding files_fault
  file_missing e = rw (← e) (refl, refl)

  pub file_sound : (bytes : List ℕ) → Some bytes ≡ file_at t folder file → file_fault count (records_of bytes) ≡ None
      → (files_fault db count (files_read t folder (file ∷ [])) ≡ None) × (map relation_of (files_read t folder (file ∷ [])) ≡ relation_value (label_of file) (header_of (records_of bytes)) (rows_of (records_of bytes)) ∷ [])
  unfolding files_fault
  file_sound bytes e sound = rw (← e, sound) (refl, refl)

  pub file_refused : (bytes : List ℕ) (f : FileFault) → Some bytes ≡ file_at t folder file → file_fault count (records_of bytes) ≡ Some f
      → files_fault db count (files_read t folder (file ∷ [])) ≡ Some (told_fault db file f)
  unfolding files_fault
  file_refused bytes f e refused = rw (← e, refused) refl

  pub front_refused : (f : FileFault) → option_map (λ (bytes : List ℕ). file_fault count (records_of bytes)) (file_at t folder file) ≡ Some (Some f) → files_fault db count (files_read t folder (file ∷ [])) ≡ Some (told_fault db file f)
  front_refused f e = refused (file_at t folder file) refl e
    where
      refused : (held : Option (List ℕ)) → file_at t folder file ≡ held → option_map (λ (bytes : List ℕ). file_fault count (records_of bytes)) held ≡ Some (Some f) → files_fault db count (files_read t folder (file ∷ [])) ≡ Some (told_fault db file f)
      refused None is e = cc e
      refused (Some bytes) is e = file_refused bytes f (sym is) (ap (λ o. unwrap_or o None) e)
