-- What is in a folder after the later sync.
use Rattle.std.proofs.Common.{◌≡◌, ◌≢◌, ◌+◌, ◌-◌, ◌<◌, ◌≤◌, ◌∙◌, ℕ, suc, Bool, true, false, cond, List, [], ◌∷◌, ◌++◌, map as each, filter, length, take, drop, get_or, Option, None, Some, is_some, Result, Ok, Err, Bor, not, refl, sym, ap, subst, arith, length-append, add-one, drop-cons}
use Rattle.std.specs.Prelude.{◌||◌, codes, option_map, unwrap_or, IfOk}
use Rattle.std.specs.FinMap as map
use Rattle.std.specs.Option.{option_map_or, option_copied}
use Rattle.std.specs.Int.{from_bool}
use Rattle.std.specs.List.{list_any}
use Rattle.std.specs.List.Sorted.{IsStrictlySortedBy}
use Rattle.std.proofs.lemmas.List.Folds.{list_any-append}
use Rattle.std.proofs.Math.Seq.{drop-append_seam, drop-length}
use Rattle.std.proofs.lemmas.Bool.{false_from_ne_true, false≢true, or_right, or_parts}
use Rattle.std.proofs.lemmas.List.{append_cancel_right, take-append-drop}
use Rattle.ss_text.specs.Texts.{Text, text_cmp, text_eq, is_in}
use Rattle.ss_text.proofs.KeyLemmas.{text_order, equal_itself, equal_is}
use Rattle.outside.specs.Counts.{risen}
use Rattle.outside.specs.Tree.{Tree, Place, file_at}
use Rattle.outside.specs.declared.stop.Stop.{Stop}
use Rattle.outside.specs.Edits.{edited, all_edited}
use Rattle.outside.specs.declared.edit.Edit.TheVariants as edit
use Rattle.outside.specs.Effects.{world_of, Does, Write, Remove, Replace, Stored, Contents, stored_of, contents, after, performed, writing, removing}
use Rattle.outside.specs.Performing.{Performs}
use Rattle.outside.proofs.EffectLemmas.{told_tree}
use Rattle.outside.specs.States.{StoreState, SinkState}
use Rattle.flow_law.specs.declared.shape.Shape.{Shape}
use Rattle.flow_law.specs.Tables.{TableValue, TablesValue, table_of, labels_of}
use Rattle.view_folder.specs.Files.{bytes_in, is_csv_name, file_name, Apart}
use Rattle.view_folder.specs.TableFiles.{table_text, table_file, table_files, FitsShape, FitShape}
use Rattle.view_folder.specs.Sync.{Holds, HoldsExactly, HoldsNamed, has_table, tables_first, label_synced, later_sync, label_edit, later_edits, is_counted, later_count}
use Rattle.view_folder.proofs.FolderLemmas.{apart_sorted, write_at, write_others, remove_at, remove_others}

-- a label's file ends in `.csv`
pub file_name_csv : (l : Text) → is_csv_name (file_name l) ≡ true
file_name_csv l = ap (λ (x : Text). text_eq x (codes ".csv")) (ap (λ n. drop n (file_name l)) (four_less l) ∙ drop-append_seam l (codes ".csv")) ∙ equal_itself text_order (codes ".csv")
  where
    four_less : (l : Text) → length (l ++ codes ".csv") - 4 ≡ length l
    four_less l = omega (arith, length-append l (codes ".csv"))

-- and each name that does is a label's file
named_csv : (q : Text) → is_csv_name q ≡ true → q ≡ file_name (take (length q - 4) q)
named_csv q h = sym (take-append-drop (length q - 4) q) ∙ ap (λ (x : Text). take (length q - 4) q ++ x) (equal_is text_order (drop (length q - 4) q) (codes ".csv") h)

-- two labels have one file where they are the same
pub same_file : (l m : Text) → text_eq (file_name l) (file_name m) ≡ text_eq l m
same_file l m = by_case (text_eq l m) refl
  where
    by_case : (b : Bool) → text_eq l m ≡ b → text_eq (file_name l) (file_name m) ≡ b
    by_case true e = ap (λ (x : Text). text_eq (file_name l) (file_name x)) (sym (equal_is text_order l m e)) ∙ equal_itself text_order (file_name l)
    by_case false e = false_from_ne_true _ (λ h.
        let same : l ≡ m = append_cancel_right l m (codes ".csv") (equal_is text_order (file_name l) (file_name m) h) in
        false≢true (sym e ∙ ap (text_eq l) (sym same) ∙ equal_itself text_order l))

-- a name that does not end in `.csv` is no label's file
no_file : (q m : Text) → is_csv_name q ≡ false → text_eq q (file_name m) ≡ false
no_file q m h = false_from_ne_true _ (λ e. false≢true (sym h ∙ ap is_csv_name (equal_is text_order q (file_name m) e) ∙ file_name_csv m))

no_files : (q : Text) (ms : List Text) → is_csv_name q ≡ false → is_in q (each file_name ms) ≡ false
no_files q [] h = refl
no_files q (m ∷ ms) h = rw (no_file q m h, no_files q ms h) refl

-- what the files of tables hold under a label's file
pub bytes_of_label : (shape : Shape) (ts : TablesValue) (l : Text) → bytes_in (table_files shape ts) (file_name l) ≡ option_map (table_text shape) (table_of ts l)
unfolding table_files
bytes_of_label shape [] l = refl
bytes_of_label shape (p ∷ ps) l =
    ap (λ b. cond b (Some (table_text shape p.1)) (bytes_in (each (table_file shape) ps) (file_name l))) (same_file l p.0)
    ∙ either (text_eq l p.0) (bytes_of_label shape ps l)
  where
    either : (b : Bool) → bytes_in (each (table_file shape) ps) (file_name l) ≡ option_map (table_text shape) (table_of ps l)
        → cond b (Some (table_text shape p.1)) (bytes_in (each (table_file shape) ps) (file_name l)) ≡ option_map (table_text shape) (cond b (Some p.1) (table_of ps l))
    either true h = refl
    either false h = h

-- a label has a table where it is among the labels
labelled : (ts : TablesValue) (l : Text) → is_some (table_of ts l) ≡ is_in l (labels_of ts)
labelled [] l = refl
labelled (p ∷ ps) l = either (text_eq l p.0) (labelled ps l)
  where
    either : (b : Bool) → is_some (table_of ps l) ≡ is_in l (labels_of ps) → is_some (cond b (Some p.1) (table_of ps l)) ≡ (b || is_in l (labels_of ps))
    either true h = refl
    either false h = h

mapped_some : {A B : Type 0} (f : A → B) (o : Option A) → is_some (option_map f o) ≡ is_some o
mapped_some f None = refl
mapped_some f (Some x) = refl

-- what is borrowed is there where it is
pub copied_there : (o : Option (Bor TableValue)) (t : Option TableValue) → option_copied o ≡ t → is_some o ≡ is_some t
copied_there None t e = ap is_some e
copied_there (Some x) t e = ap is_some e

pub mapped_there : {A : Type 0} (f : A → TableValue) (o : Option (Bor A)) (t : Option TableValue) → option_map f (option_copied o) ≡ t → is_some o ≡ is_some t
mapped_there f None t e = ap is_some e
mapped_there f (Some x) t e = ap is_some e

-- a table of a view of that shape
pub fits_of : (shape : Shape) (ts : TablesValue) (l : Text) (t : TableValue) → FitShape shape ts → Some t ≡ table_of ts l → FitsShape shape t
fits_of shape [] l t h e = absurd (cc)
fits_of shape (p ∷ ps) l t h e = by_case (text_eq l p.0) e (fits_of shape ps l t h.1)
  where
    by_case : (b : Bool) → Some t ≡ cond b (Some p.1) (table_of ps l) → (Some t ≡ table_of ps l → FitsShape shape t) → FitsShape shape t
    by_case true e later = subst (FitsShape shape) (ap (λ (o : Option TableValue). unwrap_or o t) (sym e)) h.0
    by_case false e later = later e

-- what the sync of a label does, where its table has a text and where it has no table
by_text : (d : Text) (shape : Shape) (ts : TablesValue) (l : Text) → label_synced d shape ts l ≡ option_map_or (λ (text : Text). Write d (file_name l) text) (option_map (table_text shape) (table_of ts l)) (Remove d (file_name l))
by_text d shape ts l = by_table (table_of ts l)
  where
    by_table : (o : Option TableValue) → option_map_or (λ (t : TableValue). Write d (file_name l) (table_text shape t)) o (Remove d (file_name l)) ≡ option_map_or (λ (text : Text). Write d (file_name l) text) (option_map (table_text shape) o) (Remove d (file_name l))
    by_table None = refl
    by_table (Some t) = refl

pub synced_write : (d : Text) (shape : Shape) (ts : TablesValue) (l text : Text) → Some text ≡ option_map (table_text shape) (table_of ts l) → label_synced d shape ts l ≡ Write d (file_name l) text
synced_write d shape ts l text e = by_text d shape ts l ∙ ap (λ (o : Option Text). option_map_or (λ (x : Text). Write d (file_name l) x) o (Remove d (file_name l))) (sym e)

pub synced_remove : (d : Text) (shape : Shape) (ts : TablesValue) (l : Text) → None ≡ option_map (table_text shape) (table_of ts l) → label_synced d shape ts l ≡ Remove d (file_name l)
synced_remove d shape ts l e = by_text d shape ts l ∙ ap (λ (o : Option Text). option_map_or (λ (x : Text). Write d (file_name l) x) o (Remove d (file_name l))) (sym e)

-- and the same as an edit
edit_by_text : (d : Text) (shape : Shape) (ts : TablesValue) (l : Text) → label_edit d shape ts l ≡ option_map_or (λ (text : Text). edit.Write d (file_name l) text) (option_map (table_text shape) (table_of ts l)) (edit.Remove d (file_name l))
edit_by_text d shape ts l = by_table (table_of ts l)
  where
    by_table : (o : Option TableValue) → option_map_or (λ (t : TableValue). edit.Write d (file_name l) (table_text shape t)) o (edit.Remove d (file_name l)) ≡ option_map_or (λ (text : Text). edit.Write d (file_name l) text) (option_map (table_text shape) o) (edit.Remove d (file_name l))
    by_table None = refl
    by_table (Some t) = refl

pub edited_write : (d : Text) (shape : Shape) (ts : TablesValue) (l text : Text) → Some text ≡ option_map (table_text shape) (table_of ts l) → label_edit d shape ts l ≡ edit.Write d (file_name l) text
edited_write d shape ts l text e = edit_by_text d shape ts l ∙ ap (λ (o : Option Text). option_map_or (λ (x : Text). edit.Write d (file_name l) x) o (edit.Remove d (file_name l))) (sym e)

pub edited_remove : (d : Text) (shape : Shape) (ts : TablesValue) (l : Text) → None ≡ option_map (table_text shape) (table_of ts l) → label_edit d shape ts l ≡ edit.Remove d (file_name l)
edited_remove d shape ts l e = edit_by_text d shape ts l ∙ ap (λ (o : Option Text). option_map_or (λ (x : Text). edit.Write d (file_name l) x) o (edit.Remove d (file_name l))) (sym e)

module _ (d : Text) (shape : Shape) (ts : TablesValue) where
  -- after the sync of a label, and of labels
  abbrev pub after_label : Text → Stored → Stored
  after_label l s = option_map_or (λ t. writing d (file_name l) (table_text shape t) s) (table_of ts l) (removing d (file_name l) s)

  abbrev pub after_labels : List Text → Stored → Stored
  after_labels [] s = s
  after_labels (l ∷ ls) s = after_labels ls (after_label l s)

  pub label_done : (l : Text) (s : Stored) (h : Option (List ℕ)) → after (label_synced d shape ts l) (record { stored = Some s; held = h }) ≡ record { stored = Some (after_label l s); held = h }
  label_done l s h = by_table (table_of ts l)
    where
      by_table : (o : Option TableValue) → after (option_map_or (λ t. Write d (file_name l) (table_text shape t)) o (Remove d (file_name l))) (record { stored = Some s; held = h })
          ≡ record { stored = Some (option_map_or (λ t. writing d (file_name l) (table_text shape t) s) o (removing d (file_name l) s)); held = h }
      by_table None = refl
      by_table (Some t) = refl

  labels_done : (ls : List Text) (s : Stored) (h : Option (List ℕ)) → performed (each (label_synced d shape ts) ls) (record { stored = Some s; held = h }) ≡ record { stored = Some (after_labels ls s); held = h }
  labels_done [] s h = refl
  labels_done (l ∷ ls) s h = ap (performed (each (label_synced d shape ts) ls)) (label_done l s h) ∙ labels_done ls (after_label l s) h

  -- and where all is done at once
  label_edited : (l : Text) (s : Stored) → edited (label_edit d shape ts l) s ≡ after_label l s
  label_edited l s = by_table (table_of ts l)
    where
      by_table : (o : Option TableValue) → edited (option_map_or (λ t. edit.Write d (file_name l) (table_text shape t)) o (edit.Remove d (file_name l))) s
          ≡ option_map_or (λ t. writing d (file_name l) (table_text shape t) s) o (removing d (file_name l) s)
      by_table None = refl
      by_table (Some t) = refl

  pub labels_edited : (ls : List Text) (s : Stored) → all_edited (each (label_edit d shape ts) ls) s ≡ after_labels ls s
  labels_edited [] s = refl
  labels_edited (l ∷ ls) s = ap (all_edited (each (label_edit d shape ts) ls)) (label_edited l s) ∙ labels_edited ls (after_label l s)

  -- what a file holds then
  label_at : (l q : Text) (s : Stored) → file_at (after_label l s).tree d q ≡ cond (text_eq q (file_name l)) (option_map (table_text shape) (table_of ts l)) (file_at s.tree d q)
  label_at l q s = by_table (table_of ts l)
    where
      by_table : (o : Option TableValue) → file_at (option_map_or (λ t. writing d (file_name l) (table_text shape t) s) o (removing d (file_name l) s)).tree d q
          ≡ cond (text_eq q (file_name l)) (option_map (table_text shape) o) (file_at s.tree d q)
      by_table None = remove_at d (file_name l) s q
      by_table (Some t) = write_at d (file_name l) (table_text shape t) s q

  label_others : (l : Text) (s : Stored) (p : Place) → p.0 ≢ d → map.get (after_label l s).tree.files p ≡ map.get s.tree.files p
  label_others l s p ne = by_table (table_of ts l)
    where
      by_table : (o : Option TableValue) → map.get (option_map_or (λ t. writing d (file_name l) (table_text shape t) s) o (removing d (file_name l) s)).tree.files p ≡ map.get s.tree.files p
      by_table None = remove_others d (file_name l) s p ne
      by_table (Some t) = write_others d (file_name l) (table_text shape t) s p ne

  same_twice : {A : Type 0} (b : Bool) (x y : A) → x ≡ y → cond b x y ≡ x
  same_twice true x y e = refl
  same_twice false x y e = sym e

  labels_at : (ls : List Text) (l : Text) (s : Stored) → file_at (after_labels ls s).tree d (file_name l) ≡ cond (is_in l ls) (option_map (table_text shape) (table_of ts l)) (file_at s.tree d (file_name l))
  labels_at [] l s = refl
  labels_at (m ∷ ms) l s =
      labels_at ms l (after_label m s)
      ∙ ap (cond (is_in l ms) (option_map (table_text shape) (table_of ts l))) (label_at m (file_name l) s ∙ ap (λ b. cond b (option_map (table_text shape) (table_of ts m)) (file_at s.tree d (file_name l))) (same_file l m))
      ∙ either (text_eq l m) refl
    where
      either : (b : Bool) → text_eq l m ≡ b → cond (is_in l ms) (option_map (table_text shape) (table_of ts l)) (cond b (option_map (table_text shape) (table_of ts m)) (file_at s.tree d (file_name l)))
          ≡ cond (b || is_in l ms) (option_map (table_text shape) (table_of ts l)) (file_at s.tree d (file_name l))
      either true e = same_twice (is_in l ms) _ _ (ap (λ (x : Text). option_map (table_text shape) (table_of ts x)) (equal_is text_order l m e))
      either false e = refl

  labels_unnamed : (ls : List Text) (q : Text) (s : Stored) → is_in q (each file_name ls) ≡ false → file_at (after_labels ls s).tree d q ≡ file_at s.tree d q
  labels_unnamed [] q s h = refl
  labels_unnamed (m ∷ ms) q s h =
      let parts = or_parts (text_eq q (file_name m)) (is_in q (each file_name ms)) h in
      labels_unnamed ms q (after_label m s) parts.1 ∙ label_at m q s ∙ ap (λ b. cond b (option_map (table_text shape) (table_of ts m)) (file_at s.tree d q)) parts.0

  labels_others : (ls : List Text) (s : Stored) (p : Place) → p.0 ≢ d → map.get (after_labels ls s).tree.files p ≡ map.get s.tree.files p
  labels_others [] s p ne = refl
  labels_others (m ∷ ms) s p ne = labels_others ms (after_label m s) p ne ∙ label_others m s p ne

  -- how many files are written or removed on the way
  abbrev pub counted_in : List Text → Stored → ℕ
  counted_in [] s = 0
  counted_in (l ∷ ls) s = cond (is_counted d ts s.tree l) 1 0 + counted_in ls (after_label l s)

  label_writes : (l : Text) (s : Stored) → (after_label l s).writes ≡ cond (is_counted d ts s.tree l) (risen s.writes 1) s.writes
  label_writes l s = by_table (table_of ts l)
    where
      by_table : (o : Option TableValue) → (option_map_or (λ t. writing d (file_name l) (table_text shape t) s) o (removing d (file_name l) s)).writes
          ≡ cond (is_some o || is_some (file_at s.tree d (file_name l))) (risen s.writes 1) s.writes
      by_table None = refl
      by_table (Some t) = refl

  labels_writes : (ls : List Text) (s : Stored) → (after_labels ls s).writes ≡ risen s.writes (counted_in ls s)
  labels_writes [] s = omega arith
  labels_writes (l ∷ ls) s = labels_writes ls (after_label l s) ∙ ap (λ w. risen w (counted_in ls (after_label l s))) (label_writes l s) ∙ more (is_counted d ts s.tree l) s.writes (counted_in ls (after_label l s))
    where
      more : (b : Bool) (w n : ℕ) → risen (cond b (risen w 1) w) n ≡ risen w (cond b 1 0 + n)
      more true w n = omega arith
      more false w n = omega arith

  -- where each label comes once, its file is as it was when its turn comes
  counted_once : (ls : List Text) (s u : Stored) → Apart ls → ((q : Text) → is_in q ls ≡ true → file_at u.tree d (file_name q) ≡ file_at s.tree d (file_name q)) → counted_in ls u ≡ later_count d ts ls s.tree
  counted_once [] s u a h = refl
  counted_once (l ∷ ls) s u a h =
      ap (λ (o : Option (List ℕ)). cond (is_some (table_of ts l) || is_some o) 1 0 + counted_in ls (after_label l u)) (h l (ap (λ b. b || is_in l ls) (equal_itself text_order l)))
      ∙ ap (λ n. cond (is_counted d ts s.tree l) 1 0 + n) (counted_once ls s (after_label l u) a.1 (λ q among. still q among ∙ h q (or_right (text_eq q l) (is_in q ls) among)))
      ∙ one_more (is_counted d ts s.tree l) (filter (is_counted d ts s.tree) ls)
    where
      other : (q : Text) → is_in q ls ≡ true → text_eq q l ≡ false
      other q among = false_from_ne_true _ (λ e. false≢true (sym a.0 ∙ ap (λ (x : Text). is_in x ls) (sym (equal_is text_order q l e)) ∙ among))

      still : (q : Text) → is_in q ls ≡ true → file_at (after_label l u).tree d (file_name q) ≡ file_at u.tree d (file_name q)
      still q among = label_at l (file_name q) u ∙ ap (λ b. cond b (option_map (table_text shape) (table_of ts l)) (file_at u.tree d (file_name q))) (same_file q l ∙ other q among)

      one_more : (b : Bool) (xs : List Text) → cond b 1 0 + length xs ≡ length (cond b (l ∷ xs) xs)
      one_more true xs = omega arith
      one_more false xs = omega arith

  pub counted_later : (ls : List Text) (s : Stored) → Apart ls → counted_in ls s ≡ later_count d ts ls s.tree
  counted_later ls s a = counted_once ls s s a (λ q among. refl)

pub drop_at : (xs : List Text) (i : ℕ) (x : Text) → i < length xs → x ≡ get_or xs i x → drop i xs ≡ x ∷ drop (i + 1) xs
drop_at xs i x lt is = rw (add-one, drop-cons xs i x) (ap (λ y. y ∷ drop (suc i) xs) (sym is))

other_way : (l x : Text) → text_eq l x ≡ false → text_eq x l ≡ false
other_way l x e = false_from_ne_true _ (λ h. false≢true (sym e ∙ ap (text_eq l) (equal_is text_order x l h) ∙ equal_itself text_order l))

-- of labels those that pass a test, and then the others: each is there, and stands once where it did
module _ (p : Text → Bool) where
  abbrev split : List Text → List Text
  split ls = filter p ls ++ filter (λ l. not (p l)) ls

  any_split : (f : Text → Bool) (ls : List Text) → list_any f (split ls) ≡ list_any f ls
  any_split f ls = list_any-append f (filter p ls) (filter (λ l. not (p l)) ls) ∙ parts ls
    where
      swapped : (a b c : Bool) → (a || (b || c)) ≡ (b || (a || c))
      swapped true true c = refl
      swapped true false c = refl
      swapped false b c = refl

      grouped : (a b c : Bool) → (a || b || c) ≡ (a || (b || c))
      grouped true b c = refl
      grouped false b c = refl

      parts : (ls : List Text) → (list_any f (filter p ls) || list_any f (filter (λ l. not (p l)) ls)) ≡ list_any f ls
      parts [] = refl
      parts (l ∷ ls) = by_test (p l) (parts ls)
        where
          by_test : (b : Bool) → (list_any f (filter p ls) || list_any f (filter (λ l. not (p l)) ls)) ≡ list_any f ls
              → (list_any f (cond b (l ∷ filter p ls) (filter p ls)) || list_any f (cond (not b) (l ∷ filter (λ l. not (p l)) ls) (filter (λ l. not (p l)) ls))) ≡ (f l || list_any f ls)
          by_test true h = grouped (f l) _ _ ∙ ap (λ b. f l || b) h
          by_test false h = swapped (list_any f (filter p ls)) (f l) _ ∙ ap (λ b. f l || b) h

  count_split : (f : Text → Bool) (ls : List Text) → length (filter f (split ls)) ≡ length (filter f ls)
  count_split f ls = append_count f (filter p ls) (filter (λ l. not (p l)) ls) ∙ parts ls
    where
      one_more : (b : Bool) (x : Text) (xs : List Text) → length (cond b (x ∷ xs) xs) ≡ from_bool b + length xs
      one_more true x xs = omega arith
      one_more false x xs = omega arith

      append_count : (f : Text → Bool) (xs ys : List Text) → length (filter f (xs ++ ys)) ≡ length (filter f xs) + length (filter f ys)
      append_count f [] ys = omega arith
      append_count f (x ∷ xs) ys = omega (arith, append_count f xs ys, one_more (f x) x (filter f (xs ++ ys)), one_more (f x) x (filter f xs))

      parts : (ls : List Text) → length (filter f (filter p ls)) + length (filter f (filter (λ l. not (p l)) ls)) ≡ length (filter f ls)
      parts [] = refl
      parts (l ∷ ls) = by_test (p l) (parts ls)
        where
          by_test : (b : Bool) → length (filter f (filter p ls)) + length (filter f (filter (λ l. not (p l)) ls)) ≡ length (filter f ls)
              → length (filter f (cond b (l ∷ filter p ls) (filter p ls))) + length (filter f (cond (not b) (l ∷ filter (λ l. not (p l)) ls) (filter (λ l. not (p l)) ls))) ≡ length (cond (f l) (l ∷ filter f ls) (filter f ls))
          by_test true h = omega (arith, h, one_more (f l) l (filter f (filter p ls)), one_more (f l) l (filter f ls))
          by_test false h = omega (arith, h, one_more (f l) l (filter f (filter (λ l. not (p l)) ls)), one_more (f l) l (filter f ls))

  apart_between : (l : Text) (xs ys : List Text) → is_in l (xs ++ ys) ≡ false → Apart (xs ++ ys) → Apart (xs ++ l ∷ ys)
  apart_between l [] ys none h = (none, h)
  apart_between l (x ∷ xs) ys none h =
      let parts = or_parts (text_eq l x) (is_in l (xs ++ ys)) none in
      (among xs h.0 (other_way l x parts.0), apart_between l xs ys parts.1 h.1)
    where
      among : (xs : List Text) → is_in x (xs ++ ys) ≡ false → text_eq x l ≡ false → is_in x (xs ++ l ∷ ys) ≡ false
      among [] h e = rw (e, h) refl
      among (y ∷ xs) h e = let parts = or_parts (text_eq x y) (is_in x (xs ++ ys)) h in rw (parts.0, among xs parts.1 e) refl

  apart_split : (ls : List Text) → Apart ls → Apart (split ls)
  apart_split [] h = tt
  apart_split (l ∷ ls) h = by_test (p l) (apart_split ls h.1)
    where
      none : is_in l (split ls) ≡ false
      none = any_split (text_eq l) ls ∙ h.0

      by_test : (b : Bool) → Apart (split ls) → Apart (cond b (l ∷ filter p ls) (filter p ls) ++ cond (not b) (l ∷ filter (λ l. not (p l)) ls) (filter (λ l. not (p l)) ls))
      by_test true rest = (none, rest)
      by_test false rest = apart_between l (filter p ls) (filter (λ l. not (p l)) ls) none rest

any_named : (f : Text → Bool) (ls : List Text) → list_any f (each file_name ls) ≡ list_any (λ l. f (file_name l)) ls
any_named f [] = refl
any_named f (l ∷ ls) = ap (λ b. f (file_name l) || b) (any_named f ls)

unnamed_first : (ts : TablesValue) (ls : List Text) (q : Text) → is_in q (each file_name (tables_first ts ls)) ≡ is_in q (each file_name ls)
unnamed_first ts ls q = any_named (text_eq q) (tables_first ts ls) ∙ any_split (has_table ts) (λ l. text_eq q (file_name l)) ls ∙ sym (any_named (text_eq q) ls)

-- what is there behind the sync of these labels
abbrev pub left_by : Text → Shape → TablesValue → List Text → Stored → Stored
left_by d shape ts ls s = after_labels d shape ts (tables_first ts ls) s

pub left_named : (d : Text) (shape : Shape) (ts : TablesValue) (ls : List Text) (s : Stored) → HoldsNamed d shape ts ls s.tree (left_by d shape ts ls s).tree
left_named d shape ts ls s = record {
  named = λ l among.
      labels_at d shape ts (tables_first ts ls) l s
      ∙ ap (λ b. cond b (option_map (table_text shape) (table_of ts l)) (file_at s.tree d (file_name l))) (any_split (has_table ts) (text_eq l) ls ∙ among);
  unnamed = λ q apart. labels_unnamed d shape ts (tables_first ts ls) q s (unnamed_first ts ls q ∙ apart);
  others = λ p ne. labels_others d shape ts (tables_first ts ls) s p ne;
}

-- where all of it was done, one by one or at once, the files of these labels are those of their tables, and all others stay
module _ (d : Text) (shape : Shape) (ts : TablesValue) (ls : List Text) (old new : StoreState) (t u : Tree) where
  abbrev at_first : Stored
  at_first = record { tree = t; writes = old.writes }

  held_then : new.tree ≡ Some u → stored_of new.tree new.writes ≡ Some (left_by d shape ts ls at_first) → HoldsNamed d shape ts ls t u
  held_then is done =
      let last : Stored = left_by d shape ts ls at_first in
      let same : last.tree ≡ u = ap (λ (tree : Option Tree). unwrap_or tree u) (sym (told_tree new.tree new.writes last done) ∙ is) in
      subst (HoldsNamed d shape ts ls t) same (left_named d shape ts ls at_first)

  pub named_held : (o : SinkState) → old.tree ≡ Some t → new.tree ≡ Some u → contents (world_of new o) ≡ performed (later_sync d shape ts ls) (contents (world_of old o)) → HoldsNamed d shape ts ls t u
  unfolding contents
  named_held o was is did =
      held_then is
      (ap (λ (c : Contents). c.stored) (did ∙ ap (λ (tree : Option Tree). performed (later_sync d shape ts ls) (record { stored = stored_of tree old.writes; held = o.held })) was ∙ labels_done d shape ts (tables_first ts ls) at_first o.held))

  pub edits_held : (o : SinkState) → old.tree ≡ Some t → new.tree ≡ Some u → contents (world_of new o) ≡ after (Replace (later_edits d shape ts ls)) (contents (world_of old o)) → HoldsNamed d shape ts ls t u
  unfolding contents
  edits_held o was is did =
      held_then is
      (ap (λ (c : Contents). c.stored) did ∙ ap (λ (tree : Option Tree). option_map (all_edited (later_edits d shape ts ls)) (stored_of tree old.writes)) was ∙ ap Some (labels_edited d shape ts (tables_first ts ls) at_first))

-- an output of which nothing is said
abbrev pub nothing_held : SinkState
nothing_held = record { held = None; faults = 0 }

pub named_hold : (d : Text) (shape : Shape) (ts : TablesValue) (ls : List Text) (old new : StoreState) (r : Result ℕ Stop) → ((o : SinkState) → Does (later_sync d shape ts ls) (world_of old o) (world_of new o) r)
    → IfOk r (λ _. (t u : Tree) → old.tree ≡ Some t → new.tree ≡ Some u → HoldsNamed d shape ts ls t u)
named_hold d shape ts ls old new (Ok n) does = λ t u was is. named_held d shape ts ls old new t u nothing_held was is (does nothing_held)
named_hold d shape ts ls old new (Err e) does = tt

-- the counts after one more label
pub counted_more : (w mid new n m : ℕ) (b : Bool) → new ≡ cond b (risen mid 1) mid → mid ≡ risen w n → m ≡ from_bool b → new ≡ risen w (n + m)
counted_more w mid new n m true h so_far one = omega arith
counted_more w mid new n m false h so_far one = omega arith

pub few_more : (n i m : ℕ) (b : Bool) → n ≤ i → m ≡ from_bool b → n + m ≤ i + 1
few_more n i m true h one = omega arith
few_more n i m false h one = omega arith

module _ (d : Text) (shape : Shape) (ts : TablesValue) (ls : List Text) (s : Stored) where
  -- of the files that the sync of these labels counts n are counted, and the others are counted from now on
  pub record IsCounting (i n : ℕ) (now : Option Stored) : Type 0 where
    pub stored : Stored
    pub is : now ≡ Some stored
    pub counts : counted_in d shape ts ls s ≡ n + counted_in d shape ts (drop i ls) stored

  pub counting_starts : (now : Option Stored) → now ≡ Some s → IsCounting 0 0 now
  counting_starts now h = record { stored = s; is = h; counts = none (counted_in d shape ts ls s) }
    where
      none : (n : ℕ) → n ≡ 0 + n
      none n = omega arith

  pub counting_more : (i n m : ℕ) (old new : StoreState) (o : SinkState) (l : Text) (b : Bool) → i < length ls → l ≡ get_or ls i l → IsCounting i n (stored_of old.tree old.writes)
      → contents (world_of new o) ≡ performed (label_synced d shape ts l ∷ []) (contents (world_of old o)) → ((t : Tree) → old.tree ≡ Some t → b ≡ is_counted d ts t l) → m ≡ from_bool b
      → IsCounting (i + 1) (n + m) (stored_of new.tree new.writes)
  unfolding contents
  counting_more i n m old new o l b lt at h does was one =
      record {
        stored = after_label d shape ts l h.stored;
        is = ap (λ (c : Contents). c.stored) does ∙ ap (λ (st : Option Stored). (after (label_synced d shape ts l) (record { stored = st; held = o.held })).stored) h.is ∙ ap (λ (c : Contents). c.stored) (label_done d shape ts l h.stored o.held);
        counts = h.counts ∙ ap (λ (xs : List Text). n + counted_in d shape ts xs h.stored) (drop_at ls i l lt at)
            ∙ joined (is_counted d ts h.stored.tree l) (counted_in d shape ts (drop (i + 1) ls) (after_label d shape ts l h.stored)) (one ∙ ap from_bool (was h.stored.tree (told_tree old.tree old.writes h.stored h.is)));
      }
    where
      joined : (c : Bool) (k : ℕ) → m ≡ from_bool c → n + (cond c 1 0 + k) ≡ n + m + k
      joined true k e = rw e (omega arith)
      joined false k e = rw e (omega arith)

  pub counting_done : (i n : ℕ) (now : Option Stored) → i ≡ length ls → IsCounting i n now → Apart ls → n ≡ later_count d ts ls s.tree
  counting_done i n now e h apart =
      sym (h.counts ∙ ap (λ (xs : List Text). n + counted_in d shape ts xs h.stored) (ap (λ k. drop k ls) e ∙ drop-length ls) ∙ none n) ∙ counted_later d shape ts ls s apart
    where
      none : (n : ℕ) → n + 0 ≡ n
      none n = omega arith

-- what was done for labels in their order was done for the labels
module _ (d folder : Text) (shape : Shape) (ts : TablesValue) (ls ordered : List Text) (same : folder ≡ d) (are : ordered ≡ tables_first ts ls) where
  pub ordered_performs : (old new : StoreState) (r : Result ℕ Stop) → Performs (each (label_synced folder shape ts) ordered) old new r → Performs (later_sync d shape ts ls) old new r
  ordered_performs old new r did = subst (λ (x : Text). Performs (later_sync x shape ts ls) old new r) same (subst (λ (xs : List Text). Performs (each (label_synced folder shape ts) xs) old new r) are did)

  -- labels that ascend are counted alike in either order
  one_count : (t : Tree) (n : ℕ) → (Apart ordered → n ≡ later_count folder ts ordered t) → IsStrictlySortedBy text_cmp ls → n ≡ later_count d ts ls t
  one_count t n h ascends =
      h (subst Apart (sym are) (apart_split (has_table ts) ls (apart_sorted ls ascends))) ∙ ap (λ (xs : List Text). later_count folder ts xs t) are
      ∙ ap (λ (x : Text). later_count x ts (tables_first ts ls) t) same ∙ count_split (has_table ts) (is_counted d ts t) ls

  pub ordered_counted : (tree : Option Tree) (r : Result ℕ Stop) → IfOk r (λ n. (t : Tree) → tree ≡ Some t → Apart ordered → n ≡ later_count folder ts ordered t)
      → IfOk r (λ n. (t : Tree) → tree ≡ Some t → IsStrictlySortedBy text_cmp ls → n ≡ later_count d ts ls t)
  ordered_counted tree (Ok n) h = λ t told. one_count t n (h t told)
  ordered_counted tree (Err e) h = tt

-- where a folder holds the files of the old tables, and no table of another label changed, the later sync leaves the files of the new ones
module _ (d : Text) (shape : Shape) (before now : TablesValue) (ls : List Text) (s : Stored) where
  abbrev pub later : Stored
  later = left_by d shape now ls s

  pub later_synced : (o : Option (List ℕ)) → performed (later_sync d shape now ls) (record { stored = Some s; held = o }) ≡ record { stored = Some later; held = o }
  later_synced o = labels_done d shape now (tables_first now ls) s o

  pub later_replaced : (o : Option (List ℕ)) → after (Replace (later_edits d shape now ls)) (record { stored = Some s; held = o }) ≡ record { stored = Some later; held = o }
  later_replaced o = ap (λ (x : Stored). record { stored = Some x; held = o }) (labels_edited d shape now (tables_first now ls) s)

  module _ (held : Holds d (table_files shape before) s.tree) where
    old_at : (l : Text) → file_at s.tree d (file_name l) ≡ option_map (table_text shape) (table_of before l)
    old_at l = held (file_name l) (file_name_csv l) ∙ bytes_of_label shape before l

    pub later_holds : ((l : Text) → is_in l ls ≡ false → table_of before l ≡ table_of now l) → HoldsExactly d (table_files shape now) s.tree later.tree
    later_holds rest = record {
      tables = tables;
      not_csv = λ q ne. left.unnamed q (no_files q ls (false_from_ne_true (is_csv_name q) ne));
      others = left.others;
    }
      where
        left : HoldsNamed d shape now ls s.tree later.tree
        left = left_named d shape now ls s

        named_not : (l : Text) → is_in l ls ≡ false → is_in (file_name l) (each file_name ls) ≡ false
        named_not l e = any_named (text_eq (file_name l)) ls ∙ same_tests ls ∙ e
          where
            same_tests : (ls : List Text) → list_any (λ m. text_eq (file_name l) (file_name m)) ls ≡ is_in l ls
            same_tests [] = refl
            same_tests (m ∷ ms) = rw (same_file l m, same_tests ms) refl

        by_label : (l : Text) (b : Bool) → is_in l ls ≡ b → file_at later.tree d (file_name l) ≡ option_map (table_text shape) (table_of now l)
        by_label l true e = left.named l e
        by_label l false e = left.unnamed (file_name l) (named_not l e) ∙ old_at l ∙ ap (option_map (table_text shape)) (rest l e)

        tables : Holds d (table_files shape now) later.tree
        tables q csv =
            let l = take (length q - 4) q in
            ap (file_at later.tree d) (named_csv q csv) ∙ by_label l (is_in l ls) refl
            ∙ sym (bytes_of_label shape now l) ∙ ap (bytes_in (table_files shape now)) (sym (named_csv q csv))

    count_of : (l : Text) → is_counted d now s.tree l ≡ (is_in l (labels_of now) || is_in l (labels_of before))
    count_of l =
        ap (λ b. b || is_some (file_at s.tree d (file_name l))) (labelled now l)
        ∙ ap (λ b. is_in l (labels_of now) || b) (ap is_some (old_at l) ∙ mapped_some (table_text shape) (table_of before l) ∙ labelled before l)

    filters : (ms : List Text) → filter (is_counted d now s.tree) ms ≡ filter (λ l. is_in l (labels_of now) || is_in l (labels_of before)) ms
    filters [] = refl
    filters (m ∷ ms) =
        ap (λ b. cond b (m ∷ filter (is_counted d now s.tree) ms) (filter (is_counted d now s.tree) ms)) (count_of m)
        ∙ ap (λ xs. cond (is_in m (labels_of now) || is_in m (labels_of before)) (m ∷ xs) xs) (filters ms)

    -- the count is that of the labels that have a table, old or new
    pub later_count_is : later_count d now ls s.tree ≡ length (filter (λ l. is_in l (labels_of now) || is_in l (labels_of before)) ls)
    later_count_is = ap length (filters ls)

    pub later_counted : Apart ls → later.writes ≡ risen s.writes (length (filter (λ l. is_in l (labels_of now) || is_in l (labels_of before)) ls))
    later_counted a =
        labels_writes d shape now (tables_first now ls) s
        ∙ ap (risen s.writes) (counted_later d shape now (tables_first now ls) s (apart_split (has_table now) ls a) ∙ count_split (has_table now) (is_counted d now s.tree) ls ∙ later_count_is)
