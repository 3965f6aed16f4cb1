-- The files of tables, and what the opening sync leaves and counts.
use Rattle.std.proofs.Common.{◌≡◌, ◌+◌, ◌<◌, ◌∙◌, ℕ, Bool, true, false, cond, not, ◌&&◌, ◌||◌, Bor, List, [], ◌∷◌, ◌++◌, append_assoc, map, length, take, drop, get_or, Option, Some, is_some, refl, sym, ap, subst, arith}
use Rattle.std.specs.Prelude.{unwrap_or, Result}
use Rattle.std.specs.Int.{from_bool}
use Rattle.std.specs.List.{AllByRecursion}
use Rattle.std.specs.List.Sorted.{IsStrictlySortedBy}
use Rattle.std.specs.Ordering.{is_eq}
use Rattle.std.specs.declared.cmp.Ordering.TheVariants.{Less}
use Rattle.std.specs.Cmp.Lexicographic.{texts_ties, nat_list_eq_equiv}
use Rattle.std.proofs.lemmas.List.{take_more}
use Rattle.std.proofs.lemmas.List.Folds.{list_any-append}
use Rattle.ss_text.specs.Texts.{Text, text_cmp, text_eq}
use Rattle.outside.specs.States.{StoreState, SinkState}
use Rattle.outside.specs.Tree.{Tree, file_at, files_of}
use Rattle.outside.specs.declared.stop.Stop.{Stop}
use Rattle.outside.specs.Effects.{World, world_of, Does, Remove, Stored, Contents, stored_of, contents, performed, removing}
use Rattle.outside.proofs.EffectLemmas.{told_tree}
use Rattle.flow_law.specs.declared.shape.Shape.{Shape}
use Rattle.flow_law.specs.Tables.{TablesValue, labels_of}
use Rattle.flow_law.specs.InOrder.{AreTables}
use Rattle.view_folder.specs.declared.file.File.{File}
use Rattle.view_folder.specs.Files.{is_named, has_name, is_csv_name, file_name, other_names, AreViewFiles, Apart, AreThere}
use Rattle.view_folder.specs.TableFiles.{table_file, table_files}
use Rattle.view_folder.specs.Sync.{written, opening_sync, opening_count, HoldsExactly}
use Rattle.view_folder.proofs.FolderLemmas.{now, wrote, synced, holds_exactly, performed_written, each_there, others_apart, still_there}
use Rattle.view_folder.proofs.LaterLemmas.{file_name_csv, same_file, drop_at}

-- the files of tables are named by their labels, each once
module _ (shape : Shape) where
  unnamed : (l : Text) (ts : TablesValue) → AllByRecursion (λ m. text_cmp l m ≡ Less) (labels_of ts) → is_named (map (table_file shape) ts) (file_name l) ≡ false
  unnamed l [] h = refl
  unnamed l (p ∷ ps) h = rw (same_file l p.0 ∙ texts_ties l p.0 ∙ ap is_eq h.0, unnamed l ps h.1) refl

  files_of_tables : (ts : TablesValue) → IsStrictlySortedBy text_cmp (labels_of ts) → AreViewFiles (map (table_file shape) ts)
  unfolding IsStrictlySortedBy
  files_of_tables [] h = tt
  files_of_tables (p ∷ ps) h = (file_name_csv p.0, unnamed p.0 ps h.0, files_of_tables ps h.1)

-- and so where labels ascend, as those of tables do
pub labelled_files : (shape : Shape) (ts : TablesValue) → IsStrictlySortedBy text_cmp (labels_of ts) → AreViewFiles (table_files shape ts)
unfolding table_files
labelled_files shape ts ascend = files_of_tables shape ts ascend

pub are_view_files : (shape : Shape) (ts : TablesValue) → AreTables ts → AreViewFiles (table_files shape ts)
are_view_files shape ts h = labelled_files shape ts h.labels

-- one more name among those of files
pub named_more : (files : List File) (i : ℕ) (f : File) (q : Text) (b : Bool) → i < length files → f ≡ get_or files i f → b ≡ is_named (take i files) q → cond (text_eq f.name q) true b ≡ is_named (take (i + 1) files) q
named_more files i f q b lt is e =
    rw (e, take_more files i f lt, list_any-append (λ (x : File). text_eq q x.name) (take i files) (get_or files i f ∷ []), ← is, nat_list_eq_equiv.symm f.name q) (joined (text_eq q f.name) (is_named (take i files) q))
  where
    joined : (a b : Bool) → cond a true b ≡ (b || (a || false))
    joined true true = refl
    joined true false = refl
    joined false true = refl
    joined false false = refl

-- one more name, which is another's or not
pub other_more : (files : List File) (taken : List (Bor Text)) (name : Text) (rest others new : List Text) → has_name taken name ≡ is_named files name
    → new ≡ cond (is_csv_name name && not (has_name taken name)) (others ++ name ∷ []) others → new ++ other_names files rest ≡ others ++ other_names files (name ∷ rest)
other_more files taken name rest others new named is = rw (is, named) (by_case (is_csv_name name && not (is_named files name)))
  where
    by_case : (b : Bool) → cond b (others ++ name ∷ []) others ++ other_names files rest ≡ others ++ cond b (name ∷ other_names files rest) (other_names files rest)
    by_case true = append_assoc others (name ∷ []) (other_names files rest)
    by_case false = refl

-- the same sync under equal names
pub does_same : {A : Type 0} (d e : Text) (fs gs : List File) (t : Tree) (w v : World) (r : Result A Stop) → d ≡ e → fs ≡ gs → Does (opening_sync d fs (files_of t d)) w v r → Does (opening_sync e gs (files_of t e)) w v r
does_same d e fs gs t w v r p q h = subst (λ (x : Text). Does (opening_sync x gs (files_of t x)) w v r) p (subst (λ (f : List File). Does (opening_sync d f (files_of t d)) w v r) q h)

module _ (d : Text) (fs : List File) (h : AreViewFiles fs) where
  -- where all of it was done, the folder holds exactly these files
  pub all_held : (old new : StoreState) (o : SinkState) (t u : Tree) → old.tree ≡ Some t → new.tree ≡ Some u
      → contents (world_of new o) ≡ performed (opening_sync d fs (files_of t d)) (contents (world_of old o)) → HoldsExactly d fs t u
  unfolding contents
  all_held old new o t u was is did =
      let s : Stored = record { tree = t; writes = old.writes } in
      let last : Stored = now d fs s h in
      let done : stored_of new.tree new.writes ≡ Some last =
      ap (λ (c : Contents). c.stored) (did ∙ ap (λ (tree : Option Tree). performed (opening_sync d fs (files_of t d)) (record { stored = stored_of tree old.writes; held = o.held })) was ∙ synced d fs s h o.held) in
      let same : last.tree ≡ u = ap (λ (tree : Option Tree). unwrap_or tree u) (sym (told_tree new.tree new.writes last done) ∙ is) in
      subst (HoldsExactly d fs t) same (holds_exactly d fs s h)

  -- each other file was there when its turn came
  pub others_counted : (old mid : StoreState) (o : SinkState) (t : Tree) (names : List Text) (n : ℕ) → old.tree ≡ Some t → names ≡ other_names fs (files_of t d)
      → contents (world_of mid o) ≡ performed (written d fs) (contents (world_of old o))
      → ((u : Tree) → mid.tree ≡ Some u → Apart names → AreThere d names u → n ≡ length names)
      → length fs + n ≡ opening_count fs (files_of t d)
  unfolding contents
  others_counted old mid o t names n was are did each =
      let s : Stored = record { tree = t; writes = old.writes } in
      let last : Stored = wrote d fs s in
      let done : stored_of mid.tree mid.writes ≡ Some last =
      ap (λ (c : Contents). c.stored) (did ∙ ap (λ (tree : Option Tree). performed (written d fs) (record { stored = stored_of tree old.writes; held = o.held })) was ∙ performed_written d fs s o.held) in
      ap (λ k. length fs + k)
      (each last.tree (told_tree mid.tree mid.writes last done) (subst Apart (sym are) (others_apart d fs s h)) (subst (λ (ns : List Text). AreThere d ns last.tree) (sym are) (each_there d fs s h))
      ∙ ap length are)

module _ (d : Text) (ls : List Text) where
  -- the first i of these files are removed and were there, and the others are there still
  pub record IsRemoving (i n : ℕ) (now : Option Stored) : Type 0 where
    pub stored : Stored
    pub is : now ≡ Some stored
    pub apart : Apart (drop i ls)
    pub there : AreThere d (drop i ls) stored.tree
    pub counts : n ≡ i

  pub removing_starts : (old : StoreState) (t : Tree) → old.tree ≡ Some t → Apart ls → AreThere d ls t → IsRemoving 0 0 (stored_of old.tree old.writes)
  removing_starts old t was a h = record { stored = record { tree = t; writes = old.writes }; is = ap (λ (tree : Option Tree). stored_of tree old.writes) was; apart = a; there = h; counts = refl }

  pub removing_more : (i n m : ℕ) (old new : StoreState) (o : SinkState) (l : Text) (b : Bool) → i < length ls → l ≡ get_or ls i l → IsRemoving i n (stored_of old.tree old.writes)
      → contents (world_of new o) ≡ performed (Remove d l ∷ []) (contents (world_of old o)) → ((t : Tree) → old.tree ≡ Some t → b ≡ is_some (file_at t d l)) → m ≡ from_bool b
      → IsRemoving (i + 1) (n + m) (stored_of new.tree new.writes)
  unfolding contents
  removing_more i n m old new o l b lt at h does was one =
      let rest : drop i ls ≡ l ∷ drop (i + 1) ls = drop_at ls i l lt at in
      let apart : Apart (l ∷ drop (i + 1) ls) = subst Apart rest h.apart in
      let there : AreThere d (l ∷ drop (i + 1) ls) h.stored.tree = subst (λ (ns : List Text). AreThere d ns h.stored.tree) rest h.there in
      record {
        stored = removing d l h.stored;
        is = ap (λ (c : Contents). c.stored) does ∙ ap (λ (st : Option Stored). (performed (Remove d l ∷ []) (record { stored = st; held = o.held })).stored) h.is;
        apart = apart.1;
        there = still_there d l h.stored (drop (i + 1) ls) apart.0 there.1;
        counts = one_more (one ∙ ap from_bool (was h.stored.tree (told_tree old.tree old.writes h.stored h.is) ∙ there.0));
      }
    where
      one_more : m ≡ 1 → n + m ≡ i + 1
      one_more e = omega (arith, e, h.counts)
