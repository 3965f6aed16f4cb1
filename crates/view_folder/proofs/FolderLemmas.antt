-- What is in a folder after files were written and removed.
use Rattle.std.specs.Prelude.{T}
use Rattle.std.proofs.Common.{◌≡◌, ◌≢◌, ◌&&◌, ◌||◌, ◌+◌, ◌∙◌, ℕ, suc, Bool, true, false, not, cond, List, [], ◌∷◌, map as each, filter, length, Option, None, Some, is_some, bytes_eq, refl, sym, ap, arith}
use Rattle.std.specs.FinMap as map
use Rattle.std.specs.FinMap.Entries.{below_all}
use Rattle.std.specs.List.{list_any, AllByRecursion}
use Rattle.std.specs.Option.{option_or}
use Rattle.std.specs.Ordering.{eq_by_cmp, is_eq, is_lt, ordering_then}
use Rattle.std.specs.declared.cmp.Ordering.{Ordering}
use Rattle.std.specs.declared.cmp.Ordering.TheVariants.{Less, Equal, Greater}
use Rattle.std.specs.Cmp.Lexicographic.{texts_ties}
use Rattle.std.specs.List.Sorted.{IsStrictlySortedBy}
use Rattle.std.proofs.lemmas.Bool.{false_from_ne_true, or_right, and_parts, or_parts, not-true}
use Rattle.std.proofs.lemmas.Slice.Eq.{bytes_eq-Decides}
use Rattle.std.proofs.lemmas.Cmp.{nat_list_cmp_total, tied_itself, eq_by_cmp_equiv}
use Rattle.ss_text.specs.Texts.{Text, text_cmp, text_eq, is_in}
use Rattle.outside.specs.Counts.{risen}
use Rattle.outside.specs.Tree.{Tree, Place, place_cmp, file_at, files_of, names_in}
use Rattle.outside.specs.WholeLaw.{place_exact, is_eq_true}
use Rattle.outside.proofs.PlaceLemmas.{place_total, names_ascend}
use Rattle.outside.specs.Effects.{Stored, performed, writing, removing}
use Rattle.outside.proofs.EffectLemmas.{performed_append}
use Rattle.view_folder.specs.declared.file.File.{File}
use Rattle.view_folder.specs.Files.{is_named, bytes_in, is_csv_name, other_names, AreViewFiles, Apart, AreThere}
use Rattle.view_folder.specs.Sync.{written, removed, opening_sync, opening_count, HoldsExactly}

-- places in one folder tie where their names are the same
same_name : (d q k : Text) → eq_by_cmp place_cmp (d, q) (d, k) ≡ text_eq q k
same_name d q k = ap (λ o. is_eq (ordering_then o (text_cmp q k))) (tied_itself nat_list_cmp_total d) ∙ sym (texts_ties q k)

-- and not in two folders
other_folder : (p : Place) (d k : Text) → p.0 ≢ d → eq_by_cmp place_cmp p (d, k) ≡ false
other_folder p d k ne = false_from_ne_true _ (λ t. ne (ap (λ (q : Place). q.0) (place_exact p (d, k) (is_eq_true _ t))))

-- a file that is written, and what is there beside it
pub write_at : (d k bytes : Text) (s : Stored) (q : Text) → file_at (writing d k bytes s).tree d q ≡ cond (text_eq q k) (Some bytes) (file_at s.tree d q)
write_at d k bytes s q = map.get-insert place_total s.tree.files (d, k) bytes (d, q) ∙ ap (λ b. cond b (Some bytes) (file_at s.tree d q)) (same_name d q k)

pub write_others : (d k bytes : Text) (s : Stored) (p : Place) → p.0 ≢ d → map.get (writing d k bytes s).tree.files p ≡ map.get s.tree.files p
write_others d k bytes s p ne = map.get-insert place_total s.tree.files (d, k) bytes p ∙ ap (λ b. cond b (Some bytes) (map.get s.tree.files p)) (other_folder p d k ne)

-- a file that is removed, and what is there beside it
pub remove_at : (d k : Text) (s : Stored) (q : Text) → file_at (removing d k s).tree d q ≡ cond (text_eq q k) None (file_at s.tree d q)
remove_at d k s q = map.get-remove place_total s.tree.files (d, k) (d, q) ∙ ap (λ b. cond b None (file_at s.tree d q)) (same_name d q k)

pub remove_others : (d k : Text) (s : Stored) (p : Place) → p.0 ≢ d → map.get (removing d k s).tree.files p ≡ map.get s.tree.files p
remove_others d k s p ne = map.get-remove place_total s.tree.files (d, k) p ∙ ap (λ b. cond b None (map.get s.tree.files p)) (other_folder p d k ne)

-- after these files were written
abbrev pub wrote : Text → List File → Stored → Stored
wrote d [] s = s
wrote d (f ∷ fs) s = wrote d fs (writing d f.name f.bytes s)

-- after these were removed
abbrev cleared : Text → List Text → Stored → Stored
cleared d [] s = s
cleared d (n ∷ ns) s = cleared d ns (removing d n s)

pub performed_written : (d : Text) (fs : List File) (s : Stored) (h : Option (List ℕ)) → performed (written d fs) (record { stored = Some s; held = h }) ≡ record { stored = Some (wrote d fs s); held = h }
performed_written d [] s h = refl
performed_written d (f ∷ fs) s h = performed_written d fs (writing d f.name f.bytes s) h

performed_removed : (d : Text) (ns : List Text) (s : Stored) (h : Option (List ℕ)) → performed (removed d ns) (record { stored = Some s; held = h }) ≡ record { stored = Some (cleared d ns s); held = h }
performed_removed d [] s h = refl
performed_removed d (n ∷ ns) s h = performed_removed d ns (removing d n s) h

-- what is not named stays as it was
pub none_named : (fs : List File) (q : Text) → is_named fs q ≡ false → bytes_in fs q ≡ None
none_named [] q h = refl
none_named (f ∷ fs) q h =
    elim (text_eq q f.name) as (λ b. (b || is_named fs q) ≡ false → cond b (Some f.bytes) (bytes_in fs q) ≡ None) [
      | true ↦ λ h. absurd (cc)
      | false ↦ λ h. none_named fs q h
    ] h

-- a file that was written, or what was there
written_at : (d : Text) (fs : List File) (s : Stored) (q : Text) → AreViewFiles fs → file_at (wrote d fs s).tree d q ≡ option_or (bytes_in fs q) (file_at s.tree d q)
written_at d [] s q h = refl
written_at d (f ∷ fs) s q h =
    written_at d fs (writing d f.name f.bytes s) q h.2
    ∙ ap (option_or (bytes_in fs q)) (write_at d f.name f.bytes s q)
    ∙ here_or_later (text_eq q f.name) refl
  where
    here_or_later : (b : Bool) → text_eq q f.name ≡ b → option_or (bytes_in fs q) (cond b (Some f.bytes) (file_at s.tree d q)) ≡ option_or (cond b (Some f.bytes) (bytes_in fs q)) (file_at s.tree d q)
    here_or_later true e = rw (none_named fs q (ap (is_named fs) ((bytes_eq-Decides q f.name).0 e) ∙ h.1)) refl
    here_or_later false e = refl

written_others : (d : Text) (fs : List File) (s : Stored) (p : Place) → p.0 ≢ d → map.get (wrote d fs s).tree.files p ≡ map.get s.tree.files p
written_others d [] s p ne = refl
written_others d (f ∷ fs) s p ne = written_others d fs (writing d f.name f.bytes s) p ne ∙ write_others d f.name f.bytes s p ne

twice : (w n : ℕ) → risen (risen w 1) n ≡ risen w (suc n)
twice w n = omega arith

written_count : (d : Text) (fs : List File) (s : Stored) → (wrote d fs s).writes ≡ risen s.writes (length fs)
written_count d [] s = omega arith
written_count d (f ∷ fs) s = written_count d fs (writing d f.name f.bytes s) ∙ twice s.writes (length fs)

-- a file that was removed, or what was there
removed_at : (d : Text) (ns : List Text) (s : Stored) (q : Text) → file_at (cleared d ns s).tree d q ≡ cond (is_in q ns) None (file_at s.tree d q)
removed_at d [] s q = refl
removed_at d (n ∷ ns) s q =
    removed_at d ns (removing d n s) q
    ∙ ap (cond (is_in q ns) None) (remove_at d n s q)
    ∙ either_gone (text_eq q n) (is_in q ns) (file_at s.tree d q)
  where
    either_gone : (a b : Bool) (o : Option (List ℕ)) → cond b None (cond a None o) ≡ cond (a || b) None o
    either_gone true true o = refl
    either_gone true false o = refl
    either_gone false b o = refl

removed_others : (d : Text) (ns : List Text) (s : Stored) (p : Place) → p.0 ≢ d → map.get (cleared d ns s).tree.files p ≡ map.get s.tree.files p
removed_others d [] s p ne = refl
removed_others d (n ∷ ns) s p ne = removed_others d ns (removing d n s) p ne ∙ remove_others d n s p ne

same_text : (q k : Text) → text_eq q k ≡ text_eq k q
same_text q k = texts_ties q k ∙ (eq_by_cmp_equiv nat_list_cmp_total).symm q k ∙ sym (texts_ties k q)

-- the names in a folder are those of the files that are there
named_there : (d q : Text) (ps : List Place) → is_in q (names_in d ps) ≡ list_any (eq_by_cmp place_cmp (d, q)) ps
named_there d q [] = refl
named_there d q (p ∷ ps) =
    elim (bytes_eq p.0 d) as (λ b. bytes_eq p.0 d ≡ b → is_in q (cond b (p.1 ∷ names_in d ps) (names_in d ps)) ≡ (eq_by_cmp place_cmp (d, q) p || list_any (eq_by_cmp place_cmp (d, q)) ps)) [
      | true ↦ λ e. ap (λ b. b || is_in q (names_in d ps)) (sym (same_name d q p.1) ∙ ap (λ (x : Text). eq_by_cmp place_cmp (d, q) (x, p.1)) (sym ((bytes_eq-Decides p.0 d).0 e))) ∙ ap (λ b. eq_by_cmp place_cmp (d, q) p || b) (named_there d q ps)
      | false ↦ λ e. named_there d q ps ∙ ap (λ b. b || list_any (eq_by_cmp place_cmp (d, q)) ps) (sym (apart e))
    ] refl
  where
    apart : bytes_eq p.0 d ≡ false → eq_by_cmp place_cmp (d, q) p ≡ false
    apart e = false_from_ne_true _ (λ t. let same : (d, q) ≡ p = place_exact (d, q) p (is_eq_true _ t) in let one = (bytes_eq-Decides p.0 d).1 (sym (ap (λ (x : Place). x.0) same)) in cc)

pub there : (t : Tree) (d q : Text) → is_in q (files_of t d) ≡ is_some (file_at t d q)
there t d q = named_there d q (map.keys t.files) ∙ sym (map.contains_key-keys t.files (d, q))

below_apart : (n : Text) (ns : List Text) → AllByRecursion (λ y. text_cmp n y ≡ Less) ns → is_in n ns ≡ false
below_apart n [] h = refl
below_apart n (m ∷ ms) h = rw (texts_ties n m, h.0, below_apart n ms h.1) refl

pub apart_sorted : (ns : List Text) → IsStrictlySortedBy text_cmp ns → Apart ns
unfolding IsStrictlySortedBy
apart_sorted [] h = tt
apart_sorted (n ∷ ns) h = (below_apart n ns h.0, apart_sorted ns h.1)

module _ (p : Text → Bool) where
  not_among : (n : Text) (ns : List Text) → is_in n ns ≡ false → is_in n (filter p ns) ≡ false
  not_among n [] h = refl
  not_among n (m ∷ ms) h =
      elim (text_eq n m) as (λ b. text_eq n m ≡ b → (b || is_in n ms) ≡ false → is_in n (cond (p m) (m ∷ filter p ms) (filter p ms)) ≡ false) [
        | true ↦ λ _ h. absurd (cc)
        | false ↦ λ e h. either (p m) e (not_among n ms h)
      ] refl h
    where
      either : (b : Bool) → text_eq n m ≡ false → is_in n (filter p ms) ≡ false → is_in n (cond b (m ∷ filter p ms) (filter p ms)) ≡ false
      either true e h = rw (e, h) refl
      either false e h = h

  apart_filter : (ns : List Text) → Apart ns → Apart (filter p ns)
  apart_filter [] h = tt
  apart_filter (n ∷ ns) h = either (p n) (apart_filter ns h.1)
    where
      either : (b : Bool) → Apart (filter p ns) → Apart (cond b (n ∷ filter p ns) (filter p ns))
      either true rest = (not_among n ns h.0, rest)
      either false rest = rest

  pub in_filter : (q : Text) (ns : List Text) → is_in q (filter p ns) ≡ (p q && is_in q ns)
  in_filter q [] = sym (nothing (p q))
    where
      nothing : (b : Bool) → (b && false) ≡ false
      nothing true = refl
      nothing false = refl
  in_filter q (n ∷ ns) =
      elim (text_eq q n) as (λ b. text_eq q n ≡ b → is_in q (cond (p n) (n ∷ filter p ns) (filter p ns)) ≡ (p q && (b || is_in q ns))) [
        | true ↦ λ e. here e (in_filter q ns) (ap p ((bytes_eq-Decides q n).0 e))
        | false ↦ λ e. later e (p n) ∙ in_filter q ns
      ] refl
    where
      here : text_eq q n ≡ true → is_in q (filter p ns) ≡ (p q && is_in q ns) → p q ≡ p n → is_in q (cond (p n) (n ∷ filter p ns) (filter p ns)) ≡ (p q && true)
      here e rest same =
          elim (p n) as (λ b. p n ≡ b → is_in q (cond b (n ∷ filter p ns) (filter p ns)) ≡ (p q && true)) [
            | true ↦ λ f. rw (e, same, f) refl
            | false ↦ λ f. rest ∙ ap (λ b. b && is_in q ns) (same ∙ f) ∙ sym (ap (λ b. b && true) (same ∙ f))
          ] refl

      later : text_eq q n ≡ false → (b : Bool) → is_in q (cond b (n ∷ filter p ns) (filter p ns)) ≡ is_in q (filter p ns)
      later e true = rw e refl
      later e false = refl

-- what holds of each text that is among these
each_among : (P : Text → Type 0) (ns : List Text) → ((q : Text) → is_in q ns ≡ true → P q) → AllByRecursion P ns
each_among P [] h = tt
each_among P (n ∷ ns) h = (h n (rw ((bytes_eq-Decides n n).1 refl) refl), each_among P ns (λ q e. h q (later q e)))
  where
    later : (q : Text) → is_in q ns ≡ true → (text_eq q n || is_in q ns) ≡ true
    later q e = or_right (text_eq q n) (is_in q ns) e

-- the other files are there still when one was removed
pub still_there : (d n : Text) (s : Stored) (ms : List Text) → is_in n ms ≡ false → AreThere d ms s.tree → AreThere d ms (removing d n s).tree
still_there d n s [] e h = tt
still_there d n s (m ∷ ms) e h =
    let parts = or_parts (text_eq n m) (is_in n ms) e in
    let gone : map.get (map.remove s.tree.files (d, n)) (d, m) ≡ file_at s.tree d m = remove_at d n s m ∙ ap (λ b. cond b None (file_at s.tree d m)) (same_text m n ∙ parts.0) in
    (ap is_some gone ∙ h.0, still_there d n s ms parts.1 h.1)

removed_count : (d : Text) (ns : List Text) (s : Stored) → Apart ns → AreThere d ns s.tree → (cleared d ns s).writes ≡ risen s.writes (length ns)
removed_count d [] s a h = omega arith
removed_count d (n ∷ ns) s a h =
    removed_count d ns (removing d n s) a.1 (still_there d n s ns a.0 h.1) ∙ ap (λ w. risen w (length ns)) (ap (λ b. cond b (risen s.writes 1) s.writes) h.0) ∙ twice s.writes (length ns)

less : (o : Ordering) → is_lt o ≡ true → o ≡ Less
less Less h = refl
less Equal h = absurd (cc)
less Greater h = absurd (cc)

module _ {K X : Type 0} (R : K → K → Ordering) where
  each_below : (k : K) (es : List (K × X)) → below_all R k es ≡ true → AllByRecursion (λ y. R k y ≡ Less) (each (λ (e : K × X). e.0) es)
  each_below k [] h = tt
  each_below k (e ∷ es) h =
      let parts = and_parts (is_lt (R k e.0)) (below_all R k es) h in
      (less (R k e.0) parts.0, each_below k es parts.1)

  pub keys_ascend : (es : List (K × X)) → map.is_sorted R es ≡ true → IsStrictlySortedBy R (each (λ (e : K × X). e.0) es)
  unfolding IsStrictlySortedBy
  keys_ascend [] h = tt
  keys_ascend (e ∷ es) h =
      let parts = and_parts (below_all R e.0 es) (map.is_sorted R es) h in
      (each_below e.0 es parts.0, keys_ascend es parts.1)

pub is_true : (b : Bool) → T b → b ≡ true
is_true true h = refl
is_true false h = absurd h

pub files_ascend : (t : Tree) (d : Text) → IsStrictlySortedBy text_cmp (files_of t d)
files_ascend t d = names_ascend d (map.keys t.files) (keys_ascend place_cmp (map.entries t.files) (is_true _ (map.entries_sorted t.files)))

apart_files : (t : Tree) (d : Text) → Apart (files_of t d)
apart_files t d = apart_sorted (files_of t d) (files_ascend t d)

one_named : (fs : List File) (q : Text) → is_named fs q ≡ true → is_some (bytes_in fs q) ≡ true
one_named [] q h = absurd (cc)
one_named (f ∷ fs) q h =
    elim (text_eq q f.name) as (λ b. (b || is_named fs q) ≡ true → is_some (cond b (Some f.bytes) (bytes_in fs q)) ≡ true) [
      | true ↦ λ h. refl
      | false ↦ λ h. one_named fs q h
    ] h

-- a view's file ends in `.csv`
pub csv_named : (fs : List File) (q : Text) → AreViewFiles fs → is_csv_name q ≡ false → is_named fs q ≡ false
csv_named [] q h e = refl
csv_named (f ∷ fs) q h e =
    elim (text_eq q f.name) as (λ b. text_eq q f.name ≡ b → (b || is_named fs q) ≡ false) [
      | true ↦ λ same. let one = ap is_csv_name ((bytes_eq-Decides q f.name).0 same) in absurd (cc (h.0))
      | false ↦ λ _. csv_named fs q h.2 e
    ] refl

module _ (d : Text) (fs : List File) (s : Stored) (h : AreViewFiles fs) where
  abbrev pub others : List Text
  others = other_names fs (files_of s.tree d)

  abbrev pub now : Stored
  now = cleared d others (wrote d fs s)

  -- what is there in the end: a view's file, else nothing if it was another `.csv` file, else what was there
  left_at : (q : Text) → file_at now.tree d q ≡ cond (is_csv_name q && not (is_named fs q) && is_some (file_at s.tree d q)) None (option_or (bytes_in fs q) (file_at s.tree d q))
  left_at q =
      removed_at d others (wrote d fs s) q
      ∙ ap (λ b. cond b None (file_at (wrote d fs s).tree d q)) (in_filter (λ n. is_csv_name n && not (is_named fs n)) q (files_of s.tree d) ∙ ap (λ b. is_csv_name q && not (is_named fs q) && b) (there s.tree d q))
      ∙ ap (cond (is_csv_name q && not (is_named fs q) && is_some (file_at s.tree d q)) None) (written_at d fs s q h)

  tables_hold : (q : Text) → is_csv_name q ≡ true → file_at now.tree d q ≡ bytes_in fs q
  tables_hold q csv = left_at q ∙ ap (λ b. cond (b && not (is_named fs q) && is_some (file_at s.tree d q)) None (option_or (bytes_in fs q) (file_at s.tree d q))) csv ∙ cases (is_named fs q) refl
    where
      told : (o p : Option (List ℕ)) → is_some o ≡ true → option_or o p ≡ o
      told None p e = absurd (cc)
      told (Some x) p e = refl

      untold : (o p : Option (List ℕ)) → o ≡ None → cond (is_some p) None (option_or o p) ≡ o
      untold None None e = refl
      untold None (Some x) e = refl
      untold (Some x) p e = absurd (cc)

      cases : (b : Bool) → is_named fs q ≡ b → cond (not b && is_some (file_at s.tree d q)) None (option_or (bytes_in fs q) (file_at s.tree d q)) ≡ bytes_in fs q
      cases true e = told (bytes_in fs q) (file_at s.tree d q) (one_named fs q e)
      cases false e = untold (bytes_in fs q) (file_at s.tree d q) (none_named fs q e)

  others_stay : (q : Text) → is_csv_name q ≢ true → file_at now.tree d q ≡ file_at s.tree d q
  others_stay q ne =
      let no_csv = false_from_ne_true (is_csv_name q) ne in
      left_at q ∙ ap (λ b. cond (b && not (is_named fs q) && is_some (file_at s.tree d q)) None (option_or (bytes_in fs q) (file_at s.tree d q))) no_csv
      ∙ ap (λ o. option_or o (file_at s.tree d q)) (none_named fs q (csv_named fs q h no_csv))

  pub holds_exactly : HoldsExactly d fs s.tree now.tree
  holds_exactly = record {
    tables = tables_hold;
    not_csv = others_stay;
    others = λ p ne. removed_others d others (wrote d fs s) p ne ∙ written_others d fs s p ne;
  }

  pub each_there : AreThere d others (wrote d fs s).tree
  each_there = each_among (λ n. is_some (file_at (wrote d fs s).tree d n) ≡ true) others (λ q e.
      let among = and_parts (is_csv_name q && not (is_named fs q)) (is_in q (files_of s.tree d)) (sym (in_filter (λ n. is_csv_name n && not (is_named fs n)) q (files_of s.tree d)) ∙ e) in
      let unnamed = not-true (is_named fs q) (and_parts (is_csv_name q) (not (is_named fs q)) among.0).1 in
      ap is_some (written_at d fs s q h ∙ ap (λ o. option_or o (file_at s.tree d q)) (none_named fs q unnamed)) ∙ sym (there s.tree d q) ∙ among.1)

  pub others_apart : Apart others
  others_apart = apart_filter (λ n. is_csv_name n && not (is_named fs n)) (files_of s.tree d) (apart_files s.tree d)

  pub counted : now.writes ≡ risen s.writes (opening_count fs (files_of s.tree d))
  counted =
      removed_count d others (wrote d fs s) others_apart each_there
      ∙ ap (λ w. risen w (length others)) (written_count d fs s) ∙ joined s.writes (length fs) (length others)
    where
      joined : (w m n : ℕ) → risen (risen w m) n ≡ risen w (m + n)
      joined w m n = omega arith

  pub synced : (o : Option (List ℕ)) → performed (opening_sync d fs (files_of s.tree d)) (record { stored = Some s; held = o }) ≡ record { stored = Some now; held = o }
  synced o =
      performed_append (written d fs) (removed d others) (record { stored = Some s; held = o })
      ∙ ap (performed (removed d others)) (performed_written d fs s o) ∙ performed_removed d others (wrote d fs s) o
