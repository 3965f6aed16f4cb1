-- How names are compared one after another, and when a folder is the same as the files that are meant.
use Rattle.std.proofs.Common.{◌≡◌, ◌∙◌, ◌<◌, ◌+◌, ℕ, Bool, true, false, not, cond, List, [], ◌∷◌, ◌++◌, map as each, filter, length, take, get_or, Bor, Option, None, Some, is_some, refl, sym, ap}
use Rattle.std.specs.Prelude.{◌||◌, ◌&&◌, find}
use Rattle.std.specs.List.{list_any}
use Rattle.std.specs.Option.{option_eq, option_map_or, option_or, option_copied}
use Rattle.std.specs.BTreeMap.{is_at}
use Rattle.std.specs.Cmp.Lexicographic.{texts_ties}
use Rattle.std.proofs.lemmas.Cmp.{nat_list_cmp_total, eq_by_cmp_equiv}
use Rattle.std.proofs.lemmas.List.{take_more}
use Rattle.std.proofs.lemmas.Bool.{or_parts, or_from, or_left, or_right, and_from, false≢true}
use Rattle.std.proofs.lemmas.List.Folds.{list_any-append}
use Rattle.csv_catalog.proofs.FilesLemmas.{or_nothing}
use Rattle.ss_text.specs.Texts.{Text, text_cmp, text_eq, is_in}
use Rattle.ss_text.proofs.KeyLemmas.{text_order, equal_itself, equal_is}
use Rattle.ss_text.proofs.SetLemmas.{same_ascending}
use Rattle.outside.specs.Tree.{Tree, file_at, files_of}
use Rattle.view_folder.specs.declared.file.File.{File}
use Rattle.view_folder.specs.declared.comparison.Comparison.{Comparison}
use Rattle.view_folder.specs.declared.comparison.Comparison.TheVariants.{Same}
use Rattle.view_folder.specs.Files.{bytes_in, is_csv_name, is_named, AreViewFiles}
use Rattle.view_folder.specs.Sync.{Holds}
use Rattle.view_folder.specs.Comparison.{compared_names, difference, differs_at, difference_at, compared, comparison}
use Rattle.view_folder.proofs.FolderLemmas.{there, in_filter, none_named, csv_named}

module _ (d : Text) (fs : List File) (t : Tree) where
  -- a name at which the folder is the same is passed over
  pub next_same : (name : Text) (rest : List Text) → None ≡ cond (differs_at d fs t name) (Some (difference_at d fs t name)) None → compared d fs t (name ∷ rest) ≡ compared d fs t rest
  next_same name rest h = by_case (differs_at d fs t name) h
    where
      by_case : (b : Bool) → None ≡ cond b (Some (difference_at d fs t name)) None → option_map_or (difference_at d fs t) (cond b (Some name) (find (differs_at d fs t) rest)) (Same (length fs)) ≡ compared d fs t rest
      by_case true h = absurd (cc)
      by_case false h = refl

  -- and the first at which it differs is the answer
  pub next_differs : (name : Text) (rest : List Text) (c : Comparison) → Some c ≡ cond (differs_at d fs t name) (Some (difference_at d fs t name)) None → c ≡ compared d fs t (name ∷ rest)
  next_differs name rest c h = by_case (differs_at d fs t name) h
    where
      by_case : (b : Bool) → Some c ≡ cond b (Some (difference_at d fs t name)) None → c ≡ option_map_or (difference_at d fs t) (cond b (Some name) (find (differs_at d fs t) rest)) (Same (length fs))
      by_case true h = cc
      by_case false h = absurd (cc)

-- the difference under a name, where this is what its file is to hold
pub difference_meant : (d : Text) (fs : List File) (t : Tree) (name : Text) (meant : Option Text) → meant ≡ bytes_in fs name
    → difference name (file_at t d name) meant ≡ cond (differs_at d fs t name) (Some (difference_at d fs t name)) None
difference_meant d fs t name meant e = ap (difference name (file_at t d name)) e

-- what files are to hold, and after them others
bytes_in-append : (fs gs : List File) (q : Text) → bytes_in (fs ++ gs) q ≡ option_or (bytes_in fs q) (bytes_in gs q)
bytes_in-append [] gs q = refl
bytes_in-append (f ∷ fs) gs q = either (text_eq q f.name) (bytes_in-append fs gs q)
  where
    either : (b : Bool) → bytes_in (fs ++ gs) q ≡ option_or (bytes_in fs q) (bytes_in gs q) → cond b (Some f.bytes) (bytes_in (fs ++ gs) q) ≡ option_or (cond b (Some f.bytes) (bytes_in fs q)) (bytes_in gs q)
    either true h = refl
    either false h = h

pub meant_more : (fs : List File) (i : ℕ) (f : File) (q : Text) → i < length fs → f ≡ get_or fs i f → bytes_in (take (i + 1) fs) q ≡ option_or (bytes_in (take i fs) q) (bytes_in (f ∷ []) q)
meant_more fs i f q lt is =
    ap (λ (xs : List File). bytes_in xs q) (take_more fs i f lt ∙ ap (λ (x : File). take i fs ++ x ∷ []) (sym is)) ∙ bytes_in-append (take i fs) (f ∷ []) q

module _ (old : Text → Option (Bor Text)) (f : File) where
  tied : (q : Text) → is_at (text_cmp f.name) q ≡ text_eq q f.name
  tied q = sym (texts_ties q f.name ∙ (eq_by_cmp_equiv nat_list_cmp_total).symm q f.name)

  -- the first file of its name
  pub first_meant : (new : Text → Option (Bor Text)) (v : Bor Text) → v.now ≡ f.bytes → is_some (old f.name) ≡ false → ((q : Text) → new q ≡ cond (is_at (text_cmp f.name) q) (Some v) (old q))
      → (q : Text) → option_copied (new q) ≡ option_or (option_copied (old q)) (bytes_in (f ∷ []) q)
  first_meant new v is absent h q = ap option_copied (h q ∙ ap (λ b. cond b (Some v) (old q)) (tied q)) ∙ by_case (text_eq q f.name) refl
    where
      missing : (o : Option (Bor Text)) → is_some o ≡ false → o ≡ None
      missing None h = refl
      missing (Some x) h = absurd (cc)

      by_case : (b : Bool) → text_eq q f.name ≡ b → option_copied (cond b (Some v) (old q)) ≡ option_or (option_copied (old q)) (cond b (Some f.bytes) None)
      by_case true e = ap Some is ∙ ap (λ (o : Option (Bor Text)). option_or (option_copied o) (Some f.bytes)) (sym (ap old (equal_is text_order q f.name e) ∙ missing (old f.name) absent))
      by_case false e = sym (or_nothing (option_copied (old q)))

  -- and a later one
  pub later_unmeant : is_some (old f.name) ≡ true → (q : Text) → option_copied (old q) ≡ option_or (option_copied (old q)) (bytes_in (f ∷ []) q)
  later_unmeant there q = by_case (text_eq q f.name) refl
    where
      some : (o : Option (Bor Text)) (p : Option Text) → is_some o ≡ true → option_copied o ≡ option_or (option_copied o) p
      some None p h = absurd (cc)
      some (Some x) p h = refl

      by_case : (b : Bool) → text_eq q f.name ≡ b → option_copied (old q) ≡ option_or (option_copied (old q)) (cond b (Some f.bytes) None)
      by_case true e = some (old q) (Some f.bytes) (ap (λ (x : Text). is_some (old x)) (equal_is text_order q f.name e) ∙ there)
      by_case false e = sym (or_nothing (option_copied (old q)))

module _ {A : Type 0} (p : A → Bool) where
  none_found : (xs : List A) → list_any p xs ≡ false → find p xs ≡ None
  none_found [] h = refl
  none_found (x ∷ xs) h = let parts = or_parts (p x) (list_any p xs) h in rw parts.0 (none_found xs parts.1)

  found_none : (xs : List A) → find p xs ≡ None → list_any p xs ≡ false
  found_none [] h = refl
  found_none (x ∷ xs) h = by_case (p x) h (found_none xs)
    where
      by_case : (b : Bool) → cond b (Some x) (find p xs) ≡ None → (find p xs ≡ None → list_any p xs ≡ false) → (b || list_any p xs) ≡ false
      by_case true h later = absurd (cc)
      by_case false h later = later h

module _ (p : Text → Bool) where
  -- where no text passes, none of them does, and the other way round
  none_of : (xs : List Text) (q : Text) → list_any p xs ≡ false → is_in q xs ≡ true → p q ≡ false
  none_of [] q h among = absurd (false≢true among)
  none_of (x ∷ xs) q h among =
      let parts = or_parts (p x) (list_any p xs) h in
      by_case (text_eq q x) refl among parts.0 (λ e. none_of xs q parts.1 e)
    where
      by_case : (b : Bool) → text_eq q x ≡ b → (b || is_in q xs) ≡ true → p x ≡ false → (is_in q xs ≡ true → p q ≡ false) → p q ≡ false
      by_case true e among here later = ap p (equal_is text_order q x e) ∙ here
      by_case false e among here later = later among

  none_passes : (xs : List Text) → ((q : Text) → is_in q xs ≡ true → p q ≡ false) → list_any p xs ≡ false
  none_passes [] h = refl
  none_passes (x ∷ xs) h = or_from (p x) (list_any p xs) (h x (or_left (text_eq x x) (is_in x xs) (equal_itself text_order x))) (none_passes xs (λ q e. h q (or_right (text_eq q x) (is_in q xs) e)))

named_among : (fs : List File) (q : Text) → is_in q (each (λ (f : File). f.name) fs) ≡ is_named fs q
named_among [] q = refl
named_among (f ∷ fs) q = ap (λ b. text_eq q f.name || b) (named_among fs q)

same_option : (a b : Option Text) → not (option_eq text_eq a b) ≡ false → a ≡ b
same_option None None h = refl
same_option None (Some y) h = absurd (cc)
same_option (Some x) None h = absurd (cc)
same_option (Some x) (Some y) h = ap Some (equal_is text_order x y (not_false (text_eq x y) h))
  where
    not_false : (b : Bool) → not b ≡ false → b ≡ true
    not_false true h = refl
    not_false false h = absurd (cc)

option_itself : (a : Option Text) → option_eq text_eq a a ≡ true
option_itself None = refl
option_itself (Some x) = equal_itself text_order x

module _ (d : Text) (fs : List File) (t : Tree) where
  -- what is compared: each file's name, and the names in the folder that end in `.csv`
  among_compared : (q : Text) → is_in q (compared_names fs (files_of t d)) ≡ ((is_csv_name q && is_some (file_at t d q)) || is_named fs q)
  among_compared q =
      let names = filter is_csv_name (files_of t d) in
      let meant = each (λ (f : File). f.name) fs in
      sym ((same_ascending text_order.total text_order.same (names ++ meant)).same (text_eq q)) ∙ list_any-append (text_eq q) names meant
      ∙ ap (λ b. b || is_in q meant) (in_filter is_csv_name q (files_of t d) ∙ ap (λ b. is_csv_name q && b) (there t d q))
      ∙ ap (λ b. (is_csv_name q && is_some (file_at t d q)) || b) (named_among fs q)

  -- a comparison without a difference found none
  no_difference : (n : ℕ) → comparison d fs t ≡ Same n → (find (differs_at d fs t) (compared_names fs (files_of t d)) ≡ None) × (n ≡ length fs)
  no_difference n h = by_case (find (differs_at d fs t) (compared_names fs (files_of t d))) h
    where
      by_case : (o : Option Text) → option_map_or (difference_at d fs t) o (Same (length fs)) ≡ Same n → (o ≡ None) × (n ≡ length fs)
      by_case None h = (refl, cc)
      by_case (Some q) h = absurd (cc)

  -- where the comparison finds the same, the folder holds exactly these files
  pub same_holds : (n : ℕ) → comparison d fs t ≡ Same n → Holds d fs t × (n ≡ length fs)
  same_holds n h = (held, (no_difference n h).1)
    where
      none : list_any (differs_at d fs t) (compared_names fs (files_of t d)) ≡ false
      none = found_none (differs_at d fs t) (compared_names fs (files_of t d)) (no_difference n h).0

      alike : (q : Text) → is_in q (compared_names fs (files_of t d)) ≡ true → file_at t d q ≡ bytes_in fs q
      alike q among = same_option (file_at t d q) (bytes_in fs q) (none_of (differs_at d fs t) (compared_names fs (files_of t d)) q none among)

      missing : (o p : Option Text) → is_some o ≡ false → p ≡ None → o ≡ p
      missing None p h e = sym e
      missing (Some x) p h e = absurd (cc)

      held : Holds d fs t
      held q csv = by_case (is_some (file_at t d q)) refl (is_named fs q) refl
        where
          by_case : (a : Bool) → is_some (file_at t d q) ≡ a → (b : Bool) → is_named fs q ≡ b → file_at t d q ≡ bytes_in fs q
          by_case true e b f = alike q (among_compared q ∙ or_left _ (is_named fs q) (and_from (is_csv_name q) (is_some (file_at t d q)) csv e))
          by_case false e true f = alike q (among_compared q ∙ or_right (is_csv_name q && is_some (file_at t d q)) (is_named fs q) f)
          by_case false e false f = missing (file_at t d q) (bytes_in fs q) e (none_named fs q f)

  -- and where it holds exactly these files, the comparison finds the same
  pub holds_same : AreViewFiles fs → Holds d fs t → comparison d fs t ≡ Same (length fs)
  holds_same view held = ap (λ (o : Option Text). option_map_or (difference_at d fs t) o (Same (length fs))) (none_found (differs_at d fs t) (compared_names fs (files_of t d)) (none_passes (differs_at d fs t) (compared_names fs (files_of t d)) alike))
    where
      compared_csv : (q : Text) → ((is_csv_name q && is_some (file_at t d q)) || is_named fs q) ≡ true → is_csv_name q ≡ true
      compared_csv q h = by_case (is_csv_name q) refl h
        where
          by_case : (b : Bool) → is_csv_name q ≡ b → ((b && is_some (file_at t d q)) || is_named fs q) ≡ true → b ≡ true
          by_case true e h = refl
          by_case false e h = absurd (false≢true (sym (csv_named fs q view e) ∙ h))

      alike : (q : Text) → is_in q (compared_names fs (files_of t d)) ≡ true → differs_at d fs t q ≡ false
      alike q among = ap (λ (o : Option Text). not (option_eq text_eq o (bytes_in fs q))) (held q (compared_csv q (sym (among_compared q) ∙ among))) ∙ ap not (option_itself (bytes_in fs q))
