-- Edits and moves that can be put on a list.
use Rattle.std.proofs.Common.{◌≡◌, ℕ, ◌+◌, ◌<◌, length, Bool, ◌&&◌, true, List, [], ◌∷◌, ◌++◌, get_or, drop, refl, sym, ap, ◌∙◌, subst, codes, bytes_eq}
use Rattle.std.specs.BTreeSet.{insert_key}
use Rattle.std.specs.BTreeMap.{is_at}
use Rattle.std.specs.Cmp.Lexicographic.{slice_cmp}
use Rattle.std.specs.List.{AllByRecursion, Contains, list_any}
use Rattle.std.specs.Ordering.{nat_cmp, ordering_then, match_ordering}
use Rattle.std.specs.declared.cmp.Ordering.{Ordering}
use Rattle.std.specs.declared.cmp.Ordering.TheVariants.{Less, Equal, Greater}
use Rattle.std.proofs.lemmas.Bool.{false≢true}
use Rattle.std.proofs.lemmas.List.{drop_more}
use Rattle.std.proofs.lemmas.List.Elements.{All-from_recursion, All-contains}
use Rattle.std.proofs.lemmas.List.Folds.{list_any_at}
use Rattle.std.proofs.lemmas.Map.Lookups.{exact_bytes, exact_pairs}
use Rattle.std.proofs.lemmas.Map.Views.{Contains-from_any, tells_apart}
use Rattle.std.proofs.lemmas.Slice.Eq.{bytes_eq-Decides}
use Rattle.outside.specs.declared.edit.Edit.{Edit}
use Rattle.outside.specs.declared.edit.Edit.TheVariants as edit
use Rattle.whole_sync.specs.declared.moves.Move.{Move}
use Rattle.whole_sync.specs.Lists.{move_words, moves_words, list_words, IsWord}
use Rattle.whole_sync.specs.Listing.{writes_file, is_written, FitsList, CanBeListed, AreWritten, Named}
use Rattle.whole_sync.specs.Protocol.{making, removing, moves_of}
use Rattle.whole_sync.proofs.ListLemmas.{moves_append, all_append, all_front, all_rest}

pub all_at : {X : Type 0} (P : X → Type 0) (xs : List X) (i : ℕ) (x : X) → i < length xs → x ≡ get_or xs i x → AllByRecursion P xs → P x
all_at P xs i x lt is all = All-contains P xs x (All-from_recursion P xs all) (i, lt, sym is)

-- the words of each move
each_words : (ms : List Move) → AllByRecursion IsWord (moves_words ms) → AllByRecursion (λ m. AllByRecursion IsWord (move_words m)) ms
each_words [] all = tt
each_words (m ∷ ms) all = (all_front (move_words m) (moves_words ms) all, each_words ms (all_rest (move_words m) (moves_words ms) all))

pub words_at : (ms : List Move) (i : ℕ) (m : Move) → i < length ms → m ≡ get_or ms i m → AllByRecursion IsWord (list_words ms) → AllByRecursion IsWord (move_words m)
words_at ms i m lt is all = all_at (λ (n : Move). AllByRecursion IsWord (move_words n)) ms i m lt is (each_words ms (all_front (moves_words ms) (codes "end" ∷ []) all.1))

-- what edits that can be listed name
making_words : (all es : List Edit) (ns : List (List ℕ)) → AllByRecursion (FitsList all) es → Named es ns → AllByRecursion IsWord (moves_words (making es ns))
making_words all [] ns fit named = tt
making_words all (edit.Write folder file bytes ∷ es) [] fit named = absurd named
making_words all (edit.Write folder file bytes ∷ es) (n ∷ ns) fit named = (refl, (named.0, (fit.0.0, (fit.0.1, making_words all es ns fit.1 named.1))))
making_words all (edit.MakeFolder folder ∷ es) ns fit named = (refl, (fit.0, making_words all es ns fit.1 named))
making_words all (edit.Remove folder file ∷ es) ns fit named = making_words all es ns fit.1 named
making_words all (edit.RemoveFolder folder ∷ es) ns fit named = making_words all es ns fit.1 named

removing_words : (all es : List Edit) → AllByRecursion (FitsList all) es → AllByRecursion IsWord (moves_words (removing es))
removing_words all [] fit = tt
removing_words all (edit.Write folder file bytes ∷ es) fit = removing_words all es fit.1
removing_words all (edit.MakeFolder folder ∷ es) fit = removing_words all es fit.1
removing_words all (edit.Remove folder file ∷ es) fit = (refl, (fit.0.0, (fit.0.1, removing_words all es fit.1)))
removing_words all (edit.RemoveFolder folder ∷ es) fit = (refl, (fit.0, removing_words all es fit.1))

pub listed_words : (es : List Edit) (ns : List (List ℕ)) → CanBeListed es → Named es ns → AllByRecursion IsWord (list_words (moves_of es ns))
listed_words es ns fit named =
    let both = all_append (moves_words (making es ns)) (moves_words (removing es)) (making_words es es ns fit named) (removing_words es es fit) in
    let all : AllByRecursion IsWord (moves_words (moves_of es ns)) = subst (λ (ws : List (List ℕ)). AllByRecursion IsWord ws) (sym (moves_append (making es ns) (removing es))) both in
    (refl, all_append (moves_words (moves_of es ns)) (codes "end" ∷ []) all (refl, tt))

-- the files that edits write, in a set
abbrev Place : Type 0
Place = List ℕ × List ℕ

abbrev place_cmp : Place → Place → Ordering
place_cmp x y = ordering_then (slice_cmp nat_cmp x.0 y.0) (slice_cmp nat_cmp x.1 y.1)

inserted : {X : Type 0} (P : X → Type 0) (cmp : X → X → Ordering) (ks : List X) (k : X) → AllByRecursion P ks → P k → AllByRecursion P (insert_key cmp ks k)
inserted P cmp [] k all here = (here, tt)
inserted P cmp (x ∷ xs) k all here =
    elim (cmp k x) as (λ o. AllByRecursion P (match_ordering o (k ∷ x ∷ xs) (x ∷ xs) (x ∷ insert_key cmp xs k))) [ Less ↦ (here, all) | Equal ↦ all | Greater ↦ (all.0, inserted P cmp xs k all.1 here) ]

itself : (f n : List ℕ) → (bytes_eq f f && bytes_eq n n) ≡ true
itself f n = ap (λ (b : Bool). b && bytes_eq n n) ((bytes_eq-Decides f f).1 refl) ∙ (bytes_eq-Decides n n).1 refl

pub place_added : (es : List Edit) (folder file bytes : List ℕ) (old new : List Place) → new ≡ insert_key place_cmp old (folder, file) → AreWritten es old → Contains es (edit.Write folder file bytes) → AreWritten es new
place_added es folder file bytes old new is all among =
    let here : is_written folder file es ≡ true = list_any_at (writes_file folder file) es among.0 (edit.Write folder file bytes) among.1 (ap (writes_file folder file) among.2 ∙ itself folder file) in
    subst (λ (ks : List Place). AreWritten es ks) (sym is) (inserted (λ (p : Place). is_written p.0 p.1 es ≡ true) place_cmp old (folder, file) all here)

pub removed_written : (es : List Edit) (places : List Place) (folder file : List ℕ) → list_any (is_at (place_cmp (folder, file))) places ≡ true → AreWritten es places → FitsList es (edit.Remove folder file) → ⊥
removed_written es places folder file test all fits =
    let among : Contains places (folder, file) = Contains-from_any (tells_apart (exact_pairs (slice_cmp nat_cmp) (slice_cmp nat_cmp) exact_bytes exact_bytes)) (folder, file) places test in
    let here : is_written folder file es ≡ true = All-contains (λ (p : Place). is_written p.0 p.1 es ≡ true) places (folder, file) (All-from_recursion (λ (p : Place). is_written p.0 p.1 es ≡ true) places all) among in
    false≢true (sym fits.2 ∙ here)

-- the names that are left for other edits
pub named_append : (es fs : List Edit) (ns ms : List (List ℕ)) → Named es ns → Named fs ms → Named (es ++ fs) (ns ++ ms)
named_append [] fs [] ms a b = b
named_append [] fs (n ∷ ns) ms a b = absurd a
named_append (edit.Write folder file bytes ∷ es) fs [] ms a b = absurd a
named_append (edit.Write folder file bytes ∷ es) fs (n ∷ ns) ms a b = (a.0, named_append es fs ns ms a.1 b)
named_append (edit.MakeFolder folder ∷ es) fs ns ms a b = named_append es fs ns ms a b
named_append (edit.Remove folder file ∷ es) fs ns ms a b = named_append es fs ns ms a b
named_append (edit.RemoveFolder folder ∷ es) fs ns ms a b = named_append es fs ns ms a b

pub named_at : (es : List Edit) (i : ℕ) (e : Edit) (ns : List (List ℕ)) → i < length es → e ≡ get_or es i e → Named (drop i es) ns → Named (e ∷ drop (i + 1) es) ns
named_at es i e ns lt is named = subst (λ (fs : List Edit). Named fs ns) (drop_more es i e lt ∙ ap (λ (x : Edit). x ∷ drop (i + 1) es) (sym is)) named
