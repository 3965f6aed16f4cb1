-- The files behind a list that is finished are those behind its edits.
use Rattle.std.proofs.Common.{◌≡◌, ℕ, Bool, true, false, List, [], ◌∷◌, ◌++◌, map, Option, None, Some, refl, sym, ap, ◌∙◌, append-nil, bytes_eq, if◌then◌else◌}
use Rattle.std.proofs.lemmas.Slice.Eq.{bytes_eq-Decides}
use Rattle.outside.specs.declared.edit.Edit.{Edit}
use Rattle.outside.specs.declared.edit.Edit.TheVariants as edit
use Rattle.whole_sync.specs.declared.moves.Move.{Move}
use Rattle.whole_sync.specs.declared.moves.Move.TheVariants.{MakeFolder, TakePlace, Remove, RemoveFolder}
use Rattle.whole_sync.specs.Disks.{Held, PutBeside, PutList, Do, with_beside, placed, moved, after, all_after}
use Rattle.whole_sync.specs.Protocol.{puts, making, removing, moves_of, is_due, picked, finishing, all_written, all_removed, edited}
use Rattle.whole_sync.specs.Replacing.{Free}
use Rattle.whole_sync.proofs.StopLemmas.{finished_is}

set_same : (name : List ℕ) (content : Option (List ℕ)) (beside : List ℕ → Option (List ℕ)) → with_beside name content beside name ≡ content
set_same name content beside = ap (λ (b : Bool). if b then content else beside name) ((bytes_eq-Decides name name).1 refl)

other_at : (b : Bool) (x y : Option (List ℕ)) → (b ≡ true → ⊥) → (if b then x else y) ≡ y
other_at true x y unlike = absurd (unlike refl)
other_at false x y unlike = refl

set_other : (name n : List ℕ) (content : Option (List ℕ)) (beside : List ℕ → Option (List ℕ)) → (n ≡ name → ⊥) → with_beside name content beside n ≡ beside n
set_other name n content beside unlike = other_at (bytes_eq n name) content (beside n) (λ e. unlike ((bytes_eq-Decides n name).0 e))

some_none : {A : Type 0} (x : A) → Some x ≡ None → ⊥
some_none x e = absurd (cc)

apart : (n m : List ℕ) (h : Held) (y : List ℕ) → h.beside n ≡ Some y → h.beside m ≡ None → n ≡ m → ⊥
apart n m h y some none e = some_none y (sym some ∙ (ap h.beside e ∙ none))

-- what lies beside a place stays there while others are put
abbrev NotAmong : List ℕ → List (List ℕ) → Type 0
NotAmong m [] = Unit {0}
NotAmong m (n ∷ ns) = (m ≡ n → ⊥) × NotAmong m ns

still_there : (n f p x m y : List ℕ) (h : Held) → h.beside n ≡ None → h.beside m ≡ Some y → (after (PutBeside n f p x) h).beside m ≡ Some y
still_there n f p x m y h free e = set_other n m (Some x) h.beside (apart m n h y e free) ∙ e

puts_keep : (es : List Edit) (ns : List (List ℕ)) (h : Held) (m y : List ℕ) → Free es ns h → h.beside m ≡ Some y → (all_after (puts es ns) h).beside m ≡ Some y
puts_keep [] [] h m y f e = e
puts_keep [] (n ∷ ns) h m y f e = absurd f
puts_keep (edit.Write folder file bytes ∷ es) [] h m y f e = absurd f
puts_keep (edit.Write folder file bytes ∷ es) (n ∷ ns) h m y f e = puts_keep es ns (after (PutBeside n folder file bytes) h) m y f.1 (still_there n folder file bytes m y h f.0 e)
puts_keep (edit.MakeFolder folder ∷ es) ns h m y f e = puts_keep es ns h m y f e
puts_keep (edit.Remove folder file ∷ es) ns h m y f e = puts_keep es ns h m y f e
puts_keep (edit.RemoveFolder folder ∷ es) ns h m y f e = puts_keep es ns h m y f e

puts_apart : (es : List Edit) (ns : List (List ℕ)) (h : Held) (m y : List ℕ) → Free es ns h → h.beside m ≡ Some y → NotAmong m ns
puts_apart [] [] h m y f e = tt
puts_apart [] (n ∷ ns) h m y f e = absurd f
puts_apart (edit.Write folder file bytes ∷ es) [] h m y f e = absurd f
puts_apart (edit.Write folder file bytes ∷ es) (n ∷ ns) h m y f e = (apart m n h y e f.0, puts_apart es ns (after (PutBeside n folder file bytes) h) m y f.1 (still_there n folder file bytes m y h f.0 e))
puts_apart (edit.MakeFolder folder ∷ es) ns h m y f e = puts_apart es ns h m y f e
puts_apart (edit.Remove folder file ∷ es) ns h m y f e = puts_apart es ns h m y f e
puts_apart (edit.RemoveFolder folder ∷ es) ns h m y f e = puts_apart es ns h m y f e

-- each name has the bytes of its write, and unlike other write has that name
abbrev Lying : List Edit → List (List ℕ) → Held → Type 0
Lying [] [] h = Unit {0}
Lying [] (n ∷ ns) h = ⊥
Lying (edit.Write folder file bytes ∷ es) [] h = ⊥
Lying (edit.Write folder file bytes ∷ es) (n ∷ ns) h = (h.beside n ≡ Some bytes) × NotAmong n ns × Lying es ns h
Lying (edit.MakeFolder folder ∷ es) ns h = Lying es ns h
Lying (edit.Remove folder file ∷ es) ns h = Lying es ns h
Lying (edit.RemoveFolder folder ∷ es) ns h = Lying es ns h

puts_lie : (es : List Edit) (ns : List (List ℕ)) (h : Held) → Free es ns h → Lying es ns (all_after (puts es ns) h)
puts_lie [] [] h f = tt
puts_lie [] (n ∷ ns) h f = absurd f
puts_lie (edit.Write folder file bytes ∷ es) [] h f = absurd f
puts_lie (edit.Write folder file bytes ∷ es) (n ∷ ns) h f =
    let there : with_beside n (Some bytes) h.beside n ≡ Some bytes = set_same n (Some bytes) h.beside in
    let k = after (PutBeside n folder file bytes) h in
    (puts_keep es ns k n bytes f.1 there, puts_apart es ns k n bytes f.1 there, puts_lie es ns k f.1)
puts_lie (edit.MakeFolder folder ∷ es) ns h f = puts_lie es ns h f
puts_lie (edit.Remove folder file ∷ es) ns h f = puts_lie es ns h f
puts_lie (edit.RemoveFolder folder ∷ es) ns h f = puts_lie es ns h f

lying_beside : (es : List Edit) (ns : List (List ℕ)) (h k : Held) → ((n : List ℕ) → k.beside n ≡ h.beside n) → Lying es ns h → Lying es ns k
lying_beside [] [] h k same l = tt
lying_beside [] (n ∷ ns) h k same l = absurd l
lying_beside (edit.Write folder file bytes ∷ es) [] h k same l = absurd l
lying_beside (edit.Write folder file bytes ∷ es) (n ∷ ns) h k same l = (same n ∙ l.0, l.1, lying_beside es ns h k same l.2)
lying_beside (edit.MakeFolder folder ∷ es) ns h k same l = lying_beside es ns h k same l
lying_beside (edit.Remove folder file ∷ es) ns h k same l = lying_beside es ns h k same l
lying_beside (edit.RemoveFolder folder ∷ es) ns h k same l = lying_beside es ns h k same l

lying_apart : (es : List Edit) (ns : List (List ℕ)) (h k : Held) (m : List ℕ) → NotAmong m ns → ((n : List ℕ) → (n ≡ m → ⊥) → k.beside n ≡ h.beside n) → Lying es ns h → Lying es ns k
lying_apart [] [] h k m unlike same l = tt
lying_apart [] (n ∷ ns) h k m unlike same l = absurd l
lying_apart (edit.Write folder file bytes ∷ es) [] h k m unlike same l = absurd l
lying_apart (edit.Write folder file bytes ∷ es) (n ∷ ns) h k m unlike same l = (same n (λ e. unlike.0 (sym e)) ∙ l.0, l.1, lying_apart es ns h k m unlike.1 same l.2)
lying_apart (edit.MakeFolder folder ∷ es) ns h k m unlike same l = lying_apart es ns h k m unlike same l
lying_apart (edit.Remove folder file ∷ es) ns h k m unlike same l = lying_apart es ns h k m unlike same l
lying_apart (edit.RemoveFolder folder ∷ es) ns h k m unlike same l = lying_apart es ns h k m unlike same l

-- files take their places, and files go
making_files : (es : List Edit) (ns : List (List ℕ)) (h : Held) → Lying es ns h → (all_after (map Do (making es ns)) h).files ≡ all_written es h.files
making_files [] [] h l = refl
making_files [] (n ∷ ns) h l = absurd l
making_files (edit.Write folder file bytes ∷ es) [] h l = absurd l
making_files (edit.Write folder file bytes ∷ es) (n ∷ ns) h l =
    let k = placed (Some bytes) n folder file h in
    ap (λ (o : Option (List ℕ)). (all_after (map Do (making es ns)) (placed o n folder file h)).files) l.0
    ∙ making_files es ns k (lying_apart es ns h k n l.1 (λ m unlike. set_other n m None h.beside unlike) l.2)
making_files (edit.MakeFolder folder ∷ es) ns h l = making_files es ns h l
making_files (edit.Remove folder file ∷ es) ns h l = making_files es ns h l
making_files (edit.RemoveFolder folder ∷ es) ns h l = making_files es ns h l

removing_files : (es : List Edit) (h : Held) → (all_after (map Do (removing es)) h).files ≡ all_removed es h.files
removing_files [] h = refl
removing_files (edit.Write folder file bytes ∷ es) h = removing_files es h
removing_files (edit.MakeFolder folder ∷ es) h = removing_files es h
removing_files (edit.Remove folder file ∷ es) h = removing_files es (moved (Remove folder file) h)
removing_files (edit.RemoveFolder folder ∷ es) h = removing_files es h

-- the moves of edits in their order
chosen_append : (b : Bool) (m : Move) (xs ys : List Move) → (if b then m ∷ xs ++ ys else xs ++ ys) ≡ (if b then m ∷ xs else xs) ++ ys
chosen_append true m xs ys = refl
chosen_append false m xs ys = refl

picked_append : (b : Bool) (xs ys : List Move) → picked b (xs ++ ys) ≡ picked b xs ++ picked b ys
picked_append b [] ys = refl
picked_append b (m ∷ xs) ys = ap (λ (p : List Move). if is_due b m then m ∷ p else p) (picked_append b xs ys) ∙ chosen_append (is_due b m) m (picked b xs) (picked b ys)

making_made : (es : List Edit) (ns : List (List ℕ)) → picked true (making es ns) ≡ making es ns
making_made [] ns = refl
making_made (edit.Write folder file bytes ∷ es) [] = refl
making_made (edit.Write folder file bytes ∷ es) (n ∷ ns) = ap (λ (ms : List Move). TakePlace n folder file ∷ ms) (making_made es ns)
making_made (edit.MakeFolder folder ∷ es) ns = ap (λ (ms : List Move). MakeFolder folder ∷ ms) (making_made es ns)
making_made (edit.Remove folder file ∷ es) ns = making_made es ns
making_made (edit.RemoveFolder folder ∷ es) ns = making_made es ns

making_gone : (es : List Edit) (ns : List (List ℕ)) → picked false (making es ns) ≡ []
making_gone [] ns = refl
making_gone (edit.Write folder file bytes ∷ es) [] = refl
making_gone (edit.Write folder file bytes ∷ es) (n ∷ ns) = making_gone es ns
making_gone (edit.MakeFolder folder ∷ es) ns = making_gone es ns
making_gone (edit.Remove folder file ∷ es) ns = making_gone es ns
making_gone (edit.RemoveFolder folder ∷ es) ns = making_gone es ns

removing_made : (es : List Edit) → picked true (removing es) ≡ []
removing_made [] = refl
removing_made (edit.Write folder file bytes ∷ es) = removing_made es
removing_made (edit.MakeFolder folder ∷ es) = removing_made es
removing_made (edit.Remove folder file ∷ es) = removing_made es
removing_made (edit.RemoveFolder folder ∷ es) = removing_made es

removing_gone : (es : List Edit) → picked false (removing es) ≡ removing es
removing_gone [] = refl
removing_gone (edit.Write folder file bytes ∷ es) = removing_gone es
removing_gone (edit.MakeFolder folder ∷ es) = removing_gone es
removing_gone (edit.Remove folder file ∷ es) = ap (λ (ms : List Move). Remove folder file ∷ ms) (removing_gone es)
removing_gone (edit.RemoveFolder folder ∷ es) = ap (λ (ms : List Move). RemoveFolder folder ∷ ms) (removing_gone es)

makes_are : (es : List Edit) (ns : List (List ℕ)) → picked true (moves_of es ns) ≡ making es ns
makes_are es ns = picked_append true (making es ns) (removing es) ∙ (ap (λ (ms : List Move). ms ++ picked true (removing es)) (making_made es ns) ∙ (ap (λ (ms : List Move). making es ns ++ ms) (removing_made es) ∙ append-nil (making es ns)))

removes_are : (es : List Edit) (ns : List (List ℕ)) → picked false (moves_of es ns) ≡ removing es
removes_are es ns = picked_append false (making es ns) (removing es) ∙ (ap (λ (ms : List Move). ms ++ picked false (removing es)) (making_gone es ns) ∙ removing_gone es)

pub puts_files : (es : List Edit) (ns : List (List ℕ)) (h : Held) → (all_after (puts es ns) h).files ≡ h.files
puts_files [] ns h = refl
puts_files (edit.Write folder file bytes ∷ es) [] h = refl
puts_files (edit.Write folder file bytes ∷ es) (n ∷ ns) h = puts_files es ns (after (PutBeside n folder file bytes) h)
puts_files (edit.MakeFolder folder ∷ es) ns h = puts_files es ns h
puts_files (edit.Remove folder file ∷ es) ns h = puts_files es ns h
puts_files (edit.RemoveFolder folder ∷ es) ns h = puts_files es ns h

pub finished_files : (es : List Edit) (ns : List (List ℕ)) (text : List ℕ) (h : Held) → Free es ns h → (all_after (finishing (moves_of es ns)) (after (PutList text) (all_after (puts es ns) h))).files ≡ edited es h.files
finished_files es ns text h free =
    let laid = all_after (puts es ns) h in
    let listed = after (PutList text) laid in
    let lies : Lying es ns listed = lying_beside es ns laid listed (λ n. refl) (puts_lie es ns h free) in
    let made = all_after (map Do (making es ns)) listed in
    let all : (all_after (map Do (picked false (moves_of es ns))) (all_after (map Do (picked true (moves_of es ns))) listed)).files ≡ (all_after (map Do (removing es)) made).files =
    ap (λ (ms : List Move). (all_after (map Do (picked false (moves_of es ns))) (all_after (map Do ms) listed)).files) (makes_are es ns)
    ∙ ap (λ (ms : List Move). (all_after (map Do ms) made).files) (removes_are es ns) in
    ap (λ (x : Held). x.files) (finished_is (moves_of es ns) listed)
    ∙ (all ∙ (removing_files es made ∙ ap (all_removed es) (making_files es ns listed lies ∙ ap (all_written es) (puts_files es ns h))))
