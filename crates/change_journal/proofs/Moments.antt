-- How a run of calls on a disk goes on.
use Rattle.std.proofs.Common.{◌⊎◌, inl, inr, ⊎_elim, ℕ, List, [], ◌∷◌, Ok, refl, sym, ap, ◌∙◌, append-nil, arith}
use Rattle.disk.specs.Disk.{DiskState, MayLeave}
use Rattle.disk.specs.Moments.{Elapses, LeavesOnly}
use Rattle.change_journal.specs.Spelled.{Group}
use Rattle.change_journal.specs.Journals.{Has, HasFront, IsBeforeOrAfter}

-- one call, before and after which a crash leaves what has P
pub one_call : (old new : DiskState) (past since : ℕ → List ℕ → Type 0) (P : List ℕ → Type 0) → Elapses old new past since → ((image : List ℕ) → past old.moment image → MayLeave old.content image)
    → ((image : List ℕ) → MayLeave old.content image → P image) → ((image : List ℕ) → MayLeave new.content image → P image) → LeavesOnly old new past since P
one_call old new past since P time only_now here there = record {
  later = time.later;
  each = λ image h. ⊎_elim (λ p. here image (only_now image p)) (there image) (time.nothing_else old.moment image (omega arith) h);
  before = λ t image le h. ⊎_elim (λ p. inl p) (λ m. inr (there image m)) (time.nothing_else t image le h);
}

-- what a crash leaves has Q too
pub weaker : (old new : DiskState) (past since : ℕ → List ℕ → Type 0) (P Q : List ℕ → Type 0) → LeavesOnly old new past since P → ((image : List ℕ) → P image → Q image) → LeavesOnly old new past since Q
weaker old new past since P Q leaves f = record {
  later = leaves.later;
  each = λ image h. f image (leaves.each image h);
  before = λ t image le h. ⊎_elim (λ p. inl p) (λ m. inr (f image m)) (leaves.before t image le h);
}

-- one part of a run after another
pub goes_on : (old mid new : DiskState) (past then since : ℕ → List ℕ → Type 0) (P : List ℕ → Type 0) → LeavesOnly old mid past then P → LeavesOnly mid new then since P → LeavesOnly old new past since P
goes_on old mid new past then since P first second = record {
  later = omega (arith, first.later, second.later);
  each = λ image h. ⊎_elim (first.each image) (λ p. p) (second.before old.moment image first.later h);
  before = λ t image le h. ⊎_elim (first.before t image le) (λ p. inr p) (second.before t image (omega (arith, first.later)) h);
}

-- no call at all
pub no_call : (old : DiskState) (past : ℕ → List ℕ → Type 0) (P : List ℕ → Type 0) → ((image : List ℕ) → past old.moment image → MayLeave old.content image) → ((image : List ℕ) → MayLeave old.content image → P image) → LeavesOnly old old past past P
no_call old past P only_now here = record { later = omega arith; each = λ image h. here image (only_now image h); before = λ t image le h. inl h }

-- an image that has these entries, and none of what follows or some
pub none_more : (groups : List Group) (image : List ℕ) → Has groups image → HasFront groups [] image
none_more groups image h = record { front = []; rest = []; are = refl; hold = h ∙ ap Ok (sym (append-nil groups)) }

pub at_most_one : (groups : List Group) (group : Group) (image : List ℕ) → IsBeforeOrAfter groups group image → HasFront groups (group ∷ []) image
at_most_one groups group image (inl h) = record { front = []; rest = group ∷ []; are = refl; hold = h ∙ ap Ok (sym (append-nil groups)) }
at_most_one groups group image (inr h) = record { front = group ∷ []; rest = []; are = refl; hold = h }
