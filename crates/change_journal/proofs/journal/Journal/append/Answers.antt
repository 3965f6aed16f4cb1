use Rattle.std.proofs.Common.{◌≡◌, ◌+◌, ◌∷◌, [], ℕ, length, rules, arith, sym, ap, ◌∙◌, subst}
use Rattle.change_journal.specs.Journals.{IsOpenAt, Has, HasFront, IsBeforeOrAfter, IsEntryOf}
use Rattle.change_journal.specs.Spelled.{group_of}
use Rattle.change_journal.proofs.Spellings.{group_read}
use Rattle.change_journal.proofs.Moments.{no_call, weaker, none_more, at_most_one}
use Rattle.change_journal.proofs.journal.Journal.append.Goals as goal

pub returns-then-self-clause-any_moment : goal.returns-then-self-clause-any_moment
returns-then-self-clause-any_moment g c =
    λ groups all. no_call (g.D.Disk.state c.args.disk.now) (g.D.Disk.left_since c.args.disk.now) (HasFront groups []) (g.met.D.Disk.only_now c.args.disk.now) (λ image h. none_more groups image (all image h))

pub returns-in_default-clause-any_moment : goal.returns-in_default-clause-any_moment
returns-in_default-clause-any_moment g c =
    λ groups all. no_call (g.D.Disk.state c.args.disk.now) (g.D.Disk.left_since c.args.disk.now) (HasFront groups []) (g.met.D.Disk.only_now c.args.disk.now) (λ image h. none_more groups image (all image h))

pub returns-then-is_full-clause-any_moment : goal.returns-then-is_full-clause-any_moment
returns-then-is_full-clause-any_moment g c =
    λ groups all. no_call (g.D.Disk.state c.args.disk.now) (g.D.Disk.left_since c.args.disk.now) (HasFront groups []) (g.met.D.Disk.only_now c.args.disk.now) (λ image h. none_more groups image (all image h))

pub returns-in-Ok-put_entry-clause-any_moment : goal.returns-in-Ok-put_entry-clause-any_moment
returns-in-Ok-put_entry-clause-any_moment g c =
    let fits = subst (IsEntryOf c.args.group.now) (sym c.as_slice-2.ensures.value) (c.in-Ok-entry_of.ensures.entry c.args.group.now (ap group_of (c.as_slice.ensures.value ∙ c.in-Ok.ensures) ∙ group_read c.args.group.now c.requires.spellable)) in
    λ groups all.
    weaker (g.D.Disk.state c.args.disk.now) (g.D.Disk.state c.put_entry.new.disk) (g.D.Disk.left_since c.args.disk.now) (g.D.Disk.left_since c.put_entry.new.disk) (IsBeforeOrAfter groups c.args.group.now) (HasFront groups (c.args.group.now ∷ []))
    (c.put_entry.ensures.any_moment c.args.group.now groups fits all) (at_most_one groups c.args.group.now)

pub returns-in-Ok-put_entry-clause-acknowledged : goal.returns-in-Ok-put_entry-clause-acknowledged
returns-in-Ok-put_entry-clause-acknowledged g c =
    let fits = subst (IsEntryOf c.args.group.now) (sym c.as_slice-2.ensures.value) (c.in-Ok-entry_of.ensures.entry c.args.group.now (ap group_of (c.as_slice.ensures.value ∙ c.in-Ok.ensures) ∙ group_read c.args.group.now c.requires.spellable)) in
    λ groups all. c.in-Ok-put_entry.ensures.acknowledged c.args.group.now groups fits all

pub returns-in-Err-Failed-clause-any_moment : goal.returns-in-Err-Failed-clause-any_moment
returns-in-Err-Failed-clause-any_moment g c =
    let fits = subst (IsEntryOf c.args.group.now) (sym c.as_slice-2.ensures.value) (c.in-Ok-entry_of.ensures.entry c.args.group.now (ap group_of (c.as_slice.ensures.value ∙ c.in-Ok.ensures) ∙ group_read c.args.group.now c.requires.spellable)) in
    λ groups all.
    weaker (g.D.Disk.state c.args.disk.now) (g.D.Disk.state c.put_entry.new.disk) (g.D.Disk.left_since c.args.disk.now) (g.D.Disk.left_since c.put_entry.new.disk) (IsBeforeOrAfter groups c.args.group.now) (HasFront groups (c.args.group.now ∷ []))
    (c.put_entry.ensures.any_moment c.args.group.now groups fits all) (at_most_one groups c.args.group.now)

pub returns-clause-any_moment : goal.returns-clause-any_moment
returns-clause-any_moment g c =
    λ groups all.
    weaker (g.D.Disk.state c.args.disk.now) (g.D.Disk.state c.put_entry.new.disk) (g.D.Disk.left_since c.args.disk.now) (g.D.Disk.left_since c.put_entry.new.disk) (Has groups) (HasFront groups [])
    (c.in-Err-NoMemory.ensures.still groups (first_of (assumption (c.in-Err-NoMemory.field-0-is), cc (c.in-Err-NoMemory.field-0-is), search rules)) all) (none_more groups)

pub returns-in-Ok-put_entry-clause-opened : goal.returns-in-Ok-put_entry-clause-opened
returns-in-Ok-put_entry-clause-opened g c =
    let fits = subst (IsEntryOf c.args.group.now) (sym c.as_slice-2.ensures.value) (c.in-Ok-entry_of.ensures.entry c.args.group.now (ap group_of (c.as_slice.ensures.value ∙ c.in-Ok.ensures) ∙ group_read c.args.group.now c.requires.spellable)) in
    let size : c.self.inside.end + length c.as_slice-2.result.now ≡ c.self.inside.end + c.len-in-Ok-put_entry.result = omega (arith, c.as_slice-2.ensures.len, c.len-in-Ok-put_entry.ensures) in
    λ _. subst (λ (n : ℕ). IsOpenAt n (g.D.Disk.state c.put_entry.new.disk).content) size (c.in-Ok-put_entry.ensures.opened c.args.group.now fits)

pub returns-clause-no_memory : goal.returns-clause-no_memory
returns-clause-no_memory g c = λ _ groups all. c.in-Err-NoMemory.ensures.no_memory groups (first_of (assumption (c.in-Err-NoMemory.field-0-is), cc (c.in-Err-NoMemory.field-0-is), search rules)) all
