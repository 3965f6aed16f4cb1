use Rattle.std.proofs.Common.{◌+◌, length, inl, sym, subst, arith}
use Rattle.disk.specs.Disk.{MayLeave}
use Rattle.change_journal.specs.Journals.{IsOpenAt, AllHave, Has, IsBeforeOrAfter, MayHaveWritten}
use Rattle.change_journal.proofs.Moments.{weaker, goes_on}
use Rattle.change_journal.proofs.Outcomes.{on_ok, open_within, still_open, added_open, first_outcome, second_outcome, still_all, added_all}
use Rattle.change_journal.proofs.journal.put_entry.Goals as goal

pub write_stable-requires-clause-within : goal.write_stable-requires-clause-within
write_stable-requires-clause-within g c = open_within c.args.end (g.D.Disk.state c.args.disk.now).content c.requires.opened

pub write_stable-requires-in-Ok-clause-within : goal.write_stable-requires-in-Ok-clause-within
write_stable-requires-in-Ok-clause-within g c =
    let old = g.D.Disk.state c.args.disk.now in
    let mid = g.D.Disk.state c.write_stable.new.disk in
    λ held told.
    let within = open_within c.args.end mid.content (still_open c.args.end c.args.entry.now old.content mid.content c.requires.opened c.in-Ok.ensures.ok) held told in
    omega (arith, within)

pub returns-in-Err-clause-any_moment : goal.returns-in-Err-clause-any_moment
returns-in-Err-clause-any_moment g c =
    let old = g.D.Disk.state c.args.disk.now in
    let mid = g.D.Disk.state c.write_stable.new.disk in
    λ group groups fits all.
    weaker old mid (g.D.Disk.left_since c.args.disk.now) (g.D.Disk.left_since c.write_stable.new.disk) (MayHaveWritten (c.args.end + 1) (length c.args.entry.now) old.content) (IsBeforeOrAfter groups group)
    c.write_stable.ensures.any_moment
    (λ image may. inl (first_outcome groups c.args.end old.content all c.requires.opened (g.met.D.Disk.reads c.args.disk.now) (length c.args.entry.now) image may))

pub returns-in-Err-clause-still_opened : goal.returns-in-Err-clause-still_opened
returns-in-Err-clause-still_opened g c = λ e. subst (IsOpenAt c.args.end) (sym (c.in-Err.ensures.no_memory e)) c.requires.opened

pub returns-in-Err-clause-no_memory : goal.returns-in-Err-clause-no_memory
returns-in-Err-clause-no_memory g c = λ groups e all. subst (AllHave groups) (sym (c.in-Err.ensures.no_memory e)) all

pub returns-in-Ok-clause-opened : goal.returns-in-Ok-clause-opened
returns-in-Ok-clause-opened g c =
    let old = g.D.Disk.state c.args.disk.now in
    let mid = g.D.Disk.state c.write_stable.new.disk in
    let new = g.D.Disk.state c.write_stable-in-Ok.new.disk in
    λ group fits. on_ok c.write_stable-in-Ok.result (λ is. added_open c.args.end c.args.entry.now group old.content mid.content new.content c.requires.opened fits c.in-Ok.ensures.ok is) c.write_stable-in-Ok.ensures.ok

pub returns-in-Ok-clause-still_opened : goal.returns-in-Ok-clause-still_opened
returns-in-Ok-clause-still_opened g c =
    let old = g.D.Disk.state c.args.disk.now in
    let mid = g.D.Disk.state c.write_stable.new.disk in
    λ e. subst (IsOpenAt c.args.end) (sym (c.write_stable-in-Ok.ensures.no_memory e)) (still_open c.args.end c.args.entry.now old.content mid.content c.requires.opened c.in-Ok.ensures.ok)

pub returns-in-Ok-clause-any_moment : goal.returns-in-Ok-clause-any_moment
returns-in-Ok-clause-any_moment g c =
    let old = g.D.Disk.state c.args.disk.now in
    let mid = g.D.Disk.state c.write_stable.new.disk in
    let new = g.D.Disk.state c.write_stable-in-Ok.new.disk in
    λ group groups fits all.
    let whole = g.met.D.Disk.reads c.args.disk.now in
    let P = IsBeforeOrAfter groups group in
    let first = weaker old mid (g.D.Disk.left_since c.args.disk.now) (g.D.Disk.left_since c.write_stable.new.disk) (MayHaveWritten (c.args.end + 1) (length c.args.entry.now) old.content) P
    c.write_stable.ensures.any_moment (λ image may. inl (first_outcome groups c.args.end old.content all c.requires.opened whole (length c.args.entry.now) image may)) in
    let second = weaker mid new (g.D.Disk.left_since c.write_stable.new.disk) (g.D.Disk.left_since c.write_stable-in-Ok.new.disk) (MayHaveWritten c.args.end 1 mid.content) P
    c.write_stable-in-Ok.ensures.any_moment (second_outcome groups c.args.end old.content all c.requires.opened whole c.args.entry.now mid.content c.in-Ok.ensures.ok group fits) in
    goes_on old mid new (g.D.Disk.left_since c.args.disk.now) (g.D.Disk.left_since c.write_stable.new.disk) (g.D.Disk.left_since c.write_stable-in-Ok.new.disk) P first second

pub returns-in-Ok-clause-acknowledged : goal.returns-in-Ok-clause-acknowledged
returns-in-Ok-clause-acknowledged g c =
    let old = g.D.Disk.state c.args.disk.now in
    let mid = g.D.Disk.state c.write_stable.new.disk in
    let new = g.D.Disk.state c.write_stable-in-Ok.new.disk in
    λ group groups fits. on_ok c.write_stable-in-Ok.result
    (λ is all. added_all groups c.args.end old.content all c.requires.opened (g.met.D.Disk.reads c.args.disk.now) c.args.entry.now mid.content c.in-Ok.ensures.ok group fits new.content is)
    c.write_stable-in-Ok.ensures.ok

pub returns-in-Ok-clause-no_memory : goal.returns-in-Ok-clause-no_memory
returns-in-Ok-clause-no_memory g c =
    let old = g.D.Disk.state c.args.disk.now in
    let mid = g.D.Disk.state c.write_stable.new.disk in
    λ groups e all.
    subst (AllHave groups) (sym (c.write_stable-in-Ok.ensures.no_memory e))
    (still_all groups c.args.end old.content all c.requires.opened (g.met.D.Disk.reads c.args.disk.now) c.args.entry.now mid.content c.in-Ok.ensures.ok)

pub returns-in-Err-clause-still : goal.returns-in-Err-clause-still
returns-in-Err-clause-still g c =
    let old = g.D.Disk.state c.args.disk.now in
    let mid = g.D.Disk.state c.write_stable.new.disk in
    λ groups e all.
    weaker old mid (g.D.Disk.left_since c.args.disk.now) (g.D.Disk.left_since c.write_stable.new.disk) (MayHaveWritten (c.args.end + 1) (length c.args.entry.now) old.content) (Has groups)
    c.write_stable.ensures.any_moment
    (λ image may. first_outcome groups c.args.end old.content all c.requires.opened (g.met.D.Disk.reads c.args.disk.now) (length c.args.entry.now) image may)

pub returns-in-Ok-clause-still : goal.returns-in-Ok-clause-still
returns-in-Ok-clause-still g c =
    let old = g.D.Disk.state c.args.disk.now in
    let mid = g.D.Disk.state c.write_stable.new.disk in
    let new = g.D.Disk.state c.write_stable-in-Ok.new.disk in
    λ groups e all.
    let whole = g.met.D.Disk.reads c.args.disk.now in
    let first = weaker old mid (g.D.Disk.left_since c.args.disk.now) (g.D.Disk.left_since c.write_stable.new.disk) (MayHaveWritten (c.args.end + 1) (length c.args.entry.now) old.content) (Has groups)
    c.write_stable.ensures.any_moment (λ image may. first_outcome groups c.args.end old.content all c.requires.opened whole (length c.args.entry.now) image may) in
    let second = weaker mid new (g.D.Disk.left_since c.write_stable.new.disk) (g.D.Disk.left_since c.write_stable-in-Ok.new.disk) (MayLeave mid.content) (Has groups)
    (c.write_stable-in-Ok.ensures.still e) (still_all groups c.args.end old.content all c.requires.opened whole c.args.entry.now mid.content c.in-Ok.ensures.ok) in
    goes_on old mid new (g.D.Disk.left_since c.args.disk.now) (g.D.Disk.left_since c.write_stable.new.disk) (g.D.Disk.left_since c.write_stable-in-Ok.new.disk) (Has groups) first second
