use Rattle.std.proofs.Common.{length, subst, Option}
use Rattle.disk.specs.Disk.{Content, MayLeave}
use Rattle.change_journal.specs.Journals.{MayHaveWritten}
use Rattle.change_journal.proofs.Moments.{one_call, goes_on}
use Rattle.change_journal.proofs.Appends.{before_write, after_ok, after_sync}
use Rattle.change_journal.proofs.journal.write_stable.Goals as goal

pub returns-in-Ok-clause-any_moment : goal.returns-in-Ok-clause-any_moment
returns-in-Ok-clause-any_moment g c =
    let old = g.D.Disk.state c.args.disk.now in
    let mid = g.D.Disk.state c.write_at.new.self in
    let new = g.D.Disk.state c.sync.new.self in
    let P = MayHaveWritten c.args.at (length c.args.bytes.now) old.content in
    let there = after_ok c.args.at c.args.bytes.now old.content mid.content c.requires.within c.in_ok-write_at.ensures.ok in
    let first = one_call old mid (g.D.Disk.left_since c.args.disk.now) (g.D.Disk.left_since c.write_at.new.self) P c.write_at.ensures.time (g.met.D.Disk.only_now c.args.disk.now)
    (before_write c.args.at (length c.args.bytes.now) old.content) there in
    let second = one_call mid new (g.D.Disk.left_since c.write_at.new.self) (g.D.Disk.left_since c.sync.new.self) P c.sync.ensures.time (g.met.D.Disk.only_now c.write_at.new.self) there
    (after_sync c.args.at c.args.bytes.now old.content mid.content new.content (λ held told. (c.requires.within held told, g.met.D.Disk.reads c.args.disk.now held told)) c.in_ok-write_at.ensures.ok c.in-Ok.ensures.ok) in
    goes_on old mid new (g.D.Disk.left_since c.args.disk.now) (g.D.Disk.left_since c.write_at.new.self) (g.D.Disk.left_since c.sync.new.self) P first second

pub returns-in-Err-clause-any_moment : goal.returns-in-Err-clause-any_moment
returns-in-Err-clause-any_moment g c =
    let old = g.D.Disk.state c.args.disk.now in
    let mid = g.D.Disk.state c.write_at.new.self in
    let new = g.D.Disk.state c.sync.new.self in
    let P = MayHaveWritten c.args.at (length c.args.bytes.now) old.content in
    let there = after_ok c.args.at c.args.bytes.now old.content mid.content c.requires.within c.in_ok-write_at.ensures.ok in
    let first = one_call old mid (g.D.Disk.left_since c.args.disk.now) (g.D.Disk.left_since c.write_at.new.self) P c.write_at.ensures.time (g.met.D.Disk.only_now c.args.disk.now)
    (before_write c.args.at (length c.args.bytes.now) old.content) there in
    let second = one_call mid new (g.D.Disk.left_since c.write_at.new.self) (g.D.Disk.left_since c.sync.new.self) P c.sync.ensures.time (g.met.D.Disk.only_now c.write_at.new.self) there
    (λ image h. there image (subst (λ (content : Option Content). MayLeave content image) c.in-Err.ensures.err h)) in
    goes_on old mid new (g.D.Disk.left_since c.args.disk.now) (g.D.Disk.left_since c.write_at.new.self) (g.D.Disk.left_since c.sync.new.self) P first second
