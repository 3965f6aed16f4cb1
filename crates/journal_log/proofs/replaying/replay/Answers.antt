use Rattle.std.proofs.Common.{◌≡◌, ◌++◌, ◌∷◌, [], ℕ, true, false, not, is_some, List, Err, sym, ap, ◌∙◌, subst, arith, rules}
use Rattle.schema_model.specs.declared.change.Change.{Change}
use Rattle.schema_model.specs.Changes.{after_all}
use Rattle.schema_model.specs.Refusals.{group_fault}
use Rattle.journal_log.specs.declared.fault.JournalRefusal.TheVariants as refusal
use Rattle.journal_log.proofs.ReplayLemmas.{elapses_then, replaying_more, replayed_refused, not_false}
use Rattle.journal_log.proofs.replaying.replay.Goals as goal

pub returns-then-not-branch-clause-told : goal.returns-then-not-branch-clause-told
returns-then-not-branch-clause-told g c = λ held told.
    let r = c.replaying.invariant.replaying in
    let now = c.replaying.catalogue.databases in
    let group = c.in-Entry.group.items in
    let b = c.in_ok-make_all-in-Entry.field-0 in
    let next = c.in_ok-journal.ensures.read r.groups r.read in
    let more = rw c.in-Entry.is at next in
    let out = c.in_ok-read_out-in-Entry.ensures.read (r.groups ++ group ∷ []) more in
    let unmade : not b ≡ true = search rules in
    let judged : not b ≡ is_some (group_fault now group) = subst (λ (gs : List Change). not b ≡ is_some (group_fault now gs)) c.deref.ensures.value c.in_ok-make_all-in-Entry.ensures.refused in
    let same = c.in_ok-read_out-in-Entry.ensures.content ∙ c.in_ok-journal.ensures.content in
    replayed_refused c.args.catalogue.now.databases now c.replaying.count c.replaying.entries c.next.new.entries (g.D.Disk.state c.replaying.disk).content r now group out.0 out.1 (sym judged ∙ unmade) (λ h t. out.2 h (same ∙ t)) held (c.replaying.invariant.content ∙ told)
    ∙ ap (λ (k : ℕ). Err (refusal.Stale k)) (sym c.in_ok-number-in-Entry.ensures)

pub replaying-preserved : goal.replaying-preserved
replaying-preserved g c =
    let state = g.D.Disk.state in
    let left_since = g.D.Disk.left_since in
    let r = c.replaying.invariant.replaying in
    let now = c.replaying.catalogue.databases in
    let group = c.in-Entry.group.items in
    let b = c.in_ok-make_all-in-Entry.field-0 in
    let next = c.in_ok-journal.ensures.read r.groups r.read in
    let more = rw c.in-Entry.is at next in
    let done : not b ≡ false = search rules in
    let judged : not b ≡ is_some (group_fault now group) = subst (λ (gs : List Change). not b ≡ is_some (group_fault now gs)) c.deref.ensures.value c.in_ok-make_all-in-Entry.ensures.refused in
    let made = subst (λ (gs : List Change). c.make_all.new.catalogue.databases ≡ after_all now gs) c.deref.ensures.value (c.in_ok-make_all-in-Entry.ensures.made (not_false b done)) in
    record {
      reading = c.in_ok-journal.ensures.reading;
      replaying = replaying_more c.args.catalogue.now.databases now c.replaying.count c.replaying.entries c.next.new.entries (state c.replaying.disk).content r c.make_all.new.catalogue.databases group (state c.next.new.disk).content c.in_ok-number-in-Entry.number more (sym judged ∙ done) made c.in_ok-number-in-Entry.ensures;
      content = c.in_ok-journal.ensures.content ∙ c.replaying.invariant.content;
      time = elapses_then (state c.args.disk.now) (state c.replaying.disk) (state c.next.new.disk) (left_since c.args.disk.now) (left_since c.replaying.disk) (left_since c.next.new.disk) c.in_ok-journal.ensures.content c.replaying.invariant.time c.in_ok-journal.ensures.time;
      steady = omega (arith, c.replaying.invariant.steady, c.in_ok-journal.ensures.steady);
    }
