use Rattle.std.proofs.Common.{◌≡◌, ◌+◌, ℕ, length, sym, ap, ◌∙◌, Some, List, [], ◌∷◌, ◌++◌, arith}
use Rattle.disk.specs.Disk.{Content, stable, with_written, overwritten}
use Rattle.disk.specs.MemDisks.{MemDiskState, after_step, after_steps, content_of}
use Rattle.disk.specs.declared.range.Range.{Range}
use Rattle.disk.specs.declared.step.Step.{Step}
use Rattle.disk.specs.declared.step.Step.TheVariants.{Wrote, Tore}
use Rattle.disk.proofs.StepLemmas.{pushed, elapses_step, torn_told}
use Rattle.disk.proofs.mem_disk.MemDiskDisk.write_at.Goals as goal

-- what is kept of a disk after a write that failed
record Torn (old new : Content) (at n : ℕ) : Type 0 where
  bytes : old.bytes ≡ new.bytes
  stable_len : old.stable ≡ new.stable
  written : record { from = at; to = at + n } ∷ old.written ≡ new.written

torn : (first : List ℕ) (old new : List Step) (at n : ℕ) → new ≡ old ++ Tore at n ∷ [] → Torn (after_steps (stable first) old) (after_steps (stable first) new) at n
torn first old new at n is =
    let e = sym (pushed first old new (Tore at n) is) in
    record { bytes = ap (λ (h : Content). h.bytes) e; stable_len = ap (λ (h : Content). h.stable) e; written = ap (λ (h : Content). h.written) e }

pub invariant_of-self-in-Ok : goal.invariant_of-self-in-Ok
invariant_of-self-in-Ok c =
    let step = Wrote c.args.at c.in_ok-bytes.bytes in
    let items = c.put_in_doubt.ensures.steps ∙ ap (λ (xs : List Step). xs ++ step ∷ []) c.in_ok-make_room.ensures.steps in
    let e = sym (pushed c.self.inside.first c.self.inside.steps.items c.put_in_doubt.new.steps.items step items) in
    let was : after_steps (stable c.self.inside.first) c.self.inside.steps.items ≡ content_of c.args.self.now = ap content_of c.self.view_is in
    let range : ℕ → Range = λ n. record { from = c.args.at; to = c.args.at + n } in
    let next : c.in_ok-next.next ≡ overwritten c.args.at c.in_ok-bytes.bytes (after_steps (stable c.self.inside.first) c.self.inside.steps.items).bytes =
    c.in_ok-next.ensures ∙ (λ i. overwritten c.args.at (sym c.in_ok-bytes.ensures i) ((c.bytes.ensures ∙ ap (λ (h : Content). h.bytes) (sym was)) i)) in
    record {
      bytes = next ∙ ap (λ (h : Content). h.bytes) e;
      stable_len = c.self.invariant.stable_len ∙ ap (λ (h : Content). h.stable) e;
      written = c.put_in_doubt.ensures.written ∙ (λ i. range (length (sym c.in_ok-bytes.ensures i)) ∷ (c.in_ok-make_room.ensures.written ∙ c.self.invariant.written) i) ∙ ap (λ (h : Content). h.written) e;
      synced = λ h. absurd (omega (arith, h, c.put_in_doubt.ensures.some));
      room = λ _. c.put_in_doubt.ensures.room;
    }

pub invariant_of-self-in-Err : goal.invariant_of-self-in-Err
invariant_of-self-in-Err c =
    let step = Tore c.args.at (length c.args.bytes.now) in
    let items = c.put_in_doubt-in-Err.ensures.steps ∙ ap (λ (xs : List Step). xs ++ step ∷ []) c.in_ok-make_room.ensures.steps in
    let t = torn c.self.inside.first c.self.inside.steps.items c.put_in_doubt-in-Err.new.steps.items c.args.at (length c.args.bytes.now) items in
    let range : Range = record { from = c.args.at; to = c.args.at + length c.args.bytes.now } in
    record {
      bytes = c.self.invariant.bytes ∙ t.bytes;
      stable_len = c.self.invariant.stable_len ∙ t.stable_len;
      written = c.put_in_doubt-in-Err.ensures.written ∙ ap (λ (rs : List Range). range ∷ rs) (c.in_ok-make_room.ensures.written ∙ c.self.invariant.written) ∙ t.written;
      synced = λ h. absurd (omega (arith, h, c.put_in_doubt-in-Err.ensures.some));
      room = λ _. c.put_in_doubt-in-Err.ensures.room;
    }

pub returns-in-Ok-clause-ok : goal.returns-in-Ok-clause-ok
returns-in-Ok-clause-ok c =
    let step = Wrote c.args.at c.in_ok-bytes.bytes in
    let items = c.put_in_doubt.ensures.steps ∙ ap (λ (xs : List Step). xs ++ step ∷ []) c.in_ok-make_room.ensures.steps in
    let e = pushed c.self.inside.first c.self.inside.steps.items c.put_in_doubt.new.steps.items step items in
    let was : after_steps (stable c.self.inside.first) c.self.inside.steps.items ≡ content_of c.args.self.now = ap content_of c.self.view_is in
    ap Some (e ∙ (λ i. with_written c.args.at (c.in_ok-bytes.ensures i) (was i)))

pub returns-in-Ok-clause-time : goal.returns-in-Ok-clause-time
returns-in-Ok-clause-time c =
    let step = Wrote c.args.at c.in_ok-bytes.bytes in
    elapses_step c.args.self.now _ (ap (λ (s : MemDiskState). s.first) c.self.view_is) step
    (c.put_in_doubt.ensures.steps ∙ ap (λ (xs : List Step). xs ++ step ∷ []) c.in_ok-make_room.ensures.steps ∙ ap (λ (s : MemDiskState). s.steps ++ step ∷ []) c.self.view_is)

pub returns-in-Err-clause-broke_off : goal.returns-in-Err-clause-broke_off
returns-in-Err-clause-broke_off c =
    let step = Tore c.args.at (length c.args.bytes.now) in
    let items = c.put_in_doubt-in-Err.ensures.steps ∙ ap (λ (xs : List Step). xs ++ step ∷ []) c.in_ok-make_room.ensures.steps in
    let e = pushed c.self.inside.first c.self.inside.steps.items c.put_in_doubt-in-Err.new.steps.items step items in
    let was : after_steps (stable c.self.inside.first) c.self.inside.steps.items ≡ content_of c.args.self.now = ap content_of c.self.view_is in
    λ _. torn_told c.args.at (length c.args.bytes.now) (content_of c.args.self.now) _ (e ∙ ap (λ (h : Content). after_step h step) was)

pub returns-in-Err-clause-time : goal.returns-in-Err-clause-time
returns-in-Err-clause-time c =
    let step = Tore c.args.at (length c.args.bytes.now) in
    elapses_step c.args.self.now _ (ap (λ (s : MemDiskState). s.first) c.self.view_is) step
    (c.put_in_doubt-in-Err.ensures.steps ∙ ap (λ (xs : List Step). xs ++ step ∷ []) c.in_ok-make_room.ensures.steps ∙ ap (λ (s : MemDiskState). s.steps ++ step ∷ []) c.self.view_is)

pub returns-in-Err-clause-reads : goal.returns-in-Err-clause-reads
returns-in-Err-clause-reads c =
    let step = Tore c.args.at (length c.args.bytes.now) in
    let items = c.put_in_doubt-in-Err.ensures.steps ∙ ap (λ (xs : List Step). xs ++ step ∷ []) c.in_ok-make_room.ensures.steps in
    let e = pushed c.self.inside.first c.self.inside.steps.items c.put_in_doubt-in-Err.new.steps.items step items in
    let was : after_steps (stable c.self.inside.first) c.self.inside.steps.items ≡ content_of c.args.self.now = ap content_of c.self.view_is in
    λ _. ap (λ (h : Content). h.bytes) (e ∙ ap (λ (h : Content). after_step h step) was)
