use Rattle.std.proofs.Common.{◌++◌, [], ◌∷◌, length, sym, ap, ◌∙◌, Some, arith}
use Rattle.disk.specs.Disk.{Content, with_synced}
use Rattle.disk.specs.MemDisks.{MemDiskState, content_of}
use Rattle.disk.specs.declared.step.Step.TheVariants.{Synced}
use Rattle.disk.proofs.StepLemmas.{pushed, elapses_step}
use Rattle.disk.proofs.mem_disk.MemDiskDisk.sync.Goals as goal

pub invariant_of-self-then-not-is_empty-2 : goal.invariant_of-self-then-not-is_empty-2
invariant_of-self-then-not-is_empty-2 c =
    let e = pushed c.self.inside.first c.self.inside.steps.items c.push_reserved.new.self.items Synced c.push_reserved.ensures.items in
    record {
      bytes = c.self.invariant.bytes ∙ sym (ap (λ (h : Content). h.bytes) e);
      stable_len = ap length c.bytes.ensures ∙ sym (ap (λ (h : Content). h.stable) e);
      written = c.clear.ensures.items ∙ sym (ap (λ (h : Content). h.written) e);
      synced = λ _. e ∙ ap with_synced (sym e);
      room = λ h. absurd (omega (arith, h, c.clear.ensures.len));
    }

pub returns-then-not-is_empty-clause-ok : goal.returns-then-not-is_empty-clause-ok
returns-then-not-is_empty-clause-ok c =
    let e = pushed c.self.inside.first c.self.inside.steps.items c.push_reserved.new.self.items Synced c.push_reserved.ensures.items in
    ap Some (e ∙ ap with_synced (ap content_of c.self.view_is))

pub returns-then-not-is_empty-clause-time : goal.returns-then-not-is_empty-clause-time
returns-then-not-is_empty-clause-time c =
    elapses_step c.args.self.now _ (ap (λ (s : MemDiskState). s.first) c.self.view_is) Synced
    (c.push_reserved.ensures.items ∙ ap (λ (s : MemDiskState). s.steps ++ Synced ∷ []) c.self.view_is)
