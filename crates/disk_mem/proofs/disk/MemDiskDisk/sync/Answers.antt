use Rattle.std.proofs.Common.{refl, arith, rules}
use Rattle.disk_history.specs.Changes.RecordedCall.{Synced}
use Rattle.disk_history.specs.Histories.{MayLeave}
use Rattle.disk_mem.proofs.CallLaws.{elapsed_done, elapsed_undone, failed, held, no_more_synced, only_synced}
use Rattle.disk_mem.proofs.Steps.{holds_done, holds_undone}
use Rattle.disk_mem.proofs.disk.MemDiskDisk.sync.Goals as goal

pub invariant_of-self : goal.invariant_of-self
invariant_of-self c = holds_undone c.self.inside.base.items c.saturating_add-self-inside.ensures (omega arith)
    (search rules) c.self.invariant.0 c.self.invariant.1

pub returns-then-is_err-clause-time : goal.returns-then-is_err-clause-time
returns-then-is_err-clause-time c = elapsed_undone (failed c.self.inside c.keep.new.entries.items
    c.saturating_add-self-inside.result c.saturating_add-self-inside-then-is_err.result) c.self.view_is
    (omega arith) c.self.invariant.1 (λ _. MayLeave c.args.self.now) (search rules)

pub invariant_of-self-else-is_err : goal.invariant_of-self-else-is_err
invariant_of-self-else-is_err c = holds_done c.self.inside.base.items Synced
    c.saturating_add-self-inside.ensures (omega arith) (search rules) refl c.self.invariant.0
    c.self.invariant.1

pub returns-clause-images : goal.returns-clause-images
returns-clause-images c = no_more_synced c.args.self.now
    (held c.self.inside c.keep.new.entries.items c.saturating_add-self-inside.result) (search rules)

pub returns-clause-rests : goal.returns-clause-rests
returns-clause-rests c = only_synced c.args.self.now
    (held c.self.inside c.keep.new.entries.items c.saturating_add-self-inside.result) (search rules)

pub returns-clause-time : goal.returns-clause-time
returns-clause-time c =
    elapsed_done (held c.self.inside c.keep.new.entries.items c.saturating_add-self-inside.result)
    c.self.view_is (omega arith) c.self.invariant.1 Synced (λ _. MayLeave c.args.self.now)
    (search rules) (λ image is. is)
