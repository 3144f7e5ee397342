use Rattle.std.proofs.Common.{◌≡◌, ◌∙◌, sym, subst, arith, rules, length}
use Rattle.disk_face.specs.Moments.{Follows}
use Rattle.byte_ranges.specs.Ranges.{SameOutside}
use Rattle.disk_history.specs.Changes.RecordedCall.{Wrote}
use Rattle.disk_history.specs.Histories.{History, MayLeave, done}
use Rattle.disk_mem.proofs.CallLaws.{elapsed_done, elapsed_undone, failed, held}
use Rattle.disk_history.proofs.HistoryLaws.{Follows_write, changed_within}
use Rattle.disk_mem.proofs.Steps.{holds_done, holds_undone}
use Rattle.disk_mem.proofs.disk.MemDiskDisk.write_at.Goals as goal

pub invariant_of-self : goal.invariant_of-self
invariant_of-self c = holds_undone c.self.inside.base.items c.saturating_add-self-inside.ensures (omega arith)
    (search rules) c.self.invariant.0 c.self.invariant.1

pub returns-then-is_err-clause-time : goal.returns-then-is_err-clause-time
returns-then-is_err-clause-time c = elapsed_undone (failed c.self.inside c.keep_write.new.entries.items
    c.saturating_add-self-inside.result c.saturating_add-self-inside-then-is_err.result) c.self.view_is
    (omega arith) c.self.invariant.1 MayLeave (search rules)

pub invariant_of-self-2 : goal.invariant_of-self-2
invariant_of-self-2 c = holds_done c.self.inside.base.items (Wrote c.args.pos c.args.bytes.now)
    c.saturating_add-self-inside.ensures (omega arith) (search rules)
    (c.put.ensures.items ∙ changed_within c.self.inside.bytes.items c.args.pos c.args.bytes.now
    (search rules)) c.self.invariant.0 c.self.invariant.1

pub returns-clause-images : goal.returns-clause-images
returns-clause-images c =
    let h = c.args.self.now in
    let e : held c.self.inside c.keep_write.new.entries.items c.saturating_add-self-inside.result
    ≡ done (Wrote c.args.pos c.args.bytes.now) h = search rules in
    subst (λ (x : History). Follows (SameOutside c.args.pos (length c.args.bytes.now)) (MayLeave h)
    (MayLeave x)) (sym e) (Follows_write h c.args.pos c.args.bytes.now)

pub returns-clause-time : goal.returns-clause-time
returns-clause-time c =
    elapsed_done (held c.self.inside c.keep_write.new.entries.items c.saturating_add-self-inside.result)
    c.self.view_is (omega arith) c.self.invariant.1 (Wrote c.args.pos c.args.bytes.now) MayLeave
    (search rules) (λ image is. is)
