use Rattle.std.proofs.Common.{◌≡◌, ◌∙◌, sym, subst, arith, rules}
use Rattle.disk_face.specs.Moments.{Follows, ResizedImage}
use Rattle.disk_history.specs.Changes.RecordedCall.{Sized}
use Rattle.disk_history.specs.Histories.{History, MayLeave, done}
use Rattle.disk_mem.proofs.CallLaws.{elapsed_done, elapsed_undone, failed, held}
use Rattle.disk_history.proofs.HistoryLaws.{Follows_length}
use Rattle.disk_mem.proofs.Steps.{holds_done, holds_undone}
use Rattle.disk_mem.proofs.disk.MemDiskDisk.set_len.Goals as goal

pub invariant_of-self : goal.invariant_of-self
invariant_of-self c = holds_undone c.self.inside.base.items c.saturating_add-self-inside.ensures (omega arith)
    (search rules) (c.keep_length.ensures.items ∙ c.self.invariant.0) c.self.invariant.1

pub returns-then-is_err-clause-time : goal.returns-then-is_err-clause-time
returns-then-is_err-clause-time c = elapsed_undone (failed c.self.inside c.keep_length.new.entries.items
    c.saturating_add-self-inside.result c.saturating_add-self-inside-then-is_err.result) c.self.view_is
    (omega arith) c.self.invariant.1 MayLeave (search rules)

pub invariant_of-self-2 : goal.invariant_of-self-2
invariant_of-self-2 c = holds_done c.self.inside.base.items (Sized c.args.n)
    c.saturating_add-self-inside.ensures (omega arith) (search rules) (search rules) c.self.invariant.0
    c.self.invariant.1

pub returns-clause-images : goal.returns-clause-images
returns-clause-images c =
    let h = c.args.self.now in
    let e : held c.self.inside c.keep_length.new.entries.items c.saturating_add-self-inside.result
    ≡ done (Sized c.args.n) h = search rules in
    subst (λ (x : History). Follows (ResizedImage c.args.n) (MayLeave h) (MayLeave x)) (sym e)
    (Follows_length h c.args.n)

pub returns-clause-time : goal.returns-clause-time
returns-clause-time c =
    elapsed_done (held c.self.inside c.keep_length.new.entries.items c.saturating_add-self-inside.result)
    c.self.view_is (omega arith) c.self.invariant.1 (Sized c.args.n) MayLeave
    (search rules) (λ image is. is)
