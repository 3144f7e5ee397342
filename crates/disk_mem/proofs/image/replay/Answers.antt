use Rattle.std.proofs.Common.{sym, ◌∙◌, ap}
use Rattle.disk_history.specs.Changes.{content_after}
use Rattle.disk_mem.proofs.Records.{newest_first_none}
use Rattle.disk_mem.proofs.Walks.{content_more}
use Rattle.disk_mem.proofs.image.replay.Goals as goal

pub calls-init : goal.calls-init
calls-init c = ap (content_after c.args.file.now.items) (sym newest_first_none)

pub calls-preserved : goal.calls-preserved
calls-preserved c =
    c.in_ok-replay_one.ensures ∙ content_more c.args.entries.now c.calls.entry-index c.entry-item.result
    c.calls-test.true c.entry-item.is c.args.file.now.items c.calls.file.items c.calls.invariant
