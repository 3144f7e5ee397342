use Rattle.std.proofs.Common.{sym, ◌∙◌, ap}
use Rattle.disk_mem.specs.Tearing.{smeared_after}
use Rattle.disk_mem.proofs.Records.{newest_first_none}
use Rattle.disk_mem.proofs.Walks.{smeared_more}
use Rattle.disk_mem.proofs.smear.smear.Goals as goal

pub calls-init : goal.calls-init
calls-init c = ap (smeared_after c.args.byte c.args.file.now.items) (sym newest_first_none)

pub calls-preserved : goal.calls-preserved
calls-preserved c =
    c.in_ok-smear_one.ensures ∙ smeared_more c.args.entries.now c.calls.entry-index c.entry-item.result
    c.calls-test.true c.entry-item.is c.args.byte c.args.file.now.items c.calls.file.items
    c.calls.invariant
