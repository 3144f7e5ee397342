use Rattle.batch_core.proofs.FinishLaws.{judged_finishes}
use Rattle.batch_core.proofs.batcher.finish_text.Goals as goal

pub returns-in-Ok : goal.returns-in-Ok
returns-in-Ok g c = c.finish_judged.ensures

pub returns-in-Err : goal.returns-in-Err
returns-in-Err g c first read = judged_finishes c.args.store.now (g.D.Disk.state first)
    (g.D.Disk.state c.args.disk.now) c.args.text.now c.requires.go c.requires.kept read _ c.in-Err.ensures
