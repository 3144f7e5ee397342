use Rattle.std.proofs.Common.{arith}
use Rattle.batch_core.specs.StoresOn.{store_on}
use Rattle.batch_core.proofs.ApplyLaws.{stands_some}
use Rattle.batch_core.proofs.FinishLaws.{can_finish, done_finishes, failed_finishes, kept_as}
use Rattle.batch_core.proofs.batcher.finish_judged.Goals as goal

pub do_batch-requires : goal.do_batch-requires
do_batch-requires g c =
    let x = (store_on c.args.store.now (g.D.Disk.state c.args.disk.now)) in
    let held = stands_some x c.requires.go in (
      omega arith,
      (
        kept_as x c.args.text.now c.requires.go c.requires.kept held.0 held.1 c.requires.judged,
        can_finish x c.args.text.now c.requires.go c.requires.kept held.0 held.1 c.requires.judged,
      ),
    )

pub returns-in-Ok : goal.returns-in-Ok
returns-in-Ok g c first read =
    let x = (store_on c.args.store.now (g.D.Disk.state c.args.disk.now)) in
    let held = stands_some x c.requires.go in
    done_finishes c.args.store.now (g.D.Disk.state first) (g.D.Disk.state c.args.disk.now) c.args.text.now
    c.requires.go c.requires.kept read c.requires.judged held.0 held.1
    (store_on c.do_batch.new.store (g.D.Disk.state c.do_batch.new.disk))
    (c.in-Ok.ensures.went
    (kept_as x c.args.text.now c.requires.go c.requires.kept held.0 held.1 c.requires.judged)
    (can_finish x c.args.text.now c.requires.go c.requires.kept held.0 held.1 c.requires.judged))
    c.in-Ok.ensures.kept

pub returns-in-Err : goal.returns-in-Err
returns-in-Err g c first read =
    let x = (store_on c.args.store.now (g.D.Disk.state c.args.disk.now)) in
    let held = stands_some x c.requires.go in
    failed_finishes c.args.store.now (g.D.Disk.state first) (g.D.Disk.state c.args.disk.now) c.args.text.now
    c.requires.go c.requires.kept read c.requires.judged held.0 held.1
    (store_on c.do_batch.new.store (g.D.Disk.state c.do_batch.new.disk))
    (c.in-Err.ensures.went
    (kept_as x c.args.text.now c.requires.go c.requires.kept held.0 held.1 c.requires.judged)
    (can_finish x c.args.text.now c.requires.go c.requires.kept held.0 held.1 c.requires.judged))
