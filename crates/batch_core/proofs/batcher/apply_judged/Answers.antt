use Rattle.std.proofs.Common.{arith}
use Rattle.batch_core.specs.StoresOn.{store_on}
use Rattle.batch_core.proofs.ApplyLaws.{stands_some}
use Rattle.batch_core.proofs.AppliesLaws.{batch_of, can, done_applies, failed_applies, some_of_length}
use Rattle.batch_core.proofs.batcher.apply_judged.Goals as goal

pub apply_batch-requires : goal.apply_batch-requires
apply_batch-requires g c =
    let x = (store_on c.args.store.now (g.D.Disk.state c.args.disk.now)) in
    let some = some_of_length c.args.text.now c.if-text-eq0.false in
    let held = stands_some x c.requires.go in (
      omega arith,
      (
        batch_of x c.args.text.now c.requires.go c.requires.free c.requires.judged some held.0,
        can x c.args.text.now c.requires.go c.requires.free c.requires.judged some held.0 held.1,
      ),
    )

pub returns-in-Ok : goal.returns-in-Ok
returns-in-Ok g c =
    let x = (store_on c.args.store.now (g.D.Disk.state c.args.disk.now)) in
    let y = (store_on c.apply_batch.new.store (g.D.Disk.state c.apply_batch.new.disk)) in
    let some = some_of_length c.args.text.now c.if-text-eq0.false in
    let held = stands_some x c.requires.go in
    done_applies x c.args.text.now c.requires.go c.requires.free c.requires.judged some y held.0 held.1
    (c.in-Ok.ensures.went
    (batch_of x c.args.text.now c.requires.go c.requires.free c.requires.judged some held.0)
    (can x c.args.text.now c.requires.go c.requires.free c.requires.judged some held.0 held.1))
    c.in-Ok.ensures.kept

pub returns-in-Err : goal.returns-in-Err
returns-in-Err g c =
    let x = (store_on c.args.store.now (g.D.Disk.state c.args.disk.now)) in
    let y = (store_on c.apply_batch.new.store (g.D.Disk.state c.apply_batch.new.disk)) in
    let some = some_of_length c.args.text.now c.if-text-eq0.false in
    let held = stands_some x c.requires.go in
    failed_applies x c.args.text.now c.requires.go c.requires.free c.requires.judged some y held.0 held.1
    (c.in-Err.ensures.went
    (batch_of x c.args.text.now c.requires.go c.requires.free c.requires.judged some held.0)
    (can x c.args.text.now c.requires.go c.requires.free c.requires.judged some held.0 held.1))
