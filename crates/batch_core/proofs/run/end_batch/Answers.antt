use Rattle.std.proofs.Common.{arith}
use Rattle.batch_model.specs.Batches.{applied}
use Rattle.batch_core.specs.Doing.{half_done}
use Rattle.batch_core.specs.StoresOn.{store_on}
use Rattle.batch_core.proofs.DoLaws.{end_may, end_stops, ended_go, ended_keep, ended_or, ended_stands}
use Rattle.batch_core.proofs.run.end_batch.Goals as goal

pub remove-requires : goal.remove-requires
remove-requires g c = (
  omega arith,
  (
    c.requires.1.go,
    end_may (store_on c.args.store.now (g.D.Disk.state c.args.disk.now)) c.requires.0 c.requires.1,
  ),
)

pub returns-in-Err-clause-went : goal.returns-in-Err-clause-went
returns-in-Err-clause-went g c b can =
    end_stops (store_on c.args.store.now (g.D.Disk.state c.args.disk.now)) b can
    (store_on c.remove.new.store (g.D.Disk.state c.remove.new.disk)) _
    (c.in-Err.ensures (half_done b b.changes) can.stands)

pub keep-requires : goal.keep-requires
keep-requires g c =
    let b = c.requires.0 in
    let can = c.requires.1 in
    let made = c.in-Ok.ensures (half_done b b.changes) can.stands in
    let x = (store_on c.args.store.now (g.D.Disk.state c.args.disk.now)) in
    let y = (store_on c.remove.new.store (g.D.Disk.state c.remove.new.disk)) in
    (omega arith, (ended_go x b can y _ made, ended_keep x b can y _ made))

pub returns-in-Ok-clause-went : goal.returns-in-Ok-clause-went
returns-in-Ok-clause-went g c b can =
    let made = c.in-Ok.ensures (half_done b b.changes) can.stands in
    let x = (store_on c.args.store.now (g.D.Disk.state c.args.disk.now)) in
    let y = (store_on c.remove.new.store (g.D.Disk.state c.remove.new.disk)) in
    ended_or x b can y _ made (store_on c.keep.new.store (g.D.Disk.state c.keep.new.disk))
    c.keep.result (c.keep.ensures.makes (applied b.changes b.map) (ended_stands x b can y _ made))

pub returns-in-Ok-clause-kept : goal.returns-in-Ok-clause-kept
returns-in-Ok-clause-kept g c = c.keep.ensures.kept
