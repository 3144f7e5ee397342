use Rattle.std.proofs.Common.{arith, inl}
use Rattle.std.specs.Prelude.{[]}
use Rattle.batch_core.specs.Doing.{half_done}
use Rattle.batch_core.specs.StoresOn.{store_on}
use Rattle.batch_core.proofs.DoLaws.{begin_may, begin_stops, begun_go, begun_keep, begun_or, begun_stands}
use Rattle.batch_core.proofs.run.begin_batch.Goals as goal

pub put_object-requires : goal.put_object-requires
put_object-requires g c = (
  omega arith,
  (
    c.requires.1.go,
    inl (begin_may (store_on c.args.store.now (g.D.Disk.state c.args.disk.now)) c.args.text.now
        c.requires.0 c.requires.1),
  ),
)

pub returns-in-Err : goal.returns-in-Err
returns-in-Err g c b can = begin_stops (store_on c.args.store.now (g.D.Disk.state c.args.disk.now))
    c.args.text.now b can (store_on c.put_object.new.store (g.D.Disk.state c.put_object.new.disk)) _
    (c.in-Err.ensures b.map can.stands)

pub keep-requires : goal.keep-requires
keep-requires g c =
    let b = c.requires.0 in
    let can = c.requires.1 in
    let made = c.in-Ok.ensures b.map can.stands in
    let x = (store_on c.args.store.now (g.D.Disk.state c.args.disk.now)) in
    let y = (store_on c.put_object.new.store (g.D.Disk.state c.put_object.new.disk)) in
    (omega arith, (begun_go x c.args.text.now b can y _ made, begun_keep x c.args.text.now b can y _ made))

pub returns-in-Ok : goal.returns-in-Ok
returns-in-Ok g c b can =
    let made = c.in-Ok.ensures b.map can.stands in
    let x = (store_on c.args.store.now (g.D.Disk.state c.args.disk.now)) in
    let y = (store_on c.put_object.new.store (g.D.Disk.state c.put_object.new.disk)) in
    begun_or x c.args.text.now b can y _ made (store_on c.keep.new.store (g.D.Disk.state c.keep.new.disk))
    c.keep.result (c.keep.ensures.makes (half_done b []) (begun_stands x c.args.text.now b can y _ made))
