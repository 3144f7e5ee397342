use Rattle.std.proofs.Common.{arith}
use Rattle.batch_model.specs.Parts.{change_of}
use Rattle.batch_core.specs.Doing.{half_done}
use Rattle.batch_core.specs.StoresOn.{store_on}
use Rattle.batch_core.proofs.DoLaws.{doing_done, doing_go, doing_may, doing_more, doing_none, doing_stops}
use Rattle.batch_core.proofs.run.do_changes.Goals as goal

pub parts-init : goal.parts-init
parts-init g c = doing_none (store_on c.args.store.now (g.D.Disk.state c.args.disk.now)) c.args.text.now

pub make_change-requires : goal.make_change-requires
make_change-requires g c =
    let b = c.requires.0 in
    let can = c.requires.1 in
    let x = (store_on c.args.store.now (g.D.Disk.state c.args.disk.now)) in
    let y = (store_on c.parts.store (g.D.Disk.state c.parts.disk)) in
    let is = c.parts.invariant b can in (
      omega arith,
      (
        doing_go x c.args.text.now b can y c.parts.rest.now c.in-Some.part.rest.now is
            (change_of c.in-Some.part) c.in-Some.ensures.0 c.in-Some.ensures.1,
        doing_may x c.args.text.now b can y c.parts.rest.now c.in-Some.part.rest.now is
            (change_of c.in-Some.part) c.in-Some.ensures.0 c.in-Some.ensures.1,
      ),
    )

pub returns-in-Err : goal.returns-in-Err
returns-in-Err g c b can =
    let is = c.parts.invariant b can in
    doing_stops (store_on c.args.store.now (g.D.Disk.state c.args.disk.now)) c.args.text.now b can
    (store_on c.parts.store (g.D.Disk.state c.parts.disk)) c.parts.rest.now c.in-Some.part.rest.now is
    (change_of c.in-Some.part) c.in-Some.ensures.0 c.in-Some.ensures.1
    (store_on c.make_change.new.store (g.D.Disk.state c.make_change.new.disk)) _
    (c.in-Err.ensures (half_done b is.finished) is.goes.stands)

pub parts-preserved : goal.parts-preserved
parts-preserved g c b can =
    let is = c.parts.invariant b can in
    doing_more (store_on c.args.store.now (g.D.Disk.state c.args.disk.now)) c.args.text.now b can
    (store_on c.parts.store (g.D.Disk.state c.parts.disk)) c.parts.rest.now c.in-Some.part.rest.now is
    (change_of c.in-Some.part) c.in-Some.ensures.0 c.in-Some.ensures.1
    (store_on c.make_change.new.store (g.D.Disk.state c.make_change.new.disk)) _
    (c.in-Ok.ensures (half_done b is.finished) is.goes.stands)

pub returns : goal.returns
returns g c b can = doing_done (store_on c.args.store.now (g.D.Disk.state c.args.disk.now)) c.args.text.now b
    can
    (store_on c.parts.store (g.D.Disk.state c.parts.disk)) c.parts.rest.now (c.parts.invariant b can)
    c.in_default.ensures
