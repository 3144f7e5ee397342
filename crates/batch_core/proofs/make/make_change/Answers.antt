use Rattle.std.proofs.Common.{sym, ap}
use Rattle.store_model.specs.Quiet.{del_of, put_of}
use Rattle.batch_model.specs.Parts.{change_of, object_of}
use Rattle.batch_core.specs.StoresOn.{store_on}
use Rattle.batch_core.proofs.MakeLaws.{makes_as}
use Rattle.batch_core.proofs.make.make_change.Goals as goal

pub returns-in-Some : goal.returns-in-Some
returns-in-Some g c = makes_as (store_on c.args.store.now (g.D.Disk.state c.args.disk.now))
    (store_on c.put_object.new.store (g.D.Disk.state c.put_object.new.disk)) c.put_object.result
    (put_of c.as_bytes.result.now c.in-Some.object.now) (change_of c.args.part.now) c.as_bytes.ensures.value
    (sym (ap object_of c.in-Some.is)) c.put_object.ensures

pub returns-in-None : goal.returns-in-None
returns-in-None g c = makes_as (store_on c.args.store.now (g.D.Disk.state c.args.disk.now))
    (store_on c.remove.new.store (g.D.Disk.state c.remove.new.disk)) c.remove.result
    (del_of c.as_bytes-in-None.result.now) (change_of c.args.part.now) c.as_bytes-in-None.ensures.value
    (sym (ap object_of c.in-None.is)) c.remove.ensures
