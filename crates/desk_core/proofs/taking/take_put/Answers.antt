use Rattle.std.proofs.Common.{sym, subst}
use Rattle.disk_face.specs.Devices.{devices}
use Rattle.map_model.specs.Requests as ask
use Rattle.store_model.specs.Connection.{StoreValue}
use Rattle.store_model.specs.Quiet.{put_of}
use Rattle.desk_core.specs.Playing.{TakesRequest, owned}
use Rattle.desk_core.proofs.BegunLaws.{begun_takes}
use Rattle.desk_core.proofs.taking.take_put.Goals as goal

pub returns : goal.returns
returns g c =
    let change = put_of c.args.name.now c.args.object.now in
    let s = c.args.served.now.store in
    let a = g.D.Disk.state c.args.disk.now in
    let d = g.D.Disk.state c.begin_put-begun.new.disk in
    let out = g.O.Sink.state c.args.output.now in
    let after = g.O.Sink.state c.tell.new.output in
    subst (λ (x : StoreValue). TakesRequest g.row.C c.args.session (ask.change change)
    (owned s c.args.served.now.session)
    (owned x c.tell.new.served.session) (devices a out) (devices d after) c.tell.result)
    (sym c.tell.ensures.store)
    (begun_takes c.args.session change s c.begin_put-begun.new.self c.args.served.now.session a d
    c.can_serve.ensures out after c.tell.result c.begin_put-begun.result c.tell.new.served.session
    c.begin_put-begun.ensures.begins c.begin_put-begun.ensures.step c.tell.ensures.stands c.tell.ensures.told)
