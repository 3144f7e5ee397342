use Rattle.std.proofs.Common.{sym, subst, refl, ◌∙◌, inl, inr, arith}
use Rattle.disk_face.specs.Devices.{devices}
use Rattle.map_model.specs.Requests as ask
use Rattle.map_model.specs.Requests.{Request}
use Rattle.ask_session.proofs.KindLaws.{back_is, keep_is, stat_is}
use Rattle.desk_core.specs.Playing.{TakesRequest, owned}
use Rattle.desk_core.proofs.TakeLaws.{always_ok, answer_takes}
use Rattle.desk_core.proofs.taking.take.Goals as goal

pub returns-in-Keep : goal.returns-in-Keep
returns-in-Keep g c r asked stands =
    let s = c.args.served.now.store in
    let a = g.D.Disk.state c.args.disk.now in
    let d = g.D.Disk.state c.serve_keep.new.disk in
    let out = g.O.Sink.state c.args.output.now in
    let after = g.O.Sink.state c.put_reply.new.output in
    subst (λ (x : Request). TakesRequest g.row.C c.args.session x (owned s c.args.served.now.session)
    (owned c.serve_keep.new.store c.args.served.now.session) (devices a out) (devices d after)
    c.put_reply.result) (sym (keep_is r (asked ∙ c.in-Keep.is)))
    (answer_takes c.args.session ask.keep s c.serve_keep.new.store c.args.served.now.session a d
    c.can_serve.ensures (inr (inl (omega (arith, c.serve_keep.ensures.calls))))
    out after c.put_reply.result c.serve_keep.result c.serve_keep.ensures.answers
    (λ told. always_ok c.serve_keep.result refl) c.put_reply.ensures)

pub returns-in-Back : goal.returns-in-Back
returns-in-Back g c r asked stands =
    let s = c.args.served.now.store in
    let a = g.D.Disk.state c.args.disk.now in
    let d = g.D.Disk.state c.serve_back.new.disk in
    let out = g.O.Sink.state c.args.output.now in
    let after = g.O.Sink.state c.put_reply-in-Back.new.output in
    subst (λ (x : Request). TakesRequest g.row.C c.args.session x (owned s c.args.served.now.session)
    (owned c.serve_back.new.store c.args.served.now.session) (devices a out) (devices d after)
    c.put_reply-in-Back.result) (sym (back_is r (asked ∙ c.in-Back.is)))
    (answer_takes c.args.session ask.back s c.serve_back.new.store c.args.served.now.session a d
    c.can_serve-in-Back.ensures (inl (omega (arith, (c.serve_back.ensures.serves.still refl).same_turn)))
    out after c.put_reply-in-Back.result c.serve_back.result c.serve_back.ensures
    (λ told. always_ok c.serve_back.result refl) c.put_reply-in-Back.ensures)

pub returns-in-Stat : goal.returns-in-Stat
returns-in-Stat g c r asked stands =
    let s = c.args.served.now.store in
    let a = g.D.Disk.state c.args.disk.now in
    let d = g.D.Disk.state c.serve_stat.new.disk in
    let out = g.O.Sink.state c.args.output.now in
    let after = g.O.Sink.state c.put_reply-in-Stat.new.output in
    subst (λ (x : Request). TakesRequest g.row.C c.args.session x (owned s c.args.served.now.session)
    (owned c.serve_stat.new.store c.args.served.now.session) (devices a out) (devices d after)
    c.put_reply-in-Stat.result) (sym (stat_is r (asked ∙ c.in-Stat.is)))
    (answer_takes c.args.session ask.stat s c.serve_stat.new.store c.args.served.now.session a d
    c.can_serve-in-Stat.ensures (inl (omega (arith, (c.serve_stat.ensures.serves.still refl).same_turn)))
    out after c.put_reply-in-Stat.result c.serve_stat.result c.serve_stat.ensures
    (λ told. always_ok c.serve_stat.result refl) c.put_reply-in-Stat.ensures)
