use Rattle.std.proofs.Common.{◌≡◌, true, false, arith, refl}
use Rattle.slot_codec.specs.Names.{is_name}
use Rattle.store_model.specs.Quiet.{put_of}
use Rattle.map_model.specs.Requests as ask
use Rattle.ask_session.proofs.AnswerLaws.{refused_head}
use Rattle.ask_session.proofs.TooLongLaws.{long_is_refused, name_is_refused}
use Rattle.ask_session.proofs.changes.serve_long.Goals as goal
use Rattle.disk_face.proofs.FrameLaws.{unchanged_itself}

pub returns-else-is_name : goal.returns-else-is_name
returns-else-is_name g c object long =
    let named : is_name c.args.name.now ≡ false = grind arith in
    refused_head c.args.store.now (ask.change (put_of c.args.name.now object)) ask.bad_name
    (g.D.Disk.state c.args.disk.now) (g.D.Disk.state c.args.disk.now)
    c.requires.can
    (name_is_refused c.args.store.now c.args.name.now object named)
    (unchanged_itself (g.D.Disk.state c.args.disk.now) c.requires.can.ready) refl

pub returns-then-is_name : goal.returns-then-is_name
returns-then-is_name g c object long =
    let named : is_name c.args.name.now ≡ true = grind arith in
    refused_head c.args.store.now (ask.change (put_of c.args.name.now object)) ask.too_long
    (g.D.Disk.state c.args.disk.now) (g.D.Disk.state c.args.disk.now)
    c.requires.can
    (long_is_refused c.args.store.now c.args.name.now object named (omega (arith, long)))
    (unchanged_itself (g.D.Disk.state c.args.disk.now) c.requires.can.ready) refl
