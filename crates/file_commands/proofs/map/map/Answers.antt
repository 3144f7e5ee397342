use Rattle.std.proofs.Common.{inr, refl, rules}
use Rattle.std.specs.Prelude.{None}
use Rattle.reopen.specs.Loads.{table_seen, unboxed}
use Rattle.command_face.specs.Refusing.{IsNotRead}
use Rattle.file_commands.specs.Texts.{IsMapped, map_text}
use Rattle.file_commands.proofs.AnswerLaws.{put_answer, sink_plain, sink_put, stopped, stops_more}
use Rattle.file_commands.proofs.LooksLaws.{looks_put}
use Rattle.file_commands.proofs.TextLaws.{told_of}
use Rattle.file_commands.proofs.map.map.Goals as goal

pub returns-in_err-loaded-clause-answers : goal.returns-in_err-loaded-clause-answers
returns-in_err-loaded-clause-answers g c = λ told.
    let file = (g.D.Disk.state c.args.disk.now).file in
    let output = g.O.Sink.state c.args.output.now in
    let why = c.in_err-loaded.field-0.0 in
    let all = stopped (IsMapped file) output output why refl c.in_err-loaded.ensures.looks.only.0
    (stops_more (IsNotRead file) (IsMapped file) (λ answer is. inr is) why
    (c.in_err-loaded.ensures.stopped told))
    in
    search rules

pub returns-clause-answers : goal.returns-clause-answers
returns-clause-answers g c = λ told.
    let file = (g.D.Disk.state c.args.disk.now).file in
    let x = unboxed c.in_ok-loaded.loaded in
    put_answer (IsMapped file) (map_text (table_seen x None)) (g.O.Sink.state c.args.output.now)
    (g.O.Sink.state c.put_map.new.output) c.put_map.result
    (told_of (λ t len. map_text t) file x (c.in_ok-loaded.ensures.told told)) c.put_map.ensures.only
    c.put_map.ensures.put

pub returns-clause-plain : goal.returns-clause-plain
returns-clause-plain g c = sink_plain c.put_map.result c.put_map.ensures.only

pub returns-clause-nothing_put : goal.returns-clause-nothing_put
returns-clause-nothing_put g c =
    sink_put c.args.output.now c.put_map.new.output c.put_map.result c.put_map.ensures.only

pub returns-clause-causes : goal.returns-clause-causes
returns-clause-causes g c =
    looks_put (g.D.Disk.state c.args.disk.now) (g.D.Disk.state c.load.new.disk) c.in_ok-loaded.loaded
    c.in_ok-loaded.ensures.looks (g.O.Sink.state c.args.output.now) (g.O.Sink.state c.put_map.new.output)
    c.put_map.result c.put_map.ensures.only c.put_map.ensures.told c.put_map.ensures.cause
