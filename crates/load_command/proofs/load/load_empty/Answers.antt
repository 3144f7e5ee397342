-- What came of the answer of the load of the stream.
use Rattle.std.proofs.Common.{◌≡◌, Err, IsTrue, List, ℕ, rules, subst, sym}
use Rattle.disk_face.specs.Devices.{devices}
use Rattle.disk_face.specs.Streams.{Puts}
use Rattle.command_face.specs.declared.stop.StopReason.{StopReason}
use Rattle.load_command.specs.Doing.{IsLoading}
use Rattle.load_command.specs.Ends.{loaded_line}
use Rattle.load_command.proofs.LoadedLaws.{loads_done, loads_refused}
use Rattle.load_command.proofs.load.load_empty.Goals as goal

pub returns-in-Ok-clause-loads : goal.returns-in-Ok-clause-loads
returns-in-Ok-clause-loads g c =
    let s = g.D.Disk.state in
    let i = g.I.Source.state in
    let out = g.O.Sink.state c.args.output.now in
    let put = g.O.Sink.state c.put_whole.new.output in
    let line : c.as_bytes.result.now ≡ loaded_line = search rules in
    let puts : IsTrue out.tells → Puts out.given put.given loaded_line c.put_whole.result =
    subst (λ (bytes : List ℕ). IsTrue out.tells → Puts out.given put.given bytes c.put_whole.result) line
    c.put_whole.ensures.put in
    loads_done c.args.k c.args.names (s c.args.disk.now) (s c.load.new.disk) (i c.args.input.now)
    (i c.load.new.input) c.requires.empty (search (c.in-Ok.ensures))
    (c.load.new.input ≡ c.args.input.now) out put c.put_whole.ensures.told c.put_whole.result
    c.put_whole.ensures.only puts c.put_whole.ensures.cause

pub returns-in-Err-clause-loads : goal.returns-in-Err-clause-loads
returns-in-Err-clause-loads g c =
    let s = g.D.Disk.state in
    let i = g.I.Source.state in
    subst (λ (w : StopReason). IsLoading c.args.k c.args.names
    (devices (s c.args.disk.now) (g.O.Sink.state c.args.output.now))
    (devices (s c.load.new.disk) (g.O.Sink.state c.args.output.now)) (i c.args.input.now) (i c.load.new.input)
    (c.load.new.input ≡ c.args.input.now) (Err w)) (sym c.reason_of.ensures)
    (loads_refused c.args.k c.args.names (s c.args.disk.now) (s c.load.new.disk) (i c.args.input.now)
    (i c.load.new.input) c.requires.empty c.in-Err.fault (search (c.in-Err.ensures))
    (c.load.new.input ≡ c.args.input.now) (g.O.Sink.state c.args.output.now))
