use Rattle.std.proofs.Common.{◌≡◌, ◌∙◌, Err, refl, rules}
use Rattle.disk_face.proofs.FrameLaws.{Unchanged-trans}
use Rattle.command_face.specs.declared.stop.StopReason.TheVariants as stop
use Rattle.file_commands.proofs.DumpedLaws.{dumps_none, ends_unread, none_damaged}
use Rattle.file_commands.proofs.dump.dump.Goals as goal

pub returns-in_err-loaded-clause-dumps : goal.returns-in_err-loaded-clause-dumps
returns-in_err-loaded-clause-dumps g c = λ told.
    let file = (g.D.Disk.state c.args.disk.now).file in
    let why = c.in_err-loaded.field-0.0 in
    let only = c.in_err-loaded.ensures.looks.only in
    let stops = c.in_err-loaded.ensures.stopped told in
    let other = none_damaged file why stops in
    let is : c.from_residual.result ≡ Err why = search rules in
    rw is (dumps_none file (g.O.Sink.state c.args.output.now) why other
    (ends_unread file why only.0 only.1 other stops))

pub returns-in_err-piece-clause-dumps : goal.returns-in_err-piece-clause-dumps
returns-in_err-piece-clause-dumps g c = λ told.
    let file = (g.D.Disk.state c.args.disk.now).file in
    let why = c.in_err-piece.field-0.0 in
    let memory : why ≡ stop.NoMemory = c.in_err-piece.ensures.refused in
    let is : c.from_residual-in_err-piece.result ≡ Err why = search rules in
    rw (is, memory) (dumps_none file (g.O.Sink.state c.args.output.now) stop.NoMemory (λ e. absurd (cc)) refl)

pub returns-clause-causes : goal.returns-clause-causes
returns-clause-causes g c =
    let looks = c.in_ok-loaded.ensures.looks.cause in
    let e = c.put_dump.ensures.causes in
    let calm : (g.D.Disk.state c.load.new.disk).faults ≡ (g.D.Disk.state c.args.disk.now).faults =
    looks.calm (λ is. absurd (cc)) in
    record {
      later = rw calm at e.later;
      rose = rw calm at e.rose;
      calm = λ other. e.calm other ∙ calm;
      sink_later = e.sink_later;
      sink_rose = e.sink_rose;
      sink_calm = e.sink_calm;
      sink_told = e.sink_told;
    }

pub returns-clause-frame : goal.returns-clause-frame
returns-clause-frame g c = Unchanged-trans c.in_ok-loaded.ensures.looks.frame c.put_dump.ensures.frame
