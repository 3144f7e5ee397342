use Rattle.std.proofs.Common.{◌≡◌, subst}
use Rattle.disk_face.specs.Counts.{Rose}
use Rattle.command_face.specs.Faults.{line_of}
use Rattle.command_face.specs.Outcomes.{PutsLast}
use Rattle.command_face.proofs.StatusLaws.{put_last}
use Rattle.command_face.proofs.outcome.tell.Goals as goal

pub returns-clause-line : goal.returns-clause-line
returns-clause-line g c = λ told.
    let old = g.O.Sink.state c.args.output.now in
    let new = g.O.Sink.state c.put.new.self in
    let is : c.as_slice.result.now ≡ line_of c.args.why = cc in
    subst (λ bytes. PutsLast old.given new.given bytes (Rose old.faults new.faults)) is
    (put_last old new c.as_slice.result.now c.put.result (c.put.ensures.put told) c.put.ensures.cause)
