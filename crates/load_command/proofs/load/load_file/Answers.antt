-- What the load left and put, and the line of its end after it.
use Rattle.std.proofs.Common.{◌≡◌, ap, subst, sym, true}
use Rattle.command_face.specs.Mounting.{IsMounted}
use Rattle.command_face.specs.declared.outcome.Outcome.{Outcome}
use Rattle.command_face.specs.declared.status.TheConstants.{DISK_FAILED, NO_FILE}
use Rattle.load_command.proofs.AlwaysLaws.{load_always, load_promise, load_reads}
use Rattle.load_command.proofs.load.load_file.Goals as goal

pub returns-clause-loads : goal.returns-clause-loads
returns-clause-loads g c =
    let b = g.B.Disk.state in
    let i = g.I.Source.state in
    let o = g.O.Sink.state in
    load_promise c.args.k c.args.names (b c.args.bay.now) (b c.load_over-end.new.bay) (o c.args.output.now)
    (o c.load_over-end.new.output) (o c.finish.new.output) (i c.args.input.now) (i c.load_over-end.new.input)
    (c.load_over-end.new.input ≡ c.args.input.now) c.load_over-end.result c.load_over-end.ensures.loads
    c.finish.result.status (ap (λ (x : Outcome). x.status) c.finish.ensures.status) c.finish.ensures.line
    c.finish.ensures.later c.finish.ensures.calm c.finish.ensures.told

pub returns-clause-mounted : goal.returns-clause-mounted
returns-clause-mounted g c =
    subst (λ n. IsMounted c.args.file.now true (g.B.Disk.state c.load_over-end.new.bay).last_mount
    (n ≡ DISK_FAILED) (n ≡ NO_FILE))
    (sym (ap (λ (x : Outcome). x.status) c.finish.ensures.status)) c.load_over-end.ensures.mounted

pub returns-clause-keeps : goal.returns-clause-keeps
returns-clause-keeps g c =
    let b = g.B.Disk.state in
    let i = g.I.Source.state in
    let o = g.O.Sink.state in
    load_always c.args.k c.args.names (b c.args.bay.now) (b c.load_over-end.new.bay) (o c.args.output.now)
    (o c.load_over-end.new.output) (o c.finish.new.output) (i c.args.input.now) (i c.load_over-end.new.input)
    (c.load_over-end.new.input ≡ c.args.input.now) c.load_over-end.result c.load_over-end.ensures.loads
    c.finish.result.status (ap (λ (x : Outcome). x.status) c.finish.ensures.status) c.finish.ensures.line
    c.finish.ensures.later c.finish.ensures.calm c.finish.ensures.told

pub returns-clause-reads : goal.returns-clause-reads
returns-clause-reads g c =
    let b = g.B.Disk.state in
    let i = g.I.Source.state in
    let o = g.O.Sink.state in
    load_reads c.args.k c.args.names (b c.args.bay.now) (b c.load_over-end.new.bay) (o c.args.output.now)
    (o c.load_over-end.new.output) (o c.finish.new.output) (i c.args.input.now) (i c.load_over-end.new.input)
    (c.load_over-end.new.input ≡ c.args.input.now) c.load_over-end.result c.load_over-end.ensures.loads
    c.finish.result.status (ap (λ (x : Outcome). x.status) c.finish.ensures.status) c.finish.ensures.line
    c.finish.ensures.later c.finish.ensures.calm c.finish.ensures.told
