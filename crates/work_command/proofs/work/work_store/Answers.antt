use Rattle.std.proofs.Common.{◌≡◌, Err, None, ap, refl}
use Rattle.work_session.specs.declared.work.WorkFault.TheVariants as fault
use Rattle.work_command.specs.Asked.{jobs_numbered}
use Rattle.work_command.specs.Summaries.{summary_text}
use Rattle.work_command.proofs.StepsLemmas.{steps_all, steps_nothing, steps_stop}
use Rattle.work_command.proofs.work.work_store.Goals as goal

pub returns-in-Ok : goal.returns-in-Ok
returns-in-Ok g c = λ first opening.
    let text : c.as_slice.result.now ≡ summary_text c.in-Ok.summary = cc in
    steps_all g.D.Disk.state (jobs_numbered c.args.number c.args.count None) first c.args.disk.now
    c.do_work.new.disk
    (g.O.Sink.state c.args.output.now) (g.O.Sink.state c.put_whole.new.output) c.args.store opening
    c.in-Ok.summary
    c.as_slice.result.now c.put_whole.result c.in-Ok.ensures.done.done (λ told. text) text
    c.put_whole.ensures.put
    c.put_whole.ensures.only c.put_whole.ensures.told c.put_whole.ensures.cause

pub returns-in-Err-Disk : goal.returns-in-Err-Disk
returns-in-Err-Disk g c = λ first opening.
    let why : c.do_work.result ≡ Err fault.Disk = cc in
    steps_stop g.D.Disk.state (jobs_numbered c.args.number c.args.count None) first c.args.disk.now
    c.do_work.new.disk
    (g.O.Sink.state c.args.output.now) (g.O.Sink.state c.args.output.now) c.args.store opening
    (c.do_work.ensures.stopped why) refl

pub returns : goal.returns
returns g c = λ first opening.
    let why : c.do_work.result ≡ Err fault.NoMemory = cc in
    steps_nothing g.D.Disk.state (jobs_numbered c.args.number c.args.count None) first c.args.disk.now
    c.do_work.new.disk
    (g.O.Sink.state c.args.output.now) (g.O.Sink.state c.args.output.now) c.args.store opening
    (ap g.D.Disk.state (c.do_work.ensures.memory why)) refl
