use Rattle.std.specs.Prelude.{false}
use Rattle.reopen.proofs.TableLaws.{slot_refused}
use Rattle.reopen.proofs.state.load_state.Goals as goal

pub returns-in-Err-clause-refused : goal.returns-in-Err-clause-refused
returns-in-Err-clause-refused g c = λ told.
    slot_refused false (g.D.Disk.state c.args.disk.now).file c.in-Err.fault
    (c.in-Err.ensures.refused told)
