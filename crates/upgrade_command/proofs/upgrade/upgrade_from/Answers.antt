-- Where the file opens its store is upgraded, and else nothing is put.
use Rattle.std.proofs.Common.{Err, ap, inl, inr, refl}
use Rattle.command_face.specs.declared.stop.StopReason.{StopReason}
use Rattle.upgrade_command.proofs.upgrade.upgrade_from.Goals as goal

pub returns-in-Ok : goal.returns-in-Ok
returns-in-Ok g c = inr (record {
  store = c.in-Ok.store;
  mid = c.open.new.disk;
  opening = c.in-Ok.ensures;
  done = c.upgrade_store.ensures;
})

pub returns-in-Err : goal.returns-in-Err
returns-in-Err g c = inl (record {
  fault = c.in-Err.fault;
  opening = c.in-Err.ensures;
  ended = ap (λ (w : StopReason). Err w) c.stop_of.ensures.same;
  nothing = refl;
})
