-- Where the file opens the script is done, and else nothing is read or put.
use Rattle.std.proofs.Common.{Err, ap, inl, inr, refl}
use Rattle.command_face.specs.declared.stop.StopReason.{StopReason}
use Rattle.desk_command.proofs.AlwaysLaws.{source_same}
use Rattle.desk_command.proofs.desk.desk_from.Goals as goal

pub returns-in-Ok-clause-steps : goal.returns-in-Ok-clause-steps
returns-in-Ok-clause-steps g c = inr (record {
  store = c.in-Ok.store;
  mid = c.open.new.disk;
  opening = c.in-Ok.ensures;
  done = c.desk_store.ensures.steps;
})

pub returns-in-Ok-clause-source : goal.returns-in-Ok-clause-source
returns-in-Ok-clause-source g c = c.desk_store.ensures.source

pub returns-in-Err-clause-steps : goal.returns-in-Err-clause-steps
returns-in-Err-clause-steps g c = inl (record {
  fault = c.in-Err.fault;
  opening = c.in-Err.ensures;
  ended = ap (λ (w : StopReason). Err w) c.stop_of.ensures.same;
  nothing = refl;
})

pub returns-in-Err-clause-source : goal.returns-in-Err-clause-source
returns-in-Err-clause-source g c = source_same (g.I.Source.state c.args.input.now) _ c.stop_of.result refl
    c.stop_of.ensures.plain.0
