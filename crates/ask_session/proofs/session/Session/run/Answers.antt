use Rattle.std.proofs.Common.{◌≡◌, arith, refl, false, true, ◌∙◌}
use Rattle.ask_session.specs.Outside.{held, outside}
use Rattle.ask_session.proofs.RunLaws.{has_run_more, has_run_none, last_turn_of, not_budget}
use Rattle.ask_session.proofs.session.Session.run.Goals as goal

pub turns-init : goal.turns-init
turns-init g c = record {
  few = omega arith;
  sound = c.is_sound.ensures.store;
  fresh = c.requires.fresh;
  ran = has_run_none c.args.self.now (outside (g.D.Disk.state c.args.disk.now)
      (g.I.Source.state c.args.input.now) (g.O.Sink.state c.args.output.now)) c.requires
      c.is_sound.ensures.count;
}

pub turns-preserved : goal.turns-preserved
turns-preserved g c = record {
  few = omega arith;
  sound = c.in-Answered.ensures.sound;
  fresh = grind (arith, c.in-Answered.ensures.ended);
  ran = has_run_more c.one.new.self (outside (g.D.Disk.state c.one.new.disk)
      (g.I.Source.state c.one.new.input) (g.O.Sink.state c.one.new.output))
      c.turns.invariant.ran c.in-Answered.ensures.turn c.in-Answered.ensures.told
      (c.in-Answered.ensures.cause.calm refl)
      (g.met.D.Disk.lawful c.one.new.disk) c.in-Answered.ensures.sound;
}

pub returns-in-Ended : goal.returns-in-Ended
returns-in-Ended g c =
    let before = outside (g.D.Disk.state c.turns.disk) (g.I.Source.state c.turns.input)
    (g.O.Sink.state c.turns.output) in
    let now = outside (g.D.Disk.state c.one.new.disk) (g.I.Source.state c.one.new.input)
    (g.O.Sink.state c.one.new.output) in
    record {
      sitting = c.turns.self;
      mid = held c.turns.disk c.turns.input c.turns.output;
      n = c.turns.n;
      ran = c.turns.invariant.ran;
      few = omega arith;
      fewer = λ is. omega arith;
      last_turn = last_turn_of g.row.C c.turns.n c.turns.self c.one.new.self before now c.in-Ended.end
          c.in-Ended.ensures.turn;
      sound = c.in-Ended.ensures.sound;
      same_disk = c.in-Ended.ensures.same_disk;
      same_sink = c.in-Ended.ensures.same_sink;
      ended = c.in-Ended.ensures.ended
          ∙ not_budget g.row.C c.turns.self c.one.new.self before now c.in-Ended.end
          c.in-Ended.ensures.turn;
      cause = c.in-Ended.ensures.cause;
    }

pub returns : goal.returns
returns g c = record {
  sitting = c.turns.self;
  mid = held c.turns.disk c.turns.input c.turns.output;
  n = c.turns.n;
  ran = c.turns.invariant.ran;
  few = c.turns.invariant.few;
  fewer = λ is. absurd (let e : true ≡ false = is in cc);
  last_turn = (omega arith, refl);
  sound = c.turns.invariant.sound;
  same_disk = λ is. refl;
  same_sink = λ is. refl;
  ended = c.turns.invariant.fresh;
  cause = record { later = omega arith; rose = λ is. absurd (cc); calm = λ is. refl };
}
