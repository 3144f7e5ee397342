use Rattle.std.proofs.Common.{◌≡◌, arith, refl, false, true}
use Rattle.ask_session.specs.Outside.{held, outside}
use Rattle.desk_core.proofs.ImageLaws.{opens_now}
use Rattle.desk_core.proofs.PlayedLaws.{ends_in, no_budget, played_more, played_none}
use Rattle.desk_core.proofs.desk.Desk.run.Goals as goal

pub turns-init : goal.turns-init
turns-init g c = record {
  few = omega arith;
  played = played_none c.args.self.now (outside (g.D.Disk.state c.args.disk.now)
      (g.I.Source.state c.args.input.now) (g.O.Sink.state c.args.output.now)) c.requires c.counts.ensures;
}

pub turns-preserved : goal.turns-preserved
turns-preserved g c = record {
  few = omega arith;
  played = played_more c.args.self.now c.turns.self c.one.new.self
      (outside (g.D.Disk.state c.args.disk.now) (g.I.Source.state c.args.input.now)
      (g.O.Sink.state c.args.output.now))
      (outside (g.D.Disk.state c.turns.disk) (g.I.Source.state c.turns.input)
      (g.O.Sink.state c.turns.output))
      (outside (g.D.Disk.state c.one.new.disk) (g.I.Source.state c.one.new.input)
      (g.O.Sink.state c.one.new.output)) c.turns.n c.turns.invariant.played c.in-Answered.ensures.turn
      c.in-Answered.ensures.keeps c.in-Answered.ensures.events
      (c.in-Answered.ensures.ended);
}

pub returns-in-Ended : goal.returns-in-Ended
returns-in-Ended g c =
    let before = outside (g.D.Disk.state c.turns.disk) (g.I.Source.state c.turns.input)
    (g.O.Sink.state c.turns.output) in
    let now = outside (g.D.Disk.state c.one.new.disk) (g.I.Source.state c.one.new.input)
    (g.O.Sink.state c.one.new.output) in
    record {
      bench = c.turns.self;
      mid = held c.turns.disk c.turns.input c.turns.output;
      n = c.turns.n;
      played = c.turns.invariant.played;
      few = omega arith;
      fewer = λ is. omega arith;
      last_turn = ends_in g.row.C c.turns.n c.turns.self c.one.new.self before now c.in-Ended.end
          c.in-Ended.ensures.turn c.in-Ended.ensures.keeps c.in-Ended.ensures.events;
      ended = λ is. c.in-Ended.ensures.ended;
      opens = λ whole told d shown. opens_now c.one.new.self.store c.one.new.self.flush_of
          (g.D.Disk.state c.one.new.disk) d (c.sound.ensures whole) whole
          c.in-Ended.ensures.keeps.readable told shown;
      same_disk = c.in-Ended.ensures.same_disk;
      same_sink = c.in-Ended.ensures.same_sink;
      same_source = no_budget g.row.C c.turns.self c.one.new.self before now c.in-Ended.end
          c.in-Ended.ensures.turn;
    }

pub returns : goal.returns
returns g c = record {
  bench = c.turns.self;
  mid = held c.turns.disk c.turns.input c.turns.output;
  n = c.turns.n;
  played = c.turns.invariant.played;
  few = c.turns.invariant.few;
  fewer = λ is. absurd (let e : true ≡ false = is in cc);
  last_turn = (omega arith, refl);
  ended = λ is. absurd (let e : true ≡ false = is in cc);
  opens = λ whole told d shown. opens_now c.turns.self.store c.turns.self.flush_of
      (g.D.Disk.state c.turns.disk) d (c.sound-2.ensures whole) whole
      c.turns.invariant.played.readable told shown;
  same_disk = λ is. refl;
  same_sink = λ is. refl;
  same_source = λ is. refl;
}
