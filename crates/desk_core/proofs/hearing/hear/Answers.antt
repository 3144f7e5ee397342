use Rattle.std.proofs.Common.{◌≡◌, ◌++◌, ℕ, Option, Some, None, IsTrue, arith, subst}
use Rattle.desk_core.specs.Hearing.{Hears}
use Rattle.desk_core.proofs.HearLaws.{heard_full, heard_queued}
use Rattle.desk_core.proofs.hearing.hear.Goals as goal

pub returns-in-Ok-Some-clause-heard : goal.returns-in-Ok-Some-clause-heard
returns-in-Ok-Some-clause-heard g c =
    let told = IsTrue (g.I.Source.state c.args.input.now).tells in
    let input = c.args.ahead.now ++ (g.I.Source.state c.args.input.now).left in
    let rest = c.read_said.new.ahead ++ (g.I.Source.state c.read_said.new.input).left in
    let same : c.in-Ok-Some.field-0 ≡ Some c.in-Ok-Some.n = grind arith in
    let h : Hears told input rest c.free-room.result c.read_said.new.text (Some c.in-Ok-Some.n) =
    subst (λ (o : Option ℕ). Hears told input rest c.free-room.result c.read_said.new.text o) same
    c.in-Ok-Some.ensures.hears in
    heard_queued told c.args.session c.requires.session c.args.queues.now input rest c.read_said.new.text
    c.free-room.result c.free-room.ensures.value (g.O.Sink.state c.args.output.now)
    (g.O.Sink.state c.put_for.new.output) c.put_for.result c.push.new.self c.in-Ok-Some.n h
    (omega (arith, h.within, c.free-room.ensures.value, c.requires.room, c.read_said.ensures.same_length))
    (λ qs r holds text is. c.push.ensures qs r holds text is) c.put_for.ensures

pub returns-in-Ok-None-clause-heard : goal.returns-in-Ok-None-clause-heard
returns-in-Ok-None-clause-heard g c =
    let told = IsTrue (g.I.Source.state c.args.input.now).tells in
    let input = c.args.ahead.now ++ (g.I.Source.state c.args.input.now).left in
    let rest = c.read_said.new.ahead ++ (g.I.Source.state c.read_said.new.input).left in
    let same : c.in-Ok-None.field-0 ≡ None = grind arith in
    let h : Hears told input rest c.free-room.result c.read_said.new.text None =
    subst (λ (o : Option ℕ). Hears told input rest c.free-room.result c.read_said.new.text o) same
    c.in-Ok-None.ensures.hears in
    heard_full told c.args.session c.requires.session c.args.queues.now input rest c.read_said.new.text
    c.free-room.result c.free-room.ensures.value (g.O.Sink.state c.args.output.now)
    (g.O.Sink.state c.put_for-in-Ok-None.new.output) c.put_for-in-Ok-None.result h
    c.put_for-in-Ok-None.ensures
