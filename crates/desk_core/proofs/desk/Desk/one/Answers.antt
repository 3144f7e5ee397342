use Rattle.std.proofs.Common.{◌≡◌, ◌∙◌, ◌++◌, ◌∷◌, Bool, true, IsTrue, arith, ap, refl, subst, sym, Ok, Err}
use Rattle.ask_text.specs.declared.ends.End.{End}
use Rattle.ask_text.specs.declared.ends.End.TheVariants as ends
use Rattle.ask_text.specs.declared.ends.Turn.{Turn}
use Rattle.ask_session.specs.Outside.{outside}
use Rattle.desk_model.specs.Events as event
use Rattle.desk_core.specs.declared.event.EventLine.{EventLine}
use Rattle.desk_core.specs.declared.event.EventLine.TheVariants as line
use Rattle.desk_core.specs.Benches.{Bench, unread}
use Rattle.desk_core.specs.Hearing.{IsHeard, talk}
use Rattle.desk_core.specs.Inside.{bench_of}
use Rattle.desk_core.specs.Lines.{IsEventLine, words_of}
use Rattle.desk_core.specs.Turns.{IsDeskTurn, counted_bench}
use Rattle.desk_core.proofs.EventLaws.{text_begins}
use Rattle.desk_core.proofs.OneLaws.{event_turn, finish_turn, say_turn, step_parts}
use Rattle.desk_core.proofs.desk.Desk.one.Goals as goal

pub returns-in-Ok-Say-clause-turn : goal.returns-in-Ok-Say-clause-turn
returns-in-Ok-Say-clause-turn g c =
    let before = outside (g.D.Disk.state c.args.disk.now) (g.I.Source.state c.args.input.now)
    (g.O.Sink.state c.args.output.now) in
    let now = outside (g.D.Disk.state c.args.disk.now) (g.I.Source.state c.hear-done.new.input)
    (g.O.Sink.state c.hear-done.new.output) in
    let old : Bench = bench_of c.self.inside in
    let b : Bench = record old { ahead = c.hear-done.new.ahead; queued = c.hear-done.new.queues } in
    let mid = c.read_event.new.ahead ++ (g.I.Source.state c.read_event.new.input).left in
    let same : c.in-Ok-Say.field-0 ≡ line.Say c.in-Ok-Say.session = grind arith in
    let low : IsEventLine (line.Say c.in-Ok-Say.session) = subst IsEventLine same c.in-Ok-Say.ensures.event in
    subst (λ (o : Bench). IsDeskTurn g.row.C o c.count.new.self before now
    c.count.result) c.self.view_is
    (subst (λ (n : Bench). IsDeskTurn g.row.C old n before now c.count.result) (sym c.count.ensures.counts)
    (subst (λ (t : Turn). IsDeskTurn g.row.C old (counted_bench b c.hear-done.result) before now t)
    (sym c.count.ensures.turn)
    (say_turn g.row.C old b before now c.in-Ok-Say.session low mid
    (λ told. c.in-Ok-Say.ensures.line told ∙ ap (λ (e : EventLine). words_of e ++ 10 ∷ mid) same)
    refl refl refl c.hear-done.result
    (subst (λ (t : Bool). IsHeard (IsTrue t) c.in-Ok-Say.session old.queued b.queued
    (talk mid before.sink) (talk (unread b now.source) now.sink) c.hear-done.result) c.in-Ok-Say.ensures.told
    c.hear-done.ensures.heard))))

pub returns-in-Ok-Serve-clause-turn : goal.returns-in-Ok-Serve-clause-turn
returns-in-Ok-Serve-clause-turn g c =
    let before = outside (g.D.Disk.state c.args.disk.now) (g.I.Source.state c.args.input.now)
    (g.O.Sink.state c.args.output.now) in
    let now = outside (g.D.Disk.state c.serve_first-done.new.disk) (g.I.Source.state c.read_event.new.input)
    (g.O.Sink.state c.serve_first-done.new.output) in
    let old : Bench = bench_of c.self.inside in
    let b : Bench = record old {
      store = c.serve_first-done.new.served.store;
      ahead = c.read_event.new.ahead;
      queued = c.serve_first-done.new.queues;
      flush_of = c.serve_first-done.new.served.session;
    } in
    let same : c.in-Ok-Serve.field-0 ≡ line.Serve c.in-Ok-Serve.session = grind arith in
    let low : IsEventLine (line.Serve c.in-Ok-Serve.session) = subst IsEventLine same
    c.in-Ok-Serve.ensures.event in
    subst (λ (o : Bench). IsDeskTurn g.row.C o c.count-in-Ok-Serve.new.self before now
    c.count-in-Ok-Serve.result) c.self.view_is
    (subst (λ (n : Bench). IsDeskTurn g.row.C old n before now c.count-in-Ok-Serve.result)
    (sym c.count-in-Ok-Serve.ensures.counts)
    (subst (λ (t : Turn). IsDeskTurn g.row.C old (counted_bench b c.serve_first-done.result) before now t)
    (sym c.count-in-Ok-Serve.ensures.turn)
    (event_turn g.row.C old b before now (event.serve c.in-Ok-Serve.session) low
    (λ told. c.in-Ok-Serve.ensures.line told
    ∙ ap (λ (e : EventLine). words_of e ++ 10 ∷ unread b now.source) same
    ∙ sym (text_begins (event.serve c.in-Ok-Serve.session) (unread b now.source)))
    c.serve_first-done.ensures.calls c.serve_first-done.result c.serve_first-done.ensures.goes.only
    (λ told d shown. c.serve_first-done.ensures.plays told d shown.queues shown.store)
    (λ told d shown. c.serve_first-done.ensures.images told d shown.queues shown.store))))

pub returns-in-Ok-Step-clause-turn : goal.returns-in-Ok-Step-clause-turn
returns-in-Ok-Step-clause-turn g c =
    let before = outside (g.D.Disk.state c.args.disk.now) (g.I.Source.state c.args.input.now)
    (g.O.Sink.state c.args.output.now) in
    let now = outside (g.D.Disk.state c.step_once-done.new.disk) (g.I.Source.state c.read_event.new.input)
    (g.O.Sink.state c.step_once-done.new.output) in
    let old : Bench = bench_of c.self.inside in
    let b : Bench = record old {
      store = c.step_once-done.new.served.store;
      ahead = c.read_event.new.ahead;
      flush_of = c.step_once-done.new.served.session;
    } in
    let same : c.in-Ok-Step.field-0 ≡ line.Step = grind arith in
    subst (λ (o : Bench). IsDeskTurn g.row.C o c.count-in-Ok-Step.new.self before now
    c.count-in-Ok-Step.result) c.self.view_is
    (subst (λ (n : Bench). IsDeskTurn g.row.C old n before now c.count-in-Ok-Step.result)
    (sym c.count-in-Ok-Step.ensures.counts)
    (subst (λ (t : Turn). IsDeskTurn g.row.C old (counted_bench b c.step_once-done.result) before now t)
    (sym c.count-in-Ok-Step.ensures.turn)
    (event_turn g.row.C old b before now event.step tt
    (λ told. c.in-Ok-Step.ensures.line told
    ∙ ap (λ (e : EventLine). words_of e ++ 10 ∷ unread b now.source) same
    ∙ sym (text_begins event.step (unread b now.source)))
    c.step_once-done.ensures.calls c.step_once-done.result c.step_once-done.ensures.goes.only
    (λ told d shown. step_parts d old.queued b.store b.flush_of now.disk.file before.sink now.sink
    c.step_once-done.result shown.queues (c.step_once-done.ensures.plays told d shown.store))
    (λ told d shown. c.step_once-done.ensures.images told d shown.store))))

pub returns-in-Ok-clause-turn : goal.returns-in-Ok-clause-turn
returns-in-Ok-clause-turn g c =
    let before = outside (g.D.Disk.state c.args.disk.now) (g.I.Source.state c.args.input.now)
    (g.O.Sink.state c.args.output.now) in
    let now = outside (g.D.Disk.state c.finish.new.disk) (g.I.Source.state c.read_event.new.input)
    (g.O.Sink.state c.finish.new.output) in
    let old : Bench = bench_of c.self.inside in
    let b : Bench = record old {
      store = c.finish.new.served.store;
      ahead = c.read_event.new.ahead;
      flush_of = c.finish.new.served.session;
    } in
    let same : c.in-Err-End.field-0 ≡ ends.End = grind arith in
    subst (λ (o : Bench). IsDeskTurn g.row.C o c.end.new.self before now
    c.end.result) c.self.view_is
    (subst (λ (n : Bench). IsDeskTurn g.row.C old n before now c.end.result) (sym c.end.ensures.flag)
    (subst (λ (t : Turn). IsDeskTurn g.row.C old (record b { ended = true }) before now t)
    (sym c.end.ensures.turn)
    (finish_turn g.row.C old b before now
    (λ told. c.in-Err-End.ensures.end told (ap (λ (e : End). Err e) same)) c.waiting-waiting.result
    (λ d holds. c.waiting-waiting.ensures.value ∙ holds.counted) refl (Ok c.in-Ok.field-0)
    c.in-Ok.ensures.goes.only
    c.in-Ok.ensures.plays c.in-Ok.ensures.images)))

pub returns-in-Err-finish-clause-turn : goal.returns-in-Err-finish-clause-turn
returns-in-Err-finish-clause-turn g c =
    let before = outside (g.D.Disk.state c.args.disk.now) (g.I.Source.state c.args.input.now)
    (g.O.Sink.state c.args.output.now) in
    let now = outside (g.D.Disk.state c.finish.new.disk) (g.I.Source.state c.read_event.new.input)
    (g.O.Sink.state c.finish.new.output) in
    let old : Bench = bench_of c.self.inside in
    let b : Bench = record old {
      store = c.finish.new.served.store;
      ahead = c.read_event.new.ahead;
      flush_of = c.finish.new.served.session;
    } in
    let same : c.in-Err-End.field-0 ≡ ends.End = grind arith in
    subst (λ (o : Bench). IsDeskTurn g.row.C o c.end-in-Err-finish.new.self before now
    c.end-in-Err-finish.result) c.self.view_is
    (subst (λ (n : Bench). IsDeskTurn g.row.C old n before now c.end-in-Err-finish.result)
    (sym c.end-in-Err-finish.ensures.flag)
    (subst (λ (t : Turn). IsDeskTurn g.row.C old (record b { ended = true }) before now t)
    (sym c.end-in-Err-finish.ensures.turn)
    (finish_turn g.row.C old b before now
    (λ told. c.in-Err-End.ensures.end told (ap (λ (e : End). Err e) same)) c.waiting-waiting.result
    (λ d holds. c.waiting-waiting.ensures.value ∙ holds.counted) refl (Err c.in-Err-finish.end)
    c.in-Err-finish.ensures.goes.only
    c.in-Err-finish.ensures.plays c.in-Err-finish.ensures.images)))
