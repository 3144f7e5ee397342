use Rattle.std.proofs.Common.{◌∙◌, List, arith, refl, sym, inl}
use Rattle.map_model.specs.Requests.{Request}
use Rattle.desk_queues.specs.Queues.{Holds, requests_at}
use Rattle.store_model.specs.Connection.{limits_of}
use Rattle.desk_model.specs.Desks.{ServesFirst, queue_of}
use Rattle.desk_core.proofs.ImageLaws.{step_same}
use Rattle.desk_core.proofs.ServeLaws.{either_low, empty_serves, is_none, not_none, take_free, take_goes, take_of, take_room, take_images, take_serves, wait_serves, take_calls}
use Rattle.desk_core.proofs.serving.serve_first.Goals as goal

pub returns-then-is_empty-clause-plays : goal.returns-then-is_empty-clause-plays
returns-then-is_empty-clause-plays g c =
    let q0 = c.args.queues.now in
    let s = c.args.served.now.store in
    let n = c.args.served.now.session in
    let a = g.D.Disk.state c.args.disk.now in
    let out = g.O.Sink.state c.args.output.now in
    empty_serves c.args.session q0 q0 s s n n a a out (g.O.Sink.state c.put_for.new.output) c.put_for.result
    (λ qs holds. is_none c.is_empty.result (requests_at qs c.args.session)
    (c.is_empty.ensures.requests qs holds) c.if-is_empty.true) refl refl refl refl c.put_for.ensures

pub returns-then-must_wait-clause-plays : goal.returns-then-must_wait-clause-plays
returns-then-must_wait-clause-plays g c =
    let q0 = c.args.queues.now in
    let s = c.args.served.now.store in
    let n = c.args.served.now.session in
    let a = g.D.Disk.state c.args.disk.now in
    let out = g.O.Sink.state c.args.output.now in
    let some = λ (qs : List (List Request)) (holds : Holds q0 qs). not_none c.is_empty.result
    (requests_at qs c.args.session) (c.is_empty.ensures.requests qs holds) c.if-is_empty.false in
    wait_serves c.args.session q0 q0 s s n n a a out (g.O.Sink.state c.put_for-then-must_wait.new.output)
    c.put_for-then-must_wait.result some c.is_read.result c.is_read.ensures
    (sym c.must_wait.ensures ∙ c.if-must_wait.true) refl refl refl refl c.put_for-then-must_wait.ensures

pub take-requires : goal.take-requires
take-requires g c =
    let q0 = c.args.queues.now in
    let s = c.args.served.now.store in
    let n = c.args.served.now.session in
    let a = g.D.Disk.state c.args.disk.now in
    let out = g.O.Sink.state c.args.output.now in
    let some = λ (qs : List (List Request)) (holds : Holds q0 qs). not_none c.is_empty.result
    (requests_at qs c.args.session) (c.is_empty.ensures.requests qs holds) c.if-is_empty.false in (
      omega arith,
      (
        c.requires.ready,
        (
          c.requires.over,
          (
            c.requires.whole,
            (
              c.requires.session,
              (
                take_room c.args.session c.requires.session q0 s n some c.is_read.result c.is_read.ensures
                    c.take-ask.result c.take-ask.ensures.ask c.waiting.ensures.held.0
                    c.waiting.ensures.held.1 _ (omega arith),
                take_free c.args.session c.requires.session q0 s n some c.is_read.result c.is_read.ensures
                    c.take-ask.result c.take-ask.ensures.ask c.waiting.ensures.held.0
                    c.waiting.ensures.held.1 a (sym c.must_wait.ensures ∙ c.if-must_wait.false)
                    c.requires.over,
              ),
            ),
          ),
        ),
      ),
    )

pub returns-clause-plays : goal.returns-clause-plays
returns-clause-plays g c =
    let q0 = c.args.queues.now in
    let s = c.args.served.now.store in
    let n = c.args.served.now.session in
    let a = g.D.Disk.state c.args.disk.now in
    let out = g.O.Sink.state c.args.output.now in
    let some = λ (qs : List (List Request)) (holds : Holds q0 qs). not_none c.is_empty.result
    (requests_at qs c.args.session) (c.is_empty.ensures.requests qs holds) c.if-is_empty.false in
    take_serves c.args.session q0 c.take-ask.new.self s c.take.new.served.store n
    c.take.new.served.session a (g.D.Disk.state c.take.new.disk) out (g.O.Sink.state c.take.new.output)
    c.take.result some c.is_read.result c.is_read.ensures c.take-ask.result c.take-ask.new.body
    c.take-ask.ensures.ask c.take-ask.ensures.object c.take.ensures
    (sym c.must_wait.ensures ∙ c.if-must_wait.false) c.take-ask.ensures.left

pub returns-clause-goes : goal.returns-clause-goes
returns-clause-goes g c =
    let q0 = c.args.queues.now in
    let s = c.args.served.now.store in
    let n = c.args.served.now.session in
    let a = g.D.Disk.state c.args.disk.now in
    let out = g.O.Sink.state c.args.output.now in
    let some = λ (qs : List (List Request)) (holds : Holds q0 qs). not_none c.is_empty.result
    (requests_at qs c.args.session) (c.is_empty.ensures.requests qs holds) c.if-is_empty.false in
    take_goes c.args.session q0 c.take-ask.new.self s c.take.new.served.store n
    c.take.new.served.session a (g.D.Disk.state c.take.new.disk) out (g.O.Sink.state c.take.new.output)
    c.take.result some c.is_read.result c.is_read.ensures c.take-ask.result c.take-ask.new.body
    c.take-ask.ensures.ask c.take-ask.ensures.object c.take.ensures c.waiting.ensures.held.0
    c.waiting.ensures.held.1

pub returns-clause-calls : goal.returns-clause-calls
returns-clause-calls g c =
    let q0 = c.args.queues.now in
    let s = c.args.served.now.store in
    let n = c.args.served.now.session in
    let a = g.D.Disk.state c.args.disk.now in
    let out = g.O.Sink.state c.args.output.now in
    let some = λ (qs : List (List Request)) (holds : Holds q0 qs). not_none c.is_empty.result
    (requests_at qs c.args.session) (c.is_empty.ensures.requests qs holds) c.if-is_empty.false in
    take_calls c.args.session q0 c.take-ask.new.self s c.take.new.served.store n
    c.take.new.served.session a (g.D.Disk.state c.take.new.disk) out (g.O.Sink.state c.take.new.output)
    c.take.result some c.is_read.result c.is_read.ensures c.take-ask.result c.take-ask.new.body
    c.take-ask.ensures.ask c.take-ask.ensures.object c.take.ensures c.waiting.ensures.held.0
    c.waiting.ensures.held.1

pub returns-clause-of : goal.returns-clause-of
returns-clause-of g c =
    let q0 = c.args.queues.now in
    let s = c.args.served.now.store in
    let n = c.args.served.now.session in
    let a = g.D.Disk.state c.args.disk.now in
    let out = g.O.Sink.state c.args.output.now in
    let some = λ (qs : List (List Request)) (holds : Holds q0 qs). not_none c.is_empty.result
    (requests_at qs c.args.session) (c.is_empty.ensures.requests qs holds) c.if-is_empty.false in
    either_low c.take.new.served.session n c.args.session
    (take_of c.args.session q0 c.take-ask.new.self s c.take.new.served.store n
    c.take.new.served.session a (g.D.Disk.state c.take.new.disk) out (g.O.Sink.state c.take.new.output)
    c.take.result some c.is_read.result c.is_read.ensures c.take-ask.result c.take-ask.new.body
    c.take-ask.ensures.ask c.take-ask.ensures.object c.take.ensures c.waiting.ensures.held.0
    c.waiting.ensures.held.1) c.requires.of c.requires.session

pub returns-then-is_empty-clause-calls : goal.returns-then-is_empty-clause-calls
returns-then-is_empty-clause-calls g c = inl (omega arith)

pub returns-then-must_wait-clause-calls : goal.returns-then-must_wait-clause-calls
returns-then-must_wait-clause-calls g c = inl (omega arith)

pub returns-then-is_empty-clause-images : goal.returns-then-is_empty-clause-images
returns-then-is_empty-clause-images g c told desk holds shown =
    let s = c.args.served.now.store in
    let a = g.D.Disk.state c.args.disk.now in
    step_same (ServesFirst (queue_of desk c.args.session) (limits_of s) c.args.session desk) s s
    c.args.served.now.session a a desk c.put_for.result shown refl refl

pub returns-then-must_wait-clause-images : goal.returns-then-must_wait-clause-images
returns-then-must_wait-clause-images g c told desk holds shown =
    let s = c.args.served.now.store in
    let a = g.D.Disk.state c.args.disk.now in
    step_same (ServesFirst (queue_of desk c.args.session) (limits_of s) c.args.session desk) s s
    c.args.served.now.session a a desk c.put_for-then-must_wait.result shown refl refl

pub returns-clause-images : goal.returns-clause-images
returns-clause-images g c =
    let q0 = c.args.queues.now in
    let s = c.args.served.now.store in
    let n = c.args.served.now.session in
    let a = g.D.Disk.state c.args.disk.now in
    let out = g.O.Sink.state c.args.output.now in
    let some = λ (qs : List (List Request)) (holds : Holds q0 qs). not_none c.is_empty.result
    (requests_at qs c.args.session) (c.is_empty.ensures.requests qs holds) c.if-is_empty.false in
    take_images c.args.session q0 c.take-ask.new.self s c.take.new.served.store n
    c.take.new.served.session a (g.D.Disk.state c.take.new.disk) out (g.O.Sink.state c.take.new.output)
    c.take.result some c.is_read.result c.is_read.ensures c.take-ask.result c.take-ask.new.body
    c.take-ask.ensures.ask c.take-ask.ensures.object c.take.ensures
    (sym c.must_wait.ensures ∙ c.if-must_wait.false)
