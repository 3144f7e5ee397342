use Rattle.std.proofs.Common.{arith, rules, subst, ◌≡◌, ◌∙◌, ◌++◌, [], Some, Err, List, ℕ, take}
use Rattle.std.proofs.lemmas.Grind.{common_steps}
use Rattle.std.specs.Prelude.{codes}
use Rattle.placement_model.specs.Reads.{object_at}
use Rattle.segment_layout.specs.Books.{differs}
use Rattle.dump_stream.specs.Dumping.{GathersIfSound}
use Rattle.dump_stream.proofs.GatherLaws.{behind, large_cut}
use Rattle.dump_stream.proofs.PutLaws.{text_is}
use Rattle.dump_stream.proofs.gathering.gather_object.Goals as goal

pub returns-then-long-buf-clause-gathers : goal.returns-then-long-buf-clause-gathers
returns-then-long-buf-clause-gathers g c = λ told.
    let file = (g.D.Disk.state c.args.disk.now).file in
    let object = object_at c.args.base file c.args.spot in
    let before = g.O.Sink.state c.args.output.now in
    let mid = g.O.Sink.state c.make_room.new.output in
    let now = g.O.Sink.state c.gather_small.new.output in
    let buf = c.args.buf.now in
    let left = take c.in_ok-held.held buf in
    let spoilt = differs c.args.digest (Some object) in
    subst (λ (text : List ℕ). GathersIfSound spoilt (take c.args.held buf) text before now
    c.gather_small.new.buf c.gather_small.result)
    (text_is c.args.base file c.args.name.now c.as_slice-line.result.now c.args.spot (c.requires.within told)
    (c.as_slice-line.ensures.value ∙ c.put_line-line.ensures))
    (behind spoilt (take c.args.held buf) left (c.as_slice-line.result.now ++ (object ++ codes "\n")) before
    mid now c.gather_small.new.buf c.make_room.ensures.cause.told
    (λ sink_told. c.in_ok-held.ensures.gathers sink_told) c.gather_small.result
    (c.gather_small.ensures.gathers told))

pub returns-in_err-put_large-clause-gathers : goal.returns-in_err-put_large-clause-gathers
returns-in_err-put_large-clause-gathers g c = λ told.
    let file = (g.D.Disk.state c.args.disk.now).file in
    let object = object_at c.args.base file c.args.spot in
    let before = g.O.Sink.state c.args.output.now in
    let mid = g.O.Sink.state c.make_room.new.output in
    let now = g.O.Sink.state c.put_large.new.output in
    let buf = c.args.buf.now in
    let left = take c.in_ok-held.held buf in
    let spoilt = differs c.args.digest (Some object) in
    let why = c.in_err-put_large.field-0.0 in
    let is : c.from_residual-in_err-put_large.result ≡ Err why = search rules in
    let none : c.in_ok-held.held ≡ 0 = c.in_ok-held.ensures.room (omega (arith, c.if-long-buf.false)) in
    rw is (subst (λ (text : List ℕ). GathersIfSound spoilt (take c.args.held buf) text before now
    c.put_large.new.buf (Err why))
    (text_is c.args.base file c.args.name.now c.as_slice-line.result.now c.args.spot (c.requires.within told)
    (c.as_slice-line.ensures.value ∙ c.put_line-line.ensures))
    (behind spoilt (take c.args.held buf) [] (c.as_slice-line.result.now ++ (object ++ codes "\n")) before
    mid now c.put_large.new.buf c.make_room.ensures.cause.told
    (λ sink_told. rw none at c.in_ok-held.ensures.gathers sink_told) (Err why)
    (large_cut c.args.digest object (c.as_slice-line.result.now ++ (object ++ codes "\n")) mid now
    c.put_large.new.buf why (c.in_err-put_large.ensures.puts told))))

pub returns-in_err-held : goal.returns-in_err-held
returns-in_err-held g c = grind (arith, common_steps)

pub returns-in_ok-put_large : goal.returns-in_ok-put_large
returns-in_ok-put_large g c = grind (arith, common_steps)
