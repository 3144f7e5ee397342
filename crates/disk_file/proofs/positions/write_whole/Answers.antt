use Rattle.std.proofs.Common.{◌≡◌, ◌+◌, IsTrue, rules, arith, subst, sym, ◌∙◌}
use Rattle.disk_file.proofs.Frames.{part-rest, steady_still}
use Rattle.disk_file.proofs.Steps.{written_more, length-rest_of, rest_fits}
use Rattle.disk_file.proofs.positions.write_whole.Goals as goal
use Rattle.disk_file.proofs.positions.write_whole.Goals.{in-Ok, in-Err}

pub calls-preserved : goal.calls-preserved
calls-preserved g c =
    let was = c.calls.invariant in
    let at : c.in-Some.at ≡ c.args.pos + c.calls.written = search rules in
    let rest = length-rest_of c.args.bytes.now c.calls.written in
    let part = part-rest c.args.pos c.in-Some.at c.calls.written c.args.bytes.now at was.within was.part
    c.write_some.ensures.frame in
    elim c.match-write_some.branch [
      | in-Ok w ↦ rw w.written-is (record {
        within = omega (arith, was.within, w.in-Ok.ensures.bound, rest);
        marks = c.write_some.ensures.marks ∙ was.marks;
        part = part;
        bytes = λ told inside. written_more _ _ _ c.args.bytes.now c.args.pos c.in-Some.at c.calls.written
            w.in-Ok.n at was.within w.in-Ok.ensures.bound inside (was.bytes told inside)
            (w.in-Ok.ensures.written (subst IsTrue (sym was.part.stays.told) told));
        serves = λ steady told inside. omega (
          arith,
          was.serves steady told inside,
          w.in-Ok.ensures.serves (steady_still was.marks steady)
              (rest_fits _ _ c.args.bytes.now c.args.pos c.in-Some.at c.calls.written at was.within inside
              (was.bytes told inside)) (omega (arith, rest, c.if-written-bytes.false)),
        );
      })
      | in-Err w ↦ rw w.written-is (record {
        within = was.within;
        marks = c.write_some.ensures.marks ∙ was.marks;
        part = part;
        bytes = λ told inside. w.in-Err.ensures.stopped (subst IsTrue (sym was.part.stays.told) told)
            (search rules) ∙ was.bytes told inside;
        serves = λ steady told inside. absurd (w.in-Err.ensures.serves (steady_still was.marks steady)
            (rest_fits _ _ c.args.bytes.now c.args.pos c.in-Some.at c.calls.written at was.within inside
            (was.bytes told inside)) (omega (arith, rest, c.if-written-bytes.false)));
      })
    ]

pub returns-in-Ok-eq0-clause-frame : goal.returns-in-Ok-eq0-clause-frame
returns-in-Ok-eq0-clause-frame g c = part-rest c.args.pos c.in-Some.at c.calls.written c.args.bytes.now
    (search rules)
    c.calls.invariant.within c.calls.invariant.part c.write_some.ensures.frame

pub returns-in-Err-2-clause-frame : goal.returns-in-Err-2-clause-frame
returns-in-Err-2-clause-frame g c = part-rest c.args.pos c.in-Some.at c.calls.written c.args.bytes.now
    (search rules)
    c.calls.invariant.within c.calls.invariant.part c.write_some.ensures.frame
