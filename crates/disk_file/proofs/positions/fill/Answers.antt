use Rattle.std.proofs.Common.{◌≡◌, ◌+◌, length, rules, arith, le_refl, ◌∙◌}
use Rattle.std.proofs.lemmas.Slice.{take-put_mid_below}
use Rattle.disk_file.proofs.Steps.{filled_more, length-rest_of}
use Rattle.disk_file.proofs.positions.fill.Goals as goal
use Rattle.disk_file.proofs.positions.fill.Goals.{in-Ok, in-Err}

pub calls-preserved : goal.calls-preserved
calls-preserved g c =
    let was = c.calls.invariant in
    let at : c.in-Some.at ≡ c.args.pos + c.calls.filled = search rules in
    let len : length c.calls.out ≡ length c.args.out.now = search rules in
    let rest = length-rest_of c.calls.out c.calls.filled in
    elim c.match-read_some.branch [
      | in-Ok w ↦ rw w.filled-is (record {
        within = search rules;
        bytes = λ told. filled_more _ c.calls.out c.read_some.new.out c.args.pos c.in-Some.at c.calls.filled
            w.in-Ok.n at was.within w.in-Ok.ensures.bound.0 (was.bytes told) (w.in-Ok.ensures.bytes told);
        serves = λ steady fits. omega (
          arith,
          was.serves steady fits,
          w.in-Ok.ensures.serves steady
              (omega (arith, at, rest, len, fits)) (omega (arith, rest, c.if-filled-out.false)),
        );
      })
      | in-Err w ↦ rw w.filled-is (record {
        within = search rules;
        bytes = λ told. take-put_mid_below _ _ _ _ _ (le_refl _) was.within ∙ was.bytes told;
        serves = λ steady fits. absurd (w.in-Err.ensures.serves steady (omega (arith, at, rest, len, fits))
            (omega (arith, rest, c.if-filled-out.false)));
      })
    ]
