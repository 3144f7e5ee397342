use Rattle.std.proofs.Common.{arith}
use Rattle.std.proofs.KnownBytes.{Appends-kept}
use Rattle.disk_file.proofs.Steps.{Appends-more, length-rest_of}
use Rattle.disk_file.proofs.passes.put_all.Goals as goal
use Rattle.disk_file.proofs.passes.put_all.Goals.{in-Ok, in-Err}

pub calls-preserved : goal.calls-preserved
calls-preserved g c =
    let was = c.calls.invariant in
    elim c.match-write.branch [
      | in-Ok w ↦ rw w.done-is (
        omega (
          arith,
          was.0,
          w.in-Ok.ensures.bound,
          length-rest_of c.args.bytes.now c.calls.done,
        ),
        Appends-more _ _ _ c.args.bytes.now c.calls.done w.in-Ok.n was.1 w.in-Ok.ensures.bytes,
      )
      | in-Err w ↦ rw w.done-is (was.0, Appends-kept _ _ _ _ was.1 w.in-Err.ensures.bytes)
    ]
