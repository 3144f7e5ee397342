use Rattle.std.proofs.Common.{arith, refl}
use Rattle.logged_pair.specs.Slots.{used_in}
use Rattle.flush_run.proofs.RunLaws.{run_finishes}
use Rattle.flush_run.proofs.whole.run.Goals as goal

pub go_on-requires : goal.go_on-requires
go_on-requires g c = (
  omega arith,
  (
    omega arith,
    (
      omega arith,
      (
        c.requires.ready,
        (
          c.requires.lent,
          (
            (c.requires.start.0, run_finishes {C = g.row.C} c.args.phase c.requires.start.1),
            c.requires.keeps,
          ),
        ),
      ),
    ),
  ),
)

pub returns : goal.returns
returns g c =
    let e = c.go_on.ensures in
    record {
      ends = λ f can. e.ends f (run_finishes {C = g.row.C} c.args.phase can);
      left = λ f can told. e.left f (run_finishes {C = g.row.C} c.args.phase can) told;
      saves = e.paid (used_in c.args.hands.now.slots).sequence refl;
      done = e.done;
      made = e.made;
      cause = e.cause;
    }
