use Rattle.std.proofs.Common.{arith, ap, ◌∙◌, ◌≡◌, ◌≤◌, ◌+◌}
use Rattle.std.specs.Prelude.{slice_index}
use Rattle.segment_layout.specs.Shapes.{buffer_of}
use Rattle.table_rules.specs.Tables.{live, table_boundary}
use Rattle.table_check.specs.Placed.{placed}
use Rattle.segment_layout.proofs.StepLaws.{from_next}
use Rattle.table_check.proofs.room.new_end.Goals as goal

pub classes-preserved : goal.classes-preserved
classes-preserved c =
    let t = placed c.args.table.now c.args.frame.now in
    let d = c.classes.c in
    let from : table_boundary t ≤ d = omega (arith, c.boundary-c.ensures, c.classes.auto) in
    let here : slice_index c.volumes_of-volumes.result d ≡ live t d =
    c.volumes_of-volumes.ensures d c.classes-test.true in
    let first : c.from.result ≡ live t d = c.from.ensures ∙ here in
    let second : c.from-in-classes.result ≡ buffer_of t.k (live t d) =
    c.from-in-classes.ensures ∙ ap (buffer_of t.k) here in
    record {
      so_far = omega (
        arith,
        c.classes.invariant.so_far,
        first,
        second,
        from_next (λ x. live t x + buffer_of t.k (live t x)) (table_boundary t) d from,
      );
      small = omega arith;
    }
