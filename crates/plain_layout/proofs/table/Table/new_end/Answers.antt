use Rattle.std.proofs.Common.{arith, ℕ, ◌≡◌, ◌+◌, ◌/◌, ◌≤◌, ◌<◌}
use Rattle.segment_layout.specs.Shapes.{buffer_of}
use Rattle.table_rules.specs.Tables.{table_boundary, live}
use Rattle.plain_layout.specs.Plain.{placed}
use Rattle.segment_layout.proofs.StepLaws.{from_next}
use Rattle.plain_layout.proofs.SumSteps.{from_below}
use Rattle.plain_layout.proofs.table.Table.new_end.Goals as goal
use Rattle.plain_layout.proofs.table.Table.new_end.Goals.{then-table_boundary-c, else-table_boundary-c}

pub classes-preserved : goal.classes-preserved
classes-preserved c =
    let t = placed c.args.self.now in
    let f : ℕ → ℕ = λ d. live t d + buffer_of t.k (live t d) in
    elim c.if-table_boundary-c.branch [
      | then-table_boundary-c w ↦
          let above : table_boundary t ≤ c.classes.c =
          omega (arith, w.if-table_boundary-c.true, c.table_boundary-in-classes.ensures) in
          let buffer : w.live-live.result / w.from.result
          ≡ buffer_of t.k (live t c.classes.c) = cc (w.live-live.ensures.sum, w.from.ensures) in
          omega (
            arith,
            from_next f (table_boundary t) c.classes.c above,
            buffer,
            w.end-is,
            w.live-live.ensures.sum,
            w.saturating_add.ensures,
            w.saturating_add-end.ensures,
            c.classes.invariant,
          )
      | else-table_boundary-c w ↦
          let below : c.classes.c < table_boundary t =
          omega (arith, w.if-table_boundary-c.false, c.table_boundary-in-classes.ensures) in
          omega (arith, from_below f (table_boundary t) c.classes.c below, w.end-is, c.classes.invariant)
    ]
