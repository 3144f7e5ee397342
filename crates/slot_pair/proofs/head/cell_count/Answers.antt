use Rattle.std.proofs.Common.{◌∙◌, ◌≡◌, ap, arith, sym}
use Rattle.slot_pair.proofs.HeadLaws.{all_cells_until, cells_until, no_cell_until, some_cell, zero_cell}
use Rattle.slot_pair.proofs.head.cell_count.Goals as goal
use Rattle.slot_pair.proofs.head.cell_count.Goals.{else-cell-ne0, then-cell-ne0}

pub cells-init : goal.cells-init
cells-init c = (omega (arith, no_cell_until c.args.header.now), omega arith)

pub cells-preserved : goal.cells-preserved
cells-preserved c =
    let h = c.args.header.now in
    let so_far = c.cells.invariant in
    elim c.if-cell-ne0.branch [
      | then-cell-ne0 w ↦
          let more = some_cell h c.cells.number c.cells-test.true
          (λ zero. w.if-cell-ne0.true (c.cell.ensures ∙ zero)) in
          (omega (arith, w.count-is, so_far.0, more), omega (arith, w.count-is, so_far.1))
      | else-cell-ne0 w ↦
          let same = zero_cell h c.cells.number c.cells-test.true
          (sym c.cell.ensures ∙ w.if-cell-ne0.false) in
          (omega (arith, w.count-is, so_far.0, same), omega (arith, w.count-is, so_far.1))
    ]

pub returns-clause-count : goal.returns-clause-count
returns-clause-count c =
    let all : c.cells.number ≡ 1056 = omega (arith, c.cells.auto.number-end) in
    c.cells.invariant.0 ∙ ap (cells_until c.args.header.now) all ∙ all_cells_until c.args.header.now
