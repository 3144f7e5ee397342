use Rattle.std.proofs.Common.{arith, ap, ◌≡◌, ℕ}
use Rattle.std.specs.Prelude.{sum}
use Rattle.size_class.specs.Classes.{row}
use Rattle.plain_layout.proofs.SumSteps.{cell_le_sum}
use Rattle.plain_layout.proofs.book.Book.charge.Goals as goal

pub overflow_add-row : goal.overflow_add-row
overflow_add-row c =
    let used = c.args.self.now.used in
    let same : c.from.result ≡ c.in-Some.j = omega (arith, c.from.ensures) in
    omega (
      arith,
      cell_le_sum (row used c.from.result) c.from-in-Some.result,
      ap (λ (j : ℕ). sum (row used j)) same,
      c.in-Some.ensures.small,
    )
