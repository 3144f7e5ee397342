use Rattle.std.proofs.Common.{◌∙◌, sym, subst, IsTrue}
use Rattle.slot_codec.specs.Reading.{all_in_range}
use Rattle.reopen.proofs.TakeLaws.{cell_low, in_range-cell}
use Rattle.reopen.proofs.items.take_cell.Goals as goal

pub returns-clause-ranges : goal.returns-clause-ranges
returns-clause-ranges c = λ ranges.
    let number = c.in_ok-number.number in
    let value = c.in_ok-number.value in
    let low = cell_low c.args.next.now c.args.item.now (number, value)
    (sym c.read_cell.ensures.value ∙ c.in_ok-number.was) in
    subst (λ h. IsTrue (all_in_range h)) (sym c.set_cell.ensures)
    (in_range-cell c.args.header.now number value low ranges)
