use Rattle.std.proofs.Common.{◌*◌, ℕ, ap, arith, length}
use Rattle.std.proofs.Math.Nat.{mul-le-mul_left}
use Rattle.slot_pair.proofs.body.put_records.Goals as goal

pub overflow_add-pieces : goal.overflow_add-pieces
overflow_add-pieces g c =
    let count : ℕ = length (g.R.Roll.records c.args.roll.now) in
    let inside = mul-le-mul_left count c.record_len-len.ensures.low in
    let same = ap (λ (k : ℕ). k * count) c.record_len-len.ensures.value in
    omega (arith, inside, same, c.requires.fits, c.count.ensures)
