use Rattle.std.proofs.Common.{arith}
use Rattle.store_model.proofs.BytesLeftLaws.{going_small}
use Rattle.store_core.proofs.LentLaws.{steps_from}
use Rattle.store_core.proofs.store.Store.bytes_left.Goals as goal

pub overflow_mul-most : goal.overflow_mul-most
overflow_mul-most g c =
    let x = steps_from c.self.inside c.args.self.now _ _ c.in-Some.is c.self.view_is c.self.invariant
    c.deref-hands.ensures in
    let small = going_small _ _ _ x.going in
    omega (arith, small, c.volume-most.ensures)
