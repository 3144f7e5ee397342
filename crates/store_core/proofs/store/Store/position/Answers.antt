use Rattle.std.proofs.Common.{lit<}
use Rattle.store_model.specs.Readings.{asks_for}
use Rattle.store_model.proofs.ReadLaws.{found_in_range}
use Rattle.store_model.proofs.ReadingLaws.{is_found}
use Rattle.store_core.proofs.store.Store.position.Goals as goal

pub position_at-requires : goal.position_at-requires
position_at-requires g c =
    let s = c.args.self.now in
    let f = is_found s (asks_for c.args.moment c.args.name.now) c.in_ok-spot.spot c.in_ok-spot.ensures.answer
    c.in_ok-spot.ensures.standing in
    (lit< tt, (f.stands, found_in_range s f.stands c.args.moment c.args.name.now c.in_ok-spot.spot f.there))
