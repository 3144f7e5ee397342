use Rattle.std.proofs.Common.{◌∙◌, ap, arith, length}
use Rattle.byte_ranges.specs.Ranges.{bytes_at}
use Rattle.lent_disk.specs.Rooms.{Filing}
use Rattle.lent_disk.proofs.RoomLaws.{ends_at, read_seen}
use Rattle.lent_disk.proofs.room.Room.get.Goals as goal

pub returns : goal.returns
returns c =
    let s = c.self.inside in let is = c.self.invariant in
    let at = c.args.at in let n = length c.args.out.now in
    let end = ends_at s.lower s.upper s.end s.bytes.now is c.self.view_is in
    read_seen s.lower s.upper s.end s.bytes.now is at n (omega (arith, c.requires, end)) c.get.ensures
    c.blank.ensures c.blank-2.ensures
    ∙ ap (λ (v : Filing). bytes_at v.file at n) c.self.view_is
