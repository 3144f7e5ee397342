use Rattle.std.proofs.Common.{◌∙◌, ap, arith, take}
use Rattle.byte_ranges.specs.Ranges.{resized}
use Rattle.lent_disk.specs.Gaps.{seen}
use Rattle.lent_disk.specs.Rooms.{Filing}
use Rattle.lent_disk.proofs.RoomLaws.{cut_seen, ends_at}
use Rattle.lent_disk.proofs.room.Room.cut.Goals as goal

pub returns-clause-file : goal.returns-clause-file
returns-clause-file c =
    let s = c.self.inside in let n = c.args.n in let is = c.self.invariant in
    let end = ends_at s.lower s.upper s.end s.bytes.now is c.self.view_is in
    (λ i. seen (c.before-self-inside.ensures i) (c.before-self-inside-2.ensures i) (take n s.bytes.now))
    ∙ cut_seen s.lower s.upper s.end s.bytes.now is n (omega (arith, c.requires, end))
    ∙ ap (λ (v : Filing). resized v.file n) c.self.view_is
