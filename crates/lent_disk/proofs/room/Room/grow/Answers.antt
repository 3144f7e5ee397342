use Rattle.std.proofs.Common.{◌≡◌, ◌∙◌, ap, arith, length, take, drop}
use Rattle.std.proofs.lemmas.List.{length-take-le, take-take, take_at}
use Rattle.byte_ranges.specs.Ranges.{resized}
use Rattle.lent_disk.specs.Gaps.{seen}
use Rattle.lent_disk.specs.Rooms.{Filing}
use Rattle.lent_disk.proofs.RoomLaws.{ends_at}
use Rattle.lent_disk.proofs.room.Room.grow.Goals as goal

pub returns-clause-file : goal.returns-clause-file
returns-clause-file c =
    let s = c.self.inside in let n = c.args.n in let grown = c.extend in
    let end = ends_at s.lower s.upper s.end s.bytes.now c.self.invariant c.self.view_is in
    let most = ap (λ (v : Filing). v.most) c.self.view_is in
    let long : length (take n s.bytes.now) ≡ n =
    length-take-le n s.bytes.now (omega (arith, c.requires.fits, most)) in
    ap (seen grown.result.0 grown.result.1) (take_at grown.new.file (drop n s.bytes.now) n
    (grown.ensures.same_length ∙ long))
    ∙ grown.ensures.seen
    ∙ (λ i. resized (seen s.lower s.upper (take-take s.end n s.bytes.now
    (omega (arith, c.requires.longer, end)) i)) (long i))
    ∙ ap (λ (v : Filing). resized v.file n) c.self.view_is
