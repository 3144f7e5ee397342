use Rattle.std.proofs.Common.{◌≡◌, ◌∙◌, ap, arith, rules, length, take, drop}
use Rattle.std.proofs.lemmas.List.{take_at}
use Rattle.byte_ranges.specs.Ranges.{overwritten}
use Rattle.lent_disk.specs.Gaps.{IsGapOf, seen}
use Rattle.lent_disk.specs.Rooms.{Filing}
use Rattle.lent_disk.proofs.RoomLaws.{ends_at, put_seen}
use Rattle.lent_disk.proofs.room.Room.put.Goals as goal

pub returns-clause-file : goal.returns-clause-file
returns-clause-file c =
    let s = c.self.inside in let at = c.args.at in let bytes = c.args.bytes.now in let p = c.part in
    let end = ends_at s.lower s.upper s.end s.bytes.now c.self.invariant c.self.view_is in
    let long : length c.put.new.file ≡ s.end = search rules in
    let same : length p.new.memory ≡ s.end = search rules in
    let in_lower : IsGapOf p.result.0 (length p.new.memory) = search rules in
    let in_upper : IsGapOf p.result.1 (length p.new.memory) = search rules in
    ap (seen p.result.0 p.result.1) (take_at c.put.new.file (drop s.end s.bytes.now) s.end long
    ∙ c.put.ensures)
    ∙ put_seen p.result.0 p.result.1 (seen s.lower s.upper (take s.end s.bytes.now)) p.new.memory at bytes
    in_lower in_upper (omega (arith, c.requires, same, end)) p.ensures.lower_misses p.ensures.upper_misses
    p.ensures.seen
    ∙ ap (λ (v : Filing). overwritten v.file at bytes) c.self.view_is
