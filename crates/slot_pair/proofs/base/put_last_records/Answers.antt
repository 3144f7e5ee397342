use Rattle.std.proofs.Common.{◌≡◌, ◌+◌, ◌-◌, ◌*◌, ◌/◌, ◌≤◌, ℕ, IsTrue, List, arith, flat_map, length, min, subst, sym, take}
use Rattle.std.proofs.lemmas.List.{length-take-le}
use Rattle.std.proofs.lemmas.Result.{on_ok_weaker}
use Rattle.byte_ranges.specs.Ranges.{bytes_at}
use Rattle.slot_codec.specs.Spelling.{record_bytes}
use Rattle.slot_pair.proofs.BaseLaws.{last_written, long_len}
use Rattle.slot_pair.proofs.base.put_last_records.Goals as goal

pub put_pieces-requires-clause-len : goal.put_pieces-requires-clause-len
put_pieces-requires-clause-len g c = long_len

pub spell_records-requires-clause-len : goal.spell_records-requires-clause-len
spell_records-requires-clause-len g c = long_len

pub returns-clause-text : goal.returns-clause-text
returns-clause-text g c = λ told.
    let file = (g.D.Disk.state c.put_pieces.new.disk).file in
    let rs = g.R.Roll.records c.args.roll.now in
    let count : ℕ = c.count-count.result in
    let first : ℕ = 512 * ((count - 1) / 512) in
    let n : ℕ = count - first in
    let all : first + n ≡ length rs = omega (arith, c.count-count.ensures) in
    let told1 : IsTrue (g.D.Disk.state c.put_pieces.new.disk).tells =
    subst IsTrue (sym c.put_pieces.ensures.writes.stays.told) told in
    let so_far : min first (length rs) ≡ first = omega (arith, all) in
    let before : bytes_at file c.args.at (112 * first) ≡ flat_map (record_bytes 2) (take first rs) =
    subst (λ k. bytes_at file c.args.at (112 * k) ≡ flat_map (record_bytes 2) (take k rs)) so_far
    (c.in_ok-put_pieces.ensures.records told) in
    let text : List ℕ = take (112 * n) c.spell_records.new.out in
    let long : length text ≡ 112 * n = length-take-le _ _ (omega arith) in
    let within : c.args.at + (112 * length rs + c.args.lead) ≤ length file =
    omega (arith, c.requires.within told, (c.put_pieces.ensures.writes.others told).same_length) in
    on_ok_weaker c.write_before_zeros.result (last_written (record_bytes 2) file _ text rs c.args.at first n
    c.args.lead within all before c.spell_records.ensures long)
    (c.write_before_zeros.ensures.written told1)
