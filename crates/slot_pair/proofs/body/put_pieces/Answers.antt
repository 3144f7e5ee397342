use Rattle.std.proofs.Common.{◌+◌, ◌*◌, ◌≡◌, ◌≤◌, ℕ, IsTrue, arith, flat_map, length, min, refl, subst, sym, take, List, ap}
use Rattle.std.proofs.lemmas.Grind.{common_steps}
use Rattle.std.proofs.lemmas.List.{length-take-le}
use Rattle.std.proofs.Math.Nat.{mul-le-mul_left}
use Rattle.byte_ranges.specs.Ranges.{bytes_at}
use Rattle.slot_codec.specs.Spelling.{record_bytes}
use Rattle.disk_face.proofs.FrameLaws.{asks_then}
use Rattle.disk_face.proofs.WriteLaws.{within-none, within-trans, within-wider, within-write}
use Rattle.slot_pair.proofs.RecordLemmas.{next_written, none_written}
use Rattle.slot_pair.proofs.body.put_pieces.Goals as goal

pub pieces-init : goal.pieces-init
pieces-init g c = record {
  writes = within-none _ _ _ c.requires.ready;
  records = λ told. none_written (record_bytes c.args.version) c.args.len
      (g.D.Disk.state c.args.disk.now).file c.args.at (g.R.Roll.records c.args.roll.now);
  calls = omega (arith, (g.met.D.Disk.lawful c.args.disk.now).turn_fits);
  calm = refl;
  asks = record { weight = omega arith; longest = omega arith };
}

pub spell_records-requires-clause-fits : goal.spell_records-requires-clause-fits
spell_records-requires-clause-fits g c =
    let inside = mul-le-mul_left (length (g.R.Roll.records c.args.roll.now)) c.requires.low in
    let far : 512 * c.pieces.piece + c.min-n.result ≤ length
    (g.R.Roll.records c.args.roll.now) = omega arith in
    omega (arith, inside, far, c.requires.fits)

pub spell_records-requires-clause-room : goal.spell_records-requires-clause-room
spell_records-requires-clause-room g c =
    let few : c.min-n.result ≤ 512 = omega arith in
    omega (arith, mul-le-mul_left c.args.len few, c.requires.short, c.requires.room)

pub write_at-requires-clause-within : goal.write_at-requires-clause-within
write_at-requires-clause-within g c = λ told.
    let len : ℕ = c.args.len in
    let n : ℕ = c.min-n.result in
    let first : ℕ = 512 * c.pieces.piece in
    let rs = g.R.Roll.records c.args.roll.now in
    let far : first + n ≤ length rs = omega arith in
    let few : n ≤ 512 = omega arith in
    let in_room : len * n ≤ length c.spell_records.new.out =
    omega (arith, mul-le-mul_left len few, c.requires.short) in
    let long : length (take (len * n) c.spell_records.new.out)
    ≡ len * n = length-take-le (len * n) c.spell_records.new.out in_room in
    let at_first : IsTrue (g.D.Disk.state c.args.disk.now).tells =
    subst IsTrue c.pieces.invariant.writes.stays.told told in
    omega (
      arith,
      mul-le-mul_left len far,
      long,
      c.requires.within at_first,
      (c.pieces.invariant.writes.others at_first).same_length,
    )

pub returns-in_err-write_at-clause-writes : goal.returns-in_err-write_at-clause-writes
returns-in_err-write_at-clause-writes g c =
    let len : ℕ = c.args.len in
    let n : ℕ = c.min-n.result in
    let first : ℕ = 512 * c.pieces.piece in
    let rs = g.R.Roll.records c.args.roll.now in
    let far : first + n ≤ length rs = omega arith in
    let few : n ≤ 512 = omega arith in
    let in_room : len * n ≤ length c.spell_records.new.out =
    omega (arith, mul-le-mul_left len few, c.requires.short) in
    let long : length (take (len * n) c.spell_records.new.out)
    ≡ len * n = length-take-le (len * n) c.spell_records.new.out in_room in
    within-trans c.pieces.invariant.writes
    (within-wider c.args.at (len * length rs) (omega arith) (omega (arith, mul-le-mul_left len far, long))
    (within-write c.write_at.ensures.frame))

pub returns-in_err-write_at-clause-asks : goal.returns-in_err-write_at-clause-asks
returns-in_err-write_at-clause-asks g c =
    let len : ℕ = c.args.len in
    let n : ℕ = c.min-n.result in
    let first : ℕ = 512 * c.pieces.piece in
    let rs = g.R.Roll.records c.args.roll.now in
    let far : first + n ≤ length rs = omega arith in
    let few : n ≤ 512 = omega arith in
    let in_room : len * n ≤ length c.spell_records.new.out =
    omega (arith, mul-le-mul_left len few, c.requires.short) in
    let long : length (take (len * n) c.spell_records.new.out)
    ≡ len * n = length-take-le (len * n) c.spell_records.new.out in_room in
    let so_far : min first (length rs) ≡ first = omega arith in
    let asked : first + n ≤ min (512 * c.args.pieces) (length rs) = omega (arith, far) in
    asks_then c.pieces.invariant.asks c.write_at.ensures.frame.asks
    (omega (arith, long, mul-le-mul_left len asked, ap (λ k. len * k) so_far)) (omega arith) (omega arith)

pub pieces-preserved : goal.pieces-preserved
pieces-preserved g c =
    let D = g.D.Disk in
    let w = c.write_at.ensures in
    let rs = g.R.Roll.records c.args.roll.now in
    let spell = record_bytes c.args.version in
    let len : ℕ = c.args.len in
    let first : ℕ = 512 * c.pieces.piece in
    let n : ℕ = c.min-n.result in
    let bytes : List ℕ = take (len * n) c.spell_records.new.out in
    let far : first + n ≤ length rs = omega arith in
    let few : n ≤ 512 = omega arith in
    let in_room : len * n ≤ length c.spell_records.new.out =
    omega (arith, mul-le-mul_left len few, c.requires.short) in
    let long : length bytes ≡ len * n = length-take-le (len * n) c.spell_records.new.out in_room in
    let low : c.args.at ≤ c.args.at + len * first = omega arith in
    let high : c.args.at + len * first + length bytes
    ≤ c.args.at + len * length rs = omega (arith, mul-le-mul_left len far, long) in
    let so_far : min first (length rs) ≡ first = omega arith in
    let then : first + n ≡ min (512 * (c.pieces.piece + 1)) (length rs) = omega arith in
    let piece = within-write w.frame
    in
    record {
      writes = within-trans c.pieces.invariant.writes
          (within-wider c.args.at (len * length rs) low high piece);
      records = λ told.
          let told' : IsTrue (D.state c.pieces.disk).tells =
          subst IsTrue (sym c.pieces.invariant.writes.stays.told) told in
          let within : c.args.at + len * (first + n)
          ≤ length (D.state c.pieces.disk).file =
          omega (
            arith,
            mul-le-mul_left len far,
            c.requires.within told,
            (c.pieces.invariant.writes.others told).same_length,
          )
          in
          let before : bytes_at (D.state c.pieces.disk).file c.args.at (len * first)
          ≡ flat_map spell (take first rs) =
          subst (λ k. bytes_at (D.state c.pieces.disk).file c.args.at (len * k)
          ≡ flat_map spell (take k rs)) so_far (c.pieces.invariant.records told) in
          subst (λ k. bytes_at (D.state c.write_at.new.self).file c.args.at (len * k)
          ≡ flat_map spell (take k rs)) then
          (next_written spell len (D.state c.pieces.disk).file (D.state c.write_at.new.self).file bytes rs
          c.args.at first n within c.spell_records.ensures long (c.in_ok-write_at.ensures.written told')
          before);
      calls = omega (arith, w.frame.one_turn, c.pieces.invariant.calls);
      calm = omega (arith, c.in_ok-write_at.ensures.cause.calm, c.pieces.invariant.calm);
      asks = asks_then c.pieces.invariant.asks w.frame.asks
          (omega (arith, long, ap (λ k. len * k) so_far, ap (λ k. len * k) then)) (omega arith) (omega arith);
    }

pub returns : goal.returns
returns g c = grind (arith, common_steps)
