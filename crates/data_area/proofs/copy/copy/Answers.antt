use Rattle.std.proofs.Common.{◌≡◌, ◌+◌, ◌-◌, ◌≤◌, ◌∙◌, ℕ, IsTrue, length, arith, inl, inr, rules, subst, sym, refl}
use Rattle.std.proofs.lemmas.Bool.{cases_lt}
use Rattle.std.proofs.lemmas.List.{length-take-le}
use Rattle.std.specs.Prelude.{◌⊎◌, take}
use Rattle.byte_ranges.specs.Ranges.{bytes_at, overwritten}
use Rattle.disk_face.proofs.WriteLaws.{within-none, within-trans, within-wider}
use Rattle.data_area.proofs.CopyLaws.{copied_more, copied_none}
use Rattle.data_area.proofs.PieceLaws.{made_more, made_most, made_none}
use Rattle.data_area.proofs.copy.copy.Goals as goal

pub pieces-init : goal.pieces-init
pieces-init g c =
    let old = g.D.Disk.state c.args.disk.now in
    record {
      writes = within-none c.args.to c.args.size old c.requires.ready;
      copied = λ told. copied_none old.file c.args.from c.args.to;
      calm = refl;
      upto = omega arith;
      made = made_none old.turn (length c.args.buf.now) c.args.size c.requires.can.some;
    }

pub pieces-preserved : goal.pieces-preserved
pieces-preserved g c =
    let state = g.D.Disk.state in
    let old = state c.args.disk.now in
    let so_far = c.pieces.invariant in
    let n : ℕ = c.min-n.result in
    let done : ℕ = c.pieces.done in
    let len : length (take n c.pieces.buf) ≡ n = length-take-le n c.pieces.buf (omega arith) in
    let upto : done + n ≤ c.args.size = omega arith in
    let last : (n ≡ length c.args.buf.now) ⊎ (done + n ≡ c.args.size) =
    elim (cases_lt (c.args.size - done) (length c.pieces.buf)) [
      | inl short ↦ inr (omega (arith, short))
      | inr long ↦ inl (omega (arith, long))
    ] in
    record {
      writes = within-trans so_far.writes
          (within-wider c.args.to c.args.size (omega arith) (omega (arith, upto, len))
          c.copy_piece.ensures.writes);
      copied = λ told.
          let told1 : IsTrue (state c.pieces.disk).tells = subst IsTrue (sym so_far.writes.stays.told) told in
          copied_more old.file (state c.pieces.disk).file (state c.copy_piece.new.disk).file
          c.args.from c.args.to c.args.size done n c.requires.can.apart (c.requires.can.from_within told)
          (c.requires.can.to_within told) upto (so_far.copied told)
          (subst (λ k. (state c.copy_piece.new.disk).file
          ≡ overwritten (state c.pieces.disk).file (c.args.to + done)
          (bytes_at (state c.pieces.disk).file (c.args.from + done) k)) len
          (c.in_ok-copy_piece.ensures.copied told1));
      calm = c.in_ok-copy_piece.ensures.cause.calm ∙ so_far.calm;
      upto = upto;
      made = made_more old.turn (state c.pieces.disk).turn (state c.copy_piece.new.disk).turn
          (length c.args.buf.now) c.args.size done n (omega arith) (omega arith) (omega arith) (omega arith)
          last so_far.made c.in_ok-copy_piece.ensures.calls;
    }

pub returns-in_err-copy_piece-clause-writes : goal.returns-in_err-copy_piece-clause-writes
returns-in_err-copy_piece-clause-writes g c =
    let n : ℕ = c.min-n.result in
    let len : length (take n c.pieces.buf) ≡ n = length-take-le n c.pieces.buf (omega arith) in
    let upto : c.pieces.done + n ≤ c.args.size = omega arith in
    within-trans c.pieces.invariant.writes
    (within-wider c.args.to c.args.size (omega arith) (omega (arith, upto, len)) c.copy_piece.ensures.writes)

pub returns-in_err-copy_piece-clause-calls : goal.returns-in_err-copy_piece-clause-calls
returns-in_err-copy_piece-clause-calls g c =
    let first = (g.D.Disk.state c.args.disk.now).turn in
    let now = (g.D.Disk.state c.pieces.disk).turn in
    let most = c.copy_piece.ensures.most in
    let all = made_most first now (g.D.Disk.state c.copy_piece.new.disk).turn (length c.args.buf.now)
    c.args.size c.pieces.done c.requires.can.some (omega arith) c.pieces.invariant.made (omega (arith, most))
    in
    record { all = search rules; most = omega (arith, all, most); cause = search rules }
