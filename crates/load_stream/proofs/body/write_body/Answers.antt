use Rattle.std.proofs.Common.{◌≡◌, ◌+◌, ◌-◌, ◌≤◌, ◌∙◌, ◌++◌, ℕ, Ok, true, IsTrue, length, arith, rules, inl, inr, subst, sym, refl}
use Rattle.std.proofs.lemmas.Bool.{cases_lt}
use Rattle.std.proofs.lemmas.List.{length-take-le}
use Rattle.std.specs.Prelude.{◌⊎◌, take}
use Rattle.disk_face.proofs.WriteLaws.{within-none, within-trans, within-wider}
use Rattle.data_area.proofs.PieceLaws.{made_more, made_none}
use Rattle.load_stream.proofs.BodyLaws.{body_as, body_long, body_more, body_none}
use Rattle.load_stream.proofs.WeightLaws.{piece_asked, piece_most, piece_none}
use Rattle.load_stream.proofs.body.write_body.Goals as goal

pub pieces-init : goal.pieces-init
pieces-init g c =
    let old = g.D.Disk.state c.args.disk.now in
    record {
      upto = omega arith;
      object = body_none _ c.args.at _ old;
      writes = within-none c.args.at c.args.size old c.requires.ready;
      made = made_none old.turn (length c.args.buf.now) c.args.size c.requires.some;
      asks = piece_none (length c.args.buf.now) c.requires.some old;
      calm = refl;
      source_calm = refl;
      told = refl;
      room = refl;
    }

pub write_piece-requires-clause-within : goal.write_piece-requires-clause-within
write_piece-requires-clause-within g c = λ here.
    let was = c.pieces.invariant in
    let n : ℕ = c.min-n.result in
    let len : length (take n c.pieces.buf) ≡ n = length-take-le n c.pieces.buf (omega arith) in
    let told : IsTrue (g.D.Disk.state c.args.disk.now).tells = subst IsTrue was.writes.stays.told here in
    omega (
      arith,
      len,
      c.requires.within told,
      body_long _ c.args.at c.args.size c.pieces.done _ _ (g.D.Disk.state c.args.disk.now)
          (g.D.Disk.state c.pieces.disk) was.upto (c.requires.within told) told was.object,
    )

pub pieces-preserved : goal.pieces-preserved
pieces-preserved g c =
    let state = g.D.Disk.state in
    let source = g.I.Source.state in
    let old = state c.args.disk.now in
    let was = c.pieces.invariant in
    let n : ℕ = c.min-n.result in
    let done : ℕ = c.pieces.done in
    let len : length (take n c.pieces.buf) ≡ n = length-take-le n c.pieces.buf (omega arith) in
    let upto : done + n ≤ c.args.size = omega arith in
    let last : (n ≡ length c.args.buf.now) ⊎ (done + n ≡ c.args.size) =
    elim (cases_lt (c.args.size - done) (length c.pieces.buf)) [
      | inl short ↦ inr (omega (arith, short))
      | inr long ↦ inl (omega (arith, long))
    ] in
    let here : IsTrue old.tells → IsTrue (state c.pieces.disk).tells =
    λ told. subst IsTrue (sym was.writes.stays.told) told in
    let heard : IsTrue (source c.args.input.now).tells → IsTrue (source c.pieces.input).tells =
    λ told. subst IsTrue (sym was.told) told in
    let is : Ok c.in_ok-full.full ≡ Ok true = search rules in
    let causes = c.write_piece.ensures.causes in
    record {
      upto = upto;
      object = body_more (IsTrue (source c.args.input.now).tells) c.args.at c.args.size done n
          (c.args.ahead.now ++ (source c.args.input.now).left) (c.pieces.ahead
          ++ (source c.pieces.input).left)
          (c.write_piece.new.ahead ++ (source c.write_piece.new.input).left) old (state c.pieces.disk)
          (state c.write_piece.new.disk) upto c.requires.within here was.object
          (body_as (IsTrue (source c.args.input.now).tells) (IsTrue (source c.pieces.input).tells)
          (c.args.at + done) (length (take n c.pieces.buf)) n
          (c.pieces.ahead ++ (source c.pieces.input).left)
          (c.write_piece.new.ahead ++ (source c.write_piece.new.input).left) (state c.pieces.disk)
          (state c.write_piece.new.disk) heard len (c.in_ok-full.ensures.object is));
      writes = within-trans was.writes
          (within-wider c.args.at c.args.size (omega arith) (omega (arith, upto, len))
          c.write_piece.ensures.writes);
      made = made_more old.turn (state c.pieces.disk).turn (state c.write_piece.new.disk).turn
          (length c.args.buf.now) c.args.size done n (omega arith) (omega arith) (omega arith)
          (omega (arith, was.room)) last was.made (c.in_ok-full.ensures.made is);
      asks = piece_asked old.turn (state c.pieces.disk).turn (length c.args.buf.now) c.args.size done n
          (length (take n c.pieces.buf)) old (state c.pieces.disk) (state c.write_piece.new.disk)
          (omega arith) (omega arith) (omega (arith, was.room)) len was.made was.asks
          c.write_piece.ensures.asks;
      calm = c.in_ok-full.ensures.causes.disk_cause.calm (λ is. absurd (cc)) ∙ was.calm;
      source_calm = c.in_ok-full.ensures.causes.source_cause.calm (λ is. absurd (cc)) ∙ was.source_calm;
      told = c.in_ok-full.ensures.causes.source_cause.told ∙ was.told;
      room = omega (arith, was.room, len);
    }

pub returns-in_err-full-clause-writes : goal.returns-in_err-full-clause-writes
returns-in_err-full-clause-writes g c =
    let n : ℕ = c.min-n.result in
    let len : length (take n c.pieces.buf) ≡ n = length-take-le n c.pieces.buf (omega arith) in
    let upto : c.pieces.done + n ≤ c.args.size = omega arith in
    within-trans c.pieces.invariant.writes
    (within-wider c.args.at c.args.size (omega arith) (omega (arith, upto, len)) c.write_piece.ensures.writes)

pub returns-then-not-full-clause-writes : goal.returns-then-not-full-clause-writes
returns-then-not-full-clause-writes g c =
    let n : ℕ = c.min-n.result in
    let len : length (take n c.pieces.buf) ≡ n = length-take-le n c.pieces.buf (omega arith) in
    let upto : c.pieces.done + n ≤ c.args.size = omega arith in
    within-trans c.pieces.invariant.writes
    (within-wider c.args.at c.args.size (omega arith) (omega (arith, upto, len)) c.write_piece.ensures.writes)

pub returns-in_err-full-clause-asks : goal.returns-in_err-full-clause-asks
returns-in_err-full-clause-asks g c =
    let state = g.D.Disk.state in
    let old = state c.args.disk.now in
    let was = c.pieces.invariant in
    let n : ℕ = c.min-n.result in
    let len : length (take n c.pieces.buf) ≡ n = length-take-le n c.pieces.buf (omega arith) in
    piece_most (length c.args.buf.now) c.args.size (c.pieces.done + n) old (state c.write_piece.new.disk)
    c.requires.some (omega arith)
    (piece_asked old.turn (state c.pieces.disk).turn (length c.args.buf.now) c.args.size c.pieces.done n
    (length (take n c.pieces.buf)) old (state c.pieces.disk) (state c.write_piece.new.disk) (omega arith)
    (omega arith) (omega (arith, was.room)) len was.made was.asks c.write_piece.ensures.asks)

pub returns-then-not-full-clause-asks : goal.returns-then-not-full-clause-asks
returns-then-not-full-clause-asks g c =
    let state = g.D.Disk.state in
    let old = state c.args.disk.now in
    let was = c.pieces.invariant in
    let n : ℕ = c.min-n.result in
    let len : length (take n c.pieces.buf) ≡ n = length-take-le n c.pieces.buf (omega arith) in
    piece_most (length c.args.buf.now) c.args.size (c.pieces.done + n) old (state c.write_piece.new.disk)
    c.requires.some (omega arith)
    (piece_asked old.turn (state c.pieces.disk).turn (length c.args.buf.now) c.args.size c.pieces.done n
    (length (take n c.pieces.buf)) old (state c.pieces.disk) (state c.write_piece.new.disk) (omega arith)
    (omega arith) (omega (arith, was.room)) len was.made was.asks c.write_piece.ensures.asks)

pub returns-clause-asks : goal.returns-clause-asks
returns-clause-asks g c =
    let state = g.D.Disk.state in
    let was = c.pieces.invariant in
    piece_most (length c.args.buf.now) c.args.size c.pieces.done (state c.args.disk.now) (state c.pieces.disk)
    c.requires.some was.upto was.asks
