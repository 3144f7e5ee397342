use Rattle.std.proofs.Common.{◌∙◌, ◌+◌, ◌*◌, IsTrue, arith, drop, refl, subst, take}
use Rattle.slot_codec.specs.Entries.{entry_room}
use Rattle.slot_pair.specs.Pieces.{entry_items, text_from}
use Rattle.slot_pair.proofs.PieceLaws.{head_is_short, items_are_text}
use Rattle.slot_pair.proofs.SpelledLaws.{HoldsPiece}
use Rattle.slot_pair.proofs.TextSoFar.{IsPiece, after_piece, is_piece, length-items, length-piece, none_so_far, piece_asks, piece_writes, piece_written, text_stands}
use Rattle.slot_pair.proofs.entry.write_entry.Given.{Over}
use Rattle.slot_pair.proofs.entry.write_entry.Goals as goal
use Rattle.slot_pair.proofs.entry.write_entry.Goals.{After-min-n}

pub room-requires-clause-cells : goal.room-requires-clause-cells
room-requires-clause-cells g c =
    (head_is_short c.args.header.now _ c.args.head.now c.requires.head c.requires.few).cells

pub room-requires-clause-moved : goal.room-requires-clause-moved
room-requires-clause-moved g c =
    (head_is_short c.args.header.now _ c.args.head.now c.requires.head c.requires.few).moved

pub room-requires-clause-gone : goal.room-requires-clause-gone
room-requires-clause-gone g c =
    (head_is_short c.args.header.now _ c.args.head.now c.requires.head c.requires.few).gone

pub room-requires-clause-puts : goal.room-requires-clause-puts
room-requires-clause-puts g c =
    (head_is_short c.args.header.now _ c.args.head.now c.requires.head c.requires.few).puts

pub pieces-init : goal.pieces-init
pieces-init g c = (
  none_so_far (c.args.at + 1) (entry_room c.args.head.now) _ (g.D.Disk.state c.args.disk.now)
      c.requires.ready (g.met.D.Disk.lawful c.args.disk.now).turn_fits,
  record { text = refl; within = omega arith },
)

-- the buffer holds a piece
holds : (g : Over) (c : After-min-n g)
    → let items = entry_items c.args.header.now (g.T.Delta.changes c.args.delta.now) in
    HoldsPiece c.spell_piece-spelled.result c.spell_piece-spelled.new.buf items
    (drop (57344 * c.pieces.piece) (text_from 0 items))
holds g c = record {
  text = c.spell_piece-spelled.ensures.text ∙ c.pieces.invariant.1.text;
  all = c.spell_piece-spelled.ensures.all;
  within = c.spell_piece-spelled.ensures.within;
}

piece : (g : Over) (c : After-min-n g)
    → IsPiece (entry_room c.args.head.now)
    (text_from 0 (entry_items c.args.header.now (g.T.Delta.changes c.args.delta.now))) c.pieces.piece
    (take c.min-n.result c.spell_piece-spelled.new.buf)
piece g c = is_piece (holds g c) c.min-n.result (omega arith)
    (length-items _ c.args.header.now _ c.args.head.now c.requires.head
    (g.met.T.Delta.fitting c.args.delta.now)) (omega arith)

pub write_at-requires-clause-within : goal.write_at-requires-clause-within
write_at-requires-clause-within g c = λ told.
    let so_far = c.pieces.invariant.0 in
    let at_first : IsTrue (g.D.Disk.state c.args.disk.now).tells =
    subst IsTrue so_far.writes.stays.told told in
    omega (
      arith,
      length-piece (piece g (goal.at.write_at-requires-clause-within g c).After-min-n),
      c.requires.within at_first,
      (so_far.writes.others at_first).same_length,
    )

pub returns-in_err-write_at-clause-writes : goal.returns-in_err-write_at-clause-writes
returns-in_err-write_at-clause-writes g c =
    piece_writes c.pieces.invariant.0
    (piece g (goal.at.returns-in_err-write_at-clause-writes g c).After-min-n) refl c.write_at.ensures.frame

pub returns-in_err-write_at-clause-asks : goal.returns-in_err-write_at-clause-asks
returns-in_err-write_at-clause-asks g c =
    let asks = piece_asks c.pieces.invariant.0
    (piece g (goal.at.returns-in_err-write_at-clause-asks g c).After-min-n) c.write_at.ensures.frame in
    record { weight = omega (arith, asks.weight); longest = omega (arith, asks.longest) }

pub pieces-preserved : goal.pieces-preserved
pieces-preserved g c =
    let here = (goal.at.pieces-preserved g c).After-min-n in (
      piece_written c.pieces.invariant.0 (piece g here) refl c.write_at.ensures.frame c.requires.within
          c.in_ok-write_at.ensures.written c.in_ok-write_at.ensures.cause.calm,
      after_piece c.pieces.piece (holds g here) c.min-n.result (omega arith) c.without_front-spelled.result
          c.without_front-spelled.new.buf c.without_front-spelled.ensures.same
          c.without_front-spelled.ensures.text
          (omega (arith, c.without_front-spelled.ensures.held, c.spell_piece-spelled.ensures.within)),
    )

pub returns-clause-text : goal.returns-clause-text
returns-clause-text g c = λ told.
    text_stands c.pieces.invariant.0
    (length-items _ c.args.header.now _ c.args.head.now c.requires.head
    (g.met.T.Delta.fitting c.args.delta.now)) (omega arith) told (c.requires.within told)
    ∙ items_are_text c.args.header.now (g.T.Delta.changes c.args.delta.now)
