use Rattle.std.proofs.Common.{◌+◌}
use Rattle.slot_codec.specs.Entries.{entry_room}
use Rattle.slot_pair.specs.Pieces.{entry_items, text_from}
use Rattle.slot_pair.proofs.TextSoFar.{HoldsRest, TextSoFar}
use Rattle.slot_pair.proofs.entry.write_entry.Given as goal

abbrev pub invariant-pieces : goal.invariant-pieces
invariant-pieces g l =
    let D = g.D.Disk in
    let items = entry_items l.header (g.T.Delta.changes l.delta) in
    TextSoFar (l.at + 1) (entry_room l.head) (text_from 0 items) l.piece (D.state l.fn.disk) (D.state l.disk)
    × HoldsRest l.spelled l.buf items l.piece
