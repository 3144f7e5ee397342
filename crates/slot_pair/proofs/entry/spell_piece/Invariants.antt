use Rattle.std.proofs.Common.{◌-◌, ◌≡◌, ◌≤◌, length}
use Rattle.slot_pair.specs.Pieces.{entry_items, unwritten}
use Rattle.slot_pair.proofs.entry.spell_piece.Given as goal

abbrev pub decreases-items : goal.decreases-items
decreases-items g l = l.count - l.spelled.items

abbrev pub invariant-items : goal.invariant-items
invariant-items g l =
    let items = entry_items l.header (g.T.Delta.changes l.delta) in
    (unwritten l.spelled l.buf items ≡ unwritten l.fn.begun l.fn.buf items) × (l.spelled.held ≤ length l.buf)
