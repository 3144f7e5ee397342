use Rattle.std.proofs.Common.{arith, refl}
use Rattle.slot_pair.specs.Pieces.{entry_items, unwritten}
use Rattle.slot_pair.proofs.PieceLaws.{length-entry_items}
use Rattle.slot_pair.proofs.SpelledLaws.{item_spelled}
use Rattle.slot_pair.proofs.entry.spell_piece.Goals as goal

pub items-init : goal.items-init
items-init g c = (refl, c.requires.within)

pub put_item-len-requires-clause-some : goal.put_item-len-requires-clause-some
put_item-len-requires-clause-some g c =
    omega (arith, length-entry_items c.args.header.now (g.T.Delta.changes c.args.delta.now))

pub items-preserved : goal.items-preserved
items-preserved g c =
    let cs = g.T.Delta.changes c.args.delta.now in
    let items = entry_items c.args.header.now cs in
    let few = length-entry_items c.args.header.now cs in (
      item_spelled items c.items.buf c.put_item-len.new.out _
          c.items.spelled.items c.items.spelled.held c.put_item-len.result (omega (arith, few))
          c.items.invariant.1 (omega (arith, c.items.invariant.1)) c.put_item-len.ensures.item
          (unwritten c.args.begun c.args.buf.now items) c.items.invariant.0,
      omega (arith, c.items.invariant.1),
    )

pub returns-else-spelled-lt-PIECE_LEN-clause-text :
    goal.returns-else-spelled-lt-PIECE_LEN-clause-text
returns-else-spelled-lt-PIECE_LEN-clause-text g c = c.items.invariant.0

pub returns-else-spelled-lt-PIECE_LEN-clause-within :
    goal.returns-else-spelled-lt-PIECE_LEN-clause-within
returns-else-spelled-lt-PIECE_LEN-clause-within g c = c.items.invariant.1

pub returns-after-items-clause-text : goal.returns-after-items-clause-text
returns-after-items-clause-text g c = c.items.invariant.0

pub returns-after-items-clause-all : goal.returns-after-items-clause-all
returns-after-items-clause-all g c = λ low.
    omega (arith, length-entry_items c.args.header.now (g.T.Delta.changes c.args.delta.now))

pub returns-after-items-clause-within : goal.returns-after-items-clause-within
returns-after-items-clause-within g c = c.items.invariant.1
