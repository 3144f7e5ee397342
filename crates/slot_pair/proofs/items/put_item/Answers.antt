use Rattle.std.proofs.Common.{◌∙◌, ap, arith, sym}
use Rattle.std.specs.Prelude.{slice_index_or, [], ◌≡◌}
use Rattle.slot_codec.specs.Entries.{entry_head_bytes}
use Rattle.slot_pair.specs.Pieces.{end_bytes, entry_items}
use Rattle.slot_pair.proofs.PieceLaws.{head_is_short, item_cell, item_end, item_gone, item_head, item_moved, item_put, length-entry_items}
use Rattle.slot_pair.proofs.items.put_item.Goals as goal

pub put_end-requires-clause-cells : goal.put_end-requires-clause-cells
put_end-requires-clause-cells g c =
    (head_is_short c.args.header.now _ c.args.head.now c.requires.head c.requires.few).cells

pub put_end-requires-clause-moved : goal.put_end-requires-clause-moved
put_end-requires-clause-moved g c =
    (head_is_short c.args.header.now _ c.args.head.now c.requires.head c.requires.few).moved

pub put_end-requires-clause-gone : goal.put_end-requires-clause-gone
put_end-requires-clause-gone g c =
    (head_is_short c.args.header.now _ c.args.head.now c.requires.head c.requires.few).gone

pub put_end-requires-clause-puts : goal.put_end-requires-clause-puts
put_end-requires-clause-puts g c =
    (head_is_short c.args.header.now _ c.args.head.now c.requires.head c.requires.few).puts

pub returns-then-n-eq0-clause-item : goal.returns-then-n-eq0-clause-item
returns-then-n-eq0-clause-item g c =
    let cs = g.T.Delta.changes c.args.delta.now in
    let first : c.args.n ≡ 0 = omega arith in
    c.put_head.ensures.text ∙ ap entry_head_bytes c.requires.head
    ∙ sym (item_head c.args.header.now cs)
    ∙ ap (λ k. slice_index_or (entry_items c.args.header.now cs) k []) (sym first)

pub returns-then-n-first-clause-item : goal.returns-then-n-first-clause-item
returns-then-n-first-clause-item g c = c.put_cell.ensures.text
    ∙ sym (item_cell c.args.header.now (g.T.Delta.changes c.args.delta.now) c.args.n _ (omega arith)
    (omega arith))

pub returns-then-n-first-2-clause-item : goal.returns-then-n-first-2-clause-item
returns-then-n-first-2-clause-item g c =
    sym (item_moved c.args.header.now (g.T.Delta.changes c.args.delta.now) c.args.n _ _ (omega arith)
    c.put_change.ensures.text)

pub returns-then-n-first-3-clause-item : goal.returns-then-n-first-3-clause-item
returns-then-n-first-3-clause-item g c =
    sym (item_gone c.args.header.now (g.T.Delta.changes c.args.delta.now) c.args.n _ _ (omega arith)
    c.put_change-then-n-first-3.ensures.text)

pub returns-then-n-first-4-clause-item : goal.returns-then-n-first-4-clause-item
returns-then-n-first-4-clause-item g c =
    sym (item_put c.args.header.now (g.T.Delta.changes c.args.delta.now) c.args.n _ _ (omega arith)
    c.put_change-then-n-first-4.ensures.text)

pub returns-else-n-first-4-clause-item : goal.returns-else-n-first-4-clause-item
returns-else-n-first-4-clause-item g c =
    let cs = g.T.Delta.changes c.args.delta.now in
    let few = length-entry_items c.args.header.now cs in
    c.put_end.ensures.text ∙ ap end_bytes c.requires.head
    ∙ sym (item_end c.args.header.now cs c.args.n (omega (arith, few, c.requires.some)))
