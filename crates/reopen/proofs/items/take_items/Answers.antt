use Rattle.std.proofs.Common.{ℕ, ◌+◌, ◌*◌, ◌∙◌, ap, subst, sym}
use Rattle.byte_ranges.specs.Ranges.{bytes_at}
use Rattle.slot_pair.specs.Finding.{Refuses}
use Rattle.slot_pair.specs.declared.find.SlotFault.TheVariants as fault
use Rattle.reopen.specs.Items.{read_part}
use Rattle.reopen.proofs.ItemLaws.{item_within, taken_all, taken_bad, taken_more, taken_none}
use Rattle.reopen.proofs.items.take_items.Goals as goal

pub items-init : goal.items-init
items-init c = taken_none c.args.items c.args.cap c.args.text.now c.args.progress.now c.args.header.now
    c.args.load.now

pub item_at-item-requires : goal.item_at-item-requires
item_at-item-requires c = item_within c.item_len-len.result c.items.i c.args.items.count c.args.text.now
    c.items-test.true
    (c.requires.long ∙ ap (λ (l : ℕ). l * c.args.items.count) (sym c.item_len-len.ensures.value))

pub items-preserved : goal.items-preserved
items-preserved c =
    let item = c.item_at-item.ensures
    ∙ ap (λ (l : ℕ). bytes_at c.args.text.now (l * c.items.i) l) c.item_len-len.ensures.value in
    taken_more c.args.items c.args.cap c.args.text.now c.items.i c.args.progress.now c.items.progress
    c.take_item.new.progress c.args.header.now c.items.header c.take_item.new.header c.args.load.now
    c.items.load
    c.take_item.new.load c.items-test.true c.items.invariant c.take_item.ensures.rest
    c.item_at-item.result.now
    item c.in_default.ensures.taken

pub returns-in-Err-clause-refused : goal.returns-in-Err-clause-refused
returns-in-Err-clause-refused c = λ file p there stands.
    let item = c.item_at-item.ensures
    ∙ ap (λ (l : ℕ). bytes_at c.args.text.now (l * c.items.i) l) c.item_len-len.ensures.value in
    subst (λ (l : ℕ). Refuses (read_part c.args.items file p)
    (fault.Codec c.in-Err.fault (c.args.items.at + l * c.items.i))) (sym c.item_len-len.ensures.value)
    (taken_bad c.args.items c.args.cap c.args.text.now c.items.i c.args.progress.now c.items.progress
    c.args.header.now c.items.header c.args.load.now c.items.load c.in-Err.fault c.items-test.true
    c.items.invariant c.item_at-item.result.now item c.in-Err.ensures.refused file p there stands)

pub returns-clause-taken : goal.returns-clause-taken
returns-clause-taken c =
    taken_all c.args.items c.args.cap c.args.text.now c.items.i c.args.progress.now c.items.progress
    c.args.header.now c.items.header c.args.load.now c.items.load c.items-test.false c.items.auto.i-end
    c.items.invariant
