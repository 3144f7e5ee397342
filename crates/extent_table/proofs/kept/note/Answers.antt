use Rattle.std.proofs.Common.{◌≡◌, ◌∙◌, ap, sym, true, false, arith}
use Rattle.std.proofs.lemmas.List.{get_or_read}
use Rattle.extent_table.specs.declared.kept.Kept.TheVariants.{Same}
use Rattle.extent_table.specs.Kept.{kept_in, is_change}
use Rattle.extent_table.proofs.KeptLemmas.{noted, noted_again, listed_last, listed_still, room_for_key, same_changes}
use Rattle.extent_table.proofs.kept.note.Goals as goal

pub push_reserved-requires : goal.push_reserved-requires
push_reserved-requires c =
    let is : is_change (kept_in c.reach.new.kept.items c.args.key) ≡ false =
    ap is_change (sym (get_or_read c.reach.new.kept.items c.args.key c.index.result.now c.reach.ensures.far
    c.index.ensures Same)) ∙ sym c.is_change.ensures ∙ c.if-is_change.false in
    omega (
      arith,
      room_for_key c.reach.new.kept.items c.args.key c.args.was c.reach.ensures.far c.requires.change is,
      c.reach.ensures.short,
      c.reach.ensures.count,
      c.requires.changes.count,
      c.requires.changed_room,
      c.args.changed.now.ok.0,
    )

pub returns-then-is_change-clause-changes : goal.returns-then-is_change-clause-changes
returns-then-is_change-clause-changes c =
    let is : is_change (kept_in c.reach.new.kept.items c.args.key) ≡ true =
    ap is_change (sym (get_or_read c.reach.new.kept.items c.args.key c.index.result.now c.reach.ensures.far
    c.index.ensures Same)) ∙ sym c.is_change.ensures ∙ c.if-is_change.true in
    noted_again c.reach.new.kept.items c.args.key c.args.was c.reach.ensures.far c.requires.change
    (same_changes c.requires.changes c.reach.ensures.count c.reach.ensures.same) is

pub returns-then-is_change-clause-noted : goal.returns-then-is_change-clause-noted
returns-then-is_change-clause-noted c =
    let is : is_change (kept_in c.reach.new.kept.items c.args.key) ≡ true =
    ap is_change (sym (get_or_read c.reach.new.kept.items c.args.key c.index.result.now c.reach.ensures.far
    c.index.ensures Same)) ∙ sym c.is_change.ensures ∙ c.if-is_change.true in
    listed_still (c.requires.changes.whole c.args.key
    (ap is_change (sym (c.reach.ensures.same c.args.key)) ∙ is))

pub returns-clause-noted : goal.returns-clause-noted
returns-clause-noted c = rw c.push_reserved.ensures.items (listed_last c.args.changed.now.items c.args.key)

pub returns-clause-changes : goal.returns-clause-changes
returns-clause-changes c =
    let is : is_change (kept_in c.reach.new.kept.items c.args.key) ≡ false =
    ap is_change (sym (get_or_read c.reach.new.kept.items c.args.key c.index.result.now c.reach.ensures.far
    c.index.ensures Same)) ∙ sym c.is_change.ensures ∙ c.if-is_change.false in
    rw c.push_reserved.ensures.items
    (noted c.reach.new.kept.items c.args.key c.args.was c.reach.ensures.far c.requires.change
    (same_changes c.requires.changes c.reach.ensures.count c.reach.ensures.same) is)
