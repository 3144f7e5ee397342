use Rattle.std.proofs.Common.{◌≡◌, ◌<◌, Some, cond, length, zero, sym, ap, ◌∙◌}
use Rattle.std.specs.List.{slice_get}
use Rattle.slot_codec.specs.Changes.Change.{gone, moved, same}
use Rattle.slot_codec.specs.Rows.{rows_of}
use Rattle.extent_table.specs.Deltas.{kept_changes, now_rolled}
use Rattle.extent_table.specs.Extents.{rolled}
use Rattle.extent_table.specs.Parts.{kept_of, spot_at}
use Rattle.extent_table.specs.Told.{is_moved_at}
use Rattle.extent_table.proofs.SideLemmas.{len_of}
use Rattle.extent_table.proofs.ToldLemmas.{kept_is_there, told_gone, told_still, was_kept}
use Rattle.extent_table.proofs.table.Table.kept_change.Goals as goal
use Rattle.extent_table.proofs.table.Table.kept_change.Goals.{After-is_moved_at, After-self}

within : (c : After-self) → c.args.rank < length c.self.inside.kept_order.items
within c =
    let rank = rw (← c.self.view_is) at c.requires in
    rw (len_of c.self.invariant.sound.kept (spot_at kept_of c.self.inside.entries.slots)) at rank

pub index-key-requires : goal.index-key-requires
index-key-requires c = rw c.self.inside.kept_order.ok.0 (within c)

pub kept_at-requires : goal.kept_at-requires
kept_at-requires c =
    let path = goal.at.kept_at-requires c in
    kept_is_there c.self.inside c.self.invariant (within path.After-self) c.index-key.ensures

pub unwrap-was-requires : goal.unwrap-was-requires
unwrap-was-requires c =
    let path = goal.at.unwrap-was-requires c in
    rw c.kept_at.ensures
    (was_kept c.self.inside c.self.invariant (within path.After-self) c.index-key.ensures)

pub returns-in-None : goal.returns-in-None
returns-in-None c =
    let path = goal.at.returns-in-None c in
    rw (← c.self.view_is) (told_gone c.self.inside c.self.invariant (within path.After-self)
    c.index-key.ensures (sym c.now_at.ensures ∙ c.in-None.is))
    ∙ ap (λ name. Some (gone name)) (sym (c.copied.ensures.value ∙ c.name_at.ensures))

change_is : (c : After-is_moved_at) → c.args.rank < length c.self.inside.kept_order.items
    → slice_get (kept_changes (rows_of (now_rolled c.args.self.now)) zero
    (rolled c.args.self.now.kept c.args.self.now.kept_digests)) c.args.rank
    ≡ Some (cond c.is_moved_at.result (moved c.args.rank c.in-Some.is'.place) same)
change_is c low =
    let tested : c.is_moved_at.result
    ≡ is_moved_at c.index-key.result.now c.unwrap-was.result c.in-Some.is' c.self.inside.kept_digests.items
    c.self.inside.digests.items =
    c.is_moved_at.ensures ∙ (λ i. is_moved_at c.index-key.result.now c.unwrap-was.result c.in-Some.is'
    (c.deref.ensures.value i) (c.deref-in-Some.ensures.value i)) in
    rw (← c.self.view_is) (told_still c.self.inside c.self.invariant low c.index-key.ensures
    c.unwrap-was.result c.in-Some.is' (sym c.kept_at.ensures ∙ c.unwrap-was.ensures)
    (sym c.now_at.ensures ∙ c.in-Some.is))
    ∙ ap (λ b. Some (cond b (moved c.args.rank c.in-Some.is'.place) same)) (sym tested)

pub returns-then-is_moved_at : goal.returns-then-is_moved_at
returns-then-is_moved_at c =
    let path = goal.at.returns-then-is_moved_at c in
    change_is path.After-is_moved_at (within path.After-self)
    ∙ ap (λ b. Some (cond b (moved c.args.rank c.in-Some.is'.place) same)) c.if-is_moved_at.true

pub returns-else-is_moved_at : goal.returns-else-is_moved_at
returns-else-is_moved_at c =
    let path = goal.at.returns-else-is_moved_at c in
    change_is path.After-is_moved_at (within path.After-self)
    ∙ ap (λ b. Some (cond b (moved c.args.rank c.in-Some.is'.place) same)) c.if-is_moved_at.false
