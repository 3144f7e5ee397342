use Rattle.std.proofs.Common.{◌≡◌, ◌<◌, Some, cond, length, sym, ap, ◌∙◌, arith}
use Rattle.std.proofs.lemmas.Option.{same_Some}
use Rattle.std.specs.List.{slice_get}
use Rattle.slot_codec.specs.Changes.Change.{same, put}
use Rattle.slot_codec.specs.Rows.{rows_of}
use Rattle.slot_codec.specs.declared.codec.Record.{Record}
use Rattle.extent_table.specs.Deltas.{new_changes, now_rolled}
use Rattle.extent_table.specs.Extents.{rolled}
use Rattle.extent_table.specs.Inside.{extents_of}
use Rattle.extent_table.specs.Parts.{at, kept_of, name_of, now_of, spot_at}
use Rattle.extent_table.specs.Told.{is_kept_at}
use Rattle.extent_table.proofs.DeltaLaws.{rolled-count}
use Rattle.extent_table.proofs.SideLemmas.{len_of}
use Rattle.extent_table.proofs.ToldLemmas.{is_table, now_is_there, row_at_key, stands_now, told_new, told_row}
use Rattle.extent_table.proofs.table.Table.new_change.Goals as goal
use Rattle.extent_table.proofs.table.Table.new_change.Goals.{After-is_kept_at, After-self}

within : (c : After-self) → c.args.rank < length c.self.inside.order.items
within c =
    let rank = rw (← c.self.view_is) at c.requires in
    rw (len_of c.self.invariant.sound.now (spot_at now_of c.self.inside.entries.slots)) at rank

pub index-key-requires : goal.index-key-requires
index-key-requires c = rw c.self.inside.order.ok.0 (within c)

pub kept_at-was-requires : goal.kept_at-was-requires
kept_at-was-requires c =
    let path = goal.at.kept_at-was-requires c in
    now_is_there c.self.inside c.self.invariant (within path.After-self) c.index-key.ensures

pub spot_at-is-requires : goal.spot_at-is-requires
spot_at-is-requires c =
    let path = goal.at.spot_at-is-requires c in
    stands_now c.self.inside c.self.invariant (within path.After-self) c.index-key.ensures

pub nth-requires : goal.nth-requires
nth-requires c =
    rw (← c.self.view_is) (omega (
      arith,
      within (goal.at.nth-requires c).After-self,
      rolled-count (extents_of c.self.inside).now (extents_of c.self.inside).digests
          (is_table c.self.inside c.self.invariant).now_named,
      len_of c.self.invariant.sound.now (spot_at now_of c.self.inside.entries.slots),
    ))

-- what was tested
tested : (c : After-is_kept_at) → c.is_kept_at.result
    ≡ is_kept_at c.index-key.result.now (kept_of (at c.self.inside.entries.slots c.index-key.result.now))
    c.spot_at-is.result c.self.inside.kept_digests.items c.self.inside.digests.items
tested c = c.is_kept_at.ensures ∙ (λ i. is_kept_at c.index-key.result.now (c.kept_at-was.ensures i)
    c.spot_at-is.result (c.deref.ensures.value i) (c.deref-2.ensures.value i))

abbrev row : (c : After-is_kept_at) → Record
row c = row_at_key (name_of (at c.self.inside.entries.slots c.index-key.result.now)) c.spot_at-is.result
    c.self.inside.digests.items c.index-key.result.now

change_is : (c : After-is_kept_at) → c.args.rank < length c.self.inside.order.items
    → slice_get (new_changes (rows_of (rolled c.args.self.now.kept c.args.self.now.kept_digests))
    (now_rolled c.args.self.now)) c.args.rank ≡ Some (cond c.is_kept_at.result same (put (row c)))
change_is c low =
    rw (← c.self.view_is) (told_new c.self.inside c.self.invariant low c.index-key.ensures c.spot_at-is.result
    c.spot_at-is.ensures) ∙ ap (λ b. Some (cond b same (put (row c)))) (sym (tested c))

pub returns-then-is_kept_at : goal.returns-then-is_kept_at
returns-then-is_kept_at c =
    let path = goal.at.returns-then-is_kept_at c in
    change_is path.After-is_kept_at (within path.After-self)
    ∙ ap (λ b. Some (cond b same (put (row path.After-is_kept_at)))) c.if-is_kept_at.true

pub returns-else-is_kept_at : goal.returns-else-is_kept_at
returns-else-is_kept_at c =
    let path = goal.at.returns-else-is_kept_at c in
    let test = path.After-is_kept_at in
    let shown : slice_get (rolled c.args.self.now.now c.args.self.now.digests) c.args.rank ≡ Some (row test) =
    rw (← c.self.view_is) (told_row c.self.inside c.self.invariant (within path.After-self)
    c.index-key.ensures c.spot_at-is.result c.spot_at-is.ensures) in
    change_is test (within path.After-self)
    ∙ ap (λ b. Some (cond b same (put (row test)))) c.if-is_kept_at.false
    ∙ ap (λ r. Some (put r)) (same_Some (row test) c.nth.result (sym shown ∙ c.nth.ensures))
