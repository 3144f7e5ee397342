use Rattle.std.specs.Prelude.{◌≡◌, true}
use Rattle.std.proofs.Common.{◌∙◌, ap, arith, inl, inr, refl, rules}
use Rattle.std.specs.Vec.{with_items}
use Rattle.slot_codec.specs.Choice.{InUse}
use Rattle.slot_codec.specs.Spelling.{cap}
use Rattle.slot_codec.specs.declared.codec.SuperBlock.{SuperBlock}
use Rattle.slot_codec.proofs.CapLaws.{cap-low}
use Rattle.logged_pair.specs.Slots.{used_in}
use Rattle.logged_pair.proofs.PlainSlots.{plain_calls, plain_can, plain_done, plain_leaves, plain_next, plain_slots_in}
use Rattle.extent_table.specs.Extents.{Extents}
use Rattle.store_model.proofs.EffectLaws.{calls_err, calls_ok}
use Rattle.store_core.proofs.LentLaws.{lent_rest}
use Rattle.store_model.proofs.UpgradeExitLaws.{over_mid, upgradable, upgrade_can_save, upgrade_done, upgrade_stopped, upgrade_unsaved, upgrade_whole, upgrade_within}
use Rattle.store_core.proofs.store.Store.upgrade_now.Goals as goal

pub renew_all-requires-clause-within : goal.renew_all-requires-clause-within
renew_all-requires-clause-within g c =
    let r = lent_rest c.self.inside c.args.self.now c.deref_mut-hands.result.now c.self.view_is
    c.self.invariant c.requires.over.idle c.deref_mut-hands.ensures.value in
    upgrade_within (upgradable r c.requires.over c.requires.whole c.requires.plain c.requires.few
    c.requires.fresh)

pub returns-then-is_err : goal.returns-then-is_err
returns-then-is_err g c =
    let r = lent_rest c.self.inside c.args.self.now c.deref_mut-hands.result.now c.self.view_is
    c.self.invariant c.requires.over.idle c.deref_mut-hands.ensures.value in
    let u = upgradable r c.requires.over c.requires.whole c.requires.plain c.requires.few c.requires.fresh in
    let e = c.renew_all.ensures in
    rw r.none (record {
      answer = inr refl;
      upgrades = upgrade_stopped u e.frame c.renew_all.new.table e.only e.table
          (with_items c.deref_mut-hands.result.now.buf c.renew_all.new.buf) c.renew_all.result
          c.if-is_err.ensures.value e.refusal e.disk_cause.rose
          (g.met.D.Disk.lawful c.args.disk.now).turn_fits;
      over = record { idle = refl; over = λ sound. absurd (cc) };
      broken = refl;
    })

pub save-requires-clause-save : goal.save-requires-clause-save
save-requires-clause-save g c =
    let r = lent_rest c.self.inside c.args.self.now c.deref_mut-hands.result.now c.self.view_is
    c.self.invariant c.requires.over.idle c.deref_mut-hands.ensures.value in
    let u = upgradable r c.requires.over c.requires.whole c.requires.plain c.requires.few c.requires.fresh in
    let e = c.renew_all.ensures in
    plain_can c.deref_mut-hands.result.now.slots _ _ _ _ r.whole.plain
    (upgrade_can_save u e.frame c.renew_all.new.table e.only e.table
    (with_items c.deref_mut-hands.result.now.buf c.renew_all.new.buf) c.settled_header-next.result
    c.settled_header-next.ensures.header c.settled_header-next.ensures.ranges)

pub save-requires-clause-slots : goal.save-requires-clause-slots
save-requires-clause-slots g c told =
    let r = lent_rest c.self.inside c.args.self.now c.deref_mut-hands.result.now c.self.view_is
    c.self.invariant c.requires.over.idle c.deref_mut-hands.ensures.value in
    let u = upgradable r c.requires.over c.requires.whole c.requires.plain c.requires.few c.requires.fresh in
    let e = c.renew_all.ensures in
    plain_slots_in c.deref_mut-hands.result.now.slots _ r.whole.plain
    (over_mid u e.frame c.renew_all.new.table e.only e.table
    (with_items c.deref_mut-hands.result.now.buf c.renew_all.new.buf) told).checkpoint.slot

pub narrow-requires-clause-low : goal.narrow-requires-clause-low
narrow-requires-clause-low g c =
    let r = lent_rest c.self.inside c.args.self.now c.deref_mut-hands.result.now c.self.view_is
    c.self.invariant c.requires.over.idle c.deref_mut-hands.ensures.value in
    let names = (used_in c.deref_mut-hands.result.now.slots).block.names in
    let names_are : c.block.result.names ≡ names = ap (λ (b : SuperBlock). b.names) c.block.ensures
    ∙ ap (λ (u : InUse). u.block.names) (plain_next c.deref_mut-hands.result.now.slots _ _ _ _ r.whole.plain
    c.in-Ok.ensures.slots).0 in
    omega (
      arith,
      c.cap-room.ensures,
      ap (λ n. cap n 2) names_are,
      cap-low names 2,
      c.keep_spots.ensures.names,
      ap (λ (e : Extents). e.names) c.renew_all.ensures.only,
      r.whole.room,
    )

pub invariant_of-self-in-Ok : goal.invariant_of-self-in-Ok
invariant_of-self-in-Ok g c =
    let r = lent_rest c.self.inside c.args.self.now c.deref_mut-hands.result.now c.self.view_is
    c.self.invariant c.requires.over.idle c.deref_mut-hands.ensures.value in
    let u = upgradable r c.requires.over c.requires.whole c.requires.plain c.requires.few c.requires.fresh in
    let e = c.renew_all.ensures in
    let buf = with_items c.deref_mut-hands.result.now.buf c.renew_all.new.buf in
    let k = c.keep_spots.ensures in
    let only = c.narrow.ensures.only in
    let names_are : c.block.result.names ≡ (used_in c.deref_mut-hands.result.now.slots).block.names =
    ap (λ (b : SuperBlock). b.names) c.block.ensures
    ∙ ap (λ (u : InUse). u.block.names) (plain_next c.deref_mut-hands.result.now.slots _ _ _ _ r.whole.plain
    c.in-Ok.ensures.slots).0 in
    rw r.none (upgrade_whole u e.frame c.renew_all.new.table e.only e.table buf
    c.settled_header-next.result c.settled_header-next.ensures.header c.renew_all.result
    c.if-is_err.ensures.value e.digests e.disk_cause.calm
    (λ told. plain_leaves c.deref_mut-hands.result.now.slots _ _ _ _ _ _ _ r.whole.plain
    (c.save.ensures.left told)) c.save.ensures.frame
    c.narrow.new.self c.keep_spots.new.guard c.save.new.self (with_items buf c.save.new.buf)
    (plain_next c.deref_mut-hands.result.now.slots _ _ _ _ r.whole.plain c.in-Ok.ensures.slots).0
    (ap (λ (e : Extents). e.now) only ∙ k.now)
    (ap (λ (e : Extents). e.kept) only ∙ k.kept) (ap (λ (e : Extents). e.digests) only ∙ k.digests)
    (ap (λ (e : Extents). e.kept_digests) only ∙ k.kept_digests) (search rules)
    (plain_next c.deref_mut-hands.result.now.slots _ _ _ _ r.whole.plain c.in-Ok.ensures.slots).1
    c.narrow.ensures.table
    (ap (λ (e : Extents). e.names) only ∙ k.names)
    (ap (λ (e : Extents). e.cap) only ∙ c.cap-room.ensures ∙ ap (λ n. cap n 2) names_are)
    k.empty k.room (search rules))

pub returns-in-Ok : goal.returns-in-Ok
returns-in-Ok g c =
    let r = lent_rest c.self.inside c.args.self.now c.deref_mut-hands.result.now c.self.view_is
    c.self.invariant c.requires.over.idle c.deref_mut-hands.ensures.value in
    let u = upgradable r c.requires.over c.requires.whole c.requires.plain c.requires.few c.requires.fresh in
    let e = c.renew_all.ensures in
    let buf = with_items c.deref_mut-hands.result.now.buf c.renew_all.new.buf in
    let k = c.keep_spots.ensures in
    let only = c.narrow.ensures.only in
    let s = c.in-Ok.ensures in
    let x = upgrade_done u e.frame c.renew_all.new.table e.only e.table buf
    c.settled_header-next.result c.settled_header-next.ensures.header c.renew_all.result
    c.if-is_err.ensures.value e.digests e.disk_cause.calm
    (λ told. plain_leaves c.deref_mut-hands.result.now.slots _ _ _ _ _ _ _ r.whole.plain
    (c.save.ensures.left told)) c.save.ensures.frame
    c.narrow.new.self c.keep_spots.new.guard c.save.new.self (with_items buf c.save.new.buf)
    (plain_next c.deref_mut-hands.result.now.slots _ _ _ _ r.whole.plain s.slots).0
    (ap (λ (e : Extents). e.now) only ∙ k.now) (ap (λ (e : Extents). e.kept) only ∙ k.kept)
    (ap (λ (e : Extents). e.digests) only ∙ k.digests)
    (ap (λ (e : Extents). e.kept_digests) only ∙ k.kept_digests)
    (λ told. (plain_done c.deref_mut-hands.result.now.slots _ _ _ _ _ _ _ _ r.whole.plain
    s.slots.slots (s.done told)).saved)
    (λ told. (plain_done c.deref_mut-hands.result.now.slots _ _ _ _ _ _ _ _ r.whole.plain
    s.slots.slots (s.done told)).in_use) (record { kept = true })
    (λ told. (plain_done c.deref_mut-hands.result.now.slots _ _ _ _ _ _ _ _ r.whole.plain
    s.slots.slots (s.done told)).rests)
    (calls_ok _ _ (plain_calls c.deref_mut-hands.result.now.slots _ _ r.whole.plain s.calls)) in
    rw r.none (record { answer = inl refl; upgrades = x.upgrades; over = x.over; broken = x.broken })

pub returns-in-Err : goal.returns-in-Err
returns-in-Err g c =
    let r = lent_rest c.self.inside c.args.self.now c.deref_mut-hands.result.now c.self.view_is
    c.self.invariant c.requires.over.idle c.deref_mut-hands.ensures.value in
    let u = upgradable r c.requires.over c.requires.whole c.requires.plain c.requires.few c.requires.fresh in
    let e = c.renew_all.ensures in
    let buf = with_items c.deref_mut-hands.result.now.buf c.renew_all.new.buf in
    rw r.none (record {
      answer = inr refl;
      upgrades = upgrade_unsaved u e.frame c.renew_all.new.table e.only e.table buf
          c.settled_header-next.result c.settled_header-next.ensures.header c.renew_all.result
          c.if-is_err.ensures.value e.digests e.disk_cause.calm
          (λ told. plain_leaves c.deref_mut-hands.result.now.slots _ _ _ _ _ _ _ r.whole.plain
          (c.save.ensures.left told)) c.save.ensures.frame
          c.save.new.self c.in-Err.ensures.same_slots (with_items buf c.save.new.buf)
          (calls_err _ _ (plain_calls c.deref_mut-hands.result.now.slots _ _ r.whole.plain
          c.in-Err.ensures.calls));
      over = record { idle = refl; over = λ sound. absurd (cc) };
      broken = refl;
    })
