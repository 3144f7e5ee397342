use Rattle.std.proofs.Common.{arith, rules, subst, sym}
use Rattle.disk_face.specs.Frames.{Calls}
use Rattle.slot_pair.specs.Saves.{next_in_use, save_calls}
use Rattle.logged_pair.specs.Slots.{used_in}
use Rattle.logged_pair.proofs.PlainSlots.{plain_calls, plain_can, plain_done, plain_leaves, plain_next, plain_slots_in}
use Rattle.extent_table.proofs.ExtentLaws.{records_of-few}
use Rattle.extent_table.proofs.SaveLaws.{rolled_in_range}
use Rattle.flush_run.specs.FlushFrames.{MidFlush}
use Rattle.flush_run.proofs.HeldLaws.{save_mid_flush, save_mid_flush-done, save_mid_flush-opened}
use Rattle.flush_run.proofs.RolledLaws.{rolled_count}
use Rattle.flush_run.proofs.save.save_mid_flush.Goals as goal

pub save-requires-clause-save : goal.save-requires-clause-save
save-requires-clause-save g c =
    let e = c.args.hands.now.table in
    plain_can c.args.hands.now.slots _ _ _ _ c.requires.plain
    (record {
      fresh = c.requires.fresh;
      version = c.requires.version;
      ranges = c.requires.ranges;
      records = rolled_in_range e c.requires.table;
      count = omega (arith, rolled_count e.now e.digests, records_of-few e.now, c.requires.count);
    })

pub save-requires-clause-slots : goal.save-requires-clause-slots
save-requires-clause-slots g c told =
    plain_slots_in c.args.hands.now.slots _ c.requires.plain (c.requires.in_use told)

pub returns-in_err-save-clause-left : goal.returns-in_err-save-clause-left
returns-in_err-save-clause-left g c f told s was fresh =
    save_mid_flush f _ _ _ _ _ _ c.requires.table s
    (plain_leaves c.args.hands.now.slots _ _ _ _ _ _ _ c.requires.plain (c.save.ensures.left told)) was fresh

pub returns-in_err-save-clause-calls : goal.returns-in_err-save-clause-calls
returns-in_err-save-clause-calls g c =
    let e = c.args.hands.now.table in
    let calls = subst (λ n. Calls (save_calls n) (g.D.Disk.state c.args.disk.now)
    (g.D.Disk.state c.save.new.disk) c.save.result) (rolled_count e.now e.digests)
    (plain_calls c.args.hands.now.slots _ _ c.requires.plain c.save.ensures.calls) in
    search rules

pub returns-clause-calls : goal.returns-clause-calls
returns-clause-calls g c =
    let e = c.args.hands.now.table in
    let calls = subst (λ n. Calls (save_calls n) (g.D.Disk.state c.args.disk.now)
    (g.D.Disk.state c.save.new.disk) c.save.result) (rolled_count e.now e.digests)
    (plain_calls c.args.hands.now.slots _ _ c.requires.plain c.save.ensures.calls) in
    search rules

pub returns-clause-pair : goal.returns-clause-pair
returns-clause-pair g c =
    (plain_next c.args.hands.now.slots _ _ _ _ c.requires.plain c.in_ok-save.ensures.slots).0

pub returns-clause-left : goal.returns-clause-left
returns-clause-left g c f told s was fresh =
    save_mid_flush f _ _ _ _ _ _ c.requires.table s
    (plain_leaves c.args.hands.now.slots _ _ _ _ _ _ _ c.requires.plain (c.save.ensures.left told)) was fresh

pub returns-clause-flies : goal.returns-clause-flies
returns-clause-flies g c f told s was =
    let d = g.D.Disk.state c.save.new.disk in
    let u = used_in c.args.hands.now.slots in
    let e = c.args.hands.now.table in
    let plain = c.requires.plain in
    let next = c.in_ok-save.ensures.slots in
    let saved = save_mid_flush-done f _ _ _ _ (g.D.Disk.state c.args.disk.now) d c.requires.table s
    (c.save.ensures.left told).data_part
    (plain_done c.args.hands.now.slots _ _ _ _ _ _ _ _ plain next.slots (c.in_ok-save.ensures.done told)) was
    in
    subst (λ v. MidFlush f v c.keep.new.self.now c.keep.new.self.kept d.file d.may_leave)
    (sym (plain_next c.args.hands.now.slots _ _ _ _ plain next).0)
    (subst (λ k. MidFlush f (next_in_use u) c.keep.new.self.now k d.file d.may_leave)
    (sym c.keep.ensures.kept)
    (subst (λ n. MidFlush f (next_in_use u) n e.now d.file d.may_leave) (sym c.keep.ensures.now) saved))

pub returns-clause-opened : goal.returns-clause-opened
returns-clause-opened g c f told fresh s was =
    save_mid_flush-opened f _ _ _ _ (g.D.Disk.state c.args.disk.now)
    (g.D.Disk.state c.save.new.disk) c.requires.table s (c.save.ensures.left told).data_part fresh
    (plain_done c.args.hands.now.slots _ _ _ _ _ _ _ _ c.requires.plain c.in_ok-save.ensures.slots.slots
    (c.in_ok-save.ensures.done told)) was
