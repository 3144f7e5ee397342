use Rattle.std.proofs.Common.{length, sym, subst}
use Rattle.slot_pair.specs.Appends.{head_for}
use Rattle.logged_pair.specs.Saves.{AreSaved}
use Rattle.logged_pair.specs.Slots.{IsTableSaved, TableSaveLeaves, next_slots}
use Rattle.logged_pair.specs.declared.slots.Slots.{Slots}
use Rattle.logged_pair.specs.declared.slots.Slots.TheVariants as slots
use Rattle.logged_pair.proofs.EntryDone.{on_ok}
use Rattle.logged_pair.proofs.SlotLaws.{logged_done, logged_left, plain_left}
use Rattle.logged_pair.proofs.slots.Slots.save.Goals as goal

pub returns-in-Plain-clause-left : goal.returns-in-Plain-clause-left
returns-in-Plain-clause-left g c told =
    let h = c.args.header.now in
    let before = g.T.Delta.before c.args.delta.now in
    let now = g.T.Roll.records c.args.delta.now in
    let head = head_for h (g.T.Delta.changes c.args.delta.now) in
    let a = g.D.Disk.state c.args.disk.now in
    let b = g.D.Disk.state c.save.new.disk in
    subst (λ (s : Slots). TableSaveLeaves s (next_slots s head (length now)) h before now a b)
    (sym c.in-Plain.is) (plain_left c.in-Plain.pair h before now a b (c.save.ensures.left told))

pub returns-in-Logged-clause-done : goal.returns-in-Logged-clause-done
returns-in-Logged-clause-done g c told =
    let h = c.args.header.now in
    let before = g.T.Delta.before c.args.delta.now in
    let now = g.T.Roll.records c.args.delta.now in
    let a = g.D.Disk.state c.args.disk.now in
    let b = g.D.Disk.state c.save-in-Logged.new.disk in
    let w = c.save-in-Logged.new.self in
    on_ok c.save-in-Logged.result
    (λ (done : AreSaved c.in-Logged.pair w h before now a b).
    subst (λ (s : Slots). IsTableSaved s (slots.Logged w) h before now a b) (sym c.in-Logged.is)
    (logged_done c.in-Logged.pair w h before now a b (g.met.T.Roll.in_order c.args.delta.now)
    c.requires.save.records done)) (c.save-in-Logged.ensures.done told)

pub returns-in-Logged-clause-left : goal.returns-in-Logged-clause-left
returns-in-Logged-clause-left g c told =
    let h = c.args.header.now in
    let before = g.T.Delta.before c.args.delta.now in
    let now = g.T.Roll.records c.args.delta.now in
    let head = head_for h (g.T.Delta.changes c.args.delta.now) in
    let a = g.D.Disk.state c.args.disk.now in
    let b = g.D.Disk.state c.save-in-Logged.new.disk in
    subst (λ (s : Slots). TableSaveLeaves s (next_slots s head (length now)) h before now a b)
    (sym c.in-Logged.is) (logged_left c.in-Logged.pair _ h before now a b
    (g.met.T.Roll.in_order c.args.delta.now) c.requires.save.records (c.save-in-Logged.ensures.left told))
