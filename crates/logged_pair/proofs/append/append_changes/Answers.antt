use Rattle.std.specs.Prelude.{◌≡◌, ◌+◌, IsTrue, length}
use Rattle.std.proofs.Common.{true, ap, subst, sym}
use Rattle.disk_face.specs.Writes.{WritesWithin}
use Rattle.slot_codec.specs.Entries.{entry_room}
use Rattle.logged_pair.specs.Pairs.{InLog}
use Rattle.logged_pair.specs.Saves.{ChangesLeave, appended, fits}
use Rattle.logged_pair.proofs.EntryDone.{ClosedFirst, left_first, left_given, on_ok, saved_given, within_given, wrote_entry, wrote_gate}
use Rattle.logged_pair.proofs.append.append_changes.Given.{Over}
use Rattle.logged_pair.proofs.append.append_changes.Goals as goal
use Rattle.logged_pair.proofs.append.append_changes.Goals.{After-close_first, In_ok-close_first}

-- the other slot is closed first
first : (g : Over) (c : After-close_first g) → IsTrue (g.D.Disk.state c.args.disk.now).tells
    → ClosedFirst c.args.pair.now c.args.header.now (g.T.Delta.before c.args.delta.now)
    (g.T.Roll.records c.args.delta.now) (g.T.Delta.changes c.args.delta.now)
    (g.D.Disk.state c.args.disk.now) (g.D.Disk.state c.close_first.new.disk)
first g c told = record {
  told = told;
  in_use = c.requires.in_use told;
  can = c.requires.save;
  whole = c.header_is_whole.ensures;
  roll = g.met.T.Roll.in_order c.args.delta.now;
  leads = record {
    fitting = g.met.T.Delta.fitting c.args.delta.now;
    few = g.met.T.Delta.few c.args.delta.now;
    applied = g.met.T.Delta.applied c.args.delta.now;
  };
  fits = subst (λ h. fits c.args.pair.now h (length (g.T.Roll.records c.args.delta.now)) ≡ true)
      c.requires.head c.requires.fits;
  wrote = c.close_first.ensures.writes;
  still = c.close_first.ensures.same;
}

pub returns-in_err-close_first-clause-writes : goal.returns-in_err-close_first-clause-writes
returns-in_err-close_first-clause-writes g c =
    wrote_gate {u = c.args.pair.now} (entry_room c.args.head.now) c.close_first.ensures.writes

pub returns-in_err-close_first-clause-left : goal.returns-in_err-close_first-clause-left
returns-in_err-close_first-clause-left g c = λ told.
    subst (λ h. ChangesLeave c.args.pair.now (appended c.args.pair.now h) c.args.header.now
    (g.T.Delta.before c.args.delta.now) (g.T.Roll.records c.args.delta.now)
    (g.D.Disk.state c.args.disk.now) (g.D.Disk.state c.close_first.new.disk)) (sym c.requires.head)
    (left_first (first g (goal.at.returns-in_err-close_first-clause-left g c).After-close_first told))

pub append_entry-requires-clause-within : goal.append_entry-requires-clause-within
append_entry-requires-clause-within g c = λ told.
    within_given (first g (goal.at.append_entry-requires-clause-within g c).After-close_first
    (subst IsTrue c.close_first.ensures.writes.stays.told told)) (ap (λ (u : InLog). u.end) c.pair.view_is)
    c.requires.head

pub returns-clause-writes : goal.returns-clause-writes
returns-clause-writes g c =
    wrote_entry {u = c.args.pair.now} (entry_room c.args.head.now) c.close_first.ensures.writes
    (subst (λ n. WritesWithin n (entry_room c.args.head.now + 1) (g.D.Disk.state c.close_first.new.disk)
    (g.D.Disk.state c.append_entry.new.disk)) (ap (λ (u : InLog). u.end) c.pair.view_is)
    c.append_entry.ensures.writes)

pub returns-clause-done : goal.returns-clause-done
returns-clause-done g c = λ told.
    let f = first g (goal.at.returns-clause-done g c).After-close_first told in
    let then : IsTrue (g.D.Disk.state c.close_first.new.disk).tells =
    subst IsTrue (sym c.close_first.ensures.writes.stays.told) told in
    on_ok c.append_entry.result (saved_given f (ap (λ (u : InLog). u.end) c.pair.view_is) c.requires.head
    c.append_entry.ensures.writes (c.append_entry.ensures.left then)
    (c.in_ok-close_first.ensures.closed told)) (c.append_entry.ensures.appended then)

pub returns-clause-left : goal.returns-clause-left
returns-clause-left g c = λ told.
    let f = first g (goal.at.returns-clause-left g c).After-close_first told in
    let then : IsTrue (g.D.Disk.state c.close_first.new.disk).tells =
    subst IsTrue (sym c.close_first.ensures.writes.stays.told) told in
    left_given f (ap (λ (u : InLog). u.end) c.pair.view_is) c.requires.head
    c.append_entry.ensures.writes (c.append_entry.ensures.left then)
