use Rattle.std.proofs.Common.{IsTrue, arith}
use Rattle.disk_face.proofs.WriteLaws.{within-trans, within-wider}
use Rattle.slot_pair.specs.Appends.{entry_for}
use Rattle.slot_pair.proofs.AppendLaws.{HasText, has_text, is_appended, left_gate, left_text, on_ok_both}
use Rattle.slot_pair.proofs.append.append_entry.Given.{Over}
use Rattle.slot_pair.proofs.append.append_entry.Goals as goal
use Rattle.slot_pair.proofs.append.append_entry.Goals.{In_ok-write_text}

-- the text stands behind the closed gate
written : (g : Over) (c : In_ok-write_text g) → IsTrue (g.D.Disk.state c.args.disk.now).tells
    → HasText c.args.at (entry_for c.args.header.now (g.T.Delta.changes c.args.delta.now))
    (g.D.Disk.state c.args.disk.now) (g.D.Disk.state c.write_text.new.disk)
written g c told = has_text c.args.at _ c.args.head.now c.requires.head told (c.requires.within told)
    c.write_text.ensures.writes (c.in_ok-write_text.ensures.text told)
    (c.in_ok-write_text.ensures.rests told)

pub returns-in_err-write_text-clause-left : goal.returns-in_err-write_text-clause-left
returns-in_err-write_text-clause-left g c = λ told.
    left_text c.args.at _ c.args.head.now c.requires.head told c.write_text.ensures.writes

pub returns-in_err-write_text-clause-writes : goal.returns-in_err-write_text-clause-writes
returns-in_err-write_text-clause-writes g c =
    within-wider _ _ (omega arith) (omega arith) c.write_text.ensures.writes

pub returns-clause-appended : goal.returns-clause-appended
returns-clause-appended g c = λ told.
    let was = written g (goal.at.returns-clause-appended g c).In_ok-write_text told in
    on_ok_both c.open_entry.result (is_appended was c.open_entry.ensures.writes)
    (c.open_entry.ensures.opened was.told) (c.open_entry.ensures.rests was.told)

pub returns-clause-left : goal.returns-clause-left
returns-clause-left g c = λ told.
    left_gate (written g (goal.at.returns-clause-left g c).In_ok-write_text told) c.open_entry.ensures.writes

pub returns-clause-writes : goal.returns-clause-writes
returns-clause-writes g c = within-trans
    (within-wider _ _ (omega arith) (omega arith) c.write_text.ensures.writes)
    (within-wider _ _ (omega arith) (omega arith) c.open_entry.ensures.writes)
