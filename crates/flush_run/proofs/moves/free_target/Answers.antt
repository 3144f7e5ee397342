use Rattle.std.proofs.Common.{refl}
use Rattle.logged_pair.specs.Slots.{used_in}
use Rattle.flush_run.specs.Parts.{parts_of}
use Rattle.flush_run.proofs.LeftLaws.{left_still}
use Rattle.flush_run.proofs.MakeMoveLaws.{save_as}
use Rattle.flush_run.proofs.moves.free_target.Goals as goal

pub returns-in_default-clause-left : goal.returns-in_default-clause-left
returns-in_default-clause-left g c f told can was =
    left_still f (used_in c.args.hands.now.slots) c.args.hands.now.table (g.D.Disk.state c.args.disk.now) was

pub returns-then-not-touches-clause-left : goal.returns-then-not-touches-clause-left
returns-then-not-touches-clause-left g c f told can was =
    left_still f (used_in c.args.hands.now.slots) c.args.hands.now.table (g.D.Disk.state c.args.disk.now) was

pub returns-then-not-touches-clause-answer : goal.returns-then-not-touches-clause-answer
returns-then-not-touches-clause-answer g c = record {
  apart = c.touches.ensures.apart c.if-not-touches.true;
  pair = refl;
  table = refl;
  guard = refl;
}

pub returns-in_err-save_mid_flush-clause-left : goal.returns-in_err-save_mid_flush-clause-left
returns-in_err-save_mid_flush-clause-left g c f told can was =
    c.save_mid_flush.ensures.left f told (save_as f (parts_of c.args.hands.now) can c.in-Some.is
    c.moving_header-header.ensures.header) was

pub returns-clause-left : goal.returns-clause-left
returns-clause-left g c f told can was =
    c.save_mid_flush.ensures.left f told (save_as f (parts_of c.args.hands.now) can c.in-Some.is
    c.moving_header-header.ensures.header) was

pub returns-clause-flies : goal.returns-clause-flies
returns-clause-flies g c f told can was =
    c.in_ok-save_mid_flush.ensures.flies f told (save_as f (parts_of c.args.hands.now) can c.in-Some.is
    c.moving_header-header.ensures.header) was
