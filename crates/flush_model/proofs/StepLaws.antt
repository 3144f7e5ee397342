-- Each next move is a step of its phase.
use Rattle.std.specs.Prelude.{Contains}
use Rattle.std.proofs.Common.{arith}
use Rattle.flush_model.specs.declared.item.Move.{Move}
use Rattle.flush_model.specs.Plans.{IsNextLay, IsNextLift, IsNextPack, mover}
use Rattle.flush_model.specs.Phases.{AreItems, IsLaying, IsLifting, IsPacking, PlanState}
use Rattle.flush_model.specs.Steps.{IsLayStep, IsLiftStep, IsMover, IsPackStep}
use Rattle.flush_model.proofs.LiftLaws.{lift_past, lift_safe}
use Rattle.flush_model.proofs.PackLaws.{pack_far, pack_safe, pack_sides}
use Rattle.flush_model.proofs.LayLaws.{lay_far, lay_safe, lay_sides}
use Rattle.flush_model.proofs.PhaseLaws.{laying_moved, lifting_moved, packing_moved}
use Rattle.flush_model.proofs.WaitingLaws.{lay_fewer, lay_progress, lift_fewer, lift_progress, pack_fewer, pack_keeps_lifted, pack_progress}
use Rattle.flush_model.proofs.RowLaws.{below_stays, packed_few, packed_grows, packed_row}
use Rattle.flush_model.proofs.FrontLaws.{laid_behind, laid_moves, waiting_falls, waiting_row}
use Rattle.flush_model.proofs.LargestLaws.{largest-of, largest-relocated}

moves_item : (p : PlanState) (mv : Move) → AreItems p.numbers p.items → Contains p.items (mover mv)
    → IsMover p mv
moves_item p mv are has = record {
  has = has;
  some = are.some (mover mv) has;
  class = are.class (mover mv) has;
  from = are.from (mover mv) has;
  start = are.start (mover mv) has;
}

pub lift_step : (p : PlanState) (mv : Move) → IsLifting p
    → IsNextLift p.k p.caps p.numbers p.pending p.items mv → IsLiftStep p mv
lift_step p mv is next = record {
  next = next;
  item = moves_item p mv is.items next.item;
  safe = lift_safe p.k p.caps p.numbers p.pending p.items is.items is.lifting mv next;
  past = omega (
    arith,
    is.lifting.old_end,
    lift_past p.k p.caps p.numbers p.pending p.items is.items is.lifting mv next,
  );
  fewer = lift_fewer p is mv next;
  progress = lift_progress p is mv next;
  after = lifting_moved p mv is next;
}

pub pack_step : (p : PlanState) (mv : Move) → IsPacking p → IsNextPack p.numbers p.items mv → IsPackStep p mv
pack_step p mv is next = record {
  next = next;
  item = moves_item p mv is.items next.item;
  safe = pack_safe p.k p.numbers p.items is.items is.resumes mv next is.reaches;
  far = pack_far p.k p.numbers p.items is.items is.resumes mv next;
  sides = pack_sides p.k p.numbers p.items is.items is.resumes mv next;
  small = largest-of 0 p.items (mover mv) next.item;
  largest = largest-relocated 0 mv.key mv.to p.items;
  row = packed_row p is mv next;
  grows = packed_grows p is mv next;
  few = packed_few p is mv next;
  below = below_stays p is mv next;
  fewer = pack_fewer p is mv next;
  progress = pack_progress p is mv next;
  lifted = pack_keeps_lifted p is mv next;
  before = is;
  after = packing_moved p mv is next;
}

pub lay_step : (p : PlanState) (mv : Move) → IsLaying p → IsNextLay p.k p.numbers p.items mv → IsLayStep p mv
lay_step p mv is next =
    let q = is.packing in
    record {
      next = next;
      item = moves_item p mv q.items next.item;
      safe = lay_safe p.k p.numbers p.items q.items q.resumes is.laying mv next q.reaches;
      far = lay_far p.k p.numbers p.items q.items q.resumes is.laying mv next;
      sides = lay_sides p.k p.numbers p.items q.items q.resumes is.laying mv next;
      small = largest-of 0 p.items (mover mv) next.item;
      largest = largest-relocated 0 mv.key mv.to p.items;
      row = waiting_row p is mv next;
      falls = waiting_falls p is mv next;
      behind = laid_behind p is mv next;
      laid = laid_moves p is mv next;
      fewer = lay_fewer p is mv next;
      progress = lay_progress p is mv next;
      before = is;
      after = laying_moved p mv is next;
    }
