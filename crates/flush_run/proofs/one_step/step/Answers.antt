use Rattle.disk_face.specs.declared.DiskFault.{DiskFault}
use Rattle.flush_run.proofs.OneStepLaws.{came_to_end, paid_at_end, went_on}
use Rattle.flush_run.proofs.one_step.step.Goals as goal

pub returns-in-Ok-None : goal.returns-in-Ok-None
returns-in-Ok-None g c =
    let e = c.in-Ok-None.ensures in
    let m = went_on DiskFault c.args.phase _ _ _ _ _ c.in-Ok-None.field-0 c.in-Ok-None.field-0-is e.made
    e.goes e.keeps e.paid in
    record {
      goes = m.on;
      left = e.left;
      keeps = m.keeps;
      paid = m.paid;
      made = m.made;
      cause = record { later = e.cause.later; rose = tt; calm = e.cause.calm };
    }

pub returns-in-Ok-Some : goal.returns-in-Ok-Some
returns-in-Ok-Some g c =
    let e = c.in-Ok-Some.ensures in
    let s = came_to_end DiskFault c.args.phase _ _ _ _ _ c.in-Ok-Some.field-0 c.in-Ok-Some.settled
    c.in-Ok-Some.field-0-is e.made e.goes in
    record {
      goes = s.ends;
      left = e.left;
      keeps = tt;
      paid = λ q p.
          paid_at_end DiskFault c.step_on.new.at _ c.in-Ok-Some.field-0 c.in-Ok-Some.settled
          c.in-Ok-Some.field-0-is q (e.paid q p);
      made = s.ended;
      cause = record { later = e.cause.later; rose = tt; calm = e.cause.calm };
    }
