use Rattle.std.proofs.Common.{◌∙◌, arith, sym}
use Rattle.store_model.proofs.CopyChargesLaws.{charged_loud, charged_quiet, put_plan}
use Rattle.store_model.proofs.PlanLaws.{put_served}
use Rattle.store_model.proofs.ServeLaws.{serves_quietly}
use Rattle.store_core.proofs.store.Store.put_accepted.Goals as goal

pub charge-charged-requires : goal.charge-charged-requires
charge-charged-requires g c =
    let can = put_served c.args.self.now c.args.name.now c.args.bytes.now c.requires.served in
    (omega arith, (omega arith, (can.whole, (c.requires.over.idle, can.small))))

pub put_planned-requires : goal.put_planned-requires
put_planned-requires g c = (
  omega arith,
  (
    omega arith,
    (
      c.requires.ready,
      (
        c.requires.over,
        (
          c.charge-charged.ensures.sound,
          put_plan c.in-Some.place (sym c.place.ensures ∙ c.in-Some.is) c.charge-charged.ensures.charges
              c.requires.served,
        ),
      ),
    ),
  ),
)

pub flush_change-requires : goal.flush_change-requires
flush_change-requires g c = (
  omega arith,
  (
    omega arith,
    (
      c.requires.ready,
      (
        c.requires.over,
        (
          λ bad. absurd (cc),
          (
            c.requires.served,
            (
              c.charge-charged.ensures.charges,
              charged_loud c.charge-charged.ensures.charges (sym c.place.ensures ∙ c.in-None.is),
            ),
          ),
        ),
      ),
    ),
  ),
)

pub returns-in-Some : goal.returns-in-Some
returns-in-Some g c = serves_quietly
    (charged_quiet c.charge-charged.ensures.charges c.in-Some.place (sym c.place.ensures ∙ c.in-Some.is))
    c.put_planned.ensures.answer c.put_planned.ensures.quiet c.put_planned.ensures.step
    c.put_planned.ensures.over c.put_planned.ensures.broken

pub returns-in-None : goal.returns-in-None
returns-in-None g c = c.flush_change.ensures
