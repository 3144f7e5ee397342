use Rattle.std.proofs.Common.{IsTrue, arith, lit<, rules, subst, sym}
use Rattle.flush_run.proofs.LeftLaws.{left_then}
use Rattle.store_model.proofs.MakeFlushLaws.{can_run, flown_then}
use Rattle.store_core.proofs.flush.make_flush.Goals as goal

pub run-requires : goal.run-requires
run-requires g c = (
  lit< tt,
  (
    lit< tt,
    (
      lit< tt,
      (
        c.launch.ensures.frame.stays.ready,
        (
          record { buffer = c.requires.buffer; few = c.requires.fits },
          (
            (
              _,
              can_run c.requires.start.3 _ (λ told. c.in_ok-launch.ensures.flies _ _ _ c.requires.start.3
                  (subst IsTrue c.launch.ensures.frame.stays.told told)),
            ),
            c.requires.keeps,
          ),
        ),
      ),
    ),
  ),
)

pub returns-in-Ok-clause-ends : goal.returns-in-Ok-clause-ends
returns-in-Ok-clause-ends g c x0 c' g' can = c.in-Ok.ensures.ends _ (can_run can _
    (λ told. c.in_ok-launch.ensures.flies x0 c' g' can (subst IsTrue c.launch.ensures.frame.stays.told told)))

pub returns-in-Ok-clause-left : goal.returns-in-Ok-clause-left
returns-in-Ok-clause-left g c x0 c' g' can told =
    left_then (omega (arith, c.run.ensures.made.later)) (c.launch.ensures.left x0 c' g' can told)
    (c.run.ensures.left _ (can_run can _ (λ again. c.in_ok-launch.ensures.flies x0 c' g' can told))
    (subst IsTrue (sym c.launch.ensures.frame.stays.told) told))

pub returns-in-Ok-clause-made : goal.returns-in-Ok-clause-made
returns-in-Ok-clause-made g c = flown_then c.launch.ensures.frame (search rules) (search rules)
    c.run.ensures.made c.run.ensures.saves

pub returns-in-Err-clause-left : goal.returns-in-Err-clause-left
returns-in-Err-clause-left g c x0 c' g' can told =
    left_then (omega (arith, c.run.ensures.made.later)) (c.launch.ensures.left x0 c' g' can told)
    (c.run.ensures.left _ (can_run can _ (λ again. c.in_ok-launch.ensures.flies x0 c' g' can told))
    (subst IsTrue (sym c.launch.ensures.frame.stays.told) told))

pub returns-in-Err-clause-made : goal.returns-in-Err-clause-made
returns-in-Err-clause-made g c = flown_then c.launch.ensures.frame (search rules) (search rules)
    c.run.ensures.made c.run.ensures.saves
