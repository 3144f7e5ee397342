use Rattle.std.specs.Prelude.{◌||◌, is_some}
use Rattle.batch_model.specs.Parts.{change_of}
use Rattle.batch_core.proofs.CountingLaws.{counting_few, counting_low, counting_more, counting_stops}
use Rattle.batch_core.proofs.fit.first_misfit.Goals as goal

pub returns-then-not-comes : goal.returns-then-not-comes
returns-then-not-comes g c changes batch =
    counting_stops c.args.again c.args.store.now changes c.parts.rest.now
    c.in-Some.part.rest.now c.parts.count c.parts.n (change_of c.in-Some.part)
    (c.parts.invariant.0 changes batch) c.in-Some.ensures.0 c.in-Some.ensures.1 c.is_live-live.result
    c.count_after-after.result c.cap-cap.result c.comes.result c.is_live-live.ensures
    c.count_after-after.ensures c.cap-cap.ensures c.comes.ensures c.if-not-comes.true

pub parts-preserved : goal.parts-preserved
parts-preserved g c = (
  λ changes batch.
      counting_more c.args.again c.args.store.now changes c.parts.rest.now
      c.in-Some.part.rest.now c.parts.count c.parts.n (change_of c.in-Some.part)
      (c.parts.invariant.0 changes batch) c.in-Some.ensures.0 c.in-Some.ensures.1 c.is_live-live.result
      c.count_after-after.result c.cap-cap.result c.comes.result c.is_live-live.ensures
      c.count_after-after.ensures c.cap-cap.ensures c.comes.ensures c.if-not-comes.false,
  counting_low (is_some (change_of c.in-Some.part).object || c.args.again || c.is_live-live.result)
      c.count_after-after.result c.cap-cap.result c.comes.result c.comes.ensures c.if-not-comes.false,
  counting_few c.parts.rest.now c.in-Some.part.rest.now c.args.text.now c.parts.n (change_of c.in-Some.part)
      c.in-Some.ensures.1 c.parts.invariant.2,
)
