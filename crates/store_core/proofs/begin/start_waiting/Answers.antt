use Rattle.std.specs.Prelude.{IsPermutation, Some}
use Rattle.std.proofs.Common.{◌∙◌, ◌-◌, ap, arith, lit<, refl, subst, sym}
use Rattle.segment_layout.specs.Layouts.{caps_of, divisor_of}
use Rattle.flush_model.specs.Begins.{Begins, with_pending}
use Rattle.flush_run.specs.Hands.{suffix_items}
use Rattle.flush_run.specs.Shelved.{items_now, phase_now}
use Rattle.store_model.specs.Starts.{IsWith}
use Rattle.store_model.proofs.OutcomeLaws.{class_low}
use Rattle.flush_plan.specs.Shelves.{course_of}
use Rattle.size_class.specs.declared.TheConstants.{SIZE_MAX}
use Rattle.store_model.proofs.BeginLaws.{items_waiting, start_flush, start_holds, start_low, start_on_shelf, start_reach, start_waits}
use Rattle.store_core.proofs.begin.start_waiting.Goals as goal

pub numbers-found-requires : goal.numbers-found-requires
numbers-found-requires g c =
    let start = c.requires.start in (
      lit< tt,
      (
        c.requires.fits,
        (
          start_low start,
          (
            (suffix_items c.args.b c.args.hands.now.table, start_flush start, start_on_shelf start),
            (
              omega (arith, c.requires.small),
              λ some. class_low g.row.C SIZE_MAX c.args.size c.requires.wide some c.requires.small,
            ),
          ),
        ),
      ),
    )

pub overflow_sub-place : goal.overflow_sub-place
overflow_sub-place g c =
    let found = c.numbers-found.ensures (suffix_items c.args.b c.args.hands.now.table)
    (start_on_shelf c.requires.start) in
    let holds = start_holds c.requires.start c.args.size c.requires.small in
    omega (arith, holds, ap (λ n. n.reach) found)

pub set-key-requires-clause-range : goal.set-key-requires-clause-range
set-key-requires-clause-range g c =
    let found = c.numbers-found.ensures (suffix_items c.args.b c.args.hands.now.table)
    (start_on_shelf c.requires.start) in (
      omega (arith, ap (λ n. n.reach) found, start_reach c.requires.start c.args.size c.requires.small),
      omega (arith, c.requires.small),
    )

pub new-requires : goal.new-requires
new-requires g c =
    let start = c.requires.start in
    let found = c.numbers-found.ensures (suffix_items c.args.b c.args.hands.now.table)
    (start_on_shelf start) in
    let low = class_low g.row.C SIZE_MAX c.args.size c.requires.wide c.requires.some c.requires.small in (
      lit< tt,
      (
        lit< tt,
        (
          c.requires.fits,
          (
            omega (arith, start_low start, ap (λ n. n.boundary) found),
            omega (arith, low, c.class_of.ensures.same),
          ),
        ),
      ),
    )

pub returns-clause-starts : goal.returns-clause-starts
returns-clause-starts g c =
    let k = divisor_of c.args.hands.now.layout in
    let caps = caps_of c.args.hands.now.layout in
    let e = c.args.hands.now.table in
    let found = c.numbers-found.ensures (suffix_items c.args.b e) (start_on_shelf c.requires.start) in
    let course = c.new.ensures.course ∙ ap (λ n. course_of k caps n c.args.size) found in
    let joins : IsWith c.args.name.now (record {
      place = c.numbers-found.result.reach - c.args.size;
      size = c.args.size;
    }) c.set-key.result e c.set-key.new.self = search (c.set-key.ensures, c.set-key.ensures.rest) in
    record {
      key = c.set-key.result;
      joins = joins;
      digests = c.set-key.ensures.digests;
      rest = refl;
      value = ap (λ q. phase_now q c.set-key.new.self) course;
      ends = (let holds = start_holds c.requires.start c.args.size c.requires.small in
          omega (arith, holds, ap (λ n. n.reach) found, ap (λ q. q.numbers.reach) c.new.ensures.course));
    }

pub returns-clause-keeps : goal.returns-clause-keeps
returns-clause-keeps g c =
    let k = divisor_of c.args.hands.now.layout in
    let caps = caps_of c.args.hands.now.layout in
    let e = c.args.hands.now.table in
    let items = suffix_items c.args.b e in
    let place = c.numbers-found.result.reach - c.args.size in
    let found = c.numbers-found.ensures items (start_on_shelf c.requires.start) in
    let course = c.new.ensures.course ∙ ap (λ n. course_of k caps n c.args.size) found in
    let joins : IsWith c.args.name.now (record {
      place = c.numbers-found.result.reach - c.args.size;
      size = c.args.size;
    }) c.set-key.result e c.set-key.new.self = search (c.set-key.ensures, c.set-key.ensures.rest) in
    let is = items_waiting c.new.result.course course c.requires.new joins c.requires.some c.requires.high in
    let holds = start_holds c.requires.start c.args.size c.requires.small in
    let begins = start_waits c.requires.start c.args.size c.requires.small c.numbers-found.result found
    c.args.name.now (record { place = place; size = c.args.size }) c.set-key.result c.set-key.new.self
    c.requires.new joins refl c.requires.some c.requires.high
    (omega (arith, holds, ap (λ n. n.reach) found)) in
    c.new.ensures.keeps items (items_now c.new.result.course c.set-key.new.self)
    (subst (λ cl. Begins k caps c.numbers-found.result items (Some (record {
      key = c.set-key.result;
      class = cl;
      place = place;
      size = c.args.size;
    }))) (sym c.class_of.ensures.same) begins)
    (subst (λ cl. IsPermutation (with_pending items (Some (record {
      key = c.set-key.result;
      class = cl;
      place = place;
      size = c.args.size;
    }))) (items_now c.new.result.course c.set-key.new.self)) (sym c.class_of.ensures.same) is)
