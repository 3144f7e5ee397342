use Rattle.std.proofs.Common.{◌∙◌, ap, arith, lit<, refl, subst, sym}
use Rattle.std.proofs.lemmas.List.Sorted.{IsPermutation-refl}
use Rattle.segment_layout.specs.Layouts.{caps_of, divisor_of}
use Rattle.flush_run.specs.Hands.{suffix_items}
use Rattle.flush_plan.specs.Lifts.{KeepsLifting}
use Rattle.flush_plan.specs.Shelves.{course_of}
use Rattle.store_model.proofs.BeginLaws.{items_from, start_begins, start_flush, start_low, start_on_shelf, started_now}
use Rattle.store_core.proofs.begin.start_lifting.Goals as goal

pub numbers-found-requires : goal.numbers-found-requires
numbers-found-requires g c =
    let start = c.requires.start in (
      lit< tt,
      (
        c.requires.fits,
        (
          start_low start,
          (
            (suffix_items c.args.b c.args.table.now, start_flush start, start_on_shelf start),
            (omega arith, λ some. absurd (omega (arith, some))),
          ),
        ),
      ),
    )

pub new-requires : goal.new-requires
new-requires g c =
    let start = c.requires.start in
    let found = c.numbers-found.ensures (suffix_items c.args.b c.args.table.now) (start_on_shelf start) in (
      lit< tt,
      (
        lit< tt,
        (c.requires.fits, (omega (arith, start_low start, ap (λ n. n.boundary) found), tt)),
      ),
    )

pub returns-clause-started : goal.returns-clause-started
returns-clause-started g c =
    let k = divisor_of c.args.layout.now in
    let caps = caps_of c.args.layout.now in
    let found = c.numbers-found.ensures (suffix_items c.args.b c.args.table.now)
    (start_on_shelf c.requires.start) in
    started_now c.new.result.course (c.new.ensures.course ∙ ap (λ n. course_of k caps n 0) found)

pub returns-clause-keeps : goal.returns-clause-keeps
returns-clause-keeps g c =
    let k = divisor_of c.args.layout.now in
    let caps = caps_of c.args.layout.now in
    let e = c.args.table.now in
    let items = suffix_items c.args.b e in
    let found = c.numbers-found.ensures items (start_on_shelf c.requires.start) in
    let course = c.new.ensures.course ∙ ap (λ n. course_of k caps n 0) found in
    subst (KeepsLifting g.row.C c.new.result) (sym (items_from e c.new.result.course course refl))
    (c.new.ensures.keeps items items (start_begins c.requires.start c.numbers-found.result found)
    (IsPermutation-refl items))
