use Rattle.std.proofs.Common.{arith, ap, sym, subst, ◌∙◌}
use Rattle.std.specs.Prelude.{min}
use Rattle.table_rules.specs.Rules.{places_to_resume}
use Rattle.table_rules.specs.Breaks.{BreaksAt}
use Rattle.table_check.specs.Placed.{placed}
use Rattle.table_check.proofs.SuffixLaws.{first_of_three}
use Rattle.table_check.proofs.resume.first_misplaced.Goals as goal

pub returns-then-first-count-clause-first : goal.returns-then-first-count-clause-first
returns-then-first-count-clause-first c =
    let t = placed c.args.table.now c.args.frame.now in
    let first = c.min-first.ensures ∙ ap (λ x. min x c.first_narrow_gap-gap.result) c.min.ensures in
    subst (BreaksAt places_to_resume t) (sym first)
    (first_of_three t c.first_across_wall-beside.result c.first_out_of_order-ordered.result
    c.first_narrow_gap-gap.result c.requires.moving c.first_across_wall-beside.ensures
    c.first_out_of_order-ordered.ensures c.first_narrow_gap-gap.ensures
    (omega (arith, first, c.if-first-count.true, c.count.ensures.value)))
