use Rattle.std.proofs.Common.{arith, ap, sym, subst, ◌∙◌, ◌≡◌, ◌+◌}
use Rattle.std.specs.Prelude.{min, slice_index}
use Rattle.size_class.specs.Classes.{class_of}
use Rattle.table_check.specs.Placed.{ranked}
use Rattle.table_check.proofs.SuffixLaws.{OrderSoFar, order_breaks, order_ends, order_holds, order_none}
use Rattle.table_check.proofs.resume.first_out_of_order.Goals as goal
use Rattle.table_check.proofs.resume.first_out_of_order.Goals.{then-class-greatest, else-class-greatest}

pub records-init : goal.records-init
records-init c = subst (λ n. OrderSoFar c.args.table.now c.args.frame.now c.args.order.now 0 n 0)
    (sym c.count-least.ensures.value)
    (order_none c.args.table.now c.args.frame.now c.args.order.now c.requires.order c.requires.apart)

pub records-preserved : goal.records-preserved
records-preserved c =
    let e = c.args.table.now in
    let f = c.args.frame.now in
    let order = c.args.order.now in
    let at = c.records.at in
    let class : c.class_at-class.result ≡ class_of (ranked e (slice_index order at)).size =
    c.class_at-class.ensures.same ∙ ap class_of c.spot_at.ensures.size
    ∙ ap (λ i. class_of (ranked e i).size) c.from-rank.ensures in
    elim c.if-class-greatest.branch [
      | then-class-greatest w ↦
          subst (λ x. OrderSoFar e f order (at + 1) x c.if-class-greatest.greatest)
          (sym (w.least-is ∙ w.min-least.ensures ∙ ap (min c.records.least) c.from-rank.ensures))
          (subst (λ x. OrderSoFar e f order (at + 1) (min c.records.least (slice_index order at)) x)
          (sym w.greatest-is)
          (order_breaks e f order c.requires.order c.requires.apart at c.records.least c.records.greatest
          c.records.invariant c.records-test.true (omega (arith, class, w.if-class-greatest.true))))
      | else-class-greatest w ↦
          subst (λ x. OrderSoFar e f order (at + 1) x c.if-class-greatest.greatest) (sym w.least-is)
          (subst (λ x. OrderSoFar e f order (at + 1) c.records.least x) (sym (w.greatest-is ∙ class))
          (order_holds e f order c.requires.order c.requires.apart at c.records.least c.records.greatest
          c.records.invariant c.records-test.true (omega (arith, class, w.if-class-greatest.false))))
    ]

pub returns : goal.returns
returns c = order_ends c.args.table.now c.args.frame.now c.args.order.now c.requires.order c.requires.apart
    c.records.at c.records.least c.records.greatest c.records.invariant c.records-test.false
