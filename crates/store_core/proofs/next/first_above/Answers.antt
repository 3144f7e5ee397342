use Rattle.std.specs.Prelude.{◌≡◌, true, false}
use Rattle.std.proofs.Common.{◌∙◌, arith, rules, subst, sym}
use Rattle.store_model.specs.Above.{is_above}
use Rattle.store_model.proofs.AboveLaws.{IsHalved, first_none, first_some, halved_down, halved_first, halved_up}
use Rattle.store_core.proofs.next.first_above.Goals as goal

pub halves-init : goal.halves-init
halves-init c = subst (λ n. IsHalved c.args.bytes.now c.args.table.now.now 0 n) (sym c.count-count.ensures.value)
    (halved_first c.args.bytes.now c.args.table.now.now)

pub in_order-name-requires : goal.in_order-name-requires
in_order-name-requires c = omega (arith, c.halves.invariant.within, c.halves-test.true)

pub halves-preserved-then-is_lt : goal.halves-preserved-then-is_lt
halves-preserved-then-is_lt c =
    let above : is_above c.args.bytes.now c.in_order-name.result.1 ≡ true = search rules in
    halved_down c.halves.invariant _ (omega arith) (omega arith) _ c.in_order-name.ensures.entry above

pub halves-preserved : goal.halves-preserved
halves-preserved c =
    let below : is_above c.args.bytes.now c.in_order-name.result.1 ≡ false = search rules in
    halved_up c.halves.invariant _ (omega arith) (omega arith) _ c.in_order-name.ensures.entry below

pub returns-then-low-count : goal.returns-then-low-count
returns-then-low-count c = sym (first_none c.halves.invariant c.halves-test.false
    (omega (arith, c.if-low-count.true, c.count-count.ensures.value)))

pub in_order-name-requires-2 : goal.in_order-name-requires-2
in_order-name-requires-2 c = omega (
  arith,
  c.if-low-count.false,
  c.count-count.ensures.value,
  c.halves.invariant.ordered,
  c.halves.invariant.within,
)

pub returns : goal.returns
returns c = sym (first_some c.halves.invariant c.halves-test.false c.in_order-name-2.result.1
    c.in_order-name-2.result.2 c.in_order-name-2.ensures.entry)
