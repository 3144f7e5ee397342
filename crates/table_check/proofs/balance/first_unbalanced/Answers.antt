use Rattle.std.proofs.Common.{arith, inl, inr, subst, sym, ◌∙◌, ◌≡◌}
use Rattle.std.proofs.lemmas.Bool.{cases_lt, false≢true}
use Rattle.table_rules.specs.Rules.{Balances}
use Rattle.table_check.specs.Placed.{placed}
use Rattle.table_check.proofs.balance.first_unbalanced.Goals as goal

pub returns-then-not-is_balanced-clause-first : goal.returns-then-not-is_balanced-clause-first
returns-then-not-is_balanced-clause-first c =
    let t = placed c.args.table.now c.args.frame.now in
    record {
      here = omega arith;
      before = λ i less. c.classes.invariant i (omega arith);
      broken = λ holds. absurd (false≢true (sym c.if-not-is_balanced.true
          ∙ c.is_balanced.ensures.1 (subst (Balances t) c.from.ensures holds)));
    }

pub classes-preserved : goal.classes-preserved
classes-preserved c = λ i less. elim (cases_lt i c.classes.c) [
  | inl low ↦ c.classes.invariant i low
  | inr above ↦ let e : c.classes.c ≡ i = omega (arith, above, less) in
      subst (Balances (placed c.args.table.now c.args.frame.now)) e
      (c.is_balanced.ensures.0 c.if-not-is_balanced.false)
]

pub returns-clause-none : goal.returns-clause-none
returns-clause-none c = λ _. λ i less. c.classes.invariant i (omega arith)
