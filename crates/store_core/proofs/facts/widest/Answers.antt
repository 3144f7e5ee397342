use Rattle.std.specs.Prelude.{◌≡◌, ℕ, ◌-◌, ◌*◌, ◌%◌, ◌^◌, ◌≤◌, List, length, slice_index}
use Rattle.std.proofs.Common.{◌∙◌, ap, arith, inl, inr, subst, sym}
use Rattle.std.proofs.lemmas.Bool.{cases_lt}
use Rattle.store_model.specs.Facts.{widest_of}
use Rattle.store_model.proofs.FactsLaws.{classes_in-above, widest_shifted}
use Rattle.store_core.proofs.facts.widest.Goals as goal
use Rattle.store_core.proofs.facts.widest.Goals.{else-caps-c-gt0, then-caps-c-gt0}

pub classes-preserved : goal.classes-preserved
classes-preserved g c =
    let seen = c.classes.invariant in
    elim c.if-caps-c-gt0.branch [
      | then-caps-c-gt0 w ↦ record {
        low = omega (arith, w.upto-is);
        some = omega (
          arith,
          w.upto-is,
          classes_in-above c.cells-caps.result c.classes.c (omega (arith, w.if-caps-c-gt0.true)),
        );
        none = λ k from below. absurd (omega (arith, w.upto-is, from, below));
      }
      | else-caps-c-gt0 w ↦ record {
        low = omega (arith, w.upto-is, seen.low);
        some = omega (arith, w.upto-is, seen.some);
        none = λ k from below. elim (cases_lt k c.classes.c) [
          | inl before ↦ seen.none k (omega (arith, w.upto-is, from)) before
          | inr here ↦
              let same : k ≡ c.classes.c = omega (arith, here, below) in
              subst (λ j. slice_index c.cells-caps.result j ≡ 0) (sym same)
              (omega (arith, w.if-caps-c-gt0.false))
        ];
      }
    ]

pub overflow_sub-result : goal.overflow_sub-result
overflow_sub-result g c =
    let seen = c.classes.invariant in
    (widest_shifted c.cells-caps.result c.classes.upto
    (ap (λ (xs : List ℕ). length xs) c.cells-caps.ensures ∙ c.caps.result.shape.full)
    (omega (arith, seen.low, c.classes.auto.c-end))
    seen.some (λ k from below. seen.none k from (omega (arith, below, c.classes-test.false)))).0

pub returns : goal.returns
returns g c =
    let seen = c.classes.invariant in
    (widest_shifted c.cells-caps.result c.classes.upto
    (ap (λ (xs : List ℕ). length xs) c.cells-caps.ensures ∙ c.caps.result.shape.full)
    (omega (arith, seen.low, c.classes.auto.c-end))
    seen.some (λ k from below. seen.none k from (omega (arith, below, c.classes-test.false)))).1
    ∙ ap widest_of (c.cells-caps.ensures ∙ c.caps.ensures)
