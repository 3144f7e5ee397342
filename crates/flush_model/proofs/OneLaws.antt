-- The next move is one.
use Rattle.std.specs.Prelude.{◌≡◌, IsTrue, not}
use Rattle.std.proofs.Common.{arith, sym, ◌∙◌, ap, inl, inr}
use Rattle.flush_model.specs.declared.item.Item.{Item}
use Rattle.flush_model.specs.declared.item.Move.{Move}
use Rattle.flush_model.specs.Runs.{NextIsOne}
use Rattle.flush_model.specs.Phases.{IsLaying, IsLifting, IsPacking, PlanState}
use Rattle.flush_model.specs.Plans.{IsNextLay, IsNextLift, IsNextPack, final_place, mover, sizes_over, stands_in_payload}
use Rattle.std.proofs.lemmas.Bool.{both_ways, cases_order, not-true}
use Rattle.flush_model.proofs.FinalLaws.{order_total}
use Rattle.flush_model.proofs.ItemLaws.{same_or_apart}

-- two moves of one item to one place are one
same_move : (a b : Move) → mover a ≡ mover b → a.to ≡ b.to → a ≡ b
same_move a b same to = λ i. record {
  key = (same i).key;
  class = (same i).class;
  from = (same i).place;
  to = to i;
  size = (same i).size;
}

one_lift : (p : PlanState) (a b : Move) → IsLifting p → IsNextLift p.k p.caps p.numbers p.pending p.items a
    → IsNextLift p.k p.caps p.numbers p.pending p.items b → a ≡ b
one_lift p a b is next_a next_b = same_move a b (elim (cases_order a.from b.from) [
  | inr (inl less) ↦ absurd (buffered (mover a) next_a.buffered (next_b.first (mover a) next_a.item less))
  | inr (inr more) ↦ absurd (buffered (mover b) next_b.buffered (next_a.first (mover b) next_b.item more))
  | inl here ↦ elim (same_or_apart p.numbers p.items is.items (mover a) (mover b) next_a.item next_b.item) [
    | inl e ↦ e
    | inr h ↦ absurd (elim h.1 [
      | inl e ↦ omega (arith, e, here, is.items.some (mover a) next_a.item)
      | inr e ↦ omega (arith, e, here, is.items.some (mover b) next_b.item)
    ])
  ]
]) (next_a.target ∙ sym next_b.target)
  where
    buffered : (it : Item) → IsTrue (not (stands_in_payload p.k p.caps it))
        → IsTrue (stands_in_payload p.k p.caps it) → ⊥
    buffered it other is = both_ways (stands_in_payload p.k p.caps it)
        (not-true (stands_in_payload p.k p.caps it) other) is

one_pack : (p : PlanState) (a b : Move) → IsPacking p → IsNextPack p.numbers p.items a
    → IsNextPack p.numbers p.items b → a ≡ b
one_pack p a b is next_a next_b =
    let same : mover a ≡ mover b = elim (cases_order a.from b.from) [
      | inr (inl less) ↦ absurd (next_b.moves (omega (
        arith,
        next_b.target,
        next_a.packed (mover b) next_b.item less next_b.below,
      )))
      | inr (inr more) ↦ absurd (next_a.moves (omega (
        arith,
        next_a.target,
        next_b.packed (mover a) next_a.item more next_a.below,
      )))
      | inl here ↦ elim (same_or_apart p.numbers p.items is.items (mover a) (mover b) next_a.item
          next_b.item) [
            | inl e ↦ e
            | inr h ↦ absurd (elim h.1 [
              | inl e ↦ omega (arith, e, here, is.items.some (mover a) next_a.item)
              | inr e ↦ omega (arith, e, here, is.items.some (mover b) next_b.item)
            ])
          ]
    ] in
    same_move a b same (omega (
      arith,
      next_a.target,
      next_b.target,
      ap (λ (x : Item). x.size) same,
      ap (λ (x : Item). sizes_over p.numbers p.items x.place) same,
    ))

one_lay : (p : PlanState) (a b : Move) → IsLaying p → IsNextLay p.k p.numbers p.items a
    → IsNextLay p.k p.numbers p.items b → a ≡ b
one_lay p a b is next_a next_b =
    let same : mover a ≡ mover b = elim (order_total p.k p.numbers p.items is.packing.items (mover a)
    (mover b)
    next_a.item next_b.item) [
      | inl e ↦ e
      | inr (inl before) ↦ absurd (next_a.moves
          (next_a.target ∙ sym (next_b.laid (mover a) next_a.item before)))
      | inr (inr behind) ↦ absurd (next_b.moves
          (next_b.target ∙ sym (next_a.laid (mover b) next_b.item behind)))
    ] in
    same_move a b same (next_a.target
    ∙ ap (λ (x : Item). final_place p.k p.numbers p.items x.class x.place) same ∙ sym next_b.target)

pub next_is_one : (p : PlanState) (a b : Move) → NextIsOne p a b
next_is_one p a b = record { lift = one_lift p a b; pack = one_pack p a b; lay = one_lay p a b }
