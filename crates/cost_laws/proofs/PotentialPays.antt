-- The weight of a book's grid before and after a change, and what the change moves: by any weight that
-- never rises with the class.
use Rattle.std.specs.Prelude.{◌≡◌, ℕ, ◌+◌, ◌*◌, ◌<◌, ◌≤◌, true, false, ◌++◌, sum_by, slice_index, [], refl}
use Rattle.std.proofs.Common.{arith, sym, ◌∙◌, inl, inr}
use Rattle.std.proofs.Math.Nat.{mul-le-mul_left}
use Rattle.std.proofs.lemmas.Bool.{cond-true, cond-false, true≢false}
use Rattle.byte_ranges.specs.Lists.{sum_below}
use Rattle.size_class.specs.Classes.{width}
use Rattle.map_model.specs.Maps.{Map}
use Rattle.map_model.specs.Requests.{Change, changed}
use Rattle.segment_layout.specs.Shapes.{boundary_of, settled_grid}
use Rattle.segment_layout.specs.Books.{Book, charge_change, is_quiet, trigger, next_book, old_item, new_item, volumes}
use Rattle.segment_layout.specs.Balance.{IsBalanced}
use Rattle.segment_layout.proofs.ShapeLaws.{boundary_of-le}
use Rattle.segment_layout.proofs.ChargingLaws.{trigger_below}
use Rattle.move_cost.specs.Costs.{factor}
use Rattle.cost_laws.proofs.Weights.{cells_weight, item_weight, grid_weight, weight_from, weight-settled}
use Rattle.cost_laws.proofs.RateFalls.{Falls}
use Rattle.cost_laws.proofs.ItemsCharged.{IsCharged, Missed, missed_weight, charged_none, charged_all}
use Rattle.cost_laws.specs.Asked.{asked_row}
use Rattle.cost_laws.proofs.AskedLaws.{items_weigh}
use Rattle.cost_laws.proofs.MovesWeigh.{moves_weigh}
use Rattle.cost_laws.proofs.FactorCovers.{factor_covers}

-- ---- what a change leads to

pub next_quiet_is : (k : ℕ) (m : Map) (book : Book) (c : Change)
    → (next_book k m book c).quiet ≡ is_quiet (charge_change k m book c)
unfolding next_book
next_quiet_is k m book c = refl

pub next_boundary_is : (k : ℕ) (m : Map) (book : Book) (c : Change)
    → (let charged = charge_change k m book c in
    (next_book k m book c).boundary ≡ boundary_of charged.grid (trigger charged))
unfolding next_book
next_boundary_is k m book c = refl

pub grid_of_quiet : (k : ℕ) (m : Map) (book : Book) (c : Change)
    → is_quiet (charge_change k m book c) ≡ true
    → (next_book k m book c).book.grid ≡ (charge_change k m book c).grid
unfolding next_book
grid_of_quiet k m book c quiet = cond-true (is_quiet (charge_change k m book c)) _ _ quiet

pub grid_of_flush : (k : ℕ) (m : Map) (book : Book) (c : Change)
    → is_quiet (charge_change k m book c) ≡ false
    → (let charged = charge_change k m book c in
    (next_book k m book c).book.grid
    ≡ settled_grid (boundary_of charged.grid (trigger charged)) charged.grid)
unfolding next_book
grid_of_flush k m book c flush = cond-false (is_quiet (charge_change k m book c)) _ _ flush

module _ (r : ℕ → ℕ) (k : ℕ) (m : Map) (book : Book) (c : Change) (b : IsBalanced k m book) where
  pub charged_weigh : IsCharged r k book.caps (grid_weight r book.grid
      + sum_by (item_weight r) (old_item m book c.name ++ new_item c)) (charge_change k m book c)
  charged_weigh = charged_all r k book.caps (record { grid = book.grid; tried = [] }) (old_item m book c.name
      ++ new_item c) (grid_weight r book.grid) _ (charged_none r k book.caps book.grid b.grid_full) refl

  -- a quiet change adds at most what it asks
  pub quiet_adds : factor k * grid_weight r (charge_change k m book c).grid
      ≤ factor k * cells_weight r (asked_row m c) + factor k * grid_weight r book.grid
  quiet_adds =
      let charged = charge_change k m book c in
      let less : grid_weight r charged.grid ≤ cells_weight r (asked_row m c) + grid_weight r book.grid =
      omega (arith, charged_weigh.weight, items_weigh r m book c) in
      omega (arith, mul-le-mul_left (factor k) less)

  missed_item : is_quiet (charge_change k m book c) ≡ false → Missed r k book.caps (charge_change k m book c)
  missed_item flush = elim charged_weigh.missed [
    | inl none ↦ absurd (true≢false (sym none.0
        ∙ flush))
    | inr one ↦ one
  ]

  -- and a flush takes out what its moves weigh
  pub flush_pays : Falls r → 2 ≤ k → k ≤ 64 → (moved : ℕ → ℕ)
      → (let charged = charge_change k m book c in let a = boundary_of charged.grid (trigger charged) in
      is_quiet charged ≡ false → ((d : ℕ) → d < a → moved d ≡ 0)
      → ((d : ℕ) → moved d ≤ 2 * slice_index (volumes (changed c m)) d)
      → sum_below width (λ d. moved d * r d) + factor k * grid_weight r (settled_grid a charged.grid)
      ≤ factor k * cells_weight r (asked_row m c) + factor k * grid_weight r book.grid)
  flush_pays falls low high moved flush none few =
      let charged = charge_change k m book c in
      let a = boundary_of charged.grid (trigger charged) in
      let fits : a ≤ width = omega (
        arith,
        boundary_of-le charged.grid (trigger charged),
        trigger_below charged,
      ) in
      let moves : sum_below width (λ d. moved d * r d)
      ≤ factor k * weight_from r a charged.grid + factor k * missed_weight r charged.tried =
      factor_covers k _ (weight_from r a charged.grid) (missed_weight r charged.tried)
      (moves_weigh r falls k m book c low high b moved (missed_item flush) none few) in
      let all : grid_weight r
      (settled_grid a charged.grid) + weight_from r a charged.grid + missed_weight r charged.tried ≤
      cells_weight r (asked_row m c) + grid_weight r book.grid =
      omega (
        arith,
        charged_weigh.weight,
        weight-settled r a charged.grid charged_weigh.grid_full fits,
        items_weigh r m book c,
      ) in
      omega (arith, moves, mul-le-mul_left (factor k) all)
