-- What a change moves, weighed by a cost, is paid for by what it asks and by what the potential of its book
-- falls.
use Rattle.std.specs.Prelude.{◌≡◌, ℕ, ◌+◌, ◌-◌, ◌*◌, ◌≤◌, true, false, List, slice_index}
use Rattle.std.proofs.Common.{arith, ◌∙◌, ap, inl, inr}
use Rattle.std.proofs.Math.Nat.{mul-le-mul_left}
use Rattle.std.proofs.lemmas.Bool.{cases_Bool}
use Rattle.byte_ranges.specs.Lists.{sum_below}
use Rattle.size_class.specs.Classes.{width}
use Rattle.map_model.specs.Maps.{Map}
use Rattle.map_model.specs.Requests.{Change, changed}
use Rattle.segment_layout.specs.Books.{Book, charge_change, is_quiet, next_book}
use Rattle.segment_layout.proofs.SumLaws.{sum_below_agree, sum_below_zero}
use Rattle.move_cost.specs.Costs.{factor, weigh, potential}
use Rattle.cost_laws.proofs.Weights.{cells_weight, grid_weight}
use Rattle.cost_laws.proofs.RateFalls.{rate_below, rates_fall, weigh_is, weigh_grid_le, weigh_grid_is}
use Rattle.cost_laws.specs.Asked.{asked_row}
use Rattle.cost_laws.specs.Moves.{next_grid, MovesFew, MovesNext, rise}
use Rattle.cost_laws.proofs.MoveLaws.{rise-index}
use Rattle.cost_laws.specs.Paid.{IsWeighed, ArePaid}
use Rattle.cost_laws.proofs.PotentialPays.{next_quiet_is, next_boundary_is, grid_of_quiet, grid_of_flush, quiet_adds, flush_pays}

rise_weighs : (C : ℕ) (cost : ℕ → ℕ) (old new : List ℕ) → C ≤ width
    → weigh C cost (rise old new)
    ≡ sum_below width (λ c. (slice_index new c - slice_index old c) * rate_below C cost c)
rise_weighs C cost old new fits =
    weigh_is C cost (rise old new) fits
    ∙ sum_below_agree width (λ c. slice_index (rise old new) c * rate_below C cost c)
    (λ c. (slice_index new c - slice_index old c) * rate_below C cost c)
    (λ c h. ap (λ x. x * rate_below C cost c) (rise-index old new c h))

module _ (C k : ℕ) (cost : ℕ → ℕ) (m : Map) (book : Book) (c : Change) (w : IsWeighed C k cost m book) where
  abbrev r : ℕ → ℕ
  r = rate_below C cost

  -- from weights by a rate to those by the cost
  by_cost : (moved : ℕ) (grid : List (List ℕ))
      → moved + factor k * grid_weight r grid
      ≤ factor k * cells_weight r (asked_row m c) + factor k * grid_weight r book.grid
      → moved + potential C cost k grid ≤ factor k * weigh C cost (asked_row m c)
      + potential C cost k book.grid
  by_cost moved grid h =
      omega (
        arith,
        h,
        mul-le-mul_left (factor k) (weigh_grid_le C cost grid w.fits),
        ap (λ x. factor k * x) (weigh_is C cost (asked_row m c) w.fits),
        ap (λ x. factor k * x) (weigh_grid_is C cost book.grid w.fits w.within),
      )

  cheap_quiet : (old new : List ℕ) → is_quiet (charge_change k m book c) ≡ true
      → ((d : ℕ) → slice_index new d ≡ slice_index old d)
      → ArePaid C k cost (rise old new) (asked_row m c) book.grid (next_grid k m book c)
  cheap_quiet old new quiet same =
      let none : weigh C cost (rise old new) ≡ 0 =
      rise_weighs C cost old new w.fits
      ∙ sum_below_zero width _ (λ d h. let z : slice_index new d - slice_index old d ≡ 0 =
      omega (arith, same d) in let y : 0 * r d ≡ 0 = omega arith in ap (λ x. x * r d) z ∙ y) in
      let grid = (charge_change k m book c).grid in
      omega (
        arith,
        none,
        by_cost 0 grid (omega (arith, quiet_adds r k m book c w.balanced)),
        ap (potential C cost k) (grid_of_quiet k m book c quiet),
      )

  cheap_flush : (old new : List ℕ) → is_quiet (charge_change k m book c) ≡ false
      → MovesFew (next_book k m book c).boundary (changed c m) old new
      → ArePaid C k cost (rise old new) (asked_row m c) book.grid (next_grid k m book c)
  cheap_flush old new flush moves =
      let moved = λ (d : ℕ). slice_index new d - slice_index old d in
      let pays = flush_pays r k m book c w.balanced (rates_fall C cost w.is_cost) w.low w.high moved flush
      (λ d h. omega (arith, moves.below d (omega (arith, next_boundary_is k m book c))))
      (λ d. omega (arith, moves.above d)) in
      omega (
        arith,
        rise_weighs C cost old new w.fits,
        by_cost _ _ pays,
        ap (potential C cost k)
            (grid_of_flush k m book c flush),
      )

  pub cheap : (old new : List ℕ) → MovesNext (next_book k m book c) (changed c m) old new
      → ArePaid C k cost (rise old new) (asked_row m c) book.grid (next_grid k m book c)
  cheap old new moves =
      elim (cases_Bool (is_quiet (charge_change k m book c))) [
        | inl quiet ↦ cheap_quiet old new quiet (moves.quiet (next_quiet_is k m book c ∙ quiet))
        | inr flush ↦ cheap_flush old new flush (moves.flush (next_quiet_is k m book c ∙ flush))
      ]
