-- Over a session: what was moved, weighed by a cost, is paid for by what was asked and by the potential at
-- first.
use Rattle.std.specs.Prelude.{◌≡◌, ℕ, ◌+◌, ◌*◌, ◌≤◌, List, slice_index}
use Rattle.std.proofs.Common.{arith, ◌∙◌, ap, inl, inr}
use Rattle.std.proofs.lemmas.Bool.{cases_Bool}
use Rattle.size_class.specs.Classes.{width, zero_row, zero_grid, row}
use Rattle.size_class.proofs.ClassLaws.{zero_row-index, zero_grid-cell}
use Rattle.map_model.specs.Maps.{Map}
use Rattle.map_model.specs.Requests.{Change, changed}
use Rattle.std.specs.FinMap as fin
use Rattle.segment_layout.specs.Books.{Book, empty_book, next_book}
use Rattle.segment_layout.proofs.TightLaws.{balanced_empty}
use Rattle.segment_layout.proofs.NextLaws.{balanced_next}
use Rattle.segment_layout.proofs.SumLaws.{sum_below_agree, sum_below_add, sum_below_zero}
use Rattle.move_cost.specs.Costs.{IsCost, factor, rate, weigh, potential}
use Rattle.cost_laws.proofs.RateFalls.{weigh_grid}
use Rattle.cost_laws.specs.Asked.{asked_row}
use Rattle.cost_laws.specs.Moves.{next_grid, MovesNext, rise}
use Rattle.cost_laws.proofs.MoveLaws.{rise-index}
use Rattle.cost_laws.specs.Paid.{IsWeighed, ArePaid, AsksNext, IsPaid}
use Rattle.cost_laws.proofs.CheapLaws.{cheap}
use Rattle.cost_laws.specs.Cells.{HasNoneFrom, NoCellFalls}
use Rattle.cost_laws.proofs.CellLaws.{potential_rises}

-- a row weighs what it weighed and what it rose by
weigh_rise : (C : ℕ) (cost : ℕ → ℕ) (old new : List ℕ) → C ≤ width
    → ((c : ℕ) → slice_index old c ≤ slice_index new c)
    → weigh C cost new ≡ weigh C cost old + weigh C cost (rise old new)
weigh_rise C cost old new fits later =
    sum_below_agree C (λ c. slice_index new c * rate C cost c)
    (λ c. slice_index old c * rate C cost c + slice_index (rise old new) c * rate C cost c) (λ c h.
    let parts : slice_index new c ≡ slice_index old c + slice_index (rise old new) c =
    omega (arith, later c, rise-index old new c (omega arith)) in
    let split : (slice_index old c + slice_index (rise old new) c) * rate C cost c
    ≡ slice_index old c * rate C cost c + slice_index (rise old new) c * rate C cost c = omega arith in
    ap (λ x. x * rate C cost c) parts ∙ split)
    ∙ sum_below_add C (λ c. slice_index old c * rate C cost c)
    (λ c. slice_index (rise old new) c * rate C cost c)

weigh_none : (C : ℕ) (cost : ℕ → ℕ) (cells : List ℕ) → ((c : ℕ) → slice_index cells c ≡ 0)
    → weigh C cost cells ≡ 0
weigh_none C cost cells none = sum_below_zero C (λ c. slice_index cells c * rate C cost c)
    (λ c h. let z : 0 * rate C cost c ≡ 0 = omega arith in ap (λ x. x * rate C cost c) (none c) ∙ z)

-- a new store has paid for nothing
pub potential_none : (C k : ℕ) (cost : ℕ → ℕ) → potential C cost k zero_grid ≡ 0
potential_none C k cost =
    let none : weigh_grid C cost zero_grid ≡ 0 =
    sum_below_zero C (λ j. weigh C cost (row zero_grid j))
    (λ j h. weigh_none C cost (row zero_grid j) (λ c. zero_grid-cell j c)) in
    let z : factor k * 0 ≡ 0 = omega arith in
    ap (λ x. factor k * x) none ∙ z

pub weighed_new : (C k : ℕ) (cost : ℕ → ℕ) → C ≤ width → IsCost C cost → 2 ≤ k → k ≤ 64
    → IsWeighed C k cost fin.empty empty_book
weighed_new C k cost fits is low high = record {
  fits = fits;
  is_cost = is;
  low = low;
  high = high;
  balanced =
      balanced_empty k;
  within = λ j c _. zero_grid-cell j c;
}

-- as a session begins
pub paid_first : (C k : ℕ) (cost : ℕ → ℕ) (grid : List (List ℕ))
    → IsPaid C k cost (potential C cost k grid) zero_row zero_row grid
paid_first C k cost grid = omega (arith, weigh_none C cost zero_row zero_row-index)

-- going back to a grid that has no more in any cell
pub paid_back : (C k : ℕ) (cost : ℕ → ℕ) (first : ℕ) (moved asked : List ℕ) (kept grid : List (List ℕ))
    → NoCellFalls kept grid → IsPaid C k cost first moved asked grid
    → IsPaid C k cost first moved asked kept
paid_back C k cost first moved asked kept grid rises paid =
    omega (arith, paid, potential_rises C k cost kept grid rises)

module _ (C k : ℕ) (cost : ℕ → ℕ) (m : Map) (book : Book) (c : Change) (w : IsWeighed C k cost m book) where
  -- one change, by the ledger before and after
  pub cheap_call : (moved moved_then asked asked_then : List ℕ)
      → MovesNext (next_book k m book c) (changed c m) moved moved_then → AsksNext m c asked asked_then
      → ArePaid C k cost (rise moved moved_then) (rise asked asked_then) book.grid (next_grid k m book c)
  cheap_call moved moved_then asked asked_then moves asks =
      let same : weigh C cost (rise asked asked_then) ≡ weigh C cost (asked_row m c) =
      sum_below_agree C (λ d. slice_index (rise asked asked_then) d * rate C cost d)
      (λ d. slice_index (asked_row m c) d * rate C cost d) (λ d h.
      let e : slice_index (rise asked asked_then) d ≡ slice_index (asked_row m c) d =
      omega (arith, asks d, rise-index asked asked_then d (omega (arith, w.fits))) in
      ap (λ x. x * rate C cost d) e) in
      omega (arith, cheap C k cost m book c w moved moved_then moves, ap (λ x. factor k * x) same)

  later : (moved moved_then : List ℕ) → MovesNext (next_book k m book c) (changed c m) moved moved_then
      → (d : ℕ) → slice_index moved d ≤ slice_index moved_then d
  later moved moved_then moves d =
      elim (cases_Bool (next_book k m book c).quiet) [
        | inl quiet ↦ omega (arith, moves.quiet quiet d)
        | inr flush ↦ (moves.flush flush).later d
      ]

  pub paid_next : (first : ℕ) (moved moved_then asked asked_then : List ℕ)
      → MovesNext (next_book k m book c) (changed c m) moved moved_then → AsksNext m c asked asked_then
      → IsPaid C k cost first moved asked book.grid
      → IsPaid C k cost first moved_then asked_then (next_grid k m book c)
  paid_next first moved moved_then asked asked_then moves asks paid =
      let all : factor k * weigh C cost asked_then
      ≡ factor k * (weigh C cost asked + weigh C cost (rise asked asked_then)) =
      ap (λ x. factor k * x) (weigh_rise C cost asked asked_then w.fits (λ d. omega (arith, asks d))) in
      omega (
        arith,
        paid,
        all,
        cheap_call moved moved_then asked asked_then moves asks,
        weigh_rise C cost moved moved_then w.fits (later moved moved_then moves),
      )

  -- the next book is weighed by the same cost
  pub weighed_next : HasNoneFrom C (next_grid k m book c)
      → IsWeighed C k cost (changed c m) (next_book k m book c).book
  weighed_next within = record {
    fits = w.fits;
    is_cost = w.is_cost;
    low = w.low;
    high = w.high;
    balanced =
        balanced_next k m book c w.balanced;
    within = within;
  }
