-- A quiet change takes nothing out of a grid. A grid with no fewer bytes in each cell has no less
-- potential, and no fewer bytes in each buffer.
use Rattle.std.specs.Prelude.{◌≡◌, ℕ, ◌*◌, ◌<◌, ◌≤◌, true, List, [], ◌∷◌, ◌++◌, length, fold, Option, Some, None, refl}
use Rattle.std.proofs.Common.{arith, sym, ◌∙◌, ap, inl, inr}
use Rattle.std.proofs.Math.Nat.{mul-le-mul_left, mul-le-mul_right}
use Rattle.std.proofs.lemmas.Bool.{cases_eq}
use Rattle.size_class.specs.Classes.{width, class_of, IsGrid, row, cell}
use Rattle.size_class.proofs.ClassLaws.{class_below}
use Rattle.map_model.specs.Maps.{Map}
use Rattle.map_model.specs.Requests.{Change}
use Rattle.segment_layout.specs.Shapes.{buffer_for, taken_in, with_entry}
use Rattle.segment_layout.specs.Books.{Book, Charged, entered_at, charge_one, charge_change, next_book, old_item, new_item}
use Rattle.segment_layout.proofs.SumLaws.{sum_below_le, sum_places}
use Rattle.segment_layout.proofs.ShapeLaws.{cell-with_entry_same, cell-with_entry_row, cell-with_entry_class, IsGrid-with_entry}
use Rattle.segment_layout.proofs.ChargeLaws.{room_of_buffer}
use Rattle.move_cost.specs.Costs.{factor, rate, weigh, potential}
use Rattle.cost_laws.proofs.RateFalls.{weigh_grid}
use Rattle.cost_laws.proofs.PotentialPays.{next_quiet_is, grid_of_quiet}
use Rattle.cost_laws.specs.Cells.{NoCellFalls}
use Rattle.cost_laws.specs.Moves.{next_grid}

cells-with_entry : (grid : List (List ℕ)) (j c size : ℕ) → j < length grid → c < length (row grid j)
    → NoCellFalls grid (with_entry grid j c size)
cells-with_entry grid j c size hj hc i d =
    elim (cases_eq i j) [
      | inr other ↦ omega (arith, cell-with_entry_row grid j c size i d other)
      | inl same ↦ elim (cases_eq d c) [
        | inr different ↦ omega (arith, cell-with_entry_class grid j c size i d different)
        | inl here ↦
            let before : cell grid i d ≡ cell grid j c = λ t. cell grid (same t) (here t) in
            let after : cell (with_entry grid j c size) i d ≡ cell (with_entry grid j c size) j c =
            λ t. cell (with_entry grid j c size) (same t) (here t) in
            omega (arith, before, after, cell-with_entry_same grid j c size hj hc)
      ]
    ]

-- A charge keeps the grid's form, and takes nothing out.
record Rises (old new : List (List ℕ)) : Type 0 where
  grid_full : IsGrid width new
  cells : NoCellFalls old new

module _ (k : ℕ) (caps : List ℕ) where
  rises_at : (charged : Charged) (size : ℕ) → IsGrid width charged.grid → (o : Option ℕ)
      → buffer_for k caps charged.grid (class_of size) size ≡ o
      → Rises charged.grid (entered_at charged size o).grid
  rises_at charged size g None is = record { grid_full = g; cells = λ j c. omega arith }
  rises_at charged size g (Some j) is =
      let within : j < width =
      (room_of_buffer k caps charged.grid (class_of size) size (class_below size) j is).below_width in
      record {
        grid_full = IsGrid-with_entry width j (class_of size) size charged.grid g within (class_below size)
            (omega arith);
        cells = cells-with_entry charged.grid j (class_of size) size (omega (arith, g.full))
            (omega (arith, (g.rows j within).full, class_below size));
      }

  charges_rise : (charged : Charged) (sizes : List ℕ) → IsGrid width charged.grid
      → NoCellFalls charged.grid (fold (charge_one k caps) charged sizes).grid
  charges_rise charged [] g j c = omega arith
  charges_rise charged (size ∷ sizes) g j c =
      let one = rises_at charged size g _ refl in
      omega (arith, one.cells j c, charges_rise (charge_one k caps charged size) sizes one.grid_full j c)

pub quiet_rises : (k : ℕ) (m : Map) (book : Book) (c : Change) → IsGrid width book.grid
    → (next_book k m book c).quiet ≡ true → NoCellFalls book.grid (next_grid k m book c)
quiet_rises k m book c g quiet j d =
    let charged : cell book.grid j d ≤ cell (charge_change k m book c).grid j d =
    charges_rise k book.caps (record { grid = book.grid; tried = [] }) (old_item m book c.name
    ++ new_item c) g j d in
    omega (
      arith,
      charged,
      ap (λ (grid : List (List ℕ)). cell grid j d) (grid_of_quiet k m book c
          (sym (next_quiet_is k m book c) ∙ quiet)),
    )

pub rows_rise : (old new : List (List ℕ)) → IsGrid width old → IsGrid width new → NoCellFalls old new
    → (j : ℕ) → j < width → taken_in old j ≤ taken_in new j
rows_rise old new g h rises j within =
    omega (
      arith,
      sum_places (row old j) width (g.rows j within).full,
      sum_places (row new j) width
          (h.rows j within).full,
      sum_below_le width (λ c. cell old j c) (λ c. cell new j c) (λ c _. rises j c),
    )

pub potential_rises : (C k : ℕ) (cost : ℕ → ℕ) (old new : List (List ℕ)) → NoCellFalls old new
    → potential C cost k old ≤ potential C cost k new
potential_rises C k cost old new rises =
    let all : weigh_grid C cost old ≤ weigh_grid C cost new =
    sum_below_le C (λ j. weigh C cost (row old j)) (λ j. weigh C cost (row new j))
    (λ j _. sum_below_le C (λ c. cell old j c * rate C cost c) (λ c. cell new j c * rate C cost c)
    (λ c _. mul-le-mul_right (rate C cost c) (rises j c))) in
    mul-le-mul_left (factor k) all
