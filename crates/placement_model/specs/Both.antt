-- What stands now and what stood at the last checkpoint, in one layout.
use Rattle.std.specs.Prelude.{ℕ, List}
use Rattle.span_math.specs.declared.span.Span.{Span}
use Rattle.extent_table.specs.Extents.{Spots}
use Rattle.placement_model.specs.Held.{IsFreed}
use Rattle.placement_model.specs.LaidOut.{IsLaidOut}
use Rattle.placement_model.specs.Rises.{CellsRise}

-- where objects stand, and what their buffers have taken
pub record Placing : Type 0 where
  pub grid : List (List ℕ)
  pub spots : Spots

abbrev pub placing : List (List ℕ) → Spots → Placing
placing grid spots = record { grid = grid; spots = spots }

-- The capacities hold the spots of now with one grid, and the kept ones with another one, of which no cell
-- has more. So what is charged lies behind all that is held. The spans are those that were freed.
pub record HoldsBoth (classes size_max k : ℕ) (caps : List ℕ) (now kept : Placing) (spans : List Span) : Type
    0 where
  pub now_laid : IsLaidOut classes size_max k caps now.grid now.spots
  pub kept_laid : IsLaidOut classes size_max k caps kept.grid kept.spots
  pub fuller : CellsRise kept.grid now.grid
  pub freed : IsFreed spans now.spots kept.spots
