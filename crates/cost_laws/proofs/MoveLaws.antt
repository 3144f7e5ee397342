-- The rise of a row, class by class.
use Rattle.std.specs.Prelude.{◌≡◌, ℕ, ◌-◌, ◌<◌, List, slice_index}
use Rattle.byte_ranges.proofs.ListLaws.{map_below-index}
use Rattle.size_class.specs.Classes.{width}
use Rattle.cost_laws.specs.Moves.{rise}

pub rise-index : (old new : List ℕ) (c : ℕ) → c < width
    → slice_index (rise old new) c ≡ slice_index new c - slice_index old c
rise-index old new c h = map_below-index (λ d. slice_index new d - slice_index old d) width c h
