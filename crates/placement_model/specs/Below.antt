-- Spots that a layout holds but for the balance of the classes from a boundary on, which are to be laid out
-- anew.
use Rattle.std.specs.Prelude.{ℕ, ◌^◌, ◌<◌, ◌≤◌, List}
use Rattle.size_class.specs.Classes.{IsGrid, IsRow, width}
use Rattle.segment_layout.specs.Balance.{IsFilled}
use Rattle.table_rules.specs.Suffixes.{KeepsBelow}
use Rattle.extent_table.specs.Extents.{Spots}
use Rattle.placement_model.specs.Changes.{AllStand}
use Rattle.placement_model.specs.Laid.{settled_table}
use Rattle.placement_model.specs.Reads.{AreNamed}

-- Capacities and a grid hold these spots: each object stands in a segment, and of the classes below b all
-- rules are kept.
pub record IsLaidBelow (classes size_max k : ℕ) (caps : List ℕ) (grid : List (List ℕ)) (b : ℕ) (spots : Spots)
    : Type 0 where
  pub few : classes ≤ width
  pub top : size_max < 2 ^ classes
  pub caps_full : IsRow classes caps
  pub grid_full : IsGrid classes grid
  pub filled : IsFilled k caps grid
  pub named : AreNamed spots
  pub below : KeepsBelow b (settled_table classes size_max k caps grid spots)
  pub stand : AllStand (settled_table classes size_max k caps grid spots)
