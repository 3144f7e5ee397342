-- Spots that a layout holds: the settled table that it makes of them is valid.
use Rattle.std.specs.Prelude.{ℕ, ◌^◌, ◌<◌, ◌≤◌, List, map, filter, None}
use Rattle.std.specs.FinSet as set
use Rattle.size_class.specs.Classes.{IsGrid, IsRow, width}
use Rattle.slot_codec.specs.declared.codec.Record.{Record}
use Rattle.segment_layout.specs.Books.{Book}
use Rattle.table_rules.specs.Tables.{is_buffered}
use Rattle.table_rules.specs.Rules.{IsValid}
use Rattle.extent_table.specs.Extents.{Spots}
use Rattle.placement_model.specs.Laid.{settled_table}
use Rattle.placement_model.specs.Reads.{AreNamed}

-- Capacities and a grid hold these spots.
pub record IsLaidOut (classes size_max k : ℕ) (caps : List ℕ) (grid : List (List ℕ)) (spots : Spots) : Type 0
  where
    pub few : classes ≤ width
    pub top : size_max < 2 ^ classes
    pub caps_full : IsRow classes caps
    pub grid_full : IsGrid classes grid
    pub named : AreNamed spots
    pub valid : IsValid (settled_table classes size_max k caps grid spots)

-- Their book, without digests: the capacities, the grid, and the names that stand outside their payload
-- segments.
abbrev pub shown_book : ℕ → ℕ → ℕ → List ℕ → List (List ℕ) → Spots → Book
shown_book classes size_max k caps grid spots =
    let t = settled_table classes size_max k caps grid spots in
    record {
      caps = caps;
      grid = grid;
      buffered = set.from_list (map (λ (r : Record). r.name) (filter (is_buffered t) t.records));
      digests = None;
    }
