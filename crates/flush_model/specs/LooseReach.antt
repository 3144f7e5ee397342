-- The reach of a flush is within the loose bound.
use Rattle.std.specs.Prelude.{ℕ, ◌≤◌, max, List, Contains, filter}
use Rattle.segment_layout.specs.Shapes.{end_of}
use Rattle.segment_layout.specs.Bounds.{Loose, Tight}
use Rattle.map_model.specs.Maps.{largest, Map, volume}
use Rattle.flush_model.specs.declared.item.Item.{Item}
use Rattle.flush_model.specs.Plans.{numbers_of, stands_in_payload, total}
use Rattle.flush_model.specs.Phases.{CanFlush}

-- The reach is loose where the old end is tight for the map before the request, and the new end for the map
-- after it.
abbrev pub ReachIsLoose : Type 0
ReachIsLoose =
    (k : ℕ) (caps : List ℕ) (b : ℕ) (items : List Item) (flush : CanFlush k caps b items) (pending : ℕ)
    (before after : Map)
    → 2 ≤ k
    → Tight k (end_of k caps) before
    → Tight k (numbers_of k caps b items pending).end after
    → ((it : Item) → Contains items it → it.size ≤ max (largest before) (largest after))
    → pending ≤ max (largest before) (largest after)
    → 1 ≤ max (largest before) (largest after)
    → total (filter (stands_in_payload k caps) items) ≤ max (volume before) (volume after)
    → Loose k (numbers_of k caps b items pending).reach before after
