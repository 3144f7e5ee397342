-- What comes of the charges of a change, each item tried whether or not the other found room.
use Rattle.std.specs.Prelude.{◌≡◌, ℕ, ◌<◌, min, Bool, false, ◌&&◌, if◌then◌else◌, is_some, List, Option, Some, None}
use Rattle.size_class.specs.Classes.{class_of}
use Rattle.segment_layout.specs.Books.{is_quiet, trigger}
use Rattle.segment_layout.specs.Layouts.{caps_of, divisor_of, grid_of}
use Rattle.segment_layout.specs.declared.layout.Layout.{Layout}
use Rattle.extent_table.specs.declared.spot.Spot.{Spot}
use Rattle.placement_model.specs.Quiet.{PlacedTo}
use Rattle.placement_model.specs.Tried.{between, charged_by, gone_charged, new_charged}
use Rattle.store_model.specs.declared.charge.ChargeResult.{ChargeResult}

-- the lesser of a class and that of an item which found no room
abbrev pub lesser : ℕ → ℕ × Bool → ℕ
lesser least item = if item.1 then least else min least (class_of item.0)

-- a new object finds a place, or no room, and then the grid stays
abbrev pub PlacesNew : ℕ → List ℕ → List (List ℕ) → ℕ → List (List ℕ) → Option ℕ → Type 0
PlacesNew k caps grid size after (Some place) = PlacedTo k caps grid size after place
PlacesNew k caps grid size after None = (is_quiet (new_charged k caps grid size) ≡ false) × (after ≡ grid)

-- An old object and a new one of a size were charged, each whether or not the other found room: the layout
-- after has the grid that they leave. The result says whether the old one found room, where the new one
-- stands, and the least class of what found none, which is one in use.
pub record IsChargedBy {C : ℕ} (k : ℕ) (caps : List ℕ) (grid : List (List ℕ)) (old : Option Spot) (size : ℕ)
    (after : Layout C) (r : ChargeResult) : Type 0 where
  pub same_grid : grid_of after ≡ (charged_by k caps grid old size).grid
  pub gone_found : r.gone ≡ is_quiet (gone_charged k caps grid old)
  pub new_place : PlacesNew k caps (between k caps grid old) size (grid_of after) r.place
  pub quiet : is_quiet (charged_by k caps grid old size) ≡ (r.gone && is_some r.place)
  pub least : r.class ≡ trigger (charged_by k caps grid old size)
  pub in_use : is_quiet (charged_by k caps grid old size) ≡ false → r.class < C
  pub divisor : divisor_of after ≡ k
  pub same_caps : caps_of after ≡ caps
