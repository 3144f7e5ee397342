-- Buffers that were nearly full when an entry passed over them.
use Rattle.std.specs.Prelude.{ℕ, ◌+◌, ◌^◌, ◌<◌, ◌≤◌, List, slice_index}
use Rattle.size_class.specs.Classes.{width, cell}
use Rattle.segment_layout.specs.Shapes.{buffer_of, taken_in}

-- An entry of a class at most m in a later buffer, for which buffer m had no room.
pub record PassedOver (k : ℕ) (caps : List ℕ) (grid : List (List ℕ)) (m : ℕ) : Type 0 where
  pub class : ℕ
  pub buffer : ℕ
  pub low : class ≤ m
  pub past : m < buffer
  pub within : buffer < width
  pub least : 2 ^ class ≤ cell grid buffer class
  pub full : buffer_of k (slice_index caps m) < taken_in grid m + 2 ^ (class + 1)
