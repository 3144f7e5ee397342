-- What the numbers keep that a table is checked against.
use Rattle.std.specs.Prelude.{◌≡◌, ℕ, ◌^◌, ◌<◌, ◌≤◌, List, length, slice_index}
use Rattle.size_class.specs.Classes.{width, row}
use Rattle.slot_codec.specs.declared.codec.Header.{Header}
use Rattle.segment_layout.specs.Shapes.{start_of, taken_in}

-- no number is 2^48 or more, in a list, and in the rows of a grid
abbrev pub AreSmall : List ℕ → Type 0
AreSmall xs = (c : ℕ) → slice_index xs c < 2 ^ 48

-- The divisor and the header are in range, and the two lists say where the segments of each class begin, and
-- how many bytes of each buffer are taken.
pub record IsFrame (classes k : ℕ) (header : Header) (starts taken : List ℕ) : Type 0 where
  pub few : classes ≤ 32
  pub k_low : 2 ≤ k
  pub k_high : k ≤ 64
  pub caps_full : length header.caps ≡ width
  pub caps_high : AreSmall header.caps
  pub grid_full : length header.used ≡ width
  pub rows_full : (j : ℕ) → j < width → length (row header.used j) ≡ width
  pub cells_high : (j : ℕ) → AreSmall (row header.used j)
  pub wall_high : header.wall < 2 ^ 48
  pub slack_high : header.slack < 2 ^ 48
  pub begins : (c : ℕ) → c ≤ width → slice_index starts c ≡ start_of k header.caps c
  pub fills : (j : ℕ) → j < width → slice_index taken j ≡ taken_in header.used j
