-- Rows of the classes: where their segments begin, and their bytes.
use Rattle.std.specs.Prelude.{◌≡◌, ℕ, ◌+◌, ◌<◌, ◌≤◌, List, slice_index, sum_by, take}
use Rattle.segment_layout.specs.Shapes.{start_of}
use Rattle.flush_model.specs.declared.item.Item.{Item}
use Rattle.flush_model.specs.Plans.{in_class, segments_length}

-- where the payload segments of the classes below C begin
abbrev pub AreStarts : ℕ → ℕ → List ℕ → List ℕ → Type 0
AreStarts C k caps starts = (c : ℕ) → c < C → slice_index starts c ≡ start_of k caps c

-- where the new segments of the classes from b up to d begin, the first of them at a start, where each class
-- has so many bytes
abbrev pub ArePlaces : ℕ → ℕ → ℕ → (ℕ → ℕ) → ℕ → List ℕ → Type 0
ArePlaces k start b volume d places = (c : ℕ) → b ≤ c → c < d
    → slice_index places c ≡ start + segments_length k volume b c

-- the bytes of each class among the first items of a list
abbrev pub AreVolumes : ℕ → List Item → ℕ → List ℕ → Type 0
AreVolumes C items i volumes = (c : ℕ) → c < C
    → slice_index volumes c ≡ sum_by (in_class c) (take i items)
