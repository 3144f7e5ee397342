-- What a store tells of itself.
use Rattle.std.specs.Prelude.{ℕ, ◌+◌, ◌-◌, ◌*◌, ◌^◌, ◌||◌, if◌then◌else◌, nat_lt, List, [], ◌∷◌, Option, Some, None}
use Rattle.std.specs.FinMap as fin
use Rattle.byte_ranges.specs.Lists.{sum_below}
use Rattle.size_class.specs.Classes.{width}
use Rattle.extent_table.specs.Extents.{volume_of}
use Rattle.segment_layout.specs.Books.{version_of}
use Rattle.flush_run.specs.Calls.{row_rise}
use Rattle.store_model.specs.declared.answers.Facts.{Facts}
use Rattle.store_model.specs.Connection.{FlushInHand, StoreValue, live_cap}

-- how many classes there are up to the greatest that has a capacity
abbrev pub classes_in : List ℕ → ℕ
classes_in [] = 0
classes_in (cap ∷ caps) = if nat_lt 0 cap || nat_lt 0 (classes_in caps) then 1 + classes_in caps else 0

-- the greatest size of that class, or 0 where none has a capacity
abbrev pub widest_of : List ℕ → ℕ
widest_of caps = 2 ^ classes_in caps - 1

-- how many steps of the flush in hand may still come
abbrev pub moves_left_of : Option FlushInHand → ℕ
moves_left_of None = 0
moves_left_of (Some h) = h.left

-- the bytes by which a ledger's row rose, of all classes together
abbrev pub risen_by : List ℕ → List ℕ → ℕ
risen_by old new = sum_below width (row_rise old new)

-- how many bytes a flush in hand may still move: twice those of what stands, less those that it moved
abbrev pub bytes_left_in : Option FlushInHand → ℕ → List ℕ → ℕ
bytes_left_in None volume moved = 0
bytes_left_in (Some h) volume moved = 2 * volume - risen_by h.moved_then moved

abbrev pub bytes_left_of : StoreValue → ℕ
bytes_left_of s = bytes_left_in s.in_hand (volume_of s.now) s.moved

abbrev pub facts_of : StoreValue → Facts
facts_of s = record {
  version = version_of s.book;
  k = s.in_use.block.k;
  names = s.in_use.block.names;
  cap = live_cap s;
  live = fin.len s.now;
  bytes = volume_of s.now;
  kept_live = fin.len s.kept;
  kept_bytes = volume_of s.kept;
  sequence = s.in_use.sequence;
  widest = widest_of s.book.caps;
  moves_left = moves_left_of s.in_hand;
  bytes_left = bytes_left_of s;
}
