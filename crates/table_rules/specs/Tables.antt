-- A table against the layout that its header gives: where its records lie, the sums that its rules speak
-- of, and the map and the book that it gives.
use Rattle.std.specs.Prelude.{◌≡◌, ◌⊎◌, ℕ, ◌+◌, ◌-◌, ◌<◌, ◌≤◌, ◌==◌, nat_le, nat_lt, Bool, not, ◌&&◌, List, [], length, map, filter, take, sum_by, slice_index_or, IsTrue, None}
use Rattle.std.specs.FinSet as set
use Rattle.std.specs.FinMap as fin
use Rattle.byte_ranges.specs.Lists.{counting_from}
use Rattle.byte_ranges.specs.Ranges.{bytes_at}
use Rattle.size_class.specs.Classes.{width, class_of, cell, IsGrid}
use Rattle.slot_codec.specs.Spelling.{digest_len, zeros}
use Rattle.slot_codec.specs.declared.codec.Kind.{Kind}
use Rattle.slot_codec.specs.declared.codec.Kind.TheVariants.{Settled, Moving}
use Rattle.slot_codec.specs.declared.codec.Header.{Header}
use Rattle.slot_codec.specs.declared.codec.Record.{Record}
use Rattle.map_model.specs.Maps.{Map}
use Rattle.segment_layout.specs.Shapes.{buffer_of, end_of, start_of, buffer_start, taken_in, settled_caps, settled_grid}
use Rattle.segment_layout.specs.Books.{Book, volumes_of_sizes}

-- ---- the table

-- A table, as its rules see it, which see no digest: how many classes and how large an object there may be,
-- the divisor k, the length of the data part, the numbers of the header, and the records in order.
pub record TableInLayout : Type 0 where
  pub classes : ℕ
  pub size_max : ℕ
  pub k : ℕ
  pub data_len : ℕ
  pub header : Header
  pub records : List Record

abbrev pub no_record : Record
no_record = record { name = []; place = 0; size = 0; digest = zeros digest_len }

abbrev pub nth : TableInLayout → ℕ → Record
nth t i = slice_index_or t.records i no_record

-- the boundary of a moving table; a settled one has its boundary behind the last class
abbrev pub boundary_of_kind : ℕ → Kind → ℕ → ℕ
boundary_of_kind classes Settled b = classes
boundary_of_kind classes Moving b = b

abbrev pub table_boundary : TableInLayout → ℕ
table_boundary t = boundary_of_kind t.classes t.header.kind t.header.boundary

-- where a settled table's layout of the classes in use ends, or a moving table's wall
abbrev pub last_end : TableInLayout → Kind → ℕ
last_end t Settled = end_of t.k (take t.classes t.header.caps)
last_end t Moving = t.header.wall

-- the header's numbers are 32 in each list, and there are at most as many classes
pub record HasFullRows (t : TableInLayout) : Type 0 where
  pub caps_full : length t.header.caps ≡ width
  pub grid_full : IsGrid width t.header.used
  pub classes : t.classes ≤ width

-- ---- where a record lies

abbrev pub end_of_record : Record → ℕ
end_of_record r = r.place + r.size

-- two records share no byte
abbrev pub Apart : Record → Record → Type 0
Apart r s = (r.size ≡ 0) ⊎ (s.size ≡ 0) ⊎ (end_of_record r ≤ s.place) ⊎ (end_of_record s ≤ r.place)

-- an object of at least 1 byte, of a class below the boundary
abbrev pub is_lower : TableInLayout → Record → Bool
is_lower t r = nat_lt 0 r.size && nat_lt (class_of r.size) (table_boundary t)

-- an object of at least 1 byte, of a class from the boundary on
abbrev pub is_suffix : TableInLayout → Record → Bool
is_suffix t r = nat_lt 0 r.size && nat_le (table_boundary t) (class_of r.size)

-- a record lies from low up to high
abbrev pub lies_within : ℕ → ℕ → Record → Bool
lies_within low high r = nat_le low r.place && nat_le (end_of_record r) high

-- in the payload segment of class c
abbrev pub lies_in_payload : TableInLayout → ℕ → Record → Bool
lies_in_payload t c r = lies_within (start_of t.k t.header.caps c) (buffer_start t.k t.header.caps c) r

-- in the bytes of buffer j that are taken
abbrev pub lies_in_buffer : TableInLayout → ℕ → Record → Bool
lies_in_buffer t j r = lies_within (buffer_start t.k t.header.caps j)
    (buffer_start t.k t.header.caps j + taken_in t.header.used j) r

-- in the taken bytes of some buffer from its class on and below the boundary
abbrev pub StandsInBuffer : TableInLayout → Record → Type 0
StandsInBuffer t r = (j : ℕ) × (class_of r.size ≤ j) × (j < table_boundary t) × IsTrue (lies_in_buffer t j r)

-- ---- sums of sizes

abbrev pub sizes : List Record → List ℕ
sizes rs = map (λ r. r.size) rs

abbrev pub size_sum : List Record → ℕ
size_sum rs = sum_by (λ r. r.size) rs

-- an object of class c, of at least 1 byte
abbrev pub is_of : ℕ → Record → Bool
is_of c r = nat_lt 0 r.size && (class_of r.size == c)

-- the live bytes of a class: all, in its payload segment, and in buffer j
abbrev pub live : TableInLayout → ℕ → ℕ
live t c = size_sum (filter (is_of c) t.records)

abbrev pub live_in_payload : TableInLayout → ℕ → ℕ
live_in_payload t c = size_sum (filter (λ r. is_of c r && lies_in_payload t c r) t.records)

abbrev pub live_in_buffer : TableInLayout → ℕ → ℕ → ℕ
live_in_buffer t j c = size_sum (filter (λ r. is_of c r && lies_in_buffer t j r) t.records)

-- the bytes that entries of class c have taken of buffer j for objects that are gone
abbrev pub dead_in_buffer : TableInLayout → ℕ → ℕ → ℕ
dead_in_buffer t j c = cell t.header.used j c - live_in_buffer t j c

-- where the layout ends once the classes from the boundary on are laid out anew
abbrev pub new_end : TableInLayout → ℕ
new_end t = start_of t.k t.header.caps (table_boundary t)
    + sum_by (λ c. live t c + buffer_of t.k (live t c))
    (counting_from (table_boundary t) (width - table_boundary t))

-- a suffix record that begins below the wall
abbrev pub is_below_wall : TableInLayout → Record → Bool
is_below_wall t r = is_suffix t r && nat_lt r.place t.header.wall

-- the sizes together of the suffix records below the wall that begin above a place
abbrev pub sizes_above : TableInLayout → ℕ → ℕ
sizes_above t place = size_sum (filter (λ r. is_below_wall t r && nat_lt place r.place) t.records)

-- where packing would leave the wall, if the record and those above it were packed as they stand
abbrev pub packed_end : TableInLayout → Record → ℕ
packed_end t r = end_of_record r + sizes_above t r.place

-- ---- what a table gives

-- the map that the records give of a file whose data part begins at `base`
abbrev pub map_of : ℕ → List ℕ → List Record → Map
map_of base file rs = fin.from_entries (map (λ r. (r.name, bytes_at file (base + r.place) r.size)) rs)

-- an object of a class below the boundary that doesn't lie in the payload segment of its class
abbrev pub is_buffered : TableInLayout → Record → Bool
is_buffered t r = is_lower t r && not (lies_in_payload t (class_of r.size) r)

-- the book, without digests: below the boundary the header's numbers, and from it on those of a layout of
-- the records' sizes
abbrev pub book_of : TableInLayout → Book
book_of t =
    record {
      caps = settled_caps (table_boundary t) t.header.caps (volumes_of_sizes (sizes t.records));
      grid = settled_grid (table_boundary t) t.header.used;
      buffered = set.from_list (map (λ r. r.name) (filter (is_buffered t) t.records));
      digests = None;
    }
