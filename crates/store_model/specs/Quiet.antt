-- Changes that make no checkpoint. What is charged depends on where objects stand and on their sizes, so it
-- is known on a disk that tells nothing too.
use Rattle.std.specs.Prelude.{◌<◌, ◌^◌, All, ℕ, nat_lt, if◌then◌else◌, List, [], ◌++◌, ◌+◌, length, fold, min, Option, Some, None, slice_index, slice_set}
use Rattle.std.specs.FinMap as fin
use Rattle.disk_face.specs.Counts.{last}
use Rattle.size_class.specs.Classes.{class_of}
use Rattle.held_guard.specs.Freed.{Freed}
use Rattle.span_math.specs.declared.span.Span.{Span}
use Rattle.span_math.specs.Spans.{IsApart}
use Rattle.map_model.specs.Requests.{Change}
use Rattle.segment_layout.specs.Books.{Charged, charge_all, new_item, some_size}
use Rattle.extent_table.specs.declared.spot.Spot.{Spot}
use Rattle.placement_model.specs.Held.{IsSpanOf}
use Rattle.placement_model.specs.Quiet.{PlacedTo, QuietTo, gone_items}
use Rattle.store_model.specs.Connection.{StoreValue}

abbrev pub put_of : List ℕ → List ℕ → Change
put_of name object = record { name = name; object = Some object }

abbrev pub del_of : List ℕ → Change
del_of name = record { name = name; object = None }

-- What a change charges, by where the old object stands and the sizes: its size where it stands in its
-- payload segment, and then that of the new one.
abbrev pub charges_of : StoreValue → Change → Charged
charges_of s c = charge_all s.in_use.block.k s.book.caps s.book.grid
    (gone_items s.in_use.block.k s.book.caps (fin.get s.now c.name) ++ new_item c)

-- What a put of a size charges leaves, and where the new object stands: the old object's charge comes first.
pub record IsCharged (k : ℕ) (caps : List ℕ) (grid : List (List ℕ)) (old : Option Spot) (size : ℕ)
    (after : List (List ℕ)) (place : ℕ) : Type 0 where
  pub mid : List (List ℕ)
  pub gone : QuietTo k caps grid (gone_items k caps old) mid
  pub placed : PlacedTo k caps mid size after place

-- a row that counts bytes by class, once an object's are added: it stays at the last value of its type
abbrev pub added : List ℕ → ℕ → List ℕ
added row size = slice_set row (class_of size) (min (slice_index row (class_of size) + size) last)

-- the size of an object of at least 1 byte
abbrev pub sizes_at : Option Spot → List ℕ
sizes_at None = []
sizes_at (Some x) = some_size x.size

-- the bytes asked for: those of the object that goes, and of the one that comes
abbrev pub asked_after : StoreValue → Change → List ℕ
asked_after s c = fold added s.asked (sizes_at (fin.get s.now c.name) ++ new_item c)

-- an object of at least 1 byte is written once
abbrev pub writes_of : ℕ → ℕ
writes_of size = if nat_lt 0 size then 1 else 0

abbrev pub quiet_calls : Change → ℕ
quiet_calls c = of c.object
  where
    of : Option (List ℕ) → ℕ
    of None = 0
    of (Some object) = writes_of (length object)

-- The guard has room for the span of a spot, which lies apart from those that it has.
pub record CanFree (guard : Freed) (s : Spot) : Type 0 where
  pub fits : s.place + s.size < 2 ^ 63
  pub room : length guard.spans < guard.room
  pub apart : (a : Span) → IsSpanOf s a → All (λ other. IsApart other a) guard.spans
