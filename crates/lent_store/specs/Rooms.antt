-- How many bytes a file needs room for.
use Rattle.std.specs.Prelude.{ℕ, ◌+◌, ◌-◌, ◌*◌, ◌/◌, ◌^◌, ◌==◌, ◌&&◌, Bool, if◌then◌else◌, nat_lt, max, List, is_none}
use Rattle.std.specs.FinMap as fin
use Rattle.size_class.specs.Classes.{class_of}
use Rattle.map_model.specs.Requests as ask
use Rattle.map_model.specs.Requests.{Change}
use Rattle.extent_table.specs.Extents.{volume_of}
use Rattle.store_model.specs.Sized.{object_size}
use Rattle.store_model.specs.Answers.{refused_by, size_at}
use Rattle.store_model.specs.Facts.{widest_of}
use Rattle.store_model.specs.Connection.{StoreValue}
use Rattle.lent_store.specs.Embedded.{Embedded}

-- What stands below the data part, and the bound on the data part within a change, by the most bytes that all
-- objects have together before or after it, and the most that one has.
abbrev pub room_need : ℕ → ℕ → ℕ → ℕ → ℕ
room_need k names volume largest = 17043 + 160 * names + (k + 3) * volume / (k - 1) + 3 * largest + 1

-- the greatest size of the class of an object of so many bytes; 0 of one of none
abbrev pub width_of : ℕ → ℕ
width_of size = if size == 0 then 0 else 2 ^ (class_of size + 1) - 1

-- the bytes of all objects once a name has an object of a size
abbrev pub volume_with : StoreValue → List ℕ → ℕ → ℕ
volume_with s name size = volume_of s.now - size_at (fin.get s.now name) + size

-- the room is less than may be needed for that
abbrev pub is_short : Embedded → List ℕ → ℕ → Bool
is_short e name size = nat_lt e.noting.room (room_need e.store.in_use.block.k e.store.in_use.block.names
    (max (volume_of e.store.now) (volume_with e.store name size))
    (max (widest_of e.store.book.caps) (width_of size)))

-- a change would be served but for its room
abbrev pub lacks_room : Embedded → Change → Bool
lacks_room e c = is_none (refused_by e.store (ask.change c)) && is_short e c.name (object_size c.object)
