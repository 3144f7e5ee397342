-- The items of objects, of a class from some class on.
use Rattle.std.specs.Prelude.{ℕ, nat_le, nat_lt, ◌&&◌, Bool}
use Rattle.size_class.specs.Classes.{class_of}
use Rattle.extent_table.specs.declared.spot.Spot.{Spot}
use Rattle.flush_model.specs.declared.item.Item.{Item}

-- an object of at least 1 byte has a class from b on
abbrev pub is_from : ℕ → Spot → Bool
is_from b s = nat_lt 0 s.size && nat_le b (class_of s.size)

abbrev pub item_at : ℕ → Spot → Item
item_at key s = record { key = key; class = class_of s.size; place = s.place; size = s.size }
