-- What holds of the fields of the entries.
--
-- The slab has what stands now of each name, by key; `kept` has what was kept where that is something else,
-- and `changed` lists the keys at which it is. Both have room for all keys of the slab. `spare` is a slab of
-- no names, with the same room.
use Rattle.std.specs.Prelude.{◌≡◌, ◌≤◌, [], length, vec_capacity}
use Rattle.extent_table.specs.declared.entry.Entries.TheInside.{Inside}
use Rattle.extent_table.specs.Entries.{Shelf, entries_of}
use Rattle.extent_table.specs.Kept.{AreChanges}

-- the entries by key, and which of them changed
abbrev pub entries_in : Inside → Shelf
entries_in e = record {
  slots = entries_of e.standing.slots e.kept.items;
  capacity = e.standing.capacity;
  changed = e.changed.items;
}

pub record IsShelved (e : Inside) : Type 0 where
  pub changes : AreChanges e.kept.items e.changed.items
  pub short : length e.kept.items ≤ e.standing.capacity
  pub kept_room : e.standing.capacity ≤ vec_capacity e.kept
  pub changed_room : e.standing.capacity ≤ vec_capacity e.changed
  pub none_spare : e.spare.slots ≡ []
  pub spare_room : e.spare.capacity ≡ e.standing.capacity
