-- The records of a table by their names, and what an entry's lists make of them.
use Rattle.std.specs.Prelude.{ℕ, ◌^◌, ◌<◌, List, map, Option, Some, None, slice_get, IsTrue}
use Rattle.std.specs.FinMap as fin
use Rattle.slot_codec.specs.Names.{IsName, name_cmp}
use Rattle.slot_codec.specs.Items.{AreItems, after_items}
use Rattle.slot_codec.specs.Readable.{IsDigest, IsRecord}
use Rattle.slot_codec.specs.declared.codec.Record.{Record}

-- at most one record for each name
abbrev pub Rows : Type 0
Rows = fin.FinMap name_cmp Record

-- a record with its name in front
abbrev pub by_name : Record → List ℕ × Record
by_name r = (r.name, r)

-- each record by its name
abbrev pub rows_of : List Record → Rows
rows_of rs = fin.from_entries (map by_name rs)

-- the rows with a record instead of that of its name, if there is one
abbrev pub with_row : Rows → Record → Rows
with_row rows r = fin.insert rows r.name r

-- the rows with another place for a record, if there is one
abbrev pub with_place : Rows → Option Record → ℕ → Rows
with_place rows None place = rows
with_place rows (Some r) place = with_row rows (record r { place = place })

-- the rows after a move: the record of a rank by name, and its new place
abbrev pub moved_row : Rows → ℕ × ℕ → Rows
moved_row rows p = with_place rows (slice_get (fin.values rows) p.0) p.1

-- the rows after the three lists of an entry
abbrev pub changed_rows : Rows → List (ℕ × ℕ) → List (List ℕ) → List Record → Rows
changed_rows rows moved gone puts =
    after_items with_row (after_items fin.remove (after_items moved_row rows moved) gone) puts

-- a move is one of a record of these rows, to a place in range
pub record IsMove (rows : Rows) (p : ℕ × ℕ) : Type 0 where
  pub there : p.0 < fin.len rows
  pub place : p.1 < 2 ^ 48

-- a name that goes is one of these rows
pub record IsGone (rows : Rows) (name : List ℕ) : Type 0 where
  pub named : IsName name
  pub there : IsTrue (fin.contains_key rows name)

-- a record that is put is in range, and has a digest
pub record IsPut (rows : Rows) (r : Record) : Type 0 where
  pub in_range : IsRecord r
  pub digest : IsDigest 2 r.digest

-- the three lists of an entry are such, each at the rows that those before it leave
pub record AreChanges (rows : Rows) (moved : List (ℕ × ℕ)) (gone : List (List ℕ)) (puts : List Record) : Type 0
  where
    pub moves : AreItems IsMove moved_row rows moved
    pub names : AreItems IsGone fin.remove (after_items moved_row rows moved) gone
    pub records : AreItems IsPut with_row
        (after_items fin.remove (after_items moved_row rows moved) gone) puts
