-- What changed in a table since its last checkpoint, as an entry of a log has it: what became of each record
-- that was kept, by name, and then of each record of now whether it is put.
use Rattle.std.specs.Prelude.{ℕ, zero, suc, ◌==◌, ◌&&◌, not, if◌then◌else◌, Bool, List, [], ◌∷◌, ◌++◌, map, Option, Some, None, bytes_eq}
use Rattle.std.specs.List.{list_all}
use Rattle.std.specs.FinMap as fin
use Rattle.slot_codec.specs.Changes.{Change}
use Rattle.slot_codec.specs.Changes.Change.{same, moved, gone, put}
use Rattle.slot_codec.specs.Reading.{is_in_range}
use Rattle.slot_codec.specs.Rows.{Rows, rows_of}
use Rattle.slot_codec.specs.declared.codec.Record.{Record}
use Rattle.extent_table.specs.Extents.{Extents, rolled}

-- two records have the same object: one of this size and with this digest
abbrev pub is_same_object : Record → Record → Bool
is_same_object a b = a.size == b.size && bytes_eq a.digest b.digest

-- What became of a record of this rank, by that of its name now, if there is one: it is gone, or its object
-- stands elsewhere. Another object of its name is put, which isn't told here.
abbrev pub kept_change : ℕ → Record → Option Record → Change
kept_change rank r None = gone r.name
kept_change rank r (Some s) =
    if is_same_object r s && not (r.place == s.place) then moved rank s.place else same

-- what became of records, the first of which has this rank
abbrev pub kept_changes : Rows → ℕ → List Record → List Change
kept_changes now rank [] = []
kept_changes now rank (r ∷ rs) = kept_change rank r (fin.get now r.name) ∷ kept_changes now (suc rank) rs

-- a record is put, whose name has no record before, or one of another object
abbrev pub new_change : Option Record → Record → Change
new_change None s = put s
new_change (Some r) s = if is_same_object r s then same else put s

abbrev pub new_changes : Rows → List Record → List Change
new_changes before = map (λ s. new_change (fin.get before s.name) s)

-- what makes the records of now of those before
abbrev pub changes_between : List Record → List Record → List Change
changes_between before now = kept_changes (rows_of now) zero before ++ new_changes (rows_of before) now

-- the records of now
abbrev pub now_rolled : Extents → List Record
now_rolled e = rolled e.now e.digests

-- a file can hold a record's place and size
abbrev pub is_fit : Record → Bool
is_fit r = is_in_range r.place && is_in_range r.size

-- the records that were kept; where one of now isn't fit, as in no table, those of now
abbrev pub kept_rolled : Extents → List Record
kept_rolled e = if list_all is_fit (now_rolled e) then rolled e.kept e.kept_digests else now_rolled e

-- what changed since they were kept
abbrev pub changes_of : Extents → List Change
changes_of e = changes_between (kept_rolled e) (now_rolled e)
