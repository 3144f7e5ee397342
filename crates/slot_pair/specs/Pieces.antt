-- The text of an entry as items, each of which is spelled at once, and how far a buffer has come with them.
use Rattle.std.specs.Prelude.{ℕ, ◌+◌, ◌-◌, ◌==◌, if◌then◌else◌, List, [], ◌∷◌, ◌++◌, drop, flat_map, map, take}
use Rattle.byte_ranges.specs.Lists.{below}
use Rattle.slot_codec.specs.Cells.{cell_of, header_cells}
use Rattle.slot_codec.specs.Changes.{Change, change_bytes, change_len, kind_of_change}
use Rattle.slot_codec.specs.Entries.{entry_head_bytes, entry_len, entry_room, pair_bytes}
use Rattle.slot_codec.specs.Spelling.{zeros}
use Rattle.slot_codec.specs.declared.codec.Header.{Header}
use Rattle.slot_codec.specs.declared.delta.ChangeKind.{ChangeKind}
use Rattle.slot_codec.specs.declared.delta.ChangeKind.TheVariants as kind
use Rattle.slot_codec.specs.declared.entry.EntryHead.{EntryHead}
use Rattle.slot_pair.specs.Appends.{head_for}
use Rattle.slot_pair.specs.declared.entry.Spelled.{Spelled}

-- a cell of a header: nothing where it is 0, and else a pair
abbrev pub cell_bytes : Header → ℕ → List ℕ
cell_bytes h i = if cell_of h i == 0 then [] else pair_bytes (i, cell_of h i)

-- a change in an entry's list of a kind: nothing where it is of another one
abbrev pub bytes_among : ChangeKind → Change → List ℕ
bytes_among k c = if change_len (kind_of_change c) == change_len k then change_bytes c else []

-- what stands behind the lists: the gap, and the next gate, which is closed
abbrev pub end_bytes : EntryHead → List ℕ
end_bytes h = zeros (entry_room h - entry_len h + 1)

-- the items of the entry that says a header and these changes: its head, the cells, the changes three times,
-- once for each list, and its end
unfoldable pub entry_items : Header → List Change → List (List ℕ)
entry_items h changes = entry_head_bytes (head_for h changes) ∷ map (cell_bytes h) (below header_cells)
    ++ map (bytes_among kind.Moved) changes ++ map (bytes_among kind.Gone) changes
    ++ map (bytes_among kind.Put) changes
    ++ end_bytes (head_for h changes) ∷ []

-- items one behind another, without the first n
abbrev pub text_from : ℕ → List (List ℕ) → List ℕ
text_from n items = flat_map (λ item. item) (drop n items)

-- what isn't written yet: what stands in front of the buffer, and the items that aren't spelled
abbrev pub unwritten : Spelled → List ℕ → List (List ℕ) → List ℕ
unwritten s buf items = take s.held buf ++ text_from s.items items
