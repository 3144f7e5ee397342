-- What became of names since the last checkpoint, as an entry's three lists have it.
use Rattle.std.specs.Prelude.{ℕ, ◌≤◌, List, [], ◌∷◌, length}
use Rattle.slot_codec.specs.Entries.{pair_bytes}
use Rattle.slot_codec.specs.Names.{name_bytes}
use Rattle.slot_codec.specs.Spelling.{record_bytes}
use Rattle.slot_codec.specs.declared.delta.ChangeKind.{ChangeKind}
use Rattle.slot_codec.specs.declared.delta.ChangeKind.TheVariants as kind
use Rattle.slot_codec.specs.declared.codec.Record.{Record}

-- a name has what it had; its object stands elsewhere, by its rank by name then; it is gone; or it has this
-- record
pub data Change : Type 0 where
  same : Change
  moved : ℕ → ℕ → Change
  gone : List ℕ → Change
  put : Record → Change

abbrev pub kind_of_change : Change → ChangeKind
kind_of_change same = kind.Same
kind_of_change (moved rank place) = kind.Moved
kind_of_change (gone name) = kind.Gone
kind_of_change (put r) = kind.Put

-- how an entry has it
abbrev pub change_bytes : Change → List ℕ
change_bytes same = []
change_bytes (moved rank place) = pair_bytes (rank, place)
change_bytes (gone name) = name_bytes name
change_bytes (put r) = record_bytes 2 r

-- how many bytes these are, by the kind
abbrev pub change_len : ChangeKind → ℕ
change_len kind.Same = 0
change_len kind.Moved = 16
change_len kind.Gone = 64
change_len kind.Put = 112

-- the objects that were moved
abbrev pub moves_of : List Change → List (ℕ × ℕ)
moves_of [] = []
moves_of (moved rank place ∷ cs) = (rank, place) ∷ moves_of cs
moves_of (same ∷ cs) = moves_of cs
moves_of (gone name ∷ cs) = moves_of cs
moves_of (put r ∷ cs) = moves_of cs

-- the names that are gone
abbrev pub gone_of : List Change → List (List ℕ)
gone_of [] = []
gone_of (gone name ∷ cs) = name ∷ gone_of cs
gone_of (same ∷ cs) = gone_of cs
gone_of (moved rank place ∷ cs) = gone_of cs
gone_of (put r ∷ cs) = gone_of cs

-- the records that were put
abbrev pub puts_of : List Change → List Record
puts_of [] = []
puts_of (put r ∷ cs) = r ∷ puts_of cs
puts_of (same ∷ cs) = puts_of cs
puts_of (moved rank place ∷ cs) = puts_of cs
puts_of (gone name ∷ cs) = puts_of cs

-- No more objects were moved and no more names are gone than there were, and no more records are put than
-- there are now.
pub record AreFew (before now : List Record) (changes : List Change) : Type 0 where
  pub moved : length (moves_of changes) ≤ length before
  pub gone : length (gone_of changes) ≤ length before
  pub puts : length (puts_of changes) ≤ length now
