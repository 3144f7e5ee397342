-- The first line of a dump: how many objects follow, and for each class in use how many bytes its objects
-- have
-- together.
use Rattle.std.specs.Prelude.{◌≡◌, ℕ, ◌+◌, ◌-◌, ◌*◌, ◌^◌, ◌<◌, ◌≤◌, List, [], ◌∷◌, ◌++◌, codes, drop, flat_map, length, min, nat_lt, slice_index, take}
use Rattle.std.specs.Fmt.{decimal}
use Rattle.std.specs.List.{position_or_len}
use Rattle.size_class.specs.Classes.{IsRow}
use Rattle.size_class.specs.Rows.{cells_of}
use Rattle.dump_stream.specs.declared.head.DumpHead.{DumpHead}

-- a number of the line behind the first, with the blank before it
abbrev pub volume_text : ℕ → List ℕ
volume_text v = codes " " ++ decimal v

-- a text that ends a number: it begins with a byte below the digits, or is empty
abbrev pub Ends : List ℕ → Type 0
Ends [] = Unit {0}
Ends (x ∷ xs) = x < 48

-- a number stands in front of a text, and this follows it
pub record Splits (text : List ℕ) (n : ℕ) (rest : List ℕ) : Type 0 where
  pub fits : n < 2 ^ 64
  pub whole : text ≡ decimal n ++ rest
  pub ends : Ends rest

-- where the first byte below the digits stands, or how many bytes there are
abbrev pub number_end : List ℕ → ℕ
number_end text = position_or_len (λ x. nat_lt x 48) text

-- the line without its newline
abbrev pub head_line : ℕ → ℕ → List ℕ → List ℕ
head_line C count volumes = codes "dump " ++ decimal count ++ flat_map volume_text (take C volumes)

-- Numbers that a first line may tell: no more objects than a file has names, and of each class in use no more
-- bytes than as many objects of the class may have; of the others none.
pub record IsHead (C count : ℕ) (volumes : List ℕ) : Type 0 where
  pub row : IsRow C volumes
  pub few : count ≤ 65536
  pub bounds : (c : ℕ) → c < C → slice_index volumes c ≤ count * 2 ^ (c + 1)

-- the line tells these numbers
pub record Tells (C : ℕ) (line : List ℕ) (count : ℕ) (volumes : List ℕ) : Type 0 where
  pub same : line ≡ head_line C count volumes
  pub head : IsHead C count volumes

-- the line is no first line
abbrev pub TellsNothing : ℕ → List ℕ → Type 0
TellsNothing C line = (count : ℕ) (volumes : List ℕ) → Tells C line count volumes → ⊥

-- the numbers of a head
abbrev pub volumes_of_head : {C : ℕ} → DumpHead C → List ℕ
volumes_of_head head = cells_of head.volumes

-- Of a text of volumes those of the first classes were read, up to a place: no other volumes may be told
-- there.
pub record ReadsVolumes (C count : ℕ) (text : List ℕ) (c at : ℕ) (volumes : List ℕ) : Type 0 where
  pub within : at ≤ length text
  pub front : text ≡ flat_map volume_text (take c volumes) ++ drop at text
  pub ends : Ends (drop at text)
  pub row : IsRow C volumes
  pub bounds : (d : ℕ) → d < c → slice_index volumes d ≤ count * 2 ^ (d + 1)
  pub only : (vs : List ℕ) → IsHead C count vs → text ≡ flat_map volume_text (take C vs)
      → take c vs ≡ take c volumes

abbrev pub TellsHead : {C : ℕ} → List ℕ → DumpHead C → Type 0
TellsHead {C} line head = Tells C line head.count (volumes_of_head head)

-- a line has at most so many bytes in front of the number of class c
abbrev pub room_of : ℕ → ℕ
room_of c = 10 + 12 * min c 17 + 16 * (c - 17)
