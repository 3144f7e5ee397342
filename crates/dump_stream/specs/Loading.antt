-- How far an input is a dump: which objects stand in front of it one after another, and at which one it
-- stops.
use Rattle.std.specs.Prelude.{◌≡◌, ℕ, ◌+◌, ◌<◌, ◌≤◌, true, List, [], ◌∷◌, ◌++◌, Option, Some, None, codes, length, map, slice_index}
use Rattle.slot_codec.specs.Choice.{rises}
use Rattle.slot_codec.specs.Names.{IsName}
use Rattle.map_model.specs.Weights.{Entry}
use Rattle.segment_layout.specs.Books.{volumes_of_sizes}
use Rattle.dump_stream.specs.Heads.{IsHead, head_line}
use Rattle.dump_stream.specs.Dumps.{object_text, objects_text}

-- the bytes of each class that objects have together
abbrev pub filled_by : List Entry → List ℕ
filled_by es = volumes_of_sizes (map (λ e. length e.1) es)

-- the name of the last of some objects, where there is one
abbrev pub last_name : List Entry → Option (List ℕ)
last_name [] = None
last_name (e ∷ es) = of (last_name es)
  where
    of : Option (List ℕ) → Option (List ℕ)
    of None = Some e.0
    of (Some name) = Some name

-- An object may stand behind others of a dump: its name is one and greater than the last, it isn't too long,
-- and with it no class has more bytes than its volume.
pub record MayFollow (size_max : ℕ) (volumes : List ℕ) (before : List Entry) (e : Entry) : Type 0 where
  pub named : IsName e.0
  pub rises : rises (last_name before) e.0 ≡ true
  pub small : length e.1 ≤ size_max
  pub room : (c : ℕ) → slice_index (filled_by (before ++ e ∷ [])) c ≤ slice_index volumes c

-- each of some objects may stand behind those before it
abbrev pub AllFollow : ℕ → List ℕ → List Entry → Type 0
AllFollow size_max volumes es = (before after : List Entry) (e : Entry) → es ≡ before ++ e ∷ after
    → MayFollow size_max volumes before e

-- An input is a first line, and then objects that may stand there, and then a rest.
pub record ReadsTo (C size_max : ℕ) (input : List ℕ) (count : ℕ) (volumes : List ℕ) (objects : List Entry)
    (rest : List ℕ) : Type 0 where
  pub head : IsHead C count volumes
  pub few : length objects ≤ count
  pub each : AllFollow size_max volumes objects
  pub whole : input ≡ head_line C count volumes ++ codes "\n" ++ objects_text objects ++ rest

-- No object that may stand there stands in front of the rest.
abbrev pub NoneFollows : ℕ → List ℕ → List Entry → List ℕ → Type 0
NoneFollows size_max volumes objects rest = (e : Entry) (behind : List ℕ)
    → MayFollow size_max volumes objects e → rest ≡ object_text e ++ behind → ⊥

-- The input stops being a dump at the object of this number, from 1. All before it may stand there. It is due
-- and isn't there, or none is due any more, and a volume isn't filled or a rest follows.
pub record StopsAt (C size_max : ℕ) (input : List ℕ) (number : ℕ) : Type 0 where
  pub count : ℕ
  pub volumes : List ℕ
  pub objects : List Entry
  pub rest : List ℕ
  pub reads : ReadsTo C size_max input count volumes objects rest
  pub same_number : number ≡ length objects + 1
  pub due : length objects < count → NoneFollows size_max volumes objects rest
  pub ended : length objects ≡ count → filled_by objects ≡ volumes → rest ≡ [] → ⊥

-- A first line stands in front, and tells of so many objects.
pub record BeginsWith (C : ℕ) (input : List ℕ) (count : ℕ) : Type 0 where
  pub volumes : List ℕ
  pub rest : List ℕ
  pub head : IsHead C count volumes
  pub whole : input ≡ head_line C count volumes ++ codes "\n" ++ rest

-- No first line stands in front.
abbrev pub BeginsNone : ℕ → List ℕ → Type 0
BeginsNone C input = (count : ℕ) → BeginsWith C input count → ⊥
