-- A change as it is read from the front of a text.
use Rattle.std.specs.Prelude.{◌≡◌, ◌+◌, ◌≤◌, ℕ, nat_le, Bool, true, not, ◌&&◌, List, [], ◌∷◌, ◌++◌, length, Option, Some, None, IfSome}
use Rattle.std.specs.Borrow.{Bor}
use Rattle.std.specs.Ordering.{is_lt}
use Rattle.size_class.specs.declared.TheConstants.{SIZE_MAX}
use Rattle.slot_codec.specs.Names.{IsName}
use Rattle.map_model.specs.Maps.{name_cmp}
use Rattle.map_model.specs.Requests as ask
use Rattle.map_model.specs.Requests.{Change}
use Rattle.ask_text.specs.Inputs.{request_text}
use Rattle.map_model.specs.Weights.{same_name}
use Rattle.batch_model.specs.Batches.{Begins, batch_name}
use Rattle.batch_model.specs.declared.part.Part.{Part}

-- its name is one, and its object isn't too long
pub record CanStand (c : Change) : Type 0 where
  pub named : IsName c.name
  pub small : IfSome c.object (λ object. length object ≤ SIZE_MAX)

-- no such change stands in front
abbrev pub IsNoPart : List ℕ → Type 0
IsNoPart text = (c : Change) (rest : List ℕ) → CanStand c → text ≡ request_text (ask.change c) ++ rest → ⊥

abbrev pub object_of : Option (Bor (List ℕ)) → Option (List ℕ)
object_of None = None
object_of (Some object) = Some object.now

abbrev pub change_of : Part → Change
change_of p = record { name = p.name; object = object_of p.object }

-- an object of so many bytes stood in front, with a newline behind it
pub record ReadsObject (size : ℕ) (text object rest : List ℕ) : Type 0 where
  pub long : length object ≡ size
  pub small : size ≤ SIZE_MAX
  pub whole : text ≡ object ++ 10 ∷ rest

-- a name comes behind the one before, where there is one
abbrev pub is_behind : Option (List ℕ) → List ℕ → Bool
is_behind None name = true
is_behind (Some before) name = is_lt (name_cmp before name)

-- a change of a name, whose text ends there, may follow those before it
abbrev pub may_follow : Option (List ℕ) → List ℕ → ℕ → Bool
may_follow before name end = not (same_name batch_name name) && is_behind before name && nat_le end SIZE_MAX

-- the name of the last change, where there is one
abbrev pub last_from : Option (List ℕ) → List Change → Option (List ℕ)
last_from before [] = before
last_from before (c ∷ changes) = last_from (Some c.name) changes

-- A front of a text was read: changes that may stand in a batch, so many, and the last of this name.
pub record IsChecked (text rest : List ℕ) (before : Option (List ℕ)) (n : ℕ) : Type 0 where
  pub changes : List Change
  pub front : Begins text changes rest
  pub last : before ≡ last_from None changes
  pub number : n ≡ length changes
  pub few : n + length rest ≤ length text
