-- Batches: puts and removals, each of another name, that take effect as one.
use Rattle.std.specs.Prelude.{◌≡◌, ◌≢◌, ℕ, ◌+◌, ◌≤◌, false, List, [], ◌∷◌, ◌++◌, codes, flat_map, length, IfSome}
use Rattle.std.specs.List.{AllByRecursion}
use Rattle.std.specs.declared.cmp.Ordering.TheVariants.{Less}
use Rattle.size_class.specs.declared.TheConstants.{SIZE_MAX}
use Rattle.slot_codec.specs.Names.{IsName}
use Rattle.map_model.specs.Maps.{Map, name_cmp}
use Rattle.map_model.specs.Requests as ask
use Rattle.map_model.specs.Requests.{Change, changed}
use Rattle.map_model.specs.Weights.{same_name}
use Rattle.ask_text.specs.Inputs.{request_text}

-- the name under which a batch is kept until all of it was done
abbrev pub batch_name : List ℕ
batch_name = codes "!batch"

-- ---- texts

-- the texts of changes, one after another
abbrev pub batch_text : List Change → List ℕ
batch_text changes = flat_map (λ c. request_text (ask.change c)) changes

-- A change that may stand in a batch: its name isn't the batch's own, and its object isn't too long.
pub record IsPart (c : Change) : Type 0 where
  pub named : IsName c.name
  pub other : same_name batch_name c.name ≡ false
  pub small : IfSome c.object (λ object. length object ≤ SIZE_MAX)

-- each name is less than the one after, and this one than the first
abbrev pub RisesFrom : List ℕ → List Change → Type 0
RisesFrom name [] = Unit {0}
RisesFrom name (c ∷ changes) = (name_cmp name c.name ≡ Less) × RisesFrom c.name changes

abbrev pub Rises : List Change → Type 0
Rises [] = Unit {0}
Rises (c ∷ changes) = RisesFrom c.name changes

-- A text begins with changes that may stand in a batch, and then comes this.
pub record Begins (text : List ℕ) (changes : List Change) (rest : List ℕ) : Type 0 where
  pub whole : text ≡ batch_text changes ++ rest
  pub parts : AllByRecursion IsPart changes
  pub rises : Rises changes
  pub short : length (batch_text changes) ≤ SIZE_MAX

-- a text is a batch of these changes
abbrev pub IsBatch : List ℕ → List Change → Type 0
IsBatch text changes = Begins text changes []

abbrev pub IsNoBatch : List ℕ → Type 0
IsNoBatch text = (changes : List Change) → IsBatch text changes → ⊥

-- The number of the first request of a text that can't stand in a batch: those before it can.
pub record StopsAt (text : List ℕ) (n : ℕ) : Type 0 where
  pub changes : List Change
  pub rest : List ℕ
  pub front : Begins text changes rest
  pub number : n ≡ length changes + 1
  pub more : rest ≢ []
  pub none : (c : Change) (others : List ℕ) → Begins text (changes ++ c ∷ []) others → ⊥

-- ---- maps

-- the map after changes, the first of them first
abbrev pub applied : List Change → Map → Map
applied [] m = m
applied (c ∷ changes) m = applied changes (changed c m)
