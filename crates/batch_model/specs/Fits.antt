-- Which batches fit a map.
use Rattle.std.specs.Prelude.{◌≡◌, ◌⊎◌, ℕ, ◌+◌, ◌-◌, ◌<◌, nat_lt, Bool, ◌&&◌, ◌||◌, if◌then◌else◌, List, [], ◌∷◌, ◌++◌, is_some, Option, Some, None, IsTrue}
use Rattle.std.specs.List.{AllByRecursion}
use Rattle.std.specs.FinMap as fin
use Rattle.map_model.specs.Maps.{Map}
use Rattle.map_model.specs.Requests.{Change, changed}
use Rattle.batch_model.specs.Batches.{applied}

-- A batch fits a map with room for so many names, one of them its own: the map has room for that, each
-- removal is of a name that the map has, and no front of the batch leaves more names.
pub record FitsIn (cap : ℕ) (m : Map) (changes : List Change) : Type 0 where
  pub now : fin.len m < cap
  pub live : AllByRecursion (λ c. c.object ≡ None → IsTrue (fin.contains_key m c.name)) changes
  pub each : (front others : List Change) → changes ≡ front ++ others → fin.len (applied front m) < cap

-- a batch of no changes fits each map
abbrev pub Fits : ℕ → Map → List Change → Type 0
Fits cap m changes = (changes ≡ []) ⊎ FitsIn cap m changes

-- ---- the first change that doesn't fit

-- A change fits after those before it. Where a batch is done again a removal always does.
abbrev pub fits_next : Bool → ℕ → Map → Change → Bool
fits_next again cap m c = (is_some c.object || again || fin.contains_key m c.name)
    && nat_lt (fin.len (changed c m)) cap

abbrev pub misfit_from : Bool → ℕ → ℕ → Map → List Change → Option ℕ
misfit_from again cap n m [] = None
misfit_from again cap n m (c ∷ changes) =
    if fits_next again cap m c then misfit_from again cap (n + 1) (changed c m) changes else Some n

-- the number of the first change that doesn't fit: the first where the map has too many names already
abbrev pub misfit : Bool → ℕ → Map → List Change → Option ℕ
misfit again cap m [] = None
misfit again cap m (c ∷ changes) =
    if nat_lt (fin.len m) cap then misfit_from again cap 1 m (c ∷ changes) else Some 1

-- ---- by a count

-- how many names there are after a change of a name that is live or isn't
abbrev pub count_after : Bool → Option (List ℕ) → ℕ → ℕ
count_after live None count = if live then count - 1 else count
count_after live (Some object) count = if live then count else count + 1

abbrev pub counted_from : Bool → ℕ → ℕ → (List ℕ → Bool) → ℕ → List Change → Option ℕ
counted_from again cap n live count [] = None
counted_from again cap n live count (c ∷ changes) =
    if (is_some c.object || again || live c.name) && nat_lt (count_after (live c.name) c.object count) cap
    then counted_from again cap (n + 1) live (count_after (live c.name) c.object count) changes
    else Some n

-- The same by which names are live at the start and how many, from the left. No name comes twice.
abbrev pub counted_misfit : Bool → ℕ → (List ℕ → Bool) → ℕ → List Change → Option ℕ
counted_misfit again cap live count [] = None
counted_misfit again cap live count (c ∷ changes) =
    if nat_lt count cap then counted_from again cap 1 live count (c ∷ changes) else Some 1

-- ---- how many requests are made

-- one for a put, and for a removal of a name that is there
abbrev pub made_by : Map → Change → ℕ
made_by m c = if is_some c.object || fin.contains_key m c.name then 1 else 0

-- how many requests changes make, one after another
abbrev pub made : List Change → Map → ℕ
made [] m = 0
made (c ∷ changes) m = made_by m c + made changes (changed c m)
