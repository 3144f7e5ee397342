-- What a map is viewed as: with the batch that is kept in it done.
use Rattle.std.specs.Prelude.{◌≡◌, ◌⊎◌, List, ℕ, Option, Some, None}
use Rattle.std.specs.FinMap as fin
use Rattle.map_model.specs.Maps.{Map}
use Rattle.map_model.specs.Requests.{Change}
use Rattle.batch_model.specs.Batches.{IsBatch, IsNoBatch, applied, batch_name}

-- a map without the batch that is kept in it
abbrev pub unbatched : Map → Map
unbatched m = fin.remove m batch_name

-- A batch was kept in a map, and the view is that of all its changes.
pub record IsBatched (text : List ℕ) (m view : Map) : Type 0 where
  pub changes : List Change
  pub batch : IsBatch text changes
  pub same : view ≡ applied changes (unbatched m)

abbrev pub IsViewBy : Option (List ℕ) → Map → Map → Type 0
IsViewBy None m view = view ≡ m
IsViewBy (Some text) m view = IsBatched text m view ⊎ (IsNoBatch text × (view ≡ m))

-- a map is viewed as this: where it keeps a batch, the map with the batch done and gone; else the map itself
abbrev pub IsView : Map → Map → Type 0
IsView m view = IsViewBy (fin.get m batch_name) m view
