-- A batch that is done by a store: which store can do it, and what stands meanwhile.
use Rattle.std.specs.Prelude.{◌≡◌, ◌≢◌, ◌⊎◌, ℕ, ◌+◌, ◌-◌, ◌*◌, ◌<◌, ◌^◌, Bool, true, false, if◌then◌else◌, List, [], ◌∷◌, ◌++◌, map, Option, Some, None, Result, Ok, Err, IsTrue}
use Rattle.std.specs.FinMap as fin
use Rattle.std.specs.List.{AllByRecursion}
use Rattle.map_model.specs.Maps.{Map}
use Rattle.map_model.specs.Requests as ask
use Rattle.map_model.specs.Requests.{Change, Request}
use Rattle.store_model.specs.Connection.{IsConnected, StoreValue, live_cap}
use Rattle.store_model.specs.Stores.{IsStore}
use Rattle.batch_model.specs.Batches.{IsBatch, IsPart, applied, batch_name, batch_text}
use Rattle.batch_model.specs.Fits.{counted_from, counted_misfit, made, misfit}
use Rattle.batch_core.specs.Going.{Goes, Going, Stops}
use Rattle.batch_core.specs.Making.{most_raised}
use Rattle.batch_core.specs.StoresOn.{StandsFor, StoreOn}

-- ---- whether it fits

-- how many names a store has beside a batch that it keeps
abbrev pub names_beside : Bool → StoreValue → ℕ
names_beside again s = if again then fin.len s.now - 1 else fin.len s.now

-- a name is one of the store
abbrev pub is_live : StoreValue → List ℕ → Bool
is_live s name = fin.contains_key s.now name

-- The number of the first change of a batch that doesn't fit a store; where the batch is done again, the
-- store beside it.
abbrev pub misfit_in : Bool → StoreValue → List Change → Option ℕ
misfit_in again s changes = counted_misfit again (live_cap s) (is_live s) (names_beside again s) changes

-- from this sequence on no batch is begun: those of one raise it by less than 2^25
abbrev pub worn_from : ℕ
worn_from = 2 ^ 61 - 2 ^ 25

-- ---- what stands meanwhile

-- a batch: its text, its changes, and the map to which they are done
pub record Batch : Type 0 where
  pub text : List ℕ
  pub changes : List Change
  pub map : Map

-- the map in which a front of its changes was done, with its text under its name
abbrev pub half_done : Batch → List Change → Map
half_done b done = fin.insert (applied done b.map) batch_name b.text

-- A map of a batch that is being done: a front of its changes was done and its text is kept, or all were done
-- and the text is gone.
abbrev pub IsBatchMap : Batch → Map → Type 0
IsBatchMap b m = ((done : List Change) × (others : List Change) × (b.changes ≡ done ++ others)
    × (m ≡ half_done b done)) ⊎ (m ≡ applied b.changes b.map)

-- the requests of changes
abbrev pub requests_for : List Change → List Request
requests_for changes = map ask.change changes

-- ---- how it goes

-- A store can make requests: it isn't broken, and is over a disk that is ready.
pub record CanGo (classes : ℕ) (x : StoreOn) : Type 0 where
  pub whole : x.store.is_broken ≡ false
  pub sound : IsStore classes x.store
  pub over : IsConnected classes x.store x.disk
  pub ready : IsTrue x.disk.is_ready

-- A store can do a batch whose text it keeps: it stands for its map with the text in it, the batch fits, and
-- the sequence leaves room for its requests and so many more.
pub record CanDo (classes : ℕ) (x : StoreOn) (text : List ℕ) (b : Batch) : Type 0 where
  pub go : CanGo classes x
  pub same_text : b.text ≡ text
  pub batch : IsBatch text b.changes
  pub free : fin.get b.map batch_name ≡ None
  pub stands : StandsFor x (half_done b [])
  pub fits : misfit true (live_cap x.store) b.map b.changes ≡ None
  pub early : x.store.in_use.sequence + most_raised * (made b.changes b.map + 2) < 2 ^ 61

-- A store can begin a batch: it stands for its map without the text, the batch has changes and fits, and the
-- sequence leaves room.
pub record CanBegin (classes : ℕ) (x : StoreOn) (text : List ℕ) (b : Batch) : Type 0 where
  pub go : CanGo classes x
  pub same_text : b.text ≡ text
  pub batch : IsBatch text b.changes
  pub free : fin.get b.map batch_name ≡ None
  pub stands : StandsFor x b.map
  pub room : fin.len b.map < live_cap x.store
  pub early : x.store.in_use.sequence + most_raised * 2 < 2 ^ 61

-- A store can end a batch: it stands for the map after all changes with the text in it.
pub record CanEnd (classes : ℕ) (x : StoreOn) (b : Batch) : Type 0 where
  pub go : CanGo classes x
  pub batch : IsBatch b.text b.changes
  pub free : fin.get b.map batch_name ≡ None
  pub stands : StandsFor x (half_done b b.changes)
  pub early : x.store.in_use.sequence + most_raised * 2 < 2 ^ 61

-- A store can apply a batch: it stands for its map, which keeps none, the batch has changes and fits, and the
-- sequence leaves room for all its requests.
pub record CanApply (classes : ℕ) (x : StoreOn) (text : List ℕ) (b : Batch) : Type 0 where
  pub go : CanGo classes x
  pub same_text : b.text ≡ text
  pub batch : IsBatch text b.changes
  pub some : b.changes ≢ []
  pub free : fin.get b.map batch_name ≡ None
  pub stands : StandsFor x b.map
  pub fits : misfit false (live_cap x.store) b.map b.changes ≡ None
  pub early : x.store.in_use.sequence < worn_from

-- the text was put, and kept
abbrev pub begun : Batch → Going
begun b = record {
  requests = ask.change (record { name = batch_name; object = Some b.text }) ∷ ask.keep ∷ [];
  made = 2;
  map = half_done b [];
}

-- what all of its changes come to
abbrev pub all_changes : Batch → Going
all_changes b = record {
  requests = requests_for b.changes;
  made = made b.changes b.map;
  map = half_done b b.changes;
}

-- the text was removed, and that was kept
abbrev pub last_requests : List Request
last_requests = ask.change (record { name = batch_name; object = None }) ∷ ask.keep ∷ []

abbrev pub ended : Batch → Going
ended b = record { requests = last_requests; made = 2; map = applied b.changes b.map }

-- all of that
abbrev pub all_done : Batch → Going
all_done b = record {
  requests = requests_for b.changes ++ last_requests;
  made = made b.changes b.map + 2;
  map = applied b.changes b.map;
}

-- and with what begins it
abbrev pub all_applied : Batch → Going
all_applied b = record {
  requests = ask.change (record { name = batch_name; object = Some b.text }) ∷ ask.keep
      ∷ requests_for b.changes ++ last_requests;
  made = made b.changes b.map + 4;
  map = applied b.changes b.map;
}

-- requests went so, or the disk failed in one
abbrev pub GoesOrStops : {T E : Type 0} → ℕ → Batch → StoreOn → StoreOn → Going → Result T E → Type 0
GoesOrStops classes b old new g (Ok x) = Goes classes (IsBatchMap b) old new g
GoesOrStops classes b old new g (Err e) = Stops classes (IsBatchMap b) old new

-- what stands is the last checkpoint
abbrev pub IsKeptNow : StoreValue → Type 0
IsKeptNow s = (s.kept ≡ s.now) × (s.kept_book ≡ s.book)

-- ---- loops over its text

-- Of a batch's changes the first were done, and the rest of its text is that of the others.
pub record IsDoing (classes : ℕ) (b : Batch) (old now : StoreOn) (rest : List ℕ) : Type 0 where
  pub finished : List Change
  pub others : List Change
  pub split : b.changes ≡ finished ++ others
  pub text : rest ≡ batch_text others
  pub goes : Goes classes (IsBatchMap b) old now (record {
    requests = requests_for finished;
    made = made finished b.map;
    map = half_done b finished;
  })

-- Of a batch's changes so many were counted, and the rest of its text is that of the others.
pub record IsCounting (again : Bool) (s : StoreValue) (changes : List Change) (rest : List ℕ)
    (count n : ℕ) : Type 0 where
  pub others : List Change
  pub text : rest ≡ batch_text others
  pub parts : AllByRecursion IsPart others
  pub same : misfit_in again s changes ≡ counted_from again (live_cap s) n (is_live s) count others
