-- What the calls of a batcher answer, and what they leave.
use Rattle.std.specs.Prelude.{◌≡◌, ◌≢◌, ◌⊎◌, ℕ, ◌+◌, ◌<◌, ◌^◌, ◌≤◌, Bool, true, false, ◌||◌, if◌then◌else◌, List, [], ◌∷◌, ◌++◌, length, take, Option, Some, None, Result, Ok, Err, IfOk, IsTrue}
use Rattle.std.specs.FinMap as fin
use Rattle.disk_face.specs.States as disk
use Rattle.disk_face.specs.Frames.{Unchanged}
use Rattle.disk_face.specs.Moments.{Leaves}
use Rattle.disk_face.specs.Writes.{KeepsDisk}
use Rattle.slot_pair.specs.Finding.{HasDiskCause}
use Rattle.size_class.specs.declared.TheConstants.{SIZE_MAX}
use Rattle.map_model.specs.Requests as ask
use Rattle.map_model.specs.Requests.{Change, Reply, Request}
use Rattle.segment_layout.specs.Books.{is_damaged}
use Rattle.store_model.specs.declared.answers.Refusal.{Refusal}
use Rattle.store_model.specs.declared.answers.Refusal.TheVariants as why
use Rattle.store_model.specs.Answers.{size_at}
use Rattle.store_model.specs.Changes.{NothingChanged}
use Rattle.store_model.specs.Connection.{IsConnected, StoreValue, limits_of, live_cap}
use Rattle.store_model.specs.States.{Run, object_in}
use Rattle.store_model.specs.Stores.{IsStore}
use Rattle.store_model.specs.Quiet.{put_of}
use Rattle.batch_model.specs.Batches.{IsBatch, IsNoBatch, StopsAt, applied, batch_name}
use Rattle.batch_model.specs.Views.{unbatched}
use Rattle.batch_core.specs.Doing.{Batch, IsBatchMap, last_requests, misfit_in, requests_for, worn_from}
use Rattle.batch_core.specs.Going.{IsLeft}
use Rattle.batch_core.specs.Making.{OpensToLast}
use Rattle.batch_core.specs.StoresOn.{RestsOn, StoreOn, state_on}
use Rattle.batch_core.specs.declared.fault.BatchFault.{BatchFault}
use Rattle.batch_core.specs.declared.fault.BatchFault.TheVariants as fault

-- ---- faults

abbrev pub is_disk : BatchFault → Bool
is_disk fault.Disk = true
is_disk fault.Broken = false
is_disk fault.Damaged = false
is_disk fault.NoBatch = false
is_disk (fault.Line n) = false
is_disk (fault.Unfit n) = false
is_disk fault.Worn = false

abbrev pub is_disk_fault : {T : Type 0} → Result T BatchFault → Bool
is_disk_fault (Ok x) = false
is_disk_fault (Err why) = is_disk why

-- the requests of a batch were begun
abbrev pub is_begun : Result Bool BatchFault → Bool
is_begun (Ok done) = done
is_begun (Err why) = is_disk why

-- ---- a text that is judged

-- A text is a batch of these changes, which fits the store; where the batch is done again, the store beside
-- it.
pub record HasFit (again : Bool) (s : StoreValue) (text : List ℕ) : Type 0 where
  pub changes : List Change
  pub batch : IsBatch text changes
  pub fits : misfit_in again s changes ≡ None

-- The first change of a batch that doesn't fit has this number.
pub record HasMisfit (again : Bool) (s : StoreValue) (text : List ℕ) (n : ℕ) : Type 0 where
  pub changes : List Change
  pub batch : IsBatch text changes
  pub misfit : misfit_in again s changes ≡ Some n

-- there is something to do: a batch that is kept is removed at least
abbrev pub HasWork : Bool → List ℕ → Type 0
HasWork again text = (again ≡ true) ⊎ (text ≢ [])

-- Why a batch isn't begun, the first that applies: its text is none; it doesn't fit; the sequence leaves no
-- room.
abbrev pub IsJudged : Bool → StoreValue → List ℕ → Result (Unit {0}) BatchFault → Type 0
IsJudged again s text (Ok x) = HasFit again s text × (HasWork again text → s.in_use.sequence < worn_from)
IsJudged again s text (Err fault.Broken) = ⊥
IsJudged again s text (Err fault.Damaged) = ⊥
IsJudged again s text (Err fault.NoBatch) = (again ≡ true) × IsNoBatch text
IsJudged again s text (Err (fault.Line n)) = (again ≡ false) × StopsAt text n
IsJudged again s text (Err (fault.Unfit n)) = HasMisfit again s text n
IsJudged again s text (Err fault.Worn) = HasFit again s text × HasWork again text
    × (worn_from ≤ s.in_use.sequence)
IsJudged again s text (Err fault.Disk) = ⊥

-- ---- apply

-- a batch of at least one change fits a store that isn't broken
abbrev pub MayApply : StoreValue → List ℕ → Type 0
MayApply s text = (s.is_broken ≡ false) × (text ≢ []) × HasFit false s text

-- What `apply` answers. Each case excludes the others, but that the disk may fail where all could be done: so
-- each comes exactly where it says.
abbrev pub AnswersApply : StoreValue → List ℕ → Result Bool BatchFault → Type 0
AnswersApply s text (Ok true) = MayApply s text × (s.in_use.sequence < worn_from)
AnswersApply s text (Ok false) = (s.is_broken ≡ false) × (text ≡ [])
AnswersApply s text (Err fault.Broken) = s.is_broken ≡ true
AnswersApply s text (Err fault.Damaged) = ⊥
AnswersApply s text (Err fault.NoBatch) = ⊥
AnswersApply s text (Err (fault.Line n)) = (s.is_broken ≡ false) × StopsAt text n
AnswersApply s text (Err (fault.Unfit n)) = (s.is_broken ≡ false) × HasMisfit false s text n
AnswersApply s text (Err fault.Worn) = MayApply s text × (worn_from ≤ s.in_use.sequence)
AnswersApply s text (Err fault.Disk) = MayApply s text × (s.in_use.sequence < worn_from)

-- the batch of a text that is applied over a disk that tells its content
abbrev pub applied_to : StoreOn → List ℕ → List Change → Batch
applied_to x text changes = record { text = text; changes = changes; map = (state_on x).map }

-- its requests: the text is kept under the batch's name first, and is removed last
abbrev pub requests_of : List ℕ → List Change → List Request
requests_of text changes = ask.change (put_of batch_name text) ∷ ask.keep ∷ requests_for changes
    ++ last_requests

-- ---- a batch that was begun

-- All of a batch was done: its requests were made one after another, what stands is the map after its
-- changes, which is the checkpoint, and a crash leaves that alone. As many names may be live, and the
-- sequence rose by less than 2^25.
pub record IsBatchDone (classes : ℕ) (b : Batch) (requests : List Request) (old new : StoreOn) : Type 0 where
  pub ran : (replies : List Reply) × Run (limits_of old.store) (state_on old) requests replies (state_on new)
  pub same_map : (state_on new).map ≡ applied b.changes b.map
  pub kept : (state_on new).kept ≡ applied b.changes b.map
  pub kept_book : new.store.kept_book ≡ new.store.book
  pub block : new.store.in_use.block ≡ old.store.in_use.block
  pub same_cap : live_cap new.store ≡ live_cap old.store
  pub reach : new.store.in_use.sequence < old.store.in_use.sequence + 2 ^ 25
  pub gone : fin.get (applied b.changes b.map) batch_name ≡ None
  pub opens : OpensToLast classes new new.disk.file
  pub rests : RestsOn old → RestsOn new
  pub all : RestsOn old → (image : List ℕ) → new.disk.may_leave image → OpensToLast classes new image

-- A batch was begun on a disk that tells its content. What a crash may leave meanwhile, where the disk rested
-- on the checkpoint's table, opens to that checkpoint or to a map of the batch, and so does the content.
pub record IsBegun (classes : ℕ) (b : Batch) (requests : List Request) (old new : StoreOn)
    (result : Result Bool BatchFault) : Type 0 where
  pub done : result ≡ Ok true → IsBatchDone classes b requests old new
  pub left : RestsOn old → Leaves old.disk new.disk (IsLeft classes (IsBatchMap b) old)
  pub content : IsLeft classes (IsBatchMap b) old new.disk.file

-- nothing changed where no batch was begun
abbrev pub SameUnbegun : StoreOn → StoreOn → Result Bool BatchFault → Type 0
SameUnbegun old new result = is_begun result ≡ false
    → NothingChanged old.store new.store old.disk new.disk

-- What `apply` does. Nothing changes where no batch was begun; the store is broken where the disk failed.
pub record Applies (classes : ℕ) (text : List ℕ) (old new : StoreOn) (result : Result Bool BatchFault)
    : Type 0 where
  pub answer : AnswersApply old.store text result
  pub same : SameUnbegun old new result
  pub begun : is_begun result ≡ true → IsTrue old.disk.tells → (changes : List Change)
      → IsBatch text changes
      → IsBegun classes (applied_to old text changes) (requests_of text changes) old new result
  pub over : IsConnected classes new.store new.disk
  pub broken : new.store.is_broken ≡ (old.store.is_broken || is_disk_fault result)
  pub sound : IfOk result (λ done. IsStore classes new.store)
  pub frame : KeepsDisk old.disk new.disk
  pub cause : HasDiskCause fault.Disk old.disk.faults new.disk.faults result

-- ---- finish

-- the text that a store keeps as a batch, over a disk that tells its content
abbrev pub kept_text : StoreOn → List ℕ
kept_text x = object_in (state_on x).map batch_name

-- A store that isn't broken keeps an object under the batch's name.
abbrev pub IsPending : StoreValue → Type 0
IsPending s = (s.is_broken ≡ false) × IsTrue (fin.contains_key s.now batch_name)

-- how many bytes that object has
abbrev pub kept_size : StoreValue → ℕ
kept_size s = if s.is_broken then 0 else size_at (fin.get s.now batch_name)

-- and what it keeps has the digest that it is to have
abbrev pub IsSound : StoreOn → Type 0
IsSound x = is_damaged x.store.book (state_on x).map batch_name ≡ false

-- What `finish` answers by what the store keeps, on a disk that tells its content: each comes exactly where
-- it says, but that the disk may fail.
abbrev pub JudgesKept : StoreOn → Result Bool BatchFault → Type 0
JudgesKept x (Ok false) = Unit {0}
JudgesKept x (Ok true) = IsSound x × HasFit true x.store (kept_text x)
JudgesKept x (Err fault.Broken) = Unit {0}
JudgesKept x (Err fault.Damaged) = is_damaged x.store.book (state_on x).map batch_name ≡ true
JudgesKept x (Err fault.NoBatch) = IsSound x × IsNoBatch (kept_text x)
JudgesKept x (Err (fault.Line n)) = ⊥
JudgesKept x (Err (fault.Unfit n)) = IsSound x × HasMisfit true x.store (kept_text x) n
JudgesKept x (Err fault.Worn) = IsSound x × HasFit true x.store (kept_text x)
JudgesKept x (Err fault.Disk) = Unit {0}

-- What it answers on any disk.
abbrev pub AnswersFinish : StoreValue → Result Bool BatchFault → Type 0
AnswersFinish s (Ok true) = IsPending s × (s.in_use.sequence < worn_from)
AnswersFinish s (Ok false) = (s.is_broken ≡ false) × (fin.get s.now batch_name ≡ None)
AnswersFinish s (Err fault.Broken) = s.is_broken ≡ true
AnswersFinish s (Err fault.Damaged) = IsPending s
AnswersFinish s (Err fault.NoBatch) = IsPending s
AnswersFinish s (Err (fault.Line n)) = ⊥
AnswersFinish s (Err (fault.Unfit n)) = IsPending s
AnswersFinish s (Err fault.Worn) = IsPending s × (worn_from ≤ s.in_use.sequence)
AnswersFinish s (Err fault.Disk) = IsPending s

-- neither the store nor the disk changed
abbrev pub ChangesNothing : StoreOn → StoreOn → Type 0
ChangesNothing old new = (new.store ≡ old.store) × Unchanged old.disk new.disk

-- A store is broken by a request in which the disk failed; where it failed as the text was read, nothing
-- changed.
pub record BreaksBy (old new : StoreOn) (result : Result Bool BatchFault) : Type 0 where
  pub calm : is_disk_fault result ≡ false → new.store.is_broken ≡ old.store.is_broken
  pub failed : is_disk_fault result ≡ true → (new.store.is_broken ≡ true) ⊎ ChangesNothing old new

-- the batch that a store keeps isn't damaged, fits beside it, and may be begun
pub record MayFinish (x : StoreOn) : Type 0 where
  pub sound : IsSound x
  pub fit : HasFit true x.store (kept_text x)
  pub early : x.store.in_use.sequence < worn_from

-- the disk failed in a batch that may be begun, or nothing changed
abbrev pub FailsIn : StoreOn → StoreOn → Type 0
FailsIn old new = MayFinish old ⊎ ChangesNothing old new

-- the batch that a store keeps, over a disk that tells its content
abbrev pub kept_batch : StoreOn → List Change → Batch
kept_batch x changes = record { text = kept_text x; changes = changes; map = unbatched (state_on x).map }

-- What `finish` does. Nothing changes where no batch was begun, and after it a store keeps none. The disk's
-- fault comes in a batch that may be begun, or changes nothing.
pub record Finishes (classes : ℕ) (old new : StoreOn) (result : Result Bool BatchFault) : Type 0 where
  pub answer : AnswersFinish old.store result
  pub judged : IsTrue old.disk.tells → JudgesKept old result
  pub fails : is_disk_fault result ≡ true → IsTrue old.disk.tells → FailsIn old new
  pub same : SameUnbegun old new result
  pub begun : is_begun result ≡ true → IsTrue old.disk.tells → (changes : List Change)
      → IsBatch (kept_text old) changes
      → IsBegun classes (kept_batch old changes) (requests_for changes ++ last_requests) old new result
  pub over : IsConnected classes new.store new.disk
  pub broken : BreaksBy old new result
  pub whole : IfOk result (λ done. (new.store.is_broken ≡ false) × IsStore classes new.store)
  pub gone : IfOk result (λ done. fin.get new.store.now batch_name ≡ None)
  pub frame : KeepsDisk old.disk new.disk
  pub cause : HasDiskCause fault.Disk old.disk.faults new.disk.faults result

-- ---- within a finish

-- a text was read as what a store keeps as a batch, and it isn't damaged
pub record IsKeptText (x : StoreOn) (text : List ℕ) : Type 0 where
  pub pending : IsTrue (fin.contains_key x.store.now batch_name)
  pub long : size_at (fin.get x.store.now batch_name) ≡ length text
  pub same : IsTrue x.disk.tells → text ≡ kept_text x
  pub sound : IsTrue x.disk.tells → IsSound x

-- a disk was read
pub record IsReadBy (old new : disk.State) : Type 0 where
  pub frame : Unchanged old new
  pub calm : new.faults ≡ old.faults

-- What a store keeps as a batch was read into the front of a text, or there is none; a fault says why it
-- couldn't be read.
abbrev pub FetchedAs : StoreOn → List ℕ → Result (Option ℕ) BatchFault → Type 0
FetchedAs x text (Ok (Some n)) = (n ≤ length text) × (n ≤ SIZE_MAX) × IsKeptText x (take n text)
FetchedAs x text (Ok None) = fin.get x.store.now batch_name ≡ None
FetchedAs x text (Err fault.Damaged) = IsTrue (fin.contains_key x.store.now batch_name)
    × (IsTrue x.disk.tells → is_damaged x.store.book (state_on x).map batch_name ≡ true)
FetchedAs x text (Err fault.Disk) = IsTrue (fin.contains_key x.store.now batch_name)
FetchedAs x text (Err _) = ⊥

pub record IsFetched (x : StoreOn) (after : disk.State) (text : List ℕ)
    (result : Result (Option ℕ) BatchFault) : Type 0 where
  pub fetched : FetchedAs x text result
  pub frame : Unchanged x.disk after
  pub cause : HasDiskCause fault.Disk x.disk.faults after.faults result

-- what the answer of a read is to that
abbrev pub fetched_of : Result ℕ Refusal → Result (Option ℕ) BatchFault
fetched_of (Ok n) = Ok (Some n)
fetched_of (Err why.Missing) = Ok None
fetched_of (Err why.Damaged) = Err fault.Damaged
fetched_of (Err why.Broken) = Err fault.Disk
fetched_of (Err why.BadName) = Err fault.Disk
fetched_of (Err why.TooLong) = Err fault.Disk
fetched_of (Err why.TooMany) = Err fault.Disk
fetched_of (Err why.Full) = Err fault.Disk
fetched_of (Err why.Worn) = Err fault.Disk
fetched_of (Err why.Disk) = Err fault.Disk
fetched_of (Err why.Sink) = Err fault.Disk
