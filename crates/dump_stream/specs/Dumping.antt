-- What is put of a table's objects, and what a fault leaves.
use Rattle.std.specs.Prelude.{◌≡◌, ◌≢◌, ◌<◌, ◌≤◌, ◌^◌, ◌==◌, ℕ, false, true, Bool, if◌then◌else◌, List, [], ◌∷◌, ◌++◌, length, map, take, Option, Some, None, Result, Err, IfOk, OnErr, OnOk, IsTrue}
use Rattle.std.specs.FinMap as fin
use Rattle.std.specs.List.{AllByRecursion}
use Rattle.disk_face.specs.Devices.{Devices, devices}
use Rattle.disk_face.specs.Frames.{Unchanged}
use Rattle.disk_face.specs.States as disk
use Rattle.disk_face.specs.Streams.{Puts, SinkState}
use Rattle.slot_codec.specs.Spelling.{has_digests, head_len}
use Rattle.slot_pair.specs.Finding.{HasDiskCause}
use Rattle.size_class.specs.declared.TheConstants.{SIZE_MAX}
use Rattle.map_model.specs.Maps.{Map}
use Rattle.map_model.specs.Weights.{Entry}
use Rattle.segment_layout.specs.Books.{differs}
use Rattle.extent_table.specs.declared.spot.Spot.{Spot}
use Rattle.extent_table.specs.Extents.{Extents, Spots, digests_seen}
use Rattle.placement_model.specs.Reads.{object_at, read_at}
use Rattle.reopen.specs.declared.state.Loaded.{Loaded}
use Rattle.data_area.specs.Causes.{HasSinkCause}
use Rattle.dump_stream.specs.Dumps.{dump_line, dump_text, objects_text}
use Rattle.dump_stream.specs.declared.putting.DumpFault.{DumpFault}
use Rattle.dump_stream.specs.declared.putting.DumpFault.TheVariants as why

-- ---- objects

-- an entry of a map to spots, with the bytes that a file gives there
abbrev pub read_entry : ℕ → List ℕ → List ℕ × Spot → Entry
read_entry base file e = (e.0, object_at base file e.1)

-- the objects at spots, by rising name
abbrev pub read_entries : ℕ → List ℕ → Spots → List Entry
read_entries base file spots = map (read_entry base file) (fin.entries spots)

-- how many bytes the objects at spots have, by rising name
abbrev pub sizes_at : Spots → List ℕ
sizes_at spots = map (λ (e : List ℕ × Spot). e.1.size) (fin.entries spots)

-- none is too long
abbrev pub AreSizes : ℕ → List ℕ → Type 0
AreSizes most sizes = AllByRecursion (λ size. size ≤ most) sizes

-- ---- digests

-- the digest of a name, if there are digests
abbrev pub digest_of : Option Map → List ℕ → Option (List ℕ)
digest_of None name = None
digest_of (Some digests) name = fin.get digests name

-- there is a digest for an object, and it isn't the SHA-256 of its bytes
abbrev pub is_spoilt : Option Map → Entry → Bool
is_spoilt digests e = differs (digest_of digests e.0) (Some e.1)

-- none of these objects is spoilt
abbrev pub AreSound : Option Map → List Entry → Type 0
AreSound digests es = AllByRecursion (λ e. is_spoilt digests e ≡ false) es

-- those in front of the first that is spoilt
abbrev pub sound_front : Option Map → List Entry → List Entry
sound_front digests [] = []
sound_front digests (e ∷ es) = if is_spoilt digests e then [] else e ∷ sound_front digests es

-- ---- what is put

-- The fault of a device has its cause.
pub record HasCauses {T : Type 0} (before now : disk.State) (given after : SinkState)
    (result : Result T DumpFault) : Type 0 where
  pub disk_cause : HasDiskCause why.Disk before.faults now.faults result
  pub sink_cause : HasSinkCause why.Sink given after result

-- The text of an object was put, or a front of it where a device failed; of one that hasn't this digest
-- nothing
-- was.
pub record PutsIfSound {T : Type 0} (digest : Option (List ℕ)) (object text : List ℕ) (before now : SinkState)
    (result : Result T DumpFault) : Type 0 where
  pub puts : IsTrue before.tells → result ≢ Err why.Damaged → Puts before.given now.given text result
  pub nothing : result ≡ Err why.Damaged → now.given ≡ before.given
  pub damaged : result ≡ Err why.Damaged → differs digest (Some object) ≡ true
  pub sound : OnOk result (differs digest (Some object) ≡ false)

-- a front of a text was put
abbrev pub Front : List ℕ → List ℕ → List ℕ → Type 0
Front before now text = (n : ℕ) × (n ≤ length text) × (now ≡ before ++ take n text)

-- Of what was held and a text behind it a front was put, and the rest is held.
pub record Gathers (held text before now left : List ℕ) : Type 0 where
  pub moved : List ℕ
  pub put : now ≡ before ++ moved
  pub rest : moved ++ left ≡ held ++ text

-- The text of an object was gathered behind what was held, so that the first bytes of a buffer, as many as
-- the result tells, are held now. Where a device failed a front of both was put, and of an object that is
-- spoilt what was held and nothing of its text.
pub record GathersIfSound (spoilt : Bool) (held text : List ℕ) (before now : SinkState) (buffer : List ℕ)
    (result : Result ℕ DumpFault) : Type 0 where
  pub gathers : IsTrue before.tells
      → IfOk result (λ n. Gathers held text before.given now.given (take n buffer))
  pub front : IsTrue before.tells → result ≢ Err why.Damaged
      → OnErr result (Front before.given now.given (held ++ text))
  pub stops : IsTrue before.tells → result ≡ Err why.Damaged → now.given ≡ before.given ++ held
  pub damaged : result ≡ Err why.Damaged → spoilt ≡ true
  pub sound : OnOk result (spoilt ≡ false)

-- Objects were put one after another, or a front of them where a device failed. Where one is spoilt, those in
-- front of the first such were.
pub record PutsSound {T : Type 0} (digests : Option Map) (es : List Entry) (before now : SinkState)
    (result : Result T DumpFault) : Type 0 where
  pub puts : IsTrue before.tells → result ≢ Err why.Damaged
      → Puts before.given now.given (objects_text es) result
  pub stops : IsTrue before.tells → result ≡ Err why.Damaged
      → now.given ≡ before.given ++ objects_text (sound_front digests es)
  pub damaged : result ≡ Err why.Damaged → AreSound digests es → ⊥
  pub sound : OnOk result (AreSound digests es)

-- The dump of a map was put, or a front of it where a device failed. Where an object is spoilt, what comes
-- before the text of the first such was.
pub record PutsDump {T : Type 0} (C : ℕ) (digests : Option Map) (m : Map) (before now : SinkState)
    (result : Result T DumpFault) : Type 0 where
  pub puts : IsTrue before.tells → result ≢ Err why.Damaged
      → Puts before.given now.given (dump_text C m) result
  pub stops : IsTrue before.tells → result ≡ Err why.Damaged
      → now.given ≡ before.given ++ dump_line C m ++ objects_text (sound_front digests (fin.entries m))
  pub damaged : result ≡ Err why.Damaged → AreSound digests (fin.entries m) → ⊥
  pub sound : OnOk result (AreSound digests (fin.entries m))

-- each size of an object has one of so many classes
pub record CanClass (C : ℕ) : Type 0 where
  pub fits : C ≤ 32
  pub wide : SIZE_MAX < 2 ^ C

-- The dump of the map that a file gives at the places of a table was put as far as can be, and nothing was
-- changed. Where the version has no digests no object is damaged, whatever the disk tells.
pub record DumpsTable {T : Type 0} (C base version : ℕ) (table : Extents) (old new : Devices)
    (result : Result T DumpFault) : Type 0 where
  pub puts : IsTrue old.disk.tells → PutsDump C (digests_seen version table.digests)
      (read_at base old.disk.file table.now) old.sink new.sink result
  pub plain : has_digests version ≡ false → result ≢ Err why.Damaged
  pub causes : HasCauses old.disk new.disk old.sink new.sink result
  pub frame : Unchanged old.disk new.disk

-- the same of a table that was read
abbrev pub DumpsLoaded : {T : Type 0} {C : ℕ} → Loaded C → disk.State → disk.State → SinkState → SinkState
    → Result T DumpFault → Type 0
DumpsLoaded {C = C} x before now given after result =
    DumpsTable C (head_len x.block.names) x.header.version x.table (devices before given) (devices now after)
    result
