-- What opening and closing do to what a handle holds.
use Rattle.std.specs.Prelude.{◌≡◌, ◌<◌, ◌≤◌, ℤ, ℕ, List, length, pos, Ok}
use Rattle.size_class.specs.declared.TheConstants.{CLASSES}
use Rattle.lent_disk.specs.Disks.{lent_state}
use Rattle.lent_disk.specs.Notings.{lent}
use Rattle.lent_disk.specs.Rooms.{Filing, Logging}
use Rattle.slot_codec.specs.Readable.{IsSuperBlock}
use Rattle.slot_codec.specs.Spelling.{head_len}
use Rattle.slot_pair.specs.Formats.{block_for}
use Rattle.reopen.specs.declared.fault.OpenFault.{OpenFault}
use Rattle.store_model.specs.Opened.{IsOpening}
use Rattle.lent_store.specs.Embedded.{disk_of}
use Rattle.lent_store.specs.Made.{IsMade, NotMade}
use Rattle.lent_store.specs.Noted.{IsNotedOf}
use Rattle.lent_store.specs.Opening.{RefusesLent}
use Rattle.store_handle.specs.declared.Stage.{Stage}
use Rattle.store_handle.specs.declared.Stage.TheVariants as stage
use Rattle.costore_c.specs.Answers.{bad_number_code, closed_code, no_room_code, not_new_code, opening_code}

-- a file of so many bytes doesn't fit its region
abbrev pub IsTooLong : ℕ → List ℕ → Type 0
IsTooLong n region = length region < n

-- a store was opened of the file, as the store opens one that is at rest, and its log has the calls of that;
-- or the handle is closed, and the code says why
abbrev pub IsOpenOf : Filing → Logging → Stage → ℤ → Type 0
IsOpenOf room log (stage.Open s) code = (code ≡ pos 0)
    × IsOpening CLASSES (lent_state (lent room.file room.most log.most)) (disk_of s) (Ok s.store)
    × IsNotedOf room.file s
IsOpenOf room log stage.Closed code = (why : OpenFault) × (code ≡ opening_code why)
    × RefusesLent room log why
IsOpenOf room log (stage.Lent r l) code = ⊥

abbrev pub OpensLent : Stage → Stage → ℤ → Type 0
OpensLent (stage.Lent room log) now code = IsOpenOf room log now code
OpensLent stage.Closed now code = (now ≡ stage.Closed) × (code ≡ not_new_code)
OpensLent (stage.Open s) now code = (now ≡ stage.Open s) × (code ≡ not_new_code)

-- the store of the empty map was made for these numbers; or the handle is closed, since there was no memory
-- or the log was too small
abbrev pub IsMadeOf : ℕ → ℕ → Filing → Logging → Stage → ℤ → Type 0
IsMadeOf k names room log (stage.Open s) code = (code ≡ pos 0) × IsMade k names s
IsMadeOf k names room log stage.Closed code = (why : OpenFault) × (code ≡ opening_code why)
    × NotMade names room log why
IsMadeOf k names room log (stage.Lent r l) code = ⊥

-- so of a file without bytes whose head fits its room; any other handle stays
abbrev pub MakesLent : ℕ → ℕ → Stage → Stage → ℤ → Type 0
MakesLent k names (stage.Lent room log) now code =
    (0 < length room.file → (now ≡ stage.Lent room log) × (code ≡ not_new_code))
    × (length room.file ≡ 0 → room.most < head_len names
    → (now ≡ stage.Lent room log) × (code ≡ no_room_code))
    × (length room.file ≡ 0 → head_len names ≤ room.most → IsMadeOf k names room log now code)
MakesLent k names stage.Closed now code = (now ≡ stage.Closed) × (code ≡ not_new_code)
MakesLent k names (stage.Open s) now code = (now ≡ stage.Open s) × (code ≡ not_new_code)

-- numbers out of their ranges come first
pub record Formats (k names : ℕ) (old now : Stage) (code : ℤ) : Type 0 where
  pub bad : ¬ IsSuperBlock (block_for k names) → (now ≡ old) × (code ≡ bad_number_code)
  pub makes : IsSuperBlock (block_for k names) → MakesLent k names old now code

-- a handle is closed; one that was is told
abbrev pub Closes : Stage → Stage → ℤ → Type 0
Closes stage.Closed now code = (now ≡ stage.Closed) × (code ≡ closed_code)
Closes (stage.Lent room log) now code = (now ≡ stage.Closed) × (code ≡ pos 0)
Closes (stage.Open s) now code = (now ≡ stage.Closed) × (code ≡ pos 0)
