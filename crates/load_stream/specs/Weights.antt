-- How much a load asks of a disk: at most how many bytes spell its changing calls, 17 each beside those that
-- they write.
use Rattle.std.specs.Prelude.{ℕ, ◌+◌, ◌*◌, ◌/◌}
use Rattle.disk_face.specs.Frames.{call_weight}
use Rattle.slot_pair.specs.Saves.{save_weight}
use Rattle.data_area.specs.Pieces.{pieces}

-- the writes of so many bytes, in pieces of a buffer of this length
abbrev pub write_weight : ℕ → ℕ → ℕ
write_weight len size = size + call_weight * pieces len size

-- The writes of n objects of so many bytes in all, in pieces of 65,536 bytes. An object has at most one piece
-- that isn't full.
abbrev pub objects_weight : ℕ → ℕ → ℕ
objects_weight n volume = volume + call_weight * (n + volume / 65536)

-- What fills a formatted file: the call that sets its length, the writes of so many objects, and the save of
-- their table.
abbrev pub fill_weight : ℕ → ℕ → ℕ
fill_weight count volume = call_weight + objects_weight count volume + save_weight 1 count

-- a whole load: 260 bytes spell the calls of the format, and the file is filled
abbrev pub load_weight : ℕ → ℕ → ℕ
load_weight count volume = 260 + fill_weight count volume
