-- What the first bytes of a file say, and the version of the library.
use Rattle.std.specs.Prelude.{◌≡◌, ◌<◌, ◌≤◌, ℤ, ℕ, pos, List, length, take, Result, Ok, Err}
use Rattle.slot_codec.specs.Reading.{read_superblock}
use Rattle.slot_codec.specs.Spelling.{head_len, superblock_len}
use Rattle.slot_codec.specs.declared.codec.CodecFault.{CodecFault}
use Rattle.slot_codec.specs.declared.codec.SuperBlock.{SuperBlock}
use Rattle.costore_c.specs.Answers.{no_store_code, short_code}
use Rattle.costore_c.specs.declared.shape.Shape.{Shape}

abbrev pub shape_of : SuperBlock → Shape
shape_of block = record { k = block.k; names = block.names; head = head_len block.names }

-- a superblock was told, or there is none
abbrev pub TellsBlock : Result SuperBlock CodecFault → Shape → Shape → ℤ → Type 0
TellsBlock (Ok block) before now code = (code ≡ pos 0) × (now ≡ shape_of block)
TellsBlock (Err fault) before now code = (code ≡ no_store_code) × (now ≡ before)

-- that of the first bytes of a file, where there are as many as it has
pub record TellsShape (front : List ℕ) (before now : Shape) (code : ℤ) : Type 0 where
  pub short : length front < superblock_len → (code ≡ short_code) × (now ≡ before)
  pub long : superblock_len ≤ length front
      → TellsBlock (read_superblock (take superblock_len front)) before now code

-- 0.1.0
abbrev pub version_number : ℕ
version_number = 100
