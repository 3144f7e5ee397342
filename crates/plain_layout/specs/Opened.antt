-- A file that was opened, and why one isn't.
use Rattle.std.specs.Prelude.{◌≡◌, ℕ, List, Option, Ok, is_some}
use Rattle.slot_codec.specs.Choice as choice
use Rattle.slot_pair.specs.Finding.{Refuses, chosen_of}
use Rattle.slot_codec.specs.Spelling.{has_digests, head_len}
use Rattle.segment_layout.specs.Books.{with_digests}
use Rattle.table_rules.specs.Opening.{OpensBy, placed_table}
use Rattle.table_rules.specs.Rules.{FirstBroken}
use Rattle.table_rules.specs.Tables.{book_of, map_of}
use Rattle.plain_layout.specs.Plain.{placed}
use Rattle.plain_layout.specs.declared.opened.Opened.{Opened}
use Rattle.plain_layout.specs.declared.opened.Refusal.{Refusal}
use Rattle.plain_layout.specs.declared.opened.Refusal.TheVariants as refusal

-- the table that was read, with digests
abbrev pub table_seen : Opened → Option choice.Digests → choice.SlotTable
table_seen o digests = record {
  chosen = chosen_of o.found o.table.header;
  records = o.table.records.items;
  digests = digests;
}

-- The file's table was read, whose digests are there where its version has them.
pub record IsReadFrom (file : List ℕ) (o : Opened) : Type 0 where
  pub digests : Option choice.Digests
  pub digested : is_some digests ≡ has_digests o.table.header.version
  pub read : choice.table_of file ≡ Ok (table_seen o digests)

-- The file opens by that table, to the map and the book that it gives.
pub record IsOpenedFrom (classes size_max : ℕ) (file : List ℕ) (o : Opened) : Type 0 where
  pub table : IsReadFrom file o
  pub opens : OpensBy classes size_max (table_seen o table.digests) file
      (map_of (head_len o.found.block.names) file o.table.records.items)
      (with_digests table.digests (book_of (placed o.table)))

-- the file's table breaks this rule first, and there
pub record BreaksFirst (classes size_max : ℕ) (file : List ℕ) (number at : ℕ) : Type 0 where
  pub table : choice.SlotTable
  pub read : choice.table_of file ≡ Ok table
  pub first : FirstBroken (placed_table classes size_max file table) number at

-- the refusal is the first that applies, unless the disk or memory failed
abbrev pub RefusesToOpen : ℕ → ℕ → List ℕ → Refusal → Type 0
RefusesToOpen classes size_max file (refusal.Slot f) = Refuses (choice.table_of file) f
RefusesToOpen classes size_max file (refusal.Rule number at) = BreaksFirst classes size_max file number at
RefusesToOpen classes size_max file refusal.NoMemory = Unit {0}
