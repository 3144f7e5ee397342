-- What a state that was read says, and of which file it is the state.
use Rattle.std.specs.Prelude.{◌≡◌, ℕ, ◌<◌, ◌≤◌, ◌==◌, Bool, false, List, Option, Ok, IsTrue}
use Rattle.std.specs.FinMap as fin
use Rattle.size_class.specs.declared.TheConstants.{SIZE_MAX}
use Rattle.slot_codec.specs.Choice as choice
use Rattle.slot_codec.specs.Reading.{all_in_range, is_logged, is_version_in, worn_from}
use Rattle.slot_codec.specs.Readable.{IsSuperBlock}
use Rattle.slot_codec.specs.Spelling.{cap, head_len}
use Rattle.slot_codec.specs.declared.codec.Kind.{Kind}
use Rattle.slot_codec.specs.declared.codec.Kind.TheVariants as kind
use Rattle.segment_layout.specs.Layouts.{caps_of, divisor_of, grid_of}
use Rattle.segment_layout.specs.Books.{Book, with_digests}
use Rattle.table_rules.specs.Opening.{OpensBy, OpensIn, placed_table}
use Rattle.table_rules.specs.Rules.{IsValid}
use Rattle.table_rules.specs.Tables.{book_of}
use Rattle.extent_table.specs.Extents.{IsTable, digests_seen, records_of}
use Rattle.placement_model.specs.Laid.{laid}
use Rattle.placement_model.specs.Reads.{read_at}
use Rattle.reopen.specs.declared.state.BoxedLoaded.{BoxedLoaded}
use Rattle.reopen.specs.declared.state.Loaded.{Loaded}
use Rattle.reopen.specs.declared.state.State.{State}
use Rattle.reopen.specs.declared.state.State.TheVariants as state

abbrev pub loaded_of : {C : ℕ} → State C → Loaded C
loaded_of (state.Still x) = x
loaded_of (state.Moving x) = x

abbrev pub kind_of : {C : ℕ} → State C → Kind
kind_of (state.Still x) = kind.Settled
kind_of (state.Moving x) = kind.Moving

-- what was loaded, wherever its header and its layout stand
abbrev pub unboxed : {C : ℕ} → BoxedLoaded C → Loaded C
unboxed x =
    record {
      block = x.block;
      slots = x.slots;
      header = x.header.value;
      table = x.table;
      layout = x.layout.value;
    }

-- the digests of the table that was read: none in version 1
abbrev pub digests_loaded : {C : ℕ} → Loaded C → Option choice.Digests
digests_loaded x = digests_seen x.header.version x.table.digests

-- the table that was read, with digests
abbrev pub table_seen : {C : ℕ} → Loaded C → Option choice.Digests → choice.SlotTable
table_seen x digests =
    record {
      chosen = record { block = x.block; slot = x.slots.slot; header = x.header };
      records = records_of x.table.now;
      digests = digests;
    }

-- the table that was read, with its own digests, and its book
abbrev pub table_loaded : {C : ℕ} → Loaded C → choice.SlotTable
table_loaded x = table_seen x (digests_loaded x)

abbrev pub book_loaded : {C : ℕ} → List ℕ → Loaded C → Book
book_loaded {C} file x =
    with_digests (digests_loaded x) (book_of (placed_table C SIZE_MAX file (table_loaded x)))

-- What holds whatever the disk tells, of a file whose slots have logs or have none: the numbers are in range
-- and belong together, what stands now is what was kept, as many names may be live as a table of its version has records and no more are, and the table
-- keeps the rules of its kind in a data part of some length.
pub record KeepsLoadedIn {C : ℕ} (logged : Bool) (x : Loaded C) : Type 0 where
  pub ranges : IsSuperBlock x.block
  pub same_block : x.slots.block ≡ x.block
  pub slot : x.slots.slot ≤ 1
  pub sequence : x.slots.sequence ≡ x.header.sequence
  pub fresh : x.header.sequence < worn_from x.header.kind
  pub in_range : IsTrue (all_in_range x.header)
  pub version : IsTrue (is_version_in logged x.header.version)
  pub is_table : IsTable x.table
  pub count : fin.len x.table.now ≡ x.header.count
  pub few : fin.len x.table.now ≤ x.table.cap
  pub kept : x.table.kept ≡ x.table.now
  pub kept_digests : x.table.kept_digests ≡ x.table.digests
  pub room : x.table.names ≡ x.block.names
  pub cap : x.table.cap ≡ cap x.block.names x.header.version
  pub divisor : divisor_of x.layout ≡ x.block.k
  pub caps : caps_of x.layout ≡ x.header.caps
  pub used : grid_of x.layout ≡ x.header.used
  pub data_len : ℕ
  pub valid : IsValid (laid C SIZE_MAX x.block.k data_len x.header x.table.now)

abbrev pub KeepsLoaded : {C : ℕ} → Loaded C → Type 0
KeepsLoaded x = KeepsLoadedIn false x

-- the same by the version of the table, which is 3 where slots have logs
abbrev pub KeepsRead : {C : ℕ} → Loaded C → Type 0
KeepsRead x = KeepsLoadedIn (x.header.version == 3) x

-- a file is still where its table is a settled one, else moving
pub record KeepsState {C : ℕ} (s : State C) : Type 0 where
  pub same_kind : (loaded_of s).header.kind ≡ kind_of s
  pub loaded : KeepsLoaded (loaded_of s)

-- The slot in use is that of the file. By the table that was read, with its digests in version 2, the file
-- opens to the map that it gives where the objects stand, and to the table's book.
pub record IsLoadedFrom {C : ℕ} (file : List ℕ) (x : Loaded C) : Type 0 where
  pub in_use : choice.slot_in_use file ≡ Ok x.slots
  pub opens : OpensBy C SIZE_MAX (table_loaded x) file (read_at (head_len x.block.names) file x.table.now)
      (book_loaded file x)

-- By the table that was read, with its digests but in version 1, the file is read to the map that it gives
-- where the objects stand, and to the table's book. Whether slots have logs is said, or the mark says it.
abbrev pub IsReadIn : {C : ℕ} → Bool → List ℕ → Loaded C → Type 0
IsReadIn {C} logged file x = OpensIn logged C SIZE_MAX (table_loaded x) file
    (read_at (head_len x.block.names) file x.table.now) (book_loaded file x)

abbrev pub IsReadAs : {C : ℕ} → List ℕ → Loaded C → Type 0
IsReadAs file x = IsReadIn (is_logged file) file x

abbrev pub IsStateOf : {C : ℕ} → List ℕ → State C → Type 0
IsStateOf file s = IsLoadedFrom file (loaded_of s)
