-- The state of a table that was read and checked.
use Rattle.std.specs.Prelude.{◌≡◌, ◌↔◌, ℕ, ◌==◌, Bool, true, false, List, Result, IfOk, IsOk, IsTrue, Ok, Err}
use Rattle.std.proofs.lemmas.Grind.{common_steps}
use Rattle.std.proofs.Common.{arith, ap, subst, sym, refl}
use Rattle.size_class.specs.declared.TheConstants.{SIZE_MAX}
use Rattle.slot_codec.specs.declared.codec.Header.{Header}
use Rattle.slot_codec.specs.declared.codec.Kind.{Kind}
use Rattle.slot_codec.specs.Readable.{IsSuperBlock, IsSuperBlockIn}
use Rattle.slot_codec.specs.Reading.{is_version, is_version_in}
use Rattle.slot_codec.specs.Spelling.{head_len}
use Rattle.slot_codec.specs.declared.codec.SuperBlock.{SuperBlock}
use Rattle.slot_pair.specs.Finding.{in_use_of}
use Rattle.segment_layout.specs.declared.layout.Layout.{Layout}
use Rattle.table_rules.specs.Opening.{placed_table}
use Rattle.table_rules.specs.Rules.{FirstBroken, IsValid}
use Rattle.table_rules.proofs.ReadingLaws.{plain_reads_by}
use Rattle.table_check.specs.Checked.{IsLayoutOf, checked}
use Rattle.table_check.specs.declared.fault.TableFault.{TableFault}
use Rattle.extent_table.specs.Extents.{Spots}
use Rattle.placement_model.specs.Laid.{laid}
use Rattle.placement_model.specs.Reads.{read_at}
use Rattle.reopen.specs.Loads.{IsLoadedFrom, IsReadAs, IsReadIn, KeepsLoadedIn, KeepsRead, book_loaded, table_loaded}
use Rattle.reopen.specs.Refusals.{BreaksFirstIn, BreaksLaid, RefusesToRead}
use Rattle.reopen.specs.Tables.{IsCheckedLayout, IsReadFrom, IsTableRead, table_there}
use Rattle.reopen.specs.declared.fault.OpenFault.{OpenFault}
use Rattle.reopen.specs.declared.fault.OpenFault.TheVariants as fault
use Rattle.reopen.specs.declared.state.Loaded.{Loaded}
use Rattle.reopen.specs.declared.table.TableRead.{TableRead}
use Rattle.reopen.proofs.TableLaws.{checked_is}

-- what was read, with a layout
abbrev pub loaded_with : {C : ℕ} → TableRead → Layout C → Loaded C
loaded_with r layout = record {
  block = r.found.block;
  slots = in_use_of r.found;
  header = r.header.value;
  table = r.table;
  layout = layout;
}

-- what a check of a table under a header of its own kind answers
pub layout_is : {C : ℕ} (k data_len : ℕ) (kind : Kind) (header : Header) (spots : Spots)
    → header.kind ≡ kind → (r : Result (Layout C) TableFault)
    → (IsOk r ↔ IsValid (checked C k data_len kind header spots)) → IfOk r (IsLayoutOf k header)
    → IfOk r (IsCheckedLayout k data_len header spots)
layout_is {C} k data_len kind header spots same (Ok l) valid layout = record {
  valid = subst IsValid (checked_is C k data_len kind header spots same) (valid.0 refl);
  divisor = layout.divisor;
  caps = layout.capacities;
  used = layout.taken;
}
layout_is k data_len kind header spots same (Err e) valid layout = tt

-- a superblock in range where slots have logs is one where they have none
pub block_plain : (logged : Bool) (block : SuperBlock) → IsSuperBlockIn logged block → IsSuperBlock block
block_plain true block is = record {
  divisor_low = is.divisor_low;
  divisor_high = is.divisor_high;
  names_low = omega (arith, is.names_low);
  names_high = is.names_high;
}
block_plain false block is = is

not_three : (version : ℕ) → IsTrue (is_version version) → (version == 3) ≡ false
not_three version h = grind (arith, common_steps)

pub keeps_loaded : {C : ℕ} (logged : Bool) (r : TableRead) (layout : Layout C) → IsTableRead logged r
    → IsCheckedLayout r.found.block.k r.data_len r.header.value r.table.now layout
    → KeepsLoadedIn logged (loaded_with r layout)
keeps_loaded logged r layout read checked = record {
  ranges = block_plain logged r.found.block read.is_found.slot.block;
  same_block = refl;
  slot = read.is_found.slot.slot;
  sequence = read.same_sequence;
  fresh = read.is_found.fresh;
  in_range = read.is_found.ranges;
  version = read.is_found.version;
  is_table = read.is_table;
  count = read.count;
  few = omega (arith, read.count, read.cap, read.is_found.count);
  kept = read.kept;
  kept_digests = read.kept_digests;
  room = read.names;
  cap = read.cap;
  divisor = checked.divisor;
  caps = checked.caps;
  used = checked.used;
  data_len = r.data_len;
  valid = checked.valid;
}

-- version 3 is that of the tables of files whose slots have logs
version_tells : (logged : Bool) (version : ℕ) → IsTrue (is_version_in logged version)
    → (version == 3) ≡ logged
version_tells true version h = h
version_tells false version h = not_three version h

pub keeps_read : {C : ℕ} (logged : Bool) (x : Loaded C) → KeepsLoadedIn logged x → KeepsRead x
keeps_read logged x keeps =
    subst (λ l. KeepsLoadedIn l x) (sym (version_tells logged x.header.version keeps.version)) keeps

-- what was loaded of a file whose slots have no logs is read of it by its mark
pub loaded_is_read : {C : ℕ} (file : List ℕ) (x : Loaded C) → IsLoadedFrom file x → IsReadAs file x
loaded_is_read {C} file x from = plain_reads_by C SIZE_MAX (table_loaded x) file
    (read_at (head_len x.block.names) file x.table.now) (book_loaded file x) from.opens

-- the table that was checked is the file's as its rules see it
placed_is : (logged : Bool) (C : ℕ) (file : List ℕ) (r : TableRead) → IsReadFrom logged file r
    → laid C SIZE_MAX r.found.block.k r.data_len r.header.value r.table.now ≡ placed_table C SIZE_MAX file
    (table_there r.found r.header.value r.table)
placed_is logged C file r read =
    ap (λ n. laid C SIZE_MAX r.found.block.k n r.header.value r.table.now) read.behind

pub read_from : {C : ℕ} (logged : Bool) (file : List ℕ) (r : TableRead) (layout : Layout C)
    → IsReadFrom logged file r → IsCheckedLayout r.found.block.k r.data_len r.header.value r.table.now layout
    → IsReadIn logged file (loaded_with r layout)
read_from {C} logged file r layout read checked = record {
  read = read.table;
  valid = subst IsValid (placed_is logged C file r read) checked.valid;
  same_map = refl;
  same_book = refl;
}

breaks_first : (logged : Bool) (C : ℕ) (file : List ℕ) (r : TableRead) (broken : TableFault)
    → IsReadFrom logged file r
    → FirstBroken (laid C SIZE_MAX r.found.block.k r.data_len r.header.value r.table.now) broken.rule
    broken.at → BreaksFirstIn logged C file broken
breaks_first logged C file r broken read first = record {
  table = table_there r.found r.header.value r.table;
  read = read.table;
  first = subst (λ t. FirstBroken t broken.rule broken.at) (placed_is logged C file r read) first;
}

-- the table breaks the rule that was found first, unless there was no memory for its layout
pub breaks_laid : (logged : Bool) (C : ℕ) (file : List ℕ) (r : TableRead) (why : OpenFault)
    → IsReadFrom logged file r → BreaksLaid C r.found.block.k r.data_len r.header.value r.table.now why
    → RefusesToRead logged C file why
breaks_laid logged C file r (fault.Slot f) read never = absurd never
breaks_laid logged C file r (fault.Table broken) read first = breaks_first logged C file r broken read first
breaks_laid logged C file r fault.NoMemory read none = tt
