-- What follows of what a store keeps: its objects lie within its file, and it has few bytes.
use Rattle.std.specs.Prelude.{◌≡◌, ℕ, ◌*◌, ◌≤◌, List, Option, Some, None, IfSome}
use Rattle.std.proofs.Common.{arith, sym}
use Rattle.std.specs.FinMap as fin
use Rattle.size_class.specs.declared.TheConstants.{SIZE_MAX}
use Rattle.slot_codec.specs.declared.codec.Record.{Record}
use Rattle.slot_codec.proofs.CapLaws.{cap-low}
use Rattle.segment_layout.specs.Books.{version_of}
use Rattle.extent_table.specs.declared.spot.Spot.{Spot}
use Rattle.extent_table.specs.Extents.{volume_of}
use Rattle.placement_model.specs.Reads.{EndWithin}
use Rattle.placement_model.proofs.EnterLaws.{by_name}
use Rattle.placement_model.proofs.LaidOutLaws.{laid_below, laid_within}
use Rattle.placement_model.proofs.VolumeLaws.{volume_small}
use Rattle.store_model.specs.Connection.{IsOver, StoreValue, base_of}
use Rattle.store_model.specs.Stores.{IsStore}

-- objects lie within the file that a store is over, those of now and those of the last checkpoint
pub now_lies : {classes : ℕ} (s : StoreValue) (file : List ℕ) → IsStore classes s → IsOver classes s file
    → EndWithin (base_of s) file s.now
now_lies {classes} s file h over = laid_within classes SIZE_MAX s.in_use.block.k s.book.caps s.book.grid s.now
    h.now (base_of s) file (omega (arith, over.same_length))

pub kept_lies : {classes : ℕ} (s : StoreValue) (file : List ℕ) → IsStore classes s → IsOver classes s file
    → EndWithin (base_of s) file s.kept
kept_lies {classes} s file h over = laid_within classes SIZE_MAX s.in_use.block.k s.book.caps s.kept_book.grid
    s.kept h.kept (base_of s) file (omega (arith, over.same_length))

-- the live bytes are at most those of as many largest objects as there may be names
pub few_bytes : {classes : ℕ} (s : StoreValue) → IsStore classes s
    → volume_of s.now ≤ s.in_use.block.names * SIZE_MAX
few_bytes {classes} s h = volume_small classes SIZE_MAX s.in_use.block.k s.book.caps s.book.grid s.now h.now
    s.in_use.block.names (omega (arith, h.now_few, cap-low s.in_use.block.names (version_of s.book)))

-- no object is longer than it may be
pub small_object : {classes : ℕ} (s : StoreValue) → IsStore classes s → (name : List ℕ) (x : Spot)
    → fin.get s.now name ≡ Some x → x.size ≤ SIZE_MAX
small_object {classes} s h = by_name (λ (r : Record). r.size ≤ SIZE_MAX) s.now h.now.named
    (laid_below classes SIZE_MAX s.in_use.block.k s.book.caps s.book.grid s.now h.now).sizes

pub small_if_there : {classes : ℕ} (s : StoreValue) → IsStore classes s → (name : List ℕ) (o : Option Spot)
    → o ≡ fin.get s.now name → IfSome o (λ x. x.size ≤ SIZE_MAX)
small_if_there s h name None is = tt
small_if_there s h name (Some x) is = small_object s h name x (sym is)
