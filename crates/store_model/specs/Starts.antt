-- What there is before a change that isn't quiet, what such a change is, and what a flush begins with.
use Rattle.std.specs.Prelude.{◌≡◌, ℕ, ◌<◌, ◌≤◌, false, true, List, Option}
use Rattle.std.specs.FinMap as fin
use Rattle.size_class.specs.declared.TheConstants.{SIZE_MAX}
use Rattle.slot_codec.specs.Choice as choice
use Rattle.slot_codec.specs.Readable.{IsSuperBlock}
use Rattle.span_math.specs.declared.span.Span.{Span}
use Rattle.segment_layout.specs.Books.{is_quiet, trigger}
use Rattle.segment_layout.specs.Shapes.{boundary_of, is_boundary}
use Rattle.extent_table.specs.declared.spot.Spot.{Spot}
use Rattle.extent_table.specs.Extents.{Extents, IsTable}
use Rattle.placement_model.specs.Both.{HoldsBoth, placing}
use Rattle.placement_model.specs.Held.{IsFreed}
use Rattle.placement_model.specs.LaidOut.{IsLaidOut}
use Rattle.placement_model.specs.Below.{IsLaidBelow}
use Rattle.placement_model.specs.Tried.{charged_by}

-- Before the change the layout holds what stands and what was kept, and the spans are those that were freed.
pub record WasBefore (classes size_max : ℕ) (caps : List ℕ) (grid kept_grid : List (List ℕ))
    (u : choice.InUse)
    (e : Extents) (spans : List Span) : Type 0 where
  pub block : IsSuperBlock u.block
  pub table : IsTable e
  pub names : e.names ≡ u.block.names
  pub small : size_max ≤ SIZE_MAX
  pub both : HoldsBoth classes size_max u.block.k caps (placing grid e.now) (placing kept_grid e.kept) spans

-- A change that isn't quiet: where an old object goes and a new one of a size comes, of 0 bytes where none
-- comes, one of its charges finds no room. The grid is the one that they leave, and b the boundary of the
-- least class of what found none.
pub record IsLoud (k : ℕ) (caps : List ℕ) (grid : List (List ℕ)) (old : Option Spot) (size : ℕ)
    (after : List (List ℕ)) (b : ℕ) : Type 0 where
  pub after_is : after ≡ (charged_by k caps grid old size).grid
  pub needs_flush : is_quiet (charged_by k caps grid old size) ≡ false
  pub boundary : b ≡ boundary_of after (trigger (charged_by k caps grid old size))

-- the table without a name
pub record IsWithout (name : List ℕ) (e after : Extents) : Type 0 where
  pub now : after.now ≡ fin.remove e.now name
  pub kept : after.kept ≡ e.kept
  pub keys : after.keys ≡ fin.remove e.keys name
  pub names : after.names ≡ e.names
  pub cap : after.cap ≡ e.cap
  pub table : IsTable after

-- the table with a name, whose object stands at a spot
pub record IsWith (name : List ℕ) (spot : Spot) (key : ℕ) (e after : Extents) : Type 0 where
  pub now : after.now ≡ fin.insert e.now name spot
  pub kept : after.kept ≡ e.kept
  pub keys : after.keys ≡ fin.insert e.keys name key
  pub names : after.names ≡ e.names
  pub cap : after.cap ≡ e.cap
  pub table : IsTable after

-- What a flush from a class on begins with: the layout, the grid of the last checkpoint, the slot in use, the
-- table, and the spans that the checkpoint holds though nothing stands there now.
pub record FlushStart : Type 0 where
  pub caps : List ℕ
  pub grid : List (List ℕ)
  pub kept_grid : List (List ℕ)
  pub from : ℕ
  pub in_use : choice.InUse
  pub objects : Extents
  pub spans : List Span

abbrev pub flush_start : List ℕ → List (List ℕ) → List (List ℕ) → ℕ → choice.InUse → Extents → List Span
    → FlushStart
flush_start caps grid kept_grid b u e spans = record {
  caps = caps;
  grid = grid;
  kept_grid = kept_grid;
  from = b;
  in_use = u;
  objects = e;
  spans = spans;
}

-- It may begin, or wait for a pending object alone: each object stands in a segment, of the classes below all
-- rules are kept, and no buffer from there on has an entry of them.
pub record CanStart (classes size_max : ℕ) (s : FlushStart) : Type 0 where
  pub block : IsSuperBlock s.in_use.block
  pub table : IsTable s.objects
  pub names : s.objects.names ≡ s.in_use.block.names
  pub small : size_max ≤ SIZE_MAX
  pub low : s.from < classes
  pub boundary : is_boundary s.grid s.from ≡ true
  pub below : IsLaidBelow classes size_max s.in_use.block.k s.caps s.grid s.from s.objects.now
  pub kept : IsLaidOut classes size_max s.in_use.block.k s.caps s.kept_grid s.objects.kept
  pub freed : IsFreed s.spans s.objects.now s.objects.kept
