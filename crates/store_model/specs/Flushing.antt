-- What a flush begins with, once its change is made in the table and the layout, and what it is to leave.
use Rattle.std.specs.Prelude.{◌≡◌, ℕ, ◌+◌, ◌-◌, ◌*◌, ◌^◌, ◌<◌, ◌≤◌, Bool, true, false, IsTrue, slice_index, List, [], ◌++◌, fold, length, Option, Some, None}
use Rattle.std.specs.FinMap as fin
use Rattle.disk_face.specs.States as disk
use Rattle.size_class.specs.declared.TheConstants.{SIZE_MAX}
use Rattle.slot_codec.specs.Choice as choice
use Rattle.slot_codec.specs.Names.{IsName}
use Rattle.slot_codec.specs.Reading.{is_version}
use Rattle.slot_codec.specs.Spelling.{cap, head_len}
use Rattle.span_math.specs.declared.span.Span.{Span}
use Rattle.map_model.specs.Maps.{Map}
use Rattle.map_model.specs.Requests.{Change, changed}
use Rattle.segment_layout.specs.Balance.{IsBalanced}
use Rattle.segment_layout.specs.Books.{Book, digests_after, is_quiet, new_item, next_book, trigger, with_digests}
use Rattle.segment_layout.specs.Bounds.{Loose}
use Rattle.segment_layout.specs.Shapes.{boundary_of, end_of, is_boundary}
use Rattle.extent_table.specs.declared.spot.Spot.{Spot}
use Rattle.extent_table.specs.Extents.{Extents, IsTable, Spots}
use Rattle.placement_model.specs.Held.{FreesSpot}
use Rattle.placement_model.specs.LaidOut.{shown_book}
use Rattle.flush_model.specs.declared.item.Item.{Item}
use Rattle.flush_model.specs.Phases.{PlanState}
use Rattle.flush_model.specs.Plans.{class_total, numbers_of}
use Rattle.flush_run.specs.FlushFrames.{FlushFrame, ContentHolds, IsFreeSpace, OpensEither}
use Rattle.flush_run.specs.Calls.{CallsSoFar, piece_calls}
use Rattle.flush_run.specs.Hands.{suffix_items}
use Rattle.flush_run.specs.Parts.{KeepsSettling, HandsValue, SameSizes, saved_digests}
use Rattle.flush_run.specs.Shelved.{phase_now}
use Rattle.flush_plan.specs.Shelves.{course_of}
use Rattle.placement_model.specs.Tried.{charged_by}
use Rattle.store_model.specs.Lifting.{BeginsLift}
use Rattle.store_model.specs.Sized.{IsSizedBy, object_size}
use Rattle.store_model.specs.Starts.{CanStart, IsWith, IsWithout, WasBefore, flush_start}
use Rattle.store_model.specs.Quiet.{added, sizes_at}

-- ---- before the change

-- The parts before a change: the layout holds what stands and what was kept, with the grid of the checkpoint,
-- and no more names are live than a table of their version has records.
pub record MayBegin (classes : ℕ) (kept_grid : List (List ℕ)) (x : HandsValue) : Type 0 where
  pub before : WasBefore classes SIZE_MAX x.caps x.grid kept_grid x.in_use x.table x.spans
  pub base : x.base ≡ head_len x.in_use.block.names
  pub few : fin.len x.table.now ≤ x.table.cap
  pub cap : x.table.cap ≡ cap x.in_use.block.names x.version
  pub room : x.room ≡ x.in_use.block.names
  pub divisor : x.divisor ≡ x.in_use.block.k
  pub plain : x.has_logs ≡ false
  pub version : IsTrue (is_version x.version)

-- a charge of the change finds no room
abbrev pub NeedsFlushAt : HandsValue → List ℕ → ℕ → Type 0
NeedsFlushAt x name size =
    is_quiet (charged_by x.divisor x.caps x.grid (fin.get x.table.now name) size) ≡ false

-- ---- the steps of the change

-- A name was taken out: the guard and the bytes asked for know of it.
pub record TakesOut (name : List ℕ) (x0 x : HandsValue) : Type 0 where
  pub without : IsWithout name x0.table x.table
  pub frees : FreesSpot (fin.get x0.table.now name) (fin.get x0.table.kept name) x0.spans x.spans
  pub asked : x.asked ≡ fold added x0.asked (sizes_at (fin.get x0.table.now name))
  pub digests : x.table.digests ≡ fin.remove x0.table.digests name
  pub rest : x ≡ record x0 { table = x.table; spans = x.spans; asked = x.asked }

-- A flush of the objects of a table from class b on may begin, in a layout, for some slot and some held
-- space.
pub record CanStartAt (classes b k : ℕ) (caps : List ℕ) (grid : List (List ℕ)) (e : Extents) : Type 0 where
  pub kept_grid : List (List ℕ)
  pub u : choice.InUse
  pub spans : List Span
  pub start : CanStart classes SIZE_MAX (flush_start caps grid kept_grid b u e spans)
  pub divisor : k ≡ u.block.k

-- Lifting begins with the items of a table, and nothing pending.
pub record IsStarted (b k : ℕ) (caps : List ℕ) (e : Extents) (p : PlanState) : Type 0 where
  pub value : p ≡ phase_now (course_of k caps (numbers_of k caps b (suffix_items b e) 0) 0) e

-- An object that found room was set, and lifting begins.
pub record StartsPlaced (b : ℕ) (name digest : List ℕ) (spot : Spot) (x0 x : HandsValue)
    (p : PlanState) : Type 0 where
  pub key : ℕ
  pub joins : IsWith name spot key x0.table x.table
  pub digests : x.table.digests ≡ fin.insert x0.table.digests name digest
  pub rest : x ≡ record x0 { table = x.table }
  pub started : IsStarted b x0.divisor x0.caps x.table p

-- An object that waits was set behind the room for what is lifted, and lifting begins.
pub record StartsWaiting (b : ℕ) (name digest : List ℕ) (size place : ℕ) (x0 x : HandsValue)
    (p : PlanState) : Type 0 where
  pub key : ℕ
  pub joins : IsWith name (record { place = place; size = size }) key x0.table x.table
  pub digests : x.table.digests ≡ fin.insert x0.table.digests name digest
  pub rest : x ≡ record x0 { table = x.table }
  pub value : p ≡ phase_now (course_of x0.divisor x0.caps
      (numbers_of x0.divisor x0.caps b (suffix_items b x0.table) size) size) x.table
  pub ends : place + size ≡ p.numbers.reach

-- ---- after the change

-- What is known of the disk as a change begins: what the file gives where the objects stand, what the last
-- checkpoint gives, the book of that, and whether the disk rested on its table.
pub record BeforeChange : Type 0 where
  pub map : Map
  pub kept_map : Map
  pub kept_book : Book
  pub is_at_rest : Bool

-- the book before the change, without digests and with them
abbrev pub shown_before : ℕ → HandsValue → Book
shown_before classes x = shown_book classes SIZE_MAX x.in_use.block.k x.caps x.grid x.table.now

abbrev pub book_before : ℕ → HandsValue → Book
book_before classes x = with_digests (saved_digests x) (shown_before classes x)

-- What stays the same in the flush of a change: it goes from the last checkpoint to what the change makes.
abbrev pub flight_of : ℕ → HandsValue → Change → ℕ → BeforeChange → FlushFrame
flight_of classes x c reach g = record {
  classes = classes;
  size_max = SIZE_MAX;
  base = x.base;
  reach = reach;
  is_fresh = true;
  is_at_rest = g.is_at_rest;
  old_map = g.kept_map;
  old_book = g.kept_book;
  new_map = changed c g.map;
  new_book = (next_book x.in_use.block.k g.map (book_before classes x) c).book;
}

-- the places after a change, with a new object at its place
abbrev pub spots_after : Change → Spots → ℕ → Spots
spots_after c spots place = of c.object
  where
    of : Option (List ℕ) → Spots
    of None = fin.remove spots c.name
    of (Some object) = fin.insert spots c.name (record { place = place; size = length object })

-- the class from which on a flush lays the layout out anew
abbrev pub boundary_after : HandsValue → Change → ℕ
boundary_after x c =
    let charged = charged_by x.in_use.block.k x.caps x.grid (fin.get x.table.now c.name)
    (object_size c.object) in
    boundary_of charged.grid (trigger charged)

-- The change was made in the table and the layout, and lifting may begin: the new object's bytes are to be
-- written at a place that is free.
pub record IsBegun (classes : ℕ) (x0 : HandsValue) (c : Change) (x : HandsValue) (p : PlanState)
    (place : ℕ) : Type 0 where
  pub lifts : (g : BeforeChange) → IsSizedBy g.map x0.table.now
      → BeginsLift (flight_of classes x0 c p.numbers.reach g) x.caps x.grid x.in_use x.table x.spans p
  pub loose : (m : Map) → IsSizedBy m x0.table.now → IsBalanced x0.in_use.block.k m (shown_before classes x0)
      → Loose x0.in_use.block.k p.numbers.reach m (changed c m)
  pub now : x.table.now ≡ spots_after c x0.table.now place
  pub free : IsFreeSpace (fin.remove x0.table.now c.name) x0.table.kept place (object_size c.object)
  pub within : place + object_size c.object ≤ p.numbers.reach
  pub longer : end_of x0.in_use.block.k x0.caps ≤ p.numbers.reach
  pub low : p.numbers.reach < 2 ^ 48
  pub whole : is_boundary x.grid p.numbers.boundary ≡ true
  pub boundary : p.numbers.boundary ≡ boundary_after x0 c
  pub divisor : x.divisor ≡ p.k
  pub asked : x.asked ≡ fold added x0.asked (sizes_at (fin.get x0.table.now c.name) ++ new_item c)
  pub kept : x.table.kept ≡ x0.table.kept
  pub table : IsTable x.table
  pub names : x.table.names ≡ x0.table.names
  pub cap : x.table.cap ≡ x0.table.cap
  pub few : fin.len x.table.now ≤ x.table.cap
  pub digests : saved_digests x ≡ digests_after c (saved_digests x0)
  pub rest : x ≡ record x0 { table = x.table; grid = x.grid; spans = x.spans; asked = x.asked }

-- the bytes of a new object, or none
abbrev pub bytes_of : Change → List ℕ
bytes_of c = of c.object
  where
    of : Option (List ℕ) → List ℕ
    of None = []
    of (Some object) = object

-- The disk as a change begins: the content gives the objects that stay, and opens to the last checkpoint, as
-- does each image where the disk rested on its table. The file ends where the layout does.
pub record IsAtStart (classes : ℕ) (x : HandsValue) (c : Change) (reach : ℕ) (g : BeforeChange)
    (d : disk.State) : Type 0
  where
    pub content : ContentHolds (record (flight_of classes x c reach g) {
      reach = end_of x.in_use.block.k x.caps;
      new_map = fin.remove g.map c.name;
    }) x.in_use (fin.remove x.table.now c.name) d.file
    pub opens : OpensEither (record (flight_of classes x c reach g) {
      reach = end_of x.in_use.block.k x.caps;
    }) x.table.kept d.file d.may_leave

-- what lifting begins with: the plan, and the place of the new object
pub record LiftStart : Type 0 where
  pub plan : PlanState
  pub place : ℕ

abbrev pub lift_start : PlanState → ℕ → LiftStart
lift_start plan place = record { plan = plan; place = place }

-- A flush may make its device calls: the change was made in the table and the layout of these parts, and the
-- disk is as it was before.
pub record CanMakeFlush (classes : ℕ) (x0 : HandsValue) (c : Change) (g : BeforeChange) (x : HandsValue)
    (lift : LiftStart) (bytes : List ℕ) (d : disk.State) : Type 0 where
  pub kept_grid : List (List ℕ)
  pub may : MayBegin classes kept_grid x0
  pub begun : IsBegun classes x0 c x lift.plan lift.place
  pub sized : IsSizedBy g.map x0.table.now
  pub name : IsName c.name
  pub object : bytes_of c ≡ bytes
  pub fresh : x0.in_use.sequence < 2 ^ 61
  pub start : IsTrue d.tells → IsAtStart classes x0 c lift.plan.numbers.reach g d

-- What a flush has made, whether or not it failed: of its parts only the slot in use, the table, the layout,
-- the guard's spans and the bytes moved change; each name has an object of the same size; no byte of a class
-- below b was moved, and of each other class at most twice the bytes of its items; at most 2k saves were
-- made; and the calls are those of the bytes moved and of the saves, one of which may have failed, and
-- at most four more than one move makes.
pub record HasMadeFlush (b : ℕ) (items : List Item) (first now : disk.State)
    (x x2 : HandsValue) : Type 0 where
  pub keeps : KeepsSettling first now x x2
  pub sizes : SameSizes x.table.now x2.table.now
  pub later : x.in_use.sequence ≤ x2.in_use.sequence
  pub lower : (c : ℕ) → c < b → slice_index x2.moved c ≡ slice_index x.moved c
  pub few : (c : ℕ) → slice_index x2.moved c ≤ slice_index x.moved c + 2 * class_total items c
  pub few_saves : x2.in_use.sequence ≤ x.in_use.sequence + 2 * x.in_use.block.k
  pub most : CallsSoFar first.turn now.turn x.moved x2.moved (piece_calls + 4)
      (x2.in_use.sequence - x.in_use.sequence + 1) (fin.len x.table.now)
