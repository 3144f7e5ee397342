-- A command over a file that opens: it stopped before anything was done with the store, and what is left is
-- where it started, or its store was opened and something was done.
use Rattle.std.specs.Prelude.{◌≡◌, ◌⊎◌, ℕ, ◌+◌, ◌*◌, ◌^◌, ◌<◌, ◌≤◌, List, Result, Ok, Err, IsTrue, length, refl}
use Rattle.std.proofs.Common.{arith, ap, sym, ◌∙◌, subst, inl, inr}
use Rattle.std.proofs.Math.Nat.{le-max_left}
use Rattle.disk_face.specs.Counts.{IsCalm, Rose, last}
use Rattle.disk_face.specs.Devices.{Devices, devices}
use Rattle.disk_face.specs.Frames.{AfterMount, Unchanged}
use Rattle.disk_face.specs.Moments.{Leaves, LeftOnly}
use Rattle.disk_face.specs.States.{IsLawful, State}
use Rattle.disk_face.specs.Streams.{SinkState}
use Rattle.disk_face.proofs.MomentLaws.{Leaves-weaken, LeftOnly-after}
use Rattle.size_class.specs.declared.TheConstants.{CLASSES, SIZE_MAX}
use Rattle.slot_codec.specs.Choice as choice
use Rattle.slot_pair.specs.declared.find.SlotFault.TheVariants as slot
use Rattle.map_model.specs.Maps.{Map}
use Rattle.segment_layout.specs.Books.{Book}
use Rattle.table_rules.specs.Opening.{Opens, OpensBy}
use Rattle.table_rules.specs.Sequences.{HasSequenceUpTo}
use Rattle.table_rules.proofs.SequenceLaws.{sequence_wider}
use Rattle.reopen.specs.declared.fault.OpenFault.{OpenFault}
use Rattle.reopen.specs.declared.fault.OpenFault.TheVariants as opening
use Rattle.store_model.specs.Connection.{IsKeptImage, IsOver, SameOnTable, StoreValue, base_of, state_of}
use Rattle.store_model.specs.Opened.{IsFoundImage, IsOpening, LeavesRoom, RestsOnFound, SameOnFound, most_found}
use Rattle.store_model.specs.States as store
use Rattle.store_model.proofs.OpeningLaws.{found_image}
use Rattle.store_model.proofs.OverLaws.{kept_image}
use Rattle.ask_session.proofs.RunLaws.{opens_with}
use Rattle.command_face.specs.Refusing.{stop_of}
use Rattle.command_face.specs.declared.stop.StopReason.{StopReason}
use Rattle.command_face.specs.declared.stop.StopReason.TheVariants as stop
use Rattle.served_file.specs.Served.{IsNextStart, OpensTo, Starts, most_left}
use Rattle.served_file.specs.Steps.{Doing, FileSteps, IsUnserved}
use Rattle.served_file.proofs.FoundLaws.{found_start, found_starts, next_found}
use Rattle.served_file.proofs.OpeningLaws.{Opened, found_numbered, left_first, left_opening, opened_by, opens_first, rests_first, told_first}
use Rattle.served_file.proofs.OverLaws.{next_over}
use Rattle.served_file.proofs.RefusedLaws.{WhyUnopened, why_refused}
use Rattle.served_file.proofs.RefusedLaws.WhyUnopened.{disk, memory}

-- ---- what is left

-- The file and each image are where the call started, and there the next one may start.
pub record LeavesStart (t : choice.SlotTable) (m : Map) (b : Book) (old z : State) (start : store.State)
    : Type 0 where
  pub starts : Starts t m b start
  pub content : LeavesRoom t → OpensTo start z.file
  pub left : LeavesRoom t → RestsOnFound t old → z.turn < last → LeftOnly z old.turn (OpensTo start)
  pub numbered : LeavesRoom t → RestsOnFound t old → z.turn < last
      → LeftOnly z old.turn (HasSequenceUpTo (most_left t.chosen.block.k t))
  pub next_start : IsCalm old.faults z.faults → IsNextStart t start start.sequence old z

-- it stopped for a device, for the file or for memory
abbrev pub IsEarly : Result (Unit {0}) StopReason → Type 0
IsEarly end = (end ≡ Err stop.Disk) ⊎ (end ≡ Err stop.NoFile) ⊎ (end ≡ Err stop.NoMemory)

pub record StopsEarly (t : choice.SlotTable) (m : Map) (b : Book) (before now : Devices)
    (end : Result (Unit {0}) StopReason) : Type 0 where
  pub leaves : LeavesStart t m b before.disk now.disk (found_start t m b)
  pub early : IsEarly end
  pub nothing : now.sink ≡ before.sink

-- Its store was opened, at `mid`, and this was done.
pub record HasBegun {D : Type 0} (disk_of : D → State) (does : Doing) (t : choice.SlotTable) (m : Map)
    (b : Book) (before now : Devices) (end : Result (Unit {0}) StopReason) : Type 0 where
  pub store : StoreValue
  pub mid : D
  pub op : Opened t m b before.disk (disk_of mid) store
  pub done : does store (devices (disk_of mid) before.sink) now end

module _ (t : choice.SlotTable) (m : Map) (b : Book) (old : State) (lawful : IsLawful old)
    (told : IsTrue old.tells) (o : OpensBy CLASSES SIZE_MAX t old.file m b) where
  -- ---- images that were found

  found_only : {z : State} → old.turn ≤ z.turn
      → (LeavesRoom t → RestsOnFound t old → Leaves old z (IsFoundImage CLASSES t m b (length old.file)))
      → LeavesRoom t → RestsOnFound t old → z.turn < last
      → LeftOnly z old.turn (IsFoundImage CLASSES t m b (length old.file))
  found_only later left room rests below = LeftOnly-after old.turn
      (IsFoundImage CLASSES t m b (length old.file)) (omega arith)
      (λ image since. found_image CLASSES t old.file m b o image
      (rests image (lawful.only_now image (omega (arith, later, below)) since)))
      (left room rests)

  -- ---- nothing was opened

  leaves_found : {z : State} → old.turn ≤ z.turn → (LeavesRoom t → Opens CLASSES SIZE_MAX z.file m b)
      → (LeavesRoom t → RestsOnFound t old → Leaves old z (IsFoundImage CLASSES t m b (length old.file)))
      → (IsCalm old.faults z.faults → IsNextStart t (found_start t m b) t.chosen.header.sequence old z)
      → LeavesStart t m b old z (found_start t m b)
  leaves_found later content left next = record {
    starts = found_starts t m b;
    content = content;
    left = λ room rests below image since. (found_only later left room rests below image since).opens;
    numbered = λ room rests below image since. found_numbered t m b (length old.file) t.chosen.block.k image
        (found_only later left room rests below image since);
    next_start = next;
  }

  same_opens : (z : State) → z.file ≡ old.file → Opens CLASSES SIZE_MAX z.file m b
  same_opens z same = subst (λ (f : List ℕ). Opens CLASSES SIZE_MAX f m b) (sym same)
      (record { table = t; opens = o })

  unmounted : {z : State} → AfterMount old z
      → (IsCalm old.faults z.faults → IsNextStart t (found_start t m b) t.chosen.header.sequence old z)
      → LeavesStart t m b old z (found_start t m b)
  unmounted {z} mount next = leaves_found mount.time.later (λ room. same_opens z (mount.same_file told))
      (λ room. left_first t m b old z mount told o) next

  module _ (first : State) (mount : AfterMount old first) (calm_mount : first.faults ≡ old.faults)
      (z : State) where
    unopened : (why : OpenFault) → WhyUnopened why → IsOpening CLASSES first z (Err why)
        → LeavesStart t m b old z (found_start t m b) × IsEarly (Err (stop_of why))
    unopened (opening.Slot slot.Disk) disk is = (
      leaves_found (omega (arith, mount.same_turn, is.frame.no_turn_back))
          (λ room. ((is.found (told_first t m b old first mount told o) t m b
          (opens_first t m b old first mount told o)).content room).opens)
          (left_opening t m b old first mount told o z (Err (opening.Slot slot.Disk)) is)
          (λ calm. absurd (omega (arith, calm_mount, is.cause.rose refl, calm.same, calm.below))),
      inl refl,
    )
    unopened opening.NoMemory memory is =
        let same : Unchanged first z = is.unchanged in
        let file : z.file ≡ old.file = same.same_file (told_first t m b old first mount told o)
        ∙ mount.same_file told in (
          leaves_found (omega (arith, mount.same_turn, same.same_turn)) (λ room. same_opens z file)
              (left_opening t m b old first mount told o z (Err opening.NoMemory) is)
              (λ calm. next_found t m b old z o file (λ rests image left.
              subst (λ (f : List ℕ). SameOnFound t f image) (sym file) (rests image (mount.images image
              (same.images image left))))),
          inr (inr refl),
        )
    unopened (opening.Slot slot.Short) none is = elim none [ ]
    unopened (opening.Slot slot.Unformatted) none is = elim none [ ]
    unopened (opening.Slot slot.NoGate) none is = elim none [ ]
    unopened (opening.Slot slot.SameSequence) none is = elim none [ ]
    unopened (opening.Slot (slot.Codec f at)) none is = elim none [ ]
    unopened (opening.Table broken) none is = elim none [ ]

  -- ---- a store was opened

  module _ {mid : State} {s : StoreValue} (op : Opened t m b old mid s) where
    abbrev start : store.State
    start = state_of s mid.file

    -- an image opens to the start, by a table with a sequence that a call may leave
    abbrev pub IsStart : List ℕ → Type 0
    IsStart image = OpensTo start image × HasSequenceUpTo (most_left t.chosen.block.k t) image

    found_is : (image : List ℕ) → IsFoundImage CLASSES t m b (length old.file) image → IsStart image
    found_is image is = (
      opens_with image (ap (λ (y : store.State). y.map) op.state) (ap (λ (y : store.State). y.book) op.state)
          is.opens,
      found_numbered t m b (length old.file) t.chosen.block.k image is,
    )

    pub start_opens : (image : List ℕ) → Opens CLASSES SIZE_MAX image start.kept start.kept_book
        → OpensTo start image
    start_opens image is = opens_with image
        (ap (λ (y : store.State). y.map) op.state ∙ ap (λ (y : store.State). y.kept) (sym op.state))
        (ap (λ (y : store.State). y.book) op.state ∙ ap (λ (y : store.State). y.kept_book) (sym op.state)) is

    kept_is : (image : List ℕ) → IsKeptImage CLASSES s mid.file image → IsStart image
    kept_is image is = (
      start_opens image is.opens,
      sequence_wider s.in_use.sequence (most_left t.chosen.block.k t) image
          (omega (arith, op.most, le-max_left (most_found t) (2 ^ 61 + 2 * t.chosen.block.k))) is.sequence,
    )

    pub left_mid : LeavesRoom t → RestsOnFound t old → mid.turn < last → LeftOnly mid old.turn IsStart
    left_mid room rests below image since = found_is image (found_only op.later op.left room rests below image
        since)

    pub starts_so : Starts t m b start
    starts_so = record { state = op.state; sequence = op.sequence }

    -- where nothing was done with it
    module _ {z : State} (same : Unchanged mid z) where
      file_same : z.file ≡ mid.file
      file_same = same.same_file op.told

      pub start_now : OpensTo start z.file
      start_now = start_opens z.file (subst (λ (f : List ℕ). Opens CLASSES SIZE_MAX f start.kept
          start.kept_book) (sym file_same)
          (record { table = op.over.table; opens = op.over.checkpoint.opens }))

      -- each image that was left as it was opened
      kept_left : RestsOnFound t old → (image : List ℕ) → mid.may_leave image → IsStart image
      kept_left rests image was = kept_is image (kept_image s op.sound mid.file op.over image
          (op.rests rests image was))

      pub start_safe : RestsOnFound t old → (image : List ℕ) → z.may_leave image → OpensTo start image
      start_safe rests image left = (kept_left rests image (same.images image left)).0

      left_start : LeavesRoom t → RestsOnFound t old → z.turn < last → LeftOnly z old.turn IsStart
      left_start room rests below = LeftOnly-after old.turn IsStart op.later
          (left_mid room rests (omega (arith, same.same_turn, below)))
          (Leaves-weaken IsStart (kept_left rests) same.since)

      pub leaves_opened : LeavesStart t m b old z start
      leaves_opened = record {
        starts = starts_so;
        content = λ room. start_now;
        left = λ room rests below image since. (left_start room rests below image since).0;
        numbered = λ room rests below image since. (left_start room rests below image since).1;
        next_start = λ calm. subst (λ (f : List ℕ). IsNextStart t (state_of s f) s.in_use.sequence old z)
            file_same (next_over t s old z s.in_use.sequence op.sound
            (subst (IsOver CLASSES s) (sym file_same) op.over) op.block (omega arith)
            (λ rests image left. subst (λ (f : List ℕ). SameOnTable (base_of s) s.kept f image)
            (sym file_same) (op.rests rests image (same.images image left))));
      }

  -- ---- all of them

  module _ {D : Type 0} (disk_of : D → State) (file : List ℕ) (does : Doing) (z : State)
      (out put : SinkState) (end : Result (Unit {0}) StopReason) where
    abbrev Either : Type 0
    Either = StopsEarly t m b (devices old out) (devices z put) end
        ⊎ HasBegun disk_of does t m b (devices old out) (devices z put) end

    pub begun_or_not : FileSteps disk_of file does (devices old out) (devices z put) end → Either
    begun_or_not (inl is) = elim is.which as (λ _. Either) [
      | inl failed ↦ inl (record {
        leaves = unmounted is.mount (λ calm. absurd (omega (arith, failed.2, calm.same, calm.below)));
        early = inl failed.0;
        nothing = is.nothing;
      })
      | inr gone ↦ inl (record {
        leaves = unmounted is.mount (λ calm. next_found t m b old z o (is.mount.same_file told)
            (rests_first t m b old z is.mount told o));
        early = inr (inl gone.0);
        nothing = is.nothing;
      })
    ]
    begun_or_not (inr x) = elim x.steps as (λ _. Either) [
      | inl is ↦ inl (early_by is (unopened (disk_of x.first) x.mount x.calm z is.fault
          (why_refused t m b (disk_of x.first).file is.fault
          (opens_first t m b old (disk_of x.first) x.mount told o)
          (is.opening.refused (told_first t m b old (disk_of x.first) x.mount told o))) is.opening))
      | inr is ↦ inr (record {
        store = is.store;
        mid = is.mid;
        op = opened_by t m b old (disk_of x.first) x.mount told o (disk_of is.mid) is.store x.calm
            is.opening;
        done = is.done;
      })
    ]
      where
        early_by : (is : IsUnserved (devices (disk_of x.first) out) (devices z put) end)
            → LeavesStart t m b old z (found_start t m b) × IsEarly (Err (stop_of is.fault))
            → StopsEarly t m b (devices old out) (devices z put) end
        early_by is both = record {
          leaves = both.0;
          early = subst IsEarly (sym is.ended) both.1;
          nothing = is.nothing;
        }
