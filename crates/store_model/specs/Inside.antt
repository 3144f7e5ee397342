-- What a store's contracts see of its fields, and what holds of them.
use Rattle.std.specs.Prelude.{◌≡◌, ℕ, ◌+◌, ◌<◌, ◌≤◌, ◌^◌, Bool, true, false, [], Option, Some, None, option_map, vec_len, IsTrue}
use Rattle.std.specs.FinMap as fin
use Rattle.disk_face.specs.States as disk
use Rattle.size_class.specs.Rows.{cells_of}
use Rattle.size_class.specs.declared.TheConstants.{SIZE_MAX}
use Rattle.slot_codec.specs.Reading.{is_version}
use Rattle.slot_codec.specs.Spelling.{cap, head_len}
use Rattle.logged_pair.specs.Slots.{has_logs, used_in}
use Rattle.segment_layout.specs.Layouts.{caps_of, divisor_of, grid_of}
use Rattle.extent_table.specs.Extents.{IsTable, digests_seen}
use Rattle.placement_model.specs.Held.{IsFreed}
use Rattle.segment_layout.specs.Books.{with_digests}
use Rattle.segment_layout.specs.declared.layout.Layout.{Layout}
use Rattle.table_rules.specs.Tables.{book_of}
use Rattle.placement_model.specs.Laid.{laid}
use Rattle.flush_run.specs.declared.hands.Hands.{Hands}
use Rattle.flush_run.specs.declared.phase.Phase.{Phase}
use Rattle.flush_run.specs.FlushFrames.{FlushFrame}
use Rattle.flush_run.specs.Loops.{phase_header}
use Rattle.flush_run.specs.Parts.{parts_of, saved_digests}
use Rattle.flush_run.specs.Phases.{GoesOn, KeepsIn, PaidIn, course_in, items_in, phase_in, steps_left}
use Rattle.flush_run.specs.Sums.{Mark, SumsSoFar}
use Rattle.store_model.specs.declared.hand.Began.{Began}
use Rattle.store_model.specs.Connection.{FlushInHand, StoreValue}
use Rattle.store_model.specs.Digested.{digested_book}
use Rattle.store_model.specs.Stores.{IsStore}

-- A store's fields beside the flush in hand, wherever they stand.
pub record Inside (C : ℕ) : Type 0 where
  pub hands : Hands C
  pub kept_layout : Layout C
  pub broken : Bool

-- what contracts see of them: each book has the digests of its side of the table, in version 2 alone
abbrev pub kept_of : {C : ℕ} → Inside C → StoreValue
kept_of {C} s =
    record {
      in_use = used_in s.hands.slots;
      now = s.hands.table.now;
      kept = s.hands.table.kept;
      book = digested_book C (used_in s.hands.slots).block.k (caps_of s.hands.layout) (grid_of s.hands.layout)
          s.hands.table.now (digests_seen s.hands.version s.hands.table.digests);
      kept_book = digested_book C (used_in s.hands.slots).block.k (caps_of s.hands.layout)
          (grid_of s.kept_layout)
          s.hands.table.kept (digests_seen s.hands.version s.hands.table.kept_digests);
      is_broken = s.broken;
      moved = cells_of s.hands.ledger.moved;
      asked = cells_of s.hands.ledger.asked;
      in_hand = None;
    }

-- what they see of a flush in hand: its book is that of the moving table that it would save now
abbrev pub hand_of : {C : ℕ} → Began C → Inside C → Phase C → FlushInHand
hand_of {C} began s v = record {
  reach = (course_in v).numbers.reach;
  boundary = (course_in v).numbers.boundary;
  left = began.left;
  began = began.sequence;
  moved_then = cells_of began.moved;
  book_after = with_digests (saved_digests (parts_of s.hands))
      (book_of (laid C SIZE_MAX (used_in s.hands.slots).block.k
      (course_in v).numbers.reach (phase_header (phase_in v s.hands.table) (caps_of s.hands.layout)
      (grid_of s.hands.layout)) s.hands.table.now));
}

abbrev pub seen : {C : ℕ} → Option (Phase C) → Began C → Inside C → StoreValue
seen flush began s = record (kept_of s) { in_hand = option_map (hand_of began s) flush }

-- What holds of each store with no flush in hand: its slots have no logs; and while it isn't broken, its parts
-- belong together: the guard has what the last checkpoint holds though nothing stands there now.
pub record IsWhole {C : ℕ} (s : Inside C) : Type 0 where
  pub classes : C ≤ 32
  pub wide : SIZE_MAX < 2 ^ C
  pub plain : has_logs s.hands.slots ≡ false
  pub version : IsTrue (is_version s.hands.version)
  pub base : s.hands.base ≡ head_len (used_in s.hands.slots).block.names
  pub few : (used_in s.hands.slots).block.names ≤ 65536
  pub buf : vec_len s.hands.buf ≡ 65536
  pub divisor : divisor_of s.hands.layout ≡ (used_in s.hands.slots).block.k
  pub kept_divisor : divisor_of s.kept_layout ≡ (used_in s.hands.slots).block.k
  pub kept_caps : caps_of s.kept_layout ≡ caps_of s.hands.layout
  pub room : s.hands.table.names ≡ (used_in s.hands.slots).block.names
  pub cap : s.hands.table.cap ≡ cap (used_in s.hands.slots).block.names s.hands.version
  pub guard_room : s.hands.guard.room ≡ (used_in s.hands.slots).block.names
  pub table : s.broken ≡ false → IsTable s.hands.table
  pub sound : s.broken ≡ false → IsStore C (kept_of s)
  pub freed : s.broken ≡ false → IsFreed s.hands.guard.spans s.hands.table.now s.hands.table.kept

-- The frame of a flush in hand, over any maps and any last checkpoint.
abbrev pub still_frame : {C : ℕ} → Began C → Inside C → Phase C → FlushFrame
still_frame {C} began s v = record {
  classes = C;
  size_max = SIZE_MAX;
  base = head_len (used_in s.hands.slots).block.names;
  reach = (course_in v).numbers.reach;
  is_fresh = true;
  is_at_rest = false;
  old_map = fin.empty;
  old_book = (kept_of s).kept_book;
  new_map = fin.empty;
  new_book = (hand_of began s v).book_after;
}

-- a disk that tells nothing
abbrev pub untold : disk.State
untold = record {
  tells = false;
  file = [];
  tells_images = false;
  may_leave = λ image. ⊥;
  left_since = λ turn image. ⊥;
  turn = 0;
  faults = 0;
  weight = 0;
  longest = 0;
  is_ready = true;
  last_mount = None;
}

-- What holds of a store with a flush in hand: it isn't broken; the flush may go on, so far as its parts
-- have a say in it; as many steps are counted as left as may come at least; the sequence leaves room for
-- those that may come; and the saves and the bytes moved since it began are those that its phase accounts
-- for.
pub record IsGoing {C : ℕ} (began : Began C) (s : Inside C) (v : Phase C) : Type 0 where
  pub unbroken : s.broken ≡ false
  pub parts : IsWhole (record s { broken = true })
  pub goes : GoesOn (still_frame began s v) v (parts_of s.hands) untold
  pub keeps : KeepsIn v (items_in v s.hands.table)
  pub steps : steps_left v s.hands.table ≤ began.left
  pub room : (used_in s.hands.slots).sequence + steps_left v s.hands.table ≤ 2 ^ 61 + 2 ^ 18
  pub paid : PaidIn began.sequence v (parts_of s.hands)
  pub mark : Mark
  pub sequence : mark.sequence ≡ began.sequence
  pub moved : mark.moved ≡ cells_of began.moved
  pub sums : SumsSoFar mark v (parts_of s.hands) untold

abbrev pub HoldsAt : {C : ℕ} → Option (Phase C) → Began C → Inside C → Type 0
HoldsAt None began s = IsWhole s
HoldsAt (Some v) began s = IsGoing began s v
