-- A flush that goes on does so whatever its maps and its last checkpoint are, and whatever the disk has.
use Rattle.std.specs.Prelude.{◌≡◌, ℕ, ◌+◌, ◌≤◌, ◌^◌, Bool, List, true, slice_index, IsTrue}
use Rattle.std.proofs.Common.{arith}
use Rattle.std.specs.FinMap as fin
use Rattle.disk_face.specs.States as disk
use Rattle.map_model.specs.Maps.{Map}
use Rattle.segment_layout.specs.Books.{Book, with_digests}
use Rattle.table_rules.specs.Tables.{book_of}
use Rattle.placement_model.specs.Laid.{laid}
use Rattle.flush_run.specs.Calls.{CallsSoFar}
use Rattle.flush_run.specs.FlushFrames.{FlushFrame, IsMidFlush}
use Rattle.flush_run.specs.Loops.{phase_header}
use Rattle.flush_run.specs.Parts.{HandsValue, saved_digests}
use Rattle.flush_run.specs.Phases.{CanAdvance, GoesOn, phase_in, steps_left}
use Rattle.flush_run.specs.Sums.{Mark, SumsSoFar}
use Rattle.flush_run.specs.declared.phase.Phase.{Phase}
use Rattle.flush_run.proofs.SumLaws.{steps_few, steps_some}

-- a frame with other maps and another checkpoint, which is fresh
abbrev pub with_maps : FlushFrame → Bool → Map → Book → Map → Book → FlushFrame
with_maps f rests old_map old_book new_map new_book = record f {
  is_fresh = true;
  is_at_rest = rests;
  old_map = old_map;
  old_book = old_book;
  new_map = new_map;
  new_book = new_book;
}

-- the book of the moving table that a phase would save now
abbrev pub book_on : {C : ℕ} → FlushFrame → Phase C → HandsValue → Book
book_on f s x = with_digests (saved_digests x) (book_of (laid f.classes f.size_max x.in_use.block.k f.reach
    (phase_header (phase_in s x.table) x.caps x.grid) x.table.now))

pub goes_with : {C : ℕ} {f : FlushFrame} {s : Phase C} {x : HandsValue} {a d : disk.State} → GoesOn f s x a
    → (rests : Bool) (old_map : Map) (old_book : Book) (new_map : Map) (new_book : Book)
    → book_on f s x ≡ new_book
    → (IsTrue d.tells → IsMidFlush (with_maps f rests old_map old_book new_map new_book) x.in_use x.table d)
    → GoesOn (with_maps f rests old_map old_book new_map new_book) s x d
goes_with g rests old_map old_book new_map new_book book flies =
    let h = g.goes.hands in
    record {
      goes = record {
        hands = search (h);
        version = g.goes.version;
        book = book;
        same_base = g.goes.same_base;
        divisor = g.goes.divisor;
        same_classes = g.goes.same_classes;
        same_max = g.goes.same_max;
        whole = g.goes.whole;
        wide = g.goes.wide;
        limit = g.goes.limit;
        guard = g.goes.guard;
        flies = flies;
      };
      low = g.low;
    }

-- where the sequence leaves room for all steps that are left, one may be made
pub can_go : {C : ℕ} {f : FlushFrame} {s : Phase C} {x : HandsValue} {d : disk.State} → GoesOn f s x d
    → x.in_use.sequence + steps_left s x.table ≤ 2 ^ 61 + 2 ^ 18 → CanAdvance f s x d
can_go {s = s} {x} g room = record {
  on = g;
  saves = record {
    settled = omega (arith, room, steps_some s x.table);
    moving = λ fresh. omega (arith, room, steps_some s x.table);
  };
}

-- a flush that begins below 2^61 has room for all its steps
pub room_for_all : {C : ℕ} {f : FlushFrame} {s : Phase C} {x : HandsValue} {d : disk.State} → GoesOn f s x d
    → x.in_use.sequence + 1 ≤ 2 ^ 61 → x.in_use.sequence + steps_left s x.table ≤ 2 ^ 61 + 2 ^ 18
room_for_all {s = s} {x} g fresh = omega (
  arith,
  fresh,
  steps_few s x.table,
  g.goes.hands.table.now_room,
  g.goes.hands.names,
  g.goes.hands.block.names_high,
)

-- what was summed up since a mark, as if the calls were counted from now on
pub sums_anew : {C : ℕ} {m : Mark} {s : Phase C} {x : HandsValue} {d : disk.State} → SumsSoFar m s x d
    → (b : disk.State) → SumsSoFar (record m { turn = b.turn }) s x b
sums_anew {m = m} {x = x} so b = record {
  totals = so.totals;
  sizes = so.sizes;
  later = so.later;
  lower = so.lower;
  rises = so.rises;
  calls = record { later = so.calls.later; most = λ still. omega arith };
}
