-- What going back to the last checkpoint leaves.
use Rattle.std.specs.Prelude.{◌≡◌, ℕ, List, [], refl}
use Rattle.std.proofs.Common.{arith, ap, sym, ◌∙◌, subst}
use Rattle.logged_pair.specs.Slots.{used_in}
use Rattle.size_class.specs.declared.TheConstants.{SIZE_MAX}
use Rattle.segment_layout.specs.Books.{Book}
use Rattle.segment_layout.specs.Layouts.{grid_of}
use Rattle.segment_layout.specs.Shapes.{end_of}
use Rattle.map_model.specs.Requests as ask
use Rattle.held_guard.specs.Freed.{Freed}
use Rattle.extent_table.specs.Extents.{Extents, IsTable, digests_seen}
use Rattle.placement_model.specs.Held.{IsFreed}
use Rattle.placement_model.specs.LaidOut.{IsLaidOut}
use Rattle.placement_model.proofs.GuardLaws.{freed_nothing}
use Rattle.placement_model.proofs.RiseLaws.{CellsRise-itself}
use Rattle.store_model.specs.Connection.{IsOver, StoreValue, limits_of, state_of}
use Rattle.store_model.specs.Inside.{Inside, IsWhole, kept_of}
use Rattle.store_model.specs.Digested.{digested_book}
use Rattle.store_model.specs.Stores.{IsStore}
use Rattle.store_model.specs.States.{Step}

abbrev pub gone_back : StoreValue → StoreValue
gone_back s = record s { now = s.kept; book = s.kept_book }

same_caps : {classes : ℕ} (s : StoreValue) → IsStore classes s → s.kept_book.caps ≡ s.book.caps
same_caps s h = ap (λ (b : Book). b.caps) h.kept_book

pub store_back : {classes : ℕ} (s : StoreValue) → IsStore classes s → IsStore classes (gone_back s)
store_back {classes} s h =
    let k = s.in_use.block.k in
    let laid = subst (λ caps. IsLaidOut classes SIZE_MAX k caps s.kept_book.grid s.kept) (sym (same_caps s h))
    h.kept in
    let book = subst (λ caps. s.kept_book
    ≡ digested_book classes k caps s.kept_book.grid s.kept s.kept_book.digests)
    (sym (same_caps s h)) h.kept_book in
    record {
      block = h.block;
      now = laid;
      now_book = book;
      now_few = h.kept_few;
      now_in_range = h.kept_in_range;
      kept = laid;
      kept_book = book;
      kept_few = h.kept_few;
      kept_in_range = h.kept_in_range;
      fuller = CellsRise-itself s.kept_book.grid;
    }

pub over_back : {classes : ℕ} (s : StoreValue) (file : List ℕ) → IsStore classes s → IsOver classes s file
    → IsOver classes (gone_back s) file
over_back s file h over = record {
  table = over.table;
  checkpoint = record {
    slot = over.checkpoint.slot;
    records = over.checkpoint.records;
    opens = over.checkpoint.opens;
  };
  same_length = omega (arith, over.same_length, ap (end_of s.in_use.block.k) (same_caps s h));
}

pub step_back : (s : StoreValue) (file : List ℕ)
    → Step (limits_of s) (state_of s file) ask.back ask.done (state_of (gone_back s) file)
step_back s file = record { replied = refl; state = refl; low = omega arith; high = omega arith }

-- the fields after it show what stood at the checkpoint
module _ {C : ℕ} (s : Inside C) (whole : IsWhole s) (table : Extents) (guard : Freed)
    (now : table.now ≡ s.hands.table.kept) (kept : table.kept ≡ s.hands.table.kept)
    (digests : table.digests ≡ s.hands.table.kept_digests)
    (kept_digests : table.kept_digests ≡ s.hands.table.kept_digests) where
  abbrev back_inside : Inside C
  back_inside = record s { hands = record s.hands { table = table; layout = s.kept_layout; guard = guard } }

  pub back_view : kept_of back_inside ≡ gone_back (kept_of s)
  back_view = λ i. record (kept_of s) {
    now = now i;
    kept = kept i;
    book = digested_book C (used_in s.hands.slots).block.k (whole.kept_caps i) (grid_of s.kept_layout) (now i)
        (digests_seen s.hands.version (digests i));
    kept_book = digested_book C (used_in s.hands.slots).block.k (whole.kept_caps i) (grid_of s.kept_layout)
        (kept i)
        (digests_seen s.hands.version (kept_digests i));
  }

  pub back_whole : IsTable table → table.names ≡ s.hands.table.names → table.cap ≡ s.hands.table.cap
      → guard.spans ≡ []
      → guard.room ≡ s.hands.guard.room → IsWhole back_inside
  back_whole is_table names cap spans room = record {
    classes = whole.classes;
    wide = whole.wide;
    plain = whole.plain;
    version = whole.version;
    base = whole.base;
    few = whole.few;
    buf = whole.buf;
    divisor = whole.kept_divisor;
    kept_divisor = whole.kept_divisor;
    kept_caps = refl;
    room = names ∙ whole.room;
    cap = cap ∙ whole.cap;
    guard_room = room ∙ whole.guard_room;
    table = λ sound. is_table;
    sound = λ sound. subst (IsStore C) (sym back_view) (store_back (kept_of s) (whole.sound sound));
    freed = λ sound. subst (λ xs. IsFreed xs table.now table.kept) (sym spans)
        (subst (λ x. IsFreed [] x table.kept) (kept ∙ sym now) (freed_nothing table.kept));
  }
