-- The fields of a store after a quiet change.
use Rattle.std.specs.Prelude.{◌≡◌, ℕ, ◌≤◌, List, Option, Some, None, false, true, vec_len, refl}
use Rattle.std.specs.FinMap as fin
use Rattle.std.specs.Vec.{with_items}
use Rattle.std.proofs.Common.{arith, ap, sym, ◌∙◌, subst}
use Rattle.size_class.specs.Rows.{cells_of}
use Rattle.size_class.specs.declared.TheConstants.{SIZE_MAX}
use Rattle.data_area.specs.declared.ledger.Ledger.{Ledger}
use Rattle.segment_layout.specs.declared.layout.Layout.{Layout}
use Rattle.slot_codec.specs.Spelling.{cap}
use Rattle.logged_pair.specs.Slots.{used_in}
use Rattle.segment_layout.specs.Books.{version_of}
use Rattle.segment_layout.specs.Layouts.{caps_of, divisor_of, grid_of}
use Rattle.held_guard.specs.Freed.{Freed}
use Rattle.map_model.specs.Maps.{Map}
use Rattle.extent_table.specs.Extents.{Extents, IsTable, Spots, digests_seen}
use Rattle.placement_model.specs.Held.{IsFreed}
use Rattle.placement_model.specs.LaidOut.{shown_book}
use Rattle.store_model.specs.Connection.{StoreValue, base_of, live_cap}
use Rattle.flush_run.specs.declared.phase.Phase.{Phase}
use Rattle.flush_run.specs.Parts.{parts_of}
use Rattle.flush_run.specs.Phases.{GoesOn, PaidIn}
use Rattle.flush_run.specs.Sums.{SumsSoFar}
use Rattle.store_model.specs.declared.hand.Began.{Began}
use Rattle.store_model.specs.Inside.{HoldsAt, Inside, IsWhole, kept_of, seen, still_frame, untold}
use Rattle.store_model.specs.Digested.{digested_book}
use Rattle.store_model.specs.Stores.{IsStanding, IsStore}
use Rattle.store_model.proofs.HalfLaws.{standing_of}
use Rattle.store_model.proofs.DigestLaws.{version_seen}
use Rattle.store_model.proofs.ChangeLaws.{with_now}

-- ---- whether a flush is in hand

-- the parts are those of a store with nothing in hand, whatever its state
pub parts_at : {C : ℕ} (flush : Option (Phase C)) (began : Began C) (s : Inside C) → HoldsAt flush began s
    → IsWhole (record s { broken = true })
parts_at None began s w = record {
  classes = w.classes;
  wide = w.wide;
  plain = w.plain;
  version = w.version;
  base = w.base;
  few = w.few;
  buf = w.buf;
  divisor = w.divisor;
  kept_divisor = w.kept_divisor;
  kept_caps = w.kept_caps;
  room = w.room;
  cap = w.cap;
  guard_room = w.guard_room;
  table = λ sound. absurd (cc);
  sound = λ sound. absurd (cc);
  freed = λ sound. absurd (cc);
}
parts_at (Some v) began s g = g.parts

-- What is known of a store with nothing in hand: contracts see what its parts are.
pub record AtRest {C : ℕ} (flush : Option (Phase C)) (s : Inside C) (t : StoreValue) : Type 0 where
  pub none : flush ≡ None
  pub view : kept_of s ≡ t
  pub whole : IsWhole s

pub rest_at : {C : ℕ} (flush : Option (Phase C)) (began : Began C) (s : Inside C) (t : StoreValue)
    → seen flush began s ≡ t → HoldsAt flush began s → t.in_hand ≡ None → AtRest flush s t
rest_at None began s t is whole idle = record { none = refl; view = is; whole = whole }
rest_at (Some v) began s t is whole idle =
    absurd (let e = ap (λ (x : StoreValue). x.in_hand) is ∙ idle in cc)

-- a store that isn't broken stands
pub standing_at : {C : ℕ} (flush : Option (Phase C)) (began : Began C) (s : Inside C) → HoldsAt flush began s
    → s.broken ≡ false → IsStanding (seen flush began s)
standing_at None began s w whole =
    let h = standing_of (kept_of s) (w.sound whole) in
    search (h)
standing_at (Some v) began s g whole =
    let h = g.goes.goes.hands in
    search (h, h.table)

-- the buffer may have other bytes
pub whole_with : {C : ℕ} (s : Inside C) (items : List ℕ) → vec_len (with_items s.hands.buf items) ≡ 65536
    → IsWhole s → IsWhole (record s { hands = record s.hands { buf = with_items s.hands.buf items } })
whole_with s items long whole = record {
  classes = whole.classes;
  wide = whole.wide;
  plain = whole.plain;
  version = whole.version;
  base = whole.base;
  few = whole.few;
  buf = long;
  divisor = whole.divisor;
  kept_divisor = whole.kept_divisor;
  kept_caps = whole.kept_caps;
  room = whole.room;
  cap = whole.cap;
  guard_room = whole.guard_room;
  table = whole.table;
  sound = whole.sound;
  freed = whole.freed;
}

-- the same, whether or not a flush is in hand
pub holds_with : {C : ℕ} (flush : Option (Phase C)) (began : Began C) (s : Inside C) (items : List ℕ)
    → vec_len (with_items s.hands.buf items) ≡ 65536 → HoldsAt flush began s
    → HoldsAt flush began (record s { hands = record s.hands { buf = with_items s.hands.buf items } })
holds_with None began s items long w = whole_with s items long w
holds_with (Some v) began s items long g =
    let old : vec_len s.hands.buf ≡ 65536 = g.parts.buf in
    let same : parts_of s.hands
    ≡ record (parts_of s.hands) { buffer = vec_len (with_items s.hands.buf items) }
    = λ i. record (parts_of s.hands) { buffer = (old ∙ sym long) i } in
    record {
      unbroken = g.unbroken;
      parts = whole_with (record s { broken = true }) items long g.parts;
      goes = subst (λ x. GoesOn (still_frame began s v) v x untold) same g.goes;
      keeps = g.keeps;
      steps = g.steps;
      room = g.room;
      paid = subst (λ x. PaidIn began.sequence v x) same g.paid;
      mark = g.mark;
      sequence = g.sequence;
      moved = g.moved;
      sums = subst (λ x. SumsSoFar g.mark v x untold) same g.sums;
    }

-- the version of the book is that of the tables
pub version_is : {C : ℕ} (s : Inside C) → IsWhole s → version_of (kept_of s).book ≡ s.hands.version
version_is {C} s whole = version_seen s.hands.version s.hands.table.digests
    (shown_book C SIZE_MAX (used_in s.hands.slots).block.k (caps_of s.hands.layout) (grid_of s.hands.layout)
    s.hands.table.now) whole.version

-- as many names may be live as the table lets
pub cap_is : {C : ℕ} (s : Inside C) → IsWhole s → s.hands.table.cap ≡ live_cap (kept_of s)
cap_is s whole = whole.cap ∙ ap (cap (used_in s.hands.slots).block.names) (sym (version_is s whole))

pub few_live : {C : ℕ} (s : Inside C) → IsWhole s → s.broken ≡ false
    → fin.len s.hands.table.now ≤ s.hands.table.cap
few_live s whole sound = omega (arith, (whole.sound sound).now_few, cap_is s whole)

-- What the fields of a store that isn't broken are to what contracts see of it.
pub record IsOpened {C : ℕ} (s : Inside C) (t : StoreValue) : Type 0 where
  pub store : IsStore C t
  pub freed : IsFreed s.hands.guard.spans t.now t.kept
  pub now : s.hands.table.now ≡ t.now
  pub kept : s.hands.table.kept ≡ t.kept
  pub guard_room : s.hands.guard.room ≡ t.in_use.block.names
  pub room : s.hands.table.names ≡ t.in_use.block.names
  pub cap : s.hands.table.cap ≡ live_cap t
  pub digests : digests_seen s.hands.version s.hands.table.digests ≡ t.book.digests
  pub base : s.hands.base ≡ base_of t

pub opened : {C : ℕ} (s : Inside C) (t : StoreValue) → kept_of s ≡ t → IsWhole s
    → t.is_broken ≡ false → IsOpened s t
opened {C} s t is whole unbroken =
    let now = ap (λ (x : StoreValue). x.now) is in
    let kept = ap (λ (x : StoreValue). x.kept) is in
    let sound = ap (λ (x : StoreValue). x.is_broken) is ∙ unbroken in
    record {
      store = subst (IsStore C) is (whole.sound sound);
      freed = subst (λ x. IsFreed s.hands.guard.spans x t.kept) now
          (subst (λ x. IsFreed s.hands.guard.spans s.hands.table.now x) kept (whole.freed sound));
      now = now;
      kept = kept;
      guard_room = whole.guard_room ∙ ap (λ (x : StoreValue). x.in_use.block.names) is;
      room = whole.room ∙ ap (λ (x : StoreValue). x.in_use.block.names) is;
      cap = cap_is s whole ∙ ap live_cap is;
      digests = ap (λ (x : StoreValue). x.book.digests) is;
      base = whole.base ∙ ap base_of is;
    }

-- The table, the guard, the ledger and the layout are new, and contracts saw the store as t.
module _ {C : ℕ} (s : Inside C) (t : StoreValue) (is : kept_of s ≡ t) (whole : IsWhole s) (table : Extents)
    (guard : Freed) (ledger : Ledger C) (layout : Layout C) (now : Spots) (same_now : table.now ≡ now)
    (kept : table.kept ≡ s.hands.table.kept) (caps : caps_of layout ≡ t.book.caps)
    (moved : cells_of ledger.moved ≡ cells_of s.hands.ledger.moved) (digests : Option Map)
    (same_digests : digests_seen s.hands.version table.digests ≡ digests)
    (kept_digests : table.kept_digests ≡ s.hands.table.kept_digests) where
  abbrev changed_inside : Inside C
  changed_inside = record s {
    hands = record s.hands { table = table; layout = layout; guard = guard; ledger = ledger };
  }

  caps_stay : caps_of layout ≡ caps_of s.hands.layout
  caps_stay = caps ∙ ap (λ (x : StoreValue). x.book.caps) (sym is)

  pub changed_view : kept_of changed_inside ≡ with_now C t now digests (grid_of layout)
      (cells_of ledger.asked)
  changed_view = (λ i. record (kept_of s) {
    now = same_now i;
    kept = kept i;
    book = digested_book C (used_in s.hands.slots).block.k (caps_stay i) (grid_of layout) (same_now i)
        (same_digests i);
    kept_book = digested_book C (used_in s.hands.slots).block.k (caps_stay i) (grid_of s.kept_layout) (kept i)
        (digests_seen s.hands.version (kept_digests i));
    moved = moved i;
    asked = cells_of ledger.asked;
  }) ∙ ap (λ (x : StoreValue). with_now C x now digests (grid_of layout) (cells_of ledger.asked)) is

  pub changed_whole : IsTable table → table.names ≡ s.hands.table.names → table.cap ≡ s.hands.table.cap
      → guard.room ≡ s.hands.guard.room
      → divisor_of layout ≡ t.in_use.block.k
      → IsStore C (with_now C t now digests (grid_of layout) (cells_of ledger.asked))
      → IsFreed guard.spans now t.kept → IsWhole changed_inside
  changed_whole is_table names cap room divisor store freed = record {
    classes = whole.classes;
    wide = whole.wide;
    plain = whole.plain;
    version = whole.version;
    base = whole.base;
    few = whole.few;
    buf = whole.buf;
    divisor = divisor ∙ ap (λ (x : StoreValue). x.in_use.block.k) (sym is);
    kept_divisor = whole.kept_divisor;
    kept_caps = whole.kept_caps ∙ sym caps_stay;
    room = names ∙ whole.room;
    cap = cap ∙ whole.cap;
    guard_room = room ∙ whole.guard_room;
    table = λ sound. is_table;
    sound = λ sound. subst (IsStore C) (sym changed_view) store;
    freed = λ sound. subst (λ x. IsFreed guard.spans x table.kept) (sym same_now)
        (subst (λ x. IsFreed guard.spans now x) (ap (λ (x : StoreValue). x.kept) (sym is) ∙ sym kept) freed);
  }
