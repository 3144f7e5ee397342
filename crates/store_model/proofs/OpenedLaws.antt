-- The store of a table that was checked against its layout.
use Rattle.std.specs.Prelude.{◌≡◌, ℕ, ◌<◌, ◌≤◌, ◌^◌, List, [], None, false, vec_len, IsTrue, refl}
use Rattle.std.specs.FinMap as fin
use Rattle.std.proofs.Common.{arith, ap, sym, ◌∙◌, subst}
use Rattle.size_class.specs.Classes.{IsGrid, IsRow, zero_row}
use Rattle.size_class.specs.Rows.{cells_of}
use Rattle.size_class.specs.declared.TheConstants.{SIZE_MAX}
use Rattle.slot_codec.specs.Readable.{IsSuperBlock}
use Rattle.slot_codec.specs.Choice.{Digests}
use Rattle.slot_codec.specs.Reading.{is_version}
use Rattle.slot_codec.specs.Spelling.{cap, head_len}
use Rattle.logged_pair.specs.Slots.{has_logs, used_in}
use Rattle.segment_layout.specs.Books.{book_end, version_of, with_digests}
use Rattle.segment_layout.specs.Bounds.{Tight}
use Rattle.segment_layout.specs.Layouts.{caps_of, divisor_of, grid_of}
use Rattle.segment_layout.proofs.TightLaws.{tight}
use Rattle.table_rules.specs.Rules.{IsValid}
use Rattle.extent_table.specs.Extents.{IsTable, Spots, digests_seen}
use Rattle.placement_model.specs.Held.{IsFreed}
use Rattle.placement_model.specs.Laid.{settled_table}
use Rattle.placement_model.specs.Rises.{CellsRise}
use Rattle.placement_model.specs.LaidOut.{IsLaidOut, shown_book}
use Rattle.placement_model.proofs.GuardLaws.{freed_nothing}
use Rattle.placement_model.proofs.RiseLaws.{CellsRise-itself}
use Rattle.placement_model.proofs.ShownLaws.{book_shown}
use Rattle.store_model.specs.Connection.{IsOver, StoreValue, base_of, opened_store, state_of}
use Rattle.store_model.specs.Inside.{Inside, IsWhole, kept_of}
use Rattle.store_model.specs.Digested.{digested_book}
use Rattle.store_model.specs.Stores.{IsStore}
use Rattle.store_model.proofs.DigestLaws.{version_seen}
use Rattle.store_model.proofs.LaidEndLaws.{shown_balanced}
use Rattle.store_model.proofs.StoreLaws.{kept_lies, now_lies}

-- ---- tight

pub tight_now : {classes : ℕ} (s : StoreValue) (file : List ℕ) → IsStore classes s → IsOver classes s file
    → Tight s.in_use.block.k (book_end s.in_use.block.k s.book) (state_of s file).map
tight_now {classes} s file h over = tight s.in_use.block.k (state_of s file).map
    (shown_book classes SIZE_MAX s.in_use.block.k s.book.caps s.book.grid s.now)
    (shown_balanced classes SIZE_MAX s.in_use.block.k s.book.caps s.book.grid s.now h.now (base_of s) file
    (now_lies s file h over))

pub tight_kept : {classes : ℕ} (s : StoreValue) (file : List ℕ) → IsStore classes s → IsOver classes s file
    → Tight s.in_use.block.k (book_end s.in_use.block.k s.kept_book) (state_of s file).kept
tight_kept {classes} s file h over =
    let k = s.in_use.block.k in
    let shown = shown_book classes SIZE_MAX k s.book.caps s.kept_book.grid s.kept in
    subst (λ b. Tight k (book_end k b) (state_of s file).kept) (sym h.kept_book)
    (tight k (state_of s file).kept shown
    (shown_balanced classes SIZE_MAX k s.book.caps s.kept_book.grid s.kept h.kept (base_of s) file
    (kept_lies s file h over)))

-- ---- a new store

-- What the fields of a new store are.
pub record IsNew {C : ℕ} (s : Inside C) : Type 0 where
  pub few : C ≤ 32
  pub wide : SIZE_MAX < 2 ^ C
  pub block : IsSuperBlock (used_in s.hands.slots).block
  pub kept : s.hands.table.now ≡ s.hands.table.kept
  pub room : s.hands.table.names ≡ (used_in s.hands.slots).block.names
  pub digests : digests_seen s.hands.version s.hands.table.digests
      ≡ digests_seen s.hands.version s.hands.table.kept_digests
  pub cap : s.hands.table.cap ≡ cap (used_in s.hands.slots).block.names s.hands.version
  pub few_names : fin.len s.hands.table.now ≤ s.hands.table.cap
  pub divisor : divisor_of s.hands.layout ≡ (used_in s.hands.slots).block.k
  pub kept_divisor : divisor_of s.kept_layout ≡ (used_in s.hands.slots).block.k
  pub kept_caps : caps_of s.kept_layout ≡ caps_of s.hands.layout
  pub kept_grid : grid_of s.kept_layout ≡ grid_of s.hands.layout
  pub caps_full : IsRow C (caps_of s.hands.layout)
  pub grid_full : IsGrid C (grid_of s.hands.layout)
  pub valid : IsValid (settled_table C SIZE_MAX (used_in s.hands.slots).block.k (caps_of s.hands.layout)
      (grid_of s.hands.layout) s.hands.table.now)
  pub table : IsTable s.hands.table
  pub spans : s.hands.guard.spans ≡ []
  pub guard_room : s.hands.guard.room ≡ (used_in s.hands.slots).block.names
  pub moved : cells_of s.hands.ledger.moved ≡ zero_row
  pub asked : cells_of s.hands.ledger.asked ≡ zero_row
  pub plain : has_logs s.hands.slots ≡ false
  pub version : IsTrue (is_version s.hands.version)
  pub base : s.hands.base ≡ head_len (used_in s.hands.slots).block.names
  pub buf : vec_len s.hands.buf ≡ 65536
  pub unbroken : s.broken ≡ false

module _ {C : ℕ} (s : Inside C) (n : IsNew s) where
  laid : IsLaidOut C SIZE_MAX (used_in s.hands.slots).block.k (caps_of s.hands.layout)
      (grid_of s.hands.layout)
      s.hands.table.now
  laid = record {
    few = n.few;
    top = n.wide;
    caps_full = n.caps_full;
    grid_full = n.grid_full;
    named = n.table.now_named;
    valid = n.valid;
  }

  few_seen : (digests : Digests) (grid : List (List ℕ)) (spots : Spots)
      → fin.len s.hands.table.now ≤ cap (used_in s.hands.slots).block.names (version_of
      (digested_book C (used_in s.hands.slots).block.k (caps_of s.hands.layout) grid spots
      (digests_seen s.hands.version digests)))
  few_seen digests grid spots = omega (
    arith,
    n.few_names,
    n.cap,
    ap (cap (used_in s.hands.slots).block.names) (version_seen s.hands.version digests
        (shown_book C SIZE_MAX (used_in s.hands.slots).block.k (caps_of s.hands.layout) grid spots)
        n.version),
  )

  new_store : IsStore C (kept_of s)
  new_store =
      let k = (used_in s.hands.slots).block.k in
      record {
        block = n.block;
        now = laid;
        now_book = refl;
        now_few = few_seen s.hands.table.digests (grid_of s.hands.layout) s.hands.table.now;
        now_in_range = n.table.now_in_range;
        kept = subst (λ x. IsLaidOut C SIZE_MAX k (caps_of s.hands.layout) (grid_of s.kept_layout) x) n.kept
            (subst (λ g. IsLaidOut C SIZE_MAX k (caps_of s.hands.layout) g s.hands.table.now)
            (sym n.kept_grid) laid);
        kept_book = refl;
        kept_few = omega (
          arith,
          few_seen s.hands.table.kept_digests (grid_of s.kept_layout) s.hands.table.kept,
          ap (λ (x : Spots). fin.len x) n.kept,
        );
        kept_in_range = n.table.kept_in_range;
        fuller = subst (λ g. CellsRise g (grid_of s.hands.layout)) (sym n.kept_grid)
            (CellsRise-itself (grid_of s.hands.layout));
      }

  pub new_whole : IsWhole s
  new_whole = record {
    classes = n.few;
    wide = n.wide;
    plain = n.plain;
    version = n.version;
    base = n.base;
    few = n.block.names_high;
    buf = n.buf;
    divisor = n.divisor;
    kept_divisor = n.kept_divisor;
    kept_caps = n.kept_caps;
    room = n.room;
    cap = n.cap;
    guard_room = n.guard_room;
    table = λ sound. n.table;
    sound = λ sound. new_store;
    freed = λ sound. subst (λ xs. IsFreed xs s.hands.table.now s.hands.table.kept) (sym n.spans)
        (subst (λ x. IsFreed [] s.hands.table.now x) n.kept (freed_nothing s.hands.table.now));
  }

  pub new_view : kept_of s ≡ opened_store C (used_in s.hands.slots) s.hands.table.now
      (digests_seen s.hands.version s.hands.table.digests) (caps_of s.hands.layout) (grid_of s.hands.layout)
  new_view =
      let k = (used_in s.hands.slots).block.k in
      let digests = digests_seen s.hands.version s.hands.table.digests in
      let shown = book_shown C SIZE_MAX k (caps_of s.hands.layout) (grid_of s.hands.layout) s.hands.table.now
      laid in
      λ i. record {
        in_use = (used_in s.hands.slots);
        now = s.hands.table.now;
        kept = sym n.kept i;
        book = with_digests digests (sym shown i);
        kept_book = ((λ j. digested_book C k (caps_of s.hands.layout) (n.kept_grid j) (sym n.kept j)
            (sym n.digests j)) ∙ (λ j. with_digests digests (sym shown j))) i;
        is_broken = n.unbroken i;
        moved = n.moved i;
        asked = n.asked i;
        in_hand = None;
      }
