-- A store once a flush is done: its parts agree, and it is over its file.
use Rattle.std.specs.Prelude.{◌≡◌, ℕ, ◌≤◌, List, [], Option, IsTrue, vec_len, refl}
use Rattle.std.specs.FinMap as fin
use Rattle.std.proofs.Common.{arith, ap, sym, ◌∙◌, subst}
use Rattle.disk_face.specs.States as disk
use Rattle.disk_face.specs.Moments.{Only}
use Rattle.size_class.specs.declared.TheConstants.{SIZE_MAX}
use Rattle.slot_codec.specs.Choice as choice
use Rattle.slot_codec.specs.Readable.{IsSuperBlock}
use Rattle.slot_codec.specs.Reading.{is_version}
use Rattle.slot_codec.specs.Spelling.{cap, cap as cap_of, head_len}
use Rattle.logged_pair.specs.Slots.{has_logs, used_in}
use Rattle.map_model.specs.Maps.{Map}
use Rattle.segment_layout.specs.Books.{Book, version_of}
use Rattle.segment_layout.specs.Layouts.{caps_of, divisor_of, grid_of}
use Rattle.segment_layout.specs.Shapes.{end_of}
use Rattle.table_rules.specs.Opening.{Opens, OpensBy}
use Rattle.table_rules.specs.Tables.{map_of}
use Rattle.extent_table.specs.Extents.{IsTable, Spots, digests_seen}
use Rattle.placement_model.specs.Held.{IsFreed}
use Rattle.placement_model.specs.LaidOut.{shown_book}
use Rattle.placement_model.specs.Reads.{read_at}
use Rattle.placement_model.proofs.GuardLaws.{freed_nothing}
use Rattle.placement_model.proofs.RiseLaws.{CellsRise-itself}
use Rattle.flush_run.specs.declared.hands.Hands.{Hands}
use Rattle.flush_run.specs.FlushFrames.{FlushFrame}
use Rattle.flush_run.specs.Parts.{FitsVersion, parts_of, saved_digests}
use Rattle.flush_run.specs.Settling.{FlushEnds, IsSettled}
use Rattle.store_model.specs.Connection.{IsOver, StoreValue, RestsOnTable, SameOnTable, base_of, kept_map, state_of}
use Rattle.store_model.specs.Flushed.{IsFlushed}
use Rattle.store_model.specs.Inside.{Inside, IsWhole, kept_of}
use Rattle.store_model.specs.Digested.{digested_book}
use Rattle.store_model.specs.Stores.{IsStore}
use Rattle.store_model.proofs.DigestLaws.{version_seen}
use Rattle.store_model.proofs.OverLaws.{same_itself}

-- ---- any flushed store

-- a store with these parts, whatever it moved
abbrev flushed_as : ℕ → choice.InUse → Spots → Option Map → List ℕ → List (List ℕ) → StoreValue → StoreValue
flushed_as classes u now digests caps grid s = record s {
  in_use = u;
  now = now;
  kept = now;
  book = digested_book classes u.block.k caps grid now digests;
  kept_book = digested_book classes u.block.k caps grid now digests;
}

flushed_is : {classes : ℕ} (u : choice.InUse) (now : Spots) (digests : Option Map) (caps : List ℕ)
    (grid : List (List ℕ)) (s : StoreValue) → IsFlushed classes u now digests caps grid s
    → flushed_as classes u now digests caps grid s ≡ s
flushed_is u now digests caps grid s is = λ i. record s {
  in_use = sym is.in_use i;
  now = sym is.same_now i;
  kept = sym is.kept i;
  book = sym is.book i;
  kept_book = sym is.kept_book i;
}

-- ---- a flush that ended

module _ {C : ℕ} (hands : Hands C) (flight : FlushFrame) (d : disk.State)
    (ends : FlushEnds C (record flight { classes = C; size_max = SIZE_MAX }) (parts_of hands) d)
    (names : hands.table.names ≡ (used_in hands.slots).block.names)
    (block : IsSuperBlock (used_in hands.slots).block)
    (version : FitsVersion (parts_of hands)) (s : StoreValue)
    (is : IsFlushed C (used_in hands.slots) hands.table.now (saved_digests (parts_of hands))
    (caps_of hands.layout)
    (grid_of hands.layout) s) where
  abbrev f : FlushFrame
  f = record flight { classes = C; size_max = SIZE_MAX }

  abbrev as_flushed : StoreValue
  as_flushed = flushed_as C (used_in hands.slots) hands.table.now (saved_digests (parts_of hands))
      (caps_of hands.layout) (grid_of hands.layout) s

  same : as_flushed ≡ s
  same = flushed_is (used_in hands.slots) hands.table.now (saved_digests (parts_of hands))
      (caps_of hands.layout)
      (grid_of hands.layout) s is

  few : fin.len hands.table.now ≤ cap (used_in hands.slots).block.names (version_of as_flushed.book)
  few = subst (λ v. fin.len hands.table.now ≤ cap (used_in hands.slots).block.names v)
      (sym (version_seen hands.version hands.table.digests (shown_book C SIZE_MAX
      (used_in hands.slots).block.k
      (caps_of hands.layout) (grid_of hands.layout) hands.table.now) version.known)) version.few

  -- the store keeps what a store keeps
  pub ended_store : IsStore C s
  ended_store = subst (IsStore C) same (record {
    block = block;
    now = ends.laid;
    now_book = refl;
    now_few = few;
    now_in_range = ends.table.now_in_range;
    kept = ends.laid;
    kept_book = refl;
    kept_few = few;
    kept_in_range = ends.table.now_in_range;
    fuller = CellsRise-itself (grid_of hands.layout);
  })

  module _ (base : head_len (used_in hands.slots).block.names ≡ f.base) (told : IsTrue d.tells) where
    abbrev file : List ℕ
    file = d.file

    settled : IsSettled f (used_in hands.slots) hands.table.now
        (end_of (used_in hands.slots).block.k (caps_of hands.layout))
        d.file d.may_leave
    settled = ends.file told

    map_is : read_at (base_of as_flushed) file hands.table.now ≡ f.new_map
    map_is = (λ i. map_of ((base ∙ settled.base) i) file (sym settled.records i)) ∙ sym settled.opens.same_map

    shown : as_flushed.book ≡ f.new_book
    shown = ends.book

    opens_in : OpensBy C SIZE_MAX settled.t file (kept_map as_flushed file) as_flushed.kept_book
    opens_in = subst (λ (m : Map). OpensBy C SIZE_MAX settled.t file m as_flushed.kept_book) (sym map_is)
        (subst (λ (b : Book). OpensBy C SIZE_MAX settled.t file f.new_map b) (sym shown) settled.opens)

    -- it is over its file, and a crash leaves only that
    pub ended_over : IsOver C s file
    ended_over = subst (λ (x : StoreValue). IsOver C x file) same (record {
      table = settled.t;
      checkpoint = record { slot = settled.slot; records = settled.records; opens = opens_in };
      same_length = omega (arith, settled.same_length, base);
    })

    pub ended_only : Only file d.may_leave
    ended_only = settled.only

    pub ended_rests : RestsOnTable (base_of s) s.kept d
    ended_rests image left = subst (SameOnTable (base_of s) s.kept file) (sym (settled.only image left))
        (same_itself (base_of s) s.kept file)

    pub ended_opens : Opens C SIZE_MAX file f.new_map f.new_book
    ended_opens = record { table = settled.t; opens = settled.opens }

    -- the state over the file has the map and the book of after, now and at the checkpoint
    pub ended_state : state_of s file ≡ record {
      map = f.new_map;
      kept = f.new_map;
      book = f.new_book;
      kept_book = f.new_book;
      sequence = (used_in hands.slots).sequence;
    }
    ended_state = ap (λ (x : StoreValue). state_of x file) (sym same) ∙ (λ i. record {
      map = map_is i;
      kept = map_is i;
      book = shown i;
      kept_book = shown i;
      sequence = (used_in hands.slots).sequence;
    })

-- ---- the fields

-- The hands that a flush gives back, with the layout of now as that of the checkpoint.
module _ {C : ℕ} (s : Inside C) (hands : Hands C) where
  abbrev flushed_inside : Inside C
  flushed_inside = record s { hands = hands; kept_layout = hands.layout }

  pub flushed_view : hands.table.kept ≡ hands.table.now → hands.table.kept_digests ≡ hands.table.digests
      → IsFlushed C (used_in hands.slots) hands.table.now (saved_digests (parts_of hands))
      (caps_of hands.layout)
      (grid_of hands.layout) (kept_of flushed_inside)
  flushed_view kept kept_digests = record {
    in_use = refl;
    same_now = refl;
    kept = kept;
    book = refl;
    kept_book = λ i. digested_book C (used_in hands.slots).block.k (caps_of hands.layout)
        (grid_of hands.layout)
        (kept i) (digests_seen hands.version (kept_digests i));
  }

  pub flushed_whole : IsWhole s → has_logs hands.slots ≡ has_logs s.hands.slots → hands.version
      ≡ s.hands.version → (used_in hands.slots).block ≡ (used_in s.hands.slots).block
      → hands.base ≡ s.hands.base
      → vec_len hands.buf ≡ 65536 → divisor_of hands.layout ≡ (used_in hands.slots).block.k
      → hands.table.names ≡ s.hands.table.names → hands.table.cap ≡ s.hands.table.cap
      → hands.guard.room ≡ s.hands.guard.room → IsTable hands.table
      → hands.table.kept ≡ hands.table.now → hands.guard.spans ≡ [] → IsStore C (kept_of flushed_inside)
      → IsWhole flushed_inside
  flushed_whole whole form version block base buf divisor names cap room table kept spans store = record {
    classes = whole.classes;
    wide = whole.wide;
    plain = form ∙ whole.plain;
    version = subst (λ v. IsTrue (is_version v)) (sym version) whole.version;
    base = base ∙ whole.base ∙ ap (λ b. head_len b.names) (sym block);
    few = omega (arith, whole.few, ap (λ b. b.names) block);
    buf = buf;
    divisor = divisor;
    kept_divisor = divisor;
    kept_caps = refl;
    room = names ∙ whole.room ∙ ap (λ b. b.names) (sym block);
    cap = cap ∙ whole.cap ∙ (λ i. cap_of ((sym block) i).names ((sym version) i));
    guard_room = room ∙ whole.guard_room ∙ ap (λ b. b.names) (sym block);
    table = λ sound. table;
    sound = λ sound. store;
    freed = λ sound. subst (λ xs. IsFreed xs hands.table.now hands.table.kept) (sym spans)
        (subst (λ x. IsFreed [] hands.table.now x) (sym kept) (freed_nothing hands.table.now));
  }
