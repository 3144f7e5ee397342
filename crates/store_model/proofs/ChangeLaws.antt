-- What a store keeps through a quiet put and a removal.
use Rattle.std.specs.Prelude.{◌≡◌, ℕ, ◌+◌, ◌≤◌, List, Option, Some, refl}
use Rattle.std.proofs.Common.{arith, inl, inr}
use Rattle.std.proofs.lemmas.Bool.{cases_lt}
use Rattle.std.specs.FinMap as fin
use Rattle.size_class.specs.declared.TheConstants.{SIZE_MAX}
use Rattle.slot_codec.specs.Names.{IsName}
use Rattle.slot_codec.specs.Spelling.{cap}
use Rattle.slot_codec.proofs.CapLaws.{cap-low}
use Rattle.span_math.specs.declared.span.Span.{Span}
use Rattle.map_model.specs.Maps.{Map}
use Rattle.segment_layout.specs.Books.{some_size, version_of, with_digests}
use Rattle.segment_layout.specs.Shapes.{end_of}
use Rattle.extent_table.specs.declared.spot.Spot.{Spot}
use Rattle.extent_table.specs.Extents.{Spots}
use Rattle.placement_model.specs.Held.{FreesSpot, IsFreed}
use Rattle.placement_model.specs.Quiet.{QuietTo, gone_items}
use Rattle.placement_model.specs.Reads.{AllLieApart}
use Rattle.placement_model.specs.Rises.{CellsRise}
use Rattle.placement_model.proofs.AfterLaws.{laid_gone, laid_put}
use Rattle.placement_model.proofs.FreedLaws.{freed_put, off_kept, span_apart, span_room}
use Rattle.placement_model.proofs.PlaceLaws.{place_apart, place_within}
use Rattle.placement_model.proofs.QuietLaws.{quiet_rises}
use Rattle.placement_model.proofs.RiseLaws.{CellsRise-then}
use Rattle.held_guard.specs.Freed.{Freed}
use Rattle.store_model.specs.Connection.{StoreValue}
use Rattle.store_model.specs.Digested.{digested_book}
use Rattle.store_model.specs.Quiet.{CanFree, IsCharged}
use Rattle.store_model.specs.Stores.{AreInRange, IsStore}

-- a store with other objects and digests: its book is what the layout shows of them
abbrev pub with_now : ℕ → StoreValue → Spots → Option Map → List (List ℕ) → List ℕ → StoreValue
with_now classes s now digests grid asked = record s {
  now = now;
  book = digested_book classes s.in_use.block.k s.book.caps grid now digests;
  asked = asked;
}

module _ {classes : ℕ} (s : StoreValue) (h : IsStore classes s) (name : List ℕ) where
  abbrev k : ℕ
  k = s.in_use.block.k

  abbrev caps : List ℕ
  caps = s.book.caps

  -- ---- a name goes

  module _ (after : List (List ℕ))
      (gone : QuietTo k caps s.book.grid (gone_items k caps (fin.get s.now name)) after)
    where
      pub store_gone : (digests : Option Map) (asked : List ℕ)
          → fin.len (fin.remove s.now name) ≤ cap s.in_use.block.names (version_of
          (with_digests digests s.book))
          → AreInRange (fin.remove s.now name)
          → IsStore classes (with_now classes s (fin.remove s.now name) digests after asked)
      store_gone digests asked few ranges = record {
        block = h.block;
        now = laid_gone classes SIZE_MAX k caps s.book.grid s.now h.now name after gone;
        now_book = refl;
        now_few = few;
        now_in_range = ranges;
        kept = h.kept;
        kept_book = h.kept_book;
        kept_few = h.kept_few;
        kept_in_range = h.kept_in_range;
        fuller = CellsRise-then s.kept_book.grid s.book.grid after h.fuller
            (quiet_rises classes k caps s.book.grid after (gone_items k caps (fin.get s.now name)) h.now.few
            h.now.grid_full gone);
      }

  -- ---- an object is put

  module _ (size place : ℕ) (after : List (List ℕ))
      (charged : IsCharged k caps s.book.grid (fin.get s.now name) size after place) where
    abbrev spot : Spot
    spot = record { place = place; size = size }

    rises_to_mid : CellsRise s.book.grid charged.mid
    rises_to_mid = quiet_rises classes k caps s.book.grid charged.mid (gone_items k caps (fin.get s.now name))
        h.now.few h.now.grid_full charged.gone

    kept_to_mid : CellsRise s.kept_book.grid charged.mid
    kept_to_mid = CellsRise-then s.kept_book.grid s.book.grid charged.mid h.fuller rises_to_mid

    -- an empty object has no byte in common with any
    apart_if_empty : size ≡ 0 → (spots : Spots) → AllLieApart place size spots
    apart_if_empty empty spots q x is = inr (omega (arith, empty, charged.placed.empty empty))

    -- its bytes are apart from all that stands and from all that is held, and within the layout
    pub apart_now : AllLieApart place size s.now
    apart_now = elim (cases_lt 0 size) as (λ _. AllLieApart place size s.now) [
      | inl some ↦ place_apart classes SIZE_MAX k caps s.book.grid s.now h.now charged.mid after size place
          rises_to_mid (omega (arith, some)) charged.placed
      | inr none ↦ apart_if_empty (omega (arith, none)) s.now
    ]

    pub apart_kept : AllLieApart place size s.kept
    apart_kept = elim (cases_lt 0 size) as (λ _. AllLieApart place size s.kept) [
      | inl some ↦ place_apart classes SIZE_MAX k caps s.kept_book.grid s.kept h.kept charged.mid after size
          place kept_to_mid (omega (arith, some)) charged.placed
      | inr none ↦ apart_if_empty (omega (arith, none)) s.kept
    ]

    pub place_ends : place + size ≤ end_of k caps
    place_ends = elim (cases_lt 0 size) as (λ _. place + size ≤ end_of k caps) [
      | inl some ↦ place_within k caps charged.mid after size place h.now.caps_full.full (omega (arith, some))
          charged.placed
      | inr none ↦
          let empty : size ≡ 0 = omega (arith, none) in
          omega (arith, empty, charged.placed.empty empty)
    ]

    pub store_put : IsName name → size ≤ SIZE_MAX → (digests : Option Map) (asked : List ℕ)
        → fin.len (fin.insert s.now name spot) ≤ cap s.in_use.block.names (version_of
        (with_digests digests s.book))
        → AreInRange (fin.insert s.now name spot)
        → IsStore classes (with_now classes s (fin.insert s.now name spot) digests after asked)
    store_put is small digests asked few ranges = record {
      block = h.block;
      now = laid_put classes SIZE_MAX k caps s.book.grid s.now h.now name is size charged.mid after place
          small charged.gone charged.placed;
      now_book = refl;
      now_few = few;
      now_in_range = ranges;
      kept = h.kept;
      kept_book = h.kept_book;
      kept_few = h.kept_few;
      kept_in_range = h.kept_in_range;
      fuller = CellsRise-then s.kept_book.grid charged.mid after kept_to_mid
          (quiet_rises classes k caps charged.mid after (some_size size) h.now.few
          (laid_gone classes SIZE_MAX k caps s.book.grid s.now h.now name charged.mid charged.gone).grid_full
          charged.placed.charged);
    }

    pub store_freed : (spans joined : List Span) → IsFreed spans s.now s.kept
        → FreesSpot (fin.get s.now name) (fin.get s.kept name) spans joined
        → IsFreed joined (fin.insert s.now name spot) s.kept
    store_freed spans joined freed frees = freed_put spans s.now s.kept freed name joined frees spot
        (off_kept s.kept name spot (λ some. apart_kept))

  -- ---- what the guard can be told

  pub can_free : (guard : Freed) → guard.room ≡ s.in_use.block.names → IsFreed guard.spans s.now s.kept
      → (x : Spot) → fin.get s.now name ≡ Some x → fin.get s.kept name ≡ Some x → CanFree guard x
  can_free guard room freed x stands held = record {
    fits = (let ranges = h.now_in_range name x stands in omega arith);
    room = span_room guard.spans s.now s.kept freed name x stands held guard.room
        (omega (arith, h.kept_few, cap-low s.in_use.block.names (version_of s.kept_book), room));
    apart = span_apart guard.spans s.now s.kept freed name x stands held classes SIZE_MAX k caps
        s.kept_book.grid h.kept;
  }
