-- No object is wider than the greatest class that has a capacity.
use Rattle.std.specs.Prelude.{◌≡◌, ℕ, ◌+◌, ◌-◌, ◌^◌, ◌<◌, ◌≤◌, List, slice_index, Some}
use Rattle.std.proofs.Common.{arith, ap, inl, inr}
use Rattle.std.proofs.Math.Nat.{zero-div}
use Rattle.std.proofs.lemmas.Bool.{cases_lt}
use Rattle.std.specs.FinMap as fin
use Rattle.size_class.specs.Classes.{class_of}
use Rattle.size_class.specs.declared.TheConstants.{SIZE_MAX}
use Rattle.size_class.proofs.ClassLaws.{class_high, class_low, power_rises}
use Rattle.segment_layout.specs.Shapes.{buffer_of, buffer_start, start_of, taken_in}
use Rattle.extent_table.specs.declared.spot.Spot.{Spot}
use Rattle.extent_table.specs.Extents.{Spots, record_of}
use Rattle.placement_model.specs.LaidOut.{IsLaidOut}
use Rattle.placement_model.proofs.EnterLaws.{by_name}
use Rattle.placement_model.proofs.LaidOutLaws.{laid_below, laid_filled, laid_stands}
use Rattle.placement_model.proofs.SegmentLaws.{lies_parts}
use Rattle.slot_codec.specs.declared.codec.Record.{Record}
use Rattle.store_model.specs.Facts.{classes_in, widest_of}
use Rattle.store_model.proofs.FactsLaws.{classes_in-above}

module _ (classes k : ℕ) (caps : List ℕ) (grid : List (List ℕ)) (spots : Spots)
    (h : IsLaidOut classes SIZE_MAX k caps grid spots) (name : List ℕ) (s : Spot)
    (there : fin.get spots name ≡ Some s) where
  size_small : s.size ≤ SIZE_MAX
  size_small = by_name (λ (r : Record). r.size ≤ SIZE_MAX) spots h.named
      (laid_below classes SIZE_MAX k caps grid spots h).sizes name s there

  module _ (some : 1 ≤ s.size) where
    abbrev class : ℕ
    class = class_of s.size

    -- it is of a class up to one that has a capacity
    class_there : class < classes_in caps
    class_there = elim (laid_stands classes SIZE_MAX k caps grid spots h name s there some) [
      | inl here ↦
          let p = lies_parts (start_of k caps class) (buffer_start k caps class) (record_of (name, s)) here in
          classes_in-above caps class (omega (arith, p.0, p.1, some))
      | inr beside ↦
          let j = beside.0 in
          let p = lies_parts (buffer_start k caps j) (buffer_start k caps j + taken_in grid j)
          (record_of (name, s)) beside.3 in
          let fits : taken_in grid j ≤ buffer_of k (slice_index caps j) =
          (laid_filled classes SIZE_MAX k caps grid spots h).rows j beside.2 in
          let full : 0 < slice_index caps j = elim (cases_lt 0 (slice_index caps j)) [
            | inl full ↦ full
            | inr none ↦
                let zero : slice_index caps j ≡ 0 = omega (arith, none) in
                absurd (omega (arith, p.0, p.1, some, fits, ap (buffer_of k) zero, zero-div k))
          ] in
          omega (arith, beside.1, classes_in-above caps j full)
    ]

    low_class : class + 1 < 32
    low_class = elim (cases_lt class 31) [
      | inl low ↦ omega (arith, low)
      | inr high ↦ absurd (omega (arith, size_small, class_low s.size some, power_rises 31 class high))
    ]

    narrow : s.size ≤ widest_of caps
    narrow = omega (
      arith,
      class_high s.size some low_class,
      power_rises (class + 1) (classes_in caps) (omega (arith, class_there)),
    )

  pub laid_narrow : s.size ≤ widest_of caps
  laid_narrow = elim (cases_lt 0 s.size) [
    | inl some ↦ narrow (omega (arith, some))
    | inr none ↦ omega (arith, none)
  ]
