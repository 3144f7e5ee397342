-- The place of a charge is free: it lies behind what its buffer has taken, so apart from each object that
-- stands by an earlier grid, and within the layout.
use Rattle.std.specs.Prelude.{◌≡◌, ℕ, ◌+◌, ◌≤◌, List, length, Some}
use Rattle.std.proofs.Common.{arith, ap, subst, inl, inr}
use Rattle.std.proofs.lemmas.Bool.{cases_lt}
use Rattle.std.specs.FinMap as fin
use Rattle.size_class.specs.Classes.{class_of, width}
use Rattle.size_class.proofs.ClassLaws.{class_below}
use Rattle.slot_codec.specs.declared.codec.Record.{Record}
use Rattle.segment_layout.specs.Shapes.{buffer_for, buffer_start, end_of, start_of, taken_in, with_entry}
use Rattle.segment_layout.proofs.ChargeLaws.{RoomIn, finds_room, room_of_buffer}
use Rattle.segment_layout.proofs.ShapeLaws.{start_of-rises}
use Rattle.extent_table.specs.declared.spot.Spot.{Spot}
use Rattle.extent_table.specs.Extents.{Spots, record_of}
use Rattle.placement_model.specs.LaidOut.{IsLaidOut}
use Rattle.placement_model.specs.Quiet.{PlacedTo, QuietTo}
use Rattle.placement_model.specs.Reads.{AllLieApart, LiesApart}
use Rattle.placement_model.specs.Rises.{CellsRise}
use Rattle.placement_model.proofs.EnterLaws.{by_name}
use Rattle.placement_model.proofs.LaidOutLaws.{laid_below, laid_filled, laid_stands}
use Rattle.placement_model.proofs.QuietLaws.{found_one, some_size-some}
use Rattle.placement_model.proofs.RiseLaws.{taken-rises}
use Rattle.placement_model.proofs.SegmentLaws.{lies_parts}

-- the buffer that a new object of at least 1 byte found
pub placed_found : (k : ℕ) (caps : List ℕ) (mid after : List (List ℕ)) (size place : ℕ) → 1 ≤ size
    → PlacedTo k caps mid size after place
    → (j : ℕ) × (buffer_for k caps mid (class_of size) size ≡ Some j)
    × (after ≡ with_entry mid j (class_of size) size)
placed_found k caps mid after size place some placed = found_one k caps mid after size
    (subst (λ xs. QuietTo k caps mid xs after) (some_size-some k caps size some) placed.charged)

module _ (classes size_max k : ℕ) (caps : List ℕ) (grid : List (List ℕ)) (spots : Spots)
    (h : IsLaidOut classes size_max k caps grid spots) (mid : List (List ℕ)) (rise : CellsRise grid mid)
    (size place j : ℕ) (room : RoomIn k caps mid (class_of size) size j)
    (behind : place ≡ buffer_start k caps j + taken_in mid j) where
  -- an object that stands in a segment
  apart_at : (name : List ℕ) (s : Spot) → fin.get spots name ≡ Some s → 1 ≤ s.size
      → LiesApart place size s
  apart_at name s there some =
      let c = class_of s.size in
      let r = record_of (name, s) in
      let full = h.caps_full.full in
      elim (laid_stands classes size_max k caps grid spots h name s there some) [
        | inl here ↦
            let p = lies_parts (start_of k caps c) (buffer_start k caps c) r here in
            elim (cases_lt c j) as (λ _. LiesApart place size s) [
              | inl less ↦ inl (omega (
                arith,
                start_of-rises k caps c j less (omega (arith, room.below_width, full)),
                p.1,
                behind,
              ))
              | inr rest ↦ elim (cases_lt j c) as (λ _. LiesApart place size s) [
                | inl less ↦ inr (omega (
                  arith,
                  start_of-rises k caps j c less (omega (arith, class_below s.size, full)),
                  p.0,
                  behind,
                  room.room,
                ))
                | inr back ↦
                    let e : c ≡ j = omega (arith, rest, back) in
                    inl (omega (arith, p.1, behind, ap (buffer_start k caps) e))
              ]
            ]
        | inr (i, low, wide, here) ↦
            let p = lies_parts (buffer_start k caps i) (buffer_start k caps i + taken_in grid i) r here in
            let fits = (laid_filled classes size_max k caps grid spots h).rows i wide in
            elim (cases_lt i j) as (λ _. LiesApart place size s) [
              | inl less ↦ inl (omega (
                arith,
                start_of-rises k caps i j less (omega (arith, room.below_width, full)),
                p.1,
                fits,
                behind,
              ))
              | inr rest ↦ elim (cases_lt j i) as (λ _. LiesApart place size s) [
                | inl less ↦ inr (omega (
                  arith,
                  start_of-rises k caps j i less (omega (arith, wide, full)),
                  p.0,
                  behind,
                  room.room,
                ))
                | inr back ↦
                    let e : i ≡ j = omega (arith, rest, back) in
                    inl (omega (
                      arith,
                      p.1,
                      behind,
                      taken-rises grid mid rise j,
                      ap (λ x. buffer_start k caps x + taken_in grid x) e,
                    ))
              ]
            ]
      ]

  pub all_apart : AllLieApart place size spots
  all_apart name s there = elim (cases_lt 0 s.size) as (λ _. LiesApart place size s) [
    | inl some ↦ apart_at name s there (omega (arith, some))
    | inr none ↦
        let at_zero = by_name (λ (r : Record). r.size ≡ 0 → r.place ≡ 0) spots h.named
        (laid_below classes size_max k caps grid spots h).empty name s there in
        inl (omega (arith, none, at_zero (omega (arith, none))))
  ]

-- The bytes of a new object are apart from each object of spots whose grid has no cell above that of the
-- charge: those that stand now, and those of the last checkpoint.
pub place_apart : (classes size_max k : ℕ) (caps : List ℕ) (grid : List (List ℕ)) (spots : Spots)
    → IsLaidOut classes size_max k caps grid spots → (mid after : List (List ℕ)) (size place : ℕ)
    → CellsRise grid mid → 1 ≤ size → PlacedTo k caps mid size after place → AllLieApart place size spots
place_apart classes size_max k caps grid spots h mid after size place rise some placed =
    let one = placed_found k caps mid after size place some placed in
    all_apart classes size_max k caps grid spots h mid rise size place one.0
    (room_of_buffer k caps mid (class_of size) size (class_below size) one.0 one.1)
    (placed.behind one.0 some one.1)

-- They end within the layout.
pub place_within : (k : ℕ) (caps : List ℕ) (mid after : List (List ℕ)) (size place : ℕ)
    → length caps ≡ width → 1 ≤ size → PlacedTo k caps mid size after place
    → place + size ≤ end_of k caps
place_within k caps mid after size place full some placed =
    let one = placed_found k caps mid after size place some placed in
    let found = finds_room k caps mid (class_of size) size (class_below size) one.0 one.1 full in
    omega (arith, found.within, placed.behind one.0 some one.1)
