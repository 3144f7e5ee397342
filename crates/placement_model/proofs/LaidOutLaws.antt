-- What holds of spots that a layout holds, and which spots it holds: those whose table keeps, of the
-- classes in use, what a table keeps of the classes below a boundary.
use Rattle.std.specs.Prelude.{ℕ, ◌+◌, ◌^◌, ◌<◌, ◌≤◌, nat_lt, cond, List, length, take, slice_index, refl, ◌≡◌, Some, true, false}
use Rattle.std.proofs.Common.{arith, inl, inr, ◌∙◌, ap, sym}
use Rattle.std.proofs.lemmas.Bool.{cases_Bool, cases_lt, cond-false, cond-true, ltb-true}
use Rattle.std.specs.FinMap as fin
use Rattle.size_class.specs.Classes.{IsGrid, IsRow, cell, class_of, width}
use Rattle.size_class.proofs.ClassLaws.{class_below, class_low, power_rises}
use Rattle.segment_layout.specs.Shapes.{buffer_of, buffer_start, end_of, start_of, taken_in}
use Rattle.segment_layout.specs.Balance.{IsFilled}
use Rattle.segment_layout.proofs.LayoutLaws.{taken_nothing}
use Rattle.segment_layout.proofs.ShapeLaws.{end_of-split, start_of-le, start_of-rises}
use Rattle.table_rules.specs.Suffixes.{KeepsBelow, Stands}
use Rattle.table_rules.specs.Tables.{HasFullRows, TableInLayout, end_of_record, nth, lies_within, lies_in_payload}
use Rattle.table_rules.specs.Rules.{KeepsPlaces}
use Rattle.table_rules.proofs.SuffixLaws.{below_of_places}
use Rattle.table_rules.proofs.TableLaws.{zero_cell}
use Rattle.extent_table.specs.declared.spot.Spot.{Spot}
use Rattle.extent_table.specs.Extents.{Spots, records_of, record_of}
use Rattle.placement_model.specs.Changes.{AllStand}
use Rattle.placement_model.specs.Laid.{settled_table}
use Rattle.placement_model.specs.LaidOut.{IsLaidOut}
use Rattle.slot_codec.specs.declared.codec.Record.{Record}
use Rattle.placement_model.specs.Quiet.{InPayload, is_in_payload}
use Rattle.placement_model.specs.Reads.{AreNamed, EndWithin}
use Rattle.placement_model.proofs.EnterLaws.{by_name}
use Rattle.placement_model.proofs.QuietLaws.{IsGrid-wider, in_payload_from, in_payload_is}
use Rattle.placement_model.proofs.SegmentLaws.{lies_parts}
use Rattle.placement_model.proofs.WholeLaws.{places_from_below}

module _ (classes size_max k : ℕ) (caps : List ℕ) (grid : List (List ℕ)) (spots : Spots) where
  abbrev table : TableInLayout
  table = settled_table classes size_max k caps grid spots

  module _ (h : IsLaidOut classes size_max k caps grid spots) where
    pub full_rows : HasFullRows table
    full_rows = record {
      caps_full = h.caps_full.full;
      grid_full = IsGrid-wider classes grid h.few h.grid_full;
      classes = h.few;
    }

    pub laid_places : KeepsPlaces table
    laid_places = h.valid.0.places

    pub laid_below : KeepsBelow classes table
    laid_below = below_of_places classes table full_rows laid_places h.few (omega arith)

    -- the numbers of the layout fit each other
    pub laid_filled : IsFilled k caps grid
    laid_filled =
        record {
          caps_full = h.caps_full.full;
          grid_full = IsGrid-wider classes grid h.few h.grid_full;
          rows = λ j wide. elim (cases_lt j classes) [
            | inl low ↦ laid_places.rows j low
            | inr high ↦ omega (arith, taken_nothing grid j (λ c. h.grid_full.zero_above j c high))
          ];
          lower = λ j c above. zero_cell table full_rows laid_places j c (inr above);
          entry = λ j c wide taken. (laid_places.full c (in_use j c taken)).entry j wide taken;
          full = λ j i c wide taken from upto. (laid_places.full c (in_use j c taken)).full j i wide taken
              from upto;
        }
      where
        in_use : (j c : ℕ) → 0 < cell grid j c → c < classes
        in_use j c taken = elim (cases_lt j classes) [
          | inr high ↦ absurd (omega (arith, taken, h.grid_full.zero_above j c high))
          | inl low ↦ elim (cases_lt c classes) [
            | inl within ↦ within
            | inr past ↦ absurd (omega (
              arith,
              taken,
              (h.grid_full.rows j (omega (arith, low, h.few))).zero_above c past,
            ))
          ]
        ]

  -- a size that is allowed is of a class in use
  pub class_in_use : size_max < 2 ^ classes → (size : ℕ) → 1 ≤ size → size ≤ size_max
      → class_of size < classes
  class_in_use top size some small = elim (cases_lt (class_of size) classes) [
    | inl low ↦ low
    | inr high ↦ absurd (omega (
      arith,
      class_low size some,
      power_rises classes (class_of size) high,
      small,
      top,
    ))
  ]

  -- each object stands in a segment of a class in use
  pub laid_stand : IsLaidOut classes size_max k caps grid spots → AllStand table
  laid_stand h i within some =
      let keeps = laid_below h in
      keeps.stands i within some
      (class_in_use h.top (nth table i).size (omega (arith, some)) (keeps.sizes i within))

  module _ (few : classes ≤ width) (top : size_max < 2 ^ classes) (row : IsRow classes caps)
      (full : IsGrid classes grid) (named : AreNamed spots) (keeps : KeepsBelow classes table) where
    places : KeepsPlaces table
    places = places_from_below table keeps (λ c high. row.zero_above c high)
        (λ j c high. full.zero_above j c high)

    -- each object ends where the layout does, or before
    ends : (i : ℕ) → i < length (records_of spots) → end_of_record (nth table i) ≤ end_of k caps
    ends i within =
        let r = nth table i in
        elim (cases_lt 0 r.size) [
          | inr none ↦ omega (arith, none, keeps.empty i within (omega (arith, none)))
          | inl some ↦ elim (keeps.stands i within some
              (class_in_use top r.size (omega (arith, some)) (keeps.sizes i within))) [
                | inl here ↦
                    let c = class_of r.size in
                    omega (
                      arith,
                      (lies_parts (start_of k caps c) (buffer_start k caps c) r here).1,
                      start_of-le k caps c (omega (arith, class_below r.size, row.full)),
                    )
                | inr there ↦
                    let j = there.0 in
                    omega (
                      arith,
                      (lies_parts (buffer_start k caps j) (buffer_start k caps j + taken_in grid j) r
                          there.3).1,
                      rows_fit j,
                      start_of-le k caps j (omega (arith, there.2, row.full)),
                    )
              ]
        ]
      where
        rows_fit : (j : ℕ) → taken_in grid j ≤ buffer_of k (slice_index caps j)
        rows_fit j = elim (cases_lt j classes) [
          | inl low ↦ keeps.rows j low
          | inr high ↦ omega (arith, taken_nothing grid j (λ c. full.zero_above j c high))
        ]

    within_end : (i : ℕ) → i ≤ length (records_of spots)
        → cond (nat_lt i (length (records_of spots))) (end_of_record (nth table i))
        (end_of k (take classes caps)) ≤ end_of k caps
    within_end i low =
        elim (cases_Bool (nat_lt i (length (records_of spots)))) [
          | inl inside ↦ omega (
            arith,
            cond-true (nat_lt i (length (records_of spots))) (end_of_record (nth table i))
                (end_of k (take classes caps)) inside,
            ends i (ltb-true i (length (records_of spots)) inside),
          )
          | inr last ↦ omega (
            arith,
            cond-false (nat_lt i (length (records_of spots))) (end_of_record (nth table i))
                (end_of k (take classes caps)) last,
            end_of-split k caps classes,
          )
        ]

    -- A layout holds the spots whose table keeps what it must of the classes in use.
    pub laid_from_below : IsLaidOut classes size_max k caps grid spots
    laid_from_below = record {
      few = few;
      top = top;
      caps_full = row;
      grid_full = full;
      named = named;
      valid = (
        record { places = places; within = within_end; front = (refl, refl, refl) },
        tt,
      );
    }

-- ---- the payload segment of an object, by its place

-- what lies in its payload segment begins there
pub place_of_lying : (k : ℕ) (caps name : List ℕ) (s : Spot) → 0 < s.size
    → lies_within (start_of k caps (class_of s.size)) (buffer_start k caps (class_of s.size))
    (record_of (name, s)) ≡ true → is_in_payload k caps s ≡ true
place_of_lying k caps name s some here =
    let p = lies_parts (start_of k caps (class_of s.size)) (buffer_start k caps (class_of s.size))
    (record_of (name, s)) here in
    in_payload_is k caps s (p.0, omega (arith, p.1, some))

module _ (classes size_max k : ℕ) (caps : List ℕ) (grid : List (List ℕ)) (spots : Spots)
    (h : IsLaidOut classes size_max k caps grid spots) (name : List ℕ) (s : Spot)
    (there : fin.get spots name ≡ Some s) (some : 1 ≤ s.size) where
  -- an object stands in its payload segment, or in the taken bytes of a buffer
  pub laid_stands : Stands (settled_table classes size_max k caps grid spots) (record_of (name, s))
  laid_stands = by_name (λ (r : Record). 0 < r.size
      → Stands (settled_table classes size_max k caps grid spots) r) spots h.named
      (laid_stand classes size_max k caps grid spots h) name s there (omega (arith, some))

  -- what begins in its payload segment lies there
  pub lying_of_place : InPayload k caps s
      → lies_in_payload (settled_table classes size_max k caps grid spots) (class_of s.size)
      (record_of (name, s)) ≡ true
  lying_of_place here =
      let c = class_of s.size in
      elim laid_stands [
        | inl lies ↦ lies
        | inr buffered ↦
            let j = buffered.0 in
            let p = lies_parts (buffer_start k caps j) (buffer_start k caps j + taken_in grid j)
            (record_of (name, s)) buffered.3 in
            elim (cases_lt c j) [
              | inl less ↦ absurd (omega (
                arith,
                start_of-rises k caps c j less (omega (arith, buffered.2, h.caps_full.full)),
                p.0,
                here.1,
              ))
              | inr rest ↦
                  let e : c ≡ j = omega (arith, rest, buffered.1) in
                  absurd (omega (arith, p.0, here.1, ap (buffer_start k caps) e))
            ]
      ]

  pub lies_is_place : lies_in_payload (settled_table classes size_max k caps grid spots) (class_of s.size)
      (record_of (name, s)) ≡ is_in_payload k caps s
  lies_is_place = elim (cases_Bool (is_in_payload k caps s)) [
    | inl here ↦ lying_of_place (in_payload_from k caps s here) ∙ sym here
    | inr off ↦ elim (cases_Bool (lies_in_payload (settled_table classes size_max k caps grid spots)
        (class_of s.size) (record_of (name, s)))) [
          | inr also ↦ also ∙ sym off
          | inl lies ↦ absurd (let bad : false ≡ true = sym off
              ∙ place_of_lying k caps name s (omega (arith, some)) lies in cc)
        ]
  ]

-- each object ends where the layout does, or before
pub laid_ends : (classes size_max k : ℕ) (caps : List ℕ) (grid : List (List ℕ)) (spots : Spots)
    → IsLaidOut classes size_max k caps grid spots → (name : List ℕ) (s : Spot)
    → fin.get spots name ≡ Some s → s.place + s.size ≤ end_of k caps
laid_ends classes size_max k caps grid spots h =
    by_name (λ (r : Record). end_of_record r ≤ end_of k caps) spots
    h.named
    (ends classes size_max k caps grid spots h.few h.top h.caps_full h.grid_full h.named
    (laid_below classes size_max k caps grid spots h))

-- and within the file, where that is as long as the layout
pub laid_within : (classes size_max k : ℕ) (caps : List ℕ) (grid : List (List ℕ)) (spots : Spots)
    → IsLaidOut classes size_max k caps grid spots → (base : ℕ) (file : List ℕ)
    → base + end_of k caps ≤ length file → EndWithin base file spots
laid_within classes size_max k caps grid spots h base file long name s there =
    omega (arith, laid_ends classes size_max k caps grid spots h name s there, long)
