-- Where an object goes, it ends within the layout.
use Rattle.std.specs.Prelude.{◌≡◌, ℕ, ◌+◌, ◌<◌, ◌≤◌, nat_lt, List, length, slice_index}
use Rattle.std.proofs.Common.{arith, ap, inl, inr}
use Rattle.std.proofs.lemmas.Bool.{cases_lt, cond-true, lt-ltb}
use Rattle.std.proofs.lemmas.List.{take_all}
use Rattle.size_class.specs.Classes.{class_of, width}
use Rattle.size_class.proofs.ClassLaws.{class_below}
use Rattle.segment_layout.specs.Shapes.{end_of, start_of}
use Rattle.segment_layout.proofs.ShapeLaws.{start_of-rises}
use Rattle.disk_face.specs.States.{State}
use Rattle.disk_face.specs.Writes.{WritesWithin}
use Rattle.disk_face.proofs.WriteLaws.{within-wider}
use Rattle.extent_table.specs.declared.spot.Spot.{Spot}
use Rattle.dump_stream.specs.Placing.{spot_at}
use Rattle.load_stream.specs.Steps.{HasRoom}

-- a segment lies within the layout
pub segment_ends : (k : ℕ) (volumes : List ℕ) → length volumes ≡ width → (c : ℕ) → c < width
    → start_of k volumes c + slice_index volumes c ≤ end_of k volumes
segment_ends k volumes wide c low = omega (
  arith,
  start_of-rises k volumes c width low (omega (arith, wide)),
  ap (end_of k) (take_all width volumes (omega (arith, wide))),
)

pub spot_none : (k : ℕ) (volumes filled : List ℕ) (size : ℕ) → size ≡ 0
    → (spot_at k volumes filled size).place ≡ 0
spot_none k volumes filled size none = ap (λ (n : ℕ). (spot_at k volumes filled n).place) none

pub spot_some : (k : ℕ) (volumes filled : List ℕ) (size : ℕ) → 0 < size
    → (spot_at k volumes filled size).place
    ≡ start_of k volumes (class_of size) + slice_index filled (class_of size)
spot_some k volumes filled size some =
    cond-true (nat_lt 0 size) (start_of k volumes (class_of size) + slice_index filled (class_of size)) 0
    (lt-ltb 0 size some)

pub spot_ends : (k : ℕ) (volumes filled : List ℕ) (size : ℕ) → length volumes ≡ width
    → HasRoom volumes filled size → (spot_at k volumes filled size).place + size ≤ end_of k volumes
spot_ends k volumes filled size wide room = elim (cases_lt 0 size) [
  | inr none ↦ omega (arith, none, spot_none k volumes filled size (omega (arith, none)))
  | inl some ↦ omega (
    arith,
    spot_some k volumes filled size some,
    room some,
    segment_ends k volumes wide (class_of size) (class_below size),
  )
]

-- the same within a file that the layout reaches to the end of
module _ (k base : ℕ) (volumes filled : List ℕ) (size : ℕ) (spot : Spot) (wide : length volumes ≡ width)
    (room : HasRoom volumes filled size) (is : spot ≡ spot_at k volumes filled size) where
  pub ends_in : spot.place + size ≤ end_of k volumes
  ends_in = omega (
    arith,
    spot_ends k volumes filled size wide room,
    ap (λ (s : Spot). s.place) is,
  )

  -- what is written there is written within the layout
  pub written_in : {a b : State} → WritesWithin (base + spot.place) size a b
      → WritesWithin base (end_of k volumes) a b
  written_in w = within-wider base (end_of k volumes) (omega arith) (omega (arith, ends_in)) w
