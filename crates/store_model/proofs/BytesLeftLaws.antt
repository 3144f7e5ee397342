-- How many bytes a flush in hand may still move: by the ledger's row, and by the sizes of what stands.
use Rattle.std.specs.Prelude.{◌≡◌, ◌≢◌, ℕ, ◌+◌, ◌-◌, ◌*◌, ◌^◌, ◌<◌, ◌≤◌, min, List, [], ◌∷◌, length, replicate, slice_index, sum_by}
use Rattle.std.proofs.Common.{arith, ap, sym, ◌∙◌}
use Rattle.std.proofs.Math.Nat.{mul-le-mul_right, suc-mul}
use Rattle.std.proofs.lemmas.List.{get_or-set_other, get_or-set_same, length-replicate}
use Rattle.std.proofs.lemmas.List.Sums.{sum_by-cons}
use Rattle.size_class.specs.Classes.{class_of, width}
use Rattle.size_class.proofs.ClassLaws.{class_below}
use Rattle.size_class.specs.declared.TheConstants.{SIZE_MAX}
use Rattle.slot_codec.specs.declared.codec.Record.{Record}
use Rattle.map_model.specs.Maps.{Map, volume}
use Rattle.segment_layout.specs.Books.{volumes}
use Rattle.segment_layout.proofs.SumLaws.{sum_below_le, sum_below_one, sum_below_times, sum_below_zero, sum_by_le_places}
use Rattle.segment_layout.proofs.TightLaws.{volume_by_class}
use Rattle.table_rules.specs.Tables.{no_record}
use Rattle.extent_table.specs.Extents.{Spots, records_of, volume_of}
use Rattle.extent_table.proofs.ExtentLaws.{records_of-few}
use Rattle.placement_model.specs.Reads.{AreNamed, read_at}
use Rattle.placement_model.proofs.SpotSumLaws.{records_sum, volume_of-weights}
use Rattle.flush_run.specs.Calls.{IsOpenRow, row_rise}
use Rattle.flush_run.specs.Hands.{AllEndBy}
use Rattle.flush_run.specs.Parts.{SameSizes}
use Rattle.store_model.specs.Sized.{IsSizedBy}
use Rattle.store_model.proofs.SizedLaws.{sized_read, sized_volume}
use Rattle.store_model.specs.Facts.{risen_by}
use Rattle.store_model.specs.Inside.{Inside, IsGoing}
use Rattle.store_model.specs.declared.hand.Began.{Began}
use Rattle.flush_run.specs.declared.phase.Phase.{Phase}
use Rattle.store_model.specs.Quiet.{added}

-- ---- what a row rose by

pub risen_none : (then now : List ℕ) → now ≡ then → risen_by then now ≡ 0
risen_none then now same = sum_below_zero width (row_rise then now)
    (λ c low. omega (arith, ap (λ (xs : List ℕ). slice_index xs c) same))

-- it rises by the size of an object that was added
module _ (then old new : List ℕ) (size : ℕ) (long : class_of size < length old) (row : new ≡ added old size)
  where
    abbrev d : ℕ
    d = class_of size

    here : slice_index new d ≡ min (slice_index old d + size) (2 ^ 64 - 1)
    here = ap (λ (xs : List ℕ). slice_index xs d) row
        ∙ get_or-set_same old d (min (slice_index old d + size) (2 ^ 64 - 1)) 0 long

    elsewhere : (c : ℕ) → c ≢ d → slice_index new c ≡ slice_index old c
    elsewhere c other = ap (λ (xs : List ℕ). slice_index xs c) row
        ∙ get_or-set_other old d c (min (slice_index old d + size) (2 ^ 64 - 1)) 0 other

    pub risen_more : IsOpenRow new → slice_index then d ≤ slice_index old d
        → risen_by then new ≡ risen_by then old + size
    risen_more free later =
        let top = free d in
        omega (
          arith,
          sum_below_one width d (row_rise then new) (row_rise then old) (class_below size)
              (λ c other. ap (λ n. n - slice_index then c) (elsewhere c other)),
          here,
          top,
          later,
        )

-- where it rose by at most twice the bytes of each class, it rose by at most twice the bytes of all
pub risen_few : (then now : List ℕ) (m : Map)
    → ((c : ℕ) → slice_index now c ≤ slice_index then c + 2 * slice_index (volumes m) c)
    → risen_by then now ≤ 2 * volume m
risen_few then now m each = omega (
  arith,
  sum_below_le width (row_rise then now) (λ c. 2 * slice_index (volumes m) c)
      (λ c low. omega (arith, each c)),
  sum_below_times 2 width (λ c. slice_index (volumes m) c),
  volume_by_class m,
)

-- ---- the bytes of what stands

-- spots have a map whose objects have their sizes
pub sized_any : (spots : Spots) (end : ℕ) → AreNamed spots → AllEndBy spots end
    → (m : Map) × IsSizedBy m spots
sized_any spots end named low = (
  read_at 0 (replicate end 0) spots,
  sized_read 0 (replicate end 0) spots named
      (λ name s there. omega (arith, low name s there, length-replicate {A = ℕ} end 0)),
)

-- One move leaves the bytes of what stands, and makes those that may still be moved fewer by the object's.
pub left_fewer : (then old new : List ℕ) (size : ℕ) (before after : Spots) (m : Map)
    → risen_by then new ≡ risen_by then old + size → IsSizedBy m before → SameSizes before after
    → ((c : ℕ) → slice_index new c ≤ slice_index then c + 2 * slice_index (volumes m) c)
    → 2 * volume_of before - risen_by then old ≡ 2 * volume_of after - risen_by then new + size
left_fewer then old new size before after m more sized same each = omega (
  arith,
  more,
  risen_few then new m each,
  sized_volume m before sized,
  sized_volume m after (λ q. sized q ∙ sym (same q)),
)

all_at_most : (most : ℕ) (rs : List Record) → sum_by (λ (r : Record). most) rs ≡ length rs * most
all_at_most most [] = omega arith
all_at_most most (r ∷ rs) = omega (
  arith,
  sum_by-cons (λ (x : Record). most) r rs,
  all_at_most most rs,
  suc-mul (length rs) most,
)

-- while a flush is in hand, what stands has few bytes
pub going_small : {C : ℕ} (began : Began C) (s : Inside C) (v : Phase C) → IsGoing began s v
    → volume_of s.hands.table.now ≤ 65536 * SIZE_MAX
going_small began s v g =
    let h = g.goes.goes.hands in
    let spots = s.hands.table.now in
    let rs = records_of spots in
    let count : length rs ≤ 65536 = omega (arith, records_of-few spots, h.table.now_room, h.table.limit) in
    omega (
      arith,
      volume_of-weights spots,
      records_sum (λ (r : Record). r.size) spots h.table.now_named,
      sum_by_le_places no_record (λ (r : Record). r.size) (λ r. SIZE_MAX) rs h.rules.sizes,
      all_at_most SIZE_MAX rs,
      mul-le-mul_right SIZE_MAX count,
    )
