-- Live bytes of one record more.
use Rattle.std.specs.Prelude.{◌≡◌, ℕ, zero, suc, ◌+◌, ◌-◌, ◌*◌, ◌^◌, ◌<◌, ◌≤◌, ◌==◌, ◌&&◌, nat_le, nat_lt, Bool, true, false, cond, List, [], length, filter, take, slice_index, slice_index_or, replicate, refl}
use Rattle.std.proofs.Common.{arith, ap, set, sym, ◌∙◌, inl, inr}
use Rattle.std.proofs.lemmas.Bool.{and_from, cases_Bool, cases_lt, eqb-false, eqb-true, lt-leb, lt-ltb}
use Rattle.std.proofs.lemmas.Grind.{get_or-set_at}
use Rattle.std.proofs.lemmas.List.{get_or-replicate, get_or-set_other, length-set}
use Rattle.byte_ranges.specs.Lists.{below, sum_below}
use Rattle.byte_ranges.proofs.ListLaws.{zeros_at}
use Rattle.size_class.specs.Classes.{class_of, width, cell}
use Rattle.slot_codec.specs.declared.codec.Record.{Record}
use Rattle.segment_layout.specs.Shapes.{buffer_start, taken_in}
use Rattle.table_rules.specs.Tables.{TableInLayout, is_of, lies_in_buffer, lies_in_payload, no_record, size_sum}
use Rattle.table_rules.proofs.TableLaws.{size_sum_more}
use Rattle.placement_model.proofs.SegmentLaws.{buffer_start-rises}
use Rattle.extent_table.specs.declared.spot.Spot.{Spot}
use Rattle.table_check.specs.declared.frame.Frame.{Frame}
use Rattle.table_check.specs.Live.{IsFull, IsLive, at_spot, in_buffer, in_payload}
use Rattle.table_check.specs.Placed.{framed}

-- ---- a sum over the first records, and its bound

pub sum_below_none : (f : ℕ → ℕ) → sum_below 0 f ≡ 0
unfolding sum_below below
sum_below_none f = refl

-- sums of small sizes: of at most 65,536 records each sum of sizes is below 2^64
pub size_sum-small : (p : Record → Bool) (rs : List Record) (i : ℕ) → i ≤ length rs
    → ((k : ℕ) → k < length rs → (slice_index_or rs k no_record).size < 2 ^ 48)
    → size_sum (filter p (take i rs)) ≤ i * (2 ^ 48 - 1)
size_sum-small p rs zero h small = omega arith
size_sum-small p rs (suc i) h small =
    let next : suc i ≡ i + 1 = omega arith in
    let r = slice_index_or rs i no_record in
    omega (
      arith,
      ap (λ n. size_sum (filter p (take n rs))) next,
      size_sum_more p rs i (omega arith),
      size_sum-small p rs i (omega arith) small,
      at_most (p r) r.size,
      small i (omega arith),
    )
  where
    at_most : (b : Bool) (x : ℕ) → cond b x 0 ≤ x
    at_most true x = omega arith
    at_most false x = omega arith

-- ---- a record's bytes in its class

of_empty : (r : Record) (c : ℕ) (b : Bool) → r.size ≡ 0 → cond (is_of c r && b) r.size 0 ≡ 0
of_empty r c b none = either (is_of c r && b) r.size none
  where
    either : (a : Bool) (x : ℕ) → x ≡ 0 → cond a x 0 ≡ 0
    either true x e = e
    either false x e = refl

-- the bytes of a record are counted in the buffers before j
pub record BuffersSoFar (t : TableInLayout) (r : Record) (j : ℕ) (old new : List (List ℕ)) : Type 0 where
  pub full : IsFull new
  pub done : (i c : ℕ) → i < j → i < width → c < width
      → cell new i c ≡ cell old i c + cond (in_buffer t i c r) r.size 0
  pub rest : (i c : ℕ) → j ≤ i → cell new i c ≡ cell old i c

-- an object that begins before a buffer lies in none from that one on, so all buffers are done
module _ (f : Frame) (s : Spot) (j : ℕ) (before : s.place < buffer_start f.k f.header.caps j) where
  not_from : (i c : ℕ) → j ≤ i → i < width → in_buffer (framed f []) i c (at_spot s) ≡ false
  not_from i c above wide =
      let start = buffer_start f.k f.header.caps i in
      let past : nat_le start s.place ≡ false = lt-leb start s.place (omega (
        arith,
        before,
        buffer_start-rises f.k f.header.caps j i above (omega (arith, wide, f.shape.caps_full)),
      )) in
      ap (λ b. is_of c (at_spot s) && (b && nat_le (s.place + s.size) (start + taken_in f.header.used i)))
      past ∙ with_false (is_of c (at_spot s))
    where
      with_false : (b : Bool) → (b && false) ≡ false
      with_false true = refl
      with_false false = refl

  pub all_done : (old new : List (List ℕ)) → BuffersSoFar (framed f []) (at_spot s) j old new
      → (i c : ℕ) → i < width → c < width
      → cell new i c ≡ cell old i c + cond (in_buffer (framed f []) i c (at_spot s)) s.size 0
  all_done old new so_far i c wide high = elim (cases_lt i j) [
    | inl less ↦ so_far.done i c less wide high
    | inr above ↦ omega (
      arith,
      so_far.rest i c above,
      ap (λ b. cond b s.size 0) (not_from i c above wide),
    )
  ]

-- ---- all records

pub live_none : (t : TableInLayout) → IsLive t [] (replicate 32 0) (replicate 32 (replicate 32 0))
live_none t = record {
  long = refl;
  full = (
    refl,
    λ j wide. ap (λ (xs : List ℕ). length xs)
        (get_or-replicate {A = List ℕ} 32 j (replicate 32 0) [] wide),
  );
  settled = λ c wide. zeros_at 32 c;
  buffered = λ j c wide high. ap (λ xs. slice_index xs c)
      (get_or-replicate {A = List ℕ} 32 j (replicate 32 0) [] wide) ∙ zeros_at 32 c;
}

module _ (t : TableInLayout) (rs : List Record) (n : ℕ) (low : n < length rs) (payload : List ℕ)
    (buffers : List (List ℕ)) (live : IsLive t (take n rs) payload buffers) where
  pub payload_small : (few : length rs ≤ 65536)
      → ((k : ℕ) → k < length rs → (slice_index_or rs k no_record).size < 2 ^ 48)
      → (c : ℕ) → c < width → slice_index payload c ≤ 65535 * (2 ^ 48 - 1)
  payload_small few small c wide =
      omega (arith, live.settled c wide, size_sum-small (in_payload t c) rs n (omega arith) small)

  pub buffers_small : (few : length rs ≤ 65536)
      → ((k : ℕ) → k < length rs → (slice_index_or rs k no_record).size < 2 ^ 48)
      → (j c : ℕ) → j < width → c < width → cell buffers j c ≤ 65535 * (2 ^ 48 - 1)
  buffers_small few small j c wide high =
      omega (arith, live.buffered j c wide high, size_sum-small (in_buffer t j c) rs n (omega arith) small)

  pub live_more : (more : List ℕ) (after : List (List ℕ)) → length more ≡ width → IsFull after
      → ((c : ℕ) → c < width → slice_index more c ≡ slice_index payload c
      + cond (in_payload t c (slice_index_or rs n no_record)) (slice_index_or rs n no_record).size 0)
      → ((j c : ℕ) → j < width → c < width → cell after j c ≡ cell buffers j c
      + cond (in_buffer t j c (slice_index_or rs n no_record)) (slice_index_or rs n no_record).size 0)
      → IsLive t (take (n + 1) rs) more after
  live_more more after long full in_row in_rows = record {
    long = long;
    full = full;
    settled = λ c wide. omega (
      arith,
      in_row c wide,
      live.settled c wide,
      size_sum_more (in_payload t c) rs n low,
    );
    buffered = λ j c wide high. omega (
      arith,
      in_rows j c wide high,
      live.buffered j c wide high,
      size_sum_more (in_buffer t j c) rs n low,
    );
  }

  pub live_empty : (slice_index_or rs n no_record).size ≡ 0 → IsLive t (take (n + 1) rs) payload buffers
  live_empty none =
      let r = slice_index_or rs n no_record in
      live_more payload buffers live.long live.full
      (λ c wide. omega (arith, of_empty r c (lies_in_payload t c r) none))
      (λ j c wide high. omega (arith, of_empty r c (lies_in_buffer t j r) none))

-- what a spot adds is what its record does
module _ (f : Frame) (rs : List Record) (s : Spot) (r : Record) (place : s.place ≡ r.place)
    (size : s.size ≡ r.size) where
  pub same_payload : (c : ℕ) → cond (in_payload (framed f []) c (at_spot s)) s.size 0
      ≡ cond (in_payload (framed f rs) c r) r.size 0
  same_payload c = λ i. cond (in_payload (framed f []) c
      (at_spot (record { place = place i; size = size i }))) (size i) 0

  pub same_buffer : (j c : ℕ) → cond (in_buffer (framed f []) j c (at_spot s)) s.size 0
      ≡ cond (in_buffer (framed f rs) j c r) r.size 0
  same_buffer j c = λ i. cond (in_buffer (framed f []) j c
      (at_spot (record { place = place i; size = size i }))) (size i) 0

-- ---- the bytes of each class

-- the volumes of these records
pub record VolumesSoFar (rs : List Record) (volumes : List ℕ) : Type 0 where
  pub long : length volumes ≡ width
  pub each : (c : ℕ) → c < width → slice_index volumes c ≡ size_sum (filter (λ r. is_of c r) rs)

pub volumes_none : VolumesSoFar [] (replicate 32 0)
volumes_none = record { long = refl; each = λ c wide. zeros_at 32 c }

module _ (rs : List Record) (n : ℕ) (low : n < length rs) (volumes : List ℕ)
    (so_far : VolumesSoFar (take n rs) volumes) where
  pub volumes_small : length rs ≤ 65536
      → ((k : ℕ) → k < length rs → (slice_index_or rs k no_record).size < 2 ^ 48)
      → (c : ℕ) → c < width → slice_index volumes c ≤ 65535 * (2 ^ 48 - 1)
  volumes_small few small c wide =
      omega (arith, so_far.each c wide, size_sum-small (λ r. is_of c r) rs n (omega arith) small)

  volumes_more : (more : List ℕ) → length more ≡ width
      → ((c : ℕ) → c < width → slice_index more c ≡ slice_index volumes c
      + cond (is_of c (slice_index_or rs n no_record)) (slice_index_or rs n no_record).size 0)
      → VolumesSoFar (take (n + 1) rs) more
  volumes_more more long each = record {
    long = long;
    each = λ c wide. omega (
      arith,
      each c wide,
      so_far.each c wide,
      size_sum_more (λ r. is_of c r) rs n low,
    );
  }

  -- a record of no bytes adds none
  pub volumes_same : (slice_index_or rs n no_record).size ≡ 0 → VolumesSoFar (take (n + 1) rs) volumes
  volumes_same none =
      let r = slice_index_or rs n no_record in
      volumes_more volumes so_far.long (λ c wide. omega (arith, none_of (is_of c r) r.size none))
    where
      none_of : (b : Bool) (size : ℕ) → size ≡ 0 → cond b size 0 ≡ 0
      none_of true size is = is
      none_of false size is = refl

  -- one with bytes adds its own to those of its class
  pub volumes_added : (d size : ℕ) → d ≡ class_of (slice_index_or rs n no_record).size
      → size ≡ (slice_index_or rs n no_record).size → 0 < size → d < width
      → VolumesSoFar (take (n + 1) rs) (set volumes d (slice_index volumes d + size))
  volumes_added d size class same some wide =
      let r = slice_index_or rs n no_record in
      let has : nat_lt 0 r.size ≡ true = lt-ltb 0 r.size (omega (arith, some, same)) in
      let sum = slice_index volumes d + size in
      volumes_more (set volumes d sum) (length-set volumes d sum ∙ so_far.long)
      (λ c low_c. elim (cases_Bool (class_of r.size == c)) [
        | inl is ↦
            let e : c ≡ d = sym (class ∙ eqb-true (class_of r.size) c is) in
            let of_class : is_of c r ≡ true = and_from (nat_lt 0 r.size) (class_of r.size == c) has is in
            let read : slice_index (set volumes d sum) c ≡ sum =
            get_or-set_at volumes d c sum 0 e (omega (arith, wide, so_far.long)) in
            let same_place : slice_index volumes d
            ≡ slice_index volumes c = ap (slice_index volumes) (sym e) in
            omega (arith, read, same_place, same, ap (λ b. cond b r.size 0) of_class)
        | inr other ↦
            let apart : c ≡ d → ⊥ = λ e. eqb-false (class_of r.size) c other (sym (e ∙ class)) in
            let of_other : is_of c r ≡ false = ap (λ b. nat_lt 0 r.size && b) other
            ∙ with_false (nat_lt 0 r.size)
            in
            omega (
              arith,
              get_or-set_other volumes d c sum 0 apart,
              ap (λ b. cond b r.size 0) of_other,
            )
      ])
    where
      with_false : (b : Bool) → (b && false) ≡ false
      with_false true = refl
      with_false false = refl
