-- How long a record is, and how many a slot has room for.
use Rattle.std.proofs.Common.{◌≡◌, ℕ, ◌*◌, ◌/◌, ◌≤◌, ◌==◌, true, false, inl, inr, sym, subst, arith}
use Rattle.std.proofs.lemmas.Bool.{cases_Bool, cond-true, cond-false}
use Rattle.slot_codec.specs.Spelling.{cap, has_digests, record_len, room_len}

pub record_len-long : (version : ℕ) → has_digests version ≡ true → record_len version ≡ 112
unfolding record_len
record_len-long version h = cond-true (has_digests version) 112 80 h

pub record_len-short : (version : ℕ) → has_digests version ≡ false → record_len version ≡ 80
unfolding record_len
record_len-short version h = cond-false (has_digests version) 112 80 h

pub record_len-low : (version : ℕ) → 80 ≤ record_len version
record_len-low version =
    elim (cases_Bool (has_digests version)) [
      | inl is ↦ omega (arith, record_len-long version is)
      | inr other ↦ omega (arith, record_len-short version other)
    ]

long_fit : (room count : ℕ) → count ≤ room / 112 → 112 * count ≤ room
long_fit room count few = omega (arith, few)

short_fit : (room count : ℕ) → count ≤ room / 80 → 80 * count ≤ room
short_fit room count few = omega (arith, few)

-- by the room and the length of a record alone
room_fits : (names version count : ℕ) → count ≤ room_len names / record_len version
    → record_len version * count ≤ room_len names
room_fits names version count few =
    elim (cases_Bool (has_digests version)) [
      | inl is ↦ subst (λ n. count ≤ room_len names / n → n * count ≤ room_len names)
          (sym (record_len-long version is)) (long_fit (room_len names) count) few
      | inr other ↦ subst (λ n. count ≤ room_len names / n → n * count ≤ room_len names)
          (sym (record_len-short version other)) (short_fit (room_len names) count) few
    ]

-- half as many records as names fit, however long each is
half_fits : (names version count : ℕ) → count ≤ names / 2 → record_len version * count ≤ room_len names
half_fits names version count few =
    elim (cases_Bool (has_digests version)) [
      | inl is ↦ subst (λ n. n * count ≤ room_len names) (sym (record_len-long version is)) (omega (arith, few))
      | inr other ↦ subst (λ n. n * count ≤ room_len names) (sym (record_len-short version other))
          (omega (arith, few))
    ]

-- as many records as a slot has room for lie within its bytes for records
pub records_fit : (names version count : ℕ) → count ≤ cap names version
    → record_len version * count ≤ room_len names
unfolding cap
records_fit names version count few =
    let room = room_len names / record_len version in
    elim (cases_Bool (version == 3)) [
      | inl three ↦ half_fits names version count
          (subst (λ n. count ≤ n) (cond-true (version == 3) (names / 2) room three) few)
      | inr other ↦ room_fits names version count
          (subst (λ n. count ≤ n) (cond-false (version == 3) (names / 2) room other) few)
    ]

pub cap-one : (names : ℕ) → cap names 1 ≡ names
unfolding cap record_len
cap-one names = omega arith

-- by the room alone
room_low : (names version : ℕ) → room_len names / record_len version ≤ names
room_low names version =
    elim (cases_Bool (has_digests version)) [
      | inl is ↦ subst (λ n. room_len names / n ≤ names) (sym (record_len-long version is)) (omega arith)
      | inr other ↦ subst (λ n. room_len names / n ≤ names) (sym (record_len-short version other))
          (omega arith)
    ]

-- there are never more than names
pub cap-low : (names version : ℕ) → cap names version ≤ names
unfolding cap
cap-low names version =
    let room = room_len names / record_len version in
    elim (cases_Bool (version == 3)) [
      | inl three ↦ subst (λ n. n ≤ names) (sym (cond-true (version == 3) (names / 2) room three)) (omega arith)
      | inr other ↦ subst (λ n. n ≤ names) (sym (cond-false (version == 3) (names / 2) room other))
          (room_low names version)
    ]
