-- What charging bytes to a buffer leaves of the rules of a table: all that it kept of the classes below b.
use Rattle.std.specs.Prelude.{◌≡◌, ◌≢◌, ◌⊎◌, ℕ, ◌+◌, ◌<◌, ◌≤◌, ◌==◌, nat_le, nat_lt, Bool, true, false, ◌&&◌, cond, length, slice_index, Some, refl}
use Rattle.std.proofs.Common.{arith, sym, ◌∙◌, ap, subst, inl, inr}
use Rattle.std.proofs.lemmas.Bool.{cases_lt, cases_Bool, and_parts, and_from, le-leb, leb-true, ltb-true, eqb-true}
use Rattle.size_class.specs.Classes.{width, class_of, row, cell}
use Rattle.size_class.proofs.ClassLaws.{class_below}
use Rattle.slot_codec.specs.declared.codec.Record.{Record}
use Rattle.segment_layout.specs.Shapes.{buffer_for, buffer_of, buffer_start, start_of, taken_in, with_entry}
use Rattle.segment_layout.proofs.ShapeLaws.{cell-with_entry_class, cell-with_entry_row, cell-with_entry_same, taken-with_entry_le, taken-with_entry_other, taken-with_entry_same, start_of-rises}
use Rattle.segment_layout.proofs.LayoutLaws.{taken_nothing}
use Rattle.segment_layout.proofs.ChargeLaws.{RoomIn, room_of_buffer}
use Rattle.segment_layout.proofs.BalanceLaws.{filled_by_charge}
use Rattle.segment_layout.specs.Balance.{IsFilled}
use Rattle.segment_layout.proofs.BookLaws.{sum_by-filter}
use Rattle.segment_layout.proofs.SumLaws.{sum_below_le, sum_by_same_places}
use Rattle.table_rules.specs.Tables.{TableInLayout, no_record, nth, end_of_record, is_of, lies_within, lies_in_buffer, live_in_buffer, dead_in_buffer}
use Rattle.table_rules.specs.Suffixes.{KeepsBelow, Stands}
use Rattle.placement_model.specs.Changes.{charged}

pub same_or_not : (i j : ℕ) → (i ≡ j) ⊎ (i ≢ j)
same_or_not i j = elim (cases_lt i j) [
  | inl low ↦ inr (λ e. absurd (omega (arith, e, low)))
  | inr high ↦ elim (cases_lt j i) [
    | inl low ↦ inr (λ e. absurd (omega (arith, e, low)))
    | inr same ↦ inl
        (omega (arith, high, same))
  ]
]

same_bool : (x y : Bool) → (x ≡ true → y ≡ true) → (y ≡ true → x ≡ true) → x ≡ y
same_bool true y f g = sym (f refl)
same_bool false true f g = g refl
same_bool false false f g = refl

pub within_parts : (low high : ℕ) (r : Record) → lies_within low high r ≡ true
    → (low ≤ r.place) × (end_of_record r ≤ high)
within_parts low high r is = let p = and_parts (nat_le low r.place) (nat_le (end_of_record r) high) is in
    (leb-true low r.place p.0, leb-true (end_of_record r) high p.1)

pub within_from : (low high : ℕ) (r : Record) → low ≤ r.place → end_of_record r ≤ high
    → lies_within low high r ≡ true
within_from low high r a b = and_from (nat_le low r.place) (nat_le (end_of_record r) high)
    (le-leb low r.place a) (le-leb (end_of_record r) high b)

module _ (b : ℕ) (t : TableInLayout) (filled : IsFilled t.k t.header.caps t.header.used) (size j : ℕ)
    (some : 1 ≤ size) (found : buffer_for t.k t.header.caps t.header.used (class_of size) size ≡ Some j) where
  pub room : RoomIn t.k t.header.caps t.header.used (class_of size) size j
  room = room_of_buffer t.k t.header.caps t.header.used (class_of size) size (class_below size) j found

  pub in_grid : j < length t.header.used
  in_grid = omega (arith, room.below_width, filled.grid_full.full)

  pub in_row : class_of size < length (row t.header.used j)
  in_row = omega (arith, class_below size, (filled.grid_full.rows j room.below_width).full)

  pub after : IsFilled t.k t.header.caps (with_entry t.header.used j (class_of size) size)
  after = filled_by_charge t.k t.header.caps t.header.used size j filled some found

  more_taken : (i : ℕ) → taken_in t.header.used i
      ≤ taken_in (with_entry t.header.used j (class_of size) size) i
  more_taken i = taken-with_entry_le t.header.used j (class_of size) size i in_grid in_row

  pub more_in_cell : (i c : ℕ) → cell t.header.used i c
      ≤ cell (with_entry t.header.used j (class_of size) size) i c
  more_in_cell i c = elim (same_or_not i j) [
    | inr other ↦ omega (arith, cell-with_entry_row t.header.used j (class_of size) size i c other)
    | inl same ↦ elim (same_or_not c (class_of size)) [
      | inr other ↦ omega (arith, cell-with_entry_class t.header.used j (class_of size) size i c other)
      | inl here ↦
          subst (λ x. cell t.header.used x c ≤ cell (with_entry t.header.used j (class_of size) size) x c)
          (sym same)
          (subst (λ x. cell t.header.used j x ≤ cell (with_entry t.header.used j (class_of size) size) j x)
          (sym here) (omega (
            arith,
            cell-with_entry_same t.header.used j (class_of size) size in_grid
                in_row,
          )))
    ]
  ]

  -- no record that stands has bytes in the charged range
  segment_apart : (c : ℕ) (low high place : ℕ) → c < width → start_of t.k t.header.caps c ≤ low
      → high ≤ start_of t.k t.header.caps c
      + (slice_index t.header.caps c + buffer_of t.k (slice_index t.header.caps c)) → low < high
      → buffer_start t.k t.header.caps j ≤ low
      → high ≤ buffer_start t.k t.header.caps j + (taken_in t.header.used j + size) → c ≡ j
  segment_apart c low high place wide from upto some_bytes in_buffer end =
      elim (cases_lt c j) [
        | inl less ↦ absurd (omega (
          arith,
          start_of-rises t.k t.header.caps c j less (omega (arith, room.below_width, filled.caps_full)),
          from,
          upto,
          some_bytes,
          in_buffer,
        ))
        | inr rest ↦ elim (cases_lt j c) [
          | inl less ↦ absurd (omega (
            arith,
            start_of-rises t.k t.header.caps j c less (omega (arith, wide, filled.caps_full)),
            from,
            some_bytes,
            end,
            room.room,
          ))
          | inr same ↦ omega (arith, rest, same)
        ]
      ]

  still_counted : (r : Record) → 0 < r.size → Stands t r → lies_in_buffer (charged t size j) j r ≡ true
      → lies_in_buffer t j r ≡ true
  still_counted r full stands there =
      let p = within_parts (buffer_start t.k t.header.caps j)
      (buffer_start t.k t.header.caps j + taken_in (with_entry t.header.used j (class_of size) size) j) r
      there in
      let new = taken-with_entry_same t.header.used j (class_of size) size in_grid in_row in
      elim stands [
        | inl here ↦
            let c = class_of r.size in
            let q = within_parts (start_of t.k t.header.caps c) (buffer_start t.k t.header.caps c) r here in
            let same = segment_apart c r.place (end_of_record r) r.place (class_below r.size) q.0
            (omega (arith, q.1)) (omega (arith, full)) p.0 (omega (arith, p.1, new)) in
            absurd (omega (arith, q.1, p.0, full, ap (buffer_start t.k t.header.caps) same))
        | inr other ↦
            let i = other.0 in
            let q = within_parts (buffer_start t.k t.header.caps i)
            (buffer_start t.k t.header.caps i + taken_in t.header.used i) r other.3 in
            let same = segment_apart i r.place (end_of_record r) r.place other.2 (omega (arith, q.0))
            (omega (arith, q.1, filled.rows i other.2)) (omega (arith, full)) p.0
            (omega (arith, p.1, new)) in
            subst (λ x. lies_in_buffer t x r ≡ true) same other.3
      ]

  pub wider : (i : ℕ) (r : Record) → lies_in_buffer t i r ≡ true
      → lies_in_buffer (charged t size j) i r ≡ true
  wider i r is =
      let q = within_parts (buffer_start t.k t.header.caps i)
      (buffer_start t.k t.header.caps i + taken_in t.header.used i) r is in
      within_from (buffer_start t.k t.header.caps i)
      (buffer_start t.k t.header.caps i + taken_in (with_entry t.header.used j (class_of size) size) i) r
      q.0 (omega (arith, q.1, more_taken i))

  same_place : (i : ℕ) (r : Record) → 0 < r.size → Stands t r
      → lies_in_buffer (charged t size j) i r ≡ lies_in_buffer t i r
  same_place i r full stands = elim (same_or_not i j) [
    | inr other ↦ ap (λ n. lies_within (buffer_start t.k t.header.caps i)
        (buffer_start t.k t.header.caps i + n) r)
        (taken-with_entry_other t.header.used j (class_of size) size i other)
    | inl same ↦ subst (λ x. lies_in_buffer (charged t size j) x r ≡ lies_in_buffer t x r) (sym same)
        (same_bool (lies_in_buffer (charged t size j) j r) (lies_in_buffer t j r)
        (still_counted r full stands) (wider j r))
  ]

  same_term : KeepsBelow b t → (i c n : ℕ) → c < b → n < length t.records
      → cond (is_of c (nth t n) && lies_in_buffer (charged t size j) i (nth t n)) (nth t n).size 0
      ≡ cond (is_of c (nth t n) && lies_in_buffer t i (nth t n)) (nth t n).size 0
  same_term keeps i c n low within =
      let r = nth t n in
      elim (cases_Bool (is_of c r)) [
        | inr other ↦ ap (λ k. cond (k && lies_in_buffer (charged t size j) i r) r.size 0) other
            ∙ sym (ap (λ k. cond (k && lies_in_buffer t i r) r.size 0) other)
        | inl is ↦
            let parts = and_parts (nat_lt 0 r.size) (class_of r.size == c) is in
            let full = ltb-true 0 r.size parts.0 in
            let of = eqb-true (class_of r.size) c parts.1 in
            ap (λ k. cond (is_of c r && k) r.size 0)
            (same_place i r full (keeps.stands n within full (omega (arith, of, low))))
      ]

  pub same_live : KeepsBelow b t → (i c : ℕ) → c < b
      → live_in_buffer (charged t size j) i c ≡ live_in_buffer t i c
  same_live keeps i c low =
      sum_by-filter (λ (r : Record). r.size) (λ r. is_of c r && lies_in_buffer (charged t size j) i r)
      t.records
      ∙ sum_by_same_places no_record (λ r. cond (is_of c r && lies_in_buffer (charged t size j) i r) r.size 0)
      (λ r. cond (is_of c r && lies_in_buffer t i r) r.size 0) t.records
      (λ n within. same_term keeps i c n low within)
      ∙ sym (sum_by-filter (λ (r : Record). r.size) (λ r. is_of c r && lies_in_buffer t i r) t.records)

  pub charged_below : KeepsBelow b t → KeepsBelow b (charged t size j)
  charged_below keeps = record {
    sizes = keeps.sizes;
    empty = keeps.empty;
    lower = after.lower;
    rows = λ i low. rows_below i;
    stands = λ n within full low. elim (keeps.stands n within full low) [
      | inl here ↦ inl here
      | inr there ↦ inr (there.0, there.1, there.2, wider there.0 (nth t n) there.3)
    ];
    apart = keeps.apart;
    balance = λ c low. record {
      buffers = λ i wide. omega (
        arith,
        (keeps.balance c low).buffers i wide,
        same_live keeps i c low,
        more_in_cell i c,
      );
      payload = omega (
        arith,
        (keeps.balance c low).payload,
        sum_below_le width (λ i. dead_in_buffer t i c) (λ i. dead_in_buffer (charged t size j) i c)
            (λ i wide. omega (arith, same_live keeps i c low, more_in_cell i c)),
      );
    };
    full = λ c low. record {
      entry = λ i wide. after.entry i c wide;
      full = λ i h wide taken. after.full i h c wide taken;
    };
  }
    where
      rows_below : (i : ℕ) → taken_in (with_entry t.header.used j (class_of size) size) i
          ≤ buffer_of t.k (slice_index t.header.caps i)
      rows_below i = elim (cases_lt i width) [
        | inl wide ↦ after.rows i wide
        | inr past ↦ omega (arith, none_taken i past)
      ]
        where
          none_taken : (n : ℕ) → width ≤ n → taken_in (with_entry t.header.used j (class_of size) size) n ≡ 0
          none_taken n past = taken_nothing (with_entry t.header.used j (class_of size) size) n
              (λ c. after.grid_full.zero_above n c past)
