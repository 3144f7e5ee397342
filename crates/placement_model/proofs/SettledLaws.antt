-- A table that is laid out anew: where each object of the suffix stands in its new payload segment, a moving
-- table is the settled one.
use Rattle.std.specs.Prelude.{◌≡◌, ◌⊎◌, ℕ, ◌+◌, ◌-◌, ◌<◌, ◌≤◌, ◌^◌, ◌==◌, nat_lt, Bool, List, true, ◌&&◌, cond, length, take, drop, filter, sum_by, slice_index, IsTrue, refl}
use Rattle.std.proofs.Common.{arith, sym, ◌∙◌, ap, inl, inr}
use Rattle.std.proofs.lemmas.Bool.{cases_lt, cases_Bool, cond-false, and_parts, and_from, eqb-true, lt-ltb, ltb-true}
use Rattle.std.proofs.lemmas.List.{length-take-le, take-append-le, take-take}
use Rattle.size_class.specs.Classes.{width, IsRow, class_of, cell, zero_row}
use Rattle.size_class.proofs.ClassLaws.{class_below, class_low, length-zero_row, power_rises}
use Rattle.slot_codec.specs.declared.codec.Record.{Record}
use Rattle.map_model.proofs.MapLaws.{sum_by-map}
use Rattle.segment_layout.specs.Shapes.{buffer_of, buffer_start, end_of, settled_caps, start_of, taken_in}
use Rattle.segment_layout.proofs.ShapeLaws.{IsGrid-settled, caps-settled_above, caps-settled_below, cell-settled_above, length-settled_caps, start_of-rises}
use Rattle.segment_layout.proofs.LayoutLaws.{taken_nothing}
use Rattle.segment_layout.specs.Books.{volumes_of_sizes}
use Rattle.segment_layout.proofs.BalanceLaws.{bytes_in}
use Rattle.segment_layout.proofs.BookLaws.{length-volumes_of_sizes, sum_by-filter, sum_by_none, volumes_of_sizes-index}
use Rattle.segment_layout.proofs.SumLaws.{sum_below_agree, sum_by_same_places}
use Rattle.table_rules.specs.Suffixes.{suffix_at}
use Rattle.table_rules.specs.Tables.{HasFullRows, TableInLayout, StandsInBuffer, dead_in_buffer, is_lower, is_of, lies_in_buffer, lies_in_payload, lies_within, live_in_buffer, live_in_payload, no_record, nth, sizes}
use Rattle.table_rules.specs.Rules.{KeepsPlaces}
use Rattle.table_rules.proofs.TableLaws.{zero_cell}
use Rattle.placement_model.specs.Laid.{new_caps, settled_at, AreLaid}
use Rattle.placement_model.proofs.SegmentLaws.{lies_parts}

module _ (b : ℕ) (t : TableInLayout) (h : HasFullRows t) (fits : b ≤ t.classes)
    (top : t.size_max < 2 ^ t.classes) (keeps : KeepsPlaces (suffix_at b t)) where
  abbrev volumes : List ℕ
  volumes = volumes_of_sizes (sizes t.records)

  abbrev old : TableInLayout
  old = suffix_at b t

  abbrev new : TableInLayout
  new = settled_at b t

  pub within_width : b ≤ width
  within_width = omega (arith, fits, h.classes)

  tables : HasFullRows old
  tables = record {
    caps_full = length-settled_caps b t.header.caps zero_row h.caps_full length-zero_row
        within_width;
    grid_full = IsGrid-settled width b t.header.used h.grid_full within_width;
    classes = h.classes;
  }

  pub full : length (new_caps b t) ≡ width
  full = length-settled_caps b t.header.caps volumes h.caps_full (length-volumes_of_sizes (sizes t.records))
      within_width

  -- each object is of a class in use
  pub of_class : (i : ℕ) → i < length t.records → 0 < (nth t i).size → class_of (nth t i).size < t.classes
  of_class i within some =
      let r = nth t i in
      elim (cases_lt (class_of r.size) t.classes) [
        | inl low ↦ low
        | inr high ↦ absurd (omega (
          arith,
          class_low r.size (omega (arith, some)),
          power_rises t.classes (class_of r.size) high,
          keeps.sizes i within,
          top,
        ))
      ]

  -- below b nothing changes
  same_cap : (c : ℕ) → c < b → slice_index (new_caps b t) c ≡ slice_index old.header.caps c
  same_cap c low = caps-settled_below b c t.header.caps volumes h.caps_full within_width low
      ∙ sym (caps-settled_below b c t.header.caps zero_row h.caps_full within_width low)

  front : (c : ℕ) (rest : List ℕ) → c ≤ b → take c (settled_caps b t.header.caps rest) ≡ take c t.header.caps
  front c rest low = take-append-le c (take b t.header.caps) (drop b rest)
      (omega (arith, length-take-le b t.header.caps (omega (arith, h.caps_full, within_width))))
      ∙ take-take c b t.header.caps low

  same_start : (c : ℕ) → c ≤ b → start_of t.k (new_caps b t) c ≡ start_of t.k old.header.caps c
  same_start c low = ap (end_of t.k) (front c volumes low ∙ sym (front c zero_row low))

  same_buffer_start : (c : ℕ) → c < b → buffer_start t.k (new_caps b t) c ≡ buffer_start t.k old.header.caps c
  same_buffer_start c low = λ i. same_start c (omega arith) i + same_cap c low i

  pub same_in_payload : (c : ℕ) (r : Record) → c < b → lies_in_payload new c r ≡ lies_in_payload old c r
  same_in_payload c r low = λ i. lies_within (same_start c (omega arith) i) (same_buffer_start c low i) r

  same_in_buffer : (j : ℕ) (r : Record) → j < b → lies_in_buffer new j r ≡ lies_in_buffer old j r
  same_in_buffer j r low = λ i. lies_within (same_buffer_start j low i)
      (same_buffer_start j low i + taken_in old.header.used j) r

  -- from b on no buffer has taken anything
  none_taken : (j : ℕ) → b ≤ j → taken_in old.header.used j ≡ 0
  none_taken j high = taken_nothing old.header.used j
      (λ c. cell-settled_above b j c t.header.used h.grid_full.full within_width high)

  none_lies : (low : ℕ) (j : ℕ) (r : Record) → b ≤ j → 0 < r.size
      → IsTrue (lies_within low (low + taken_in old.header.used j) r) → ⊥
  none_lies low j r high some here = let q = lies_parts low (low + taken_in old.header.used j) r here in
      omega (arith, q.0, q.1, some, none_taken j high)

  -- a sum of what lies somewhere, where nothing does
  none_live : (p : Record → Bool) (c : ℕ)
      → ((i : ℕ) → i < length t.records → 0 < (nth t i).size → class_of (nth t i).size ≡ c
      → IsTrue (p (nth t i)) → ⊥) → sum_by (λ (r : Record). r.size) (filter (λ r. is_of c r && p r) t.records)
      ≡ 0
  none_live p c none =
      let f = λ (r : Record). cond (is_of c r && p r) r.size 0 in
      let each : (i : ℕ) → i < length t.records → f (nth t i) ≡ 0 = λ i within.
      let r = nth t i in
      elim (cases_Bool (is_of c r && p r)) [
        | inr other ↦ cond-false (is_of c r && p r) r.size 0 other
        | inl both ↦
            let parts = and_parts (is_of c r) (p r) both in
            let q = and_parts (nat_lt 0 r.size) (class_of r.size == c) parts.0 in
            absurd (none i within (ltb-true 0 r.size q.0) (eqb-true (class_of r.size) c q.1) parts.1)
      ] in
      sum_by-filter (λ (r : Record). r.size) (λ r. is_of c r && p r) t.records
      ∙ sum_by_same_places no_record f (λ r. 0) t.records each ∙ zeros t.records
    where
      zeros : (rs : List Record) → sum_by (λ (r : Record). 0) rs ≡ 0
      zeros rs = sum_by_none (λ (r : Record). 0) rs (λ r. refl)

  same_live : (j c : ℕ) → live_in_buffer new j c ≡ live_in_buffer old j c
  same_live j c = elim (cases_lt j b) [
    | inl low ↦ λ i. sum_by (λ (r : Record). r.size)
        (filter (λ r. is_of c r && same_in_buffer j r low i) t.records)
    | inr high ↦
        none_live (lies_in_buffer new j) c
        (λ i within some of here. none_lies (buffer_start t.k (new_caps b t) j) j (nth t i) high some
        here)
        ∙ sym (none_live (lies_in_buffer old j) c
        (λ i within some of here. none_lies (buffer_start t.k old.header.caps j) j (nth t i) high some
        here))
  ]

  same_dead : (j c : ℕ) → dead_in_buffer new j c ≡ dead_in_buffer old j c
  same_dead j c = ap (λ n. cell old.header.used j c - n) (same_live j c)

  -- each buffer has room for what it has taken
  pub rows_fit : (j : ℕ) → taken_in old.header.used j ≤ buffer_of t.k (slice_index (new_caps b t) j)
  rows_fit j = elim (cases_lt j b) [
    | inl low ↦ omega (arith, keeps.rows j low, ap (buffer_of t.k) (same_cap j low))
    | inr high ↦ omega (arith, none_taken j high)
  ]

  -- no cell lies below the diagonal, or in a row from b on
  no_cell : (j c : ℕ) → (b ≤ j) ⊎ (j < c) → cell old.header.used j c ≡ 0
  no_cell j c out = zero_cell old tables keeps j c out

  module _ (laid : AreLaid b t) where
    -- an object of a class from b on lies in no buffer
    none_buffered : (j c : ℕ) → b ≤ c → live_in_buffer new j c ≡ 0
    none_buffered j c above = none_live (lies_in_buffer new j) c
        (λ i within some of here. not_there i within some of here)
      where
        not_there : (i : ℕ) → i < length t.records → 0 < (nth t i).size → class_of (nth t i).size ≡ c
            → IsTrue (lies_in_buffer new j (nth t i)) → ⊥
        not_there i within some of here =
            let r = nth t i in
            elim (cases_lt j b) [
              | inr high ↦ none_lies (buffer_start t.k (new_caps b t) j) j r high some here
              | inl low ↦
                  let d = class_of r.size in
                  let p = lies_parts (start_of t.k (new_caps b t) d) (buffer_start t.k (new_caps b t) d) r
                  (laid i within some (omega (arith, of, above))) in
                  let q = lies_parts (buffer_start t.k (new_caps b t) j)
                  (buffer_start t.k (new_caps b t) j + taken_in old.header.used j) r here in
                  omega (
                    arith,
                    p.0,
                    q.1,
                    some,
                    rows_fit j,
                    start_of-rises t.k (new_caps b t) j d (omega (arith, low, of, above))
                        (omega (arith, class_below r.size, full)),
                  )
            ]

    -- all objects of such a class lie in its payload segment
    all_settled : (c : ℕ) → b ≤ c → slice_index (new_caps b t) c ≡ live_in_payload new c
    all_settled c above =
        caps-settled_above b c t.header.caps volumes h.caps_full within_width above
        ∙ volumes_of_sizes-index (sizes t.records) c
        ∙ sum_by-map (λ size. bytes_in c size) (λ (r : Record). r.size) t.records
        ∙ sum_by_same_places no_record (λ r. bytes_in c r.size)
        (λ r. cond (is_of c r && lies_in_payload new c r) r.size 0) t.records each
        ∙ sym (sum_by-filter (λ (r : Record). r.size) (λ r. is_of c r && lies_in_payload new c r) t.records)
      where
        each : (i : ℕ) → i < length t.records
            → cond (is_of c (nth t i)) (nth t i).size 0
            ≡ cond (is_of c (nth t i) && lies_in_payload new c (nth t i)) (nth t i).size 0
        each i within =
            let r = nth t i in
            elim (cases_Bool (is_of c r)) [
              | inr other ↦ ap (λ k. cond k r.size 0) other
                  ∙ sym (ap (λ k. cond (k && lies_in_payload new c r) r.size 0) other)
              | inl is ↦
                  let q = and_parts (nat_lt 0 r.size) (class_of r.size == c) is in
                  let of : class_of r.size ≡ c = eqb-true (class_of r.size) c q.1 in
                  let here : lies_in_payload new c r ≡ true = ap (λ x. lies_in_payload new x r) (sym of)
                  ∙ laid i within (ltb-true 0 r.size q.0) (omega (arith, of, above)) in
                  ap (λ k. cond k r.size 0) is ∙ sym
                  (ap (λ k. cond k r.size 0) (and_from (is_of c r) (lies_in_payload new c r) is here))
            ]

    pub stands_new : (i : ℕ) → i < length t.records → IsTrue (is_lower new (nth t i))
        → IsTrue (lies_in_payload new (class_of (nth t i).size) (nth t i)) ⊎ StandsInBuffer new (nth t i)
    stands_new i within lower =
        let r = nth t i in
        let parts = and_parts (nat_lt 0 r.size) (nat_lt (class_of r.size) t.classes) lower in
        elim (cases_lt (class_of r.size) b) [
          | inr high ↦ inl (laid i within (ltb-true 0 r.size parts.0) high)
          | inl low ↦
              let was : IsTrue (is_lower old r) =
              and_from (nat_lt 0 r.size) (nat_lt (class_of r.size) b) parts.0
              (lt-ltb (class_of r.size) b low) in
              elim (keeps.stands i within was) [
                | inl here ↦ inl (same_in_payload (class_of r.size) r low ∙ here)
                | inr there ↦ inr (
                  there.0,
                  there.1,
                  omega (arith, there.2, fits),
                  same_in_buffer there.0 r there.2 ∙ there.3,
                )
              ]
        ]

    -- no volume of a class that isn't in use
    none_above : (c : ℕ) → t.classes ≤ c → slice_index (new_caps b t) c ≡ 0
    none_above c above =
        all_settled c (omega (arith, fits, above))
        ∙ none_live (lies_in_payload new c) c
        (λ i within some of here. omega (arith, of_class i within some, of, above))

    -- its capacities are a row of the classes in use
    pub settled_row : IsRow t.classes (new_caps b t)
    settled_row = record { full = full; zero_above = λ c high. none_above c high }

    pub settled_places : KeepsPlaces new
    settled_places = record {
      sizes = keeps.sizes;
      empty = keeps.empty;
      above = λ c wide. (
        λ high. none_above c high,
        λ d in_width out. elim out [
          | inl high ↦ no_cell c d (inl (omega (arith, high, fits)))
          | inr more ↦ no_cell c d (inr more)
        ],
      );
      rows = λ j low. rows_fit j;
      stands = λ i within lower. stands_new i within lower;
      apart = keeps.apart;
      balance = λ c low. elim (cases_lt c b) [
        | inl below ↦ record {
          buffers = λ j wide. omega (arith, same_live j c, (keeps.balance c below).buffers j wide);
          payload = omega (
            arith,
            (keeps.balance c below).payload,
            same_cap c below,
            payload_same c below,
            sum_below_agree width (λ j. dead_in_buffer new j c) (λ j. dead_in_buffer old j c)
                (λ j wide. same_dead j c),
          );
        }
        | inr above ↦ record {
          buffers = λ j wide. omega (arith, none_buffered j c above);
          payload = omega (arith, all_settled c above);
        }
      ];
      full = λ c low. elim (cases_lt c b) [
        | inl below ↦ record {
          entry = (keeps.full c below).entry;
          full = λ j i wide taken from upto. elim (cases_lt j b) [
            | inl in_front ↦ omega (
              arith,
              (keeps.full c below).full j i wide taken from upto,
              ap (buffer_of t.k) (same_cap i (omega (arith, upto, in_front))),
            )
            | inr high ↦ absurd (omega (arith, taken, no_cell j c (inl high)))
          ];
        }
        | inr above ↦ record {
          entry = λ j wide taken. absurd (omega (arith, taken, out j c above));
          full = λ j i wide taken from upto. absurd (omega (arith, taken, out j c above));
        }
      ];
    }
      where
        payload_same : (c : ℕ) → c < b → live_in_payload new c ≡ live_in_payload old c
        payload_same c low = λ i. sum_by (λ (r : Record). r.size)
            (filter (λ r. is_of c r && same_in_payload c r low i) t.records)

        out : (j c : ℕ) → b ≤ c → cell old.header.used j c ≡ 0
        out j c above = elim (cases_lt j b) [
          | inl low ↦ no_cell j c (inr (omega (arith, low, above)))
          | inr
              high ↦ no_cell j c (inl high)
        ]
