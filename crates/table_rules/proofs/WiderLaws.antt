-- A table that is valid among some classes is valid among more, and its book is the same.
use Rattle.std.specs.Prelude.{◌≡◌, ◌⊎◌, ℕ, suc, ◌^◌, ◌<◌, ◌≤◌, ◌==◌, nat_lt, Bool, not, ◌&&◌, cond, if◌then◌else◌, List, [], ◌∷◌, length, filter, map, slice_index, slice_index_or, None, refl}
use Rattle.std.proofs.Common.{arith, sym, ◌∙◌, ap, subst, inl, inr}
use Rattle.std.proofs.lemmas.Bool.{cases_lt, cases_Bool, cond-false, and_parts, and_from, lt-ltb, le-ltb, ltb-true, eqb-true}
use Rattle.std.proofs.lemmas.List.{ext_get_or, get_or_past}
use Rattle.std.specs.FinSet as set
use Rattle.size_class.specs.Classes.{width, class_of, cell, row}
use Rattle.size_class.specs.declared.TheConstants.{CLASSES, SIZE_MAX}
use Rattle.size_class.proofs.ClassLaws.{class_low, power_rises}
use Rattle.slot_codec.specs.Choice as choice
use Rattle.slot_codec.specs.declared.codec.Kind.{Kind}
use Rattle.slot_codec.specs.declared.codec.Kind.TheVariants.{Settled, Moving}
use Rattle.slot_codec.specs.declared.codec.Record.{Record}
use Rattle.map_model.specs.Maps.{Map}
use Rattle.map_model.proofs.MapLaws.{sum_by-map}
use Rattle.segment_layout.specs.Shapes.{settled_caps, settled_grid}
use Rattle.segment_layout.specs.Books.{Book, volumes_of_sizes, with_digests}
use Rattle.table_rules.specs.Tables.{TableInLayout, boundary_of_kind, table_boundary, nth, no_record, sizes, is_of, is_lower, lies_in_payload, lies_in_buffer, live_in_buffer, end_of_record, last_end, book_of, HasFullRows, is_buffered}
use Rattle.table_rules.specs.Opening.{HasNoneFrom, Opens, OpensAsBefore, OpensBy, placed_table}
use Rattle.segment_layout.proofs.SumLaws.{sum_by_same_places}
use Rattle.segment_layout.proofs.ShapeLaws.{end_of-rest, length-settled_caps, caps-settled_below, caps-settled_above, cell-settled_below, cell-settled_above, length-settled_grid, row-settled_below, row-settled_above}
use Rattle.segment_layout.proofs.SettleLaws.{row_is_zero}
use Rattle.segment_layout.proofs.LayoutLaws.{taken_nothing}
use Rattle.segment_layout.proofs.BalanceLaws.{bytes_in}
use Rattle.segment_layout.proofs.BookLaws.{sum_by-filter, sum_by_none, volumes_of_sizes-index, length-volumes_of_sizes}
use Rattle.table_rules.proofs.FileLaws.{file_header}
use Rattle.table_rules.proofs.TableLaws.{zero_cell}
use Rattle.table_rules.specs.Rules.{AtRecords, IsValid, KeepsPlaces, CanResume, IsMore, SizeFits, KindFits}

-- the same table among n classes, with objects of at most s bytes
abbrev pub among : ℕ → ℕ → TableInLayout → TableInLayout
among n s t = record t { classes = n; size_max = s }

-- no object has a class from low on and below high
abbrev NoneBetween : ℕ → ℕ → TableInLayout → Type 0
NoneBetween low high t = (i : ℕ) → i < length t.records → 0 < (nth t i).size → low ≤ class_of (nth t i).size
    → class_of (nth t i).size < high → ⊥

filter_same_places : {X : Type 0} (d : X) (p q : X → Bool) (xs : List X)
    → ((i : ℕ) → i < length xs → p (slice_index_or xs i d) ≡ q (slice_index_or xs i d))
    → filter p xs ≡ filter q xs
filter_same_places d p q [] each = refl
filter_same_places d p q (x ∷ xs) each =
    let rest = filter_same_places d p q xs (λ i h. each (suc i) (omega arith)) in
    λ i. cond (each 0 (omega arith) i) (x ∷ rest i) (rest i)

-- objects of a class that none has are of no bytes together
no_bytes : (t : TableInLayout) (c : ℕ)
    → ((i : ℕ) → i < length t.records → 0 < (nth t i).size → class_of (nth t i).size ≡ c → ⊥)
    → slice_index (volumes_of_sizes (sizes t.records)) c ≡ 0
no_bytes t c none =
    volumes_of_sizes-index (sizes t.records) c
    ∙ sum_by-map (λ size. bytes_in c size) (λ (r : Record). r.size) t.records
    ∙ sum_by_same_places no_record (λ r. bytes_in c r.size) (λ r. 0) t.records (λ i within.
    elim (cases_Bool (is_of c (nth t i))) [
      | inr other ↦ cond-false (is_of c (nth t i)) (nth t i).size 0 other
      | inl is ↦
          let parts = and_parts (nat_lt 0 (nth t i).size) (class_of (nth t i).size == c) is in
          absurd (none i within (ltb-true 0 (nth t i).size parts.0)
          (eqb-true (class_of (nth t i).size) c parts.1))
    ])
    ∙ sum_by_none (λ (r : Record). 0) t.records (λ r. refl)

module _ (n s : ℕ) (t : TableInLayout) (h : HasFullRows t) (p : KeepsPlaces t) (more : t.size_max ≤ s)
    (first : table_boundary t ≤ table_boundary (among n s t)) (fits : table_boundary (among n s t) ≤ width)
    (none : NoneBetween (table_boundary t) (table_boundary (among n s t)) t) where
  no_cap : (c : ℕ) → table_boundary t ≤ c → c < width → slice_index t.header.caps c ≡ 0
  no_cap c high wide = (p.above c wide).0 high

  no_entry : (j c : ℕ) → table_boundary t ≤ c → cell t.header.used j c ≡ 0
  no_entry j c high = elim (cases_lt j c) [
    | inl less ↦ zero_cell t h p j c (inr less)
    | inr above ↦ zero_cell
        t h p j c (inl (omega arith))
  ]

  no_live : (j c : ℕ) → table_boundary t ≤ c → c < table_boundary (among n s t) → live_in_buffer t j c ≡ 0
  no_live j c high low =
      sum_by-filter (λ (r : Record). r.size) (λ r. is_of c r && lies_in_buffer t j r) t.records
      ∙ sum_by_same_places no_record (λ r. cond (is_of c r && lies_in_buffer t j r) r.size 0) (λ r. 0)
      t.records (λ i within.
      elim (cases_Bool (is_of c (nth t i) && lies_in_buffer t j (nth t i))) [
        | inr other ↦ cond-false (is_of c (nth t i) && lies_in_buffer t j (nth t i)) (nth t i).size 0 other
        | inl both ↦
            let parts = and_parts (nat_lt 0 (nth t i).size) (class_of (nth t i).size == c)
            (and_parts (is_of c (nth t i)) (lies_in_buffer t j (nth t i)) both).0 in
            let class = eqb-true (class_of (nth t i).size) c parts.1 in
            absurd (none i within (ltb-true 0 (nth t i).size parts.0) (omega arith) (omega arith))
      ])
      ∙ sum_by_none (λ (r : Record). 0) t.records (λ r. refl)

  pub wider_places : KeepsPlaces (among n s t)
  wider_places =
      record {
        sizes = λ i within. let e = p.sizes i within in omega (arith, e);
        empty = p.empty;
        above = λ c wide. (
          λ high. no_cap c (omega arith) wide,
          λ d low out. elim out [
            | inl high ↦ (p.above c wide).1 d low (inl (omega arith))
            | inr above ↦
                (p.above c wide).1 d low (inr above)
          ],
        );
        rows = λ j low. elim (cases_lt j (table_boundary t)) [
          | inl less ↦ p.rows j less
          | inr above ↦ omega (arith, taken_nothing t.header.used j (λ c. zero_cell t h p j c (inl above)))
        ];
        stands = λ i within lower.
            let r = nth t i in
            let parts = and_parts (nat_lt 0 r.size) (nat_lt (class_of r.size) (table_boundary (among n s t)))
            lower in
            let some = ltb-true 0 r.size parts.0 in
            let low = ltb-true (class_of r.size) (table_boundary (among n s t)) parts.1 in
            elim (cases_lt (class_of r.size) (table_boundary t)) [
              | inr above ↦ absurd (none i within some above low)
              | inl less ↦ elim (p.stands i within
                  (and_from (nat_lt 0 r.size) (nat_lt (class_of r.size) (table_boundary t)) parts.0
                  (lt-ltb (class_of r.size) (table_boundary t) less))) [
                    | inl here ↦ inl here
                    | inr there ↦ inr (there.0, there.1, omega (arith, there.2), there.3)
                  ]
            ];
        apart = p.apart;
        balance = λ c low. elim (cases_lt c (table_boundary t)) [
          | inl less ↦ record { buffers = (p.balance c less).buffers; payload = (p.balance c less).payload }
          | inr above ↦ record {
            buffers = λ j wide. omega (arith, no_live j c above low);
            payload = omega (arith, no_cap c above (omega arith));
          }
        ];
        full = λ c low. elim (cases_lt c (table_boundary t)) [
          | inl less ↦ record { entry = (p.full c less).entry; full = (p.full c less).full }
          | inr above ↦ record {
            entry = λ j wide taken. absurd (omega (arith, no_entry j c above));
            full = λ j i wide taken from upto. absurd (omega (arith, no_entry j c above));
          }
        ];
      }

  no_volume : (c : ℕ) → table_boundary t ≤ c → c < table_boundary (among n s t)
      → slice_index (volumes_of_sizes (sizes t.records)) c ≡ 0
  no_volume c high low = no_bytes t c (λ i within some class. none i within some (omega arith) (omega arith))

  same_caps : settled_caps (table_boundary (among n s t)) t.header.caps (volumes_of_sizes (sizes t.records))
      ≡ settled_caps (table_boundary t) t.header.caps (volumes_of_sizes (sizes t.records))
  same_caps =
      let high = table_boundary (among n s t) in
      let volumes = volumes_of_sizes (sizes t.records) in
      let long = length-volumes_of_sizes (sizes t.records) in
      let one = length-settled_caps high t.header.caps volumes h.caps_full long fits in
      let two = length-settled_caps (table_boundary t) t.header.caps volumes h.caps_full long (omega arith) in
      ext_get_or 0 (settled_caps high t.header.caps volumes)
      (settled_caps (table_boundary t) t.header.caps volumes) (one ∙ sym two) (λ c h2.
      elim (cases_lt c (table_boundary t)) [
        | inl low ↦ caps-settled_below high c t.header.caps volumes h.caps_full fits (omega arith)
            ∙ sym (caps-settled_below (table_boundary t) c t.header.caps volumes h.caps_full (omega arith)
            low)
        | inr above ↦ elim (cases_lt c high) [
          | inl between ↦ caps-settled_below high c t.header.caps volumes h.caps_full fits between
              ∙ no_cap c above (omega arith) ∙ sym (no_volume c above between)
              ∙ sym (caps-settled_above (table_boundary t) c t.header.caps volumes h.caps_full (omega arith)
              above)
          | inr past ↦ caps-settled_above high c t.header.caps volumes h.caps_full fits past
              ∙ sym (caps-settled_above (table_boundary t) c t.header.caps volumes h.caps_full (omega arith)
              above)
        ]
      ])

  same_grid : settled_grid (table_boundary (among n s t)) t.header.used
      ≡ settled_grid (table_boundary t) t.header.used
  same_grid =
      let high = table_boundary (among n s t) in
      let wide = h.grid_full.full in
      ext_get_or [] (settled_grid high t.header.used) (settled_grid (table_boundary t) t.header.used)
      (length-settled_grid high t.header.used wide fits
      ∙ sym (length-settled_grid (table_boundary t) t.header.used wide (omega arith))) (λ j h2.
      let within : j < width = omega (arith, length-settled_grid high t.header.used wide fits) in
      elim (cases_lt j (table_boundary t)) [
        | inl low ↦ row-settled_below high j t.header.used wide fits (omega arith)
            ∙ sym (row-settled_below (table_boundary t) j t.header.used wide (omega arith) low)
        | inr above ↦ elim (cases_lt j high) [
          | inl between ↦ row-settled_below high j t.header.used wide fits between
              ∙ row_is_zero (row t.header.used j) (h.grid_full.rows j within).full
              (λ c. zero_cell t h p j c (inl above))
              ∙ sym (row-settled_above (table_boundary t) j t.header.used wide above within)
          | inr past ↦ row-settled_above high j t.header.used wide past within
              ∙ sym (row-settled_above (table_boundary t) j t.header.used wide above within)
        ]
      ])

  same_lower : (i : ℕ) → i < length t.records → is_lower (among n s t) (nth t i) ≡ is_lower t (nth t i)
  same_lower i within =
      let r = nth t i in
      elim (cases_Bool (nat_lt 0 r.size)) [
        | inr empty ↦ ap (λ b. b && nat_lt (class_of r.size) (table_boundary (among n s t))) empty
            ∙ sym (ap (λ b. b && nat_lt (class_of r.size) (table_boundary t)) empty)
        | inl some ↦ ap (λ b. nat_lt 0 r.size && b) (elim (cases_lt (class_of r.size) (table_boundary t)) [
          | inl low ↦ lt-ltb (class_of r.size) (table_boundary (among n s t)) (omega arith)
              ∙ sym (lt-ltb (class_of r.size) (table_boundary t) low)
          | inr above ↦ elim (cases_lt (class_of r.size) (table_boundary (among n s t))) [
            | inl between ↦ absurd (none i within (ltb-true 0 r.size some) above between)
            | inr past ↦ le-ltb (class_of r.size) (table_boundary (among n s t)) past
                ∙ sym (le-ltb (class_of r.size) (table_boundary t) above)
          ]
        ])
      ]

  pub wider_book : book_of (among n s t) ≡ book_of t
  wider_book =
      let names = filter_same_places no_record (is_buffered (among n s t)) (is_buffered t) t.records
      (λ i within. ap (λ b. b && not (lies_in_payload t (class_of (nth t i).size) (nth t i)))
      (same_lower i within)) in
      λ i. record {
        caps = same_caps i;
        grid = same_grid i;
        buffered = set.from_list (map (λ r. r.name) (names i));
        digests = None;
      }

  same_last_end : (kind : Kind) → boundary_of_kind t.classes kind t.header.boundary ≡ table_boundary t
      → t.classes ≤ n → last_end (among n s t) kind ≡ last_end t kind
  same_last_end Moving is few = refl
  same_last_end Settled is few =
      let none_from : (c : ℕ) → t.classes ≤ c
      → slice_index t.header.caps c ≡ 0 = λ c high. elim (cases_lt c width) [
        | inl wide ↦ no_cap c (omega arith) wide
        | inr past ↦ get_or_past t.header.caps c 0 (omega (arith, h.caps_full))
      ] in
      end_of-rest t.k t.header.caps n (λ c high. none_from c (omega arith))
      ∙ sym (end_of-rest t.k t.header.caps t.classes none_from)

-- ---- the two kinds of tables

module _ (n s : ℕ) (t : TableInLayout) (few : t.classes ≤ n) where
  wider_bound : (kind : Kind) → boundary_of_kind t.classes kind t.header.boundary
      ≤ boundary_of_kind n kind t.header.boundary
  wider_bound Settled = few
  wider_bound Moving = omega arith

  wider_fits : (kind : Kind) → n ≤ width → KindFits t kind → boundary_of_kind n kind t.header.boundary ≤ width
  wider_fits Settled wide rule = wide
  wider_fits Moving wide rule = omega (arith, rule)

  wider_none : (kind : Kind) → t.size_max < 2 ^ t.classes → AtRecords t (SizeFits t)
      → NoneBetween (boundary_of_kind t.classes kind t.header.boundary)
      (boundary_of_kind n kind t.header.boundary) t
  wider_none Settled small sizes i within some low high =
      omega (
        arith,
        sizes i within,
        small,
        class_low (nth t i).size some,
        power_rises t.classes (class_of (nth t i).size) low,
      )
  wider_none Moving small sizes i within some low high = omega arith

  wider_front : (kind : Kind) → KindFits t kind → KindFits (among n s t) kind
  wider_front Settled rule = rule
  wider_front Moving rule = omega (arith, rule)

-- a table with a kind
abbrev fixed : Kind → TableInLayout → TableInLayout
fixed kind t = record t { header = record t.header { kind = kind } }

wider_resume : (n s : ℕ) (t : TableInLayout) → CanResume (fixed Moving t)
    → CanResume (among n s (fixed Moving t))
wider_resume n s t r =
    record {
      room = record { wall = r.room.wall; slack = r.room.slack };
      places = λ i h. record {
        side = (r.places i h).side;
        order = (r.places i h).order;
        gap = (r.places i h).gap;
      };
    }

wider_more : (n s : ℕ) (kind : Kind) (t : TableInLayout) → IsMore (fixed kind t) kind
    → IsMore (among n s (fixed kind t)) kind
wider_more n s Settled t m = tt
wider_more n s Moving t m = wider_resume n s t m

pub wider_valid : (n s : ℕ) (t : TableInLayout) → HasFullRows t → t.classes ≤ n → n ≤ width
    → t.size_max < 2 ^ t.classes → t.size_max ≤ s → IsValid t
    → IsValid (among n s t) × (book_of (among n s t) ≡ book_of t)
wider_valid n s t h few wide small more v =
    let kind = t.header.kind in
    let p = v.0.places in
    let first : table_boundary t ≤ table_boundary (among n s t) = wider_bound n s t few kind in
    let fits : table_boundary (among n s t) ≤ width = wider_fits n s t few kind wide v.0.front in
    let none : NoneBetween (table_boundary t) (table_boundary (among n s t)) t =
    wider_none n s t few kind small p.sizes in
    let end : last_end (among n s t) kind
    ≡ last_end t kind = same_last_end n s t h p more first fits none kind refl few in (
      (
        record {
          places = wider_places n s t h p more first fits none;
          within = λ i below. subst (λ x. (if nat_lt i (length t.records) then end_of_record (nth t i) else x)
              ≤ t.data_len) (sym end) (v.0.within i below);
          front = wider_front n s t few kind v.0.front;
        },
        wider_more n s kind t v.1,
      ),
      wider_book n s t h p more first fits none,
    )

-- the table of a file that opens
full_rows : (classes size_max : ℕ) (t : choice.SlotTable) (file : List ℕ) (m : Map) (book : Book)
    → classes ≤ width → OpensBy classes size_max t file m book
    → HasFullRows (placed_table classes size_max file t)
full_rows classes size_max t file m book wide o =
    let header = file_header file t o.read in
    record { caps_full = header.0; grid_full = header.1; classes = wide }

-- what a file stands for among some classes it stands for among more
pub more_classes : (few many size_max more : ℕ) (t : choice.SlotTable) (file : List ℕ) (m : Map) (book : Book)
    → few ≤ many → many ≤ width → size_max < 2 ^ few → size_max ≤ more → OpensBy few size_max t file m book
    → OpensBy many more t file m book
more_classes few many size_max more t file m book low wide small larger o =
    let placed = placed_table few size_max file t in
    let tables = full_rows few size_max t file m book (omega arith) o in
    let valid = wider_valid many more placed tables low wide small larger o.valid in
    record {
      read = o.read;
      valid = valid.0;
      same_map = o.same_map;
      same_book = o.same_book
          ∙ ap (with_digests t.digests) (sym valid.1);
    }

-- ---- the classes that a table doesn't have

boundary_fits : (t : TableInLayout) (kind : Kind) → KindFits t kind
    → boundary_of_kind t.classes kind t.header.boundary ≤ t.classes
boundary_fits t Settled rule = omega arith
boundary_fits t Moving rule = omega (arith, rule)

module _ (t : TableInLayout) (h : HasFullRows t) (small : t.size_max < 2 ^ t.classes) (v : IsValid t) where
  in_classes : table_boundary t ≤ t.classes
  in_classes = boundary_fits t t.header.kind v.0.front

  -- its book has no capacity of them
  pub no_cap_above : (c : ℕ) → t.classes ≤ c → slice_index (book_of t).caps c ≡ 0
  no_cap_above c high =
      caps-settled_above (table_boundary t) c t.header.caps (volumes_of_sizes (sizes t.records)) h.caps_full
      (omega (arith, in_classes, h.classes)) (omega (arith, in_classes, high))
      ∙ no_bytes t c (λ i within some class. omega (
        arith,
        v.0.places.sizes i within,
        small,
        class_low (nth t i).size some,
        power_rises t.classes (class_of (nth t i).size) (omega (arith, class, high)),
      ))

  -- and no entry of them, in any buffer, nor one in theirs
  pub no_entry_above : (j c : ℕ) → (t.classes ≤ j) ⊎ (t.classes ≤ c) → cell (book_of t).grid j c ≡ 0
  no_entry_above j c out =
      let b = table_boundary t in
      let wide = h.grid_full.full in
      let fits : b ≤ width = omega (arith, in_classes, h.classes) in
      elim (cases_lt j b) [
        | inr high ↦ cell-settled_above b j c t.header.used wide fits high
        | inl low ↦ cell-settled_below b j c t.header.used wide fits low
            ∙ zero_cell t h v.0.places j c (inr (elim out as (λ _. j < c) [
              | inl row ↦ absurd (omega (arith, in_classes, low, row))
              | inr column ↦ omega (arith, in_classes, low, column)
            ]))
      ]

pub no_more_classes : (classes size_max : ℕ) (file : List ℕ) (m : Map) (book : Book) → classes ≤ width
    → size_max < 2 ^ classes → Opens classes size_max file m book → HasNoneFrom classes book
no_more_classes classes size_max file m book wide small o =
    let t = placed_table classes size_max file o.table in
    let full = full_rows classes size_max o.table file m book wide o.opens in
    record {
      caps = λ c high. ap (λ (b : Book). slice_index b.caps c) o.opens.same_book
          ∙ no_cap_above t full small o.opens.valid c high;
      entries = λ j c out. ap (λ (b : Book). cell b.grid j c) o.opens.same_book
          ∙ no_entry_above t full small o.opens.valid j c out;
    }

pub files_of_before : (file : List ℕ) (m : Map) (book : Book) → OpensAsBefore file m book
    → Opens CLASSES SIZE_MAX file m book
files_of_before file m book o = record {
  table = o.table;
  opens = more_classes 21 CLASSES 1048576 SIZE_MAX o.table file m book (omega arith) (omega arith)
      (omega arith)
      (omega arith) o.opens;
}
