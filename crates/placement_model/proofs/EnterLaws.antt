-- A new name whose bytes are charged: the table keeps of the classes below b what it kept.
use Rattle.std.specs.Prelude.{◌≡◌, ◌⊎◌, ℕ, ◌+◌, ◌<◌, ◌≤◌, ◌==◌, nat_lt, true, false, ◌&&◌, cond, List, length, sum_by, slice_index, slice_index_or, Some, None, IsTrue, refl}
use Rattle.std.proofs.Common.{arith, sym, ◌∙◌, ap, subst, inl, inr}
use Rattle.std.proofs.lemmas.Bool.{cases_lt, cases_Bool, cond-true, cond-false, and_parts, eqb-true}
use Rattle.std.proofs.lemmas.Option.{same_Some, slice_get-get_or}
use Rattle.std.specs.Ordering.{is_eq, is_lt}
use Rattle.std.specs.declared.cmp.Ordering.{Ordering}
use Rattle.std.specs.declared.cmp.Ordering.TheVariants.{Less, Equal, Greater}
use Rattle.std.specs.FinMap as fin
use Rattle.size_class.specs.Classes.{width, class_of, cell}
use Rattle.size_class.proofs.ClassLaws.{class_below}
use Rattle.slot_codec.specs.Names.{IsName}
use Rattle.slot_codec.specs.declared.codec.Header.{Header}
use Rattle.slot_codec.specs.declared.codec.Record.{Record}
use Rattle.map_model.proofs.MapLaws.{name_order, same_name-is, same_name-itself}
use Rattle.map_model.specs.Weights.{same_name, weight, weight_at}
use Rattle.segment_layout.specs.Shapes.{buffer_for, buffer_of, buffer_start, start_of, taken_in, with_entry}
use Rattle.segment_layout.proofs.ShapeLaws.{cell-with_entry_same, taken-with_entry_same, start_of-rises}
use Rattle.segment_layout.specs.Balance.{IsFilled}
use Rattle.segment_layout.proofs.BookLaws.{sum_by-filter}
use Rattle.segment_layout.proofs.SumLaws.{sum_below_le}
use Rattle.table_rules.specs.Tables.{Apart, TableInLayout, dead_in_buffer, end_of_record, is_of, lies_in_buffer, lies_in_payload, live_in_buffer, live_in_payload, no_record, nth}
use Rattle.table_rules.specs.Suffixes.{KeepsBelow, Stands}
use Rattle.extent_table.specs.declared.spot.Spot.{Spot}
use Rattle.extent_table.specs.Extents.{Spots, record_of, records_of}
use Rattle.extent_table.specs.Rising.{records_of-rise}
use Rattle.placement_model.specs.Laid.{laid}
use Rattle.placement_model.specs.Reads.{AreNamed}
use Rattle.placement_model.proofs.ReadLaws.{AreNamed-insert, SpotOf, record_at, spot_of_record}
use Rattle.placement_model.proofs.SegmentLaws.{lies_parts}
use Rattle.placement_model.proofs.SpotSumLaws.{records_sum-insert}
use Rattle.placement_model.proofs.ChangeLaws.{after, charged_below, in_grid, in_row, more_in_cell, room, same_live, within_from}
use Rattle.placement_model.specs.Changes.{charged, charged_spot}
use Rattle.slot_codec.proofs.OrderLemmas.{not_tied}

-- ---- each record, name by name

pub by_name : (P : Record → Type 0) (spots : Spots) → AreNamed spots
    → ((i : ℕ) → i < length (records_of spots) → P (slice_index_or (records_of spots) i no_record))
    → (q : List ℕ) (x : Spot) → fin.get spots q ≡ Some x → P (record_of (q, x))
by_name P spots named each q x is = let at = record_at spots named q x is in subst P at.2 (each at.0 at.1)

pub spot_is : (spots : Spots) (r : Record) (s : SpotOf spots r) → r ≡ record_of (r.name, s.spot)
spot_is spots r s = λ i. record {
  name = r.name;
  place = s.same_place i;
  size = s.same_size i;
  digest = s.same_digest i;
}

-- a name of a map with one more is that one, or was there
pub inserted : (spots : Spots) (name q : List ℕ) (s x : Spot) → fin.get (fin.insert spots name s) q ≡ Some x
    → ((q ≡ name) × (x ≡ s)) ⊎ ((same_name q name ≡ false) × (fin.get spots q ≡ Some x))
inserted spots name q s x is =
    elim (cases_Bool (same_name q name)) [
      | inl same ↦ inl (
        same_name-is q name same,
        sym (same_Some s x (sym (cond-true (same_name q name) (Some s) (fin.get spots q) same)
            ∙ sym (fin.get-insert name_order spots name s q) ∙ is)),
      )
      | inr other ↦ inr (
        other,
        sym (cond-false (same_name q name) (Some s) (fin.get spots q) other)
            ∙ sym (fin.get-insert name_order spots name s q) ∙ is,
      )
    ]

pub each_inserted : (P : Record → Type 0) (spots : Spots) (name : List ℕ) (s : Spot) → AreNamed spots
    → IsName name → P (record_of (name, s))
    → ((i : ℕ) → i < length (records_of spots) → P (slice_index_or (records_of spots) i no_record)) → (i : ℕ)
    → i < length (records_of (fin.insert spots name s))
    → P (slice_index_or (records_of (fin.insert spots name s)) i no_record)
each_inserted P spots name s named is new old i low =
    let all = fin.insert spots name s in
    let r = slice_index_or (records_of all) i no_record in
    let o = spot_of_record all (AreNamed-insert spots name s named is) i low in
    subst P (sym (spot_is all r o)) (elim (inserted spots name r.name s o.spot o.is)
    as (λ x. P (record_of (r.name, o.spot))) [
      | inl here ↦ subst P (λ k. record_of (sym here.0 k, sym here.1 k)) new
      | inr there ↦ by_name P spots named old r.name o.spot there.1
    ])

-- records at two places have two names
pub names_of_places : (spots : Spots) (h i : ℕ) → h < i → i < length (records_of spots)
    → same_name (slice_index_or (records_of spots) h no_record).name
    (slice_index_or (records_of spots) i no_record).name ≡ false
names_of_places spots h i less low =
    let rs = records_of spots in
    not_tied _ ((records_of-rise spots).rising h i (slice_index_or rs h no_record)
    (slice_index_or rs i no_record) less (slice_get-get_or rs h no_record (omega (arith, less, low)))
    (slice_get-get_or rs i no_record low))

pub turn : (r s : Record) → Apart r s → Apart s r
turn r s (inl e) = inr (inl e)
turn r s (inr (inl e)) = inl e
turn r s (inr (inr (inl e))) = inr (inr (inr e))
turn r s (inr (inr (inr e))) = inr (inr (inl e))

-- ---- records that share no byte

-- no two records share a byte
abbrev pub RecordsApart : Spots → Type 0
RecordsApart spots = (i : ℕ) → i < length (records_of spots) → (h : ℕ) → h < i
    → Apart (slice_index_or (records_of spots) h no_record) (slice_index_or (records_of spots) i no_record)

-- records of two names share no byte, where those of two places don't
pub apart_by_name : (spots : Spots) → AreNamed spots → RecordsApart spots
    → (a c : List ℕ) (x y : Spot) → fin.get spots a ≡ Some x → fin.get spots c ≡ Some y
    → same_name a c ≡ false → Apart (record_of (a, x)) (record_of (c, y))
apart_by_name spots named apart a c x y is also differ =
    let p = record_at spots named a x is in
    let q = record_at spots named c y also in
    elim (cases_lt p.0 q.0) as (λ z. Apart (record_of (a, x)) (record_of (c, y))) [
      | inl under ↦ subst (λ z. Apart z (record_of (c, y))) p.2
          (subst (λ z. Apart (slice_index_or (records_of spots) p.0 no_record) z) q.2
          (apart q.0 q.1 p.0 under))
      | inr rest ↦ elim (cases_lt q.0 p.0) as (λ z. Apart (record_of (a, x)) (record_of (c, y))) [
        | inl over ↦ turn (record_of (c, y)) (record_of (a, x))
            (subst (λ z. Apart z (record_of (a, x))) q.2
            (subst (λ z. Apart (slice_index_or (records_of spots) q.0 no_record) z) p.2
            (apart p.0 p.1 q.0 over)))
        | inr back ↦
            let e : p.0 ≡ q.0 = omega (arith, rest, back) in
            let same : a ≡ c = ap (λ z. z.name)
            (sym p.2 ∙ ap (λ i. slice_index_or (records_of spots) i no_record) e ∙ q.2) in
            absurd (let tied : same_name a c ≡ true = ap (same_name a) (sym same) ∙ same_name-itself a in cc)
      ]
    ]

-- a name's new object shares none with any other
pub inserted_apart : (spots : Spots) → AreNamed spots → (name : List ℕ) → IsName name → (s : Spot)
    → RecordsApart spots → ((q : List ℕ) (x : Spot) → fin.get spots q ≡ Some x → same_name q name ≡ false
    → Apart (record_of (name, s)) (record_of (q, x))) → RecordsApart (fin.insert spots name s)
inserted_apart spots named name is s apart alone i low h less =
    let all = fin.insert spots name s in
    let names = AreNamed-insert spots name s named is in
    let r = slice_index_or (records_of all) h no_record in
    let q = slice_index_or (records_of all) i no_record in
    let o = spot_of_record all names h (omega (arith, less, low)) in
    let p = spot_of_record all names i low in
    let differ : same_name r.name q.name ≡ false = names_of_places all h i less low in
    subst (λ x. Apart x q) (sym (spot_is all r o))
    (subst (λ x. Apart (record_of (r.name, o.spot)) x) (sym (spot_is all q p))
    (elim (inserted spots name r.name s o.spot o.is)
    as (λ x. Apart (record_of (r.name, o.spot)) (record_of (q.name, p.spot))) [
      | inl first ↦ elim (inserted spots name q.name s p.spot p.is)
          as (λ x. Apart (record_of (r.name, o.spot)) (record_of (q.name, p.spot))) [
            | inl second ↦ absurd (let same : same_name r.name q.name
                ≡ true = (λ j. same_name (first.0 j) (second.0 j)) ∙ same_name-itself name in cc)
            | inr second ↦ subst (λ (x : Spot). Apart (record_of (r.name, x)) (record_of (q.name, p.spot)))
                (sym first.1) (alone q.name p.spot second.1 second.0)
          ]
      | inr first ↦ elim (inserted spots name q.name s p.spot p.is)
          as (λ x. Apart (record_of (r.name, o.spot)) (record_of (q.name, p.spot))) [
            | inl second ↦ subst (λ (x : Spot). Apart (record_of (r.name, o.spot)) (record_of (q.name, x)))
                (sym second.1) (turn (record_of (name, s)) (record_of (r.name, o.spot))
                (alone r.name o.spot first.1 first.0))
            | inr second ↦ apart_by_name spots named apart r.name q.name o.spot p.spot first.1 second.1
                differ
          ]
    ]))

-- ---- an object that is entered

module _ (classes size_max k len : ℕ) (header : Header) (b : ℕ) (spots : Spots) (named : AreNamed spots)
    (filled : IsFilled k header.caps header.used) (name : List ℕ) (is : IsName name)
    (new : fin.get spots name ≡ None) (size j : ℕ) (some : 1 ≤ size)
    (found : buffer_for k header.caps header.used (class_of size) size ≡ Some j) where
  abbrev before : TableInLayout
  before = laid classes size_max k len header spots

  abbrev spot : Spot
  spot = charged_spot k header.caps header.used size j

  -- the table with the new name, once its bytes are charged
  abbrev entered : TableInLayout
  entered = charged (laid classes size_max k len header (fin.insert spots name spot)) size j

  -- what stands is apart from the charged range
  apart_from : (r : Record) → 0 < r.size → Stands before r
      → (end_of_record r ≤ spot.place) ⊎ (spot.place + size ≤ r.place)
  apart_from r full (inl here) =
      let c = class_of r.size in
      let q = lies_parts (start_of k header.caps c) (buffer_start k header.caps c) r here in
      by_class c (class_below r.size) q.0 (omega (arith, q.1))
      (λ e. omega (arith, q.1, ap (buffer_start k header.caps) e))
    where
      by_class : (c : ℕ) → c < width → start_of k header.caps c ≤ r.place
          → end_of_record r ≤ start_of k header.caps c
          + (slice_index header.caps c + buffer_of k (slice_index header.caps c))
          → (c ≡ j → end_of_record r ≤ spot.place)
          → (end_of_record r ≤ spot.place) ⊎ (spot.place + size ≤ r.place)
      by_class c wide from upto same = elim (cases_lt c j) [
        | inl less ↦ inl (omega (
          arith,
          start_of-rises k header.caps c j less
              (omega (arith, (room b before filled size j some found).below_width, filled.caps_full)),
          upto,
        ))
        | inr rest ↦ elim (cases_lt j c) [
          | inl less ↦ inr (omega (
            arith,
            start_of-rises k header.caps j c less
                (omega (arith, wide, filled.caps_full)),
            from,
            (room b before filled size j some found).room,
          ))
          | inr back ↦ inl (same (omega (arith, rest, back)))
        ]
      ]
  apart_from r full (inr (i, low, wide, here)) =
      let q = lies_parts (buffer_start k header.caps i)
      (buffer_start k header.caps i + taken_in header.used i) r here in
      elim (cases_lt i j) [
        | inl less ↦ inl (omega (
          arith,
          start_of-rises k header.caps i j less
              (omega (arith, (room b before filled size j some found).below_width, filled.caps_full)),
          q.1,
          filled.rows i wide,
        ))
        | inr rest ↦ elim (cases_lt j i) [
          | inl less ↦ inr (omega (
            arith,
            start_of-rises k header.caps j i less
                (omega (arith, wide, filled.caps_full)),
            q.0,
            (room b before filled size j some found).room,
          ))
          | inr back ↦
              let e : i ≡ j = omega (arith, rest, back) in
              inl (omega (arith, q.1, ap (λ x. buffer_start k header.caps x + taken_in header.used x) e))
        ]
      ]

  new_apart : (r : Record) → (0 < r.size → Stands before r) → Apart (record_of (name, spot)) r
  new_apart r stands = elim (cases_lt 0 r.size) [
    | inr none ↦ inr (inl (omega (arith, none)))
    | inl full ↦ elim (apart_from r full (stands full))
        as (λ x. Apart (record_of (name, spot)) r) [
          | inl below ↦ inr (inr (inr below))
          | inr above ↦ inr
              (inr (inl above))
        ]
  ]

  all_apart : KeepsBelow b before → ((i : ℕ) → i < length (records_of spots) → 0 < (nth before i).size
      → Stands before (nth before i)) → RecordsApart (fin.insert spots name spot)
  all_apart keeps stands = inserted_apart spots named name is spot keeps.apart
      (λ q x there _. new_apart (record_of (q, x))
      (by_name (λ (y : Record). 0 < y.size → Stands before y) spots named stands q x there))

  -- the sums of rule 9
  in_buffer : ℕ → ℕ → Record → ℕ
  in_buffer i c r = cond (is_of c r && lies_in_buffer entered i r) r.size 0

  live_one_more : KeepsBelow b before → (i c : ℕ) → c < b
      → live_in_buffer entered i c ≡ live_in_buffer before i c + in_buffer i c (record_of (name, spot))
  unfolding in_buffer
  live_one_more keeps i c low =
      let f = λ (r : Record). cond (is_of c r && lies_in_buffer entered i r) r.size 0 in
      let none : weight_at (λ (e : List ℕ × Spot). f (record_of e)) spots name
      ≡ 0 = ap (weight (λ (e : List ℕ × Spot). f (record_of e)) name) new in
      let put = records_sum-insert f spots name spot named is in
      let left : live_in_buffer entered i c
      ≡ sum_by f (records_of (fin.insert spots name spot)) =
      sum_by-filter (λ (r : Record). r.size) (λ r. is_of c r && lies_in_buffer entered i r)
      (records_of (fin.insert spots name spot)) in
      let right : live_in_buffer (charged before size j) i c
      ≡ sum_by f (records_of spots) = sum_by-filter (λ (r : Record). r.size)
      (λ r. is_of c r && lies_in_buffer (charged before size j) i r) (records_of spots) in
      omega (arith, left, right, put, none, same_live b before filled size j some found keeps i c low)

  -- the new record counts in its own buffer and class alone
  counts_once : (i c : ℕ) → i < width
      → in_buffer i c (record_of (name, spot)) + cell header.used i c
      ≤ cell (with_entry header.used j (class_of size) size) i c
  unfolding in_buffer
  counts_once i c wide =
      let r = record_of (name, spot) in
      elim (cases_Bool (is_of c r && lies_in_buffer entered i r)) [
        | inr other ↦ omega (
          arith,
          cond-false (is_of c r && lies_in_buffer entered i r) size 0 other,
          more_in_cell b before filled size j some found i c,
        )
        | inl both ↦
            let parts = and_parts (is_of c r) (lies_in_buffer entered i r) both in
            let of : class_of size ≡ c = eqb-true (class_of size) c
            (and_parts (nat_lt 0 size) (class_of size == c) parts.0).1 in
            let here = lies_parts (buffer_start k header.caps i)
            (buffer_start k header.caps i + taken_in (with_entry header.used j (class_of size) size) i) r
            parts.1 in
            let same : i ≡ j = elim (cases_lt i j) [
              | inl less ↦ absurd (omega (
                arith,
                start_of-rises k header.caps i j less
                    (omega (arith, (room b before filled size j some found).below_width, filled.caps_full)),
                here.1,
                (after b before filled size j some found).rows i wide,
                some,
              ))
              | inr rest ↦ elim (cases_lt j i) [
                | inl less ↦ absurd (omega (
                  arith,
                  start_of-rises k header.caps j i less (omega (arith, wide, filled.caps_full)),
                  here.0,
                  (room b before filled size j some found).room,
                  some,
                ))
                | inr back ↦ omega (arith, rest, back)
              ]
            ] in
            subst (λ x. cond (is_of c r && lies_in_buffer entered i r) size 0 + cell header.used x c
            ≤ cell (with_entry header.used j (class_of size) size) x c) (sym same)
            (subst (λ x. cond (is_of c r && lies_in_buffer entered i r) size 0 + cell header.used j x
            ≤ cell (with_entry header.used j (class_of size) size) j x) of
            (omega (
              arith,
              cond-true (is_of c r && lies_in_buffer entered i r) size 0 both,
              cell-with_entry_same header.used j (class_of size) size
                  (in_grid b before filled size j some found) (in_row b before filled size j some found),
            )))
      ]

  payload_more : (c : ℕ) → live_in_payload before c ≤ live_in_payload entered c
  payload_more c =
      let f = λ (r : Record). cond (is_of c r && lies_in_payload before c r) r.size 0 in
      let none : weight_at (λ (e : List ℕ × Spot). f (record_of e)) spots name
      ≡ 0 = ap (weight (λ (e : List ℕ × Spot). f (record_of e)) name) new in
      omega (
        arith,
        records_sum-insert f spots name spot named is,
        none,
        sum_by-filter (λ (r : Record). r.size) (λ r. is_of c r && lies_in_payload before c r)
            (records_of spots),
        sum_by-filter (λ (r : Record). r.size)
            (λ r. is_of c r && lies_in_payload entered c r) (records_of (fin.insert spots name spot)),
      )

  -- The table with a new name whose bytes were charged keeps of the classes below b what it kept.
  pub entered_below : size ≤ size_max → KeepsBelow b before
      → ((i : ℕ) → i < length (records_of spots) → 0 < (nth before i).size → Stands before (nth before i))
      → KeepsBelow b entered
  entered_below small keeps stands =
      let one = charged_below b before filled size j some found keeps in
      record {
        sizes = each_inserted (λ (r : Record). r.size ≤ size_max) spots name spot named is small keeps.sizes;
        empty = each_inserted (λ (r : Record). r.size ≡ 0 → r.place ≡ 0) spots name spot named is
            (λ none. absurd (omega (arith, none, some))) keeps.empty;
        lower = one.lower;
        rows = one.rows;
        stands = each_inserted (λ (r : Record). 0 < r.size → class_of r.size < b → Stands entered r) spots
            name spot named is (λ full low. inr stands_new) one.stands;
        apart = all_apart keeps stands;
        balance = λ c low. record {
          buffers = λ i wide. omega (
            arith,
            (keeps.balance c low).buffers i wide,
            live_one_more keeps i c low,
            counts_once i c wide,
          );
          payload = omega (
            arith,
            (keeps.balance c low).payload,
            payload_more c,
            sum_below_le width (λ i. dead_in_buffer before i c) (λ i. dead_in_buffer entered i c)
                (λ i wide. omega (arith, live_one_more keeps i c low, counts_once i c wide)),
          );
        };
        full = λ c low. record { entry = (one.full c low).entry; full = (one.full c low).full };
      }
    where
      stands_new : (i : ℕ) × (class_of size ≤ i) × (i < width)
          × IsTrue (lies_in_buffer entered i (record_of (name, spot)))
      stands_new =
          let r = room b before filled size j some found in (
            j,
            r.from_class,
            r.below_width,
            within_from (buffer_start k header.caps j)
                (buffer_start k header.caps j + taken_in (with_entry header.used j (class_of size) size) j)
                (record_of (name, spot)) (omega arith)
                (omega (
                  arith,
                  taken-with_entry_same header.used j (class_of size) size
                      (in_grid b before filled size j some found) (in_row b before filled size j some found),
                )),
          )
