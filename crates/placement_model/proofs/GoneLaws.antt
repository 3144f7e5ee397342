-- A name that is gone: an object that stood in its payload segment is charged, one that stood in a buffer is
-- not.
use Rattle.std.specs.Prelude.{◌≡◌, ◌≢◌, ◌⊎◌, ℕ, ◌+◌, ◌<◌, ◌≤◌, ◌==◌, nat_lt, Bool, true, false, ◌&&◌, cond, List, length, sum_by, slice_index_or, Some, None, refl}
use Rattle.std.proofs.Common.{arith, sym, ◌∙◌, ap, subst, inl, inr}
use Rattle.std.proofs.lemmas.Bool.{cases_Bool, cond-true, cond-false, and_parts, eqb-true, eq-eqb}
use Rattle.std.specs.FinMap as fin
use Rattle.byte_ranges.specs.Lists.{sum_below}
use Rattle.size_class.specs.Classes.{width, class_of, cell}
use Rattle.slot_codec.specs.declared.codec.Header.{Header}
use Rattle.slot_codec.specs.declared.codec.Record.{Record}
use Rattle.map_model.proofs.MapLaws.{name_order}
use Rattle.map_model.specs.Weights.{same_name, weight}
use Rattle.segment_layout.specs.Shapes.{buffer_for, with_entry}
use Rattle.segment_layout.proofs.ShapeLaws.{cell-with_entry_same}
use Rattle.segment_layout.specs.Balance.{IsFilled}
use Rattle.segment_layout.proofs.BookLaws.{sum_by-filter}
use Rattle.segment_layout.proofs.SumLaws.{sum_below_le, sum_below_one}
use Rattle.table_rules.specs.Tables.{Apart, TableInLayout, dead_in_buffer, is_of, lies_in_buffer, lies_in_payload, live_in_buffer, live_in_payload, no_record}
use Rattle.table_rules.specs.Suffixes.{KeepsBelow, Stands}
use Rattle.extent_table.specs.declared.spot.Spot.{Spot}
use Rattle.extent_table.specs.Extents.{Spots, record_of, records_of}
use Rattle.placement_model.specs.Laid.{laid}
use Rattle.placement_model.specs.Reads.{AreNamed}
use Rattle.placement_model.proofs.ReadLaws.{AreNamed-remove, spot_of_record}
use Rattle.placement_model.proofs.SpotSumLaws.{records_sum-remove}
use Rattle.placement_model.specs.Changes.{charged}
use Rattle.placement_model.proofs.ChangeLaws.{charged_below, in_grid, in_row, more_in_cell, room, same_live, same_or_not}
use Rattle.placement_model.proofs.EnterLaws.{by_name, names_of_places, spot_is, RecordsApart, apart_by_name}

-- what is left was there, under another name
pub left_over : (spots : Spots) (name q : List ℕ) (x : Spot) → fin.get (fin.remove spots name) q ≡ Some x
    → (same_name q name ≡ false) × (fin.get spots q ≡ Some x)
left_over spots name q x is =
    elim (cases_Bool (same_name q name)) as (λ _. (same_name q name ≡ false) × (fin.get spots q ≡ Some x)) [
      | inl same ↦ absurd (let none : None
          ≡ Some x = sym (cond-true (same_name q name) None (fin.get spots q) same)
          ∙ sym (fin.get-remove name_order spots name q) ∙ is in cc)
      | inr other ↦ (
        other,
        sym (cond-false (same_name q name) None (fin.get spots q) other)
            ∙ sym (fin.get-remove name_order spots name q) ∙ is,
      )
    ]

pub each_removed : (P : Record → Type 0) (spots : Spots) (name : List ℕ) → AreNamed spots
    → ((i : ℕ) → i < length (records_of spots) → P (slice_index_or (records_of spots) i no_record)) → (i : ℕ)
    → i < length (records_of (fin.remove spots name))
    → P (slice_index_or (records_of (fin.remove spots name)) i no_record)
each_removed P spots name named old i low =
    let rest = fin.remove spots name in
    let r = slice_index_or (records_of rest) i no_record in
    let o = spot_of_record rest (AreNamed-remove spots name named) i low in
    subst P (sym (spot_is rest r o)) (by_name P spots named old r.name o.spot
    (left_over spots name r.name o.spot o.is).1)

-- nor does what is left
pub gone_apart : (spots : Spots) → AreNamed spots → (name : List ℕ) → RecordsApart spots
    → RecordsApart (fin.remove spots name)
gone_apart spots named name apart i low h less =
    let rest = fin.remove spots name in
    let names = AreNamed-remove spots name named in
    let r = slice_index_or (records_of rest) h no_record in
    let q = slice_index_or (records_of rest) i no_record in
    let o = spot_of_record rest names h (omega (arith, less, low)) in
    let p = spot_of_record rest names i low in
    subst (λ x. Apart x q) (sym (spot_is rest r o))
    (subst (λ x. Apart (record_of (r.name, o.spot)) x) (sym (spot_is rest q p))
    (apart_by_name spots named apart r.name q.name o.spot p.spot
    (left_over spots name r.name o.spot o.is).1 (left_over spots name q.name p.spot p.is).1
    (names_of_places rest h i less low)))

module _ (classes size_max k len : ℕ) (header : Header) (b : ℕ) (spots : Spots) (named : AreNamed spots)
    (name : List ℕ) (s : Spot) (there : fin.get spots name ≡ Some s) where
  abbrev before : TableInLayout
  before = laid classes size_max k len header spots

  abbrev gone : TableInLayout
  gone = laid classes size_max k len header (fin.remove spots name)

  one_less : (f : Record → ℕ) → sum_by f (records_of (fin.remove spots name)) + f (record_of (name, s))
      ≡ sum_by f (records_of spots)
  one_less f = omega (
    arith,
    records_sum-remove f spots name named,
    ap (weight (λ (e : List ℕ × Spot). f (record_of e)) name) there,
  )

  fewer_in_buffer : (i c : ℕ) → live_in_buffer gone i c ≤ live_in_buffer before i c
  fewer_in_buffer i c =
      let p = λ (r : Record). is_of c r && lies_in_buffer before i r in
      omega (
        arith,
        one_less (λ r. cond (p r) r.size 0),
        sum_by-filter (λ (r : Record). r.size) p (records_of spots),
        sum_by-filter (λ (r : Record). r.size) p (records_of (fin.remove spots name)),
      )

  payload_less : (c : ℕ) → live_in_payload gone c
      + cond (is_of c (record_of (name, s)) && lies_in_payload before c (record_of (name, s))) s.size 0
      ≡ live_in_payload before c
  payload_less c =
      let p = λ (r : Record). is_of c r && lies_in_payload before c r in
      omega (
        arith,
        one_less (λ r. cond (p r) r.size 0),
        sum_by-filter (λ (r : Record). r.size) p (records_of spots),
        sum_by-filter (λ (r : Record). r.size) p (records_of (fin.remove spots name)),
      )

  -- An object that stood in a buffer, or had no bytes, is gone: nothing is charged.
  pub gone_buffered : (lies_in_payload before (class_of s.size) (record_of (name, s)) ≡ false) ⊎ (s.size ≡ 0)
      → KeepsBelow b before → KeepsBelow b gone
  gone_buffered elsewhere keeps = record {
    sizes = each_removed (λ (r : Record). r.size ≤ size_max) spots name named keeps.sizes;
    empty = each_removed (λ (r : Record). r.size ≡ 0 → r.place ≡ 0) spots name named keeps.empty;
    lower = keeps.lower;
    rows = keeps.rows;
    stands = each_removed (λ (r : Record). 0 < r.size → class_of r.size < b → Stands gone r) spots name named
        keeps.stands;
    apart = gone_apart spots named name keeps.apart;
    balance = λ c low. record {
      buffers = λ i wide. omega (arith, fewer_in_buffer i c, (keeps.balance c low).buffers i wide);
      payload = omega (
        arith,
        (keeps.balance c low).payload,
        payload_less c,
        not_counted c,
        sum_below_le width (λ i. dead_in_buffer before i c) (λ i. dead_in_buffer gone i c)
            (λ i wide. omega (arith, fewer_in_buffer i c)),
      );
    };
    full = λ c low. record { entry = (keeps.full c low).entry; full = (keeps.full c low).full };
  }
    where
      not_counted : (c : ℕ) → cond (is_of c (record_of (name, s))
          && lies_in_payload before c (record_of (name, s))) s.size 0 ≡ 0
      not_counted c =
          let r = record_of (name, s) in
          elim (cases_Bool (is_of c r && lies_in_payload before c r)) [
            | inr other ↦ cond-false (is_of c r && lies_in_payload before c r) s.size 0 other
            | inl both ↦ elim elsewhere [
              | inr none ↦ cond-true (is_of c r && lies_in_payload before c r) s.size 0 both ∙ none
              | inl no_payload ↦
                  let parts = and_parts (is_of c r) (lies_in_payload before c r) both in
                  let of : class_of s.size ≡ c = eqb-true (class_of s.size) c
                  (and_parts (nat_lt 0 s.size) (class_of s.size == c) parts.0).1 in
                  absurd (let here : lies_in_payload before (class_of s.size) r
                  ≡ true = subst (λ x. lies_in_payload before x r ≡ true) (sym of) parts.1 in cc)
            ]
          ]

  -- An object that stood in its payload segment is gone, once its bytes are charged.
  pub gone_payload : IsFilled k header.caps header.used → 1 ≤ s.size → (j : ℕ)
      → buffer_for k header.caps header.used (class_of s.size) s.size ≡ Some j → KeepsBelow b before
      → KeepsBelow b (charged gone s.size j)
  gone_payload filled some j found keeps =
      let one = charged_below b before filled s.size j some found keeps in
      record {
        sizes = each_removed (λ (r : Record). r.size ≤ size_max) spots name named keeps.sizes;
        empty = each_removed (λ (r : Record). r.size ≡ 0 → r.place ≡ 0) spots name named keeps.empty;
        lower = one.lower;
        rows = one.rows;
        stands = each_removed (λ (r : Record). 0 < r.size → class_of r.size < b
            → Stands (charged gone s.size j) r) spots name named one.stands;
        apart = gone_apart spots named name keeps.apart;
        balance = λ c low. record {
          buffers = λ i wide. omega (
            arith,
            live_after c low i,
            (keeps.balance c low).buffers i wide,
            more_in_cell b before filled s.size j some found i c,
          );
          payload = omega (arith, (keeps.balance c low).payload, payload_less c, dead_more c low);
        };
        full = λ c low. record { entry = (one.full c low).entry; full = (one.full c low).full };
      }
    where
      -- fewer live bytes than before, under the new grid
      live_after : (c : ℕ) → c < b → (i : ℕ)
          → live_in_buffer (charged gone s.size j) i c ≤ live_in_buffer before i c
      live_after c low i =
          let p = λ (r : Record). is_of c r && lies_in_buffer (charged before s.size j) i r in
          omega (
            arith,
            one_less (λ r. cond (p r) r.size 0),
            sum_by-filter (λ (r : Record). r.size) p (records_of spots),
            sum_by-filter (λ (r : Record). r.size) p (records_of (fin.remove spots name)),
            same_live b before filled s.size j some found keeps i c low,
          )

      -- the dead bytes of its class grow by its size, and those of no class fall
      dead_more : (c : ℕ) → c < b → cond
          (is_of c (record_of (name, s)) && lies_in_payload before c (record_of (name, s))) s.size 0
          + sum_below width (λ i. dead_in_buffer before i c)
          ≤ sum_below width (λ i. dead_in_buffer (charged gone s.size j) i c)
      dead_more c low =
          let old = λ (i : ℕ). dead_in_buffer before i c in
          let new = λ (i : ℕ). dead_in_buffer (charged gone s.size j) i c in
          elim (same_or_not (class_of s.size) c) [
            | inr other ↦
                let r = record_of (name, s) in
                let none : cond (is_of c r && lies_in_payload before c r) s.size 0
                ≡ 0 = elim (cases_Bool (is_of c r && lies_in_payload before c r)) [
                  | inr no_part ↦ cond-false (is_of c r && lies_in_payload before c r) s.size 0 no_part
                  | inl both ↦ absurd (other (eqb-true (class_of s.size) c
                      (and_parts (nat_lt 0 s.size) (class_of s.size == c)
                      (and_parts (is_of c r) (lies_in_payload before c r) both).0).1))
                ] in
                omega (
                  arith,
                  none,
                  sum_below_le width old new
                      (λ i wide. omega (
                        arith,
                        live_after c low i,
                        more_in_cell b before filled s.size j some found i c,
                      )),
                )
            | inl of ↦
                let with_size = λ (i : ℕ). cond (i == j) (old i + s.size) (old i) in
                let at_j : with_size j ≡ old j + s.size =
                cond-true (j == j) (old j + s.size) (old j) (eq-eqb j j refl) in
                let others : (i : ℕ) → i ≢ j → with_size i ≡ old i = λ i differ. elim (cases_Bool (i == j)) [
                  | inl same ↦ absurd (differ (eqb-true i j same))
                  | inr no_match ↦ cond-false (i == j) (old i + s.size) (old i) no_match
                ] in
                let sums = sum_below_one width j with_size old
                (room b before filled s.size j some found).below_width others in
                let each : (i : ℕ) → i < width → with_size i ≤ new i = λ i wide. elim (same_or_not i j) [
                  | inr differ ↦ omega (
                    arith,
                    others i differ,
                    live_after c low i,
                    more_in_cell b before filled s.size j some found i c,
                  )
                  | inl same ↦ subst (λ x. with_size x ≤ new x) (sym same)
                      (omega (
                        arith,
                        at_j,
                        live_after c low j,
                        (keeps.balance c low).buffers j (room b before filled s.size j some
                            found).below_width,
                        ap (λ x. cell (with_entry header.used j (class_of s.size) s.size) j x) (sym of),
                        ap (λ x. cell header.used j x) (sym of),
                        cell-with_entry_same header.used j (class_of s.size) s.size
                            (in_grid b before filled s.size j some found)
                            (in_row b before filled s.size j some found),
                      ))
                ] in
                omega (
                  arith,
                  sums,
                  at_j,
                  sum_below_le width with_size new each,
                  at_most (is_of c (record_of (name, s)) && lies_in_payload before c (record_of (name, s)))
                      s.size,
                )
          ]
        where
          at_most : (x : Bool) (n : ℕ) → cond x n 0 ≤ n
          at_most true n = omega arith
          at_most false n = omega arith
