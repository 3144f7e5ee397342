-- The book of a valid table is balanced with the map that its records give.
use Rattle.std.specs.Prelude.{◌≡◌, ℕ, zero, suc, ◌+◌, ◌*◌, ◌<◌, ◌≤◌, nat_lt, Bool, false, ◌||◌, cond, List, [], ◌∷◌, length, filter, map, sum_by, slice_index, slice_index_or, Option, Some, None, Ok, refl}
use Rattle.std.specs.List.{list_any}
use Rattle.std.proofs.Common.{arith, sym, ◌∙◌, ap, subst, inl, inr}
use Rattle.std.proofs.lemmas.Bool.{cases_lt, cases_Bool, cond-true, cond-false, lt-ltb}
use Rattle.std.proofs.lemmas.List.Sums.{sum_by-cons}
use Rattle.std.specs.Ordering.{is_lt, is_eq}
use Rattle.std.specs.declared.cmp.Ordering.TheVariants.{Less}
use Rattle.std.specs.Cmp.{eq_by_cmp_equiv}
use Rattle.std.specs.FinMap as fin
use Rattle.std.specs.FinMap.Entries.{find}
use Rattle.std.specs.FinSet as set
use Rattle.std.proofs.lemmas.List.{get_or_past, length-map}
use Rattle.byte_ranges.specs.Lists.{below}
use Rattle.byte_ranges.proofs.ListLaws.{below_at, length-below, length-map_below}
use Rattle.byte_ranges.specs.Ranges.{bytes_at}
use Rattle.byte_ranges.proofs.RangeLaws.{length-bytes_at}
use Rattle.size_class.specs.Classes.{width, IsGrid, IsRow}
use Rattle.slot_codec.specs.Choice as choice
use Rattle.slot_codec.proofs.ChoiceLaws.{table_chosen, chosen_long, chosen_parts}
use Rattle.slot_codec.proofs.HeaderLaws.{header_tests}
use Rattle.slot_codec.proofs.RecordsLaws.{table_rises}
use Rattle.slot_codec.proofs.RollLaws.{RiseFrom}
use Rattle.slot_codec.specs.Spelling.{head_len, slot_at, header_len}
use Rattle.slot_codec.specs.Reading.{header_of, number_at, numbers_at}
use Rattle.slot_codec.specs.declared.codec.Header.{Header}
use Rattle.table_rules.specs.Opening.{OpensBy, placed_table}
use Rattle.slot_codec.specs.declared.codec.Record.{Record}
use Rattle.map_model.specs.Maps.{Map, name_cmp}
use Rattle.map_model.specs.Weights.{Entry, weights, weight, same_name}
use Rattle.map_model.proofs.MapLaws.{weights-insert, weights-empty, same_name-itself, name_order, sum_by-map}
use Rattle.map_model.specs.Requests.{Change}
use Rattle.segment_layout.specs.Bounds.{Tight}
use Rattle.segment_layout.proofs.TightLaws.{tight_over}
use Rattle.segment_layout.specs.Books.{Book, book_end, book_after, map_after, volumes_of_sizes, with_digests}
use Rattle.segment_layout.specs.Balance.{IsBalanced}
use Rattle.table_rules.specs.Tables.{TableInLayout, table_boundary, end_of_record, last_end, no_record, sizes, map_of, book_of, HasFullRows, is_buffered}
use Rattle.segment_layout.proofs.SumLaws.{sum_by_same_places}
use Rattle.segment_layout.proofs.BalanceLaws.{HoldsBelow, bytes_in}
use Rattle.segment_layout.proofs.BookLaws.{in_buffers, in_payload, volumes_of_sizes-index, length-volumes_of_sizes, sum_by_none}
use Rattle.segment_layout.specs.Books.{Names}
use Rattle.segment_layout.proofs.ShapeLaws.{caps-settled_below, caps-settled_above}
use Rattle.table_rules.proofs.TableLaws.{bound_fits, settled_in, buffered_in, settled_above, buffered_above, payload_fits, dead_covers, entered_is_all, filled_of_table, buffered_fits}
use Rattle.segment_layout.proofs.NextLaws.{balanced_from}
use Rattle.table_rules.specs.Objects.{IsAbsent, HaveDistinctNames, LieWithin}
use Rattle.table_rules.specs.Rules.{KeepsPlaces}
use Rattle.slot_codec.proofs.OrderLemmas.{is_less}

turn : (a b : List ℕ) → same_name a b ≡ false → same_name b a ≡ false
turn a b other = (eq_by_cmp_equiv name_order).symm b a ∙ other

absent_at : (q : List ℕ) (rs : List Record) (i : ℕ) → IsAbsent q rs → i < length rs
    → same_name q (slice_index_or rs i no_record).name ≡ false
absent_at q [] i h within = absurd (omega arith)
absent_at q (r ∷ rs) zero h within = h.0
absent_at q (r ∷ rs) (suc i) h within = absent_at q rs i h.1 (omega arith)

-- whether a chosen record has a name
any_named : (Record → Bool) → List ℕ → List Record → Bool
any_named p q rs = list_any (same_name q) (map (λ r. r.name) (filter p rs))

module _ (p : Record → Bool) where
  none_named : (q : List ℕ) (rs : List Record) → IsAbsent q rs → any_named p q rs ≡ false
  unfolding any_named
  none_named q [] h = refl
  none_named q (r ∷ rs) h =
      elim (cases_Bool (p r)) [
        | inl is ↦ ap (λ xs. list_any (same_name q) (map (λ r. r.name) xs))
            (cond-true (p r) (r ∷ filter p rs) (filter p rs) is) ∙ ap (λ b. b || any_named p q rs) h.0
            ∙ none_named q rs h.1
        | inr other ↦ ap (λ xs. list_any (same_name q) (map (λ r. r.name) xs))
            (cond-false (p r) (r ∷ filter p rs) (filter p rs) other) ∙ none_named q rs h.1
      ]

  -- where names differ a record's name is chosen exactly where the record is
  chosen_named : (rs : List Record) (i : ℕ) → HaveDistinctNames rs → i < length rs
      → any_named p (slice_index_or rs i no_record).name rs ≡ p (slice_index_or rs i no_record)
  unfolding any_named
  chosen_named [] i h within = absurd (omega arith)
  chosen_named (r ∷ rs) zero h within =
      elim (cases_Bool (p r)) [
        | inl is ↦ ap (λ xs. list_any (same_name r.name) (map (λ r. r.name) xs))
            (cond-true (p r) (r ∷ filter p rs) (filter p rs) is)
            ∙ ap (λ b. b || any_named p r.name rs) (same_name-itself r.name) ∙ sym is
        | inr other ↦ ap (λ xs. list_any (same_name r.name) (map (λ r. r.name) xs))
            (cond-false (p r) (r ∷ filter p rs) (filter p rs) other) ∙ none_named r.name rs h.0 ∙ sym other
      ]
  chosen_named (r ∷ rs) (suc i) h within =
      let s = slice_index_or rs i no_record in
      let rest = chosen_named rs i h.1 (omega arith) in
      elim (cases_Bool (p r)) [
        | inl is ↦ ap (λ xs. list_any (same_name s.name) (map (λ r. r.name) xs))
            (cond-true (p r) (r ∷ filter p rs) (filter p rs) is)
            ∙ ap (λ b. b || any_named p s.name rs)
            (turn r.name s.name (absent_at r.name rs i h.0 (omega arith))) ∙ rest
        | inr other ↦ ap (λ xs. list_any (same_name s.name) (map (λ r. r.name) xs))
            (cond-false (p r) (r ∷ filter p rs) (filter p rs) other) ∙ rest
      ]

-- ---- the map of records whose names differ

-- the entry of a record in a file whose data part begins at base
abbrev pub entry_of : ℕ → List ℕ → Record → Entry
entry_of base file r = (r.name, bytes_at file (base + r.place) r.size)

absent_find : (base : ℕ) (file q : List ℕ) (rs : List Record) → IsAbsent q rs
    → find name_cmp q (map (entry_of base file) rs) ≡ None
absent_find base file q [] h = refl
absent_find base file q (r ∷ rs) h =
    cond-false (same_name q r.name) (Some (entry_of base file r).1)
    (find name_cmp q (map (entry_of base file) rs)) h.0 ∙ absent_find base file q rs h.1

-- a sum over the map is one over the records
pub weights_of_records : (f : Entry → ℕ) (base : ℕ) (file : List ℕ) (rs : List Record) → HaveDistinctNames rs
    → weights f (map_of base file rs) ≡ sum_by (λ r. f (entry_of base file r)) rs
weights_of_records f base file [] h = weights-empty f
weights_of_records f base file (r ∷ rs) h =
    let rest = map_of base file rs in
    let e = entry_of base file r in
    let none : weight f r.name (fin.get rest r.name)
    ≡ 0 = ap (weight f r.name) (fin.get-from_entries name_order (map (entry_of base file) rs) r.name
    ∙ absent_find base file r.name rs h.0) in
    omega (
      arith,
      weights-insert f rest e.0 e.1,
      none,
      weights_of_records f base file rs h.1,
      sum_by-cons (λ r. f (entry_of base file r)) r rs,
    )

module _ (t : TableInLayout) (base : ℕ) (file : List ℕ) (named : HaveDistinctNames t.records)
    (lie : LieWithin base file t.records) where
  names : Names
  names = (book_of t).buffered

  in_names : (i : ℕ) → i < length t.records
      → set.contains names (slice_index_or t.records i no_record).name
      ≡ is_buffered t (slice_index_or t.records i no_record)
  unfolding names any_named
  in_names i within = set.contains-from_list name_order (map (λ r. r.name) (filter (is_buffered t) t.records))
      (slice_index_or t.records i no_record).name ∙ chosen_named (is_buffered t) t.records i named within

  settled_of_records : (d : ℕ) → weights (in_payload names d) (map_of base file t.records)
      ≡ sum_by (settled_in t d) t.records
  settled_of_records d =
      weights_of_records (in_payload names d) base file t.records named
      ∙ sum_by_same_places no_record (λ r. in_payload names d (entry_of base file r)) (settled_in t d)
      t.records (λ i within. λ x. cond (in_names i within x) 0
      (bytes_in d (length-bytes_at file (base + (slice_index_or t.records i no_record).place)
      (slice_index_or t.records i no_record).size (lie i within) x)))

  buffered_of_records : (d : ℕ) → weights (in_buffers names d) (map_of base file t.records)
      ≡ sum_by (buffered_in t d) t.records
  buffered_of_records d =
      weights_of_records (in_buffers names d) base file t.records named
      ∙ sum_by_same_places no_record (λ r. in_buffers names d (entry_of base file r)) (buffered_in t d)
      t.records (λ i within. λ x. cond (in_names i within x)
      (bytes_in d (length-bytes_at file (base + (slice_index_or t.records i no_record).place)
      (slice_index_or t.records i no_record).size (lie i within) x)) 0)

  volumes_of_records : (d : ℕ) → slice_index (volumes_of_sizes (sizes t.records)) d
      ≡ sum_by (λ r. bytes_in d r.size) t.records
  volumes_of_records d = volumes_of_sizes-index (sizes t.records) d
      ∙ sum_by-map (λ size. bytes_in d size) (λ (r : Record). r.size) t.records

  all_settled : (d : ℕ) → table_boundary t ≤ d
      → sum_by (settled_in t d) t.records ≡ sum_by (λ r. bytes_in d r.size) t.records
  all_settled d high = ap (λ (f : Record → ℕ). sum_by f t.records) (λ i r. settled_above t d r high i)

  none_buffered : (d : ℕ) → table_boundary t ≤ d → sum_by (buffered_in t d) t.records ≡ 0
  none_buffered d high = sum_by_none (buffered_in t d) t.records (λ r. buffered_above t d r high)

  holds_of_table : HasFullRows t → KeepsPlaces t → table_boundary t ≤ width
      → HoldsBelow width (book_of t).caps (book_of t).grid
      (λ d. weights (in_payload names d) (map_of base file t.records))
      (λ d. weights (in_buffers names d) (map_of base file t.records))
  holds_of_table h p fits =
      let b = table_boundary t in
      let volumes = volumes_of_sizes (sizes t.records) in
      record {
        payload = λ d _. elim (cases_lt d b) [
          | inl low ↦ omega (
            arith,
            settled_of_records d,
            payload_fits t p d low,
            caps-settled_below b d t.header.caps volumes h.caps_full fits low,
          )
          | inr high ↦ omega (
            arith,
            settled_of_records d,
            volumes_of_records d,
            caps-settled_above b d t.header.caps volumes h.caps_full fits high,
            all_settled d high,
          )
        ];
        buffers = λ d. elim (cases_lt d b) [
          | inl low ↦ omega (
            arith,
            buffered_of_records d,
            buffered_fits t p d fits low,
            entered_is_all t h p fits d,
          )
          | inr high ↦ omega (arith, buffered_of_records d, none_buffered d high)
        ];
        balance = λ d _. elim (cases_lt d b) [
          | inl low ↦ omega (
            arith,
            settled_of_records d,
            buffered_of_records d,
            dead_covers t p d fits low,
            entered_is_all t h p fits d,
            caps-settled_below b d t.header.caps volumes h.caps_full fits low,
          )
          | inr high ↦ omega (
            arith,
            settled_of_records d,
            buffered_of_records d,
            none_buffered d high,
            all_settled d high,
            volumes_of_records d,
            caps-settled_above b d t.header.caps volumes h.caps_full fits high,
          )
        ];
      }

pub balanced_of_table : (t : TableInLayout) (base : ℕ) (file : List ℕ) → HasFullRows t → KeepsPlaces t
    → table_boundary t ≤ width → HaveDistinctNames t.records → LieWithin base file t.records
    → IsBalanced t.k (map_of base file t.records) (book_of t)
unfolding names
balanced_of_table t base file h p fits named lie =
    balanced_from t.k (map_of base file t.records) (book_of t)
    (filled_of_table t h p fits (volumes_of_sizes (sizes t.records))
    (length-volumes_of_sizes (sizes t.records))) (holds_of_table t base file named lie h p fits)

-- ---- the table of a file

-- what rises from a name rises from a lesser one
rise_from : (q a : List ℕ) (rs : List Record) → name_cmp q a ≡ Less → RiseFrom (Some a) rs
    → RiseFrom (Some q) rs
rise_from q a [] less h = tt
rise_from q a (r ∷ rs) less h = (
  h.0,
  ap is_lt (name_order.trans q a r.name less (is_less (name_cmp a r.name) h.1)),
  h.2,
)

rise_absent : (q : List ℕ) (rs : List Record) → RiseFrom (Some q) rs → IsAbsent q rs
rise_absent q [] h = tt
rise_absent q (r ∷ rs) h =
    let less : name_cmp q r.name ≡ Less = is_less (name_cmp q r.name) h.1 in
    (ap is_eq less, rise_absent q rs (rise_from q r.name rs less h.2))

rise_names : (before : Option (List ℕ)) (rs : List Record) → RiseFrom before rs → HaveDistinctNames rs
rise_names before [] h = tt
rise_names before (r ∷ rs) h = (rise_absent r.name rs h.2, rise_names (Some r.name) rs h.2)

-- the names of a file's records differ
pub file_names : (file : List ℕ) (t : choice.SlotTable) → choice.table_of file ≡ Ok t
    → HaveDistinctNames t.records
file_names file t is = rise_names None t.records (table_rises file t is)

mapped_at : (f : ℕ → List ℕ) (xs : List ℕ) (i : ℕ) → i < length xs
    → slice_index_or (map f xs) i [] ≡ f (slice_index xs i)
mapped_at f [] i h = absurd (omega arith)
mapped_at f (x ∷ xs) zero h = refl
mapped_at f (x ∷ xs) (suc i) h = mapped_at f xs i (omega arith)

numbers_row : (bytes : List ℕ) (at : ℕ) → IsRow width (numbers_at 32 bytes at)
numbers_row bytes at =
    let long : length (numbers_at 32 bytes at)
    ≡ width = length-map_below (λ i. number_at bytes (at + 8 * i)) 32 in
    record { full = long; zero_above = λ c h. get_or_past (numbers_at 32 bytes at) c 0 (omega (arith, long)) }

header_tables : (bytes : List ℕ) → (length (header_of bytes).caps ≡ width)
    × IsGrid width (header_of bytes).used
header_tables bytes =
    let rows : ℕ → List ℕ = λ j. numbers_at 32 bytes (296 + 256 * j) in
    let long : length (map rows (below 32)) ≡ width = length-map (below 32) rows ∙ length-below 32 in (
      length-map_below (λ i. number_at bytes (40 + 8 * i)) 32,
      record {
        full = long;
        rows = λ j h. subst (IsRow width) (sym
            (mapped_at rows (below 32) j (omega (arith, length-below 32)) ∙ ap rows (below_at 32 j h)))
            (numbers_row bytes (296 + 256 * j));
        zero_above = λ j c h. ap (λ (xs : List ℕ). slice_index xs c)
            (get_or_past (map rows (below 32)) j [] (omega (arith, long)));
      },
    )

-- the lists of numbers of a file's header are whole
pub file_header : (file : List ℕ) (t : choice.SlotTable) → choice.table_of file ≡ Ok t
    → (length t.chosen.header.caps ≡ width) × IsGrid width t.chosen.header.used
file_header file t is =
    let parts = chosen_parts file t.chosen (table_chosen file t is).0 in
    let u = parts.in_use in
    let bytes = bytes_at file (slot_at u.block.names u.slot) header_len in
    subst (λ (h : Header). (length h.caps ≡ width) × IsGrid width h.used)
    (header_tests u.block.names bytes t.chosen.header parts.header_read).of (header_tables bytes)

-- digests have no part in it
balanced_with : (k : ℕ) (m : Map) (digests : Option Map) (book : Book) → IsBalanced k m book
    → IsBalanced k m (with_digests digests book)
balanced_with k m digests book b = record {
  caps_full = b.caps_full;
  grid_full = b.grid_full;
  rows = b.rows;
  lower = b.lower;
  entry = b.entry;
  full = b.full;
  payload = b.payload;
  buffers = b.buffers;
  balance = b.balance;
}

pub balanced_of_file : (classes size_max : ℕ) (t : choice.SlotTable) (file : List ℕ) (m : Map) (book : Book)
    → classes ≤ width → OpensBy classes size_max t file m book → IsBalanced t.chosen.block.k m book
balanced_of_file classes size_max t file m book few opens =
    let placed = placed_table classes size_max file t in
    let base = head_len t.chosen.block.names in
    let long : base ≤ length file = chosen_long file t.chosen (table_chosen file t opens.read).0 in
    let header = file_header file t opens.read in
    let tables : HasFullRows placed = record { caps_full = header.0; grid_full = header.1; classes = few } in
    let lie : LieWithin base file t.records = λ i within.
    let r = slice_index_or t.records i no_record in
    omega (
      arith,
      long,
      opens.valid.0.within i (omega arith),
      cond-true (nat_lt i (length t.records)) (end_of_record r) (last_end placed placed.header.kind)
          (lt-ltb i (length t.records) within),
    ) in
    let made : IsBalanced t.chosen.block.k (map_of base file t.records) (book_of placed) =
    balanced_of_table placed base file tables opens.valid.0.places
    (bound_fits placed tables opens.valid.0) (file_names file t opens.read) lie in
    subst (λ n. IsBalanced t.chosen.block.k n book) (sym opens.same_map)
    (subst (IsBalanced t.chosen.block.k (map_of base file t.records)) (sym opens.same_book)
    (balanced_with t.chosen.block.k (map_of base file t.records) t.digests (book_of placed) made))

pub tight_of_file : (classes size_max : ℕ) (t : choice.SlotTable) (file : List ℕ) (m : Map) (book : Book)
    (cs : List Change) → classes ≤ width → OpensBy classes size_max t file m book
    → Tight t.chosen.block.k (book_end t.chosen.block.k (book_after t.chosen.block.k m book cs))
    (map_after m cs)
tight_of_file classes size_max t file m book cs few opens =
    tight_over t.chosen.block.k m book cs (balanced_of_file classes size_max t file m book few opens)
