-- What is written of a table that is to have a log behind it.
use Rattle.std.proofs.Common.{◌≡◌, ℕ, ◌+◌, ◌-◌, ◌*◌, ◌<◌, ◌≤◌, List, [], ◌∷◌, ◌++◌, length, take, drop, refl, sym, ap, ◌∙◌, arith, append_assoc, length-append}
use Rattle.std.proofs.lemmas.Bool.{cond-true, lt-ltb}
use Rattle.std.proofs.lemmas.Grind.{flat_map-append}
use Rattle.std.proofs.lemmas.List.{drop_at, length-replicate, take-replicate, take-take, take_all, take_at}
use Rattle.std.proofs.Math.Seq.{take-add}
use Rattle.std.specs.Prelude.{flat_map, get_or, nat_lt, slice_index}
use Rattle.byte_ranges.specs.Ranges.{SameOutside, bytes_at, overwritten}
use Rattle.byte_ranges.proofs.RangeLaws.{bytes_at-append, bytes_at-index, bytes_at-overwritten, bytes_at-same, length-bytes_at, length-overwritten, overwritten-below}
use Rattle.byte_ranges.proofs.ListLaws.{zeros_at}
use Rattle.slot_codec.specs.Spelling.{header_bytes, record_bytes, record_len, zeros}
use Rattle.slot_codec.specs.declared.codec.Header.{Header}
use Rattle.slot_codec.specs.declared.codec.Record.{Record}
use Rattle.slot_pair.specs.Bases.{HasBase, first_gate_at, gap_at, lead_len}
use Rattle.slot_pair.specs.Saves.{HasTable}

-- a record with its digest
pub long_len : 112 ≡ record_len 2
unfolding record_len
long_len = refl

longest : record_len 3 ≡ 112
unfolding record_len
longest = refl

no_records : (rs : List Record) → length rs ≡ 0 → rs ≡ []
no_records [] none = refl
no_records (r ∷ rs) none = absurd (omega (arith, none))

-- a piece that is written behind what stands at a position
pub then_written : (file after piece front : List ℕ) (at m : ℕ) → at + m + length piece ≤ length file
    → bytes_at file at m ≡ front → after ≡ overwritten file (at + m) piece
    → bytes_at after at (m + length piece) ≡ front ++ piece
then_written file after piece front at m within before written =
    let same_length : length after ≡ length file =
    ap length written ∙ length-overwritten file (at + m) piece within in
    let kept : bytes_at after at m ≡ bytes_at file at m =
    bytes_at-same after file at m (omega (arith, within, same_length)) (omega (arith, within))
    (λ i low high. ap (λ xs. get_or xs i 0) written ∙ overwritten-below file (at + m) piece i within high) in
    let back : bytes_at after (at + m) (length piece) ≡ piece =
    ap (λ xs. bytes_at xs (at + m) (length piece)) written ∙ bytes_at-overwritten file (at + m) piece within
    in
    bytes_at-append after at m (length piece)
    ∙ ap (λ xs. xs ++ bytes_at after (at + m) (length piece)) (kept ∙ before)
    ∙ ap (λ xs. front ++ xs) back

-- the last records, and zeros behind them
pub last_written : (spell : Record → List ℕ) (file after text : List ℕ) (rs : List Record)
    (at first n lead : ℕ) → at + (112 * length rs + lead) ≤ length file → first + n ≡ length rs
    → bytes_at file at (112 * first) ≡ flat_map spell (take first rs)
    → text ≡ flat_map spell (take n (drop first rs)) → length text ≡ 112 * n
    → after ≡ overwritten file (at + 112 * first) (text ++ zeros lead)
    → bytes_at after at (112 * length rs + lead) ≡ flat_map spell rs ++ zeros lead
last_written spell file after text rs at first n lead within all before is long written =
    let piece : List ℕ = text ++ zeros lead in
    let length-piece : length piece ≡ 112 * n + lead =
    omega (arith, length-append text (zeros lead), length-replicate {A = ℕ} lead 0, long) in
    let whole : 112 * first + length piece ≡ 112 * length rs + lead = omega (arith, length-piece, all) in
    let joined : flat_map spell (take first rs) ++ text ≡ flat_map spell rs =
    ap (λ xs. flat_map spell (take first rs) ++ xs) is
    ∙ sym (flat_map-append spell (take first rs) (take n (drop first rs)))
    ∙ ap (flat_map spell) (sym (take-add first n rs) ∙ ap (λ (k : ℕ). take k rs) all
    ∙ take_all (length rs) rs (omega arith)) in
    ap (bytes_at after at) (sym whole)
    ∙ then_written file after piece (flat_map spell (take first rs)) at (112 * first)
    (omega (arith, within, whole)) before written
    ∙ sym (append_assoc (flat_map spell (take first rs)) text (zeros lead))
    ∙ ap (λ xs. xs ++ zeros lead) joined

-- two pieces that stand beside each other
halves : (file xs ys : List ℕ) (at m n : ℕ) → at + (m + n) ≤ length file → length ys ≡ n
    → bytes_at file at (m + n) ≡ xs ++ ys → (bytes_at file at m ≡ xs) × (bytes_at file (at + m) n ≡ ys)
halves file xs ys at m n within long is =
    let front : List ℕ = bytes_at file at m in
    let back : List ℕ = bytes_at file (at + m) n in
    let both : front ++ back ≡ xs ++ ys = sym (bytes_at-append file at m n) ∙ is in
    let length-front : length front ≡ m = length-bytes_at file at m (omega (arith, within)) in
    let length-xs : length xs ≡ m = omega (
      arith,
      ap length is,
      length-append xs ys,
      long,
      length-bytes_at file at (m + n) within,
    ) in (
      sym (take_at front back m length-front) ∙ ap (take m) both ∙ take_at xs ys m length-xs,
      sym (drop_at front back m length-front) ∙ ap (drop m) both ∙ drop_at xs ys m length-xs,
    )

-- what leads to the first gate
lead_inside : (at top count lead : ℕ) → lead ≡ lead_len at top count → first_gate_at at count < top
    → gap_at at count + lead ≡ first_gate_at at count + 1
lead_inside at top count lead is below =
    let on = lt-ltb (first_gate_at at count) top below in
    let len : lead ≡ first_gate_at at count + 1 - gap_at at count =
    is
    ∙ cond-true (nat_lt (first_gate_at at count) top) (first_gate_at at count + 1 - gap_at at count) 0 on
    in
    omega (arith, len)

-- zeros behind a table are the gap and the gate
has_base : (file : List ℕ) (at top lead : ℕ) (h : Header) (rs : List Record) → HasTable at h rs file
    → lead ≡ lead_len at top (length rs) → bytes_at file (gap_at at (length rs)) lead ≡ zeros lead
    → HasBase at top h rs file
has_base file at top lead h rs table is stands =
    let from = gap_at at (length rs) in
    let gate = first_gate_at at (length rs) in
    let zero_at : (i : ℕ) → i < lead → slice_index file (from + i) ≡ 0 =
    λ i low. sym (bytes_at-index file from lead i low) ∙ ap (λ xs. slice_index xs i) stands
    ∙ zeros_at lead i in
    record {
      table = table;
      gap = λ below.
          let end = lead_inside at top (length rs) lead is below in
          let inside : gate - from ≤ lead = omega (arith, end) in
          sym (take-take (gate - from) lead (drop from file) inside) ∙ ap (take (gate - from)) stands
          ∙ take-replicate {X = ℕ} (gate - from) lead 0 inside;
      gate = λ below.
          let end = lead_inside at top (length rs) lead is below in
          let here : from + (gate - from) ≡ gate = omega (arith, end) in
          ap (slice_index file) (sym here) ∙ zero_at (gate - from) (omega (arith, end));
    }

-- ---- the table

-- in version 3 records are spelled as in version 2
long_table : (file : List ℕ) (at : ℕ) (h : Header) (rs : List Record) → h.version ≡ 3
    → bytes_at file at 8488 ≡ header_bytes h
    → bytes_at file (at + 8488) (112 * length rs) ≡ flat_map (record_bytes 2) rs → HasTable at h rs file
long_table file at h rs is header records =
    let long : record_len h.version ≡ 112 = ap record_len is ∙ longest in
    record {
      header = header;
      records = ap (λ (n : ℕ). bytes_at file (at + 8488) (n * length rs)) long ∙ records
          ∙ ap (λ (v : ℕ). flat_map (record_bytes v) rs) (sym is);
    }

-- a header alone, and zeros behind it
pub bare_base : (file after text : List ℕ) (at top lead : ℕ) (h : Header) (rs : List Record) → h.version ≡ 3
    → length rs ≡ 0 → lead ≡ lead_len at top (length rs) → at + (8488 + lead) ≤ length file
    → text ≡ header_bytes h → length text ≡ 8488 → after ≡ overwritten file at (text ++ zeros lead)
    → HasBase at top h rs after
bare_base file after text at top lead h rs version none is within header long written =
    let piece : List ℕ = text ++ zeros lead in
    let length-piece : length piece ≡ 8488 + lead =
    omega (arith, length-append text (zeros lead), length-replicate {A = ℕ} lead 0, long) in
    let inside : at + length piece ≤ length file = omega (arith, within, length-piece) in
    let same_length : length after ≡ length file =
    ap length written ∙ length-overwritten file at piece inside in
    let stands : bytes_at after at (8488 + lead) ≡ text ++ zeros lead =
    ap (bytes_at after at) (sym length-piece) ∙ ap (λ xs. bytes_at xs at (length piece)) written
    ∙ bytes_at-overwritten file at piece inside in
    let parts = halves after text (zeros lead) at 8488 lead (omega (arith, within, same_length))
    (length-replicate {A = ℕ} lead 0) stands in
    let here : gap_at at (length rs) ≡ at + 8488 = omega (arith, none) in
    let no_bytes : 112 * length rs ≡ 0 = omega (arith, none) in
    has_base after at top lead h rs
    (long_table after at h rs version (parts.0 ∙ header) (ap (bytes_at after (at + 8488)) no_bytes
    ∙ ap (flat_map (record_bytes 2)) (sym (no_records rs none))))
    is (ap (λ (n : ℕ). bytes_at after n lead) here ∙ parts.1)

-- a header, and then the records and zeros behind it
pub base_written : (file first after : List ℕ) (at top lead : ℕ) (h : Header) (rs : List Record)
    → h.version ≡ 3 → lead ≡ lead_len at top (length rs)
    → at + 8488 + (112 * length rs + lead) ≤ length file → SameOutside at 8488 file first
    → bytes_at first at 8488 ≡ header_bytes h
    → SameOutside (at + 8488) (112 * length rs + lead) first after
    → bytes_at after (at + 8488) (112 * length rs + lead) ≡ flat_map (record_bytes 2) rs ++ zeros lead
    → HasBase at top h rs after
base_written file first after at top lead h rs version is within begun header same text =
    let low : at + 8488 ≤ length first = omega (arith, within, begun.same_length) in
    let kept : bytes_at after at 8488 ≡ bytes_at first at 8488 =
    sym (bytes_at-same first after at 8488 low (omega (arith, low, same.same_length))
    (λ i low high. same.below i high)) in
    let parts = halves after (flat_map (record_bytes 2) rs) (zeros lead) (at + 8488) (112 * length rs) lead
    (omega (arith, within, begun.same_length, same.same_length)) (length-replicate {A = ℕ} lead 0) text in
    has_base after at top lead h rs (long_table after at h rs version (kept ∙ header) parts.0) is parts.1
