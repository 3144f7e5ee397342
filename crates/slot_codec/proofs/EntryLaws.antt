-- The head of an entry of a log has one spelling, and reading is its inverse.
use Rattle.std.proofs.Common.{◌≡◌, ◌↔◌, ℕ, ◌+◌, ◌<◌, ◌≤◌, ◌^◌, true, false, not, ◌&&◌, ◌||◌, List, [], ◌∷◌, ◌++◌, length, take, refl, subst, sym, ap, ◌∙◌, arith, drop-cons}
use Rattle.std.proofs.lemmas.Bool.{and_from, and_parts, le-ltb, lt-ltb, ltb-false, ltb-true, not-false, not_from_true, or_from, or_parts}
use Rattle.std.proofs.lemmas.List.{take_all}
use Rattle.std.specs.Prelude.{nat_lt, slice_index, Ok}
use Rattle.byte_ranges.specs.Ranges.{bytes_at}
use Rattle.byte_ranges.proofs.RangeLaws.{length-bytes_at}
use Rattle.slot_codec.proofs.HeaderLaws.{code_low, kind_code-of, kind_of-code}
use Rattle.slot_codec.proofs.PartLaws.{bytes_at-grown, number_spelled, stands_bytes, stands_index, stands_left, stands_number, stands_right, stands_whole, zeros_are_zeros, zeros_spelled}
use Rattle.slot_codec.specs.Reading.{are_zeros, is_in_range, kind_of, number_at}
use Rattle.slot_codec.specs.Spelling.{AreBytes, kind_code, number, zeros}
use Rattle.slot_codec.proofs.StepLaws.{from_ok, guard_from, guard_ok}
use Rattle.slot_codec.specs.declared.entry.EntryHead.{EntryHead}
use Rattle.slot_codec.specs.declared.codec.CodecFault.TheVariants as fault
use Rattle.slot_codec.specs.Cells.{header_cells}
use Rattle.slot_codec.specs.Entries.{IsEntryHead, entry_head_bytes, entry_head_of, entry_len, entry_room, has_too_many, read_entry_head, up}

-- what bytes have that are read as a head
pub record EntryHeadParts (cap count room : ℕ) (bytes : List ℕ) (h : EntryHead) : Type 0 where
  pub kind : slice_index bytes 0 ≡ kind_code h.kind
  pub boundary : slice_index bytes 1 ≡ h.boundary
  pub padding : are_zeros (bytes_at bytes 2 5) ≡ true
  pub cells : number_at bytes 7 ≡ h.cells
  pub moved : number_at bytes 15 ≡ h.moved
  pub gone : number_at bytes 23 ≡ h.gone
  pub puts : number_at bytes 31 ≡ h.puts
  pub wall : number_at bytes 39 ≡ h.wall
  pub slack : number_at bytes 47 ≡ h.slack
  pub fits : IsEntryHead cap count room h

pub entry_head_parts : (cap count room : ℕ) (bytes : List ℕ) (h : EntryHead) → AreBytes bytes
    → read_entry_head cap count room bytes ≡ Ok h → EntryHeadParts cap count room bytes h
unfolding read_entry_head
entry_head_parts cap count room bytes h are read =
    let o = entry_head_of bytes in
    let kind = guard_ok (nat_lt 1 (slice_index bytes 0)) _ _ h read in
    let padding = guard_ok (not (are_zeros (bytes_at bytes 2 5))) _ _ h kind.1 in
    let many = guard_ok (has_too_many cap count o) _ _ h padding.1 in
    let within = guard_ok (not (nat_lt (entry_room o) room)) _ _ h many.1 in
    let ranges = guard_ok (not (is_in_range o.wall && is_in_range o.slack)) _ _ h within.1 in
    let a = or_parts (nat_lt header_cells o.cells || nat_lt count o.moved || nat_lt count o.gone)
    (nat_lt cap o.puts) many.0 in
    let b = or_parts (nat_lt header_cells o.cells || nat_lt count o.moved) (nat_lt count o.gone) a.0 in
    let c = or_parts (nat_lt header_cells o.cells) (nat_lt count o.moved) b.0 in
    let r = and_parts (is_in_range o.wall) (is_in_range o.slack) (not-false _ ranges.0) in
    let fits : IsEntryHead cap count room o = record {
      boundary = are 1;
      cells = ltb-false header_cells o.cells c.0;
      moved = ltb-false count o.moved c.1;
      gone = ltb-false count o.gone b.1;
      puts = ltb-false cap o.puts a.1;
      within = ltb-true (entry_room o) room (not-false _ within.0);
      wall = ltb-true o.wall (2 ^ 48) r.0;
      slack = ltb-true o.slack (2 ^ 48) r.1;
    } in
    let parts : EntryHeadParts cap count room bytes o = record {
      kind = kind_code-of (slice_index bytes 0) (ltb-false 1 (slice_index bytes 0) kind.0);
      boundary = refl;
      padding = not-false _ padding.0;
      cells = refl;
      moved = refl;
      gone = refl;
      puts = refl;
      wall = refl;
      slack = refl;
      fits = fits;
    } in
    subst (EntryHeadParts cap count room bytes) (from_ok o h ranges.1) parts

first_two : (b : List ℕ) → 2 ≤ length b → bytes_at b 0 2 ≡ slice_index b 0 ∷ slice_index b 1 ∷ []
first_two b long =
    let second = drop-cons b 1 0 (omega (arith, long)) in
    ap (take 2) (drop-cons b 0 0 (omega (arith, long)) ∙ ap (λ xs. slice_index b 0 ∷ xs) second)

-- what is read as a head is its spelling
pub entry_head_spelled : (cap count room : ℕ) (bytes : List ℕ) (h : EntryHead) → length bytes ≡ 55 → AreBytes bytes
    → read_entry_head cap count room bytes ≡ Ok h → bytes ≡ entry_head_bytes h
entry_head_spelled cap count room bytes h long are read =
    let p = entry_head_parts cap count room bytes h are read in
    let two : bytes_at bytes 0 2 ≡ kind_code h.kind ∷ h.boundary ∷ [] = first_two bytes (omega (arith, long))
    ∙ ap (λ x. x ∷ slice_index bytes 1 ∷ []) p.kind ∙ ap (λ x. kind_code h.kind ∷ x ∷ []) p.boundary in
    let padding : bytes_at bytes 2 5 ≡ zeros 5 = zeros_spelled (bytes_at bytes 2 5) p.padding
    ∙ ap zeros (length-bytes_at bytes 2 5 (omega (arith, long))) in
    let part : (at n : ℕ) → at + 8 ≤ 55 → number_at bytes at ≡ n → bytes_at bytes at 8 ≡ number n =
    λ at n low is. sym (number_spelled bytes at are (omega (arith, low, long))) ∙ ap number is in
    let a = bytes_at-grown bytes 2 5 _ _ two padding in
    let b = bytes_at-grown bytes 7 8 _ _ a (part 7 h.cells (omega arith) p.cells) in
    let c = bytes_at-grown bytes 15 8 _ _ b (part 15 h.moved (omega arith) p.moved) in
    let d = bytes_at-grown bytes 23 8 _ _ c (part 23 h.gone (omega arith) p.gone) in
    let e = bytes_at-grown bytes 31 8 _ _ d (part 31 h.puts (omega arith) p.puts) in
    let f = bytes_at-grown bytes 39 8 _ _ e (part 39 h.wall (omega arith) p.wall) in
    let g = bytes_at-grown bytes 47 8 _ _ f (part 47 h.slack (omega arith) p.slack) in
    sym (take_all 55 bytes (omega (arith, long))) ∙ g

-- and what has these parts is read
pub entry_head_from_parts : (cap count room : ℕ) (bytes : List ℕ) (h : EntryHead)
    → EntryHeadParts cap count room bytes h → read_entry_head cap count room bytes ≡ Ok h
unfolding read_entry_head
entry_head_from_parts cap count room bytes h p =
    let code = code_low h.kind in
    let kind : nat_lt 1 (slice_index bytes 0) ≡ false = le-ltb 1 _ (omega (arith, p.kind, code)) in
    let cells : nat_lt header_cells (number_at bytes 7) ≡ false =
    le-ltb header_cells _ (omega (arith, p.cells, p.fits.cells)) in
    let moved : nat_lt count (number_at bytes 15) ≡ false =
    le-ltb count _ (omega (arith, p.moved, p.fits.moved)) in
    let gone : nat_lt count (number_at bytes 23) ≡ false =
    le-ltb count _ (omega (arith, p.gone, p.fits.gone)) in
    let puts : nat_lt cap (number_at bytes 31) ≡ false = le-ltb cap _ (omega (arith, p.puts, p.fits.puts)) in
    let len : entry_len (entry_head_of bytes) ≡ entry_len h =
    omega (arith, p.cells, p.moved, p.gone, p.puts) in
    let within : nat_lt (entry_room (entry_head_of bytes)) room ≡ true =
    ap (λ n. nat_lt (up n) room) len ∙ lt-ltb (entry_room h) room p.fits.within in
    let wall : nat_lt (number_at bytes 39) (2 ^ 48) ≡ true =
    lt-ltb _ (2 ^ 48) (omega (arith, p.wall, p.fits.wall)) in
    let slack : nat_lt (number_at bytes 47) (2 ^ 48) ≡ true =
    lt-ltb _ (2 ^ 48) (omega (arith, p.slack, p.fits.slack)) in
    let is_kind : kind_of (slice_index bytes 0) ≡ h.kind = ap kind_of p.kind ∙ kind_of-code h.kind in
    guard_from _ fault.Kind _ kind
    ∙ guard_from _ fault.Zeros _ (not_from_true _ p.padding)
    ∙ guard_from _ fault.Count _ (or_from _ _ (or_from _ _ (or_from _ _ cells moved) gone) puts)
    ∙ guard_from _ fault.Entry _ (not_from_true _ within)
    ∙ guard_from _ fault.Range _ (not_from_true _ (and_from _ _ wall slack))
    ∙ λ i. Ok (record {
      kind = is_kind i;
      boundary = p.boundary i;
      cells = p.cells i;
      moved = p.moved i;
      gone = p.gone i;
      puts = p.puts i;
      wall = p.wall i;
      slack = p.slack i;
    })

-- the spelling of a head is read as it
pub entry_head_read : (cap count room : ℕ) (h : EntryHead) → cap < 2 ^ 64 → count < 2 ^ 64
    → IsEntryHead cap count room h → read_entry_head cap count room (entry_head_bytes h) ≡ Ok h
entry_head_read cap count room h few_cap few fits =
    let bytes = entry_head_bytes h in
    let p0 = kind_code h.kind ∷ h.boundary ∷ [] in
    let f1 = p0 ++ zeros 5 in
    let f2 = f1 ++ number h.cells in
    let f3 = f2 ++ number h.moved in
    let f4 = f3 ++ number h.gone in
    let f5 = f4 ++ number h.puts in
    let f6 = f5 ++ number h.wall in
    let all = stands_whole bytes in
    let s6 = stands_left bytes 0 f6 (number h.slack) all in
    let s5 = stands_left bytes 0 f5 (number h.wall) s6 in
    let s4 = stands_left bytes 0 f4 (number h.puts) s5 in
    let s3 = stands_left bytes 0 f3 (number h.gone) s4 in
    let s2 = stands_left bytes 0 f2 (number h.moved) s3 in
    let s1 = stands_left bytes 0 f1 (number h.cells) s2 in
    let s0 = stands_left bytes 0 p0 (zeros 5) s1 in
    entry_head_from_parts cap count room bytes h
    record {
      kind = stands_index bytes 0 (kind_code h.kind) (h.boundary ∷ []) s0;
      boundary = stands_index bytes 1 h.boundary []
          (stands_right bytes 0 1 (kind_code h.kind ∷ []) (h.boundary ∷ []) refl s0);
      padding = ap are_zeros (stands_bytes bytes 2 5 (zeros 5) refl
          (stands_right bytes 0 2 p0 (zeros 5) refl s1)) ∙ zeros_are_zeros 5;
      cells = stands_number bytes 7 h.cells (omega (arith, fits.cells))
          (stands_right bytes 0 7 f1 (number h.cells) refl s2);
      moved = stands_number bytes 15 h.moved (omega (arith, fits.moved, few))
          (stands_right bytes 0 15 f2 (number h.moved) refl s3);
      gone = stands_number bytes 23 h.gone (omega (arith, fits.gone, few))
          (stands_right bytes 0 23 f3 (number h.gone) refl s4);
      puts = stands_number bytes 31 h.puts (omega (arith, fits.puts, few_cap))
          (stands_right bytes 0 31 f4 (number h.puts) refl s5);
      wall = stands_number bytes 39 h.wall (omega (arith, fits.wall))
          (stands_right bytes 0 39 f5 (number h.wall) refl s6);
      slack = stands_number bytes 47 h.slack (omega (arith, fits.slack))
          (stands_right bytes 0 47 f6 (number h.slack) refl all);
      fits = fits;
    }

-- bytes are read as a head exactly where they are the spelling of one in range
pub entry_head_exact : (cap count room : ℕ) (bytes : List ℕ) (h : EntryHead) → cap < 2 ^ 64 → count < 2 ^ 64
    → length bytes ≡ 55 → AreBytes bytes
    → (read_entry_head cap count room bytes ≡ Ok h) ↔ (IsEntryHead cap count room h × (bytes ≡ entry_head_bytes h))
entry_head_exact cap count room bytes h few_cap few long are = (
  λ read. (
    (entry_head_parts cap count room bytes h are read).fits,
    entry_head_spelled cap count room bytes h long are read,
  ),
  λ s. ap (read_entry_head cap count room) s.1 ∙ entry_head_read cap count room h few_cap few s.0,
)
