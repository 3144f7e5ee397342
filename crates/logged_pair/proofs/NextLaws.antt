-- The pair after a save, and what it costs.
use Rattle.std.specs.Prelude.{◌≡◌, ℕ, ◌+◌, ◌*◌, ◌%◌, ◌<◌, ◌≤◌, ◌&&◌, Bool, true, false, nat_le, nat_lt, not, if◌then◌else◌, List, Ok, refl}
use Rattle.std.proofs.Common.{◌∙◌, ap, arith, inl, inr, sym}
use Rattle.std.proofs.lemmas.Bool.{and_parts, cases_Bool, cond-false, cond-true, le-ltb, leb-true, lt-ltb, ltb-false, ltb-true}
use Rattle.slot_codec.specs.Choice.{is_open, slot_in}
use Rattle.slot_codec.specs.Entries.{entry_len, entry_room, up}
use Rattle.slot_codec.specs.Logs.{first_gate, log_end}
use Rattle.slot_codec.specs.declared.codec.Header.{Header}
use Rattle.slot_codec.specs.declared.entry.EntryHead.{EntryHead}
use Rattle.slot_codec.specs.Spelling.{cap, header_len}
use Rattle.slot_codec.proofs.CapLaws.{cap-low}
use Rattle.slot_codec.proofs.ReadLogLaws.{log_end_place}
use Rattle.slot_pair.specs.Appends.{append_calls}
use Rattle.slot_pair.specs.Bases.{base_calls, closing_calls}
use Rattle.slot_pair.specs.Finding.{IsHeaderIn, chosen_of, in_use_of}
use Rattle.slot_pair.specs.Saves.{save_calls}
use Rattle.slot_pair.specs.declared.find.Found.{Found}
use Rattle.logged_pair.specs.Pairs.{InLog, behind_entries, first_of, in_log, top_of}
use Rattle.logged_pair.specs.Saves.{appended, change_calls, fits, next_in_log, one_if, rewritten}
use Rattle.logged_pair.proofs.AppendPhases.{has_end}
use Rattle.logged_pair.proofs.TableLaws.{in_log_from, log_none, same_first}

-- it has the next sequence
pub next_sequence : (u : InLog) (head : EntryHead) (count : ℕ)
    → (next_in_log u head count).in_use.sequence ≡ u.in_use.sequence + 1
next_sequence u head count = elim (cases_Bool (fits u head count)) [
  | inl on ↦ ap (λ (v : InLog). v.in_use.sequence)
      (cond-true (fits u head count) (appended u head) (rewritten u count) on)
  | inr off ↦ ap (λ (v : InLog). v.in_use.sequence)
      (cond-false (fits u head count) (appended u head) (rewritten u count) off)
]

-- a slot has room for so few records
pub few_records : (v w : InLog) (count : ℕ) → v ≡ w → v.in_use.block.names ≤ 65536
    → count ≤ cap w.in_use.block.names 3 → count ≤ 65536
few_records v w count is names high =
    omega (arith, ap (λ (u : InLog). u.in_use.block.names) is, names, high, cap-low w.in_use.block.names 3)

-- ---- what a save costs

-- an entry that is no longer than a whole table is written by as few calls
entry_calls : (room len count closed : ℕ) → room ≡ up len → len ≤ header_len + 112 * count → closed ≤ 1
    → append_calls room + closed ≤ save_calls count
entry_calls room len count closed is low one = omega (arith, is, low, one)

closed_once : (b : Bool) → one_if b ≤ 1
closed_once true = omega arith
closed_once false = omega arith

closed_twice : (b : Bool) → closing_calls b ≤ 2
closed_twice true = omega arith
closed_twice false = omega arith

pub no_more_calls : (u : InLog) (head : EntryHead) (count : ℕ) → change_calls u head count ≤ save_calls count
no_more_calls u head count = elim (cases_Bool (fits u head count)) [
  | inl on ↦
      let p = and_parts (nat_lt 0 u.end && nat_le (entry_len head) (header_len + 112 * count))
      (nat_lt (u.end + entry_room head) (top_of u.in_use)) on in
      let q = and_parts (nat_lt 0 u.end) (nat_le (entry_len head) (header_len + 112 * count)) p.0 in
      let low = leb-true (entry_len head) (header_len + 112 * count) q.1 in
      omega (
        arith,
        cond-true (fits u head count) (append_calls (entry_room head) + one_if u.in_use.other_open)
            (closing_calls u.in_use.other_open + base_calls count + 2) on,
        entry_calls (entry_room head) (entry_len head) count (one_if u.in_use.other_open) refl low
            (closed_once u.in_use.other_open),
      )
  | inr off ↦ omega (
    arith,
    cond-false (fits u head count) (append_calls (entry_room head) + one_if u.in_use.other_open)
        (closing_calls u.in_use.other_open + base_calls count + 2) off,
    closed_twice u.in_use.other_open,
  )
]

-- ---- where the next entry stands

pub end_multiple : (file : List ℕ) (u : InLog) → in_log file ≡ Ok u → u.end % 512 ≡ 0
end_multiple file u is = elim (cases_Bool (nat_lt 0 u.end)) [
  | inl some ↦
      let h = has_end file u is (ltb-true 0 u.end some) in
      let low : first_of file h.base < top_of h.base =
      ltb-true (first_of file h.base) (top_of h.base) h.low in
      let place = log_end_place file (top_of h.base) (first_of file h.base) low (omega arith) in
      omega (arith, place.multiple, ap (λ q. q.1) h.ends)
  | inr none ↦ omega (arith, ltb-false 0 u.end none)
]

pub end_below : (file : List ℕ) (u : InLog) → in_log file ≡ Ok u → 0 < u.end → u.end < top_of u.in_use
end_below file u is some =
    let h = has_end file u is some in
    let low : first_of file h.base < top_of h.base =
    ltb-true (first_of file h.base) (top_of h.base) h.low in
    let place = log_end_place file (top_of h.base) (first_of file h.base) low (omega arith) in
    let same : top_of u.in_use ≡ top_of h.base = ap top_of h.same in
    omega (arith, place.below, ap (λ q. q.1) h.ends, same)

-- ---- the pair that is found

pub found_none : (file : List ℕ) (found : Found) (header : Header) → slot_in true file ≡ Ok (in_use_of found)
    → IsHeaderIn true file found header
    → top_of (in_use_of found) ≤ first_gate found.block.names found.slot header.count
    → in_log file
    ≡ Ok (record { in_use = record (in_use_of found) { sequence = header.sequence }; end = 0 })
found_none file found header in_use is high =
    let u = in_use_of found in
    let first = same_first file u (chosen_of found header) in_use is.chosen in
    in_log_from file u _ in_use (log_none file u (ap (λ n. nat_lt n (top_of u)) first.0
    ∙ le-ltb (first_gate found.block.names found.slot header.count) (top_of u) high)
    ∙ ap (λ n. record { in_use = record u { sequence = n }; end = 0 }) (sym is.sequence))

pub found_log : (file : List ℕ) (found : Found) (header : Header) (entries at end : ℕ)
    → slot_in true file ≡ Ok (in_use_of found) → IsHeaderIn true file found header
    → first_gate found.block.names found.slot header.count < top_of (in_use_of found)
    → log_end file (top_of (in_use_of found)) (first_gate found.block.names found.slot header.count)
    ≡ (entries, at) → end ≡ (if is_open file at then 0 else at)
    → in_log file ≡ Ok (record {
      in_use = record (in_use_of found) { sequence = header.sequence + entries };
      end = end;
    })
found_log file found header entries at end in_use is low ends last =
    let u = in_use_of found in
    let first = same_first file u (chosen_of found header) in_use is.chosen in
    let below : nat_lt (first_of file u) (top_of u) ≡ true = ap (λ n. nat_lt n (top_of u)) first.0
    ∙ lt-ltb (first_gate found.block.names found.slot header.count) (top_of u) low in
    in_log_from file u _ in_use (
    cond-false (not (nat_lt (first_of file u) (top_of u))) _ _ (ap not below)
    ∙ ap (λ n. behind_entries file u (log_end file (top_of u) n)) first.0
    ∙ ap (behind_entries file u) ends
    ∙ (λ i. record {
      in_use = record u { sequence = sym is.sequence i + entries };
      end = sym last i;
    })
    )
