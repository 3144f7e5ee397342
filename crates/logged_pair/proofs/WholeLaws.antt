-- What a file stands for while its other slot is written, as long as that slot is closed.
use Rattle.std.specs.Prelude.{◌≡◌, ℕ, ◌+◌, ◌-◌, ◌*◌, ◌≤◌, ◌==◌, nat_lt, Bool, true, false, List, length, None, Ok}
use Rattle.std.proofs.Common.{◌∙◌, ap, arith, inl, inr, subst, sym}
use Rattle.std.proofs.lemmas.Bool.{cases_Bool, ltb-true}
use Rattle.std.specs.Int.{w64, from_le_bytes}
use Rattle.byte_ranges.specs.Ranges.{SameOutside, SameWithin, bytes_at}
use Rattle.byte_ranges.proofs.RangeLaws.{bytes_at-same}
use Rattle.slot_codec.specs.Choice.{Chosen, InUse, is_open, read_records, records_at, sequence_at, slot_in}
use Rattle.slot_codec.specs.Logs.{Logged, behind_log, gap_step}
use Rattle.slot_codec.specs.Spelling.{cap, gate_at, gate_open, head_len, header_len, record_len, room_len, slot_at}
use Rattle.slot_codec.specs.declared.codec.Record.{Record}
use Rattle.slot_codec.proofs.CapLaws.{records_fit}
use Rattle.slot_codec.proofs.ChoiceLaws.{chosen_parts_in, same_in_use_in, slot_low}
use Rattle.slot_codec.proofs.HeaderLaws.{header_tests_in}
use Rattle.slot_codec.proofs.ItemLaws.{items_same}
use Rattle.slot_codec.proofs.PickLaws.{in_use_parts_in}
use Rattle.slot_codec.proofs.ReadLogLaws.{log_place, log_same}
use Rattle.slot_codec.proofs.SlotLaws.{other_low}
use Rattle.slot_pair.specs.Saves.{IsAlikeBelow}
use Rattle.logged_pair.specs.Pairs.{LoggedTable, logged_in}
use Rattle.logged_pair.proofs.KeepLaws.{KeepsSlot, chosen_in_use, chosen_kept, keeps-below, keeps-beside, keeps-trans, shown}
use Rattle.logged_pair.proofs.TableLaws.{behind_from, behind_none, behind_parts, end_of_records, first_at, start_of, table_from, table_parts, top_at}

-- where the other slot begins, and its gate
abbrev pub other_at : InUse → ℕ
other_at u = slot_at u.block.names (1 - u.slot)

abbrev pub other_gate : InUse → ℕ
other_gate u = gate_at u.block.names (1 - u.slot)

-- a file has all of the slot in use of another one
abbrev pub KeepsAll : InUse → List ℕ → List ℕ → Type 0
KeepsAll u a b = KeepsSlot u (gate_at u.block.names u.slot) a b

-- it has it still once the other slot is written
pub beside : (u : InUse) (at n : ℕ) (file before image : List ℕ) → u.slot ≤ 1 → other_at u ≤ at
    → at + n ≤ other_gate u + 1 → KeepsAll u file before → SameOutside at n before image
    → KeepsAll u file image
beside u at n file before image one low high keeps same =
    keeps-trans u (gate_at u.block.names u.slot) file before image keeps
    (keeps-beside u at n before image one keeps.long low (omega (arith, high)) same)

-- two files have the same bytes of a slot, up to its gate
record SameSlot (names slot : ℕ) (a b : List ℕ) : Type 0 where
  in_a : gate_at names slot ≤ length a
  in_b : gate_at names slot ≤ length b
  bytes : SameWithin (slot_at names slot) (gate_at names slot) a b

-- so they have the same log
log_kept : (c : Chosen) (records : List Record) (x : Logged) (a b : List ℕ)
    → SameSlot c.block.names c.slot a b → behind_log a c records ≡ Ok x → behind_log b c records ≡ Ok x
log_kept c records x a b same is =
    let most = cap c.block.names 3 in
    let first = first_at c in
    let top = top_at c in
    let start = start_of c records in
    elim (cases_Bool (nat_lt first top)) [
      | inl on ↦
          let low = ltb-true first top on in
          let l = behind_parts a c records x on is in
          let place = log_place most top a first start x l.end low (omega arith) l.log in
          behind_from b c records x on record {
            gap = sym (items_same gap_step 1 (first - end_of_records c) a b (end_of_records c) first tt
                (omega arith) (omega (arith, low, same.in_a)) (omega (arith, low, same.in_b))
                (λ i from to. same.bytes i (omega (arith, from)) (omega (arith, to, low)))) ∙ l.gap;
            end = l.end;
            log = log_same most top a b first start x l.end (omega (arith, same.in_a))
                (omega (arith, same.in_b)) l.log
                (λ i from to. same.bytes i (omega (arith, from)) (omega (arith, to, place.below)));
          }
      | inr off ↦ behind_none b c records off ∙ sym (behind_none a c records off) ∙ is
    ]

-- a file has a slot in use and a table
pub record Stands (u : InUse) (t : LoggedTable) (file : List ℕ) : Type 0 where
  pub in_use : slot_in true file ≡ Ok u
  pub read : logged_in file ≡ Ok t

-- a file that has all of this slot, and has it in use, has the table
pub whole_kept : (u : InUse) (other : Bool) (t : LoggedTable) (a b : List ℕ) → Stands u t a → KeepsAll u a b
    → slot_in true b ≡ Ok (record u { other_open = other }) → logged_in b ≡ Ok t
whole_kept u other t a b s keeps now =
    let p = table_parts a t s.read in
    let c = p.base in
    let parts = in_use_parts_in true a u s.in_use in
    let within = slot_low u.block.names u.slot parts.slot in
    let e = chosen_in_use a u c s.in_use p.chosen in
    let same : SameSlot u.block.names u.slot a b = record {
      in_a = omega (arith, within, parts.long);
      in_b = omega (arith, within, keeps.long);
      bytes = keeps.slot;
    } in
    let same_c : SameSlot c.block.names c.slot a b =
    subst (λ (x : InUse). SameSlot x.block.names x.slot a b)
    (λ i. record u { block = sym e.0 i; slot = sym e.1 i }) same in
    let q = chosen_parts_in true a c p.chosen in
    let names = q.in_use.block.names in
    let few = (header_tests_in true names (bytes_at a (slot_at names q.in_use.slot) header_len) c.header
    q.header_read).count in
    let fit = records_fit names c.header.version c.header.count few in
    let room : room_len c.block.names ≡ room_len names = ap (λ x. room_len x.names) q.same_block in
    let text = record_len c.header.version * c.header.count in
    let records : bytes_at b (records_at c) text ≡ bytes_at a (records_at c) text =
    sym (bytes_at-same a b (records_at c) text (omega (arith, fit, room, same_c.in_a))
    (omega (arith, fit, room, same_c.in_b))
    (λ i from to. same_c.bytes i (omega (arith, from)) (omega (arith, to, fit, room)))) in
    table_from b c p.records p.behind
    (chosen_kept u (gate_at u.block.names u.slot) other c a b s.in_use p.chosen keeps (omega arith)
    (omega arith) now)
    (ap (λ xs. read_records c.header.version c.header.count xs (records_at c) None) records ∙ p.read)
    (log_kept c p.records p.behind a b same_c p.log)
    ∙ ap Ok p.same

-- A file has all of the slot in use, and the other one is closed.
pub record IsKept (u : InUse) (file image : List ℕ) : Type 0 where
  pub keeps : KeepsAll u file image
  pub closed : is_open image (other_gate u) ≡ false

-- so it is while the other slot is written in front of its gate
pub kept_beside : (u : InUse) (at n : ℕ) (file before image : List ℕ) → u.slot ≤ 1 → other_at u ≤ at
    → at + n ≤ other_gate u → IsKept u file before → SameOutside at n before image → IsKept u file image
kept_beside u at n file before image one low high k same = record {
  keeps = beside u at n file before image one low (omega (arith, high)) k.keeps same;
  closed = ap (λ x. x == gate_open) (sym (same.above (other_gate u) high)) ∙ k.closed;
}

-- then the table is kept
pub closed_kept : (u : InUse) (t : LoggedTable) (file image : List ℕ) → Stands u t file → IsKept u file image
    → logged_in image ≡ Ok t
closed_kept u t file image s k = whole_kept u false t file image s k.keeps
    (shown u (gate_at u.block.names u.slot) false file image s.in_use k.keeps (omega arith) (omega arith)
    k.closed (λ e. cc))

-- and in what is like the file below the data part
pub alike_kept : (u : InUse) (t : LoggedTable) (file image : List ℕ) → Stands u t file
    → IsAlikeBelow (head_len u.block.names) file image → logged_in image ≡ Ok t
alike_kept u t file image s alike =
    let one = (in_use_parts_in true file u s.in_use).slot in
    whole_kept u u.other_open t file image s (keeps-below u file image one alike.long alike.bytes)
    (same_in_use_in true file image u s.in_use alike.long alike.bytes)

-- and in what is like it but for the other gate, where that was open
pub closing_kept : (u : InUse) (t : LoggedTable) (file before image : List ℕ) → Stands u t file
    → u.other_open ≡ true → IsAlikeBelow (head_len u.block.names) file before
    → SameOutside (other_gate u) 1 before image → logged_in image ≡ Ok t
closing_kept u t file before image s opened alike same =
    let parts = in_use_parts_in true file u s.in_use in
    let end = slot_low u.block.names (1 - u.slot) (other_low u.slot) in
    let keeps = beside u (other_gate u) 1 file before image parts.slot (omega arith) (omega arith)
    (keeps-below u file before parts.slot alike.long alike.bytes) same in
    let other = 1 - u.slot in
    let sequence : sequence_at image u.block.names other ≡ sequence_at file u.block.names other =
    ap (from_le_bytes w64) (sym (bytes_at-same file image (other_at u + 8) 8 (omega (arith, end, parts.long))
    (omega (arith, end, keeps.long))
    (λ i low high. alike.bytes i (omega (arith, high, end)) ∙ same.below i (omega (arith, high))))) in
    elim (cases_Bool (is_open image (other_gate u))) [
      | inl on ↦ whole_kept u true t file image s keeps
          (shown u (gate_at u.block.names u.slot) true file image s.in_use keeps (omega arith) (omega arith)
          on (λ e. omega (arith, sequence, parts.newer opened)))
      | inr off ↦ closed_kept u t file image s record { keeps = keeps; closed = off }
    ]
