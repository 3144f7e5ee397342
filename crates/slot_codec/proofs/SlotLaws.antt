-- The slot in use stays in use, whatever stands in the other slot, until that is open and newer.
use Rattle.std.proofs.Common.{◌≡◌, ℕ, zero, suc, ◌+◌, ◌-◌, ◌*◌, ◌<◌, ◌≤◌, ◌^◌, ◌==◌, Bool, true, false, List, length, refl, sym, ap, ◌∙◌, arith}
use Rattle.std.specs.Int.{w64, from_le_bytes}
use Rattle.std.specs.Prelude.{slice_index, Ok}
use Rattle.byte_ranges.specs.Ranges.{SameBelow, SameOutside, SameWithin, bytes_at}
use Rattle.byte_ranges.proofs.RangeLaws.{bytes_at-same}
use Rattle.slot_codec.specs.Choice.{Chosen, InUse, chosen, is_open, placed_at, records_at, records_text, sequence_at, slot_in_use}
use Rattle.slot_codec.proofs.ChoiceLaws.{by_slot, chosen_long, chosen_of, chosen_parts, in_use_slot, slot_low}
use Rattle.slot_codec.proofs.CapLaws.{records_fit}
use Rattle.slot_codec.proofs.HeaderLaws.{header_read, header_tests}
use Rattle.slot_codec.proofs.PickLaws.{InUseParts, in_use_from, in_use_parts}
use Rattle.slot_codec.specs.Readable.{IsHeader}
use Rattle.slot_codec.specs.Reading.{read_header, read_superblock}
use Rattle.slot_codec.specs.Slots.{SameButSlot, opened_beside}
use Rattle.slot_codec.specs.Spelling.{format_gate_at, gate_at, gate_open, head_len, header_bytes, header_len, record_len, slot_at, slot_len, superblock_len}
use Rattle.slot_codec.proofs.StepLaws.{bind_from}
use Rattle.slot_codec.specs.declared.codec.Header.{Header}
use Rattle.slot_codec.specs.declared.codec.SuperBlock.{SuperBlock}

pub SameButSlot-trans : (names slot : ℕ) (a b c : List ℕ) → SameButSlot names slot a b
    → SameButSlot names slot b c → SameButSlot names slot a c
SameButSlot-trans names slot a b c h k =
    record {
      before = λ i low. h.before i low ∙ k.before i low;
      after = λ i low high. h.after i low high
          ∙ k.after i low high;
    }

-- what is written within a slot
pub SameButSlot-written : (names slot at n : ℕ) (a b : List ℕ) → slot_at names slot ≤ at
    → at + n ≤ slot_at names slot + slot_len names → SameOutside at n a b → SameButSlot names slot a b
SameButSlot-written names slot at n a b low high same =
    record {
      before = λ i l. same.below i (omega (arith, l, low));
      after = λ i l h. same.above i (omega (arith, l, high));
    }

-- what is changed in the data part
pub SameButSlot-below : (names slot : ℕ) (a b : List ℕ) → slot ≤ 1 → SameBelow (head_len names) a b
    → SameButSlot names slot a b
SameButSlot-below names zero a b low same =
    record { before = λ i l. same i (omega (arith, l)); after = λ i l h. same i h }
SameButSlot-below names (suc zero) a b low same =
    record { before = λ i l. same i (omega (arith, l)); after = λ i l h. same i h }
SameButSlot-below names (suc (suc n)) a b low same = absurd (omega (arith, low))

-- what stands outside the slot is kept
front_kept : (names slot : ℕ) (a b : List ℕ) → SameButSlot names slot a b → SameWithin 0 superblock_len a b
front_kept names slot a b same = λ i l h. same.before i (omega (arith, h))

format_kept : (names slot : ℕ) (a b : List ℕ) → slot ≤ 1 → SameButSlot names slot a b
    → slice_index a (format_gate_at names) ≡ slice_index b (format_gate_at names)
format_kept names zero a b low same = same.after (format_gate_at names) (omega arith) (omega arith)
format_kept names (suc zero) a b low same = same.after (format_gate_at names) (omega arith) (omega arith)
format_kept names (suc (suc n)) a b low same = absurd (omega (arith, low))

slot_kept : (names slot : ℕ) (a b : List ℕ) → slot ≤ 1 → SameButSlot names (1 - slot) a b
    → SameWithin (slot_at names slot) (slot_at names slot + slot_len names) a b
slot_kept names zero a b low same = λ i l h. same.before i (omega (arith, h))
slot_kept names (suc zero) a b low same = λ i l h. same.after i (omega (arith, l)) (omega (arith, h))
slot_kept names (suc (suc n)) a b low same = absurd (omega (arith, low))

part_kept : (names slot at n : ℕ) (a b : List ℕ) → slot ≤ 1 → head_len names ≤ length a
    → head_len names ≤ length b → SameButSlot names (1 - slot) a b → slot_at names slot ≤ at
    → at + n ≤ slot_at names slot + slot_len names → bytes_at b at n ≡ bytes_at a at n
part_kept names slot at n a b low in_a in_b same from to =
    let end = slot_low names slot low in
    sym (bytes_at-same a b at n (omega (arith, to, end, in_a)) (omega (arith, to, end, in_b))
    (λ i l h. slot_kept names slot a b low same i (omega (arith, l, from)) (omega (arith, h, to))))

pub other_low : (slot : ℕ) → 1 - slot ≤ 1
other_low slot = omega arith

other_twice : (slot : ℕ) → slot ≤ 1 → 1 - (1 - slot) ≡ slot
other_twice slot low = omega (arith, low)

-- what a file has of a slot that was in use in another
record SlotKept (b : List ℕ) (u : InUse) : Type 0 where
  block : read_superblock (bytes_at b 0 superblock_len) ≡ Ok u.block
  formatted : is_open b (format_gate_at u.block.names) ≡ true
  gate : is_open b (gate_at u.block.names u.slot) ≡ true
  sequence : sequence_at b u.block.names u.slot ≡ u.sequence

-- a file that is alike but for the other slot has it
kept : (a b : List ℕ) (u : InUse) → InUseParts a u → head_len u.block.names ≤ length b
    → SameButSlot u.block.names (1 - u.slot) a b → SlotKept b u
kept a b u p in_b same =
    let n = u.block.names in
    let front : bytes_at b 0 superblock_len ≡ bytes_at a 0 superblock_len =
    sym (bytes_at-same a b 0 superblock_len (omega (arith, p.long)) (omega (arith, in_b))
    (λ i l h. front_kept n (1 - u.slot) a b same i l (omega (arith, h))))
    in
    let format = format_kept n (1 - u.slot) a b (other_low u.slot) same in
    let this = slot_kept n u.slot a b p.slot same (gate_at n u.slot) (omega arith) (omega arith) in
    let sequence = part_kept n u.slot (slot_at n u.slot + 8) 8 a b p.slot p.long in_b same (omega arith)
    (omega arith) in
    record {
      block = ap read_superblock front ∙ p.block;
      formatted = ap (λ x. x == gate_open) (sym format) ∙ p.formatted;
      gate = ap (λ x. x == gate_open) (sym this) ∙ p.gate;
      sequence = ap (from_le_bytes w64) sequence ∙ p.sequence;
    }

kept_parts : (a b : List ℕ) (u : InUse) (other : Bool) → InUseParts a u → head_len u.block.names ≤ length b
    → SameButSlot u.block.names (1 - u.slot) a b → is_open b (gate_at u.block.names (1 - u.slot)) ≡ other
    → (other ≡ true → sequence_at b u.block.names (1 - u.slot) < u.sequence)
    → InUseParts b (record u { other_open = other })
kept_parts a b u other p in_b same gate newer =
    let k = kept a b u p in_b same in
    record {
      block = k.block;
      long = in_b;
      formatted = k.formatted;
      slot = p.slot;
      gate = k.gate;
      sequence = k.sequence;
      other = gate;
      newer = newer;
    }

-- with the other gate closed the slot in use is this one, whatever the other slot holds
pub other_closed : (a b : List ℕ) (u : InUse) → slot_in_use a ≡ Ok u → head_len u.block.names ≤ length b
    → SameButSlot u.block.names (1 - u.slot) a b → is_open b (gate_at u.block.names (1 - u.slot)) ≡ false
    → slot_in_use b ≡ Ok (record u { other_open = false })
other_closed a b u h in_b same gate =
    in_use_from b (record u { other_open = false })
    (kept_parts a b u false (in_use_parts a u h) in_b same gate (λ e. cc))

-- and with the other gate open, as long as the other sequence is less
pub other_older : (a b : List ℕ) (u : InUse) → slot_in_use a ≡ Ok u → head_len u.block.names ≤ length b
    → SameButSlot u.block.names (1 - u.slot) a b → is_open b (gate_at u.block.names (1 - u.slot)) ≡ true
    → sequence_at b u.block.names (1 - u.slot) < u.sequence
    → slot_in_use b ≡ Ok (record u { other_open = true })
other_older a b u h in_b same gate less =
    in_use_from b (record u { other_open = true })
    (kept_parts a b u true (in_use_parts a u h) in_b same gate (λ e. less))

-- with the other gate open and its sequence greater, that slot is in use
pub other_newer : (a b : List ℕ) (u : InUse) → slot_in_use a ≡ Ok u → head_len u.block.names ≤ length b
    → SameButSlot u.block.names (1 - u.slot) a b → is_open b (gate_at u.block.names (1 - u.slot)) ≡ true
    → u.sequence < sequence_at b u.block.names (1 - u.slot) → slot_in_use b ≡ Ok (opened_beside b u)
other_newer a b u h in_b same gate more =
    let n = u.block.names in
    let p = in_use_parts a u h in
    let k = kept a b u p in_b same in
    let back = other_twice u.slot p.slot in
    let parts : InUseParts b (opened_beside b u) =
    record {
      block = k.block;
      long = in_b;
      formatted = k.formatted;
      slot = other_low u.slot;
      gate = gate;
      sequence = refl;
      other = ap (λ s. is_open b (gate_at n s)) back ∙ k.gate;
      newer = λ e. omega (arith, ap (sequence_at b n) back, k.sequence, more);
    }
    in
    in_use_from b (opened_beside b u) parts

-- the choice of a file whose slot in use has a header
pub chosen_from : (file : List ℕ) (u : InUse) (h : Header) → slot_in_use file ≡ Ok u
    → read_header u.block.names (bytes_at file (slot_at u.block.names u.slot) header_len) ≡ Ok h
    → chosen file ≡ Ok (chosen_of u h)
chosen_from file u h in_use read =
    let at = slot_at u.block.names u.slot in
    bind_from (slot_in_use file) (by_slot file) u in_use
    ∙ bind_from _ (λ header. Ok (chosen_of u header)) h (ap (placed_at at) read)

-- and one whose slot in use begins with the spelling of a header in range
pub chosen_written : (file : List ℕ) (u : InUse) (h : Header) → slot_in_use file ≡ Ok u
    → u.block.names < 2 ^ 64 → IsHeader u.block.names h
    → bytes_at file (slot_at u.block.names u.slot) header_len ≡ header_bytes h
    → chosen file ≡ Ok (chosen_of u h)
chosen_written file u h in_use few fits spelled =
    chosen_from file u h in_use (ap (read_header u.block.names) spelled
    ∙ header_read u.block.names h few fits)

-- a file that is alike but for the other slot, and has the same slot in use, has the same choice and the same
-- records
pub chosen_kept : (a b : List ℕ) (c : Chosen) (v : InUse) → chosen a ≡ Ok c
    → head_len c.block.names ≤ length b → SameButSlot c.block.names (1 - c.slot) a b → slot_in_use b ≡ Ok v
    → v.block ≡ c.block → v.slot ≡ c.slot → (chosen b ≡ Ok c) × (records_text b c ≡ records_text a c)
chosen_kept a b c v h in_b same in_use block slot =
    let p = chosen_parts a c h in
    let n = c.block.names in
    let in_a = chosen_long a c h in
    let low : c.slot ≤ 1 = omega (arith, p.same_slot, in_use_slot a p.in_use p.slot_read) in
    let read_a : read_header n (bytes_at a (slot_at n c.slot) header_len) ≡ Ok c.header =
    ap (λ (u : SuperBlock). read_header u.names (bytes_at a (slot_at u.names c.slot) header_len)) p.same_block
    ∙ ap (λ s. read_header p.in_use.block.names (bytes_at a (slot_at p.in_use.block.names s) header_len))
    p.same_slot
    ∙ p.header_read
    in
    let header = part_kept n c.slot (slot_at n c.slot) header_len a b low in_a in_b same (omega arith)
    (omega arith) in
    let read_b : read_header v.block.names (bytes_at b (slot_at v.block.names v.slot) header_len)
    ≡ Ok c.header =
    ap (λ (u : SuperBlock). read_header u.names (bytes_at b (slot_at u.names v.slot) header_len)) block
    ∙ ap (λ s. read_header n (bytes_at b (slot_at n s) header_len)) slot
    ∙ ap (read_header n) header
    ∙ read_a
    in
    let few = (header_tests n (bytes_at a (slot_at n c.slot) header_len) c.header read_a).count in
    let fit = records_fit n c.header.version c.header.count few in
    let text = part_kept n c.slot (records_at c)
    (record_len c.header.version * c.header.count) a b low in_a in_b
    same (omega arith) (omega (arith, fit)) in
    let again : chosen_of v c.header ≡ c =
    λ i. record { block = block i; slot = slot i; header = c.header } in
    (chosen_from b v c.header in_use read_b ∙ ap (λ x. Ok x) again, text)
