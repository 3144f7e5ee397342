-- A slot in use and its table rest on a few parts of the file, whatever else is changed.
use Rattle.std.specs.Prelude.{◌≡◌, ℕ, zero, suc, ◌+◌, ◌-◌, ◌<◌, ◌≤◌, ◌==◌, Bool, true, List, length, slice_index, Ok}
use Rattle.std.proofs.Common.{◌∙◌, ap, arith, sym, subst}
use Rattle.std.specs.Int.{w64, from_le_bytes}
use Rattle.byte_ranges.specs.Ranges.{SameBelow, SameOutside, SameWithin, bytes_at}
use Rattle.byte_ranges.proofs.RangeLaws.{bytes_at-same}
use Rattle.slot_codec.specs.Choice.{Chosen, InUse, chosen_in, is_open, placed_at, sequence_at, slot_in}
use Rattle.slot_codec.specs.Reading.{header_in, superblock_in}
use Rattle.slot_codec.specs.Spelling.{format_gate_at, gate_at, gate_open, head_len, header_len, slot_at, slot_len, superblock_len}
use Rattle.slot_codec.specs.declared.codec.Header.{Header}
use Rattle.slot_codec.proofs.ChoiceLaws.{by_slot_in, chosen_of, chosen_parts_in, slot_low}
use Rattle.slot_codec.proofs.PickLaws.{InUsePartsIn, in_use_from_in, in_use_parts_in}
use Rattle.slot_codec.proofs.StepLaws.{bind_from, from_ok}

-- The parts: the superblock, the slot up to a position, its gate, and the gate of the format.
pub record KeepsSlot (u : InUse) (end : ℕ) (a b : List ℕ) : Type 0 where
  pub long : head_len u.block.names ≤ length b
  pub front : SameWithin 0 superblock_len a b
  pub slot : SameWithin (slot_at u.block.names u.slot) end a b
  pub gate : slice_index a (gate_at u.block.names u.slot) ≡ slice_index b (gate_at u.block.names u.slot)
  pub format : slice_index a (format_gate_at u.block.names) ≡ slice_index b (format_gate_at u.block.names)

pub keeps-trans : (u : InUse) (end : ℕ) (a b c : List ℕ) → KeepsSlot u end a b → KeepsSlot u end b c
    → KeepsSlot u end a c
keeps-trans u end a b c h k = record {
  long = k.long;
  front = λ i low high. h.front i low high ∙ k.front i low high;
  slot = λ i low high. h.slot i low high ∙ k.slot i low high;
  gate = h.gate ∙ k.gate;
  format = h.format ∙ k.format;
}

-- as far as a part of the slot
pub keeps-shorter : (u : InUse) (end less : ℕ) (a b : List ℕ) → less ≤ end → KeepsSlot u end a b
    → KeepsSlot u less a b
keeps-shorter u end less a b low h = record {
  long = h.long;
  front = h.front;
  slot = λ i from to. h.slot i from (omega (arith, to, low));
  gate = h.gate;
  format = h.format;
}

-- where all below the data part is alike
pub keeps-below : (u : InUse) (a b : List ℕ) → u.slot ≤ 1 → head_len u.block.names ≤ length b
    → SameBelow (head_len u.block.names) a b → KeepsSlot u (gate_at u.block.names u.slot) a b
keeps-below u a b one long same =
    let within = slot_low u.block.names u.slot one in
    record {
      long = long;
      front = λ i low high. same i (omega (arith, high));
      slot = λ i low high. same i (omega (arith, high, within));
      gate = same (gate_at u.block.names u.slot) (omega (arith, within));
      format = same (format_gate_at u.block.names) (omega arith);
    }

-- where the other slot is written
pub keeps-beside : (u : InUse) (at n : ℕ) (a b : List ℕ) → u.slot ≤ 1 → head_len u.block.names ≤ length a
    → slot_at u.block.names (1 - u.slot) ≤ at
    → at + n ≤ slot_at u.block.names (1 - u.slot) + slot_len u.block.names → SameOutside at n a b
    → KeepsSlot u (gate_at u.block.names u.slot) a b
keeps-beside u at n a b one long low high same = by_slot u.slot one low high
  where
    names : ℕ
    names = u.block.names

    by_slot : (slot : ℕ) → slot ≤ 1 → slot_at names (1 - slot) ≤ at
        → at + n ≤ slot_at names (1 - slot) + slot_len names
        → KeepsSlot (record u { slot = slot }) (gate_at names slot) a b
    by_slot zero one low high = record {
      long = omega (arith, long, same.same_length);
      front = λ i from to. same.below i (omega (arith, low, to));
      slot = λ i from to. same.below i (omega (arith, low, to));
      gate = same.below (gate_at names 0) (omega (arith, low));
      format = same.above (format_gate_at names) (omega (arith, high));
    }
    by_slot (suc zero) one low high = record {
      long = omega (arith, long, same.same_length);
      front = λ i from to. same.below i (omega (arith, low, to));
      slot = λ i from to. same.above i (omega (arith, high, from));
      gate = same.above (gate_at names 1) (omega (arith, high));
      format = same.above (format_gate_at names) (omega (arith, high));
    }
    by_slot (suc (suc k)) one low high = absurd (omega (arith, one))

-- where the slot is written behind a position, in front of its gate
pub keeps-behind : (u : InUse) (end at n : ℕ) (a b : List ℕ) → head_len u.block.names ≤ length a → u.slot ≤ 1
    → slot_at u.block.names u.slot ≤ at → end ≤ at → at + n ≤ gate_at u.block.names u.slot
    → SameOutside at n a b → KeepsSlot u end a b
keeps-behind u end at n a b long one low behind high same =
    let within = slot_low u.block.names u.slot one in
    record {
      long = omega (arith, long, same.same_length);
      front = λ i from to. same.below i (omega (arith, low, to));
      slot = λ i from to. same.below i (omega (arith, to, behind));
      gate = same.above (gate_at u.block.names u.slot) high;
      format = same.above (format_gate_at u.block.names) (omega (arith, high, within));
    }

-- ---- what rests on them

-- a part of the slot
pub part_same : (u : InUse) (end at n : ℕ) (a b : List ℕ) → u.slot ≤ 1 → head_len u.block.names ≤ length a
    → KeepsSlot u end a b → slot_at u.block.names u.slot ≤ at → at + n ≤ end
    → end ≤ gate_at u.block.names u.slot → bytes_at b at n ≡ bytes_at a at n
part_same u end at n a b one long keeps low high in_slot =
    let within = slot_low u.block.names u.slot one in
    sym (bytes_at-same a b at n (omega (arith, high, in_slot, within, long))
    (omega (arith, high, in_slot, within, keeps.long))
    (λ i from to. keeps.slot i (omega (arith, low, from)) (omega (arith, high, to))))

-- the slot stays in use while the other one is closed, or has a sequence that is less
pub shown : (u : InUse) (end : ℕ) (other : Bool) (a b : List ℕ) → slot_in true a ≡ Ok u
    → KeepsSlot u end a b → slot_at u.block.names u.slot + header_len ≤ end
    → end ≤ gate_at u.block.names u.slot
    → is_open b (gate_at u.block.names (1 - u.slot)) ≡ other
    → (other ≡ true → sequence_at b u.block.names (1 - u.slot) < u.sequence)
    → slot_in true b ≡ Ok (record u { other_open = other })
shown u end other a b in_use keeps some high gate newer =
    let p = in_use_parts_in true a u in_use in
    let names = u.block.names in
    let front : bytes_at b 0 superblock_len ≡ bytes_at a 0 superblock_len =
    sym (bytes_at-same a b 0 superblock_len (omega (arith, p.long)) (omega (arith, keeps.long))
    (λ i low high. keeps.front i low (omega (arith, high)))) in
    let sequence = part_same u end (slot_at names u.slot + 8) 8 a b p.slot p.long keeps (omega arith)
    (omega (arith, some)) high in
    let parts : InUsePartsIn true b (record u { other_open = other }) = record {
      block = ap (superblock_in true) front ∙ p.block;
      long = keeps.long;
      formatted = ap (λ x. x == gate_open) (sym keeps.format) ∙ p.formatted;
      slot = p.slot;
      gate = ap (λ x. x == gate_open) (sym keeps.gate) ∙ p.gate;
      sequence = ap (from_le_bytes w64) sequence ∙ p.sequence;
      other = gate;
      newer = newer;
    } in
    in_use_from_in true b (record u { other_open = other }) parts

-- a choice is that of the slot in use and its header
pub chosen_in_use : (file : List ℕ) (u : InUse) (c : Chosen) → slot_in true file ≡ Ok u
    → chosen_in true file ≡ Ok c → (c.block ≡ u.block) × (c.slot ≡ u.slot)
chosen_in_use file u c in_use is =
    let p = chosen_parts_in true file c is in
    let same : p.in_use ≡ u = from_ok p.in_use u (sym p.slot_read ∙ in_use) in
    (p.same_block ∙ ap (λ x. x.block) same, p.same_slot ∙ ap (λ x. x.slot) same)

-- the choice of a file whose slot in use has a header
pub chosen_from : (file : List ℕ) (u : InUse) (h : Header) → slot_in true file ≡ Ok u
    → header_in true u.block.names (bytes_at file (slot_at u.block.names u.slot) header_len) ≡ Ok h
    → chosen_in true file ≡ Ok (chosen_of u h)
chosen_from file u h in_use read =
    bind_from (slot_in true file) (by_slot_in true file) u in_use
    ∙ bind_from _ (λ header. Ok (chosen_of u header)) h (ap (placed_at (slot_at u.block.names u.slot)) read)

-- the slot's header is chosen still
pub chosen_kept : (u : InUse) (end : ℕ) (other : Bool) (c : Chosen) (a b : List ℕ) → slot_in true a ≡ Ok u
    → chosen_in true a ≡ Ok c → KeepsSlot u end a b → slot_at u.block.names u.slot + header_len ≤ end
    → end ≤ gate_at u.block.names u.slot → slot_in true b ≡ Ok (record u { other_open = other })
    → chosen_in true b ≡ Ok c
chosen_kept u end other c a b in_use is keeps some high now =
    let parts = in_use_parts_in true a u in_use in
    let p = chosen_parts_in true a c is in
    let same : p.in_use ≡ u = from_ok p.in_use u (sym p.slot_read ∙ in_use) in
    let at : InUse → ℕ = λ v. slot_at v.block.names v.slot in
    let read_a : header_in true u.block.names (bytes_at a (at u) header_len) ≡ Ok c.header =
    subst (λ (v : InUse). header_in true v.block.names (bytes_at a (at v) header_len) ≡ Ok c.header) same
    p.header_read in
    let header = part_same u end (at u) header_len a b parts.slot parts.long keeps (omega arith) some high in
    let e = chosen_in_use a u c in_use is in
    let again : chosen_of u c.header ≡ c =
    λ i. record { block = sym e.0 i; slot = sym e.1 i; header = c.header } in
    chosen_from b (record u { other_open = other }) c.header now
    (ap (header_in true u.block.names) header ∙ read_a)
    ∙ ap (λ x. Ok x) again
