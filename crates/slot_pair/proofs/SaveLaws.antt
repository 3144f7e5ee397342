-- What a file stands for while the other slot is written, and once its gate is open.
use Rattle.std.proofs.Common.{◌≡◌, ℕ, ◌+◌, ◌-◌, ◌*◌, ◌<◌, ◌≤◌, ◌^◌, ◌==◌, Bool, true, false, List, [], ◌∷◌, ◌++◌, length, flat_map, refl, sym, ap, ◌∙◌, arith, subst}
use Rattle.std.specs.Int.{w64, from_le_bytes}
use Rattle.std.specs.Prelude.{Ok}
use Rattle.byte_ranges.specs.Ranges.{SameFrom, SameOutside, bytes_at}
use Rattle.byte_ranges.proofs.RangeLaws.{SameOutside-trans, SameOutside-wider, bytes_at-same, bytes_at-within}
use Rattle.slot_codec.specs.Choice.{Chosen, InUse, chosen, is_open, sequence_at, slot_in_use}
use Rattle.slot_codec.proofs.ChoiceLaws.{chosen_parts, in_use_long, slot_low}
use Rattle.slot_codec.proofs.PartLaws.{stands_left, stands_number, stands_right, stands_whole}
use Rattle.slot_codec.proofs.PickLaws.{in_use_parts}
use Rattle.slot_codec.specs.Readable.{AreInRange, IsHeader}
use Rattle.slot_codec.specs.Reading.{number_at}
use Rattle.slot_codec.proofs.RecordsLaws.{table_of-written}
use Rattle.slot_codec.specs.Rolls.{HaveDigests, IsRoll}
use Rattle.slot_codec.proofs.SlotLaws.{SameButSlot-below, SameButSlot-trans, SameButSlot-written, chosen_kept, chosen_written, other_closed, other_low, other_newer, other_older}
use Rattle.slot_codec.specs.Slots.{SameButSlot}
use Rattle.slot_codec.specs.Spelling.{gate_at, gate_open, head_len, header_bytes, header_len, kind_code, number, record_len, room_len, slot_at, slot_len, zeros}
use Rattle.slot_codec.proofs.StepLaws.{from_ok}
use Rattle.slot_codec.specs.declared.codec.Header.{Header}
use Rattle.slot_codec.specs.declared.codec.Record.{Record}
use Rattle.slot_codec.specs.declared.codec.SuperBlock.{SuperBlock}
use Rattle.slot_pair.specs.Saves.{HasTable, IsAlikeBelow, IsSaved, KeepsTable, closing_at, closing_len, next_chosen, next_header, next_in_use}

-- what is written within the other slot is outside the data part
data_kept : (u : InUse) (at n : ℕ) (a b : List ℕ)
    → at + n ≤ slot_at u.block.names (1 - u.slot) + slot_len u.block.names → SameOutside at n a b
    → SameFrom (head_len u.block.names) a b
data_kept u at n a b high same =
    let end = slot_low u.block.names (1 - u.slot) (other_low u.slot) in
    record { same_length = same.same_length; bytes = λ i low. same.above i (omega (arith, low, high, end)) }

-- the slot in use and its choice have one block and one slot
chosen_in_use : (file : List ℕ) (u : InUse) (c : Chosen) → slot_in_use file ≡ Ok u → chosen file ≡ Ok c
    → (c.block ≡ u.block) × (c.slot ≡ u.slot)
chosen_in_use file u c in_use is =
    let p = chosen_parts file c is in
    let same : p.in_use ≡ u = from_ok p.in_use u (sym p.slot_read ∙ in_use) in
    (p.same_block ∙ ap (λ x. x.block) same, p.same_slot ∙ ap (λ x. x.slot) same)

-- a table is kept where the slot in use is, and all but the other slot
pub table_kept : (a b : List ℕ) (u v : InUse) (c : Chosen) → slot_in_use a ≡ Ok u → chosen a ≡ Ok c
    → head_len u.block.names ≤ length b → SameButSlot u.block.names (1 - u.slot) a b → slot_in_use b ≡ Ok v
    → v.block ≡ u.block → v.slot ≡ u.slot → KeepsTable c a b
table_kept a b u v c in_use is long same now block slot =
    let e = chosen_in_use a u c in_use is in
    let long_c : head_len c.block.names ≤ length b = omega (arith, ap (λ x. head_len x.names) e.0, long) in
    let same_c : SameButSlot c.block.names (1 - c.slot) a b =
    subst (λ s. SameButSlot c.block.names (1 - s) a b) (sym e.1)
    (subst (λ (x : SuperBlock). SameButSlot x.names (1 - u.slot) a b) (sym e.0) same)
    in
    let kept = chosen_kept a b c v is long_c same_c now (block ∙ sym e.0) (slot ∙ sym e.1) in
    record { same_slot = kept.0; same_records = kept.1 }

-- files that are alike but for the other slot, first by what lies below the data part
alike_beside : (file before image : List ℕ) (u : InUse) (at n : ℕ)
    → IsAlikeBelow (head_len u.block.names) file before → slot_at u.block.names (1 - u.slot) ≤ at
    → at + n ≤ slot_at u.block.names (1 - u.slot) + slot_len u.block.names → SameOutside at n before image
    → SameButSlot u.block.names (1 - u.slot) file image
alike_beside file before image u at n alike low high same =
    SameButSlot-trans u.block.names (1 - u.slot) file before image
    (SameButSlot-below u.block.names (1 - u.slot) file before (other_low u.slot) alike.bytes)
    (SameButSlot-written u.block.names (1 - u.slot) at n before image low high same)

-- a file is like itself
pub alike-refl : (file : List ℕ) (u : InUse) → slot_in_use file ≡ Ok u
    → IsAlikeBelow (head_len u.block.names) file file
alike-refl file u in_use = record { long = in_use_long file u in_use; bytes = λ i low. refl }

-- the other sequence, in a file that is alike below the data part
same_sequence : (file before : List ℕ) (u : InUse) → slot_in_use file ≡ Ok u
    → IsAlikeBelow (head_len u.block.names) file before
    → sequence_at before u.block.names (1 - u.slot) ≡ sequence_at file u.block.names (1 - u.slot)
same_sequence file before u in_use alike =
    let end = slot_low u.block.names (1 - u.slot) (other_low u.slot) in
    let at = slot_at u.block.names (1 - u.slot) + 8 in
    ap (from_le_bytes w64) (sym (bytes_at-same file before at 8
    (omega (arith, end, in_use_long file u in_use)) (omega (arith, end, alike.long))
    (λ i low high. alike.bytes i (omega (arith, high, end)))))

-- the first write of a save, where the other gate is open: the sequence behind it is less
gate_keeps : (file before image : List ℕ) (u : InUse) (c : Chosen) → slot_in_use file ≡ Ok u
    → chosen file ≡ Ok c → u.other_open ≡ true → IsAlikeBelow (head_len u.block.names) file before
    → SameOutside (gate_at u.block.names (1 - u.slot)) 1 before image → KeepsTable c file image
gate_keeps file before image u c in_use is opened alike same =
    by_gate (is_open image (gate_at names other)) refl
  where
    names : ℕ
    names = u.block.names

    other : ℕ
    other = 1 - u.slot

    long : head_len names ≤ length image
    long = omega (arith, alike.long, same.same_length)

    beside : SameButSlot names other file image
    beside = alike_beside file before image u (gate_at names other) 1 alike (omega arith) (omega arith) same

    kept_sequence : sequence_at image names other ≡ sequence_at before names other
    kept_sequence =
        let end = slot_low names other (other_low u.slot) in
        ap (from_le_bytes w64) (sym (bytes_at-same before image (slot_at names other + 8) 8
        (omega (arith, end, alike.long)) (omega (arith, end, long))
        (λ i low high. same.below i (omega (arith, high)))))

    less : sequence_at image names other < u.sequence
    less = omega (
      arith,
      kept_sequence,
      same_sequence file before u in_use alike,
      (in_use_parts file u in_use).newer opened,
    )

    by_gate : (b : Bool) → is_open image (gate_at names other) ≡ b → KeepsTable c file image
    by_gate true gate = table_kept file image u (record u { other_open = true }) c in_use is long beside
        (other_older file image u in_use long beside gate less) refl refl
    by_gate false gate = table_kept file image u (record u { other_open = false }) c in_use is long beside
        (other_closed file image u in_use long beside gate) refl refl

-- and where it is closed: it stays so
pub sequence_closed : (file before image : List ℕ) (u : InUse) → slot_in_use file ≡ Ok u
    → u.other_open ≡ false → IsAlikeBelow (head_len u.block.names) file before
    → SameOutside (slot_at u.block.names (1 - u.slot) + 8) 8 before image
    → is_open image (gate_at u.block.names (1 - u.slot)) ≡ false
sequence_closed file before image u in_use closed alike same =
    let names = u.block.names in
    let gate = gate_at names (1 - u.slot) in
    let end = slot_low names (1 - u.slot) (other_low u.slot) in
    ap (λ x. x == gate_open) (sym (alike.bytes gate (omega (arith, end)) ∙ same.above gate (omega arith)))
    ∙ (in_use_parts file u in_use).other ∙ closed

sequence_keeps : (file before image : List ℕ) (u : InUse) (c : Chosen) → slot_in_use file ≡ Ok u
    → chosen file ≡ Ok c → u.other_open ≡ false → IsAlikeBelow (head_len u.block.names) file before
    → SameOutside (slot_at u.block.names (1 - u.slot) + 8) 8 before image → KeepsTable c file image
sequence_keeps file before image u c in_use is closed alike same =
    let names = u.block.names in
    let long : head_len names ≤ length image = omega (arith, alike.long, same.same_length) in
    let beside = alike_beside file before image u (slot_at names (1 - u.slot) + 8) 8 alike (omega arith)
    (omega arith) same in
    let gate = sequence_closed file before image u in_use closed alike same in
    table_kept file image u (record u { other_open = false }) c in_use is long beside
    (other_closed file image u in_use long beside gate) refl refl

-- the range of the first write lies in the other slot
closing_low : (u : InUse) (b : Bool) → u.other_open ≡ b → slot_at u.block.names (1 - u.slot) ≤ closing_at u
closing_low u true e = rw e (omega arith)
closing_low u false e = rw e (omega arith)

closing_high : (u : InUse) (b : Bool) → u.other_open ≡ b
    → closing_at u + closing_len u ≤ slot_at u.block.names (1 - u.slot) + slot_len u.block.names
closing_high u true e = rw e (omega arith)
closing_high u false e = rw e (omega arith)

-- The first write of a save keeps the table, and all from the data part on.
pub closing_keeps : (file before image : List ℕ) (u : InUse) (c : Chosen) → slot_in_use file ≡ Ok u
    → chosen file ≡ Ok c → IsAlikeBelow (head_len u.block.names) file before
    → SameOutside (closing_at u) (closing_len u) before image → KeepsTable c file image
closing_keeps file before image u c in_use is alike = by_other u.other_open refl
  where
    by_other : (b : Bool) → u.other_open ≡ b → SameOutside (closing_at u) (closing_len u) before image
        → KeepsTable c file image
    by_other true e same = gate_keeps file before image u c in_use is e alike (rw e at same)
    by_other false e same = sequence_keeps file before image u c in_use is e alike (rw e at same)

pub closing_data : (u : InUse) (before image : List ℕ)
    → SameOutside (closing_at u) (closing_len u) before image → SameFrom (head_len u.block.names) before image
closing_data u before image same =
    data_kept u (closing_at u) (closing_len u) before image (closing_high u u.other_open refl) same

-- Only the other slot differs, and its gate is closed.
pub record IsBeside (u : InUse) (file image : List ℕ) : Type 0 where
  pub same : SameOutside (slot_at u.block.names (1 - u.slot)) (slot_len u.block.names) file image
  pub closed : is_open image (gate_at u.block.names (1 - u.slot)) ≡ false

-- so it is after the first write, once the gate is known to be closed
pub closing_beside : (u : InUse) (file image : List ℕ) → SameOutside (closing_at u) (closing_len u) file image
    → is_open image (gate_at u.block.names (1 - u.slot)) ≡ false → IsBeside u file image
closing_beside u file image same closed = record {
  same = SameOutside-wider (closing_at u) (closing_len u) (slot_at u.block.names (1 - u.slot))
      (slot_len u.block.names) file image (closing_low u u.other_open refl) (closing_high u u.other_open refl)
      same;
  closed = closed;
}

-- and while header and records are written
pub body_beside : (u : InUse) (file middle image : List ℕ) (n : ℕ) → n ≤ room_len u.block.names
    → IsBeside u file middle → SameOutside (slot_at u.block.names (1 - u.slot)) (header_len + n)
    middle image → IsBeside u file image
body_beside u file middle image n few was same =
    let at = slot_at u.block.names (1 - u.slot) in
    record {
      same = SameOutside-trans at (slot_len u.block.names) file middle image was.same
          (SameOutside-wider at (header_len + n) at (slot_len u.block.names) middle image
          (omega arith) (omega (arith, few)) same);
      closed = ap (λ x. x == gate_open) (sym
          (same.above (gate_at u.block.names (1 - u.slot)) (omega (arith, few)))) ∙ was.closed;
    }

beside_slot : (u : InUse) (file image : List ℕ)
    → SameOutside (slot_at u.block.names (1 - u.slot)) (slot_len u.block.names) file image
    → SameButSlot u.block.names (1 - u.slot) file image
beside_slot u file image same = SameButSlot-written u.block.names (1 - u.slot)
    (slot_at u.block.names (1 - u.slot)) (slot_len u.block.names) file image (omega arith) (omega arith) same

pub beside_data : (u : InUse) (file image : List ℕ)
    → SameOutside (slot_at u.block.names (1 - u.slot)) (slot_len u.block.names) file image
    → SameFrom (head_len u.block.names) file image
beside_data u file image same = data_kept u (slot_at u.block.names (1 - u.slot)) (slot_len u.block.names) file
    image (omega arith) same

-- Beside a closed slot the table is kept.
pub beside_keeps : (u : InUse) (c : Chosen) (file image : List ℕ) → slot_in_use file ≡ Ok u
    → chosen file ≡ Ok c → IsBeside u file image → KeepsTable c file image
beside_keeps u c file image in_use is b =
    let long : head_len u.block.names ≤ length image =
    omega (arith, in_use_long file u in_use, b.same.same_length) in
    let slot = beside_slot u file image b.same in
    table_kept file image u (record u { other_open = false }) c in_use is long slot
    (other_closed file image u in_use long slot b.closed) refl refl

-- A header and records stand in the other slot, all else is as it was, and the gate is as it may be.
pub record IsFilled (u : InUse) (h : Header) (rs : List Record) (file image : List ℕ) : Type 0 where
  pub same : SameOutside (slot_at u.block.names (1 - u.slot)) (slot_len u.block.names) file image
  pub table : HasTable (slot_at u.block.names (1 - u.slot)) (next_header u h (length rs)) rs image

-- what stands below the gate stays while the gate is written
pub gate_filled : (u : InUse) (h : Header) (rs : List Record) (file middle image : List ℕ)
    → head_len u.block.names ≤ length file → record_len h.version * length rs ≤ room_len u.block.names
    → SameOutside (slot_at u.block.names (1 - u.slot)) (slot_len u.block.names) file middle
    → HasTable (slot_at u.block.names (1 - u.slot)) (next_header u h (length rs)) rs middle
    → SameOutside (gate_at u.block.names (1 - u.slot)) 1 middle image → IsFilled u h rs file image
gate_filled u h rs file middle image long few was table same =
    let names = u.block.names in
    let at = slot_at names (1 - u.slot) in
    let gate = gate_at names (1 - u.slot) in
    let end = slot_low names (1 - u.slot) (other_low u.slot) in
    let kept : (from n : ℕ) → from + n ≤ gate → bytes_at image from n ≡ bytes_at middle from n =
    λ from n high. sym (bytes_at-same middle image from n (omega (arith, high, end, long, was.same_length))
    (omega (arith, high, end, long, was.same_length, same.same_length))
    (λ i l h. same.below i (omega (arith, h, high))))
    in
    record {
      same = SameOutside-trans at (slot_len names) file middle image was
          (SameOutside-wider gate 1 at (slot_len names) middle image (omega arith) (omega arith) same);
      table = record {
        header = kept at header_len (omega arith) ∙ table.header;
        records = kept (at + header_len) (record_len h.version * length rs) (omega (arith, few))
            ∙ table.records;
      };
    }

-- the sequence that a header's spelling has
header_sequence : (h : Header) → h.sequence < 2 ^ 64 → number_at (header_bytes h) 8 ≡ h.sequence
header_sequence h fresh =
    let b = header_bytes h in
    let to_padding = (h.version ∷ kind_code h.kind ∷ h.boundary ∷ []) ++ zeros 5 in
    let to_sequence = to_padding ++ number h.sequence in
    let to_count = to_sequence ++ number h.count in
    let to_wall = to_count ++ number h.wall in
    let front = to_wall ++ number h.slack in
    let caps = flat_map number h.caps in
    let all = stands_left b 0 (front ++ caps) (flat_map (flat_map number) h.used) (stands_whole b) in
    let four = stands_left b 0 to_count (number h.wall)
    (stands_left b 0 to_wall (number h.slack) (stands_left b 0 front caps all)) in
    stands_number b 8 h.sequence fresh
    (stands_right b 0 8 to_padding (number h.sequence) refl
    (stands_left b 0 to_sequence (number h.count) four))

-- Once its gate is open, a slot with the next sequence is in use.
pub filled_in_use : (u : InUse) (h : Header) (rs : List Record) (file image : List ℕ)
    → slot_in_use file ≡ Ok u → u.sequence + 1 < 2 ^ 64 → IsFilled u h rs file image
    → is_open image (gate_at u.block.names (1 - u.slot)) ≡ true → slot_in_use image ≡ Ok (next_in_use u)
filled_in_use u h rs file image in_use fresh f gate =
    let names = u.block.names in
    let at = slot_at names (1 - u.slot) in
    let long : head_len names ≤ length image = omega (arith, in_use_long file u in_use, f.same.same_length) in
    let within : bytes_at image (at + 8) 8
    ≡ bytes_at (bytes_at image at header_len) 8 8 =
    sym (bytes_at-within image at header_len 8 8 (omega arith)) in
    let sequence : sequence_at image names (1 - u.slot) ≡ u.sequence + 1 =
    ap (from_le_bytes w64) within ∙ ap (λ (xs : List ℕ). number_at xs 8) f.table.header
    ∙ header_sequence (next_header u h (length rs)) fresh
    in
    other_newer file image u in_use long (beside_slot u file image f.same) gate (omega (arith, sequence))
    ∙ ap (λ n. Ok (record { block = u.block; slot = 1 - u.slot; sequence = n; other_open = true })) sequence

-- And its table is the one that was written, where its header isn't refused.
pub filled_saved : (u : InUse) (h : Header) (rs : List Record) (file image : List ℕ) → slot_in_use file ≡ Ok u
    → u.block.names ≤ 65536 → IsHeader u.block.names (next_header u h (length rs)) → IsRoll rs → AreInRange rs
    → HaveDigests rs → IsFilled u h rs file image → slot_in_use image ≡ Ok (next_in_use u)
    → IsSaved (next_chosen u h (length rs)) rs image
filled_saved u h rs file image in_use names fits roll ranges digests f now =
    let slot = chosen_written image (next_in_use u) (next_header u h (length rs)) now
    (omega (arith, names)) fits
    f.table.header in
    record {
      slot = slot;
      table = table_of-written image (next_chosen u h (length rs)) rs slot refl roll ranges digests
          f.table.records;
    }
