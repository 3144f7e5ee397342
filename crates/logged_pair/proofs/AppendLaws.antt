-- What a file with a log stands for while an entry is appended, and once it is.
use Rattle.std.specs.Prelude.{◌≡◌, ◌⊎◌, ℕ, zero, suc, ◌+◌, ◌-◌, ◌^◌, ◌<◌, ◌≤◌, ◌==◌, true, false, List, [], ◌∷◌, ◌++◌, length, Ok, refl}
use Rattle.std.proofs.Common.{◌∙◌, ap, arith, inl, inr, sym}
use Rattle.std.proofs.lemmas.List.{length-append}
use Rattle.std.specs.Int.{w64, from_le_bytes}
use Rattle.byte_ranges.specs.Ranges.{SameOutside, SameWithin}
use Rattle.byte_ranges.proofs.RangeLaws.{bytes_at-same, length-bytes_at}
use Rattle.slot_codec.specs.Choice.{InUse, is_open, sequence_at, slot_in}
use Rattle.slot_codec.specs.Entries.{Entry, IsEntryHead, entry_bytes, entry_head_bytes, entry_head_of, entry_room, up}
use Rattle.slot_codec.specs.Logs.{room_at}
use Rattle.slot_codec.specs.Spelling.{cap, gate_at, gate_open, head_len, header_len, slot_at, slot_len}
use Rattle.slot_codec.proofs.EntryLaws.{entry_head_read}
use Rattle.slot_codec.proofs.EntryPlaceLaws.{head_read, len_of_head}
use Rattle.slot_codec.proofs.ChoiceLaws.{slot_low}
use Rattle.slot_codec.proofs.PartLaws.{stands_bytes, stands_index, stands_right}
use Rattle.slot_codec.proofs.PickLaws.{InUsePartsIn, in_use_parts_in}
use Rattle.slot_codec.proofs.ReadEntryLaws.{begins_with, head_stands, stands_from}
use Rattle.slot_pair.specs.Appends.{HasEntry}
use Rattle.slot_pair.specs.Saves.{IsAlikeBelow}
use Rattle.logged_pair.proofs.KeepLaws.{KeepsSlot, keeps-behind, keeps-below, keeps-beside, keeps-trans, shown}

-- ---- an entry that stands there, whether or not the table behind it is read

pub record EntryThere (at : ℕ) (e : Entry) (file : List ℕ) : Type 0 where
  pub room : room_at file at ≡ entry_room e.head
  pub next : is_open file (at + entry_room e.head) ≡ false

pub entry_there : (cap count room at : ℕ) (e : Entry) (file : List ℕ) → cap < 2 ^ 64 → count < 2 ^ 64
    → IsEntryHead cap count room e.head → at + 1 + entry_room e.head ≤ length file → HasEntry at e file
    → EntryThere at e file
entry_there cap count room at e file few_cap few fits within h =
    let n = entry_room e.head in
    let begins = begins_with file (at + 1) n (entry_bytes e) (0 ∷ []) h.text in
    let r = head_read cap count room (entry_head_bytes e.head) e.head
    (entry_head_read cap count room e.head few_cap few fits) in
    let all : length (entry_bytes e ++ 0 ∷ []) ≡ n =
    ap length (sym h.text) ∙ length-bytes_at file (at + 1) n within in
    let len : at + 1 + length (entry_bytes e) ≡ at + n =
    omega (arith, all, length-append (entry_bytes e) (0 ∷ [])) in
    let last = stands_right file (at + 1) (at + n) (entry_bytes e) (0 ∷ []) len
    (stands_from file (at + 1) n (entry_bytes e ++ 0 ∷ []) h.text) in
    record {
      room = ap up (sym (len_of_head file at))
          ∙ ap (λ b. entry_room (entry_head_of b)) (stands_bytes file (at + 1) 55
          (entry_head_bytes e.head) refl (head_stands file (at + 1) e begins))
          ∙ ap entry_room r.is;
      next = ap (λ v. v == gate_open) (stands_index file (at + n) 0 [] last);
    }

-- ---- the slot in use of what is like a file

-- what lies in the other slot, where only this one is written
pub other_same : (names slot at n : ℕ) (a b : List ℕ) → slot ≤ 1 → slot_at names slot ≤ at
    → at + n ≤ gate_at names slot → SameOutside at n a b
    → SameWithin (slot_at names (1 - slot)) (slot_at names (1 - slot) + slot_len names) a b
other_same names zero at n a b one low high same = λ i from to. same.above i (omega (arith, from, high))
other_same names (suc zero) at n a b one low high same = λ i from to. same.below i (omega (arith, to, low))
other_same names (suc (suc k)) at n a b one low high same = absurd (omega (arith, one))

-- It has the slot up to a position, and the other one is closed or has a sequence that is less.
pub record IsShown (base : InUse) (end : ℕ) (a image : List ℕ) : Type 0 where
  pub keeps : KeepsSlot base end a image
  pub newer : is_open image (gate_at base.block.names (1 - base.slot)) ≡ true
      → sequence_at image base.block.names (1 - base.slot) < base.sequence

pub shown_slot : (base : InUse) (end : ℕ) (a image : List ℕ) → slot_in true a ≡ Ok base
    → slot_at base.block.names base.slot + header_len ≤ end → end ≤ gate_at base.block.names base.slot
    → IsShown base end a image
    → slot_in true image
    ≡ Ok (record base { other_open = is_open image (gate_at base.block.names (1 - base.slot)) })
shown_slot base end a image in_use some high s =
    shown base end (is_open image (gate_at base.block.names (1 - base.slot))) a image in_use s.keeps some high
    refl s.newer

-- what is like it below the data part, but for the other gate where that was open
pub shown_gate : (base : InUse) (a before image : List ℕ) → slot_in true a ≡ Ok base
    → IsAlikeBelow (head_len base.block.names) a before
    → (base.other_open ≡ true) ⊎ (before ≡ image)
    → SameOutside (gate_at base.block.names (1 - base.slot)) 1 before image
    → IsShown base (gate_at base.block.names base.slot) a image
shown_gate base a before image in_use alike either same = record { keeps = keeps; newer = newer either }
  where
    names : ℕ
    names = base.block.names

    other : ℕ
    other = 1 - base.slot

    parts : InUsePartsIn true a base
    parts = in_use_parts_in true a base in_use

    end : slot_at names other + slot_len names ≤ head_len names
    end = slot_low names other (omega arith)

    keeps : KeepsSlot base (gate_at names base.slot) a image
    keeps = keeps-trans base (gate_at names base.slot) a before image
        (keeps-below base a before parts.slot alike.long alike.bytes)
        (keeps-beside base (gate_at names other) 1 before image parts.slot alike.long (omega arith)
        (omega arith) same)

    sequence : sequence_at image names other ≡ sequence_at a names other
    sequence = ap (from_le_bytes w64) (sym (bytes_at-same a image (slot_at names other + 8) 8
        (omega (arith, end, parts.long)) (omega (arith, end, keeps.long))
        (λ i low high. alike.bytes i (omega (arith, high, end)) ∙ same.below i (omega (arith, high)))))

    newer : (base.other_open ≡ true) ⊎ (before ≡ image) → is_open image (gate_at names other) ≡ true
        → sequence_at image names other < base.sequence
    newer (inl opened) gate = omega (arith, sequence, parts.newer opened)
    newer (inr is) gate = omega (
      arith,
      sequence,
      parts.newer (
          sym parts.other
          ∙ ap (λ x. x == gate_open) (alike.bytes (gate_at names other) (omega (arith, end)))
          ∙ ap (λ x. is_open x (gate_at names other)) is
          ∙ gate
          ),
    )

-- and while the slot is written behind the position
pub shown_behind : (base : InUse) (end n : ℕ) (a before image : List ℕ) → base.slot ≤ 1
    → slot_at base.block.names base.slot ≤ end → end + n ≤ gate_at base.block.names base.slot
    → IsShown base end a before → SameOutside end n before image → IsShown base end a image
shown_behind base end n a before image one low high s same = record {
  keeps = keeps-trans base end a before image s.keeps
      (keeps-behind base end end n before image s.keeps.long one low (omega arith) high same);
  newer = λ gate. omega (
    arith,
    sequence,
    s.newer (
        ap (λ x. x == gate_open) (beside (gate_at names other) (omega arith) (omega arith)) ∙ gate
        ),
  );
}
  where
    names : ℕ
    names = base.block.names

    other : ℕ
    other = 1 - base.slot

    beside : SameWithin (slot_at names other) (slot_at names other + slot_len names) before image
    beside = other_same names base.slot end n before image one low high same

    inside : slot_at names other + slot_len names ≤ head_len names
    inside = slot_low names other (omega arith)

    sequence : sequence_at image names other ≡ sequence_at before names other
    sequence = ap (from_le_bytes w64) (sym (bytes_at-same before image (slot_at names other + 8) 8
        (omega (arith, inside, s.keeps.long)) (omega (arith, inside, s.keeps.long, same.same_length))
        (λ i from to. beside i (omega (arith, from)) (omega (arith, to)))))
