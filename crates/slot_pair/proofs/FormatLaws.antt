-- What a file is formatted to has the first table, and what stands there before is no store.
use Rattle.std.proofs.Common.{◌≡◌, ℕ, zero, suc, ◌+◌, ◌-◌, ◌*◌, ◌^◌, ◌<◌, ◌≤◌, ◌==◌, Bool, true, false, List, [], ◌∷◌, ◌++◌, length, take, drop, refl, sym, ap, ◌∙◌, inl, inr, arith, lit<, subst, append_assoc, length-append}
use Rattle.std.proofs.Math.ListN.{get_or-append}
use Rattle.std.proofs.lemmas.Bool.{cases_lt, eqb-true}
use Rattle.std.proofs.lemmas.Grind.{same_number_lists}
use Rattle.std.proofs.lemmas.List.{drop-drop, drop_at, drop-replicate, get_or-replicate, length-replicate, replicate-append-replicate, take_all, take_at}
use Rattle.std.specs.Prelude.{flat_map, replicate, slice_index, IsErr, Ok, Err}
use Rattle.byte_ranges.specs.Ranges.{SameBelow, bytes_at, overwritten, resized}
use Rattle.byte_ranges.proofs.RangeLaws.{bytes_at-same}
use Rattle.slot_codec.specs.Choice.{Chosen, chosen, is_open}
use Rattle.slot_codec.proofs.ChoiceLaws.{chosen_long, chosen_parts, table_from}
use Rattle.slot_codec.proofs.PartLaws.{StandsAt, stands_bytes, stands_index, stands_left, stands_number, stands_right, stands_whole}
use Rattle.slot_codec.proofs.PickLaws.{InUseParts, in_use_from, in_use_parts}
use Rattle.slot_codec.specs.Readable.{IsHeader, IsSuperBlock}
use Rattle.slot_codec.specs.Reading.{number_at, read_superblock}
use Rattle.slot_codec.proofs.SlotLaws.{chosen_written}
use Rattle.slot_codec.specs.Spelling.{format_gate_at, gate_at, gate_open, head_len, header_bytes, header_start, header_len, kind_code, number, slot_at, slot_len, superblock_bytes, superblock_len, zeros}
use Rattle.slot_codec.proofs.StepLaws.{from_ok}
use Rattle.slot_codec.proofs.SuperBlockLaws.{superblock_read}
use Rattle.slot_codec.specs.declared.codec.SuperBlock.{SuperBlock}
use Rattle.slot_codec.specs.declared.codec.Header.{Header}
use Rattle.slot_pair.specs.Formats.{HasFirstTable, HasOneMore, IsNoStore, IsNoStoreOrEmpty, IsUnfinished, block_for, first_bytes, first_chosen, first_header, first_in_use, first_slot, formatted_file, unsealed_file, with_first_slot}

-- a file that is no store, by what a store has
no_store : (file : List ℕ) → ((c : Chosen) → chosen file ≡ Ok c → ⊥) → IsNoStore file
no_store file none = elim (chosen file)
    as (λ r. ((c : Chosen) → r ≡ Ok c → ⊥) → IsErr r) [ Ok c ↦ λ n. absurd (n c refl) | Err e ↦ λ n. refl ]
    none

-- a file of at most 64 bytes is no store
pub short_is_none : (file : List ℕ) → length file ≤ superblock_len → IsNoStore file
short_is_none file low = no_store file (λ c h. omega (arith, low, chosen_long file c h))

length-superblock : (block : SuperBlock) → length (superblock_bytes block) ≡ superblock_len
length-superblock block = refl

-- which superblock a file has that begins with one
begins_with : (block : SuperBlock) (file : List ℕ) → IsSuperBlock block → superblock_len ≤ length file
    → SameBelow superblock_len (superblock_bytes block) file
    → read_superblock (bytes_at file 0 superblock_len) ≡ Ok block
begins_with block file fits long same =
    let front : bytes_at file 0 superblock_len ≡ superblock_bytes block =
    sym (bytes_at-same (superblock_bytes block) file 0 superblock_len (omega (arith, length-superblock block))
    (omega (arith, long)) (λ i l h. same i (omega (arith, h))))
    ∙ take_all superblock_len (superblock_bytes block) (omega (arith, length-superblock block))
    in
    ap read_superblock front ∙ superblock_read block fits

-- the superblock of a store is what it begins with
block_is : (block : SuperBlock) (file : List ℕ) (c : Chosen) → IsSuperBlock block
    → superblock_len ≤ length file → SameBelow superblock_len (superblock_bytes block) file
    → chosen file ≡ Ok c → c.block ≡ block
block_is block file c fits long same h =
    let p = chosen_parts file c h in
    let u = in_use_parts file p.in_use p.slot_read in
    p.same_block ∙ from_ok p.in_use.block block (sym u.block ∙ begins_with block file fits long same)

-- a file that ends before the data part that its superblock tells
pub unfinished_is_none : (block : SuperBlock) (file : List ℕ) → IsSuperBlock block
    → IsUnfinished block.names (superblock_bytes block) file → IsNoStore file
unfinished_is_none block file fits u =
    no_store file (λ c h.
    let is : head_len c.block.names ≡ head_len block.names =
    ap (λ x. head_len x.names) (block_is block file c fits (omega (arith, u.low, length-superblock block))
    (λ i low. u.same i (omega (arith, low, length-superblock block))) h) in
    omega (arith, is, u.high, chosen_long file c h))

-- zeros, as numbers spell them and as they join
zeros_join : (m n total : ℕ) → m + n ≡ total → zeros m ++ zeros n ≡ zeros total
zeros_join m n total e = replicate-append-replicate m n 0 ∙ ap zeros e

numbers_of_zeros : (n : ℕ) → flat_map number (replicate n 0) ≡ zeros (8 * n)
numbers_of_zeros zero = refl
numbers_of_zeros (suc n) = ap (λ xs. zeros 8 ++ xs) (numbers_of_zeros n)
    ∙ zeros_join 8 (8 * n) (8 * suc n) (omega arith)

rows_of_zeros : (n : ℕ) → flat_map (flat_map number) (replicate n (replicate 32 0)) ≡ zeros (256 * n)
rows_of_zeros zero = refl
rows_of_zeros (suc n) =
    ap (λ xs. xs ++ flat_map (flat_map number) (replicate n (replicate 32 0))) (numbers_of_zeros 32)
    ∙ ap (λ xs. zeros 256 ++ xs) (rows_of_zeros n) ∙ zeros_join 256 (256 * n) (256 * suc n) (omega arith)

first_header_bytes : header_bytes first_header ≡ first_bytes ++ zeros 8464
unfolding first_header
first_header_bytes =
    let front : header_start first_header ≡ first_bytes ++ zeros 16 = refl in
    let caps : flat_map number first_header.caps ≡ zeros 256 = numbers_of_zeros 32 in
    let used : flat_map (flat_map number) first_header.used ≡ zeros 8192 = rows_of_zeros 32 in
    ap (λ xs. xs ++ flat_map number first_header.caps ++ flat_map (flat_map number) first_header.used) front
    ∙ ap (λ xs. first_bytes ++ zeros 16 ++ xs ++ flat_map (flat_map number) first_header.used) caps
    ∙ ap (λ xs. first_bytes ++ zeros 16 ++ zeros 256 ++ xs) used
    ∙ ap (λ xs. xs ++ zeros 8192) (append_assoc first_bytes (zeros 16) (zeros 256))
    ∙ ap (λ xs. first_bytes ++ xs ++ zeros 8192) (zeros_join 16 256 272 refl)
    ∙ append_assoc first_bytes (zeros 272) (zeros 8192)
    ∙ ap (λ xs. first_bytes ++ xs) (zeros_join 272 8192 8464 refl)

-- a write over zeros that stand behind something
zeros_written : (a xs : List ℕ) (at n : ℕ) → length a ≡ at → length xs ≤ n
    → overwritten (a ++ zeros n) at xs ≡ a ++ xs ++ zeros (n - length xs)
zeros_written a xs at n e few =
    let front : take at (a ++ zeros n) ≡ a = take_at a (zeros n) at e in
    let back : drop (at + length xs) (a ++ zeros n) ≡ zeros (n - length xs) =
    sym (drop-drop (length xs) at (a ++ zeros n)) ∙ ap (drop (length xs)) (drop_at a (zeros n) at e)
    ∙ drop-replicate (length xs) n 0
    in
    λ i. front i ++ xs ++ back i

-- a file that grows
grown : (a : List ℕ) (n : ℕ) → length a ≤ n → resized a n ≡ a ++ zeros (n - length a)
grown a n low = ap (λ xs. xs ++ zeros (n - length a)) (take_all n a low)

-- what the superblock is followed by
slot_written : (front : List ℕ) (names : ℕ) → length front ≡ superblock_len
    → with_first_slot names front ≡ front ++ first_slot names ++ zeros (slot_len names)
unfolding first_slot
slot_written front names len =
    let n = 2 * slot_len names in
    let m = 8464 + 80 * names in
    let gate = gate_open ∷ [] in
    let blank : resized front (head_len names - 1) ≡ front ++ zeros n =
    grown front (head_len names - 1) (omega (arith, len)) ∙ ap (λ k. front ++ zeros k) (omega (arith, len))
    in
    let begun : overwritten (front ++ zeros n) superblock_len first_bytes ≡ front ++ first_bytes ++ zeros m
    ++ zeros (slot_len names + 1) =
    zeros_written front first_bytes superblock_len n len (omega arith)
    ∙ ap (λ xs. front ++ first_bytes ++ xs) (sym (zeros_join m (slot_len names + 1) (n - 24) (omega arith)))
    ∙ sym (append_assoc (front ++ first_bytes) (zeros m) (zeros (slot_len names + 1)))
    in
    let at : length (front ++ first_bytes ++ zeros m) ≡ gate_at names 0 =
    omega (
      arith,
      length-append (front ++ first_bytes) (zeros m),
      length-append front first_bytes,
      length-replicate {A = ℕ} m 0,
      len,
    )
    in
    let opened : overwritten (front ++ first_bytes ++ zeros m ++ zeros (slot_len names + 1)) (gate_at names 0)
    gate ≡ front ++ first_bytes ++ zeros m ++ gate ++ zeros (slot_len names) =
    zeros_written (front ++ first_bytes ++ zeros m) gate (gate_at names 0) (slot_len names + 1) at
    (omega arith) ∙ ap (λ k. front ++ first_bytes ++ zeros m ++ gate ++ zeros k) (omega arith)
    in
    let header : first_bytes ++ zeros m ≡ header_bytes first_header ++ zeros (80 * names) =
    ap (λ xs. first_bytes ++ xs) (sym (zeros_join 8464 (80 * names) m refl))
    ∙ sym (append_assoc first_bytes (zeros 8464) (zeros (80 * names)))
    ∙ ap (λ xs. xs ++ zeros (80 * names)) (sym first_header_bytes)
    in
    ap (λ xs. overwritten (overwritten xs superblock_len first_bytes) (gate_at names 0) gate) blank
    ∙ ap (λ xs. overwritten xs (gate_at names 0) gate) begun ∙ opened
    ∙ ap (λ xs. xs ++ gate ++ zeros (slot_len names)) (append_assoc front first_bytes (zeros m))
    ∙ ap (λ xs. front ++ xs ++ gate ++ zeros (slot_len names)) header
    ∙ ap (λ xs. xs ++ zeros (slot_len names))
    (append_assoc front (header_bytes first_header ++ zeros (80 * names)) gate)

-- the first header in range
first_fits : (names : ℕ) → IsHeader names first_header
unfolding first_header
first_fits names = record {
  version = refl;
  boundary = omega arith;
  sequence = lit< tt;
  count = omega arith;
  ranges = refl;
  caps_full = refl;
  used_full = refl;
  rows_full = λ j low. ap length (get_or-replicate {A = List ℕ} 32 j (replicate 32 0) [] low);
}

-- four parts and two gates: where each stands
record Pieces (block header blank file : List ℕ) (x at_slot at_gate at_blank at_end : ℕ) : Type 0 where
  front : StandsAt file 0 block
  first : StandsAt file at_slot header
  gate : slice_index file at_gate ≡ x
  second : StandsAt file at_blank blank
  last_byte : slice_index file at_end ≡ x
  long : length file ≡ at_end + 1

pieces : (block header rest blank file : List ℕ) (x at_slot at_gate at_blank at_end : ℕ)
    → file ≡ block ++ (header ++ rest ++ x ∷ []) ++ blank ++ x ∷ [] → length block ≡ at_slot
    → at_slot + length header + length rest ≡ at_gate → at_gate + 1 ≡ at_blank
    → at_blank + length blank ≡ at_end → Pieces block header blank file x at_slot at_gate at_blank at_end
pieces block header rest blank file x at_slot at_gate at_blank at_end is a b c d =
    let gate = x ∷ [] in
    let slot = header ++ rest ++ gate in
    let lengths : length slot ≡ length header + length rest + 1 =
    omega (arith, length-append (header ++ rest) gate, length-append header rest) in
    let all : StandsAt file 0 (block ++ slot ++ blank ++ gate) = rw (← is) (stands_whole file) in
    let unsealed = stands_left file 0 (block ++ slot ++ blank) gate all in
    let slots = stands_left file 0 (block ++ slot) blank unsealed in
    let first = stands_right file 0 at_slot block slot (omega (arith, a)) slots in
    let begun = stands_left file at_slot (header ++ rest) gate first in
    record {
      front = stands_left file 0 block slot slots;
      first = stands_left file at_slot header rest begun;
      gate = stands_index file at_gate x []
          (stands_right file at_slot at_gate (header ++ rest) gate
          (omega (arith, b, length-append header rest)) first);
      second = stands_right file 0 at_blank (block ++ slot) blank
          (omega (arith, a, b, c, lengths, length-append block slot)) unsealed;
      last_byte = stands_index file at_end x []
          (stands_right file 0 at_end (block ++ slot ++ blank) gate
          (omega (arith, a, b, c, d, lengths, length-append block slot, length-append (block ++ slot) blank))
          all);
      long = ap length is ∙ omega (
        arith,
        a,
        b,
        c,
        d,
        lengths,
        length-append block slot,
        length-append (block ++ slot) blank,
        length-append (block ++ slot ++ blank) gate,
      );
    }

length-header : length (header_bytes first_header) ≡ header_len
length-header = ap length first_header_bytes ∙ length-append first_bytes (zeros 8464)
    ∙ ap (λ n. 24 + n) (length-replicate {A = ℕ} 8464 0)

-- the parts of a file that was formatted
formatted_pieces : (k names : ℕ) → Pieces (superblock_bytes (block_for k names)) (header_bytes first_header)
    (zeros (slot_len names)) (formatted_file k names) gate_open (slot_at names 0) (gate_at names 0)
    (slot_at names 1) (format_gate_at names)
unfolding formatted_file unsealed_file first_slot
formatted_pieces k names =
    let rest : length (zeros (80 * names)) ≡ 80 * names = length-replicate {A = ℕ} (80 * names) 0 in
    let blank : length (zeros (slot_len names))
    ≡ slot_len names = length-replicate {A = ℕ} (slot_len names) 0 in
    pieces (superblock_bytes (block_for k names)) (header_bytes first_header) (zeros (80 * names))
    (zeros (slot_len names)) (formatted_file k names) gate_open (slot_at names 0) (gate_at names 0)
    (slot_at names 1) (format_gate_at names)
    refl
    (length-superblock (block_for k names) ∙ omega arith)
    (omega (arith, length-header, rest))
    (omega arith)
    (omega (arith, blank))

pub length-formatted : (k names : ℕ) → length (formatted_file k names) ≡ head_len names
length-formatted k names = (formatted_pieces k names).long ∙ omega arith

pub length-unsealed : (k names : ℕ) → length (unsealed_file k names) ≡ head_len names - 1
unfolding formatted_file
length-unsealed k names = omega (
  arith,
  length-formatted k names,
  length-append (unsealed_file k names) (gate_open ∷ []),
)

-- the last of some zeros
last_zero : (file : List ℕ) (at n m to : ℕ) → n + 1 ≡ m → at + n ≡ to → StandsAt file at (zeros m)
    → slice_index file to ≡ 0
last_zero file at n m to e f stands =
    let split : zeros m ≡ zeros n ++ zeros 1 = sym (zeros_join n 1 m e) in
    stands_index file to 0 [] (stands_right file at to (zeros n) (0 ∷ [])
    (ap (λ k. at + k) (length-replicate {A = ℕ} n 0) ∙ f) (rw (← split) stands))

-- the sequence that a header spells
sequence_stands : (file : List ℕ) (at : ℕ) (h : Header) → h.sequence < 2 ^ 64
    → StandsAt file at (header_bytes h) → number_at file (at + 8) ≡ h.sequence
sequence_stands file at h low all =
    let caps = flat_map number h.caps in
    let used = flat_map (flat_map number) h.used in
    let padded = (h.version ∷ kind_code h.kind ∷ h.boundary ∷ []) ++ zeros 5 in
    let to_count = padded ++ number h.sequence in
    let to_wall = to_count ++ number h.count in
    let to_slack = to_wall ++ number h.wall in
    let front = to_slack ++ number h.slack in
    let to_sequence = stands_left file at to_count (number h.count)
    (stands_left file at to_wall (number h.wall)
    (stands_left file at to_slack (number h.slack)
    (stands_left file at front caps (stands_left file at (front ++ caps) used all)))) in
    stands_number file (at + 8) h.sequence low
    (stands_right file at (at + 8) padded (number h.sequence) refl to_sequence)

-- the slot in use of a file that was formatted
formatted_in_use : (k names : ℕ) → IsSuperBlock (block_for k names)
    → InUseParts (formatted_file k names) (first_in_use k names)
unfolding first_header
formatted_in_use k names fits =
    let file = formatted_file k names in
    let p = formatted_pieces k names in
    let shut : slice_index file (gate_at names 1)
    ≡ 0 = last_zero file (slot_at names 1) (slot_len names - 1) (slot_len names) (gate_at names 1)
    (omega arith) (omega arith) p.second in
    record {
      block = ap read_superblock (stands_bytes file 0 superblock_len (superblock_bytes (block_for k names))
          refl p.front) ∙ superblock_read (block_for k names) fits;
      long = omega (arith, length-formatted k names);
      formatted = ap (λ x. x == gate_open) p.last_byte;
      slot = omega arith;
      gate = ap (λ x. x == gate_open) p.gate;
      sequence = sequence_stands file (slot_at names 0) first_header (lit< tt) p.first;
      other = ap (λ x. x == gate_open) shut;
      newer = λ e. cc;
    }

-- a file that was formatted has the first table
pub formatted_has_first : (k names : ℕ) → IsSuperBlock (block_for k names)
    → HasFirstTable k names (formatted_file k names)
unfolding first_header
formatted_has_first k names fits =
    let file = formatted_file k names in
    let in_use = in_use_from file (first_in_use k names) (formatted_in_use k names fits) in
    let header = stands_bytes file (slot_at names 0) header_len (header_bytes first_header) length-header
    (formatted_pieces k names).first in
    let choice = chosen_written file (first_in_use k names) first_header in_use
    (omega (arith, fits.names_high)) (first_fits names) header in
    record { in_use = in_use; chosen = choice; table = table_from file (first_chosen k names) [] choice refl }

-- a file that begins as one that was formatted, but for its last byte
unsealed_begins : (k names : ℕ) → SameBelow superblock_len (superblock_bytes (block_for k names))
    (unsealed_file k names)
unfolding unsealed_file
unsealed_begins k names i low =
    let block = superblock_bytes (block_for k names) in
    let slot = first_slot names in
    let inside : i < length block = omega (arith, low, length-superblock (block_for k names)) in
    let within : i < length (block ++ slot) = omega (arith, inside, length-append block slot) in
    sym (get_or-append (block ++ slot) (zeros (slot_len names)) 0 i within
    ∙ get_or-append block slot 0 i inside)

-- without the format gate it is no store, and with it the store that was just formatted
one_byte_more : (k names : ℕ) (file : List ℕ) (open_gate : Bool) → IsSuperBlock (block_for k names)
    → SameBelow (head_len names - 1) (unsealed_file k names) file → length file ≡ head_len names
    → is_open file (format_gate_at names) ≡ open_gate → IsNoStoreOrEmpty k names file
unfolding formatted_file
one_byte_more k names file true fits same len gate =
    let unsealed = unsealed_file k names in
    let is : formatted_file k names ≡ file =
    same_number_lists (formatted_file k names) file (length-formatted k names ∙ sym len)
    (λ i low. elim (cases_lt i (head_len names - 1))
    as (λ x. slice_index (formatted_file k names) i ≡ slice_index file i) [
      | inl inside ↦ get_or-append unsealed (gate_open ∷ []) 0 i
          (omega (arith, inside, length-unsealed k names)) ∙ same i inside
      | inr past ↦
          let at : i ≡ format_gate_at names = omega (arith, past, low, length-formatted k names) in
          ap (slice_index (formatted_file k names)) at ∙ (formatted_pieces k names).last_byte
          ∙ sym (eqb-true (slice_index file (format_gate_at names)) gate_open gate)
          ∙ ap (slice_index file) (sym at)
    ])
    in
    inr (rw is at (formatted_has_first k names fits))
one_byte_more k names file false fits same len gate =
    let begins : SameBelow superblock_len (superblock_bytes (block_for k names)) file =
    λ i low. unsealed_begins k names i low ∙ same i (omega (arith, low)) in
    inl (no_store file (λ c h.
    let p = chosen_parts file c h in
    let u = in_use_parts file p.in_use p.slot_read in
    let is : p.in_use.block.names ≡ names =
    ap (λ x. x.names) (sym p.same_block
    ∙ block_is (block_for k names) file c fits (omega (arith, len)) begins h) in
    let opened : is_open file (format_gate_at names)
    ≡ true = ap (λ n. is_open file (format_gate_at n)) (sym is) ∙ u.formatted in
    cc (sym gate ∙ opened)))

pub sealing : (k names : ℕ) (file : List ℕ) → IsSuperBlock (block_for k names)
    → HasOneMore (unsealed_file k names) file → IsNoStoreOrEmpty k names file
sealing k names file fits more =
    let same : SameBelow (head_len names - 1) (unsealed_file k names) file =
    λ i low. more.same i (omega (arith, low, length-unsealed k names)) in
    elim more.either as (λ x. IsNoStoreOrEmpty k names file) [
      | inl shorter ↦
          inl (unfinished_is_none (block_for k names) file fits (record {
            low = omega (arith, shorter, length-unsealed k names, length-superblock (block_for k names));
            high = omega (arith, shorter, length-unsealed k names);
            same = λ i low. unsealed_begins k names i
                (omega (arith, low, length-superblock (block_for k names)))
                ∙ same i (omega (arith, low, length-superblock (block_for k names)));
          }))
      | inr whole ↦ one_byte_more k names file (is_open file (format_gate_at names)) fits same
          (omega (arith, whole, length-unsealed k names)) refl
    ]

-- what stands after each step
pub unsealed_is : (k names : ℕ) (front file : List ℕ) → front ≡ superblock_bytes (block_for k names)
    → file ≡ with_first_slot names front → file ≡ unsealed_file k names
unfolding unsealed_file
unsealed_is k names front file a b =
    b ∙ slot_written front names (ap length a) ∙ ap (λ xs. xs ++ first_slot names ++ zeros (slot_len names)) a

pub formatted_is : (k names : ℕ) (before file : List ℕ) → before ≡ unsealed_file k names
    → file ≡ before ++ gate_open ∷ [] → file ≡ formatted_file k names
unfolding formatted_file
formatted_is k names before file a b = b ∙ ap (λ xs. xs ++ gate_open ∷ []) a

pub short_is_none_or_first : (k names : ℕ) (file : List ℕ) → length file ≤ superblock_len
    → IsNoStoreOrEmpty k names file
short_is_none_or_first k names file low = inl (short_is_none file low)

pub unfinished_is_none_or_first : (k names : ℕ) (front file : List ℕ) → IsSuperBlock (block_for k names)
    → front ≡ superblock_bytes (block_for k names) → IsUnfinished names front file
    → IsNoStoreOrEmpty k names file
unfinished_is_none_or_first k names front file fits is u =
    inl (unfinished_is_none (block_for k names) file fits (subst (λ xs. IsUnfinished names xs file) is u))

pub sealing_from : (k names : ℕ) (before file : List ℕ) → IsSuperBlock (block_for k names)
    → before ≡ unsealed_file k names → HasOneMore before file → IsNoStoreOrEmpty k names file
sealing_from k names before file fits is more =
    sealing k names file fits (subst (λ xs. HasOneMore xs file) is more)
