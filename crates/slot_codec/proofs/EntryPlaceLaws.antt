-- An entry rests on its own bytes and those of the gap behind it.
use Rattle.std.proofs.Common.{◌≡◌, ℕ, ◌+◌, ◌-◌, ◌*◌, ◌/◌, ◌%◌, ◌<◌, ◌≤◌, not, ◌&&◌, List, length, sym, ap, ◌∙◌, subst, arith}
use Rattle.std.proofs.lemmas.Bool.{ltb-true, not-false}
use Rattle.std.specs.FinMap as fin
use Rattle.std.specs.Int.{w64, from_le_bytes}
use Rattle.std.specs.Prelude.{if◌then◌else◌, nat_le, nat_lt, slice_index, Result, Ok, Err}
use Rattle.byte_ranges.specs.Ranges.{SameWithin, bytes_at}
use Rattle.byte_ranges.specs.Lists.{◌>>=◌}
use Rattle.byte_ranges.proofs.RangeLaws.{bytes_at-same, bytes_at-within}
use Rattle.slot_codec.specs.Choice.{SlotRefusal, codec, placed_at}
use Rattle.slot_codec.specs.Entries.{entry_head_of, entry_len, entry_room, gone_from, has_too_many, moved_from, puts_from, read_entry_head, up}
use Rattle.slot_codec.specs.Items.{read_items}
use Rattle.slot_codec.specs.Logs.{Given, IsLocal, Logged, begun, cell_step, gap_step, gone_step, len_at, log_step, move_step, put_step, read_changes, read_entry, room_at}
use Rattle.slot_codec.specs.Reading.{are_zeros, is_in_range, log_worn_from, number_at}
use Rattle.slot_codec.specs.Rows.{Rows}
use Rattle.slot_codec.specs.declared.entry.EntryHead.{EntryHead}
use Rattle.slot_codec.specs.declared.codec.CodecFault.{CodecFault}
use Rattle.slot_codec.specs.declared.codec.CodecFault.TheVariants as fault
use Rattle.slot_codec.proofs.ItemLaws.{items_same}
use Rattle.slot_codec.proofs.ReadEntryLaws.{entry_behind, entry_ended}
use Rattle.slot_codec.proofs.StepLaws.{bind_same, from_ok, guard_ok, placed_ok}

-- what is read as a head is what the bytes give, and its entry and the next gate stand below the top
pub record HeadRead (room : ℕ) (bytes : List ℕ) (h : EntryHead) : Type 0 where
  pub is : entry_head_of bytes ≡ h
  pub within : entry_room h < room

pub head_read : (cap count room : ℕ) (bytes : List ℕ) (h : EntryHead)
    → read_entry_head cap count room bytes ≡ Ok h
    → HeadRead room bytes h
unfolding read_entry_head
head_read cap count room bytes h read =
    let o = entry_head_of bytes in
    let kind = guard_ok (nat_lt 1 (slice_index bytes 0)) _ _ h read in
    let padding = guard_ok (not (are_zeros (bytes_at bytes 2 5))) _ _ h kind.1 in
    let many = guard_ok (has_too_many cap count o) _ _ h padding.1 in
    let within = guard_ok (not (nat_lt (entry_room o) room)) _ _ h many.1 in
    let ranges = guard_ok (not (is_in_range o.wall && is_in_range o.slack)) _ _ h within.1 in
    let is : o ≡ h = from_ok o h ranges.1 in
    record {
      is = is;
      within = subst (λ h. entry_room h < room) is (ltb-true (entry_room o) room (not-false _ within.0));
    }

-- a number of the 55 bytes behind a gate
head_number : (file : List ℕ) (at k to : ℕ) → k + 8 ≤ 55 → at + 1 + k ≡ to
    → number_at (bytes_at file (at + 1) 55) k ≡ number_at file to
head_number file at k to low is = ap (from_le_bytes w64) (bytes_at-within file (at + 1) 55 k 8 low)
    ∙ ap (number_at file) is

-- how long the entry is that its head says
pub len_of_head : (file : List ℕ) (at : ℕ) → entry_len (entry_head_of (bytes_at file (at + 1) 55))
    ≡ len_at file at
len_of_head file at =
    let c = head_number file at 7 (at + 8) (omega arith) (omega arith) in
    let m = head_number file at 15 (at + 16) (omega arith) (omega arith) in
    let g = head_number file at 23 (at + 24) (omega arith) (omega arith) in
    let p = head_number file at 31 (at + 32) (omega arith) (omega arith) in
    omega (arith, c, m, g, p)

-- the lists behind a head of two files that are alike there
record SameEntry (a b : List ℕ) (at : ℕ) (h : EntryHead) : Type 0 where
  in_a : at + entry_room h ≤ length a
  in_b : at + entry_room h ≤ length b
  same : SameWithin at (at + entry_room h) a b

list_same : {S : Type 0} (step : S → List ℕ → Result S CodecFault) (len n from : ℕ) (a b : List ℕ) (at : ℕ)
    (h : EntryHead) (s : S) → SameEntry a b at h → from + len * n ≤ entry_room h
    → read_items step len n a (at + from) s ≡ read_items step len n b (at + from) s
list_same step len n from a b at h s e within =
    items_same step len n a b (at + from) (at + entry_room h) s (omega (arith, within)) e.in_a e.in_b
    (λ i low high. e.same i (omega (arith, low)) high)

changes_same : (a b : List ℕ) (at : ℕ) (h : EntryHead) (rows : Rows) → SameEntry a b at h
    → read_changes a at h rows ≡ read_changes b at h rows
changes_same a b at h rows e =
    let moved : (file : List ℕ) → Result Rows SlotRefusal =
    λ file. read_items move_step 16 h.moved file (at + moved_from h) rows in
    let puts : (file : List ℕ) → Rows → Result Rows SlotRefusal =
    λ file left. read_items put_step 112 h.puts file (at + puts_from h) left in
    let rest : (file : List ℕ) → Rows → Result Rows SlotRefusal =
    λ file moved. read_items gone_step 64 h.gone file (at + gone_from h) moved >>= puts file in
    ap (λ r. r >>= rest a) (list_same move_step 16 h.moved (moved_from h) a b at h rows e (omega arith))
    ∙ bind_same (moved b) (rest a) (rest b) (λ m got.
    ap (λ r. r >>= puts a) (list_same gone_step 64 h.gone (gone_from h) a b at h m e (omega arith))
    ∙ bind_same (read_items gone_step 64 h.gone b (at + gone_from h) m) (puts a) (puts b) (λ left got.
    list_same put_step 112 h.puts (puts_from h) a b at h left e (omega arith)))

ended_same : (cap : ℕ) (a b : List ℕ) (at : ℕ) (h : EntryHead) (given : Given) (rows : Rows)
    → SameEntry a b at h
    → entry_ended cap a at h given rows ≡ entry_ended cap b at h given rows
ended_same cap a b at h given rows e =
    ap (λ r. r >>= λ none. if nat_lt cap (fin.len rows) then Err (codec fault.Count at) else
    Ok (record { header = record given.header { count = fin.len rows }; rows = rows }))
    (list_same gap_step 1 (entry_room h - entry_len h) (entry_len h) a b at h tt e (omega arith))

behind_same : (cap : ℕ) (a b : List ℕ) (at : ℕ) (x : Logged) (h : EntryHead) → SameEntry a b at h
    → entry_behind cap a at x h ≡ entry_behind cap b at x h
behind_same cap a b at x h e =
    let g : Given = record { next = 0; header = begun x.header h } in
    let rest : (file : List ℕ) → Given → Result Logged SlotRefusal =
    λ file given. read_changes file at h x.rows >>= entry_ended cap file at h given in
    let inner : (read_items cell_step 16 h.cells a (at + 56) g >>= rest a)
    ≡ (read_items cell_step 16 h.cells b (at + 56) g >>= rest b) =
    ap (λ r. r >>= rest a) (list_same cell_step 16 h.cells 56 a b at h g e (omega arith))
    ∙ bind_same (read_items cell_step 16 h.cells b (at + 56) g) (rest a) (rest b) (λ given got.
    ap (λ r. r >>= entry_ended cap a at h given) (changes_same a b at h x.rows e)
    ∙ bind_same (read_changes b at h x.rows) (entry_ended cap a at h given) (entry_ended cap b at h given)
    (λ rows got. ended_same cap a b at h given rows e)) in
    ap (λ r. if nat_le (log_worn_from h.kind) (x.header.sequence + 1) then Err
    (codec fault.Worn at) else r) inner

-- files that are alike from an entry's gate to the next one have the same entry
pub entry_same : (cap top : ℕ) (a b : List ℕ) (at : ℕ) (x : Logged) → at + room_at a at ≤ length a
    → at + room_at a at ≤ length b → SameWithin at (at + room_at a at) a b
    → read_entry cap top a at x ≡ read_entry cap top b at x
entry_same cap top a b at x in_a in_b same =
    let count = fin.len x.rows in
    let room = top - at in
    let long : 56 ≤ room_at a at = omega arith in
    let text : bytes_at a (at + 1) 55 ≡ bytes_at b (at + 1) 55 = bytes_at-same a b (at + 1) 55
    (omega (arith, long, in_a)) (omega (arith, long, in_b))
    (λ i low high. same i (omega (arith, low)) (omega (arith, high, long))) in
    bind_same (placed_at at (read_entry_head cap count room (bytes_at a (at + 1) 55)))
    (entry_behind cap a at x)
    (entry_behind cap b at x) (λ h got.
    let read = head_read cap count room (bytes_at a (at + 1) 55) h
    (placed_ok at (read_entry_head cap count room (bytes_at a (at + 1) 55)) h got) in
    let is : room_at a at ≡ entry_room h = ap up (sym (len_of_head a at)) ∙ ap entry_room read.is in
    behind_same cap a b at x h record {
      in_a = omega (arith, in_a, is);
      in_b = omega (arith, in_b, is);
      same = λ i low high. same i low (omega (arith, high, is));
    })
    ∙ ap (λ bytes. placed_at at (read_entry_head cap count room bytes) >>= entry_behind cap b at x) text

-- so what an entry makes of what was read before it rests on its own bytes
pub log_step_local : (cap top : ℕ) → IsLocal (log_step cap top)
log_step_local cap top a b at x in_a in_b same =
    bind_same x (read_entry cap top a at) (read_entry cap top b at)
    (λ y got. entry_same cap top a b at y in_a in_b same)

-- ---- sectors

-- an entry that begins at a multiple of 512 has the next gate at one
pub next_multiple : (at : ℕ) (h : EntryHead) → at % 512 ≡ 0 → (at + entry_room h) % 512 ≡ 0
next_multiple at h from = omega (arith, from)

-- and no sector of 512 bytes with a byte of it has one of what is written behind it
pub next_apart : (at : ℕ) (h : EntryHead) → at % 512 ≡ 0
    → (at + entry_len h - 1) / 512 < (at + entry_room h) / 512
next_apart at h from = omega (arith, from)
