-- From one gate of a log to the next, and through the whole log.
use Rattle.std.proofs.Common.{inl, inr, ◌≡◌, ℕ, zero, suc, ◌+◌, ◌-◌, ◌*◌, ◌/◌, ◌<◌, ◌≤◌, true, false, ◌&&◌, nat_le, nat_lt, if◌then◌else◌, List, Option, Some, None, refl, ap, sym, ◌∙◌, subst, arith}
use Rattle.std.specs.Prelude.{Result, Ok, Err, slice_index, not}
use Rattle.std.specs.Int.{w64, from_le_bytes}
use Rattle.std.specs.FinMap as fin
use Rattle.std.proofs.lemmas.Bool.{and_from, cases_Bool, cond-true, cond-false, le-leb, lt-leb, lt-ltb}
use Rattle.std.proofs.lemmas.Option.{same_Some}
use Rattle.byte_ranges.specs.Lists.{◌>>=◌}
use Rattle.byte_ranges.specs.Ranges.{bytes_at}
use Rattle.byte_ranges.proofs.RangeLaws.{bytes_at-within}
use Rattle.slot_codec.specs.Choice.{SlotRefusal, codec, is_open, placed_at}
use Rattle.slot_codec.specs.Entries.{entry_head_of, entry_room, has_too_many, read_entry_head, up}
use Rattle.slot_codec.specs.Logs.{Logged, Reading, ends_closed, goes_on, log_step, read_entry, read_log, room_at, walk}
use Rattle.slot_codec.specs.Reading.{are_zeros, is_in_range, log_worn_from, number_at}
use Rattle.slot_codec.specs.declared.codec.CodecFault.{CodecFault}
use Rattle.slot_codec.specs.declared.codec.CodecFault.TheVariants as fault
use Rattle.slot_codec.specs.declared.codec.Header.{Header}
use Rattle.slot_codec.specs.declared.entry.EntryHead.{EntryHead}
use Rattle.slot_codec.proofs.LogLaws.{walk_closed}
use Rattle.slot_codec.proofs.StepLaws.{bind_from, from_ok, guard_ok}
use Rattle.slot_pair.specs.Finding.{Refuses}
use Rattle.slot_pair.specs.declared.find.SlotFault.{SlotFault}
use Rattle.slot_pair.specs.declared.find.SlotFault.TheVariants as slot
use Rattle.slot_pair.proofs.RefusalLaws.{refuses_on}
use Rattle.extent_table.specs.Extents.{Extents}
use Rattle.reopen.specs.Entries.{read_head, read_next, read_rest}
use Rattle.reopen.specs.Logs.{IsMaking, logged_of}
use Rattle.reopen.proofs.RowLaws.{rows_count}
use Rattle.reopen.proofs.ReadLaws.{behind_head, bind_assoc, entry_read}

-- ---- one entry

-- what stands behind a head, with where the next gate stands
abbrev behind_gate : ℕ → List ℕ → ℕ → Logged → Option EntryHead → Result (Option (Logged × ℕ)) SlotRefusal
behind_gate cap file at x None = Ok None
behind_gate cap file at x (Some h) = behind_head cap file at x h >>= λ y. Ok (Some (y, at + room_at file at))

-- an entry is read head first
next_read : (cap top : ℕ) (file : List ℕ) (at : ℕ) (x : Logged) → read_next cap top file at x
    ≡ (read_head cap (fin.len x.rows) top file at >>= behind_gate cap file at x)
next_read cap top file at x =
    let head = placed_at at (read_entry_head cap (fin.len x.rows) (top - at) (bytes_at file (at + 1) 55)) in
    let entry = read_entry cap top file at x in
    let whole = λ (y : Logged). Ok (Some (y, at + room_at file at)) in
    elim (cases_Bool (is_open file at)) [
      | inl on ↦
          cond-true (is_open file at) (entry >>= whole) (Ok None) on
          ∙ ap (λ r. r >>= whole) (entry_read cap top file at x)
          ∙ bind_assoc head (λ h. behind_head cap file at x h) whole
          ∙ sym (bind_assoc head (λ h. Ok (Some h)) (behind_gate cap file at x))
          ∙ sym (ap (λ r. r >>= behind_gate cap file at x)
          (cond-true (is_open file at) (head >>= λ h. Ok (Some h)) (Ok None) on))
      | inr off ↦
          cond-false (is_open file at) (entry >>= whole) (Ok None) off
          ∙ sym (ap (λ r. r >>= behind_gate cap file at x)
          (cond-false (is_open file at) (head >>= λ h. Ok (Some h)) (Ok None) off))
    ]

-- a head is refused
pub next_bad : (cap count top at : ℕ) (file : List ℕ) (x : Logged) (why : SlotFault) → count ≡ fin.len x.rows
    → Refuses (read_head cap count top file at) why → Refuses (read_next cap top file at x) why
next_bad cap count top at file x why is bad =
    subst (λ r. Refuses r why) (sym (next_read cap top file at x))
    (refuses_on (read_head cap (fin.len x.rows) top file at) (behind_gate cap file at x) why
    (subst (λ n. Refuses (read_head cap n top file at) why) is bad))

-- what is known once a head is read
pub record HasHead (cap count top at : ℕ) (file : List ℕ) (x : Logged) (h : EntryHead) : Type 0 where
  pub counted : count ≡ fin.len x.rows
  pub read : read_head cap count top file at ≡ Ok (Some h)

-- as it is behind a table in the making
pub has_head : (cap top at : ℕ) (file : List ℕ) (header : Header) (load : Extents) (o : Option EntryHead)
    (h : EntryHead) → IsMaking cap header load → read_head cap header.count top file at ≡ Ok o → o ≡ Some h
    → HasHead cap header.count top at file (logged_of header load) h
has_head cap top at file header load o h making read some = record {
  counted = making.count ∙ sym (rows_count load making.is_table);
  read = read ∙ ap Ok some;
}

next_then : (cap count top at : ℕ) (file : List ℕ) (x : Logged) (h : EntryHead)
    → HasHead cap count top at file x h → read_next cap top file at x
    ≡ (behind_head cap file at x h >>= λ y. Ok (Some (y, at + room_at file at)))
next_then cap count top at file x h t =
    next_read cap top file at x
    ∙ ap (λ n. read_head cap n top file at >>= behind_gate cap file at x) (sym t.counted)
    ∙ bind_from (read_head cap count top file at) (behind_gate cap file at x) (Some h) t.read

pub next_worn : (cap count top at : ℕ) (file : List ℕ) (x : Logged) (h : EntryHead)
    → HasHead cap count top at file x h → log_worn_from h.kind ≤ x.header.sequence + 1
    → read_next cap top file at x ≡ Err (codec fault.Worn at)
next_worn cap count top at file x h t worn =
    next_then cap count top at file x h t
    ∙ ap (λ r. r >>= λ y. Ok (Some (y, at + room_at file at)))
    (cond-true (nat_le (log_worn_from h.kind) (x.header.sequence + 1)) (Err (codec fault.Worn at))
    (read_rest cap file at x h) (le-leb (log_worn_from h.kind) (x.header.sequence + 1) worn))

next_fresh : (cap count top at : ℕ) (file : List ℕ) (x : Logged) (h : EntryHead)
    → HasHead cap count top at file x h → x.header.sequence + 1 < log_worn_from h.kind
    → read_next cap top file at x
    ≡ (read_rest cap file at x h >>= λ y. Ok (Some (y, at + room_at file at)))
next_fresh cap count top at file x h t fresh =
    next_then cap count top at file x h t
    ∙ ap (λ r. r >>= λ y. Ok (Some (y, at + room_at file at)))
    (cond-false (nat_le (log_worn_from h.kind) (x.header.sequence + 1)) (Err (codec fault.Worn at))
    (read_rest cap file at x h) (lt-leb (log_worn_from h.kind) (x.header.sequence + 1) fresh))

pub next_refused : (cap count top at : ℕ) (file : List ℕ) (x : Logged) (h : EntryHead) (why : SlotFault)
    → HasHead cap count top at file x h → x.header.sequence + 1 < log_worn_from h.kind
    → Refuses (read_rest cap file at x h) why → Refuses (read_next cap top file at x) why
next_refused cap count top at file x h why t fresh bad =
    subst (λ r. Refuses r why) (sym (next_fresh cap count top at file x h t fresh))
    (refuses_on (read_rest cap file at x h) (λ y. Ok (Some (y, at + room_at file at))) why bad)

-- ---- how long an entry is

-- a head that is read is what its bytes say
head_is : (cap count room : ℕ) (bytes : List ℕ) (h : EntryHead) → read_entry_head cap count room bytes ≡ Ok h
    → entry_head_of bytes ≡ h
unfolding read_entry_head
head_is cap count room bytes h read =
    let o = entry_head_of bytes in
    let kind = guard_ok (nat_lt 1 (slice_index bytes 0)) fault.Kind _ h read in
    let zeros = guard_ok (not (are_zeros (bytes_at bytes 2 5))) fault.Zeros _ h kind.1 in
    let many = guard_ok (has_too_many cap count o) fault.Count _ h zeros.1 in
    let fits = guard_ok (not (nat_lt (entry_room o) room)) fault.Entry _ h many.1 in
    let range = guard_ok (not (is_in_range o.wall && is_in_range o.slack)) fault.Range (Ok o) h fits.1 in
    from_ok o h range.1

-- a number of a head stands in the file behind the gate
number_there : (file : List ℕ) (at k : ℕ) → k + 8 ≤ 55
    → number_at (bytes_at file (at + 1) 55) k ≡ number_at file (at + 1 + k)
number_there file at k low = ap (from_le_bytes w64) (bytes_at-within file (at + 1) 55 k 8 low)

room_is : (cap count top at : ℕ) (file : List ℕ) (h : EntryHead)
    → read_head cap count top file at ≡ Ok (Some h) → room_at file at ≡ entry_room h
room_is cap count top at file h read =
    let bytes = bytes_at file (at + 1) 55 in
    let head = read_entry_head cap count (top - at) bytes in
    elim (cases_Bool (is_open file at)) [
      | inl on ↦
          let is = some_head at head h (sym (cond-true (is_open file at)
          (placed_at at head >>= λ k. Ok (Some k)) (Ok None) on) ∙ read) in
          let same = head_is cap count (top - at) bytes h is in
          let c : number_at file (at + 8) ≡ h.cells = numbers file at 7 8 h.cells (omega arith) (omega arith)
          (ap (λ (k : EntryHead). k.cells) same) in
          let m : number_at file (at + 16) ≡ h.moved = numbers file at 15 16 h.moved (omega arith) (omega
          arith)
          (ap (λ (k : EntryHead). k.moved) same) in
          let g : number_at file (at + 24) ≡ h.gone = numbers file at 23 24 h.gone (omega arith) (omega arith)
          (ap (λ (k : EntryHead). k.gone) same) in
          let p : number_at file (at + 32) ≡ h.puts = numbers file at 31 32 h.puts (omega arith) (omega arith)
          (ap (λ (k : EntryHead). k.puts) same) in
          ap up (omega (arith, c, m, g, p))
      | inr off ↦ absurd (no_head h
          (sym (cond-false (is_open file at) (placed_at at head >>= λ k. Ok (Some k)) (Ok None) off) ∙ read))
    ]
  where
    some_head : (at : ℕ) (o : Result EntryHead CodecFault) (h : EntryHead)
        → (placed_at at o >>= λ k. Ok (Some k)) ≡ Ok (Some h) → o ≡ Ok h
    some_head at (Ok k) h is = ap Ok (same_Some k h (from_ok (Some k) (Some h) is))
    some_head at (Err e) h is = cc

    no_head : (h : EntryHead) → ◌≡◌ {A = Result (Option EntryHead) SlotRefusal} (Ok None) (Ok (Some h)) → ⊥
    no_head h is = cc

    numbers : (file : List ℕ) (at k n value : ℕ) → k + 8 ≤ 55 → 1 + k ≡ n
        → number_at (bytes_at file (at + 1) 55) k ≡ value → number_at file (at + n) ≡ value
    numbers file at k n value low is here =
        let there : at + n ≡ at + 1 + k = omega (arith, is) in
        ap (number_at file) there ∙ sym (number_there file at k low) ∙ here

pub next_taken : (cap count top at end : ℕ) (file : List ℕ) (x y : Logged) (h : EntryHead)
    → HasHead cap count top at file x h → x.header.sequence + 1 < log_worn_from h.kind
    → read_rest cap file at x h ≡ Ok y → end ≡ at + entry_room h
    → read_next cap top file at x ≡ Ok (Some (y, end))
next_taken cap count top at end file x y h t fresh read is =
    let there : at + room_at file at ≡ end =
    omega (arith, room_is cap count top at file h t.read, is) in
    next_fresh cap count top at file x h t fresh
    ∙ bind_from (read_rest cap file at x h) (λ z. Ok (Some (z, at + room_at file at))) y read
    ∙ ap (λ n. Ok (Some (y, n))) there

-- ---- the whole log

-- what a log leads to from a gate on, where it may go through n entries more
abbrev pub log_from : ℕ → ℕ → ℕ → List ℕ → ℕ → Logged → Result (Logged × ℕ) SlotRefusal
log_from n cap top file at x = ends_closed cap top file (walk (log_step cap top) n file top at (Ok x))

pub log_whole : (cap top at : ℕ) (file : List ℕ) (x : Logged)
    → read_log cap top file at x ≡ log_from (top / 512) cap top file at x
unfolding read_log
log_whole cap top at file x = refl

-- an entry that is read, with where the next gate stands
abbrev then_at : ℕ → Result Logged SlotRefusal → Result (Option (Logged × ℕ)) SlotRefusal
then_at end r = r >>= λ y. Ok (Some (y, end))

-- what a gate leads to
record IsOpen (cap top at end : ℕ) (file : List ℕ) (x y : Logged) : Type 0 where
  gate : is_open file at ≡ true
  read : read_entry cap top file at x ≡ Ok y
  next : at + room_at file at ≡ end

next_open : (cap top at end : ℕ) (file : List ℕ) (x y : Logged) → read_next cap top file at x ≡ Ok (Some (
  y,
  end,
))
    → IsOpen cap top at end file x y
next_open cap top at end file x y read =
    let entry = read_entry cap top file at x in
    elim (cases_Bool (is_open file at)) [
      | inl on ↦
          let is = sym (cond-true (is_open file at) (then_at (at + room_at file at) entry) (Ok None) on) ∙
          read in
          let found = then_parts (at + room_at file at) end y entry is in
          record { gate = on; read = found.0; next = found.1 }
      | inr off ↦ absurd (not_some (y, end)
          (sym (cond-false (is_open file at) (then_at (at + room_at file at) entry) (Ok None) off) ∙ read))
    ]
  where
    then_parts : (n end : ℕ) (y : Logged) (r : Result Logged SlotRefusal) → then_at n r ≡ Ok (Some (y, end))
        → (r ≡ Ok y) × (n ≡ end)
    then_parts n end y (Ok z) is =
        let same : ◌≡◌ {A = Logged × ℕ} (z, n) (y, end) =
        same_Some (z, n) (y, end) (from_ok (Some (z, n)) (Some (y, end)) is) in
        (ap (λ (p : Logged × ℕ). Ok p.0) same, ap (λ (p : Logged × ℕ). p.1) same)
    then_parts n end y (Err e) is = cc

    not_some : (p : Logged × ℕ) → ◌≡◌ {A = Result (Option (Logged × ℕ)) SlotRefusal} (Ok None) (Ok (Some p))
        → ⊥
    not_some p is = cc

next_closed : (cap top at : ℕ) (file : List ℕ) (x : Logged) → read_next cap top file at x ≡ Ok None
    → is_open file at ≡ false
next_closed cap top at file x read =
    let entry = read_entry cap top file at x in
    elim (cases_Bool (is_open file at)) [
      | inl on ↦ absurd (not_none entry (at + room_at file at)
          (sym (cond-true (is_open file at) (then_at (at + room_at file at) entry) (Ok None) on) ∙ read))
      | inr off ↦ off
    ]
  where
    not_none : (r : Result Logged SlotRefusal) (end : ℕ) → then_at end r ≡ Ok None → ⊥
    not_none (Ok z) end is = cc
    not_none (Err e) end is = cc

-- a closed gate ends it
pub log_end : (n cap top at : ℕ) (file : List ℕ) (x : Logged) → read_next cap top file at x ≡ Ok None
    → log_from n cap top file at x ≡ Ok (x, at)
log_end n cap top at file x read =
    let closed = next_closed cap top at file x read in
    ap (ends_closed cap top file) (walk_closed (log_step cap top) n file top at (Ok x) closed)
    ∙ ap (λ r. r >>= λ z. Ok (z, at))
    (cond-false (is_open file at) (read_entry cap top file at x) (Ok x) closed)

-- from an entry to the next gate, with enough entries left for what the log has room for
pub record GoesOn (cap top at end : ℕ) (n : ℕ) (file : List ℕ) (x y : Logged) : Type 0 where
  pub left : ℕ
  pub enough : top ≤ end + 512 * left
  pub same : log_from n cap top file at x ≡ log_from left cap top file end y

pub log_on : (n cap top at end : ℕ) (file : List ℕ) (x y : Logged)
    → read_next cap top file at x ≡ Ok (Some (y, end)) → at < top → at + 512 ≤ end → end < top
    → top ≤ at + 512 * n → GoesOn cap top at end n file x y
log_on zero cap top at end file x y read low far below enough = absurd (omega (arith, low, enough))
log_on (suc n) cap top at end file x y read low far below enough =
    let t = next_open cap top at end file x y read in
    let on : goes_on file top at ≡ true =
    and_from (is_open file at) (nat_lt (at + room_at file at) top) t.gate
    (lt-ltb (at + room_at file at) top (omega (arith, t.next, below))) in
    record {
      left = n;
      enough = omega (arith, enough, far);
      same = ap (ends_closed cap top file)
          (cond-true (goes_on file top at)
          (walk (log_step cap top) n file top (at + room_at file at) (log_step cap top file at (Ok x)))
          (Ok x, at) on
          ∙ ap (λ r. walk (log_step cap top) n file top (at + room_at file at) r) t.read
          ∙ ap (λ p. walk (log_step cap top) n file top p (Ok y)) t.next);
    }

-- a fault stays
walk_bad : (n cap top at : ℕ) (file : List ℕ) (e : SlotRefusal)
    → (walk (log_step cap top) n file top at (Err e)).0 ≡ Err e
walk_bad zero cap top at file e = refl
walk_bad (suc n) cap top at file e =
    elim (cases_Bool (goes_on file top at)) [
      | inl on ↦
          ap (λ (p : Reading × ℕ). p.0) (cond-true (goes_on file top at)
          (walk (log_step cap top) n file top (at + room_at file at) (Err e)) (Err e, at) on)
          ∙ walk_bad n cap top (at + room_at file at) file e
      | inr off ↦
          ap (λ (p : Reading × ℕ). p.0) (cond-false (goes_on file top at)
          (walk (log_step cap top) n file top (at + room_at file at) (Err e)) (Err e, at) off)
    ]

ends_bad : (cap top : ℕ) (file : List ℕ) (p : Reading × ℕ) (e : SlotRefusal) → p.0 ≡ Err e
    → ends_closed cap top file p ≡ Err e
ends_bad cap top file p e is =
    ap (λ (r : Reading). r >>= λ y. (if is_open file p.1 then read_entry cap top file p.1 y else Ok y)
    >>= λ z. Ok (z, p.1)) is

-- where the log doesn't go on behind an open gate, the entry there has a fault
stops_bad : (cap top at : ℕ) (file : List ℕ) (x : Logged) (e : SlotRefusal) → is_open file at ≡ true
    → read_entry cap top file at x ≡ Err e → ends_closed cap top file (Ok x, at) ≡ Err e
stops_bad cap top at file x e on read =
    ap (λ r. r >>= λ z. Ok (z, at))
    (cond-true (is_open file at) (read_entry cap top file at x) (Ok x) on ∙ read)

log_err : (n cap top at : ℕ) (file : List ℕ) (x : Logged) (e : SlotRefusal)
    → read_next cap top file at x ≡ Err e → log_from n cap top file at x ≡ Err e
log_err n cap top at file x e read =
    let entry = read_entry cap top file at x in
    elim (cases_Bool (is_open file at)) [
      | inl on ↦
          by_steps n on (bad_entry entry (at + room_at file at)
          (sym (cond-true (is_open file at) (then_at (at + room_at file at) entry) (Ok None) on) ∙ read))
      | inr off ↦ absurd (not_bad (sym (cond-false (is_open file at) (then_at (at + room_at file at) entry)
          (Ok None) off) ∙ read))
    ]
  where
    not_bad : ◌≡◌ {A = Result (Option (Logged × ℕ)) SlotRefusal} (Ok None) (Err e) → ⊥
    not_bad is = cc

    same_err : (f g : SlotRefusal) → ◌≡◌ {A = Result (Option (Logged × ℕ)) SlotRefusal} (Err f) (Err g) → f ≡
        g
    same_err f g is = cc

    bad_entry : (r : Result Logged SlotRefusal) (end : ℕ) → then_at end r ≡ Err e → r ≡ Err e
    bad_entry (Ok z) end is = cc
    bad_entry (Err f) end is = ap Err (same_err f e is)

    by_steps : (n : ℕ) → is_open file at ≡ true → read_entry cap top file at x ≡ Err e
        → log_from n cap top file at x ≡ Err e
    by_steps zero on bad = stops_bad cap top at file x e on bad
    by_steps (suc n) on bad =
        let more = walk (log_step cap top) n file top (at + room_at file at) (log_step cap top file at (Ok
        x)) in
        elim (cases_Bool (goes_on file top at)) [
          | inl goes ↦
              ap (ends_closed cap top file) (cond-true (goes_on file top at) more (Ok x, at) goes)
              ∙ ends_bad cap top file more e
              (ap (λ r. (walk (log_step cap top) n file top (at + room_at file at) r).0) bad
              ∙ walk_bad n cap top (at + room_at file at) file e)
          | inr stops ↦
              ap (ends_closed cap top file) (cond-false (goes_on file top at) more (Ok x, at) stops)
              ∙ stops_bad cap top at file x e on bad
        ]

-- an entry is refused
pub log_bad : (n cap top at : ℕ) (file : List ℕ) (x : Logged) (why : SlotFault)
    → Refuses (read_next cap top file at x) why → Refuses (log_from n cap top file at x) why
log_bad n cap top at file x slot.Disk h = h
log_bad n cap top at file x slot.Short h = log_err n cap top at file x _ h
log_bad n cap top at file x slot.Unformatted h = log_err n cap top at file x _ h
log_bad n cap top at file x slot.NoGate h = log_err n cap top at file x _ h
log_bad n cap top at file x slot.SameSequence h = log_err n cap top at file x _ h
log_bad n cap top at file x (slot.Codec f p) h = log_err n cap top at file x _ h
