-- What a log is read to: where it ends, what it rests on, and what an entry behind it makes of it.
use Rattle.std.proofs.Common.{inl, inr, ◌≡◌, ℕ, suc, ◌+◌, ◌-◌, ◌/◌, ◌%◌, ◌<◌, ◌≤◌, ◌^◌, true, false, List, [], ◌∷◌, ◌++◌, length, refl, sym, ap, ◌∙◌, subst, arith}
use Rattle.std.proofs.lemmas.Bool.{cases_Bool, cond-false, cond-true}
use Rattle.std.specs.FinMap as fin
use Rattle.std.specs.Prelude.{◌==◌, if◌then◌else◌, nat_lt, Ok}
use Rattle.byte_ranges.specs.Ranges.{SameWithin, bytes_at}
use Rattle.byte_ranges.specs.Lists.{◌>>=◌}
use Rattle.slot_codec.specs.Cells.{with_cell}
use Rattle.slot_codec.specs.Choice.{is_open}
use Rattle.slot_codec.specs.Entries.{Entry, entry_bytes, entry_head_bytes, entry_head_of, entry_room, up}
use Rattle.slot_codec.specs.Logs.{Given, IsEntry, IsLocal, Logged, Reading, after_entry, begun, cell_step, ends_closed, goes_on, log_end, log_step, read_cell, read_entry, read_log, room_at, walk, with_given}
use Rattle.slot_codec.specs.Spelling.{gate_open}
use Rattle.slot_codec.specs.declared.codec.Header.{Header}
use Rattle.slot_codec.proofs.EntryLaws.{entry_head_read}
use Rattle.slot_codec.proofs.EntryPlaceLaws.{head_read, len_of_head, log_step_local}
use Rattle.slot_codec.proofs.ItemLaws.{items_keep}
use Rattle.slot_codec.proofs.LogLaws.{IsPlace, entry_there, goes_on_from, walk_before, walk_beside, walk_closed, walk_ends, walk_grows, walk_more, walk_place, walk_relates, walk_same}
use Rattle.slot_codec.proofs.PartLaws.{stands_bytes, stands_index, stands_right}
use Rattle.slot_codec.proofs.ReadEntryLaws.{begins_with, head_stands, entry_read, entry_steps, length-entry_bytes, stands_from}
use Rattle.slot_codec.proofs.StepLaws.{bind_ok, from_ok}

-- ---- where it ends

-- an entry that is read stands below the top, with the next gate
pub entry_goes : (cap top : ℕ) (file : List ℕ) (at : ℕ) (x y : Logged) → read_entry cap top file at x ≡ Ok y
    → at + room_at file at < top
entry_goes cap top file at x y read =
    let p = entry_steps cap top file at x y read in
    let h = head_read cap (fin.len x.rows) (top - at) (bytes_at file (at + 1) 55) p.head p.head_read in
    let is : room_at file at ≡ entry_room p.head = ap up (sym (len_of_head file at)) ∙ ap entry_room h.is in
    omega (arith, is, h.within)

-- a log that is read is gone through up to a closed gate
pub record LogRead (cap top : ℕ) (file : List ℕ) (at : ℕ) (x y : Logged) (end : ℕ) : Type 0 where
  pub walked : ◌≡◌ {A = Reading × ℕ} (walk (log_step cap top) (top / 512) file top at (Ok x)) (Ok y, end)
  pub closed : is_open file end ≡ false

pub log_parts : (cap top : ℕ) (file : List ℕ) (at : ℕ) (x y : Logged) (end : ℕ)
    → read_log cap top file at x ≡ Ok (y, end) → LogRead cap top file at x y end
unfolding read_log
log_parts cap top file at x y end read =
    let p : Reading × ℕ = walk (log_step cap top) (top / 512) file top at (Ok x) in
    let last : Logged → Reading = λ y. if is_open file p.1 then read_entry cap top file p.1 y else Ok y in
    let a = bind_ok p.0 (λ y. last y >>= λ z. Ok (z, p.1)) (y, end) read in
    let b = bind_ok (last a.0) (λ z. Ok (z, p.1)) (y, end) a.2 in
    let pair = from_ok (b.0, p.1) (y, end) b.2 in
    let ends : p.1 ≡ end = ap (λ q. q.1) pair in
    let stops : goes_on file top p.1 ≡ false =
    walk_ends (log_step cap top) (top / 512) file top at (Ok x) (omega arith) in
    elim (cases_Bool (is_open file p.1)) [
      | inl on ↦
          let entry : read_entry cap top file p.1 a.0 ≡ Ok b.0 =
          sym (cond-true (is_open file p.1) (read_entry cap top file p.1 a.0) (Ok a.0) on) ∙ b.1 in
          let goes : goes_on file top p.1 ≡ true = goes_on_from file top p.1
          record { gate = on; whole = entry_goes cap top file p.1 a.0 b.0 entry } in
          absurd (differ (sym goes ∙ stops))
      | inr off ↦
          let none : a.0 ≡ b.0 = from_ok a.0 b.0
          (sym (cond-false (is_open file p.1) (read_entry cap top file p.1 a.0) (Ok a.0) off) ∙ b.1) in
          let first : p.0 ≡ Ok y = a.1 ∙ ap Ok (none ∙ ap (λ q. q.0) pair) in
          record { walked = λ i. (first i, ends i); closed = subst (λ n. is_open file n ≡ false) ends off }
    ]
  where
    differ : true ≡ false → ⊥
    differ h = cc

pub log_from : (cap top : ℕ) (file : List ℕ) (at : ℕ) (x y : Logged) (end : ℕ)
    → LogRead cap top file at x y end → read_log cap top file at x ≡ Ok (y, end)
unfolding read_log
log_from cap top file at x y end r =
    ap (ends_closed cap top file) r.walked
    ∙ ap (λ (z : Reading). z >>= λ z. Ok (z, end))
    (cond-false (is_open file end) (read_entry cap top file end y) (Ok y) r.closed)

-- a log that is read ends at a closed gate
pub log_ends_closed : (cap top : ℕ) (file : List ℕ) (at : ℕ) (x y : Logged) (end : ℕ)
    → read_log cap top file at x ≡ Ok (y, end) → is_open file end ≡ false
log_ends_closed cap top file at x y end read = (log_parts cap top file at x y end read).closed

-- a closed gate is a log without entries
pub log_closed : (cap top : ℕ) (file : List ℕ) (at : ℕ) (x : Logged) → is_open file at ≡ false
    → read_log cap top file at x ≡ Ok (x, at)
log_closed cap top file at x closed = log_from cap top file at x x at
    record { walked = walk_closed (log_step cap top) (top / 512) file top at (Ok x) closed; closed = closed }

-- alike before the gate at which a log ends, a file in which it is closed has that log
pub log_before : (cap top : ℕ) (a b : List ℕ) (at : ℕ) (x y : Logged) (end : ℕ) → top ≤ length a
    → top ≤ length b → read_log cap top a at x ≡ Ok (y, end) → SameWithin at end a b
    → is_open b end ≡ false → read_log cap top b at x ≡ Ok (y, end)
log_before cap top a b at x y end in_a in_b read same closed =
    let r = log_parts cap top a at x y end read in
    let p : Reading × ℕ = walk (log_step cap top) (top / 512) a top at (Ok x) in
    let ends : p.1 ≡ end = ap (λ q. q.1) r.walked in
    let gate : is_open b p.1 ≡ false = ap (is_open b) ends ∙ closed in
    let alike : SameWithin at p.1 a b = subst (λ n. SameWithin at n a b) (sym ends) same in
    let walked = walk_before (log_step cap top) (top / 512) a b top at (Ok x) (log_step_local cap top) in_a
    in_b gate alike in
    log_from cap top b at x y end record { walked = walked ∙ r.walked; closed = closed }

-- it ends no earlier than it begins; and from a multiple of 512 below the top on, at another one
pub log_grows : (cap top : ℕ) (file : List ℕ) (at : ℕ) (x y : Logged) (end : ℕ)
    → read_log cap top file at x ≡ Ok (y, end) → at ≤ end
log_grows cap top file at x y end read =
    let r = log_parts cap top file at x y end read in
    subst (λ p. at ≤ p.1) r.walked (walk_grows (log_step cap top) (top / 512) file top at (Ok x))

pub log_place : (cap top : ℕ) (file : List ℕ) (at : ℕ) (x y : Logged) (end : ℕ) → at < top → at % 512 ≡ 0
    → read_log cap top file at x ≡ Ok (y, end) → IsPlace top at end
log_place cap top file at x y end below multiple read =
    let r = log_parts cap top file at x y end read in
    let place = walk_place (log_step cap top) (top / 512) file top at (Ok x) below multiple in
    subst (λ p. IsPlace top at p.1) r.walked place

-- alike up to the gate at which a log ends, and at it, a file has that log
pub log_same : (cap top : ℕ) (a b : List ℕ) (at : ℕ) (x y : Logged) (end : ℕ) → top ≤ length a
    → top ≤ length b → read_log cap top a at x ≡ Ok (y, end) → SameWithin at (end + 1) a b
    → read_log cap top b at x ≡ Ok (y, end)
log_same cap top a b at x y end in_a in_b read same =
    let grows = log_grows cap top a at x y end read in
    let gate : is_open b end ≡ false = ap (λ v. v == gate_open) (sym (same end grows (omega arith)))
    ∙ log_ends_closed cap top a at x y end read in
    log_before cap top a b at x y end in_a in_b read (λ i l h. same i l (omega (arith, h))) gate

-- ---- an entry behind it

-- an entry and the closed gate behind it stand behind a gate
pub record Appended (cap top : ℕ) (file : List ℕ) (at : ℕ) (x : Logged) (e : Entry) : Type 0 where
  pub entry : IsEntry cap (top - at) x e
  pub text : bytes_at file (at + 1) (entry_room e.head) ≡ entry_bytes e ++ 0 ∷ []
  pub few : fin.len x.rows ≤ 2 ^ 32
  pub few_cap : cap < 2 ^ 64

pub appended_read : (cap top : ℕ) (file : List ℕ) (at : ℕ) (x : Logged) (e : Entry)
    → Appended cap top file at x e → read_entry cap top file at x ≡ Ok (after_entry x e)
appended_read cap top file at x e p = entry_read cap top file at x e p.few_cap p.few p.entry
    (begins_with file (at + 1) (entry_room e.head) (entry_bytes e) (0 ∷ []) p.text)

pub appended_room : (cap top : ℕ) (file : List ℕ) (at : ℕ) (x : Logged) (e : Entry)
    → Appended cap top file at x e → room_at file at ≡ entry_room e.head
appended_room cap top file at x e p =
    let count = fin.len x.rows in
    let there = head_stands file (at + 1) e
    (begins_with file (at + 1) (entry_room e.head) (entry_bytes e) (0 ∷ []) p.text) in
    let h = head_read cap count (top - at) (entry_head_bytes e.head) e.head
    (entry_head_read cap count (top - at) e.head p.few_cap (omega (arith, p.few)) p.entry.head) in
    ap up (sym (len_of_head file at))
    ∙ ap (λ b. entry_room (entry_head_of b)) (stands_bytes file (at + 1) 55
    (entry_head_bytes e.head) refl there)
    ∙ ap entry_room h.is

pub appended_closed : (cap top : ℕ) (file : List ℕ) (at : ℕ) (x : Logged) (e : Entry)
    → Appended cap top file at x e
    → is_open file (at + entry_room e.head) ≡ false
appended_closed cap top file at x e p =
    let n = length-entry_bytes cap (top - at) x e p.few p.entry in
    let all = stands_from file (at + 1) (entry_room e.head) (entry_bytes e ++ 0 ∷ []) p.text in
    let there = stands_right file (at + 1) (at + entry_room e.head) (entry_bytes e) (0 ∷ [])
    (omega (arith, n)) all in
    ap (λ v. v == gate_open) (stands_index file (at + entry_room e.head) 0 [] there)

-- Where an entry stands behind the end of a log, with a closed gate behind it, a file that is alike before it
-- has that log while the entry's gate is closed, and the log with the entry once it is open.
pub log_then : (cap top : ℕ) (a b : List ℕ) (at : ℕ) (x y : Logged) (end : ℕ) (e : Entry)
    → top ≤ length a → top ≤ length b → read_log cap top a at x ≡ Ok (y, end) → SameWithin at end a b
    → Appended cap top b end y e
    → read_log cap top b at x
    ≡ Ok (if is_open b end then (after_entry y e, end + entry_room e.head) else (y, end))
log_then cap top a b at x y end e in_a in_b read same p =
    let step = log_step cap top in
    let n = top / 512 in
    let r = log_parts cap top a at x y end read in
    let room = appended_room cap top b end y e p in
    let entry = appended_read cap top b end y e p in
    let closed = appended_closed cap top b end y e p in
    let next : is_open b (end + room_at b end) ≡ false = ap (λ n. is_open b (end + n)) room ∙ closed in
    let one : suc n ≡ n + 1 = omega arith in
    let there = entry_there step n a b top at end (Ok x) (Ok y) (log_step_local cap top) in_a in_b r.walked
    r.closed same (entry_goes cap top b end y (after_entry y e) entry) next in
    let walked = sym (walk_more step n b top at (Ok x) (omega arith))
    ∙ ap (λ k. walk step k b top at (Ok x)) one ∙ there in
    elim (cases_Bool (is_open b end)) [
      | inl on ↦
          let ends : ◌≡◌ {A = Reading × ℕ} (walk step n b top at (Ok x))
          (Ok (after_entry y e), end + entry_room e.head) =
          walked ∙ cond-true (is_open b end) (step b end (Ok y), end + room_at b end) (Ok y, end) on
          ∙ λ i. (entry i, end + room i) in
          log_from cap top b at x (after_entry y e) (end + entry_room e.head)
          record { walked = ends; closed = closed }
          ∙ ap Ok (sym (cond-true (is_open b end) (after_entry y e, end + entry_room e.head) (y, end) on))
      | inr off ↦
          log_from cap top b at x y end record {
            walked = walked
                ∙ cond-false (is_open b end) (step b end (Ok y), end + room_at b end) (Ok y, end) off;
            closed = off;
          }
          ∙ ap Ok (sym (cond-false (is_open b end) (after_entry y e, end + entry_room e.head) (y, end) off))
    ]

-- ---- by gates and heads alone

with_cell-sequence : (h : Header) (i value : ℕ) → (with_cell h i value).sequence ≡ h.sequence
with_cell-sequence h i value =
    elim (cases_Bool (nat_lt i 32)) [
      | inl on ↦ ap (λ (h : Header). h.sequence) (cond-true (nat_lt i 32) _ _ on)
      | inr off ↦ ap (λ (h : Header). h.sequence) (cond-false (nat_lt i 32) _ _ off)
    ]

cell_step-sequence : (g t : Given) (bytes : List ℕ) → cell_step g bytes ≡ Ok t
    → t.header.sequence ≡ g.header.sequence
cell_step-sequence g t bytes read =
    let r = bind_ok (read_cell g.next bytes) (λ p. Ok (with_given g p)) t read in
    ap (λ (g : Given). g.header.sequence) (sym (from_ok (with_given g r.0) t r.2))
    ∙ with_cell-sequence g.header r.0.0 r.0.1

-- an entry has the next sequence
pub entry_sequence : (cap top : ℕ) (file : List ℕ) (at : ℕ) (x y : Logged)
    → read_entry cap top file at x ≡ Ok y
    → y.header.sequence ≡ x.header.sequence + 1
entry_sequence cap top file at x y read =
    let p = entry_steps cap top file at x y read in
    let g : Given = record { next = 0; header = begun x.header p.head } in
    ap (λ (x : Logged). x.header.sequence) (sym p.is)
    ∙ items_keep cell_step (λ g. g.header.sequence) cell_step-sequence 16 p.head.cells file (at + 56) g
    p.given p.cells_read

-- a table that was read has the sequence of the first one and so many more
abbrev Counts : ℕ → Reading → ℕ → Type 0
Counts first read n = (y : Logged) → read ≡ Ok y → y.header.sequence ≡ first + n

counts_on : (cap top first : ℕ) (file : List ℕ) (at : ℕ) (read : Reading) (n : ℕ) → Counts first read n
    → Counts first (log_step cap top file at read) (n + 1)
counts_on cap top first file at read n before y is =
    let r = bind_ok read (read_entry cap top file at) y is in
    omega (arith, before r.0 r.1, entry_sequence cap top file at r.0 y r.2)

-- where a log is read, its gates and heads alone tell its end, and by how much it raises the sequence
pub log_end_tells : (cap top : ℕ) (file : List ℕ) (at : ℕ) (x y : Logged) (end : ℕ)
    → read_log cap top file at x ≡ Ok (y, end)
    → ((log_end file top at).1 ≡ end) × (y.header.sequence ≡ x.header.sequence + (log_end file top at).0)
unfolding log_end
log_end_tells cap top file at x y end read =
    let r = log_parts cap top file at x y end read in
    let count : List ℕ → ℕ → ℕ → ℕ = λ file at n. n + 1 in
    let start : Counts x.header.sequence (Ok x) 0 =
    λ z is. omega (arith, ap (λ (x : Logged). x.header.sequence) (sym (from_ok x z is))) in (
      walk_beside count (log_step cap top) (top / 512) file top at 0 (Ok x) ∙ ap (λ p. p.1) r.walked,
      walk_relates (Counts x.header.sequence) (log_step cap top) count (counts_on cap top x.header.sequence)
          (top / 512) file top at (Ok x) 0 start y (ap (λ p. p.0) r.walked),
    )

count_local : IsLocal {T = ℕ} (λ file at n. n + 1)
count_local a b at n in_a in_b same = refl

pub log_end_closed : (file : List ℕ) (top at : ℕ) → is_open file at ≡ false → log_end file top at ≡ (0, at)
unfolding log_end
log_end_closed file top at closed = walk_closed (λ file at n. n + 1) (top / 512) file top at 0 closed

pub log_end_same : (a b : List ℕ) (top at : ℕ) → top ≤ length a → top ≤ length b
    → is_open a (log_end a top at).1 ≡ false → SameWithin at ((log_end a top at).1 + 1) a b
    → log_end b top at ≡ log_end a top at
unfolding log_end
log_end_same a b top at in_a in_b closed same =
    walk_same (λ file at n. n + 1) (top / 512) a b top at 0 count_local in_a in_b closed same

pub log_end_before : (a b : List ℕ) (top at : ℕ) → top ≤ length a → top ≤ length b
    → is_open b (log_end a top at).1 ≡ false → SameWithin at (log_end a top at).1 a b
    → log_end b top at ≡ log_end a top at
unfolding log_end
log_end_before a b top at in_a in_b closed same =
    walk_before (λ file at n. n + 1) (top / 512) a b top at 0 count_local in_a in_b closed same

pub log_end_place : (file : List ℕ) (top at : ℕ) → at < top → at % 512 ≡ 0
    → IsPlace top at (log_end file top at).1
unfolding log_end
log_end_place file top at below multiple =
    walk_place (λ file at n. n + 1) (top / 512) file top at 0 below multiple

pub log_end_then : (a b : List ℕ) (top at n end : ℕ) → top ≤ length a → top ≤ length b
    → log_end a top at ≡ (n, end) → is_open a end ≡ false → SameWithin at end a b → end + room_at b end < top
    → is_open b (end + room_at b end) ≡ false
    → log_end b top at ≡ (if is_open b end then (n + 1, end + room_at b end) else (n, end))
unfolding log_end
log_end_then a b top at n end in_a in_b was closed same whole next =
    let count : List ℕ → ℕ → ℕ → ℕ = λ file at n. n + 1 in
    let one : suc (top / 512) ≡ top / 512 + 1 = omega arith in
    sym (walk_more count (top / 512) b top at 0 (omega arith)) ∙ ap (λ k. walk count k b top at 0) one
    ∙ entry_there count (top / 512) a b top at end 0 n count_local in_a in_b was closed same whole next

-- the same where an entry was appended
pub log_end_appended : (cap top : ℕ) (a b : List ℕ) (at n end : ℕ) (y : Logged) (e : Entry) → top ≤ length a
    → top ≤ length b → log_end a top at ≡ (n, end) → is_open a end ≡ false → SameWithin at end a b
    → Appended cap top b end y e
    → log_end b top at ≡ (if is_open b end then (n + 1, end + entry_room e.head) else (n, end))
log_end_appended cap top a b at n end y e in_a in_b was closed same p =
    let room = appended_room cap top b end y e p in
    let entry = appended_read cap top b end y e p in
    let next : is_open b (end + room_at b end) ≡ false =
    ap (λ n. is_open b (end + n)) room ∙ appended_closed cap top b end y e p in
    log_end_then a b top at n end in_a in_b was closed same
    (entry_goes cap top b end y (after_entry y e) entry) next
    ∙ ap (λ (k : ℕ). if is_open b end then (n + 1, end + k) else (n, end)) room
