-- What is left by each of the three steps of a save as a whole table.
use Rattle.std.specs.Prelude.{◌≡◌, ◌⊎◌, ℕ, ◌+◌, ◌-◌, ◌*◌, ◌<◌, ◌≤◌, ◌==◌, if◌then◌else◌, Bool, true, false, IsTrue, List, length, OnOk, Result, Ok, Err, refl}
use Rattle.std.proofs.Common.{◌∙◌, ap, arith, inl, inr, subst, sym}
use Rattle.std.proofs.lemmas.Bool.{cases_Bool}
use Rattle.byte_ranges.specs.Ranges.{SameFrom, SameOutside}
use Rattle.disk_face.specs.Frames.{Asks, Unchanged, call_weight}
use Rattle.disk_face.specs.Moments.{Rests}
use Rattle.disk_face.specs.States.{State}
use Rattle.disk_face.specs.Writes.{WritesWithin}
use Rattle.disk_face.proofs.MomentLaws.{Leaves-trans, Leaves-weaken}
use Rattle.slot_codec.specs.Choice.{InUse, is_open}
use Rattle.slot_codec.specs.Logs.{log_top}
use Rattle.slot_codec.specs.Reading.{log_worn_from}
use Rattle.slot_codec.specs.Spelling.{cap, gate_at, gate_open, head_len, slot_at}
use Rattle.slot_codec.specs.declared.codec.Header.{Header}
use Rattle.slot_codec.specs.declared.codec.Record.{Record}
use Rattle.slot_codec.proofs.CapLaws.{records_fit}
use Rattle.slot_codec.proofs.ChoiceLaws.{slot_low}
use Rattle.slot_codec.proofs.PickLaws.{InUsePartsIn, in_use_parts_in}
use Rattle.slot_codec.proofs.SlotLaws.{other_low}
use Rattle.slot_pair.specs.Bases.{HasBase, base_calls, base_len, closing_calls}
use Rattle.slot_pair.specs.Saves.{IsAlikeBelow, next_header}
use Rattle.logged_pair.specs.Pairs.{InLog, LoggedTable, logged_in}
use Rattle.logged_pair.specs.Saves.{AreSaved, ChangesLeave, HasOldOrNew, HasRecords, LeavesNewTable, LeavesOldTable, next_table, one_if, rewritten}
use Rattle.logged_pair.proofs.KeepLaws.{keeps-below, keeps-beside}
use Rattle.logged_pair.proofs.WholeLaws.{IsKept, KeepsAll, Stands, alike_kept, beside, closed_kept, closing_kept, kept_beside, other_at, other_gate}
use Rattle.logged_pair.proofs.WholeTables.{HasNext, InFront, IsAsked, IsFilled, base_kept, filled_in_log, filled_read}

-- ---- what is asked

closing_weight : (opened : Bool)
    → (if opened then 35 else 0) ≡ call_weight * closing_calls opened + one_if opened
closing_weight true = refl
closing_weight false = refl

-- by the three steps
pub whole_asks : {at top : ℕ} {a b c d : State} (names slot n : ℕ) (opened : Bool) → at ≡ slot_at names slot
    → top ≡ log_top names slot → Asks (if opened then 35 else 0) 0 a b
    → Asks (call_weight * base_calls n + base_len at top n) 0 b c → Asks 35 0 c d
    → Asks (call_weight * (closing_calls opened + base_calls n + 2)
    + (base_len (slot_at names slot) (log_top names slot) n + 1 + one_if opened)) 0 a d
whole_asks {at} {top} names slot n opened here ends ab bc cd =
    let same : base_len at top n ≡ base_len (slot_at names slot) (log_top names slot) n =
    λ i. base_len (here i) (ends i) n in
    record {
      weight = omega (arith, closing_weight opened, same, ab.weight, bc.weight, cd.weight);
      longest = omega (arith, ab.longest, bc.longest, cd.longest);
    }

-- ---- what is left

-- what an answer gives by two clauses
pub on_ok_both : {T E P Q R : Type 0} (r : Result T E) → (P → Q → R) → OnOk r P → OnOk r Q → OnOk r R
on_ok_both (Ok x) f p q = f p q
on_ok_both (Err e) f p q = tt

-- what is known as a save begins
pub record Begins (u : InLog) (h : Header) (now : List Record) (a : State) : Type 0 where
  pub told : IsTrue a.tells
  pub front : InFront u a.file
  pub asked : IsAsked u h now

-- the slot in use in front of its log
abbrev pub front_of : {u : InLog} {h : Header} {now : List Record} {a : State} → Begins u h now a → InUse
front_of {u} begins = record u.in_use { sequence = begins.front.sequence }

parts_of : {u : InLog} {h : Header} {now : List Record} {a : State} (begins : Begins u h now a)
    → InUsePartsIn true a.file (front_of begins)
parts_of {u} {h} {now} {a} begins = in_use_parts_in true a.file (front_of begins) begins.front.slot

stands : {u : InLog} {h : Header} {before now : List Record} {a : State} (begins : Begins u h now a)
    (t : LoggedTable) → HasRecords t before a.file → Stands (front_of begins) t a.file
stands begins t has = record { in_use = begins.front.slot; read = has.read }

-- where the data part begins
abbrev data_at : InLog → ℕ
data_at u = head_len u.in_use.block.names

-- what is written within the other slot is outside of it
data_kept : (u : InLog) (at n : ℕ) (a b : List ℕ) → at + n ≤ other_gate u.in_use + 1 → SameOutside at n a b
    → SameFrom (data_at u) a b
data_kept u at n a b high same =
    let end = slot_low u.in_use.block.names (1 - u.in_use.slot) (other_low u.in_use.slot) in
    record { same_length = same.same_length; bytes = λ i low. same.above i (omega (arith, low, high, end)) }

data_then : {base : ℕ} {a b c : List ℕ} → SameFrom base a b → SameFrom base b c → SameFrom base a c
data_then h k = record {
  same_length = h.same_length ∙ k.same_length;
  bytes = λ i low. h.bytes i low ∙ k.bytes i low;
}

-- What is left before the gate is opened: the slot in use is kept beside a closed one, and from the data on
-- stands what an old image has, or the content of before.
pub record IsOld (u : InLog) (x : InUse) (may_leave : List ℕ → Type 0) (file image : List ℕ) : Type 0 where
  pub kept : IsKept x file image
  pub before : List ℕ
  pub was : may_leave before ⊎ (before ≡ file)
  pub data_part : SameFrom (data_at u) before image

-- at first each image is like the content below the data part
abbrev AreAlike : InLog → State → Type 0
AreAlike u a = (image : List ℕ) → a.may_leave image → IsAlikeBelow (data_at u) a.file image

-- the other slot is closed
pub record IsClosed (u : InLog) (h : Header) (before now : List Record) (a b : State) : Type 0 where
  pub begins : Begins u h now a
  pub left : ChangesLeave u (rewritten u (length now)) h before now a b
  pub told : IsTrue b.tells
  pub kept : IsKept (front_of begins) a.file b.file
  pub images : AreAlike u a → (image : List ℕ) → b.may_leave image
      → IsOld u (front_of begins) a.may_leave a.file image

-- the table stands in it, and a crash leaves what reads give
pub record IsWritten (u : InLog) (h : Header) (before now : List Record) (a b : State) : Type 0 where
  pub begins : Begins u h now a
  pub left : ChangesLeave u (rewritten u (length now)) h before now a b
  pub told : IsTrue b.tells
  pub keeps : KeepsAll (front_of begins) a.file b.file
  pub base : HasNext u h now b.file
  pub rests : Rests b

module _ {u : InLog} {h : Header} {before now : List Record} {a b : State} where
  -- the other slot is being closed, where it is open
  pub left_closing : Begins u h now a → (u.in_use.other_open ≡ false → Unchanged a b)
      → WritesWithin (other_gate u.in_use) 1 a b → ChangesLeave u (rewritten u (length now)) h before now a b
  left_closing begins same w =
      elim (cases_Bool u.in_use.other_open) [
        | inl on ↦ record {
          data_part = beyond a.file b.file (w.others begins.told);
          old_or_new = λ t has fresh. inl (closing_kept x t a.file a.file b.file (stands begins t has) on
              (record { long = (parts_of begins).long; bytes = λ i low. refl }) (w.others begins.told));
          images = λ t has fresh alike. Leaves-weaken _ (λ image re. inl (record {
            table = closing_kept x t a.file re.0 image (stands begins t has) on (alike re.0 re.1) re.2;
            before = re.0;
            was = inl re.1;
            data_part = beyond re.0 image re.2;
          })) w.since;
        }
        | inr off ↦ record {
          data_part = beyond a.file b.file (w.others begins.told);
          old_or_new = λ t has fresh. inl
              (subst (λ file. logged_in file ≡ Ok t) (sym ((same off).same_file begins.told)) has.read);
          images = λ t has fresh alike. Leaves-weaken _ (λ image may. inl (record {
            table = alike_kept x t a.file image (stands begins t has) (alike image may);
            before = image;
            was = inl may;
            data_part = record { same_length = refl; bytes = λ i low. refl };
          })) (same off).since;
        }
      ]
    where
      x : InUse
      x = front_of begins

      beyond : (file image : List ℕ) → SameOutside (other_gate x) 1 file image
          → SameFrom (data_at u) file image
      beyond file image = data_kept u (other_gate x) 1 file image (omega arith)

  -- it is closed
  pub is_closed : Begins u h now a → (u.in_use.other_open ≡ false → Unchanged a b)
      → WritesWithin (other_gate u.in_use) 1 a b
      → (IsTrue a.tells → is_open b.file (other_gate u.in_use) ≡ false)
      → (IsTrue a.tells → u.in_use.other_open ≡ true → Rests b) → IsClosed u h before now a b
  is_closed begins same w closed rests =
      let x = front_of begins in
      let parts = parts_of begins in
      let end = slot_low x.block.names (1 - x.slot) (other_low x.slot) in
      let left : ChangesLeave u (rewritten u (length now)) h before now a b = left_closing begins same w in
      let kept : IsKept x a.file b.file = record {
        keeps = keeps-beside x (other_gate x) 1 a.file b.file parts.slot parts.long (omega arith)
            (omega arith) (w.others begins.told);
        closed = closed begins.told;
      } in
      record {
        begins = begins;
        left = left;
        told = subst IsTrue (sym w.stays.told) begins.told;
        kept = kept;
        images = λ alike image may. elim (cases_Bool u.in_use.other_open) [
          | inl on ↦ subst (IsOld u x a.may_leave a.file) (sym (rests begins.told on image may))
              record { kept = kept; before = a.file; was = inr refl; data_part = left.data_part }
          | inr off ↦
              let was = (same off).images image may in
              let like = alike image was in
              record {
                kept = record {
                  keeps = keeps-below x a.file image parts.slot like.long like.bytes;
                  closed = ap (λ v. v == gate_open) (sym (like.bytes (other_gate x) (omega (arith, end))))
                      ∙ parts.other ∙ off;
                };
                before = image;
                was = inl was;
                data_part = record { same_length = refl; bytes = λ i low. refl };
              }
        ];
      }

  -- while the gate is written the slot in use is kept
  opened_keeps : (k : IsWritten u h before now a b) (image : List ℕ)
      → SameOutside (other_gate u.in_use) 1 b.file image → KeepsAll (front_of k.begins) a.file image
  opened_keeps k image same = beside (front_of k.begins) (other_gate u.in_use) 1 a.file b.file image
      (parts_of k.begins).slot (omega arith) (omega arith) k.keeps same

  -- and once it is open, the table stands behind it
  filled : IsWritten u h before now a b → (image : List ℕ)
      → SameOutside (other_gate u.in_use) 1 b.file image → is_open image (other_gate u.in_use) ≡ true
      → IsFilled u h now a.file image
  filled k image same opened =
      let names = u.in_use.block.names in
      let other = 1 - u.in_use.slot in
      let end = slot_low names other (other_low u.in_use.slot) in
      let keeps = opened_keeps k image same in
      let fit = records_fit names h.version (length now)
      (subst (λ v. length now ≤ cap names v) (sym k.begins.asked.version) k.begins.asked.count) in
      record {
        front = k.begins.front;
        keeps = keeps;
        base = base_kept (slot_at names other) (log_top names other) (gate_at names other)
            (next_header u.in_use h (length now)) now b.file image (omega (arith, end, k.keeps.long))
            (omega (arith, end, keeps.long)) same.below (omega (arith, fit)) (omega arith) k.base;
        opened = opened;
      }

module _ {u : InLog} {h : Header} {before now : List Record} {a b c : State} where
  -- header, records and what leads to the first gate are being written
  pub left_filling : {at n : ℕ} → IsClosed u h before now a b → other_at u.in_use ≤ at
      → at + n ≤ other_gate u.in_use → WritesWithin at n b c
      → ChangesLeave u (rewritten u (length now)) h before now a c
  left_filling {at} {n} k low high w = record {
    data_part = data_then k.left.data_part (beyond b.file c.file (w.others k.told));
    old_or_new = λ t has fresh. inl (closed_kept x t a.file c.file (stands k.begins t has)
        (kept b.file c.file k.kept (w.others k.told)));
    images = λ t has fresh alike. Leaves-trans (k.left.images t has fresh alike)
        (Leaves-weaken _ (λ image re.
        let old = k.images alike re.0 re.1 in
        inl (record {
          table = closed_kept x t a.file image (stands k.begins t has) (kept re.0 image old.kept re.2);
          before = old.before;
          was = old.was;
          data_part = data_then old.data_part (beyond re.0 image re.2);
        })) w.since);
  }
    where
      x : InUse
      x = front_of k.begins

      beyond : (file image : List ℕ) → SameOutside at n file image → SameFrom (data_at u) file image
      beyond file image = data_kept u at n file image (omega (arith, high))

      kept : (middle image : List ℕ) → IsKept x a.file middle → SameOutside at n middle image
          → IsKept x a.file image
      kept middle image = kept_beside x at n a.file middle image (parts_of k.begins).slot low high

  -- they are written
  pub is_written : {at top count n : ℕ} → at ≡ other_at u.in_use
      → top ≡ log_top u.in_use.block.names (1 - u.in_use.slot) → count ≡ length now
      → IsClosed u h before now a b → at + n ≤ other_gate u.in_use → WritesWithin at n b c
      → (IsTrue b.tells → HasBase at top (next_header u.in_use h count) now c.file)
      → (IsTrue b.tells → Rests c) → IsWritten u h before now a c
  is_written {at} {top} {count} {n} here ends all k high w base rests =
      let room = log_top u.in_use.block.names (1 - u.in_use.slot) in
      let next = next_header u.in_use h (length now) in
      record {
        begins = k.begins;
        left = left_filling k (omega (arith, here)) high w;
        told = subst IsTrue (sym w.stays.told) k.told;
        keeps = beside (front_of k.begins) at n a.file b.file c.file (parts_of k.begins).slot
            (omega (arith, here)) (omega (arith, high)) k.kept.keeps (w.others k.told);
        base = subst (λ k. HasBase k room next now c.file) here
            (subst (λ k. HasBase at k next now c.file) ends
            (subst (λ k. HasBase at top (next_header u.in_use h k) now c.file) all (base k.told)));
        rests = rests k.told;
      }

  -- the gate is being opened
  pub left_opening : IsWritten u h before now a b → WritesWithin (other_gate u.in_use) 1 b c
      → ChangesLeave u (rewritten u (length now)) h before now a c
  left_opening k w = record {
    data_part = beyond c.file (w.others k.told);
    old_or_new = λ t has fresh. opening c.file (w.others k.told) t has fresh;
    images = λ t has fresh alike. Leaves-trans (k.left.images t has fresh alike)
        (Leaves-weaken _ (λ image re.
        let same = subst (λ file. SameOutside gate 1 file image) (k.rests re.0 re.1) re.2 in
        with_data t image (beyond image same) (opening image same t has fresh)) w.since);
  }
    where
      gate : ℕ
      gate = other_gate u.in_use

      new : LoggedTable
      new = next_table u (rewritten u (length now)) h now

      beyond : (image : List ℕ) → SameOutside gate 1 b.file image → SameFrom (data_at u) a.file image
      beyond image same = data_then k.left.data_part (data_kept u gate 1 b.file image (omega arith) same)

      opening : (image : List ℕ) → SameOutside gate 1 b.file image → (t : LoggedTable)
          → HasRecords t before a.file → u.in_use.sequence + 1 < log_worn_from h.kind
          → HasOldOrNew t new image
      opening image same t has fresh =
          elim (cases_Bool (is_open image gate)) [
            | inl on ↦ inr (filled_read k.begins.asked (filled k image same on) fresh)
            | inr off ↦ inl (closed_kept (front_of k.begins) t a.file image (stands k.begins t has)
                (record { keeps = opened_keeps k image same; closed = off }))
          ]

      with_data : (t : LoggedTable) (image : List ℕ) → SameFrom (data_at u) a.file image
          → HasOldOrNew t new image → LeavesOldTable t (data_at u) a.may_leave a.file image
          ⊎ LeavesNewTable new (data_at u) a.file image
      with_data t image same (inl is) =
          inl (record { table = is; before = a.file; was = inr refl; data_part = same })
      with_data t image same (inr is) = inr (record { table = is; data_part = same })

  -- and it is open
  pub save_done : IsWritten u h before now a b → WritesWithin (other_gate u.in_use) 1 b c
      → is_open c.file (other_gate u.in_use) ≡ true → Rests c
      → AreSaved u (rewritten u (length now)) h before now a c
  save_done k w opened rests =
      let f = filled k c.file (w.others k.told) opened in
      record {
        in_use = filled_in_log k.begins.asked f;
        saved = λ t has fresh. filled_read k.begins.asked f fresh;
        rests = rests;
      }
