-- What is left by each of the two steps of an append: the text behind the closed gate, and the gate.
use Rattle.std.specs.Prelude.{◌≡◌, ◌⊎◌, ℕ, ◌+◌, ◌≤◌, ◌==◌, true, false, IsTrue, List, length, OnOk, Result, Ok, Err, refl}
use Rattle.std.proofs.Common.{◌∙◌, ap, arith, inl, inr, subst, sym}
use Rattle.std.proofs.lemmas.Bool.{cases_Bool}
use Rattle.byte_ranges.specs.Ranges.{SameOutside, bytes_at}
use Rattle.byte_ranges.proofs.RangeLaws.{SameOutside-trans, SameOutside-wider, bytes_at-same}
use Rattle.disk_face.specs.Moments.{Rests}
use Rattle.disk_face.proofs.MomentLaws.{Leaves-trans, Leaves-weaken}
use Rattle.disk_face.specs.States.{State}
use Rattle.disk_face.specs.Writes.{IsRewritten, WritesWithin}
use Rattle.slot_codec.specs.Choice.{is_open}
use Rattle.slot_codec.specs.Entries.{Entry, entry_room}
use Rattle.slot_codec.specs.Spelling.{gate_open}
use Rattle.slot_codec.specs.declared.entry.EntryHead.{EntryHead}
use Rattle.slot_pair.specs.Appends.{AppendLeaves, HasEntry, IsAppended, LeavesClosed, LeavesEntry, entry_text}

-- a gate in front of what is written stays closed
closed_still : (at : ℕ) {n : ℕ} {file image : List ℕ} → SameOutside (at + 1) n file image
    → is_open file at ≡ false → is_open image at ≡ false
closed_still at same closed =
    ap (λ v. v == gate_open) (sym (same.below at (omega arith))) ∙ closed

-- the text of an entry with this head is being written
pub left_text : (at : ℕ) (e : Entry) (head : EntryHead) {a b : State} → head ≡ e.head → IsTrue a.tells
    → WritesWithin (at + 1) (entry_room head) a b → AppendLeaves at e a b
left_text at e head {a} {b} is told wrote =
    let w : WritesWithin (at + 1) (entry_room e.head) a b =
    subst (λ h. WritesWithin (at + 1) (entry_room h) a b) is wrote in
    record {
      content = λ closed. inl (closed_still at (w.others told) closed);
      images = λ closed all. Leaves-weaken _ (λ image re. inl (record {
        before = re.0;
        was = inl re.1;
        others = SameOutside-wider (at + 1) (entry_room e.head) at (entry_room e.head + 1) re.0 image
            (omega arith)
            (omega arith) re.2;
        closed = closed_still at re.2 (all re.0 re.1);
      })) w.since;
    }

-- the text stands behind the gate, and a crash leaves what reads give
pub record HasText (at : ℕ) (e : Entry) (a b : State) : Type 0 where
  pub told : IsTrue b.tells
  pub within : at + 1 + entry_room e.head ≤ length b.file
  pub others : SameOutside (at + 1) (entry_room e.head) a.file b.file
  pub text : bytes_at b.file (at + 1) (entry_room e.head) ≡ entry_text e
  pub left : AppendLeaves at e a b
  pub rests : Rests b

-- it is written and synced
pub has_text : (at : ℕ) (e : Entry) (head : EntryHead) {a b : State} → head ≡ e.head → IsTrue a.tells
    → at + 1 + entry_room head ≤ length a.file → WritesWithin (at + 1) (entry_room head) a b
    → bytes_at b.file (at + 1) (entry_room head) ≡ entry_text e → Rests b → HasText at e a b
has_text at e head {a} {b} is told within wrote text rests =
    let w : WritesWithin (at + 1) (entry_room e.head) a b =
    subst (λ h. WritesWithin (at + 1) (entry_room h) a b) is wrote in
    let inside : at + 1 + entry_room e.head ≤ length a.file =
    subst (λ h. at + 1 + entry_room h ≤ length a.file) is within in
    record {
      told = subst IsTrue (sym w.stays.told) told;
      within = omega (arith, inside, (w.others told).same_length);
      others = w.others told;
      text = subst (λ h. bytes_at b.file (at + 1) (entry_room h) ≡ entry_text e) is text;
      left = left_text at e head is told wrote;
      rests = rests;
    }

-- what differs from it at the gate alone has the entry where its gate is open
open_entry : {at : ℕ} {e : Entry} {a b : State} (image : List ℕ) → HasText at e a b
    → SameOutside at 1 b.file image → is_open image at ≡ true → HasEntry at e image
open_entry {at} {e} {a} {b} image has same gate = record {
  gate = gate;
  text = bytes_at-same image b.file (at + 1) (entry_room e.head)
      (omega (arith, has.within, same.same_length)) has.within (λ i low high. sym (same.above i low))
      ∙ has.text;
}

-- and it differs from the content of before within the entry's bytes alone
both_others : {at : ℕ} {e : Entry} {a b : State} (image : List ℕ) → HasText at e a b
    → SameOutside at 1 b.file image → SameOutside at (entry_room e.head + 1) a.file image
both_others {at} {e} {a} {b} image has same = SameOutside-trans at (entry_room e.head + 1) a.file b.file image
    (SameOutside-wider (at + 1) (entry_room e.head) at (entry_room e.head + 1) a.file b.file (omega arith)
    (omega arith) has.others)
    (SameOutside-wider at 1 at (entry_room e.head + 1) b.file image (omega arith) (omega arith) same)

-- so it is closed or has the entry
by_gate : {at : ℕ} {e : Entry} {a b : State} (image : List ℕ) → HasText at e a b
    → SameOutside at 1 b.file image → (is_open image at ≡ false) ⊎ HasEntry at e image
by_gate {at} image has same =
    elim (cases_Bool (is_open image at)) [
      | inl there ↦ inr (open_entry image has same there)
      | inr closed ↦ inl closed
    ]

-- the gate is being opened
pub left_gate : {at : ℕ} {e : Entry} {a b c : State} → HasText at e a b → WritesWithin at 1 b c
    → AppendLeaves at e a c
left_gate {at} {e} {a} {b} {c} has w = record {
  content = λ closed. by_gate c.file has (w.others has.told);
  images = λ closed all. Leaves-trans (has.left.images closed all) (Leaves-weaken _ left w.since);
}
  where
    either : (image : List ℕ) → SameOutside at 1 b.file image
        → (is_open image at ≡ false) ⊎ HasEntry at e image
        → LeavesClosed at (entry_room e.head) a.may_leave a.file image ⊎ LeavesEntry at e a.file image
    either image same (inl closed) = inl (record {
      before = a.file;
      was = inr refl;
      others = both_others image has same;
      closed = closed;
    })
    either image same (inr there) = inr (record { others = both_others image has same; there = there })

    left : (image : List ℕ) → IsRewritten b.may_leave at 1 image
        → LeavesClosed at (entry_room e.head) a.may_leave a.file image ⊎ LeavesEntry at e a.file image
    left image re =
        let same : SameOutside at 1 b.file image =
        subst (λ x. SameOutside at 1 x image) (has.rests re.0 re.1) re.2 in
        either image same (by_gate image has same)

-- what holds where two things do that a call answers Ok for
pub on_ok_both : {T E P Q R : Type 0} (r : Result T E) → (P → Q → R) → OnOk r P → OnOk r Q → OnOk r R
on_ok_both (Ok x) f p q = f p q
on_ok_both (Err e) f p q = tt

-- and it is open
pub is_appended : {at : ℕ} {e : Entry} {a b c : State} → HasText at e a b → WritesWithin at 1 b c
    → is_open c.file at ≡ true → Rests c → IsAppended at e c
is_appended {at} {e} {a} {b} {c} has w gate rests =
    record { there = open_entry c.file has (w.others has.told) gate; rests = rests }
