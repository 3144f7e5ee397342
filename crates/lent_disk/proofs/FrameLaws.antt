-- What a call on a file in memory leaves, as the frame of a disk's call.
use Rattle.std.proofs.Common.{◌≡◌, ◌∙◌, ◌++◌, ap, sym, subst, refl, arith, ℕ, List, ◌∷◌, length}
use Rattle.std.specs.Prelude.{Some, false, ◌≤◌, ◌-◌, ◌^◌}
use Rattle.byte_ranges.proofs.RangeLaws.{SameOutside-refl}
use Rattle.disk_face.specs.Images.{IsImage}
use Rattle.disk_face.specs.Frames.{AfterLength, AfterSync, AfterWrite, Stays}
use Rattle.disk_face.specs.Moments.{Elapses, Only}
use Rattle.disk_history.specs.Changes.{RecordedCall, during}
use Rattle.disk_history.specs.Changes.RecordedCall.{Sized, Synced, Wrote}
use Rattle.disk_history.specs.Histories.{EndedBy, MayLeave, done, file_of, undone, unsynced_of}
use Rattle.disk_history.specs.Lawful.{changed_outside}
use Rattle.disk_history.proofs.HistoryLaws.{Elapses_done, Elapses_undone, Follows_length, Follows_length_none, Follows_write, Follows_write_none, NoMore_sync, Only_sync}
use Rattle.lent_disk.specs.Calls.{spelled}
use Rattle.disk_face.specs.declared.bay.Mounted.TheVariants.{There}
use Rattle.lent_disk.specs.Disks.{lent_state, word_in}
use Rattle.lent_disk.specs.Notings.{IsNoting, Noting, content, made, refused}

module _ (n : Noting) (few : n.history.turn ≤ 2 ^ 64 - 1)
    (ended : EndedBy n.history.turn n.history.calls) where
  stays : (new : Noting) → word_in new ≡ word_in n → Stays (lent_state n) (lent_state new)
  stays new same = record {
    ready = refl;
    told = refl;
    images_told = refl;
    same_mount = ap (λ name. Some (record { name = name; make = false; answer = There })) same;
  }

  elapses_made : (call : RecordedCall) (now : List ℕ → Type 0)
      → ((image : List ℕ) → IsImage (during call (unsynced_of n.history)) image → now image)
      → Elapses (lent_state n) (lent_state (made call n)) now
  elapses_made call now within =
      let e = Elapses_done n.history (omega (arith, few)) ended call now within in
      record { later = e.later; each = e.each; keeps = e.keeps }

  elapses_refused : (call : RecordedCall) (now : List ℕ → Type 0)
      → Elapses (lent_state n) (lent_state (refused call n)) now
  elapses_refused call now =
      let e = Elapses_undone n.history (omega (arith, few)) ended now in
      record { later = e.later; each = e.each; keeps = e.keeps }

  wrote_frame : (at : ℕ) (bytes : List ℕ)
      → AfterWrite at (length bytes) (lent_state n) (lent_state (made (Wrote at bytes) n))
  wrote_frame at bytes = record {
    others = λ _. changed_outside (content n) at bytes;
    images = Follows_write n.history at bytes;
    time = elapses_made (Wrote at bytes) (MayLeave (done (Wrote at bytes) n.history)) (λ image is. is);
    one_turn = omega (arith, few);
    stays = stays (made (Wrote at bytes) n) refl;
    asks = record { weight = omega arith; longest = omega arith };
  }

  not_wrote_frame : (at : ℕ) (bytes : List ℕ)
      → AfterWrite at (length bytes) (lent_state n) (lent_state (refused (Wrote at bytes) n))
  not_wrote_frame at bytes = record {
    others = λ _. SameOutside-refl at (length bytes) (content n);
    images = Follows_write_none n.history at (length bytes);
    time = elapses_refused (Wrote at bytes) (MayLeave n.history);
    one_turn = omega (arith, few);
    stays = stays (refused (Wrote at bytes) n) refl;
    asks = record { weight = omega arith; longest = omega arith };
  }

  sized_frame : (m : ℕ) → AfterLength m (lent_state n) (lent_state (made (Sized m) n))
  sized_frame m = record {
    images = Follows_length n.history m;
    time = elapses_made (Sized m) (MayLeave (done (Sized m) n.history)) (λ image is. is);
    one_turn = omega (arith, few);
    stays = stays (made (Sized m) n) refl;
    asks = record { weight = omega arith; longest = omega arith };
  }

  not_sized_frame : (m : ℕ) → AfterLength m (lent_state n) (lent_state (refused (Sized m) n))
  not_sized_frame m = record {
    images = Follows_length_none n.history m;
    time = elapses_refused (Sized m) (MayLeave n.history);
    one_turn = omega (arith, few);
    stays = stays (refused (Sized m) n) refl;
    asks = record { weight = omega arith; longest = omega arith };
  }

  synced_frame : AfterSync (lent_state n) (lent_state (made Synced n))
  synced_frame = record {
    same_file = λ _. refl;
    images = NoMore_sync n.history;
    time = elapses_made Synced (MayLeave n.history) (λ image is. is);
    one_turn = omega (arith, few);
    stays = stays (made Synced n) refl;
    asks = record { weight = omega arith; longest = omega arith };
  }

  not_synced_frame : AfterSync (lent_state n) (lent_state (refused Synced n))
  not_synced_frame = record {
    same_file = λ _. refl;
    images = λ image is. is;
    time = elapses_refused Synced (MayLeave n.history);
    one_turn = omega (arith, few);
    stays = stays (refused Synced n) refl;
    asks = record { weight = omega arith; longest = omega arith };
  }

same_parts : {a b : Noting} → a.history ≡ b.history → a.start ≡ b.start → a.text ≡ b.text
    → a.asked ≡ b.asked → a.room ≡ b.room → a.log_room ≡ b.log_room → a ≡ b
same_parts h s t k r l i = record {
  history = h i;
  start = s i;
  text = t i;
  asked = k i;
  room = r i;
  log_room = l i;
}

-- the same by the fields that were seen before a call, and the value after it
module _ {seen n : Noting} {file : List ℕ} (is : seen ≡ n) (held : IsNoting seen file) where
  holds : IsNoting n file
  holds = subst (λ (x : Noting). IsNoting x file) is held

  pub after_write : (at : ℕ) (bytes : List ℕ) (new : Noting) → new ≡ made (Wrote at bytes) n
      → AfterWrite at (length bytes) (lent_state n) (lent_state new)
  after_write at bytes new e =
      subst (λ (x : Noting). AfterWrite at (length bytes) (lent_state n) (lent_state x))
      (sym e) (wrote_frame n holds.few holds.ended at bytes)

  pub after_no_write : (at : ℕ) (bytes : List ℕ) (new : Noting) → new ≡ refused (Wrote at bytes) n
      → AfterWrite at (length bytes) (lent_state n) (lent_state new)
  after_no_write at bytes new e =
      subst (λ (x : Noting). AfterWrite at (length bytes) (lent_state n) (lent_state x)) (sym e)
      (not_wrote_frame n holds.few holds.ended at bytes)

  pub after_length : (m : ℕ) (new : Noting) → new ≡ made (Sized m) n
      → AfterLength m (lent_state n) (lent_state new)
  after_length m new e = subst (λ (x : Noting). AfterLength m (lent_state n) (lent_state x)) (sym e)
      (sized_frame n holds.few holds.ended m)

  pub after_no_length : (m : ℕ) (new : Noting) → new ≡ refused (Sized m) n
      → AfterLength m (lent_state n) (lent_state new)
  after_no_length m new e = subst (λ (x : Noting). AfterLength m (lent_state n) (lent_state x)) (sym e)
      (not_sized_frame n holds.few holds.ended m)

  pub after_sync_made : (new : Noting) → new ≡ made Synced n → AfterSync (lent_state n) (lent_state new)
  after_sync_made new e = subst (λ (x : Noting). AfterSync (lent_state n) (lent_state x)) (sym e)
      (synced_frame n holds.few holds.ended)

  pub after_no_sync : (new : Noting) → new ≡ refused Synced n → AfterSync (lent_state n) (lent_state new)
  after_no_sync new e = subst (λ (x : Noting). AfterSync (lent_state n) (lent_state x)) (sym e)
      (not_synced_frame n holds.few holds.ended)

-- after a sync a crash leaves what reads give
pub only_made : (n new : Noting) → new ≡ made Synced n → Only (file_of n.history) (MayLeave new.history)
only_made n new e =
    subst (λ (x : Noting). Only (file_of n.history) (MayLeave x.history)) (sym e) (Only_sync n.history)

-- a value whose parts are those after a call is the value after it
module _ {seen n new : Noting} (is : seen ≡ n) where
  pub made_is : {call : RecordedCall} → new.history ≡ done call seen.history → new.start ≡ seen.start
      → new.text ≡ seen.text ++ spelled call → new.asked ≡ call ∷ seen.asked → new.room ≡ seen.room
      → new.log_room ≡ seen.log_room → new ≡ made call n
  made_is {call} a b c d e f = same_parts a b c d e f ∙ ap (made call) is

  pub refused_is : {call : RecordedCall} → new.history ≡ undone seen.history → new.start ≡ seen.start
      → new.text ≡ seen.text → new.asked ≡ call ∷ seen.asked → new.room ≡ seen.room
      → new.log_room ≡ seen.log_room → new ≡ refused call n
  refused_is {call} a b c d e f = same_parts a b c d e f ∙ ap (refused call) is
