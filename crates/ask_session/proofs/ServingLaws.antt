-- What serving a request does, by what the calls of the store do.
use Rattle.std.specs.Prelude.{◌≡◌, ℕ, ◌+◌, ◌-◌, false, ◌&&◌, List, length, Some, Result, IsTrue, refl}
use Rattle.std.proofs.Common.{arith, ap, sym, ◌∙◌, subst, inl}
use Rattle.disk_face.specs.States as disk
use Rattle.disk_face.specs.Frames.{Unchanged}
use Rattle.disk_face.proofs.MomentLaws.{Leaves-weaken}
use Rattle.map_model.specs.Requests as ask
use Rattle.map_model.specs.Requests.{Refused, Reply, Request}
use Rattle.segment_layout.specs.Books.{book_end}
use Rattle.segment_layout.specs.Bounds.{Loose, Tight}
use Rattle.segment_layout.proofs.TightLaws.{tight_is_loose}
use Rattle.table_rules.proofs.SequenceLaws.{sequence_wider}
use Rattle.store_model.specs.Connection.{IsKeptImage, IsOver, StoreValue, SameOnTable, base_of, limits_of, state_of}
use Rattle.store_model.specs.Stores.{IsStore}
use Rattle.store_model.specs.States.{Served, Step, facts_of, refusal, unchanged}
use Rattle.store_model.specs.Answers.{facts_at}
use Rattle.store_model.proofs.AnsweredLaws.{refusal_at}
use Rattle.store_model.proofs.RequestLaws.{served_by}
use Rattle.store_model.proofs.OverLaws.{kept_image}
use Rattle.store_model.proofs.OpenedLaws.{tight_now}
use Rattle.ask_text.specs.declared.ends.End.{End}
use Rattle.ask_session.specs.Ready.{CanServe}
use Rattle.ask_session.specs.Serving.{IsServingImage, Serves, calls_of, is_changing, is_disk_fault, reply_at, served_at}

-- ---- images

-- a data part as long as the file's is within bounds
pub same_length_loose : {classes : ℕ} (s : StoreValue) (r : Request) (file image : List ℕ) → IsStore classes s
    → IsOver classes s file → length image ≡ length file
    → Loose s.in_use.block.k (length image - base_of s) (state_of s file).map (served_at s file r).state.map
same_length_loose s r file image h over same =
    let n : length image - base_of s
    ≡ book_end s.in_use.block.k s.book = omega (arith, same, over.same_length) in
    tight_is_loose s.in_use.block.k (length image - base_of s) (state_of s file).map
    (served_at s file r).state.map
    (subst (λ (x : ℕ). Tight s.in_use.block.k x (state_of s file).map) (sym n) (tight_now s file h over))

pub kept_is_serving : {classes : ℕ} (s : StoreValue) (r : Request) (file image : List ℕ) → IsStore classes s
    → IsOver classes s file → IsKeptImage classes s file image → IsServingImage classes s r file image
kept_is_serving s r file image h over is = record {
  opens = inl is.opens;
  sequence = sequence_wider s.in_use.sequence (s.in_use.sequence + (served_at s file r).saves.most) image
      (omega arith) is.sequence;
  loose = same_length_loose s r file image h over is.same.same_length;
}

-- ---- nothing changed

-- the state stays, and no checkpoint is made
pub record StaysAt (s : StoreValue) (file : List ℕ) (r : Request) : Type 0 where
  pub reply : Reply
  pub is : served_at s file r ≡ unchanged (state_of s file) reply
  pub none : calls_of (limits_of s) (state_of s file) r ≡ 0

same_step : (s : StoreValue) (file : List ℕ) (r : Request) → StaysAt s file r
    → Step (limits_of s) (state_of s file) r (reply_at s file r) (state_of s file)
same_step s file r stays = record {
  replied = refl;
  state = ap (λ (x : Served). record x.state { sequence = s.in_use.sequence }) (sym stays.is);
  low = omega (arith, ap (λ (x : Served). x.saves.least) stays.is);
  high = omega (arith, ap (λ (x : Served). x.saves.most) stays.is);
}

pub serves_same : {T : Type 0} {classes : ℕ} (s : StoreValue) (r : Request) (a d : disk.State)
    (result : Result T End)
    → CanServe classes s a → Unchanged a d → (IsTrue a.tells → StaysAt s a.file r)
    → (is_changing r && is_disk_fault result) ≡ false → Serves classes r s s a d result
serves_same {T} {classes} s r a d result h same stays calm = record {
  step = λ told calm. subst (λ (x : List ℕ). Step (limits_of s) (state_of s a.file) r (reply_at s a.file r)
      (state_of s x)) (sym (same.same_file told)) (same_step s a.file r (stays told));
  block = λ calm. refl;
  calls = λ told calm least. omega (arith, same.same_turn, (stays told).none, h.fits);
  reads = λ asks fault. refl;
  still = λ asks. same;
  over = record {
    idle = h.idle;
    over = λ whole told.
        let told_before : IsTrue a.tells = subst IsTrue same.stays.told told in
        subst (IsOver classes s) (sym (same.same_file told_before)) (h.over told_before);
  };
  broken = h.whole ∙ sym calm;
  left = λ told rests. Leaves-weaken (IsServingImage classes s r a.file) (λ image may.
      kept_is_serving s r a.file image h.sound (h.over told)
      (kept_image s h.sound a.file (h.over told) image (rests image may))) same.since;
  rests = λ told whole rests image may. subst (λ (x : List ℕ). SameOnTable (base_of s) s.kept x image)
      (sym (same.same_file told)) (rests image (same.images image may));
  frame = record { no_turn_back = same.since.later; stays = same.stays };
}

-- ---- refusals

-- a request that is refused
pub refused_stays : {classes : ℕ} (s : StoreValue) (file : List ℕ) (r : Request) (w : Refused)
    → IsStore classes s
    → refusal (limits_of s) (facts_at s r) r ≡ Some w
    → (StaysAt s file r) × (reply_at s file r ≡ ask.refused w)
refused_stays s file r w h is =
    let found : refusal (limits_of s) (facts_of (state_of s file) r) r ≡ Some w = refusal_at s file r h
    ∙ is in
    let same : served_at s file r ≡ unchanged (state_of s file) (ask.refused w) =
    served_by (limits_of s) (state_of s file) r (Some w) found in (
      record { reply = ask.refused w; is = same; none = no_calls r found },
      ap (λ (x : Served). x.reply) same,
    )
  where
    no_calls : (r : Request) → refusal (limits_of s) (facts_of (state_of s file) r) r ≡ Some w
        → calls_of (limits_of s) (state_of s file) r ≡ 0
    no_calls (ask.change c) e = rw e refl
    no_calls (ask.get name) e = refl
    no_calls (ask.old name) e = refl
    no_calls ask.keep e = refl
    no_calls ask.back e = refl
    no_calls ask.list e = refl
    no_calls ask.stat e = refl
