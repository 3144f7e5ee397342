-- One more job of a work.
use Rattle.std.specs.Prelude.{◌≡◌, ◌⊎◌, ℕ, ◌+◌, ◌-◌, ◌*◌, ◌^◌, ◌≤◌, false, List, [], ◌∷◌, ◌++◌, length, Result, Ok, Err, IsTrue, refl}
use Rattle.std.proofs.Common.{arith, ap, sym, ◌∙◌, subst, inl, inr}
use Rattle.std.proofs.Math.Nat.{le-max_left}
use Rattle.disk_face.specs.States as disk
use Rattle.disk_face.proofs.FrameLaws.{Stays-trans}
use Rattle.disk_face.proofs.MomentLaws.{Leaves-none, Leaves-trans, Leaves-weaken}
use Rattle.slot_pair.specs.Finding.{HasDiskCause}
use Rattle.size_class.specs.declared.TheConstants.{SIZE_MAX}
use Rattle.slot_codec.specs.declared.codec.SuperBlock.{SuperBlock}
use Rattle.slot_codec.specs.Spelling.{head_len}
use Rattle.map_model.specs.Maps.{Map}
use Rattle.map_model.specs.Requests.{Reply, Request}
use Rattle.segment_layout.specs.Bounds.{Loose}
use Rattle.table_rules.specs.Sequences.{HasSequenceUpTo}
use Rattle.table_rules.proofs.SequenceLaws.{sequence_wider}
use Rattle.store_model.specs.Connection.{IsConnected, StoreValue, base_of, limits_of, state_of}
use Rattle.store_model.specs.States.{Limits, State, Step}
use Rattle.store_model.specs.Stores.{IsStore}
use Rattle.ask_text.specs.declared.ends.End.{End}
use Rattle.ask_text.specs.declared.ends.End.TheVariants as ends
use Rattle.ask_session.specs.Serving.{IsServingImage, Serves, is_changing, reply_at, served_at}
use Rattle.ask_session.specs.Runs.{IsRunImage, IsStepImage, OpensToKept, last_state, most_sequence}
use Rattle.ask_session.proofs.GrowingLaws.{and_none, chain_more, last_more, saves_within, some_last, some_more}
use Rattle.ask_session.proofs.MakesLaws.{makes}
use Rattle.ask_session.proofs.RunLaws.{opens_with}
use Rattle.work_session.specs.Works.{HasStopped, HasWorked, IsJobImage}

-- no job was done yet
pub worked_none : {classes : ℕ} (s : StoreValue) (a : disk.State) → s.is_broken ≡ false → IsStore classes s
    → IsConnected classes s a → IsTrue a.is_ready → HasWorked classes s s [] [] [] a a
worked_none {classes} s a whole sound over ready = record {
  chain = λ told. tt;
  newest = λ told. refl;
  block = refl;
  unbroken = whole;
  sound = sound;
  over = over;
  rests = λ told rests. rests;
  left = λ told rests. Leaves-none a (IsRunImage classes s.in_use.block.k (base_of s) (state_of s a.file) []);
  reach = λ told. le-max_left s.in_use.sequence (2 ^ 61 + 2 * s.in_use.block.k);
  numbered = λ told rests. Leaves-none a (HasSequenceUpTo (most_sequence s.in_use.block.k s.in_use.sequence));
  later = omega arith;
  frame = record {
    no_turn_back = omega arith;
    stays = record { ready = ready; told = refl; images_told = refl; same_mount = refl };
  };
}

module _ {classes : ℕ} (old mid : StoreValue) (a b : disk.State) (jobs : List Request) (replies : List Reply)
    (states : List State) (ran : HasWorked classes old mid jobs replies states a b)
    (r : Request) (new : StoreValue) (d : disk.State) where
  abbrev k : ℕ
  k = old.in_use.block.k

  abbrev base : ℕ
  base = base_of old

  -- the states of the start, before the job, and after it
  abbrev start : State
  start = state_of old a.file

  abbrev s : State
  s = state_of mid b.file

  abbrev t : State
  t = state_of new d.file

  abbrev reply : Reply
  reply = reply_at mid b.file r

  told_b : IsTrue a.tells → IsTrue b.tells
  told_b told = subst IsTrue (sym ran.frame.stays.told) told

  same_limits : limits_of mid ≡ limits_of old
  same_limits = ap (λ (u : SuperBlock). record { k = u.k; names = u.names; size_max = SIZE_MAX }) ran.block

  -- the greatest sequence that jobs leave
  abbrev most : ℕ
  most = most_sequence k old.in_use.sequence

  saves_low : IsTrue a.tells → s.sequence + (served_at mid b.file r).saves.most ≤ most
  saves_low told = saves_within (limits_of mid) s r k old.in_use.sequence
      (ap (λ (u : SuperBlock). u.k) ran.block) (ran.reach told)

  numbered_low : IsTrue a.tells → (image : List ℕ) → IsServingImage classes mid r b.file image
      → HasSequenceUpTo most image
  numbered_low told image is =
      sequence_wider (s.sequence + (served_at mid b.file r).saves.most) most image
      (saves_low told) is.sequence

  -- ---- a job that was done

  module _ {T : Type 0} (x : T) (serves : Serves classes r mid new b d (Ok x)) (sound : IsStore classes new)
      (cause : b.faults ≤ d.faults) where
    step : IsTrue a.tells → Step (limits_of old) s r reply t
    step told = subst (λ (l : Limits). Step l s r reply t) same_limits (serves.step (told_b told) refl)

    new_kept : IsTrue a.tells → t.kept ≡ (served_at mid b.file r).state.kept
    new_kept told = ap (λ (y : State). y.kept) (serves.step (told_b told) refl).state

    new_book : IsTrue a.tells → t.kept_book ≡ (served_at mid b.file r).state.kept_book
    new_book told = ap (λ (y : State). y.kept_book) (serves.step (told_b told) refl).state

    new_map : IsTrue a.tells → t.map ≡ (served_at mid b.file r).state.map
    new_map told = ap (λ (y : State). y.map) (serves.step (told_b told) refl).state

    step_image : IsTrue a.tells → (image : List ℕ) → IsServingImage classes mid r b.file image
        → IsStepImage classes k base image s t
    step_image told image is = record {
      opens = elim is.opens as (λ _. _) [
        | inl kept ↦ inl kept
        | inr now ↦ elim (makes (limits_of mid) s r) as
            (λ _. OpensToKept classes s image ⊎ OpensToKept classes t image) [
              | inl one ↦ inr (opens_with image (new_kept told ∙ one.kept) (new_book told ∙ one.book) now.1)
              | inr none ↦ absurd (omega (arith, now.0, none.least))
            ]
      ];
      loose = subst (λ (m : Map). Loose k (length image - base) s.map m) (sym (new_map told))
          (subst (λ (u : SuperBlock). Loose u.k (length image - head_len u.names) s.map
          (served_at mid b.file r).state.map) ran.block is.loose);
    }

    pub worked_more : HasWorked classes old new (jobs ++ r ∷ []) (replies ++ reply ∷ [])
        (states ++ t ∷ []) a d
    worked_more = record {
      chain = λ told. chain_more (limits_of old) start t jobs replies states r reply (ran.chain told)
          (subst (λ (y : State). Step (limits_of old) y r reply t) (ran.newest told) (step told));
      newest = λ told. sym (last_more start t states);
      block = serves.block refl ∙ ran.block;
      unbroken = serves.broken ∙ and_none (is_changing r);
      sound = sound;
      over = serves.over;
      rests = λ told rests. serves.rests (told_b told) (serves.broken ∙ and_none (is_changing r))
          (ran.rests told rests);
      left = λ told rests. Leaves-trans
          (Leaves-weaken (IsRunImage classes k base start (states ++ t ∷ []))
          (λ image is. some_more (IsStepImage classes k base image) start t states is) (ran.left told rests))
          (Leaves-weaken (IsRunImage classes k base start (states ++ t ∷ []))
          (λ image is. some_last (IsStepImage classes k base image) start t states
          (subst (λ (y : State). IsStepImage classes k base image y t) (ran.newest told)
          (step_image told image is)))
          (serves.left (told_b told) (ran.rests told rests)));
      reach = λ told. omega (arith, saves_low told, (serves.step (told_b told) refl).high);
      numbered = λ told rests. Leaves-trans (ran.numbered told rests)
          (Leaves-weaken (HasSequenceUpTo most) (numbered_low told)
          (serves.left (told_b told) (ran.rests told rests)));
      later = omega (arith, ran.later, cause);
      frame = record {
        no_turn_back = omega (arith, ran.frame.no_turn_back, serves.frame.no_turn_back);
        stays = Stays-trans ran.frame.stays serves.frame.stays;
      };
    }

  -- ---- a job in which the disk failed

  module _ {T : Type 0} (result : Result T End) (serves : Serves classes r mid new b d result)
      (cause : HasDiskCause ends.Disk b.faults d.faults result) (failed : result ≡ Err ends.Disk)
      (all others : List Request) (split : all ≡ jobs ++ r ∷ others) where
    job_image : IsTrue a.tells → (image : List ℕ) → IsServingImage classes mid r b.file image
        → IsJobImage classes base (limits_of old) (last_state start states) r image
    job_image told image is = subst (λ (y : State). IsJobImage classes base (limits_of old) y r image)
        (ran.newest told) (subst (λ (u : SuperBlock). IsJobImage classes (head_len u.names)
        (record { k = u.k; names = u.names; size_max = SIZE_MAX }) s r image) ran.block
        (record { opens = is.opens; loose = is.loose }))

    pub work_stopped : HasStopped classes old all a d
    work_stopped = record {
      done = jobs;
      next = r;
      others = others;
      split = split;
      replies = replies;
      states = states;
      chain = ran.chain;
      left = λ told rests. Leaves-trans
          (Leaves-weaken (λ image. IsRunImage classes k base start states image ⊎ IsJobImage classes base
          (limits_of old) (last_state start states) r image) (λ image is. inl is) (ran.left told rests))
          (Leaves-weaken (λ image. IsRunImage classes k base start states image ⊎ IsJobImage classes base
          (limits_of old) (last_state start states) r image) (λ image is. inr (job_image told image is))
          (serves.left (told_b told) (ran.rests told rests)));
      numbered = λ told rests. Leaves-trans (ran.numbered told rests)
          (Leaves-weaken (HasSequenceUpTo most) (numbered_low told)
          (serves.left (told_b told) (ran.rests told rests)));
      reach = λ told. omega (arith, ran.reach told, ap (λ (y : State). y.sequence) (ran.newest told));
      rose = omega (arith, ran.later, cause.rose failed);
      later = omega (arith, ran.later, cause.later);
      frame = record {
        no_turn_back = omega (arith, ran.frame.no_turn_back, serves.frame.no_turn_back);
        stays = Stays-trans ran.frame.stays serves.frame.stays;
      };
    }
