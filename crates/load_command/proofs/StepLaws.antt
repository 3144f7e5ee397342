-- How a load goes on after a call that changes nothing, and where it stops at one.
use Rattle.std.specs.Prelude.{◌≡◌, ℕ, List, length, Result, Err, IsTrue, refl}
use Rattle.std.proofs.Common.{arith, ap, sym, ◌∙◌, inl, subst}
use Rattle.disk_face.specs.Counts.{Rose, counted}
use Rattle.disk_face.specs.Devices.{devices}
use Rattle.disk_face.specs.Frames.{Untouched}
use Rattle.disk_face.specs.Moments.{Leaves, Rests}
use Rattle.disk_face.specs.States.{State}
use Rattle.disk_face.specs.Streams.{SinkState, SourceState}
use Rattle.disk_face.proofs.MomentLaws.{Leaves-trans, Leaves-weaken}
use Rattle.slot_pair.proofs.FormatLaws.{short_is_none}
use Rattle.load_stream.specs.Loaded.{IsLoadImage, load_calls}
use Rattle.load_stream.specs.Steps.{Passed}
use Rattle.command_face.specs.declared.stop.StopReason.{StopReason}
use Rattle.command_face.specs.declared.stop.StopReason.TheVariants as stop
use Rattle.load_command.specs.Doing.{IsLoading}
use Rattle.load_command.specs.Ends.{IsBegunAt, read_of}
use Rattle.load_command.specs.Loading.{HasLoaded}

-- an image that an empty file leaves, where it rested, is no store
none_left : (k names : ℕ) (x : Passed) (a : State) → length a.file ≡ 0 → Rests a → (image : List ℕ)
    → a.may_leave image → IsLoadImage k names x image
none_left k names x a none rests image may =
    inl (short_is_none image (omega (arith, ap length (rests image may), none)))

untouched_then : {a b c : State} → Untouched a b → Untouched b c → Untouched a c
untouched_then {a} ab bc = record {
  same_file = λ told. bc.same_file (subst IsTrue (sym ab.told) told) ∙ ab.same_file told;
  images = λ image is. ab.images image (bc.images image is);
  since = Leaves-trans ab.since (Leaves-weaken a.may_leave ab.images bc.since);
  same_turn = bc.same_turn ∙ ab.same_turn;
  later = omega (arith, ab.later, bc.later);
  told = bc.told ∙ ab.told;
  images_told = bc.images_told ∙ ab.images_told;
}

module _ (k names : ℕ) (a b : State) (same : Untouched a b) where
  -- no call failed before
  pub loading_later : (c : State) (o p : SinkState) (from rest : SourceState) (S : Type 0)
      (end : Result (Unit {0}) StopReason)
      → b.faults ≡ a.faults → IsLoading k names (devices b o) (devices c p) from rest S end
      → IsLoading k names (devices a o) (devices c p) from rest S end
  loading_later c o p from rest S end calm is = record {
    only = is.only;
    begun = λ told. subst (λ (f : List ℕ). IsBegunAt (length f) end) (same.same_file told)
        (is.begun (here told));
    judged = is.judged;
    puts = is.puts;
    untouched = λ kept. untouched_then same (is.untouched kept);
    file = λ told none. is.file (here told) (omega (arith, ap length (same.same_file told), none));
    past = λ told none more. is.past (here told) (omega (arith, ap length (same.same_file told), none))
        (omega (arith, more, same.same_turn));
    crash = λ told none rests. Leaves-trans
        (Leaves-weaken (IsLoadImage k names (read_of from rest))
        (none_left k names (read_of from rest) a none rests) same.since)
        (is.crash (here told) (omega (arith, ap length (same.same_file told), none))
        (λ image may. rests image (same.images image may) ∙ sym (same.same_file told)));
    loaded = λ told done. loaded_later (is.loaded told done);
    no_turn_back = omega (arith, same.same_turn, is.no_turn_back);
    told = is.told ∙ same.told;
    images_told = is.images_told ∙ same.images_told;
    causes = record {
      later = omega (arith, calm, is.causes.later);
      rose = λ failed. subst (λ n. Rose n c.faults) calm (is.causes.rose failed);
      calm = λ other. is.causes.calm other ∙ calm;
      sink_later = is.causes.sink_later;
      sink_rose = is.causes.sink_rose;
      sink_calm = is.causes.sink_calm;
      sink_told = is.causes.sink_told;
    };
    source = is.source;
    source_told = is.source_told;
    unread = is.unread;
  }
    where
      here : IsTrue a.tells → IsTrue b.tells
      here told = subst IsTrue (sym same.told) told

      loaded_later : HasLoaded k names from.left rest.left b c → HasLoaded k names from.left rest.left a c
      loaded_later w = record {
        m = w.m;
        dump = w.dump;
        few = w.few;
        ended = w.ended;
        opens = λ told. w.opens (here told);
        images = λ told. w.images (here told);
        calls = w.calls ∙ ap (λ (n : ℕ). counted n (load_calls w.m)) same.same_turn;
      }

  module _ (o : SinkState) (from : SourceState) (S : Type 0) (asked : S) where
    -- what a file that wasn't touched leaves
    crash_none : IsTrue a.tells → length a.file ≡ 0 → Rests a
        → Leaves a b (IsLoadImage k names (read_of from from))
    crash_none told none rests = Leaves-weaken (IsLoadImage k names (read_of from from))
        (none_left k names (read_of from from) a none rests) same.since

    -- a call of the disk failed
    pub loading_failed : Rose a.faults b.faults
        → IsLoading k names (devices a o) (devices b o) from from S (Err stop.Disk)
    loading_failed rose = record {
      only = tt;
      begun = λ told. tt;
      judged = λ told. tt;
      puts = λ told. refl;
      untouched = λ no. absurd no;
      file = λ told none. inl (short_is_none b.file (omega (arith, ap length (same.same_file told), none)));
      past = λ told none more. absurd (omega (arith, more, same.same_turn));
      crash = crash_none;
      loaded = λ told no. absurd no;
      no_turn_back = omega (arith, same.same_turn);
      told = same.told;
      images_told = same.images_told;
      causes = record {
        later = same.later;
        rose = λ is. rose;
        calm = λ other. absurd (other refl);
        sink_later = omega arith;
        sink_rose = λ is. absurd (cc);
        sink_calm = λ done. refl;
        sink_told = refl;
      };
      source = record { later = omega arith; rose = λ is. absurd (cc); calm = λ _. refl };
      source_told = refl;
      unread = λ n is. asked;
    }
