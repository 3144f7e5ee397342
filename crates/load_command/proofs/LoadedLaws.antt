-- A load of a file of length 0, by what the load of the stream says: that it is done, or why it isn't.
use Rattle.std.specs.Prelude.{◌≡◌, ℕ, List, [], length, Result, Ok, Err, IsTrue, OnErr, OnOk}
use Rattle.std.proofs.Common.{arith, sym, ◌∙◌, subst, append-nil}
use Rattle.std.proofs.lemmas.List.{nil_from_length}
use Rattle.disk_face.specs.Counts.{HasCause}
use Rattle.disk_face.specs.Devices.{devices}
use Rattle.disk_face.specs.Frames.{Unchanged}
use Rattle.disk_face.specs.Moments.{Leaves, Only, Rests}
use Rattle.disk_face.specs.States.{State}
use Rattle.disk_face.specs.Streams.{Puts, SinkState, SourceState}
use Rattle.disk_face.specs.Writes.{KeepsDisk}
use Rattle.size_class.specs.declared.TheConstants.{CLASSES, SIZE_MAX}
use Rattle.map_model.specs.Maps.{Map}
use Rattle.dump_stream.specs.Dumps.{IsDumpOf, dump_text}
use Rattle.dump_stream.specs.Placing.{laid_book}
use Rattle.dump_stream.proofs.TextLaws.{dump_one, one_map}
use Rattle.load_stream.specs.Causes.{HasCauses}
use Rattle.load_stream.specs.Faults.{IsEarly}
use Rattle.load_stream.specs.Loaded.{AnswersLoad, LeavesLoad, LoadsWhole}
use Rattle.load_stream.specs.Saved.{OpensFor}
use Rattle.load_stream.specs.declared.fault.LoadFault.{LoadFault}
use Rattle.command_face.specs.declared.stop.StopReason.{StopReason}
use Rattle.command_face.specs.declared.stop.StopReason.TheVariants as stop
use Rattle.load_command.specs.Doing.{IsLoading, reason_of}
use Rattle.load_command.specs.Ends.{loaded_line, read_of}
use Rattle.load_command.specs.Loading.{HasLoaded}
use Rattle.load_command.proofs.FaultLaws.{begun_of, causes_of, early_of, file_of, judged_of, not_taken, nothing_of, only_of, source_of, undone_of}
use Rattle.disk_face.proofs.FrameLaws.{untouched}

-- What the load of the stream says.
pub record LoadedBy (k names : ℕ) (a b : State) (from rest : SourceState)
    (result : Result (Unit {0}) LoadFault) : Type 0 where
  pub answers : IsTrue from.tells → AnswersLoad names from.left result
  pub whole : OnOk result (LoadsWhole names (read_of from rest) a b)
  pub left : IsTrue a.tells → LeavesLoad k names (read_of from rest) a b result
  pub early : IsEarly result → Unchanged a b
  pub causes : HasCauses a b from rest result
  pub frame : KeepsDisk a b

-- an empty file that rests leaves no bytes
pub rests_empty : (s : State) → length s.file ≡ 0 → Rests s → Only [] s.may_leave
rests_empty s empty rests = λ image is. rests image is ∙ nil_from_length s.file empty

module _ (k names : ℕ) (a b : State) (from rest : SourceState)
    (empty : IsTrue a.tells → length a.file ≡ 0) where
  -- the map that was read is the map that the file opens to, and each image that is left
  has_loaded : LoadedBy k names a b from rest (Ok tt) → IsTrue from.tells
      → HasLoaded k names from.left rest.left a b
  has_loaded by told =
      let w = by.whole in
      let opened : IsTrue a.tells → OpensFor k names b.file w.objects (laid_book w.objects) = λ t.
      let o = (by.left t).file in
      subst (λ (m : Map). OpensFor k names b.file m (laid_book m))
      (one_map o.objects w.objects from.left (o.dump told) (w.dump told)) o.opens in
      record {
        m = w.objects;
        dump = w.dump told;
        few = w.few;
        ended = w.ended told;
        opens = opened;
        images = λ t image may. subst (λ (f : List ℕ). OpensFor k names f w.objects (laid_book w.objects))
            (sym ((by.left t).rests image may)) (opened t);
        calls = w.made;
      }

  module _ (by : LoadedBy k names a b from rest (Ok tt)) (S : Type 0) (o p : SinkState) where
    calm : b.faults ≡ a.faults
    calm = by.causes.disk_cause.calm (λ is. absurd (cc))

    source_calm : rest.faults ≡ from.faults
    source_calm = by.causes.source_cause.calm (λ is. absurd (cc))

    source_told : rest.tells ≡ from.tells
    source_told = by.causes.source_cause.told

    module _ (told : p.tells ≡ o.tells) where
      -- the line was put
      done_whole : (IsTrue o.tells → Puts {T = Unit {0}} {E = StopReason} o.given p.given loaded_line (Ok tt))
          → HasCause {T = Unit {0}} {E = StopReason} o.faults p.faults (Ok tt)
          → IsLoading k names (devices a o) (devices b p) from rest S (Ok tt)
      done_whole puts cause = record {
        only = tt;
        begun = empty;
        judged = by.answers;
        puts = puts;
        untouched = λ no. absurd no;
        file = λ t none. (by.left t).file;
        past = λ t none. (by.left t).past;
        crash = λ t none rests. (by.left t).images (rests_empty a none rests);
        loaded = λ t done. has_loaded by t;
        no_turn_back = by.frame.no_turn_back;
        told = by.frame.stays.told;
        images_told = by.frame.stays.images_told;
        causes = record {
          later = omega (arith, calm);
          rose = λ is. absurd (cc);
          calm = λ _. calm;
          sink_later = cause.later;
          sink_rose = λ is. absurd (cc);
          sink_calm = λ _. cause.calm;
          sink_told = told;
        };
        source = record {
          later = omega (arith, source_calm);
          rose = λ is. absurd (cc);
          calm = λ _. source_calm;
        };
        source_told = source_told;
        unread = λ n is. absurd (cc);
      }

      -- the sink failed
      done_cut : (IsTrue o.tells → Puts {T = Unit {0}} o.given p.given loaded_line (Err stop.Sink))
          → HasCause {T = Unit {0}} o.faults p.faults (Err stop.Sink)
          → IsLoading k names (devices a o) (devices b p) from rest S (Err stop.Sink)
      done_cut puts cause = record {
        only = tt;
        begun = empty;
        judged = by.answers;
        puts = puts;
        untouched = λ no. absurd no;
        file = λ t none. (by.left t).file;
        past = λ t none. (by.left t).past;
        crash = λ t none rests. (by.left t).images (rests_empty a none rests);
        loaded = λ t done. has_loaded by t;
        no_turn_back = by.frame.no_turn_back;
        told = by.frame.stays.told;
        images_told = by.frame.stays.images_told;
        causes = record {
          later = omega (arith, calm);
          rose = λ is. absurd (cc);
          calm = λ _. calm;
          sink_later = cause.later;
          sink_rose = λ is. cause.rose;
          sink_calm = λ is. absurd (cc);
          sink_told = told;
        };
        source = record {
          later = omega (arith, source_calm);
          rose = λ is. absurd (cc);
          calm = λ _. source_calm;
        };
        source_told = source_told;
        unread = λ n is. absurd (cc);
      }

      pub loads_done : (end : Result (Unit {0}) StopReason) → OnErr end (end ≡ Err stop.Sink)
          → (IsTrue o.tells → Puts o.given p.given loaded_line end) → HasCause o.faults p.faults end
          → IsLoading k names (devices a o) (devices b p) from rest S end
      loads_done (Ok tt) only puts cause = done_whole puts cause
      loads_done (Err reason) only puts cause =
          let is : reason ≡ stop.Sink = cc in
          subst (λ (w : StopReason).
          (IsTrue o.tells → Puts {T = Unit {0}} o.given p.given loaded_line (Err w))
          → HasCause {T = Unit {0}} o.faults p.faults (Err w)
          → IsLoading k names (devices a o) (devices b p) from rest S (Err w)) (sym is) done_cut puts cause

  -- it wasn't loaded, and nothing was put
  pub loads_refused : (f : LoadFault) → LoadedBy k names a b from rest (Err f) → (S : Type 0) (o : SinkState)
      → IsLoading k names (devices a o) (devices b o) from rest S (Err (reason_of f))
  loads_refused f by S o = record {
    only = only_of f;
    begun = λ t. begun_of (length a.file) f (empty t);
    judged = λ t. judged_of names from.left f (by.answers t);
    puts = λ t. nothing_of o f;
    untouched = λ is. untouched (by.early (early_of f is));
    file = λ t none. file_of k names (read_of from rest) b.file f (by.left t).file;
    past = λ t none. (by.left t).past;
    crash = λ t none rests. (by.left t).images (rests_empty a none rests);
    loaded = λ t done. absurd (undone_of f done);
    no_turn_back = by.frame.no_turn_back;
    told = by.frame.stays.told;
    images_told = by.frame.stays.images_told;
    causes = causes_of a b from rest f by.causes o;
    source = source_of a b from rest f by.causes;
    source_told = by.causes.source_cause.told;
    unread = λ n is. absurd (not_taken f n (cc));
  }
