-- How a layer answers where it stops before it puts any byte.
use Rattle.std.specs.Prelude.{◌≡◌, ◌≢◌, ℕ, Bool, List, [], Result, Ok, Err, IfErr, OnErr, IsTrue, refl}
use Rattle.std.proofs.Common.{arith, ap, sym, ◌∙◌, subst, inl, inr, append-nil}
use Rattle.disk_face.specs.Streams.{Puts, SinkState}
use Rattle.size_class.specs.declared.TheConstants.{CLASSES}
use Rattle.slot_codec.specs.Choice as choice
use Rattle.slot_pair.specs.declared.find.SlotFault.TheVariants as slot
use Rattle.reopen.specs.Refusals.{RefusesToRead}
use Rattle.reopen.specs.declared.fault.OpenFault.{OpenFault}
use Rattle.reopen.specs.declared.fault.OpenFault.TheVariants as opening
use Rattle.command_face.specs.Refusing.{IsRefusedIn, stop_of}
use Rattle.command_face.specs.declared.stop.StopReason.{StopReason}
use Rattle.command_face.specs.declared.stop.StopReason.TheVariants as stop
use Rattle.file_commands.specs.Getting.{StopsAs}
use Rattle.command_face.specs.Layers.{Answers, IsCommandReason, PutsNone}
use Rattle.command_face.specs.Outcomes.{EndsBy}

-- a layer stops as it is to, or for want of a device or of memory, before it puts any
pub stopped : (answer : Result (List ℕ) StopReason → Type 0) (old new : SinkState) (why : StopReason)
    → new ≡ old
    → why ≢ stop.Sink → StopsAs answer why → Answers answer old new (Err why)
stopped answer old new why same no_sink stops = record {
  bytes = [];
  ends = ends_of why no_sink stops;
  puts = λ told. record {
    all = tt;
    front = (0, omega arith, ap (λ s. s.given) same ∙ sym (append-nil old.given));
  };
}
  where
    ends_of : (e : StopReason) → e ≢ stop.Sink → StopsAs answer e → EndsBy answer [] (Err e)
    ends_of stop.Disk not_sink is = inr refl
    ends_of stop.Sink not_sink is = absurd (not_sink refl)
    ends_of stop.NoFile not_sink is = refl
    ends_of stop.NoMemory not_sink is = refl
    ends_of why not_sink is = (is, refl)

-- a layer puts what it is to answer, unless the sink fails
pub put_answer : (answer : Result (List ℕ) StopReason → Type 0) (bytes : List ℕ) (old new : SinkState)
    (end : Result (Unit {0}) StopReason) → answer (Ok bytes) → OnErr end (end ≡ Err stop.Sink)
    → (IsTrue old.tells → Puts old.given new.given bytes end) → Answers answer old new end
put_answer answer bytes old new end is only puts = record {
  bytes = bytes;
  ends = ends_of end only;
  puts = puts;
}
  where
    ends_of : (e : Result (Unit {0}) StopReason) → OnErr e (e ≡ Err stop.Sink) → EndsBy answer bytes e
    ends_of (Ok x) sink = is
    ends_of (Err e) sink = subst (EndsBy answer bytes) (sym sink) is

-- a layer that stops only where the sink failed has a reason of a command, and needn't have put nothing
pub sink_plain : (end : Result (Unit {0}) StopReason) → OnErr end (end ≡ Err stop.Sink)
    → IfErr end IsCommandReason
sink_plain (Ok x) only = tt
sink_plain (Err why) only =
    let is : why ≡ stop.Sink = cc in
    subst IsCommandReason (sym is) (λ e. absurd (cc), λ e. absurd (cc), λ n e. absurd (cc))

pub sink_put : {O : Type 0} (old new : O) (end : Result (Unit {0}) StopReason)
    → OnErr end (end ≡ Err stop.Sink) → PutsNone old new end
sink_put old new (Ok x) only = tt
sink_put old new (Err why) only = inr (inl cc)

-- what answers one command answers another that allows more
pub answers_more : (answer other : Result (List ℕ) StopReason → Type 0)
    → ((a : Result (List ℕ) StopReason) → answer a → other a) → (old new : SinkState)
    → (end : Result (Unit {0}) StopReason) → Answers answer old new end → Answers other old new end
answers_more answer other more old new end is = record {
  bytes = is.bytes;
  ends = ends_of end is.ends;
  puts = is.puts;
}
  where
    ends_of : (e : Result (Unit {0}) StopReason) → EndsBy answer is.bytes e → EndsBy other is.bytes e
    ends_of (Ok x) by = more (Ok is.bytes) by
    ends_of (Err stop.Disk) (inl by) = inl (more (Ok is.bytes) by)
    ends_of (Err stop.Disk) (inr by) = inr by
    ends_of (Err stop.Sink) by = more (Ok is.bytes) by
    ends_of (Err stop.NoFile) by = by
    ends_of (Err stop.NoMemory) by = by
    ends_of (Err why) by = (more (Err why) by.0, by.1)

-- what stops one command as it is to stops another that answers more
pub stops_more : (answer other : Result (List ℕ) StopReason → Type 0)
    → ((a : Result (List ℕ) StopReason) → answer a → other a) → (why : StopReason) → StopsAs answer why
    → StopsAs other why
stops_more answer other more stop.Disk is = tt
stops_more answer other more stop.NoMemory is = tt
stops_more answer other more why is = more (Err why) is

-- a file that isn't read stops a command by its first refusal, unless the disk or memory failed
pub stops_unread : (logged : Bool) (file : List ℕ) (why : OpenFault) → RefusesToRead logged CLASSES file why
    → StopsAs (IsRefusedIn logged file) (stop_of why)
stops_unread logged file (opening.Slot slot.Disk) is = tt
stops_unread logged file (opening.Slot slot.Short) is =
    record { fault = opening.Slot slot.Short; first = (choice.too_short, is, refl); same = refl }
stops_unread logged file (opening.Slot slot.Unformatted) is =
    record { fault = opening.Slot slot.Unformatted; first = (choice.unformatted, is, refl); same = refl }
stops_unread logged file (opening.Slot slot.NoGate) is =
    record { fault = opening.Slot slot.NoGate; first = (choice.no_gate, is, refl); same = refl }
stops_unread logged file (opening.Slot slot.SameSequence) is =
    record { fault = opening.Slot slot.SameSequence; first = (choice.same_sequence, is, refl); same = refl }
stops_unread logged file (opening.Slot (slot.Codec f at)) is =
    record { fault = opening.Slot (slot.Codec f at); first = (choice.codec f at, is, refl); same = refl }
stops_unread logged file (opening.Table broken) is =
    record { fault = opening.Table broken; first = is; same = refl }
stops_unread logged file opening.NoMemory is = tt

-- want of memory stops any command before it puts any
pub stopped_for_memory : (answer : Result (List ℕ) StopReason → Type 0) (state : SinkState) (why : StopReason)
    → why ≡ stop.NoMemory → Answers answer state state (Err why)
stopped_for_memory answer state why is = subst (λ (w : StopReason). Answers answer state state (Err w))
    (sym is)
    (record {
      bytes = [];
      ends = refl;
      puts = λ told. record { all = tt; front = (0, omega arith, sym (append-nil state.given)) };
    })
