-- What `batch` does to a file that opens, from how it went.
use Rattle.std.specs.Prelude.{◌≡◌, ◌≤◌, ℕ, List, Result, IsTrue, refl}
use Rattle.std.proofs.Common.{ap, sym, subst, inl, inr}
use Rattle.disk_face.specs.Counts.{Rose}
use Rattle.disk_face.specs.Devices.{devices}
use Rattle.disk_face.specs.States.{IsLawful, State}
use Rattle.disk_face.specs.Streams.{SinkState, SourceState}
use Rattle.size_class.specs.declared.TheConstants.{CLASSES, SIZE_MAX}
use Rattle.slot_codec.specs.Choice as choice
use Rattle.slot_codec.specs.declared.codec.SuperBlock.{SuperBlock}
use Rattle.map_model.specs.Maps.{Map}
use Rattle.segment_layout.specs.Books.{Book}
use Rattle.table_rules.specs.Opening.{OpensBy}
use Rattle.store_model.specs.Connection.{StoreValue, state_of}
use Rattle.store_model.specs.States as store
use Rattle.command_face.specs.Layers.{Answers}
use Rattle.command_face.specs.Outcomes.{PutsLast, line_at, status_at}
use Rattle.command_face.specs.declared.stop.StopReason.{StopReason}
use Rattle.command_face.specs.declared.stop.StopReason.TheVariants as stop
use Rattle.command_face.proofs.EndedLaws.{ended}
use Rattle.served_file.specs.Served.{Starts, found_with, limits_with}
use Rattle.served_file.specs.Steps.{FileSteps}
use Rattle.served_file.proofs.FoundLaws.{found_start}
use Rattle.served_file.proofs.OpeningLaws.{Opened}
use Rattle.served_file.proofs.StartLaws.{StopsEarly, begun_or_not, starts_so}
use Rattle.batch_core.specs.Doing.{CanGo}
use Rattle.batch_core.specs.StoresOn.{store_on}
use Rattle.batch_command.specs.Batching.{has_applied}
use Rattle.batch_command.specs.Doing.{AppliesInput, IsBatching}
use Rattle.batch_command.specs.Promise.{BatchHolds, IsBatchEnd}
use Rattle.served_file.proofs.AlwaysLaws.{answers_early, nothing_put}
use Rattle.batch_command.proofs.EndsLaws.{early_unapplied}
use Rattle.batch_command.proofs.InputLaws.{input_applied, input_unread}
use Rattle.batch_command.proofs.KnownLaws.{Known, go_first, known_same, known_start, stopped}
use Rattle.batch_command.proofs.SourceLaws.{by_apply}
use Rattle.batch_command.proofs.StageLaws.{Stage, stage_of}

module _ (t : choice.SlotTable) (m : Map) (b : Book) (old : State) (lawful : IsLawful old)
    (told : IsTrue old.tells) (o : OpensBy CLASSES SIZE_MAX t old.file m b) (z : State)
    (from rest : SourceState) (input_told : IsTrue from.tells)
    (out put after : SinkState) (end : Result (Unit {0}) StopReason)
    (line : IsTrue put.tells
    → PutsLast put.given after.given (line_at end) (Rose put.faults after.faults))
    (sink_told : put.tells ≡ out.tells) (sink_later : out.faults ≤ put.faults) where
  abbrev Holds : SuperBlock → Type 0
  Holds u = BatchHolds (found_with u t m b) from.left (status_at end) (devices old out) (devices z after)

  abbrev IsKnown : SuperBlock → store.State → Type 0
  IsKnown u start = Known t m b u start from.left old z out put after end

  holds : (u : SuperBlock) (start : store.State) → Starts t m b start → IsKnown u start → Holds u
  holds u start starts known = record {
    start = start;
    starts = starts;
    ends = ended (IsBatchEnd (limits_with u) start from.left) end (status_at end) out put after refl
        known.answers sink_told sink_later line;
    done = known.done;
    content = known.content;
    crash = known.crash;
    unbegun = known.unbegun;
    unapplied = known.unapplied;
    numbered = known.numbered;
    next_start = known.next_start;
  }

  -- ---- its store wasn't opened

  early : StopsEarly t m b (devices old out) (devices z put) end → Holds t.chosen.block
  early x =
      let start = found_start t m b in
      holds t.chosen.block start x.leaves.starts
      (known_start t m b old lawful told o from.left z out put after end t.chosen.block start refl x.leaves
      (early_unapplied end x.early)
      (answers_early (IsBatchEnd (limits_with t.chosen.block) start from.left) out put end x.early x.nothing))

  -- ---- its store was opened

  module _ {mid : State} {s : StoreValue} (op : Opened t m b old mid s) where
    abbrev u : SuperBlock
    u = s.in_use.block

    abbrev start : store.State
    start = state_of s mid.file

    -- what came of the input, once what was kept was finished
    input : (y : State) (new : StoreValue) → Stage t old u start y new → CanGo CLASSES (store_on new y)
        → AppliesInput from rest new (devices y out) (devices z put) end → IsKnown u start
    input y new stage go (inl is) = input_unread t m b old u start op.block y new stage go from.left z out put
        after end is.disk.frame is.ended is.nothing
    input y new stage go (inr is) =
        let applied = is.applied in
        input_applied t m b old u start op.block y new stage go from.left z out put after end applied.new
        is.text (is.read.front input_told).read applied.result applied.applies applied.ends
        (by_apply new is.text applied.result out put end applied.applies.answer applied.ends).0

    begun : {D : Type 0} (disk_of : D → State)
        → IsBatching disk_of from rest s (devices mid out) (devices z put) end → IsKnown u start
    begun disk_of (inl is) = known_same t m b old lawful told o from.left z out put after end op is.disk.frame
        (ap (λ (e : Result (Unit {0}) StopReason). has_applied (status_at e)) is.ended)
        (subst (Answers (IsBatchEnd (limits_with u) start from.left) out put) (sym is.ended)
        (nothing_put (IsBatchEnd (limits_with u) start from.left) out put stop.NoMemory refl is.nothing))
    begun disk_of (inr (inl is)) = stopped t m b old lawful told o from.left z out put after end op is.idle
        is.new is.nothing is.why is.ended is.finishes
    begun disk_of (inr (inr is)) =
        let f = is.finishes in
        let y = disk_of is.mid in
        input y is.new (stage_of t m b old lawful told o op y is.new is.done
        (go_first t m b old lawful told o from.left z out put after end op is.idle) f)
        (record { whole = f.whole.0; sound = f.whole.1; over = f.over; ready = f.frame.stays.ready })
        is.after

  -- ---- all of them

  pub batch_holds : {D : Type 0} (disk_of : D → State) (file : List ℕ)
      → FileSteps disk_of file (IsBatching disk_of from rest) (devices old out) (devices z put) end
      → Holds t.chosen.block
  batch_holds disk_of file steps =
      elim (begun_or_not t m b old lawful told o disk_of file (IsBatching disk_of from rest) z out put end
      steps) as (λ _. Holds t.chosen.block) [
        | inl is ↦ early is
        | inr is ↦ subst Holds is.op.block (holds is.store.in_use.block
            (state_of is.store (disk_of is.mid).file) (starts_so t m b old lawful told o is.op)
            (begun is.op disk_of is.done))
      ]
