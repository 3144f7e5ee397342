-- Why a call failed on a file that was lent: for want of room, if so much is asked for at most.
use Rattle.std.proofs.Common.{◌≡◌, ap, arith, inl, inr, refl, subst, ℕ, List, length}
use Rattle.std.specs.Prelude.{◌⊎◌, ◌+◌, ◌*◌, ◌<◌, ◌≤◌, Err, IsTrue, sum}
use Rattle.disk_face.specs.Counts.{Rose}
use Rattle.disk_face.specs.Frames.{Asks, call_weight}
use Rattle.disk_face.specs.States as disk
use Rattle.disk_face.proofs.FrameLaws.{asks_then}
use Rattle.disk_history.specs.Histories.{History}
use Rattle.lent_disk.specs.Disks.{lent_state}
use Rattle.lent_disk.specs.Notings.{LacksSpace, Noting, lent}
use Rattle.lent_disk.specs.Rooms.{Filing, Logging}
use Rattle.lent_disk.proofs.WordLaws.{same_words}
use Rattle.slot_codec.specs.Spelling.{head_len}
use Rattle.segment_layout.specs.Shapes.{end_of}
use Rattle.slot_pair.specs.Formats.{HasFirstTable, formatted_file}
use Rattle.slot_pair.specs.declared.find.SlotFault.TheVariants as slot
use Rattle.size_class.specs.declared.TheConstants.{CLASSES}
use Rattle.reopen.specs.declared.fault.OpenFault.{OpenFault}
use Rattle.reopen.specs.declared.fault.OpenFault.TheVariants as fault
use Rattle.store_model.specs.Opened.{IsOpening}
use Rattle.load_stream.specs.Loaded.{AsksToLoad}
use Rattle.load_stream.specs.Weights.{load_weight}
use Rattle.lent_store.specs.Made.{LacksToFormat, NotMade, format_weight}
use Rattle.lent_store.specs.Opening.{RefusesLent}
use Rattle.lent_store.specs.Streams.{LacksToLoad}
use Rattle.lent_store.proofs.MadeLaws.{format_refused, left_alone}
use Rattle.lent_store.proofs.NotedLaws.{name_in}

module _ (room : Filing) (log : Logging) (n : Noting)
    (same : (lent_state n).last_mount ≡ (lent_state (lent room.file room.most log.most)).last_mount)
    (cause : n.start.faults < n.history.faults → LacksSpace n) where
  abbrev start : disk.State
  start = lent_state (lent room.file room.most log.most)

  lacks : (weight most : ℕ) → Rose 0 n.history.faults → Asks weight most start (lent_state n)
      → (log.most < weight) ⊎ (room.most < most)
  lacks weight most rose asks =
      let words = same_words n (lent room.file room.most log.most) (ap name_in same) in
      elim (cause (omega (arith, rose, ap (λ (h : History). h.faults) words.0)))
      as (λ _. (log.most < weight) ⊎ (room.most < most)) [
        | inl heavy ↦ inl (omega (arith, heavy, asks.weight, words.1.1))
        | inr long ↦ inr (omega (arith, long, asks.longest, words.1.0))
      ]

  lacks_to_format : (names : ℕ) → Rose 0 n.history.faults
      → Asks format_weight (head_len names) start (lent_state n) → LacksToFormat names room log
  lacks_to_format names rose asks =
      elim (lacks format_weight (head_len names) rose asks) as (λ _. LacksToFormat names room log) [
        | inl heavy ↦ inr heavy
        | inr long ↦ inl long
      ]

  pub lacks_to_load : (k names : ℕ) (text : List ℕ) → Rose 0 n.history.faults
      → AsksToLoad k names text start (lent_state n) → LacksToLoad k names text room log
  lacks_to_load k names text rose asks = record {
    tells = asks.tells;
    lacks = elim (lacks (load_weight asks.tells.count (sum asks.tells.begins.volumes))
        (head_len names + end_of k asks.tells.begins.volumes) rose asks.asks)
        as (λ _. (room.most < head_len names + end_of k asks.tells.begins.volumes)
        ⊎ (log.most < load_weight asks.tells.count (sum asks.tells.begins.volumes))) [
          | inl heavy ↦ inr heavy
          | inr long ↦ inl long
        ];
  }

  -- a format failed
  pub not_formatted : (names : ℕ) → Rose 0 n.history.faults
      → Asks format_weight (head_len names) start (lent_state n)
      → NotMade names room log (fault.Slot slot.Disk)
  not_formatted names rose asks = inr (refl, lacks_to_format names rose asks)

  -- what was formatted wasn't opened
  pub not_opened : (k names : ℕ) (mid : disk.State) (why : OpenFault)
      → mid.file ≡ formatted_file k names → HasFirstTable k names mid.file → IsTrue mid.tells
      → mid.faults ≡ 0 → Asks format_weight (head_len names) start mid
      → IsOpening CLASSES mid (lent_state n) (Err why) → NotMade names room log why
  not_opened k names mid why is first told calm asks opening =
      let alone = left_alone k names mid (lent_state n) (Err why) is first told opening in
      format_refused k names room log why told first opening (λ failed. lacks_to_format names
      (subst (λ n'. Rose n' n.history.faults) calm (opening.cause.rose (λ i. Err (failed i))))
      (asks_then asks alone.asks (omega arith) (omega arith) (omega arith)))

  -- a file wasn't opened
  pub refuses_lent : (why : OpenFault) → length room.file ≤ room.most
      → IsOpening CLASSES start (lent_state n) (Err why) → RefusesLent room log why
  refuses_lent why fits opening = record {
    refused = opening.refused refl;
    sound = λ failed none.
        elim (lacks 0 0 (opening.cause.rose (λ i. Err (failed i))) (opening.closed refl none).asks)
        as (λ _. ⊥) [
          | inl heavy ↦ absurd (omega (arith, heavy))
          | inr long ↦ absurd (omega (arith, long))
        ];
    settled = λ failed t m b o still.
        elim (lacks (2 * call_weight) (length room.file) (opening.cause.rose (λ i. Err (failed i)))
        ((opening.found refl t m b o).asks still)) as (λ _. log.most < 2 * call_weight) [
          | inl heavy ↦ heavy
          | inr long ↦ absurd (omega (arith, long, fits))
        ];
  }
