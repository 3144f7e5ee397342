-- What a disk in memory keeps over a changing call.
use Rattle.std.proofs.Common.{◌≡◌, ◌+◌, ◌≤◌, ℕ, List, ◌∷◌, length, sym, ◌∙◌, ap, subst, arith}
use Rattle.std.specs.Prelude.{if◌then◌else◌}
use Rattle.std.proofs.lemmas.Bool.{le-leb}
use Rattle.byte_ranges.specs.Ranges.{overwritten}
use Rattle.disk_face.specs.Counts.{last, counted}
use Rattle.disk_history.specs.Changes.{RecordedCall, Stamped, changed, content_after}
use Rattle.disk_history.specs.Changes.RecordedCall.{Wrote}
use Rattle.disk_history.specs.Histories.{EndedBy}
use Rattle.disk_history.proofs.HistoryLaws.{EndedBy_later, changed_within}

-- a call that found no memory left the record as it was
pub holds_undone : (base : List ℕ) {file : List ℕ} {calls now : List Stamped} {turn next : ℕ}
    → next ≡ counted turn 1
    → turn ≤ last → now ≡ calls → file ≡ content_after base calls → EndedBy turn calls
    → (file ≡ content_after base now) × EndedBy next now
holds_undone base {file} {calls} {now} {turn} {next} is fits same holds ended = (
  holds ∙ ap (content_after base) (sym same),
  subst (EndedBy next) (sym same) (EndedBy_later turn next calls (omega (arith, is, fits)) ended),
)

-- a call that was done stands in the record, and the bytes are those after it
pub holds_done : (base : List ℕ) (change : RecordedCall) {file new : List ℕ} {calls now : List Stamped}
    {turn next : ℕ} → next ≡ counted turn 1 → turn ≤ last
    → now ≡ record { began = turn; change = change } ∷ calls → new ≡ changed change file
    → file ≡ content_after base calls → EndedBy turn calls → (new ≡ content_after base now) × EndedBy next now
holds_done base change {file} {new} {calls} {now} {turn} {next} is fits more does holds ended = (
  does ∙ ap (changed change) holds ∙ ap (content_after base) (sym more),
  subst (EndedBy next) (sym more) (
    omega (arith, is),
    EndedBy_later turn next calls (omega (arith, is, fits)) ended,
  ),
)
