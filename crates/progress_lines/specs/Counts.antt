-- What is seen of a count of bytes, and of the streams whose bytes are counted.
use Rattle.std.specs.Prelude.{◌≡◌, ℕ, List, Bool, None, false}
use Rattle.std.specs.Borrow.{Bor}
use Rattle.progress_lines.specs.declared.counted.CountedSink.{CountedSink}
use Rattle.progress_lines.specs.declared.counted.CountedSource.{CountedSource}
use Rattle.progress_lines.specs.declared.pace.Pace.{Pace}

module _ {R : Type 0} where
  -- how many bytes were counted
  abbrev pub passed : Pace R → ℕ
  passed pace = pace.bytes

  -- what is said to have become of them
  abbrev pub word_of : Pace R → Bor (List ℕ)
  word_of pace = pace.done

  -- the sum was said at least once
  abbrev pub has_said : Pace R → Bool
  has_said pace = pace.has_said

  -- nothing was said, and nothing will be
  abbrev pub IsSilent : Pace R → Type 0
  IsSilent pace = (pace.last ≡ None) × (pace.has_said ≡ false)

module _ {S R : Type 0} where
  -- the source inside
  abbrev pub source_of : CountedSource S R → S
  source_of counted = counted.source

  -- the sink inside
  abbrev pub sink_of : CountedSink S R → S
  sink_of counted = counted.sink

  -- the counts of their bytes
  abbrev pub pace_of_source : CountedSource S R → Pace R
  pace_of_source counted = counted.pace

  abbrev pub pace_of_sink : CountedSink S R → Pace R
  pace_of_sink counted = counted.pace
