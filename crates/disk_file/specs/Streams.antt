-- What callers see of a source round a reader and of a sink round a writer.
use Rattle.std.specs.Prelude.{ℕ, false, [], Option}
use Rattle.disk_face.specs.Streams.{SinkState, SourceState}
use Rattle.disk_file.specs.declared.cause.Cause.{Cause}
use Rattle.disk_file.specs.declared.streams.StdSource.{StdSource}
use Rattle.disk_file.specs.declared.streams.StdSink.{StdSink}

module _ {S : Type 0} where
  abbrev pub reader_of : StdSource S → S
  reader_of source = source.reader

  -- how many calls have failed
  abbrev pub source_faults : StdSource S → ℕ
  source_faults source = source.faults

  -- why the last failed call failed
  abbrev pub source_cause : StdSource S → Option Cause
  source_cause source = source.cause

  -- it tells nothing
  abbrev pub source_state : StdSource S → SourceState
  source_state source = record { tells = false; left = []; faults = source.faults }

  abbrev pub writer_of : StdSink S → S
  writer_of sink = sink.writer

  -- how many calls have failed
  abbrev pub sink_faults : StdSink S → ℕ
  sink_faults sink = sink.faults

  -- why the last failed call failed
  abbrev pub sink_cause : StdSink S → Option Cause
  sink_cause sink = sink.cause

  -- it tells nothing
  abbrev pub sink_state : StdSink S → SinkState
  sink_state sink = record { tells = false; given = []; faults = sink.faults }
