-- The devices of a call, as its contract sees them before or after.
use Rattle.disk_face.specs.States.{State}
use Rattle.disk_face.specs.Streams.{SinkState}

-- the disk that holds its file, and the sink that takes its answer
pub record Devices : Type 1 where
  pub disk : State
  pub sink : SinkState

abbrev pub devices : State → SinkState → Devices
devices disk sink = record { disk = disk; sink = sink }
