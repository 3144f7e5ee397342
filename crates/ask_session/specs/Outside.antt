-- The outside of a session: its devices before or after, and what contracts see of them.
use Rattle.disk_face.specs.Devices.{Devices, devices}
use Rattle.disk_face.specs.States.{State}
use Rattle.disk_face.specs.Streams.{SinkState, SourceState}

-- what is seen: the disk that holds the file, the source of the requests, and the sink that takes the replies
pub record Outside : Type 1 where
  pub disk : State
  pub source : SourceState
  pub sink : SinkState

abbrev pub outside : State → SourceState → SinkState → Outside
outside disk source sink = record { disk = disk; source = source; sink = sink }

-- the devices that serving a request calls
abbrev pub served_devices : Outside → Devices
served_devices o = devices o.disk o.sink

-- how the devices are seen
pub record Seen (D I O : Type 0) : Type 1 where
  pub disk : D → State
  pub source : I → SourceState
  pub sink : O → SinkState

-- the devices themselves, before or after
pub record Held (D I O : Type 0) : Type 0 where
  pub disk : D
  pub source : I
  pub sink : O

abbrev pub seen_by : {D I O : Type 0} → (D → State) → (I → SourceState) → (O → SinkState) → Seen D I O
seen_by disk source sink = record { disk = disk; source = source; sink = sink }

abbrev pub held : {D I O : Type 0} → D → I → O → Held D I O
held disk source sink = record { disk = disk; source = source; sink = sink }

-- what is seen of these devices
abbrev pub outside_of : {D I O : Type 0} → Seen D I O → Held D I O → Outside
outside_of seen h = outside (seen.disk h.disk) (seen.source h.source) (seen.sink h.sink)
