-- What a fault of a load says of the counts of the devices.
use Rattle.std.specs.Prelude.{◌≡◌, ◌≢◌, ◌≤◌, Result, Err}
use Rattle.disk_face.specs.Counts.{Rose}
use Rattle.disk_face.specs.States.{State}
use Rattle.disk_face.specs.Streams.{SourceState}
use Rattle.slot_pair.specs.Finding.{HasDiskCause}
use Rattle.load_stream.specs.declared.fault.LoadFault.{LoadFault}
use Rattle.load_stream.specs.declared.fault.LoadFault.TheVariants as why

-- A source's count of faults never falls, and what it tells stays told. The answer that the source failed
-- comes only where the count rose, and with every other answer no call of it failed.
pub record HasSourceCause {T E : Type 0} (source : E) (before now : SourceState) (result : Result T E)
    : Type 0 where
  pub later : before.faults ≤ now.faults
  pub rose : result ≡ Err source → Rose before.faults now.faults
  pub calm : result ≢ Err source → now.faults ≡ before.faults
  pub told : now.tells ≡ before.tells

-- The fault of a device has its cause.
pub record HasCauses {T : Type 0} (before now : State) (given after : SourceState)
    (result : Result T LoadFault) : Type 0 where
  pub disk_cause : HasDiskCause why.Disk before.faults now.faults result
  pub source_cause : HasSourceCause why.Source given after result
