-- What the answer that a sink failed says of its count.
use Rattle.std.specs.Prelude.{◌≡◌, ◌≢◌, ◌≤◌, Result, Err}
use Rattle.disk_face.specs.Counts.{Rose}
use Rattle.disk_face.specs.Streams.{SinkState}

-- A sink's count of faults never falls, and what it tells stays told. The answer that the sink failed comes
-- only where the count rose, and with every other answer no call of it failed.
pub record HasSinkCause {T E : Type 0} (sink : E) (before now : SinkState) (result : Result T E)
    : Type 0 where
  pub later : before.faults ≤ now.faults
  pub rose : result ≡ Err sink → Rose before.faults now.faults
  pub calm : result ≢ Err sink → now.faults ≡ before.faults
  pub told : now.tells ≡ before.tells
