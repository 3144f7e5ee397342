-- A source and a sink in memory, as values.
use Rattle.std.specs.Prelude.{ℕ, ◌+◌, nat_lt, Bool, true, ◌||◌, List, ◌++◌, length, drop}
use Rattle.disk_face.specs.Counts.{counted}
use Rattle.disk_face.specs.Streams.{SinkState, SourceState}
use Rattle.disk_mem.specs.Lists.{next_call, is_listed}

-- what a source has left, how much it gives at most in a call, the calls that fail, the calls so far, and the
-- failed ones among them
pub record Supply : Type 0 where
  pub left : List ℕ
  pub piece : ℕ
  pub fails : List ℕ
  pub calls : ℕ
  pub faults : ℕ

-- after a call that took n bytes
abbrev pub supply_after : ℕ → Supply → Supply
supply_after n s = record s { left = drop n s.left; calls = next_call s.calls }

-- after a call that failed
abbrev pub supply_failed : Supply → Supply
supply_failed s = record s { calls = next_call s.calls; faults = counted s.faults 1 }

-- as a source
abbrev pub source_state : Supply → SourceState
source_state s = record { tells = true; left = s.left; faults = s.faults }

-- what was put, how much may be put in all, the calls that fail, the calls so far, and the failed ones among
-- them
pub record Intake : Type 0 where
  pub given : List ℕ
  pub room : ℕ
  pub fails : List ℕ
  pub calls : ℕ
  pub faults : ℕ

-- the next call fails at these bytes: it is listed, or they don't fit in the rest of the room
abbrev pub put_fails : Intake → List ℕ → Bool
put_fails s bytes = is_listed s.fails (next_call s.calls) || nat_lt s.room (length s.given + length bytes)

-- after a call that put the bytes
abbrev pub intake_after : List ℕ → Intake → Intake
intake_after bytes s = record s { given = s.given ++ bytes; calls = next_call s.calls }

-- after a call that failed
abbrev pub intake_failed : Intake → Intake
intake_failed s = record s { calls = next_call s.calls; faults = counted s.faults 1 }

-- as a sink
abbrev pub sink_state : Intake → SinkState
sink_state s = record { tells = true; given = s.given; faults = s.faults }
