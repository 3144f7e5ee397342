-- How a turn ends, and what that says.
use Rattle.std.specs.Prelude.{Bool, true, false, Result, Ok, Err}
use Rattle.ask_text.specs.declared.ends.End.{End}
use Rattle.ask_text.specs.declared.ends.End.TheVariants as ends
use Rattle.ask_text.specs.declared.ends.Turn.{Turn}
use Rattle.ask_text.specs.declared.ends.Turn.TheVariants as turn

abbrev pub is_ended : Turn → Bool
is_ended turn.Answered = false
is_ended (turn.Ended end) = true

-- an end, as an error
abbrev pub result_of : Turn → Result (Unit {0}) End
result_of turn.Answered = Ok tt
result_of (turn.Ended end) = Err end

-- the session ended before a request was served
abbrev pub is_unserved : Turn → Bool
is_unserved turn.Answered = false
is_unserved (turn.Ended ends.End) = true
is_unserved (turn.Ended ends.Line) = true
is_unserved (turn.Ended ends.Source) = true
is_unserved (turn.Ended ends.Disk) = false
is_unserved (turn.Ended ends.Sink) = false
is_unserved (turn.Ended ends.Budget) = true

abbrev pub is_budget : End → Bool
is_budget ends.Budget = true
is_budget ends.End = false
is_budget ends.Line = false
is_budget ends.Disk = false
is_budget ends.Source = false
is_budget ends.Sink = false
