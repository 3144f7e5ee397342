-- The lines of events.
use Rattle.std.specs.Prelude.{ℕ, ◌<◌, List, ◌++◌, codes}
use Rattle.std.specs.Fmt.{decimal}
use Rattle.desk_model.specs.Events.{sessions}
use Rattle.desk_core.specs.declared.event.EventLine.{EventLine}
use Rattle.desk_core.specs.declared.event.EventLine.TheVariants as line

-- the line of an event, without its newline
abbrev pub words_of : EventLine → List ℕ
words_of (line.Say s) = codes "say " ++ decimal s
words_of (line.Serve s) = codes "serve " ++ decimal s
words_of line.Step = codes "step"

-- its session is one of the desk's
abbrev pub IsEventLine : EventLine → Type 0
IsEventLine (line.Say s) = s < sessions
IsEventLine (line.Serve s) = s < sessions
IsEventLine line.Step = Unit {0}
