-- How a load of a file ends: what its end says of the file and of the input, and what it puts.
use Rattle.std.specs.Prelude.{◌≡◌, ◌⊎◌, ◌<◌, ℕ, zero, suc, List, [], codes, length, Result, Ok, Err}
use Rattle.disk_face.specs.Streams.{Puts, SinkState, SourceState}
use Rattle.size_class.specs.declared.TheConstants.{CLASSES}
use Rattle.dump_stream.specs.Loading.{BeginsNone}
use Rattle.load_stream.specs.Loaded.{IsDumpWithin, IsLoadImage, OpensDump, StopsBelow, TellsFew, TellsTooMany}
use Rattle.load_stream.specs.Saved.{OpensEmpty}
use Rattle.load_stream.specs.Steps.{Passed, passed}
use Rattle.command_face.specs.declared.stop.StopReason.{StopReason}
use Rattle.command_face.specs.declared.stop.StopReason.TheVariants as stop

-- what is put once the file has the dump's map
abbrev pub loaded_line : List ℕ
loaded_line = codes "loaded\n"

-- the file has the dump's map: only to tell so may have failed
abbrev pub IsDone : Result (Unit {0}) StopReason → Type 0
IsDone (Ok done) = Unit {0}
IsDone (Err stop.Sink) = Unit {0}
IsDone (Err why) = ⊥

-- What an end says of the length that the file had. It is told as taken only where it had one, and unless the
-- disk failed nothing else is told of such a file.
abbrev pub IsBegunAt : ℕ → Result (Unit {0}) StopReason → Type 0
IsBegunAt size (Err (stop.Taken n)) = (n ≡ size) × (0 < size)
IsBegunAt size (Err stop.Disk) = Unit {0}
IsBegunAt size (Err why) = size ≡ 0
IsBegunAt size (Ok done) = size ≡ 0

-- What an end says of the input. It is the dump of a map, and there is room for its names; or it has no first
-- line; or it stops being a dump at an object, and there was room; or its first line tells of too many.
-- Memory is wanting only behind a first line for which there is room.
abbrev pub IsJudged : ℕ → List ℕ → Result (Unit {0}) StopReason → Type 0
IsJudged names input (Ok done) = IsDumpWithin names input
IsJudged names input (Err stop.Sink) = IsDumpWithin names input
IsJudged names input (Err (stop.Line zero)) = BeginsNone CLASSES input
IsJudged names input (Err (stop.Line (suc n))) = StopsBelow names input (suc n)
IsJudged names input (Err (stop.TooManyNames n)) = TellsTooMany names input n
IsJudged names input (Err stop.NoMemory) = TellsFew names input
IsJudged names input (Err (stop.Taken n)) = Unit {0}
IsJudged names input (Err stop.Disk) = Unit {0}
IsJudged names input (Err stop.Source) = Unit {0}
IsJudged names input (Err why) = ⊥

-- the reasons for which a load stops
abbrev pub IsLoadReason : StopReason → Type 0
IsLoadReason (stop.Taken n) = Unit {0}
IsLoadReason (stop.Line n) = Unit {0}
IsLoadReason (stop.TooManyNames n) = Unit {0}
IsLoadReason stop.NoMemory = Unit {0}
IsLoadReason stop.Disk = Unit {0}
IsLoadReason stop.Source = Unit {0}
IsLoadReason stop.Sink = Unit {0}
IsLoadReason why = ⊥

-- the ends that leave the file as it was: its length, the first line, or memory refused the load
abbrev pub LeavesAsItWas : Result (Unit {0}) StopReason → Type 0
LeavesAsItWas (Err (stop.Taken n)) = Unit {0}
LeavesAsItWas (Err (stop.Line zero)) = Unit {0}
LeavesAsItWas (Err (stop.TooManyNames n)) = Unit {0}
LeavesAsItWas (Err stop.NoMemory) = Unit {0}
LeavesAsItWas end = ⊥

-- what was read of an input, by what was left before and after
abbrev pub read_of : SourceState → SourceState → Passed
read_of from rest = passed from.tells from.left rest.left

-- What a file of length 0 is once a load ended so. Done, it opens to the map of the dump. Refused at an
-- object it opens to the empty map, and where the source failed to that, or it has no bytes still. Where the
-- disk failed it is no store, or opens to either map. Else it has no bytes still.
abbrev pub LeavesFile : ℕ → ℕ → Passed → List ℕ → Result (Unit {0}) StopReason → Type 0
LeavesFile k names x file (Ok done) = OpensDump k names x file
LeavesFile k names x file (Err stop.Sink) = OpensDump k names x file
LeavesFile k names x file (Err (stop.Line zero)) = length file ≡ 0
LeavesFile k names x file (Err (stop.Line (suc n))) = OpensEmpty k names file
LeavesFile k names x file (Err stop.Source) = (length file ≡ 0) ⊎ OpensEmpty k names file
LeavesFile k names x file (Err stop.Disk) = IsLoadImage k names x file
LeavesFile k names x file (Err why) = length file ≡ 0

-- What is put before the line of an end: that the file is loaded, or a front of it where the sink failed, and
-- else nothing.
abbrev pub PutsBefore : SinkState → SinkState → Result (Unit {0}) StopReason → Type 0
PutsBefore before now (Ok done) = Puts {E = StopReason} before.given now.given loaded_line (Ok done)
PutsBefore before now (Err stop.Sink) = Puts {T = Unit {0}} before.given now.given loaded_line (Err stop.Sink)
PutsBefore before now (Err why) = now ≡ before

-- the bytes that an end puts before its line
abbrev pub reply_of : Result (Unit {0}) StopReason → List ℕ
reply_of (Ok done) = loaded_line
reply_of (Err stop.Sink) = loaded_line
reply_of (Err why) = []
