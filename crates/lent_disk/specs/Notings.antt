-- What contracts see of a file in memory whose calls are noted.
use Rattle.std.specs.Prelude.{◌≡◌, ◌⊎◌, ℕ, ◌-◌, ◌^◌, ◌<◌, ◌≤◌, List, [], ◌∷◌, ◌++◌, length, map}
use Rattle.disk_history.specs.Changes.{RecordedCall, Stamped}
use Rattle.disk_history.specs.Histories.{History, EndedBy, done, file_of, fresh, undone}
use Rattle.lent_disk.specs.Calls.{AreWithin, FitEntries, longest_in, spelled, text_of, weight_in}

-- The calls on the file since it was lent; the same at the moment when the log was emptied last; what the log
-- spells; which changing calls were asked for since then, the newest first, made or refused; and how many
-- bytes the file and the log may have.
pub record Noting : Type 0 where
  pub history : History
  pub start : History
  pub text : List ℕ
  pub asked : List RecordedCall
  pub room : ℕ
  pub log_room : ℕ

-- what reads give
abbrev pub content : Noting → List ℕ
content n = file_of n.history

-- what was asked by these calls
abbrev pub changes : List Stamped → List RecordedCall
changes = map (λ call. call.change)

-- each of these calls was made in that turn or later
abbrev pub BeganFrom : ℕ → List Stamped → Type 0
BeganFrom turn [] = Unit {0}
BeganFrom turn (call ∷ earlier) = (turn ≤ call.began) × BeganFrom turn earlier

-- a text spells the calls that make a history of another, each write within the file as it was then
pub record IsLog (start history : History) (text : List ℕ) : Type 0 where
  pub calls : List Stamped
  pub same_base : history.base ≡ start.base
  pub grows : history.calls ≡ calls ++ start.calls
  pub spells : text ≡ text_of (changes calls)
  pub fits : FitEntries (changes calls)
  pub within : AreWithin (changes calls) (file_of start)
  pub later : start.turn ≤ history.turn
  pub since : BeganFrom start.turn calls

-- There isn't room for what was asked for: the log may have fewer bytes than spell it, or the file fewer than
-- a length that was to be set.
abbrev pub LacksSpace : Noting → Type 0
LacksSpace n = (n.log_room < weight_in n.asked) ⊎ (n.room < longest_in n.asked)

-- What holds of each: the file is what its history gives, and the log spells what it has had since the start.
-- Nothing is spelled that wasn't asked for, and a call failed since then only for want of room.
pub record IsNoting (n : Noting) (file : List ℕ) : Type 0 where
  pub same_file : file ≡ content n
  pub few : n.history.turn ≤ 2 ^ 64 - 1
  pub ended : EndedBy n.history.turn n.history.calls
  pub log : IsLog n.start n.history n.text
  pub spelled : length n.text ≤ weight_in n.asked
  pub cause : n.start.faults < n.history.faults → LacksSpace n

-- a file that is at rest on its device, before its first call
abbrev pub lent : List ℕ → ℕ → ℕ → Noting
lent file room log_room = record {
  history = fresh file;
  start = fresh file;
  text = [];
  asked = [];
  room = room;
  log_room = log_room;
}

-- after a call that was made and noted
abbrev pub made : RecordedCall → Noting → Noting
made call n = record n {
  history = done call n.history;
  text = n.text ++ spelled call;
  asked = call ∷ n.asked;
}

-- after a changing call that didn't fit
abbrev pub refused : RecordedCall → Noting → Noting
refused call n = record n { history = undone n.history; asked = call ∷ n.asked }

-- once the calls of the log were made elsewhere, and it is empty again
abbrev pub emptied : Noting → Noting
emptied n = record n { start = n.history; text = []; asked = [] }
