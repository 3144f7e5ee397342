-- What a contract sees of a system beside the file as a disk.
use Rattle.std.specs.Prelude.{◌≡◌, ℕ, Bool, true, false, List, Option, Some, None, is_some}
use Rattle.disk_face.specs.Mounts.{Names}
use Rattle.disk_file.specs.declared.host.Kind.{Kind}
use Rattle.disk_file.specs.declared.host.Kind.TheVariants as kind
use Rattle.disk_file.specs.declared.host.Use.{Use}
use Rattle.disk_file.specs.declared.host.How.{How}
use Rattle.disk_file.specs.declared.host.How.TheVariants as how

pub record Marks : Type 0 where
  -- whether what follows is told
  pub tells : Bool
  -- whether a call may fail though nothing stands in its way
  pub may_fail : Bool
  -- the greatest length that a file may be given
  pub room : ℕ
  -- what stands under a name, if anything
  pub kind_at : List ℕ → Option Kind
  -- what is open
  pub opened : Option Kind
  -- somebody else holds the file, or a standard stream of the program reads or writes it
  pub in_use : Bool
  -- the lock that is held
  pub lock : Option Use
  -- the folder was synced since the file was made
  pub is_named : Bool
  -- the file is also what a standard stream of the program reads or writes, of those that matter to a use
  pub is_stream : Use → Bool
  -- the name leads to the file that is open
  pub leads : List ℕ → Bool

-- which names are there
abbrev pub names_of : Marks → Names
names_of marks = record { tells = marks.tells; is_there = λ name. is_some (marks.kind_at name) }

-- what is open once a name was opened
abbrev pub opened_by : How → Option Kind → Option Kind
opened_by how.Read there = there
opened_by how.Change there = there
opened_by how.Make there = Some kind.File

-- nothing stands in the way of opening so
abbrev pub can_open : How → Option Kind → Bool
can_open how.Read there = is_some there
can_open how.Change there = is_some there
can_open how.Make None = true
can_open how.Make (Some _) = false

-- What is told stays told, calls fail as before, and so does somebody else hold the file or not, or a
-- standard stream read or write it.
pub record SameWorld (old new : Marks) : Type 0 where
  pub told : new.tells ≡ old.tells
  pub same_faults : new.may_fail ≡ old.may_fail
  pub same_use : new.in_use ≡ old.in_use
  pub same_streams : new.is_stream ≡ old.is_stream

-- The same, and the lock that is held.
pub record SameHold (old new : Marks) : Type 0 where
  pub world : SameWorld old new
  pub same_lock : new.lock ≡ old.lock

-- a mark of nothing
abbrev pub untold_marks : Marks
untold_marks = record {
  tells = false;
  may_fail = true;
  room = 0;
  kind_at = λ _. None;
  opened = None;
  in_use = false;
  lock = None;
  is_named = false;
  is_stream = λ _. false;
  leads = λ _. false;
}
