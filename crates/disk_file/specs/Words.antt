-- The words of causes, for programs to act on.
use Rattle.std.specs.Prelude.{ℕ, ℤ, List, Option, Some, codes, unsigned_abs, ◌==◌, ◌||◌, if◌then◌else◌, ◌≡◌, ⊤}
use Rattle.std.specs.IoError.{error_kind, raw_os_error}
use Rattle.std.specs.declared.io.Error.{Error}
use Rattle.std.specs.declared.io.ErrorKind.{ErrorKind}
use Rattle.std.specs.declared.io.ErrorKind.TheVariants as kind
use Rattle.disk_file.specs.declared.cause.Cause.{Cause}
use Rattle.disk_file.specs.declared.cause.Cause.TheVariants as cause

-- of an error of Linux that std has no kind for: a number that isn't open, and too many open files
abbrev pub number_word : ℕ → List ℕ
number_word n =
    if n == 9 then codes "closed" else if n == 23 || n == 24 then codes "too-many-files" else codes "io"

-- of an error by its kind
abbrev pub kind_word : ErrorKind → List ℕ
kind_word kind.PermissionDenied = codes "no-right"
kind_word kind.ReadOnlyFilesystem = codes "read-only"
kind_word kind.StorageFull = codes "no-room"
kind_word kind.QuotaExceeded = codes "no-room"
kind_word kind.FileTooLarge = codes "no-room"
kind_word kind.NotFound = codes "name"
kind_word kind.NotADirectory = codes "name"
kind_word kind.AlreadyExists = codes "name"
kind_word kind.FilesystemLoop = codes "name"
kind_word kind.InvalidFilename = codes "name"
kind_word kind.IsADirectory = codes "not-a-file"
kind_word kind.NotSeekable = codes "not-a-file"
kind_word kind.WouldBlock = codes "busy"
kind_word kind.ResourceBusy = codes "busy"
kind_word kind.ExecutableFileBusy = codes "busy"
kind_word kind.BrokenPipe = codes "closed"
kind_word kind.OutOfMemory = codes "memory"
kind_word k = codes "io"

-- of an error by its kind and its number
abbrev pub word_by : ErrorKind → Option ℤ → List ℕ
word_by kind.Uncategorized (Some number) = number_word (unsigned_abs number)
word_by k number = kind_word k

-- of what the system said
abbrev pub error_word : Error → List ℕ
error_word e = word_by (error_kind e) (raw_os_error e)

-- of a cause
abbrev pub word_of : Cause → List ℕ
word_of (cause.System e) = error_word e
word_of (cause.NoRoom r) = codes "no-room"
word_of (cause.NoFolder e) = codes "no-folder"
word_of cause.NoName = codes "name"
word_of cause.LongName = codes "name"
word_of cause.Folder = codes "not-a-file"
word_of cause.Special = codes "not-a-file"
word_of cause.InUse = codes "busy"
word_of cause.OwnStream = codes "own-output"
word_of cause.Ended = codes "ended"
word_of cause.NoneTaken = codes "io"
word_of cause.Lost = codes "lost"
word_of cause.Gone = codes "gone"

-- of an error of a change, by its kind: what it asked for, and how far it came
abbrev pub change_cause_by : ErrorKind → Error → ℕ → Option ℕ → Cause
change_cause_by kind.StorageFull e asked had = cause.NoRoom (record { error = e; asked = asked; had = had })
change_cause_by kind.QuotaExceeded e asked had = cause.NoRoom (record { error = e; asked = asked; had = had })
change_cause_by kind.FileTooLarge e asked had = cause.NoRoom (record { error = e; asked = asked; had = had })
change_cause_by k e asked had = cause.System e

-- of an error of a change
abbrev pub change_cause : Error → ℕ → Option ℕ → Cause
change_cause e asked had = change_cause_by (error_kind e) e asked had

-- where there was no room, so many bytes were asked for
abbrev pub AsksFor : ℕ → Cause → Type 0
AsksFor n (cause.NoRoom room) = room.asked ≡ n
AsksFor n c = ⊤
