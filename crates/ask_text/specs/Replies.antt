-- The texts of replies.
use Rattle.std.specs.Prelude.{ℕ, ◌<◌, ◌^◌, List, [], ◌++◌, length, flat_map, codes}
use Rattle.std.specs.Fmt.{decimal}
use Rattle.map_model.specs.Requests as reply
use Rattle.map_model.specs.Requests.{Refused}
use Rattle.ask_text.specs.declared.reply.Reply.{Reply}
use Rattle.ask_text.specs.declared.reply.Reply.TheVariants as head
use Rattle.ask_text.specs.declared.reply.RefusedWord.{RefusedWord}
use Rattle.ask_text.specs.declared.reply.RefusedWord.TheVariants as word

-- the word of a refusal
abbrev pub word_of : RefusedWord → List ℕ
word_of word.Name = codes "name"
word_of word.Size = codes "size"
word_of word.Missing = codes "missing"
word_of word.Damaged = codes "damaged"
word_of word.Full = codes "full"
word_of word.Worn = codes "worn"

-- the first line of a reply, with its newline
abbrev pub first_line : Reply → List ℕ
first_line head.Ok = codes "ok\n"
first_line head.Kept = codes "ok kept\n"
first_line (head.Data size) = codes "data " ++ decimal size ++ codes "\n"
first_line (head.Refused why) = codes "refused " ++ word_of why ++ codes "\n"
first_line (head.List count) = codes "list " ++ decimal count ++ codes "\n"
first_line (head.Stat names bytes kept_names kept_bytes) = codes "stat " ++ decimal names ++ codes " "
    ++ decimal bytes ++ codes " " ++ decimal kept_names ++ codes " " ++ decimal kept_bytes ++ codes "\n"

-- numbers that a reply may tell
abbrev pub IsTold : Reply → Type 0
IsTold (head.Data size) = size < 2 ^ 64
IsTold (head.List count) = count < 2 ^ 64
IsTold (head.Stat names bytes kept_names kept_bytes) = (names < 2 ^ 64) × (bytes < 2 ^ 64)
    × (kept_names < 2 ^ 64) × (kept_bytes < 2 ^ 64)
IsTold _ = Unit {0}

-- the word that is told for a refusal
abbrev pub told_for : Refused → RefusedWord
told_for reply.bad_name = word.Name
told_for reply.too_long = word.Size
told_for reply.missing = word.Missing
told_for reply.damaged = word.Damaged
told_for reply.full = word.Full
told_for reply.worn = word.Worn

-- what the first line of a reply tells
abbrev pub reply_line_of : reply.Reply → Reply
reply_line_of reply.done = head.Ok
reply_line_of reply.kept = head.Kept
reply_line_of (reply.found object) = head.Data (length object)
reply_line_of (reply.refused why) = head.Refused (told_for why)
reply_line_of (reply.listed entries) = head.List (length entries)
reply_line_of (reply.counts names bytes kept_names kept_bytes) = head.Stat names bytes kept_names kept_bytes

-- the line of a name and its object's size
abbrev pub entry_text : List ℕ × ℕ → List ℕ
entry_text e = e.0 ++ codes " " ++ decimal e.1 ++ codes "\n"

-- what follows the first line of a reply
abbrev pub rest_of : reply.Reply → List ℕ
rest_of (reply.found object) = object ++ codes "\n"
rest_of (reply.listed entries) = flat_map entry_text entries
rest_of _ = []

abbrev pub reply_text : reply.Reply → List ℕ
reply_text r = first_line (reply_line_of r) ++ rest_of r
