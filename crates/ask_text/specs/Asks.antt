-- The lines that ask for something, and the texts of requests.
use Rattle.std.specs.Prelude.{◌≡◌, ℕ, ◌<◌, List, ◌++◌, length, codes, Option, Some, None}
use Rattle.std.specs.Fmt.{decimal}
use Rattle.map_model.specs.Requests.{Request, Change}
use Rattle.map_model.specs.Requests as request
use Rattle.ask_text.specs.Words.{IsWord}
use Rattle.ask_text.specs.declared.ask.Ask.{Ask}
use Rattle.ask_text.specs.declared.ask.Ask.TheVariants as ask

-- the line that asks for it, without its newline
abbrev pub line_of : Ask → List ℕ
line_of (ask.Put name size) = codes "put " ++ name ++ codes " " ++ decimal size
line_of (ask.Get name) = codes "get " ++ name
line_of (ask.Old name) = codes "old " ++ name
line_of (ask.Del name) = codes "del " ++ name
line_of ask.Keep = codes "keep"
line_of ask.Back = codes "back"
line_of ask.List = codes "list"
line_of ask.Stat = codes "stat"

-- what may be asked: the name is a word, and the size has 32 bits
abbrev pub IsAsk : Ask → Type 0
IsAsk (ask.Put name size) = IsWord name × (size < 4294967296)
IsAsk (ask.Get name) = IsWord name
IsAsk (ask.Old name) = IsWord name
IsAsk (ask.Del name) = IsWord name
IsAsk _ = Unit {0}

-- what names nothing
abbrev pub IsBare : Ask → Type 0
IsBare ask.Keep = Unit {0}
IsBare ask.Back = Unit {0}
IsBare ask.List = Unit {0}
IsBare ask.Stat = Unit {0}
IsBare _ = ⊥

-- the line asks for this
abbrev pub AsksFor : List ℕ → Ask → Type 0
AsksFor line a = (line ≡ line_of a) × IsAsk a

-- the line asks for nothing
abbrev pub AsksForNothing : List ℕ → Type 0
AsksForNothing line = (a : Ask) → AsksFor line a → ⊥

-- what a put or a del asks for: the size of the new object, or none
abbrev pub change_ask : List ℕ → Option (List ℕ) → Ask
change_ask name None = ask.Del name
change_ask name (Some object) = ask.Put name (length object)

-- what the line of a request asks for
abbrev pub ask_of : Request → Ask
ask_of (request.change c) = change_ask c.name c.object
ask_of (request.get name) = ask.Get name
ask_of (request.old name) = ask.Old name
ask_of request.keep = ask.Keep
ask_of request.back = ask.Back
ask_of request.list = ask.List
ask_of request.stat = ask.Stat
