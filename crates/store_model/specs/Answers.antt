-- What a store answers: which refusal comes, and the reply that an answer stands for.
use Rattle.std.specs.Prelude.{◌≡◌, ℕ, ◌⊎◌, Bool, true, false, not, nat_lt, if◌then◌else◌, Option, Some, None, option_map, List, Result, Ok, Err, IsOk, IfOk}
use Rattle.std.specs.FinMap as fin
use Rattle.slot_codec.specs.Names.{is_name}
use Rattle.map_model.specs.Requests as ask
use Rattle.map_model.specs.Requests.{Request, Reply, Refused}
use Rattle.segment_layout.specs.Books.{version_of}
use Rattle.extent_table.specs.declared.spot.Spot.{Spot}
use Rattle.store_model.specs.declared.answers.Refusal.{Refusal}
use Rattle.store_model.specs.declared.answers.Refusal.TheVariants as why
use Rattle.store_model.specs.declared.answers.Done.{Done}
use Rattle.store_model.specs.States.{Facts, refusal, name_of}
use Rattle.store_model.specs.Connection.{StoreValue, limits_of}

-- ---- refusals

abbrev pub refusal_for : Refused → Refusal
refusal_for ask.bad_name = why.BadName
refusal_for ask.too_long = why.TooLong
refusal_for ask.missing = why.Missing
refusal_for ask.damaged = why.Damaged
refusal_for ask.full = why.Full
refusal_for ask.worn = why.Worn

-- what a refusal depends on, by the places of the objects alone: a disk that tells nothing has it too
abbrev pub facts_at : StoreValue → Request → Facts
facts_at s r = record {
  is_live = fin.contains_key s.now (name_of r);
  is_kept = fin.contains_key s.kept (name_of r);
  count = fin.len s.now;
  version = version_of s.book;
  sequence = s.in_use.sequence;
}

-- the refusal of a request that no device has a part in: first that the store is broken
abbrev pub refused_by : StoreValue → Request → Option Refusal
refused_by s r = if s.is_broken then Some why.Broken
    else option_map refusal_for (refusal (limits_of s) (facts_at s r) r)

-- ---- answers

-- the answer is the refusal; where there is none, it is this number
abbrev pub AnswersNumber : Option Refusal → ℕ → Result ℕ Refusal → Type 0
AnswersNumber None n result = result ≡ Ok n
AnswersNumber (Some refused) n result = result ≡ Err refused

-- the same of the place of an object
abbrev pub AnswersSpot : Option Refusal → Option Spot → Result Spot Refusal → Type 0
AnswersSpot None spot result = IfOk result (λ s. spot ≡ Some s) × IsOk result
AnswersSpot (Some refused) spot result = result ≡ Err refused

-- the answer is a name's bytes; that the store is broken comes first, and then that they are no name
abbrev pub AnswersName : StoreValue → List ℕ → Result (List ℕ) Refusal → Type 0
AnswersName s name result = result ≡ (if s.is_broken then Err why.Broken
    else if is_name name then Ok name else Err why.BadName)

-- the same, but that the disk or the sink may fail, or the object may be damaged
abbrev pub AnswersRead : Option Refusal → ℕ → Result ℕ Refusal → Type 0
AnswersRead None n result = (result ≡ Ok n) ⊎ (result ≡ Err why.Disk) ⊎ (result ≡ Err why.Sink)
    ⊎ (result ≡ Err why.Damaged)
AnswersRead (Some refused) n result = result ≡ Err refused

-- the same without a sink
abbrev pub AnswersFetch : Option Refusal → ℕ → Result ℕ Refusal → Type 0
AnswersFetch None n result = (result ≡ Ok n) ⊎ (result ≡ Err why.Disk) ⊎ (result ≡ Err why.Damaged)
AnswersFetch (Some refused) n result = result ≡ Err refused

-- the answer is the refusal; where there is none, it is Ok, or the sink failed
abbrev pub AnswersList : {T : Type 0} → Option Refusal → Result T Refusal → Type 0
AnswersList None result = IsOk result ⊎ (result ≡ Err why.Sink)
AnswersList (Some refused) result = result ≡ Err refused

-- what lines of that many bytes answer that are copied into so much room
abbrev pub fitted : ℕ → ℕ → Result ℕ Refusal
fitted n room = if nat_lt room n then Err why.Sink else Ok n

-- and a list into memory: its refusal, if there is one, or the above
abbrev pub listed_into : Option Refusal → ℕ → ℕ → Result ℕ Refusal
listed_into None n room = fitted n room
listed_into (Some refused) n room = Err refused

-- the answer is the refusal; where there is none, the change was done, with a checkpoint where it isn't
-- quiet, or the disk failed
abbrev pub AnswersChange : Bool → Option Refusal → Result Done Refusal → Type 0
AnswersChange quiet None result = (result ≡ Ok (record { kept = not quiet })) ⊎ (result ≡ Err why.Disk)
AnswersChange quiet (Some refused) result = result ≡ Err refused

abbrev pub is_disk : Refusal → Bool
is_disk why.Disk = true
is_disk why.Broken = false
is_disk why.BadName = false
is_disk why.TooLong = false
is_disk why.Missing = false
is_disk why.TooMany = false
is_disk why.Damaged = false
is_disk why.Full = false
is_disk why.Worn = false
is_disk why.Sink = false

abbrev pub is_disk_fault : {T : Type 0} → Result T Refusal → Bool
is_disk_fault (Ok x) = false
is_disk_fault (Err refused) = is_disk refused

-- ---- replies

-- the reply of a refusal; there is none where a device failed, the store can't go on, or what is refused is
-- no request
abbrev pub refused_reply : Refusal → Option Reply
refused_reply why.BadName = Some (ask.refused ask.bad_name)
refused_reply why.TooLong = Some (ask.refused ask.too_long)
refused_reply why.Missing = Some (ask.refused ask.missing)
refused_reply why.Damaged = Some (ask.refused ask.damaged)
refused_reply why.Full = Some (ask.refused ask.full)
refused_reply why.Worn = Some (ask.refused ask.worn)
refused_reply why.TooMany = None
refused_reply why.Broken = None
refused_reply why.Disk = None
refused_reply why.Sink = None

-- the reply that an answer stands for, where Ok stands for a reply
abbrev pub reply_of : {T : Type 0} → (T → Reply) → Result T Refusal → Option Reply
reply_of at_ok (Ok x) = Some (at_ok x)
reply_of at_ok (Err refused) = refused_reply refused

abbrev pub done_reply : Done → Reply
done_reply d = if d.kept then ask.kept else ask.done

-- the size at a spot, or 0
abbrev pub size_at : Option Spot → ℕ
size_at None = 0
size_at (Some s) = s.size

-- the place of a spot, or 0
abbrev pub place_at : Option Spot → ℕ
place_at None = 0
place_at (Some s) = s.place
