-- What a store over a file in memory answers where it copies to memory of its caller.
use Rattle.std.specs.Prelude.{◌≡◌, ◌<◌, ◌≤◌, ◌+◌, ◌-◌, ℕ, nat_lt, min, if◌then◌else◌, List, length, take, drop, Option, Some, None, Result, Ok, Err, IfOk, OnErr, IsSome}
use Rattle.std.specs.FinMap as fin
use Rattle.byte_ranges.specs.Ranges.{bytes_at}
use Rattle.size_class.specs.declared.TheConstants.{CLASSES}
use Rattle.map_model.specs.Requests as ask
use Rattle.map_model.specs.Requests.{Request}
use Rattle.store_model.specs.declared.answers.Refusal.{Refusal}
use Rattle.store_model.specs.declared.answers.Refusal.TheVariants as why
use Rattle.store_model.specs.Answers.{AnswersNumber, listed_into, refused_by, size_at}
use Rattle.store_model.specs.Readings.{is_damaged_read, object_read, spot_read}
use Rattle.store_model.specs.Connection.{state_of}
use Rattle.store_model.specs.Lines.{lines_of, listing_of}
use Rattle.store_model.specs.States.{object_in}
use Rattle.store_model.specs.Stores.{IsStanding, IsStore}
use Rattle.lent_store.specs.Embedded.{Embedded, file_in}

-- What a read answers of an object that may be read: that it has another digest than it is to have, or its
-- size.
abbrev pub object_answer : Embedded → Request → Result ℕ Refusal
object_answer e r = if is_damaged_read (state_of e.store (file_in e)) r then Err why.Damaged
    else Ok (size_at (spot_read e.store r))

-- what is answered to a request: its refusal, if there is one
abbrev pub answer_or : Option Refusal → Result ℕ Refusal → Result ℕ Refusal
answer_or None answer = answer
answer_or (Some refused) answer = Err refused

-- what one into so many bytes answers: the refusal of the request, that the object doesn't fit, or the above
abbrev pub read_answer : Embedded → Request → ℕ → Result ℕ Refusal
read_answer e r room = answer_or (refused_by e.store r)
    (if nat_lt room (size_at (spot_read e.store r)) then Err why.Sink else object_answer e r)

-- the object of a request may be read, and fits
pub record CanCopy (e : Embedded) (r : Request) (room : ℕ) : Type 0 where
  pub served : refused_by e.store r ≡ None
  pub fits : size_at (spot_read e.store r) ≤ room
  pub standing : IsStanding e.store
  pub sound : e.store.in_hand ≡ None → IsStore CLASSES e.store

-- An object was read into memory, or that was refused: at Ok its bytes stand in front. Memory that is too
-- short, and that of a request that is refused, stays.
pub record ReadsInto (r : Request) (e : Embedded) (before out : List ℕ) (result : Result ℕ Refusal) : Type 0
  where
    pub answer : result ≡ read_answer e r (length before)
    pub object : IfOk result (λ n. take n out ≡ object_read (state_of e.store (file_in e)) r)
    pub refused : IsSome (refused_by e.store r) → out ≡ before
    pub short : length before < size_at (spot_read e.store r) → out ≡ before
    pub same_length : length out ≡ length before

-- the bytes of an object stand in the file from a position on
abbrev pub StandsAt : Embedded → List ℕ → ℕ → Type 0
StandsAt e name at = (at + size_at (fin.get e.store.now name) ≤ length (file_in e))
    × (bytes_at (file_in e) at (size_at (fin.get e.store.now name))
    ≡ object_in (state_of e.store (file_in e)).map name)

-- The lines of a list were copied to memory, and the answer is how many bytes they have; or they didn't fit.
-- A broken store answers so, and the memory stays.
pub record ListsInto (e : Embedded) (before out : List ℕ) (result : Result ℕ Refusal) : Type 0 where
  pub answer : result ≡ listed_into (refused_by e.store ask.list)
      (length (lines_of (listing_of e.store.now))) (length before)
  pub lines : IfOk result (λ n. take n out ≡ lines_of (listing_of e.store.now))
  pub refused : IsSome (refused_by e.store ask.list) → out ≡ before
  pub same_length : length out ≡ length before

-- how many bytes of an object of a size are read from an offset on into so many
abbrev pub part_size : ℕ → ℕ → ℕ → ℕ
part_size size from room = min (size - from) room

-- A part of an object was read into memory, or that was refused: at Ok its bytes stand in front, and those
-- behind them stay.
pub record ReadsPart (name : List ℕ) (from : ℕ) (e : Embedded) (before out : List ℕ) (result : Result ℕ Refusal)
    : Type 0 where
  pub answer : AnswersNumber (refused_by e.store (ask.get name))
      (part_size (size_at (fin.get e.store.now name)) from (length before)) result
  pub part : IfOk result (λ n. take n out
      ≡ bytes_at (object_in (state_of e.store (file_in e)).map name) from n)
  pub rest : IfOk result (λ n. drop n out ≡ drop n before)
  pub refused : OnErr result (out ≡ before)
  pub same_length : length out ≡ length before
