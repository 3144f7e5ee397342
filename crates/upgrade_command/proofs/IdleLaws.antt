-- What an upgrade of an open store has to do, as the store says it and as the command does.
use Rattle.std.specs.Prelude.{◌≡◌, ◌⊎◌, ℕ, ◌<◌, ◌==◌, ◌^◌, ◌||◌, nat_le, nat_lt, Bool, true, false, if◌then◌else◌, List, Option, Some, None, IsSome, Result, Ok, Err, refl}
use Rattle.std.proofs.Common.{ap, sym, ◌∙◌, subst, inl, inr}
use Rattle.std.proofs.lemmas.Bool.{leb-false}
use Rattle.std.specs.FinMap as fin
use Rattle.disk_face.specs.Devices.{Devices}
use Rattle.disk_face.specs.Frames.{Unchanged}
use Rattle.size_class.specs.declared.TheConstants.{CLASSES}
use Rattle.slot_codec.specs.Spelling.{cap}
use Rattle.segment_layout.specs.Books.{version_of}
use Rattle.store_model.specs.Connection.{IsConnected, StoreValue, base_of, state_of}
use Rattle.store_model.specs.States.{State, refused_from}
use Rattle.store_model.specs.Stores.{IsStore}
use Rattle.store_model.specs.Answers.{is_disk_fault}
use Rattle.store_model.specs.Changes.{NothingChanged}
use Rattle.store_model.specs.Upgrades.{AnswersUpgrade, Upgrades, idle_answer}
use Rattle.store_model.specs.declared.answers.Done.{Done}
use Rattle.store_model.specs.declared.answers.Refusal.{Refusal}
use Rattle.store_model.specs.declared.answers.Refusal.TheVariants as why
use Rattle.command_face.specs.declared.stop.StopReason.{StopReason}
use Rattle.command_face.specs.declared.stop.StopReason.TheVariants as stop
use Rattle.upgrade_command.specs.Doing.{EndsBy, IsUpgrade, PutsUpgraded}
use Rattle.upgrade_command.specs.Upgrading.{idle_end, upgraded_line}
use Rattle.placement_model.proofs.EntryLaws.{len-read_at}

-- ---- why there is nothing to do

pub data Idle : Type 0 where
  already : Idle
  many : Idle
  worn : Idle

abbrev pub store_answer : Idle → Result Done Refusal
store_answer already = Ok (record { kept = false })
store_answer many = Err why.TooMany
store_answer worn = Err why.Worn

abbrev pub command_end : ℕ → Idle → Result (List ℕ) StopReason
command_end n already = Ok upgraded_line
command_end n many = Err (stop.TooManyNames n)
command_end n worn = Err stop.Worn

-- the answers by what decides them
store_by : Bool → Bool → Bool → Bool → Option (Result Done Refusal)
store_by b v m w = if b then Some (Err why.Broken) else if v then Some (Ok (record { kept = false }))
    else if m then Some (Err why.TooMany) else if w then Some (Err why.Worn) else None

command_by : ℕ → Bool → Bool → Bool → Option (Result (List ℕ) StopReason)
command_by n v m w = if v then Some (Ok upgraded_line)
    else if m then Some (Err (stop.TooManyNames n)) else if w then Some (Err stop.Worn) else None

module _ (s : StoreValue) (h : IsStore CLASSES s) (file : List ℕ) (whole : s.is_broken ≡ false) where
  abbrev names : ℕ
  names = s.in_use.block.names

  abbrev start : State
  start = state_of s file

  pub same_count : fin.len start.map ≡ fin.len s.now
  same_count = len-read_at (base_of s) file s.now h.now.named

  pub record IsIdle (i : Idle) : Type 0 where
    pub store : idle_answer s ≡ Some (store_answer i)
    pub command : idle_end names start ≡ Some (command_end (fin.len s.now) i)

  pub record IsToDo : Type 0 where
    pub store : idle_answer s ≡ None
    pub command : idle_end names start ≡ None
    pub fresh : s.in_use.sequence < 2 ^ 61

  module _ (v m w : Bool) (ev : (version_of s.book == 2) ≡ v)
      (em : nat_lt (cap names 2) (fin.len s.now) ≡ m) (ew : nat_le refused_from s.in_use.sequence ≡ w) where
    store_is : idle_answer s ≡ store_by false v m w
    unfolding store_by
    store_is = λ i. store_by (whole i) (ev i) (em i) (ew i)

    command_is : idle_end names start ≡ command_by (fin.len s.now) v m w
    unfolding command_by
    command_is = λ i. command_by (same_count i) (ev i) ((ap (nat_lt (cap names 2)) same_count ∙ em) i) (ew i)

  pub either : ((i : Idle) × IsIdle i) ⊎ IsToDo
  unfolding store_by command_by
  either = by (version_of s.book == 2) (nat_lt (cap names 2) (fin.len s.now))
      (nat_le refused_from s.in_use.sequence) refl refl refl
    where
      by : (v m w : Bool) → (version_of s.book == 2) ≡ v → nat_lt (cap names 2) (fin.len s.now) ≡ m
          → nat_le refused_from s.in_use.sequence ≡ w → ((i : Idle) × IsIdle i) ⊎ IsToDo
      by true m w ev em ew = inl (
        already,
        record {
          store = store_is true m w ev em ew;
          command = command_is true m w ev em ew;
        },
      )
      by false true w ev em ew = inl (
        many,
        record {
          store = store_is false true w ev em ew;
          command = command_is false true w ev em ew;
        },
      )
      by false false true ev em ew = inl (
        worn,
        record {
          store = store_is false false true ev em ew;
          command = command_is false false true ev em ew;
        },
      )
      by false false false ev em ew = inr (record {
        store = store_is false false false ev em ew;
        command = command_is false false false ev em ew;
        fresh = leb-false refused_from s.in_use.sequence ew;
      })

-- ---- what was done

-- nothing, and the end is that
pub record WasIdle (s : StoreValue) (i : Idle) (a b : Devices) (end : Result (Unit {0}) StopReason)
    : Type 0 where
  pub disk : Unchanged a.disk b.disk
  pub calm : b.disk.faults ≡ a.disk.faults
  pub ends : EndsBy (fin.len s.now) (store_answer i) a.sink b.sink end

-- a checkpoint was saved, and the line was put unless the sink failed
pub record WasSaved (s : StoreValue) (a b : Devices) (end : Result (Unit {0}) StopReason) : Type 0 where
  pub new : StoreValue
  pub upgrades : Upgrades CLASSES s new a.disk b.disk (Ok (record { kept = true }))
  pub over : IsConnected CLASSES new b.disk
  pub unbroken : new.is_broken ≡ false
  pub sound : IsStore CLASSES new
  pub puts : PutsUpgraded a.sink b.sink end

-- the disk failed, and nothing was put
pub record WasFailed (s : StoreValue) (a b : Devices) (end : Result (Unit {0}) StopReason) : Type 0 where
  pub new : StoreValue
  pub upgrades : Upgrades CLASSES s new a.disk b.disk (Err why.Disk)
  pub ended : end ≡ Err stop.Disk
  pub nothing : b.sink ≡ a.sink

module _ (s : StoreValue) (h : IsStore CLASSES s) (whole : s.is_broken ≡ false) (a b : Devices)
    (end : Result (Unit {0}) StopReason) (x : IsUpgrade s a b end) where
  pub was_idle : (i : Idle) → IsIdle s h a.disk.file whole i → WasIdle s i a b end
  was_idle i is =
      let changed : NothingChanged s x.new a.disk b.disk =
      x.idle (subst (λ o. IsSome o) (sym is.store) refl) in
      let same : x.result ≡ store_answer i = subst (λ o. AnswersUpgrade o x.result) is.store x.answer in
      record {
        disk = changed.same_disk;
        calm = changed.same_faults;
        ends = subst (λ r. EndsBy (fin.len s.now) r a.sink b.sink end) same x.ends;
      }

  abbrev Either : Type 0
  Either = WasSaved s a b end ⊎ WasFailed s a b end

  pub was_done : idle_answer s ≡ None → Either
  was_done none = elim (subst (λ o. AnswersUpgrade o x.result) none x.answer) as (λ _. Either) [
    | inl ok ↦ (
        let broken : x.new.is_broken ≡ false = x.broken ∙ whole_after ok in
        inl (record {
          new = x.new;
          upgrades = subst (λ r. Upgrades CLASSES s x.new a.disk b.disk r) ok (x.upgrades none);
          over = x.over;
          unbroken = broken;
          sound = x.sound broken;
          puts = subst (λ r. EndsBy (fin.len s.now) r a.sink b.sink end) ok x.ends;
        })
        )
    | inr failed ↦ (
        let both = subst (λ r. EndsBy (fin.len s.now) r a.sink b.sink end) failed x.ends in
        inr (record {
          new = x.new;
          upgrades = subst (λ r. Upgrades CLASSES s x.new a.disk b.disk r) failed (x.upgrades none);
          ended = both.0;
          nothing = both.1;
        })
        )
  ]
    where
      whole_after : x.result ≡ Ok (record { kept = true }) → (s.is_broken || is_disk_fault x.result) ≡ false
      whole_after ok = λ i. whole i || is_disk_fault (ok i)
