-- How the search for the end of a log goes on.
use Rattle.std.proofs.Common.{◌≡◌, ℕ, zero, suc, ◌+◌, ◌*◌, ◌/◌, ◌≤◌, ◌-◌, Bool, true, ◌&&◌, IsTrue, List, refl, sym, ap, ◌∙◌, arith, subst, inl, inr}
use Rattle.std.proofs.lemmas.Bool.{cases_Bool, cond-true, cond-false, eq-eqb, le-ltb, lt-ltb, ltb-false, ltb-true}
use Rattle.std.proofs.lemmas.Option.{same_Some}
use Rattle.std.specs.Int.{w64, from_le_bytes}
use Rattle.std.specs.Prelude.{Option, Some, None, if◌then◌else◌, nat_lt, slice_index}
use Rattle.byte_ranges.specs.Ranges.{bytes_at}
use Rattle.byte_ranges.proofs.RangeLaws.{bytes_at-index, bytes_at-within}
use Rattle.disk_face.specs.Frames.{Unchanged}
use Rattle.disk_face.specs.States.{State}
use Rattle.disk_face.proofs.FrameLaws.{Unchanged-trans, unchanged_itself}
use Rattle.slot_codec.specs.Choice.{is_open}
use Rattle.slot_codec.specs.Entries.{up}
use Rattle.slot_codec.specs.Logs.{goes_on, len_at, log_end, room_at, walk}
use Rattle.slot_codec.specs.Reading.{number_at}
use Rattle.slot_codec.specs.Spelling.{gate_open}
use Rattle.slot_pair.specs.LogEnds.{IsLogEnd, IsRoom}
use Rattle.slot_pair.specs.declared.log_end.LogEnd.{LogEnd}

-- ---- the first bytes of an entry

start_number : (file start : List ℕ) (at i : ℕ) → i + 8 ≤ 40 → start ≡ bytes_at file at 40
    → number_at start i ≡ number_at file (at + i)
start_number file start at i low is =
    ap (λ xs. number_at xs i) is ∙ ap (from_le_bytes w64) (bytes_at-within file at 40 i 8 low)

-- less than what is left below the top
lt_moved : (room left top at : ℕ) → left ≡ top - at → 40 ≤ left
    → nat_lt room left ≡ nat_lt (at + room) top
lt_moved room left top at rest some = elim (cases_Bool (nat_lt room left)) [
  | inl on ↦ on ∙ sym (lt-ltb (at + room) top (omega (arith, ltb-true room left on, rest, some)))
  | inr off ↦ off ∙ sym (le-ltb (at + room) top (omega (arith, ltb-false room left off, rest, some)))
]

pub start_room : (file start : List ℕ) (at : ℕ) → start ≡ bytes_at file at 40
    → room_at start 0 ≡ room_at file at
start_room file start at is =
    let c = start_number file start at 8 (omega arith) is in
    let m = start_number file start at 16 (omega arith) is in
    let g = start_number file start at 24 (omega arith) is in
    let p = start_number file start at 32 (omega arith) is in
    let same : len_at start 0 ≡ len_at file at = omega (arith, c, m, g, p) in
    ap up same

-- the room of an open entry by its first bytes, where so many are left below the top
pub room_read : (file start : List ℕ) (top at left : ℕ) (answer : Option ℕ) → start ≡ bytes_at file at 40
    → slice_index start 0 ≡ gate_open → left ≡ top - at → 40 ≤ left
    → answer ≡ (if nat_lt (room_at start 0) left then Some (room_at start 0) else None)
    → answer ≡ (if goes_on file top at then Some (room_at file at) else None)
room_read file start top at left answer is gate rest some answered =
    let room = room_at file at in
    let same : room_at start 0 ≡ room = start_room file start at is in
    let unmoved : at ≡ at + 0 = omega arith in
    let first : slice_index file at ≡ gate_open =
    ap (slice_index file) unmoved ∙ sym (bytes_at-index file at 40 0 (omega arith))
    ∙ ap (λ xs. slice_index xs 0) (sym is) ∙ gate in
    let on : is_open file at ≡ true = eq-eqb (slice_index file at) gate_open first in
    let test : nat_lt (room_at start 0) left ≡ goes_on file top at =
    ap (λ (n : ℕ). nat_lt n left) same ∙ lt_moved room left top at rest some
    ∙ ap (λ b. b && nat_lt (at + room) top) (sym on) in
    answered ∙ ap (λ (n : ℕ). if nat_lt (room_at start 0) left then Some n else None) same
    ∙ ap (λ (b : Bool). if b then Some room else None) test

-- ---- the loop

-- by how much an entry raises the count
abbrev pub counts : List ℕ → ℕ → ℕ → ℕ
counts file at n = n + 1

-- the room of an entry that goes on
abbrev pub room_on : List ℕ → ℕ → ℕ → Option ℕ
room_on file top at = if goes_on file top at then Some (room_at file at) else None

-- So many entries are gone through, on a disk that is as it was, and the rest of the log is still to come.
pub record EntriesSoFar (at top : ℕ) (old new : State) (log : LogEnd) : Type 0 where
  pub place : IsLogEnd at top log
  pub fuel : ℕ
  pub enough : top ≤ log.end + 512 * (fuel + 1)
  pub rest : IsTrue old.tells → log_end old.file top at ≡ walk counts fuel old.file top log.end log.entries
  pub same : Unchanged old new
  pub calm : new.faults ≡ old.faults

pub no_entries : (at top : ℕ) (old : State) → IsTrue old.is_ready
    → EntriesSoFar at top old old (record { entries = 0; end = at })
unfolding log_end
no_entries at top old ready = record {
  place = record { behind = omega arith; below = λ low. low; multiple = λ whole. whole };
  fuel = top / 512;
  enough = omega arith;
  rest = λ told. refl;
  same = unchanged_itself old ready;
  calm = refl;
}

-- of an entry that goes on, what is left of the log
one_more : (file : List ℕ) (top end entries room fuel : ℕ) → Some room ≡ room_on file top end
    → walk counts (suc fuel) file top end entries ≡ walk counts fuel file top (end + room) (entries + 1)
one_more file top end entries room fuel is =
    elim (cases_Bool (goes_on file top end)) [
      | inl on ↦
          let here : room ≡ room_at file end = same_Some room (room_at file end)
          (is ∙ cond-true (goes_on file top end) (Some (room_at file end)) None on) in
          cond-true (goes_on file top end)
          (walk counts fuel file top (end + room_at file end) (entries + 1)) (entries, end) on
          ∙ ap (λ (n : ℕ). walk counts fuel file top (end + n) (entries + 1)) (sym here)
      | inr off ↦
          let none : Some room ≡ None = is
          ∙ cond-false (goes_on file top end) (Some (room_at file end)) None off in
          absurd (cc none)
    ]

-- and where none goes on, the log ends
none_more : (file : List ℕ) (top end entries fuel : ℕ) → None ≡ room_on file top end
    → walk counts fuel file top end entries ≡ (entries, end)
none_more file top end entries zero is = refl
none_more file top end entries (suc fuel) is =
    elim (cases_Bool (goes_on file top end)) [
      | inl on ↦
          let some : None ≡ Some (room_at file end) = is
          ∙ cond-true (goes_on file top end) (Some (room_at file end)) None on in
          absurd (cc some)
      | inr off ↦
          cond-false (goes_on file top end)
          (walk counts fuel file top (end + room_at file end) (entries + 1)) (entries, end) off
    ]

-- fuel is left for an entry that stands below the top
spent : (top end room fuel : ℕ) → IsRoom end top room → top ≤ end + 512 * (fuel + 1)
    → (left : ℕ) × (fuel ≡ suc left)
spent top end room zero is enough = absurd (omega (arith, is.some, is.below, enough))
spent top end room (suc left) is enough = (left, refl)

module _ {at top : ℕ} {old a : State} {log : LogEnd} (so_far : EntriesSoFar at top old a log) where
  here : (answer : Option ℕ)
      → (IsTrue a.tells → answer ≡ room_on a.file top log.end) → IsTrue old.tells
      → answer ≡ room_on old.file top log.end
  here answer is told = is (subst IsTrue (sym so_far.same.stays.told) told)
      ∙ ap (λ file. room_on file top log.end) (so_far.same.same_file told)

  -- an entry more
  pub more_entries : {b : State} (room : ℕ) → IsRoom log.end top room
      → (IsTrue a.tells → Some room ≡ room_on a.file top log.end) → Unchanged a b → b.faults ≡ a.faults
      → EntriesSoFar at top old b (record { entries = log.entries + 1; end = log.end + room })
  more_entries room fits is same calm =
      let left = spent top log.end room so_far.fuel fits so_far.enough in
      record {
        place = record {
          behind = omega (arith, so_far.place.behind, fits.some);
          below = λ low. fits.below;
          multiple = λ whole. omega (arith, so_far.place.multiple whole, fits.whole);
        };
        fuel = left.0;
        enough = omega (arith, so_far.enough, left.1, fits.some);
        rest = λ told. so_far.rest told
            ∙ ap (λ n. walk counts n old.file top log.end log.entries) left.1
            ∙ one_more old.file top log.end log.entries room left.0 (here (Some room) is told);
        same = Unchanged-trans so_far.same same;
        calm = calm ∙ so_far.calm;
      }

  -- the end
  pub ends_here : (IsTrue a.tells → None ≡ room_on a.file top log.end) → IsTrue old.tells
      → log_end old.file top at ≡ (log.entries, log.end)
  ends_here is told = so_far.rest told
      ∙ none_more old.file top log.end log.entries so_far.fuel (here None is told)
