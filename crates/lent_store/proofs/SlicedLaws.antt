-- What a call says of a disk whose log it empties, it says of the file alone: so a begin and the steps of its
-- flush are calls on one disk.
use Rattle.std.proofs.Common.{◌≡◌, ap, arith, refl, true, ℕ, List, [], ◌∷◌, length}
use Rattle.std.specs.Prelude.{◌+◌, ◌*◌, ◌≤◌, Result, Ok, Err}
use Rattle.disk_face.specs.Moments.{Leaves}
use Rattle.disk_face.specs.States.{State}
use Rattle.disk_face.specs.Writes.{KeepsDisk}
use Rattle.size_class.specs.declared.TheConstants.{CLASSES}
use Rattle.lent_disk.specs.Disks.{lent_state}
use Rattle.lent_disk.specs.Notings.{Noting, emptied}
use Rattle.map_model.specs.Requests.{Change}
use Rattle.store_model.specs.declared.answers.Begun.{Begun}
use Rattle.store_model.specs.declared.answers.Begun.TheVariants as begun
use Rattle.store_model.specs.declared.answers.Progress.{Progress}
use Rattle.store_model.specs.declared.answers.Progress.TheVariants as progress
use Rattle.store_model.specs.declared.answers.Refusal.{Refusal}
use Rattle.store_model.specs.Begins.{AfterBegin, BeginsChange, BeginsFlush}
use Rattle.store_model.specs.Changes.{IsQuietChange, NothingChanged}
use Rattle.store_model.specs.Changing.{IsChange}
use Rattle.store_model.specs.Flushes.{names_after}
use Rattle.store_model.specs.Steps.{AfterStep, GoesOnHalf, IsStep, MakesOne, StepsHalf, SumsOfStep}
use Rattle.store_model.specs.Connection.{FlushInHand, IsConnected, StoreValue}
use Rattle.store_model.specs.Halves.{HalfAgrees, IsHalfway, Origin}
use Rattle.sliced_laws.specs.Sliced.{GoesThrough, IsSliced, Pass, Point, as_one_call, moves}
use Rattle.sliced_laws.proofs.SlicedLaws.{few_steps, sliced_change}
use Rattle.lent_store.specs.Embedded.{Embedded}
use Rattle.lent_store.specs.Sliced.{GoesBySteps, IsMadeBySteps, file_state}

-- ---- one call

-- as a call begins on it
abbrev begun_state : Noting → State
begun_state n = lent_state (emptied n)

module _ (a b : Noting) where
  leaves : {P : List ℕ → Type 0} → Leaves (begun_state a) (lent_state b) P
      → Leaves (file_state a) (file_state b) P
  leaves x = record { later = x.later; each = x.each }

  keeps : KeepsDisk (begun_state a) (lent_state b) → KeepsDisk (file_state a) (file_state b)
  keeps x = record {
    no_turn_back = x.no_turn_back;
    stays = record {
      ready = x.stays.ready;
      told = x.stays.told;
      images_told = x.stays.images_told;
      same_mount = refl;
    };
  }

half_before : {s : StoreValue} (a : Noting) (h : FlushInHand) (o : Origin)
    → HalfAgrees CLASSES s h o (file_state a) → HalfAgrees CLASSES s h o (begun_state a)
half_before a h o x = record { flies = x.flies; loose = x.loose }

module _ {t : StoreValue} (b : Noting) where
  connected : IsConnected CLASSES t (lent_state b) → IsConnected CLASSES t (file_state b)
  connected x = record { idle = x.idle; over = x.over }

  half_now : (h : FlushInHand) (o : Origin) → HalfAgrees CLASSES t h o (lent_state b)
      → HalfAgrees CLASSES t h o (file_state b)
  half_now h o x = record { flies = x.flies; loose = x.loose }

  halfway : IsHalfway CLASSES t (lent_state b) → IsHalfway CLASSES t (file_state b)
  halfway x = record {
    hand = x.hand;
    is = x.is;
    digests = x.digests;
    half = λ told. ((x.half told).0, half_now x.hand (x.half told).0 (x.half told).1);
  }

module _ (s t : StoreValue) (a b : Noting) where
  -- ---- a step

  makes : (h : FlushInHand) (r : Result Progress Refusal) → MakesOne s t h (begun_state a) (lent_state b) r
      → MakesOne s t h (file_state a) (file_state b) r
  makes h (Ok progress.Moved) x = record {
    name = x.name;
    spot = x.spot;
    place = x.place;
    there = x.there;
    now_there = x.now_there;
    row = x.row;
    saved = x.saved;
    pair = x.pair;
    kept = x.kept;
    turns = x.turns;
    left = x.left;
    in_hand = x.in_hand;
    fewer = x.fewer;
    some = x.some;
    bytes = x.bytes;
    rest = x.rest;
  }
  makes h (Ok progress.Settled) x = record { turns = x.turns; rest = x.rest }
  makes h (Err why) x = record {
    same_now = x.same_now;
    moved = x.moved;
    asked = x.asked;
    same_block = x.same_block;
    later = x.later;
    one = x.one;
    turns = x.turns;
    idle = x.idle;
  }

  sums : (h : FlushInHand) (r : Result Progress Refusal) → SumsOfStep s t h (begun_state a) (lent_state b) r
      → SumsOfStep s t h (file_state a) (file_state b) r
  sums h r x = record { few_saves = x.few_saves; lower = x.lower; few = x.few; calls = x.calls }

  goes_on : (o : Origin) (h : FlushInHand) (r : Result Progress Refusal)
      → GoesOnHalf CLASSES o h t (lent_state b) r → GoesOnHalf CLASSES o h t (file_state b) r
  goes_on o h (Ok progress.Moved) x = λ left is. half_now b (record h { left = left }) o (x left is)
  goes_on o h (Ok progress.Settled) x = x
  goes_on o h (Err why) x = tt

  steps : (o : Origin) (r : Result Progress Refusal)
      → StepsHalf CLASSES o s t (begun_state a) (lent_state b) r
      → StepsHalf CLASSES o s t (file_state a) (file_state b) r
  steps o r x = record {
    hand = x.hand;
    is = x.is;
    left = λ rest. leaves a b (x.left rest);
    content = x.content;
    on = goes_on o x.hand r x.on;
  }

  after_step : (r : Result Progress Refusal) → AfterStep CLASSES t (lent_state b) r
      → AfterStep CLASSES t (file_state b) r
  after_step (Ok progress.Moved) x = halfway b x
  after_step (Ok progress.Settled) x = connected b x
  after_step (Err why) x = connected b x

  pub step_there : (r : Result Progress Refusal) → IsStep CLASSES s t (begun_state a) (lent_state b) r
      → IsStep CLASSES s t (file_state a) (file_state b) r
  step_there r x = record {
    answer = x.answer;
    more = x.more;
    makes = λ h is. makes h r (x.makes h is);
    sums = λ h is. sums h r (x.sums h is);
    half = λ told h o is agrees. steps o r (x.half told h o is (half_before a h o agrees));
    over = after_step r x.over;
    broken = x.broken;
    frame = keeps a b x.frame;
    cause = x.cause;
  }

  -- ---- a begin

  nothing : NothingChanged s t (begun_state a) (lent_state b)
      → NothingChanged s t (file_state a) (file_state b)
  nothing x = record {
    same_store = x.same_store;
    same_disk = record {
      same_file = x.same_disk.same_file;
      images = x.same_disk.images;
      since = leaves a b x.same_disk.since;
      same_turn = x.same_disk.same_turn;
      later = x.same_disk.later;
      stays = record {
        ready = x.same_disk.stays.ready;
        told = x.same_disk.stays.told;
        images_told = x.same_disk.stays.images_told;
        same_mount = refl;
      };
      asks = record {
        weight = omega (arith, x.same_disk.asks.weight);
        longest = omega (arith, x.same_disk.asks.longest);
      };
    };
    same_faults = x.same_faults;
  }

  quiet : (c : Change) (r : Result Begun Refusal)
      → IsQuietChange CLASSES c s t (begun_state a) (lent_state b) r
      → IsQuietChange CLASSES c s t (file_state a) (file_state b) r
  quiet c r x = record {
    value = x.value;
    content = x.content;
    length = x.length;
    sequence = x.sequence;
    rests = x.rests;
    left = λ told rest. leaves a b (x.left told rest);
    calls = record { all = x.calls.all; most = x.calls.most; cause = x.calls.cause };
    frame = keeps a b x.frame;
  }

  flush : (c : Change) (r : Result Begun Refusal)
      → BeginsFlush CLASSES c s t (begun_state a) (lent_state b) r
      → BeginsFlush CLASSES c s t (file_state a) (file_state b) r
  flush c r x = record {
    holds = x.holds;
    half = λ told rests if h is. half_now b h _ (x.half told rests if h is);
    content = x.content;
    left = λ told rest. leaves a b (x.left told rest);
    moved = x.moved;
    pair = x.pair;
    calls = x.calls;
    frame = keeps a b x.frame;
    cause = x.cause;
  }

  after_begin : (r : Result Begun Refusal) → AfterBegin CLASSES t (lent_state b) r
      → AfterBegin CLASSES t (file_state b) r
  after_begin (Ok begun.InHand) x = halfway b x
  after_begin (Ok begun.Done) x = connected b x
  after_begin (Err why) x = connected b x

  pub begin_there : (c : Change) (r : Result Begun Refusal)
      → BeginsChange CLASSES c s t (begun_state a) (lent_state b) r
      → BeginsChange CLASSES c s t (file_state a) (file_state b) r
  begin_there c r x = record {
    answer = x.answer;
    refused = λ some. nothing (x.refused some);
    quiet = λ none is. quiet c r (x.quiet none is);
    flush = λ none is. flush c r (x.flush none is);
    over = after_begin r x.over;
    broken = x.broken;
  }

-- ---- one after another

abbrev point : Embedded → Point Noting
point e = record { store = e.store; disk = e.noting }

abbrev passes : List Embedded → List (Pass Noting)
passes [] = []
passes (next ∷ rest) = record { is_step = true; after = point next } ∷ passes rest

goes_through : (a b : Embedded) (moved : List Embedded) → GoesBySteps a moved b
    → GoesThrough file_state CLASSES (point a) (passes moved) (point b)
goes_through a b [] is = ap point is
goes_through a b (next ∷ rest) (step, is) =
    (step_there a.store next.store a.noting next.noting (Ok progress.Moved) step, goes_through next b rest is)

as_many : (moved : List Embedded) → moves (passes moved) ≡ length moved
as_many [] = refl
as_many (next ∷ rest) = omega (arith, as_many rest)

module _ (c : Change) (old new : Embedded) (result : Result Progress Refusal)
    (x : IsMadeBySteps c old new result) where
  abbrev sliced : IsSliced file_state CLASSES c old.store new.store old.noting new.noting result
  sliced = record {
    over = record { idle = x.over.idle; over = x.over.over };
    sound = x.sound;
    first = point x.first;
    begins = begin_there old.store x.first.store old.noting x.first.noting c (Ok begun.InHand) x.begins;
    passes = passes x.moved;
    last = point x.last;
    goes = goes_through x.first x.last x.moved x.goes;
    ends = step_there x.last.store new.store x.last.noting new.noting result x.ends;
    is_end = x.is_end;
  }

  pub made_change : IsChange CLASSES c old.store new.store (file_state old.noting) (file_state new.noting)
      (as_one_call result)
  made_change = sliced_change file_state c old.store new.store old.noting new.noting result sliced

  pub made_steps : length x.moved + 1 ≤ 2 * names_after old.store c + 1
  made_steps =
      let few : moves (passes x.moved) + 1 ≤ 2 * names_after old.store c + 1 =
      few_steps file_state c old.store new.store old.noting new.noting result sliced in
      omega (arith, as_many x.moved, few)
