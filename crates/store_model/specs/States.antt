-- What a store replies to a request, and what it becomes.
use Rattle.std.specs.Prelude.{◌≡◌, ℕ, ◌+◌, ◌*◌, ◌^◌, ◌≤◌, nat_lt, nat_le, Bool, not, ◌&&◌, if◌then◌else◌, List, [], ◌∷◌, ◌++◌, length, map, Option, Some, None}
use Rattle.std.specs.FinMap as fin
use Rattle.slot_codec.specs.Names.{is_name}
use Rattle.slot_codec.specs.Spelling.{cap}
use Rattle.map_model.specs.Maps.{Map, volume}
use Rattle.map_model.specs.Requests as ask
use Rattle.map_model.specs.Requests.{Request, Reply, Refused, Change, changed}
use Rattle.segment_layout.specs.Books.{Book, is_damaged, next_book, version_of}

-- what is fixed for a store: the divisor, how many names its slots have room for in version 1, the greatest
-- size of an object
pub record Limits : Type 0 where
  pub k : ℕ
  pub names : ℕ
  pub size_max : ℕ

pub record State : Type 0 where
  pub map : Map
  pub kept : Map
  pub book : Book
  pub kept_book : Book
  pub sequence : ℕ

-- the first test that is true gives the refusal
abbrev pub first_refusal : List (Bool × Refused) → Option Refused
first_refusal [] = None
first_refusal (test ∷ tests) = if test.0 then Some test.1 else first_refusal tests

abbrev pub refused_from : ℕ
refused_from = 2 ^ 61

-- What a refusal depends on: whether the name is in the map and in the kept map, how many names
-- the map has, the version of its book, by which it is full, and the sequence.
pub record Facts : Type 0 where
  pub is_live : Bool
  pub is_kept : Bool
  pub count : ℕ
  pub version : ℕ
  pub sequence : ℕ

abbrev pub object_tests : Limits → Facts → Option (List ℕ) → List (Bool × Refused)
object_tests limits f None = (not f.is_live, ask.missing) ∷ []
object_tests limits f (Some object) =
    (nat_lt limits.size_max (length object), ask.too_long) ∷
    (not f.is_live && nat_le (cap limits.names f.version) f.count, ask.full) ∷ []

abbrev pub worn_test : Facts → List (Bool × Refused)
worn_test f = (nat_le refused_from f.sequence, ask.worn) ∷ []

abbrev pub name_test : List ℕ → List (Bool × Refused)
name_test name = (not (is_name name), ask.bad_name) ∷ []

abbrev pub refusal : Limits → Facts → Request → Option Refused
refusal limits f (ask.change c) = first_refusal
    (name_test c.name ++ object_tests limits f c.object ++ worn_test f)
refusal limits f (ask.get name) = first_refusal (name_test name ++ (not f.is_live, ask.missing) ∷ [])
refusal limits f (ask.old name) = first_refusal (name_test name ++ (not f.is_kept, ask.missing) ∷ [])
refusal limits f ask.keep = first_refusal (worn_test f)
refusal limits f _ = None

-- the name that a request is about
abbrev pub name_of : Request → List ℕ
name_of (ask.change c) = c.name
name_of (ask.get name) = name
name_of (ask.old name) = name
name_of _ = []

abbrev pub facts_of : State → Request → Facts
facts_of s r = record {
  is_live = fin.contains_key s.map (name_of r);
  is_kept = fin.contains_key s.kept (name_of r);
  count = fin.len s.map;
  version = version_of s.book;
  sequence = s.sequence;
}

-- how many checkpoints an accepted request makes: at least, and at most
pub record Saves : Type 0 where
  pub least : ℕ
  pub most : ℕ

abbrev pub no_saves : Saves
no_saves = record { least = 0; most = 0 }

-- What a request is answered, what it leaves but for the sequence, and its checkpoints.
pub record Served : Type 0 where
  pub reply : Reply
  pub state : State
  pub saves : Saves

abbrev pub unchanged : State → Reply → Served
unchanged s reply = record { reply = reply; state = s; saves = no_saves }

abbrev pub object_in : Map → List ℕ → List ℕ
object_in m name = bytes (fin.get m name)
  where
    bytes : Option (List ℕ) → List ℕ
    bytes None = []
    bytes (Some object) = object

-- the reply to a read: the object of a name, or that the book has another digest for it
abbrev pub reads_as : Book → Map → List ℕ → Reply
reads_as book m name = if is_damaged book m name then ask.refused ask.damaged
    else ask.found (object_in m name)

abbrev pub served_change : Limits → State → Change → Served
served_change limits s c =
    let next = next_book limits.k s.map s.book c in
    let m = changed c s.map in
    if next.quiet then record {
      reply = ask.done;
      state = record s { map = m; book = next.book };
      saves = no_saves;
    }
    else record {
      reply = ask.kept;
      state =
          record s { map = m; kept = m; book = next.book; kept_book = next.book };
      saves = record { least = 1; most = 2 * limits.k + 1 };
    }

abbrev pub accepted : Limits → State → Request → Served
accepted limits s (ask.change c) = served_change limits s c
accepted limits s (ask.get name) = unchanged s (reads_as s.book s.map name)
accepted limits s (ask.old name) = unchanged s (reads_as s.kept_book s.kept name)
accepted limits s ask.keep = record {
  reply = ask.kept;
  state = record s { kept = s.map; kept_book = s.book };
  saves = record { least = 1; most = 1 };
}
accepted limits s ask.back = record {
  reply = ask.done;
  state = record s { map = s.kept; book = s.kept_book };
  saves = no_saves;
}
accepted limits s ask.list = unchanged s (ask.listed (map (λ e. (e.0, length e.1)) (fin.entries s.map)))
accepted limits s ask.stat = unchanged s
    (ask.counts (fin.len s.map) (volume s.map) (fin.len s.kept) (volume s.kept))

abbrev pub served : Limits → State → Request → Served
served limits s r = by (refusal limits (facts_of s r) r)
  where
    by : Option Refused → Served
    by None = accepted limits s r
    by (Some why) = unchanged s (ask.refused why)

-- A step: the reply and the new state are the ones determined, but for how far the sequence rises.
pub record Step (limits : Limits) (s : State) (r : Request) (reply : Reply) (s' : State) : Type 0 where
  pub replied : reply ≡ (served limits s r).reply
  pub state : s' ≡ record (served limits s r).state { sequence = s'.sequence }
  pub low : s.sequence + (served limits s r).saves.least ≤ s'.sequence
  pub high : s'.sequence ≤ s.sequence + (served limits s r).saves.most

-- one step after another
abbrev pub Run : Limits → State → List Request → List Reply → State → Type 0
Run limits s [] [] s' = s' ≡ s
Run limits s (r ∷ rs) (reply ∷ replies) s' = (mid : State) × Step limits s r reply mid
    × Run limits mid rs replies s'
Run limits s [] (reply ∷ replies) s' = ⊥
Run limits s (r ∷ rs) [] s' = ⊥

-- one step after another, with the state after each
abbrev pub Chain : Limits → State → List Request → List Reply → List State → Type 0
Chain limits s [] [] [] = Unit {0}
Chain limits s (r ∷ rs) (reply ∷ replies) (t ∷ states) = Step limits s r reply t
    × Chain limits t rs replies states
Chain limits s [] [] (t ∷ states) = ⊥
Chain limits s [] (reply ∷ replies) states = ⊥
Chain limits s (r ∷ rs) [] states = ⊥
Chain limits s (r ∷ rs) (reply ∷ replies) [] = ⊥
