-- The list of a cache: pairs of a name and the bytes of its object, the most recently used first; and what a
-- request that was answered does to it.
use Rattle.std.specs.Prelude.{ℕ, ◌-◌, nat_eq, nat_lt, Bool, if◌then◌else◌, List, [], ◌∷◌, length, take, is_some, Option}
use Rattle.std.specs.Cmp.Lexicographic.{pointwise}
use Rattle.std.specs.Map.{lookup, remove_entry}
use Rattle.lru.specs.LruCache.{promoted}
use Rattle.disk_face.specs.Counts.{counted}
use Rattle.map_model.specs.Requests as ask
use Rattle.map_model.specs.Requests.{Reply, Request}

abbrev pub Pair : Type 0
Pair = List ℕ × List ℕ

-- The pairs, how many there may be, and what was counted: gets of what was listed, gets of what wasn't, and
-- those of the latter that left the list as it was for want of memory.
pub record Listing : Type 0 where
  pub pairs : List Pair
  pub room : ℕ
  pub hits : ℕ
  pub misses : ℕ
  pub drops : ℕ

-- objects of at most so many bytes are listed
abbrev pub longest : ℕ
longest = 4096

abbrev pub empty_listing : ℕ → Listing
empty_listing room = record { pairs = []; room = room; hits = 0; misses = 0; drops = 0 }

abbrev pub is_name : List ℕ → List ℕ → Bool
is_name name other = pointwise nat_eq name other

-- what is listed under a name
abbrev pub listed : Listing → List ℕ → Option (List ℕ)
listed l name = lookup (is_name name) l.pairs

-- ---- what is done to it

-- a hit: the name's pair goes to the front
abbrev pub after_hit : List ℕ → Listing → Listing
after_hit name l = record l { pairs = promoted (is_name name) l.pairs; hits = counted l.hits 1 }

-- a pair goes in front, and where the list is full its last goes out
abbrev pub with_front : List ℕ → List ℕ → Listing → Listing
with_front name object l = record l { pairs = (name, object) ∷ take (l.room - 1) l.pairs }

-- a miss
abbrev pub after_miss : List ℕ → List ℕ → Listing → Listing
after_miss name object l = record (with_front name object l) { misses = counted l.misses 1 }

-- a drop: a miss for which there is no memory
abbrev pub after_drop : Listing → Listing
after_drop l = record l { misses = counted l.misses 1; drops = counted l.drops 1 }

-- the pair of a name goes out
abbrev pub without : List ℕ → Listing → Listing
without name l = record l { pairs = remove_entry (is_name name) l.pairs }

abbrev pub emptied : Listing → Listing
emptied l = record l { pairs = [] }

-- after a get that was answered with an object; a miss is a drop where it says so
abbrev pub after_get : Bool → List ℕ → List ℕ → Listing → Listing
after_get dropped name object l =
    if is_some (listed l name) then after_hit name l
    else if nat_lt longest (length object) then l
    else if dropped then after_drop l
    else after_miss name object l

-- after any request that was answered so
abbrev pub after : Bool → Request → Reply → Listing → Listing
after dropped (ask.get name) (ask.found object) l = after_get dropped name object l
after dropped (ask.change c) ask.done l = without c.name l
after dropped (ask.change c) ask.kept l = without c.name l
after dropped ask.back ask.done l = emptied l
after dropped _ reply l = l

-- after requests one after another, with what each was answered and whether it would be a drop
abbrev pub after_all : List Bool → List Request → List Reply → Listing → Listing
after_all (dropped ∷ drops) (r ∷ requests) (reply ∷ replies) l =
    after_all drops requests replies (after dropped r reply l)
after_all [] requests replies l = l
after_all (dropped ∷ drops) [] replies l = l
after_all (dropped ∷ drops) (r ∷ requests) [] l = l
