-- The book of a map: its segments, what its buffers have taken, which names stand in buffers, and in version
-- 2 the digests of its objects.
use Rattle.std.specs.Prelude.{ℕ, ◌==◌, nat_lt, min, Bool, true, false, ◌&&◌, if◌then◌else◌, List, [], ◌∷◌, ◌++◌, length, map, filter, fold, drop, ◌-◌, sum_by, not, bytes_eq, Option, Some, None, option_map}
use Rattle.std.specs.List.{list_all}
use Rattle.std.specs.FinMap as fin
use Rattle.std.specs.FinSet as set
use Rattle.sha2.specs.Sha256.{sha256}
use Rattle.byte_ranges.specs.Lists.{below}
use Rattle.size_class.specs.Classes.{width, class_of, zero_row, zero_grid}
use Rattle.map_model.specs.Maps.{Map, name_cmp}
use Rattle.map_model.specs.Requests.{Change, changed}
use Rattle.segment_layout.specs.Shapes.{end_of, buffer_for, with_entry, boundary_of, settled_caps, settled_grid}

-- Digests are there in version 2 alone: one for each name, the SHA-256 of its object as it was put.
pub record Book : Type 0 where
  pub caps : List ℕ
  pub grid : List (List ℕ)
  pub buffered : set.FinSet name_cmp
  pub digests : Option Map

abbrev pub empty_book : Book
empty_book = record { caps = zero_row; grid = zero_grid; buffered = set.empty; digests = None }

-- the version of the tables that have a book
abbrev pub version_of : Book → ℕ
version_of book = of book.digests
  where
    of : Option Map → ℕ
    of None = 1
    of (Some digests) = 2

-- the same book with these digests
abbrev pub with_digests : Option Map → Book → Book
with_digests digests book = record book { digests = digests }

-- the digests of all objects of a map
abbrev pub digests_of : Map → Map
digests_of m = fin.from_sorted (map (λ e. (e.0, sha256 e.1)) (fin.entries m))

-- what a change does to digests: a put gives its name the SHA-256 of its object, a del takes the name's out
abbrev pub digests_after : Change → Option Map → Option Map
digests_after c digests =
    option_map (changed (record { name = c.name; object = option_map sha256 c.object })) digests

-- a digest isn't that of an object
abbrev pub differs : Option (List ℕ) → Option (List ℕ) → Bool
differs (Some digest) (Some object) = not (bytes_eq digest (sha256 object))
differs _ _ = false

-- the book has a digest for a name that isn't the SHA-256 of its object
abbrev pub is_damaged : Book → Map → List ℕ → Bool
is_damaged book m name = of book.digests
  where
    of : Option Map → Bool
    of None = false
    of (Some digests) = differs (fin.get digests name) (fin.get m name)

-- where its layout ends
abbrev pub book_end : ℕ → Book → ℕ
book_end k book = end_of k book.caps

-- a size of at least 1 has a class
abbrev pub is_of_class : ℕ → ℕ → Bool
is_of_class c size = nat_lt 0 size && (class_of size == c)

-- for each class, how many bytes the objects of the class have
unfoldable pub volumes_of_sizes : List ℕ → List ℕ
volumes_of_sizes sizes = map (λ c. sum_by (λ size. size) (filter (is_of_class c) sizes)) (below width)

abbrev pub volumes : Map → List ℕ
volumes m = volumes_of_sizes (map length (fin.values m))

abbrev pub some_size : ℕ → List ℕ
some_size size = if nat_lt 0 size then size ∷ [] else []

abbrev pub item_of : Option (List ℕ) → List ℕ
item_of None = []
item_of (Some object) = some_size (length object)

-- what a change has to charge: the old object where it stands in a payload segment, and then the new one
abbrev pub old_item : Map → Book → List ℕ → List ℕ
old_item m book name = if set.contains book.buffered name then [] else item_of (fin.get m name)

abbrev pub new_item : Change → List ℕ
new_item c = item_of c.object

-- Items are charged in turn. What it leaves: the grid, and of each item its size and whether it found room.
pub record Charged : Type 0 where
  pub grid : List (List ℕ)
  pub tried : List (ℕ × Bool)

-- what an item leaves, by the buffer that it found
abbrev pub entered_at : Charged → ℕ → Option ℕ → Charged
entered_at done size (Some j) = record {
  grid = with_entry done.grid j (class_of size) size;
  tried = done.tried ++ (size, true) ∷ [];
}
entered_at done size None = record { grid = done.grid; tried = done.tried ++ (size, false) ∷ [] }

abbrev pub charge_one : ℕ → List ℕ → Charged → ℕ → Charged
charge_one k caps done size = entered_at done size (buffer_for k caps done.grid (class_of size) size)

abbrev pub charge_all : ℕ → List ℕ → List (List ℕ) → List ℕ → Charged
charge_all k caps grid sizes = fold (charge_one k caps) (record { grid = grid; tried = [] }) sizes

-- each item found room
abbrev pub is_quiet : Charged → Bool
is_quiet charged = list_all (λ item. item.1) charged.tried

-- the least class of the items that found no room
abbrev pub trigger : Charged → ℕ
trigger charged = fold (λ least item. if item.1 then least else min least (class_of item.0)) (width - 1)
    charged.tried

-- What items do to a layout: whether each found room, and else from which class on it is laid out anew.
pub record Reshaped : Type 0 where
  pub quiet : Bool
  pub boundary : ℕ
  pub caps : List ℕ
  pub grid : List (List ℕ)

-- the layout after items are charged, by the volumes of the map after the change
abbrev pub reshaped : ℕ → List ℕ → Charged → List ℕ → Reshaped
reshaped k caps charged after =
    let b = boundary_of charged.grid (trigger charged) in
    let q = is_quiet charged in
    record {
      quiet = q;
      boundary = b;
      caps = if q then caps else settled_caps b caps after;
      grid = if q then charged.grid else settled_grid b charged.grid;
    }

-- what a change charges, from a map and its book
abbrev pub charge_change : ℕ → Map → Book → Change → Charged
charge_change k m book c = charge_all k book.caps book.grid (old_item m book c.name ++ new_item c)

-- each of the last items found room, and there is one
abbrev pub found_room : List ℕ → List (ℕ × Bool) → Bool
found_room [] tried = false
found_room (size ∷ sizes) tried = list_all (λ item. item.1) tried

-- the new object found room in a buffer
abbrev pub is_new_buffered : Change → Charged → Bool
is_new_buffered c charged = found_room (new_item c)
    (drop (length charged.tried - length (new_item c)) charged.tried)

-- the names that stand in buffers after a change, before any flush
abbrev pub buffered_after : Book → Change → Charged → set.FinSet name_cmp
buffered_after book c charged =
    let rest = set.remove book.buffered c.name in
    if is_new_buffered c charged then set.insert rest c.name else rest

-- an object is of a class below b
abbrev pub is_below_class : ℕ → Option (List ℕ) → Bool
is_below_class b None = false
is_below_class b (Some object) = nat_lt (class_of (length object)) b

-- the names of a set whose objects are of a class below b
abbrev pub below_class : ℕ → Map → set.FinSet name_cmp → set.FinSet name_cmp
below_class b m names = set.retain names (λ name. is_below_class b (fin.get m name))

-- What a change does to a book: whether it is quiet, and else from which class on the flush lays out anew.
pub record Next : Type 0 where
  pub quiet : Bool
  pub boundary : ℕ
  pub book : Book

unfoldable pub next_book : ℕ → Map → Book → Change → Next
next_book k m book c =
    let charged = charge_change k m book c in
    let shape = reshaped k book.caps charged (volumes (changed c m)) in
    let names = buffered_after book c charged in
    record {
      quiet = shape.quiet;
      boundary = shape.boundary;
      book = record {
        caps = shape.caps;
        grid = shape.grid;
        buffered = if shape.quiet then names else below_class shape.boundary (changed c m) names;
        digests = digests_after c book.digests;
      };
    }

-- the map and the book after changes one after another
abbrev pub map_after : Map → List Change → Map
map_after m [] = m
map_after m (c ∷ cs) = map_after (changed c m) cs

abbrev pub book_after : ℕ → Map → Book → List Change → Book
book_after k m book [] = book
book_after k m book (c ∷ cs) = book_after k (changed c m) (next_book k m book c).book cs

-- a set of names
abbrev pub Names : Type 0
Names = set.FinSet name_cmp
