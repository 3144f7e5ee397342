-- What is asked of a store, and what it replies.
use Rattle.std.specs.Prelude.{ℕ, List, Option, Some, None}
use Rattle.std.specs.FinMap as fin
use Rattle.map_model.specs.Maps.{Map}

-- A put or a del of a name: the new object, or none.
pub record Change : Type 0 where
  pub name : List ℕ
  pub object : Option (List ℕ)

pub data Request : Type 0 where
  change : Change → Request
  get : List ℕ → Request
  old : List ℕ → Request
  keep : Request
  back : Request
  list : Request
  stat : Request

pub data Refused : Type 0 where
  bad_name : Refused
  too_long : Refused
  missing : Refused
  damaged : Refused
  full : Refused
  worn : Refused

pub data Reply : Type 0 where
  done : Reply
  kept : Reply
  found : List ℕ → Reply
  refused : Refused → Reply
  -- each name with the size of its object
  listed : List (List ℕ × ℕ) → Reply
  -- names and bytes of the map, and of the kept map
  counts : ℕ → ℕ → ℕ → ℕ → Reply

-- the map after a put or a del
abbrev pub changed : Change → Map → Map
changed c m = set c.object
  where
    set : Option (List ℕ) → Map
    set None = fin.remove m c.name
    set (Some object) = fin.insert m c.name object

-- the map after a request that is accepted
abbrev pub after : Request → Map → Map → Map
after (change c) m saved = changed c m
after back m saved = saved
after _ m saved = m
