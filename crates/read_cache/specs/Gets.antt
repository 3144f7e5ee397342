-- What a get makes of the list.
use Rattle.std.specs.Prelude.{◌≡◌, ℕ, Bool, true, false, ◌&&◌, if◌then◌else◌, List, is_some, length, Result, Ok, Err}
use Rattle.store_model.specs.declared.answers.Refusal.{Refusal}
use Rattle.store_model.specs.declared.answers.Refusal.TheVariants as why
use Rattle.read_cache.specs.declared.got.Got.{Got}
use Rattle.read_cache.specs.Lists.{Listing, after_get, after_hit, listed}

-- the answer of a get as the store gives it
abbrev pub size_got : Result Got Refusal → Result ℕ Refusal
size_got (Ok got) = Ok got.size
size_got (Err refused) = Err refused

abbrev pub is_sink : Refusal → Bool
is_sink why.Sink = true
is_sink why.Broken = false
is_sink why.BadName = false
is_sink why.TooLong = false
is_sink why.Missing = false
is_sink why.TooMany = false
is_sink why.Damaged = false
is_sink why.Full = false
is_sink why.Worn = false
is_sink why.Disk = false

-- The list after a get that put bytes, as many as it says: those of the object, where the disk tells its
-- content. It says whether the name was listed, and whether it is now.
pub record HasListed (told : Type 0) (name object : List ℕ) (old new : Listing) (got : Got) : Type 0 where
  pub bytes : List ℕ
  pub dropped : Bool
  pub long : length bytes ≡ got.size
  pub same : told → bytes ≡ object
  pub list : new ≡ after_get dropped name bytes old
  pub hit : got.hit ≡ is_some (listed old name)
  pub cached : got.cached ≡ is_some (listed new name)

-- After any get: one that isn't answered leaves the list, but that of a listed name, whose bytes the sink
-- didn't take, was a hit.
abbrev pub ListsGet : Type 0 → List ℕ → List ℕ → Listing → Listing → Result Got Refusal → Type 0
ListsGet told name object old new (Ok got) = HasListed told name object old new got
ListsGet told name object old new (Err refused) =
    new ≡ (if is_sink refused && is_some (listed old name) then after_hit name old else old)
