-- What a cache's contracts see of its fields.
use Rattle.std.specs.Prelude.{◌≡◌, ℕ, None}
use Rattle.read_cache.specs.declared.cached.Cached.TheInside.{Inside}
use Rattle.read_cache.specs.CacheValues.{CacheValue}

abbrev pub cache_of : {C : ℕ} → Inside C → CacheValue
cache_of s = record { store = s.store; list = s.recent }

-- no flush of its store is in hand
abbrev pub IsIdleIn : {C : ℕ} → Inside C → Type 0
IsIdleIn s = (cache_of s).store.in_hand ≡ None
