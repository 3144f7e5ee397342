-- What a cache has, as its contracts see it.
use Rattle.store_model.specs.Connection.{StoreValue}
use Rattle.read_cache.specs.Lists.{Listing}

-- The store behind it, and its list.
pub record CacheValue : Type 0 where
  pub store : StoreValue
  pub list : Listing
