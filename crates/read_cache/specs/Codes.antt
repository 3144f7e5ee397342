-- How the values of a list and of a cache are stored: as the tuples of their parts.
use Rattle.std.specs.Prelude.{ℕ, List, refl}
use Rattle.std.specs.Coded.{Coded, code_by, coded×, coded_list, coded_ℕ}
use Rattle.store_model.specs.Codes.{kept_code}
use Rattle.store_model.specs.Connection.{StoreValue}
use Rattle.read_cache.specs.Lists.{Listing, Pair}
use Rattle.read_cache.specs.CacheValues.{CacheValue}

abbrev pub listing_code : Coded Listing
listing_code = code_by (List Pair × (ℕ × (ℕ × (ℕ × ℕ))))
    (coded× (coded_list (coded× (coded_list coded_ℕ) (coded_list coded_ℕ)))
    (coded× coded_ℕ (coded× coded_ℕ (coded× coded_ℕ coded_ℕ))))
    (λ l. (l.pairs, (l.room, (l.hits, (l.misses, l.drops)))))
    (λ p. record {
      pairs = p.0;
      room = p.1.0;
      hits = p.1.1.0;
      misses = p.1.1.1.0;
      drops = p.1.1.1.1;
    }) (λ _. refl)

abbrev pub cache_code : Coded CacheValue
cache_code = code_by (StoreValue × Listing) (coded× kept_code listing_code) (λ c. (c.store, c.list))
    (λ p. record { store = p.0; list = p.1 }) (λ _. refl)
