-- A worked list: of three names with objects of 3 bytes the last two that were got are listed.
use Rattle.std.specs.Prelude.{ℕ, Bool, false, List, [], ◌∷◌, codes, Some}
use Rattle.map_model.specs.Requests as ask
use Rattle.map_model.specs.Requests.{Reply, Request}
use Rattle.read_cache.specs.Lists.{Listing}

-- gets of a, b, a, c, b and a, then a put of a, and two gets of it
abbrev pub nine_requests : List Request
nine_requests = ask.get (codes "a") ∷ ask.get (codes "b") ∷ ask.get (codes "a") ∷ ask.get (codes "c")
    ∷ ask.get (codes "b") ∷ ask.get (codes "a")
    ∷ ask.change (record { name = codes "a"; object = Some (codes "uvw") })
    ∷ ask.get (codes "a") ∷ ask.get (codes "a") ∷ []

abbrev pub nine_replies : List Reply
nine_replies = ask.found (codes "xyz") ∷ ask.found (codes "pqr") ∷ ask.found (codes "xyz")
    ∷ ask.found (codes "klm") ∷ ask.found (codes "pqr") ∷ ask.found (codes "xyz") ∷ ask.done
    ∷ ask.found (codes "uvw") ∷ ask.found (codes "uvw") ∷ []

-- none of them a drop
abbrev pub nine_listed : List Bool
nine_listed = false ∷ false ∷ false ∷ false ∷ false ∷ false ∷ false ∷ false ∷ false ∷ []

-- what is listed then
abbrev pub a_and_b : Listing
a_and_b = record {
  pairs = (codes "a", codes "uvw") ∷ (codes "b", codes "pqr") ∷ [];
  room = 2;
  hits = 2;
  misses = 6;
  drops = 0;
}
