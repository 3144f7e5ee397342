-- What waits at a desk, as its contracts see it.
use Rattle.std.specs.Prelude.{◌≡◌, ℕ, ◌<◌, ◌≤◌, List, [], ◌∷◌, length, take, slice_index_or, Option, Some, None, refl}
use Rattle.std.specs.List.{AllByRecursion}
use Rattle.std.specs.Coded.{Coded, code_by, coded×, coded_ℕ, coded_list}
use Rattle.map_model.specs.Requests.{Request}
use Rattle.map_model.specs.Requests as ask
use Rattle.ask_text.specs.Inputs.{HasText, request_text}
use Rattle.desk_model.specs.Events.{sessions}
use Rattle.desk_model.specs.Desks.{ring, texts_of, waiting}

-- The bytes of each session's ring, and how many requests wait in all.
pub record Queued : Type 0 where
  pub rings : List (List ℕ)
  pub count : ℕ

-- how it is stored: as the pair of its parts
abbrev pub queued_code : Coded Queued
queued_code = code_by (List (List ℕ) × ℕ) (coded× (coded_list (coded_list coded_ℕ)) coded_ℕ)
    (λ q. (q.rings, q.count)) (λ p. record { rings = p.0; count = p.1 }) (λ _. refl)

abbrev pub ring_of : Queued → ℕ → List ℕ
ring_of v s = slice_index_or v.rings s []

-- the requests of one session
abbrev pub requests_at : List (List Request) → ℕ → List Request
requests_at qs s = slice_index_or qs s []

-- nothing waits
abbrev pub no_requests : List (List Request)
no_requests = [] ∷ [] ∷ [] ∷ [] ∷ [] ∷ [] ∷ [] ∷ [] ∷ []

-- the bytes are the text of a request
abbrev pub IsText : List ℕ → Type 0
IsText text = (r : Request) × HasText r × (text ≡ request_text r)

-- a ring has the texts of these requests, one behind the other, and no more bytes than it may
pub record HoldsTexts (bytes : List ℕ) (q : List Request) : Type 0 where
  pub texts : bytes ≡ texts_of q
  pub each : AllByRecursion HasText q
  pub short : length bytes ≤ ring

-- what waits is these requests, by session, and they are counted
pub record Holds (v : Queued) (qs : List (List Request)) : Type 0 where
  pub rings : length v.rings ≡ sessions
  pub queues : length qs ≡ sessions
  pub each : (s : ℕ) → s < sessions → HoldsTexts (ring_of v s) (requests_at qs s)
  pub counted : v.count ≡ waiting qs

-- the new object of a change stands in front of a buffer, if there is one
abbrev pub ObjectIn : List ℕ → Option (List ℕ) → Type 0
ObjectIn body None = Unit {0}
ObjectIn body (Some object) = take (length object) body ≡ object

-- the object of a put stands in front of a buffer
abbrev pub StandsIn : List ℕ → Request → Type 0
StandsIn body (ask.change c) = ObjectIn body c.object
StandsIn body _ = Unit {0}
