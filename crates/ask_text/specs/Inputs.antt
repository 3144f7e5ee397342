-- The texts of requests, and an input that is texts of requests one after another.
use Rattle.std.specs.Prelude.{◌≡◌, ℕ, List, [], ◌++◌, flat_map, codes, Option, Some, None}
use Rattle.std.specs.List.{AllByRecursion}
use Rattle.map_model.specs.Requests.{Request}
use Rattle.map_model.specs.Requests as request
use Rattle.ask_text.specs.Asks.{IsAsk, ask_of, line_of}

-- the object of a put, and a newline; nothing of a del
abbrev pub change_body : Option (List ℕ) → List ℕ
change_body None = []
change_body (Some object) = object ++ codes "\n"

-- what follows the line of a request
abbrev pub body_of : Request → List ℕ
body_of (request.change c) = change_body c.object
body_of _ = []

abbrev pub request_text : Request → List ℕ
request_text r = line_of (ask_of r) ++ codes "\n" ++ body_of r

-- a request that has a text
abbrev pub HasText : Request → Type 0
HasText r = IsAsk (ask_of r)

-- no request's text stands in front
abbrev pub BeginsNone : List ℕ → Type 0
BeginsNone input = (r : Request) (rest : List ℕ) → HasText r → input ≡ request_text r ++ rest → ⊥

-- the input is the texts of these requests, and then what begins with none
pub record Asks (input : List ℕ) (requests : List Request) (end : List ℕ) : Type 0 where
  pub whole : input ≡ flat_map request_text requests ++ end
  pub each : AllByRecursion HasText requests
  pub ended : BeginsNone end
