-- What stands in front of a ring.
use Rattle.std.specs.Prelude.{◌≡◌, ℕ, ◌≤◌, List, ◌∷◌, ◌++◌, length}
use Rattle.std.specs.List.{AllByRecursion}
use Rattle.map_model.specs.Requests.{Request}
use Rattle.ask_text.specs.Inputs.{HasText, request_text}

-- the byte doesn't stand in the list
abbrev pub Lacks : ℕ → List ℕ → Type 0
Lacks c xs = AllByRecursion (λ x. x ≡ c → ⊥) xs

-- a line of at most 270 bytes and its newline stand in front
abbrev pub BeginsLine : List ℕ → Type 0
BeginsLine bytes = (line rest : List ℕ) × Lacks 10 line × (length line ≤ 270) × (bytes ≡ line ++ 10 ∷ rest)

-- the text of a request stands in front
abbrev pub BeginsText : List ℕ → Type 0
BeginsText bytes = (r : Request) × HasText r × ((rest : List ℕ) × (bytes ≡ request_text r ++ rest))
