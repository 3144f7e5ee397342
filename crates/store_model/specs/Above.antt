-- The first name above some bytes, with the size of its object.
use Rattle.std.specs.Prelude.{ℕ, Bool, List, ◌∷◌, [], codes, Option, Some, None, Result, Ok, Err}
use Rattle.std.specs.List.{find}
use Rattle.std.specs.Ordering.{is_lt}
use Rattle.slot_codec.specs.Names.{name_cmp}
use Rattle.store_model.specs.declared.answers.Refusal.{Refusal}

-- a name is greater than these bytes, in byte order
abbrev pub is_above : List ℕ → List ℕ → Bool
is_above bytes name = is_lt (name_cmp bytes name)

-- the first of some names, each with a size, that is greater than these bytes
abbrev pub first_above : List ℕ → List (List ℕ × ℕ) → Option (List ℕ × ℕ)
first_above bytes listing = find (λ e. is_above bytes e.0) listing

-- the answer is the refusal; where there is none, it is what was found, if anything was
abbrev pub next_answer : Option Refusal → Option (List ℕ × ℕ) → Result (Option (List ℕ × ℕ)) Refusal
next_answer None found = Ok found
next_answer (Some refused) found = Err refused

-- three names with the sizes of their objects
abbrev pub three_names : List (List ℕ × ℕ)
three_names = (codes "b", 4) ∷ (codes "bb", 0) ∷ (codes "d", 7) ∷ []
