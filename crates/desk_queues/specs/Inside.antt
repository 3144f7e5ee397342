-- What holds of the fields of queues.
use Rattle.std.specs.Prelude.{◌≡◌, ℕ, List, map}
use Rattle.std.specs.List.{AllByRecursion}
use Rattle.circular_buffer.specs.Buffer.{Buffer}
use Rattle.map_model.specs.Requests.{Request}
use Rattle.desk_model.specs.Desks.{ring}
use Rattle.desk_queues.specs.Queues.{Holds, Queued}
use Rattle.desk_queues.specs.declared.queues.Queues.TheInside.{Inside}

abbrev pub queued_of : Inside → Queued
queued_of q = record { rings = map (λ b. b.items) q.rings.items; count = q.waiting }

-- each ring may have as many bytes as it should
abbrev pub HaveRoom : List (Buffer ℕ) → Type 0
HaveRoom rings = AllByRecursion (λ b. b.capacity ≡ ring) rings

-- requests wait, in rings that have their room
pub record AreQueues (q : Inside) : Type 0 where
  pub room : HaveRoom q.rings.items
  pub requests : List (List Request)
  pub held : Holds (queued_of q) requests
