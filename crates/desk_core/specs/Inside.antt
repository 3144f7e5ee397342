-- What a desk's contracts see of its fields.
use Rattle.std.specs.Prelude.{◌≡◌, ℕ, ◌<◌, vec_len}
use Rattle.desk_model.specs.Desks.{ring}
use Rattle.desk_model.specs.Events.{sessions}
use Rattle.desk_core.specs.declared.desk.Desk.TheInside.{Inside}
use Rattle.desk_core.specs.Benches.{Bench}

abbrev pub bench_of : {C : ℕ} → Inside C → Bench
bench_of b = record {
  store = b.served.store;
  ahead = b.ahead;
  queued = b.queues;
  flush_of = b.served.session;
  ended = b.ended;
  events = b.events;
}

-- its text has room for all that may wait for one session, and its flush is of a session
abbrev pub IsSound : {C : ℕ} → Inside C → Type 0
IsSound b = (vec_len b.text ≡ ring) × (b.served.session < sessions)
