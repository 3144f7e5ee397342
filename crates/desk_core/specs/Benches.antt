-- A desk as its contracts see it.
use Rattle.std.specs.Prelude.{ℕ, Bool, List, ◌++◌, refl}
use Rattle.std.specs.Coded.{Coded, code_by, coded×, coded_ℕ, coded_list, coded_bool}
use Rattle.disk_face.specs.Streams.{SourceState}
use Rattle.store_model.specs.Connection.{StoreValue}
use Rattle.store_model.specs.Codes.{kept_code}
use Rattle.desk_queues.specs.Queues.{Queued, queued_code}

-- The store; the bytes that were read ahead; what waits; the session whose request began the flush in hand,
-- or the last one that was; whether it ended; and how many events were answered.
pub record Bench : Type 0 where
  pub store : StoreValue
  pub ahead : List ℕ
  pub queued : Queued
  pub flush_of : ℕ
  pub ended : Bool
  pub events : ℕ

-- the unread input: what was read ahead, and then what the source has left
abbrev pub unread : Bench → SourceState → List ℕ
unread b source = b.ahead ++ source.left

-- how it is stored: as the tuple of its parts
abbrev pub bench_code : Coded Bench
bench_code = code_by (StoreValue × (List ℕ × (Queued × (ℕ × (Bool × ℕ)))))
    (coded× kept_code (coded× (coded_list coded_ℕ) (coded× queued_code (coded× coded_ℕ
    (coded× coded_bool coded_ℕ)))))
    (λ b. (b.store, (b.ahead, (b.queued, (b.flush_of, (b.ended, b.events))))))
    (λ p. record {
      store = p.0;
      ahead = p.1.0;
      queued = p.1.1.0;
      flush_of = p.1.1.1.0;
      ended = p.1.1.1.1.0;
      events = p.1.1.1.1.1;
    }) (λ _. refl)
