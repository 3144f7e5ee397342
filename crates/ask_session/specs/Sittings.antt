-- What a session keeps, as its contracts see it.
use Rattle.std.specs.Prelude.{ℕ, Bool, false, List, [], ◌++◌, refl}
use Rattle.std.specs.Coded.{Coded, code_by, coded×, coded_ℕ, coded_list, coded_bool}
use Rattle.disk_face.specs.Streams.{SourceState}
use Rattle.store_model.specs.Connection.{StoreValue}
use Rattle.store_model.specs.Codes.{kept_code}

-- The store; the bytes that were read ahead; whether it ended; how many requests were answered, how many of
-- these the last acknowledged checkpoint holds, and the disk's turn when it was acknowledged.
pub record Sitting : Type 0 where
  pub store : StoreValue
  pub ahead : List ℕ
  pub ended : Bool
  pub done : ℕ
  pub kept_done : ℕ
  pub kept_turn : ℕ

-- a session that has read nothing
abbrev pub new_sitting : StoreValue → ℕ → Sitting
new_sitting store turn =
    record { store = store; ahead = []; ended = false; done = 0; kept_done = 0; kept_turn = turn }

-- the unread input: what was read ahead, and then what the source has left
abbrev pub unread : Sitting → SourceState → List ℕ
unread s source = s.ahead ++ source.left

-- how it is stored: as the tuple of its parts
abbrev pub sitting_code : Coded Sitting
sitting_code = code_by (StoreValue × (List ℕ × (Bool × (ℕ × (ℕ × ℕ)))))
    (coded× kept_code (coded× (coded_list coded_ℕ) (coded× coded_bool (coded× coded_ℕ
    (coded× coded_ℕ coded_ℕ)))))
    (λ s. (s.store, (s.ahead, (s.ended, (s.done, (s.kept_done, s.kept_turn))))))
    (λ p. record {
      store = p.0;
      ahead = p.1.0;
      ended = p.1.1.0;
      done = p.1.1.1.0;
      kept_done = p.1.1.1.1.0;
      kept_turn = p.1.1.1.1.1;
    }) (λ _. refl)
