-- How the value of a store with its file is stored: as the pair of its parts.
use Rattle.std.specs.Prelude.{◌≡◌, ℕ, zero, suc, List, [], refl}
use Rattle.std.specs.Coded.{Coded, code_by, coded×, coded_ℕ, coded_list}
use Rattle.disk_history.specs.Changes.{RecordedCall, Stamped}
use Rattle.disk_history.specs.Changes.RecordedCall.{Sized, Synced, Wrote}
use Rattle.disk_history.specs.Histories.{History}
use Rattle.lent_disk.specs.Notings.{Noting}
use Rattle.store_model.specs.Codes.{kept_code}
use Rattle.store_model.specs.Connection.{StoreValue}
use Rattle.lent_store.specs.Embedded.{Embedded}

-- a call by its kind, a number and its bytes
abbrev pub parts_of : RecordedCall → ℕ × (ℕ × List ℕ)
parts_of (Wrote at bytes) = (zero, (at, bytes))
parts_of (Sized n) = (suc zero, (n, []))
parts_of Synced = (suc (suc zero), (0, []))

abbrev pub call_of : ℕ × (ℕ × List ℕ) → RecordedCall
call_of (zero, rest) = Wrote rest.0 rest.1
call_of (suc zero, rest) = Sized rest.0
call_of (suc (suc kind), rest) = Synced

pub same_call : (call : RecordedCall) → call_of (parts_of call) ≡ call
same_call (Wrote at bytes) = refl
same_call (Sized n) = refl
same_call Synced = refl

abbrev pub call_code : Coded RecordedCall
call_code = code_by (ℕ × (ℕ × List ℕ)) (coded× coded_ℕ (coded× coded_ℕ (coded_list coded_ℕ))) parts_of call_of
    same_call

abbrev pub stamped_code : Coded Stamped
stamped_code = code_by (ℕ × RecordedCall) (coded× coded_ℕ call_code) (λ s. (s.began, s.change))
    (λ p. record { began = p.0; change = p.1 }) (λ _. refl)

abbrev pub history_code : Coded History
history_code = code_by (List ℕ × (List Stamped × (ℕ × ℕ)))
    (coded× (coded_list coded_ℕ) (coded× (coded_list stamped_code) (coded× coded_ℕ coded_ℕ)))
    (λ h. (h.base, (h.calls, (h.turn, h.faults))))
    (λ p. record { base = p.0; calls = p.1.0; turn = p.1.1.0; faults = p.1.1.1 }) (λ _. refl)

abbrev pub noting_code : Coded Noting
noting_code = code_by (History × (History × (List ℕ × (List RecordedCall × (ℕ × ℕ)))))
    (coded× history_code (coded× history_code (coded× (coded_list coded_ℕ)
    (coded× (coded_list call_code) (coded× coded_ℕ coded_ℕ)))))
    (λ n. (n.history, (n.start, (n.text, (n.asked, (n.room, n.log_room))))))
    (λ p. record {
      history = p.0;
      start = p.1.0;
      text = p.1.1.0;
      asked = p.1.1.1.0;
      room = p.1.1.1.1.0;
      log_room = p.1.1.1.1.1;
    }) (λ _. refl)

abbrev pub embedded_code : Coded Embedded
embedded_code = code_by (StoreValue × Noting) (coded× kept_code noting_code) (λ e. (e.store, e.noting))
    (λ p. record { store = p.0; noting = p.1 }) (λ _. refl)
