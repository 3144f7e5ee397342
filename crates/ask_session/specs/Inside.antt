-- What a session's contracts see of its fields.
use Rattle.std.specs.Prelude.{ℕ, ◌≤◌, vec_capacity}
use Rattle.size_class.specs.declared.TheConstants.{SIZE_MAX}
use Rattle.ask_session.specs.declared.session.Session.TheInside.{Inside}
use Rattle.ask_session.specs.Sittings.{Sitting}

abbrev pub sitting_of : {C : ℕ} → Inside C → Sitting
sitting_of s = record {
  store = s.store;
  ahead = s.ahead;
  ended = s.ended;
  done = s.done;
  kept_done = s.kept_done;
  kept_turn = s.kept_turn;
}

-- its body has room for the longest object, and is as long as the longest one so far
abbrev pub HasRoom : {C : ℕ} → Inside C → Type 0
HasRoom s = SIZE_MAX ≤ vec_capacity s.body
