-- How far events raise the sequence of a desk.
use Rattle.std.specs.Prelude.{◌≡◌, ℕ, ◌+◌, ◌≤◌, Bool, true, false, List, [], ◌∷◌, Option, Some, None, refl}
use Rattle.std.proofs.Common.{arith, ap, sym, ◌∙◌, subst, inl, inr}
use Rattle.map_model.specs.Requests as ask
use Rattle.map_model.specs.Requests.{Change, Refused, Request}
use Rattle.segment_layout.specs.Books.{next_book}
use Rattle.store_model.specs.States.{Limits, Served, State, accepted, facts_of, refusal, served, served_change}
use Rattle.store_model.proofs.RequestLaws.{served_by, served_sequence}
use Rattle.ask_session.specs.Runs.{most_sequence}
use Rattle.ask_session.proofs.GrowingLaws.{saves_within}
use Rattle.desk_model.specs.Answers.{Answer}
use Rattle.desk_model.specs.Desks.{Desk, EventStep, Flush, Plays, SaysIf, ServesFirst, ServesIf, StepsOn, TakesIf, begins, has_room, last_desk, queue_of, waits}
use Rattle.desk_model.specs.Events as event
use Rattle.desk_model.specs.Events.{Event}
use Rattle.desk_core.specs.Playing.{Finishes}
use Rattle.desk_command.specs.Acts.{IsAct, LastAct, desk_left}
use Rattle.desk_command.specs.Acts as act

-- ---- what is served keeps the sequence, which its saves then raise

-- ---- a desk within a bound

module _ (limits : Limits) (found : ℕ) where
  abbrev most : ℕ
  most = most_sequence limits.k found

  abbrev HandLow : Option Flush → Type 0
  HandLow None = Unit {0}
  HandLow (Some f) = f.most ≤ most

  -- its sequence, and those that a flush in hand leaves
  pub record IsLow (d : Desk) : Type 0 where
    pub state : d.state.sequence ≤ most
    pub hand : HandLow d.hand

  low_as : (d t : Desk) → t.state.sequence ≤ most → t.hand ≡ d.hand → IsLow d → IsLow t
  low_as d t low same is = record { state = low; hand = subst HandLow (sym same) is.hand }

  low_same : (d t : Desk) → t ≡ d → IsLow d → IsLow t
  low_same d t same is = subst IsLow (sym same) is

  module _ (d t : Desk) (low : IsLow d) where
    within : (r : Request) → d.state.sequence + (served limits d.state r).saves.most ≤ most
    within r = saves_within limits d.state r limits.k found refl low.state

    said : (b : Bool) (s : ℕ) (r : Request) (a : Answer) → SaysIf b s r d a t → IsLow t
    said true s r a is = low_as d t (omega (arith, ap (λ (x : Desk). x.state.sequence) is.1, low.state))
        (ap (λ (x : Desk). x.hand) is.1) low
    said false s r a is = low_same d t is.1 low

    takes : (b : Bool) (s : ℕ) (r : Request) (rest : List Request) (a : Answer)
        → TakesIf b limits s r rest d a t → IsLow t
    takes true s r rest a is = record {
      state = omega (
        arith,
        ap (λ (x : Desk). x.state.sequence) is.1,
        served_sequence limits d.state r,
        low.state,
      );
      hand = subst HandLow (sym (ap (λ (x : Desk). x.hand) is.1)) (within r);
    }
    takes false s r rest a is = low_as d t (omega (arith, is.1.high, within r))
        (ap (λ (x : Desk). x.hand) is.2) low

    serves : (b : Bool) (s : ℕ) (r : Request) (rest : List Request) (a : Answer)
        → ServesIf b limits s r rest d a t → IsLow t
    serves true s r rest a is = low_same d t is.1 low
    serves false s r rest a is = takes (begins limits d.state r) s r rest a is

    first : (q : List Request) (s : ℕ) (a : Answer) → ServesFirst q limits s d a t → IsLow t
    first [] s a is = low_same d t is.1 low
    first (r ∷ rest) s a is = serves (waits d.hand s r) s r rest a is

    steps : (o : Option Flush) (a : Answer) → HandLow o → StepsOn o d a t → IsLow t
    steps None a few is = low_same d t is.1 low
    steps (Some h) a few (inl m) = record {
      state = omega (arith, ap (λ (x : Desk). x.state.sequence) m.desk, low.state);
      hand = subst HandLow (sym (ap (λ (x : Desk). x.hand) m.desk)) few;
    }
    steps (Some h) a few (inr m) = record {
      state = omega (arith, ap (λ (x : Desk). x.state.sequence) m.desk, m.high, few);
      hand = subst HandLow (sym (ap (λ (x : Desk). x.hand) m.desk)) tt;
    }

    event_low : (e : Event) (a : Answer) → EventStep limits d e a t → IsLow t
    event_low (event.say s r) a is = said (has_room d s r) s r a is
    event_low (event.serve s) a is = first (queue_of d s) s a is
    event_low event.step a is = steps d.hand a low.hand is

    finish_low : (o : Option Flush) → HandLow o → Finishes o d t → IsLow t
    finish_low None few is = low_same d t is low
    finish_low (Some f) few is = record {
      state = omega (arith, ap (λ (x : Desk). x.state.sequence) is.3, is.2, few);
      hand = subst HandLow (sym (ap (λ (x : Desk). x.hand) is.3)) tt;
    }

  plays_low : (d : Desk) (es : List Event) (answers : List Answer) (ds : List Desk)
      → Plays limits d es answers ds → IsLow d → IsLow (last_desk d ds)
  plays_low d [] [] [] plays low = low
  plays_low d (e ∷ es) (a ∷ answers) (t ∷ ds) plays low =
      plays_low t es answers ds plays.1 (event_low d t low e a plays.0)
  plays_low d [] [] (t ∷ ds) plays low = absurd plays
  plays_low d [] (a ∷ answers) ds plays low = absurd plays
  plays_low d (e ∷ es) [] ds plays low = absurd plays
  plays_low d (e ∷ es) (a ∷ answers) [] plays low = absurd plays

  act_low : (d : Desk) (others : List Event) (was : LastAct) → IsAct limits d others was → IsLow d
      → IsLow (desk_left d was)
  act_low d others act.nothing at low = low
  act_low d [] (act.answering a t) at low = absurd at
  act_low d (e ∷ others) (act.answering a t) at low = event_low d t low e a at
  act_low d others (act.finishing t) at low = finish_low d t low d.hand low.hand at.1

  -- the desk as it was left
  pub left_low : (d : Desk) (es others : List Event) (answers : List Answer) (ds : List Desk) (was : LastAct)
      → d.hand ≡ None → d.state.sequence ≤ most → Plays limits d es answers ds
      → IsAct limits (last_desk d ds) others was → (desk_left (last_desk d ds) was).state.sequence ≤ most
  left_low d es others answers ds was none low plays at = (act_low (last_desk d ds) others was at
      (plays_low d es answers ds plays (record { state = low; hand = subst HandLow (sym none) tt }))).state
