-- What a request does, told by what the rules answer.
use Rattle.std.specs.Prelude.{◌≡◌, ℕ, ◌+◌, ◌≤◌, Bool, true, false, Option, Some, None, refl}
use Rattle.std.proofs.Common.{arith, ap, sym, ◌∙◌}
use Rattle.map_model.specs.Requests as ask
use Rattle.map_model.specs.Requests.{Change, Refused, Request}
use Rattle.segment_layout.specs.Books.{next_book}
use Rattle.store_model.specs.States.{Limits, Served, State, Step, accepted, facts_of, refusal, served, served_change, unchanged}

-- what is served, by the refusal
abbrev pub served_as : Limits → State → Request → Option Refused → Served
served_as limits s r None = accepted limits s r
served_as limits s r (Some why) = unchanged s (ask.refused why)

pub served_by : (limits : Limits) (s : State) (r : Request) (o : Option Refused)
    → refusal limits (facts_of s r) r ≡ o → served limits s r ≡ served_as limits s r o
served_by limits s r o is = elim o as (λ x. refusal limits (facts_of s r) r ≡ x
    → served limits s r ≡ served_as limits s r x) [
      | None ↦ λ e. rw e refl
      | Some why ↦ λ e. rw e refl
    ] is

-- a step to a state that is as the rules say, but for its sequence
pub step_to : (limits : Limits) (s after : State) (r : Request) (v : Served) → served limits s r ≡ v
    → after.map ≡ v.state.map → after.kept ≡ v.state.kept → after.book ≡ v.state.book
    → after.kept_book ≡ v.state.kept_book → s.sequence + v.saves.least ≤ after.sequence
    → after.sequence ≤ s.sequence + v.saves.most → Step limits s r v.reply after
step_to limits s after r v is map kept book kept_book low high = record {
  replied = ap (λ (x : Served). x.reply) (sym is);
  state = (λ i. record {
    map = map i;
    kept = kept i;
    book = book i;
    kept_book = kept_book i;
    sequence = after.sequence;
  }) ∙ ap (λ (x : Served). record x.state { sequence = after.sequence }) (sym is);
  low = omega (arith, low, ap (λ (x : Served). x.saves.least) is);
  high = omega (arith, high, ap (λ (x : Served). x.saves.most) is);
}

-- ---- the sequence

change_sequence : (limits : Limits) (s : State) (c : Change) (q : Bool)
    → (next_book limits.k s.map s.book c).quiet ≡ q → (served_change limits s c).state.sequence ≡ s.sequence
change_sequence limits s c true is = rw is refl
change_sequence limits s c false is = rw is refl

accepted_sequence : (limits : Limits) (s : State) (r : Request)
    → (accepted limits s r).state.sequence ≡ s.sequence
accepted_sequence limits s (ask.change c) = change_sequence limits s c
    (next_book limits.k s.map s.book c).quiet refl
accepted_sequence limits s (ask.get name) = refl
accepted_sequence limits s (ask.old name) = refl
accepted_sequence limits s ask.keep = refl
accepted_sequence limits s ask.back = refl
accepted_sequence limits s ask.list = refl
accepted_sequence limits s ask.stat = refl

-- the state that is served has the sequence of before, which a step then raises
pub served_sequence : (limits : Limits) (s : State) (r : Request)
    → (served limits s r).state.sequence ≡ s.sequence
served_sequence limits s r = by (refusal limits (facts_of s r) r) refl
  where
    by : (o : Option Refused) → refusal limits (facts_of s r) r ≡ o
        → (served limits s r).state.sequence ≡ s.sequence
    by None is = ap (λ (x : Served). x.state.sequence) (served_by limits s r None is)
        ∙ accepted_sequence limits s r
    by (Some w) is = ap (λ (x : Served). x.state.sequence) (served_by limits s r (Some w) is)
