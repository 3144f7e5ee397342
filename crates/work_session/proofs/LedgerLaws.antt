-- The ledger, the counts and the calls after one more job.
use Rattle.std.specs.Prelude.{◌≡◌, ℕ, ◌+◌, ◌≤◌, List, [], ◌∷◌, ◌++◌, length, slice_index, IsTrue, refl}
use Rattle.std.proofs.Common.{arith, ap, sym, ◌∙◌, subst, length-append}
use Rattle.std.proofs.lemmas.List.Sums.{sum_by_push}
use Rattle.byte_ranges.proofs.ListLaws.{zeros_at}
use Rattle.disk_face.specs.States as disk
use Rattle.size_class.specs.Classes.{width, zero_row}
use Rattle.map_model.specs.Requests as ask
use Rattle.map_model.specs.Requests.{Reply, Request}
use Rattle.move_cost.specs.Costs.{linear, potential}
use Rattle.move_cost.specs.Lawful.{linear_is}
use Rattle.store_model.specs.Connection.{StoreValue, limits_of, state_of}
use Rattle.store_model.specs.Opened.{IsFresh}
use Rattle.store_model.specs.States.{Chain, Limits, State}
use Rattle.store_costs.specs.Paid.{HasOpenLedger}
use Rattle.store_costs.proofs.SessionLaws.{opened_has_paid}
use Rattle.ask_text.specs.Replies.{reply_line_of}
use Rattle.ask_text.specs.declared.reply.Reply as text
use Rattle.ask_text.specs.declared.reply.Reply.TheVariants as said
use Rattle.ask_session.specs.Serving.{reply_at}
use Rattle.ask_session.specs.Runs.{last_state}
use Rattle.work_session.specs.Counts.{asked_by, asked_in, calls_by, calls_in, kept_of, ok_of, read_of, refused_of}
use Rattle.work_session.specs.Jobs.{Charges, HasLedger, TallyOf, read_head, tally_with}
use Rattle.work_session.specs.declared.tally.Tally.{Tally}
use Rattle.work_session.proofs.CallLaws.{calls_add}

-- ---- lists that grow at their end

asked_more : (limits : Limits) (s t : State) (rs : List Request) (replies : List Reply) (states : List State)
    (r : Request) (reply : Reply) (d : ℕ) → Chain limits s rs replies states
    → asked_in s (rs ++ r ∷ []) (replies ++ reply ∷ []) (states ++ t ∷ []) d
    ≡ asked_in s rs replies states d + asked_by (last_state s states) r reply d
asked_more limits s t [] [] [] r reply d chain = omega arith
asked_more limits s t (x ∷ rs) (y ∷ replies) (z ∷ states) r reply d chain =
    omega (arith, asked_more limits z t rs replies states r reply d chain.1)
asked_more limits s t [] [] (z ∷ states) r reply d chain = absurd (chain)
asked_more limits s t [] (y ∷ replies) states r reply d chain = absurd (chain)
asked_more limits s t (x ∷ rs) [] states r reply d chain = absurd (chain)
asked_more limits s t (x ∷ rs) (y ∷ replies) [] r reply d chain = absurd (chain)

calls_more : (limits : Limits) (s t : State) (rs : List Request) (replies : List Reply) (states : List State)
    (r : Request) (reply : Reply) → Chain limits s rs replies states
    → calls_in s (rs ++ r ∷ []) (replies ++ reply ∷ []) (states ++ t ∷ [])
    ≡ calls_in s rs replies states + calls_by (last_state s states) t r reply
calls_more limits s t [] [] [] r reply chain = omega arith
calls_more limits s t (x ∷ rs) (y ∷ replies) (z ∷ states) r reply chain =
    omega (arith, calls_more limits z t rs replies states r reply chain.1)
calls_more limits s t [] [] (z ∷ states) r reply chain = absurd (chain)
calls_more limits s t [] (y ∷ replies) states r reply chain = absurd (chain)
calls_more limits s t (x ∷ rs) [] states r reply chain = absurd (chain)
calls_more limits s t (x ∷ rs) (y ∷ replies) [] r reply chain = absurd (chain)

-- ---- the ledger

nothing : (d : ℕ) → slice_index zero_row d ≡ 0
unfolding zero_row
nothing d = zeros_at width d

pub ledger_none : {classes : ℕ} (s : StoreValue) (a : disk.State) → IsFresh classes s
    → HasLedger classes s s [] [] [] a a
ledger_none {classes} s a fresh = record {
  moved_few = λ d. omega (arith, ap (λ (row : List ℕ). slice_index row d) fresh.moved, nothing d);
  asked_few = λ d. omega (arith, ap (λ (row : List ℕ). slice_index row d) fresh.asked, nothing d);
  asked = λ told d. ap (λ (row : List ℕ). slice_index row d) fresh.asked ∙ nothing d;
  paid = λ cost is. opened_has_paid classes cost s fresh;
  calls = λ told. omega arith;
}

module _ {classes : ℕ} (old mid new : StoreValue) (a b d : disk.State) (jobs : List Request)
    (replies : List Reply)
    (states : List State) (ledger : HasLedger classes old mid jobs replies states a b)
    (told_b : IsTrue a.tells → IsTrue b.tells)
    (chain : IsTrue a.tells → Chain (limits_of old) (state_of old a.file) jobs replies states)
    (newest : IsTrue a.tells → state_of mid b.file ≡ last_state (state_of old a.file) states)
    (r : Request) (x : Charges classes r mid new b d) (few : length jobs ≤ 1000001) where
  abbrev reply : Reply
  reply = reply_at mid b.file r

  open_ledger : HasOpenLedger new
  open_ledger = record {
    moved = λ c. omega (arith, x.moved_few c, ledger.moved_few c, few);
    asked = λ c. omega (arith, x.asked_few c, ledger.asked_few c, few);
  }

  one_more : length (jobs ++ r ∷ []) ≡ length jobs + 1
  one_more = length-append jobs (r ∷ [])

  pub ledger_more : HasLedger classes old new (jobs ++ r ∷ []) (replies ++ reply ∷ [])
      (states ++ state_of new d.file ∷ []) a d
  ledger_more = record {
    moved_few = λ c. omega (arith, x.moved_few c, ledger.moved_few c, one_more);
    asked_few = λ c. omega (arith, x.asked_few c, ledger.asked_few c, one_more);
    asked = λ told c. omega (
      arith,
      x.asked (told_b told) open_ledger c,
      ledger.asked told c,
      asked_more (limits_of old) (state_of old a.file)
          (state_of new d.file) jobs replies states r reply c (chain told),
      ap (λ (s : State). asked_by s r reply c) (newest told),
    );
    paid = λ cost is. x.paid open_ledger cost (potential classes cost old.in_use.block.k old.book.grid) is
        (ledger.paid cost is);
    calls = λ told. omega (
      arith,
      x.calls (told_b told) open_ledger,
      ledger.calls told,
      calls_add mid.moved new.moved (x.later open_ledger),
      calls_more (limits_of old) (state_of old a.file)
          (state_of new d.file) jobs replies states r reply (chain told),
      ap (λ (s : State). calls_by s (state_of new d.file) r reply) (newest told),
    );
  }

-- the row of the bytes asked for has a number for each class
pub full_row : {classes : ℕ} (old new : StoreValue) (a b : disk.State) (jobs : List Request)
    (replies : List Reply)
    (states : List State) → HasLedger classes old new jobs replies states a b → length new.asked ≡ width
full_row {classes} old new a b jobs replies states ledger = (ledger.paid linear (linear_is classes)).full

-- ---- counts

record CountsOne (reply : Reply) (t new : Tally) : Type 0 where
  ok : new.ok ≡ t.ok + ok_of reply
  kept : new.kept ≡ t.kept + kept_of reply
  read : new.read ≡ t.read + read_of reply
  refused : new.refused ≡ t.refused + refused_of reply

counts_one : (reply : Reply) (t : Tally) → CountsOne reply t (tally_with t (reply_line_of reply))
counts_one ask.done t = record { ok = refl; kept = omega arith; read = omega arith; refused = omega arith }
counts_one ask.kept t = record { ok = omega arith; kept = refl; read = omega arith; refused = omega arith }
counts_one (ask.found object) t =
    record { ok = omega arith; kept = omega arith; read = refl; refused = omega arith }
counts_one (ask.refused why) t =
    record { ok = omega arith; kept = omega arith; read = omega arith; refused = refl }
counts_one (ask.listed entries) t =
    record { ok = omega arith; kept = omega arith; read = omega arith; refused = omega arith }
counts_one (ask.counts names bytes kept_names kept_bytes) t =
    record { ok = omega arith; kept = omega arith; read = omega arith; refused = omega arith }

pub tally_more : (replies : List Reply) (reply : Reply) (head : text.Reply) (t : Tally) → TallyOf replies t
    → head ≡ reply_line_of reply → TallyOf (replies ++ reply ∷ []) (tally_with t head)
tally_more replies reply head t h is =
    subst (λ (y : text.Reply). TallyOf (replies ++ reply ∷ []) (tally_with t y)) (sym is)
    (let one = counts_one reply t in record {
      ok = omega (arith, one.ok, h.ok, sum_by_push ok_of replies reply);
      kept = omega (arith, one.kept, h.kept, sum_by_push kept_of replies reply);
      read = omega (arith, one.read, h.read, sum_by_push read_of replies reply);
      refused = omega (arith, one.refused, h.refused, sum_by_push refused_of replies reply);
    })

-- each job is counted once at most
pub tally_few : (t : Tally) (head : text.Reply)
    → (tally_with t head).ok + (tally_with t head).kept + (tally_with t head).refused
    ≤ t.ok + t.kept + t.refused + 1
tally_few t said.Ok = omega arith
tally_few t said.Kept = omega arith
tally_few t (said.Data size) = omega arith
tally_few t (said.Refused why) = omega arith
tally_few t (said.List count) = omega arith
tally_few t (said.Stat names bytes kept_names kept_bytes) = omega arith

pub tally_read : (t : Tally) (head : text.Reply) → (tally_with t head).read ≤ t.read + read_head head
tally_read t said.Ok = omega arith
tally_read t said.Kept = omega arith
tally_read t (said.Data size) = omega arith
tally_read t (said.Refused why) = omega arith
tally_read t (said.List count) = omega arith
tally_read t (said.Stat names bytes kept_names kept_bytes) = omega arith
