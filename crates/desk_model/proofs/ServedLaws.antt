-- What is served to reads, and to changes that begin a flush.
use Rattle.std.specs.Prelude.{◌≡◌, ℕ, ◌<◌, ◌≤◌, Bool, true, false, List, Option, Some, None, refl}
use Rattle.std.proofs.Common.{arith, ap, sym, ◌∙◌}
use Rattle.std.proofs.lemmas.Bool.{ltb-true}
use Rattle.map_model.specs.Requests as ask
use Rattle.map_model.specs.Requests.{Change, Refused, Reply, Request}
use Rattle.segment_layout.specs.Books.{next_book}
use Rattle.store_model.specs.States.{Limits, Served, State, Step, accepted, facts_of, reads_as, refusal, served, served_change, unchanged}
use Rattle.store_model.proofs.RequestLaws.{served_as, served_by}
use Rattle.desk_model.specs.Desks.{begins, flush_by, is_read}

-- a state with another sequence
abbrev pub at_seq : State → ℕ → State
at_seq s q = record s { sequence = q }

-- ---- reads

-- a read is replied the same whatever the sequence, and leaves the state
pub record IsRead (limits : Limits) (s : State) (r : Request) : Type 0 where
  pub reply : Reply
  pub stays : (q : ℕ) → served limits (at_seq s q) r ≡ unchanged (at_seq s q) reply

read_get : (limits : Limits) (s : State) (n : List ℕ) → IsRead limits s (ask.get n)
read_get limits s n = elim (refusal limits (facts_of s (ask.get n)) (ask.get n))
    as (λ o. refusal limits (facts_of s (ask.get n)) (ask.get n) ≡ o → IsRead limits s (ask.get n)) [
      | None ↦ λ e. record {
        reply = reads_as s.book s.map n;
        stays = λ q. served_by limits (at_seq s q) (ask.get n) None e;
      }
      | Some why ↦ λ e. record {
        reply = ask.refused why;
        stays = λ q. served_by limits (at_seq s q) (ask.get n) (Some why) e;
      }
    ] refl

pub read_of : (limits : Limits) (s : State) (r : Request) → is_read r ≡ true → IsRead limits s r
read_of limits s (ask.get n) is = read_get limits s n
read_of limits s ask.list is = record { reply = (accepted limits s ask.list).reply; stays = λ q. refl }
read_of limits s (ask.change c) is = absurd (cc)
read_of limits s (ask.old n) is = absurd (cc)
read_of limits s ask.keep is = absurd (cc)
read_of limits s ask.back is = absurd (cc)
read_of limits s ask.stat is = absurd (cc)

-- a read begins no flush
pub no_flush : (limits : Limits) (s : State) (r : Request) → is_read r ≡ true → begins limits s r ≡ false
no_flush limits s (ask.get n) is = refl
no_flush limits s ask.list is = refl
no_flush limits s (ask.change c) is = absurd (cc)
no_flush limits s (ask.old n) is = absurd (cc)
no_flush limits s ask.keep is = absurd (cc)
no_flush limits s ask.back is = absurd (cc)
no_flush limits s ask.stat is = absurd (cc)

module _ {limits : Limits} {s : State} {r : Request} (is : IsRead limits s r) where
  here : served limits s r ≡ unchanged s is.reply
  here = is.stays s.sequence

  read_reply : (served limits s r).reply ≡ is.reply
  read_reply = ap (λ (x : Served). x.reply) here

  -- the state that a read leaves
  pub read_leaves : {t : State} → Step limits s r (served limits s r).reply t → t ≡ s
  read_leaves {t} step =
      let same = ap (λ (x : Served). x.state) here in
      let low = ap (λ (x : Served). x.saves.least) here in
      let high = ap (λ (x : Served). x.saves.most) here in
      let q : t.sequence ≡ s.sequence = omega (arith, step.low, step.high, low, high) in
      step.state ∙ (λ i. record (same i) { sequence = q i })

  pub read_at_any : (q : ℕ) → Step limits (at_seq s q) r (served limits s r).reply (at_seq s q)
  read_at_any q =
      let there = is.stays q in
      record {
        replied = read_reply ∙ sym (ap (λ (x : Served). x.reply) there);
        state = ap (λ (x : Served). record x.state { sequence = q }) (sym there);
        low = omega (arith, ap (λ (x : Served). x.saves.least) there);
        high = omega (arith, ap (λ (x : Served). x.saves.most) there);
      }

-- ---- changes

-- what a change that makes a checkpoint is served
record IsLoud (v : Served) : Type 0 where
  ordered : v.saves.least ≤ v.saves.most
  kept : 0 < v.saves.least → v.reply ≡ ask.kept

loud_change : (limits : Limits) (s : State) (c : Change) → IsLoud (served_change limits s c)
loud_change limits s c = quiet_or (next_book limits.k s.map s.book c).quiet refl
  where
    quiet_or : (b : Bool) → (next_book limits.k s.map s.book c).quiet ≡ b → IsLoud (served_change limits s c)
    quiet_or true e = rw e (record { ordered = omega arith; kept = λ some. absurd (omega arith) })
    quiet_or false e = rw e (record { ordered = omega arith; kept = λ some. refl })

loud : (limits : Limits) (s : State) (c : Change) → IsLoud (served limits s (ask.change c))
loud limits s c = elim (refusal limits (facts_of s (ask.change c)) (ask.change c))
    as (λ o. refusal limits (facts_of s (ask.change c)) (ask.change c) ≡ o
    → IsLoud (served limits s (ask.change c))) [
      | None ↦ λ e. rw (served_by limits s (ask.change c) None e) (loud_change limits s c)
      | Some why ↦ λ e. rw (served_by limits s (ask.change c) (Some why) e)
          (record { ordered = omega arith; kept = λ some. absurd (omega arith) })
    ] refl

-- a flush that is begun leaves some sequence
pub flush_ordered : (limits : Limits) (s : State) (n : ℕ) (r : Request) → begins limits s r ≡ true
    → (flush_by limits s n r).least ≤ (flush_by limits s n r).most
flush_ordered limits s n (ask.change c) is = omega (arith, (loud limits s c).ordered)
flush_ordered limits s n (ask.get m) is = absurd (cc)
flush_ordered limits s n (ask.old m) is = absurd (cc)
flush_ordered limits s n ask.keep is = absurd (cc)
flush_ordered limits s n ask.back is = absurd (cc)
flush_ordered limits s n ask.list is = absurd (cc)
flush_ordered limits s n ask.stat is = absurd (cc)

-- a request that begins a flush is told that a checkpoint was saved
pub flush_kept : (limits : Limits) (s : State) (r : Request) → begins limits s r ≡ true
    → (served limits s r).reply ≡ ask.kept
flush_kept limits s (ask.change c) is = (loud limits s c).kept (ltb-true 0 _ is)
flush_kept limits s (ask.get m) is = absurd (cc)
flush_kept limits s (ask.old m) is = absurd (cc)
flush_kept limits s ask.keep is = absurd (cc)
flush_kept limits s ask.back is = absurd (cc)
flush_kept limits s ask.list is = absurd (cc)
flush_kept limits s ask.stat is = absurd (cc)
