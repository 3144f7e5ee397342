-- A desk takes the requests of a session in the order in which they were queued, and replies in that order.
use Rattle.std.specs.Prelude.{◌≡◌, ℕ, ◌<◌, ◌==◌, Bool, true, false, not, ◌||◌, if◌then◌else◌, List, [], ◌∷◌, ◌++◌, length, slice_index_or, slice_set, Option, Some, None, refl}
use Rattle.std.proofs.Common.{arith, ap, sym, ◌∙◌, inl, inr, append_assoc}
use Rattle.std.proofs.lemmas.Bool.{eq-eqb, eqb-true, true≢false}
use Rattle.std.proofs.lemmas.Grind.{common_steps}
use Rattle.std.proofs.lemmas.List.{append-nil, get_or-set_same, get_or-set_other, length-set}
use Rattle.map_model.specs.Requests as ask
use Rattle.map_model.specs.Requests.{Reply, Request}
use Rattle.store_model.specs.States.{Limits, served}
use Rattle.desk_model.proofs.ServedLaws.{flush_kept, no_flush}
use Rattle.desk_model.specs.Events as event
use Rattle.desk_model.specs.Events.{Event}
use Rattle.desk_model.specs.Answers as answer
use Rattle.desk_model.specs.Answers.{Answer}
use Rattle.desk_model.specs.Desks.{Desk, EventStep, Flush, Plays, SaysIf, ServesFirst, ServesIf, StepsOn, TakesIf, begins, has_room, is_read, last_desk, queue_of, waits, with_queue}
use Rattle.desk_model.specs.Orders.{Taken, owed, queued_by, queued_in, replies_of, requests_of, taken_by, taken_first, taken_if, taken_in, taken_of, told_by, told_in}

-- two cuts of lists, one after the other
cut_on : {X : Type 0} (before some taken now more others after : List X) → before ++ some ≡ taken ++ now
    → now ++ more ≡ others ++ after → before ++ (some ++ more) ≡ (taken ++ others) ++ after
cut_on before some taken now more others after a b =
    sym (append_assoc before some more) ∙ ap (λ xs. xs ++ more) a ∙ append_assoc taken now more
    ∙ ap (λ xs. taken ++ xs) b ∙ sym (append_assoc taken others after)

-- what is taken of a session, event by event
requests-append : (s : ℕ) (ts us : List Taken) → requests_of (taken_of s (ts ++ us))
    ≡ requests_of (taken_of s ts) ++ requests_of (taken_of s us)
requests-append s ts us = grind (arith, common_steps)

replies-append : (s : ℕ) (ts us : List Taken) → replies_of (taken_of s (ts ++ us))
    ≡ replies_of (taken_of s ts) ++ replies_of (taken_of s us)
replies-append s ts us = grind (arith, common_steps)

-- ---- queues

-- a queue that was set: its session's, or another's
queue_set : (d : Desk) (n s : ℕ) (q : List Request) → s < length d.queues
    → queue_of (with_queue d n q) s ≡ (if n == s then q else queue_of d s)
queue_set d n s q within = by (n == s) refl
  where
    by : (b : Bool) → (n == s) ≡ b → queue_of (with_queue d n q) s ≡ (if b then q else queue_of d s)
    by true e =
        let same : n ≡ s = eqb-true n s e in
        rw same (get_or-set_same d.queues s q [] within)
    by false e = get_or-set_other d.queues n s q [] (λ is. true≢false (sym (eq-eqb n s (sym is)) ∙ e))

-- what an event does to the queue of a session
record Queues (limits : Limits) (s : ℕ) (d : Desk) (e : Event) (t : Desk) : Type 0 where
  many : length t.queues ≡ length d.queues
  order : queue_of d s ++ queued_by s d e ≡ requests_of (taken_of s (taken_by limits d e)) ++ queue_of t s

module _ (limits : Limits) (s : ℕ) (d t : Desk) (within : s < length d.queues) where
  stays : t ≡ d → queue_of d s ++ [] ≡ queue_of t s
  stays is = append-nil (queue_of d s) ∙ ap (λ (x : Desk). queue_of x s) (sym is)

  queued : (b : Bool) (n : ℕ) (r : Request) (a : Answer) → SaysIf b n r d a t
      → queue_of d s ++ (if n == s then (if b then r ∷ [] else []) else []) ≡ queue_of t s
  queued true n r a is =
      let after = ap (λ (x : Desk). queue_of x s) is.1 ∙ queue_set d n s (queue_of d n ++ r ∷ []) within in
      by (n == s) refl after
    where
      by : (b : Bool) → (n == s) ≡ b → queue_of t s ≡ (if b then queue_of d n ++ r ∷ [] else queue_of d s)
          → queue_of d s ++ (if b then r ∷ [] else []) ≡ queue_of t s
      by true e after =
          let same : n ≡ s = eqb-true n s e in
          ap (λ m. queue_of d m ++ r ∷ []) (sym same) ∙ sym after
      by false e after = append-nil (queue_of d s) ∙ sym after
  queued false n r a is = by (n == s)
    where
      by : (b : Bool) → queue_of d s ++ (if b then [] else []) ≡ queue_of t s
      by true = stays is.1
      by false = stays is.1

  -- the first request of a session is taken
  took : (n : ℕ) (r : Request) (rest : List Request) → queue_of d n ≡ r ∷ rest
      → t.queues ≡ slice_set d.queues n rest
      → queue_of d s ++ [] ≡ requests_of (taken_of s (taken_if false limits d.state n r)) ++ queue_of t s
  took n r rest first is =
      let after = ap (λ (x : List (List Request)). slice_index_or x s []) is ∙ queue_set d n s rest within in
      by (n == s) refl after
    where
      by : (b : Bool) → (n == s) ≡ b → queue_of t s ≡ (if b then rest else queue_of d s)
          → queue_of d s ++ []
          ≡ requests_of (if b then taken_if false limits d.state n r else []) ++ queue_of t s
      by true e after =
          let same : n ≡ s = eqb-true n s e in
          append-nil (queue_of d s) ∙ ap (queue_of d) (sym same) ∙ first
          ∙ ap (λ (q : List Request). r ∷ q) (sym after)
      by false e after = append-nil (queue_of d s) ∙ sym after

  took_if : (b : Bool) (n : ℕ) (r : Request) (rest : List Request) (a : Answer)
      → TakesIf b limits n r rest d a t
      → t.queues ≡ slice_set d.queues n rest
  took_if true n r rest a is = ap (λ (x : Desk). x.queues) is.1
  took_if false n r rest a is = ap (λ (x : Desk). x.queues) is.2

  serves : (b : Bool) (n : ℕ) (r : Request) (rest : List Request) (a : Answer) → queue_of d n ≡ r ∷ rest
      → ServesIf b limits n r rest d a t → (length t.queues ≡ length d.queues)
      × (queue_of d s ++ [] ≡ requests_of (taken_of s (taken_if b limits d.state n r)) ++ queue_of t s)
  serves true n r rest a first is = (ap (λ (x : Desk). length x.queues) is.1, stays is.1)
  serves false n r rest a first is =
      let set = took_if (begins limits d.state r) n r rest a is in
      (ap length set ∙ length-set d.queues n rest, took n r rest first set)

  serves_first : (q : List Request) (n : ℕ) (a : Answer) → queue_of d n ≡ q → ServesFirst q limits n d a t
      → (length t.queues ≡ length d.queues)
      × (queue_of d s ++ [] ≡ requests_of (taken_of s (taken_first q limits d n)) ++ queue_of t s)
  serves_first [] n a first is = (ap (λ (x : Desk). length x.queues) is.1, stays is.1)
  serves_first (r ∷ rest) n a first is = serves (waits d.hand n r) n r rest a first is

  same_queues : t.queues ≡ d.queues → (length t.queues ≡ length d.queues)
      × (queue_of d s ++ [] ≡ queue_of t s)
  same_queues is = (
    ap length is,
    append-nil (queue_of d s)
        ∙ ap (λ (x : List (List Request)). slice_index_or x s []) (sym is),
  )

  steps : (o : Option Flush) (a : Answer) → StepsOn o d a t → t.queues ≡ d.queues
  steps None a is = ap (λ (x : Desk). x.queues) is.1
  steps (Some h) a (inl m) = ap (λ (x : Desk). x.queues) m.desk
  steps (Some h) a (inr m) = ap (λ (x : Desk). x.queues) m.desk

  said_length : (b : Bool) (n : ℕ) (r : Request) (a : Answer) → SaysIf b n r d a t
      → length t.queues ≡ length d.queues
  said_length true n r a is =
      ap (λ (x : Desk). length x.queues) is.1 ∙ length-set d.queues n (queue_of d n ++ r ∷ [])
  said_length false n r a is = ap (λ (x : Desk). length x.queues) is.1

  queues : (e : Event) (a : Answer) → EventStep limits d e a t → Queues limits s d e t
  queues (event.say n r) a is = record {
    many = said_length (has_room d n r) n r a is;
    order = queued (has_room d n r) n r a is;
  }
  queues (event.serve n) a is =
      let both = serves_first (queue_of d n) n a refl is in
      record { many = both.0; order = both.1 }
  queues event.step a is =
      let both = same_queues (steps d.hand a is) in
      record { many = both.0; order = both.1 }

pub session_taken : (limits : Limits) (d : Desk) (es : List Event) (answers : List Answer) (ds : List Desk)
    (s : ℕ)
    → s < length d.queues → Plays limits d es answers ds
    → queue_of d s ++ queued_in s d es ds
    ≡ requests_of (taken_of s (taken_in limits d es ds)) ++ queue_of (last_desk d ds) s
session_taken limits d [] [] [] s within plays = append-nil (queue_of d s)
session_taken limits d (e ∷ es) (a ∷ answers) (t ∷ ds) s within plays =
    let one = queues limits s d t within e a plays.0 in
    let more = session_taken limits t es answers ds s (omega (arith, one.many)) plays.1 in
    cut_on (queue_of d s) (queued_by s d e) (requests_of (taken_of s (taken_by limits d e))) (queue_of t s)
    (queued_in s t es ds) (requests_of (taken_of s (taken_in limits t es ds))) (queue_of (last_desk t ds) s)
    one.order more
    ∙ ap (λ xs. xs ++ queue_of (last_desk t ds) s)
    (sym (requests-append s (taken_by limits d e) (taken_in limits t es ds)))
session_taken limits d [] [] (t ∷ ds) s within plays = absurd plays
session_taken limits d [] (a ∷ answers) ds s within plays = absurd plays
session_taken limits d (e ∷ es) [] ds s within plays = absurd plays
session_taken limits d (e ∷ es) (a ∷ answers) [] s within plays = absurd plays

-- ---- replies

-- what an event does to the replies of a session
abbrev Tells : Limits → ℕ → Desk → List Taken → Answer → Option Flush → Type 0
Tells limits s d ts a o = owed s d.hand ++ replies_of (taken_of s ts) ≡ told_by s a ++ owed s o

module _ (limits : Limits) (s : ℕ) (d t : Desk) where
  silent : (a : Answer) → told_by s a ≡ [] → t.hand ≡ d.hand → Tells limits s d [] a t.hand
  silent a none is = append-nil (owed s d.hand) ∙ ap (owed s) (sym is)
      ∙ ap (λ xs. xs ++ owed s t.hand) (sym none)

  silent_as : (a b : Answer) → a ≡ b → told_by s b ≡ [] → t.hand ≡ d.hand → Tells limits s d [] a t.hand
  silent_as a b same none is = silent a (ap (told_by s) same ∙ none) is

  tells_say : (b : Bool) (n : ℕ) (r : Request) (a : Answer) → SaysIf b n r d a t
      → Tells limits s d [] a t.hand
  tells_say true n r a is =
      silent_as a (answer.queued n) is.0 refl (ap (λ (x : Desk). x.hand) is.1)
  tells_say false n r a is = silent_as a (answer.full n) is.0 refl (ap (λ (x : Desk). x.hand) is.1)

  -- a request that is replied while a flush of another session is in hand, or none is
  swaps : (n : ℕ) (h : Flush) (reply : Reply) → (h.session == n) ≡ false
      → owed s (Some h) ++ (if n == s then reply ∷ [] else [])
      ≡ (if n == s then reply ∷ [] else []) ++ owed s (Some h)
  swaps n h reply other = by (n == s) (h.session == s) refl refl
    where
      by : (b c : Bool) → (n == s) ≡ b → (h.session == s) ≡ c
          → (if c then ask.kept ∷ [] else []) ++ (if b then reply ∷ [] else [])
          ≡ (if b then reply ∷ [] else []) ++ (if c then ask.kept ∷ [] else [])
      by true true e f =
          let same : n ≡ s = eqb-true n s e in
          let its : h.session ≡ s = eqb-true h.session s f in
          absurd (true≢false (sym (eq-eqb h.session n (its ∙ sym same)) ∙ other))
      by true false e f = refl
      by false true e f = refl
      by false false e f = refl

  -- the session of a flush in hand waits
  calm_of : (a b : Bool) → (a || not b) ≡ false → a ≡ false
  calm_of true b is = absurd (cc)
  calm_of false b is = refl

  read_of : (a b : Bool) → (a || not b) ≡ false → b ≡ true
  read_of true b is = absurd (cc)
  read_of false true is = refl
  read_of false false is = absurd (cc)

  replied : (o : Option Flush) (n : ℕ) (r : Request) (rest : List Request) (a : Answer) → d.hand ≡ o
      → waits o n r ≡ false → TakesIf false limits n r rest d a t
      → Tells limits s d (taken_if false limits d.state n r) a t.hand
  replied o n r rest a hand calm is = rw is.0 (rw (ap (λ (x : Desk). x.hand) is.2) (by d.hand hand))
    where
      reply : Reply
      reply = (served limits d.state r).reply

      by : (p : Option Flush) → p ≡ o
          → owed s p ++ replies_of (taken_of s (taken_if false limits d.state n r))
          ≡ told_by s (answer.to n reply) ++ owed s p
      by None e = outer (n == s)
        where
          outer : (b : Bool) → replies_of (if b then taken_if false limits d.state n r else [])
              ≡ (if b then reply ∷ [] else []) ++ []
          outer true = refl
          outer false = refl
      by (Some h) e = inner (n == s) ∙ swaps n h reply (calm_of (h.session == n) (is_read r)
          (ap (λ x. waits x n r) e ∙ calm))
        where
          inner : (b : Bool)
              → owed s (Some h) ++ replies_of (if b then taken_if false limits d.state n r else [])
              ≡ owed s (Some h) ++ (if b then reply ∷ [] else [])
          inner true = refl
          inner false = refl

  begun : (o : Option Flush) (n : ℕ) (r : Request) (rest : List Request) (a : Answer) → d.hand ≡ o
      → waits o n r ≡ false → begins limits d.state r ≡ true → TakesIf true limits n r rest d a t
      → Tells limits s d (taken_if false limits d.state n r) a t.hand
  begun None n r rest a hand calm loud is =
      rw is.0 (rw (ap (λ (x : Desk). x.hand) is.1) (rw hand (by (n == s))))
    where
      by : (b : Bool) → replies_of (if b then taken_if false limits d.state n r else [])
          ≡ (if b then ask.kept ∷ [] else [])
      by true = ap (λ (p : Reply). p ∷ []) (flush_kept limits d.state r loud)
      by false = refl
  begun (Some h) n r rest a hand calm loud is =
      absurd (true≢false (sym loud ∙ no_flush limits d.state r (read_of (h.session == n) (is_read r) calm)))

  takes : (b : Bool) (n : ℕ) (r : Request) (rest : List Request) (a : Answer) → waits d.hand n r ≡ false
      → begins limits d.state r ≡ b → TakesIf b limits n r rest d a t
      → Tells limits s d (taken_if false limits d.state n r) a t.hand
  takes true n r rest a calm loud is = begun d.hand n r rest a refl calm loud is
  takes false n r rest a calm quiet is = replied d.hand n r rest a refl calm is

  tells_serve : (b : Bool) (n : ℕ) (r : Request) (rest : List Request) (a : Answer) → waits d.hand n r ≡ b
      → ServesIf b limits n r rest d a t → Tells limits s d (taken_if b limits d.state n r) a t.hand
  tells_serve true n r rest a w is = silent_as a (answer.wait n) is.0 refl (ap (λ (x : Desk). x.hand) is.1)
  tells_serve false n r rest a w is = takes (begins limits d.state r) n r rest a w refl is

  tells_first : (q : List Request) (n : ℕ) (a : Answer) → ServesFirst q limits n d a t
      → Tells limits s d (taken_first q limits d n) a t.hand
  tells_first [] n a is = silent_as a (answer.empty n) is.0 refl (ap (λ (x : Desk). x.hand) is.1)
  tells_first (r ∷ rest) n a is = tells_serve (waits d.hand n r) n r rest a refl is

  tells_step : (o : Option Flush) (a : Answer) → d.hand ≡ o → StepsOn o d a t → Tells limits s d [] a t.hand
  tells_step None a hand is = silent_as a answer.idle is.0 refl (ap (λ (x : Desk). x.hand) is.1)
  tells_step (Some h) a hand (inl m) =
      rw m.says (rw (ap (λ (x : Desk). x.hand) m.desk) (rw hand (append-nil (owed s (Some h)))))
  tells_step (Some h) a hand (inr m) =
      rw m.says (rw (ap (λ (x : Desk). x.hand) m.desk) (rw hand refl))

  tells : (e : Event) (a : Answer) → EventStep limits d e a t
      → Tells limits s d (taken_by limits d e) a t.hand
  tells (event.say n r) a is = tells_say (has_room d n r) n r a is
  tells (event.serve n) a is = tells_first (queue_of d n) n a is
  tells event.step a is = tells_step d.hand a refl is

pub session_told : (limits : Limits) (d : Desk) (es : List Event) (answers : List Answer) (ds : List Desk)
    (s : ℕ)
    → Plays limits d es answers ds
    → owed s d.hand ++ replies_of (taken_of s (taken_in limits d es ds))
    ≡ told_in s answers ++ owed s (last_desk d ds).hand
session_told limits d [] [] [] s plays = append-nil (owed s d.hand)
session_told limits d (e ∷ es) (a ∷ answers) (t ∷ ds) s plays =
    ap (λ xs. owed s d.hand ++ xs) (replies-append s (taken_by limits d e) (taken_in limits t es ds))
    ∙ cut_on (owed s d.hand) (replies_of (taken_of s (taken_by limits d e))) (told_by s a) (owed s t.hand)
    (replies_of (taken_of s (taken_in limits t es ds))) (told_in s answers) (owed s (last_desk t ds).hand)
    (tells limits s d t e a plays.0) (session_told limits t es answers ds s plays.1)
session_told limits d [] [] (t ∷ ds) s plays = absurd plays
session_told limits d [] (a ∷ answers) ds s plays = absurd plays
session_told limits d (e ∷ es) [] ds s plays = absurd plays
session_told limits d (e ∷ es) (a ∷ answers) [] s plays = absurd plays
