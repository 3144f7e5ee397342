-- The requests that a desk takes are one run of its store.
use Rattle.std.specs.Prelude.{◌≡◌, ℕ, ◌≤◌, ◌==◌, Bool, true, false, not, ◌||◌, List, [], ◌∷◌, ◌++◌, Option, Some, None, refl}
use Rattle.std.proofs.Common.{arith, ap, sym, ◌∙◌, subst, inl, inr}
use Rattle.map_model.specs.Requests.{Reply, Request}
use Rattle.store_model.specs.States.{Limits, State, served}
use Rattle.desk_model.proofs.ServedLaws.{at_seq, flush_ordered, no_flush, read_at_any, read_leaves, read_of}
use Rattle.desk_model.specs.Events as event
use Rattle.desk_model.specs.Events.{Event}
use Rattle.desk_model.specs.Answers.{Answer}
use Rattle.desk_model.specs.Desks.{Desk, EventStep, Flush, Plays, SaysIf, ServesFirst, ServesIf, StepsOn, TakesIf, begins, flush_by, has_room, is_read, queue_of, waits}
use Rattle.desk_model.specs.Orders.{RunsAsTaken, RunsFrom, Taken, replies_of, requests_of, taken_first, taken_if, taken_in}
use Rattle.desk_model.proofs.StepLaws.{reads_of}

-- a flush in hand leaves some sequence
abbrev IsOrdered : Option Flush → Type 0
IsOrdered None = Unit {0}
IsOrdered (Some h) = h.least ≤ h.most

-- ---- one event

-- the same run, for a desk with the same flush and the same state
same_run : (limits : Limits) (d t : Desk) (rs : List Request) (ps : List Reply) → t.hand ≡ d.hand
    → t.state ≡ d.state → RunsFrom limits t.hand t.state rs ps → RunsFrom limits d.hand d.state rs ps
same_run limits d t rs ps hand state run =
    subst (λ (h : Option Flush). RunsFrom limits h d.state rs ps) hand
    (subst (λ (s : State). RunsFrom limits t.hand s rs ps) state run)

module _ (limits : Limits) (d t : Desk) (rs : List Request) (ps : List Reply)
    (run : RunsFrom limits t.hand t.state rs ps) where
  unmoved : t ≡ d → RunsFrom limits d.hand d.state rs ps
  unmoved is = same_run limits d t rs ps (ap (λ (x : Desk). x.hand) is) (ap (λ (x : Desk). x.state) is) run

  said : (b : Bool) (s : ℕ) (r : Request) (a : Answer) → SaysIf b s r d a t
      → RunsFrom limits d.hand d.state rs ps
  said true s r a is =
      same_run limits d t rs ps (ap (λ (x : Desk). x.hand) is.1) (ap (λ (x : Desk). x.state) is.1) run
  said false s r a is = unmoved is.1

  -- a request is taken where no flush is in hand
  takes_free : (b : Bool) (s : ℕ) (r : Request) (rest : List Request) (a : Answer) → d.hand ≡ None
      → begins limits d.state r ≡ b → TakesIf b limits s r rest d a t
      → RunsFrom limits None d.state (r ∷ rs) ((served limits d.state r).reply ∷ ps)
  takes_free true s r rest a free loud is =
      let sv = served limits d.state r in
      let h = flush_by limits d.state s r in
      let later : RunsFrom limits (Some h) sv.state rs ps =
      subst (λ (o : Option Flush). RunsFrom limits o sv.state rs ps) (ap (λ (x : Desk). x.hand) is.1)
      (subst (λ (x : State). RunsFrom limits t.hand x rs ps) (ap (λ (x : Desk). x.state) is.1) run) in (
        at_seq sv.state later.0 ∷ later.3,
        (record { replied = refl; state = refl; low = later.1; high = later.2 }, later.4),
      )
  takes_free false s r rest a free quiet is =
      let hand : t.hand ≡ None = ap (λ (x : Desk). x.hand) is.2 ∙ free in
      let later : RunsFrom limits None t.state rs ps =
      subst (λ (o : Option Flush). RunsFrom limits o t.state rs ps) hand run in
      (t.state ∷ later.0, (is.1, later.1))

  -- a read is taken while a flush is in hand
  takes_held : (h : Flush) (s : ℕ) (r : Request) (rest : List Request) (a : Answer) → d.hand ≡ Some h
      → is_read r ≡ true → TakesIf (begins limits d.state r) limits s r rest d a t
      → RunsFrom limits (Some h) d.state (r ∷ rs) ((served limits d.state r).reply ∷ ps)
  takes_held h s r rest a held reads is =
      let read = read_of limits d.state r reads in
      let taken : TakesIf false limits s r rest d a t =
      subst (λ b. TakesIf b limits s r rest d a t) (no_flush limits d.state r reads) is in
      let state : t.state ≡ d.state = read_leaves read taken.1 in
      let hand : t.hand ≡ Some h = ap (λ (x : Desk). x.hand) taken.2 ∙ held in
      let later : RunsFrom limits (Some h) d.state rs ps =
      subst (λ (o : Option Flush). RunsFrom limits o d.state rs ps) hand
      (subst (λ (x : State). RunsFrom limits t.hand x rs ps) state run) in (
        later.0,
        later.1,
        later.2,
        at_seq d.state later.0 ∷ later.3,
        (read_at_any read later.0, later.4),
      )

module _ (limits : Limits) (d t : Desk) (ts : List Taken)
    (run : RunsFrom limits t.hand t.state (requests_of ts) (replies_of ts)) where
  serves : (b : Bool) (s : ℕ) (r : Request) (rest : List Request) (a : Answer) → waits d.hand s r ≡ b
      → ServesIf b limits s r rest d a t
      → RunsFrom limits d.hand d.state (requests_of (taken_if b limits d.state s r ++ ts))
      (replies_of (taken_if b limits d.state s r ++ ts))
  serves true s r rest a w is = unmoved limits d t (requests_of ts) (replies_of ts) run is.1
  serves false s r rest a w is = by d.hand refl w
    where
      by : (o : Option Flush) → d.hand ≡ o → waits o s r ≡ false
          → RunsFrom limits o d.state (r ∷ requests_of ts) ((served limits d.state r).reply ∷ replies_of ts)
      by None e calm = takes_free limits d t (requests_of ts) (replies_of ts) run
          (begins limits d.state r) s r
          rest a e refl is
      by (Some h) e calm = takes_held limits d t (requests_of ts) (replies_of ts) run h s r rest a e
          (reads_of (h.session == s) (is_read r) calm) is

  serves_first : (q : List Request) (s : ℕ) (a : Answer) → ServesFirst q limits s d a t
      → RunsFrom limits d.hand d.state (requests_of (taken_first q limits d s ++ ts))
      (replies_of (taken_first q limits d s ++ ts))
  serves_first [] s a is = unmoved limits d t (requests_of ts) (replies_of ts) run is.1
  serves_first (r ∷ rest) s a is = serves (waits d.hand s r) s r rest a refl is

  steps : (a : Answer) → StepsOn d.hand d a t
      → RunsFrom limits d.hand d.state (requests_of ts) (replies_of ts)
  steps a is = by d.hand refl is
    where
      by : (o : Option Flush) → d.hand ≡ o → StepsOn o d a t
          → RunsFrom limits o d.state (requests_of ts) (replies_of ts)
      by None e still =
          subst (λ (o : Option Flush). RunsFrom limits o d.state (requests_of ts) (replies_of ts)) e
          (unmoved limits d t (requests_of ts) (replies_of ts) run still.1)
      by (Some h) e (inl m) =
          subst (λ (o : Option Flush). RunsFrom limits o d.state (requests_of ts) (replies_of ts))
          (ap (λ (x : Desk). x.hand) m.desk)
          (subst (λ (x : State). RunsFrom limits t.hand x (requests_of ts) (replies_of ts))
          (ap (λ (x : Desk). x.state) m.desk) run)
      by (Some h) e (inr m) =
          let done : RunsFrom limits None (at_seq d.state m.sequence) (requests_of ts) (replies_of ts) =
          subst (λ (o : Option Flush). RunsFrom limits o (at_seq d.state m.sequence) (requests_of ts)
          (replies_of ts)) (ap (λ (x : Desk). x.hand) m.desk)
          (subst (λ (x : State). RunsFrom limits t.hand x (requests_of ts) (replies_of ts))
          (ap (λ (x : Desk). x.state) m.desk) run) in
          (m.sequence, m.low, m.high, done.0, done.1)

-- ---- a flush in hand stays ordered

same_hand : (d t : Desk) → t.hand ≡ d.hand → IsOrdered d.hand → IsOrdered t.hand
same_hand d t is ordered = subst IsOrdered (sym is) ordered

ordered_after : (limits : Limits) (d t : Desk) (e : Event) (a : Answer) → EventStep limits d e a t
    → IsOrdered d.hand → IsOrdered t.hand
ordered_after limits d t (event.say s r) a is ordered = by (has_room d s r) is
  where
    by : (b : Bool) → SaysIf b s r d a t → IsOrdered t.hand
    by true queued = same_hand d t (ap (λ (x : Desk). x.hand) queued.1) ordered
    by false dropped = same_hand d t (ap (λ (x : Desk). x.hand) dropped.1) ordered
ordered_after limits d t (event.serve s) a is ordered = first (queue_of d s) is
  where
    takes : (b : Bool) (r : Request) (rest : List Request) → begins limits d.state r ≡ b
        → TakesIf b limits s r rest d a t → IsOrdered t.hand
    takes true r rest loud taken =
        subst IsOrdered (sym (ap (λ (x : Desk). x.hand) taken.1)) (flush_ordered limits d.state s r loud)
    takes false r rest quiet taken = same_hand d t (ap (λ (x : Desk). x.hand) taken.2) ordered

    by : (b : Bool) (r : Request) (rest : List Request) → ServesIf b limits s r rest d a t
        → IsOrdered t.hand
    by true r rest still = same_hand d t (ap (λ (x : Desk). x.hand) still.1) ordered
    by false r rest taken = takes (begins limits d.state r) r rest refl taken

    first : (q : List Request) → ServesFirst q limits s d a t → IsOrdered t.hand
    first [] still = same_hand d t (ap (λ (x : Desk). x.hand) still.1) ordered
    first (r ∷ rest) taken = by (waits d.hand s r) r rest taken
ordered_after limits d t event.step a is ordered = by d.hand refl is
  where
    by : (o : Option Flush) → d.hand ≡ o → StepsOn o d a t → IsOrdered t.hand
    by None e still = same_hand d t (ap (λ (x : Desk). x.hand) still.1) ordered
    by (Some h) e (inl m) = subst IsOrdered (sym (ap (λ (x : Desk). x.hand) m.desk))
        (subst IsOrdered e ordered)
    by (Some h) e (inr m) = subst IsOrdered (sym (ap (λ (x : Desk). x.hand) m.desk)) tt

-- ---- all events

stops : (limits : Limits) (o : Option Flush) (s : State) → IsOrdered o → RunsFrom limits o s [] []
stops limits None s ordered = ([], tt)
stops limits (Some h) s ordered = (h.least, omega arith, ordered, [], tt)

runs : (limits : Limits) (d : Desk) (es : List Event) (answers : List Answer) (ds : List Desk)
    → IsOrdered d.hand → Plays limits d es answers ds → RunsAsTaken limits d es ds
runs limits d [] [] [] ordered plays = stops limits d.hand d.state ordered
runs limits d (e ∷ es) (a ∷ answers) (t ∷ ds) ordered plays =
    by e plays.0 (runs limits t es answers ds (ordered_after limits d t e a plays.0 ordered) plays.1)
  where
    by : (e : Event) → EventStep limits d e a t
        → RunsFrom limits t.hand t.state (requests_of (taken_in limits t es ds))
        (replies_of (taken_in limits t es ds))
        → RunsAsTaken limits d (e ∷ es) (t ∷ ds)
    by (event.say s r) is run = said limits d t (requests_of (taken_in limits t es ds))
        (replies_of (taken_in limits t es ds)) run (has_room d s r) s r a is
    by (event.serve s) is run =
        serves_first limits d t (taken_in limits t es ds) run (queue_of d s) s a is
    by event.step is run = steps limits d t (taken_in limits t es ds) run a is
runs limits d [] [] (t ∷ ds) ordered plays = absurd plays
runs limits d [] (a ∷ answers) ds ordered plays = absurd plays
runs limits d (e ∷ es) [] ds ordered plays = absurd plays
runs limits d (e ∷ es) (a ∷ answers) [] ordered plays = absurd plays

-- a desk with nothing in hand
pub desk_runs : (limits : Limits) (d : Desk) (es : List Event) (answers : List Answer) (ds : List Desk)
    → d.hand ≡ None → Plays limits d es answers ds → RunsAsTaken limits d es ds
desk_runs limits d es answers ds free plays =
    runs limits d es answers ds (subst IsOrdered (sym free) tt) plays
