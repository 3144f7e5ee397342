-- Which requests made the checkpoints of desks.
use Rattle.std.specs.Prelude.{◌≡◌, ◌⊎◌, ℕ, nat_lt, Bool, true, false, List, [], ◌∷◌, IsTrue, refl}
use Rattle.std.proofs.Common.{ap, sym, ◌∙◌, subst, inl, inr}
use Rattle.map_model.specs.Requests as ask
use Rattle.map_model.specs.Requests.{Reply, Request}
use Rattle.store_model.specs.States.{Limits, Served, State, served}
use Rattle.ask_session.proofs.MakesLaws.{MakesNone, MakesOne, makes}
use Rattle.desk_model.specs.Answers.{Answer}
use Rattle.desk_model.specs.Desks.{Desk, EventStep, Plays, SaysIf, ServesFirst, ServesIf, TakesIf, begins, has_room, queue_of, waits}
use Rattle.desk_model.specs.Events as event
use Rattle.desk_model.specs.Events.{Event}
use Rattle.desk_core.specs.Images.{Checkpoint, IsDeskImage, IsMadeImage, OpensTo, SomeDesk, SomeMade, kept_of, makes_checkpoint, now_of}
use Rattle.desk_core.proofs.ImageLaws.{steps_kept}

-- the checkpoint stays, or it is what stands after a request whose answer tells of it
abbrev Makes : Desk → Answer → Desk → Type 0
Makes d a t = (kept_of t.state ≡ kept_of d.state)
    ⊎ (IsTrue (makes_checkpoint a) × (kept_of t.state ≡ now_of t.state))

said_makes : (b : Bool) (s : ℕ) (r : Request) (d : Desk) (a : Answer) (t : Desk) → SaysIf b s r d a t
    → Makes d a t
said_makes true s r d a t is = inl (ap (λ (y : Desk). kept_of y.state) is.1)
said_makes false s r d a t is = inl (ap (λ (y : Desk). kept_of y.state) is.1)

-- a request that begins a flush makes one
begins_one : (limits : Limits) (t : State) (r : Request) → begins limits t r ≡ true
    → MakesNone t (served limits t r) → ⊥
begins_one limits t (ask.change c) is none =
    let e : true ≡ false = sym is ∙ ap (nat_lt 0) none.least in absurd (cc)
begins_one limits t (ask.get name) is none = absurd (let e : false ≡ true = is in cc)
begins_one limits t (ask.old name) is none = absurd (let e : false ≡ true = is in cc)
begins_one limits t ask.keep is none = absurd (let e : false ≡ true = is in cc)
begins_one limits t ask.back is none = absurd (let e : false ≡ true = is in cc)
begins_one limits t ask.list is none = absurd (let e : false ≡ true = is in cc)
begins_one limits t ask.stat is none = absurd (let e : false ≡ true = is in cc)

one_now : (x : Served) → MakesOne x → kept_of x.state ≡ now_of x.state
one_now x one = λ i. record { map = one.kept i; book = one.book i }

none_kept : (t : State) (x : Served) → MakesNone t x → kept_of x.state ≡ kept_of t
none_kept t x none = λ i. record { map = none.kept i; book = none.book i }

takes_makes : (limits : Limits) (b : Bool) (s : ℕ) (r : Request) (rest : List Request) (d : Desk) (a : Answer)
    (t : Desk) → begins limits d.state r ≡ b → TakesIf b limits s r rest d a t → Makes d a t
takes_makes limits true s r rest d a t loud is = elim (makes limits d.state r) as (λ _. Makes d a t) [
  | inl one ↦
      let x = served limits d.state r in
      let state : t.state ≡ x.state = ap (λ (y : Desk). y.state) is.1 in
      inr (
        ap makes_checkpoint is.0,
        ap kept_of state ∙ one_now x one ∙ sym (ap now_of state),
      )
  | inr none ↦ absurd (begins_one limits d.state r loud none)
]
takes_makes limits false s r rest d a t quiet is = elim (makes limits d.state r) as (λ _. Makes d a t) [
  | inl one ↦
      let x = served limits d.state r in
      inr (
        ap makes_checkpoint is.0 ∙ one.acknowledged,
        ap kept_of is.1.state ∙ one_now x one ∙ sym (ap now_of is.1.state),
      )
  | inr none ↦ inl (ap kept_of is.1.state ∙ none_kept d.state (served limits d.state r) none)
]

serves_makes : (limits : Limits) (q : List Request) (s : ℕ) (d : Desk) (a : Answer) (t : Desk)
    → ServesFirst q limits s d a t → Makes d a t
serves_makes limits [] s d a t is = inl (ap (λ (y : Desk). kept_of y.state) is.1)
serves_makes limits (r ∷ rest) s d a t is = by (waits d.hand s r) is
  where
    by : (b : Bool) → ServesIf b limits s r rest d a t → Makes d a t
    by true x = inl (ap (λ (y : Desk). kept_of y.state) x.1)
    by false x = takes_makes limits (begins limits d.state r) s r rest d a t refl x

event_makes : (limits : Limits) (d : Desk) (e : Event) (a : Answer) (t : Desk) → EventStep limits d e a t
    → Makes d a t
event_makes limits d (event.say s r) a t is = said_makes (has_room d s r) s r d a t is
event_makes limits d (event.serve s) a t is = serves_makes limits (queue_of d s) s d a t is
event_makes limits d event.step a t is = inl (steps_kept d.hand d a t is)

-- ---- in a run

module _ (C : ℕ) (limits : Limits) (image : List ℕ) where
  abbrev IsMade : Desk → List Answer → List Desk → Type 0
  IsMade d answers ds = OpensTo C (kept_of d.state) image
      ⊎ SomeMade (λ t. OpensTo C (now_of t) image) answers ds

  -- what opens to the checkpoint after an event
  one_made : (d : Desk) (a : Answer) (t : Desk) (answers : List Answer) (ds : List Desk) → Makes d a t
      → OpensTo C (kept_of t.state) image → IsMade d (a ∷ answers) (t ∷ ds)
  one_made d a t answers ds (inl same) is = inl (subst (λ (x : Checkpoint). OpensTo C x image) same is)
  one_made d a t answers ds (inr made) is =
      inr (inl (made.0, subst (λ (x : Checkpoint). OpensTo C x image) made.1 is))

  some_made : (d : Desk) (es : List Event) (answers : List Answer) (ds : List Desk)
      → Plays limits d es answers ds → SomeDesk (λ t. OpensTo C (kept_of t.state) image) ds
      → IsMade d answers ds
  some_made d [] [] [] plays some = absurd some
  some_made d [] [] (t ∷ ds) plays some = absurd plays
  some_made d [] (a ∷ answers) ds plays some = absurd plays
  some_made d (e ∷ es) [] ds plays some = absurd plays
  some_made d (e ∷ es) (a ∷ answers) [] plays some = absurd plays
  some_made d (e ∷ es) (a ∷ answers) (t ∷ ds) plays (inl is) =
      one_made d a t answers ds (event_makes limits d e a t plays.0) is
  some_made d (e ∷ es) (a ∷ answers) (t ∷ ds) plays (inr some) =
      elim (some_made t es answers ds plays.1 some) as (λ _. IsMade d (a ∷ answers) (t ∷ ds)) [
        | inl is ↦ one_made d a t answers ds (event_makes limits d e a t plays.0) is
        | inr made ↦ inr (inr made)
      ]

pub images_made : (C : ℕ) (k : Checkpoint) (limits : Limits) (d : Desk) (es : List Event)
    (answers : List Answer) (ds : List Desk) (image : List ℕ) → Plays limits d es answers ds
    → IsDeskImage C k d ds image → IsMadeImage C k d answers ds image
images_made C k limits d es answers ds image plays (inl is) = inl is
images_made C k limits d es answers ds image plays (inr some) =
    inr (some_made C limits image d es answers ds plays some)
