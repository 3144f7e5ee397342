-- What a request makes: a checkpoint of what stands then, or none.
use Rattle.std.specs.Prelude.{◌≡◌, ◌⊎◌, ℕ, ◌+◌, ◌*◌, ◌^◌, ◌<◌, ◌≤◌, nat_le, Bool, true, false, not, List, [], ◌∷◌, ◌++◌, Option, Some, None, refl}
use Rattle.std.proofs.Common.{arith, sym, subst, inl, inr}
use Rattle.std.proofs.lemmas.Bool.{leb-false}
use Rattle.map_model.specs.Requests as ask
use Rattle.map_model.specs.Requests.{Change, Refused, Request}
use Rattle.segment_layout.specs.Books.{is_damaged, next_book}
use Rattle.slot_codec.specs.Names.{is_name}
use Rattle.store_model.specs.States.{Facts, Limits, Served, State, accepted, facts_of, first_refusal, object_in, object_tests, refusal, served, served_change, worn_test}
use Rattle.store_model.proofs.RequestLaws.{served_by}
use Rattle.store_model.proofs.StepLaws.{read_reply}
use Rattle.ask_session.specs.Serving.{acknowledges}

-- ---- what a request makes

-- a checkpoint of what stands then
pub record MakesOne (x : Served) : Type 0 where
  pub least : x.saves.least ≡ 1
  pub acknowledged : acknowledges x.reply ≡ true
  pub kept : x.state.kept ≡ x.state.map
  pub book : x.state.kept_book ≡ x.state.book

-- or none
pub record MakesNone (s : State) (x : Served) : Type 0 where
  pub least : x.saves.least ≡ 0
  pub acknowledged : acknowledges x.reply ≡ false
  pub kept : x.state.kept ≡ s.kept
  pub book : x.state.kept_book ≡ s.kept_book

change_makes : (limits : Limits) (s : State) (c : Change) (q : Bool)
    → (next_book limits.k s.map s.book c).quiet ≡ q
    → MakesOne (served_change limits s c) ⊎ MakesNone s (served_change limits s c)
change_makes limits s c true is = inr (record {
  least = rw is refl;
  acknowledged = rw is refl;
  kept = rw is refl;
  book = rw is refl;
})
change_makes limits s c false is = inl (record {
  least = rw is refl;
  acknowledged = rw is refl;
  kept = rw is refl;
  book = rw is refl;
})

-- a read acknowledges none, whether the object is damaged or not
pub acknowledges_none : (damaged : Bool) (object : List ℕ)
    → acknowledges (read_reply damaged (ask.found object)) ≡ false
acknowledges_none true object = refl
acknowledges_none false object = refl

accepted_makes : (limits : Limits) (s : State) (r : Request)
    → MakesOne (accepted limits s r) ⊎ MakesNone s (accepted limits s r)
accepted_makes limits s (ask.change c) = change_makes limits s c
    (next_book limits.k s.map s.book c).quiet refl
accepted_makes limits s (ask.get name) = inr (record {
  least = refl;
  acknowledged = acknowledges_none (is_damaged s.book s.map name) (object_in s.map name);
  kept = refl;
  book = refl;
})
accepted_makes limits s (ask.old name) = inr (record {
  least = refl;
  acknowledged = acknowledges_none (is_damaged s.kept_book s.kept name) (object_in s.kept name);
  kept = refl;
  book = refl;
})
accepted_makes limits s ask.keep = inl
    (record { least = refl; acknowledged = refl; kept = refl; book = refl })
accepted_makes limits s ask.back = inr
    (record { least = refl; acknowledged = refl; kept = refl; book = refl })
accepted_makes limits s ask.list = inr
    (record { least = refl; acknowledged = refl; kept = refl; book = refl })
accepted_makes limits s ask.stat = inr
    (record { least = refl; acknowledged = refl; kept = refl; book = refl })

pub makes : (limits : Limits) (s : State) (r : Request)
    → MakesOne (served limits s r) ⊎ MakesNone s (served limits s r)
makes limits s r = by (refusal limits (facts_of s r) r) refl
  where
    by : (o : Option Refused) → refusal limits (facts_of s r) r ≡ o
        → MakesOne (served limits s r) ⊎ MakesNone s (served limits s r)
    by None is = subst (λ (x : Served). MakesOne x ⊎ MakesNone s x) (sym (served_by limits s r None is))
        (accepted_makes limits s r)
    by (Some w) is = subst (λ (x : Served). MakesOne x ⊎ MakesNone s x) (sym (served_by limits s r
        (Some w) is))
        (inr (record { least = refl; acknowledged = refl; kept = refl; book = refl }))

-- ---- how many checkpoints it may save

first_passed : (test : Bool) (why : Refused) (tests : List (Bool × Refused))
    → first_refusal ((test, why) ∷ tests) ≡ None → first_refusal tests ≡ None
first_passed true why tests is = absurd (cc)
first_passed false why tests is = is

-- where no test refuses, the last doesn't: the sequence is below 2^61
last_passed : (tests : List (Bool × Refused)) (f : Facts) → first_refusal (tests ++ worn_test f) ≡ None
    → f.sequence < 2 ^ 61
last_passed [] f is = by (nat_le (2 ^ 61) f.sequence) refl
  where
    by : (b : Bool) → nat_le (2 ^ 61) f.sequence ≡ b → f.sequence < 2 ^ 61
    by false same = leb-false (2 ^ 61) f.sequence same
    by true same = absurd (let e : ◌≡◌ {A = Option Refused} (Some ask.worn) None = rw same at is in cc)
last_passed ((test, why) ∷ tests) f is = last_passed tests f (first_passed test why (tests ++ worn_test f) is)

-- None, or at most 2k + 1 where the sequence is below 2^61.
abbrev pub SavesFew : Limits → State → Served → Type 0
SavesFew limits s x = (x.saves.most ≡ 0)
    ⊎ ((s.sequence < 2 ^ 61) × (x.saves.most ≤ 2 * limits.k + 1))

change_saves : (limits : Limits) (s : State) (c : Change) (q : Bool)
    → (next_book limits.k s.map s.book c).quiet ≡ q → s.sequence < 2 ^ 61
    → SavesFew limits s (served_change limits s c)
change_saves limits s c true is low = inl (rw is refl)
change_saves limits s c false is low =
    inr (
      low,
      let n : (served_change limits s c).saves.most ≡ 2 * limits.k
          + 1 = rw is refl in omega (arith, n),
    )

accepted_saves : (limits : Limits) (s : State) (r : Request) → refusal limits (facts_of s r) r ≡ None
    → SavesFew limits s (accepted limits s r)
accepted_saves limits s (ask.change c) is =
    let f = facts_of s (ask.change c) in
    change_saves limits s c (next_book limits.k s.map s.book c).quiet refl
    (last_passed (object_tests limits f c.object) f (first_passed (not_name c.name) ask.bad_name
    (object_tests limits f c.object ++ worn_test f) is))
  where
    not_name : List ℕ → Bool
    not_name name = not (is_name name)
accepted_saves limits s (ask.get name) is = inl refl
accepted_saves limits s (ask.old name) is = inl refl
accepted_saves limits s ask.keep is = inr (last_passed [] (facts_of s ask.keep) is, omega arith)
accepted_saves limits s ask.back is = inl refl
accepted_saves limits s ask.list is = inl refl
accepted_saves limits s ask.stat is = inl refl

pub saves_few : (limits : Limits) (s : State) (r : Request) → SavesFew limits s (served limits s r)
saves_few limits s r = by (refusal limits (facts_of s r) r) refl
  where
    by : (o : Option Refused) → refusal limits (facts_of s r) r ≡ o → SavesFew limits s (served limits s r)
    by None is = subst (SavesFew limits s) (sym (served_by limits s r None is)) (accepted_saves limits s r is)
    by (Some w) is = subst (SavesFew limits s) (sym (served_by limits s r (Some w) is)) (inl refl)
