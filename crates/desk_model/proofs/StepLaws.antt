-- While a flush is in hand each object that is moved leaves it fewer steps.
use Rattle.std.specs.Prelude.{◌≡◌, ℕ, ◌+◌, ◌≤◌, ◌==◌, Bool, true, false, not, ◌||◌, List, [], ◌∷◌, Option, Some, None, is_some, refl}
use Rattle.std.proofs.Common.{arith, ap, sym, ◌∙◌, subst, inl, inr}
use Rattle.std.specs.List.{AllByRecursion}
use Rattle.std.proofs.lemmas.Bool.{true≢false}
use Rattle.std.proofs.lemmas.List.Sums.{sum_by-cons}
use Rattle.map_model.specs.Requests.{Request}
use Rattle.store_model.specs.States.{Limits}
use Rattle.desk_model.proofs.ServedLaws.{no_flush}
use Rattle.desk_model.specs.Events as event
use Rattle.desk_model.specs.Events.{Event}
use Rattle.desk_model.specs.Answers.{Answer}
use Rattle.desk_model.specs.Desks.{Desk, EventStep, Flush, Plays, SaysIf, ServesFirst, ServesIf, StepsOn, TakesIf, begins, has_room, is_read, last_desk, queue_of, waits}
use Rattle.desk_model.specs.Orders.{HasFlush, left_of, moved_by, moved_in}

-- what an event does to a flush that stays in hand
record Lasts (d t : Desk) (a : Answer) : Type 0 where
  fewer : moved_by a + left_of t.hand ≤ left_of d.hand
  some : 1 ≤ left_of d.hand → 1 ≤ left_of t.hand

stays : (d t : Desk) (a : Answer) → moved_by a ≡ 0 → t.hand ≡ d.hand → Lasts d t a
stays d t a none is =
    let same = ap left_of is in
    record { fewer = omega (arith, none, same); some = λ one. omega (arith, one, same) }

-- what doesn't wait while a flush is in hand is a read
pub reads_of : (a b : Bool) → (a || not b) ≡ false → b ≡ true
reads_of true b is = absurd (cc)
reads_of false true is = refl
reads_of false false is = absurd (cc)

module _ (limits : Limits) (d t : Desk) (has : HasFlush d) (still : HasFlush t) where
  says : (b : Bool) (s : ℕ) (r : Request) (a : Answer) → SaysIf b s r d a t → Lasts d t a
  says true s r a is = stays d t a (ap moved_by is.0) (ap (λ (x : Desk). x.hand) is.1)
  says false s r a is = stays d t a (ap moved_by is.0) (ap (λ (x : Desk). x.hand) is.1)

  takes : (o : Option Flush) (s : ℕ) (r : Request) (rest : List Request) (a : Answer) → d.hand ≡ o
      → waits o s r ≡ false → TakesIf (begins limits d.state r) limits s r rest d a t → Lasts d t a
  takes None s r rest a hand calm is = absurd (true≢false (sym has ∙ ap is_some hand))
  takes (Some h) s r rest a hand calm is =
      let taken : TakesIf false limits s r rest d a t =
      subst (λ b. TakesIf b limits s r rest d a t)
      (no_flush limits d.state r (reads_of (h.session == s) (is_read r) calm)) is in
      stays d t a (ap moved_by taken.0) (ap (λ (x : Desk). x.hand) taken.2)

  serves : (b : Bool) (s : ℕ) (r : Request) (rest : List Request) (a : Answer) → waits d.hand s r ≡ b
      → ServesIf b limits s r rest d a t → Lasts d t a
  serves true s r rest a w is = stays d t a (ap moved_by is.0) (ap (λ (x : Desk). x.hand) is.1)
  serves false s r rest a w is = takes d.hand s r rest a refl w is

  serves_first : (q : List Request) (s : ℕ) (a : Answer) → ServesFirst q limits s d a t → Lasts d t a
  serves_first [] s a is = stays d t a (ap moved_by is.0) (ap (λ (x : Desk). x.hand) is.1)
  serves_first (r ∷ rest) s a is = serves (waits d.hand s r) s r rest a refl is

  steps : (o : Option Flush) (a : Answer) → d.hand ≡ o → StepsOn o d a t → Lasts d t a
  steps None a hand is = absurd (true≢false (sym has ∙ ap is_some hand))
  steps (Some h) a hand (inl m) =
      let before = ap left_of hand in
      let after = ap (λ (x : Desk). left_of x.hand) m.desk in
      record {
        fewer = omega (arith, ap moved_by m.says, before, after, m.fewer);
        some = λ one. omega (arith, after, m.some);
      }
  steps (Some h) a hand (inr m) =
      absurd (true≢false (sym still ∙ ap (λ (x : Desk). is_some x.hand) m.desk))

  lasts : (e : Event) (a : Answer) → EventStep limits d e a t → Lasts d t a
  lasts (event.say s r) a is = says (has_room d s r) s r a is
  lasts (event.serve s) a is = serves_first (queue_of d s) s a is
  lasts event.step a is = steps d.hand a refl is

pub few_moved : (limits : Limits) (d : Desk) (es : List Event) (answers : List Answer) (ds : List Desk)
    → HasFlush d → 1 ≤ left_of d.hand → AllByRecursion HasFlush ds → Plays limits d es answers ds
    → (moved_in answers + left_of (last_desk d ds).hand ≤ left_of d.hand)
    × (1 ≤ left_of (last_desk d ds).hand)
few_moved limits d [] [] [] has some all plays = (omega arith, some)
few_moved limits d (e ∷ es) (a ∷ answers) (t ∷ ds) has some all plays =
    let one = lasts limits d t has all.0 e a plays.0 in
    let more = few_moved limits t es answers ds all.0 (one.some some) all.1 plays.1 in
    (omega (arith, one.fewer, more.0, sum_by-cons moved_by a answers), more.1)
few_moved limits d [] [] (t ∷ ds) has some all plays = absurd plays
few_moved limits d [] (a ∷ answers) ds has some all plays = absurd plays
few_moved limits d (e ∷ es) [] ds has some all plays = absurd plays
few_moved limits d (e ∷ es) (a ∷ answers) [] has some all plays = absurd plays
