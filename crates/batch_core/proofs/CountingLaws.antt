-- A batch whose changes are counted from the left.
use Rattle.std.specs.Prelude.{◌≡◌, ℕ, ◌+◌, ◌<◌, ◌≤◌, nat_lt, length, Bool, true, false, ◌&&◌, ◌||◌, if◌then◌else◌, List, ◌++◌, is_some, Some}
use Rattle.std.proofs.Common.{arith, ap, sym, ◌∙◌, subst, length-append}
use Rattle.std.proofs.lemmas.Bool.{and_parts, cond-true, cond-false, ltb-true}
use Rattle.std.specs.List.{AllByRecursion}
use Rattle.map_model.specs.Requests as ask
use Rattle.map_model.specs.Requests.{Change}
use Rattle.ask_text.specs.Inputs.{request_text}
use Rattle.store_model.specs.Connection.{StoreValue, live_cap}
use Rattle.batch_model.specs.Batches.{IsPart}
use Rattle.batch_model.specs.Fits.{count_after, counted_from}
use Rattle.batch_model.specs.Parts.{CanStand}
use Rattle.batch_model.proofs.CheckLaws.{text_some}
use Rattle.batch_model.proofs.NextLaws.{IsNext, next_part}
use Rattle.batch_core.specs.Doing.{IsCounting, is_live, misfit_in}

module _ (again : Bool) (s : StoreValue) (changes : List Change) (rest behind : List ℕ) (count n : ℕ)
    (d : Change) (is : IsCounting again s changes rest count n) (stands : CanStand d)
    (read : rest ≡ request_text (ask.change d) ++ behind) where
  next : IsNext d behind is.others
  next = next_part rest behind d is.others stands is.parts is.text read

  abbrev live : Bool
  live = is_live s d.name

  abbrev after : ℕ
  after = count_after live d.object count

  abbrev test : Bool
  test = (is_some d.object || again || live) && nat_lt after (live_cap s)

  counted : misfit_in again s changes ≡ (if test
      then counted_from again (live_cap s) (n + 1) (is_live s) after next.others else Some n)
  counted = is.same ∙ ap (counted_from again (live_cap s) n (is_live s) count) next.first

  -- what the code computes of it
  module _ (found : Bool) (left cap : ℕ) (answer : Bool) (same_live : found ≡ live)
      (same_left : left ≡ count_after found d.object count) (same_cap : cap ≡ live_cap s)
      (same_answer : answer ≡ ((is_some d.object || again || found) && nat_lt left cap)) where
    left_is : left ≡ after
    left_is = same_left ∙ ap (λ (b : Bool). count_after b d.object count) same_live

    test_is : test ≡ answer
    test_is = sym (same_answer
        ∙ (λ i. (is_some d.object || again || same_live i) && nat_lt (left_is i) (same_cap i)))

    pub counting_stops : answer ≡ false → Some n ≡ misfit_in again s changes
    counting_stops stops = sym (counted ∙ cond-false test
        (counted_from again (live_cap s) (n + 1) (is_live s) after next.others) (Some n) (test_is ∙ stops))

    pub counting_more : answer ≡ true → IsCounting again s changes behind left (n + 1)
    counting_more goes =
        subst (λ (k : ℕ). IsCounting again s changes behind k (n + 1)) (sym left_is) (record {
          others = next.others;
          text = next.rest;
          parts = (subst (λ (cs : List Change). AllByRecursion IsPart cs) next.first is.parts).1;
          same = counted ∙ cond-true test
              (counted_from again (live_cap s) (n + 1) (is_live s) after next.others) (Some n)
              (test_is ∙ goes);
        })

-- fewer than there may be are left
pub counting_low : (some : Bool) (left cap : ℕ) (answer : Bool) → answer ≡ (some && nat_lt left cap)
    → answer ≡ true → left < cap
counting_low some left cap answer is goes = ltb-true left cap (and_parts some (nat_lt left cap)
    (sym is ∙ goes)).1

-- less of the text is left
pub counting_few : (rest behind text : List ℕ) (n : ℕ) (d : Change)
    → rest ≡ request_text (ask.change d) ++ behind → n + length rest ≤ length text + 1
    → n + 1 + length behind ≤ length text + 1
counting_few rest behind text n d read few = omega (
  arith,
  few,
  ap length read,
  length-append (request_text (ask.change d)) behind,
  text_some d,
)
