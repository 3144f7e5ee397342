-- Lists of a run: which requests of an input were answered, and which state its last checkpoint has.
use Rattle.std.specs.Prelude.{◌≡◌, ◌⊎◌, ℕ, suc, ◌+◌, ◌≤◌, Bool, true, false, if◌then◌else◌, List, [], ◌∷◌, ◌++◌, length, flat_map, Option, Some, None, refl, codes}
use Rattle.std.specs.List.{AllByRecursion}
use Rattle.std.proofs.Common.{arith, ap, sym, ◌∙◌, subst, inl, inr, append_assoc, append-nil, length-append}
use Rattle.disk_face.specs.Counts.{counted, last}
use Rattle.map_model.specs.Requests as ask
use Rattle.map_model.specs.Requests.{Change, Refused, Reply, Request}
use Rattle.segment_layout.specs.Books.{next_book}
use Rattle.store_model.specs.States.{Chain, Limits, Served, State, Step, accepted, facts_of, refusal, served, served_change}
use Rattle.store_model.proofs.RequestLaws.{served_by, served_sequence}
use Rattle.ask_text.specs.Asks.{ask_of, line_of}
use Rattle.ask_text.specs.Inputs.{Asks, BeginsNone, HasText, body_of, request_text}
use Rattle.ask_text.proofs.InputLaws.{text_one, text_some}
use Rattle.ask_session.specs.Serving.{acknowledges}
use Rattle.ask_session.specs.Runs.{last_kept, last_state}
use Rattle.ask_session.proofs.MakesLaws.{makes}
use Rattle.served_file.specs.Served.{IsKept, state_after}
use Rattle.served_file.proofs.ShownLaws.{kept_later, now_kept, now_book, replied_as}

-- ---- what a request leaves

-- ---- requests

-- the requests of an input are those that stand in front, and others
pub record Splits (requests answered : List Request) (rest end : List ℕ) : Type 0 where
  pub others : List Request
  pub split : requests ≡ answered ++ others
  pub asks : Asks rest others end

pub splits : (answered requests : List Request) (input rest end : List ℕ) → AllByRecursion HasText answered
    → Asks input requests end → input ≡ flat_map request_text answered ++ rest
    → Splits requests answered rest end
splits [] requests input rest end texts asks is = record {
  others = requests;
  split = refl;
  asks = subst (λ (xs : List ℕ). Asks xs requests end) is asks;
}
splits (x ∷ answered) [] input rest end texts asks is =
    absurd (asks.ended x (flat_map request_text answered ++ rest) texts.0
    (sym asks.whole ∙ is ∙ append_assoc (request_text x) (flat_map request_text answered) rest))
splits (x ∷ answered) (r ∷ requests) input rest end texts asks is =
    let one = text_one r x (flat_map request_text requests ++ end) (flat_map request_text answered ++ rest)
    asks.each.0 texts.0 (sym (append_assoc (request_text r) (flat_map request_text requests) end)
    ∙ sym asks.whole ∙ is ∙ append_assoc (request_text x) (flat_map request_text answered) rest) in
    let tail : Splits requests answered rest end = splits answered requests
    (flat_map request_text requests ++ end) rest end texts.1
    (record { whole = refl; each = asks.each.1; ended = asks.ended }) one.1 in
    let same : r ≡ x = one.0 in
    record {
      others = tail.others;
      split = ap (λ (y : Request). y ∷ requests) same ∙ ap (λ (ys : List Request). x ∷ ys) tail.split;
      asks = tail.asks;
    }

-- one that stands in front is the next
pub record IsNext (others : List Request) (r : Request) : Type 0 where
  pub more : List Request
  pub is : others ≡ r ∷ more

pub next_is : (r : Request) (others : List Request) (rest more end : List ℕ) → HasText r
    → Asks rest others end
    → rest ≡ request_text r ++ more → IsNext others r
next_is r others rest more end text asks is =
    let s = splits (r ∷ []) others rest more end (text, tt) asks
    (is ∙ ap (λ (xs : List ℕ). xs ++ more) (sym (append-nil (request_text r)))) in
    record { more = s.others; is = s.split }

-- where none stands in front there is none
pub none_next : (others : List Request) (rest end : List ℕ) → Asks rest others end → BeginsNone rest
    → (others ≡ []) × (rest ≡ end)
none_next [] rest end asks none = (refl, asks.whole)
none_next (r ∷ others) rest end asks none =
    absurd (none r (flat_map request_text others ++ end) asks.each.0
    (asks.whole ∙ append_assoc (request_text r) (flat_map request_text others) end))

pub begins_none : BeginsNone []
begins_none r rest text is =
    omega (arith, text_some r, length-append (request_text r) rest, ap (λ (xs : List ℕ). length xs) is)

-- The checkpoint of the last state is that of the first, where none was acknowledged, or what stood after
-- the last request that was acknowledged.
abbrev pub LastIs : ℕ → ℕ → State → List Reply → List State → Type 0
LastIs done kept s replies states =
    ((last_kept done kept replies ≡ kept) × ((last_state s states).kept ≡ s.kept)
    × ((last_state s states).kept_book ≡ s.kept_book))
    ⊎ ((i : ℕ) × IsKept replies i × (last_kept done kept replies ≡ done + i)
    × ((last_state s states).kept ≡ (state_after s states i).map)
    × ((last_state s states).kept_book ≡ (state_after s states i).book))

module _ (limits : Limits) (s t : State) (r : Request) (reply : Reply) (step : Step limits s r reply t)
    (done kept : ℕ) (few : done + 1 ≤ last) (replies : List Reply) (states : List State) where
  one_more : counted done 1 ≡ done + 1
  one_more = omega (arith, few)

  same_by : (a : Bool) → acknowledges reply ≡ a
      → (last_kept (counted done 1) (if acknowledges reply then counted done 1 else kept) replies
      ≡ (if acknowledges reply then counted done 1 else kept))
      → (last_state t states).kept ≡ t.kept → (last_state t states).kept_book ≡ t.kept_book
      → LastIs done kept s (reply ∷ replies) (t ∷ states)
  same_by true is number same book = elim (makes limits s r)
      as (λ _. LastIs done kept s (reply ∷ replies) (t ∷ states)) [
        | inl one ↦ inr (
          1,
          is,
          number ∙ ap (λ (k : Bool). if k then counted done 1 else kept) is ∙ one_more,
          same ∙ now_kept limits s t r reply step ∙ one.kept ∙ ap (λ (y : State). y.map) (sym step.state),
          book ∙ now_book limits s t r reply step ∙ one.book ∙ ap (λ (y : State). y.book) (sym step.state),
        )
        | inr none ↦ absurd (let e : true ≡ false = sym is ∙ replied_as limits s t r reply step ∙
            none.acknowledged in cc)
      ]
  same_by false is number same book = elim (makes limits s r)
      as (λ _. LastIs done kept s (reply ∷ replies) (t ∷ states)) [
        | inl one ↦ absurd (let e : true ≡ false = sym one.acknowledged ∙ sym
            (replied_as limits s t r reply step) ∙ is in cc)
        | inr none ↦ inl (
          number ∙ ap (λ (k : Bool). if k then counted done 1 else kept) is,
          same ∙ now_kept limits s t r reply step ∙ none.kept,
          book ∙ now_book limits s t r reply step ∙ none.book,
        )
      ]

  kept_last : LastIs (counted done 1) (if acknowledges reply then counted done 1 else kept) t replies states
      → LastIs done kept s (reply ∷ replies) (t ∷ states)
  kept_last (inl same) = same_by (acknowledges reply) refl same.0 same.1 same.2
  kept_last (inr one) = inr (
    suc one.0,
    kept_later reply replies one.0 one.1,
    omega
        (arith, one.2, one_more),
    one.3,
    one.4,
  )

pub last_is : (limits : Limits) (done kept : ℕ) (s : State) (rs : List Request) (replies : List Reply)
    (states : List State) → Chain limits s rs replies states → done + length rs ≤ last
    → LastIs done kept s replies states
last_is limits done kept s [] [] [] chain few = inl (refl, refl, refl)
last_is limits done kept s (r ∷ rs) (reply ∷ replies) (t ∷ states) chain few =
    let one : counted done 1 ≡ done + 1 = omega (arith, few) in
    kept_last limits s t r reply chain.0 done kept (omega (arith, few)) replies states
    (last_is limits (counted done 1) (if acknowledges reply then counted done 1 else kept) t rs replies states
    chain.1 (omega (arith, few, one)))
last_is limits done kept s [] [] (t ∷ states) chain few = absurd (chain)
last_is limits done kept s [] (reply ∷ replies) states chain few = absurd (chain)
last_is limits done kept s (r ∷ rs) [] states chain few = absurd (chain)
last_is limits done kept s (r ∷ rs) (reply ∷ replies) [] chain few = absurd (chain)
