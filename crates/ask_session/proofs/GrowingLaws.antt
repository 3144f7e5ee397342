-- Lists of requests, replies and states that grow at their end.
use Rattle.std.specs.Prelude.{◌≡◌, ℕ, ◌+◌, ◌*◌, ◌^◌, ◌≤◌, Bool, true, false, ◌&&◌, if◌then◌else◌, List, [], ◌∷◌, ◌++◌, length, refl}
use Rattle.std.specs.List.{AllByRecursion}
use Rattle.std.proofs.Common.{arith, ap, ◌∙◌, inl, inr}
use Rattle.std.proofs.Math.Nat.{le-max_right}
use Rattle.disk_face.specs.Counts.{counted}
use Rattle.map_model.specs.Requests.{Reply, Request}
use Rattle.store_model.specs.States.{Chain, Limits, State, Step, served}
use Rattle.ask_text.specs.Inputs.{HasText}
use Rattle.ask_session.specs.Serving.{acknowledges, calls_of}
use Rattle.ask_session.proofs.MakesLaws.{saves_few}
use Rattle.ask_session.specs.Runs.{SomeStep, calls_since, last_kept, last_state, most_sequence}

-- ---- lists that grow at their end

pub and_none : (b : Bool) → (b && false) ≡ false
and_none true = refl
and_none false = refl

pub last_more : (s t : State) (states : List State) → last_state s (states ++ t ∷ []) ≡ t
last_more s t [] = refl
last_more s t (u ∷ states) = last_more u t states

pub texts_more : (rs : List Request) (r : Request) → AllByRecursion HasText rs → HasText r
    → AllByRecursion HasText (rs ++ r ∷ [])
texts_more [] r all text = (text, tt)
texts_more (x ∷ rs) r all text = (all.0, texts_more rs r all.1 text)

pub chain_more : (limits : Limits) (s t : State) (rs : List Request) (replies : List Reply)
    (states : List State) (r : Request) (reply : Reply) → Chain limits s rs replies states
    → Step limits (last_state s states) r reply t
    → Chain limits s (rs ++ r ∷ []) (replies ++ reply ∷ []) (states ++ t ∷ [])
chain_more limits s t [] [] [] r reply chain step = (step, tt)
chain_more limits s t (x ∷ rs) (y ∷ replies) (z ∷ states) r reply chain step =
    (chain.0, chain_more limits z t rs replies states r reply chain.1 step)
chain_more limits s t [] [] (z ∷ states) r reply chain step = absurd (chain)
chain_more limits s t [] (y ∷ replies) states r reply chain step = absurd (chain)
chain_more limits s t (x ∷ rs) [] states r reply chain step = absurd (chain)
chain_more limits s t (x ∷ rs) (y ∷ replies) [] r reply chain step = absurd (chain)

pub some_more : (P : State → State → Type 0) (s t : State) (states : List State) → SomeStep P s states
    → SomeStep P s (states ++ t ∷ [])
some_more P s t [] some = absurd (some)
some_more P s t (u ∷ states) (inl is) = inl is
some_more P s t (u ∷ states) (inr some) = inr (some_more P u t states some)

pub some_last : (P : State → State → Type 0) (s t : State) (states : List State) → P (last_state s states) t
    → SomeStep P s (states ++ t ∷ [])
some_last P s t [] is = inl is
some_last P s t (u ∷ states) is = inr (some_last P u t states is)

pub kept_more : (done kept : ℕ) (replies : List Reply) (reply : Reply)
    → last_kept done kept (replies ++ reply ∷ [])
    ≡ (if acknowledges reply then counted done (length replies + 1) else last_kept done kept replies)
kept_more done kept [] reply = ap (λ (n : ℕ). if acknowledges reply then n else kept) refl
kept_more done kept (x ∷ replies) reply =
    kept_more (counted done 1) (if acknowledges x then counted done 1 else kept) replies reply
    ∙ ap (λ (n : ℕ). if acknowledges reply then n
    else last_kept (counted done 1) (if acknowledges x then counted done 1 else kept) replies)
    (omega arith)

pub calls_more : (limits : Limits) (m : ℕ) (s t : State) (states : List State) (rs : List Request)
    (replies : List Reply)
    (r : Request) (reply : Reply) → Chain limits s rs replies states
    → calls_since limits m s (states ++ t ∷ []) (rs ++ r ∷ []) (replies ++ reply ∷ [])
    ≡ (if acknowledges reply then 0
    else calls_since limits m s states rs replies + calls_of limits (last_state s states) r)
calls_more limits m s t [] [] [] r reply chain = refl
calls_more limits m s t (z ∷ states) (x ∷ rs) (y ∷ replies) r reply chain =
    calls_more limits (if acknowledges y then 0 else m + calls_of limits s x) z t states rs replies r
    reply chain.1
calls_more limits m s t (z ∷ states) [] [] r reply chain = absurd (chain)
calls_more limits m s t states [] (y ∷ replies) r reply chain = absurd (chain)
calls_more limits m s t states (x ∷ rs) [] r reply chain = absurd (chain)
calls_more limits m s t [] (x ∷ rs) (y ∷ replies) r reply chain = absurd (chain)

pub chain_long : (limits : Limits) (s : State) (rs : List Request) (replies : List Reply)
    (states : List State)
    → Chain limits s rs replies states → length replies ≡ length rs
chain_long limits s [] [] [] chain = refl
chain_long limits s (x ∷ rs) (y ∷ replies) (z ∷ states) chain =
    let e : length replies ≡ length rs = chain_long limits z rs replies states chain.1 in omega (arith, e)
chain_long limits s [] [] (z ∷ states) chain = absurd (chain)
chain_long limits s [] (y ∷ replies) states chain = absurd (chain)
chain_long limits s (x ∷ rs) [] states chain = absurd (chain)
chain_long limits s (x ∷ rs) (y ∷ replies) [] chain = absurd (chain)

-- a request leaves the bound of those before it
pub saves_within : (limits : Limits) (s : State) (r : Request) (k found : ℕ) → limits.k ≡ k
    → s.sequence ≤ most_sequence k found
    → s.sequence + (served limits s r).saves.most ≤ most_sequence k found
saves_within limits s r k found same low =
    elim (saves_few limits s r)
    as (λ _. s.sequence + (served limits s r).saves.most ≤ most_sequence k found) [
      | inl none ↦ omega (arith, none, low)
      | inr some ↦ omega (arith, some.0, some.1, same, le-max_right found (2 ^ 61 + 2 * k))
    ]
