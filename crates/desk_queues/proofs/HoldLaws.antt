-- What waits, by session, after one session's requests changed.
use Rattle.std.specs.Prelude.{◌≡◌, ℕ, suc, ◌+◌, ◌*◌, ◌<◌, ◌≤◌, ◌==◌, Bool, true, false, List, [], ◌∷◌, ◌++◌, length, slice_index_or, slice_set, refl}
use Rattle.std.proofs.Common.{arith, ap, sym, ◌∙◌, length-append}
use Rattle.std.specs.List.{AllByRecursion}
use Rattle.std.proofs.lemmas.Bool.{eq-eqb, eqb-true, true≢false}
use Rattle.std.proofs.lemmas.Grind.{flat_map-append}
use Rattle.std.proofs.lemmas.List.{append-nil, get_or-set_same, get_or-set_other, length-set}
use Rattle.std.proofs.lemmas.List.Sums.{sum_by-cons, sum_by-set}
use Rattle.std.specs.Prelude.{codes}
use Rattle.map_model.specs.Requests.{Request}
use Rattle.ask_text.specs.Asks.{ask_of, line_of}
use Rattle.ask_text.specs.Inputs.{HasText, body_of, request_text}
use Rattle.desk_model.specs.Events.{sessions}
use Rattle.desk_model.specs.Desks.{ring, texts_of, waiting}
use Rattle.desk_queues.specs.Queues.{Holds, HoldsTexts, Queued, requests_at, ring_of}
use Rattle.desk_queues.specs.Taken.{BeginsText}
use Rattle.ask_text.proofs.InputLaws.{text_some}

-- ---- counts

-- there are no more requests than bytes
texts_few : (q : List Request) → length q ≤ length (texts_of q)
texts_few [] = omega arith
texts_few (r ∷ q) = omega (arith, text_some r, texts_few q, length-append (request_text r) (texts_of q))

few_at : (rings : List (List ℕ)) (qs : List (List Request)) → length rings ≡ length qs
    → ((s : ℕ) → s < length qs → HoldsTexts (slice_index_or rings s []) (slice_index_or qs s []))
    → waiting qs ≤ ring * length qs
few_at [] [] same each = omega arith
few_at [] (q ∷ qs) same each = absurd (omega (arith, same))
few_at (x ∷ xs) [] same each = absurd (omega (arith, same))
few_at (x ∷ xs) (q ∷ qs) same each =
    let first = each 0 (omega arith) in
    omega (
      arith,
      texts_few q,
      ap length first.texts,
      first.short,
      few_at xs qs (omega (arith, same)) (λ s within. each (suc s) (omega arith)),
      sum_by-cons (λ (q : List Request). length q) q qs,
    )

pub count_few : (v : Queued) (qs : List (List Request)) → Holds v qs → v.count ≤ 8388608
count_few v qs h = omega (
  arith,
  h.counted,
  h.queues,
  few_at v.rings qs (h.rings ∙ sym h.queues) (λ s within. h.each s (omega (arith, h.queues))),
)

-- where a request waits one is counted
pub count_some : (v : Queued) (qs : List (List Request)) (s : ℕ) (r : Request) (rest : List Request)
    → s < sessions → Holds v qs → requests_at qs s ≡ r ∷ rest → 1 ≤ v.count
count_some v qs s r rest few h is = omega (
  arith,
  h.counted,
  ap length is,
  sum_by-set (λ (q : List Request). length q) qs s [] [] (omega (arith, few, h.queues)),
)

-- ---- one session

-- the requests of one session changed, and the rest stayed
module _ (v w : Queued) (qs : List (List Request)) (s : ℕ) (bytes : List ℕ) (q : List Request)
    (few : s < sessions)
    (h : Holds v qs) (rings : w.rings ≡ slice_set v.rings s bytes) (its : HoldsTexts bytes q)
    (counted : w.count + length (requests_at qs s) ≡ v.count + length q) where
  at_each : (t : ℕ) → t < sessions → HoldsTexts (ring_of w t) (requests_at (slice_set qs s q) t)
  at_each t within = by (t == s) refl
    where
      by : (b : Bool) → (t == s) ≡ b → HoldsTexts (ring_of w t) (requests_at (slice_set qs s q) t)
      by true e =
          let same : t ≡ s = eqb-true t s e in
          let ring_is : ring_of w t ≡ bytes = ap (λ (x : List (List ℕ)). slice_index_or x t []) rings
          ∙ ap (λ n. slice_index_or (slice_set v.rings s bytes) n []) same
          ∙ get_or-set_same v.rings s bytes [] (omega (arith, h.rings)) in
          let queue_is : requests_at (slice_set qs s q) t ≡ q =
          ap (λ n. slice_index_or (slice_set qs s q) n []) same
          ∙ get_or-set_same qs s q [] (omega (arith, h.queues)) in
          rw (ring_is, queue_is) its
      by false e =
          let other : t ≡ s → ⊥ = λ is. true≢false (sym (eq-eqb t s is) ∙ e) in
          let ring_is : ring_of w t ≡ ring_of v t = ap (λ (x : List (List ℕ)). slice_index_or x t []) rings
          ∙ get_or-set_other v.rings s t bytes [] other in
          let queue_is : requests_at (slice_set qs s q) t ≡ requests_at qs t =
          get_or-set_other qs s t q [] other in
          rw (ring_is, queue_is) (h.each t within)

  pub changed_holds : Holds w (slice_set qs s q)
  changed_holds = record {
    rings = ap length rings ∙ length-set v.rings s bytes ∙ h.rings;
    queues = length-set qs s q ∙ h.queues;
    each = at_each;
    counted = omega (
      arith,
      counted,
      h.counted,
      sum_by-set (λ (q : List Request). length q) qs s q [] (omega (arith, h.queues)),
    );
  }

-- a request more
all_more : (q : List Request) (r : Request) → AllByRecursion HasText q → HasText r
    → AllByRecursion HasText (q ++ r ∷ [])
all_more [] r all text = (text, tt)
all_more (x ∷ q) r all text = (all.0, all_more q r all.1 text)

pub texts_more : (bytes text : List ℕ) (q : List Request) (r : Request) → HoldsTexts bytes q → HasText r
    → text ≡ request_text r → length bytes + length text ≤ ring → HoldsTexts (bytes ++ text) (q ++ r ∷ [])
texts_more bytes text q r its has is fits = record {
  texts = ap (λ xs. xs ++ text) its.texts
      ∙ ap (λ xs. texts_of q ++ xs) (is ∙ sym (append-nil (request_text r)))
      ∙ sym (flat_map-append request_text q (r ∷ []));
  each = all_more q r its.each has;
  short = omega (arith, length-append bytes text, fits);
}

-- the first request gone
pub texts_less : (bytes : List ℕ) (r : Request) (q : List Request) → HoldsTexts bytes (r ∷ q)
    → HoldsTexts (texts_of q) q
texts_less bytes r q its = record {
  texts = refl;
  each = its.each.1;
  short = omega (arith, its.short, ap length its.texts, length-append (request_text r) (texts_of q));
}

-- where bytes wait a request does
pub begins_text : (bytes : List ℕ) (q : List Request) → HoldsTexts bytes q → (bytes ≡ [] → ⊥)
    → BeginsText bytes
begins_text bytes [] its some = absurd (some its.texts)
begins_text bytes (r ∷ q) its some = (r, its.each.0, (texts_of q, its.texts))

-- and where none does no bytes do
pub nothing_waits : (bytes : List ℕ) (q : List Request) → HoldsTexts bytes q → bytes ≡ [] → q ≡ []
nothing_waits bytes [] its none = refl
nothing_waits bytes (r ∷ q) its none =
    let empty : length (texts_of (r ∷ q)) ≡ 0 = ap length (sym its.texts ∙ none) in
    absurd (omega (arith, text_some r, empty, length-append (request_text r) (texts_of q)))
