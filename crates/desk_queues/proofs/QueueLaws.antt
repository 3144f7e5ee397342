-- What waits in rings, after one of them changed.
use Rattle.std.specs.Prelude.{◌≡◌, ℕ, zero, suc, ◌+◌, ◌-◌, ◌<◌, ◌≤◌, min, List, [], ◌∷◌, ◌++◌, length, map, replicate, take, slice_index_or, slice_set, refl}
use Rattle.std.proofs.Common.{arith, ap, sym, ◌∙◌, subst, length-append}
use Rattle.std.proofs.lemmas.List.{take_all}
use Rattle.circular_buffer.specs.Buffer.{Buffer, buffer}
use Rattle.map_model.specs.Requests.{Request}
use Rattle.ask_text.specs.Inputs.{HasText, request_text}
use Rattle.desk_model.specs.Events.{sessions}
use Rattle.desk_model.specs.Desks.{ring, texts_of}
use Rattle.desk_queues.specs.Inside.{HaveRoom}
use Rattle.desk_queues.specs.Queues.{Holds, HoldsTexts, Queued, no_requests, requests_at, ring_of}
use Rattle.desk_queues.specs.Taken.{BeginsText}
use Rattle.desk_queues.proofs.HoldLaws.{begins_text, changed_holds, count_some, nothing_waits, texts_less, texts_more}
use Rattle.desk_queues.proofs.RingLaws.{all_of_set, bytes_at, bytes_set, one_of_all}

-- what waits in these rings
abbrev pub queued : List (Buffer ℕ) → ℕ → Queued
queued rings n = record { rings = map (λ b. b.items) rings; count = n }

-- the ring of one session
pub record IsRingOf (rings : List (Buffer ℕ)) (s : ℕ) (b : Buffer ℕ) : Type 0 where
  pub few : s < sessions
  pub within : s < length rings
  pub is : b ≡ slice_index_or rings s b

module _ (rings : List (Buffer ℕ)) (n s : ℕ) (b : Buffer ℕ) (its : IsRingOf rings s b) where
  pub bytes_are : ring_of (queued rings n) s ≡ b.items
  bytes_are = bytes_at rings s b its.within its.is

  pub has_room : HaveRoom rings → b.capacity ≡ ring
  has_room room = one_of_all (λ x. x.capacity ≡ ring) rings s b its.within its.is room

  pub room_stays : (now : Buffer ℕ) → now.capacity ≡ b.capacity → HaveRoom rings
      → HaveRoom (slice_set rings s now)
  room_stays now same room = all_of_set (λ x. x.capacity ≡ ring) rings s now (same ∙ has_room room) room

  texts_at : (qs : List (List Request)) → Holds (queued rings n) qs → HoldsTexts b.items (requests_at qs s)
  texts_at qs h = subst (λ bytes. HoldsTexts bytes (requests_at qs s)) bytes_are (h.each s its.few)

  set_to : {bytes : List ℕ} {room : ℕ} (now : Buffer ℕ) → now ≡ buffer bytes room
      → map (λ b. b.items) (slice_set rings s now) ≡ slice_set (map (λ b. b.items) rings) s bytes
  set_to now set =
      bytes_set rings s now ∙ ap (λ (x : Buffer ℕ). slice_set (map (λ b. b.items) rings) s x.items) set

  -- the text of a request behind the others
  pub pushed_holds : (qs : List (List Request)) (r : Request) (text : List ℕ) (now : Buffer ℕ)
      → Holds (queued rings n) qs → HasText r → text ≡ request_text r → length b.items + length text ≤ ring
      → now ≡ buffer (b.items ++ text) b.capacity
      → Holds (queued (slice_set rings s now) (n + 1)) (slice_set qs s (requests_at qs s ++ r ∷ []))
  pushed_holds qs r text now h has is fits set =
      let texts = texts_more b.items text (requests_at qs s) r (texts_at qs h) has is fits in
      changed_holds (queued rings n) (queued (slice_set rings s now) (n + 1)) qs s (b.items ++ text)
      (requests_at qs s ++ r ∷ []) its.few h
      (set_to now set) texts
      (omega (arith, length-append (requests_at qs s) (r ∷ [])))

  -- the first request, and what it leaves
  pub first_text : (qs : List (List Request)) (r : Request) (rest : List Request) → Holds (queued rings n) qs
      → requests_at qs s ≡ r ∷ rest → HasText r × (b.items ≡ request_text r ++ texts_of rest)
  first_text qs r rest h is =
      let texts = subst (HoldsTexts b.items) is (texts_at qs h) in
      (texts.each.0, texts.texts)

  pub taken_holds : (qs : List (List Request)) (r : Request) (rest : List Request) (now : Buffer ℕ)
      → Holds (queued rings n) qs → requests_at qs s ≡ r ∷ rest
      → now ≡ buffer (texts_of rest) b.capacity
      → Holds (queued (slice_set rings s now) (n - 1)) (slice_set qs s rest)
  taken_holds qs r rest now h is set =
      let texts = texts_less b.items r rest (subst (HoldsTexts b.items) is (texts_at qs h)) in
      changed_holds (queued rings n) (queued (slice_set rings s now) (n - 1)) qs s (texts_of rest) rest
      its.few h
      (set_to now set) texts
      (omega (arith, ap length is, count_some (queued rings n) qs s r rest its.few h is))

  -- a request and those behind it, where bytes wait
  pub first_of : (qs : List (List Request)) → Holds (queued rings n) qs → (b.items ≡ [] → ⊥)
      → (r : Request) × ((rest : List Request) × (requests_at qs s ≡ r ∷ rest))
  first_of qs h some = by (requests_at qs s) refl
    where
      by : (q : List Request) → requests_at qs s ≡ q
          → (r : Request) × ((rest : List Request) × (requests_at qs s ≡ r ∷ rest))
      by [] is = absurd (some ((texts_at qs h).texts ∙ ap texts_of is))
      by (r ∷ rest) is = (r, (rest, is))

  -- where bytes wait a request does, and where none do none does
  pub some_text : (qs : List (List Request)) → Holds (queued rings n) qs → (b.items ≡ [] → ⊥)
      → BeginsText b.items
  some_text qs h some = begins_text b.items (requests_at qs s) (texts_at qs h) some

  pub empty_alike : (qs : List (List Request)) → Holds (queued rings n) qs
      → (b.items ≡ [] → requests_at qs s ≡ []) × (requests_at qs s ≡ [] → b.items ≡ [])
  empty_alike qs h = (
    nothing_waits b.items (requests_at qs s) (texts_at qs h),
    (λ none. (texts_at qs h).texts ∙ ap texts_of none),
  )

-- a text that fits is taken in whole
pub filled_whole : (b now : Buffer ℕ) (text : List ℕ) (n : ℕ) → length b.items + length text ≤ b.capacity
    → n ≡ min (length text) (b.capacity - length b.items) → now ≡ buffer (b.items ++ take n text) b.capacity
    → now ≡ buffer (b.items ++ text) b.capacity
filled_whole b now text n fits count is =
    is ∙ ap (λ xs. buffer (b.items ++ xs) b.capacity) (take_all n text (omega (arith, count)))

-- what the text of a request leaves of its ring, where it has room there
pub pushed_ring : (rings : List (Buffer ℕ)) (n s : ℕ) (v : Queued) (b now : Buffer ℕ) (text : List ℕ) (k : ℕ)
    → queued rings n ≡ v → IsRingOf rings s b → HaveRoom rings → length (ring_of v s) + length text ≤ ring
    → k ≡ min (length text) (b.capacity - length b.items) → now ≡ buffer (b.items ++ take k text) b.capacity
    → (length b.items + length text ≤ ring) × (now ≡ buffer (b.items ++ text) b.capacity)
pushed_ring rings n s v b now text k view its room fits count is =
    let bytes : ring_of v s ≡ b.items = ap (λ (x : Queued). ring_of x s) (sym view)
    ∙ bytes_are rings n s b its in
    let full : length b.items + length text ≤ ring = omega (arith, fits, ap length bytes) in
    (full, filled_whole b now text k (omega (arith, full, has_room rings n s b its room)) count is)

-- ---- nothing waits

no_bytes : (k s : ℕ)
    → slice_index_or (map (λ (b : Buffer ℕ). b.items) (replicate k (buffer [] ring))) s [] ≡ []
no_bytes zero s = refl
no_bytes (suc k) zero = refl
no_bytes (suc k) (suc s) = no_bytes k s

none_waits : (k s : ℕ) → slice_index_or (replicate {A = List Request} k []) s [] ≡ []
none_waits zero s = refl
none_waits (suc k) zero = refl
none_waits (suc k) (suc s) = none_waits k s

nothing : (s : ℕ) → s < sessions
    → HoldsTexts (ring_of (queued (replicate 8 (buffer [] ring)) 0) s) (requests_at no_requests s)
nothing s few = subst (λ q. HoldsTexts (ring_of (queued (replicate 8 (buffer [] ring)) 0) s) q)
    (sym (none_waits 8 s)) (subst (λ bytes. HoldsTexts bytes []) (sym (no_bytes 8 s))
    (record { texts = refl; each = tt; short = omega arith }))

pub new_queues : (rings : List (Buffer ℕ)) (k : ℕ) → rings ≡ replicate k (buffer [] ring) → k ≡ 8
    → HaveRoom rings × Holds (queued rings 0) no_requests
new_queues rings k is eight =
    let whole : rings ≡ replicate 8 (buffer [] ring) = is ∙ ap (λ n. replicate n (buffer [] ring)) eight in
    subst (λ (x : List (Buffer ℕ)). HaveRoom x × Holds (queued x 0) no_requests) (sym whole) (
      (refl, (refl, (refl, (refl, (refl, (refl, (refl, (refl, tt)))))))),
      record { rings = refl; queues = refl; each = nothing; counted = refl },
    )
