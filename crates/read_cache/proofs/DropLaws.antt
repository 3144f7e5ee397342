-- Where no drop was counted the requests and their replies alone fix the list.
use Rattle.std.specs.Prelude.{◌≡◌, ◌⊎◌, ℕ, ◌<◌, ◌≤◌, nat_lt, Bool, true, false, if◌then◌else◌, List, [], ◌∷◌, length, replicate, is_some, refl}
use Rattle.std.proofs.Common.{arith, ap, ◌∙◌, inl, inr}
use Rattle.disk_face.specs.Counts.{counted, last}
use Rattle.map_model.specs.Requests as ask
use Rattle.map_model.specs.Requests.{Reply, Request}
use Rattle.read_cache.specs.Lists.{Listing, after, after_all, after_drop, after_get, after_hit, after_miss, listed, longest}

-- a request is no drop, or counts one
abbrev IsOne : Bool → Request → Reply → Listing → Type 0
IsOne d r reply l = ((after d r reply l ≡ after false r reply l) × (l.drops ≡ (after d r reply l).drops))
    ⊎ ((after d r reply l).drops ≡ counted l.drops 1)

abbrev got : List ℕ → List ℕ → Listing → Bool → Bool → Bool → Listing
got name object l b c e = if b then after_hit name l else if c then l else if e then after_drop l
    else after_miss name object l

one_get : (d : Bool) (name object : List ℕ) (l : Listing) → IsOne d (ask.get name) (ask.found object) l
one_get d name object l = by (is_some (listed l name)) (nat_lt longest (length object)) d
  where
    by : (b c e : Bool) → ((got name object l b c e ≡ got name object l b c false)
        × (l.drops ≡ (got name object l b c e).drops))
        ⊎ ((got name object l b c e).drops ≡ counted l.drops 1)
    by true c e = inl (refl, refl)
    by false true e = inl (refl, refl)
    by false false true = inr refl
    by false false false = inl (refl, refl)

one : (d : Bool) (r : Request) (reply : Reply) (l : Listing) → IsOne d r reply l
one d (ask.get name) (ask.found object) l = one_get d name object l
one d (ask.get name) ask.done l = inl (refl, refl)
one d (ask.get name) ask.kept l = inl (refl, refl)
one d (ask.get name) (ask.refused w) l = inl (refl, refl)
one d (ask.get name) (ask.listed es) l = inl (refl, refl)
one d (ask.get name) (ask.counts a b e f) l = inl (refl, refl)
one d (ask.change c) ask.done l = inl (refl, refl)
one d (ask.change c) ask.kept l = inl (refl, refl)
one d (ask.change c) (ask.found object) l = inl (refl, refl)
one d (ask.change c) (ask.refused w) l = inl (refl, refl)
one d (ask.change c) (ask.listed es) l = inl (refl, refl)
one d (ask.change c) (ask.counts a b e f) l = inl (refl, refl)
one d ask.back ask.done l = inl (refl, refl)
one d ask.back ask.kept l = inl (refl, refl)
one d ask.back (ask.found object) l = inl (refl, refl)
one d ask.back (ask.refused w) l = inl (refl, refl)
one d ask.back (ask.listed es) l = inl (refl, refl)
one d ask.back (ask.counts a b e f) l = inl (refl, refl)
one d (ask.old name) reply l = inl (refl, refl)
one d ask.keep reply l = inl (refl, refl)
one d ask.list reply l = inl (refl, refl)
one d ask.stat reply l = inl (refl, refl)

-- the count of drops never falls, below its last value
rises : (ds : List Bool) (rs : List Request) (replies : List Reply) (l : Listing) → l.drops ≤ last
    → l.drops ≤ (after_all ds rs replies l).drops
rises [] rs replies l low = omega arith
rises (d ∷ ds) [] replies l low = omega arith
rises (d ∷ ds) (r ∷ rs) [] l low = omega arith
rises (d ∷ ds) (r ∷ rs) (reply ∷ replies) l low = elim (one d r reply l)
    as (λ _. l.drops ≤ (after_all ds rs replies (after d r reply l)).drops) [
      | inl same ↦ omega (arith, same.1, rises ds rs replies (after d r reply l) (omega (arith, same.1, low)))
      | inr more ↦ omega (
        arith,
        more,
        low,
        rises ds rs replies (after d r reply l) (omega (arith, more, low)),
      )
    ]

pub without_drops : (ds : List Bool) (rs : List Request) (replies : List Reply) (l : Listing)
    → l.drops < last → (after_all ds rs replies l).drops ≡ l.drops
    → after_all ds rs replies l ≡ after_all (replicate (length ds) false) rs replies l
without_drops [] rs replies l low is = refl
without_drops (d ∷ ds) [] replies l low is = refl
without_drops (d ∷ ds) (r ∷ rs) [] l low is = refl
without_drops (d ∷ ds) (r ∷ rs) (reply ∷ replies) l low is = elim (one d r reply l)
    as (λ _. after_all (d ∷ ds) (r ∷ rs) (reply ∷ replies) l
    ≡ after_all (replicate (length (d ∷ ds)) false) (r ∷ rs) (reply ∷ replies) l) [
      | inl same ↦ without_drops ds rs replies (after d r reply l) (omega (arith, same.1, low))
          (omega (arith, same.1, is))
          ∙ ap (after_all (replicate (length ds) false) rs replies) same.0
      | inr more ↦ absurd (omega (
        arith,
        more,
        low,
        is,
        rises ds rs replies (after d r reply l) (omega (arith, more, low)),
      ))
    ]
