-- Whether a batch fits, by a count.
use Rattle.std.specs.Prelude.{◌≡◌, ℕ, ◌+◌, nat_lt, Bool, true, false, ◌&&◌, ◌||◌, if◌then◌else◌, List, [], ◌∷◌, is_some, Option, Some, None, refl}
use Rattle.std.proofs.Common.{ap, sym, ◌∙◌, inl, inr}
use Rattle.std.proofs.lemmas.Bool.{cases_Bool, cond-false}
use Rattle.std.specs.FinMap as fin
use Rattle.std.specs.List.{AllByRecursion}
use Rattle.map_model.specs.Maps.{Map}
use Rattle.map_model.specs.Requests.{Change, changed}
use Rattle.map_model.specs.Weights.{same_name}
use Rattle.map_model.proofs.MapLaws.{name_order, same_name-is, same_name-itself}
use Rattle.batch_model.specs.Batches.{Rises, RisesFrom}
use Rattle.batch_model.specs.Fits.{count_after, counted_from, counted_misfit, misfit, misfit_from}
use Rattle.batch_model.proofs.AppliedLaws.{get-changed}
use Rattle.batch_model.proofs.FitLaws.{all_greater, greater_differs}

-- the count is that of the changed map
counts_as : (c : Change) (m : Map)
    → count_after (fin.contains_key m c.name) c.object (fin.len m) ≡ fin.len (changed c m)
counts_as c m = by c.object
  where
    by : (object : Option (List ℕ)) → count_after (fin.contains_key m c.name) object (fin.len m)
        ≡ fin.len (changed (record { name = c.name; object = object }) m)
    by None = sym (fin.len-remove name_order m c.name)
    by (Some object) = sym (fin.len-insert name_order m c.name object)

pub other_way : (a b : List ℕ) → same_name a b ≡ false → same_name b a ≡ false
other_way a b other = elim (cases_Bool (same_name b a)) as (λ _. same_name b a ≡ false) [
  | inl same ↦ absurd (let e : true ≡ false = sym (ap (same_name a) (same_name-is b a same)
      ∙ same_name-itself a) ∙ other in cc)
  | inr is ↦ is
]

-- names that a change leaves are live as they were
abbrev AreLive : (List ℕ → Bool) → Map → List Change → Type 0
AreLive live m changes = AllByRecursion (λ d. live d.name ≡ fin.contains_key m d.name) changes

live_still : (live : List ℕ → Bool) (c : Change) (m : Map) (changes : List Change)
    → AllByRecursion (λ d. same_name c.name d.name ≡ false) changes → AreLive live m changes
    → AreLive live (changed c m) changes
live_still live c m [] apart are = tt
live_still live c m (d ∷ changes) apart are = (
  are.0 ∙ sym (ap is_some (get-changed c m d.name
      ∙ cond-false (same_name d.name c.name) c.object (fin.get m d.name) (other_way c.name d.name apart.0))),
  live_still live c m changes apart.1 are.1,
)

pub counted_from_is : (again : Bool) (cap n : ℕ) (live : List ℕ → Bool) (m : Map) (count : ℕ)
    (changes : List Change) → Rises changes → AreLive live m changes → count ≡ fin.len m
    → counted_from again cap n live count changes ≡ misfit_from again cap n m changes
counted_from_is again cap n live m count [] rises are is = refl
counted_from_is again cap n live m count (c ∷ changes) rises are is =
    let now : count_after (live c.name) c.object count ≡ fin.len (changed c m) =
    (λ i. count_after (are.0 i) c.object (is i)) ∙ counts_as c m in
    let apart = greater_differs c.name changes (all_greater c.name changes rises) in
    let rest = counted_from_is again cap (n + 1) live (changed c m)
    (count_after (live c.name) c.object count) changes (rises_on c.name changes rises)
    (live_still live c m changes apart are.1) now in
    λ i. if (is_some c.object || again || are.0 i) && nat_lt (now i) cap then rest i else Some n
  where
    rises_on : (name : List ℕ) (xs : List Change) → RisesFrom name xs → Rises xs
    rises_on name [] r = tt
    rises_on name (x ∷ xs) r = r.1

all_live : (m : Map) (changes : List Change) → AreLive (λ name. fin.contains_key m name) m changes
all_live m [] = tt
all_live m (c ∷ changes) = (refl, all_live m changes)

pub counted_is : (again : Bool) (cap : ℕ) (m : Map) (changes : List Change) → Rises changes
    → counted_misfit again cap (λ name. fin.contains_key m name) (fin.len m) changes
    ≡ misfit again cap m changes
counted_is again cap m [] rises = refl
counted_is again cap m (c ∷ changes) rises =
    ap (λ (o : Option ℕ). if nat_lt (fin.len m) cap then o else Some 1)
    (counted_from_is again cap 1 (λ name. fin.contains_key m name) m (fin.len m) (c ∷ changes) rises
    (all_live m (c ∷ changes)) refl)
