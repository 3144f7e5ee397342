-- How many requests a batch makes: at most as many as there are names before it and after it.
use Rattle.std.specs.Prelude.{◌≡◌, ℕ, ◌+◌, ◌-◌, ◌*◌, ◌<◌, ◌≤◌, Bool, true, false, cond, if◌then◌else◌, List, [], ◌∷◌, is_some, Option, Some, None, refl}
use Rattle.std.proofs.Common.{arith, ap, sym, ◌∙◌, subst, inl, inr}
use Rattle.std.proofs.lemmas.Bool.{cases_Bool, cases_lt, cond-true, cond-false}
use Rattle.std.specs.FinMap as fin
use Rattle.std.specs.List.{AllByRecursion}
use Rattle.map_model.specs.Maps.{Map, name_cmp}
use Rattle.map_model.specs.Requests.{Change, changed}
use Rattle.map_model.specs.Weights.{same_name}
use Rattle.map_model.proofs.MapLaws.{get-insert_here, name_order, names_differ, same_name-is}
use Rattle.batch_model.specs.Batches.{Rises, RisesFrom, applied}
use Rattle.batch_model.specs.Fits.{made, made_by}
use Rattle.batch_model.proofs.AppliedLaws.{get-applied, leaves_other, over}
use Rattle.batch_model.proofs.FitLaws.{all_greater, greater_differs}

-- how many of them are puts
abbrev pub put_of : Option (List ℕ) → ℕ
put_of None = 0
put_of (Some object) = 1

abbrev pub puts : List Change → ℕ
puts [] = 0
puts (c ∷ changes) = put_of c.object + puts changes

-- a map with a name isn't empty
some_names : (m : Map) (name : List ℕ) → fin.contains_key m name ≡ true → 0 < fin.len m
some_names m name live = elim (cases_lt 0 (fin.len m)) as (λ _. 0 < fin.len m) [
  | inl some ↦ some
  | inr none ↦ absurd (let empty : m ≡ fin.empty = fin.empty_of_len m (omega (arith, none)) in
      let gone : fin.contains_key m name ≡ false = ap (λ (x : Map). fin.contains_key x name) empty
      ∙ ap is_some (fin.get-empty name_cmp name) in
      let e : true ≡ false = sym live ∙ gone in cc)
]

-- what one change makes, and how many names there are after it
one_made : (c : Change) (m : Map) → made_by m c + fin.len (changed c m) ≤ fin.len m + 2 * put_of c.object
one_made c m = by c.object
  where
    insert : (object : List ℕ) (b : Bool) → fin.contains_key m c.name ≡ b
        → 1 + fin.len (fin.insert m c.name object) ≤ fin.len m + 2
    insert object true is = omega (
      arith,
      fin.len-insert name_order m c.name object
          ∙ cond-true (fin.contains_key m c.name) (fin.len m) (fin.len m + 1) is,
    )
    insert object false is = omega (
      arith,
      fin.len-insert name_order m c.name object
          ∙ cond-false (fin.contains_key m c.name) (fin.len m) (fin.len m + 1) is,
    )

    remove : (b : Bool) → fin.contains_key m c.name ≡ b
        → (if fin.contains_key m c.name then 1 else 0) + fin.len (fin.remove m c.name) ≤ fin.len m
    remove true is = omega (
      arith,
      cond-true {A = ℕ} (fin.contains_key m c.name) 1 0 is,
      fin.len-remove name_order m c.name
          ∙ cond-true (fin.contains_key m c.name) (fin.len m - 1) (fin.len m) is,
      some_names m c.name is,
    )
    remove false is = omega (
      arith,
      cond-false {A = ℕ} (fin.contains_key m c.name) 1 0 is,
      fin.len-remove name_order m c.name
          ∙ cond-false (fin.contains_key m c.name) (fin.len m - 1) (fin.len m) is,
    )

    by : (object : Option (List ℕ))
        → made_by m (record { name = c.name; object = object })
        + fin.len (changed (record { name = c.name; object = object }) m) ≤ fin.len m + 2 * put_of object
    by None = omega (arith, remove (fin.contains_key m c.name) refl)
    by (Some object) = omega (arith, insert object (fin.contains_key m c.name) refl)

all_made : (changes : List Change) (m : Map)
    → made changes m + fin.len (applied changes m) ≤ fin.len m + 2 * puts changes
all_made [] m = omega arith
all_made (c ∷ changes) m = omega (arith, one_made c m, all_made changes (changed c m))

-- ---- puts stay

-- a name that later changes leave is as good as gone for them
without_name : (changes : List Change) (m : Map) (name object : List ℕ) → RisesFrom name changes
    → fin.remove (applied changes (fin.insert m name object)) name ≡ applied changes (fin.remove m name)
without_name changes m name object rises =
    fin.same_map name_order names_differ (fin.remove (applied changes (fin.insert m name object)) name)
    (applied changes (fin.remove m name))
    (λ q. fin.get-remove name_order (applied changes (fin.insert m name object)) name q
    ∙ elim (cases_Bool (same_name q name))
    as (λ _. cond (same_name q name) None (fin.get (applied changes (fin.insert m name object)) q)
    ≡ fin.get (applied changes (fin.remove m name)) q) [
      | inl same ↦ cond-true (same_name q name) None _ same
          ∙ sym (get-applied changes (fin.remove m name) q
          ∙ leaves_other changes q (apart q (same_name-is q name same))
          (fin.get (fin.remove m name) q)
          ∙ fin.get-remove name_order m name q ∙ cond-true (same_name q name) None (fin.get m q) same)
      | inr other ↦ cond-false (same_name q name) None _ other
          ∙ get-applied changes (fin.insert m name object) q
          ∙ ap (over changes q) (fin.get-insert name_order m name object q
          ∙ cond-false (same_name q name) (Some object) (fin.get m q) other
          ∙ sym (fin.get-remove name_order m name q
          ∙ cond-false (same_name q name) None (fin.get m q) other))
          ∙ sym (get-applied changes (fin.remove m name) q)
    ])
  where
    apart : (q : List ℕ) → q ≡ name
        → AllByRecursion (λ (c : Change). same_name q c.name ≡ false) changes
    apart q is = subst (λ (n : List ℕ).
        AllByRecursion (λ (c : Change). same_name n c.name ≡ false) changes)
        (sym is) (greater_differs name changes (all_greater name changes rises))

live_after : (changes : List Change) (m : Map) (name object : List ℕ) → RisesFrom name changes
    → fin.contains_key (applied changes (fin.insert m name object)) name ≡ true
live_after changes m name object rises = ap is_some (get-applied changes (fin.insert m name object) name
    ∙ leaves_other changes name (greater_differs name changes (all_greater name changes rises))
    (fin.get (fin.insert m name object) name)
    ∙ get-insert_here m name object)

rises_on : (name : List ℕ) (xs : List Change) → RisesFrom name xs → Rises xs
rises_on name [] r = tt
rises_on name (x ∷ xs) r = r.1

pub puts_stay : (changes : List Change) (m : Map) → Rises changes → puts changes ≤ fin.len (applied changes m)
puts_stay [] m rises = omega arith
puts_stay (c ∷ changes) m rises =
    by c.object (λ x. puts_stay changes x (rises_on c.name changes rises))
  where
    by : (object : Option (List ℕ)) → ((x : Map) → puts changes ≤ fin.len (applied changes x))
        → put_of object + puts changes
        ≤ fin.len (applied changes (changed (record { name = c.name; object = object }) m))
    by None fewer = omega (arith, fewer (fin.remove m c.name))
    by (Some object) fewer =
        let x = applied changes (fin.insert m c.name object) in
        let live = live_after changes m c.name object rises in
        omega (
          arith,
          fewer (fin.remove m c.name),
          ap fin.len (without_name changes m c.name object rises),
          fin.len-remove name_order x c.name
              ∙ cond-true (fin.contains_key x c.name) (fin.len x - 1) (fin.len x) live,
          some_names x c.name live,
        )

pub few_made : (changes : List Change) (m : Map) → Rises changes
    → made changes m ≤ fin.len m + fin.len (applied changes m)
few_made changes m rises = omega (arith, all_made changes m, puts_stay changes m rises)
