-- What changes leave under each name.
use Rattle.std.specs.Prelude.{◌≡◌, ◌⊎◌, ℕ, false, cond, List, [], ◌∷◌, ◌++◌, Option, Some, None, refl}
use Rattle.std.proofs.Common.{ap, sym, ◌∙◌, inl, inr}
use Rattle.std.proofs.lemmas.Bool.{cases_Bool, cond-true, cond-false}
use Rattle.std.specs.FinMap as fin
use Rattle.std.specs.List.{AllByRecursion}
use Rattle.map_model.specs.Maps.{Map}
use Rattle.map_model.specs.Requests.{Change, changed}
use Rattle.map_model.specs.Weights.{same_name}
use Rattle.map_model.proofs.MapLaws.{name_order, names_differ, same_name-is}
use Rattle.batch_model.specs.Batches.{applied}

-- the object of a name after changes, by the one before
abbrev pub over : List Change → List ℕ → Option (List ℕ) → Option (List ℕ)
over [] q o = o
over (c ∷ changes) q o = over changes q (cond (same_name q c.name) c.object o)

pub get-changed : (c : Change) (m : Map) (q : List ℕ)
    → fin.get (changed c m) q ≡ cond (same_name q c.name) c.object (fin.get m q)
get-changed c m q = by c.object
  where
    by : (object : Option (List ℕ)) → fin.get (changed (record { name = c.name; object = object }) m) q
        ≡ cond (same_name q c.name) object (fin.get m q)
    by None = fin.get-remove name_order m c.name q
    by (Some object) = fin.get-insert name_order m c.name object q

pub get-applied : (changes : List Change) (m : Map) (q : List ℕ)
    → fin.get (applied changes m) q ≡ over changes q (fin.get m q)
get-applied [] m q = refl
get-applied (c ∷ changes) m q = get-applied changes (changed c m) q ∙ ap (over changes q) (get-changed c m q)

pub over-append : (a b : List Change) (q : List ℕ) (o : Option (List ℕ))
    → over (a ++ b) q o ≡ over b q (over a q o)
over-append [] b q o = refl
over-append (c ∷ a) b q o = over-append a b q (cond (same_name q c.name) c.object o)

pub applied-append : (a b : List Change) (m : Map) → applied (a ++ b) m ≡ applied b (applied a m)
applied-append [] b m = refl
applied-append (c ∷ a) b m = applied-append a b (changed c m)

-- changes set a name whatever it had, or leave it
abbrev pub Sets : List Change → List ℕ → Type 0
Sets changes q = (o p : Option (List ℕ)) → over changes q o ≡ over changes q p

abbrev pub Leaves : List Change → List ℕ → Type 0
Leaves changes q = (o : Option (List ℕ)) → over changes q o ≡ o

pub sets_or_leaves : (changes : List Change) (q : List ℕ) → Sets changes q ⊎ Leaves changes q
sets_or_leaves [] q = inr (λ o. refl)
sets_or_leaves (c ∷ changes) q = elim (sets_or_leaves changes q)
    as (λ _. Sets (c ∷ changes) q ⊎ Leaves (c ∷ changes) q) [
      | inl sets ↦ inl (λ o p. sets (cond (same_name q c.name) c.object o)
          (cond (same_name q c.name) c.object p))
      | inr leaves ↦ elim (cases_Bool (same_name q c.name))
          as (λ _. Sets (c ∷ changes) q ⊎ Leaves (c ∷ changes) q) [
            | inl same ↦ inl (λ o p. ap (over changes q) (cond-true (same_name q c.name) c.object o same
                ∙ sym (cond-true (same_name q c.name) c.object p same)))
            | inr other ↦ inr (λ o. leaves (cond (same_name q c.name) c.object o)
                ∙ cond-false (same_name q c.name) c.object o other)
          ]
    ]

-- done twice they leave what they leave once
pub twice : (changes : List Change) (q : List ℕ) (o : Option (List ℕ))
    → over changes q (over changes q o) ≡ over changes q o
twice changes q o = elim (sets_or_leaves changes q)
    as (λ _. over changes q (over changes q o) ≡ over changes q o) [
      | inl sets ↦ sets (over changes q o) o
      | inr leaves ↦ leaves (over changes q o)
    ]

-- a list of changes of which a front was done is done again
pub applied-again : (done left : List Change) (m : Map)
    → applied (done ++ left) (applied done m) ≡ applied (done ++ left) m
applied-again done left m =
    fin.same_map name_order names_differ (applied (done ++ left) (applied done m)) (applied (done ++ left) m)
    (λ q. get-applied (done ++ left) (applied done m) q
    ∙ ap (over (done ++ left) q) (get-applied done m q)
    ∙ over-append done left q (over done q (fin.get m q))
    ∙ ap (over left q) (twice done q (fin.get m q))
    ∙ sym (over-append done left q (fin.get m q))
    ∙ sym (get-applied (done ++ left) m q))

-- changes of other names leave one
pub leaves_other : (changes : List Change) (q : List ℕ)
    → AllByRecursion (λ c. same_name q c.name ≡ false) changes → Leaves changes q
leaves_other [] q other o = refl
leaves_other (c ∷ changes) q other o = ap (over changes q) (cond-false
    (same_name q c.name) c.object o other.0)
    ∙ leaves_other changes q other.1 o

-- what isn't there is removed
pub remove-absent : (m : Map) (k : List ℕ) → fin.get m k ≡ None → fin.remove m k ≡ m
remove-absent m k none = fin.same_map name_order names_differ (fin.remove m k) m
    (λ q. fin.get-remove name_order m k q ∙ elim (cases_Bool (same_name q k))
    as (λ _. cond (same_name q k) None (fin.get m q) ≡ fin.get m q) [
      | inl same ↦ cond-true (same_name q k) None (fin.get m q) same
          ∙ sym (ap (fin.get m) (same_name-is q k same) ∙ none)
      | inr other ↦ cond-false (same_name q k) None (fin.get m q) other
    ])
