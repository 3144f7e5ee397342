-- Batches that fit: how many names each front of one leaves, also where it is done again.
use Rattle.std.specs.Prelude.{◌≡◌, ◌⊎◌, ℕ, ◌+◌, ◌<◌, nat_lt, Bool, true, false, cond, ◌&&◌, ◌||◌, if◌then◌else◌, List, [], ◌∷◌, ◌++◌, is_some, Option, Some, None, refl}
use Rattle.std.proofs.Common.{ap, sym, ◌∙◌, subst, inl, inr}
use Rattle.std.proofs.lemmas.Bool.{and_parts, cases_Bool, cond-true, cond-false, lt-ltb, ltb-true}
use Rattle.std.specs.FinMap as fin
use Rattle.std.specs.List.{AllByRecursion}
use Rattle.std.specs.Ordering.{is_eq}
use Rattle.std.specs.declared.cmp.Ordering.TheVariants.{Less}
use Rattle.map_model.specs.Maps.{Map, name_cmp}
use Rattle.map_model.specs.Requests.{Change, changed}
use Rattle.map_model.specs.Weights.{same_name}
use Rattle.map_model.proofs.MapLaws.{name_order, names_differ, same_name-is}
use Rattle.batch_model.specs.Batches.{Rises, RisesFrom, applied}
use Rattle.batch_model.specs.Fits.{fits_next, misfit, misfit_from}
use Rattle.batch_model.proofs.AppliedLaws.{Leaves, applied-again, get-applied, leaves_other, over, over-append, twice}

-- each front of changes leaves fewer names
abbrev pub CountsFit : ℕ → Map → List Change → Type 0
CountsFit cap m changes = (front others : List Change) → changes ≡ front ++ others
    → fin.len (applied front m) < cap

-- ---- by the count

passed : (test : Bool) (o : Option ℕ) (n : ℕ) → (if test then o else Some n) ≡ None
    → (test ≡ true) × (o ≡ None)
passed true o n is = (refl, is)
passed false o n is = absurd (cc)

pub counted_none : (again : Bool) (cap n : ℕ) (m : Map) (changes : List Change)
    → misfit_from again cap n m changes ≡ None → fin.len m < cap → CountsFit cap m changes
counted_none again cap n m [] none now [] others is = now
counted_none again cap n m [] none now (d ∷ front) others is = absurd (cc)
counted_none again cap n m (c ∷ changes) none now [] others is = now
counted_none again cap n m (c ∷ changes) none now (d ∷ front) others is =
    let next = passed (fits_next again cap m c) (misfit_from again cap (n + 1)
    (changed c m) changes) n none in
    let few : fin.len (changed c m) < cap = ltb-true (fin.len (changed c m)) cap
    (and_parts (is_some c.object || again || fin.contains_key m c.name)
    (nat_lt (fin.len (changed c m)) cap) next.0).1 in
    let same : c ≡ d = cc in
    let rest : changes ≡ front ++ others = cc in
    subst (λ (x : Change). fin.len (applied front (changed x m)) < cap) same
    (counted_none again cap (n + 1) (changed c m) changes next.1 few front others rest)

again_true : (b c : Bool) → (b || true || c) ≡ true
again_true true c = refl
again_true false c = refl

both : (a b : Bool) → a ≡ true → b ≡ true → (a && b) ≡ true
both true b x y = y
both false b x y = absurd (cc)

pub none_counted : (cap n : ℕ) (m : Map) (changes : List Change) → CountsFit cap m changes
    → misfit_from true cap n m changes ≡ None
none_counted cap n m [] fit = refl
none_counted cap n m (c ∷ changes) fit =
    let few : fin.len (changed c m) < cap = fit (c ∷ []) changes refl in
    let next : fits_next true cap m c ≡ true = both (is_some c.object || true || fin.contains_key m c.name)
    (nat_lt (fin.len (changed c m)) cap) (again_true (is_some c.object) (fin.contains_key m c.name))
    (lt-ltb (fin.len (changed c m)) cap few) in
    cond-true (fits_next true cap m c) (misfit_from true cap (n + 1) (changed c m) changes) (Some n) next
    ∙ none_counted cap (n + 1) (changed c m) changes
    (λ front others is. fit (c ∷ front) others (ap (λ (xs : List Change). c ∷ xs) is))

-- ---- rising names

rises_on : (name : List ℕ) (changes : List Change) → RisesFrom name changes → Rises changes
rises_on name [] rises = tt
rises_on name (c ∷ changes) rises = rises.1

pub all_greater : (name : List ℕ) (changes : List Change) → RisesFrom name changes
    → AllByRecursion (λ c. name_cmp name c.name ≡ Less) changes
all_greater name [] rises = tt
all_greater name (c ∷ changes) rises = (rises.0, after changes (all_greater c.name changes rises.1))
  where
    after : (cs : List Change) → AllByRecursion (λ d. name_cmp c.name d.name ≡ Less) cs
        → AllByRecursion (λ d. name_cmp name d.name ≡ Less) cs
    after [] all = tt
    after (d ∷ cs) all = (name_order.trans name c.name d.name rises.0 all.0, after cs all.1)

behind : (a b : List Change) (P : Change → Type 0) → AllByRecursion P (a ++ b) → AllByRecursion P b
behind [] b P all = all
behind (c ∷ a) b P all = behind a b P all.1

pub greater_differs : (q : List ℕ) (changes : List Change)
    → AllByRecursion (λ c. name_cmp q c.name ≡ Less) changes
    → AllByRecursion (λ c. same_name q c.name ≡ false) changes
greater_differs q [] all = tt
greater_differs q (c ∷ changes) all = (ap is_eq all.0, greater_differs q changes all.1)

-- of rising changes a front or the others leave a name
pub one_leaves : (front others : List Change) (q : List ℕ) → Rises (front ++ others)
    → Leaves front q ⊎ Leaves others q
one_leaves [] others q rises = inl (λ o. refl)
one_leaves (c ∷ front) others q rises = elim (cases_Bool (same_name q c.name))
    as (λ _. Leaves (c ∷ front) q ⊎ Leaves others q) [
      | inl same ↦
          let is : c.name ≡ q = sym (same_name-is q c.name same) in
          let all = all_greater c.name (front ++ others) rises in
          inr (leaves_other others q (greater_differs q others
          (subst (λ (name : List ℕ). AllByRecursion (λ d. name_cmp name d.name ≡ Less) others) is
          (behind front others (λ d. name_cmp c.name d.name ≡ Less) all))))
      | inr other ↦ elim (one_leaves front others q (rises_on c.name (front ++ others) rises))
          as (λ _. Leaves (c ∷ front) q ⊎ Leaves others q) [
            | inl leaves ↦ inl (λ o. leaves (cond (same_name q c.name) c.object o)
                ∙ cond-false (same_name q c.name) c.object o other)
            | inr leaves ↦ inr leaves
          ]
    ]

-- a front of rising changes that were all done is done again
pub front-again : (front others : List Change) (m : Map) → Rises (front ++ others)
    → applied front (applied (front ++ others) m) ≡ applied (front ++ others) m
front-again front others m rises =
    fin.same_map name_order names_differ (applied front (applied (front ++ others) m))
    (applied (front ++ others) m)
    (λ q. get-applied front (applied (front ++ others) m) q
    ∙ ap (over front q) (get-applied (front ++ others) m q ∙ over-append front others q (fin.get m q))
    ∙ at q (fin.get m q)
    ∙ sym (get-applied (front ++ others) m q ∙ over-append front others q (fin.get m q)))
  where
    at : (q : List ℕ) (o : Option (List ℕ))
        → over front q (over others q (over front q o)) ≡ over others q (over front q o)
    at q o = elim (one_leaves front others q rises)
        as (λ _. over front q (over others q (over front q o)) ≡ over others q (over front q o)) [
          | inl leaves ↦ leaves (over others q (over front q o))
          | inr leaves ↦ ap (over front q) (leaves (over front q o)) ∙ twice front q o
              ∙ sym (leaves (over front q o))
        ]

-- ---- two fronts of one list

pub one_front : (a b c d : List Change) → a ++ b ≡ c ++ d
    → ((r : List Change) × (a ≡ c ++ r)) ⊎ ((r : List Change) × (c ≡ a ++ r))
one_front [] b c d is = inr (c, refl)
one_front (x ∷ a) b [] d is = inl (x ∷ a, refl)
one_front (x ∷ a) b (y ∷ c) d is =
    let same : x ≡ y = cc in
    let rest : a ++ b ≡ c ++ d = cc in
    elim (one_front a b c d rest) as (λ _. ((r : List Change) × (x ∷ a ≡ (y ∷ c) ++ r))
    ⊎ ((r : List Change) × (y ∷ c ≡ (x ∷ a) ++ r))) [
      | inl more ↦ inl (more.0, (λ i. same i ∷ more.1 i))
      | inr more ↦ inr (more.0, (λ i. sym same i ∷ more.1 i))
    ]

-- what fits a map fits each map that some of it was done to
pub fits_again : (cap : ℕ) (m : Map) (done left : List Change) → Rises (done ++ left)
    → CountsFit cap m (done ++ left) → CountsFit cap (applied done m) (done ++ left)
fits_again cap m done left rises fit front others is = elim (one_front done left front others is)
    as (λ _. fin.len (applied front (applied done m)) < cap) [
      | inl more ↦
          let r = more.0 in
          let all : applied front (applied done m) ≡ applied done m =
          ap (λ (d : List Change). applied front (applied d m)) more.1
          ∙ front-again front r m (front_rises (front ++ r) left
          (subst (λ (d : List Change). Rises (d ++ left)) more.1 rises))
          ∙ ap (λ (d : List Change). applied d m) (sym more.1) in
          subst (λ (x : Map). fin.len x < cap) (sym all) (fit done left refl)
      | inr more ↦
          let r = more.0 in
          let all : applied front (applied done m) ≡ applied front m =
          ap (λ (f : List Change). applied f (applied done m)) more.1 ∙ applied-again done r m
          ∙ ap (λ (f : List Change). applied f m) (sym more.1) in
          subst (λ (x : Map). fin.len x < cap) (sym all) (fit front others is)
    ]
  where
    front_from : (name : List ℕ) (a b : List Change) → RisesFrom name (a ++ b) → RisesFrom name a
    front_from name [] b rises = tt
    front_from name (c ∷ a) b rises = (rises.0, front_from c.name a b rises.1)

    front_rises : (a b : List Change) → Rises (a ++ b) → Rises a
    front_rises [] b rises = tt
    front_rises (c ∷ a) b rises = front_from c.name a b rises

-- ---- the first misfit

pub misfit_counts : (again : Bool) (cap : ℕ) (m : Map) (c : Change) (changes : List Change)
    → misfit again cap m (c ∷ changes) ≡ None → CountsFit cap m (c ∷ changes)
misfit_counts again cap m c changes none =
    let now = passed (nat_lt (fin.len m) cap) (misfit_from again cap 1 m (c ∷ changes)) 1 none in
    counted_none again cap 1 m (c ∷ changes) now.1 (ltb-true (fin.len m) cap now.0)

pub counts_misfit : (cap : ℕ) (m : Map) (changes : List Change) → CountsFit cap m changes
    → misfit true cap m changes ≡ None
counts_misfit cap m [] fit = refl
counts_misfit cap m (c ∷ changes) fit =
    cond-true (nat_lt (fin.len m) cap) (misfit_from true cap 1 m (c ∷ changes)) (Some 1)
    (lt-ltb (fin.len m) cap (fit [] (c ∷ changes) refl))
    ∙ none_counted cap 1 m (c ∷ changes) fit

-- a batch that fits a map fits each map that some of it was done to, where it is done again
pub never_unfit : (cap : ℕ) (m : Map) (done left : List Change) → Rises (done ++ left)
    → misfit false cap m (done ++ left) ≡ None → misfit true cap (applied done m) (done ++ left) ≡ None
never_unfit cap m [] [] rises none = refl
never_unfit cap m [] (c ∷ left) rises none = counts_misfit cap m (c ∷ left)
    (misfit_counts false cap m c left none)
never_unfit cap m (c ∷ done) left rises none = counts_misfit cap (applied (c ∷ done) m) (c ∷ (done ++ left))
    (fits_again cap m (c ∷ done) left rises (misfit_counts false cap m c (done ++ left) none))
