-- Sums over the entries of a map from names, each weighed by its name and its value, whatever values are:
-- what a put and a removal do to them. Of a map of objects, its bytes and the largest object.
use Rattle.std.specs.Prelude.{◌≡◌, ℕ, ◌+◌, ◌≤◌, max, Bool, true, false, not, cond, T, ◌&&◌, List, [], ◌∷◌, length, map, fold, sum_by, Some, None, refl}
use Rattle.std.proofs.Common.{arith, sym, ◌∙◌, ap, inl, inr}
use Rattle.std.proofs.lemmas.Bool.{cases_Bool, cond-true, cond-false}
use Rattle.std.proofs.lemmas.List.Sums.{sum_by-cons}
use Rattle.std.specs.Ordering.{is_lt, is_eq}
use Rattle.std.specs.declared.cmp.Ordering.{Ordering}
use Rattle.std.specs.declared.cmp.Ordering.TheVariants.{Less, Equal, Greater}
use Rattle.std.specs.Cmp.{IsTotalOrder, tied_itself, Equal-is, eq_by_cmp_equiv}
use Rattle.std.specs.Cmp.Lexicographic.{nat_list_cmp_total}
use Rattle.std.specs.FinMap as fin
use Rattle.std.specs.FinMap.Entries.{find, is_sorted, below_all, where_key, is_sorted-where_key, find-where_key}
use Rattle.map_model.specs.Maps.{Map, name_cmp, volume, largest}
use Rattle.map_model.specs.Weights.{Entry, weights, weight, weight_at, same_name, size_of_entry, size_at}

abbrev pub name_order : IsTotalOrder name_cmp
name_order = nat_list_cmp_total

pub names_differ : fin.IsAntisymmetric name_cmp
names_differ = fin.slice_cmp-IsAntisymmetric fin.nat_cmp-IsAntisymmetric

pub same_name-is : (a b : List ℕ) → same_name a b ≡ true → a ≡ b
same_name-is a b e = names_differ a b ((Equal-is (name_cmp a b)).0 e)

pub same_name-itself : (a : List ℕ) → same_name a a ≡ true
same_name-itself a = ap is_eq (tied_itself name_order a)

turned : {A : Type 0} (b : Bool) (x y : A) → cond (not b) x y ≡ cond b y x
turned true x y = refl
turned false x y = refl

-- ---- lists of entries in order

is_less : (o : Ordering) → T (is_lt o) → o ≡ Less
is_less Less p = refl
is_less Equal p = absurd p
is_less Greater p = absurd p

pub first_of_both : (a b : Bool) → T (a && b) → T a
first_of_both true b h = tt
first_of_both false b h = h

pub second_of_both : (a b : Bool) → T (a && b) → T b
second_of_both true b h = h
second_of_both false b h = absurd h

module _ {X : Type 0} where
  -- past a name that ties with k there is no k
  pub find_past : (k x : List ℕ) (es : List (List ℕ × X)) → name_cmp k x ≡ Equal → T (below_all name_cmp x es)
      → find name_cmp k es ≡ None
  find_past k x [] tie h = refl
  find_past k x (e ∷ es) tie h =
      let less : name_cmp k e.0 ≡ Less = name_order.congr k x e.0 tie
      ∙ is_less _ (first_of_both (is_lt (name_cmp x e.0)) (below_all name_cmp x es) h) in
      cond-false (same_name k e.0) (Some e.1) (find name_cmp k es) (ap is_eq less)
      ∙ find_past k x es tie (second_of_both (is_lt (name_cmp x e.0)) (below_all name_cmp x es) h)

  find_head : (e : List ℕ × X) (es : List (List ℕ × X)) → find name_cmp e.0 (e ∷ es) ≡ Some e.1
  find_head e es = cond-true (same_name e.0 e.0) (Some e.1) (find name_cmp e.0 es) (same_name-itself e.0)

  -- what is found behind the first entry is found
  find_behind : (e : List ℕ × X) (es : List (List ℕ × X)) (k : List ℕ) (v : X) → T (below_all name_cmp e.0 es)
      → find name_cmp k es ≡ Some v → find name_cmp k (e ∷ es) ≡ Some v
  find_behind e es k v h is =
      elim (cases_Bool (same_name k e.0)) [
        | inl tie ↦ absurd (let none : None
            ≡ Some v = sym (find_past k e.0 es ((Equal-is (name_cmp k e.0)).0 tie) h) ∙ is in cc)
        | inr other ↦ cond-false (same_name k e.0) (Some e.1) (find name_cmp k es) other ∙ is
      ]

module _ {X : Type 0} where
  -- two weights that agree at each entry have one sum
  agree_in : (f g : (List ℕ × X) → ℕ) (es : List (List ℕ × X)) → T (is_sorted name_cmp es)
      → ((k : List ℕ) (v : X) → find name_cmp k es ≡ Some v → f (k, v) ≡ g (k, v)) → sum_by f es ≡ sum_by g es
  agree_in f g [] h same = refl
  agree_in f g (e ∷ es) h same =
      let low = first_of_both (below_all name_cmp e.0 es) (is_sorted name_cmp es) h in
      let head : f e ≡ g e = same e.0 e.1 (find_head e es) in
      let rest : sum_by f es ≡ sum_by g es =
      agree_in f g es (second_of_both (below_all name_cmp e.0 es) (is_sorted name_cmp es) h)
      (λ k v is. same k v (find_behind e es k v low is)) in
      sum_by-cons f e es ∙ (λ i. head i + rest i) ∙ sym (sum_by-cons g e es)

  -- the weight of the entries but that of one name
  abbrev but : List ℕ → ((List ℕ × X) → ℕ) → (List ℕ × X) → ℕ
  but k f e = cond (same_name k e.0) 0 (f e)

  sum_but : (f : (List ℕ × X) → ℕ) (k : List ℕ) (es : List (List ℕ × X)) → T (is_sorted name_cmp es)
      → sum_by (but k f) es + weight f k (find name_cmp k es) ≡ sum_by f es
  sum_but f k [] h = refl
  sum_but f k (e ∷ es) h =
      let low = first_of_both (below_all name_cmp e.0 es) (is_sorted name_cmp es) h in
      let rest : sum_by (but k f) es + weight f k (find name_cmp k es)
      ≡ sum_by f es = sum_but f k es (second_of_both (below_all name_cmp e.0 es) (is_sorted name_cmp es)
      h) in
      let both : sum_by f (e ∷ es) ≡ f e + sum_by f es = sum_by-cons f e es in
      let left : sum_by (but k f) (e ∷ es) ≡ but k f e + sum_by (but k f) es = sum_by-cons (but k f) e es in
      elim (cases_Bool (same_name k e.0)) [
        | inl tie ↦
            let here : but k f e ≡ 0 = cond-true (same_name k e.0) 0 (f e) tie in
            let found : weight f k (find name_cmp k (e ∷ es))
            ≡ f e = ap (weight f k) (cond-true (same_name k e.0) (Some e.1) (find name_cmp k es) tie)
            ∙ (λ i. f (same_name-is k e.0 tie i, e.1)) in
            let none : weight f k (find name_cmp k es)
            ≡ 0 = ap (weight f k) (find_past k e.0 es ((Equal-is (name_cmp k e.0)).0 tie) low) in
            omega arith
        | inr other ↦
            let here : but k f e ≡ f e = cond-false (same_name k e.0) 0 (f e) other in
            let found : weight f k (find name_cmp k (e ∷ es))
            ≡ weight f k (find name_cmp k es) =
            ap (weight f k) (cond-false (same_name k e.0) (Some e.1) (find name_cmp k es) other) in
            omega arith
      ]

  sum_where : (f : (List ℕ × X) → ℕ) (p : List ℕ → Bool) (es : List (List ℕ × X))
      → sum_by f (where_key name_cmp p es) ≡ sum_by (λ e. cond (p e.0) (f e) 0) es
  sum_where f p [] = refl
  sum_where f p (e ∷ es) =
      elim (cases_Bool (p e.0)) [
        | inl pass ↦
            ap (sum_by f) (cond-true (p e.0) (e ∷ where_key name_cmp p es) (where_key name_cmp p es) pass)
            ∙ sum_by-cons f e (where_key name_cmp p es)
            ∙ (λ i. sym (cond-true (p e.0) (f e) 0 pass) i + sum_where f p es i)
            ∙ sym (sum_by-cons (λ e. cond (p e.0) (f e) 0) e es)
        | inr fail ↦
            ap (sum_by f) (cond-false (p e.0) (e ∷ where_key name_cmp p es) (where_key name_cmp p es) fail)
            ∙ sum_where f p es
            ∙ (let e0 : sum_by (λ e. cond (p e.0) (f e) 0) es
            ≡ 0 + sum_by (λ e. cond (p e.0) (f e) 0) es = omega arith in e0)
            ∙ (λ i. sym (cond-false (p e.0) (f e) 0 fail) i + sum_by (λ e. cond (p e.0) (f e) 0) es)
            ∙ sym (sum_by-cons (λ e. cond (p e.0) (f e) 0) e es)
      ]

  -- ---- maps

  -- the entries once those whose names fail a test are gone
  pub entries-retain_keys : (m : fin.FinMap name_cmp X) (p : List ℕ → Bool)
      → fin.entries (fin.retain_keys m p) ≡ where_key name_cmp p (fin.entries m)
  entries-retain_keys m p =
      let kept = where_key name_cmp p (fin.entries m) in
      let sorted : T (is_sorted name_cmp kept) =
      is_sorted-where_key name_cmp p (fin.entries m) (fin.entries_sorted m) in
      let alike : (q x : List ℕ) → name_cmp q x ≡ Equal
      → p x ≡ p q = λ q x tie. ap p (sym (names_differ q x tie)) in
      let same : fin.retain_keys m p ≡ fin.from_sorted kept =
      fin.same_map name_order names_differ (fin.retain_keys m p) (fin.from_sorted kept)
      (λ q. fin.get-retain_keys m p q (alike q) ∙ ap (λ o. cond (p q) o None) (fin.get-entries m q)
      ∙ sym (find-where_key name_cmp p q (alike q) (fin.entries m))
      ∙ sym (fin.get-from_sorted name_cmp kept q sorted)) in
      ap fin.entries same ∙ fin.entries-from_sorted name_cmp kept sorted

  -- two weights that agree at each object have one sum
  pub weights-agree : (f g : (List ℕ × X) → ℕ) (m : fin.FinMap name_cmp X)
      → ((k : List ℕ) (v : X) → fin.get m k ≡ Some v → f (k, v) ≡ g (k, v)) → weights f m ≡ weights g m
  weights-agree f g m same = agree_in f g (fin.entries m) (fin.entries_sorted m)
      (λ k v is. same k v (fin.get-entries m k ∙ is))

  none_of_length : (es : List (List ℕ × X)) → length es ≡ 0 → es ≡ []
  none_of_length [] e = refl
  none_of_length (x ∷ es) e = absurd (omega arith)

  pub entries-empty : fin.entries (fin.empty {X = X} {R = name_cmp}) ≡ []
  entries-empty = none_of_length _ (sym (fin.len-entries (fin.empty {X = X} {R = name_cmp}))
      ∙ fin.len-empty name_cmp X)

  pub weights-empty : (f : (List ℕ × X) → ℕ) → weights f fin.empty ≡ 0
  weights-empty f = ap (sum_by f) entries-empty

  remove_is : (m : fin.FinMap name_cmp X) (k : List ℕ)
      → fin.remove m k ≡ fin.retain_keys m (λ x. not (same_name k x))
  remove_is m k =
      fin.same_map name_order names_differ (fin.remove m k) (fin.retain_keys m (λ x. not (same_name k x)))
      (λ q. fin.get-remove name_order m k q
      ∙ ap (λ b. cond b None (fin.get m q)) ((eq_by_cmp_equiv name_order).symm q k)
      ∙ sym (turned (same_name k q) (fin.get m q) None)
      ∙ sym (fin.get-retain_keys m (λ x. not (same_name k x)) q
      (λ x tie. ap (λ y. not (same_name k y)) (sym (names_differ q x tie)))))

  -- a removal takes the weight of the name's object
  pub weights-remove : (f : (List ℕ × X) → ℕ) (m : fin.FinMap name_cmp X) (k : List ℕ)
      → weights f (fin.remove m k) + weight_at f m k ≡ weights f m
  weights-remove f m k =
      let left : weights f (fin.remove m k) ≡ sum_by (but k f) (fin.entries m) =
      ap (weights f) (remove_is m k)
      ∙ ap (sum_by f) (entries-retain_keys m (λ x. not (same_name k x)))
      ∙ sum_where f (λ x. not (same_name k x)) (fin.entries m)
      ∙ ap (λ (g : (List ℕ × X) → ℕ). sum_by g (fin.entries m)) (λ i e. turned (same_name k e.0) (f e) 0 i) in
      let here : weight_at f m k ≡ weight f k (find name_cmp k (fin.entries m)) =
      ap (weight f k) (fin.get-entries m k) in
      omega (arith, sum_but f k (fin.entries m) (fin.entries_sorted m))

  -- what is set and removed is only removed
  pub remove-insert : (m : fin.FinMap name_cmp X) (k : List ℕ) (v : X)
      → fin.remove (fin.insert m k v) k ≡ fin.remove m k
  remove-insert m k v =
      fin.same_map name_order names_differ (fin.remove (fin.insert m k v) k) (fin.remove m k)
      (λ q. fin.get-remove name_order (fin.insert m k v) k q
      ∙ elim (cases_Bool (same_name q k))
      as (λ _. cond (same_name q k) None (fin.get (fin.insert m k v) q)
      ≡ cond (same_name q k) None (fin.get m q)) [
        | inl same ↦ cond-true (same_name q k) None _ same ∙ sym (cond-true (same_name q k) None _ same)
        | inr other ↦ ap (cond (same_name q k) None)
            (fin.get-insert name_order m k v q ∙ cond-false (same_name q k) (Some v) (fin.get m q) other)
      ]
      ∙ sym (fin.get-remove name_order m k q))

  pub get-insert_here : (m : fin.FinMap name_cmp X) (k : List ℕ) (v : X)
      → fin.get (fin.insert m k v) k ≡ Some v
  get-insert_here m k v = fin.get-insert name_order m k v k
      ∙ cond-true (same_name k k) (Some v) (fin.get m k) (same_name-itself k)

  -- a put adds the new object's weight, and takes that of the name's old object
  pub weights-insert : (f : (List ℕ × X) → ℕ) (m : fin.FinMap name_cmp X) (k : List ℕ) (v : X)
      → weights f (fin.insert m k v) + weight_at f m k ≡ weights f m + f (k, v)
  weights-insert f m k v =
      let after : weights f (fin.remove m k) + f (k, v) ≡ weights f (fin.insert m k v) =
      (λ i. weights f (sym (remove-insert m k v) i) + weight f k (sym (get-insert_here m k v) i))
      ∙ weights-remove f (fin.insert m k v) k in
      omega (arith, weights-remove f m k)

  pub get-remove_here : (m : fin.FinMap name_cmp X) (k : List ℕ) → fin.get (fin.remove m k) k ≡ None
  get-remove_here m k = fin.get-remove name_order m k k
      ∙ cond-true (same_name k k) None (fin.get m k) (same_name-itself k)

  -- what is removed and set is only set
  pub insert-remove : (m : fin.FinMap name_cmp X) (k : List ℕ) (v : X)
      → fin.insert (fin.remove m k) k v ≡ fin.insert m k v
  insert-remove m k v =
      fin.same_map name_order names_differ (fin.insert (fin.remove m k) k v) (fin.insert m k v)
      (λ q. fin.get-insert name_order (fin.remove m k) k v q
      ∙ elim (cases_Bool (same_name q k))
      as (λ _. cond (same_name q k) (Some v) (fin.get (fin.remove m k) q)
      ≡ cond (same_name q k) (Some v) (fin.get m q)) [
        | inl same ↦ cond-true (same_name q k) (Some v) _ same
            ∙ sym (cond-true (same_name q k) (Some v) _ same)
        | inr other ↦ ap (cond (same_name q k) (Some v))
            (fin.get-remove name_order m k q ∙ cond-false (same_name q k) None (fin.get m q) other)
      ]
      ∙ sym (fin.get-insert name_order m k v q))

  -- a name that isn't there is removed to no effect
  pub remove-absent : (m : fin.FinMap name_cmp X) (k : List ℕ) → fin.get m k ≡ None → fin.remove m k ≡ m
  remove-absent m k none =
      fin.same_map name_order names_differ (fin.remove m k) m
      (λ q. fin.get-remove name_order m k q
      ∙ elim (cases_Bool (same_name q k)) as (λ _. cond (same_name q k) None (fin.get m q) ≡ fin.get m q) [
        | inl same ↦ cond-true (same_name q k) None (fin.get m q) same ∙ sym none
            ∙ ap (fin.get m) (sym (same_name-is q k same))
        | inr other ↦ cond-false (same_name q k) None (fin.get m q) other
      ])

-- ---- volumes

pub sum_by-map : {X Y : Type 0} (f : Y → ℕ) (g : X → Y) (xs : List X)
    → sum_by f (map g xs) ≡ sum_by (λ x. f (g x)) xs
sum_by-map f g [] = refl
sum_by-map f g (x ∷ xs) = sum_by-cons f (g x) (map g xs) ∙ ap (λ n. f (g x) + n) (sum_by-map f g xs)
    ∙ sym (sum_by-cons (λ x. f (g x)) x xs)

pub volume_is : (m : Map) → volume m ≡ weights size_of_entry m
volume_is m = sum_by-map length (λ (e : Entry). e.1) (fin.entries m)

pub volume-empty : volume fin.empty ≡ 0
volume-empty = volume_is fin.empty ∙ weights-empty size_of_entry

pub volume-insert : (m : Map) (name object : List ℕ)
    → volume (fin.insert m name object) + size_at m name ≡ volume m + length object
volume-insert m name object = omega
    (arith, weights-insert size_of_entry m name object, volume_is m, volume_is (fin.insert m name object))

pub volume-remove : (m : Map) (name : List ℕ) → volume (fin.remove m name) + size_at m name ≡ volume m
volume-remove m name = omega (
  arith,
  weights-remove size_of_entry m name,
  volume_is m,
  volume_is (fin.remove m name),
)

-- ---- the largest object

abbrev larger : ℕ → List ℕ → ℕ
larger n object = max n (length object)

above_start : (n : ℕ) (es : List Entry) → n ≤ fold larger n (map (λ e. e.1) es)
above_start n [] = omega arith
above_start n (e ∷ es) = omega (arith, above_start (larger n e.1) es)

above_each : (n : ℕ) (es : List Entry) (k v : List ℕ) → find name_cmp k es ≡ Some v
    → length v ≤ fold larger n (map (λ e. e.1) es)
above_each n [] k v is = absurd (cc)
above_each n (e ∷ es) k v is =
    elim (cases_Bool (same_name k e.0)) [
      | inl tie ↦
          let here : e.1 ≡ v = let h : Some e.1
          ≡ Some v = sym (cond-true (same_name k e.0) (Some e.1) (find name_cmp k es) tie) ∙ is in cc in
          omega (arith, above_start (larger n e.1) es, ap length here)
      | inr other ↦ above_each (larger n e.1) es k v
          (sym (cond-false (same_name k e.0) (Some e.1) (find name_cmp k es) other) ∙ is)
    ]

within_all : (n most : ℕ) (es : List Entry) → T (is_sorted name_cmp es) → n ≤ most
    → ((k v : List ℕ) → find name_cmp k es ≡ Some v → length v ≤ most)
    → fold larger n (map (λ e. e.1) es) ≤ most
within_all n most [] h low each = low
within_all n most (e ∷ es) h low each =
    let behind = first_of_both (below_all name_cmp e.0 es) (is_sorted name_cmp es) h in
    within_all (larger n e.1) most es (second_of_both (below_all name_cmp e.0 es) (is_sorted name_cmp es) h)
    (omega (arith, each e.0 e.1 (find_head e es))) (λ k v is. each k v (find_behind e es k v behind is))

-- no object is larger
pub largest-each : (m : Map) (k v : List ℕ) → fin.get m k ≡ Some v → length v ≤ largest m
largest-each m k v is = above_each 0 (fin.entries m) k v (sym (fin.get-entries m k) ∙ is)

-- a bound on each object is one on the largest
pub largest-least : (m : Map) (most : ℕ) → ((k v : List ℕ) → fin.get m k ≡ Some v → length v ≤ most)
    → largest m ≤ most
largest-least m most each = within_all 0 most (fin.entries m) (fin.entries_sorted m) (omega arith)
    (λ k v is. each k v (fin.get-entries m k ∙ is))

pub largest-empty : largest fin.empty ≡ 0
largest-empty = ap (λ (es : List Entry). fold larger 0 (map (λ e. e.1) es)) entries-empty

pub largest-insert : (m : Map) (k v : List ℕ) → largest (fin.insert m k v) ≤ max (largest m) (length v)
largest-insert m k v =
    largest-least (fin.insert m k v) _ (λ q w is.
    elim (cases_Bool (same_name q k)) [
      | inl same ↦ let e : v ≡ w = let h : Some v
          ≡ Some w = sym (fin.get-insert name_order m k v q
          ∙ cond-true (same_name q k) (Some v) (fin.get m q) same) ∙ is in cc in omega (arith, ap length e)
      | inr other ↦ omega (
        arith,
        largest-each m q w
            (sym (fin.get-insert name_order m k v q ∙ cond-false (same_name q k) (Some v) (fin.get m q) other)
            ∙ is),
      )
    ])

pub largest-remove : (m : Map) (k : List ℕ) → largest (fin.remove m k) ≤ largest m
largest-remove m k =
    largest-least (fin.remove m k) _ (λ q w is.
    elim (cases_Bool (same_name q k)) [
      | inl same ↦ absurd (let h : None ≡ Some w =
          sym (fin.get-remove name_order m k q ∙ cond-true (same_name q k) None (fin.get m q) same) ∙ is in
          cc)
      | inr other ↦ largest-each m q w (sym
          (fin.get-remove name_order m k q ∙ cond-false (same_name q k) None (fin.get m q) other) ∙ is)
    ])
