-- The items of a table: each is a live object of the suffix, no two share a key, and one more name is one
-- more item.
use Rattle.std.specs.Prelude.{◌≡◌, ◌≢◌, ℕ, zero, suc, ◌<◌, ◌≤◌, nat_le, nat_lt, Bool, true, false, T, List, [], ◌∷◌, ◌++◌, map, filter, slice_get, Option, Some, None, is_some, Contains, IsPermutation, refl}
use Rattle.std.proofs.Common.{arith, sym, ◌∙◌, ap, subst, inl, inr}
use Rattle.std.proofs.lemmas.Bool.{and_parts, cases_Bool, cond-false, cond-true, leb-true, ltb-true}
use Rattle.std.proofs.lemmas.List.{map-append}
use Rattle.std.proofs.lemmas.List.Elements.{filter-append}
use Rattle.std.proofs.lemmas.List.Sorted.{IsPermutation-append_comm, IsPermutation-middle, IsPermutation-sym, IsPermutation-trans}
use Rattle.std.proofs.lemmas.Option.{same_Some, slice_get-get_or, slice_get-map}
use Rattle.std.specs.Ordering.{is_eq, is_lt}
use Rattle.std.specs.declared.cmp.Ordering.{Ordering}
use Rattle.std.specs.declared.cmp.Ordering.TheVariants.{Less, Equal, Greater}
use Rattle.std.specs.FinMap as fin
use Rattle.std.specs.FinMap.Entries.{below_all, by_order, find, is_sorted, put}
use Rattle.size_class.specs.Classes.{class_of}
use Rattle.slot_codec.specs.Names.{name_cmp}
use Rattle.map_model.specs.Weights.{same_name}
use Rattle.map_model.proofs.MapLaws.{first_of_both, get-insert_here, name_order, same_name-is, same_name-itself, second_of_both}
use Rattle.extent_table.specs.declared.spot.Spot.{Spot}
use Rattle.extent_table.specs.Extents.{Extents, HasKeys, Keys, Spots}
use Rattle.extent_table.specs.Rising.{below_each, of_mapped}
use Rattle.placement_model.proofs.ReadLaws.{found_by_name}
use Rattle.flush_model.specs.declared.item.Item.{Item}
use Rattle.flush_run.specs.Hands.{key_or_zero, spot_item, suffix_items}
use Rattle.store_model.specs.Items.{is_from, item_at}
use Rattle.slot_codec.proofs.OrderLemmas.{not_tied}

-- ---- each item is an object

-- an element that passed stands in the list, and passes
from_filter : {X : Type 0} (p : X → Bool) (xs : List X) (i : ℕ) (x : X) → slice_get (filter p xs) i ≡ Some x
    → (n : ℕ) × (slice_get xs n ≡ Some x) × (p x ≡ true)
from_filter p [] i x is = absurd (cc)
from_filter p (y ∷ ys) i x is = elim (cases_Bool (p y)) as (λ _. (n : ℕ) × (slice_get (y ∷ ys) n ≡ Some x)
    × (p x ≡ true)) [
      | inl pass ↦ here pass (λ k more. from_filter p ys k x more) i
          (sym (ap (λ l. slice_get l i) (cond-true (p y) (y ∷ filter p ys) (filter p ys) pass)) ∙ is)
      | inr fail ↦
          let r = from_filter p ys i x (sym (ap (λ l. slice_get l i)
          (cond-false (p y) (y ∷ filter p ys) (filter p ys) fail)) ∙ is) in
          (suc r.0, r.1, r.2)
    ]
  where
    here : p y ≡ true → ((k : ℕ) → slice_get (filter p ys) k ≡ Some x
        → (n : ℕ) × (slice_get ys n ≡ Some x) × (p x ≡ true)) → (k : ℕ) → slice_get (y ∷ filter p ys) k
        ≡ Some x
        → (n : ℕ) × (slice_get (y ∷ ys) n ≡ Some x) × (p x ≡ true)
    here pass later zero at = (0, at, ap p (sym (same_Some y x at)) ∙ pass)
    here pass later (suc k) at = let r = later k at in (suc r.0, r.1, r.2)

-- An item is the one of a live object of at least 1 byte from class b on.
pub record ItemOf (b : ℕ) (e : Extents) (it : Item) : Type 0 where
  pub name : List ℕ
  pub spot : Spot
  pub stands : fin.get e.now name ≡ Some spot
  pub is : spot_item e.keys (name, spot) ≡ it
  pub some : 1 ≤ spot.size
  pub from : b ≤ class_of spot.size

module _ (b : ℕ) (e : Extents) where
  abbrev p : List ℕ × Spot → Bool
  p x = is_from b x.1

  abbrev es : List (List ℕ × Spot)
  es = fin.entries e.now

  pub stands_at : (n : ℕ) (x : List ℕ × Spot) → slice_get es n ≡ Some x → fin.get e.now x.0 ≡ Some x.1
  stands_at n x at = fin.get-entries e.now x.0 ∙ found_by_name es n x (fin.entries_sorted e.now) at

  pub got_item : (i : ℕ) (it : Item) → slice_get (suffix_items b e) i ≡ Some it → ItemOf b e it
  got_item i it at =
      let f = of_mapped (spot_item e.keys) (slice_get (filter p es) i) it
      (sym (slice_get-map (spot_item e.keys) (filter p es) i) ∙ at) in
      let g = from_filter p es i f.0 f.1 in
      let parts = and_parts (nat_lt 0 f.0.1.size) (nat_le b (class_of f.0.1.size)) g.2 in
      record {
        name = f.0.0;
        spot = f.0.1;
        stands = stands_at g.0 f.0 g.1;
        is = f.2;
        some = ltb-true 0 f.0.1.size parts.0;
        from = leb-true b (class_of f.0.1.size) parts.1;
      }

  pub has_item : (it : Item) → Contains (suffix_items b e) it → ItemOf b e it
  has_item it has = got_item has.0 it (slice_get-get_or (suffix_items b e) has.0 it has.1 ∙ ap Some has.2)

-- ---- two items are two objects

-- Of a relation that holds between the images of entries with two names, the images of what passed are
-- pairwise related.
pub pairs_of : {Y : Type 0} (R : Y → Y → Type 0) (f : List ℕ × Spot → Y) (p : List ℕ × Spot → Bool)
    (xs : List (List ℕ × Spot)) → T (is_sorted name_cmp xs)
    → ((x y : List ℕ × Spot) (m n : ℕ) → slice_get xs m ≡ Some x → slice_get xs n ≡ Some y → p x ≡ true
    → p y ≡ true
    → same_name x.0 y.0 ≡ false → R (f x) (f y))
    → (i j : ℕ) (a b : Y) → i < j → slice_get (map f (filter p xs)) i ≡ Some a
    → slice_get (map f (filter p xs)) j ≡ Some b → R a b
pairs_of R f p [] sorted each i j a b less at also = absurd (cc)
pairs_of {Y} R f p (x ∷ xs) sorted each i j a b less at also =
    let tail = filter p xs in
    let rest = pairs_of R f p xs (second_of_both (below_all name_cmp x.0 xs) (is_sorted name_cmp xs) sorted)
    (λ y z m n y_at z_at. each y z (suc m) (suc n) y_at z_at) in
    elim (cases_Bool (p x)) as (λ _. R a b) [
      | inr fail ↦
          let same = ap (map f) (cond-false (p x) (x ∷ tail) tail fail) in
          rest i j a b less (sym (ap (λ l. slice_get l i) same) ∙ at)
          (sym (ap (λ l. slice_get l j) same) ∙ also)
      | inl pass ↦
          let same = ap (map f) (cond-true (p x) (x ∷ tail) tail pass) in
          first pass i j less (sym (ap (λ l. slice_get l i) same) ∙ at)
          (sym (ap (λ l. slice_get l j) same) ∙ also) rest
    ]
  where
    first : p x ≡ true → (i j : ℕ) → i < j → slice_get (f x ∷ map f (filter p xs)) i ≡ Some a
        → slice_get (f x ∷ map f (filter p xs)) j ≡ Some b
        → ((i j : ℕ) (a b : Y) → i < j → slice_get (map f (filter p xs)) i ≡ Some a
        → slice_get (map f (filter p xs)) j ≡ Some b → R a b) → R a b
    first pass i zero less at also rest = absurd (omega (arith, less))
    first pass zero (suc j) less at also rest =
        let g = of_mapped f (slice_get (filter p xs) j) b (sym (slice_get-map f (filter p xs) j) ∙ also) in
        let h = from_filter p xs j g.0 g.1 in
        let lower = below_each name_cmp (λ k. true) x.0 xs h.0 g.0
        (first_of_both (below_all name_cmp x.0 xs) (is_sorted name_cmp xs) sorted) h.1 in
        subst (λ y. R y b) (same_Some (f x) a at) (subst (λ y. R (f x) y) g.2
        (each x g.0 0 (suc h.0) refl h.1 pass h.2 (not_tied (name_cmp x.0 g.0.0) lower)))
    first pass (suc i) (suc j) less at also rest = rest i j a b (omega (arith, less)) at also

-- two live names have two keys
pub keys_differ : (e : Extents) → HasKeys e.now e.keys → (q r : List ℕ) (s t : Spot) → fin.get e.now q
    ≡ Some s
    → fin.get e.now r ≡ Some t → same_name q r ≡ false
    → key_or_zero (fin.get e.keys q) ≢ key_or_zero (fin.get e.keys r)
keys_differ e keys q r s t stands also differ same =
    by (fin.get e.keys q) refl (keys.keyed q ∙ ap is_some stands) (fin.get e.keys r) refl
    (keys.keyed r ∙ ap is_some also)
  where
    by : (o : Option ℕ) → fin.get e.keys q ≡ o → is_some (fin.get e.keys q) ≡ true → (x : Option ℕ)
        → fin.get e.keys r ≡ x → is_some (fin.get e.keys r) ≡ true → ⊥
    by None none some x is known = cc
    by (Some m) first some None none known = cc
    by (Some m) first some (Some n) second known =
        let one : m ≡ n = sym (ap key_or_zero first) ∙ same ∙ ap key_or_zero second in
        let here : q ≡ r = keys.differ q r m first (second ∙ ap Some (sym one)) in
        let tied : same_name q r ≡ true = ap (same_name q) (sym here) ∙ same_name-itself q in
        cc

-- ---- one name more

-- a new entry splits the list
record Splits (k : List ℕ) (v : Spot) (xs : List (List ℕ × Spot)) : Type 0 where
  front : List (List ℕ × Spot)
  back : List (List ℕ × Spot)
  before : xs ≡ front ++ back
  after : put name_cmp k v xs ≡ front ++ (k, v) ∷ back

put_splits : (k : List ℕ) (v : Spot) (xs : List (List ℕ × Spot)) → find name_cmp k xs ≡ None → Splits k v xs
put_splits k v [] none = record { front = []; back = []; before = refl; after = refl }
put_splits k v (x ∷ xs) none = by (name_cmp k x.0) refl (put_splits k v xs)
  where
    by : (o : Ordering) → name_cmp k x.0 ≡ o → (find name_cmp k xs ≡ None → Splits k v xs)
        → Splits k v (x ∷ xs)
    by Less is later = record {
      front = [];
      back = x ∷ xs;
      before = refl;
      after = ap (λ o. by_order o ((k, v) ∷ x ∷ xs) ((x.0, v) ∷ xs) (x ∷ put name_cmp k v xs)) is;
    }
    by Equal is later = absurd (let e : Some x.1 ≡ None = sym
        (cond-true (same_name k x.0) (Some x.1) (find name_cmp k xs)
        (ap is_eq is)) ∙ none in cc)
    by Greater is later =
        let r = later (sym (cond-false (same_name k x.0) (Some x.1) (find name_cmp k xs) (ap is_eq is))
        ∙ none) in
        record {
          front = x ∷ r.front;
          back = r.back;
          before = ap (λ ys. x ∷ ys) r.before;
          after = ap (λ o. by_order o ((k, v) ∷ x ∷ xs) ((x.0, v) ∷ xs) (x ∷ put name_cmp k v xs)) is
              ∙ ap (λ ys. x ∷ ys) r.after;
        }

-- images that agree at each element that passes
map_agrees : {X Y : Type 0} (f g : X → Y) (p : X → Bool) (xs : List X)
    → ((i : ℕ) (x : X) → slice_get xs i ≡ Some x → f x ≡ g x) → map f (filter p xs) ≡ map g (filter p xs)
map_agrees f g p [] each = refl
map_agrees f g p (x ∷ xs) each =
    let rest = map_agrees f g p xs (λ i y at. each (suc i) y at) in
    elim (cases_Bool (p x)) as (λ _. map f (filter p (x ∷ xs)) ≡ map g (filter p (x ∷ xs))) [
      | inl pass ↦
          let same = cond-true (p x) (x ∷ filter p xs) (filter p xs) pass in
          ap (map f) same ∙ (λ i. each 0 x refl i ∷ rest i) ∙ sym (ap (map g) same)
      | inr fail ↦
          let same = cond-false (p x) (x ∷ filter p xs) (filter p xs) fail in
          ap (map f) same ∙ rest ∙ sym (ap (map g) same)
    ]

module _ (b : ℕ) (e after : Extents) (name : List ℕ) (s : Spot) (key : ℕ) (new : fin.get e.now name ≡ None)
    (now : after.now ≡ fin.insert e.now name s) (keys : after.keys ≡ fin.insert e.keys name key)
    (is_in : is_from b s ≡ true) where
  abbrev q : List ℕ × Spot → Bool
  q x = is_from b x.1

  others : (i : ℕ) (x : List ℕ × Spot) → slice_get (fin.entries e.now) i ≡ Some x
      → spot_item after.keys x ≡ spot_item e.keys x
  others i x at = ap (λ o. record (spot_item e.keys x) { key = key_or_zero o })
      (ap (λ (m : Keys). fin.get m x.0) keys ∙ fin.get-insert name_order e.keys name key x.0
      ∙ cond-false (same_name x.0 name) (Some key) (fin.get e.keys x.0) other)
    where
      other : same_name x.0 name ≡ false
      other = elim (cases_Bool (same_name x.0 name)) [
        | inr differ ↦ differ
        | inl same ↦ absurd (let e : None ≡ Some x.1 = sym new
            ∙ ap (fin.get e.now) (sym (same_name-is x.0 name same))
            ∙ stands_at b e i x at in cc)
      ]

  new_item : spot_item after.keys (name, s) ≡ item_at key s
  new_item = ap (λ o. record (item_at key s) { key = key_or_zero o })
      (ap (λ (m : Keys). fin.get m name) keys ∙ get-insert_here e.keys name key)

  -- The items with one name more are those of before with one more, in some order.
  pub items_with : IsPermutation (suffix_items b e ++ item_at key s ∷ []) (suffix_items b after)
  items_with =
      let xs = fin.entries e.now in
      let r = put_splits name s xs (sym (fin.get-entries e.now name) ∙ new) in
      let f = spot_item after.keys in
      let front = map f (filter q r.front) in
      let back = map f (filter q r.back) in
      let old : suffix_items b e ≡ front ++ back = sym (map_agrees f (spot_item e.keys) q xs others)
      ∙ ap (λ ys. map f (filter q ys)) r.before ∙ ap (map f) (filter-append q r.front r.back)
      ∙ map-append f (filter q r.front) (filter q r.back) in
      let put_back : map f (filter q ((name, s) ∷ r.back)) ≡ item_at key s ∷ back =
      ap (map f) (cond-true (is_from b s) ((name, s) ∷ filter q r.back) (filter q r.back) is_in)
      ∙ ap (λ it. it ∷ back) new_item in
      let more : suffix_items b after ≡ front ++ item_at key s ∷ back =
      ap (λ (m : Spots). map f (filter q (fin.entries m))) now
      ∙ ap (λ ys. map f (filter q ys)) (fin.entries-insert name_order e.now name s ∙ r.after)
      ∙ ap (map f) (filter-append q r.front ((name, s) ∷ r.back))
      ∙ map-append f (filter q r.front) (filter q ((name, s) ∷ r.back))
      ∙ ap (λ ys. front ++ ys) put_back in
      subst (IsPermutation (suffix_items b e ++ item_at key s ∷ [])) (sym more)
      (subst (λ ys. IsPermutation (ys ++ item_at key s ∷ []) (front ++ item_at key s ∷ back)) (sym old)
      (IsPermutation-trans ((front ++ back) ++ item_at key s ∷ []) (item_at key s ∷ (front ++ back))
      (front ++ item_at key s ∷ back) (IsPermutation-append_comm (front ++ back) (item_at key s ∷ []))
      (IsPermutation-sym (front ++ item_at key s ∷ back) (item_at key s ∷ (front ++ back))
      (IsPermutation-middle front (item_at key s) back))))

  -- its key is that of no other
  pub key_other : HasKeys after.now after.keys → (it : Item) → Contains (suffix_items b e) it → it.key ≢ key
  key_other has it there same =
      let o = has_item b e it there in
      let other : same_name o.name name ≡ false = elim (cases_Bool (same_name o.name name)) [
        | inr differ ↦ differ
        | inl tie ↦ absurd (let x : None ≡ Some o.spot = sym new
            ∙ ap (fin.get e.now) (sym (same_name-is o.name name tie))
            ∙ o.stands in cc)
      ] in
      keys_differ after has o.name name o.spot s
      (ap (λ (m : Spots). fin.get m o.name) now ∙ fin.get-insert name_order e.now name s o.name
      ∙ cond-false (same_name o.name name) (Some s) (fin.get e.now o.name) other ∙ o.stands)
      (ap (λ (m : Spots). fin.get m name) now ∙ get-insert_here e.now name s) other
      (ap key_or_zero (ap (λ (m : Keys). fin.get m o.name) keys
      ∙ fin.get-insert name_order e.keys name key o.name
      ∙ cond-false (same_name o.name name) (Some key) (fin.get e.keys o.name) other)
      ∙ ap (λ (x : Item). x.key) o.is ∙ same ∙ sym (ap (λ (x : Item). x.key) new_item))
