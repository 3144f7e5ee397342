-- The bytes of a class after a change: those that stood in a payload segment before and still do, those in
-- buffers once the change's items are charged, and the new object where it found no room.
use Rattle.std.specs.Prelude.{◌≡◌, ◌⊎◌, ℕ, zero, suc, ◌+◌, ◌-◌, ◌*◌, ◌^◌, ◌≤◌, nat_lt, Bool, true, false, cond, List, [], ◌∷◌, ◌++◌, length, drop, fold, sum_by, slice_index, Option, Some, None, refl}
use Rattle.std.proofs.Common.{arith, sym, ◌∙◌, ap, subst, inl, inr}
use Rattle.std.proofs.lemmas.Bool.{cases_eq, cases_Bool, cond-true, cond-false, ltb-false}
use Rattle.std.proofs.lemmas.List.Sums.{sum_by-cons, sum_by_push}
use Rattle.std.specs.FinMap as fin
use Rattle.std.specs.FinSet as set
use Rattle.byte_ranges.specs.Lists.{sum_below}
use Rattle.size_class.specs.Classes.{width, class_of}
use Rattle.size_class.proofs.ClassLaws.{class_low}
use Rattle.map_model.specs.Maps.{Map}
use Rattle.map_model.specs.Requests.{Change, changed}
use Rattle.map_model.specs.Weights.{weights, weight}
use Rattle.map_model.proofs.MapLaws.{weights-remove}
use Rattle.segment_layout.specs.Books.{Book, Charged, charge_one, charge_all, charge_change, item_of, old_item, new_item, found_room, is_new_buffered, buffered_after, volumes}
use Rattle.segment_layout.specs.Balance.{IsBalanced}
use Rattle.segment_layout.proofs.SumLaws.{sum_below_zero, sum_below_agree}
use Rattle.segment_layout.proofs.BalanceLaws.{bytes_in, bytes_in-same, bytes_in-other}
use Rattle.segment_layout.proofs.ChargingLaws.{finds, charge_all-append, tried_one, last_found}
use Rattle.segment_layout.proofs.BookLaws.{in_class, in_buffers, in_payload, settled_is, both_are}
use Rattle.segment_layout.proofs.NextLaws.{payload_after}
use Rattle.cost_laws.proofs.Weights.{item_weight}
use Rattle.cost_laws.proofs.ItemsCharged.{missed_at, missed_weight}
use Rattle.cost_laws.proofs.AskedLaws.{bytes_weigh}

-- the bytes of a class that stood in its payload segment before, but for the object of the changed name
abbrev pub payload_rest : Map → Book → Change → ℕ → ℕ
payload_rest m book c d = weights (in_payload book.buffered d) (fin.remove m c.name)

-- those in buffers once the items are charged
abbrev pub buffered_then : Map → Book → Change → Charged → ℕ → ℕ
buffered_then m book c charged d = weights (in_buffers (buffered_after book c charged) d) (changed c m)

-- and the new object's, where it found no room
abbrev pub pending_bytes : Change → Charged → ℕ → ℕ
pending_bytes c charged d = cond (is_new_buffered c charged) 0 (weight (in_class d) c.name c.object)

-- ---- payload

pub payload_fits : (k : ℕ) (m : Map) (book : Book) (c : Change) (d : ℕ) → IsBalanced k m book
    → payload_rest m book c d ≤ slice_index book.caps d
payload_fits k m book c d b = omega (
  arith,
  b.payload d,
  settled_is m book d,
  weights-remove
      (in_payload book.buffered d) m c.name,
)

-- numbers that are each 0 or at least x have a sum that is 0 or at least x
none_or_least : {X : Type 0} (x : ℕ) (f : X → ℕ) (xs : List X) → ((a : X) → (f a ≡ 0) ⊎ (x ≤ f a))
    → (sum_by f xs ≡ 0) ⊎ (x ≤ sum_by f xs)
none_or_least x f [] each = inl refl
none_or_least x f (a ∷ xs) each =
    let both = sum_by-cons f a xs in
    elim (each a) [
      | inr some ↦ inr (omega (arith, both))
      | inl none ↦ elim (none_or_least x f xs each) [
        | inl nothing ↦ inl (omega (arith, both))
        | inr rest ↦ inr (omega (arith, both))
      ]
    ]

bytes_least : (d size : ℕ) → (bytes_in d size ≡ 0) ⊎ (2 ^ d ≤ bytes_in d size)
bytes_least d zero = inl refl
bytes_least d (suc n) =
    elim (cases_eq (class_of (suc n)) d) [
      | inl here ↦ inr (subst (λ x. 2 ^ x ≤ bytes_in x (suc n)) here
          (omega (arith, class_low (suc n) (omega arith), bytes_in-same (suc n) (omega arith))))
      | inr other ↦ inl (bytes_in-other d (suc n) other)
    ]

left_least : (t : Bool) (x n : ℕ) → (x ≡ 0) ⊎ (n ≤ x) → (cond t 0 x ≡ 0) ⊎ (n ≤ cond t 0 x)
left_least true x n least = inl refl
left_least false x n least = least

-- a class has none there, or at least its least size
pub payload_least : (m : Map) (book : Book) (c : Change) (d : ℕ)
    → (payload_rest m book c d ≡ 0) ⊎ (2 ^ d ≤ payload_rest m book c d)
payload_least m book c d = none_or_least (2 ^ d) (in_payload book.buffered d)
    (fin.entries (fin.remove m c.name)) (λ e. left_least (set.contains book.buffered e.0)
    (bytes_in d (length e.1)) (2 ^ d) (bytes_least d (length e.1)))

-- ---- the parts of a class

pub volumes_after : (m : Map) (book : Book) (c : Change) (charged : Charged) (d : ℕ)
    → slice_index (volumes (changed c m)) d
    ≡ buffered_then m book c charged d + (payload_rest m book c d + pending_bytes c charged d)
volumes_after m book c charged d = omega (
  arith,
  both_are (changed c m) (buffered_after book c charged) d,
  payload_after m c book.buffered (is_new_buffered c charged) d,
)

-- ---- the new object

abbrev object_weight : (ℕ → ℕ) → Option (List ℕ) → ℕ
object_weight r None = 0
object_weight r (Some object) = item_weight r (length object)

object_weighs : (r : ℕ → ℕ) (name : List ℕ) (o : Option (List ℕ))
    → sum_below width (λ d. weight (in_class d) name o * r d) ≡ object_weight r o
object_weighs r name None = sum_below_zero width (λ d. 0 * r d) (λ d h. omega arith)
object_weighs r name (Some object) = bytes_weigh r (length object)

missed_within : (r : ℕ → ℕ) (k : ℕ) (caps : List ℕ) (first : Charged) (o : Option (List ℕ))
    → (let after = fold (charge_one k caps) first (item_of o) in
    cond (found_room (item_of o) (drop (length after.tried - length (item_of o)) after.tried)) 0
    (object_weight r o) ≤ missed_weight r after.tried)
missed_within r k caps first None = omega arith
missed_within r k caps first (Some object) =
    let size = length object in
    let Goal = λ (items : List ℕ). (let after = fold (charge_one k caps) first items in
    cond (found_room items (drop (length after.tried - length items) after.tried)) 0
    (item_weight r size) ≤ missed_weight r after.tried) in
    elim (cases_Bool (nat_lt 0 size)) [
      | inl some ↦
          let tried : (charge_one k caps first size).tried
          ≡ first.tried ++ (size, finds k caps first size) ∷ [] = tried_one k caps first size in
          let answer : found_room (size ∷ [])
          (drop (length (charge_one k caps first size).tried - 1) (charge_one k caps first size).tried)
          ≡ finds k caps first size =
          ap (λ (xs : List (ℕ × Bool)). found_room (size ∷ []) (drop (length xs - 1) xs)) tried
          ∙ last_found first.tried size (finds k caps first size) in
          let weight : missed_weight r (charge_one k caps first size).tried
          ≡ missed_weight r first.tried + cond (finds k caps first size) 0 (item_weight r size) =
          ap (missed_weight r) tried ∙ sum_by_push (missed_at r) first.tried (
            size,
            finds k caps first size,
          ) in
          subst Goal (sym (cond-true (nat_lt 0 size) (size ∷ []) [] some))
          (omega (arith, weight, ap (λ b. cond b 0 (item_weight r size)) answer))
      | inr none ↦
          let empty : size ≡ 0 = omega (arith, ltb-false 0 size none) in
          let nothing : item_weight r size ≡ 0 =
          ap (item_weight r) empty ∙ (let z : 0 * r (class_of 0) ≡ 0 = omega arith in z) in
          subst Goal (sym (cond-false (nat_lt 0 size) (size ∷ []) [] none)) (omega (arith, nothing))
    ]

cond_times : (t : Bool) (x y : ℕ) → cond t 0 x * y ≡ cond t 0 (x * y)
cond_times true x y = omega arith
cond_times false x y = refl

cond_sum : (t : Bool) (f : ℕ → ℕ) → sum_below width (λ d. cond t 0 (f d)) ≡ cond t 0 (sum_below width f)
cond_sum true f = sum_below_zero width (λ d. 0) (λ d h. refl)
cond_sum false f = refl

-- it weighs at most what the items weigh that found no room
pub pending_weighs : (r : ℕ → ℕ) (k : ℕ) (m : Map) (book : Book) (c : Change)
    → (let charged = charge_change k m book c in
    sum_below width (λ d. pending_bytes c charged d * r d) ≤ missed_weight r charged.tried)
pending_weighs r k m book c =
    let charged = charge_change k m book c in
    let t = is_new_buffered c charged in
    let sum : sum_below width (λ d. pending_bytes c charged d * r d) ≡ cond t 0 (object_weight r c.object) =
    sum_below_agree width (λ d. pending_bytes c charged d * r d)
    (λ d. cond t 0 (weight (in_class d) c.name c.object * r d))
    (λ d h. cond_times t (weight (in_class d) c.name c.object) (r d))
    ∙ cond_sum t (λ d. weight (in_class d) c.name c.object * r d)
    ∙ ap (cond t 0) (object_weighs r c.name c.object) in
    let first = charge_all k book.caps book.grid (old_item m book c.name) in
    let second : cond t 0 (object_weight r c.object) ≤ missed_weight r charged.tried =
    subst (λ (after : Charged). cond (is_new_buffered c after) 0 (object_weight r c.object)
    ≤ missed_weight r after.tried)
    (sym (charge_all-append k book.caps book.grid (old_item m book c.name) (new_item c)))
    (missed_within r k book.caps first c.object) in
    omega (arith, sum, second)
