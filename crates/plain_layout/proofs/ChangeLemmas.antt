-- The next book by its numbers, and the names that stand in buffers after a change.
use Rattle.std.specs.Prelude.{◌≡◌, ℕ, ◌-◌, nat_lt, Bool, true, false, ◌&&◌, ◌||◌, if◌then◌else◌, List, [], ◌∷◌, ◌++◌, length, drop, map, Option, Some, None, refl}
use Rattle.std.specs.FinMap as fin
use Rattle.std.specs.FinSet as set
use Rattle.std.specs.Option.{option_map}
use Rattle.std.proofs.Common.{ap, sym, ◌∙◌, inl, inr}
use Rattle.std.proofs.lemmas.Bool.{cases_Bool, cond-true, cond-false}
use Rattle.map_model.specs.Maps.{Map, name_cmp}
use Rattle.map_model.specs.Requests.{Change, changed}
use Rattle.map_model.specs.Weights.{same_name}
use Rattle.map_model.proofs.MapLaws.{name_order, names_differ, same_name-is}
use Rattle.segment_layout.specs.Books as books
use Rattle.segment_layout.specs.Books.{Charged, Reshaped, below_class, buffered_after, charge_all, charge_change, charge_one, found_room, is_below_class, is_new_buffered, item_of, new_item, next_book, old_item, reshaped, volumes, volumes_of_sizes}
use Rattle.segment_layout.proofs.ChargingLaws.{charge_all-append, last_found, tried_one}
use Rattle.segment_layout.proofs.NextLaws.{after_here, after_other, names_after}
use Rattle.plain_layout.specs.Changes.{IsNext, IsReshaped, enters, finds_last, is_of_lower, stays_buffered}
use Rattle.plain_layout.specs.declared.change.Next as plain
use Rattle.plain_layout.proofs.ChargeSteps.{finds, last_next}

pub next_of : (next : plain.Next) (k : ℕ) (caps : List ℕ) (grid : List (List ℕ)) (items after : List ℕ)
    → IsReshaped k caps grid items after next
    → (m : Map) (book : books.Book) (c : Change) → book.caps ≡ caps → book.grid ≡ grid
    → old_item m book c.name ++ new_item c ≡ items → map length (fin.values (changed c m)) ≡ after
    → IsNext next k m book c
unfolding next_book
next_of next k caps grid items after x m book c ec eg ei ea =
    let charged : charge_change k m book c
    ≡ charge_all k caps grid items = λ i. charge_all k (ec i) (eg i) (ei i) in
    let shape : reshaped k book.caps (charge_change k m book c) (volumes (changed c m))
    ≡ reshaped k caps (charge_all k caps grid items) (volumes_of_sizes after) =
    λ i. reshaped k (ec i) (charged i) (volumes_of_sizes (ea i)) in
    record {
      quiet = x.quiet ∙ sym (ap (λ (r : Reshaped). r.quiet) shape);
      boundary = x.boundary ∙ sym (ap (λ (r : Reshaped). r.boundary) shape);
      found_last = x.last ∙ sym (ap finds_last charged);
      divisor = x.divisor;
      caps = x.capacities ∙ sym (ap (λ (r : Reshaped). r.caps) shape);
      grid = x.used ∙ sym (ap (λ (r : Reshaped). r.grid) shape);
    }

-- ---- the names that stand in buffers after a change

module _ (k : ℕ) (caps : List ℕ) (grid : List (List ℕ)) (old : List ℕ) where
  -- what items do behind the old ones, and whether the last of them found room
  abbrev charged_with : List ℕ → Charged
  charged_with items = charge_all k caps grid (old ++ items)

  abbrev found_in : List ℕ → Bool
  found_in items =
      let tried = (charged_with items).tried in
      found_room items (drop (length tried - length items) tried)

  one_is : (size : ℕ) → found_in (size ∷ []) ≡ finds_last (charged_with (size ∷ []))
  one_is size =
      let first = charge_all k caps grid old in
      let all : charged_with (size ∷ [])
      ≡ charge_one k caps first size = charge_all-append k caps grid old (size ∷ []) in
      ap (λ (charged : Charged). found_room (size ∷ []) (drop (length charged.tried - 1) charged.tried)) all
      ∙ ap (λ tried. found_room (size ∷ []) (drop (length tried - 1) tried)) (tried_one k caps first size)
      ∙ last_found first.tried size (finds k caps first.grid size)
      ∙ sym (last_next k caps first size)
      ∙ ap finds_last (sym all)

  -- the item of the new object is the last: it found room where that did
  enters_is : (o : Option (List ℕ))
      → found_in (item_of o) ≡ enters (finds_last (charged_with (item_of o))) (option_map length o)
  enters_is None = refl
  enters_is (Some object) =
      let size = length object in
      let last = finds_last (charged_with (item_of (Some object))) in
      elim (cases_Bool (nat_lt 0 size)) [
        | inl some ↦
            (let e : item_of (Some object) ≡ size ∷ [] = cond-true (nat_lt 0 size) (size ∷ []) [] some in
            ap found_in e ∙ one_is size ∙ ap (λ items. finds_last (charged_with items)) (sym e))
            ∙ ap (λ b. b && last) (sym some)
        | inr none ↦ ap found_in (cond-false (nat_lt 0 size) (size ∷ []) [] none)
            ∙ ap (λ b. b && last) (sym none)
      ]

-- the names before any flush
stands_is : (names : set.FinSet name_cmp) (name q : List ℕ) (found : Bool)
    → set.contains (names_after names name found) q
    ≡ (if same_name q name then found else set.contains names q)
stands_is names name q found =
    elim (cases_Bool (same_name q name)) [
      | inl is ↦ ap (set.contains (names_after names name found)) (same_name-is q name is)
          ∙ after_here names name found
          ∙ sym (cond-true (same_name q name) found (set.contains names q) is)
      | inr other ↦ after_other names name q found other
          ∙ sym (cond-false (same_name q name) found (set.contains names q) other)
    ]

-- the object of the changed name is the new one
object_here : (name : List ℕ) (o : Option (List ℕ)) (m : Map) (q : List ℕ) → same_name q name ≡ true
    → fin.get (changed (record { name = name; object = o }) m) q ≡ o
object_here name None m q is = fin.get-remove name_order m name q
    ∙ cond-true (same_name q name) None (fin.get m q) is
object_here name (Some object) m q is = fin.get-insert name_order m name object q
    ∙ cond-true (same_name q name) (Some object) (fin.get m q) is

lower_is : (b : ℕ) (o : Option (List ℕ)) → is_below_class b o ≡ is_of_lower b (option_map length o)
lower_is b None = refl
lower_is b (Some object) = refl

-- those that a flush leaves where they are
left_is : (quiet : Bool) (b : ℕ) (m : Map) (names : set.FinSet name_cmp) (q : List ℕ)
    → set.contains (if quiet then names else below_class b m names) q
    ≡ (set.contains names q && (quiet || is_of_lower b (option_map length (fin.get m q))))
left_is true b m names q = and_last (set.contains names q)
  where
    and_last : (x : Bool) → x ≡ (x && true)
    and_last true = refl
    and_last false = refl
left_is false b m names q =
    set.contains-retain names (λ name. is_below_class b (fin.get m name)) q
    (λ x tie. ap (λ name. is_below_class b (fin.get m name)) (sym (names_differ q x tie)))
    ∙ ap (λ t. set.contains names q && t) (lower_is b (fin.get m q))

pub stays_is : (next : plain.Next) (was is_changed : Bool) (size : Option ℕ) (k : ℕ) (m : Map)
    (book : books.Book) (c : Change) (name : List ℕ) → IsNext next k m book c
    → set.contains book.buffered name ≡ was → same_name name c.name ≡ is_changed
    → option_map length (fin.get (changed c m) name) ≡ size
    → set.contains (next_book k m book c).book.buffered name ≡ stays_buffered next was is_changed size
unfolding next_book
stays_is next was is_changed size k m book c name n w s z =
    let charged = charge_change k m book c in
    let shape = reshaped k book.caps charged (volumes (changed c m)) in
    let names = buffered_after book c charged in
    let found : is_new_buffered c charged ≡ enters next.found_last (option_map length c.object) =
    enters_is k book.caps book.grid (old_item m book c.name) c.object
    ∙ ap (λ last. enters last (option_map length c.object)) (sym n.found_last) in
    let here : (b : Bool) → same_name name c.name ≡ b
    → (if b then is_new_buffered c charged else set.contains book.buffered name)
    ≡ (if b then enters next.found_last size else was) = λ b. elim b as (λ b. same_name name c.name ≡ b
    → (if b then is_new_buffered c charged else set.contains book.buffered name)
    ≡ (if b then enters next.found_last size else was)) [
      | true ↦ λ is. found ∙ ap (λ o. enters next.found_last (option_map length o))
          (sym (object_here c.name c.object m name is)) ∙ ap (enters next.found_last) z
      | false ↦ λ other. w
    ] in
    left_is shape.quiet shape.boundary (changed c m) names name
    ∙ (λ i. (stands_is book.buffered c.name name (is_new_buffered c charged)
    ∙ here (same_name name c.name) refl
    ∙ ap (λ b. if b then enters next.found_last size else was) s) i
    && ((sym n.quiet) i || is_of_lower ((sym n.boundary) i) (z i)))
