-- Each change keeps a book balanced, and a balanced book is tight.
use Rattle.std.specs.Prelude.{◌≡◌, ◌⊎◌, ℕ, ◌+◌, ◌-◌, ◌≤◌, nat_lt, Bool, true, false, not, ◌&&◌, ◌||◌, cond, if◌then◌else◌, List, [], ◌∷◌, length, drop, fold, Option, Some, None, refl}
use Rattle.std.proofs.Common.{arith, sym, ◌∙◌, ap, subst, inl, inr}
use Rattle.std.proofs.lemmas.Bool.{cases_lt, cases_Bool, cond-true, cond-false, ltb-true, ltb-false}
use Rattle.std.proofs.lemmas.List.{get_or_past}
use Rattle.std.specs.FinMap as fin
use Rattle.std.specs.FinSet as set
use Rattle.size_class.specs.Classes.{width}
use Rattle.size_class.proofs.ClassLaws.{class_below}
use Rattle.map_model.specs.Maps.{Map}
use Rattle.map_model.specs.Requests.{Change, changed}
use Rattle.map_model.specs.Weights.{weights, weight, same_name}
use Rattle.map_model.proofs.MapLaws.{weights-remove, same_name-itself, name_order}
use Rattle.segment_layout.specs.Shapes.{boundary_of, settled_caps, settled_grid}
use Rattle.segment_layout.specs.Books.{Book, Charged, charge_one, charge_all, charge_change, item_of, old_item, new_item, found_room, is_new_buffered, buffered_after, below_class, digests_after, is_quiet, trigger, next_book, volumes}
use Rattle.segment_layout.specs.Balance.{IsBalanced}
use Rattle.segment_layout.proofs.BalanceLaws.{HoldsBelow, bytes_in, bytes_in-other, filled_by_settling, holds_by_settling}
use Rattle.segment_layout.specs.Balance.{IsFilled}
use Rattle.segment_layout.proofs.ChargingLaws.{Keeps, limit_of, finds, keeps_fewer, keeps_gone, keeps_new, charge_all-append, tried_one, last_found, quiet_limit, trigger_within, trigger_below}
use Rattle.segment_layout.proofs.ShapeLaws.{boundary_of-is, boundary_of-le}
use Rattle.segment_layout.proofs.BookLaws.{in_class, in_buffers, in_payload, buffered_is, settled_is, weights_after, length-volumes_of_sizes, buffers_below, payload_below, buffers_above, payload_above, none_in, none_out, sum_by_none}
use Rattle.segment_layout.specs.Books.{Names}

-- what an object has to charge: nothing, or its size
abbrev ItemIs : List ℕ → (ℕ → ℕ) → Type 0
ItemIs items bytes = ((items ≡ []) × ((d : ℕ) → bytes d ≡ 0))
    ⊎ ((size : ℕ) × (items ≡ size ∷ []) × (1 ≤ size) × ((d : ℕ) → bytes d ≡ bytes_in d size))

item_is : (name : List ℕ) (o : Option (List ℕ)) → ItemIs (item_of o) (λ d. weight (in_class d) name o)
item_is name None = inl (refl, λ d. refl)
item_is name (Some object) =
    elim (cases_Bool (nat_lt 0 (length object))) [
      | inl some ↦ inr (
        length object,
        cond-true (nat_lt 0 (length object)) (length object ∷ []) [] some,
        ltb-true 0 (length object) some,
        λ d. refl,
      )
      | inr none ↦
          let empty : length object ≡ 0 = omega (arith, ltb-false 0 (length object) none) in
          inl (cond-false (nat_lt 0 (length object)) (length object ∷ []) [] none, λ d. ap (bytes_in d) empty)
    ]

module _ (k : ℕ) (caps : List ℕ) where
  charge_old : (charged : Charged) (items : List ℕ) (bytes settled buffered settled' buffered' : ℕ → ℕ)
      → ItemIs items bytes → Keeps k caps charged settled buffered
      → ((d : ℕ) → settled' d + bytes d ≡ settled d) → ((d : ℕ) → buffered' d ≤ buffered d)
      → Keeps k caps (fold (charge_one k caps) charged items) settled' buffered'
  charge_old charged items bytes settled buffered settled' buffered' (inl none) h s b =
      subst (λ xs. Keeps k caps (fold (charge_one k caps) charged xs) settled' buffered') (sym none.0)
      (keeps_fewer k caps charged settled buffered settled' buffered' h (λ d. omega (arith, s d, none.1 d)) b)
  charge_old charged items bytes settled buffered settled' buffered' (inr one) h s b =
      subst (λ xs. Keeps k caps (fold (charge_one k caps) charged xs) settled' buffered') (sym one.1)
      (keeps_fewer k caps (charge_one k caps charged one.0) settled' buffered settled' buffered'
      (keeps_gone k caps charged one.0 settled buffered settled' h one.2 (λ d. omega (arith, s d, one.3 d)))
      (λ d. refl) b)

  charge_new : (charged : Charged) (items : List ℕ) (found : Bool)
      (bytes settled buffered settled' buffered' : ℕ → ℕ) → ItemIs items bytes
      → Keeps k caps charged settled buffered
      → (let after = fold (charge_one k caps) charged items in
      found ≡ found_room items (drop (length after.tried - length items) after.tried))
      → ((d : ℕ) → settled' d ≡ settled d + cond found 0 (bytes d))
      → ((d : ℕ) → buffered' d ≡ buffered d + cond found (bytes d) 0)
      → Keeps k caps (fold (charge_one k caps) charged items) settled' buffered'
  charge_new charged items found bytes settled buffered settled' buffered' (inl none) h flag s b =
      subst (λ xs. Keeps k caps (fold (charge_one k caps) charged xs) settled' buffered') (sym none.0)
      (keeps_fewer k caps charged settled buffered settled' buffered' h
      (λ d. omega (arith, s d, none_out found (bytes d) (none.1 d)))
      (λ d. omega (arith, b d, none_in found (bytes d) (none.1 d))))
  charge_new charged items found bytes settled buffered settled' buffered' (inr one) h flag s b =
      let answer : found ≡ finds k caps charged one.0 =
      flag
      ∙ ap (λ xs. let after = fold (charge_one k caps) charged xs in
      found_room xs (drop (length after.tried - length xs) after.tried)) one.1
      ∙ ap (λ tried. found_room (one.0 ∷ []) (drop (length tried - 1) tried)) (tried_one k caps charged one.0)
      ∙ last_found charged.tried one.0 (finds k caps charged one.0) in
      subst (λ xs. Keeps k caps (fold (charge_one k caps) charged xs) settled' buffered') (sym one.1)
      (keeps_new k caps charged one.0 settled buffered settled' buffered' h one.2
      (λ d. s d ∙ (λ i. settled d + cond (answer i) 0 (one.3 d i)))
      (λ d. b d ∙ (λ i. buffered d + cond (answer i) (one.3 d i) 0)))

-- ---- the names in buffers after a change

abbrev pub names_after : Names → List ℕ → Bool → Names
names_after names name found = if found then set.insert (set.remove names name) name
    else set.remove names name

others_left : (names : Names) (name q : List ℕ) → same_name q name ≡ false
    → set.contains (set.remove names name) q ≡ set.contains names q
others_left names name q other = set.contains-remove name_order names name q
    ∙ ap (λ t. not t && set.contains names q) other

pub after_other : (names : Names) (name q : List ℕ) (found : Bool) → same_name q name ≡ false
    → set.contains (names_after names name found) q ≡ set.contains names q
after_other names name q true other =
    set.contains-insert name_order (set.remove names name) name q
    ∙ ap (λ t. t || set.contains (set.remove names name) q) other ∙ others_left names name q other
after_other names name q false other = others_left names name q other

pub after_here : (names : Names) (name : List ℕ) (found : Bool)
    → set.contains (names_after names name found) name ≡ found
after_here names name true = set.contains-insert name_order (set.remove names name) name name
    ∙ ap (λ t. t || set.contains (set.remove names name) name) (same_name-itself name)
after_here names name false = set.contains-remove name_order names name name
    ∙ ap (λ t. not t && set.contains names name) (same_name-itself name)

weight_in : (names : Names) (name : List ℕ) (d : ℕ) (o : Option (List ℕ))
    → weight (in_buffers names d) name o ≡ cond (set.contains names name) (weight (in_class d) name o) 0
weight_in names name d None = sym (none_in (set.contains names name) 0 refl)
weight_in names name d (Some object) = refl

weight_out : (names : Names) (name : List ℕ) (d : ℕ) (o : Option (List ℕ))
    → weight (in_payload names d) name o ≡ cond (set.contains names name) 0 (weight (in_class d) name o)
weight_out names name d None = sym (none_out (set.contains names name) 0 refl)
weight_out names name d (Some object) = refl

-- the bytes of a class after a change, of those of the other names
buffers_after : (m : Map) (c : Change) (names : Names) (found : Bool) (d : ℕ)
    → weights (in_buffers (names_after names c.name found) d) (changed c m)
    ≡ weights (in_buffers names d) (fin.remove m c.name) + cond found (weight (in_class d) c.name c.object) 0
buffers_after m c names found d =
    weights_after (in_buffers names d) (in_buffers (names_after names c.name found) d) c m
    (λ q v other. ap (λ t. cond t (bytes_in d (length v)) 0)
    (sym (after_other names c.name q found other)))
    ∙ ap (λ x. weights (in_buffers names d) (fin.remove m c.name) + x)
    (weight_in (names_after names c.name found) c.name d c.object
    ∙ ap (λ t. cond t (weight (in_class d) c.name c.object) 0) (after_here names c.name found))

pub payload_after : (m : Map) (c : Change) (names : Names) (found : Bool) (d : ℕ)
    → weights (in_payload (names_after names c.name found) d) (changed c m)
    ≡ weights (in_payload names d) (fin.remove m c.name) + cond found 0 (weight (in_class d) c.name c.object)
payload_after m c names found d =
    weights_after (in_payload names d) (in_payload (names_after names c.name found) d) c m
    (λ q v other. ap (λ t. cond t 0 (bytes_in d (length v)))
    (sym (after_other names c.name q found other)))
    ∙ ap (λ x. weights (in_payload names d) (fin.remove m c.name) + x)
    (weight_out (names_after names c.name found) c.name d c.object
    ∙ ap (λ t. cond t 0 (weight (in_class d) c.name c.object)) (after_here names c.name found))

-- ---- a balanced book as what is kept while items are charged

pub keeps_from_balanced : (k : ℕ) (m : Map) (book : Book) → IsBalanced k m book
    → Keeps k book.caps (record { grid = book.grid; tried = [] })
    (λ d. weights (in_payload book.buffered d) m) (λ d. weights (in_buffers book.buffered d) m)
keeps_from_balanced k m book b =
    record {
      filled = record {
        caps_full = b.caps_full;
        grid_full = b.grid_full;
        rows = b.rows;
        lower = b.lower;
        entry = b.entry;
        full = b.full;
      };
      holds = record {
        payload = λ d _. omega (arith, b.payload d, settled_is m book d);
        buffers = λ d. omega (arith, b.buffers d, buffered_is m book d);
        balance = λ d _. omega (arith, b.balance d, settled_is m book d, buffered_is m book d);
      };
    }

-- beyond the classes there are no bytes
beyond_payload : (m : Map) (names : Names) (d : ℕ) → width ≤ d → weights (in_payload names d) m ≡ 0
beyond_payload m names d high = sum_by_none (in_payload names d) (fin.entries m)
    (λ e. none_out (set.contains names e.0) (in_class d e)
    (bytes_in-other d (length e.1) (λ x. absurd (omega (arith, class_below (length e.1))))))

beyond_buffers : (m : Map) (names : Names) (d : ℕ) → width ≤ d → weights (in_buffers names d) m ≡ 0
beyond_buffers m names d high = sum_by_none (in_buffers names d) (fin.entries m)
    (λ e. none_in (set.contains names e.0) (in_class d e)
    (bytes_in-other d (length e.1) (λ x. absurd (omega (arith, class_below (length e.1))))))

pub balanced_from : (k : ℕ) (m : Map) (book : Book) → IsFilled k book.caps book.grid
    → HoldsBelow width book.caps book.grid (λ d. weights (in_payload book.buffered d) m)
    (λ d. weights (in_buffers book.buffered d) m) → IsBalanced k m book
balanced_from k m book f h =
    record {
      caps_full = f.caps_full;
      grid_full = f.grid_full;
      rows = f.rows;
      payload = λ d. elim (cases_lt d width) [
        | inl low ↦ omega (arith, h.payload d low, settled_is m book d)
        | inr high ↦ omega (arith, settled_is m book d, beyond_payload m book.buffered d high)
      ];
      lower = f.lower;
      entry = f.entry;
      full = f.full;
      buffers = λ d. omega (arith, h.buffers d, buffered_is m book d);
      balance = λ d. elim (cases_lt d width) [
        | inl low ↦ omega (arith, h.balance d low, settled_is m book d, buffered_is m book d)
        | inr high ↦ omega (
          arith,
          buffered_is m book d,
          beyond_buffers m book.buffered d high,
          get_or_past book.caps d 0 (omega (arith, f.caps_full)),
        )
      ];
    }

item_like : (xs ys : List ℕ) (x y : ℕ → ℕ) → ItemIs xs x → ys ≡ xs → ((d : ℕ) → y d ≡ x d) → ItemIs ys y
item_like xs ys x y (inl none) same bytes = inl (same ∙ none.0, λ d. bytes d ∙ none.1 d)
item_like xs ys x y (inr one) same bytes = inr (one.0, same ∙ one.1, one.2, λ d. bytes d ∙ one.3 d)

old_item_is : (m : Map) (book : Book) (name : List ℕ)
    → ItemIs (old_item m book name) (λ d. weight (in_payload book.buffered d) name (fin.get m name))
old_item_is m book name =
    let o = fin.get m name in
    let t = set.contains book.buffered name in
    elim (cases_Bool t) [
      | inl in_buffer ↦ inl (
        cond-true t [] (item_of o) in_buffer,
        λ d. weight_out book.buffered name d o
            ∙ cond-true t 0 (weight (in_class d) name o) in_buffer,
      )
      | inr outside ↦ item_like (item_of o) (old_item m book name) (λ d. weight (in_class d) name o)
          (λ d. weight (in_payload book.buffered d) name o) (item_is name o)
          (cond-false t [] (item_of o) outside)
          (λ d. weight_out book.buffered name d o ∙ cond-false t 0 (weight (in_class d) name o) outside)
    ]

-- what is kept once the items of a change are charged
abbrev KeepsChange : ℕ → Map → Book → Change → Charged → Type 0
KeepsChange k m book c charged = let names = names_after book.buffered c.name (is_new_buffered c charged) in
    Keeps k book.caps charged (λ d. weights (in_payload names d) (changed c m))
    (λ d. weights (in_buffers names d) (changed c m))

pub change_keeps : (k : ℕ) (m : Map) (book : Book) (c : Change) → IsBalanced k m book
    → KeepsChange k m book c (charge_change k m book c)
change_keeps k m book c b =
    let names = book.buffered in
    let first = charge_all k book.caps book.grid (old_item m book c.name) in
    let rest = fin.remove m c.name in
    let old : Keeps k book.caps first (λ d. weights (in_payload names d) rest)
    (λ d. weights (in_buffers names d) rest) =
    charge_old k book.caps (record { grid = book.grid; tried = [] }) (old_item m book c.name)
    (λ d. weight (in_payload names d) c.name (fin.get m c.name)) _ _
    (λ d. weights (in_payload names d) rest) (λ d. weights (in_buffers names d) rest)
    (old_item_is m book c.name) (keeps_from_balanced k m book b)
    (λ d. weights-remove (in_payload names d) m c.name)
    (λ d. omega (arith, weights-remove (in_buffers names d) m c.name)) in
    let second = fold (charge_one k book.caps) first (new_item c) in
    subst (KeepsChange k m book c) (sym
    (charge_all-append k book.caps book.grid (old_item m book c.name) (new_item c)))
    (charge_new k book.caps first (new_item c) (is_new_buffered c second)
    (λ d. weight (in_class d) c.name c.object) (λ d. weights (in_payload names d) rest)
    (λ d. weights (in_buffers names d) rest) _ _
    (item_is c.name c.object) old refl
    (λ d. payload_after m c names (is_new_buffered c second) d)
    (λ d. buffers_after m c names (is_new_buffered c second) d))

quiet_next : (k : ℕ) (m : Map) (book : Book) (c : Change) (charged : Charged) → KeepsChange k m book c charged
    → is_quiet charged ≡ true
    → IsBalanced k (changed c m) (record {
      caps = book.caps;
      grid = charged.grid;
      buffered = buffered_after book c charged;
      digests = digests_after c book.digests;
    })
quiet_next k m book c charged h quiet =
    let names = buffered_after book c charged in
    balanced_from k (changed c m)
    (record {
      caps = book.caps;
      grid = charged.grid;
      buffered = names;
      digests = digests_after c
          book.digests;
    })
    h.filled
    (subst (λ limit. HoldsBelow limit book.caps charged.grid (λ d. weights (in_payload names d) (changed c m))
    (λ d. weights (in_buffers names d) (changed c m))) (quiet_limit charged quiet) h.holds)

flushed_next : (k : ℕ) (m : Map) (book : Book) (c : Change) (charged : Charged)
    → KeepsChange k m book c charged
    → (let b = boundary_of charged.grid (trigger charged) in
    IsBalanced k (changed c m) (record {
      caps = settled_caps b book.caps (volumes (changed c m));
      grid = settled_grid b charged.grid;
      buffered = below_class b (changed c m) (buffered_after book c charged);
      digests = digests_after c book.digests;
    }))
flushed_next k m book c charged h =
    let b = boundary_of charged.grid (trigger charged) in
    let after = changed c m in
    let names = buffered_after book c charged in
    let within : b ≤ limit_of charged.tried =
    omega (arith, boundary_of-le charged.grid (trigger charged), trigger_within charged) in
    let fits : b ≤ width = omega (arith, boundary_of-le charged.grid (trigger charged), trigger_below charged)
    in
    balanced_from k after _ (filled_by_settling k b book.caps (volumes after) charged.grid h.filled
    (length-volumes_of_sizes _) fits)
    (holds_by_settling (limit_of charged.tried) k b book.caps (volumes after) charged.grid
    (λ d. weights (in_payload names d) after) (λ d. weights (in_buffers names d) after) _ _ h.filled
    h.holds within fits
    (boundary_of-is charged.grid (trigger charged))
    (λ d low. payload_below b d after names low) (λ d low. buffers_below b d after names low)
    (λ d high. payload_above b d after names high) (λ d high. buffers_above b d after names high))

pub balanced_next : (k : ℕ) (m : Map) (book : Book) (c : Change) → IsBalanced k m book
    → IsBalanced k (changed c m) (next_book k m book c).book
unfolding next_book
balanced_next k m book c b =
    let charged = charge_change k m book c in
    let kept = change_keeps k m book c b in
    let after = changed c m in
    let names = buffered_after book c charged in
    let from = boundary_of charged.grid (trigger charged) in
    elim (is_quiet charged) as (λ q. is_quiet charged ≡ q → IsBalanced k after (record {
      caps = if q then book.caps else settled_caps from book.caps (volumes after);
      grid = if q then charged.grid else settled_grid from charged.grid;
      buffered = if q then names else below_class from after names;
      digests = digests_after c book.digests;
    })) [
      | true ↦ λ quiet. quiet_next k m book c charged kept quiet
      | false ↦ λ _. flushed_next k m book c charged kept
    ] refl
