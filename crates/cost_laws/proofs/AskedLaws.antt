-- What a change asks: the bytes of the object that it removes and of the one that it inserts, by class. Its
-- items weigh no more.
use Rattle.std.specs.Prelude.{◌≡◌, ◌≢◌, ℕ, zero, suc, ◌+◌, ◌*◌, ◌≤◌, Bool, true, false, if◌then◌else◌, List, [], ◌∷◌, ◌++◌, sum_by, slice_index, refl}
use Rattle.std.proofs.Common.{arith, sym, ◌∙◌, ap}
use Rattle.std.proofs.lemmas.List.Sums.{sum_by-cons, sum_by-append}
use Rattle.std.specs.FinMap as fin
use Rattle.std.specs.FinSet as set
use Rattle.byte_ranges.specs.Lists.{sum_below}
use Rattle.size_class.specs.Classes.{width, class_of}
use Rattle.size_class.proofs.ClassLaws.{class_below}
use Rattle.map_model.specs.Maps.{Map}
use Rattle.map_model.specs.Requests.{Change}
use Rattle.segment_layout.specs.Books.{Book, volumes_of_sizes, item_of, old_item, new_item}
use Rattle.segment_layout.proofs.SumLaws.{sum_below_agree, sum_below_add, sum_below_zero, sum_below_one}
use Rattle.segment_layout.proofs.BalanceLaws.{bytes_in, bytes_in-same, bytes_in-other}
use Rattle.segment_layout.proofs.BookLaws.{volumes_of_sizes-index}
use Rattle.cost_laws.proofs.Weights.{cells_weight, item_weight}
use Rattle.cost_laws.specs.Asked.{asked_sizes, asked_row}

-- an object's bytes weigh what an item of its size does
pub bytes_weigh : (r : ℕ → ℕ) (size : ℕ) → sum_below width (λ d. bytes_in d size * r d) ≡ item_weight r size
bytes_weigh r zero = sum_below_zero width (λ d. bytes_in d 0 * r d) (λ d h. omega arith) ∙ omega arith
bytes_weigh r (suc n) =
    let size = suc n in
    let c = class_of size in
    let none : (d : ℕ) → d ≢ c → bytes_in d size * r d ≡ 0 = λ d other. let z : 0 * r d ≡ 0 = omega arith in
    ap (λ x. x * r d) (bytes_in-other d size (λ x. other (sym x))) ∙ z in
    let here : bytes_in c size * r c ≡ item_weight r size =
    ap (λ x. x * r c) (bytes_in-same size (omega arith)) in
    omega (
      arith,
      here,
      sum_below_one width c (λ d. bytes_in d size * r d) (λ d. 0) (class_below size) none,
      sum_below_zero width (λ d. 0) (λ i h. refl),
    )

pub sizes_weigh : (r : ℕ → ℕ) (sizes : List ℕ)
    → cells_weight r (volumes_of_sizes sizes) ≡ sum_by (item_weight r) sizes
sizes_weigh r sizes =
    sum_below_agree width (λ d. slice_index (volumes_of_sizes sizes) d * r d)
    (λ d. sum_by (λ size. bytes_in d size) sizes * r d) (λ d h. ap (λ x. x * r d)
    (volumes_of_sizes-index sizes d))
    ∙ go sizes
  where
    go : (sizes : List ℕ) → sum_below width (λ d. sum_by (λ size. bytes_in d size) sizes * r d)
        ≡ sum_by (item_weight r) sizes
    go [] = sum_below_zero width (λ d. 0 * r d) (λ d h. omega arith)
    go (size ∷ sizes) =
        sum_below_agree width (λ d. sum_by (λ size. bytes_in d size) (size ∷ sizes) * r d)
        (λ d. bytes_in d size * r d + sum_by (λ size. bytes_in d size) sizes * r d) (λ d h.
        let parts : (bytes_in d size + sum_by (λ size. bytes_in d size) sizes) * r d
        ≡ bytes_in d size * r d + sum_by (λ size. bytes_in d size) sizes * r d = omega arith in
        ap (λ x. x * r d) (sum_by-cons (λ size. bytes_in d size) size sizes) ∙ parts)
        ∙ sum_below_add width (λ d. bytes_in d size * r d) (λ d. sum_by (λ size. bytes_in d size) sizes * r d)
        ∙ (λ i. bytes_weigh r size i + go sizes i)
        ∙ sym (sum_by-cons (item_weight r) size sizes)

-- the items of a change are among the objects that it removes and inserts
pub items_weigh : (r : ℕ → ℕ) (m : Map) (book : Book) (c : Change)
    → sum_by (item_weight r) (old_item m book c.name ++ new_item c) ≤ cells_weight r (asked_row m c)
items_weigh r m book c =
    let w = item_weight r in
    let old : sum_by w (old_item m book c.name) ≤ sum_by w (item_of (fin.get m c.name)) =
    less (set.contains book.buffered c.name) (item_of (fin.get m c.name)) in
    omega (
      arith,
      old,
      sizes_weigh r (asked_sizes m c),
      sum_by-append w (old_item m book c.name) (new_item c),
      sum_by-append w (item_of (fin.get m c.name)) (new_item c),
    )
  where
    less : (t : Bool) (sizes : List ℕ)
        → sum_by (item_weight r) (if t then [] else sizes) ≤ sum_by (item_weight r) sizes
    less true sizes = omega arith
    less false sizes = omega arith
