-- How often one object is moved: each move makes one object more of its key stand where its phase leaves it.
use Rattle.std.specs.Prelude.{◌≡◌, ◌≢◌, ℕ, ◌+◌, ◌-◌, ◌<◌, ◌≤◌, ◌==◌, Bool, true, false, ◌&&◌, cond, List, [], ◌∷◌, Contains, slice_get, Some, sum_by, refl, nat_le, nat_lt, suc}
use Rattle.std.proofs.Common.{arith, sym, ◌∙◌, ap, inl, inr}
use Rattle.flush_model.specs.declared.item.Item.{Item}
use Rattle.flush_model.specs.declared.item.Move.{Move}
use Rattle.flush_model.specs.declared.item.Numbers.{Numbers}
use Rattle.flush_model.specs.Phases.{AreItems, IsLaying, IsLifting, IsPacking, PlanState, moved_by, is_packed_below}
use Rattle.flush_model.specs.Runs.{AreLays, AreLifts, ArePacks, IsLast, LaysOnce, LiftsOrPacksOnce, MovesFewBytes, after_moves, moves_of}
use Rattle.flush_model.proofs.WaitingLaws.{PassesBehind, laid_at_most, lay_passes_behind, lift_passes_behind, lifted_and_packed, lifted_and_packed_without, pack_lifts_nothing, pack_passes_behind}
use Rattle.std.proofs.lemmas.Bool.{and_from, and_left, and_right, cases_Bool, cases_eq, cases_lt, cond-false, cond-true, eq-eqb, le-ltb, lt-leb, ne_eqb}
use Rattle.flush_model.proofs.ListLaws.{got_at, length_filter, sum_by_both, sum_by_le_in, sum_by_more_in, sum_by_none_in}
use Rattle.flush_model.specs.Plans.{is_below_wall, is_laid, is_lifted, is_packed, mover, relocated}
use Rattle.flush_model.proofs.PhaseLaws.{laying_moved, lifting_moved, packing_begins, packing_moved}
use Rattle.flush_model.proofs.ItemLaws.{one_moves, same_key, target, has_other}
use Rattle.std.proofs.lemmas.List.Sums.{sum_by-cons}

-- how many items of a key pass a test
abbrev with_key : ℕ → (Item → Bool) → Item → ℕ
with_key key q it = cond ((it.key == key) && q it) 1 0

abbrev pub keyed : ℕ → (Item → Bool) → List Item → ℕ
keyed key q items = sum_by (with_key key q) items

-- at most one
keyed_once : (key : ℕ) (items : List Item)
    → ((i j : ℕ) (a b : Item) → i < j → slice_get items i ≡ Some a → slice_get items j ≡ Some b
    → a.key ≢ b.key)
    → sum_by (λ it. cond (it.key == key) 1 0) items ≤ 1
keyed_once key [] apart = omega arith
keyed_once key (x ∷ xs) apart =
    let rest = keyed_once key xs (λ i j a b less at_i at_j.
    apart (suc i) (suc j) a b (omega (arith, less)) at_i at_j)
    in
    elim (cases_eq x.key key) [
      | inr other ↦ omega (
        arith,
        sum_by-cons (λ (it : Item). cond (it.key == key) 1 0) x xs,
        cond-false {A = ℕ} (x.key == key) 1 0 (ne_eqb x.key key other),
        rest,
      )
      | inl is ↦ omega (
        arith,
        sum_by-cons (λ (it : Item). cond (it.key == key) 1 0) x xs,
        cond-true {A = ℕ} (x.key == key) 1 0 (eq-eqb x.key key is),
        sum_by_none_in (λ (it : Item). cond (it.key == key) 1 0) xs
            (λ it has. cond-false {A = ℕ} (it.key == key)
            1 0 (ne_eqb it.key key (λ e. apart 0 (suc has.0) x it (omega arith) refl (got_at it xs has)
            (is ∙ sym e)))),
      )
    ]

pub keyed_at_most : (n : Numbers) (items : List Item) → AreItems n items → (key : ℕ) (q : Item → Bool)
    → keyed key q items ≤ 1
keyed_at_most n items are key q = omega (
  arith,
  keyed_once key items (λ i j a b less at_i at_j. (are.apart i j a b less at_i at_j).keys),
  sum_by_le_in (with_key key q) (λ it. cond (it.key == key) 1 0) items
      (λ it has. fewer (it.key == key) (q it)),
)
  where
    fewer : (a b : Bool) → cond {A = ℕ} (a && b) 1 0 ≤ cond a 1 0
    fewer true true = omega arith
    fewer true false = omega arith
    fewer false b = omega arith

-- one more with a move, of a test that the mover passes behind it alone
module _ (n : Numbers) (items : List Item) (are : AreItems n items) (mv : Move)
    (has : Contains items (mover mv)) (p q : Item → Bool) (key : ℕ) where
  moved_keyed : ((it : Item) → Contains items it → it.key ≢ mv.key → q it ≡ p it)
      → keyed key q (relocated mv.key mv.to items) + with_key key p (mover mv)
      ≡ keyed key p items + with_key key q (target mv)
  moved_keyed same = one_moves n items are mv has (with_key key p) (with_key key q)
      (λ it there other. ap (λ b. cond {A = ℕ} ((it.key == key) && b) 1 0) (sym (same it there other)))

  pub keyed_more : PassesBehind items mv p q
      → keyed key q (relocated mv.key mv.to items) ≡ keyed key p items + cond (mv.key == key) 1 0
  keyed_more passes = omega (
    arith,
    moved_keyed passes.same,
    cond-false {A = ℕ} ((mv.key == key) && p (mover mv)) 1 0
        (and_right (mv.key == key) (p (mover mv)) passes.before),
    now,
  )
    where
      now : cond {A = ℕ} ((mv.key == key) && q (target mv)) 1 0 ≡ cond (mv.key == key) 1 0
      now = elim (cases_Bool (mv.key == key)) [
        | inl is ↦ cond-true {A = ℕ} ((mv.key == key) && q (target mv)) 1 0
            (and_from (mv.key == key) (q (target mv)) is passes.behind)
            ∙ sym (cond-true {A = ℕ} (mv.key == key) 1 0 is)
        | inr other ↦ cond-false {A = ℕ} ((mv.key == key) && q (target mv)) 1 0
            (and_left (mv.key == key) (q (target mv)) other)
            ∙ sym (cond-false {A = ℕ} (mv.key == key) 1 0 other)
      ]

  pub keyed_same : p (mover mv) ≡ false → q (target mv) ≡ false
      → ((it : Item) → Contains items it → it.key ≢ mv.key → q it ≡ p it)
      → keyed key q (relocated mv.key mv.to items) ≡ keyed key p items
  keyed_same before behind same = omega (
    arith,
    moved_keyed same,
    cond-false {A = ℕ} ((mv.key == key) && p (mover mv)) 1 0
        (and_right (mv.key == key) (p (mover mv)) before),
    cond-false {A = ℕ} ((mv.key == key) && q (target mv)) 1 0
        (and_right (mv.key == key) (q (target mv)) behind),
  )

-- ---- lists of moves

moves_more : (key : ℕ) (mv : Move) (rest : List Move)
    → moves_of key (mv ∷ rest) ≡ cond (mv.key == key) 1 0 + moves_of key rest
moves_more key mv rest = omega (
  arith,
  length_filter (λ (m : Move). m.key == key) (mv ∷ rest),
  length_filter (λ (m : Move). m.key == key) rest,
  sum_by-cons (λ (m : Move). cond {A = ℕ} (m.key == key) 1 0) mv rest,
)

-- how many objects of a key are lifted, are packed, are laid
abbrev lifted_keyed : ℕ → PlanState → ℕ
lifted_keyed key p = keyed key (is_lifted p.numbers p.pending) p.items

abbrev packed_keyed : ℕ → PlanState → ℕ
packed_keyed key p = keyed key (is_packed_below p) p.items

abbrev laid_keyed : ℕ → PlanState → ℕ
laid_keyed key p = keyed key (is_laid p.k p.numbers p.items) p.items

-- the pending item lies past the wall
abbrev LastIsPast : PlanState → Type 0
LastIsPast p = p.numbers.wall ≤ p.numbers.reach - p.pending

last_stays : (p : PlanState) (mv : Move) (are : AreItems p.numbers p.items) → Contains p.items (mover mv)
    → mv.from < p.numbers.wall → LastIsPast p → (it : Item) → IsLast p it → IsLast (moved_by mv p) it
last_stays p mv are has below past it last = (
  has_other p.numbers p.items are mv has it last.0
      (λ e. omega (
        arith,
        below,
        past,
        last.1,
        ap (λ (x : Item). x.place) (same_key p.numbers p.items are it (mover mv) last.0 has e),
      )),
  last.1,
)

-- what a list of moves of Lift leaves
record Lifted (key : ℕ) (p e : PlanState) (moves : List Move) : Type 0 where
  is : IsLifting e
  past : LastIsPast e
  lifted : lifted_keyed key e ≡ lifted_keyed key p + moves_of key moves
  last : (it : Item) → IsLast p it → IsLast e it

lifts_done : (key : ℕ) (moves : List Move) (p : PlanState) → IsLifting p → AreLifts moves p
    → Lifted key p (after_moves moves p) moves
lifts_done key [] p is tt = record {
  is = is;
  past = omega (arith, is.lifting.reaches);
  lifted = omega arith;
  last = λ it h. h;
}
lifts_done key (mv ∷ rest) p is next =
    let q = moved_by mv p in
    let more = lifts_done key rest q (lifting_moved p mv is next.0) next.1 in
    let one = keyed_more p.numbers p.items is.items mv next.0.item (is_lifted p.numbers p.pending)
    (is_lifted p.numbers p.pending) key (lift_passes_behind p is mv next.0) in
    record {
      is = more.is;
      past = more.past;
      lifted = omega (arith, more.lifted, one, moves_more key mv rest);
      last = λ it h. more.last it (last_stays p mv is.items next.0.item next.0.below
          (omega (arith, is.lifting.reaches)) it h);
    }

-- what a list of moves of Pack leaves
record Packed (key : ℕ) (p e : PlanState) (moves : List Move) : Type 0 where
  is : IsPacking e
  past : LastIsPast e
  lifted : lifted_keyed key e ≡ lifted_keyed key p
  packed : packed_keyed key e ≡ packed_keyed key p + moves_of key moves
  last : (it : Item) → IsLast p it → IsLast e it

packs_done : (key : ℕ) (moves : List Move) (p : PlanState) → IsPacking p → LastIsPast p → ArePacks moves p
    → Packed key p (after_moves moves p) moves
packs_done key [] p is past tt = record {
  is = is;
  past = past;
  lifted = refl;
  packed = omega arith;
  last = λ it h. h;
}
packs_done key (mv ∷ rest) p is past next =
    let q = moved_by mv p in
    let more = packs_done key rest q (packing_moved p mv is next.0) past next.1 in
    let one = keyed_more p.numbers p.items is.items mv next.0.item (is_packed_below p)
    (is_packed_below (moved_by mv p)) key (pack_passes_behind p is mv next.0) in
    let none = pack_lifts_nothing p is mv next.0 in
    let still = keyed_same p.numbers p.items is.items mv next.0.item (is_lifted p.numbers p.pending)
    (is_lifted p.numbers p.pending) key none.0 none.1 (λ it has other. refl) in
    record {
      is = more.is;
      past = more.past;
      lifted = more.lifted ∙ still;
      packed = omega (arith, more.packed, one, moves_more key mv rest);
      last = λ it h. more.last it (last_stays p mv is.items next.0.item next.0.below past it h);
    }

lays_done : (key : ℕ) (moves : List Move) (p : PlanState) → IsLaying p → AreLays moves p
    → IsLaying (after_moves moves p)
    × (laid_keyed key (after_moves moves p) ≡ laid_keyed key p + moves_of key moves)
lays_done key [] p is tt = (is, omega arith)
lays_done key (mv ∷ rest) p is next =
    let more = lays_done key rest (moved_by mv p) (laying_moved p mv is next.0) next.1 in
    let one = keyed_more p.numbers p.items is.packing.items mv next.0.item (is_laid p.k p.numbers p.items)
    (is_laid p.k p.numbers (relocated mv.key mv.to p.items)) key (lay_passes_behind p is mv next.0) in
    (more.0, omega (arith, more.1, one, moves_more key mv rest))

-- what is lifted isn't packed
module _ (p : PlanState) (key : ℕ) where
  abbrev both : Item → ℕ
  both it = with_key key (is_lifted p.numbers p.pending) it + with_key key (is_packed_below p) it

  abbrev one : Item → ℕ
  one it = cond (it.key == key) 1 0

  at_most_one : (b : Bool) → cond {A = ℕ} b 1 0 ≤ 1
  at_most_one true = omega arith
  at_most_one false = omega arith

  each : (it : Item) → both it ≤ one it
  each it = elim (cases_Bool (it.key == key)) [
    | inr other ↦ omega (
      arith,
      cond-false {A = ℕ} ((it.key == key) && is_lifted p.numbers p.pending it) 1 0
          (and_left (it.key == key) (is_lifted p.numbers p.pending it) other),
      cond-false {A = ℕ} ((it.key == key) && is_packed_below p it) 1 0
          (and_left (it.key == key) (is_packed_below p it) other),
    )
    | inl is ↦ elim (cases_lt it.place p.numbers.wall) [
      | inl low ↦ omega (
        arith,
        cond-true {A = ℕ} (it.key == key) 1 0 is,
        cond-false {A = ℕ} ((it.key == key) && is_lifted p.numbers p.pending it) 1 0
            (and_right (it.key == key) (is_lifted p.numbers p.pending it)
            (and_left (nat_le p.numbers.wall it.place) (nat_lt it.place (p.numbers.reach - p.pending))
            (lt-leb p.numbers.wall it.place low))),
        at_most_one ((it.key == key) && is_packed_below p it),
      )
      | inr past ↦ omega (
        arith,
        cond-true {A = ℕ} (it.key == key) 1 0 is,
        cond-false {A = ℕ} ((it.key == key) && is_packed_below p it) 1 0
            (and_right (it.key == key) (is_packed_below p it)
            (and_left (is_below_wall p.numbers it) (is_packed p.numbers p.items it)
            (le-ltb it.place p.numbers.wall past))),
        at_most_one ((it.key == key) && is_lifted p.numbers p.pending it),
      )
    ]
  ]

  sums : sum_by both p.items ≡ lifted_keyed key p + packed_keyed key p
  sums = sum_by_both (with_key key (is_lifted p.numbers p.pending)) (with_key key (is_packed_below p)) p.items

  module _ (are : AreItems p.numbers p.items) where
    whole : sum_by one p.items ≤ 1
    whole = keyed_once key p.items (λ i j a b less at_i at_j. (are.apart i j a b less at_i at_j).keys)

    lifted_or_packed : lifted_keyed key p + packed_keyed key p ≤ 1
    lifted_or_packed = omega (arith, sums, whole, sum_by_le_in both one p.items (λ it has. each it))

    last_neither : LastIsPast p → (it : Item) → IsLast p it → it.key ≡ key
        → lifted_keyed key p + packed_keyed key p ≡ 0
    last_neither past it last is = omega (
      arith,
      sums,
      whole,
      sum_by_more_in both one it 1 p.items last.0 none (λ x has. each x),
    )
      where
        none : both it + 1 ≤ one it
        none = omega (
          arith,
          cond-true {A = ℕ} (it.key == key) 1 0 (eq-eqb it.key key is),
          cond-false {A = ℕ} ((it.key == key) && is_lifted p.numbers p.pending it) 1 0
              (and_right (it.key == key) (is_lifted p.numbers p.pending it)
              (and_right (nat_le p.numbers.wall it.place) (nat_lt it.place (p.numbers.reach - p.pending))
              (le-ltb it.place (p.numbers.reach - p.pending) last.1))),
          cond-false {A = ℕ} ((it.key == key) && is_packed_below p it) 1 0
              (and_right (it.key == key) (is_packed_below p it)
              (and_left (is_below_wall p.numbers it) (is_packed p.numbers p.items it)
              (le-ltb it.place p.numbers.wall (omega (arith, past, last.1))))),
        )

-- ---- a whole flush

pub lifts_or_packs_once : LiftsOrPacksOnce
lifts_or_packs_once p lifts packs is are_lifts lifted are_packs key =
    let first = lifts_done key lifts p is are_lifts in
    let then = packs_done key packs (after_moves lifts p)
    (packing_begins (after_moves lifts p) first.is lifted)
    first.past are_packs in
    let end = after_moves packs (after_moves lifts p) in
    let few : moves_of key lifts + moves_of key packs ≤ lifted_keyed key end + packed_keyed key end =
    omega (arith, first.lifted, then.lifted, then.packed) in (
      omega (arith, few, lifted_or_packed end key then.is.items),
      λ it last same. omega (
        arith,
        few,
        last_neither end key then.is.items then.past it
            (then.last it (first.last it last)) same,
      ),
    )

pub lays_once : LaysOnce
lays_once p lays is are_lays key =
    let done = lays_done key lays p is are_lays in
    let end = after_moves lays p in
    omega (
      arith,
      done.1,
      keyed_at_most end.numbers end.items done.0.packing.items key
          (is_laid end.k end.numbers end.items),
    )

pub moves_few_bytes : (p : PlanState) (c : ℕ) → MovesFewBytes p c
moves_few_bytes p c = record {
  lifted = lifted_and_packed p c;
  pending = λ it last past. lifted_and_packed_without p c it last.0 past last.1;
  laid = laid_at_most p c;
}
