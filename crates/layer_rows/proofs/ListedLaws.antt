-- A list in the order of places is a shelf, and stays one through the moves of a flush.
use Rattle.std.specs.Prelude.{◌≡◌, ℕ, ◌<◌, ◌≤◌, nat_le, List, [], ◌∷◌, length, slice_get, slice_index_or, Some, Contains, IsPermutation, refl}
use Rattle.std.specs.List.Sorted.{IsNonDecreasingBy}
use Rattle.std.proofs.Common.{arith, sym, ◌∙◌, ap, subst, inl, inr}
use Rattle.std.proofs.lemmas.Bool.{cases_order, cond-true, le-leb}
use Rattle.std.proofs.lemmas.List.Sorted.{IsPermutation-map, IsPermutation-trans}
use Rattle.std.proofs.lemmas.Option.{slice_get-get_or, slice_get_within}
use Rattle.flush_model.specs.declared.item.Item.{Item}
use Rattle.flush_model.specs.declared.item.Move.{Move}
use Rattle.flush_model.specs.declared.item.Numbers.{Numbers}
use Rattle.flush_model.specs.Plans.{AreBelow, AreSmall, moved_item, relocated}
use Rattle.flush_model.specs.Phases.{AreItems, IsPacking}
use Rattle.flush_model.proofs.ListLaws.{contains_here, contains_later, got_at}
use Rattle.flush_model.proofs.SortLaws.{items_permuted, rising_from_sorted}
use Rattle.flush_plan.specs.Shelves.{from_place, IsOnShelf, IsRank, IsShelf, phase_on, PlanFrame}
use Rattle.flush_plan.specs.Lifts.{Lift, Lifts}
use Rattle.flush_plan.specs.Packs.{Pack, Packs}
use Rattle.flush_plan.specs.Lays.{Lay, Lays}
use Rattle.layer_rows.specs.Listed.{LaysList, LiftsList, PacksList, PhaseList}
use Rattle.flush_plan.proofs.ShelfLaws.{places_rise}

pub all_from : (start : ℕ) (xs : List Item) → ((it : Item) → Contains xs it → start ≤ it.place)
    → from_place start xs ≡ xs
all_from start [] each = refl
all_from start (x ∷ xs) each =
    cond-true (nat_le start x.place) (x ∷ from_place start xs) (from_place start xs)
    (le-leb start x.place (each x (contains_here x xs)))
    ∙ ap (λ ys. x ∷ ys) (all_from start xs (λ it has. each it (contains_later x it xs has)))

pub is_shelf : (n : Numbers) (xs : List Item) → AreItems n xs → IsNonDecreasingBy (λ it. it.place) xs
    → IsShelf xs
is_shelf n xs are sorted = record {
  some = are.some;
  keys = λ i j a b less at_a at_b. (are.apart i j a b less at_a at_b).keys;
  rising = λ i j a b less at_a at_b. elim (are.apart i j a b less at_a at_b).bytes [
    | inl e ↦ e
    | inr e ↦ absurd (omega (arith, e, rising_from_sorted n xs are sorted i j a b less at_a at_b))
  ];
}

-- items in whatever order stand on the shelf that is their list by place
pub listed : (n : Numbers) (items xs : List Item) → AreItems n items → IsPermutation items xs
    → IsNonDecreasingBy (λ it. it.place) xs → IsOnShelf n.start items xs
listed n items xs are same sorted =
    let there = items_permuted items xs same n are in
    record {
      rises = is_shelf n xs there sorted;
      same = subst (IsPermutation items) (sym (all_from n.start xs there.start)) same;
    }

-- items that a phase keeps are those that it goes on over
pub lifts_on : {C k : ℕ} {v : Lift} {xs : List Item} (h : LiftsList C k v xs) → Lifts C v h.items xs
lifts_on {C} {k} {v} {xs} h =
    record { keeps = h.keeps; on = listed v.course.numbers h.items xs h.keeps.lifting.items h.same h.rising }

pub packs_on : {C k : ℕ} {v : Pack} {xs : List Item} (h : PacksList C k v xs) → Packs C v h.items xs
packs_on {C} {k} {v} {xs} h =
    record { keeps = h.keeps; on = listed v.course.numbers h.items xs h.keeps.packing.items h.same h.rising }

pub lays_on : {C k : ℕ} {v : Lay} {xs : List Item} (h : LaysList C k v xs) → Lays C v h.items xs
lays_on {C} {k} {v} {xs} h = record {
  keeps = h.keeps;
  on = listed v.course.numbers h.items xs h.keeps.laying.packing.items h.same h.rising;
}

-- the object at the rank of its place
pub at_rank : (xs : List Item) → IsShelf xs → (m : Item) → Contains xs m → (rank : ℕ)
    → IsRank xs m.place rank → slice_get xs rank ≡ Some m
at_rank xs rises m has rank is = elim (cases_order has.0 rank) [
  | inl e ↦ subst (λ i. slice_get xs i ≡ Some m) e (got_at m xs has)
  | inr (inl less) ↦ absurd (omega (arith, is.before has.0 m less (got_at m xs has)))
  | inr (inr more) ↦
      let a = slice_index_or xs rank m in
      let at : slice_get xs rank ≡ Some a = slice_get-get_or xs rank m (omega (arith, more, has.1)) in
      absurd (omega (
        arith,
        is.from rank a (omega arith) at,
        places_rise xs rises rank has.0 a m more at (got_at m xs has),
      ))
]

-- so many objects stand before a place where the next one doesn't
pub rank_before : (xs : List Item) (place rank : ℕ) → IsShelf xs → rank ≤ length xs
    → ((i : ℕ) (it : Item) → i < rank → slice_get xs i ≡ Some it → it.place < place)
    → ((it : Item) → slice_get xs rank ≡ Some it → place ≤ it.place) → IsRank xs place rank
rank_before xs place rank rises within before next = record {
  within = within;
  before = before;
  from = λ i it low at. elim (cases_order rank i) [
    | inl e ↦ next it (ap (slice_get xs) e ∙ at)
    | inr (inl less) ↦
        let a = slice_index_or xs rank it in
        let here : slice_get xs rank ≡ Some a =
        slice_get-get_or xs rank it (omega (arith, less, slice_get_within xs i it at)) in
        omega (arith, next a here, places_rise xs rises rank i a it less here at)
    | inr (inr more) ↦ absurd (omega (arith, more, low))
  ];
}

-- what a move leaves
pub relisted : (items xs ys : List Item) (mv : Move) → IsPermutation items xs
    → IsPermutation (relocated mv.key mv.to xs) ys → IsPermutation (relocated mv.key mv.to items) ys
relisted items xs ys mv same after = IsPermutation-trans (relocated mv.key mv.to items)
    (relocated mv.key mv.to xs) ys (IsPermutation-map (moved_item mv.key mv.to) items xs same) after

-- the objects of a phase are told apart in the list
pub are_listed : {course : PlanFrame} {Keeps : List Item → Type 0} {k : ℕ} {xs : List Item}
    (h : PhaseList course Keeps k xs) → AreItems course.numbers h.items → (n : Numbers) × AreItems n xs
are_listed {course} {Keeps} {k} {xs} h are =
    (course.numbers, items_permuted h.items xs h.same course.numbers are)

-- a phase goes on after a move
pub moved_on : {old new : PlanFrame} {Keeps After : List Item → Type 0} {k : ℕ} {xs ys : List Item}
    (h : PhaseList old Keeps k xs) (mv : Move) → new ≡ old → After (relocated mv.key mv.to h.items)
    → IsPermutation (relocated mv.key mv.to xs) ys → IsNonDecreasingBy (λ (it : Item). it.place) ys
    → PhaseList new After k ys
moved_on {old} {new} {Keeps} {After} {k} {xs} {ys} h mv same keeps after rising = record {
  items = relocated mv.key mv.to h.items;
  divisor = ap (λ (x : PlanFrame). x.k) same ∙ h.divisor;
  keeps = keeps;
  same = relisted h.items xs ys mv h.same after;
  rising = rising;
}

-- another phase goes on with the same objects
pub handed_on : {old new : PlanFrame} {Keeps After : List Item → Type 0} {k : ℕ} {xs : List Item}
    (h : PhaseList old Keeps k xs) → new ≡ old → After h.items → PhaseList new After k xs
handed_on {old} {new} {Keeps} {After} {k} {xs} h same keeps = record {
  items = h.items;
  divisor = ap (λ (x : PlanFrame). x.k) same ∙ h.divisor;
  keeps = keeps;
  same = h.same;
  rising = h.rising;
}

-- a flush can be found again among the objects of a phase from Pack on
pub found : {course : PlanFrame} {Keeps : List Item → Type 0} {k : ℕ} {xs : List Item} {C : ℕ} {n : Numbers}
    (h : PhaseList course Keeps k xs) → IsPacking (phase_on course h.items) → AreBelow C h.items
    → AreSmall course.numbers h.items → course.numbers ≡ n
    → (v : PlanFrame) × (v.k ≡ k) × (v.numbers ≡ n) × (items : List Item) × IsPacking (phase_on v items)
    × AreBelow C items × AreSmall v.numbers items × IsPermutation items xs
    × IsNonDecreasingBy (λ (it : Item). it.place) xs
found {course} h packing classes small same =
    (course, h.divisor, same, h.items, packing, classes, small, h.same, h.rising)
