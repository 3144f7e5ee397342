-- What a flush of the objects of a table begins with.
use Rattle.std.specs.Prelude.{◌≡◌, ℕ, ◌+◌, ◌^◌, ◌<◌, ◌≤◌, nat_le, nat_lt, List, [], ◌∷◌, ◌++◌, Some, None, IsPermutation, refl}
use Rattle.std.proofs.Common.{arith, sym, ◌∙◌, ap, subst}
use Rattle.std.proofs.lemmas.Bool.{and_from, le-leb, lt-ltb}
use Rattle.std.specs.FinMap as fin
use Rattle.size_class.specs.Classes.{class_of}
use Rattle.size_class.specs.declared.TheConstants.{SIZE_MAX}
use Rattle.extent_table.specs.declared.spot.Spot.{Spot}
use Rattle.extent_table.specs.Extents.{Extents}
use Rattle.flush_model.specs.declared.item.Item.{Item}
use Rattle.flush_model.specs.declared.item.Numbers.{Numbers}
use Rattle.segment_layout.specs.Shapes.{start_of}
use Rattle.flush_model.specs.Begins.{Begins}
use Rattle.flush_model.specs.Phases.{CanFlush}
use Rattle.flush_model.specs.Plans.{numbers_of}
use Rattle.flush_run.specs.Hands.{suffix_items}
use Rattle.flush_run.specs.Shelved.{items_now, phase_now, shelf_of}
use Rattle.store_model.specs.Items.{item_at}
use Rattle.store_model.specs.Starts.{IsWith}
use Rattle.store_model.proofs.CanFlushLaws.{begins_pending, can_flush}
use Rattle.store_model.proofs.ReachLaws.{reach_low, reach_past_wall}
use Rattle.store_model.proofs.SuffixLaws.{items_with}
use Rattle.store_model.proofs.ShelfLaws.{start_shelf}
use Rattle.flush_plan.specs.Shelves.{PlanFrame, IsOnShelf, course_of}
use Rattle.store_model.specs.Flushing.{CanStartAt, IsStarted}

module _ {classes b k : ℕ} {caps : List ℕ} {grid : List (List ℕ)} {e : Extents}
    (at : CanStartAt classes b k caps grid e) where
  abbrev items : List Item
  items = suffix_items b e

  abbrev n : ℕ → Numbers
  n pending = numbers_of k caps b items pending

  -- these items may be flushed
  pub start_flush : CanFlush k caps b items
  start_flush = subst (λ (d : ℕ). CanFlush d caps b items) (sym at.divisor)
      (can_flush classes SIZE_MAX caps grid at.kept_grid b at.u e at.spans at.start)

  -- they stand on the shelf of the table
  pub start_on_shelf : IsOnShelf (start_of k caps b) items (shelf_of e)
  start_on_shelf = subst (λ (d : ℕ). IsOnShelf (start_of d caps b) items (shelf_of e)) (sym at.divisor)
      (start_shelf classes SIZE_MAX caps grid at.kept_grid b at.u e at.spans at.start)

  -- and a flush of them may begin with nothing pending
  pub start_begins : (found : Numbers) → found ≡ n 0 → Begins k caps found items None
  start_begins found found_is = subst (λ (x : Numbers). Begins k caps x items None) (sym found_is)
      (start_flush, refl)

  pub start_low : b < classes
  start_low = at.start.low

  module _ (pending : ℕ) (small : pending ≤ SIZE_MAX) where
    pub start_reach : (n pending).reach < 2 ^ 48
    start_reach = subst (λ (d : ℕ). (numbers_of d caps b items pending).reach < 2 ^ 48) (sym at.divisor)
        (reach_low classes SIZE_MAX caps grid at.kept_grid b at.u e at.spans at.start pending small)

    pub start_holds : pending ≤ (n pending).reach
    start_holds = subst (λ (d : ℕ). pending ≤ (numbers_of d caps b items pending).reach) (sym at.divisor)
        (omega (
          arith,
          reach_past_wall classes SIZE_MAX caps grid at.kept_grid b at.u e at.spans at.start pending small,
        ))

    -- with a pending object, set where the flush reaches to
    pub start_waits : (found : Numbers) → found ≡ n pending → (name : List ℕ) (s : Spot) (key : ℕ)
        (after : Extents) → fin.get e.now name ≡ None → IsWith name s key e after → s.size ≡ pending
        → 1 ≤ s.size → b ≤ class_of s.size → s.place + s.size ≡ found.reach
        → Begins k caps found items (Some (item_at key s))
    start_waits found found_is name s key after new joins size some high place =
        let same_size : found ≡ n s.size = found_is ∙ ap n (sym size) in
        subst (λ (x : Numbers). Begins k caps x items (Some (item_at key s))) (sym same_size)
        (subst (λ (d : ℕ). Begins d caps (numbers_of d caps b items s.size) items (Some (item_at key s)))
        (sym at.divisor)
        (begins_pending classes SIZE_MAX caps grid at.kept_grid b at.u e at.spans at.start name s key after
        new joins some (omega (arith, size, small)) high
        (place ∙ ap (λ (x : Numbers). x.reach) same_size
        ∙ ap (λ (d : ℕ). (numbers_of d caps b items s.size).reach) at.divisor)))

-- ---- what begins

-- the items of a course are those from its boundary on
pub items_from : {b k pending : ℕ} {caps : List ℕ} {n : Numbers} (e : Extents) (c : PlanFrame)
    → c ≡ course_of k caps n pending → n.boundary ≡ b → items_now c e ≡ suffix_items b e
items_from e c is same = ap (λ (d : ℕ). suffix_items d e) (ap (λ (q : PlanFrame). q.numbers.boundary) is
    ∙ same)

-- lifting began with the items of a table
pub started_now : {b k : ℕ} {caps : List ℕ} {e : Extents} (c : PlanFrame)
    → c ≡ course_of k caps (numbers_of k caps b (suffix_items b e) 0) 0 → IsStarted b k caps e (phase_now c e)
started_now {e = e} c is = record { value = ap (λ (q : PlanFrame). phase_now q e) is }

-- with a pending object, which stands at a spot in the table after, the items are those of before and it
pub items_waiting : {b k size : ℕ} {caps : List ℕ} {e after : Extents} {name : List ℕ} {s : Spot} {key : ℕ}
    (c : PlanFrame) → c ≡ course_of k caps (numbers_of k caps b (suffix_items b e) size) size
    → fin.get e.now name ≡ None → IsWith name s key e after → 1 ≤ s.size → b ≤ class_of s.size
    → IsPermutation (suffix_items b e ++ item_at key s ∷ []) (items_now c after)
items_waiting {b} {k} {size} {caps} {e} {after} {name} {s} {key} c is new joins some high =
    subst (IsPermutation (suffix_items b e ++ item_at key s ∷ [])) (sym (items_from after c is refl))
    (items_with b e after name s key new joins.now joins.keys
    (and_from (nat_lt 0 s.size) (nat_le b (class_of s.size)) (lt-ltb 0 s.size (omega (arith, some)))
    (le-leb b (class_of s.size) high)))
