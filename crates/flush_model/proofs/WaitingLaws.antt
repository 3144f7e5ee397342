-- With each move one item fewer waits, and the bytes of its class that are done grow by its size.
use Rattle.std.specs.Prelude.{◌≡◌, ◌≢◌, ℕ, ◌+◌, ◌-◌, ◌<◌, ◌≤◌, ◌==◌, nat_le, nat_lt, not, Bool, true, false, ◌&&◌, cond, List, length, Contains, filter, refl}
use Rattle.std.proofs.Common.{arith, sym, ◌∙◌, ap, inl, inr}
use Rattle.std.proofs.lemmas.Bool.{cases_lt, cases_Bool, cond-true, cond-false, lt-ltb, le-ltb, le-leb, lt-leb, eq-eqb, ne_eqb, and_from, and_left, and_right, not_from_false, not_from_true}
use Rattle.flush_model.specs.declared.item.Item.{Item}
use Rattle.flush_model.specs.declared.item.Move.{Move}
use Rattle.flush_model.specs.declared.item.Numbers.{Numbers}
use Rattle.flush_model.specs.Plans.{class_total, final_place, is_below_wall, is_laid, is_lifted, is_packed, is_unlifted, IsNextLay, IsNextLift, IsNextPack, mover, relocated, sizes_over, stands_in_payload, total}
use Rattle.flush_model.specs.Phases.{AreItems, IsLaying, IsLifting, IsPacking, is_unlaid, is_unpacked, laid_in, lifted_in, moved_by, packed_in, PlanState, to_lay, to_lift, to_pack, is_packed_below}
use Rattle.flush_model.proofs.ListLaws.{cond_at_most, length_filter, sum_by_both, sum_by_le_in, sum_by_more_in}
use Rattle.flush_model.proofs.ItemLaws.{one_moves, target, total_is, weight_moves}
use Rattle.flush_model.proofs.PackLaws.{over_other, target_packed}
use Rattle.flush_model.proofs.LayKeepsLaws.{final_other, target_laid}
use Rattle.flush_model.proofs.LiftLaws.{lift_ends_before, lift_past}

-- ---- of a test that the mover passes before the move alone, or behind it alone

-- the mover passes a test behind the move alone, and the others as before
pub record PassesBehind (items : List Item) (mv : Move) (p q : Item → Bool) : Type 0 where
  pub before : p (mover mv) ≡ false
  pub behind : q (target mv) ≡ true
  pub same : (it : Item) → Contains items it → it.key ≢ mv.key → q it ≡ p it

module _ (n : Numbers) (items : List Item) (are : AreItems n items) (mv : Move)
    (has : Contains items (mover mv)) (p q : Item → Bool) where
  abbrev after : List Item
  after = relocated mv.key mv.to items

  pub one_fewer : ((it : Item) → Contains items it → it.key ≢ mv.key → q it ≡ p it)
      → p (mover mv) ≡ true → q (target mv) ≡ false → length (filter q after) + 1 ≡ length (filter p items)
  one_fewer same before behind =
      omega (
        arith,
        length_filter q after,
        length_filter p items,
        one_moves n items are mv has (λ it. cond (p it) 1 0) (λ it. cond (q it) 1 0)
            (λ it there other. ap (λ b. cond {A = ℕ} b 1 0) (sym (same it there other))),
        cond-true {A = ℕ} (p (mover mv)) 1 0 before,
        cond-false {A = ℕ} (q (target mv)) 1 0 behind,
      )

  pub class_grows : PassesBehind items mv p q → (c : ℕ)
      → total (filter (λ it. (it.class == c) && q it) after)
      ≡ total (filter (λ it. (it.class == c) && p it) items) + cond (mv.class == c) mv.size 0
  class_grows passes c =
      omega (
        arith,
        total_is (λ it. (it.class == c) && q it) after,
        total_is (λ it. (it.class == c) && p it) items,
        weight_moves n items are mv has (λ it. (it.class == c) && p it) (λ it. (it.class == c) && q it)
            (λ it there other. ap (λ b. (it.class == c) && b) (sym (passes.same it there other))),
        cond-false ((mv.class == c) && p (mover mv)) mv.size 0
            (and_right (mv.class == c) (p (mover mv)) passes.before),
        now,
      )
    where
      now : cond ((mv.class == c) && q (target mv)) mv.size 0 ≡ cond (mv.class == c) mv.size 0
      now = elim (cases_Bool (mv.class == c)) [
        | inl is ↦ cond-true ((mv.class == c) && q (target mv)) mv.size 0
            (and_from (mv.class == c) (q (target mv)) is passes.behind)
            ∙ sym (cond-true (mv.class == c) mv.size 0 is)
        | inr other ↦ cond-false ((mv.class == c) && q (target mv)) mv.size 0
            (and_left (mv.class == c) (q (target mv)) other)
            ∙ sym (cond-false (mv.class == c) mv.size 0 other)
      ]

-- ---- Lift

module _ (p : PlanState) (is : IsLifting p) (mv : Move)
    (next : IsNextLift p.k p.caps p.numbers p.pending p.items mv) where
  lift_past_here : p.numbers.wall ≤ mv.to
  lift_past_here = lift_past p.k p.caps p.numbers p.pending p.items is.items is.lifting mv next

  pub lift_fewer : to_lift (moved_by mv p) + 1 ≡ to_lift p
  lift_fewer = one_fewer p.numbers p.items is.items mv next.item (is_unlifted p.k p.caps p.numbers)
      (is_unlifted p.k p.caps p.numbers) (λ it has other. refl) before behind
    where
      before : is_unlifted p.k p.caps p.numbers (mover mv) ≡ true
      before = and_from (is_below_wall p.numbers (mover mv)) (not (stands_in_payload p.k p.caps (mover mv)))
          (lt-ltb mv.from p.numbers.wall next.below) next.buffered

      behind : is_unlifted p.k p.caps p.numbers (target mv) ≡ false
      behind = and_left (is_below_wall p.numbers (target mv)) (not (stands_in_payload p.k p.caps (target mv)))
          (le-ltb mv.to p.numbers.wall lift_past_here)

  pub lift_passes_behind : PassesBehind p.items mv (is_lifted p.numbers p.pending)
      (is_lifted p.numbers p.pending)
  lift_passes_behind = record {
    before = and_left (nat_le p.numbers.wall mv.from) (nat_lt mv.from (p.numbers.reach - p.pending))
        (lt-leb p.numbers.wall mv.from next.below);
    behind = and_from (nat_le p.numbers.wall mv.to) (nat_lt mv.to (p.numbers.reach - p.pending))
        (le-leb p.numbers.wall mv.to lift_past_here) (lt-ltb mv.to (p.numbers.reach - p.pending)
        (omega (
          arith,
          is.items.some (mover mv) next.item,
          lift_ends_before p.k p.caps p.numbers p.pending p.items is.items is.lifting mv next,
        )));
    same = λ it has other. refl;
  }

  pub lift_progress : (c : ℕ) → lifted_in (moved_by mv p) c ≡ lifted_in p c + cond (mv.class == c) mv.size 0
  lift_progress = class_grows p.numbers p.items is.items mv next.item (is_lifted p.numbers p.pending)
      (is_lifted p.numbers p.pending) lift_passes_behind

-- ---- Pack

module _ (p : PlanState) (is : IsPacking p) (mv : Move) (next : IsNextPack p.numbers p.items mv) where
  abbrev packed_items : List Item
  packed_items = relocated mv.key mv.to p.items

  packed_same : (it : Item) → Contains p.items it → it.key ≢ mv.key
      → is_packed p.numbers packed_items it ≡ is_packed p.numbers p.items it
  packed_same it has other = ap (λ s. it.place + it.size + s == p.numbers.wall)
      (over_other p.k p.numbers p.items is.items is.resumes mv next it has other)

  before_not : is_packed p.numbers p.items (mover mv) ≡ false
  before_not = ne_eqb (mv.from + mv.size + sizes_over p.numbers p.items mv.from) p.numbers.wall
      (λ e. next.moves (omega (arith, e, next.target)))

  behind_is : is_packed p.numbers packed_items (target mv) ≡ true
  behind_is = eq-eqb (mv.to + mv.size + sizes_over p.numbers packed_items mv.to) p.numbers.wall
      (target_packed p.k p.numbers p.items is.items is.resumes mv next)

  lands_low : mv.to < p.numbers.wall
  lands_low = omega (arith, next.target, is.items.some (mover mv) next.item)

  pub pack_fewer : to_pack (moved_by mv p) + 1 ≡ to_pack p
  pack_fewer = one_fewer p.numbers p.items is.items mv next.item (is_unpacked p.numbers p.items)
      (is_unpacked p.numbers packed_items)
      (λ it has other. ap (λ b. is_below_wall p.numbers it && not b) (packed_same it has other))
      (and_from (is_below_wall p.numbers (mover mv)) (not (is_packed p.numbers p.items (mover mv)))
      (lt-ltb mv.from p.numbers.wall next.below)
      (not_from_false (is_packed p.numbers p.items (mover mv)) before_not))
      (and_right (is_below_wall p.numbers (target mv)) (not (is_packed p.numbers packed_items (target mv)))
      (not_from_true (is_packed p.numbers packed_items (target mv)) behind_is))

  pub pack_passes_behind : PassesBehind p.items mv (is_packed_below p) (is_packed_below (moved_by mv p))
  pack_passes_behind = record {
    before = and_right (is_below_wall p.numbers (mover mv)) (is_packed p.numbers p.items (mover mv))
        before_not;
    behind = and_from (is_below_wall p.numbers (target mv)) (is_packed p.numbers packed_items (target mv))
        (lt-ltb mv.to p.numbers.wall lands_low) behind_is;
    same = λ it has other. ap (λ b. is_below_wall p.numbers it && b) (packed_same it has other);
  }

  pub pack_progress : (c : ℕ) → packed_in (moved_by mv p) c ≡ packed_in p c + cond (mv.class == c) mv.size 0
  pack_progress = class_grows p.numbers p.items is.items mv next.item (is_packed_below p)
      (is_packed_below (moved_by mv p)) pack_passes_behind

  -- the mover isn't lifted, before and behind
  pub pack_lifts_nothing : (is_lifted p.numbers p.pending (mover mv) ≡ false)
      × (is_lifted p.numbers p.pending (target mv) ≡ false)
  pack_lifts_nothing = (
    and_left (nat_le p.numbers.wall mv.from) (nat_lt mv.from (p.numbers.reach - p.pending))
        (lt-leb p.numbers.wall mv.from next.below),
    and_left (nat_le p.numbers.wall mv.to) (nat_lt mv.to (p.numbers.reach - p.pending))
        (lt-leb p.numbers.wall mv.to lands_low),
  )

  -- what was lifted stays so
  pub pack_keeps_lifted : (c : ℕ) → lifted_in (moved_by mv p) c ≡ lifted_in p c
  pack_keeps_lifted c =
      omega (
        arith,
        total_is lifted packed_items,
        total_is lifted p.items,
        weight_moves p.numbers p.items is.items mv next.item lifted lifted (λ it has other. refl),
        cond-false (lifted (mover mv)) mv.size 0
            (and_right (mv.class == c) (is_lifted p.numbers p.pending (mover mv)) pack_lifts_nothing.0),
        cond-false (lifted (target mv)) mv.size 0
            (and_right (mv.class == c) (is_lifted p.numbers p.pending (target mv)) pack_lifts_nothing.1),
      )
    where
      lifted : Item → Bool
      lifted it = (it.class == c) && is_lifted p.numbers p.pending it

-- ---- Lay

module _ (p : PlanState) (is : IsLaying p) (mv : Move) (next : IsNextLay p.k p.numbers p.items mv) where
  abbrev laid_items : List Item
  laid_items = relocated mv.key mv.to p.items

  laid_same : (it : Item) → Contains p.items it → it.key ≢ mv.key
      → is_laid p.k p.numbers laid_items it ≡ is_laid p.k p.numbers p.items it
  laid_same it has other = ap (λ place. it.place == place)
      (final_other p.k p.numbers p.items is.packing.items is.packing.resumes is.laying mv next it has other)

  pub lay_passes_behind : PassesBehind p.items mv (is_laid p.k p.numbers p.items)
      (is_laid p.k p.numbers laid_items)
  lay_passes_behind = record {
    before = ne_eqb mv.from (final_place p.k p.numbers p.items mv.class mv.from)
        (λ e. next.moves (next.target ∙ sym e));
    behind = eq-eqb mv.to (final_place p.k p.numbers laid_items mv.class mv.to)
        (target_laid p.k p.numbers p.items is.packing.items is.packing.resumes is.laying mv next);
    same = laid_same;
  }

  pub lay_fewer : to_lay (moved_by mv p) + 1 ≡ to_lay p
  lay_fewer = one_fewer p.numbers p.items is.packing.items mv next.item (is_unlaid p.k p.numbers p.items)
      (is_unlaid p.k p.numbers laid_items) (λ it has other. ap not (laid_same it has other))
      (not_from_false (is_laid p.k p.numbers p.items (mover mv)) lay_passes_behind.before)
      (not_from_true (is_laid p.k p.numbers laid_items (target mv)) lay_passes_behind.behind)

  pub lay_progress : (c : ℕ) → laid_in (moved_by mv p) c ≡ laid_in p c + cond (mv.class == c) mv.size 0
  lay_progress = class_grows p.numbers p.items is.packing.items mv next.item (is_laid p.k p.numbers p.items)
      (is_laid p.k p.numbers laid_items) lay_passes_behind

-- ---- at most twice

-- the bytes of a class that were lifted and those that are packed are together at most the class's
module _ (p : PlanState) (c : ℕ) where
  abbrev lifted : Item → Bool
  lifted it = (it.class == c) && is_lifted p.numbers p.pending it

  abbrev packed : Item → Bool
  packed it = (it.class == c) && (is_below_wall p.numbers it && is_packed p.numbers p.items it)

  each : (it : Item) → Contains p.items it
      → cond (lifted it) it.size 0 + cond (packed it) it.size 0 ≤ cond (it.class == c) it.size 0
  each it has = elim (cases_Bool (it.class == c)) [
    | inr other ↦ omega (
      arith,
      cond-false (lifted it) it.size 0 (and_left (it.class == c) (is_lifted p.numbers p.pending it) other),
      cond-false (packed it) it.size 0 (and_left (it.class == c)
          (is_below_wall p.numbers it && is_packed p.numbers p.items it) other),
    )
    | inl is ↦ elim (cases_lt it.place p.numbers.wall) [
      | inl low ↦ omega (
        arith,
        cond-true (it.class == c) it.size 0 is,
        cond-false (lifted it) it.size 0 (and_right (it.class == c) (is_lifted p.numbers p.pending it)
            (and_left (nat_le p.numbers.wall it.place) (nat_lt it.place (p.numbers.reach - p.pending))
            (lt-leb p.numbers.wall it.place low))),
        cond_at_most (packed it) it.size,
      )
      | inr past ↦ omega (
        arith,
        cond-true (it.class == c) it.size 0 is,
        cond-false (packed it) it.size 0 (and_right (it.class == c)
            (is_below_wall p.numbers it && is_packed p.numbers p.items it)
            (and_left (is_below_wall p.numbers it) (is_packed p.numbers p.items it)
            (le-ltb it.place p.numbers.wall past))),
        cond_at_most (lifted it) it.size,
      )
    ]
  ]

  pub lifted_and_packed : lifted_in p c + packed_in p c ≤ class_total p.items c
  lifted_and_packed =
      omega (
        arith,
        total_is lifted p.items,
        total_is packed p.items,
        total_is (λ it. it.class == c) p.items,
        sum_by_both (λ it. cond (lifted it) it.size 0) (λ it. cond (packed it) it.size 0) p.items,
        sum_by_le_in (λ it. cond (lifted it) it.size 0 + cond (packed it) it.size 0)
            (λ it. cond (it.class == c) it.size 0) p.items each,
      )

  -- where an item is pending, they leave its bytes out
  pub lifted_and_packed_without : (m : Item) → Contains p.items m → p.numbers.wall ≤ m.place
      → p.numbers.reach - p.pending ≤ m.place
      → lifted_in p c + packed_in p c + cond (m.class == c) m.size 0 ≤ class_total p.items c
  lifted_and_packed_without m has past last =
      omega (
        arith,
        total_is lifted p.items,
        total_is packed p.items,
        total_is (λ it. it.class == c) p.items,
        sum_by_both (λ it. cond (lifted it) it.size 0) (λ it. cond (packed it) it.size 0) p.items,
        sum_by_more_in (λ it. cond (lifted it) it.size 0 + cond (packed it) it.size 0)
            (λ it. cond (it.class == c) it.size 0) m (cond (m.class == c) m.size 0) p.items has
            (omega (arith, not_lifted, not_packed)) each,
      )
    where
      not_lifted : cond (lifted m) m.size 0 ≡ 0
      not_lifted = cond-false (lifted m) m.size 0
          (and_right (m.class == c) (is_lifted p.numbers p.pending m)
          (and_right (nat_le p.numbers.wall m.place) (nat_lt m.place (p.numbers.reach - p.pending))
          (le-ltb m.place (p.numbers.reach - p.pending) last)))

      not_packed : cond (packed m) m.size 0 ≡ 0
      not_packed = cond-false (packed m) m.size 0
          (and_right (m.class == c) (is_below_wall p.numbers m && is_packed p.numbers p.items m)
          (and_left (is_below_wall p.numbers m) (is_packed p.numbers p.items m)
          (le-ltb m.place p.numbers.wall past)))

-- and the laid bytes of a class are at most the class's
pub laid_at_most : (p : PlanState) (c : ℕ) → laid_in p c ≤ class_total p.items c
laid_at_most p c = omega (
  arith,
  total_is laid p.items,
  total_is (λ it. it.class == c) p.items,
  sum_by_le_in (λ it. cond (laid it) it.size 0) (λ it. cond (it.class == c) it.size 0) p.items each,
)
  where
    laid : Item → Bool
    laid it = (it.class == c) && is_laid p.k p.numbers p.items it

    each : (it : Item) → Contains p.items it → cond (laid it) it.size 0 ≤ cond (it.class == c) it.size 0
    each it has = elim (cases_Bool (it.class == c)) [
      | inl is ↦ omega (arith, cond-true (it.class == c) it.size 0 is, cond_at_most (laid it) it.size)
      | inr other ↦ omega (
        arith,
        cond-false (laid it) it.size 0
            (and_left (it.class == c) (is_laid p.k p.numbers p.items it) other),
      )
    ]
