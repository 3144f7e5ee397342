-- A move of Lift: it lands past the wall, apart from all, within the reach; and what Lift leaves can be
-- packed.
use Rattle.std.specs.Prelude.{◌≡◌, ℕ, ◌+◌, ◌-◌, ◌<◌, ◌≤◌, nat_le, nat_lt, ◌==◌, ◌&&◌, not, true, Bool, cond, List, length, Contains, IsTrue, refl}
use Rattle.std.proofs.Common.{arith, sym, ap, subst, inl, inr}
use Rattle.std.proofs.lemmas.Bool.{cases_Bool, cases_lt, cond-true, cond-false, leb-true, lt-ltb, le-ltb, le-leb, lt-leb, and_parts, and_from, and_left, and_right}
use Rattle.size_class.specs.Classes.{width}
use Rattle.size_class.proofs.ClassLaws.{class_below}
use Rattle.segment_layout.specs.Shapes.{buffer_start, end_of, start_of}
use Rattle.segment_layout.proofs.ShapeLaws.{start_of-rises}
use Rattle.flush_model.specs.declared.item.Item.{Item}
use Rattle.flush_model.specs.declared.item.Move.{Move}
use Rattle.flush_model.specs.declared.item.Numbers.{Numbers}
use Rattle.flush_model.specs.Plans.{is_below_wall, is_lifted, is_unlifted, IsNextLift, IsSafe, ItemsCanResume, lifted_bytes, mover, relocated, sizes_over, stands_in_payload, unlifted_bytes}
use Rattle.flush_model.specs.Phases.{AreItems, AreLifting, lifted_in, PlanState}
use Rattle.flush_model.proofs.ListLaws.{cond_at_most, sum_by_le_in, sum_by_more_in}
use Rattle.flush_model.proofs.ItemLaws.{after_is, items_after, items_within, same_or_apart, target, total_is, weight_moves}
use Rattle.flush_model.proofs.PackLaws.{is_over, laid_length_after, over_parts, sizes_over_is}

pub payload_parts : (k : ℕ) (caps : List ℕ) (it : Item) → IsTrue (stands_in_payload k caps it)
    → (start_of k caps it.class ≤ it.place) × (it.place + it.size ≤ buffer_start k caps it.class)
payload_parts k caps it is =
    let parts = and_parts (nat_le (start_of k caps it.class) it.place)
    (nat_le (it.place + it.size) (buffer_start k caps it.class)) is in (
      leb-true (start_of k caps it.class) it.place parts.0,
      leb-true (it.place + it.size) (buffer_start k caps it.class) parts.1,
    )

module _ (k : ℕ) (caps : List ℕ) (n : Numbers) (pending : ℕ) (items : List Item) (are : AreItems n items)
    (lifting : AreLifting k caps n pending items) where
  module _ (mv : Move) (next : IsNextLift k caps n pending items mv) where
    m_unlifted : is_unlifted k caps n (mover mv) ≡ true
    m_unlifted = and_from (is_below_wall n (mover mv)) (not (stands_in_payload k caps (mover mv)))
        (lt-ltb mv.from n.wall next.below) next.buffered

    counted : mv.size ≤ unlifted_bytes k caps n items
    counted =
        omega (
          arith,
          total_is (is_unlifted k caps n) items,
          sum_by_more_in (λ it. 0) (λ it. cond (is_unlifted k caps n it) it.size 0) (mover mv) mv.size items
              next.item (omega (arith, cond-true (is_unlifted k caps n (mover mv)) mv.size 0 m_unlifted))
              (λ it has. omega arith),
        )

    -- the target lies past the wall, and ends before the pending item
    pub lift_past : n.wall ≤ mv.to
    lift_past = omega (arith, next.target)

    pub lift_ends_before : mv.to + mv.size + pending ≤ n.reach
    lift_ends_before = omega (arith, next.target, lifting.reaches, counted)

    pub lift_safe : IsSafe n items mv
    lift_safe =
        record {
          apart = λ it has. elim (cases_lt it.place n.wall) [
            | inl low ↦ inr (omega (arith, lifting.waits it has low, lifting.old_end, lift_past))
            | inr past ↦ elim (lifting.lifted it has past) [
              | inl row ↦ inr (omega (arith, row, next.target))
              | inr last ↦ inl (omega (arith, last, lift_ends_before))
            ]
          ];
          low = omega (arith, are.start (mover mv) next.item, next.below, lift_past);
          high = omega (arith, lift_ends_before);
        }

    abbrev after : List Item
    after = relocated mv.key mv.to items

    pub lift_items : AreItems n after
    lift_items = items_after n items are mv next.item lift_safe

    -- what is lifted grows by the mover, and what isn't falls by it
    pub lifted_after : lifted_bytes n pending after ≡ lifted_bytes n pending items + mv.size
    lifted_after =
        omega (
          arith,
          total_is (is_lifted n pending) after,
          total_is (is_lifted n pending) items,
          weight_moves n items are mv next.item (is_lifted n pending) (is_lifted n pending)
              (λ it there other. refl),
          cond-false (is_lifted n pending (mover mv)) mv.size 0
              (and_left (nat_le n.wall mv.from) (nat_lt mv.from (n.reach - pending))
              (lt-leb n.wall mv.from next.below)),
          cond-true (is_lifted n pending (target mv)) mv.size 0
              (and_from (nat_le n.wall mv.to) (nat_lt mv.to (n.reach - pending))
              (le-leb n.wall mv.to lift_past) (lt-ltb mv.to (n.reach - pending)
              (omega (arith, lift_ends_before, are.some (mover mv) next.item)))),
        )

    pub unlifted_after : unlifted_bytes k caps n after + mv.size ≡ unlifted_bytes k caps n items
    unlifted_after =
        omega (
          arith,
          total_is (is_unlifted k caps n) after,
          total_is (is_unlifted k caps n) items,
          weight_moves n items are mv next.item (is_unlifted k caps n) (is_unlifted k caps n)
              (λ it there other. refl),
          cond-true (is_unlifted k caps n (mover mv)) mv.size 0 m_unlifted,
          cond-false (is_unlifted k caps n (target mv)) mv.size 0
              (and_left (is_below_wall n (target mv)) (not (stands_in_payload k caps (target mv)))
              (le-ltb mv.to n.wall lift_past)),
        )

    -- what Lift keeps
    pub lift_keeps : AreLifting k caps n pending after
    lift_keeps =
        record {
          waits = λ it there low. elim (after_is n items are mv next.item it there) [
            | inl e ↦ absurd (omega (arith, low, lift_past, ap (λ (x : Item). x.place) e))
            | inr old ↦ lifting.waits it old.0 low
          ];
          lifted = λ it there past. elim (after_is n items are mv next.item it there) [
            | inl e ↦ inl (omega (
              arith,
              ap (λ (x : Item). x.place) e,
              ap (λ (x : Item). x.size) e,
              next.target,
              lifted_after,
            ))
            | inr old ↦ elim (lifting.lifted it old.0 past) [
              | inl row ↦ inl (omega (arith, row, lifted_after))
              | inr last ↦ inr last
            ]
          ];
          reaches = omega (arith, lifting.reaches, lifted_after, unlifted_after);
          old_end = lifting.old_end;
          wall = omega (arith, lifting.wall, laid_length_after n items are mv next.item k n.boundary width);
          slack = λ it there. elim (after_is n items are mv next.item it there) [
            | inl e ↦ subst (λ (x : Item). x.size ≤ n.slack) (sym e) (lifting.slack (mover mv) next.item)
            | inr old ↦ lifting.slack it old.0
          ];
        }

  pub lift_reaches : n.wall ≤ n.reach
  lift_reaches = omega (arith, lifting.reaches)

  -- ---- once nothing is left to lift

  module _ (full : length caps ≡ width)
      (lifted : (it : Item) → Contains items it → it.place < n.wall → IsTrue (stands_in_payload k caps it))
    where
      order : (it other : Item) → Contains items it → Contains items other → it.place < n.wall
          → other.place < it.place → other.class ≤ it.class
      order it other has has_other low before =
          elim (cases_lt it.class other.class) [
            | inr more ↦ more
            | inl less ↦
                let here = payload_parts k caps it (lifted it has low) in
                let there = payload_parts k caps other (lifted other has_other (omega (arith, before, low)))
                in
                let high : other.class ≤ length caps =
                omega (arith, full, are.class other has_other, class_below other.size) in
                absurd (omega (
                  arith,
                  before,
                  here.1,
                  there.0,
                  start_of-rises k caps it.class other.class less high,
                  are.some it has,
                ))
          ]

      gap : (it : Item) → Contains items it → it.place < n.wall
          → it.place + it.size + sizes_over n items it.place + n.slack ≤ n.wall
      gap it has low = omega (
        arith,
        lifting.old_end,
        sizes_over_is n items it.place,
        items_within n items are (is_over n it.place) (it.place + it.size) (end_of k caps)
            (lifting.waits it has low) within,
      )
        where
          within : (x : Item) → Contains items x → is_over n it.place x ≡ true
              → (it.place + it.size ≤ x.place) × (x.place + x.size ≤ end_of k caps)
          within x there is =
              let parts = over_parts n it.place x is in
              let ends : x.place + x.size ≤ end_of k caps = lifting.waits x there parts.0 in
              elim (same_or_apart n items are it x has there) [
                | inl e ↦ absurd (omega (arith, parts.1, ap (λ (y : Item). y.place) e))
                | inr h ↦ elim h.1 [
                  | inl e ↦ (e, ends)
                  | inr e ↦ absurd (omega (arith, parts.1, e))
                ]
              ]

      -- a flush can be resumed from it
      pub lift_leaves : ItemsCanResume k n items
      lift_leaves =
          record {
            wall = lifting.wall;
            slack = lifting.slack;
            side = λ it has. elim (cases_lt it.place n.wall) [
              | inr past ↦ inl past
              | inl low ↦ inr (are.start it has, omega (arith, lifting.waits it has low, lifting.old_end))
            ];
            order = order;
            gap = λ it has low. inr (gap it has low);
          }

-- nothing is lifted yet, in no class
pub lifted_in_none : (p : PlanState) → lifted_bytes p.numbers p.pending p.items ≡ 0 → (c : ℕ)
    → lifted_in p c ≡ 0
lifted_in_none p none c =
    let q : Item → Bool = λ it. (it.class == c) && is_lifted p.numbers p.pending it in
    omega (
      arith,
      none,
      total_is (is_lifted p.numbers p.pending) p.items,
      total_is q p.items,
      sum_by_le_in (λ it. cond (q it) it.size 0) (λ it. cond (is_lifted p.numbers p.pending it) it.size 0)
          p.items each,
    )
  where
    each : (it : Item) → Contains p.items it
        → cond ((it.class == c) && is_lifted p.numbers p.pending it) it.size 0
        ≤ cond (is_lifted p.numbers p.pending it) it.size 0
    each it has = elim (cases_Bool (is_lifted p.numbers p.pending it)) [
      | inl is ↦ omega (
        arith,
        cond-true (is_lifted p.numbers p.pending it) it.size 0 is,
        cond_at_most ((it.class == c) && is_lifted p.numbers p.pending it) it.size,
      )
      | inr other ↦ omega (
        arith,
        cond-false ((it.class == c) && is_lifted p.numbers p.pending it) it.size 0
            (and_right (it.class == c) (is_lifted p.numbers p.pending it) other),
      )
    ]
