-- What the phases keep, from one to the next: each move keeps it, and each phase's end begins the next one.
use Rattle.std.specs.Prelude.{◌≡◌, ℕ, ◌+◌, ◌<◌, ◌≤◌, List, Contains, cond, refl, ◌/◌}
use Rattle.std.proofs.Common.{arith, ap, inl, inr, subst, sym, ◌∙◌}
use Rattle.size_class.specs.Classes.{width}
use Rattle.flush_model.specs.declared.item.Item.{Item}
use Rattle.flush_model.specs.declared.item.Move.{Move}
use Rattle.flush_model.specs.declared.item.Numbers.{Numbers}
use Rattle.flush_model.specs.Plans.{IsLaid, IsNextLay, IsNextLift, IsNextPack, IsPacked, ItemsCanResume, relocated, mover, AreSmall, AreBelow, is_below_wall, stands_in_payload}
use Rattle.flush_model.specs.Phases.{AreItems, AreLaying, IsLaying, IsLifted, IsLifting, IsPackedWhole, IsPacking, moved_by, PlanState, AreObjects, SuitsLayout, PaysFor, bytes_below, payload_bytes, stands_below}
use Rattle.flush_model.proofs.LiftLaws.{lift_items, lift_keeps, lift_leaves, lift_reaches, lift_past}
use Rattle.flush_model.proofs.PackLaws.{pack_items, pack_keeps, laid_length_after}
use Rattle.flush_model.proofs.LayKeepsLaws.{lay_items, lay_keeps, lay_resumes}
use Rattle.flush_model.proofs.LayLaws.{packed_far, past_far}
use Rattle.flush_model.proofs.ItemLaws.{after_is, total_is, weight_moves, target}
use Rattle.std.proofs.lemmas.Bool.{and_from, and_left, and_right, cases_lt, cond-false, cond-true, le-ltb, lt-ltb, not-true}
use Rattle.flush_model.proofs.LargestLaws.{largest-relocated}
use Rattle.flush_model.proofs.ListLaws.{sum_by_same_in}

-- a move leaves where the new layout ends
suits_after : (p : PlanState) (mv : Move) → AreItems p.numbers p.items → Contains p.items (mover mv)
    → SuitsLayout p.k p.caps p.numbers p.items
    → SuitsLayout p.k p.caps p.numbers (relocated mv.key mv.to p.items)
suits_after p mv are has suits = record {
  boundary = suits.boundary;
  start = suits.start;
  end = omega (
    arith,
    suits.end,
    laid_length_after p.numbers p.items are mv has p.k p.numbers.boundary width,
  );
}

-- a move keeps the classes, and the places small where its target ends within the reach
pub below_after : (C : ℕ) (p : PlanState) (mv : Move) → AreItems p.numbers p.items
    → Contains p.items (mover mv)
    → AreBelow C p.items → AreBelow C (relocated mv.key mv.to p.items)
below_after C p mv are has classes it there = elim (after_is p.numbers p.items are mv has it there) [
  | inl e ↦ subst (λ (x : Item). x.class < C) (sym e) (classes (mover mv) has)
  | inr old ↦ classes it old.0
]

pub small_after : (p : PlanState) (mv : Move) → AreItems p.numbers p.items → Contains p.items (mover mv)
    → mv.to + mv.size ≤ p.numbers.reach → AreSmall p.numbers p.items
    → AreSmall p.numbers (relocated mv.key mv.to p.items)
small_after p mv are has ends small = (
  small.0,
  λ it there. elim (after_is p.numbers p.items are mv has it there) [
    | inl e ↦ omega (arith, ap (λ (x : Item). x.place) e, ends, small.0)
    | inr old ↦ small.1 it old.0
  ],
)

-- the bytes below the wall that stand in payload segments stay through a move of Lift
payload_after : (p : PlanState) (mv : Move) → IsLifting p
    → IsNextLift p.k p.caps p.numbers p.pending p.items mv
    → payload_bytes (moved_by mv p) ≡ payload_bytes p
payload_after p mv is next = omega (
  arith,
  total_is (stands_below p) (relocated mv.key mv.to p.items),
  total_is (stands_below p) p.items,
  weight_moves p.numbers p.items is.items mv next.item (stands_below p) (stands_below p)
      (λ it has other. refl),
  cond-false (stands_below p (mover mv)) mv.size 0 (and_right (is_below_wall p.numbers (mover mv))
      (stands_in_payload p.k p.caps (mover mv))
      (not-true (stands_in_payload p.k p.caps (mover mv)) next.buffered)),
  cond-false (stands_below p (target mv)) mv.size 0 (and_left (is_below_wall p.numbers (target mv))
      (stands_in_payload p.k p.caps (target mv)) (le-ltb mv.to p.numbers.wall
      (lift_past p.k p.caps p.numbers p.pending p.items is.items is.lifting mv next))),
)

pub lifting_moved : (p : PlanState) (mv : Move) → IsLifting p
    → IsNextLift p.k p.caps p.numbers p.pending p.items mv → IsLifting (moved_by mv p)
lifting_moved p mv is next =
    record {
      items = lift_items p.k p.caps p.numbers p.pending p.items is.items is.lifting mv next;
      layout = suits_after p mv is.items next.item is.layout;
      lifting = lift_keeps p.k p.caps p.numbers p.pending p.items is.items is.lifting mv next;
      pays = omega (
        arith,
        is.pays,
        largest-relocated 0 mv.key mv.to p.items,
        ap (λ bytes. bytes / p.k) (payload_after p mv is next),
      );
      classes = is.classes;
    }

pub packing_begins : (p : PlanState) → IsLifting p → IsLifted p → IsPacking p
packing_begins p is ended =
    record {
      items = is.items;
      layout = is.layout;
      resumes = lift_leaves p.k p.caps p.numbers p.pending p.items is.items is.lifting is.classes ended;
      reaches = lift_reaches p.k p.caps p.numbers p.pending p.items is.items is.lifting;
    }

-- once nothing is left to lift, all that lies below the wall stands in payload segments
pub lift_pays : (p : PlanState) → IsLifting p → IsLifted p → PaysFor p (bytes_below p)
lift_pays p is ended = omega (arith, is.pays, ap (λ bytes. bytes / p.k) same)
  where
    each : (it : Item) → Contains p.items it
        → cond (is_below_wall p.numbers it) it.size 0 ≡ cond (stands_below p it) it.size 0
    each it has = elim (cases_lt it.place p.numbers.wall) [
      | inl low ↦ cond-true (is_below_wall p.numbers it) it.size 0 (lt-ltb it.place p.numbers.wall low)
          ∙ sym (cond-true (stands_below p it) it.size 0 (and_from (is_below_wall p.numbers it)
          (stands_in_payload p.k p.caps it) (lt-ltb it.place p.numbers.wall low) (ended it has low)))
      | inr past ↦ cond-false (is_below_wall p.numbers it) it.size 0 (le-ltb it.place p.numbers.wall past)
          ∙ sym (cond-false (stands_below p it) it.size 0 (and_left (is_below_wall p.numbers it)
          (stands_in_payload p.k p.caps it) (le-ltb it.place p.numbers.wall past)))
    ]

    same : bytes_below p ≡ payload_bytes p
    same = total_is (is_below_wall p.numbers) p.items
        ∙ sum_by_same_in (λ it. cond (is_below_wall p.numbers it) it.size 0)
        (λ it. cond (stands_below p it) it.size 0) p.items each
        ∙ sym (total_is (stands_below p) p.items)

-- a flush that was interrupted goes on from any objects that share no byte and can be resumed
pub packing_resumes : (p : PlanState) → AreObjects p.numbers.boundary p.items
    → ItemsCanResume p.k p.numbers p.items → SuitsLayout p.k p.caps p.numbers p.items
    → p.numbers.wall ≤ p.numbers.reach → IsPacking p
packing_resumes p objects can suits reaches =
    record {
      items = record {
        apart = objects.apart;
        some = objects.some;
        class = objects.class;
        from = objects.from;
        start = λ it has. elim (can.side it has) [
          | inl past ↦ omega (arith, past, can.wall)
          | inr low ↦
              low.0
        ];
      };
      layout = suits;
      resumes = can;
      reaches = reaches;
    }

pub packing_moved : (p : PlanState) (mv : Move) → IsPacking p → IsNextPack p.numbers p.items mv
    → IsPacking (moved_by mv p)
packing_moved p mv is next =
    record {
      items = pack_items p.k p.numbers p.items is.items is.resumes mv next is.reaches;
      layout = suits_after p mv is.items next.item is.layout;
      resumes = pack_keeps p.k p.numbers p.items is.items is.resumes mv next;
      reaches = is.reaches;
    }

-- once all is packed no item is laid
lay_begins : (k : ℕ) (n : Numbers) (items : List Item) → AreItems n items → ItemsCanResume k n items
    → ((it : Item) → Contains items it → it.place < n.wall → IsPacked n items it) → AreLaying k n items
lay_begins k n items are can whole =
    record {
      packed = λ it has low. inr (whole it has low);
      front = λ a b has_a has_b before laid. absurd (not_yet b has_b laid);
    }
  where
    not_yet : (it : Item) → Contains items it → IsLaid k n items it → ⊥
    not_yet it has laid = elim (cases_lt it.place n.wall) [
      | inl low ↦ omega (
        arith,
        laid,
        packed_far k n items are can.wall can.order it has low
            (whole it has low),
        can.slack it has,
        are.some it has,
      )
      | inr past ↦ omega (arith, laid, past_far k n items are can.wall can.order it has past, are.some it has)
    ]

pub laying_begins : (p : PlanState) → IsPacking p → IsPackedWhole p → IsLaying p
laying_begins p is ended = record {
  packing = is;
  laying = lay_begins p.k p.numbers p.items is.items is.resumes ended;
}

pub laying_moved : (p : PlanState) (mv : Move) → IsLaying p → IsNextLay p.k p.numbers p.items mv
    → IsLaying (moved_by mv p)
laying_moved p mv is next =
    let q = is.packing in
    record {
      packing = record {
        items = lay_items p.k p.numbers p.items q.items q.resumes is.laying mv next q.reaches;
        layout = suits_after p mv q.items next.item q.layout;
        resumes = lay_resumes p.k p.numbers p.items q.items q.resumes is.laying mv next q.reaches;
        reaches = q.reaches;
      };
      laying = lay_keeps p.k p.numbers p.items q.items q.resumes is.laying mv next;
    }
