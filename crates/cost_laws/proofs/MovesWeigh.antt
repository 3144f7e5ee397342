-- The moves of a flush weigh at most so many times the entries from the boundary on and the items that
-- found no room.
use Rattle.std.specs.Prelude.{◌≡◌, ℕ, ◌+◌, ◌*◌, ◌<◌, ◌≤◌, slice_index}
use Rattle.std.proofs.Common.{arith, ap, subst, inl, inr}
use Rattle.std.proofs.Math.Nat.{mul-le-mul_left, mul-le-mul_right}
use Rattle.std.proofs.lemmas.Bool.{cases_lt}
use Rattle.byte_ranges.specs.Lists.{sum_below}
use Rattle.size_class.specs.Classes.{width}
use Rattle.map_model.specs.Maps.{Map}
use Rattle.map_model.specs.Requests.{Change, changed}
use Rattle.segment_layout.specs.Shapes.{boundary_of}
use Rattle.segment_layout.specs.Books.{Book, charge_change, trigger, volumes}
use Rattle.segment_layout.specs.Balance.{IsBalanced}
use Rattle.segment_layout.proofs.SumLaws.{sum_below_le, sum_below_add, sum_below_times}
use Rattle.segment_layout.proofs.NextLaws.{change_keeps}
use Rattle.cost_laws.proofs.FewPlaces.{from, from-above}
use Rattle.cost_laws.proofs.Weights.{item_weight, weight_from}
use Rattle.cost_laws.proofs.RateFalls.{Falls}
use Rattle.cost_laws.proofs.ItemsCharged.{Missed, missed_weight}
use Rattle.cost_laws.proofs.EntriesWeigh.{buffered_weigh}
use Rattle.cost_laws.proofs.PayloadWeighs.{HasMissed, payload_weighs}
use Rattle.cost_laws.proofs.HeavyClasses.{reach}
use Rattle.cost_laws.proofs.VolumesAfter.{buffered_then, payload_rest, pending_bytes, payload_fits, payload_least, volumes_after, pending_weighs}

module _ (r : ℕ → ℕ) (falls : Falls r) (k : ℕ) (m : Map) (book : Book) (c : Change) (low : 2 ≤ k)
    (high : k ≤ 64) (b : IsBalanced k m book) where
  -- the moved bytes, class by class, weigh twice what stands in buffers, in payload segments, and the new
  -- object
  moved_weigh : (from_class : ℕ) (moved : ℕ → ℕ) → ((d : ℕ) → d < from_class → moved d ≡ 0)
      → ((d : ℕ) → moved d ≤ 2 * slice_index (volumes (changed c m)) d)
      → (let charged = charge_change k m book c in
      sum_below width (λ d. moved d * r d)
      ≤ 2 * sum_below width (from from_class (λ d. buffered_then m book c charged d * r d))
      + (2 * sum_below width (from from_class (λ d. payload_rest m book c d * r d))
      + 2 * sum_below width (λ d. pending_bytes c charged d * r d)))
  moved_weigh a moved none few =
      let charged = charge_change k m book c in
      let f = from a (λ d. buffered_then m book c charged d * r d) in
      let g = from a (λ d. payload_rest m book c d * r d) in
      let p = λ (d : ℕ). pending_bytes c charged d * r d in
      let each : sum_below width (λ d. moved d * r d) ≤ sum_below width (λ d. 2 * (f d + (g d + p d))) =
      sum_below_le width (λ d. moved d * r d) (λ d. 2 * (f d + (g d + p d))) (λ d h. elim (cases_lt d a) [
        | inl below ↦ let z : 0 * r d ≡ 0 = omega arith in omega (arith, z, ap (λ x. x * r d) (none d below))
        | inr past ↦
            let bytes : moved d
            ≤ 2 * (buffered_then m book c charged d
            + (payload_rest m book c d + pending_bytes c charged d)) =
            omega (arith, few d, volumes_after m book c charged d) in
            omega (
              arith,
              mul-le-mul_right (r d) bytes,
              from-above a d
                  (λ d. buffered_then m book c charged d * r d) past,
              from-above a d
                  (λ d. payload_rest m book c d * r d) past,
            )
      ]) in
      omega (
        arith,
        each,
        sum_below_times 2 width (λ d. f d + (g d + p d)),
        sum_below_add width f (λ d. g d + p d),
        sum_below_add width g p,
      )

  pub moves_weigh : (moved : ℕ → ℕ)
      → (let charged = charge_change k m book c in let a = boundary_of charged.grid (trigger charged) in
      Missed r k book.caps charged → ((d : ℕ) → d < a → moved d ≡ 0)
      → ((d : ℕ) → moved d ≤ 2 * slice_index (volumes (changed c m)) d)
      → sum_below width (λ d. moved d * r d) ≤ (8 * k * reach k + 4 * k + 2) * weight_from r a charged.grid
      + (4 * k * reach k + 2) * missed_weight r charged.tried)
  moves_weigh moved one none few =
      let charged = charge_change k m book c in
      let kept = change_keeps k m book c b in
      let a = boundary_of charged.grid (trigger charged) in
      let has : HasMissed k book.caps charged.grid one.size (payload_rest m book c) = record {
        low = low;
        high = high;
        filled = kept.filled;
        full = one.full;
        within = λ d. payload_fits k m book c d b;
        least = λ d. payload_least m book c d;
      } in
      let payload : sum_below width (from a (λ d. payload_rest m book c d * r d))
      ≤ 2 * k * weight_from r a charged.grid + reach k * (4 * k * weight_from r a charged.grid)
      + 2 * k * item_weight r one.size * reach k =
      subst (λ x. let y = boundary_of charged.grid x in
      sum_below width (from y (λ d. payload_rest m book c d * r d))
      ≤ 2 * k * weight_from r y charged.grid + reach k * (4 * k * weight_from r y charged.grid)
      + 2 * k * item_weight r one.size * reach k) one.class
      (payload_weighs r falls k book.caps charged.grid one.size (payload_rest m book c) has) in
      let buffered : sum_below width (from a (λ d. buffered_then m book c charged d * r d))
      ≤ weight_from r a charged.grid =
      buffered_weigh r a charged.grid
      (buffered_then m book c charged) kept.filled.lower kept.holds.buffers in
      let pending : sum_below width (λ d. pending_bytes c charged d * r d) ≤ missed_weight r charged.tried =
      pending_weighs r k m book c in
      omega (
        arith,
        moved_weigh a moved none few,
        payload,
        buffered,
        pending,
        mul-le-mul_left
            (4 * k * reach k) one.weighs,
      )
