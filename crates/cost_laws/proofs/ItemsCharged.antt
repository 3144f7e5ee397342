-- What charging items in turn does to weights: each item adds its weight to the grid, or found no room; and
-- of those that found no room one is of the trigger class.
use Rattle.std.specs.Prelude.{◌≡◌, ◌⊎◌, ℕ, ◌+◌, ◌-◌, ◌<◌, ◌≤◌, min, Bool, true, false, ◌&&◌, cond, if◌then◌else◌, List, [], ◌∷◌, ◌++◌, fold, sum_by, slice_index, Option, Some, None, refl}
use Rattle.std.proofs.Common.{arith, sym, ◌∙◌, ap, inl, inr}
use Rattle.std.proofs.lemmas.Bool.{cases_lt}
use Rattle.std.proofs.lemmas.List.Sums.{fold_push, sum_by_push, sum_by-cons}
use Rattle.std.proofs.lemmas.List.Folds.{list_all-append}
use Rattle.size_class.specs.Classes.{width, class_of, IsGrid}
use Rattle.size_class.proofs.ClassLaws.{class_below}
use Rattle.segment_layout.specs.Shapes.{buffer_of, buffer_for, taken_in}
use Rattle.segment_layout.specs.Books.{Charged, entered_at, charge_one, is_quiet, trigger}
use Rattle.segment_layout.proofs.ShapeLaws.{IsGrid-with_entry, taken-with_entry_le}
use Rattle.segment_layout.proofs.ChargeLaws.{room_of_buffer, none_of_buffer}
use Rattle.cost_laws.proofs.Weights.{grid_weight, item_weight, weight-with_entry}

-- what the items weigh that found no room
abbrev pub missed_at : (ℕ → ℕ) → ℕ × Bool → ℕ
missed_at r item = cond item.1 0 (item_weight r item.0)

abbrev pub missed_weight : (ℕ → ℕ) → List (ℕ × Bool) → ℕ
missed_weight r tried = sum_by (missed_at r) tried

-- An item of the trigger class found no room: no buffer from its class on has room for it.
pub record Missed (r : ℕ → ℕ) (k : ℕ) (caps : List ℕ) (charged : Charged) : Type 0 where
  pub size : ℕ
  pub class : class_of size ≡ trigger charged
  pub weighs : item_weight r size ≤ missed_weight r charged.tried
  pub full : (i : ℕ) → class_of size ≤ i → i < width
      → buffer_of k (slice_index caps i) < taken_in charged.grid i + size

-- Items were charged that, with the grid before, weigh so much together.
pub record IsCharged (r : ℕ → ℕ) (k : ℕ) (caps : List ℕ) (total : ℕ) (charged : Charged) : Type 0 where
  pub grid_full : IsGrid width charged.grid
  pub weight : grid_weight r charged.grid + missed_weight r charged.tried ≡ total
  pub missed : ((is_quiet charged ≡ true) × (trigger charged ≡ width - 1)) ⊎ Missed r k caps charged

abbrev lesser : ℕ → ℕ × Bool → ℕ
lesser least item = if item.1 then least else min least (class_of item.0)

trigger_push : (tried : List (ℕ × Bool)) (item : ℕ × Bool)
    → fold lesser (width - 1) (tried ++ item ∷ []) ≡ lesser (fold lesser (width - 1) tried) item
trigger_push tried item = fold_push lesser (width - 1) tried item

abbrev found : ℕ × Bool → Bool
found item = item.1

module _ (r : ℕ → ℕ) (k : ℕ) (caps : List ℕ) where
  charged_at : (charged : Charged) (size total : ℕ) → IsCharged r k caps total charged → (o : Option ℕ)
      → buffer_for k caps charged.grid (class_of size) size ≡ o
      → IsCharged r k caps (total + item_weight r size) (entered_at charged size o)
  charged_at charged size total h (Some j) is =
      let room = room_of_buffer k caps charged.grid (class_of size) size (class_below size) j is in
      let after = entered_at charged size (Some j) in
      let same : trigger after ≡ trigger charged = trigger_push charged.tried (size, true) in
      let missed : missed_weight r after.tried ≡ missed_weight r charged.tried + 0 =
      sum_by_push (missed_at r) charged.tried (size, true) in
      record {
        grid_full = IsGrid-with_entry width j (class_of size) size charged.grid h.grid_full room.below_width
            (class_below size) (omega arith);
        weight = omega (
          arith,
          weight-with_entry r charged.grid j size h.grid_full room.below_width,
          missed,
          h.weight,
        );
        missed = elim h.missed [
          | inl none ↦ inl (
            list_all-append found charged.tried ((size, true) ∷ [])
                ∙ ap (λ b. b && true) none.0,
            same ∙ none.1,
          )
          | inr one ↦ inr (record {
            size = one.size;
            class = one.class ∙ sym same;
            weighs = omega (arith, one.weighs, missed);
            full = λ i low high. omega (
              arith,
              one.full i low high,
              taken-with_entry_le charged.grid j
                  (class_of size) size i (omega (arith, h.grid_full.full, room.below_width))
                  (omega (arith, (h.grid_full.rows j room.below_width).full, class_below size)),
            );
          })
        ];
      }
  charged_at charged size total h None is =
      let after = entered_at charged size None in
      let least : trigger after ≡ min (trigger charged) (class_of size) = trigger_push charged.tried (
        size,
        false,
      ) in
      let missed : missed_weight r after.tried ≡ missed_weight r charged.tried + item_weight r size =
      sum_by_push (missed_at r) charged.tried (size, false) in
      record {
        grid_full = h.grid_full;
        weight = omega (arith, missed, h.weight);
        missed = elim (cases_lt (trigger charged) (class_of size)) [
          | inl less ↦ elim h.missed [
            | inl none ↦ absurd (omega (arith, none.1, class_below size))
            | inr one ↦ inr (record {
              size = one.size;
              class = omega (arith, one.class, least);
              weighs =
                  omega (arith, one.weighs, missed);
              full = one.full;
            })
          ]
          | inr here ↦ inr (record {
            size = size;
            class = omega (arith, least);
            weighs = omega (arith, missed);
            full = (none_of_buffer k caps charged.grid (class_of size) size (class_below size) is).full;
          })
        ];
      }

  pub charged_one : (charged : Charged) (size total : ℕ) → IsCharged r k caps total charged
      → IsCharged r k caps (total + item_weight r size) (charge_one k caps charged size)
  charged_one charged size total h = charged_at charged size total h _ refl

  pub charged_none : (grid : List (List ℕ)) → IsGrid width grid
      → IsCharged r k caps (grid_weight r grid) (record { grid = grid; tried = [] })
  charged_none grid g = record { grid_full = g; weight = omega arith; missed = inl (refl, refl) }

  pub charged_all : (charged : Charged) (sizes : List ℕ) (total all : ℕ) → IsCharged r k caps total charged
      → all ≡ total + sum_by (item_weight r) sizes
      → IsCharged r k caps all (fold (charge_one k caps) charged sizes)
  charged_all charged [] total all h is =
      record { grid_full = h.grid_full; weight = omega (arith, h.weight); missed = h.missed }
  charged_all charged (size ∷ sizes) total all h is =
      charged_all (charge_one k caps charged size) sizes (total + item_weight r size) all
      (charged_one charged size total h) (omega (arith, sum_by-cons (item_weight r) size sizes))
