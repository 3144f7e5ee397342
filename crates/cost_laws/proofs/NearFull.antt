-- Between the boundary and the trigger class each buffer is nearly full: an entry of a class at most its
-- own passed over it, and stands in a later one.
use Rattle.std.specs.Prelude.{◌≡◌, ℕ, suc, ◌+◌, ◌<◌, ◌≤◌, ◌==◌, Bool, false, ◌&&◌, List, [], ◌∷◌, length, take, drop, sum, slice_index, slice_index_or}
use Rattle.std.specs.List.{list_all}
use Rattle.std.proofs.Common.{arith, sym, ◌∙◌, ap, subst, inl, inr}
use Rattle.std.proofs.lemmas.Bool.{cases_lt, cases_Bool, true≢false, eq-eqb}
use Rattle.std.proofs.lemmas.List.{get_or_past, get_or-take, get_or-drop, length-take, length-drop}
use Rattle.std.proofs.lemmas.List.Sums.{sum_by-cons}
use Rattle.size_class.specs.Classes.{width, row, cell}
use Rattle.segment_layout.specs.Shapes.{is_boundary, boundary_of}
use Rattle.segment_layout.proofs.ShapeLaws.{boundary_of-above}
use Rattle.segment_layout.specs.Balance.{IsFilled}
use Rattle.cost_laws.specs.Buffers.{PassedOver}

-- where not all pass, one fails
some_fails : {X : Type 0} (p : X → Bool) (d : X) (xs : List X) → list_all p xs ≡ false
    → (i : ℕ) × (i < length xs) × (p (slice_index_or xs i d) ≡ false)
some_fails p d [] is = absurd (true≢false is)
some_fails p d (x ∷ xs) is =
    elim (cases_Bool (p x)) [
      | inr fail ↦ (0, omega arith, fail)
      | inl pass ↦
          let rest = some_fails p d xs (ap (λ b. b && list_all p xs) (sym pass) ∙ is) in
          (suc rest.0, omega (arith, rest.1), rest.2)
    ]

-- where a sum isn't 0, one of its numbers isn't
some_part : (xs : List ℕ) → 0 < sum xs → (i : ℕ) × (0 < slice_index xs i)
some_part [] some = absurd (omega arith)
some_part (x ∷ xs) some =
    elim (cases_lt 0 x) [
      | inl here ↦ (0, here)
      | inr none ↦ let rest = some_part xs (omega (arith, sum_by-cons (λ y. y) x xs)) in (suc rest.0, rest.1)
    ]

-- An entry of a class below b in a buffer from b on.
record Crosses (grid : List (List ℕ)) (b : ℕ) : Type 0 where
  class : ℕ
  buffer : ℕ
  low : class < b
  high : b ≤ buffer
  within : buffer < length grid
  some : 0 < cell grid buffer class

crosses : (grid : List (List ℕ)) (b : ℕ) → is_boundary grid b ≡ false → Crosses grid b
crosses grid b is =
    let at = some_fails (λ (cells : List ℕ). sum (take b cells) == 0) [] (drop b grid) is in
    let j = b + at.0 in
    let there : slice_index_or (drop b grid) at.0 [] ≡ row grid j = get_or-drop b grid at.0 [] in
    let fails : (sum (take b (row grid j)) == 0) ≡ false =
    subst (λ (cells : List ℕ). (sum (take b cells) == 0) ≡ false) there at.2 in
    let some : 0 < sum (take b (row grid j)) = elim (cases_lt 0 (sum (take b (row grid j)))) [
      | inl h ↦ h
      | inr none ↦ absurd (true≢false (sym (eq-eqb (sum (take b (row grid j))) 0 (omega arith))
          ∙ fails))
    ] in
    let part = some_part (take b (row grid j)) some in
    elim (cases_lt part.0 b) [
      | inl low ↦ record {
        class = part.0;
        buffer = j;
        low = low;
        high = omega arith;
        within = omega (arith, at.1, length-drop b grid);
        some = omega (arith, part.1, get_or-take b (row grid j) part.0 0 low);
      }
      | inr past ↦ absurd (omega (
        arith,
        part.1,
        get_or_past (take b (row grid j)) part.0 0
            (omega (arith, length-take b (row grid j))),
      ))
    ]

pub near_full : (k : ℕ) (caps : List ℕ) (grid : List (List ℕ)) (i m : ℕ) → IsFilled k caps grid
    → boundary_of grid i ≤ m → m < i → PassedOver k caps grid m
near_full k caps grid i m f high low =
    let over = crosses grid (m + 1) (boundary_of-above grid i (m + 1) (omega arith) (omega arith)) in
    let within : over.buffer < width = omega (arith, over.within, f.grid_full.full) in
    record {
      class = over.class;
      buffer = over.buffer;
      low = omega (arith, over.low);
      past = omega (arith, over.high);
      within = within;
      least = f.entry over.buffer over.class within over.some;
      full = f.full over.buffer m over.class within over.some (omega (arith, over.low))
          (omega (arith, over.high));
    }
