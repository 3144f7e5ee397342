-- The objects in buffers from the boundary on weigh at most the entries there. What is taken of a buffer
-- weighs, by the buffer's own class, at most what its entries weigh.
use Rattle.std.specs.Prelude.{◌≡◌, ℕ, ◌*◌, ◌<◌, ◌≤◌, List}
use Rattle.std.proofs.Common.{arith, sym, ◌∙◌, ap, inl, inr}
use Rattle.std.proofs.Math.Nat.{mul-le-mul_left, mul-le-mul_right}
use Rattle.std.proofs.lemmas.Bool.{cases_lt}
use Rattle.byte_ranges.specs.Lists.{sum_below}
use Rattle.size_class.specs.Classes.{width, IsGrid, row, cell}
use Rattle.segment_layout.specs.Shapes.{taken_in}
use Rattle.segment_layout.proofs.SumLaws.{sum_below_agree, sum_below_le, sum_below_zero, sum_below_swap, sum_below_times, sum_below_term, sum_places}
use Rattle.segment_layout.proofs.BalanceLaws.{entered_in}
use Rattle.cost_laws.proofs.FewPlaces.{from, from-below, from-above}
use Rattle.cost_laws.proofs.Weights.{row_weight, weight_from}
use Rattle.cost_laws.proofs.RateFalls.{Falls}

-- what the entries of a class have taken in the buffers from b on
abbrev pub entered_from : ℕ → List (List ℕ) → ℕ → ℕ
entered_from b grid c = sum_below width (from b (λ j. cell grid j c))

pub entries_weigh : (r : ℕ → ℕ) (b : ℕ) (grid : List (List ℕ))
    → sum_below width (λ c. entered_from b grid c * r c) ≡ weight_from r b grid
entries_weigh r b grid =
    sum_below_agree width (λ c. entered_from b grid c * r c) (λ c. sum_below width
    (λ j. from b (λ i. cell grid i c * r c) j)) (λ c h.
    let turn : entered_from b grid c * r c ≡ r c * entered_from b grid c = omega arith in
    turn
    ∙ sum_below_times (r c) width (from b (λ j. cell grid j c))
    ∙ sum_below_agree width (λ j. r c * from b (λ i. cell grid i c) j)
    (λ j. from b (λ i. cell grid i c * r c) j) (λ j hj. elim (cases_lt j b) [
      | inl low ↦ let z : r c * 0 ≡ 0 = omega arith in ap (λ x. r c * x)
          (from-below b j (λ i. cell grid i c) low) ∙ z ∙ sym (from-below b j (λ i. cell grid i c * r c) low)
      | inr high ↦ let e : r c * cell grid j c ≡ cell grid j c * r c = omega arith in ap (λ x. r c * x)
          (from-above b j (λ i. cell grid i c) high) ∙ e
          ∙ sym (from-above b j (λ i. cell grid i c * r c) high)
    ]))
    ∙ sum_below_swap width width (λ c j. from b (λ i. cell grid i c * r c) j)
    ∙ sum_below_agree width (λ j. sum_below width (λ c. from b (λ i. cell grid i c * r c) j))
    (from b (row_weight r grid)) (λ j hj. elim (cases_lt j b) [
      | inl low ↦ sum_below_zero width (λ c. from b (λ i. cell grid i c * r c) j) (λ c h. from-below b j
          (λ i. cell grid i c * r c) low) ∙ sym (from-below b j (row_weight r grid) low)
      | inr high ↦ sum_below_agree width (λ c. from b (λ i. cell grid i c * r c) j) (λ c. cell grid j c * r c)
          (λ c h. from-above b j (λ i. cell grid i c * r c) high)
          ∙ sym (from-above b j (row_weight r grid) high)
    ])

-- one entry is at most what its class has taken from b on
pub entry_within : (b : ℕ) (grid : List (List ℕ)) (j c : ℕ) → b ≤ j → j < width
    → cell grid j c ≤ entered_from b grid c
entry_within b grid j c high within =
    omega (
      arith,
      sum_below_term width j (from b (λ i. cell grid i c)) within,
      from-above b j
          (λ i. cell grid i c) high,
    )

-- an entry of a class from b on stands in a buffer from b on
pub entered_is_from : (b : ℕ) (grid : List (List ℕ)) (c : ℕ) → ((j d : ℕ) → j < d → cell grid j d ≡ 0)
    → b ≤ c → entered_in grid c ≤ entered_from b grid c
entered_is_from b grid c lower high =
    sum_below_le width (λ j. cell grid j c) (from b (λ j. cell grid j c)) (λ j h. elim (cases_lt j b) [
      | inl low ↦ omega (arith, lower j c (omega arith))
      | inr past ↦ omega (arith, from-above b j (λ i. cell grid i c) past)
    ])

pub buffered_weigh : (r : ℕ → ℕ) (b : ℕ) (grid : List (List ℕ)) (buffered : ℕ → ℕ)
    → ((j d : ℕ) → j < d → cell grid j d ≡ 0) → ((c : ℕ) → buffered c ≤ entered_in grid c)
    → sum_below width (from b (λ c. buffered c * r c)) ≤ weight_from r b grid
buffered_weigh r b grid buffered lower within =
    omega (
      arith,
      entries_weigh r b grid,
      sum_below_le width (from b (λ c. buffered c * r c)) (λ c. entered_from b grid c * r c)
          (λ c h. elim (cases_lt c b) [
            | inl low ↦ omega (arith, from-below b c (λ d. buffered d * r d) low)
            | inr high ↦
                let less : buffered c ≤ entered_from b grid c =
                omega (arith, within c, entered_is_from b grid c lower high) in
                omega (arith, from-above b c (λ d. buffered d * r d) high, mul-le-mul_right (r c) less)
          ]),
    )

pub taken_weighs : (r : ℕ → ℕ) (grid : List (List ℕ)) (m : ℕ) → Falls r → IsGrid width grid
    → ((j d : ℕ) → j < d → cell grid j d ≡ 0) → m < width → taken_in grid m * r m ≤ row_weight r grid m
taken_weighs r grid m falls g lower within =
    let parts : r m * taken_in grid m ≡ sum_below width (λ c. r m * cell grid m c) =
    ap (λ x. r m * x) (sum_places (row grid m) width (g.rows m within).full)
    ∙ sum_below_times (r m) width (λ c. cell grid m c) in
    omega (
      arith,
      parts,
      sum_below_le width (λ c. r m * cell grid m c) (λ c. cell grid m c * r c) (λ c h. elim (cases_lt m c) [
        | inl above ↦ let z : r m * 0 ≡ 0 = omega arith in omega (
          arith,
          z,
          ap (λ x. r m * x)
              (lower m c above),
        )
        | inr low ↦ omega (arith, mul-le-mul_left (cell grid m c) (falls c m low))
      ]),
    )
