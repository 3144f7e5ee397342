-- How many saves a flush makes. Each save that a move calls for is paid by the bytes that were packed, or
-- laid, since the last one.
use Rattle.std.specs.Prelude.{◌≡◌, ℕ, suc, ◌+◌, ◌*◌, ◌/◌, ◌<◌, ◌≤◌, List, Some, Contains, refl}
use Rattle.std.proofs.Common.{arith, inl, inr, ap, ◌∙◌}
use Rattle.std.proofs.Math.Nat.{lt-mul-div-succ, lt_of_mul-lt-mul_left, mul_comm, mul-suc}
use Rattle.std.specs.FinMap as fin
use Rattle.span_math.specs.declared.span.Span.{Span}
use Rattle.span_math.specs.Spans.{SharesByte}
use Rattle.extent_table.specs.declared.spot.Spot.{Spot}
use Rattle.extent_table.specs.Extents.{Spots}
use Rattle.placement_model.specs.Held.{IsFreed}
use Rattle.placement_model.specs.SaveCounts.{AreAside, Meets, SlackCoversSave, PackCount, LayCount}

-- a span of the guard that shares a byte with a target is such an object
pub meets_of_touch : (spans : List Span) (now kept : Spots) (a target : Span) → IsFreed spans now kept
    → Contains spans a → SharesByte a target → Meets kept target.place target.size
meets_of_touch spans now kept a target freed there shares =
    let o = freed.only a there in
    record {
      name = o.0;
      spot = o.1;
      is = o.2;
      low = omega (arith, shares.2, o.4.0);
      high = omega (arith, shares.3, o.4.0, o.4.1);
    }

one_more : (m n : ℕ) → m * (n + 1) ≡ m * n + m
one_more m n = (let e : n + 1 ≡ suc n = omega arith in ap (λ x. m * x) e) ∙ mul-suc m n

-- the pay of a flush: so many of them are more than all bytes that pay
pub pays_for : (k total : ℕ) → 1 ≤ k → total < k * (total / k + 1)
pays_for k total some = lt-mul-div-succ total (omega (arith, some))

fewer : (pay k n total : ℕ) → total < k * pay → pay * n ≤ total → n < k
fewer pay k n total less low = lt_of_mul-lt-mul_left pay (omega (arith, less, low, swap k pay))
  where
    swap : (a b : ℕ) → a * b ≡ b * a
    swap a b = mul_comm a b

-- at first the checkpoint ends at or before the old end
pub pack_start : (pay slack wall total old_end : ℕ) (kept : Spots)
    → ((name : List ℕ) (s : Spot) → fin.get kept name ≡ Some s → s.place + s.size ≤ old_end)
    → old_end + slack ≤ wall → PackCount pay slack wall total kept wall 0
pack_start pay slack wall total old_end kept low far =
    record {
      top0 = wall;
      edge = old_end;
      aside = λ name s is. inl (low name s is);
      far = far;
      paid = omega arith;
      few = omega arith;
      below = omega arith;
    }

-- a move that needs no save
pub pack_moves : (pay slack wall total : ℕ) (kept : Spots) (top saves to : ℕ)
    → PackCount pay slack wall total kept top saves → to ≤ top → PackCount pay slack wall total kept to saves
pack_moves pay slack wall total kept top saves to p low =
    record {
      top0 = p.top0;
      edge = p.edge;
      aside = p.aside;
      far = p.far;
      paid = p.paid;
      few = p.few;
      below = omega (arith, low, p.below);
    }

-- a move whose target meets what the checkpoint holds, and the save that it calls for
pub pack_pays : (pay slack largest wall total : ℕ) (kept after : Spots) (top saves from to w : ℕ)
    → SlackCoversSave pay slack largest → PackCount pay slack wall total kept top saves → Meets kept to w
    → to + w ≤ top
    → w ≤ largest → from + slack ≤ to → wall ≤ to + w + total → AreAside after (from + w) (to + w)
    → PackCount pay slack wall total after (to + w) (saves + 1)
pack_pays pay slack largest wall total kept after top saves from to w g p m ends small far few aside =
    let below_edge : to < p.edge = elim (p.aside m.name m.spot m.is) [
      | inl low ↦ omega (arith, low, m.high)
      | inr high ↦ absurd (omega (arith, high, m.low, ends, p.below))
    ] in
    record {
      top0 = to + w;
      edge = from + w;
      aside = aside;
      far = omega (arith, far);
      paid = omega (arith, one_more pay saves, p.paid, p.far, below_edge, ends, small, g.gap);
      few = few;
      below = omega arith;
    }

-- at the end there were fewer than k
pub pack_ends : (pay slack wall total k : ℕ) (kept : Spots) (top saves : ℕ)
    → PackCount pay slack wall total kept top saves → total < k * pay → saves < k
pack_ends pay slack wall total k kept top saves p less =
    fewer pay k saves total less (omega (arith, p.paid, p.few))

pub lay_start : (pay start : ℕ) (kept : Spots) (next front : ℕ) → LayCount pay start kept next front 0
lay_start pay start kept next front = inl refl

-- a move that needs no save
pub lay_moves : (pay start : ℕ) (kept : Spots) (next front saves next' front' : ℕ)
    → LayCount pay start kept next front saves → next ≤ next' → front ≤ front'
    → LayCount pay start kept next' front' saves
lay_moves pay start kept next front saves next' front' (inl none) up on = inl none
lay_moves pay start kept next front saves next' front' (inr (n, is, since)) up on = inr (
  n,
  is,
  record {
    front0 = since.front0;
    aside = λ name s there. elim (since.aside name s there) [
      | inl low ↦ inl (omega (arith, low, up))
      | inr high
          ↦ inr high
    ];
    paid = since.paid;
    below = omega (arith, since.below, on);
  },
)

-- a move whose target meets what the checkpoint holds, and the save that it calls for
pub lay_pays : (pay slack largest start : ℕ) (kept after : Spots) (next front saves to w : ℕ)
    → SlackCoversSave pay slack largest → LayCount pay start kept next front saves → Meets kept to w
    → next ≤ to
    → w ≤ largest → to + slack ≤ front → start ≤ front → AreAside after to front
    → LayCount pay start after to front (saves + 1)
lay_pays pay slack largest start kept after next front saves to w g (inl none) m up small far low aside =
    inr (
      0,
      omega (arith, none),
      record {
        front0 = front;
        aside = aside;
        paid = omega (arith, low);
        below = omega arith;
      },
    )
lay_pays pay slack largest start kept after next front saves to w g (inr (n, is, since)) m up small far low
    aside =
    let past : since.front0 < to + w = elim (since.aside m.name m.spot m.is) [
      | inl under ↦ absurd (omega (arith, under, m.high, up))
      | inr over ↦ omega (arith, over, m.low)
    ] in
    inr (
      n + 1,
      omega (arith, is),
      record {
        front0 = front;
        aside = aside;
        paid = omega (arith, one_more pay n, since.paid, past, small, far, g.gap);
        below = omega arith;
      },
    )

-- at the end there were at most k
pub lay_ends : (pay start total k : ℕ) (kept : Spots) (next front saves : ℕ)
    → LayCount pay start kept next front saves → front ≤ start + total → total < k * pay → saves ≤ k
lay_ends pay start total k kept next front saves (inl none) high less = omega (arith, none)
lay_ends pay start total k kept next front saves (inr (n, is, since)) high less =
    omega (arith, is, fewer pay k n total less (omega (arith, since.paid, since.below, high)))

-- with the save of the settled table a flush makes at most 2k
pub saves_in_all : (k pack lay : ℕ) → pack < k → lay ≤ k → pack + lay + 1 ≤ 2 * k
saves_in_all k pack lay few more = omega (arith, few, more)
