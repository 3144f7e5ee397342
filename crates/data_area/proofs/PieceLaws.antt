-- How many pieces of a buffer a copy takes.
use Rattle.std.specs.Prelude.{◌≡◌, ◌⊎◌, ℕ, zero, suc, ◌+◌, ◌-◌, ◌*◌, ◌/◌, ◌<◌, ◌≤◌}
use Rattle.std.proofs.Common.{arith, ◌∙◌, ap, inl, inr}
use Rattle.std.proofs.Math.Nat.{add-mul-div_left, div-eq_of_lt, div-mul-le_self, le-div_iff_mul-le, mul-suc}
use Rattle.disk_face.specs.Counts.{counted}
use Rattle.data_area.specs.Pieces.{pieces, HasMade}

pub pieces_none : (len : ℕ) → 0 < len → pieces len 0 ≡ 0
pieces_none len some = div-eq_of_lt (omega (arith, some))

-- after i whole pieces, one more
pub pieces_more : (len i n : ℕ) → 0 < n → n ≤ len → pieces len (len * i + n) ≡ i + 1
pieces_more len i n some fits =
    let e : len * i + n + (len - 1) ≡ (len + (n - 1)) + len * i = omega (arith, some, fits) in
    let one : (len + (n - 1)) / len ≡ 1 = one_piece in
    ap (λ x. x / len) e ∙ add-mul-div_left (len + (n - 1)) i (omega (arith, some, fits))
    ∙ (let z : (len + (n - 1)) / len + i ≡ i + 1 = omega (arith, one) in z)
  where
    one_piece : (len + (n - 1)) / len ≡ 1
    one_piece =
        let s : len + (n - 1) ≡ (n - 1) + len * 1 = omega arith in
        let small : (n - 1) / len ≡ 0 = div-eq_of_lt (omega (arith, some, fits)) in
        ap (λ x. x / len) s ∙ add-mul-div_left (n - 1) 1 (omega (arith, some, fits))
        ∙ (let z : (n - 1) / len + 1 ≡ 1 = omega (arith, small) in z)

pub pieces_rise : (len m n : ℕ) → 0 < len → m ≤ n → pieces len m ≤ pieces len n
pieces_rise len m n some low = (le-div_iff_mul-le some).1
    (omega (arith, low, div-mul-le_self (m + (len - 1)) len))

pub made_none : (first len size : ℕ) → 0 < len → HasMade first first len size 0
made_none first len size some = record {
  none = λ _. omega arith;
  some = λ more. absurd (omega (arith, more));
  row = inr (omega (arith, ap (λ x. len * x) (pieces_none len some)));
}

zero_or_more : (x : ℕ) → (x ≡ 0) ⊎ (0 < x)
zero_or_more zero = inl (omega arith)
zero_or_more (suc x) = inr (omega arith)

-- one piece more: as many bytes as the buffer has, or all that are left
pub made_more : (first now after len size done n : ℕ) → 0 < len → done < size → 0 < n → n ≤ len
    → (n ≡ len) ⊎ (done + n ≡ size) → HasMade first now len size done → after ≡ counted now 1
    → HasMade first after len size (done + n)
made_more first now after len size done n some less bytes fits last made is =
    let whole : done ≡ len * pieces len done =
    elim made.row [ inl end ↦ absurd (omega (arith, end, less)) | inr row ↦ row ] in
    let p = pieces len done in
    let next : pieces len (done + n) ≡ p + 1 = ap (λ x. pieces len (x + n)) whole
    ∙ pieces_more len p n bytes fits in
    record {
      none = λ end. absurd (omega (arith, end, bytes));
      some = λ more. count p whole next;
      row = elim last [
        | inl full ↦ inr (filled p whole next full)
        | inr end ↦ inl end
      ];
    }
  where
    count : (p : ℕ) → done ≡ len * p → pieces len (done + n) ≡ p + 1
        → after ≡ counted first (pieces len (done + n))
    count p whole next = elim (zero_or_more done) as (λ x. after ≡ counted first (pieces len (done + n))) [
      | inl end ↦
          let none : pieces len done ≡ 0 = ap (pieces len) end ∙ pieces_none len some in
          let one : pieces len (done + n) ≡ 1 = ap (λ x. pieces len (x + n)) end
          ∙ ap (pieces len) (let z : 0 + n ≡ len * 0 + n = omega arith in z)
          ∙ pieces_more len 0 n bytes fits in
          omega (arith, is, made.none end, one)
      | inr more ↦ omega (arith, is, made.some more, next, sure)
    ]
      where
        sure : pieces len (done + n) ≡ pieces len done + 1
        sure =
            let whole : done ≡ len * pieces len done =
            elim made.row [ inl end ↦ absurd (omega (arith, end, less)) | inr row ↦ row ] in
            ap (λ x. pieces len (x + n)) whole ∙ pieces_more len (pieces len done) n bytes fits

    filled : (p : ℕ) → done ≡ len * p → pieces len (done + n) ≡ p + 1 → n ≡ len
        → done + n ≡ len * pieces len (done + n)
    filled p whole next full = omega (arith, whole, full, ap (λ x. len * x) next, more len p)
      where
        more : (m i : ℕ) → m * (i + 1) ≡ m * i + m
        more m i = (let e : i + 1 ≡ suc i = omega arith in ap (λ x. m * x) e) ∙ mul-suc m i

-- no more than the whole copy makes, also where a piece fails
pub made_most : (first now after len size done : ℕ) → 0 < len → done < size → HasMade first now len size done
    → after ≤ now + 1 → after ≤ first + pieces len size
made_most first now after len size done some less made is =
    let whole : done ≡ len * pieces len done =
    elim made.row [ inl end ↦ absurd (omega (arith, end, less)) | inr row ↦ row ] in
    let next : pieces len (done + 1) ≡ pieces len done + 1 = ap (λ x. pieces len (x + 1)) whole
    ∙ pieces_more len (pieces len done) 1 (omega arith) (omega (arith, some)) in
    let rise = pieces_rise len (done + 1) size some (omega (arith, less)) in
    elim (zero_or_more done) as (λ x. after ≤ first + pieces len size) [
      | inl end ↦ omega (arith, is, made.none end, next, rise)
      | inr more ↦ omega (arith, is, made.some more, next, rise)
    ]
