-- What is heavy beside an entry or an item stands in few classes: from its own class on at most lg_up k +
-- 2.
use Rattle.std.specs.Prelude.{◌≡◌, ℕ, ◌+◌, ◌*◌, ◌^◌, ◌<◌, ◌≤◌, nat_le, unwrap_or, find, Option, Some, None, refl}
use Rattle.std.proofs.Common.{arith, ◌∙◌, ap, inl, inr}
use Rattle.std.proofs.lemmas.Nat.{pow-add, mul-le}
use Rattle.std.proofs.lemmas.Bool.{cases_lt, leb-true, leb-false}
use Rattle.byte_ranges.specs.Lists.{below, counting_from}
use Rattle.size_class.specs.Classes.{lg_up}
use Rattle.size_class.proofs.ClassLaws.{power_rises, power_next, found_counting, missed_counting}

-- in how many classes an entry or an item can make bytes heavy
abbrev pub reach : ℕ → ℕ
reach k = lg_up k + 2

lg_found : (k : ℕ) (o : Option ℕ) → k ≤ 64 → find (λ n. nat_le k (2 ^ n)) (counting_from 0 64) ≡ o
    → k ≤ 2 ^ unwrap_or o 64
lg_found k (Some n) high is = leb-true k (2 ^ n) (found_counting (λ n. nat_le k (2 ^ n)) 0 64 n is).here
lg_found k None high is = absurd (let past : 2 ^ 6 < k =
    leb-false k (2 ^ 6) (missed_counting (λ n. nat_le k (2 ^ n)) 0 64 6 is (omega arith)
    (omega arith)) in let e : 2 ^ 6 ≡ 64 = refl in omega arith)

pub lg_up_reaches : (k : ℕ) → k ≤ 64 → k ≤ 2 ^ lg_up k
unfolding lg_up below
lg_up_reaches k high = lg_found k _ high refl

-- a class whose least size is below 2 * k * d, where d is at most the size at which class c ends
pub few_classes : (k m c d : ℕ) → k ≤ 64 → d ≤ 2 ^ (c + 1) → 2 ^ m < 2 * k * d → m < c + (reach k)
few_classes k m c d small within less =
    elim (cases_lt m (c + (reach k))) [
      | inl h ↦ h
      | inr high ↦ absurd (
          let parts : c + (reach k) ≡ lg_up k + (c + 1 + 1) = omega arith in
          let power : 2 ^ (c + (reach k)) ≡ 2 ^ lg_up k * 2 ^ (c + 1 + 1) =
          ap (λ x. 2 ^ x) parts ∙ pow-add 2 (lg_up k) (c + 1 + 1) in
          let double : 2 ^ lg_up k * 2 ^ (c + 1 + 1) ≡ 2 ^ lg_up k * (2 * 2 ^ (c + 1)) =
          ap (λ x. 2 ^ lg_up k * x) (power_next (c + 1)) in
          omega (
            arith,
            power,
            double,
            power_rises (c + (reach k)) m high,
            mul-le k d (2 ^ lg_up k)
                (2 ^ (c + 1)) (lg_up_reaches k small) within,
          )
          )
    ]
