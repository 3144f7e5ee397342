-- The texts of numbers, digit by digit.
use Rattle.std.proofs.Common.{◌≡◌, ℕ, ◌+◌, ◌*◌, ◌/◌, ◌%◌, ◌^◌, ◌<◌, List, [], ◌∷◌, ◌++◌, ap, refl, ◌∙◌, arith}
use Rattle.std.specs.Prelude.{codes}
use Rattle.std.proofs.lemmas.Fmt.{decimal_digit, decimal_step}
use Rattle.std.specs.Fmt.{decimal}
use Rattle.ask_text.proofs.laws.worked_texts.Goals as goal

-- a number of a digit more
longer : (n : ℕ) (digits : List ℕ) (more : ℕ) → more < 10 → 0 < n → n < 2 ^ 32 → decimal n ≡ digits
    → decimal (10 * n + more) ≡ digits ++ ((48 + more) ∷ [])
longer n digits more low some small is =
    let step = decimal_step (10 * n + more) (omega arith) (omega arith) in
    let front : (10 * n + more) / 10 ≡ n = omega arith in
    let last : (10 * n + more) % 10 ≡ more = omega arith in
    step ∙ (λ i. decimal (front i) ++ ((48 + last i) ∷ [])) ∙ ap (λ xs. xs ++ ((48 + more) ∷ [])) is

thirty : decimal 30 ≡ codes "30"
thirty = longer 3 (codes "3") 0 (omega arith) (omega arith) (omega arith) (decimal_digit 3 (omega arith))

thousand : decimal 1000 ≡ codes "1000"
thousand = longer 100 (codes "100") 0 (omega arith) (omega arith) (omega arith)
    (longer 10 (codes "10") 0 (omega arith) (omega arith) (omega arith)
    (longer 1 (codes "1") 0 (omega arith) (omega arith) (omega arith) (decimal_digit 1 (omega arith))))

pub returns-clause-put : goal.returns-clause-put
returns-clause-put c = rw (decimal_digit 3 (omega arith)) refl

pub returns-clause-line : goal.returns-clause-line
returns-clause-line c = rw thousand refl

pub returns-clause-found : goal.returns-clause-found
returns-clause-found c = rw (decimal_digit 3 (omega arith)) refl

pub returns-clause-listed : goal.returns-clause-listed
returns-clause-listed c =
    rw (decimal_digit 2 (omega arith), decimal_digit 3 (omega arith), decimal_digit 0 (omega arith)) refl

pub returns-clause-counts : goal.returns-clause-counts
returns-clause-counts c =
    rw (decimal_digit 2 (omega arith), thirty, decimal_digit 1 (omega arith), decimal_digit 5 (omega arith))
    refl
