-- The number ends where the digits do.
use Rattle.std.proofs.Common.{arith, ◌∙◌, ℕ, ap, sym, subst, take, drop}
use Rattle.dump_stream.specs.Heads.{Splits}
use Rattle.dump_stream.proofs.ReadLaws.{split_found, split_none}
use Rattle.dump_stream.proofs.head.first_number.Goals as goal

pub returns-in_err-number-clause-none : goal.returns-in_err-number-clause-none
returns-in_err-number-clause-none c = λ none. split_none c.args.text.now
    (λ n fits is. c.in_err-number.ensures n fits
    (ap (λ (m : ℕ). take m c.args.text.now) c.number_end-at.ensures ∙ is))

pub returns-clause-found : goal.returns-clause-found
returns-clause-found c =
    subst (λ (m : ℕ). Splits c.args.text.now c.in_ok-number.number (drop m c.args.text.now))
    (sym c.number_end-at.ensures)
    (split_found c.args.text.now c.in_ok-number.number (grind arith)
    (ap (λ (m : ℕ). take m c.args.text.now) (sym c.number_end-at.ensures) ∙ c.in_ok-number.ensures))
