-- A line is the digits before its newline, and the newline.
use Rattle.std.proofs.Common.{◌∙◌, ap, rules, ◌++◌, ◌∷◌, []}
use Rattle.watched_streams.proofs.TallyLemmas.{cut_line}
use Rattle.watched_streams.proofs.tally.number_of.Goals as goal

pub returns-in-Some-number : goal.returns-in-Some-number
returns-in-Some-number c =
    cut_line c.args.line.now c.in-Some.digits.now (search rules) (search rules)
    ∙ ap (λ xs. xs ++ 10 ∷ []) c.in-Some-number.ensures
