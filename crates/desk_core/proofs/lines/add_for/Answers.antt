use Rattle.std.proofs.Common.{arith, ◌∙◌, ap, List, ℕ, ◌+◌, ◌++◌, ◌∷◌, []}
use Rattle.desk_core.proofs.EventLaws.{line_added}
use Rattle.desk_core.proofs.lines.add_for.Goals as goal

pub returns-clause-added : goal.returns-clause-added
returns-clause-added c =
    c.add-2.ensures ∙ ap (λ (xs : List ℕ). xs ++ (32 ∷ (48 + c.args.session) ∷ 10 ∷ [])) c.add.ensures
    ∙ line_added c.args.line.now.items c.args.word.now c.args.session (48 + c.args.session)
    c.requires.session (omega arith)
