use Rattle.std.proofs.Common.{◌∙◌, sym}
use Rattle.plain_layout.proofs.ChangeLemmas.{stays_is}
use Rattle.plain_layout.proofs.change.Next.is_buffered.Goals as goal

pub returns-clause-names : goal.returns-clause-names
returns-clause-names c = λ k m book change name next was here after.
    stays_is c.args.self.now c.args.was c.args.is_changed c.args.size k m book change name next was here after
    ∙ sym c.stays.ensures
