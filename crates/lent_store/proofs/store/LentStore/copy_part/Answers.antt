use Rattle.std.proofs.Common.{◌∙◌, ap, ℕ}
use Rattle.std.specs.Prelude.{drop, length, min}
use Rattle.lent_store.specs.Embedded.{file_in}
use Rattle.lent_store.proofs.PartLaws.{part_copied}
use Rattle.lent_store.proofs.store.LentStore.copy_part.Goals as goal

pub returns-then-count-gt0-clause-part : goal.returns-then-count-gt0-clause-part
returns-then-count-gt0-clause-part c =
    part_copied (file_in c.args.self.now) c.args.out.now c.copy.new.out (drop c.min-count.result c.args.out.now)
    c.args.at c.args.size c.args.from c.min-count.result c.requires.within
    (c.min-count.ensures ∙ ap (λ (x : ℕ). min x (length c.args.out.now)) c.saturating_sub.ensures)
    c.if-count-gt0.true c.copy.ensures
