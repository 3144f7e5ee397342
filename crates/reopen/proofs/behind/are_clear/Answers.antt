use Rattle.std.proofs.Common.{refl}
use Rattle.reopen.proofs.GapLaws.{clear_all, clear_bad, clear_more}
use Rattle.reopen.proofs.behind.are_clear.Goals as goal

pub bytes-init : goal.bytes-init
bytes-init c = λ file there. refl

pub bytes-preserved : goal.bytes-preserved
bytes-preserved c =
    clear_more c.args.gap.now c.args.at c.bytes.i c.bytes-test.true c.if-gap-i-ne0.false c.bytes.invariant

pub returns-then-gap-i-ne0-clause-refused : goal.returns-then-gap-i-ne0-clause-refused
returns-then-gap-i-ne0-clause-refused c =
    clear_bad c.args.gap.now c.args.at c.bytes.i c.bytes-test.true c.if-gap-i-ne0.true c.bytes.invariant

pub returns-clause-read : goal.returns-clause-read
returns-clause-read c =
    clear_all c.args.gap.now c.args.at c.bytes.i c.bytes-test.false c.bytes.auto.i-end c.bytes.invariant
