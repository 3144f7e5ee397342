use Rattle.std.proofs.Common.{◌≤◌, ◌∙◌, ap, subst, sym}
use Rattle.std.specs.FinMap as fin
use Rattle.extent_table.specs.Extents.{Extents, Spots}
use Rattle.reopen.proofs.TakeLaws.{gone_absent, gone_few, gone_taken, nothing_there}
use Rattle.reopen.proofs.items.take_name.Goals as goal

pub returns-then-not-has-clause-refused : goal.returns-then-not-has-clause-refused
returns-then-not-has-clause-refused c =
    let none = nothing_there (fin.get c.args.load.now.now c.in_ok-name.name) c.has.result c.has.ensures.1
    c.if-not-has.true in
    gone_absent c.args.item.now c.in_ok-name.name c.args.load.now c.requires.table
    (sym c.read_name.ensures.value ∙ c.in_ok-name.was) none

pub returns-clause-taken : goal.returns-clause-taken
returns-clause-taken c =
    gone_taken c.args.item.now c.in_ok-name.name c.args.load.now c.remove.new.self c.requires.table
    c.remove.ensures.table (sym c.read_name.ensures.value ∙ c.in_ok-name.was)
    (c.has.ensures.0 c.if-not-has.false)
    (ap (λ (e : Extents). e.now) c.remove.ensures.only) (ap (λ (e : Extents). e.digests)
    c.remove.ensures.only)

pub returns-clause-few : goal.returns-clause-few
returns-clause-few c =
    subst (λ (m : Spots). fin.len m ≤ fin.len c.args.load.now.now)
    (sym (ap (λ (e : Extents). e.now) c.remove.ensures.only)) (gone_few c.args.load.now.now c.in_ok-name.name)
