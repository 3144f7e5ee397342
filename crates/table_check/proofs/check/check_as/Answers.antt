use Rattle.std.proofs.Common.{arith, subst, ◌∙◌}
use Rattle.std.proofs.lemmas.Bool.{false≢true}
use Rattle.extent_table.proofs.ExtentLaws.{records_of-few}
use Rattle.table_rules.specs.Rules.{FirstBroken}
use Rattle.table_rules.proofs.FirstLaws.{valid_breaks_none}
use Rattle.table_check.specs.Checked.{checked}
use Rattle.table_check.proofs.RuleLaws.{framed_is}
use Rattle.table_check.proofs.check.check_as.Goals as goal

pub first_broken-requires : goal.first_broken-requires
first_broken-requires g c = record {
  room = omega (arith, records_of-few c.args.table.now.now, c.requires.can.room);
}

pub returns-in-Some-clause-valid : goal.returns-in-Some-clause-valid
returns-in-Some-clause-valid g c =
    let f = c.framed-frame.ensures in
    let fault = c.in-Some.fault in
    let t = checked g.row.C c.args.k c.args.length c.args.kind c.args.header.now c.args.table.now.now in
    let same = framed_is g.row.C c.args.k c.args.length c.args.kind c.args.header.now c.args.table.now
    c.framed-frame.result f.classes f.most f.divisor f.long (f.header ∙ c.with_kind.ensures) in
    let broken = subst (λ t. FirstBroken t fault.rule fault.at) same c.in-Some.ensures.first in
    (λ no. absurd (false≢true no), λ valid. absurd (valid_breaks_none t fault.rule fault.at valid broken))
