use Rattle.std.proofs.Common.{◌≡◌, rules, subst}
use Rattle.std.specs.Prelude.{IfErr}
use Rattle.slot_codec.specs.declared.codec.Kind.TheVariants.{Settled, Moving}
use Rattle.table_rules.specs.Rules.{FirstBroken}
use Rattle.reopen.proofs.StateLaws.{layout_is}
use Rattle.reopen.proofs.TableLaws.{checked_is}
use Rattle.reopen.proofs.state.checked_layout.Goals as goal

pub returns-in-Settled-clause-layout : goal.returns-in-Settled-clause-layout
returns-in-Settled-clause-layout g c =
    let kind : c.args.header.now.kind ≡ Settled = search rules in
    let said = c.check_settled.ensures in
    layout_is c.args.k c.args.data_len Settled c.args.header.now c.args.table.now.now kind
    c.check_settled.result said.valid said.layout

pub returns-in-Settled-clause-broken : goal.returns-in-Settled-clause-broken
returns-in-Settled-clause-broken g c =
    let kind : c.args.header.now.kind ≡ Settled = search rules in
    subst (λ t. IfErr c.check_settled.result (λ fault. FirstBroken t fault.rule fault.at))
    (checked_is g.row.C c.args.k c.args.data_len Settled c.args.header.now c.args.table.now.now kind)
    c.check_settled.ensures.broken

pub returns-in-Moving-clause-layout : goal.returns-in-Moving-clause-layout
returns-in-Moving-clause-layout g c =
    let kind : c.args.header.now.kind ≡ Moving = search rules in
    let said = c.check_moving.ensures in
    layout_is c.args.k c.args.data_len Moving c.args.header.now c.args.table.now.now kind
    c.check_moving.result said.valid said.layout

pub returns-in-Moving-clause-broken : goal.returns-in-Moving-clause-broken
returns-in-Moving-clause-broken g c =
    let kind : c.args.header.now.kind ≡ Moving = search rules in
    subst (λ t. IfErr c.check_moving.result (λ fault. FirstBroken t fault.rule fault.at))
    (checked_is g.row.C c.args.k c.args.data_len Moving c.args.header.now c.args.table.now.now kind)
    c.check_moving.ensures.broken
