use Rattle.std.proofs.Common.{◌≡◌, ◌∙◌, ap, sym, subst}
use Rattle.std.specs.Prelude.{IfSome}
use Rattle.plain_layout.specs.Objects.{cut, spot_in}
use Rattle.plain_layout.proofs.ObjectLaws.{cut_of, empty_first}
use Rattle.plain_layout.proofs.opened.Opened.spot_of.Goals as goal

pub returns-clause-object : goal.returns-clause-object
returns-clause-object c = λ base file.
    let records = c.args.self.now.table.records.items in
    let spot : c.spot_in.result ≡ spot_in records c.args.name.now =
    c.spot_in.ensures ∙ ap (λ rs. spot_in rs c.args.name.now) c.deref.ensures.value in
    ap (cut base file) spot ∙ cut_of base file records c.args.name.now

pub returns-clause-empty : goal.returns-clause-empty
returns-clause-empty c = λ valid.
    let records = c.args.self.now.table.records.items in
    let spot : c.spot_in.result ≡ spot_in records c.args.name.now =
    c.spot_in.ensures ∙ ap (λ rs. spot_in rs c.args.name.now) c.deref.ensures.value in
    subst (λ o. IfSome o (λ s. s.1 ≡ 0 → s.0 ≡ 0)) (sym spot)
    (empty_first records c.args.name.now valid.0.places.empty)
