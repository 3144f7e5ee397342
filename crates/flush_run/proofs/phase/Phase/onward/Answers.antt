use Rattle.std.proofs.Common.{◌≡◌, sym, subst}
use Rattle.flush_run.specs.HandsOn.{GoesNext, GoesToEnd}
use Rattle.flush_run.specs.Shelved.{shelf_of}
use Rattle.flush_run.specs.Phases.{AtEnd, IsOver, items_in, phase_in}
use Rattle.flush_run.specs.declared.phase.Phase.{Phase}
use Rattle.flush_run.specs.declared.phase.Phase.TheVariants as phases
use Rattle.flush_run.proofs.HandLaws.{lay_hands, lift_hands, pack_hands}
use Rattle.flush_run.proofs.phase.Phase.onward.Goals as goal

pub returns-in-Lift : goal.returns-in-Lift
returns-in-Lift g c =
    let e = c.args.table.now in
    let l = c.into_packing.ensures in
    let is = subst (λ v. c.args.self.now ≡ phases.Lift v) (sym c.copied.ensures) c.in-Lift.is in
    let over = subst (λ (s : Phase g.row.C). IsOver s (items_in s e) (shelf_of e)) is c.requires.over in
    let end = subst (λ (s : Phase g.row.C). AtEnd s (phase_in s e)) is c.requires.end in
    subst (λ (s : Phase g.row.C). GoesNext s (phases.Pack c.into_packing.result) e) (sym is)
    (lift_hands g.row.C e c.copied.result c.into_packing.result over.keeps end l.course l.keeps l.pays)

pub returns-in-Pack : goal.returns-in-Pack
returns-in-Pack g c =
    let e = c.args.table.now in
    let l = c.into_laying.ensures in
    let is = subst (λ v. c.args.self.now ≡ phases.Pack v) (sym c.copied-in-Pack.ensures) c.in-Pack.is in
    let over = subst (λ (s : Phase g.row.C). IsOver s (items_in s e) (shelf_of e)) is c.requires.over in
    let end = subst (λ (s : Phase g.row.C). AtEnd s (phase_in s e)) is c.requires.end in
    subst (λ (s : Phase g.row.C). GoesNext s (phases.Lay c.into_laying.result) e) (sym is)
    (pack_hands g.row.C e c.copied-in-Pack.result c.into_laying.result over end l.course l.keeps)

pub returns-in-Lay : goal.returns-in-Lay
returns-in-Lay g c =
    let e = c.args.table.now in
    let l = c.into_settled.ensures in
    let is = subst (λ v. c.args.self.now ≡ phases.Lay v) (sym c.copied-in-Lay.ensures) c.in-Lay.is in
    let over = subst (λ (s : Phase g.row.C). IsOver s (items_in s e) (shelf_of e)) is c.requires.over in
    let end = subst (λ (s : Phase g.row.C). AtEnd s (phase_in s e)) is c.requires.end in
    subst (λ (s : Phase g.row.C). GoesToEnd s c.into_settled.result e) (sym is)
    (lay_hands g.row.C e c.copied-in-Lay.result c.into_settled.result over.keeps end l.course l.settled)
