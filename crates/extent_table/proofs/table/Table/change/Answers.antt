use Rattle.std.proofs.Common.{◌+◌, ◌-◌, ◌≡◌, ◌<◌, ◌∙◌, sym, arith}
use Rattle.std.specs.FinMap as fin
use Rattle.extent_table.specs.Extents.{IsTable}
use Rattle.extent_table.specs.Parts.{kept_of, spot_at}
use Rattle.extent_table.proofs.DeltaLaws.{changes_of-count, changes_of-kept, changes_of-new}
use Rattle.extent_table.proofs.SideLemmas.{len_of}
use Rattle.extent_table.proofs.ToldLemmas.{is_table}
use Rattle.extent_table.proofs.table.Table.change.Goals as goal
use Rattle.extent_table.proofs.table.Table.change.Goals.{After-len-kept, After-self}

a_table : (c : After-self) → IsTable c.args.self.now
a_table c = rw (← c.self.view_is) (is_table c.self.inside c.self.invariant)

kept : (c : After-len-kept) → c.len-kept.result ≡ fin.len c.args.self.now.kept
kept c = rw (← c.self.view_is) (c.len-kept.ensures ∙ c.self.inside.kept_order.ok.0
    ∙ sym (len_of c.self.invariant.sound.kept (spot_at kept_of c.self.inside.entries.slots)))

pub kept_change-requires : goal.kept_change-requires
kept_change-requires c =
    omega (arith, kept (goal.at.kept_change-requires c).After-len-kept, c.if-n-kept.true)

pub new_change-requires : goal.new_change-requires
new_change-requires c =
    let path = goal.at.new_change-requires c in
    omega (
      arith,
      kept path.After-len-kept,
      c.if-n-kept.false,
      c.requires,
      changes_of-count c.args.self.now (a_table path.After-self),
    )

pub returns-then-n-kept : goal.returns-then-n-kept
returns-then-n-kept c =
    let path = goal.at.returns-then-n-kept c in
    let low : c.args.n < fin.len c.args.self.now.kept =
    omega (arith, kept path.After-len-kept, c.if-n-kept.true) in
    changes_of-kept c.args.self.now (a_table path.After-self) c.args.n low ∙ c.kept_change.ensures

pub returns-else-n-kept : goal.returns-else-n-kept
returns-else-n-kept c =
    let path = goal.at.returns-else-n-kept c in
    let is : c.args.n ≡ fin.len c.args.self.now.kept + (c.args.n - c.len-kept.result) =
    omega (arith, kept path.After-len-kept, c.if-n-kept.false) in
    changes_of-new c.args.self.now (a_table path.After-self) c.args.n (c.args.n - c.len-kept.result) is
    ∙ c.new_change.ensures
