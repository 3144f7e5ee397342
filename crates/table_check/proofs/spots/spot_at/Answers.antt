use Rattle.std.proofs.Common.{◌≡◌, ℕ, List, Some, ap, sym, arith}
use Rattle.std.proofs.lemmas.Option.{get_or_from_slice_get}
use Rattle.std.specs.List.{slice_get}
use Rattle.slot_codec.specs.declared.codec.Record.{Record}
use Rattle.table_rules.specs.Tables.{no_record}
use Rattle.extent_table.specs.declared.spot.Spot.{Spot}
use Rattle.extent_table.specs.Extents.{record_of, records_of}
use Rattle.extent_table.proofs.ExtentLaws.{records_of-count, records_of-nth}
use Rattle.extent_table.proofs.SaveLaws.{records_in_range}
use Rattle.table_check.specs.Placed.{ranked}
use Rattle.table_check.proofs.spots.spot_at.Goals as goal
use Rattle.table_check.proofs.spots.spot_at.Goals.{After-in_order}

-- the entry of the rank, and its record
abbrev entry : After-in_order → List ℕ × Spot
entry c = (c.in_order.result.1, c.in_order.result.2)

there : (c : After-in_order) → slice_get (records_of c.args.table.now.now) c.args.rank
    ≡ Some (record_of (entry c))
there c = records_of-nth c.args.table.now.now c.count.ensures.table.now_named c.args.rank (entry c)
    c.in_order.ensures.entry

record_is : (c : After-in_order) → record_of (entry c) ≡ ranked c.args.table.now c.args.rank
record_is c = sym (get_or_from_slice_get (records_of c.args.table.now.now) c.args.rank (record_of (entry c))
    no_record (there c))

pub in_order-requires : goal.in_order-requires
in_order-requires c =
    omega (
      arith,
      c.count.ensures.value,
      records_of-count c.args.table.now.now c.count.ensures.table.now_named,
      c.if-rank-count.true,
    )

pub returns-then-rank-count-clause-place : goal.returns-then-rank-count-clause-place
returns-then-rank-count-clause-place c = ap (λ (r : Record). r.place)
    (record_is (goal.at.returns-then-rank-count-clause-place c).After-in_order)

pub returns-then-rank-count-clause-size : goal.returns-then-rank-count-clause-size
returns-then-rank-count-clause-size c = ap (λ (r : Record). r.size)
    (record_is (goal.at.returns-then-rank-count-clause-size c).After-in_order)

pub returns-then-rank-count-clause-low : goal.returns-then-rank-count-clause-low
returns-then-rank-count-clause-low c =
    let at = (goal.at.returns-then-rank-count-clause-low c).After-in_order in
    (records_in_range c.args.table.now c.count.ensures.table).place c.args.rank (record_of (entry at))
    (there at)

pub returns-then-rank-count-clause-small : goal.returns-then-rank-count-clause-small
returns-then-rank-count-clause-small c =
    let at = (goal.at.returns-then-rank-count-clause-small c).After-in_order in
    (records_in_range c.args.table.now c.count.ensures.table).size c.args.rank (record_of (entry at))
    (there at)
