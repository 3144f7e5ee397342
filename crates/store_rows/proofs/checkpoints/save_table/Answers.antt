use Rattle.std.proofs.Common.{arith, ap, rules, subst, sym, ◌≡◌, ◌≤◌}
use Rattle.std.proofs.lemmas.Grind.{common_steps}
use Rattle.std.proofs.lemmas.List.{length-map}
use Rattle.std.proofs.Math.Nat.{le_trans}
use Rattle.std.specs.FinMap as fin
use Rattle.extent_table.specs.Extents.{records_of, with_digest}
use Rattle.extent_table.proofs.ExtentLaws.{records_of-few}
use Rattle.extent_table.proofs.SaveLaws.{rolled_in_range}
use Rattle.slot_codec.specs.Choice.{InUse}
use Rattle.slot_codec.specs.Spelling.{cap}
use Rattle.store_rows.proofs.checkpoints.save_table.Goals as goal

pub save-requires-clause-save : goal.save-requires-clause-save
save-requires-clause-save g c =
    let found = c.expect-found.result.block.names in
    let names = c.of-pair.result.block.names in
    let v = c.args.header.now.version in
    let few : fin.len c.args.table.now.now ≤ cap found v = grind
    (arith, c.count.ensures.value, c.cap.ensures) in
    let same : cap names v ≡ cap found v = ap (λ (u : InUse). cap u.block.names v) c.of-pair.ensures in
    let fits : fin.len c.args.table.now.now ≤ cap names v = omega (arith, few, same) in
    let now = c.args.table.now in
    let same_count = length-map (records_of now.now) (with_digest now.digests) in
    record {
      fresh = grind (arith, common_steps);
      version = c.is_known.ensures (search rules);
      ranges = c.requires.ranges;
      records = rolled_in_range now c.count.ensures.table;
      count = subst (λ n. n ≤ cap names v) (sym same_count) (le_trans (records_of-few now.now) fits);
    }
