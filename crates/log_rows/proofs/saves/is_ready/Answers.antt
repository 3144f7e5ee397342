use Rattle.std.proofs.Common.{◌≡◌, ◌≤◌, ◌∙◌, ap, arith, length, rules, subst, sym}
use Rattle.std.proofs.lemmas.Bool.{ltb-true}
use Rattle.std.proofs.lemmas.Grind.{common_steps}
use Rattle.std.proofs.lemmas.List.{length-map}
use Rattle.std.specs.FinMap as fin
use Rattle.slot_codec.specs.Spelling.{cap}
use Rattle.slot_codec.specs.declared.codec.Record.{Record}
use Rattle.slot_codec.specs.declared.codec.SuperBlock.{SuperBlock}
use Rattle.extent_table.specs.Deltas.{kept_rolled}
use Rattle.extent_table.specs.Extents.{records_of, with_digest}
use Rattle.extent_table.specs.Fitting.{kept_rolled-rise}
use Rattle.extent_table.proofs.DeltaLaws.{kept_rolled-is}
use Rattle.extent_table.proofs.ExtentLaws.{records_of-few}
use Rattle.extent_table.proofs.SaveLaws.{rolled_in_range}
use Rattle.log_rows.proofs.saves.is_ready.Goals as goal

pub returns : goal.returns
returns c = λ low.
    let now = c.args.table.now in
    let names : cap c.block.result.names 3 ≡ cap c.args.pair.now.in_use.block.names 3 =
    ap (λ (b : SuperBlock). cap b.names 3) c.block.ensures in
    let live : fin.len now.now ≤ cap c.args.pair.now.in_use.block.names 3 = grind (arith, common_steps, names) in
    let kept : fin.len now.kept ≤ cap c.args.pair.now.in_use.block.names 3 = grind (arith, common_steps, names) in
    let same_live = length-map (records_of now.now) (with_digest now.digests) in
    let same_kept = length-map (records_of now.kept) (with_digest now.kept_digests) in
    let is : length (kept_rolled now) ≡ length (records_of now.kept) =
    ap (λ (rs : _). length rs) (kept_rolled-is now c.count.ensures.table) ∙ same_kept in
    record {
      fresh = grind (arith, common_steps, low);
      version = grind (arith, common_steps);
      ranges = c.requires;
      records = rolled_in_range now c.count.ensures.table;
      count = omega (arith, same_live, records_of-few now.now, live);
      roll = kept_rolled-rise now;
      room = omega (arith, is, records_of-few now.kept, kept);
      few = grind (arith, common_steps);
    }
