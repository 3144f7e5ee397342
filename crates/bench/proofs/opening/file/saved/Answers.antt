use Rattle.std.proofs.Common.{◌≡◌, ◌≤◌, length, ap, arith, refl, subst, sym}
use Rattle.std.proofs.lemmas.Grind.{common_steps}
use Rattle.std.proofs.lemmas.List.{length-map}
use Rattle.extent_table.proofs.ExtentLaws.{records_of-few}
use Rattle.extent_table.specs.Extents.{records_of, rolled, with_digest}
use Rattle.slot_codec.specs.Choice.{InUse}
use Rattle.slot_codec.specs.Spelling.{cap}
use Rattle.bench.proofs.opening.file.saved.Goals as goal

pub save-requires-clause-save : goal.save-requires-clause-save
save-requires-clause-save g c =
    let version = c.args.header.now.version in
    let one : version ≡ 1 = omega (arith, c.if-header-ne1.false) in
    let now = c.args.table.now in
    let fits : length (rolled now.now now.digests) ≤ cap c.of-pair.result.block.names 1 =
    omega (
      arith,
      length-map (records_of now.now) (with_digest now.digests),
      records_of-few now.now,
      c.count.ensures.value,
      c.if-cap-count.false,
      c.cap.ensures,
      ap (λ (u : InUse). cap u.block.names 1) c.of-pair.ensures,
    ) in
    record {
      fresh = grind (arith, common_steps);
      version = rw one refl;
      ranges = c.requires.ranges;
      records = c.a_table_can_be_saved.ensures.ranges now c.count.ensures.table;
      count = subst (λ n. length (rolled now.now now.digests) ≤ cap c.of-pair.result.block.names n) (sym one)
          fits;
    }
