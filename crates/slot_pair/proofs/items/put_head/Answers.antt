use Rattle.std.proofs.Common.{arith, sym}
use Rattle.std.proofs.lemmas.List.{length-take-le}
use Rattle.slot_pair.proofs.items.put_head.Goals as goal

pub slice_bounds-write_entry_head-end-2 : goal.slice_bounds-write_entry_head-end-2
slice_bounds-write_entry_head-end-2 c = sym (length-take-le 55 c.args.out.now (omega (arith, c.requires)))

pub write_entry_head-requires : goal.write_entry_head-requires
write_entry_head-requires c = length-take-le 55 c.args.out.now (omega (arith, c.requires))
