use Rattle.std.proofs.Common.{◌≡◌, sym, subst, arith}
use Rattle.std.proofs.lemmas.Grind.{common_steps}
use Rattle.disk_face.proofs.ImageLaws.{image_synced}
use Rattle.disk_face.specs.Moments.{Only}
use Rattle.disk_mem.specs.Entries.{newest_first}
use Rattle.disk_history.specs.Histories.{History, MayLeave, fresh}
use Rattle.disk_mem.proofs.Records.{newest_first_none}
use Rattle.disk_mem.proofs.disk.MemDisk.from_bytes.Goals as goal

pub returns-clause-rests : goal.returns-clause-rests
returns-clause-rests c =
    let bytes = c.args.bytes.now in
    let new : History = record {
      base = c.in-Ok-Ok.base.items;
      calls = newest_first c.new.result.items;
      turn = 0;
      faults = 0;
    } in
    let e : new ≡ fresh bytes = grind (arith, common_steps, newest_first_none) in
    subst (λ (disk : History). Only bytes (MayLeave disk)) (sym e) (λ image is. image_synced bytes image is)
