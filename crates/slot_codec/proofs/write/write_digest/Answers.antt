use Rattle.std.proofs.Common.{◌+◌, ◌≤◌, length, arith, sym, ◌∙◌}
use Rattle.std.proofs.lemmas.List.{take_all}
use Rattle.slot_codec.proofs.write.write_digest.Goals as goal

pub returns : goal.returns
returns c =
    let whole : length c.put.new.out ≤ 80 + length c.args.digest.now = omega arith in
    sym (take_all _ c.put.new.out whole) ∙ c.put.ensures.part
