use Rattle.std.proofs.Common.{◌*◌, ap, arith}
use Rattle.slot_codec.proofs.CapLaws.{records_fit}
use Rattle.plain_layout.proofs.opened.records_of.Goals as goal
use Rattle.slot_codec.proofs.ChoiceLaws.{slot_low}

-- the records lie within the slot's bytes for them
pub overflow_mul-len : goal.overflow_mul-len
overflow_mul-len g c =
    let names = c.args.found.now.block.names in
    let h = c.args.header.now in
    omega (
      arith,
      records_fit names h.version h.count c.requires.count,
      ap (λ l. l * h.count) c.record_len-len.ensures.value,
      c.requires.block.names_high,
    )

pub read-requires-clause-within : goal.read-requires-clause-within
read-requires-clause-within g c = λ told.
    let names = c.args.found.now.block.names in
    let h = c.args.header.now in
    omega (
      arith,
      records_fit names h.version h.count c.requires.count,
      ap (λ l. l * h.count) c.record_len-len.ensures.value,
      slot_low names c.args.found.now.slot c.requires.slot,
      c.slot_at.ensures,
      c.requires.long,
      c.deref_mut.ensures.len,
      c.in-Ok.ensures.len,
    )
