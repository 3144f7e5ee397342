use Rattle.std.proofs.Common.{ap, arith, subst, sym}
use Rattle.slot_codec.specs.Readable.{IsSuperBlock}
use Rattle.slot_pair.specs.Formats.{block_for}
use Rattle.store_model.specs.declared.answers.Facts.{Facts}
use Rattle.lent_store.proofs.RoomLaws.{low_volume, narrow}
use Rattle.lent_store.proofs.store.LentStore.is_short.Goals as goal

pub overflow_add-after : goal.overflow_add-after
overflow_add-after c =
    omega (
      arith,
      low_volume c.args.self.now.store c.requires.sound,
      ap (λ (f : Facts). f.bytes) c.facts-facts.ensures,
      c.saturating_sub.ensures,
      c.requires.small,
    )

pub room_need-requires-clause-ranges : goal.room_need-requires-clause-ranges
room_need-requires-clause-ranges c =
    subst (λ (f : Facts). IsSuperBlock (block_for f.k f.names)) (sym c.facts-facts.ensures) c.requires.sound.block

pub room_need-requires-clause-volume : goal.room_need-requires-clause-volume
room_need-requires-clause-volume c =
    omega (
      arith,
      low_volume c.args.self.now.store c.requires.sound,
      ap (λ (f : Facts). f.bytes) c.facts-facts.ensures,
      c.saturating_sub.ensures,
      c.max-volume.ensures,
      c.requires.small,
    )

pub room_need-requires-clause-largest : goal.room_need-requires-clause-largest
room_need-requires-clause-largest c =
    omega (
      arith,
      narrow c.args.self.now.store c.requires.sound,
      ap (λ (f : Facts). f.widest) c.facts-facts.ensures,
      c.width_of.ensures.bound,
      c.max-largest.ensures,
    )
