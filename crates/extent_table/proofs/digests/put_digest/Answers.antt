use Rattle.std.proofs.Common.{arith}
use Rattle.extent_table.proofs.DigestLemmas.{list_put}
use Rattle.extent_table.proofs.digests.put_digest.Goals as goal

pub put-requires-clause-key : goal.put-requires-clause-key
put-requires-clause-key c = c.entry_room.ensures.keys c.args.key c.requires.entry

pub put-requires-clause-room : goal.put-requires-clause-room
put-requires-clause-room c = omega (arith, c.entry_room.ensures.value, c.requires.list.room)

pub put-requires-clause-short : goal.put-requires-clause-short
put-requires-clause-short c = omega (arith, c.entry_room.ensures.value, c.requires.list.short)

pub returns-clause-list : goal.returns-clause-list
returns-clause-list c =
    list_put c.requires.list c.put.ensures.capacity
    (omega (arith, c.entry_room.ensures.value, c.put.ensures.short)) c.put.ensures.long c.put.ensures.here
    c.put.ensures.others
