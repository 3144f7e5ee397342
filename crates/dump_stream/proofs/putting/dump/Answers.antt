use Rattle.dump_stream.proofs.DumpLaws.{loaded_sizes, loaded_within}
use Rattle.dump_stream.proofs.putting.dump.Goals as goal

pub dump_table-requires-clause-small : goal.dump_table-requires-clause-small
dump_table-requires-clause-small g c = loaded_sizes c.args.loaded.now c.requires.loaded

pub dump_table-requires-clause-within : goal.dump_table-requires-clause-within
dump_table-requires-clause-within g c = λ told.
    loaded_within (g.D.Disk.state c.args.disk.now).file c.args.loaded.now c.requires.loaded
    (c.requires.from told).opens
