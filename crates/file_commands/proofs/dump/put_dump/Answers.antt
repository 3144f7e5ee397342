use Rattle.reopen.specs.Loads.{unboxed}
use Rattle.file_commands.proofs.DumpedLaws.{dumps_all, dumps_front, dumps_until_disk, dumps_until_sink}
use Rattle.file_commands.proofs.dump.put_dump.Goals as goal

pub returns-in-Ok-clause-dumps : goal.returns-in-Ok-clause-dumps
returns-in-Ok-clause-dumps g c = λ told.
    dumps_all (g.D.Disk.state c.args.disk.now).file (unboxed c.args.loaded.now) (c.requires.from told)
    (g.O.Sink.state c.args.output.now) (g.O.Sink.state c.dump_boxed.new.output) tt
    (c.in-Ok.ensures.puts told)

pub returns-in-Err-Damaged-clause-dumps : goal.returns-in-Err-Damaged-clause-dumps
returns-in-Err-Damaged-clause-dumps g c = λ told.
    dumps_front (g.D.Disk.state c.args.disk.now).file (unboxed c.args.loaded.now) (c.requires.from told)
    (g.O.Sink.state c.args.output.now) (g.O.Sink.state c.dump_boxed.new.output)
    (rw c.in-Err-Damaged.field-0-is at c.in-Err-Damaged.ensures.puts told)

pub returns-in-Err-Disk-clause-dumps : goal.returns-in-Err-Disk-clause-dumps
returns-in-Err-Disk-clause-dumps g c = λ told.
    dumps_until_disk (g.D.Disk.state c.args.disk.now).file (unboxed c.args.loaded.now) (c.requires.from told)
    (g.O.Sink.state c.args.output.now) (g.O.Sink.state c.dump_boxed.new.output)
    (rw c.in-Err-Disk.field-0-is at c.in-Err-Disk.ensures.puts told)

pub returns-in-Err-Sink-clause-dumps : goal.returns-in-Err-Sink-clause-dumps
returns-in-Err-Sink-clause-dumps g c = λ told.
    dumps_until_sink (g.D.Disk.state c.args.disk.now).file (unboxed c.args.loaded.now) (c.requires.from told)
    (g.O.Sink.state c.args.output.now) (g.O.Sink.state c.dump_boxed.new.output)
    (rw c.in-Err-Sink.field-0-is at c.in-Err-Sink.ensures.puts told)
