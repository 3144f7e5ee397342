use Rattle.reopen.specs.Records.{SetThrough, rows}
use Rattle.reopen.proofs.records.set_records.Given as goal

abbrev pub invariant-records : goal.invariant-records
invariant-records l = SetThrough (rows l.version l.len l.at l.n) l.text l.i l.initial.last l.last
    l.initial.load l.load
