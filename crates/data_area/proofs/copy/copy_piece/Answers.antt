use Rattle.std.proofs.Common.{length, arith}
use Rattle.disk_face.proofs.WriteLaws.{within-trans, within-unchanged, within-wider, within-write}
use Rattle.data_area.proofs.copy.copy_piece.Goals as goal

pub returns-in_err-read-clause-writes : goal.returns-in_err-read-clause-writes
returns-in_err-read-clause-writes g c = within-unchanged _ _ c.read.ensures.frame

pub returns-clause-writes : goal.returns-clause-writes
returns-clause-writes g c =
    within-trans (within-unchanged c.args.to (length c.args.piece.now) c.read.ensures.frame)
    (within-wider c.args.to (length c.args.piece.now) (omega arith) (omega arith)
    (within-write c.write_at.ensures.frame))
