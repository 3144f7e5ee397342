-- The states of a disk in memory that keeps no record are lawful. The law stands here, and not beside the
-- others in proofs, since what an impl says of its ghost members may name specs alone.
use Rattle.std.proofs.Common.{arith}
use Rattle.std.proofs.lemmas.Bool.{false≢true}
use Rattle.std.specs.Prelude.{refl}
use Rattle.disk_face.specs.States.{IsLawful}
use Rattle.disk_mem.specs.Plain.{Plain, plain_state}

pub plain_lawful : (d : Plain) → IsLawful (plain_state d)
plain_lawful d = record {
  has_content = λ told. absurd (false≢true told);
  both_told = λ _. refl;
  counts_now = λ t image t_le is. is;
  only_now = λ image below since. since;
  turn_fits = omega arith;
}
