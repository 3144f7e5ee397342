-- The class of an object.
use Rattle.std.specs.Prelude.{◌≡◌, ℕ, ◌^◌, ◌<◌, ◌≤◌, []}
use Rattle.std.proofs.Common.{sym, subst}
use Rattle.std.specs.FinMap as fin
use Rattle.size_class.specs.Classes.{class_of}
use Rattle.size_class.specs.declared.TheConstants.{SIZE_MAX}
use Rattle.placement_model.proofs.LaidOutLaws.{class_in_use}

-- the class of each object is among those in use
pub class_low : (classes size class : ℕ) → class ≡ class_of size → SIZE_MAX < 2 ^ classes → 1 ≤ size
    → size ≤ SIZE_MAX → class < classes
class_low classes size class is wide some small = subst (λ c. c < classes) (sym is)
    (class_in_use classes SIZE_MAX 0 [] [] fin.empty wide size some small)
