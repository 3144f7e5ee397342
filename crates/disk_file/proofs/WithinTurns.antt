-- What lawful states leave of a sync that ends no turn: what a crash might have left at a turn it may still
-- leave at the end of it. So a system that tells images has none fewer after such a sync, nor after a mount.
use Rattle.std.proofs.Common.{◌≡◌, ◌<◌, ℕ, List, IsTrue, arith, subst, sym}
use Rattle.disk_face.specs.Counts.{last}
use Rattle.disk_face.specs.Frames.{AfterMount}
use Rattle.disk_face.specs.Moments.{Elapses, NoMore, Only}
use Rattle.disk_face.specs.States.{IsLawful, State}
use Rattle.disk_file.specs.Parts.{EndsCall, SyncsPart, WritesPart}

-- within one turn no image goes
pub none_goes : (old new : State) (P : List ℕ → Type 0) → IsLawful old → IsLawful new → Elapses old new P
    → new.turn ≡ old.turn → old.turn < last → NoMore new.may_leave old.may_leave
none_goes old new P before now time same below image may =
    now.only_now image (omega (arith, below, same))
    (subst (λ (t : ℕ). new.left_since t image) (sym same)
    (time.keeps old.turn image (omega arith) (before.counts_now old.turn image (omega arith) may)))

-- so a mount takes none away, of any bay
pub mount-keeps_images : (old new : State) → IsLawful old → IsLawful new → AfterMount old new
    → old.turn < last → NoMore new.may_leave old.may_leave
mount-keeps_images old new before now mount below =
    none_goes old new new.may_leave before now mount.time mount.same_turn below

-- and a system that tells images syncs only what is the same as before the last write
pub sync-changed_nothing : (first written ended synced : State) (at n : ℕ) → IsLawful first → IsLawful ended
    → IsLawful synced → IsTrue first.tells_images → WritesPart at n first written → EndsCall written ended
    → SyncsPart ended synced → Only ended.file synced.may_leave → ended.turn < last
    → first.file ≡ ended.file
sync-changed_nothing first written ended synced at n begun lawful then told writes ends syncs rests below =
    rests first.file (none_goes ended synced ended.may_leave lawful then syncs.time syncs.same_turn below
    first.file (ends.grows first.file (writes.grows first.file (begun.has_content told))))
