-- The log of a call has the calls of that call.
use Rattle.std.proofs.Common.{◌≡◌, ◌∙◌, ap, subst, sym, List, ℕ, []}
use Rattle.std.specs.Prelude.{◌<◌, Option, Some, None}
use Rattle.disk_face.specs.Mounts.{Mount}
use Rattle.disk_history.specs.Histories.{EndedBy, History}
use Rattle.lent_disk.specs.Disks.{lent_state}
use Rattle.lent_disk.specs.Notings.{IsLog, LacksSpace, Noting, emptied}
use Rattle.lent_disk.proofs.WordLaws.{same_words}
use Rattle.store_model.specs.Connection.{StoreValue}
use Rattle.lent_store.specs.Embedded.{Embedded}
use Rattle.lent_store.specs.Noted.{IsNoted}

abbrev pub name_in : Option Mount → List ℕ
name_in None = []
name_in (Some mount) = mount.name

-- where the start stays over a call
pub noted_since : (before new : Noting) → (lent_state new).last_mount ≡ (lent_state before).last_mount
    → IsLog new.start new.history new.text → IsLog before.start new.history new.text
noted_since before new same log =
    subst (λ (start : History). IsLog start new.history new.text)
    (same_words new before (ap name_in same)).0 log

-- of a call that began by emptying the log of what was seen
pub noted_call : {e seen : Embedded} {before : Noting} (s : StoreValue) (new : Noting) → seen ≡ e
    → before ≡ emptied seen.noting → (lent_state new).last_mount ≡ (lent_state before).last_mount
    → IsLog new.start new.history new.text → EndedBy new.history.turn new.history.calls
    → (new.start.faults < new.history.faults → LacksSpace new)
    → IsNoted e (record { store = s; noting = new })
noted_call {e} {seen} {before} s new is began same log ended cause =
    let start : new.start ≡ e.noting.history = (same_words new before (ap name_in same)).0
    ∙ ap (λ (n : Noting). n.start) began ∙ ap (λ (x : Embedded). x.noting.history) is in
    record {
      log = subst (λ (h : History). IsLog h new.history new.text) start log;
      ended = ended;
      cause = λ more. cause (subst (λ (h : History). h.faults < new.history.faults) (sym start) more);
    }
