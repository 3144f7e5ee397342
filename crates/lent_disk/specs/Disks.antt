-- A file in memory as a disk. It tells its content, and what a crash may leave of a file on which its calls
-- are made. No mount opened it: what its last mount is called says how many bytes file and log may have, and
-- of its history where the log starts, since these stay over each call.
use Rattle.std.specs.Prelude.{ℕ, Some, true, false, min, List, ◌∷◌}
use Rattle.disk_face.specs.Counts.{last}
use Rattle.disk_face.specs.declared.bay.Mounted.TheVariants.{There}
use Rattle.disk_face.specs.States.{IsLawful, State}
use Rattle.disk_history.specs.Histories.{LeftSince, MayLeave}
use Rattle.disk_history.specs.Lawful.{history_lawful}
use Rattle.lent_disk.specs.Calls.{longest_in, weight_in}
use Rattle.lent_disk.specs.Notings.{Noting, content}
use Rattle.lent_disk.specs.Words.{word_of}

-- what stays over each call
abbrev pub word_in : Noting → List ℕ
word_in n = n.room ∷ n.log_room ∷ word_of n.start

abbrev pub lent_state : Noting → State
lent_state n =
    record {
      tells = true;
      file = content n;
      tells_images = true;
      may_leave = MayLeave n.history;
      left_since = LeftSince n.history;
      turn = min n.history.turn last;
      faults = n.history.faults;
      weight = weight_in n.asked;
      longest = longest_in n.asked;
      is_ready = true;
      last_mount = Some (record { name = word_in n; make = false; answer = There });
    }

abbrev pub image_lawful : (n : Noting) → IsLawful (lent_state n)
image_lawful n = record {
  has_content = (history_lawful n.history).has_content;
  both_told = (history_lawful n.history).both_told;
  counts_now = (history_lawful n.history).counts_now;
  only_now = (history_lawful n.history).only_now;
  turn_fits = (history_lawful n.history).turn_fits;
}
