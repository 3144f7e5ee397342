-- A disk in memory that keeps no record, as a value.
use Rattle.std.specs.Prelude.{ℕ, List, true, false, None, min}
use Rattle.disk_face.specs.Counts.{counted, last}
use Rattle.disk_face.specs.States.{State}

-- what reads give, the greatest length, the changing calls so far, and those that failed
pub record Plain : Type 0 where
  pub content : List ℕ
  pub room : ℕ
  pub turn : ℕ
  pub faults : ℕ

-- after a changing call that left this content
abbrev pub plain_after : List ℕ → Plain → Plain
plain_after content d = record d { content = content; turn = counted d.turn 1 }

-- after a change of the length that was above the room
abbrev pub plain_failed : Plain → Plain
plain_failed d = record d { turn = counted d.turn 1; faults = counted d.faults 1 }

-- it tells no images
abbrev pub no_image : List ℕ → Type 0
no_image image = ⊥

-- as a disk: it tells its content, and no images
abbrev pub plain_state : Plain → State
plain_state d =
    record {
      tells = true;
      file = d.content;
      tells_images = false;
      may_leave = no_image;
      left_since = λ _. no_image;
      turn = min d.turn last;
      faults = d.faults;
      weight = 0;
      longest = 0;
      is_ready = true;
      last_mount = None;
    }
