-- What a quiet change does to the disk and to what a crash may leave.
use Rattle.std.specs.Prelude.{◌≡◌, ℕ, ◌+◌, ◌<◌, ◌≤◌, ◌^◌, Result, Ok, Err, IsTrue, OnOk, refl}
use Rattle.std.proofs.Common.{arith, subst}
use Rattle.disk_face.specs.States as disk
use Rattle.disk_face.specs.Counts.{last}
use Rattle.disk_face.specs.Frames.{Calls}
use Rattle.disk_face.proofs.MomentLaws.{Leaves-none}
use Rattle.disk_face.specs.Writes.{WritesWithin}
use Rattle.segment_layout.specs.Shapes.{end_of}
use Rattle.map_model.specs.Requests.{Change}
use Rattle.placement_model.specs.Reads.{AllLieApart}
use Rattle.store_model.specs.declared.answers.Refusal.{Refusal}
use Rattle.store_model.specs.declared.answers.Done.{Done}
use Rattle.store_model.specs.Connection.{IsKeptImage, IsOver, StoreValue, base_of}
use Rattle.store_model.specs.Changes.{ChangesQuietly, IsQuietChange}
use Rattle.store_model.specs.Quiet.{quiet_calls}
use Rattle.store_model.specs.Stores.{IsStore}
use Rattle.store_model.proofs.EndLaws.{end_low}
use Rattle.store_model.proofs.OverLaws.{kept_image, left_kept, rests_again, same_itself, same_written}

-- as many calls, with another answer of the same kind
pub calls_ok : {A B E F : Type 0} {n : ℕ} {a d : disk.State} (x : A) (y : B)
    → Calls {E = E} n a d (Ok x) → Calls {E = F} n a d (Ok y)
calls_ok x y c = record {
  all = c.all;
  most = c.most;
  cause = record { later = c.cause.later; rose = tt; calm = c.cause.calm };
}

pub calls_err : {A B E F : Type 0} {n : ℕ} {a d : disk.State} (x : E) (y : F)
    → Calls {T = A} n a d (Err x) → Calls {T = B} n a d (Err y)
calls_err x y c = record {
  all = tt;
  most = c.most;
  cause = record { later = c.cause.later; rose = c.cause.rose; calm = tt };
}

-- A write apart from the checkpoint's objects, and what becomes of the store.
pub quiet_effects : {classes : ℕ} (c : Change) (s new : StoreValue) (a d : disk.State)
    (result : Result Done Refusal) (base place n : ℕ) → IsStore classes s → base ≡ base_of s
    → (IsTrue a.tells → IsOver classes s a.file) → AllLieApart place n s.kept
    → WritesWithin (base + place) n a d → Calls (quiet_calls c) a d result
    → OnOk result (ChangesQuietly classes c s new) → IsQuietChange classes c s new a d result
quiet_effects {classes} c s new a d result base place n h at over apart within calls value =
    let writes = subst (λ (b : ℕ). WritesWithin (b + place) n a d) at within in
    let image : IsTrue a.tells → IsKeptImage classes s a.file d.file = λ told.
    kept_image s h a.file (over told) d.file
    (same_written (base_of s) place n s.kept a.file d.file (writes.others told) apart) in
    record {
      value = value;
      content = λ told. (image told).opens;
      length = λ told. (image told).same.same_length;
      sequence = λ told. (image told).sequence;
      rests = λ told rests. rests_again s h a.file (over told) place n refl apart writes told rests;
      left = λ told rests. left_kept s h a.file (over told) place n refl apart writes rests;
      calls = calls;
      frame = record { no_turn_back = writes.since.later; stays = writes.stays };
    }

-- positions of the file are small numbers
pub position_fits : {classes : ℕ} (s : StoreValue) (base place n : ℕ) → IsStore classes s → base ≡ base_of s
    → place + n ≤ end_of s.in_use.block.k s.book.caps → base + place + n < 2 ^ 63
position_fits s base place n h at low = omega (arith, at, low, end_low s h, h.block.names_high)

-- No call on the disk.
pub no_effects : {classes : ℕ} (c : Change) (s new : StoreValue) (a : disk.State) (answer : Done)
    → IsStore classes s
    → (IsTrue a.tells → IsOver classes s a.file) → IsTrue a.is_ready → a.turn ≤ last → quiet_calls c ≡ 0
    → ChangesQuietly classes c s new → IsQuietChange classes c s new a a (Ok answer)
no_effects {classes} c s new a answer h over ready fits none value = record {
  value = value;
  content = λ told. (kept_image s h a.file (over told) a.file (same_itself (base_of s) s.kept a.file)).opens;
  length = λ told. refl;
  sequence = λ told.
      (kept_image s h a.file (over told) a.file (same_itself (base_of s) s.kept a.file)).sequence;
  rests = λ told rests. rests;
  left = λ told rests. Leaves-none a (IsKeptImage classes s a.file);
  calls = record {
    all = omega (arith, none, fits);
    most = omega (arith, none, fits);
    cause = record { later = omega arith; rose = tt; calm = refl };
  };
  frame = record {
    no_turn_back = omega arith;
    stays = record { ready = ready; told = refl; images_told = refl; same_mount = refl };
  };
}
