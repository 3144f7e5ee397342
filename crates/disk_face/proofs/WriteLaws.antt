-- Calls that write within a range alone: one, none, one after another, and a wider range.
use Rattle.std.specs.Prelude.{ℕ, ◌+◌, ◌≤◌, List, IsTrue, refl}
use Rattle.std.proofs.Common.{sym, subst}
use Rattle.byte_ranges.specs.Ranges.{SameOutside}
use Rattle.byte_ranges.proofs.RangeLaws.{SameOutside-refl, SameOutside-trans, SameOutside-wider}
use Rattle.disk_face.specs.States.{State}
use Rattle.disk_face.proofs.MomentLaws.{Leaves-call, Leaves-none, Leaves-trans, Leaves-weaken}
use Rattle.disk_face.specs.Frames.{AfterWrite, Unchanged}
use Rattle.disk_face.proofs.FrameLaws.{Stays-trans}
use Rattle.disk_face.specs.Writes.{IsRewritten, WritesWithin}

-- a write of n bytes at a position
pub within-write : {at n : ℕ} {a b : State} → AfterWrite at n a b → WritesWithin at n a b
within-write {at} {n} {a} w = record {
  others = w.others;
  images = w.images;
  since = Leaves-call (IsRewritten a.may_leave at n) w.time w.images;
  stays = w.stays;
}

-- no call
pub within-none : (at n : ℕ) (a : State) → IsTrue a.is_ready → WritesWithin at n a a
within-none at n a ready = record {
  others = λ told. SameOutside-refl at n a.file;
  images = λ image is. (image, is, SameOutside-refl at n image);
  since = Leaves-none a (IsRewritten a.may_leave at n);
  stays = record { ready = ready; told = refl; images_told = refl; same_mount = refl };
}

-- a range may be widened
pub within-wider : {at n : ℕ} (at' n' : ℕ) {a b : State} → at' ≤ at → at + n ≤ at' + n'
    → WritesWithin at n a b → WritesWithin at' n' a b
within-wider {at} {n} at' n' {a} {b} low high ab = record {
  others = λ told. SameOutside-wider at n at' n' a.file b.file low high (ab.others told);
  images = λ image is. let was = ab.images image is in
      (was.0, was.1, SameOutside-wider at n at' n' was.0 image low high was.2);
  since = Leaves-weaken (IsRewritten a.may_leave at' n')
      (λ image is. (is.0, is.1, SameOutside-wider at n at' n' is.0 image low high is.2)) ab.since;
  stays = ab.stays;
}

-- one after another
pub within-trans : {at n : ℕ} {a b c : State} → WritesWithin at n a b → WritesWithin at n b c
    → WritesWithin at n a c
within-trans {at} {n} {a} {b} {c} ab bc = record {
  others = λ told. SameOutside-trans at n a.file b.file c.file (ab.others told)
      (bc.others (subst IsTrue (sym ab.stays.told) told));
  images = λ image is. joined image (bc.images image is);
  since = Leaves-trans ab.since (Leaves-weaken (IsRewritten a.may_leave at n) joined bc.since);
  stays = Stays-trans ab.stays bc.stays;
}
  where
    joined : (image : List ℕ) → IsRewritten b.may_leave at n image → IsRewritten a.may_leave at n image
    joined image is = let was = ab.images is.0 is.1 in
        (was.0, was.1, SameOutside-trans at n was.0 is.0 image was.2 is.2)

-- a call that changes nothing
pub within-unchanged : (at n : ℕ) {a b : State} → Unchanged a b → WritesWithin at n a b
within-unchanged at n {a} u = record {
  others = λ told. subst (λ x. SameOutside at n a.file x) (sym (u.same_file told))
      (SameOutside-refl at n a.file);
  images = λ image is. (image, u.images image is, SameOutside-refl at n image);
  since = Leaves-weaken (IsRewritten a.may_leave at n) (λ image is. (image, is, SameOutside-refl at n image))
      u.since;
  stays = u.stays;
}
