-- How the frames of two calls join.
use Rattle.std.specs.Prelude.{ℕ, ◌+◌, ◌≤◌, IsTrue, refl}
use Rattle.std.proofs.Common.{arith, ◌∙◌, sym, subst}
use Rattle.disk_face.specs.States.{State}
use Rattle.disk_face.proofs.MomentLaws.{Leaves-none, Leaves-trans, Leaves-weaken}
use Rattle.disk_face.specs.Frames.{Asks, Stays, Unchanged, Untouched}
use Rattle.disk_face.specs.Writes.{KeepsDisk}

pub Stays-trans : {a b c : State} → Stays a b → Stays b c → Stays a c
Stays-trans ab bc = record {
  ready = bc.ready;
  told = bc.told ∙ ab.told;
  images_told = bc.images_told ∙ ab.images_told;
  same_mount = bc.same_mount ∙ ab.same_mount;
}

-- what is asked by one call after another
pub asks_then : {a b c : State} {n m p q most least : ℕ} → Asks n p a b → Asks m q b c → n + m ≤ least
    → p ≤ most → q ≤ most → Asks least most a c
asks_then one more fits low high = record {
  weight = omega (arith, one.weight, more.weight, fits);
  longest = omega (arith, one.longest, more.longest, low, high);
}

-- nothing is asked where no call was made
pub asks_nothing : (a : State) → Asks 0 0 a a
asks_nothing a = record { weight = omega arith; longest = omega arith }

-- one call after another
pub Unchanged-trans : {a b c : State} → Unchanged a b → Unchanged b c → Unchanged a c
Unchanged-trans {a} ab bc = record {
  same_file = λ told. bc.same_file (subst IsTrue (sym ab.stays.told) told) ∙ ab.same_file told;
  images = λ image is. ab.images image (bc.images image is);
  since = Leaves-trans ab.since (Leaves-weaken a.may_leave ab.images bc.since);
  same_turn = bc.same_turn ∙ ab.same_turn;
  later = omega (arith, ab.later, bc.later);
  stays = Stays-trans ab.stays bc.stays;
  asks = asks_then ab.asks bc.asks (omega arith) (omega arith) (omega arith);
}

-- a call on an open file, after one that opened it
pub Untouched-then : {a b c : State} → Untouched a b → Unchanged b c → Untouched a c
Untouched-then {a} ab bc = record {
  same_file = λ told. bc.same_file (subst IsTrue (sym ab.told) told) ∙ ab.same_file told;
  images = λ image is. ab.images image (bc.images image is);
  since = Leaves-trans ab.since (Leaves-weaken a.may_leave ab.images bc.since);
  same_turn = bc.same_turn ∙ ab.same_turn;
  later = omega (arith, ab.later, bc.later);
  told = bc.stays.told ∙ ab.told;
  images_told = bc.stays.images_told ∙ ab.images_told;
}

-- a disk on which no call was made
pub unchanged_itself : (a : State) → IsTrue a.is_ready → Unchanged a a
unchanged_itself a ready = record {
  same_file = λ told. refl;
  images = λ image may. may;
  since = Leaves-none a a.may_leave;
  same_turn = refl;
  later = omega arith;
  stays = record { ready = ready; told = refl; images_told = refl; same_mount = refl };
  asks = asks_nothing a;
}

pub untouched : {a b : State} → Unchanged a b → Untouched a b
untouched same = record {
  same_file = same.same_file;
  images = same.images;
  since = same.since;
  same_turn = same.same_turn;
  later = same.later;
  told = same.stays.told;
  images_told = same.stays.images_told;
}

-- a call that changes nothing keeps the disk
pub keeps_unchanged : {a b : State} → Unchanged a b → KeepsDisk a b
keeps_unchanged same = record { no_turn_back = omega (arith, same.same_turn); stays = same.stays }

-- what is kept by one call after another
pub keeps_then : {a b c : State} → KeepsDisk a b → KeepsDisk b c → KeepsDisk a c
keeps_then one more = record {
  no_turn_back = omega (arith, one.no_turn_back, more.no_turn_back);
  stays = record {
    ready = more.stays.ready;
    told = more.stays.told ∙ one.stays.told;
    images_told = more.stays.images_told ∙ one.stays.images_told;
    same_mount = more.stays.same_mount ∙ one.stays.same_mount;
  };
}
