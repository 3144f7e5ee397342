-- A flush in hand that is settled by all of its steps.
use Rattle.std.specs.Prelude.{◌≡◌, ℕ, false, Option, Some, None, Result, Ok, Err, IsTrue, refl}
use Rattle.std.proofs.Common.{arith, sym, ◌∙◌, subst, inl}
use Rattle.disk_face.specs.Counts.{Rose}
use Rattle.disk_face.specs.States as disk
use Rattle.disk_face.specs.Writes.{KeepsDisk}
use Rattle.disk_face.proofs.FrameLaws.{Stays-trans, unchanged_itself}
use Rattle.disk_face.proofs.MomentLaws.{Leaves-trans}
use Rattle.store_model.specs.declared.answers.Progress.{Progress}
use Rattle.store_model.specs.declared.answers.Progress.TheVariants as progress
use Rattle.store_model.specs.Connection.{StoreValue}
use Rattle.store_model.specs.Halves.{IsHalfway}
use Rattle.ask_text.specs.declared.ends.End.{End}
use Rattle.ask_text.specs.declared.ends.End.TheVariants as ends
use Rattle.desk_model.specs.Desks.{Desk, Flush}
use Rattle.desk_core.specs.Images.{LeavesEnd, LeavesFrom, kept_of, settled_of}
use Rattle.desk_core.specs.Playing.{SettlesFlush, StepsFlush}
use Rattle.desk_core.specs.Shows.{ShowsFlush, ShowsStore}
use Rattle.desk_core.proofs.ImageLaws.{leaves_as, leaves_same}

-- Some steps were made, and a flush is in hand still: of the desk only the steps that are left are others.
pub record IsSettling (classes session : ℕ) (s0 s : StoreValue) (a0 a : disk.State) : Type 0 where
  pub first : IsHalfway classes s0 a0
  pub half : IsHalfway classes s a
  pub whole : s.is_broken ≡ false
  pub ready : IsTrue a.is_ready
  pub block : s.in_use.block ≡ s0.in_use.block
  pub frame : KeepsDisk a0 a
  pub calm : a.faults ≡ a0.faults
  pub shows : IsTrue a0.tells → (d : Desk) (f : Flush) → d.hand ≡ Some f → ShowsStore s0 session a0.file d
      → (n : ℕ) × ShowsStore s session a.file (record d { hand = Some (record f { left = n }) })
  pub images : IsTrue a0.tells → (d : Desk) → ShowsStore s0 session a0.file d
      → LeavesEnd {T = Unit {0}} classes s0 s a0 a d (Ok tt)

pub settling_begins : {C : ℕ} (session : ℕ) (s : StoreValue) (a : disk.State) → IsHalfway C s a
    → s.is_broken ≡ false → IsTrue a.is_ready → IsSettling C session s s a a
settling_begins session s a half whole ready = record {
  first = half;
  half = half;
  whole = whole;
  ready = ready;
  block = refl;
  frame = record { no_turn_back = omega arith; stays = (unchanged_itself a ready).stays };
  calm = refl;
  shows = λ told d f is shown.
      (f.left, subst (λ (o : Option Flush). ShowsStore s session a.file (record d { hand = o })) is shown);
  images = λ told d shown k rests. leaves_same {T = Unit {0}} s s session a a d (kept_of d.state) (Ok tt)
      shown refl refl k rests;
}

module _ {C : ℕ} (session : ℕ) (s0 s t : StoreValue) (a0 a d : disk.State)
    (g : IsSettling C session s0 s a0 a) where
  told_now : IsTrue a0.tells → IsTrue a.tells
  told_now told = subst IsTrue (sym g.frame.stays.told) told

  frame_now : KeepsDisk a d → KeepsDisk a0 d
  frame_now frame = record {
    no_turn_back = omega (arith, g.frame.no_turn_back, frame.no_turn_back);
    stays = Stays-trans g.frame.stays frame.stays;
  }

  -- what was left before and in one step more
  step_leaves : (result : Result Progress End) → StepsFlush C session s t a d result → IsTrue a0.tells
      → (desk : Desk) → ShowsStore s0 session a0.file desk → LeavesEnd C s0 t a0 d desk result
  step_leaves result x told desk shown k rests =
      let h = shown.held g.first.hand g.first.is in
      let y = g.shows told desk h.0 h.1 shown in
      let next = record desk { hand = Some (record h.0 { left = y.0 }) } in
      let was = g.images told desk shown k rests in
      let one : LeavesFrom C t a d (settled_of k desk) (kept_of desk.state) result =
      x.images (told_now told) next y.1 (settled_of k desk) (was.rests refl) in
      record { left = Leaves-trans was.left one.left; rests = one.rests }

  pub settling_moves : StepsFlush C session s t a d (Ok progress.Moved) → IsSettling C session s0 t a0 d
  settling_moves x = record {
    first = g.first;
    half = x.over;
    whole = x.broken;
    ready = x.frame.stays.ready;
    block = x.block refl ∙ g.block;
    frame = frame_now x.frame;
    calm = x.cause.calm (λ is. absurd (cc)) ∙ g.calm;
    shows = λ told desk f is shown.
        let y = g.shows told desk f is shown in
        let f1 = record f { left = y.0 } in
        let d1 = record desk { hand = Some f1 } in
        let z = x.steps (told_now told) d1 f1 refl y.1 in
        let m = z.1 in
        (m.0, subst (λ (k : Desk). ShowsStore t session d.file k) m.3 z.2);
    images = λ told desk shown k rests. leaves_as t a0 d (settled_of k desk) (kept_of desk.state)
        (Ok progress.Moved) (Ok tt) (λ is. refl) (step_leaves (Ok progress.Moved) x told desk shown k rests);
  }

  pub settling_ends : StepsFlush C session s t a d (Ok progress.Settled)
      → SettlesFlush C session s0 t a0 d (Ok tt)
  settling_ends x = record {
    settles = λ told desk f is shown.
        let y = g.shows told desk f is shown in
        let f1 = record f { left = y.0 } in
        let d1 = record desk { hand = Some f1 } in
        let z = x.steps (told_now told) d1 f1 refl y.1 in
        (z.0, (z.1.0, z.1.1, z.1.2, z.1.3), λ calm. z.2);
    images = λ told desk shown k rests. leaves_as t a0 d (settled_of k desk) (kept_of desk.state)
        (Ok progress.Settled) (Ok tt) (λ is. refl)
        (step_leaves (Ok progress.Settled) x told desk shown k rests);
    readable = inl x.over;
    broken = x.broken;
    block = λ calm. x.block refl ∙ g.block;
    frame = frame_now x.frame;
    only = tt;
    cause = record {
      later = omega (arith, x.cause.later, g.calm);
      rose = λ is. absurd (cc);
      calm = λ other. x.cause.calm (λ is. absurd (cc)) ∙ g.calm;
    };
  }

  pub settling_stops : StepsFlush C session s t a d (Err ends.Disk)
      → SettlesFlush C session s0 t a0 d (Err ends.Disk)
  settling_stops x = record {
    settles = λ told desk f is shown.
        let k = shown.held g.first.hand g.first.is in
        let same : k.0 ≡ f = (let e : Some k.0 ≡ Some f = sym k.1 ∙ is in cc) in
        let y : ShowsFlush s0 session a0.file g.first.hand desk.state f =
        subst (λ (z : Flush). ShowsFlush s0 session a0.file g.first.hand desk.state z) same k.2 in (
          record desk { state = record desk.state { sequence = f.least }; hand = None },
          (f.least, omega arith, omega (arith, y.least, y.most), refl),
          λ calm. absurd (cc),
        );
    images = λ told desk shown k rests. leaves_as t a0 d (settled_of k desk) (kept_of desk.state)
        (Err ends.Disk) (Err ends.Disk) (λ is. is)
        (step_leaves (Err ends.Disk) x told desk shown k rests);
    readable = inl x.over;
    broken = x.broken;
    block = λ calm. absurd (cc);
    frame = frame_now x.frame;
    only = refl;
    cause = record {
      later = omega (arith, x.cause.later, g.calm);
      rose = λ is. subst (λ (n : ℕ). Rose n d.faults) g.calm (x.cause.rose refl);
      calm = λ other. absurd (other refl);
    };
  }
