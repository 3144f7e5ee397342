-- The log that stands on a disk, gone through entry by entry.
use Rattle.std.proofs.Common.{◌≡◌, ℕ, ◌+◌, ◌*◌, ◌/◌, ◌≤◌, List, Some, None, IsTrue, refl, sym, ◌∙◌, subst, arith}
use Rattle.std.specs.Prelude.{Ok}
use Rattle.disk_face.specs.Frames.{Unchanged}
use Rattle.disk_face.specs.States.{State}
use Rattle.disk_face.proofs.FrameLaws.{Unchanged-trans, unchanged_itself}
use Rattle.slot_codec.specs.Logs.{Logged, read_log}
use Rattle.slot_codec.specs.declared.codec.Header.{Header}
use Rattle.slot_pair.specs.Finding.{Refuses}
use Rattle.slot_pair.specs.declared.find.SlotFault.{SlotFault}
use Rattle.extent_table.specs.Extents.{Extents}
use Rattle.reopen.specs.Entries.{read_next}
use Rattle.reopen.specs.Logs.{IsMaking, IsPlace, KeepsBase, logged_of}
use Rattle.reopen.proofs.NextLaws.{log_bad, log_end, log_from, log_on, log_whole}

-- a log goes on from a gate, with enough entries left for what it has room for
pub record LogSoFar (cap top at end : ℕ) (file : List ℕ) (x y : Logged) : Type 0 where
  pub left : ℕ
  pub enough : top ≤ end + 512 * left
  pub same : read_log cap top file at x ≡ log_from left cap top file end y

-- Of the log that stands on a disk the entries before a gate were taken.
pub record LogThrough (cap top at end : ℕ) (before now : Header) (old new : Extents) (first later : State)
    : Type 0
  where
    pub place : IsPlace end top
    pub low : at ≤ end
    pub making : IsMaking cap now new
    pub rest : KeepsBase before now old new
    pub read : IsTrue first.tells
        → LogSoFar cap top at end first.file (logged_of before old) (logged_of now new)
    pub frame : Unchanged first later
    pub calm : later.faults ≡ first.faults

pub log_none : (cap top at : ℕ) (header : Header) (load : Extents) (d : State) → IsTrue d.is_ready
    → IsPlace at top → IsMaking cap header load → LogThrough cap top at at header header load load d d
log_none cap top at header load d ready place making = record {
  place = place;
  low = omega arith;
  making = making;
  rest = record {
    version = refl;
    load = record { names = refl; cap = refl; kept = refl; kept_digests = refl };
  };
  read = λ told. record {
    left = top / 512;
    enough = omega (arith, place.top_sector);
    same = log_whole cap top at d.file (logged_of header load);
  };
  frame = unchanged_itself d ready;
  calm = refl;
}

base_on : (a b c : Header) (x y z : Extents) → KeepsBase a b x y → KeepsBase b c y z → KeepsBase a c x z
base_on a b c x y z first second = record {
  version = second.version ∙ first.version;
  load = record {
    names = second.load.names ∙ first.load.names;
    cap = second.load.cap ∙ first.load.cap;
    kept = second.load.kept ∙ first.load.kept;
    kept_digests = second.load.kept_digests ∙ first.load.kept_digests;
  };
}

-- one entry more
pub log_more : (cap top at end next : ℕ) (before now after : Header) (old new last : Extents)
    (first current later : State) → LogThrough cap top at end before now old new first current
    → end + 512 ≤ next → IsPlace next top → IsMaking cap after last → KeepsBase now after new last
    → (IsTrue current.tells → read_next cap top current.file end (logged_of now new)
    ≡ Ok (Some (logged_of after last, next)))
    → Unchanged current later → later.faults ≡ current.faults
    → LogThrough cap top at next before after old last first later
log_more cap top at end next before now after old new last first current later t far place making rest read
    frame
    calm =
    record {
      place = place;
      low = omega (arith, t.low, far);
      making = making;
      rest = base_on before now after old new last t.rest rest;
      read = λ told.
          let told' : IsTrue current.tells = subst IsTrue (sym t.frame.stays.told) told in
          let here = subst (λ file. read_next cap top file end (logged_of now new)
          ≡ Ok (Some (logged_of after last, next))) (t.frame.same_file told) (read told') in
          let was = t.read told in
          let on = log_on was.left cap top end next first.file (logged_of now new) (logged_of after last) here
          t.place.below far place.below was.enough in
          record { left = on.left; enough = on.enough; same = was.same ∙ on.same };
      frame = Unchanged-trans t.frame frame;
      calm = calm ∙ t.calm;
    }

-- the gate at which it ends
pub log_done : (cap top at end : ℕ) (before now : Header) (old new : Extents) (first current : State)
    → LogThrough cap top at end before now old new first current
    → (IsTrue current.tells → read_next cap top current.file end (logged_of now new) ≡ Ok None)
    → IsTrue first.tells
    → read_log cap top first.file at (logged_of before old) ≡ Ok (logged_of now new, end)
log_done cap top at end before now old new first current t read told =
    let told' : IsTrue current.tells = subst IsTrue (sym t.frame.stays.told) told in
    let here = subst (λ file. read_next cap top file end (logged_of now new) ≡ Ok None)
    (t.frame.same_file told) (read told') in
    let was = t.read told in
    was.same ∙ log_end was.left cap top end first.file (logged_of now new) here

-- an entry is refused
pub log_refused : (cap top at end : ℕ) (before now : Header) (old new : Extents) (first current : State)
    (why : SlotFault) → LogThrough cap top at end before now old new first current
    → (IsTrue current.tells → Refuses (read_next cap top current.file end (logged_of now new)) why)
    → IsTrue first.tells → Refuses (read_log cap top first.file at (logged_of before old)) why
log_refused cap top at end before now old new first current why t refused told =
    let told' : IsTrue current.tells = subst IsTrue (sym t.frame.stays.told) told in
    let here = subst (λ file. Refuses (read_next cap top file end (logged_of now new)) why)
    (t.frame.same_file told) (refused told') in
    let was = t.read told in
    subst (λ r. Refuses r why) (sym was.same)
    (log_bad was.left cap top end first.file (logged_of now new) why here)
