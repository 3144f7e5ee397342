-- A file that isn't served ends a command as its refusal says.
use Rattle.std.specs.Prelude.{◌≡◌, ℕ, List, [], None, Result, Ok, Err, IsTrue, refl}
use Rattle.std.proofs.Common.{arith, ap, sym, ◌∙◌, subst, inl, inr}
use Rattle.size_class.specs.declared.TheConstants.{CLASSES, SIZE_MAX}
use Rattle.slot_codec.specs.Choice as choice
use Rattle.slot_pair.specs.declared.find.SlotFault.TheVariants as slot
use Rattle.map_model.specs.Maps.{Map}
use Rattle.segment_layout.specs.Books.{Book}
use Rattle.table_rules.specs.Opening.{OpensBy}
use Rattle.reopen.specs.Refusals.{RefusesToOpen}
use Rattle.reopen.specs.declared.fault.OpenFault.{OpenFault}
use Rattle.reopen.specs.declared.fault.OpenFault.TheVariants as opening
use Rattle.disk_face.specs.States.{State}
use Rattle.disk_face.specs.Frames.{AfterMount, Unchanged}
use Rattle.store_model.specs.States as store_state
use Rattle.store_model.specs.Connection.{StoreValue}
use Rattle.store_model.specs.Opened.{IsOpening, RefusesUnchanged}
use Rattle.command_face.specs.declared.status.TheConstants.{NO_STORE}
use Rattle.command_face.specs.Outcomes.{EndsBy, status_of}
use Rattle.command_face.specs.Refusing.{IsRefused, stop_of}
use Rattle.command_face.specs.declared.stop.StopReason.{StopReason}
use Rattle.command_face.proofs.UnopenedLaws.{opens_or_not}
use Rattle.served_file.specs.Unserved.{NeverServed}

-- opening it failed for want of a device or of memory
pub data WhyUnopened : OpenFault → Type 0 where
  disk : WhyUnopened (opening.Slot slot.Disk)
  memory : WhyUnopened opening.NoMemory

pub why_refused : (t : choice.SlotTable) (m : Map) (b : Book) (file : List ℕ) (why : OpenFault)
    → OpensBy CLASSES SIZE_MAX t file m b → RefusesToOpen CLASSES file why → WhyUnopened why
why_refused t m b file (opening.Slot slot.Disk) o is = disk
why_refused t m b file opening.NoMemory o is = memory
why_refused t m b file (opening.Slot slot.Short) o is = absurd (let read = o.read in cc)
why_refused t m b file (opening.Slot slot.Unformatted) o is = absurd (let read = o.read in cc)
why_refused t m b file (opening.Slot slot.NoGate) o is = absurd (let read = o.read in cc)
why_refused t m b file (opening.Slot slot.SameSequence) o is = absurd (let read = o.read in cc)
why_refused t m b file (opening.Slot (slot.Codec f at)) o is = absurd (let read = o.read in cc)
why_refused t m b file (opening.Table broken) o is =
    absurd (opens_or_not file m b (opening.Table broken) (record { table = t; opens = o }) is)

-- a file that isn't opened for what its bytes show is never served
not_four : (why : OpenFault) → WhyUnopened why → status_of (stop_of why) ≡ NO_STORE → ⊥
not_four (opening.Slot slot.Disk) disk four = omega (arith, four)
not_four opening.NoMemory memory four = omega (arith, four)
not_four (opening.Slot slot.Short) none four = elim none [ ]
not_four (opening.Slot slot.Unformatted) none four = elim none [ ]
not_four (opening.Slot slot.NoGate) none four = elim none [ ]
not_four (opening.Slot slot.SameSequence) none four = elim none [ ]
not_four (opening.Slot (slot.Codec f at)) none four = elim none [ ]
not_four (opening.Table broken) none four = elim none [ ]

pub unopened_never : (file : List ℕ) (why : OpenFault) → RefusesToOpen CLASSES file why
    → status_of (stop_of why) ≡ NO_STORE → NeverServed file
unopened_never file why refused four m b opens =
    not_four why (why_refused opens.table m b file why opens.opens refused) four

-- a refusal that isn't the disk's changes nothing
pub refused_unchanged : (a b : State) (why : OpenFault) → status_of (stop_of why) ≡ NO_STORE
    → RefusesUnchanged a b why
    → Unchanged a b
refused_unchanged a b (opening.Slot slot.Disk) four is = absurd (omega (arith, four))
refused_unchanged a b (opening.Slot slot.Short) four is = is
refused_unchanged a b (opening.Slot slot.Unformatted) four is = is
refused_unchanged a b (opening.Slot slot.NoGate) four is = is
refused_unchanged a b (opening.Slot slot.SameSequence) four is = is
refused_unchanged a b (opening.Slot (slot.Codec f at)) four is = is
refused_unchanged a b (opening.Table broken) four is = is
refused_unchanged a b opening.NoMemory four is = is

-- a refusal ends a command as the first refusal of the file says
pub refuses : (file : List ℕ) (why : OpenFault) → RefusesToOpen CLASSES file why
    → EndsBy (IsRefused file) [] (Err (stop_of why))
refuses file (opening.Slot slot.Disk) is = inr refl
refuses file (opening.Slot slot.Short) is =
    (record { fault = opening.Slot slot.Short; first = (choice.too_short, is, refl); same = refl }, refl)
refuses file (opening.Slot slot.Unformatted) is = (
  record { fault = opening.Slot slot.Unformatted; first = (choice.unformatted, is, refl); same = refl },
  refl,
)
refuses file (opening.Slot slot.NoGate) is =
    (record { fault = opening.Slot slot.NoGate; first = (choice.no_gate, is, refl); same = refl }, refl)
refuses file (opening.Slot slot.SameSequence) is = (
  record { fault = opening.Slot slot.SameSequence; first = (choice.same_sequence, is, refl); same = refl },
  refl,
)
refuses file (opening.Slot (slot.Codec f at)) is = (
  record { fault = opening.Slot (slot.Codec f at); first = (choice.codec f at, is, refl); same = refl },
  refl,
)
refuses file (opening.Table broken) is =
    (record { fault = opening.Table broken; first = is; same = refl }, refl)
refuses file opening.NoMemory is = refl

-- the file that was mounted is the one that the call began with
pub never_mounted : (old first z : State) (why : OpenFault) → AfterMount old first
    → IsOpening CLASSES first z (Err why) → IsTrue old.tells → status_of (stop_of why) ≡ NO_STORE
    → NeverServed old.file
never_mounted old first z why mount opening told four = subst NeverServed (mount.same_file told)
    (unopened_never first.file why (opening.refused (mount.told ∙ told)) four)
