-- A file that opens isn't refused, nor one that is read; and the statuses of one that isn't opened.
use Rattle.std.specs.Prelude.{◌≡◌, ◌≢◌, ◌⊎◌, ℕ, Bool, false, List, refl, ◌≤◌}
use Rattle.std.proofs.Common.{arith, sym, ◌∙◌, subst, inl, inr}
use Rattle.size_class.specs.declared.TheConstants.{CLASSES, SIZE_MAX}
use Rattle.slot_codec.specs.Choice as choice
use Rattle.slot_codec.proofs.StepLaws.{from_ok}
use Rattle.slot_pair.specs.declared.find.SlotFault.TheVariants as slot
use Rattle.map_model.specs.Maps.{Map}
use Rattle.segment_layout.specs.Books.{Book}
use Rattle.table_rules.specs.Opening.{Opens, OpensIn, placed_table}
use Rattle.table_rules.specs.Rules.{FirstBroken}
use Rattle.table_rules.proofs.FirstLaws.{valid_breaks_none}
use Rattle.reopen.specs.declared.fault.OpenFault.{OpenFault}
use Rattle.reopen.specs.declared.fault.OpenFault.TheVariants as opening
use Rattle.disk_face.specs.States.{State}
use Rattle.disk_face.specs.Frames.{AfterMount, Untouched}
use Rattle.disk_face.proofs.MomentLaws.{Leaves-call}
use Rattle.command_face.specs.declared.status.TheConstants.{DISK_FAILED, NO_MEMORY, NO_STORE}
use Rattle.command_face.specs.Refusing.{IsFirstRefusal, IsFirstRefusalIn, stop_of}
use Rattle.command_face.specs.Outcomes.{status_of}

-- a file that opens, or is read, isn't refused as it would be then
pub read_or_not : (logged : Bool) (t : choice.SlotTable) (file : List ℕ) (m : Map) (b : Book) (f : OpenFault)
    → OpensIn logged CLASSES SIZE_MAX t file m b → IsFirstRefusalIn logged file f → ⊥
read_or_not logged t file m b (opening.Slot f) o (r, a, is_f) = let read = o.read in absurd (cc)
read_or_not logged t file m b (opening.Table x) o h =
    let same : h.table ≡ t = from_ok h.table t (sym h.read ∙ o.read) in
    valid_breaks_none (placed_table CLASSES SIZE_MAX file t) x.rule x.at o.valid
    (subst (λ u. FirstBroken (placed_table CLASSES SIZE_MAX file u) x.rule x.at) same h.first)
read_or_not logged t file m b opening.NoMemory o is = is

pub opens_or_not : (file : List ℕ) (m : Map) (b : Book) (f : OpenFault) → Opens CLASSES SIZE_MAX file m b
    → IsFirstRefusal file f → ⊥
opens_or_not file m b f o is = read_or_not false o.table file m b f o.opens is

-- the status of a file that isn't opened
pub status_unopened : (why : OpenFault)
    → (status_of (stop_of why) ≡ NO_STORE) ⊎ (status_of (stop_of why) ≡ DISK_FAILED)
    ⊎ (status_of (stop_of why) ≡ NO_MEMORY)
status_unopened (opening.Slot slot.Disk) = inr (inl refl)
status_unopened (opening.Slot slot.Short) = inl refl
status_unopened (opening.Slot slot.Unformatted) = inl refl
status_unopened (opening.Slot slot.NoGate) = inl refl
status_unopened (opening.Slot slot.SameSequence) = inl refl
status_unopened (opening.Slot (slot.Codec f at)) = inl refl
status_unopened (opening.Table broken) = inl refl
status_unopened opening.NoMemory = inr (inr refl)

pub not_status : (why : OpenFault) (n : ℕ) → n ≢ NO_STORE → n ≢ DISK_FAILED → n ≢ NO_MEMORY
    → status_of (stop_of why) ≢ n
not_status why n four seven ten is = elim (status_unopened why) as (λ _. ⊥) [
  | inl x ↦ four (sym is ∙ x)
  | inr rest ↦ elim rest as (λ _. ⊥) [ inl x ↦ seven (sym is ∙ x) | inr x ↦ ten (sym is ∙ x) ]
]

pub disk_by : (why : OpenFault) → status_of (stop_of why) ≡ DISK_FAILED → why ≡ opening.Slot slot.Disk
disk_by (opening.Slot slot.Disk) is = refl
disk_by (opening.Slot slot.Short) is = absurd (omega (arith, is))
disk_by (opening.Slot slot.Unformatted) is = absurd (omega (arith, is))
disk_by (opening.Slot slot.NoGate) is = absurd (omega (arith, is))
disk_by (opening.Slot slot.SameSequence) is = absurd (omega (arith, is))
disk_by (opening.Slot (slot.Codec f at)) is = absurd (omega (arith, is))
disk_by (opening.Table broken) is = absurd (omega (arith, is))
disk_by opening.NoMemory is = absurd (omega (arith, is))

-- a file that was only mounted
pub mount_untouched : (a b : State) → AfterMount a b → a.faults ≤ b.faults → Untouched a b
mount_untouched a b mount later = record {
  same_file = mount.same_file;
  images = mount.images;
  since = Leaves-call a.may_leave mount.time mount.images;
  same_turn = mount.same_turn;
  later = later;
  told = mount.told;
  images_told = mount.images_told;
}
