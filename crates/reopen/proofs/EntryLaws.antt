-- The parts of an entry, taken one after another.
use Rattle.std.proofs.Common.{◌≡◌, ℕ, zero, suc, ◌*◌, ◌≤◌, List, [], ◌∷◌, drop, length, Some, IsTrue, refl, ap, sym, ◌∙◌, subst, arith}
use Rattle.std.specs.List.{slice_get}
use Rattle.byte_ranges.specs.Lists.{◌>>=◌}
use Rattle.disk_face.specs.Frames.{Unchanged}
use Rattle.disk_face.specs.States.{State}
use Rattle.disk_face.proofs.FrameLaws.{Unchanged-trans, unchanged_itself}
use Rattle.slot_codec.specs.declared.codec.Header.{Header}
use Rattle.slot_codec.specs.declared.entry.EntryHead.{EntryHead}
use Rattle.slot_codec.proofs.StepLaws.{bind_from}
use Rattle.slot_pair.specs.Finding.{Refuses}
use Rattle.slot_pair.specs.declared.find.SlotFault.{SlotFault}
use Rattle.slot_pair.proofs.RefusalLaws.{refuses_on}
use Rattle.extent_table.specs.Extents.{Extents}
use Rattle.reopen.specs.Entries.{IsOrderly, first_of, parts_of, read_parts}
use Rattle.reopen.specs.Items.{KeepsMaking, Passing, Stands, Taken, item_len, may_be_over, read_part}
use Rattle.reopen.specs.declared.items.Items.{Items}
use Rattle.reopen.specs.declared.items.Part.{Part}
use Rattle.reopen.specs.declared.items.Part.TheVariants as part
use Rattle.reopen.specs.declared.items.Progress.{Progress}
use Rattle.reopen.proofs.ItemLaws.{keeps_nothing, keeps_on}

pub parts_orderly : (h : EntryHead) (at : ℕ) → IsOrderly (parts_of h at)
parts_orderly h at zero is = refl
parts_orderly h at (suc zero) is = refl
parts_orderly h at (suc (suc zero)) is = refl
parts_orderly h at (suc (suc (suc zero))) is = absurd (cc)
parts_orderly h at (suc (suc (suc (suc zero)))) is = absurd (cc)
parts_orderly h at (suc (suc (suc (suc (suc k))))) is = absurd (cc)

drop_here : {A : Type 0} (xs : List A) (k : ℕ) (x : A) → slice_get xs k ≡ Some x
    → drop k xs ≡ x ∷ drop (suc k) xs
drop_here [] k x is = absurd (cc)
drop_here (y ∷ ys) zero x is = search is
drop_here (y ∷ ys) (suc k) x is = drop_here ys k x is

-- what is still to be read begins with part k
pub record Through (parts : List Items) (cap k : ℕ) (p : Passing) (now : Progress) (header : Header)
    (new : Extents) (file : List ℕ) : Type 0
  where
    pub passing : Passing
    pub read : read_parts parts file p ≡ read_parts (drop k parts) file passing
    pub stands : Stands (first_of (drop k parts)) cap passing now header new

-- Of the parts that stand on a disk the first k were taken.
pub record PartsThrough (parts : List Items) (cap k : ℕ) (progress now : Progress) (before header : Header)
    (old new : Extents) (first later : State) : Type 0
  where
    pub keeps : KeepsMaking cap before header old new
    pub taken : IsTrue first.tells → (p : Passing) → Stands (first_of parts) cap p progress before old
        → Through parts cap k p now header new first.file
    pub frame : Unchanged first later
    pub calm : later.faults ≡ first.faults

pub through_none : (parts : List Items) (cap : ℕ) (progress : Progress) (header : Header) (load : Extents)
    (d : State) → IsTrue d.is_ready → PartsThrough parts cap 0 progress progress header header load load d d
through_none parts cap progress header load d ready = record {
  keeps = keeps_nothing cap header load;
  taken = λ told p stands. record { passing = p; read = refl; stands = stands };
  frame = unchanged_itself d ready;
  calm = refl;
}

-- where a part stands that comes next
stands_at : (parts : List Items) (cap k : ℕ) (x : Items) (p : Passing) (progress : Progress) (header : Header)
    (load : Extents) → slice_get parts k ≡ Some x → Stands (first_of (drop k parts)) cap p progress header
    load
    → Stands x.part cap p progress header load
stands_at parts cap k x p progress header load is stands =
    subst (λ xs. Stands (first_of xs) cap p progress header load) (drop_here parts k x is) stands

stands_behind : (parts : List Items) (cap k : ℕ) (x : Items) (p : Passing) (progress : Progress)
    (header : Header) (load : Extents) → IsOrderly parts → slice_get parts k ≡ Some x
    → Stands x.part cap p progress header load
    → Stands (first_of (drop (suc k) parts)) cap p progress header load
stands_behind parts cap k x p progress header load orderly is stands = record {
  at_cell = stands.at_cell;
  rows = stands.rows;
  clear = λ later. stands.clear
      (ap (λ xs. may_be_over (first_of xs)) (sym (drop_here parts k x is)) ∙ orderly k later);
}

pub through_more : (parts : List Items) (cap k : ℕ) (x : Items) (start progress now : Progress)
    (before header after : Header) (old load new : Extents) (first current next : State) → IsOrderly parts
    → slice_get parts k ≡ Some x
    → PartsThrough parts cap k start progress before header old load first current
    → KeepsMaking cap header after load new
    → (IsTrue current.tells → (p : Passing) → Stands x.part cap p progress header load
    → Taken x.part cap (read_part x current.file p) now after new)
    → Unchanged current next → next.faults ≡ current.faults
    → PartsThrough parts cap (suc k) start now before after old new first next
through_more parts cap k x start progress now before header after old load new first current next orderly is t
    keeps
    taken
    frame calm =
    record {
      keeps = keeps_on cap before header after old load new t.keeps keeps;
      taken = λ told p stands.
          let told' : IsTrue current.tells = subst IsTrue (sym t.frame.stays.told) told in
          let was = t.taken told p stands in
          let one = taken told' was.passing
          (stands_at parts cap k x was.passing progress header load is was.stands) in
          record {
            passing = one.passing;
            read = was.read
                ∙ ap (λ xs. read_parts xs first.file was.passing) (drop_here parts k x is)
                ∙ ap (λ file. read_part x file was.passing
                >>= λ q. read_parts (drop (suc k) parts) first.file q) (sym (t.frame.same_file told))
                ∙ bind_from (read_part x current.file was.passing)
                (λ q. read_parts (drop (suc k) parts) first.file q) one.passing one.read;
            stands = stands_behind parts cap k x one.passing now after new orderly is one.stands;
          };
      frame = Unchanged-trans t.frame frame;
      calm = calm ∙ t.calm;
    }

-- a part is refused
pub through_bad : (parts : List Items) (cap k : ℕ) (x : Items) (start progress : Progress)
    (before header : Header) (old load : Extents) (first current : State) (why : SlotFault)
    → slice_get parts k ≡ Some x
    → PartsThrough parts cap k start progress before header old load first current
    → (IsTrue current.tells → (p : Passing) → Stands x.part cap p progress header load
    → Refuses (read_part x current.file p) why)
    → IsTrue first.tells → (p : Passing) → Stands (first_of parts) cap p start before old
    → Refuses (read_parts parts first.file p) why
through_bad parts cap k x start progress before header old load first current why is t refused told p stands =
    let told' : IsTrue current.tells = subst IsTrue (sym t.frame.stays.told) told in
    let was = t.taken told p stands in
    let here = subst (λ file. Refuses (read_part x file was.passing) why) (t.frame.same_file told)
    (refused told' was.passing (stands_at parts cap k x was.passing progress header load is was.stands)) in
    subst (λ r. Refuses r why)
    (sym (was.read ∙ ap (λ xs. read_parts xs first.file was.passing) (drop_here parts k x is)))
    (refuses_on (read_part x first.file was.passing)
    (λ q. read_parts (drop (suc k) parts) first.file q) why here)

drop_all : {A : Type 0} (xs : List A) (k : ℕ) → length xs ≤ k → drop k xs ≡ []
drop_all [] zero past = refl
drop_all [] (suc k) past = refl
drop_all (x ∷ xs) zero past = absurd (omega (arith, past))
drop_all (x ∷ xs) (suc k) past = drop_all xs k (omega (arith, past))

-- all parts were taken
pub through_all : (parts : List Items) (cap k : ℕ) (start progress : Progress) (before header : Header)
    (old load : Extents) (first current : State) → length parts ≤ k
    → PartsThrough parts cap k start progress before header old load first current
    → IsTrue first.tells → (p : Passing) → Stands (first_of parts) cap p start before old
    → Taken part.Gap cap (read_parts parts first.file p) progress header load
through_all parts cap k start progress before header old load first current past t told p stands =
    let was = t.taken told p stands in
    let none = drop_all parts k past in
    record {
      passing = was.passing;
      read = was.read ∙ ap (λ xs. read_parts xs first.file was.passing) none;
      stands = subst (λ xs. Stands (first_of xs) cap was.passing progress header load) none was.stands;
    }

-- the buffer has room for a piece of any part
pub room_for_items : (p : Part) (n : ℕ) → 112 * 512 ≤ n → item_len p * 512 ≤ n
room_for_items part.Cells n h = omega (arith, h)
room_for_items part.Moved n h = omega (arith, h)
room_for_items part.Gone n h = omega (arith, h)
room_for_items part.Puts n h = omega (arith, h)
room_for_items part.Gap n h = omega (arith, h)
