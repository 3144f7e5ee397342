-- How many bytes a file needs room for, and whether a change is served.
use Rattle.std.proofs.Common.{◌≡◌, ap, arith, refl, sym, Bool, true, false, ℕ, List}
use Rattle.std.specs.Prelude.{◌<◌, ◌≤◌, ◌^◌, ◌*◌, ◌&&◌, is_none, Option, Some, None, Ok, Err}
use Rattle.size_class.specs.declared.TheConstants.{CLASSES, SIZE_MAX}
use Rattle.size_class.proofs.ClassLaws.{power_rises}
use Rattle.map_model.specs.Requests as ask
use Rattle.map_model.specs.Requests.{Change}
use Rattle.store_model.specs.Sized.{object_size}
use Rattle.extent_table.specs.Extents.{volume_of}
use Rattle.store_model.specs.declared.answers.Refusal.{Refusal}
use Rattle.store_model.specs.Answers.{refused_by}
use Rattle.store_model.specs.Facts.{classes_in, widest_of}
use Rattle.store_model.proofs.FactsLaws.{classes_in-upto}
use Rattle.store_model.specs.Plans.{AcceptsName}
use Rattle.store_model.specs.Connection.{StoreValue}
use Rattle.store_model.specs.Stores.{IsStore}
use Rattle.lent_store.specs.Embedded.{Embedded}
use Rattle.lent_store.specs.Rooms.{is_short, lacks_room}
use Rattle.store_model.proofs.StoreLaws.{few_bytes}

module _ (s : StoreValue) (h : IsStore CLASSES s) where
  pub narrow : widest_of s.book.caps < 2 ^ 32
  narrow =
      let few : classes_in s.book.caps ≤ 27 = classes_in-upto s.book.caps 27 h.now.caps_full.zero_above in
      omega (arith, power_rises (classes_in s.book.caps) 27 few)

  pub low_volume : volume_of s.now ≤ 65536 * SIZE_MAX
  low_volume = omega (arith, few_bytes s h, h.block.names_high)

-- a change that is served, and one that isn't
served : (o : Option Refusal) (name got : List ℕ) → AcceptsName o name (Ok got) → is_none o ≡ true
served None name got is = refl
served (Some why) name got is = absurd (let e = is in cc)

unserved : (o : Option Refusal) (name : List ℕ) (why : Refusal) → AcceptsName o name (Err why)
    → is_none o ≡ false
unserved None name why is = absurd (let e = is in cc)
unserved (Some other) name why is = refl

-- so a change lacks room where it is served and short of it, and else it doesn't
pub served_lacks : (e : Embedded) (c : Change) (name got : List ℕ)
    → AcceptsName (refused_by e.store (ask.change c)) name (Ok got)
    → is_short e c.name (object_size c.object) ≡ lacks_room e c
served_lacks e c name got is = sym (ap (λ (b : Bool). b && is_short e c.name (object_size c.object))
    (served (refused_by e.store (ask.change c)) name got is))

pub unserved_lacks : (e : Embedded) (c : Change) (name : List ℕ) (why : Refusal)
    → AcceptsName (refused_by e.store (ask.change c)) name (Err why) → false ≡ lacks_room e c
unserved_lacks e c name why is = sym (ap (λ (b : Bool). b && is_short e c.name (object_size c.object))
    (unserved (refused_by e.store (ask.change c)) name why is))
