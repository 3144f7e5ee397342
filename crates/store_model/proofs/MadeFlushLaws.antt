-- What the device calls of a flush made of a store, and the names after it with their sizes.
use Rattle.std.specs.Prelude.{◌≡◌, ℕ, ◌+◌, ◌^◌, ◌<◌, ◌≤◌, Bool, true, false, cond, List, ◌++◌, length, slice_index, Option, Some, None, is_some, option_map, IsTrue, refl}
use Rattle.std.proofs.Common.{arith, sym, ◌∙◌, ap, subst}
use Rattle.disk_face.specs.States as disk
use Rattle.slot_codec.specs.Names.{IsName}
use Rattle.logged_pair.specs.Slots.{used_in}
use Rattle.map_model.specs.Requests.{Change, changed}
use Rattle.segment_layout.specs.Books.{charge_all, item_of, some_size, volumes, volumes_of_sizes}
use Rattle.segment_layout.proofs.ShapeLaws.{caps-settled_above}
use Rattle.map_model.specs.Maps.{Map}
use Rattle.map_model.specs.Weights.{same_name}
use Rattle.map_model.proofs.MapLaws.{get-remove_here, insert-remove, name_order}
use Rattle.extent_table.specs.declared.spot.Spot.{Spot}
use Rattle.table_rules.specs.Tables.{sizes}
use Rattle.placement_model.specs.Quiet.{gone_items}
use Rattle.flush_model.specs.Plans.{class_total}
use Rattle.flush_run.proofs.LaidPlaceLaws.{new_cap}
use Rattle.placement_model.specs.Tried.{charged_by}
use Rattle.store_model.specs.Sized.{IsSizedBy, object_size}
use Rattle.store_model.proofs.SizedLaws.{sized_gone, sized_put, sized_volumes}
use Rattle.std.proofs.lemmas.Bool.{cond-false}
use Rattle.std.specs.FinMap as fin
use Rattle.extent_table.specs.Extents.{Spots, records_of}
use Rattle.flush_model.specs.Phases.{PlanState}
use Rattle.flush_run.specs.declared.hands.Hands.{Hands}
use Rattle.flush_run.specs.FlushFrames.{LeavesOldOrNew}
use Rattle.flush_run.specs.Parts.{HandsValue, parts_of, size_in}
use Rattle.store_model.specs.Connection.{IsOver, StoreValue}
use Rattle.store_model.specs.Flushes.{names_after, size_after}
use Rattle.store_model.specs.Flushing.{CanMakeFlush, HasMadeFlush, IsBegun, BeforeChange, bytes_of, flight_of, spots_after, lift_start}
use Rattle.store_model.specs.Inside.{Inside, IsWhole, kept_of}
use Rattle.store_model.specs.Quiet.{charges_of}

-- what the device calls of a flush made of a store's parts
pub record IsFlown {C : ℕ} (s : Inside C) (c : Change) (hands1 : Hands C) (p : PlanState) (place : ℕ)
    (bytes : List ℕ) (hands2 : Hands C) (a d : disk.State) : Type 0 where
  pub whole : IsWhole s
  pub unbroken : s.broken ≡ false
  pub begun : IsBegun C (parts_of s.hands) c (parts_of hands1) p place
  pub name : IsName c.name
  pub object : bytes_of c ≡ bytes
  pub fresh : (used_in s.hands.slots).sequence < 2 ^ 61
  pub over : IsTrue a.tells → IsOver C (kept_of s) a.file
  pub left : (x : HandsValue) (e : Change) (g : BeforeChange)
      → CanMakeFlush C x e g (parts_of hands1) (lift_start p place) bytes a
      → IsTrue a.tells → LeavesOldOrNew (flight_of C x e p.numbers.reach g)
      ((used_in hands2.slots).sequence + 1) a d
  pub made : HasMadeFlush p.numbers.boundary p.items a d (parts_of hands1) (parts_of hands2)

-- what a change charges, by the size of its object
item_is : (o : Option (List ℕ)) → some_size (object_size o) ≡ item_of o
item_is None = refl
item_is (Some object) = refl

pub same_charges : (s : StoreValue) (c : Change) → charged_by s.in_use.block.k s.book.caps s.book.grid
    (fin.get s.now c.name) (object_size c.object) ≡ charges_of s c
same_charges s c = ap (λ (xs : List ℕ). charge_all s.in_use.block.k s.book.caps s.book.grid
    (gone_items s.in_use.block.k s.book.caps (fin.get s.now c.name) ++ xs)) (item_is c.object)

-- the items of a class from the boundary on have as many bytes as the objects of the map after
pub sized_after : (m : Map) (spots : Spots) (c : Change) (place : ℕ) → IsSizedBy m spots
    → IsSizedBy (changed c m) (spots_after c spots place)
sized_after m spots c place sized = by c.object
  where
    by : (o : Option (List ℕ)) → IsSizedBy (changed (record { name = c.name; object = o }) m)
        (spots_after (record { name = c.name; object = o }) spots place)
    by None = sized_gone m spots c.name sized
    by (Some object) = sized_put m spots c.name object (record { place = place; size = length object }) refl
        sized

pub items_total : {classes : ℕ} {x0 : HandsValue} {c : Change} {g : BeforeChange} {x : HandsValue} {p :
    PlanState} {place : ℕ}
    {bytes : List ℕ} {a : disk.State} → CanMakeFlush classes x0 c g x (lift_start p place) bytes a → (m : Map)
    → IsSizedBy m x0.table.now → (q : ℕ) → p.numbers.boundary ≤ q
    → class_total p.items q ≡ slice_index (volumes (changed c m)) q
items_total {classes} {x0} {c} {g} {x} {p} {place} can m sized q high =
    let f = flight_of classes x0 c p.numbers.reach g in
    let h = (can.begun.lifts g can.sized).hands in
    let live = volumes_of_sizes (sizes (records_of x.table.now)) in
    sym (new_cap f x.in_use x.table x.caps x.grid x.spans p h q high)
    ∙ caps-settled_above p.numbers.boundary q x.caps live h.caps_full.full (omega (arith, h.boundary, h.few))
    high
    ∙ ap (λ (xs : List ℕ). slice_index xs q) (sym (sized_volumes (changed c m) x.table.now
    (subst (IsSizedBy (changed c m)) (sym can.begun.now) (sized_after m x0.table.now c place sized))
    can.begun.table.now_named))

-- ---- the names after a change, and the sizes of their objects

module _ (s : StoreValue) (c : Change) (place : ℕ) where
  pub len_after : fin.len (spots_after c s.now place) ≡ names_after s c
  len_after = by c.object
    where
      by : (o : Option (List ℕ)) → fin.len (spots_after (record { name = c.name; object = o }) s.now place)
          ≡ names_after s (record { name = c.name; object = o })
      by None = refl
      by (Some object) =
          let r = fin.remove s.now c.name in
          let spot : Spot = record { place = place; size = length object } in
          ap (λ (m : Spots). fin.len m) (sym (insert-remove s.now c.name spot))
          ∙ fin.len-insert name_order r c.name spot
          ∙ cond-false (fin.contains_key r c.name) (fin.len r) (fin.len r + 1)
          (ap is_some (get-remove_here s.now c.name))

  pub sizes_after : (q : List ℕ) → size_in (spots_after c s.now place) q ≡ size_after s c q
  sizes_after q = by c.object
    where
      cut : (b : Bool) (o : Option Spot) → option_map (λ (x : Spot). x.size) (cond b None o)
          ≡ cond b None (option_map (λ (x : Spot). x.size) o)
      cut true o = refl
      cut false o = refl

      set : (b : Bool) (x : Spot) (o : Option Spot) → option_map (λ (x : Spot). x.size) (cond b (Some x) o)
          ≡ cond b (Some x.size) (option_map (λ (x : Spot). x.size) o)
      set true x o = refl
      set false x o = refl

      by : (o : Option (List ℕ)) → size_in (spots_after (record { name = c.name; object = o }) s.now place) q
          ≡ size_after s (record { name = c.name; object = o }) q
      by None = ap (option_map (λ (x : Spot). x.size)) (fin.get-remove name_order s.now c.name q)
          ∙ cut (same_name q c.name) (fin.get s.now q)
      by (Some object) =
          let spot : Spot = record { place = place; size = length object } in
          ap (option_map (λ (x : Spot). x.size)) (fin.get-insert name_order s.now c.name spot q)
          ∙ set (same_name q c.name) spot (fin.get s.now q)
