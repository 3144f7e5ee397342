-- What the code finds of a rank is what the changes of the table say there.
use Rattle.std.proofs.Common.{◌≡◌, ℕ, ◌<◌, cond, List, length, get_or, Option, Some, None, IsSome, is_some, option_map, refl, ap, sym, subst, ◌∙◌, zero}
use Rattle.std.specs.List.{slice_get}
use Rattle.std.specs.FinMap as fin
use Rattle.slot_codec.specs.Changes.Change.{same, moved, gone, put}
use Rattle.slot_codec.specs.Rows.{rows_of}
use Rattle.slot_codec.specs.declared.codec.Record.{Record}
use Rattle.extent_table.specs.declared.spot.Spot.{Spot}
use Rattle.extent_table.specs.declared.table.Table.TheInside.{Inside}
use Rattle.extent_table.specs.Deltas.{kept_change, kept_changes, new_change, new_changes, now_rolled}
use Rattle.extent_table.specs.Extents.{IsTable, digest_or_zeros, record_of, rolled}
use Rattle.extent_table.specs.Inside.{IsWellKept, extents_of}
use Rattle.extent_table.specs.Parts.{Slots, IsSound, at, digest_in, kept_of, name_of, now_of, spot_at, spot_or_zero, spots_of}
use Rattle.extent_table.specs.Told.{is_kept_at, is_moved_at}
use Rattle.extent_table.proofs.DeltaLaws.{kept_rank, new_rank, rolled-rank, row_in}
use Rattle.extent_table.proofs.FoundLemmas.{Found, found_nth, get_found, kept_found, map_found, none_of, some_key, some_value}
use Rattle.extent_table.proofs.RollLaws.{digest_stays}
use Rattle.extent_table.proofs.SideLemmas.{get_place, some_of_kept, some_of_now}
use Rattle.extent_table.proofs.TableLemmas.{nth_entry, table}

-- where the object of a kept name stands now
pub now_found : {names : ℕ} {s : Slots} {order kept_order : List ℕ} {name : List ℕ} {key : ℕ}
    → IsSound names s order kept_order → Found kept_of s kept_order name key
    → fin.get (spots_of now_of s order) name ≡ now_of (at s key)
now_found {names} {s} {order} {kept_order} {name} {key} sound f =
    by_side (now_of (at s key)) refl (some_of_kept (at s key) (some_key sound.kept f))
  where
    by_side : (x : Option Spot) → now_of (at s key) ≡ x → IsSome (at s key)
        → fin.get (spots_of now_of s order) name ≡ now_of (at s key)
    by_side (Some v) is there =
        let p = sound.now.whole key (rw is refl) in
        let g : Found now_of s order name key =
        record { place = p.0; within = p.1; here = p.2; named = f.named } in
        get_found sound.now g
    by_side None is there =
        none_of (fin.get (spots_of now_of s order) name) (λ some.
        let v = some_value (fin.get (spots_of now_of s order) name) some in
        let p = get_place sound.now (spot_at now_of s) name v.0 v.1 in
        let stands = sound.now.here p.0 p.1 in
        let same : get_or order p.0 0
        ≡ key = sound.entries.one (get_or order p.0 0) key
        (some_of_now (at s (get_or order p.0 0)) stands) there (p.2 ∙ sym f.named) in
        let now = subst (λ k. IsSome (now_of (at s k))) same stands in
        let none = rw is at now in
        cc) ∙ sym is

-- the record of a key on one side
abbrev pub row_at_key : List ℕ → Spot → List (List ℕ) → ℕ → Record
row_at_key name s digests key =
    record { name = name; place = s.place; size = s.size; digest = digest_in digests key }

module _ (t : Inside) (h : IsWellKept t) where
  abbrev slots : Slots
  slots = t.entries.slots

  pub is_table : IsTable (extents_of t)
  is_table = table h.sound h.room.limit h.cap h.digests h.kept_digests

  kept_row : (name : List ℕ) (key : ℕ) (s : Spot) → Found kept_of slots t.kept_order.items name key
      → row_in (extents_of t).kept_digests name s ≡ row_at_key name s t.kept_digests.items key
  kept_row name key s f =
      ap (λ d. record (record_of (name, s)) { digest = d })
      (ap digest_or_zeros (map_found h.sound.kept f (digest_in t.kept_digests.items))
      ∙ digest_stays (digest_in t.kept_digests.items key) (h.kept_digests.long key))

  now_row : (name : List ℕ) (key : ℕ) (s : Spot) → Found now_of slots t.order.items name key
      → row_in (extents_of t).digests name s ≡ row_at_key name s t.digests.items key
  now_row name key s f =
      ap (λ d. record (record_of (name, s)) { digest = d })
      (ap digest_or_zeros (map_found h.sound.now f (digest_in t.digests.items))
      ∙ digest_stays (digest_in t.digests.items key) (h.digests.long key))

  -- the key of a kept rank
  module _ {n key : ℕ} (within : n < length t.kept_order.items)
      (read : key ≡ get_or t.kept_order.items n key) where
    abbrev kept_there : Found kept_of slots t.kept_order.items (name_of (at slots key)) key
    kept_there = found_nth kept_of slots within read

    pub was_kept : IsSome (kept_of (at slots key))
    was_kept = some_key h.sound.kept kept_there

    pub kept_is_there : IsSome (at slots key)
    kept_is_there = some_of_kept (at slots key) was_kept

    told_kept : (was : Spot) → kept_of (at slots key) ≡ Some was
        → slice_get (kept_changes (rows_of (now_rolled (extents_of t))) zero
        (rolled (extents_of t).kept (extents_of t).kept_digests)) n
        ≡ Some (kept_change n (row_at_key (name_of (at slots key)) was t.kept_digests.items key)
        (option_map (row_in (extents_of t).digests (name_of (at slots key))) (now_of (at slots key))))
    told_kept was kept =
        let e = extents_of t in
        let name = name_of (at slots key) in
        let here = kept_there.here in
        kept_rank e is_table n name was
        (nth_entry h.sound.kept n within
        ∙ (λ i. Some (name_of (at slots (here i)), spot_at kept_of slots (here i)))
        ∙ ap (λ o. Some (name, spot_or_zero o)) kept)
        ∙ ap (λ r. Some (kept_change n r (option_map (row_in e.digests name) (fin.get e.now name))))
        (kept_row name key was kept_there)
        ∙ ap (λ o. Some (kept_change n (row_at_key name was t.kept_digests.items key)
        (option_map (row_in e.digests name) o))) (now_found h.sound kept_there)

    -- a kept name that is gone
    pub told_gone : now_of (at slots key) ≡ None
        → slice_get (kept_changes (rows_of (now_rolled (extents_of t))) zero
        (rolled (extents_of t).kept (extents_of t).kept_digests)) n ≡ Some (gone (name_of (at slots key)))
    told_gone none =
        let v = some_value (kept_of (at slots key)) was_kept in
        told_kept v.0 v.1
        ∙ ap (λ o. Some (kept_change n (row_at_key (name_of (at slots key)) v.0 t.kept_digests.items key)
        (option_map (row_in (extents_of t).digests (name_of (at slots key))) o))) none

    -- and one that stands
    pub told_still : (was is : Spot) → kept_of (at slots key) ≡ Some was → now_of (at slots key) ≡ Some is
        → slice_get (kept_changes (rows_of (now_rolled (extents_of t))) zero
        (rolled (extents_of t).kept (extents_of t).kept_digests)) n
        ≡ Some (cond (is_moved_at key was is t.kept_digests.items t.digests.items) (moved n is.place) same)
    told_still was is kept now =
        let name = name_of (at slots key) in
        let p = h.sound.now.whole key (ap is_some now) in
        let f : Found now_of slots t.order.items name key =
        record { place = p.0; within = p.1; here = p.2; named = refl } in
        told_kept was kept
        ∙ ap (λ o. Some (kept_change n (row_at_key name was t.kept_digests.items key)
        (option_map (row_in (extents_of t).digests name) o))) now
        ∙ ap (λ r. Some (kept_change n (row_at_key name was t.kept_digests.items key) (Some r)))
        (now_row name key is f)

  -- the key of a rank of now
  module _ {n key : ℕ} (within : n < length t.order.items) (read : key ≡ get_or t.order.items n key) where
    abbrev now_there : Found now_of slots t.order.items (name_of (at slots key)) key
    now_there = found_nth now_of slots within read

    pub stands_now : IsSome (now_of (at slots key))
    stands_now = some_key h.sound.now now_there

    pub now_is_there : IsSome (at slots key)
    now_is_there = some_of_now (at slots key) stands_now

    by_kept : (x : Option Spot) → kept_of (at slots key) ≡ x → (is : Spot)
        → new_change (option_map (row_in (extents_of t).kept_digests (name_of (at slots key))) x)
        (row_at_key (name_of (at slots key)) is t.digests.items key)
        ≡ cond (is_kept_at key x is t.kept_digests.items t.digests.items) same
        (put (row_at_key (name_of (at slots key)) is t.digests.items key))
    by_kept None kept is = refl
    by_kept (Some was) kept is =
        let name = name_of (at slots key) in
        let p = h.sound.kept.whole key (ap is_some kept) in
        let f : Found kept_of slots t.kept_order.items name key =
        record { place = p.0; within = p.1; here = p.2; named = refl } in
        ap (λ r. new_change (Some r) (row_at_key name is t.digests.items key)) (kept_row name key was f)

    now_entry : (is : Spot) → now_of (at slots key) ≡ Some is
        → slice_get (fin.entries (extents_of t).now) n ≡ Some (name_of (at slots key), is)
    now_entry is now =
        let here = now_there.here in
        nth_entry h.sound.now n within
        ∙ (λ i. Some (name_of (at slots (here i)), spot_at now_of slots (here i)))
        ∙ ap (λ o. Some (name_of (at slots key), spot_or_zero o)) now

    -- a live name
    pub told_new : (is : Spot) → now_of (at slots key) ≡ Some is
        → slice_get (new_changes (rows_of (rolled (extents_of t).kept (extents_of t).kept_digests))
        (now_rolled (extents_of t))) n
        ≡ Some (cond (is_kept_at key (kept_of (at slots key)) is t.kept_digests.items t.digests.items) same
        (put (row_at_key (name_of (at slots key)) is t.digests.items key)))
    told_new is now =
        let e = extents_of t in
        let name = name_of (at slots key) in
        new_rank e is_table n name is (now_entry is now)
        ∙ (λ i. Some (new_change (option_map (row_in e.kept_digests name) (kept_found h.sound now_there i))
        (now_row name key is now_there i)))
        ∙ ap Some (by_kept (kept_of (at slots key)) refl is)

    -- and its record
    pub told_row : (is : Spot) → now_of (at slots key) ≡ Some is
        → slice_get (rolled (extents_of t).now (extents_of t).digests) n
        ≡ Some (row_at_key (name_of (at slots key)) is t.digests.items key)
    told_row is now =
        rolled-rank (extents_of t).now (extents_of t).digests is_table.now_named n
        (name_of (at slots key), is) (now_entry is now)
        ∙ ap Some (now_row (name_of (at slots key)) key is now_there)
