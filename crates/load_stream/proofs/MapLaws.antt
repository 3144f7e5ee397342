-- What a file gives at the spots of the objects that were put is these objects.
use Rattle.std.specs.Prelude.{◌≡◌, ◌⊎◌, ℕ, ◌+◌, ◌<◌, ◌≤◌, List, [], ◌∷◌, ◌++◌, length, slice_index, Option, Some, None, option_map, refl}
use Rattle.std.proofs.Common.{arith, ap, sym, ◌∙◌, inl, inr}
use Rattle.std.proofs.lemmas.Bool.{cases_lt}
use Rattle.std.proofs.lemmas.List.{take_all}
use Rattle.std.specs.Ordering.{ordering_reverse}
use Rattle.std.specs.FinMap as fin
use Rattle.byte_ranges.specs.Ranges.{overwritten}
use Rattle.size_class.specs.Classes.{class_of, width}
use Rattle.size_class.proofs.ClassLaws.{class_below}
use Rattle.map_model.proofs.MapLaws.{name_order}
use Rattle.map_model.specs.Weights.{Entry}
use Rattle.segment_layout.specs.Shapes.{end_of, start_of}
use Rattle.extent_table.specs.declared.spot.Spot.{Spot}
use Rattle.extent_table.specs.Extents.{Spots}
use Rattle.placement_model.specs.Reads.{AllLieApart, EndWithin, object_at, read_at}
use Rattle.placement_model.proofs.OrderLaws.{behind_all, entries-push}
use Rattle.placement_model.proofs.ReadLaws.{get-read_at, read_at-put}
use Rattle.segment_layout.proofs.ShapeLaws.{start_of-rises}
use Rattle.dump_stream.specs.Loading.{MayFollow, last_name}
use Rattle.dump_stream.specs.Placing.{IsPlacing, spot_after}
use Rattle.load_stream.proofs.PlaceLaws.{apart_new, ends, place_none}

some_of : (f : Spot → List ℕ) (o : Option Spot) (w : List ℕ) → option_map f o ≡ Some w
    → (s : Spot) × (o ≡ Some s)
some_of f None w is = absurd (cc)
some_of f (Some s) w is = (s, refl)

module _ (size_max k : ℕ) (volumes : List ℕ) (wide : length volumes ≡ width) (base : ℕ) (file : List ℕ)
    (long : base + end_of k volumes ≤ length file) where
  -- a segment lies within the file
  segment_ends : (c : ℕ) → c < width → start_of k volumes c + slice_index volumes c ≤ end_of k volumes
  segment_ends c low = omega (
    arith,
    start_of-rises k volumes c width low (omega (arith, wide)),
    ap (end_of k) (take_all width volumes (omega (arith, wide))),
  )

  module _ (es : List Entry) (spots : Spots) (h : IsPlacing size_max k volumes es spots) where
    pub spots_within : EndWithin base file spots
    spots_within q s there = elim (cases_lt 0 s.size) [
      | inr none ↦ omega (arith, none, h.empty q s there (omega (arith, none)), long)
      | inl some ↦ omega (
        arith,
        (h.within q s there some).1,
        h.room (class_of s.size),
        segment_ends (class_of s.size) (class_below s.size),
        long,
      )
    ]

    module _ (e : Entry) (may : MayFollow size_max volumes es e)
        (reads : fin.entries (read_at base file spots) ≡ es) where
      abbrev spot : Spot
      spot = spot_after k volumes es (length e.1)

      fits : base + spot.place + length e.1 ≤ length file
      fits = elim (cases_lt 0 (length e.1)) [
        | inr none ↦ omega (
          arith,
          none,
          place_none size_max k volumes wide es spots h e may (omega (arith, none)),
          long,
        )
        | inl some ↦ omega (
          arith,
          ends size_max k volumes wide es spots h e may some,
          segment_ends (class_of (length e.1)) (class_below (length e.1)),
          long,
        )
      ]

      lie_apart : AllLieApart spot.place (length e.1) spots
      lie_apart q s there = elim (apart_new size_max k volumes wide es spots h e may q s there)
          as (λ _. (s.place + s.size ≤ spot.place) ⊎ (spot.place + length e.1 ≤ s.place)) [
            | inl none ↦ inr (omega (
              arith,
              none,
              place_none size_max k volumes wide es spots h e may (omega (arith, none)),
            ))
            | inr (inl nothing) ↦ inl (omega (arith, nothing, h.empty q s there (omega (arith, nothing))))
            | inr (inr (inl before)) ↦ inr (omega (arith, before))
            | inr (inr (inr behind)) ↦ inl (omega (arith, behind))
          ]

      -- with one object more the file gives one object more
      pub objects_read : fin.entries (read_at base (overwritten file (base + spot.place) e.1)
          (fin.insert spots e.0 spot)) ≡ es ++ e ∷ []
      objects_read =
          ap fin.entries (read_at-put base spot.place file e.1 spots e.0 h.named may.named fits spots_within
          lie_apart)
          ∙ entries-push (read_at base file spots) e.0 e.1 (λ q w there.
          let s = some_of (object_at base file) (fin.get spots q) w
          (sym (get-read_at base file spots h.named q) ∙ there) in
          name_order.antisymm e.0 q ∙ ap ordering_reverse
          (behind_all (last_name es) spots e.0 h.upto may.rises q s.0 s.1))
          ∙ ap (λ xs. xs ++ e ∷ []) reads
