-- A layout holds the spots after a quiet change: a name that goes, a new name, and an object that is
-- replaced.
use Rattle.std.specs.Prelude.{◌≡◌, ℕ, ◌≤◌, true, false, List, None}
use Rattle.std.proofs.Common.{arith, sym, ◌∙◌, subst}
use Rattle.std.specs.FinMap as fin
use Rattle.slot_codec.specs.Names.{IsName}
use Rattle.map_model.proofs.MapLaws.{get-remove_here, insert-remove}
use Rattle.extent_table.specs.Extents.{Spots}
use Rattle.placement_model.specs.Below.{IsLaidBelow}
use Rattle.placement_model.specs.LaidOut.{IsLaidOut}
use Rattle.placement_model.specs.Quiet.{PlacedTo, QuietTo, gone_items}
use Rattle.placement_model.proofs.BelowLaws.{below_gone, below_new, laid_is_below}
use Rattle.placement_model.proofs.LaidOutLaws.{laid_from_below}

-- a layout that keeps the rules of all classes is settled
laid_of_below : (classes size_max k : ℕ) (caps : List ℕ) (grid : List (List ℕ)) (spots : Spots)
    → IsLaidBelow classes size_max k caps grid classes spots → IsLaidOut classes size_max k caps grid spots
laid_of_below classes size_max k caps grid spots h = laid_from_below classes size_max k caps grid spots h.few
    h.top h.caps_full h.grid_full h.named h.below

module _ (classes size_max k : ℕ) (caps : List ℕ) (grid : List (List ℕ)) (spots : Spots)
    (h : IsLaidOut classes size_max k caps grid spots) (name : List ℕ) where
  -- each class is below the last
  all_below : IsLaidBelow classes size_max k caps grid classes spots
  all_below = laid_is_below classes size_max k caps classes grid spots h (omega arith)

  -- A name goes, once what its object charges was charged.
  pub laid_gone : (after : List (List ℕ)) → QuietTo k caps grid (gone_items k caps (fin.get spots name)) after
      → IsLaidOut classes size_max k caps after (fin.remove spots name)
  laid_gone after q = subst (λ g. IsLaidOut classes size_max k caps g (fin.remove spots name))
      (sym q.after_is) (laid_of_below classes size_max k caps _ (fin.remove spots name)
      (below_gone classes size_max k caps classes grid spots all_below name
      (λ missed. absurd (let bad : true ≡ false = sym q.quiet ∙ missed in cc))))

  -- A new name joins, at the place that it was charged.
  pub laid_new : IsName name → fin.get spots name ≡ None → (size : ℕ) (after : List (List ℕ)) (place : ℕ)
      → size ≤ size_max → PlacedTo k caps grid size after place
      → IsLaidOut classes size_max k caps after
      (fin.insert spots name (record { place = place; size = size }))
  laid_new is new size after place small p = laid_of_below classes size_max k caps after
      (fin.insert spots name (record { place = place; size = size }))
      (below_new classes size_max k caps classes grid spots all_below name is new size after place small p)

-- An object is put, in place of the old one of its name or as a new one: what the old one charges first.
pub laid_put : (classes size_max k : ℕ) (caps : List ℕ) (grid : List (List ℕ)) (spots : Spots)
    → IsLaidOut classes size_max k caps grid spots → (name : List ℕ) → IsName name → (size : ℕ)
    (mid after : List (List ℕ)) (place : ℕ) → size ≤ size_max
    → QuietTo k caps grid (gone_items k caps (fin.get spots name)) mid → PlacedTo k caps mid size after place
    → IsLaidOut classes size_max k caps after (fin.insert spots name (record { place = place; size = size }))
laid_put classes size_max k caps grid spots h name is size mid after place small gone placed =
    subst (λ x. IsLaidOut classes size_max k caps after x)
    (insert-remove spots name (record { place = place; size = size }))
    (laid_new classes size_max k caps mid (fin.remove spots name)
    (laid_gone classes size_max k caps grid spots h name mid gone) name is
    (get-remove_here spots name) size after place small placed)
